-- `roles::scan_kinds` meets its contract: the roles so far are those of the kinds so far.
-- Assumes nothing.
use mathlib.Core.Path.{◌≡◌}
use lib.ListN.{get_or, take}
use Rattle.roles.specs.Roles.{superseded, role_of_kind, tabulate}
use Rattle.roles.proofs.scan_kinds.Given as goal

abbrev pub invariant-loop-place : goal.invariant-loop-place
invariant-loop-place l = take l.place l.roles ≡ tabulate (λ b. role_of_kind (get_or l.kinds b 0) superseded) l.place
