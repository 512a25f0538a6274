-- `roles::scan_kinds` meets its contract: the roles so far are those of the kinds so far.
-- Assumes nothing.
use Prim.Native.Nat.{ℕ}
use native.Mathlib.Numerals.{add-one}
use native.Mathlib.Omega.{arith}
use mathlib.Core.Path.{◌≡◌, refl, sym, ap₂, ◌∙◌}
use mathlib.Core.List.{List, [], ◌∷◌, ◌++◌}
use lib.ListN.{length, get_or}
use lib.Seq.{take-suc-set, take_all}
use Rattle.roles.specs.Roles.{superseded, role_of_kind, tabulate}
use Rattle.roles.proofs.Roles.{tabulate-suc}
use Rattle.roles.proofs.scan_kinds.Goals as goal

pub loop-place-init : goal.loop-place-init
unfolding tabulate
loop-place-init c =
    refl

pub loop-place-preserved : goal.loop-place-preserved
loop-place-preserved c =
    let l = c.loop-place in
    let by_kind : ℕ → ℕ = λ b. role_of_kind (get_or c.args.kinds.now b 0) superseded in
    rw (add-one l.place, tabulate-suc by_kind l.place)
    (take-suc-set l.roles l.place c.of_kind.result (omega arith) ∙ ap₂ (λ (xs : List ℕ) (x : ℕ). xs ++ (x ∷ [])) l.invariant c.of_kind.ensures)

pub returns : goal.returns
returns c =
    let l = c.loop-place in
    let all : l.place ≡ length c.args.kinds.now = omega arith in
    sym (take_all (length c.args.kinds.now) l.roles (omega arith)) ∙ rw all at l.invariant
