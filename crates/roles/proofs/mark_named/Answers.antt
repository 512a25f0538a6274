-- `roles::mark_named` meets its contract: what is left to mark makes of the roles so far what the whole list makes of those at the entry.
-- Assumes nothing.
use Prim.Native.Nat.{ℕ, ◌+◌}
use native.Mathlib.Omega.{arith}
use mathlib.Core.Path.{sym, ap, ◌∙◌}
use mathlib.Core.List.{List}
use lib.ListN.{drop, set}
use Rattle.disc.specs.Disc.{lent}
use Rattle.disc.specs.Tables.{named_by}
use Rattle.roles.specs.Roles.{table_role, marked_at}
use Rattle.roles.proofs.Scanning.{mark-one, mark-none}
use Rattle.roles.proofs.mark_named.Goals as goal

pub loop-i-preserved : goal.loop-i-preserved
loop-i-preserved c =
    let l = c.loop-i in let a = c.args in
    let bs : List ℕ = named_by (lent a.image.now a.kinds.now) a.b in
    ap (λ (b : ℕ). marked_at (drop (l.i + 1) bs) (set l.roles b table_role)) c.named_block-place.ensures.0 ∙ sym (mark-one bs l.roles l.i (omega (arith, c.named_count-own.ensures))) ∙ l.invariant

pub returns : goal.returns
returns c =
    let l = c.loop-i in let a = c.args in
    sym (mark-none (named_by (lent a.image.now a.kinds.now) a.b) l.roles l.i (omega (arith, c.named_count-own.ensures))) ∙ l.invariant
