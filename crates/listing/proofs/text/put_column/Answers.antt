-- `listing::text::put_column` meets its contract: the digits that are left, put before those that are there, are the column.
-- Assumes nothing.
use Prim.Native.Nat.{ℕ, ◌+◌, ◌-◌, ◌/◌}
use native.Mathlib.Omega.{arith}
use mathlib.Core.Path.{sym, ap, ◌∙◌}
use lib.ListN.{set}
use lib.Seq.{sets}
use Rattle.listing.specs.Text.{ahead}
use Rattle.listing.proofs.Lines.{column-starts, column-turn, column-ends}
use Rattle.listing.proofs.text.put_column.Goals as goal

pub loop-place-preserved : goal.loop-place-preserved
loop-place-preserved c =
    let l = c.loop-place in
    let at : ℕ = c.args.at in
    ap (λ (x : ℕ). sets (set l.out (l.place - 1) x) at (ahead (l.place - 1 - at) (l.m / 10))) c.digit_or_blank.ensures ∙ column-turn l.out at l.place l.m (omega arith) ∙ l.invariant

pub returns : goal.returns
returns c =
    let l = c.loop-place in let a = c.args in
    sym (column-ends l.out a.at l.place l.m (omega arith))
    ∙ l.invariant
    ∙ ap (λ (x : ℕ). sets (set a.out.now (a.at + a.w) x) a.at (ahead (a.at + a.w - a.at) (a.n / 10))) c.digit.ensures
    ∙ column-starts a.out.now a.at a.w a.n
