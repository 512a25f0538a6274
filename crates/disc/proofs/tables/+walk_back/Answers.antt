-- `disc::tables::walk_back` meets its contract: half of the steps, and then the others, are all of them. The count falls at each call.
-- Assumes nothing.
use Prim.Native.Nat.{ℕ, ◌+◌, ◌-◌, ◌/◌}
use native.Mathlib.Omega.{arith}
use Rattle.std.proofs.Common.{rules}
use mathlib.Core.Path.{◌≡◌, sym, ap, ◌∙◌}
use Rattle.std.specs.Prelude.{Ok, Err}
use Rattle.disc.specs.Disc.{Disc, lent}
use Rattle.disc.specs.Tables.{table_at, previous_at, walk}
use Rattle.disc.proofs.Found.{walk-table, walk_none, onward, walk-onward}
use Rattle.disc.proofs.tables.+walk_back.Goals as goal

-- half of the steps and then the others
whole-way : (d : Disc) (k b : ℕ)
    → onward (table_at d) (previous_at d) (k - k / 2) (walk (table_at d) (previous_at d) (k / 2) b) ≡ walk (table_at d) (previous_at d) k b
whole-way d k b =
    let all : k / 2 + (k - k / 2) ≡ k = omega arith in
    sym (walk-onward (table_at d) (previous_at d) (k / 2) (k - k / 2) b) ∙ ap (λ (n : ℕ). walk (table_at d) (previous_at d) n b) all

pub returns-then-k-eq0 : goal.returns-then-k-eq0
returns-then-k-eq0 t c =
    let d : Disc = lent c.args.image.now c.args.kinds.now in
    sym (ap (λ (k : ℕ). walk (table_at d) (previous_at d) k c.args.b) c.if-k-eq0.true ∙ walk_none (table_at d) (previous_at d) c.args.b)

pub returns-in_err-middle : goal.returns-in_err-middle
returns-in_err-middle t c =
    let d : Disc = lent c.args.image.now c.args.kinds.now in
    let half : walk (table_at d) (previous_at d) (c.args.k / 2) c.args.b ≡ Err c.in_err-middle.field-0.0 = sym c.walk_back.ensures ∙ c.in_err-middle.was in
    let told : c.from_residual.result ≡ Err c.in_err-middle.field-0.0 = search rules in
    told ∙ ap (onward (table_at d) (previous_at d) (c.args.k - c.args.k / 2)) (sym half) ∙ whole-way d c.args.k c.args.b

pub walk_back-requires-2 : goal.walk_back-requires-2
walk_back-requires-2 t c =
    let d : Disc = lent c.args.image.now c.args.kinds.now in
    let half : walk (table_at d) (previous_at d) (c.args.k / 2) c.args.b ≡ Ok c.in_ok-middle.middle = sym c.walk_back.ensures ∙ c.in_ok-middle.was in
    (omega (arith, c.decreases), (c.requires.0, walk-table (table_at d) (previous_at d) (c.args.k / 2) c.args.b c.in_ok-middle.middle half c.requires.1))

pub returns : goal.returns
returns t c =
    let d : Disc = lent c.args.image.now c.args.kinds.now in
    let half : walk (table_at d) (previous_at d) (c.args.k / 2) c.args.b ≡ Ok c.in_ok-middle.middle = sym c.walk_back.ensures ∙ c.in_ok-middle.was in
    c.walk_back-2.ensures ∙ ap (onward (table_at d) (previous_at d) (c.args.k - c.args.k / 2)) (sym half) ∙ whole-way d c.args.k c.args.b
