-- `listing::form::is_formed` meets its contract: the length first, then the digits and the newline behind them.
-- Assumes nothing.
use Rattle.std.proofs.Common.{ℕ, ◌+◌, ◌-◌, ◌*◌, List, length, take, drop, sym, ap, arith, ◌≡◌, ◌∙◌}
use Rattle.std.proofs.lemmas.Bool.{false≢true}
use Rattle.std.proofs.lemmas.Grind.{common_steps}
use borrow.Author.Tests.{eq-eqb, ne_eqb}
use Rattle.le.specs.Bytes.{every}
use Rattle.listing.specs.Listing.{is_kind_digit, digits_of, formed}
use Rattle.listing.proofs.form.is_formed.Goals as goal
use Rattle.listing.proofs.form.is_formed.Goals.{then-input-count, else-input-count}

-- the digits end where the newline must stand
digits-end : (n : ℕ) (s : List ℕ) → every is_kind_digit (digits_of n s) ≡ every is_kind_digit (take (9 + n - 9) (drop 9 s))
digits-end n s = let some : n ≡ 9 + n - 9 = omega arith in ap (λ (k : ℕ). every is_kind_digit (take k (drop 9 s))) some

pub returns-then-every_digit : goal.returns-then-every_digit
unfolding formed
returns-then-every_digit c =
    let n : ℕ = c.args.n in
    let s : List ℕ = c.args.input.now in
    elim c.if-input-count.branch [
      | then-input-count w ↦ rw (eq-eqb (length s) (10 + n + 2048 * n) w.if-input-count.true, digits-end n s ∙ sym w.every_digit.ensures ∙ sym w.value-is ∙ c.if-every_digit.true)
      | else-input-count w ↦ absurd (false≢true (sym (w.value-is ∙ ne_eqb (length s) (10 + n + 2048 * n) w.if-input-count.false) ∙ c.if-every_digit.true))
    ]

pub returns-else-every_digit : goal.returns-else-every_digit
unfolding formed
returns-else-every_digit c = elim c.if-input-count.branch [ then-input-count w ↦ grind (arith, common_steps) | else-input-count w ↦ grind (arith, common_steps) ]
