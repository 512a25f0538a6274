-- `disc::own::OwnTable::copied` meets its contract: the pieces so far, and then those that are left, are all entries.
-- Assumes nothing.
use Rattle.std.proofs.Common.{arith, ℕ, ◌≡◌, ◌+◌, ◌-◌, ◌*◌, List, length, ap, ◌∙◌}
use Rattle.std.proofs.Math.Seq.{sets, length-sets}
use Rattle.le.specs.Field.{leading_words, words, le_words}
use Rattle.disc.specs.Own.{own_bytes}
use Rattle.disc.proofs.Pieces.{piece-put}
use Rattle.disc.proofs.OwnBytes.{own-words}
use Rattle.disc.proofs.own.OwnTable.copied.Goals as goal

pub loop-left-preserved : goal.loop-left-preserved
loop-left-preserved c =
    let t = c.args.self.now in
    let q = c.min-count.result in
    let j = c.loop-left.j in
    let left = c.loop-left.left in
    let l = c.loop-left.l in
    let put : c.copy_words.new.s ≡ sets l j (le_words (words q (own_bytes t) j)) =
    c.copy_words.ensures
    ∙ ap (λ (xs : List ℕ). sets l j (le_words xs)) (own-words t j q c.place_of.result c.place_of.ensures.0 (omega (arith, c.min-count.ensures)) (omega (arith, c.min-count.ensures))) in (
      ap length put ∙ length-sets l j (le_words (words q (own_bytes t) j)) ∙ c.loop-left.invariant.0,
      omega (arith, c.min-count.ensures),
      omega arith,
      ap (λ (x : List ℕ). sets x (j + 4 * q) (le_words (words (left - q) (own_bytes t) (j + 4 * q)))) put
          ∙ piece-put l (own_bytes t) j q left (omega (arith, c.min-count.ensures))
          ∙ c.loop-left.invariant.3,
    )

pub returns : goal.returns
unfolding le_words words leading_words
returns c =
    let none : c.loop-left.left ≡ 0 = omega arith in
    rw none at c.loop-left.invariant.3
