-- `disc::own::OwnTable::entries_held` meets its contract: piece by piece, each where it lies.
-- Assumes nothing.
use Rattle.std.proofs.Common.{arith, ℕ, ◌≡◌, ◌+◌, ◌-◌, ◌*◌, Bool, ◌&&◌, sym, ap, ◌∙◌}
use Rattle.std.proofs.Math.Bool.{and-true}
use Rattle.le.specs.Bytes.{every}
use Rattle.le.specs.Field.{leading_words, words}
use Rattle.vat.specs.Table.{unused_or_below}
use Rattle.disc.specs.Own.{own_bytes}
use Rattle.disc.proofs.Pieces.{piece-taken}
use Rattle.disc.proofs.OwnBytes.{own-words}
use Rattle.disc.proofs.own.OwnTable.entries_held.Goals as goal

pub loop-left-preserved : goal.loop-left-preserved
loop-left-preserved c =
    let t = c.args.self.now in
    let f : ℕ → Bool = unused_or_below t.b in
    let q = c.min-count.result in
    let j = c.loop-left.j in
    let left = c.loop-left.left in
    let found : c.words_held-held.result ≡ every f (words q (own_bytes t) j) =
    c.words_held-held.ensures ∙ ap (every f) (own-words t j q c.place_of.result c.place_of.ensures.0 (omega (arith, c.min-count.ensures)) (omega (arith, c.min-count.ensures))) in (
      omega (arith, c.min-count.ensures),
      omega arith,
      ap (λ (b : Bool). (c.loop-left.held && b) && every f (words (left - q) (own_bytes t) (j + 4 * q))) found
          ∙ piece-taken c.loop-left.held f (own_bytes t) j q left (omega (arith, c.min-count.ensures))
          ∙ c.loop-left.invariant.2,
    )

pub returns : goal.returns
unfolding every words leading_words
returns c =
    let none : c.loop-left.left ≡ 0 = omega arith in
    sym (and-true c.loop-left.held) ∙ rw none at c.loop-left.invariant.2
