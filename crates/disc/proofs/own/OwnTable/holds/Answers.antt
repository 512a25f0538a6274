-- `disc::own::OwnTable::holds` meets its contract: piece by piece, each where it lies; what is left of the text decides the rest.
-- Assumes nothing.
use Rattle.std.proofs.Common.{arith, ℕ, ◌≡◌, ◌+◌, ◌-◌, ◌≤◌, Bool, ◌&&◌, List, length, take, drop, sym, ap, ◌∙◌}
use Rattle.std.proofs.Math.Bool.{and-true}
use Rattle.std.proofs.Math.ListN.{drop_of_length-le}
use Rattle.le.specs.Bytes.{holds_text}
use Rattle.disc.specs.Own.{own_bytes}
use Rattle.disc.proofs.Pieces.{text-piece-taken, piece-short}
use Rattle.disc.proofs.OwnBytes.{own-text}
use Rattle.disc.proofs.own.OwnTable.holds.Goals as goal

pub loop-i-preserved : goal.loop-i-preserved
loop-i-preserved c =
    let t = c.args.self.now in
    let text = c.args.text.now in
    let i = c.loop-i.i in
    let from = c.args.from in
    let end : ℕ = i + c.min.result in
    let piece : List ℕ = take (end - i) (drop i text) in
    let short : length piece ≤ c.min.result = omega (arith, piece-short (end - i) (drop i text)) in
    let found : c.holds_text-same.result ≡ holds_text (own_bytes t) (from + i) piece =
    c.holds_text-same.ensures ∙ own-text t (from + i) c.place_of.result piece c.place_of.ensures.0 (omega (arith, short, c.min.ensures)) (omega (arith, short, c.min.ensures)) in (
      omega (arith, c.min.ensures),
      ap (λ (b : Bool). (c.loop-i.same && b) && holds_text (own_bytes t) (from + end) (drop end text)) found
          ∙ text-piece-taken c.loop-i.same (own_bytes t) text from i end (omega arith) (omega (arith, c.min.ensures))
          ∙ c.loop-i.invariant.1,
    )

pub returns : goal.returns
unfolding holds_text
returns c =
    sym (and-true c.loop-i.same) ∙ rw (drop_of_length-le c.args.text.now c.loop-i-test.false) at c.loop-i.invariant.1
