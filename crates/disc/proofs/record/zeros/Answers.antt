-- `disc::record::zeros` meets its contract: the parts that were filled are what the sectors set.
-- Assumes nothing.
use Rattle.std.proofs.Common.{arith, ◌*◌, sym, ap₂, ◌∙◌}
use Rattle.disc.specs.Disc.{lent}
use Rattle.disc.proofs.Recording.{filled-part, data-set}
use Rattle.disc.proofs.record.zeros.Goals as goal

pub returns : goal.returns
returns c =
    let a = c.args in
    ap₂ lent
    (filled-part a.image.now c.fill.new.self (2048 * a.b) _ (2048 * a.n) 0 (omega arith) (omega arith) (c.fill.ensures.after (λ y e. e)))
    (filled-part a.kinds.now c.fill-2.new.self a.b _ a.n 1 (omega arith) (omega arith) (c.fill-2.ensures.after (λ y e. e)))
    ∙ sym (data-set a.n 0 a.b a.image.now a.kinds.now c.requires.0 c.requires.1)
