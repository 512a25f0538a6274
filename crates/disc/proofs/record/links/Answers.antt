-- `disc::record::links` meets its contract: the part that was filled is what the links set.
-- Assumes nothing.
use Rattle.std.proofs.Common.{arith, sym, ◌∙◌}
use Rattle.disc.proofs.Recording.{filled-part, links-set}
use Rattle.disc.proofs.record.links.Goals as goal

pub returns : goal.returns
returns c =
    let a = c.args in
    filled-part a.kinds.now c.fill.new.self a.b _ a.n 2 (omega arith) c.requires (c.fill.ensures.after (λ y e. e)) ∙ sym (links-set a.n a.kinds.now a.b)
