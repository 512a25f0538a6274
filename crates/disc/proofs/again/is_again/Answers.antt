-- `disc::again::is_again` meets its contract: where the previous table names fewer, no sector stands at its place; else the bytes decide.
-- Assumes nothing.
use Rattle.disc.proofs.Planned.{own-inside}
use Rattle.disc.proofs.again.is_again.Goals as goal

pub named_again-requires : goal.named_again-requires
named_again-requires c =
    let inside = own-inside c.args.n c.args.i c.requires.2 c.requires.4 in
    (c.requires.0, c.named_block.ensures.1, c.requires.1, inside.0, inside.1)
