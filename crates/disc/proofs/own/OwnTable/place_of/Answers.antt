-- `disc::own::OwnTable::place_of` meets its contract: the byte's descriptor tells where its sector lies.
-- Assumes nothing.
use Rattle.std.proofs.Common.{arith}
use Rattle.disc.proofs.OwnBytes.{own-place}
use Rattle.disc.proofs.own.OwnTable.place_of.Goals as goal

pub own_block-requires : goal.own_block-requires
own_block-requires c =
    (own-place c.args.self.now c.args.j c.requires).0

pub returns : goal.returns
returns c =
    (cc, omega (arith, own-place c.args.self.now c.args.j c.requires))
