-- `disc::own::OwnTable::field` meets its contract: the field is read where it lies.
-- Assumes nothing.
use Rattle.std.proofs.Common.{◌∙◌}
use Rattle.disc.proofs.OwnBytes.{own-field}
use Rattle.disc.proofs.own.OwnTable.field.Goals as goal

pub returns : goal.returns
returns c =
    c.read32.ensures ∙ own-field c.args.self.now c.args.j 4 c.place_of.result c.place_of.ensures.0 c.requires.1 c.requires.0
