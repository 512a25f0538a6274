-- `volume::ledger::mode` meets its contract: the field that the state is unpacked from.
-- Assumes nothing.
use Rattle.volume.specs.Volume.{unpack}
use Rattle.volume.proofs.ledger.mode.Goals as goal

pub returns : goal.returns
unfolding unpack
returns c =
    c.read32.ensures
