-- `volume::ledger::recorded` meets its contract: the field that the state is unpacked from.
-- Assumes nothing.
use Rattle.volume.specs.Volume.{unpack}
use Rattle.volume.proofs.ledger.recorded.Goals as goal

pub returns : goal.returns
unfolding unpack
returns c =
    c.read32.ensures
