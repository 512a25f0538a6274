-- `volume::Volume::load` meets its contract: the entries, then four fields behind them.
-- Assumes nothing.
use Rattle.volume.specs.Volume.{unpack}
use Rattle.volume.proofs.Volume.load.Goals as goal

pub returns : goal.returns
unfolding unpack
returns c =
    cc
