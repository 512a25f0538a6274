-- `volume::Volume::committed` meets its contract: recorded, last table and mode change.
-- Assumes nothing.
use mathlib.Core.Path.{refl}
use Rattle.volume.specs.Volume.{committed}
use Rattle.volume.proofs.Volume.committed.Goals as goal

pub returns : goal.returns
unfolding committed
returns c =
    refl
