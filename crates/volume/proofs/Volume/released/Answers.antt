-- `volume::Volume::released` meets its contract: one entry becomes unused.
-- Assumes nothing.
use mathlib.Core.Path.{refl}
use Rattle.volume.specs.Volume.{released}
use Rattle.volume.proofs.Volume.released.Goals as goal

pub returns : goal.returns
unfolding released
returns c =
    refl
