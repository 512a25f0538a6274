-- `volume::Volume::closed` meets its contract: only the mode changes.
-- Assumes nothing.
use mathlib.Core.Path.{refl}
use Rattle.volume.specs.Volume.{closed}
use Rattle.volume.proofs.Volume.closed.Goals as goal

pub returns : goal.returns
unfolding closed
returns c =
    refl
