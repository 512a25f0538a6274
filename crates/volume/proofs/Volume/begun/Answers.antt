-- `volume::Volume::begun` meets its contract: the state of a begin.
-- Assumes nothing.
use mathlib.Core.Path.{refl}
use Rattle.volume.specs.Volume.{begun}
use Rattle.volume.proofs.Volume.begun.Goals as goal

pub returns : goal.returns
unfolding begun
returns c =
    refl
