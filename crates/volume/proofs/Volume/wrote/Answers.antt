-- `volume::Volume::wrote` meets its contract: the size grows exactly where the number equals it, and without a number neither it nor the entries change.
-- Assumes nothing.
use borrow.Author.Rules.{rules}
use Rattle.volume.specs.Volume.{wrote}
use Rattle.volume.proofs.Volume.wrote.Goals as goal

pub returns-after-n-self : goal.returns-after-n-self
unfolding wrote
returns-after-n-self c =
    search rules

pub returns-in_default : goal.returns-in_default
unfolding wrote
returns-in_default c =
    search rules
