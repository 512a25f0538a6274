-- `client::earlier::mount_closed` meets its contract: the disc is as its closing left it, and mounts clean.
-- Assumes nothing.
use Rattle.client.proofs.Closings.{closing-clean}
use Rattle.client.proofs.earlier.mount_closed.Goals as goal

pub returns : goal.returns
returns c = λ x fresh before main reserve n held tried ok all there fit long. closing-clean x fresh ok before _ _ _ all _ _ _ _ _ _ there fit long c.mount.ensures
