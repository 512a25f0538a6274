-- `client::open_disc` meets its contract: a begin or a mount.
-- Assumes nothing.
use Rattle.recorder.specs.Calls.{begin, mount}
use Rattle.client.proofs.Days.{one}
use Rattle.client.proofs.open_disc.Goals as goal

pub returns-then-fresh : goal.returns-then-fresh
returns-then-fresh c = rw c.if-fresh.true (one _ _ _ _ begin c.begin.ensures)

pub returns-else-fresh : goal.returns-else-fresh
returns-else-fresh c = rw c.if-fresh.false (one _ _ _ _ mount c.mount.ensures)
