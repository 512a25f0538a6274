-- `client::earlier::view_run` meets its contract: a view of a run that was stored.
-- Assumes nothing.
use Rattle.client.proofs.Runs.{stored-seen}
use Rattle.client.proofs.earlier.view_run.Goals as goal

pub returns : goal.returns
returns c =
    λ x fresh block more n ok all discs ledgers some_bytes few_bytes short inside room.
    stored-seen x fresh ok block more _ n all some_bytes few_bytes short _ _ inside room discs ledgers c.view.ensures
