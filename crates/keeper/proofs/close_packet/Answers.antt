-- `keeper::close_packet` meets its contract.
-- Assumes nothing.
use mathlib.Core.Path.{refl}
use Rattle.keeper.proofs.Kept.{turned-away, as-they-were}
use Rattle.keeper.proofs.close_packet.Goals as goal

pub returns-in_err-lengths : goal.returns-in_err-lengths
returns-in_err-lengths c = turned-away _ _ _ _ refl _ _ c.in_err-lengths.ensures c.from_residual.ensures.1

pub returns : goal.returns
returns c = as-they-were _ _ _ c.in_ok-lengths.ensures c.close_packet.ensures
