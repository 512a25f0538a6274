-- `client::write_first` meets its contract: the start of a day, then a write, with a number or without.
-- Assumes nothing.
use native.Mathlib.Omega.{arith}
use Rattle.std.proofs.Common.{rules}
use Rattle.client.proofs.Days.{then-called, stops}
use Rattle.client.proofs.write_first.Goals as goal

pub returns-in_err-open_disc : goal.returns-in_err-open_disc
returns-in_err-open_disc c = stops _ _ _ _ c.in_err-open_disc.ensures c.from_residual.result (search rules)

pub returns : goal.returns
returns c = then-called _ _ c.in_ok-open_disc.ensures (omega arith) _ c.write.ensures
