-- `client::close` meets its contract: a write, then a closing.
-- Assumes nothing.
use native.Mathlib.Omega.{arith}
use Rattle.std.proofs.Common.{rules}
use Rattle.client.proofs.Days.{then-called, stops}
use Rattle.client.proofs.close.Goals as goal

pub returns-in_err-write_first : goal.returns-in_err-write_first
returns-in_err-write_first c = stops _ _ _ _ c.in_err-write_first.ensures c.from_residual.result (search rules)

pub returns : goal.returns
returns c = then-called _ _ c.in_ok-write_first.ensures (omega arith) _ c.close_session.ensures
