-- `client::save_apart` meets its contract: a write, a packet closed, and a commit.
-- Assumes nothing.
use native.Mathlib.Omega.{arith}
use Rattle.std.proofs.Common.{rules}
use Rattle.client.proofs.Days.{one, then-called, stops}
use Rattle.client.proofs.save_apart.Goals as goal

pub returns-in_err-write : goal.returns-in_err-write
returns-in_err-write c = stops _ _ _ _ (one _ _ _ _ _ c.in_err-write.ensures) c.from_residual.result (search rules)

pub returns-in_err-close_packet : goal.returns-in_err-close_packet
returns-in_err-close_packet c =
    let closed = then-called _ _ (one _ _ _ _ _ c.in_ok-write.ensures) (omega arith) _ c.in_err-close_packet.ensures in
    stops _ _ _ _ closed c.from_residual-in_err-close_packet.result (search rules)

pub returns : goal.returns
returns c =
    let closed = then-called _ _ (one _ _ _ _ _ c.in_ok-write.ensures) (omega arith) _ c.in_ok-close_packet.ensures in
    then-called _ _ closed (omega arith) _ c.commit.ensures
