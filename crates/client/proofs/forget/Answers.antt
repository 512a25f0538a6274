-- `client::forget` meets its contract: a mount, a release, and a commit.
-- Assumes nothing.
use native.Mathlib.Omega.{arith}
use Rattle.std.proofs.Common.{rules}
use Rattle.client.proofs.Days.{then-called, stops}
use Rattle.client.proofs.forget.Goals as goal

pub returns-in_err-open_disc : goal.returns-in_err-open_disc
returns-in_err-open_disc c = stops _ _ _ _ c.in_err-open_disc.ensures c.from_residual.result (search rules)

pub returns-in_err-release : goal.returns-in_err-release
returns-in_err-release c =
    let released = then-called _ _ c.in_ok-open_disc.ensures (omega arith) _ c.in_err-release.ensures in
    stops _ _ _ _ released c.from_residual-in_err-release.result (search rules)

pub returns : goal.returns
returns c =
    let released = then-called _ _ c.in_ok-open_disc.ensures (omega arith) _ c.in_ok-release.ensures in
    then-called _ _ released (omega arith) _ c.commit.ensures
