-- `client::begin_and_mount` meets its contract: a begin, then a mount.
-- Assumes nothing.
use native.Mathlib.Omega.{arith}
use mathlib.Core.Path.{ap, ◌∙◌}
use Rattle.std.proofs.Common.{rules}
use Rattle.client.specs.Day.{Day}
use Rattle.client.proofs.Days.{then-called, stops, not_done}
use Rattle.client.proofs.Saves.{nothing-mounts}
use Rattle.client.proofs.begin_and_mount.Goals as goal

pub returns-in_err-open_disc : goal.returns-in_err-open_disc
returns-in_err-open_disc c =
    record {
      ledger_after = stops _ _ _ _ c.in_err-open_disc.ensures c.from_residual.result (search rules);
      value = λ a. not_done _ _ _ _ c.in_err-open_disc.ensures a;
    }

pub returns : goal.returns
returns c =
    let mounted = then-called _ _ c.in_ok-open_disc.ensures (omega arith) _ c.mount.ensures in record {
      ledger_after = mounted;
      value = λ a. ap (λ (y : Day). y.answer) mounted ∙ nothing-mounts _ (omega arith) a;
    }
