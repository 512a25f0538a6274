-- `client::save_and_read` meets its contract: a save and a mount, then a read.
-- Assumes nothing.
use native.Mathlib.Omega.{arith}
use mathlib.Core.Path.{refl, ap}
use Rattle.std.proofs.Common.{rules}
use Rattle.recorder.specs.Effects.{After}
use Rattle.client.proofs.Days.{then-read, stops}
use Rattle.client.proofs.Shown.{given-behind}
use Rattle.client.proofs.Saves.{saved-reads}
use Rattle.client.proofs.save_and_read.Goals as goal

pub returns-in_err-save_and_mount : goal.returns-in_err-save_and_mount
returns-in_err-save_and_mount c =
    record {
      ledger_after = stops _ _ _ _ c.in_err-save_and_mount.ensures.ledger_after c.from_residual.result (search rules);
      value = λ a long. absurd (let told = (c.in_err-save_and_mount.ensures.shows_save a).clean in omega (arith, told));
    }

pub returns : goal.returns
returns c =
    let mounted = c.in_ok-save_and_mount.ensures.ledger_after in
    let shown = then-read _ _ mounted (omega arith) _ _ c.read.ensures in record {
      ledger_after = shown;
      value = λ a long. given-behind _ _ (saved-reads _ c.args.fresh (omega arith) _ _ _ refl a _ long) shown mounted (ap (λ (y : After). y.buffer) c.read.ensures);
    }
