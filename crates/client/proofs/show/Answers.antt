-- `client::show` meets its contract: a mount, then a read.
-- Assumes nothing.
use native.Mathlib.Omega.{arith}
use mathlib.Core.Path.{ap, ◌∙◌}
use mathlib.Core.List.{[]}
use Rattle.std.proofs.Common.{rules}
use Rattle.recorder.specs.Effects.{After}
use Rattle.client.specs.Day.{Day, read_at}
use Rattle.client.proofs.Days.{one, then-read, stops, not_done}
use Rattle.client.proofs.show.Goals as goal

pub returns-in_err-mount : goal.returns-in_err-mount
returns-in_err-mount c =
    let refused = one _ _ _ _ _ c.in_err-mount.ensures in record {
      ledger_after = stops _ _ _ _ refused c.from_residual.result (search rules);
      out_after = λ a. not_done _ _ [] _ refused a;
    }

pub returns : goal.returns
returns c =
    let shown = one _ _ _ _ _ c.in_ok-mount.ensures in record {
      ledger_after = then-read _ _ shown (omega arith) _ _ c.read.ensures;
      out_after = λ a. ap (λ (y : After). y.buffer) c.read.ensures ∙ ap (λ (y : Day). read_at y c.args.v c.args.out.now) shown;
    }
