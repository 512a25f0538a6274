-- `calls::basic::found` meets its contract: 1, 2 and 3 refuse it first.
-- Assumes nothing.
use mathlib.Core.Bool.{not}
use mathlib.Core.List.{[], ◌∷◌}
use Rattle.disc.specs.Disc.{Disc, lent}
use Rattle.disc.specs.Tables.{newest}
use Rattle.recorder.specs.Refusals.{test, basic, is_some}
use Rattle.calls.proofs.Outcomes.{refused}
use Rattle.calls.proofs.basic.found.Goals as goal

pub returns-in_err-recorded-clause-outcome : goal.returns-in_err-recorded-clause-outcome
returns-in_err-recorded-clause-outcome c =
    let d : Disc = lent c.args.image.now c.args.kinds.now in
    refused (basic d c.args.lengths) (test 7 (not (is_some (newest d))) ∷ []) c.from_residual.result c.in_err-recorded.field-0.0 c.from_residual.ensures.1 c.in_err-recorded.ensures.outcome
