-- `calls::basic::reached` meets its contract: the tests of `found` refuse it first.
-- Assumes nothing.
use mathlib.Core.List.{[], ◌∷◌}
use Rattle.disc.specs.Disc.{Disc, lent}
use Rattle.recorder.specs.Refusals.{test, walked, is_broken, is_ended}
use Rattle.calls.proofs.Outcomes.{refused, found_tests}
use Rattle.calls.proofs.basic.reached.Goals as goal

pub returns-in_err-plan-clause-outcome : goal.returns-in_err-plan-clause-outcome
returns-in_err-plan-clause-outcome c =
    let d : Disc = lent c.args.image.now c.args.kinds.now in
    refused (found_tests d c.args.lengths) (test 8 (is_broken (walked d c.args.k)) ∷ test 9 (is_ended (walked d c.args.k)) ∷ []) c.from_residual.result c.in_err-plan.field-0.0 c.from_residual.ensures.1
    c.in_err-plan.ensures.outcome
