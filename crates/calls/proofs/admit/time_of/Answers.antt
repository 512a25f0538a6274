-- `calls::admit::time_of` meets its contract: the tests of `reached` refuse it first, and the table's time lies within the image.
-- Assumes nothing.
use mathlib.Core.Path.{ap, ◌∙◌}
use mathlib.Core.List.{[], ◌∷◌, ◌++◌}
use lib.ListN.{length}
use Rattle.disc.specs.Disc.{Disc, lent}
use Rattle.disc.proofs.Found.{length-time}
use Rattle.recorder.specs.Refusals.{basic, answer_lent, walk_tests, time_wrong, tests, outcome}
use Rattle.recorder.proofs.Done.{shown-within}
use Rattle.calls.proofs.Outcomes.{refused, basic-tells}
use Rattle.calls.proofs.admit.time_of.Goals as goal

pub returns-in_err-block-clause-outcome : goal.returns-in_err-block-clause-outcome
unfolding outcome tests
returns-in_err-block-clause-outcome c =
    let d : Disc = lent c.args.image.now c.args.kinds.now in
    refused (basic d (answer_lent c.args.ledger.now c.args.answer.now) ++ walk_tests d c.args.k) (time_wrong d c.args.k ∷ []) c.from_residual.result c.in_err-block.field-0.0 c.from_residual.ensures.1
    c.in_err-block.ensures.outcome

pub valid-requires : goal.valid-requires
valid-requires c =
    let d : Disc = lent c.args.image.now c.args.kinds.now in
    let block = c.in_ok-block.field-0.block in
    let told = basic-tells d (answer_lent c.args.ledger.now c.args.answer.now) (walk_tests d c.args.k) c.in_ok-block.ensures.outcome in
    ap length (c.time_at.ensures d.kinds) ∙ length-time d block (shown-within d block told.sound-disc c.in_ok-block.ensures.found.2)
