-- `calls::admit::close_session` meets its contract: the tests of `working` refuse it first.
-- Assumes nothing.
use mathlib.Core.Bool.{true, ◌&&◌, and-true}
use mathlib.Core.List.{List}
use Prim.Native.Nat.{ℕ}
use Rattle.disc.specs.Disc.{Disc, lent}
use Rattle.volume.specs.Volume.{unpack}
use Rattle.recorder.specs.Refusals.{ledger_lent, closing_tests, tests, outcome}
use Rattle.recorder.proofs.Done.{working_tests}
use Rattle.calls.proofs.Outcomes.{refused}
use Rattle.calls.proofs.admit.close_session.Goals as goal

pub returns-in_err-working : goal.returns-in_err-working
unfolding outcome tests
returns-in_err-working c =
    let d : Disc = lent c.args.image.now c.args.kinds.now in
    let l : List ℕ = c.args.ledger.now in
    rw (← and-true (ledger_lent l))
    (refused (working_tests d l (ledger_lent l && true)) (closing_tests d (unpack l) c.args.start) c.from_residual.result c.in_err-working.field-0.0 c.from_residual.ensures.1 c.in_err-working.ensures)
