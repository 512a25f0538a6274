-- `calls::admit::write` meets its contract: the tests of `working` refuse it first, and then its number.
-- Assumes nothing.
use Prim.Native.Nat.{ℕ}
use mathlib.Core.Path.{refl, sym, ◌∙◌}
use mathlib.Core.List.{List}
use Rattle.disc.specs.Disc.{Disc, lent}
use Rattle.volume.specs.Volume.{unpack}
use Rattle.recorder.specs.Refusals.{block_lent, number_tests, block_tests, write_tests, tests, outcome}
use Rattle.recorder.proofs.Done.{resumed, working_tests}
use Rattle.calls.proofs.Outcomes.{refused}
use Rattle.calls.proofs.admit.write.Goals as goal

pub returns-in_err-working : goal.returns-in_err-working
unfolding outcome tests
returns-in_err-working c =
    let d : Disc = lent c.args.image.now c.args.kinds.now in
    let l : List ℕ = c.args.ledger.now in
    let block : List ℕ = c.args.block.now in
    refused (working_tests d l (block_lent l block)) (write_tests d (unpack l) c.args.v block) c.from_residual.result c.in_err-working.field-0.0 c.from_residual.ensures.1 c.in_err-working.ensures

pub returns-in_err-numbered : goal.returns-in_err-numbered
unfolding outcome tests
returns-in_err-numbered c =
    let d : Disc = lent c.args.image.now c.args.kinds.now in
    let l : List ℕ = c.args.ledger.now in
    let block : List ℕ = c.args.block.now in
    let told = c.from_residual-in_err-numbered in
    refused (number_tests (unpack l) c.args.v) (block_tests d (unpack l) block) told.result c.in_err-numbered.field-0.0 told.ensures.1 c.in_err-numbered.ensures
    ∙ sym (resumed (working_tests d l (block_lent l block)) (write_tests d (unpack l) c.args.v block) refl (sym c.in_ok-working.ensures))
