-- `calls::admit::commit` meets its contract: the tests of `working` refuse it first, and then its timestamp.
-- Assumes nothing.
use Prim.Native.Nat.{ℕ}
use mathlib.Core.Path.{refl, sym, ◌∙◌}
use mathlib.Core.List.{List, [], ◌∷◌}
use Rattle.std.specs.Prelude.{Option}
use Rattle.disc.specs.Disc.{Disc, lent}
use Rattle.volume.specs.Volume.{unpack}
use Rattle.recorder.specs.Refused.{stamp_given}
use Rattle.recorder.specs.Refusals.{test, stamp_lent, stamp_wrong, commit_tests, tests, outcome}
use Rattle.recorder.proofs.Done.{resumed, working_tests}
use Rattle.calls.proofs.Outcomes.{refused}
use Rattle.calls.proofs.admit.commit.Goals as goal

pub returns-in_err-working : goal.returns-in_err-working
unfolding outcome tests
returns-in_err-working c =
    let d : Disc = lent c.args.image.now c.args.kinds.now in
    let l : List ℕ = c.args.ledger.now in
    let stamp : Option (List ℕ) = stamp_given c.args.stamp in
    refused (working_tests d l (stamp_lent l stamp)) (commit_tests d (unpack l) stamp) c.from_residual.result c.in_err-working.field-0.0 c.from_residual.ensures.1
    (rw c.is_long.ensures at c.in_err-working.ensures)

pub returns-in_err-timely : goal.returns-in_err-timely
unfolding outcome tests
returns-in_err-timely c =
    let d : Disc = lent c.args.image.now c.args.kinds.now in
    let l : List ℕ = c.args.ledger.now in
    let stamp : Option (List ℕ) = stamp_given c.args.stamp in
    let told = c.from_residual-in_err-timely in
    refused (test 16 (stamp_wrong stamp) ∷ []) _ told.result c.in_err-timely.field-0.0 told.ensures.1 c.in_err-timely.ensures
    ∙ sym (resumed (working_tests d l (stamp_lent l stamp)) (commit_tests d (unpack l) stamp) refl (sym (rw c.is_long.ensures at c.in_ok-working.ensures)))
