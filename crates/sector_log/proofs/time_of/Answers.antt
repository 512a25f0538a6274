-- `sector_log::time_of` meets its contract.
-- Assumes nothing.
use mathlib.Core.Path.{◌≡◌, sym, ap, ◌∙◌}
use mathlib.Core.Bool.{true}
use lib.ListN.{length}
use Rattle.timestamp.specs.Timestamp.{valid}
use Rattle.disc.specs.Disc.{Disc, lent}
use Rattle.disc.specs.Tables.{Walk, time_at}
use Rattle.disc.proofs.Found.{length-time}
use Rattle.recorder.specs.Refusals.{time_reached}
use Rattle.recorder.proofs.Done.{time-done, shown-within}
use Rattle.calls.proofs.Left.{time-left}
use Rattle.sector_log.proofs.Refused.{refused}
use Rattle.sector_log.proofs.time_of.Goals as goal

pub returns-in_err-block : goal.returns-in_err-block
returns-in_err-block c = refused _ _ _ _ _ c.in_err-block.ensures.outcome c.from_residual.ensures.1

pub time_at-requires : goal.time_at-requires
time_at-requires c = shown-within _ _ (time-done _ _ _ _ (sym c.in_ok-block.ensures.outcome)).sound-disc c.in_ok-block.ensures.found.1

pub tell-requires : goal.tell-requires
tell-requires c =
    let D : Disc = lent c.args.image.now c.args.kinds.now in
    let found = c.in_ok-block.ensures.found in
    let facts = time-done _ _ _ _ (sym c.in_ok-block.ensures.outcome) in
    let taken : c.time_at.result.now ≡ time_at D c.in_ok-block.block = c.time_at.ensures D.kinds in
    let right : valid (time_at D c.in_ok-block.block) ≡ true = ap (λ (w : Walk). valid (time_reached D w)) (sym found.0) ∙ facts.right-time in
    (ap length taken ∙ length-time D _ (shown-within D _ facts.sound-disc found.1), ap valid taken ∙ right, facts.answer-long)

pub returns : goal.returns
returns c =
    cc (time-left _ c.args.ledger.now _ _ c.args.answer.now (sym c.in_ok-block.ensures.outcome) c.in_ok-block.ensures.found.0, c.time_at.ensures c.args.kinds.now)
