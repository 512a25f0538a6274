-- `client::save_at_and_tell` meets its contract: a save with a time, then its time.
-- Assumes nothing.
use native.Mathlib.Omega.{arith}
use mathlib.Core.Path.{refl, ap, ◌∙◌}
use mathlib.Core.List.{[], ◌∷◌}
use Rattle.std.specs.Prelude.{Some}
use Rattle.std.proofs.Common.{rules}
use Rattle.recorder.specs.Calls.{write, commit}
use Rattle.client.specs.Day.{Day}
use Rattle.client.proofs.Days.{then-time, stops, not_done, first-long}
use Rattle.client.proofs.Since.{saved-there}
use Rattle.client.proofs.Times.{right-stamp, time-given}
use Rattle.client.proofs.save_at_and_tell.Goals as goal

pub returns-in_err-save : goal.returns-in_err-save
returns-in_err-save c =
    record {
      ledger_after = stops _ _ _ _ c.in_err-save.ensures c.from_residual.result (search rules);
      value = λ a whole. not_done _ _ _ _ c.in_err-save.ensures a;
    }

pub returns : goal.returns
returns c =
    record {
      ledger_after = then-time _ _ c.in_ok-save.ensures (omega arith) _ _ c.time_of.ensures;
      value = λ a whole.
          let saved = saved-there _ c.args.fresh (omega arith) (write (Some c.args.v) c.args.block.now ∷ []) [] (commit (Some c.args.stamp.now)) refl a in
          let there = ap (λ (y : Day). y.disc) c.in_ok-save.ensures in
          let long = c.save.auto.ledger ∙ first-long _ _ _ (omega arith) a in
          time-given _ _ _ _ _ saved _ _ _ _ _ there refl long whole c.time_of.ensures refl (right-stamp _ _ _ _ _ saved);
    }
