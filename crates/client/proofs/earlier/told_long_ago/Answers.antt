-- `client::earlier::told_long_ago` meets its contract: the time that many saves back is told.
-- Assumes nothing.
use mathlib.Core.Path.{refl}
use Rattle.std.specs.Prelude.{Some}
use Rattle.recorder.specs.Calls.{commit}
use Rattle.client.proofs.Since.{saved-there}
use Rattle.client.proofs.Times.{right-stamp, time-given, no-time-given}
use Rattle.client.proofs.earlier.told_long_ago.Goals as goal

pub returns : goal.returns
returns c =
    record {
      value = λ x fresh before since stamp ok all counted there long whole.
          let saved = saved-there x fresh ok before since (commit (Some stamp)) refl all in
          time-given _ _ _ _ _ saved _ _ _ _ _ there counted long whole c.time_of.ensures refl (right-stamp _ _ _ _ _ saved);
      value_2 = λ x fresh before since call ok is-save undated all counted there long whole.
          no-time-given _ _ _ _ _ (saved-there x fresh ok before since call is-save all) _ _ _ _ _ there counted long whole c.time_of.ensures undated;
    }
