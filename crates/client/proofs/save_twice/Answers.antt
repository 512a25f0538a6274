-- `client::save_twice` meets its contract: two saves, then the older and the newer are shown.
-- Assumes nothing.
use Prim.Native.Nat.{ℕ, ◌<◌}
use native.Mathlib.Omega.{arith}
use mathlib.Core.Path.{◌≡◌, refl, ◌∙◌}
use mathlib.Core.Bool.{Bool}
use mathlib.Core.List.{List, [], ◌∷◌}
use lib.ListN.{length}
use Rattle.std.specs.Prelude.{None, Some}
use Rattle.std.proofs.Common.{rules}
use Rattle.vat.specs.Table.{sector_length}
use Rattle.recorder.specs.Calls.{Call, mount, write, close_packet, commit, look_back}
use Rattle.recorder.proofs.Refused.{number-above}
use Rattle.client.specs.Day.{Day, ended, morning, day, AllDone, opening}
use Rattle.client.proofs.Days.{goes_on, stops, not_done}
use Rattle.client.proofs.Shown.{Reads, given}
use Rattle.client.proofs.Saves.{left-later, long-ago-reads, newer-reads}
use Rattle.client.proofs.save_twice.Goals as goal

module _ (x : Day) (fresh : Bool) (v : ℕ) (older newer : List ℕ) where
  abbrev second : List Call
  second = write (Some v) newer ∷ close_packet ∷ commit None ∷ []

  abbrev twice : List Call
  twice = opening fresh ∷ write (Some v) older ∷ commit None ∷ second

  module _ (ok : x.answer < 4294967296) {r : ℕ} {i k o m : List ℕ} (saved : ended r i k o m ≡ day x twice) (same : length m ≡ length x.ledger) (a : AllDone x twice) (out : List ℕ) (whole : length out ≡ sector_length) where
    -- one save back is the older block
    reads-older : Reads (morning i k o m) (look_back 1) v out 0 older
    reads-older = long-ago-reads x fresh ok v (commit None) refl older second a (morning i k o m) out (left-later x fresh ok _ a saved o m out refl same whole)

    -- and the newest save has the newer one
    reads-newer : {o₁ m₁ : List ℕ} → length o₁ ≡ length o → length m₁ ≡ length m → Reads (morning i k o₁ m₁) mount v out 0 newer
    reads-newer {o₁} {m₁} as_many long = newer-reads x fresh ok v older newer a (morning i k o₁ m₁) out (left-later x fresh ok _ a saved o₁ m₁ out as_many (long ∙ same) whole)

pub returns-in_err-save : goal.returns-in_err-save
returns-in_err-save c =
    record {
      ledger_after = stops _ _ _ _ c.in_err-save.ensures c.from_residual.result (search rules);
      value = λ a whole whole'. not_done _ _ _ _ c.in_err-save.ensures a;
    }

pub returns-in_err-save_apart : goal.returns-in_err-save_apart
returns-in_err-save_apart c =
    let saved = c.in_err-save_apart.ensures ∙ goes_on _ _ c.in_ok-save.ensures (omega arith) _ _ in record {
      ledger_after = stops _ _ _ _ saved c.from_residual-in_err-save_apart.result (search rules);
      value = λ a whole whole'. not_done _ _ _ _ saved a;
    }

pub returns-in_err-show_back : goal.returns-in_err-show_back
returns-in_err-show_back c =
    let saved = c.in_ok-save_apart.ensures ∙ goes_on _ _ c.in_ok-save.ensures (omega arith) _ _ in
    let back = c.in_err-show_back.ensures in record {
      ledger_after = stops _ _ _ _ (back.ledger_after ∙ goes_on _ _ saved (omega arith) _ _) c.from_residual-in_err-show_back.result (search rules);
      value = λ a whole whole'.
          let shown = given (reads-older _ c.args.fresh _ _ _ (omega arith) saved (c.save_apart.auto.ledger ∙ c.save.auto.ledger) a _ whole) back.ledger_after back.out_after in
          absurd (let told = shown.0 in omega (arith, told, number-above c.in_err-show_back.field-0.0));
    }

pub returns : goal.returns
returns c =
    let saved = c.in_ok-save_apart.ensures ∙ goes_on _ _ c.in_ok-save.ensures (omega arith) _ _ in
    let same = c.save_apart.auto.ledger ∙ c.save.auto.ledger in
    let back = c.in_ok-show_back.ensures in record {
      ledger_after = c.show.ensures.ledger_after ∙ goes_on _ _ (back.ledger_after ∙ goes_on _ _ saved (omega arith) _ _) (omega arith) _ _;
      value = λ a whole whole'.
          let was = given (reads-older _ c.args.fresh _ _ _ (omega arith) saved same a _ whole) back.ledger_after back.out_after in
          let is = given (reads-newer _ c.args.fresh _ _ _ (omega arith) saved same a _ whole' c.show_back.auto.roles c.show_back.auto.ledger) c.show.ensures.ledger_after c.show.ensures.out_after in
          (is.0, was.1, is.1);
    }
