-- `client::store` meets its contract: a write without a number, then its entry with one.
-- Assumes nothing.
use Prim.Native.Nat.{ℕ, ◌+◌, ◌<◌}
use native.Mathlib.Omega.{arith}
use mathlib.Core.Path.{◌≡◌, ap, ◌∙◌}
use mathlib.Core.Bool.{Bool}
use mathlib.Core.List.{List, [], ◌∷◌}
use Rattle.std.specs.Prelude.{None, Some}
use Rattle.std.proofs.Common.{rules}
use Rattle.extent.specs.Extents.{extent}
use Rattle.recorder.specs.Calls.{write}
use Rattle.run.specs.Entry.{entry, paired}
use Rattle.client.specs.Day.{Day, ended, day, AllDone, opening, storing}
use Rattle.client.proofs.Days.{then-called, stops}
use Rattle.client.proofs.Runs.{taken-small}
use Rattle.client.proofs.store.Goals as goal

module _ (x : Day) (fresh : Bool) (block : List ℕ) {b : ℕ} {i k o m : List ℕ} (e : ended b i k o m ≡ day x (opening fresh ∷ write None block ∷ [])) where
  -- the block that the write took
  block-small : x.answer < 4294967296 → b < 4294967296 → b < 400000
  block-small ok low =
      let taken = ap (λ (y : Day). y.answer) e in
      let all : AllDone x (opening fresh ∷ write None block ∷ []) = omega (arith, taken) in
      omega (arith, taken, taken-small x fresh ok block [] all)

  -- and the entry that names it
  with-entry : (v n : ℕ) {bytes : List ℕ} → bytes ≡ entry (extent n b ∷ []) (b + 1) → day x (opening fresh ∷ write None block ∷ write (Some v) bytes ∷ []) ≡ day x (storing x fresh v block [] n)
  with-entry v n made =
      ap (λ (bytes : List ℕ). day x (opening fresh ∷ write None block ∷ write (Some v) bytes ∷ [])) (made ∙ ap (λ (t : ℕ). entry (extent n t ∷ []) (t + 1)) (ap (λ (y : Day). y.answer) e))

pub returns-in_err-b : goal.returns-in_err-b
returns-in_err-b c = stops _ _ _ _ c.in_err-b.ensures c.from_residual.result (search rules)

pub overflow_add-b : goal.overflow_add-b
overflow_add-b c = let taken : c.in_ok-b.b < 400000 = block-small _ _ _ c.in_ok-b.ensures (omega arith) (omega arith) in omega arith

pub returns : goal.returns
unfolding paired
returns c = then-called _ _ c.in_ok-b.ensures (omega arith) _ c.write.ensures ∙ with-entry _ _ _ c.in_ok-b.ensures _ c.args.n c.record.ensures
