-- What the functions that recognise an ICB need of the own sectors that it names, on plain values.
-- Assumes nothing.
use Prim.Native.Nat.{ℕ, zero, suc, ◌+◌, ◌/◌, ◌≤◌}
use native.Mathlib.Omega.{arith}
use mathlib.Core.Path.{◌≡◌, refl, sym, ap, ap₂, ◌∙◌}
use mathlib.Core.Bool.{true, false}
use mathlib.Core.List.{List}
use lib.ListN.{length}
use Rattle.extent.specs.Extents.{descriptors_length, extents_from}
use Rattle.vat.specs.Table.{table_start, embedded, attribute_length, described_length, own_of}
use Rattle.vat.proofs.Frame.{own-none, own-some}

pub length_from : (m : ℕ) (s : List ℕ) (at : ℕ) → length (extents_from m s at) ≡ m
unfolding extents_from
length_from zero s at = refl
length_from (suc m) s at = ap suc (length_from m s (at + 8))

module _ (s : List ℕ) where
  -- an ICB that holds its table names none, and any other as many as it has room for
  pub none-counted : embedded s ≡ true → length (own_of s) ≡ 0
  none-counted e = ap length (own-none s e)

  pub own-counted : embedded s ≡ false → length (own_of s) ≡ described_length s / 8
  own-counted e = ap length (own-some s e) ∙ length_from (described_length s / 8) s (table_start (attribute_length s))

  pub own-within : embedded s ≡ false → descriptors_length (length (own_of s)) ≤ described_length s
  own-within e = omega (arith, own-counted e)

  -- as many as are counted are those that it names
  pub own_read : embedded s ≡ false → (m at : ℕ) → m ≡ length (own_of s) → at ≡ table_start (attribute_length s) → extents_from m s at ≡ own_of s
  own_read e m at count start = ap₂ (λ (k p : ℕ). extents_from k s p) (count ∙ own-counted e) start ∙ sym (own-some s e)
