-- Extents that are laid, one after another, on plain values.
-- Assumes nothing.
use Prim.Native.Nat.{ℕ, zero, suc, ◌+◌, ◌-◌, ◌*◌, ◌%◌, ◌<◌}
use native.Mathlib.Omega.{arith}
use mathlib.Core.Path.{◌≡◌, refl, sym, ap, ◌∙◌}
use mathlib.Core.Bool.{Bool, true, false, ◌&&◌, ◌||◌}
use mathlib.Core.List.{List, ◌∷◌}
use lib.Dec.{eqb}
use borrow.Author.Tests.{eq-eqb, ne_eqb, eqb-true, eqb-false}
use Rattle.vat.specs.Table.{sector_length}
use Rattle.extent.specs.declared.Extent.{Extent}
use Rattle.extent.specs.Extents.{extents_from}
use Rattle.extent.proofs.Extents.{extent_at, extents_left, extent-taken}
use Rattle.run.specs.Entry.{descriptors_at, lies, whole_before, laid}

-- the last one need not be whole
whole_before_lem : (e : Extent) (s : List ℕ) (k at : ℕ) → whole_before e (extents_from k s at) ≡ (eqb k 0 || eqb (e.length % sector_length) 0)
unfolding extents_from
whole_before_lem e s zero at = refl
whole_before_lem e s (suc k) at = rw (ne_eqb (suc k) 0 (λ z. omega arith))

last_of : (m i : ℕ) → i < m → eqb (m - (i + 1)) 0 ≡ eqb (i + 1) m
last_of m i h = go (eqb (i + 1) m) refl
  where
    go : (t : Bool) → eqb (i + 1) m ≡ t → eqb (m - (i + 1)) 0 ≡ t
    go true e = eq-eqb (m - (i + 1)) 0 (omega (arith, eqb-true (i + 1) m e))
    go false e = ne_eqb (m - (i + 1)) 0 (λ z. eqb-false (i + 1) m e (omega arith))

pub laid-taken : (kinds : List ℕ) (b : ℕ) (s : List ℕ) (m i : ℕ) (e : Extent) → i < m → e ≡ extent_at s descriptors_at i
    → laid kinds b (extents_left s descriptors_at m i) ≡ (lies kinds b e && ((eqb (i + 1) m || eqb (e.length % sector_length) 0) && laid kinds b (extents_left s descriptors_at m (i + 1))))
unfolding laid
laid-taken kinds b s m i e h here =
    let more : List Extent = extents_left s descriptors_at m (i + 1) in
    let whole : whole_before e more ≡ (eqb (i + 1) m || eqb (e.length % sector_length) 0) =
    whole_before_lem e s (m - (i + 1)) (descriptors_at + 8 * (i + 1)) ∙ ap (λ (t : Bool). t || eqb (e.length % sector_length) 0) (last_of m i h) in
    ap (laid kinds b) (extent-taken s descriptors_at m i h ∙ ap (λ (f : Extent). f ∷ more) (sym here)) ∙ ap (λ (t : Bool). lies kinds b e && (t && laid kinds b more)) whole
