-- Extents as words of 32 bits, length and block by turns, on plain values.
-- Assumes nothing.
use Prim.Native.Nat.{ℕ, zero, suc, ◌+◌, ◌*◌, ◌/◌, ◌%◌, ◌<◌}
use native.Mathlib.Numerals.{add-one}
use native.Mathlib.Omega.{arith}
use mathlib.Core.Path.{◌≡◌, refl, sym, ap, ◌∙◌}
use mathlib.Core.List.{List, [], ◌∷◌, ◌++◌}
use lib.ListN.{length, get_or, drop}
use lib.Seq.{drop-cons}
use Rattle.std.proofs.lemmas.List.{get_or-take, get_or-drop}
use Rattle.std.specs.Int.{div_ceil}
use Rattle.std.specs.Simd.{first_chunks}
use Rattle.le.specs.Field.{le, le_words}
use Rattle.vat.specs.Table.{sector_length}
use Rattle.extent.specs.Extents.{extent, descriptors_length, descriptors, total_length}
use Rattle.run.specs.Entry.{total_sectors, paired}

pub length-paired : (words : List ℕ) → length words % 2 ≡ 0 → descriptors_length (length (paired words)) ≡ 4 * length words
unfolding paired
length-paired [] even = refl
length-paired (n ∷ []) even = absurd (omega arith)
length-paired (n ∷ b ∷ words) even = omega (arith, length-paired words (omega arith))

pub descriptors-paired : (words : List ℕ) → length words % 2 ≡ 0 → descriptors (paired words) ≡ le_words words
unfolding paired descriptors le_words
descriptors-paired [] even = refl
descriptors-paired (n ∷ []) even = absurd (omega arith)
descriptors-paired (n ∷ b ∷ words) even = ap (λ (l : List ℕ). le 4 n ++ (le 4 b ++ l)) (descriptors-paired words (omega arith))

-- sectors, the last of them in part
pub rounded : (n : ℕ) → (n + 2047) / sector_length ≡ div_ceil n 2048
rounded n = omega arith

-- one of the extents that are left is taken
pair-taken : (words : List ℕ) (i : ℕ) → i + 1 < length words → paired (drop i words) ≡ extent (get_or words i 0) (get_or words (i + 1) 0) ∷ paired (drop (i + 2) words)
unfolding paired
pair-taken words i h =
    let second : drop (i + 1) words ≡ get_or words (i + 1) 0 ∷ drop (suc (i + 1)) words = drop-cons words (i + 1) 0 h in
    let next : suc (i + 1) ≡ i + 2 = omega arith in
    ap paired (drop-cons words i 0 (omega arith) ∙ ap (λ (k : ℕ). get_or words i 0 ∷ drop k words) (sym (add-one i)) ∙ ap (λ (l : List ℕ). get_or words i 0 ∷ l) second)
    ∙ ap (λ (k : ℕ). extent (get_or words i 0) (get_or words (i + 1) 0) ∷ paired (drop k words)) next

-- the first word of two, where they are taken two by two
chunk-first : (k : ℕ) (words : List ℕ) (i : ℕ) → i < k → get_or (get_or (first_chunks 2 k words) i []) 0 0 ≡ get_or words (2 * i) 0
chunk-first zero words i h = absurd (omega arith)
chunk-first (suc k) words zero h = get_or-take 2 words 0 0 (omega arith)
chunk-first (suc k) words (suc i) h =
    let on : 2 + 2 * i ≡ 2 * suc i = omega arith in
    chunk-first k (drop 2 words) i (omega arith) ∙ get_or-drop 2 words (2 * i) 0 ∙ ap (λ (j : ℕ). get_or words j 0) on

pub first-of : (pairs : List (List ℕ)) (words : List ℕ) (i : ℕ) → pairs ≡ first_chunks 2 (length words / 2) words → i < length words / 2
    → get_or (get_or pairs i []) 0 0 ≡ get_or words (2 * i) 0
first-of pairs words i e h = ap (λ (ps : List (List ℕ)). get_or (get_or ps i []) 0 0) e ∙ chunk-first (length words / 2) words i h

pub length_taken : (total : ℕ) (words : List ℕ) (i : ℕ) → i + 1 < length words
    → total + get_or words i 0 + total_length (paired (drop (i + 2) words)) ≡ total + total_length (paired (drop i words))
unfolding total_length
length_taken total words i h = rw (pair-taken words i h) (omega arith)

pub sectors-taken : (total : ℕ) (words : List ℕ) (i : ℕ) → i + 1 < length words
    → total + (get_or words i 0 + 2047) / sector_length + total_sectors (paired (drop (i + 2) words)) ≡ total + total_sectors (paired (drop i words))
unfolding total_sectors
sectors-taken total words i h = rw (pair-taken words i h) (omega arith)
