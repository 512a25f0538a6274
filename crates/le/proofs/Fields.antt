-- The laws of little-endian fields, once over the width: what was put is read back, other bytes stay, disjoint fields stay.
-- Assumes nothing.
use Prim.Native.Nat.{ℕ, zero, suc, ◌+◌, ◌*◌, ◌/◌, ◌%◌, ◌^◌, ◌≤◌, ◌<◌}
use native.Mathlib.Nat.{add-zero, zero-add, suc-add, pow-suc, pow-succ', div-add-mod, div-lt_iff_lt-mul, mul_assoc}
use native.Mathlib.Omega.{arith}
use mathlib.Core.Path.{◌≡◌, refl, sym, ap, ap₂, ◌∙◌}
use mathlib.Core.List.{List, ◌++◌}
use mathlib.Core.Logic.{◌⊎◌, inl, inr}
use lib.Dec.{lit<}
use lib.ListN.{length, drop, get_or}
use lib.Seq.{sets, length-sets, get_or-drop, drop-drop}
use Rattle.le.specs.Field.{le, read_le, put_le}
use Rattle.le.proofs.Bytes.{drop-sets, get_d-sets-other}

pub length-le : (n x : ℕ) → length (le n x) ≡ n
unfolding le
length-le zero x = refl
length-le (suc n) x = ap suc (length-le n (x / 256))

pub length-put : (n : ℕ) (s : List ℕ) (at x : ℕ) → length (put_le n s at x) ≡ length s
length-put n s at x = length-sets s at (le n x)

-- where the bytes of x stand, x is read
pub read-le : (n x : ℕ) (s rest : List ℕ) (at : ℕ) → drop at s ≡ le n x ++ rest → x < 256 ^ n → read_le n s at ≡ x
unfolding le read_le
read-le zero x s rest at e h = omega arith
read-le (suc n) x s rest at e h =
    let low : get_or s at 0 ≡ x % 256 = ap (λ (k : ℕ). get_or s k 0) (sym (add-zero at)) ∙ sym (get_or-drop at s 0 0) ∙ ap (λ (l : List ℕ). get_or l 0 0) e in
    let high : read_le n s (at + 1) ≡ x / 256 =
    read-le n (x / 256) s rest (at + 1) (sym (drop-drop 1 at s) ∙ ap (drop 1) e)
    ((div-lt_iff_lt-mul (lit< tt)).1 (rw (pow-suc) at h)) in
    ap₂ (λ (a b : ℕ). a + 256 * b) low high ∙ omega (arith, div-add-mod x 256)

-- what was put is read back
pub read-put : (n : ℕ) (s : List ℕ) (at x : ℕ) → at + n ≤ length s → x < 256 ^ n → read_le n (put_le n s at x) at ≡ x
read-put n s at x h f =
    read-le n x (put_le n s at x) (drop (at + length (le n x)) s) at
    (drop-sets (le n x) s at (rw length-le h)) f

-- a field is read from its own bytes alone, wherever they stand
pub read-shift : (n : ℕ) (s t : List ℕ) (a b : ℕ) → ((k : ℕ) → k < n → get_or s (a + k) 0 ≡ get_or t (b + k) 0) → read_le n s a ≡ read_le n t b
unfolding read_le
read-shift zero s t a b same = refl
read-shift (suc n) s t a b same =
    let first : get_or s a 0 ≡ get_or t b 0 =
    ap (λ (k : ℕ). get_or s k 0) (sym (add-zero a)) ∙ same 0 (omega arith) ∙ ap (λ (k : ℕ). get_or t k 0) (add-zero b) in
    ap₂ (λ (x y : ℕ). x + 256 * y) first
    (read-shift n s t (a + 1) (b + 1)
    (λ k h.
    let p : a + 1 + k ≡ a + (k + 1) = omega arith in
    let q : b + 1 + k ≡ b + (k + 1) = omega arith in
    ap (λ (i : ℕ). get_or s i 0) p ∙ same (k + 1) (omega arith) ∙ ap (λ (i : ℕ). get_or t i 0) (sym q)))

pub read-agrees : (n : ℕ) (s t : List ℕ) (at : ℕ) → ((k : ℕ) → at ≤ k → k < at + n → get_or s k 0 ≡ get_or t k 0) → read_le n s at ≡ read_le n t at
read-agrees n s t at same = read-shift n s t at at (λ k h. same (at + k) (omega arith) (omega arith))

-- a field behind the first bytes
pub read-drop : (n : ℕ) (s : List ℕ) (at k : ℕ) → read_le n (drop at s) k ≡ read_le n s (at + k)
unfolding read_le
read-drop zero s at k = refl
read-drop (suc n) s at k =
    let e : at + (k + 1) ≡ at + k + 1 = omega arith in
    ap₂ (λ (a b : ℕ). a + 256 * b) (get_or-drop at s k 0) (read-drop n s at (k + 1) ∙ ap (read_le n s) e)

-- bytes stored elsewhere leave a field as it was
pub read-sets-apart : (n : ℕ) (s : List ℕ) (k at : ℕ) (vs : List ℕ) → (k + n ≤ at) ⊎ (at + length vs ≤ k) → read_le n (sets s at vs) k ≡ read_le n s k
read-sets-apart n s k at vs (inl h) =
    read-agrees n (sets s at vs) s k (λ j low high. get_d-sets-other vs s at j (inl (omega arith)))
read-sets-apart n s k at vs (inr h) =
    read-agrees n (sets s at vs) s k (λ j low high. get_d-sets-other vs s at j (inr (omega arith)))

-- two fields side by side are one
pub read-add : (m n : ℕ) (s : List ℕ) (at : ℕ) → read_le (m + n) s at ≡ read_le m s at + 256 ^ m * read_le n s (at + m)
unfolding read_le
read-add zero n s at = rw (zero-add n, add-zero at) (omega arith)
read-add (suc m) n s at =
    let e : at + 1 + m ≡ at + suc m = omega arith in
    let high : ℕ = read_le n s (at + suc m) in
    let ih : read_le (m + n) s (at + 1) ≡ read_le m s (at + 1) + 256 ^ m * high =
    read-add m n s (at + 1) ∙ ap (λ (k : ℕ). read_le m s (at + 1) + 256 ^ m * read_le n s k) e in
    let scaled : 256 ^ suc m * high ≡ 256 * (256 ^ m * high) = ap (λ (p : ℕ). p * high) (pow-succ' 256 m) ∙ mul_assoc 256 (256 ^ m) high in
    rw (suc-add m n, ih, scaled) (omega arith)
