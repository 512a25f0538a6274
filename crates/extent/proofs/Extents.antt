-- Extents one after another, and descriptors that read back as their extents.
-- Assumes nothing.
use Prim.Native.Nat.{ℕ, suc, ◌+◌, ◌-◌, ◌*◌, ◌≤◌, ◌<◌}
use native.Mathlib.Omega.{arith}
use mathlib.Core.Path.{◌≡◌, refl, sym, ap, ap₂, ◌∙◌}
use mathlib.Core.List.{List, [], ◌∷◌, ◌++◌, append_assoc}
use lib.ListN.{length, drop, length-append}
use Rattle.le.specs.Field.{le, read_le}
use Rattle.le.proofs.Fields.{length-le, read-le}
use Rattle.le.proofs.Runs.{drop-on}
use Rattle.extent.specs.declared.Extent.{Extent}
use Rattle.extent.specs.Extents.{extent, descriptors_length, extents_from, descriptors, total_length}

-- ---- one after another

-- extent i of those from place `at` on, and of m extents those from i on
abbrev pub extent_at : List ℕ → ℕ → ℕ → Extent
extent_at s at i = extent (read_le 4 s (at + 8 * i)) (read_le 4 s (at + 8 * i + 4))

abbrev pub extents_left : List ℕ → ℕ → ℕ → ℕ → List Extent
extents_left s at m i = extents_from (m - i) s (at + 8 * i)

pub extent-taken : (s : List ℕ) (at m i : ℕ) → i < m → extents_left s at m i ≡ extent_at s at i ∷ extents_left s at m (i + 1)
unfolding extents_from
extent-taken s at m i h =
    let one : m - i ≡ suc (m - (i + 1)) = omega arith in
    let next : at + 8 * i + 8 ≡ at + 8 * (i + 1) = omega arith in
    ap (λ (k : ℕ). extents_from k s (at + 8 * i)) one ∙ ap (λ (p : ℕ). extent_at s at i ∷ extents_from (m - (i + 1)) s p) next

pub all_left : (s : List ℕ) (at m : ℕ) → extents_left s at m 0 ≡ extents_from m s at
all_left s at m =
    let all : m - 0 ≡ m = omega arith in
    let start : at + 8 * 0 ≡ at = omega arith in
    ap₂ (λ (k p : ℕ). extents_from k s p) all start

pub none_left : (s : List ℕ) (at m i : ℕ) → m ≤ i → extents_left s at m i ≡ []
unfolding extents_from
none_left s at m i h =
    let none : m - i ≡ 0 = omega arith in
    ap (λ (k : ℕ). extents_from k s (at + 8 * i)) none

pub length_taken : (total : ℕ) (s : List ℕ) (at m i : ℕ) (e : Extent) → i < m → e ≡ extent_at s at i
    → total + e.length + total_length (extents_left s at m (i + 1)) ≡ total + total_length (extents_left s at m i)
unfolding total_length
length_taken total s at m i e h here = rw (extent-taken s at m i h) (omega (arith, ap (λ (f : Extent). f.length) here))

-- ---- made and read back

-- every length and block fits 32 bits
abbrev pub AllFit : List Extent → Type 0
AllFit [] = Unit
AllFit (e ∷ es) = (e.length < 4294967296) × (e.location < 4294967296) × AllFit es

pub length-descriptors : (es : List Extent) → length (descriptors es) ≡ descriptors_length (length es)
unfolding descriptors
length-descriptors [] = refl
length-descriptors (e ∷ es) =
    rw (length-append (le 4 e.length) (le 4 e.location ++ descriptors es), length-append (le 4 e.location) (descriptors es), length-le 4 e.length, length-le 4 e.location, length-descriptors es)
    (omega arith)

-- where descriptors stand, the extents are read
pub extents-read : (es : List Extent) (s rest : List ℕ) (at : ℕ) → AllFit es → drop at s ≡ descriptors es ++ rest → extents_from (length es) s at ≡ es
unfolding extents_from descriptors
extents-read [] s rest at f here = refl
extents-read (e ∷ es) s rest at f here =
    let more : List ℕ = descriptors es ++ rest in
    let first : drop at s ≡ le 4 e.length ++ (le 4 e.location ++ more) =
    here ∙ append_assoc (le 4 e.length) (le 4 e.location ++ descriptors es) rest ∙ ap (λ (x : List ℕ). le 4 e.length ++ x) (append_assoc (le 4 e.location) (descriptors es) rest) in
    let second : drop (at + 4) s ≡ le 4 e.location ++ more = drop-on s (le 4 e.length) (le 4 e.location ++ more) at 4 first (length-le 4 e.length) in
    let behind : drop (at + 4 + 4) s ≡ more = drop-on s (le 4 e.location) more (at + 4) 4 second (length-le 4 e.location) in
    let eight : at + 4 + 4 ≡ at + 8 = omega arith in
    ap₂ {C = List Extent} (λ (x : Extent) (xs : List Extent). x ∷ xs)
    (ap₂ extent (read-le 4 e.length s (le 4 e.location ++ more) at first f.0) (read-le 4 e.location s more (at + 4) second f.1))
    (extents-read es s rest (at + 8) f.2 (ap (λ (k : ℕ). drop k s) (sym eight) ∙ behind))
