-- Runs of bytes stored at a place (lib.Seq's `sets`): what stands there afterwards, and what stays.
-- Assumes nothing.
use Prim.Native.Nat.{ℕ, zero, suc, ◌+◌, ◌≤◌, ◌<◌}
use native.Mathlib.Nat.{add-zero}
use native.Mathlib.Omega.{arith}
use mathlib.Core.Path.{◌≡◌, refl, ap, ◌∙◌}
use mathlib.Core.List.{List, [], ◌∷◌, ◌++◌, append_assoc}
use mathlib.Core.Logic.{◌⊎◌, inl, inr}
use lib.ListN.{length, take, drop, set, get_or}
use lib.Seq.{sets, sets-eq, drop_at, length-take-le, take-take, take-set-le, drop-set-lt, get_or-set_other}

pub drop-sets : (vs l : List ℕ) (at : ℕ) → at + length vs ≤ length l → drop at (sets l at vs) ≡ vs ++ drop (at + length vs) l
drop-sets vs l at h =
    ap (drop at) (sets-eq vs l at h ∙ append_assoc (take at l) vs (drop (at + length vs) l))
    ∙ drop_at (take at l) (vs ++ drop (at + length vs) l) at (length-take-le at l (omega arith))

pub take-sets-before : (vs l : List ℕ) (at k : ℕ) → k ≤ at → take k (sets l at vs) ≡ take k l
take-sets-before [] l at k h = refl
take-sets-before (v ∷ vs) l at k h = take-sets-before vs (set l at v) (suc at) k (omega arith) ∙ take-set-le k l at v h

pub drop-sets-after : (vs l : List ℕ) (at k : ℕ) → at + length vs ≤ k → drop k (sets l at vs) ≡ drop k l
drop-sets-after [] l at k h = refl
drop-sets-after (v ∷ vs) l at k h = drop-sets-after vs (set l at v) (suc at) k (omega arith) ∙ drop-set-lt k l at v (omega arith)

-- a part that ends at or before the run, or begins behind it, stays
part-set-behind : (k n : ℕ) (l : List ℕ) (i v : ℕ) → k + n ≤ i → take n (drop k (set l i v)) ≡ take n (drop k l)
part-set-behind zero n l i v h = take-set-le n l i v (omega arith)
part-set-behind (suc k) n [] i v h = refl
part-set-behind (suc k) n (x ∷ xs) zero v h = absurd (omega arith)
part-set-behind (suc k) n (x ∷ xs) (suc i) v h = part-set-behind k n xs i v (omega arith)

pub part-sets-apart : (vs l : List ℕ) (at k n : ℕ) → (k + n ≤ at) ⊎ (at + length vs ≤ k) → take n (drop k (sets l at vs)) ≡ take n (drop k l)
part-sets-apart [] l at k n o = refl
part-sets-apart (v ∷ vs) l at k n (inl h) = part-sets-apart vs (set l at v) (suc at) k n (inl (omega arith)) ∙ part-set-behind k n l at v h
part-sets-apart (v ∷ vs) l at k n (inr h) = ap (take n) (drop-sets-after (v ∷ vs) l at k h)

-- a part of a beginning that reaches behind it
pub part-take : (r k n : ℕ) (l : List ℕ) → k + n ≤ r → take n (drop k (take r l)) ≡ take n (drop k l)
part-take r zero n l h = take-take n r l (omega arith)
part-take zero (suc k) n l h = absurd (omega arith)
part-take (suc r) (suc k) n [] h = refl
part-take (suc r) (suc k) n (x ∷ xs) h = part-take r k n xs (omega arith)

-- the bytes outside the run stay
pub get_d-sets-other : (vs l : List ℕ) (at k : ℕ) → (k < at) ⊎ (at + length vs ≤ k) → get_or (sets l at vs) k 0 ≡ get_or l k 0
get_d-sets-other [] l at k o = refl
get_d-sets-other (v ∷ vs) l at k (inl h) =
    get_d-sets-other vs (set l at v) (suc at) k (inl (omega arith)) ∙ get_or-set_other l at k v 0 (omega arith)
get_d-sets-other (v ∷ vs) l at k (inr h) =
    get_d-sets-other vs (set l at v) (suc at) k (inr (omega arith)) ∙ get_or-set_other l at k v 0 (omega arith)

-- two runs, the second right behind the first, are one
pub sets-append : (us vs l : List ℕ) (at : ℕ) → sets l at (us ++ vs) ≡ sets (sets l at us) (at + length us) vs
sets-append [] vs l at = rw add-zero
sets-append (u ∷ us) vs l at =
    let e : suc at + length us ≡ at + suc (length us) = omega arith in
    sets-append us vs (set l at u) (suc at) ∙ ap (λ (k : ℕ). sets (sets (set l at u) (suc at) us) k vs) e
