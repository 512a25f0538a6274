-- Rows laid over bytes are held there, if they lie apart: whether they do is one test that the checker computes, since it looks at places
-- and widths alone.
-- Assumes nothing.
use Prim.Native.Nat.{ℕ, ◌+◌, ◌^◌, ◌≤◌, ◌<◌}
use native.Mathlib.Omega.{arith}
use mathlib.Core.Path.{◌≡◌, refl, sym, ap, ap₂, ◌∙◌}
use mathlib.Core.Bool.{Bool, true, false, ◌&&◌, ◌||◌, and_assoc, false≢true}
use mathlib.Core.List.{List, [], ◌∷◌, ◌++◌}
use mathlib.Core.Logic.{◌⊎◌, inl, inr}
use lib.Dec.{T, eqb, leb, leb→le}
use lib.ListN.{length, take, drop}
use borrow.Author.Tests.{eq-eqb}
use Rattle.le.specs.Field.{Row, le, read_le, put_le, holds, lay}
use Rattle.le.proofs.Bytes.{drop-sets-after, part-sets-apart}
use Rattle.le.proofs.Fields.{length-le, length-put, read-put, read-sets-apart}

pub both_left : (a b : Bool) → T (a && b) → T a
both_left true b t = tt
both_left false b t = t

pub both_right : (a b : Bool) → T (a && b) → T b
both_right true b t = t
both_right false b t = absurd t

pub and_left : (a b : Bool) → (a && b) ≡ true → a ≡ true
and_left true b e = refl
and_left false b e = e

pub and_right : (a b : Bool) → (a && b) ≡ true → b ≡ true
and_right true b e = e
and_right false b e = absurd (false≢true e)

either : (a b : Bool) → T (a || b) → T a ⊎ T b
either true b t = inl tt
either false b t = inr t

-- no row of the list touches the field of `width` bytes at `at`
abbrev pub clear : ℕ → ℕ → List Row → Bool
clear at width [] = true
clear at width (r ∷ rs) = (leb (at + width) r.at || leb (r.at + r.width) at) && clear at width rs

-- no row of the list touches another
abbrev pub apart : List Row → Bool
apart [] = true
apart (r ∷ rs) = clear r.at r.width rs && apart rs

-- no row of `later` touches one of the list
abbrev pub spared : List Row → List Row → Bool
spared [] later = true
spared (r ∷ rs) later = clear r.at r.width later && spared rs later

-- every row ends at or before k
abbrev pub within : ℕ → List Row → Bool
within k [] = true
within k (r ∷ rs) = leb (r.at + r.width) k && within k rs

-- each row's number fits its width
abbrev pub Fit : List Row → Type 0
Fit [] = Unit
Fit (r ∷ rs) = (r.value < 256 ^ r.width) × Fit rs

pub length-lay : (rs : List Row) (s : List ℕ) → length (lay s rs) ≡ length s
unfolding lay
length-lay [] s = refl
length-lay (r ∷ rs) s = length-lay rs (put_le r.width s r.at r.value) ∙ length-put r.width s r.at r.value

pub lay-append : (ps qs : List Row) (s : List ℕ) → lay s (ps ++ qs) ≡ lay (lay s ps) qs
unfolding lay
lay-append [] qs s = refl
lay-append (p ∷ ps) qs s = lay-append ps qs (put_le p.width s p.at p.value)

-- where a row that does not touch a field stands
outside : (at width : ℕ) (r : Row) → T (leb (at + width) r.at || leb (r.at + r.width) at) → (at + width ≤ r.at) ⊎ (r.at + length (le r.width r.value) ≤ at)
outside at width r t = go (either (leb (at + width) r.at) (leb (r.at + r.width) at) t)
  where
    go : T (leb (at + width) r.at) ⊎ T (leb (r.at + r.width) at) → (at + width ≤ r.at) ⊎ (r.at + length (le r.width r.value) ≤ at)
    go (inl a) = inl (leb→le (at + width) r.at a)
    go (inr b) = inr (rw (length-le r.width r.value) (leb→le (r.at + r.width) at b))

-- a field that no row touches is read as before
pub read-lay : (rs : List Row) (s : List ℕ) (at width : ℕ) → T (clear at width rs) → read_le width (lay s rs) at ≡ read_le width s at
unfolding lay
read-lay [] s at width t = refl
read-lay (r ∷ rs) s at width t =
    let here : Bool = leb (at + width) r.at || leb (r.at + r.width) at in
    read-lay rs (put_le r.width s r.at r.value) at width (both_right here (clear at width rs) t)
    ∙ read-sets-apart width s at r.at (le r.width r.value) (outside at width r (both_left here (clear at width rs) t))

-- a row that no later one touches is read back
pub read-laid : (ps qs : List Row) (r : Row) (s : List ℕ) → T (clear r.at r.width qs) → r.at + r.width ≤ length s → r.value < 256 ^ r.width
    → read_le r.width (lay s (ps ++ (r ∷ qs))) r.at ≡ r.value
unfolding lay
read-laid ps qs r s t inside f =
    let before : List ℕ = lay s ps in
    ap (λ (l : List ℕ). read_le r.width l r.at) (lay-append ps (r ∷ qs) s)
    ∙ read-lay qs (put_le r.width before r.at r.value) r.at r.width t
    ∙ read-put r.width before r.at r.value (rw (length-lay ps s) inside) f

-- a part that no row touches stays
pub part-lay : (rs : List Row) (s : List ℕ) (at width : ℕ) → T (clear at width rs) → take width (drop at (lay s rs)) ≡ take width (drop at s)
unfolding lay
part-lay [] s at width t = refl
part-lay (r ∷ rs) s at width t =
    let here : Bool = leb (at + width) r.at || leb (r.at + r.width) at in
    part-lay rs (put_le r.width s r.at r.value) at width (both_right here (clear at width rs) t)
    ∙ part-sets-apart (le r.width r.value) s r.at at width (outside at width r (both_left here (clear at width rs) t))

-- rows that lie apart, within the bytes, are held where they were laid
pub holds-lay : (rs : List Row) (s : List ℕ) → T (apart rs) → (k : ℕ) → T (within k rs) → k ≤ length s → Fit rs → holds (lay s rs) rs ≡ true
unfolding holds lay
holds-lay [] s t k w l f = refl
holds-lay (r ∷ rs) s t k w l f =
    let s' : List ℕ = put_le r.width s r.at r.value in
    let inside : r.at + r.width ≤ length s = omega (arith, leb→le (r.at + r.width) k (both_left (leb (r.at + r.width) k) (within k rs) w)) in
    let here : read_le r.width (lay s' rs) r.at ≡ r.value =
    read-lay rs s' r.at r.width (both_left (clear r.at r.width rs) (apart rs) t)
    ∙ read-put r.width s r.at r.value inside f.0 in
    let kept : k ≤ length s' = omega (arith, length-put r.width s r.at r.value) in
    let rest : holds (lay s' rs) rs ≡ true =
    holds-lay rs s' (both_right (clear r.at r.width rs) (apart rs) t) k (both_right (leb (r.at + r.width) k) (within k rs) w) kept f.1 in
    ap₂ (λ (a b : Bool). a && b) (eq-eqb (read_le r.width (lay s' rs) r.at) r.value here) rest

-- rows that later ones spare are held as before
pub holds-spared : (rs later : List Row) (s : List ℕ) → T (spared rs later) → holds (lay s later) rs ≡ holds s rs
unfolding holds
holds-spared [] later s t = refl
holds-spared (r ∷ rs) later s t =
    ap₂ (λ (a : ℕ) (b : Bool). eqb a r.value && b)
    (read-lay later s r.at r.width (both_left (clear r.at r.width later) (spared rs later) t))
    (holds-spared rs later s (both_right (clear r.at r.width later) (spared rs later) t))

-- rows that end at or before k leave what comes from k on
pub drop-lay : (rs : List Row) (s : List ℕ) (k : ℕ) → T (within k rs) → drop k (lay s rs) ≡ drop k s
unfolding lay
drop-lay [] s k w = refl
drop-lay (r ∷ rs) s k w =
    drop-lay rs (put_le r.width s r.at r.value) k (both_right (leb (r.at + r.width) k) (within k rs) w)
    ∙ drop-sets-after (le r.width r.value) s r.at k
    (rw (length-le r.width r.value) (leb→le (r.at + r.width) k (both_left (leb (r.at + r.width) k) (within k rs) w)))

pub holds-append : (ps qs : List Row) (s : List ℕ) → holds s (ps ++ qs) ≡ (holds s ps && holds s qs)
unfolding holds
holds-append [] qs s = refl
holds-append (p ∷ ps) qs s =
    let here : Bool = eqb (read_le p.width s p.at) p.value in
    ap (λ (t : Bool). here && t) (holds-append ps qs s) ∙ sym (and_assoc here (holds s ps) (holds s qs))
