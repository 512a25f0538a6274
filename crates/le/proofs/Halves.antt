-- A test of every number of a list that takes two in a turn, one of each half; where the halves overlap, some are tested twice.
--     left_of       what is left from a turn on
--     pair-taken   one turn
--     all_left     at the start all of the list is
--     none_left    at the end nothing is
-- Assumes nothing.
use Prim.Native.Nat.{ℕ, zero, suc, ◌+◌, ◌≤◌, ◌<◌}
use native.Mathlib.Nat.{not-suc-le-zero, le_of_suc-le-suc, add-zero}
use native.Mathlib.Numerals.{add-one}
use native.Mathlib.Omega.{arith}
use mathlib.Core.Path.{◌≡◌, refl, sym, ap, ◌∙◌}
use mathlib.Core.Bool.{Bool, true, false, ◌&&◌, and-true}
use mathlib.Core.List.{List, [], ◌∷◌}
use lib.ListN.{length, get_or, take, drop, drop_of_length-le}
use lib.Seq.{drop-cons, get_or-take, length-take-le}
use Rattle.le.specs.Bytes.{every}
use Rattle.le.proofs.Rows.{and_left, and_right}

pub and-false : (a b : Bool) → b ≡ false → (a && b) ≡ false
and-false true b e = e
and-false false b e = refl

pub both_true : (a b : Bool) → a ≡ true → b ≡ true → (a && b) ≡ true
both_true a b p q = rw (p, q)

pub same_bool : (a b : Bool) → (a ≡ true → b ≡ true) → (b ≡ true → a ≡ true) → a ≡ b
same_bool true true f g = refl
same_bool true false f g = sym (f refl)
same_bool false true f g = g refl
same_bool false false f g = refl

-- what is left of both halves from turn i on
abbrev pub left_of : (ℕ → Bool) → List ℕ → ℕ → ℕ → ℕ → Bool → Bool
left_of f ks half turns i held = (held && every f (drop i (take turns ks))) && every f (drop (half + i) ks)

turned : (h a b p q : Bool) → (((h && (a && b)) && p) && q) ≡ ((h && (a && p)) && (b && q))
turned true true true p q = refl
turned true true false p q = sym (and-false p false refl)
turned true false b p q = refl
turned false a b p q = refl

every_drop : (f : ℕ → Bool) (ks : List ℕ) (i : ℕ) → i < length ks → every f (drop i ks) ≡ (f (get_or ks i 0) && every f (drop (suc i) ks))
unfolding every
every_drop f ks i h = rw (drop-cons ks i 0 h)

pub pair-taken : (f : ℕ → Bool) (ks : List ℕ) (half turns i : ℕ) (held : Bool) → i < turns → half + turns ≡ length ks
    → left_of f ks half turns (i + 1) (held && (f (get_or ks i 0) && f (get_or ks (half + i) 0))) ≡ left_of f ks half turns i held
pair-taken f ks half turns i held h all =
    let long : length (take turns ks) ≡ turns = length-take-le turns ks (omega arith) in
    let x : Bool = f (get_or ks i 0) in
    let y : Bool = f (get_or ks (half + i) 0) in
    let same : get_or (take turns ks) i 0 ≡ get_or ks i 0 = get_or-take turns ks i 0 h in
    let first : every f (drop i (take turns ks)) ≡ (x && every f (drop (suc i) (take turns ks))) =
    every_drop f (take turns ks) i (omega (arith, long)) ∙ ap (λ (k : ℕ). f k && every f (drop (suc i) (take turns ks))) same in
    let second : every f (drop (half + i) ks) ≡ (y && every f (drop (suc (half + i)) ks)) = every_drop f ks (half + i) (omega arith) in
    let next : half + (i + 1) ≡ suc (half + i) = omega arith in
    rw (first, second, next, add-one i) (turned held x y (every f (drop (suc i) (take turns ks))) (every f (drop (suc (half + i)) ks)))

every-taken : (f : ℕ → Bool) (ks : List ℕ) (n : ℕ) → every f ks ≡ true → every f (take n ks) ≡ true
unfolding every
every-taken f [] zero e = refl
every-taken f [] (suc n) e = refl
every-taken f (k ∷ ks) zero e = refl
every-taken f (k ∷ ks) (suc n) e =
    both_true (f k) (every f (take n ks)) (and_left (f k) (every f ks) e) (every-taken f ks n (and_right (f k) (every f ks) e))

every-dropped : (f : ℕ → Bool) (ks : List ℕ) (n : ℕ) → every f ks ≡ true → every f (drop n ks) ≡ true
unfolding every
every-dropped f ks zero e = e
every-dropped f [] (suc n) e = refl
every-dropped f (k ∷ ks) (suc n) e = every-dropped f ks n (and_right (f k) (every f ks) e)

every-covered : (f : ℕ → Bool) (ks : List ℕ) (half turns : ℕ) → half ≤ turns → every f (take turns ks) ≡ true → every f (drop half ks) ≡ true → every f ks ≡ true
unfolding every
every-covered f [] half turns h p q = refl
every-covered f (k ∷ ks) zero turns h p q = q
every-covered f (k ∷ ks) (suc half) zero h p q = absurd (not-suc-le-zero h)
every-covered f (k ∷ ks) (suc half) (suc turns) h p q =
    both_true (f k) (every f ks) (and_left (f k) (every f (take turns ks)) p)
    (every-covered f ks half turns (le_of_suc-le-suc h) (and_right (f k) (every f (take turns ks)) p) q)

-- at the start the halves are the whole list
pub all_left : (f : ℕ → Bool) (ks : List ℕ) (half turns : ℕ) → half ≤ turns → left_of f ks half turns 0 true ≡ every f ks
all_left f ks half turns h =
    let none : half + 0 ≡ half = add-zero half in
    rw none
    (same_bool (every f (take turns ks) && every f (drop half ks)) (every f ks)
    (λ e. every-covered f ks half turns h (and_left (every f (take turns ks)) (every f (drop half ks)) e) (and_right (every f (take turns ks)) (every f (drop half ks)) e))
    (λ e. both_true (every f (take turns ks)) (every f (drop half ks)) (every-taken f ks turns e) (every-dropped f ks half e)))

-- at the end nothing is left
pub none_left : (f : ℕ → Bool) (ks : List ℕ) (half turns i : ℕ) (held : Bool) → i ≡ turns → half + turns ≡ length ks → left_of f ks half turns i held ≡ held
unfolding every
none_left f ks half turns i held e all =
    let long : length (take turns ks) ≤ i = omega (arith, length-take-le turns ks (omega arith)) in
    let short : length ks ≤ half + i = omega arith in
    rw (drop_of_length-le (take turns ks) long, drop_of_length-le ks short, and-true (held && true), and-true held)
