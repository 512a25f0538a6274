-- The kinds in order: what one kind tells of where the blank sectors begin, and that both sides of that place tell whether the kinds are in order.
-- Assumes nothing.
use Prim.Native.Nat.{ℕ, zero, suc, ◌+◌, ◌-◌, ◌%◌, ◌≤◌, ◌<◌, max}
use native.Mathlib.Nat.{not-suc-le-zero, le_of_suc-le-suc}
use native.Mathlib.Omega.{arith}
use mathlib.Core.Path.{◌≡◌, refl, sym, ap, ◌∙◌}
use mathlib.Core.Bool.{Bool, true, false, not, ◌&&◌}
use mathlib.Core.List.{List, [], ◌∷◌}
use Rattle.std.proofs.Common.{◌⊎◌, inl, inr}
use lib.Dec.{eqb, ltb, leb}
use lib.ListN.{length, get_or, take}
use Rattle.std.specs.List.Sorted.{IsPartitionPoint, IsPartitionedBy}
use Rattle.std.proofs.lemmas.List.{get_or_default}
use Rattle.std.proofs.lemmas.Bool.{cases_order}
use borrow.Author.Tests.{not-false, eq-eqb, ne_eqb, eqb-true, eqb-false, ltb-true, ltb-false, lt-ltb, le-leb, leb-true, not-true}
use Rattle.le.specs.Bytes.{every}
use Rattle.le.proofs.Rows.{and_left, and_right}
use Rattle.le.proofs.Halves.{both_true, same_bool}
use Rattle.std.specs.Bool.{then_some}
use Rattle.std.specs.Prelude.{Some, None, if◌then◌else◌}
use Rattle.disc.specs.Disc.{counted, leading, in_order, recorded_of}
use Rattle.disc.proofs.Recording.{blank_from, blank-kind, leading_le}

-- the kinds before r are recorded ones
abbrev pub recorded_to : List ℕ → ℕ → Bool
recorded_to ks r = every (λ k. ltb 0 k && leb k 3) (take r ks)

-- ---- one kind

positive : (x : ℕ) → (x ≡ 0 → ⊥) → 0 < x
positive zero h = absurd (h refl)
positive (suc x) h = omega arith

pub leading-at-blank : (ks : List ℕ) (i : ℕ) → get_or ks i 0 ≡ 0 → leading ks ≤ i
unfolding leading
leading-at-blank [] i e = omega arith
leading-at-blank (k ∷ ks) zero e = rw (eq-eqb k 0 e) (omega arith)
leading-at-blank (k ∷ ks) (suc i) e = go (eqb k 0) (leading-at-blank ks i e)
  where
    go : (t : Bool) → leading ks ≤ i → counted t (leading ks) ≤ suc i
    go true h = omega arith
    go false h = omega arith

pub leading-past-recorded : (ks : List ℕ) (i : ℕ) → in_order ks ≡ true → (get_or ks i 0 ≡ 0 → ⊥) → i < leading ks
unfolding in_order
leading-past-recorded ks i e nz = go (ltb i (leading ks)) refl
  where
    go : (t : Bool) → ltb i (leading ks) ≡ t → i < leading ks
    go true h = ltb-true i (leading ks) h
    go false h =
        absurd (nz (blank-kind ks (leading ks) i (and_right (every (λ k. leb k 3) ks) (blank_from ks (leading ks)) e) (ltb-false i (leading ks) h)))

-- ---- where the blank ones begin

-- the test by which the place is searched
abbrev pub not-blank : ℕ → Bool
not-blank k = not (eqb k 0)

-- of kinds in order, none that is not blank stands behind one that is
pub order-parts : (ks : List ℕ) → in_order ks ≡ true → IsPartitionedBy not-blank ks
order-parts ks e i j d le lt held =
    let past : j < leading ks = leading-past-recorded ks j e (λ z. eqb-false (get_or ks j d) 0 (not-true (eqb (get_or ks j d) 0) held) (get_or_default ks j d 0 lt ∙ z)) in
    ap not (ne_eqb (get_or ks i d) 0 (λ z. omega (arith, past, leading-at-blank ks i (sym (get_or_default ks i d 0 (omega arith)) ∙ z))))

-- the place that such a search finds
pub point-leading : (ks : List ℕ) (r : ℕ) → in_order ks ≡ true → r ≤ length ks
    → IsPartitionPoint (λ k. not-blank k ≡ true) (λ k. not-blank k ≡ false) ks r → r ≡ leading ks
point-leading ks r e h point = go (cases_order r (leading ks))
  where
    go : (r ≡ leading ks) ⊎ ((r < leading ks) ⊎ (leading ks < r)) → r ≡ leading ks
    go (inl same) = same
    go (inr (inl low)) =
        let blank : get_or ks r 0 ≡ 0 = eqb-true (get_or ks r 0) 0 (not-false (eqb (get_or ks r 0) 0) (point.1 r 0 (omega arith) (omega (arith, leading_le ks)))) in
        absurd (omega (arith, low, leading-at-blank ks r blank))
    go (inr (inr high)) =
        let past : leading ks < leading ks = leading-past-recorded ks (leading ks) e (eqb-false (get_or ks (leading ks) 0) 0 (not-true (eqb (get_or ks (leading ks) 0) 0) (point.0 (leading ks) 0 (omega arith) high))) in
        absurd (omega (arith, past))

-- ---- of two

-- the largest of two is within a bound exactly if both are
pub max-within : (a b n : ℕ) → leb (max a b) n ≡ (leb a n && leb b n)
max-within a b n = same_bool (leb (max a b) n) (leb a n && leb b n) forth back
  where
    forth : leb (max a b) n ≡ true → (leb a n && leb b n) ≡ true
    forth e = let within = leb-true (max a b) n e in both_true (leb a n) (leb b n) (le-leb a n (omega arith)) (le-leb b n (omega arith))

    back : (leb a n && leb b n) ≡ true → leb (max a b) n ≡ true
    back e = let x = leb-true a n (and_left (leb a n) (leb b n) e) in let y = leb-true b n (and_right (leb a n) (leb b n) e) in le-leb (max a b) n (omega arith)

-- ---- a byte from one kind to another

-- less the first, and wrapped, one bound tells it
pub wrapped-within : (k first last : ℕ) → k < 256 → first ≤ last → last < 256 → leb ((k + (256 - first)) % 256) (last - first) ≡ (leb first k && leb k last)
wrapped-within k first last byte up small = same_bool (leb ((k + (256 - first)) % 256) (last - first)) (leb first k && leb k last) forth back
  where
    forth : leb ((k + (256 - first)) % 256) (last - first) ≡ true → (leb first k && leb k last) ≡ true
    forth e = let within = leb-true ((k + (256 - first)) % 256) (last - first) e in both_true (leb first k) (leb k last) (le-leb first k (omega arith)) (le-leb k last (omega arith))

    back : (leb first k && leb k last) ≡ true → leb ((k + (256 - first)) % 256) (last - first) ≡ true
    back e =
        let low = leb-true first k (and_left (leb first k) (leb k last) e) in
        let high = leb-true k last (and_right (leb first k) (leb k last) e) in
        le-leb ((k + (256 - first)) % 256) (last - first) (omega arith)

-- from a kind to itself there is no other
one-kind : (n k : ℕ) → (leb n k && leb k n) ≡ eqb k n
one-kind n k = same_bool (leb n k && leb k n) (eqb k n) forth back
  where
    forth : (leb n k && leb k n) ≡ true → eqb k n ≡ true
    forth e =
        let low = leb-true n k (and_left (leb n k) (leb k n) e) in
        let high = leb-true k n (and_right (leb n k) (leb k n) e) in
        eq-eqb k n (omega arith)

    back : eqb k n ≡ true → (leb n k && leb k n) ≡ true
    back e = let same = eqb-true k n e in both_true (leb n k) (leb k n) (le-leb n k (omega arith)) (le-leb k n (omega arith))

pub every-one : (n : ℕ) (ks : List ℕ) → every (λ k. leb n k && leb k n) ks ≡ every (λ k. eqb k n) ks
unfolding every
every-one n [] = refl
every-one n (k ∷ ks) = rw (one-kind n k, every-one n ks)

-- ---- both sides

blank-known : (ks : List ℕ) → every (λ k. eqb k 0) ks ≡ true → every (λ k. leb k 3) ks ≡ true
unfolding every
blank-known [] e = refl
blank-known (k ∷ ks) e =
    let z : k ≡ 0 = eqb-true k 0 (and_left (eqb k 0) (every (λ k. eqb k 0) ks) e) in
    both_true (leb k 3) (every (λ k. leb k 3) ks) (le-leb k 3 (omega arith)) (blank-known ks (and_right (eqb k 0) (every (λ k. eqb k 0) ks) e))

-- one recorded kind in front
first-recorded : (k : ℕ) (rest : Bool) → ((ltb 0 k && leb k 3) && rest) ≡ true → (0 < k) × (leb k 3 ≡ true) × (rest ≡ true)
first-recorded k rest e =
    let one : (ltb 0 k && leb k 3) ≡ true = and_left (ltb 0 k && leb k 3) rest e in
    (ltb-true 0 k (and_left (ltb 0 k) (leb k 3) one), and_right (ltb 0 k) (leb k 3) one, and_right (ltb 0 k && leb k 3) rest e)

-- recorded kinds, then blank ones: they are known, and the blank ones begin there
sides-known : (ks : List ℕ) (r : ℕ) → recorded_to ks r ≡ true → blank_from ks r ≡ true → every (λ k. leb k 3) ks ≡ true
unfolding every
sides-known [] r p q = refl
sides-known (k ∷ ks) zero p q = blank-known (k ∷ ks) q
sides-known (k ∷ ks) (suc r) p q =
    let f : (0 < k) × (leb k 3 ≡ true) × (recorded_to ks r ≡ true) = first-recorded k (recorded_to ks r) p in
    both_true (leb k 3) (every (λ k. leb k 3) ks) f.1 (sides-known ks r f.2 q)

sides-leading : (ks : List ℕ) (r : ℕ) → r ≤ length ks → recorded_to ks r ≡ true → blank_from ks r ≡ true → leading ks ≡ r
unfolding every leading
sides-leading [] zero h p q = refl
sides-leading [] (suc r) h p q = absurd (not-suc-le-zero h)
sides-leading (k ∷ ks) zero h p q = rw (and_left (eqb k 0) (every (λ k. eqb k 0) ks) q)
sides-leading (k ∷ ks) (suc r) h p q =
    let f : (0 < k) × (leb k 3 ≡ true) × (recorded_to ks r ≡ true) = first-recorded k (recorded_to ks r) p in
    let nz : eqb k 0 ≡ false = ne_eqb k 0 (λ z. omega (arith, f.0)) in
    rw nz (ap suc (sides-leading ks r (le_of_suc-le-suc h) f.2 q))

-- known kinds are recorded ones up to the first blank one
recorded-leading : (ks : List ℕ) → every (λ k. leb k 3) ks ≡ true → recorded_to ks (leading ks) ≡ true
unfolding every leading
recorded-leading [] e = refl
recorded-leading (k ∷ ks) e = go (eqb k 0) refl (recorded-leading ks (and_right (leb k 3) (every (λ k. leb k 3) ks) e))
  where
    go : (t : Bool) → eqb k 0 ≡ t → recorded_to ks (leading ks) ≡ true → recorded_to (k ∷ ks) (counted t (leading ks)) ≡ true
    go true z ih = refl
    go false z ih =
        both_true (ltb 0 k && leb k 3) (recorded_to ks (leading ks))
        (both_true (ltb 0 k) (leb k 3) (lt-ltb 0 k (positive k (eqb-false k 0 z))) (and_left (leb k 3) (every (λ k. leb k 3) ks) e)) ih

-- the two sides of the place that halving finds tell whether the kinds are in order
pub sides-tell : (ks : List ℕ) (r : ℕ) → r ≤ length ks → (in_order ks ≡ true → r ≡ leading ks) → (recorded_to ks r && blank_from ks r) ≡ in_order ks
unfolding in_order
sides-tell ks r h at =
    same_bool (recorded_to ks r && blank_from ks r) (every (λ k. leb k 3) ks && blank_from ks (leading ks)) forth back
  where
    forth : (recorded_to ks r && blank_from ks r) ≡ true → (every (λ k. leb k 3) ks && blank_from ks (leading ks)) ≡ true
    forth e =
        let p : recorded_to ks r ≡ true = and_left (recorded_to ks r) (blank_from ks r) e in
        let q : blank_from ks r ≡ true = and_right (recorded_to ks r) (blank_from ks r) e in
        both_true (every (λ k. leb k 3) ks) (blank_from ks (leading ks)) (sides-known ks r p q)
        (ap (blank_from ks) (sides-leading ks r h p q) ∙ q)

    back : (every (λ k. leb k 3) ks && blank_from ks (leading ks)) ≡ true → (recorded_to ks r && blank_from ks r) ≡ true
    back e =
        both_true (recorded_to ks r) (blank_from ks r)
        (ap (recorded_to ks) (at e) ∙ recorded-leading ks (and_left (every (λ k. leb k 3) ks) (blank_from ks (leading ks)) e))
        (ap (blank_from ks) (at e) ∙ and_right (every (λ k. leb k 3) ks) (blank_from ks (leading ks)) e)

-- and then how many are recorded
pub point-counts : (ks : List ℕ) (r : ℕ) → (in_order ks ≡ true → r ≡ leading ks) → then_some (in_order ks) r ≡ recorded_of ks
point-counts ks r at = go (in_order ks) at
  where
    go : (t : Bool) → (t ≡ true → r ≡ leading ks) → then_some t r ≡ (if t then Some (leading ks) else None)
    go true at = ap Some (at refl)
    go false at = refl
