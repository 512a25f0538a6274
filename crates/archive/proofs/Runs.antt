-- A run lies below its entry, so what follows on the disc does not touch it: of two discs with the same data below block r the same sectors there are
-- entries, and their runs hold the same bytes.
--     entry-same   whether a sector is an entry
--     run-same     what its run holds
-- Assumes nothing.
use Prim.Native.Nat.{ℕ, zero, suc, ◌+◌, ◌*◌, ◌≤◌, ◌<◌}
use native.Mathlib.Omega.{arith}
use mathlib.Core.Path.{◌≡◌, refl, sym, ap, ap₂, ◌∙◌}
use mathlib.Core.Bool.{Bool, true, false, ◌&&◌}
use mathlib.Core.List.{List, [], ◌∷◌, ◌++◌}
use lib.Dec.{eqb, ltb, leb}
use lib.ListN.{length, take, drop}
use lib.Seq.{drop-cons, take-add, take-take, drop-drop}
use borrow.Author.Tests.{leb-true}
use Rattle.le.specs.Bytes.{every}
use Rattle.le.proofs.Rows.{and_left, and_right}
use Rattle.vat.specs.Table.{sector_length}
use Rattle.extent.specs.declared.Extent.{Extent}
use Rattle.disc.specs.Disc.{Disc, kind_at, sector_at, readable, content}
use Rattle.run.specs.Entry.{extents_of, sectors_for, lies, whole_before, laid, is_entry, entry_at, extents_at, extent_bytes, run_bytes}
use Rattle.run.proofs.Theorems.{Lies, Laid, laid-tells, recognised}
use Rattle.history.proofs.Log.{none-some, some_same}

-- ---- what is read of a sector

readable-same : (t u : Bool) (x y : List ℕ) → readable t x ≡ readable u y → (t ≡ u) × (u ≡ true → x ≡ y)
readable-same true true x y e = (refl, λ z. some_same x y e)
readable-same true false x y e = absurd (none-some x (sym e))
readable-same false true x y e = absurd (none-some y e)
readable-same false false x y e = (refl, λ z. absurd (mathlib.Core.Bool.false≢true z))

-- a test behind one that fails is not asked
behind-true : (t p q : Bool) → (t ≡ true → p ≡ q) → (t && p) ≡ (t && q)
behind-true true p q h = h refl
behind-true false p q h = refl

-- the bytes of sectors from block a on: those of the first and those of the others
pub sectors-split : (n a : ℕ) (image : List ℕ)
    → take (sector_length * suc n) (drop (sector_length * a) image)
    ≡ take sector_length (drop (sector_length * a) image) ++ take (sector_length * n) (drop (sector_length * suc a) image)
sectors-split n a image =
    let more : sector_length * suc n ≡ sector_length + sector_length * n = omega arith in
    let further : sector_length * a + sector_length ≡ sector_length * suc a = omega arith in
    ap (λ (k : ℕ). take k (drop (sector_length * a) image)) more
    ∙ take-add sector_length (sector_length * n) (drop (sector_length * a) image)
    ∙ ap (λ (rest : List ℕ). take sector_length (drop (sector_length * a) image) ++ take (sector_length * n) rest)
    (drop-drop sector_length (sector_length * a) image ∙ ap (λ (k : ℕ). drop k image) further)

-- ---- on discs with the same data below block r

pub record SameBelow (r : ℕ) (d d' : Disc) : Type 0 where
  pub sectors : r ≤ length d.kinds
  pub sectors' : r ≤ length d'.kinds
  pub contents : (b : ℕ) → b < r → content d' b ≡ content d b

module _ {r : ℕ} {d d' : Disc} (e : SameBelow r d d') where
  at_block : (b : ℕ) → b < r → (eqb (kind_at d' b) 1 ≡ eqb (kind_at d b) 1) × (eqb (kind_at d b) 1 ≡ true → sector_at d' b ≡ sector_at d b)
  unfolding content
  at_block b h = readable-same (eqb (kind_at d' b) 1) (eqb (kind_at d b) 1) (sector_at d' b) (sector_at d b) (e.contents b h)

  pub data-same : (b : ℕ) → b < r → eqb (kind_at d' b) 1 ≡ eqb (kind_at d b) 1
  data-same b h = (at_block b h).0

  pub sector-same : (b : ℕ) → b < r → eqb (kind_at d b) 1 ≡ true → sector_at d' b ≡ sector_at d b
  sector-same b h = (at_block b h).1

  kinds-same : (n a : ℕ) → a + n ≤ r → every (λ k. eqb k 1) (take n (drop a d'.kinds)) ≡ every (λ k. eqb k 1) (take n (drop a d.kinds))
  unfolding every
  kinds-same zero a h = refl
  kinds-same (suc n) a h =
      let there : a < length d.kinds = omega (arith, e.sectors) in
      let there' : a < length d'.kinds = omega (arith, e.sectors') in
      rw (drop-cons d'.kinds a 0 there', drop-cons d.kinds a 0 there)
      (ap₂ (λ (p q : Bool). p && q) (data-same a (omega arith)) (kinds-same n (suc a) (omega arith)))

  bytes_same : (n a : ℕ) → a + n ≤ r → every (λ k. eqb k 1) (take n (drop a d.kinds)) ≡ true
      → take (sector_length * n) (drop (sector_length * a) d'.image) ≡ take (sector_length * n) (drop (sector_length * a) d.image)
  unfolding every sector_at
  bytes_same zero a h k = refl
  bytes_same (suc n) a h k =
      let there : a < length d.kinds = omega (arith, e.sectors) in
      let rest : Bool = every (λ k. eqb k 1) (take n (drop (suc a) d.kinds)) in
      let k₁ : (eqb (kind_at d a) 1 && rest) ≡ true = rw (drop-cons d.kinds a 0 there) at k in
      sectors-split n a d'.image
      ∙ ap₂ (λ (xs ys : List ℕ). xs ++ ys) (sector-same a (omega arith) (and_left (eqb (kind_at d a) 1) rest k₁)) (bytes_same n (suc a) (omega arith) (and_right (eqb (kind_at d a) 1) rest k₁))
      ∙ sym (sectors-split n a d.image)

  -- ---- extents below block b

  module _ (b : ℕ) (low : b ≤ r) where
    lies_same : (x : Extent) → lies d'.kinds b x ≡ lies d.kinds b x
    unfolding lies
    lies_same x =
        let n : ℕ = sectors_for x in
        ap (λ (t : Bool). ltb 0 x.length && (ltb x.length 1073741824 && t))
        (behind-true (leb (x.location + n) b) (every (λ k. eqb k 1) (take n (drop x.location d'.kinds))) (every (λ k. eqb k 1) (take n (drop x.location d.kinds)))
        (λ below. kinds-same n x.location (omega (arith, leb-true (x.location + n) b below))))

    laid_same : (xs : List Extent) → laid d'.kinds b xs ≡ laid d.kinds b xs
    unfolding laid
    laid_same [] = refl
    laid_same (x ∷ xs) = ap₂ (λ (p q : Bool). p && (whole_before x xs && q)) (lies_same x) (laid_same xs)

    extent-same : (x : Extent) → Lies d.kinds b x → extent_bytes d' x ≡ extent_bytes d x
    unfolding extent_bytes
    extent-same x l =
        let n : ℕ = sectors_for x in
        let short : x.length ≤ sector_length * n = omega arith in
        sym (take-take x.length (sector_length * n) (drop (sector_length * x.location) d'.image) short)
        ∙ ap (take x.length) (bytes_same n x.location (omega (arith, l.below)) l.on-data)
        ∙ take-take x.length (sector_length * n) (drop (sector_length * x.location) d.image) short

    run-laid : (xs : List Extent) → laid d.kinds b xs ≡ true → run_bytes d' xs ≡ run_bytes d xs
    unfolding run_bytes
    run-laid [] l = refl
    run-laid (x ∷ xs) l =
        let parts : Laid d.kinds b x xs = laid-tells d.kinds b x xs l in
        ap₂ (λ (ys zs : List ℕ). ys ++ zs) (extent-same x parts.first) (run-laid xs parts.rest)

  -- ---- a data sector

  module _ (b : ℕ) (inside : b < r) (holding : eqb (kind_at d b) 1 ≡ true) where
    pub extents-same : extents_at d' b ≡ extents_at d b
    extents-same = ap extents_of (sector-same b inside holding)

    pub entry-same : entry_at d' b ≡ entry_at d b
    unfolding is_entry
    entry-same =
        let s : List ℕ = sector_at d b in
        ap (λ (x : List ℕ). is_entry d'.kinds x b) (sector-same b inside holding) ∙ rw (laid_same b (omega arith) (extents_of s))

    pub run-same : entry_at d b ≡ true → run_bytes d' (extents_at d' b) ≡ run_bytes d (extents_at d b)
    run-same is = ap (run_bytes d') extents-same ∙ run-laid b (omega arith) (extents_at d b) (recognised d.kinds (sector_at d b) b is).extents-laid
