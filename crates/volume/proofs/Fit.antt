-- The entries in two parts, as the ledger holds them, and the state's fit to a disc by the parts that are tested. Then an array that is filled in order.
-- Assumes nothing.
use Prim.Native.Nat.{ℕ, zero, suc, ◌+◌, ◌-◌, ◌*◌, ◌≤◌, ◌<◌}
use native.Mathlib.Nat.{add-zero, zero-add, suc-add}
use native.Mathlib.Omega.{arith}
use mathlib.Core.Path.{◌≡◌, refl, sym, ap, ap₂, ◌∙◌}
use mathlib.Core.Bool.{Bool, false, ◌&&◌, ◌||◌, not}
use mathlib.Core.List.{List, [], ◌∷◌, ◌++◌}
use lib.Dec.{eqb, ltb, leb}
use lib.ListN.{get_or, take, drop}
use lib.Seq.{take_at, drop_at}
use borrow.Author.Tests.{eq-eqb, ne_eqb, le-leb, lt-leb, le-ltb}
use Rattle.le.specs.Bytes.{every}
use Rattle.le.specs.Field.{read_le, words}
use Rattle.le.proofs.Runs.{words-none, words_step, length-words}
use Rattle.vat.specs.Table.{limit, unused, unused_or_below}
use Rattle.disc.specs.Disc.{Disc, recorded}
use Rattle.disc.specs.Tables.{table_at}
use Rattle.le.proofs.Halves.{and-false}
use Rattle.volume.specs.declared.Volume.{Volume}
use Rattle.volume.specs.Volume.{places, packet_open, read_only, unpack, is_unused, map_of, fits}

-- ---- the entries in two parts

words-add : (m n : ℕ) (s : List ℕ) (at : ℕ) → words (m + n) s at ≡ words m s at ++ words n s (at + 4 * m)
words-add zero n s at =
    ap₂ (λ (k p : ℕ). words k s p) (zero-add n) (sym (add-zero at)) ∙ sym (ap (λ (l : List ℕ). l ++ words n s (at + 4 * 0)) (words-none s at))
words-add (suc m) n s at =
    let on : at + 4 + 4 * m ≡ at + 4 * suc m = omega arith in
    ap (λ (k : ℕ). words k s at) (suc-add m n) ∙ words_step (m + n) s at
    ∙ ap {B = List ℕ} (λ l. read_le 4 s at ∷ l) (words-add m n s (at + 4) ∙ ap (λ (p : ℕ). words m s (at + 4) ++ words n s p) on)
    ∙ sym (ap (λ (l : List ℕ). l ++ words n s (at + 4 * suc m)) (words_step m s at))

parts : (l : List ℕ) (k : ℕ) → k ≤ places → words places l 0 ≡ words k l 0 ++ words (places - k) l (4 * k)
parts l k h =
    let all : k + (places - k) ≡ places = omega arith in
    ap (λ (n : ℕ). words n l 0) (sym all) ∙ words-add k (places - k) l 0 ∙ ap (λ (p : ℕ). words k l 0 ++ words (places - k) l p) (zero-add (4 * k))

pub entries_below : (l : List ℕ) (k : ℕ) → k ≤ places → take k (unpack l).entries ≡ words k l 0
unfolding unpack
entries_below l k h = ap (take k) (parts l k h) ∙ take_at (words k l 0) (words (places - k) l (4 * k)) k (length-words k l 0)

pub entries-beyond : (l : List ℕ) (k : ℕ) → k ≤ places → drop k (unpack l).entries ≡ words (places - k) l (4 * k)
unfolding unpack
entries-beyond l k h = ap (drop k) (parts l k h) ∙ drop_at (words k l 0) (words (places - k) l (4 * k)) k (length-words k l 0)

-- ---- the fit

-- no block lies below 0: to name none of them is to be unused
below-zero : (x : ℕ) → unused_or_below 0 x ≡ is_unused x
below-zero x = ap (λ (t : Bool). t || eqb x unused) (le-ltb x 0 (omega arith))

pub all-below-zero : (xs : List ℕ) → every (unused_or_below 0) xs ≡ every is_unused xs
unfolding every
all-below-zero [] = refl
all-below-zero (x ∷ xs) = ap₂ ◌&&◌ (below-zero x) (all-below-zero xs)

-- what is tested of the mode, on a disc with r sectors recorded
abbrev pub mode_fits : List ℕ → ℕ → ℕ → Bool
mode_fits kinds mode r = leb mode read_only && (not (eqb mode packet_open) || (ltb 0 r && eqb (get_or kinds (r - 1) 0) 1))

module _ (d : Disc) (v : Volume) where
  pub too_many : limit < v.size → fits d v ≡ false
  unfolding fits
  too_many h = rw (lt-leb v.size limit h)

  pub other-count : (v.recorded ≡ recorded d → ⊥) → fits d v ≡ false
  unfolding fits
  other-count h =
      let a : Bool = leb v.size limit in
      let b : Bool = every is_unused (drop v.size v.entries) in
      let c : Bool = every (unused_or_below v.recorded) (map_of v) in
      let f : Bool = eqb v.recorded (recorded d) in
      let rest : Bool = (eqb v.last unused || table_at d v.last) && mode_fits d.kinds v.mode v.recorded in
      and-false a (b && (c && (f && rest))) (and-false b (c && (f && rest)) (and-false c (f && rest) (ap (λ (t : Bool). t && rest) (ne_eqb v.recorded (recorded d) h))))

  pub fits-parts : v.size ≤ limit → v.recorded ≡ recorded d
      → fits d v
      ≡ (every is_unused (drop v.size v.entries)
      && (every (unused_or_below v.recorded) (map_of v) && ((eqb v.last unused || table_at d v.last) && mode_fits d.kinds v.mode v.recorded)))
  unfolding fits
  fits-parts few same = rw (le-leb v.size limit few, eq-eqb v.recorded (recorded d) same)
