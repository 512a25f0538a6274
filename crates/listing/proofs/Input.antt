-- The input's first line, its digits and its kinds, on plain values.
-- Assumes nothing.
use Prim.Native.Nat.{ℕ, zero, suc, ◌+◌, ◌-◌, ◌*◌, ◌≤◌, ◌<◌}
use native.Mathlib.Nat.{not-suc-le-zero}
use native.Mathlib.Numerals.{add-one}
use native.Mathlib.Nat.{add-zero, zero-add, add-suc}
use native.Mathlib.Omega.{arith}
use mathlib.Core.Path.{◌≡◌, refl, sym, ap, ◌∙◌}
use mathlib.Core.Bool.{Bool, true, false, ◌&&◌, not}
use mathlib.Core.List.{List, [], ◌∷◌, ◌++◌}
use lib.Dec.{eqb}
use lib.ListN.{length, get_or, take, drop, set, replicate, length-drop}
use lib.Seq.{sets, sets-eq, drop-cons, take_at, take_all}
use borrow.Author.Tests.{eq-eqb, ne_eqb, eqb-true}
use Rattle.std.specs.Prelude.{Option, None, Some, MatchOption, unwrap_or}
use Rattle.le.specs.Bytes.{every, holds_text}
use Rattle.le.proofs.Rows.{and_left}
use Rattle.vat.specs.Table.{sector_length}
use Rattle.disc.specs.Disc.{lent}
use Rattle.le.proofs.Halves.{and-false}
use Rattle.listing.specs.Text.{column, newline, refused_line}
use Rattle.listing.specs.Listing.{first_line, most_listed, count_up_to, digits_of, image_of, is_kind_digit, formed, kinds_of, listed_if, listed, listing}
use Rattle.listing.proofs.Lines.{length-column, length-refused}
use Rattle.listing.proofs.Rows.{listed-short}

pub line-put : (n : ℕ) → sets (replicate 9 10) 0 (column 7 n) ≡ first_line n
unfolding first_line
line-put n =
    let long : length (column 7 n) ≡ 8 = length-column 7 n in
    sets-eq (column 7 n) (replicate 9 10) 0 (omega (arith, long)) ∙ ap (λ (k : ℕ). column 7 n ++ drop (0 + k) (replicate 9 10)) long

pub count-this : (n : ℕ) (s : List ℕ) → 0 < n → holds_text s 0 (first_line n) ≡ true → count_up_to n s ≡ n
unfolding count_up_to
count-this zero s h e = absurd (not-suc-le-zero h)
count-this (suc n) s h e = rw e

pub count_none : (s : List ℕ) → count_up_to 0 s ≡ 0
unfolding count_up_to
count_none s = refl

count-skips : (s : List ℕ) (n more : ℕ) → ((k : ℕ) → n < k → k ≤ n + more → holds_text s 0 (first_line k) ≡ false) → count_up_to (n + more) s ≡ count_up_to n s
unfolding count_up_to
count-skips s n zero none = rw add-zero
count-skips s n (suc more) none = rw (add-suc, none (suc (n + more)) (omega arith) (omega arith)) (count-skips s n more (λ k low high. none k low (omega arith)))

-- What a search from most on found: a count that the line gives, and that it gives none above. Each is told beside a place of the input, where `grind` meets the number.
abbrev pub NoneAbove : List ℕ → ℕ → ℕ → Type 0
NoneAbove s n most = (k x : ℕ) → n < k → k ≤ most → get_or s k 0 ≡ x → holds_text s 0 (first_line k) ≡ false

pub count-found : (s : List ℕ) (most : ℕ) (r : Option ℕ) → MatchOption r (NoneAbove s 0 most) (λ n. (0 < n) × (n ≤ most) × (holds_text s 0 (first_line n) ≡ true) × NoneAbove s n most)
    → unwrap_or r 0 ≡ count_up_to most s
count-found s most None none = sym (count_none s) ∙ sym (count-skips s 0 most (λ k low high. none k _ low (omega arith) refl)) ∙ ap (λ (k : ℕ). count_up_to k s) (zero-add most)
count-found s most (Some n) f =
    let whole : n + (most - n) ≡ most = omega (arith, f.1) in
    sym (count-this n s f.0 f.2) ∙ sym (count-skips s n (most - n) (λ k low high. f.3 k _ low (omega (arith, f.1)) refl)) ∙ ap (λ (k : ℕ). count_up_to k s) whole

pub length-kinds : (digits : List ℕ) → length (kinds_of digits) ≡ length digits
unfolding kinds_of
length-kinds [] = refl
length-kinds (x ∷ xs) = ap suc (length-kinds xs)

pub kind-put : (kinds digits : List ℕ) (i : ℕ) → i < length digits
    → sets (set kinds i (get_or digits i 0 - 48)) (i + 1) (kinds_of (drop (i + 1) digits)) ≡ sets kinds i (kinds_of (drop i digits))
unfolding kinds_of
kind-put kinds digits i h = rw (drop-cons digits i 0 h, add-one i)

-- ---- the whole

-- what a formed input tells of its length
pub formed-length : (n : ℕ) (s : List ℕ) → formed n s ≡ true → length s ≡ 10 + n + sector_length * n
unfolding formed
formed-length n s e = eqb-true (length s) (10 + n + sector_length * n) (and_left (eqb (length s) (10 + n + sector_length * n)) (every is_kind_digit (digits_of n s) && eqb (get_or s (9 + n) 0) newline) e)

short : (n : ℕ) (s : List ℕ) → length s < 9 → formed n s ≡ false
unfolding formed
short n s h = rw (ne_eqb (length s) (10 + n + sector_length * n) (λ e. omega arith))

module _ (s : List ℕ) where
  abbrev counted : ℕ
  counted = count_up_to most_listed s

  not-the-form : (not (eqb counted 0) && formed counted s) ≡ false → refused_line 1 ≡ listing s
  unfolding listing
  not-the-form e = rw e

  pub too_short : length s < 9 → refused_line 1 ≡ listing s
  too_short h = not-the-form (and-false (not (eqb counted 0)) (formed counted s) (short counted s h))

  pub no-count : counted ≡ 0 → refused_line 1 ≡ listing s
  no-count e = not-the-form (ap (λ (t : Bool). not t && formed counted s) (eq-eqb counted 0 e))

  pub not-formed : formed counted s ≡ false → refused_line 1 ≡ listing s
  not-formed e = not-the-form (and-false (not (eqb counted 0)) (formed counted s) e)

  pub of-the-form : (counted ≡ 0 → ⊥) → formed counted s ≡ true → listed (lent (image_of counted s) (kinds_of (digits_of counted s))) ≡ listing s
  unfolding listing
  of-the-form z e = rw (ne_eqb counted 0 z, e)

  pub listing-short : length (listing s) ≤ 832
  unfolding listing
  listing-short = go (not (eqb counted 0) && formed counted s)
    where
      go : (t : Bool) → length (listed_if t (listed (lent (image_of counted s) (kinds_of (digits_of counted s)))) (refused_line 1)) ≤ 832
      go true = listed-short (lent (image_of counted s) (kinds_of (digits_of counted s)))
      go false = omega (arith, length-refused 1)

-- the kinds in the front of their array
pub front : (kinds digits : List ℕ) (n : ℕ) → length digits ≡ n → take (n - 0) (drop 0 (take 0 kinds ++ (kinds_of digits ++ drop (n - 0) (drop 0 kinds)))) ≡ kinds_of digits
front kinds digits n e =
    let none : n - 0 ≡ n = omega arith in
    ap (λ (k : ℕ). take k (kinds_of digits ++ drop k kinds)) none ∙ take_at (kinds_of digits) (drop n kinds) n (length-kinds digits ∙ e)

pub behind : (s : List ℕ) (at end : ℕ) → end ≡ length s → take (end - at) (drop at s) ≡ drop at s
behind s at end e = take_all (end - at) (drop at s) (omega (arith, length-drop at s))
