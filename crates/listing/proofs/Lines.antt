-- Columns, put from the last digit on, and entries in use, counted.
-- Assumes nothing.
use Prim.Native.Nat.{ℕ, zero, suc, ◌+◌, ◌-◌, ◌/◌, ◌≤◌, ◌<◌}
use native.Mathlib.Omega.{arith}
use native.Mathlib.Numerals.{add-one}
use mathlib.Core.Path.{◌≡◌, refl, sym, ap, ◌∙◌}
use mathlib.Core.Bool.{Bool, true, false, not, cond}
use mathlib.Core.List.{List, [], ◌∷◌, ◌++◌}
use lib.Dec.{eqb}
use lib.ListN.{length, get_or, drop, set, length-append, drop_of_length-le}
use lib.Seq.{sets, set_comm, drop-cons}
use Rattle.std.specs.List.{filter, range_with_len}
use Rattle.le.specs.Field.{le}
use Rattle.le.proofs.Bytes.{sets-append}
use Rattle.vat.specs.Table.{unused}
use Rattle.listing.specs.Text.{digit, digit_or_blank, ahead, column, row_line, refused_line, counting, used}

-- ---- columns

pub length-ahead : (w n : ℕ) → length (ahead w n) ≡ w
unfolding ahead
length-ahead zero n = refl
length-ahead (suc w) n =
    let ih : length (ahead w (n / 10)) ≡ w = length-ahead w (n / 10) in
    length-append (ahead w (n / 10)) (digit_or_blank n ∷ []) ∙ ap (λ (k : ℕ). k + 1) ih ∙ add-one w

pub length-column : (w n : ℕ) → length (column w n) ≡ w + 1
unfolding column
length-column w n = length-append (ahead w (n / 10)) (digit n ∷ []) ∙ ap (λ (k : ℕ). k + 1) (length-ahead w (n / 10))

-- a byte behind a run may be put before it
set-behind : (us xs : List ℕ) (at p x : ℕ) → at + length us ≤ p → sets (set xs p x) at us ≡ set (sets xs at us) p x
set-behind [] xs at p x h = refl
set-behind (a ∷ us) xs at p x h =
    ap (λ (l : List ℕ). sets l (suc at) us) (set_comm xs p at x a (omega arith)) ∙ set-behind us (set xs at a) (suc at) p x (omega arith)

put-behind : (us xs : List ℕ) (at p x : ℕ) → at + length us ≡ p → sets (set xs p x) at us ≡ sets xs at (us ++ (x ∷ []))
put-behind us xs at p x e =
    set-behind us xs at p x (omega arith)
    ∙ ap (λ (k : ℕ). set (sets xs at us) k x) (sym e)
    ∙ sym (sets-append us (x ∷ []) xs at)

pub column-starts : (xs : List ℕ) (at w n : ℕ) → sets (set xs (at + w) (digit n)) at (ahead (at + w - at) (n / 10)) ≡ sets xs at (column w n)
unfolding column
column-starts xs at w n =
    let width : at + w - at ≡ w = omega arith in
    ap (λ (k : ℕ). sets (set xs (at + w) (digit n)) at (ahead k (n / 10))) width
    ∙ put-behind (ahead w (n / 10)) xs at (at + w) (digit n) (ap (λ (k : ℕ). at + k) (length-ahead w (n / 10)))

pub column-turn : (xs : List ℕ) (at place m : ℕ) → at < place
    → sets (set xs (place - 1) (digit_or_blank m)) at (ahead (place - 1 - at) (m / 10)) ≡ sets xs at (ahead (place - at) m)
unfolding ahead
column-turn xs at place m h =
    let left : ℕ = place - 1 - at in
    let wide : place - at ≡ suc left = omega arith in
    let spot : at + length (ahead left (m / 10)) ≡ place - 1 = omega (arith, length-ahead left (m / 10)) in
    put-behind (ahead left (m / 10)) xs at (place - 1) (digit_or_blank m) spot ∙ ap (λ (k : ℕ). sets xs at (ahead k m)) (sym wide)

pub column-ends : (xs : List ℕ) (at place m : ℕ) → place ≤ at → sets xs at (ahead (place - at) m) ≡ xs
unfolding ahead
column-ends xs at place m h =
    let none : place - at ≡ 0 = omega arith in
    ap (λ (k : ℕ). sets xs at (ahead k m)) none

-- ---- rows

four : (s a b c d e : List ℕ) (at : ℕ) → length a ≡ 4 → length b ≡ 8 → length c ≡ 6 → length d ≡ 6
    → sets (sets (sets (sets (sets s at a) (at + 4) b) (at + 12) c) (at + 18) d) (at + 24) e ≡ sets s at (a ++ (b ++ (c ++ (d ++ e))))
four s a b c d e at p q r t =
    let two : at + 4 + 8 ≡ at + 12 = omega arith in
    let three : at + 12 + 6 ≡ at + 18 = omega arith in
    let last : at + 18 + 6 ≡ at + 24 = omega arith in
    rw (sets-append a (b ++ (c ++ (d ++ e))) s at, p, sets-append b (c ++ (d ++ e)) (sets s at a) (at + 4), q, two, sets-append c (d ++ e) (sets (sets s at a) (at + 4) b) (at + 12), r, three, sets-append d e (sets (sets (sets s at a) (at + 4) b) (at + 12) c) (at + 18), t, last)

pub row_put : (xs : List ℕ) (at k block size count : ℕ)
    → sets (sets (sets (sets (sets xs at (column 3 k)) (at + 4) (column 7 block)) (at + 12) (column 5 size)) (at + 18) (column 5 count)) (at + 24) (le 1 10)
    ≡ sets xs at (row_line k block size count)
unfolding row_line le
row_put xs at k block size count =
    four xs (column 3 k) (column 7 block) (column 5 size) (column 5 count) (10 ∷ []) at (length-column 3 k) (length-column 7 block) (length-column 5 size) (length-column 5 count)

-- the word, a column and a newline
pub refused-put : (xs : List ℕ) (n : ℕ)
    → sets (sets (sets xs 0 (114 ∷ 101 ∷ 102 ∷ 117 ∷ 115 ∷ 101 ∷ 100 ∷ [])) 7 (column 3 n)) 11 (le 1 10) ≡ sets xs 0 (refused_line n)
unfolding refused_line le
refused-put xs n =
    let word : List ℕ = 114 ∷ 101 ∷ 102 ∷ 117 ∷ 115 ∷ 101 ∷ 100 ∷ [] in
    let long : length (column 3 n) ≡ 4 = length-column 3 n in
    sym (sets-append word (column 3 n ++ (10 ∷ [])) xs 0
    ∙ sets-append (column 3 n) (10 ∷ []) (sets xs 0 word) 7
    ∙ ap (λ (k : ℕ). sets (sets (sets xs 0 word) 7 (column 3 n)) (7 + k) (10 ∷ [])) long)

pub length-refused : (n : ℕ) → length (refused_line n) ≡ 12
unfolding refused_line
length-refused n =
    let long : length (column 3 n) ≡ 4 = length-column 3 n in
    let rest : length (column 3 n ++ (10 ∷ [])) ≡ 5 = length-append (column 3 n) (10 ∷ []) ∙ ap (λ (k : ℕ). k + 1) long in
    ap (λ (k : ℕ). suc (suc (suc (suc (suc (suc (suc k))))))) rest

-- ---- entries in use

abbrev pub in_use : List ℕ → ℕ → Bool
in_use xs i = not (eqb (get_or xs i unused) unused)

-- the numbers from a on of entries in use are as many as the entries in use from a on
pub used_from : (xs : List ℕ) (a n : ℕ) → a + n ≡ length xs → length (filter (in_use xs) (range_with_len a n)) ≡ used (drop a xs)
unfolding used
used_from xs a zero e = let all : length xs ≤ a = omega arith in rw (drop_of_length-le xs all)
used_from xs a (suc n) e =
    rw (drop-cons xs a unused (omega arith)) (go (eqb (get_or xs a unused) unused) (filter (in_use xs) (range_with_len (a + 1) n)) (used_from xs (a + 1) n (omega arith) ∙ ap (λ (k : ℕ). used (drop k xs)) (add-one a)))
  where
    go : {m : ℕ} (t : Bool) (ns : List ℕ) → length ns ≡ m → length (cond (not t) (a ∷ ns) ns) ≡ counting t m
    go true ns h = h
    go false ns h = ap suc h
