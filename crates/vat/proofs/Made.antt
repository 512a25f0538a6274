-- An own sector as the code makes it: entries at its beginning, then what of the regid and the previous table stands in it, over zeros.
--     own-made       that is the own sector, wherever the entries end: before, in or behind it
--     sector-made    with the entries taken from bytes
--     entries-alone  a sector that holds entries alone is these bytes
-- Assumes nothing.
use Prim.Native.Nat.{ℕ, zero, suc, min, ◌+◌, ◌-◌, ◌*◌, ◌≤◌}
use native.Mathlib.Nat.{not-suc-le-zero, le_of_suc-le-suc, add-zero, zero-add, sub-zero, suc-sub-suc, zero-sub}
use native.Mathlib.Omega.{arith}
use mathlib.Core.Path.{◌≡◌, refl, sym, ap, ap₂, ◌∙◌}
use mathlib.Core.List.{List, [], ◌∷◌, ◌++◌, append-nil}
use mathlib.Core.Logic.{◌⊎◌, inl, inr}
use lib.ListN.{length, take, drop, replicate, length-append, length-replicate, length-take, length-drop, drop_of_length-le}
use lib.Seq.{sets, sets-eq, length-take-le, take_all, take_at, drop_at, drop-drop, take-append-add}
use Rattle.std.proofs.lemmas.Bool.{cases_lt}
use Rattle.std.proofs.lemmas.List.{drop-replicate}
use Rattle.le.specs.Field.{le, read_le, words, le_words}
use Rattle.le.proofs.Bytes.{part-take, sets-append}
use Rattle.le.proofs.Fields.{length-le}
use Rattle.le.proofs.Runs.{length-le_words, length-words, words-none, words_step, AllBytes, le_words-words, sets-all}
use Rattle.vat.specs.Table.{sector_length}
use Rattle.vat.specs.Sector.{table_regid, table_bytes}
use Rattle.vat.specs.Own.{filled_up, own_sector}
use Rattle.vat.proofs.Record.{length-tail}

-- ---- entries and tail over zeros

take-append : (n : ℕ) (xs ys : List ℕ) → take n (xs ++ ys) ≡ take n xs ++ take (n - length (take n xs)) ys
take-append zero xs ys = refl
take-append (suc n) [] ys = ap (λ (k : ℕ). take k ys) (sym (sub-zero (suc n)))
take-append (suc n) (x ∷ xs) ys =
    ap (λ (l : List ℕ). x ∷ l) (take-append n xs ys ∙ ap (λ (k : ℕ). take n xs ++ take k ys) (sym (suc-sub-suc n (length (take n xs)))))

drop-append : (k : ℕ) (xs ys : List ℕ) → drop k (xs ++ ys) ≡ drop k xs ++ drop (k - length xs) ys
drop-append zero xs ys = ap (λ (n : ℕ). xs ++ drop n ys) (sym (zero-sub (length xs)))
drop-append (suc k) [] ys = ap (λ (n : ℕ). drop n ys) (sym (sub-zero (suc k)))
drop-append (suc k) (x ∷ xs) ys = drop-append k xs ys ∙ ap (λ (n : ℕ). drop k xs ++ drop n ys) (sym (suc-sub-suc k (length xs)))

-- bytes stored from the beginning on, over zeros
stored-front : (xs : List ℕ) (n : ℕ) → length xs ≤ n → sets (replicate n 0) 0 xs ≡ xs ++ replicate (n - length xs) 0
stored-front xs n h =
    let zeros : List ℕ = replicate n 0 in
    let inside : 0 + length xs ≤ length zeros = omega (arith, length-replicate {A = ℕ} n 0) in
    sets-eq xs zeros 0 inside ∙ ap (λ (k : ℕ). xs ++ drop k zeros) (zero-add (length xs)) ∙ ap (λ (l : List ℕ). xs ++ l) (drop-replicate (length xs) n 0)

pub own-made : (entries tail : List ℕ) (first : ℕ) → let front : List ℕ = take sector_length (drop first entries) in
    sets (sets (replicate sector_length 0) 0 front) (length front) (take (sector_length - length front) (drop (first - length entries) tail))
    ≡ filled_up (take sector_length (drop first (entries ++ tail)))
own-made entries tail first =
    let front : List ℕ = take sector_length (drop first entries) in
    let rest : List ℕ = take (sector_length - length front) (drop (first - length entries) tail) in
    let part : take sector_length (drop first (entries ++ tail)) ≡ front ++ rest =
    ap (take sector_length) (drop-append first entries tail) ∙ take-append sector_length (drop first entries) (drop (first - length entries) tail) in
    let short : length front ≤ sector_length = rw (length-take sector_length (drop first entries)) (omega arith) in
    let short-rest : length rest ≤ sector_length - length front = rw (length-take (sector_length - length front) (drop (first - length entries) tail)) (omega arith) in
    let whole : length (front ++ rest) ≤ sector_length = omega (arith, length-append front rest) in
    ap (λ (k : ℕ). sets (sets (replicate sector_length 0) 0 front) k rest) (sym (zero-add (length front)))
    ∙ sym (sets-append front rest (replicate sector_length 0) 0)
    ∙ stored-front (front ++ rest) sector_length whole
    ∙ ap filled_up (sym part)

-- ---- the entries of one sector

le_words-none : le_words [] ≡ []
unfolding le_words
le_words-none = refl

words-dropped : (k n : ℕ) (s : List ℕ) (at : ℕ) → k ≤ n → drop (4 * k) (le_words (words n s at)) ≡ le_words (words (n - k) s (at + 4 * k))
unfolding le_words
words-dropped zero n s at h = ap₂ (λ (m p : ℕ). le_words (words m s p)) (sym (sub-zero n)) (sym (add-zero at))
words-dropped (suc k) zero s at h = absurd (not-suc-le-zero h)
words-dropped (suc k) (suc n) s at h =
    let four : 4 * suc k ≡ 4 + 4 * k = omega arith in
    let further : at + 4 + 4 * k ≡ at + 4 * suc k = omega arith in
    let x : ℕ = read_le 4 s at in
    let rest : List ℕ = le_words (words n s (at + 4)) in
    ap₂ (λ (m : ℕ) (ws : List ℕ). drop m (le_words ws)) four (words_step n s at)
    ∙ sym (drop-drop (4 * k) 4 (le 4 x ++ rest))
    ∙ ap (drop (4 * k)) (drop_at (le 4 x) rest 4 (length-le 4 x))
    ∙ words-dropped k n s (at + 4) (le_of_suc-le-suc h)
    ∙ ap₂ (λ (m p : ℕ). le_words (words m s p)) (sym (suc-sub-suc n k)) further

words-taken : (k n : ℕ) (s : List ℕ) (at : ℕ) → k ≤ n → take (4 * k) (le_words (words n s at)) ≡ le_words (words k s at)
unfolding le_words
words-taken zero n s at h = sym (ap le_words (words-none s at))
words-taken (suc k) zero s at h = absurd (not-suc-le-zero h)
words-taken (suc k) (suc n) s at h =
    let x : ℕ = read_le 4 s at in
    let rest : List ℕ = le_words (words n s (at + 4)) in
    let four : 4 * suc k ≡ length (le 4 x) + 4 * k = omega (arith, length-le 4 x) in
    ap₂ (λ (m : ℕ) (ws : List ℕ). take m (le_words ws)) four (words_step n s at)
    ∙ take-append-add (le 4 x) rest (4 * k)
    ∙ ap (λ (l : List ℕ). le 4 x ++ l) (words-taken k n s (at + 4) (le_of_suc-le-suc h))
    ∙ sym (ap le_words (words_step k s at))

-- the tail put into bytes of its own
pub tail-alone : (t : List ℕ) (previous : ℕ) → length t ≡ 36 → sets t 0 (table_regid ++ le 4 previous) ≡ table_regid ++ le 4 previous
tail-alone t previous long = sets-all (table_regid ++ le 4 previous) t (length-tail previous ∙ sym long)

min-is : (r a b : ℕ) → r ≡ min a b → (r ≡ a) ⊎ (r ≡ b)
min-is r a b e = elim (cases_lt b a) [ inl h ↦ inr (omega (arith, h)) | inr h ↦ inl (omega (arith, h)) ]

-- `before` of n entries stand before sector i, and `count` in it
pub record Split (n i before count : ℕ) : Type 0 where
  pub before-is : before ≡ min n (512 * i)
  pub count-is : count ≡ min (n - before) 512

module _ (n i before count : ℕ) (p : Split n i before count) (l : List ℕ) where
  length-entries : length (le_words (words n l 0)) ≡ 4 * n
  length-entries = length-le_words (words n l 0) ∙ ap (λ (k : ℕ). 4 * k) (length-words n l 0)

  -- those from sector i on
  entries_from : drop (2048 * i) (le_words (words n l 0)) ≡ le_words (words (n - before) l (4 * before))
  entries_from = go (min-is before n (512 * i) p.before-is)
    where
      place : 0 + 4 * before ≡ 4 * before
      place = zero-add (4 * before)

      go : (before ≡ n) ⊎ (before ≡ 512 * i) → drop (2048 * i) (le_words (words n l 0)) ≡ le_words (words (n - before) l (4 * before))
      go (inl e) =
          let none : n - before ≡ 0 = omega arith in
          let past : length (le_words (words n l 0)) ≤ 2048 * i = omega (arith, length-entries, p.before-is) in
          drop_of_length-le (le_words (words n l 0)) past
          ∙ sym (ap (λ (k : ℕ). le_words (words k l (4 * before))) none ∙ nothing (4 * before))
        where
          nothing : (at : ℕ) → le_words (words 0 l at) ≡ []
          nothing at = ap le_words (words-none l at) ∙ le_words-none
      go (inr e) =
          let at : 2048 * i ≡ 4 * before = omega arith in
          ap (λ (k : ℕ). drop k (le_words (words n l 0))) at
          ∙ words-dropped before n l 0 (omega (arith, p.before-is))
          ∙ ap (λ (k : ℕ). le_words (words (n - before) l k)) place

  front : take sector_length (drop (2048 * i) (le_words (words n l 0))) ≡ le_words (words count l (4 * before))
  front = ap (take sector_length) entries_from ∙ go (min-is count (n - before) 512 p.count-is)
    where
      long : length (le_words (words (n - before) l (4 * before))) ≡ 4 * (n - before)
      long = length-le_words (words (n - before) l (4 * before)) ∙ ap (λ (k : ℕ). 4 * k) (length-words (n - before) l (4 * before))

      go : (count ≡ n - before) ⊎ (count ≡ 512) → take sector_length (le_words (words (n - before) l (4 * before))) ≡ le_words (words count l (4 * before))
      go (inl e) =
          take_all sector_length (le_words (words (n - before) l (4 * before))) (omega (arith, long, p.count-is))
          ∙ ap (λ (k : ℕ). le_words (words k l (4 * before))) (sym e)
      go (inr e) =
          let full : sector_length ≡ 4 * count = omega arith in
          ap (λ (k : ℕ). take k (le_words (words (n - before) l (4 * before)))) full ∙ words-taken count (n - before) l (4 * before) (omega (arith, p.count-is))

  -- the sector, with so many bytes of the tail
  pub sector-made : (previous from long : ℕ) → from ≡ 2048 * i - 4 * before → long ≡ min (36 - from) (2048 - 4 * count)
      → sets (sets (replicate sector_length 0) 0 (le_words (words count l (4 * before)))) (4 * count) (take long (drop from (table_regid ++ le 4 previous)))
      ≡ own_sector (table_bytes (words n l 0) previous) i
  unfolding table_bytes
  sector-made previous from long e is =
      let entries : List ℕ = le_words (words n l 0) in
      let tail : List ℕ = table_regid ++ le 4 previous in
      let w : List ℕ = le_words (words count l (4 * before)) in
      let place : length (take sector_length (drop (2048 * i) entries)) ≡ 4 * count =
      ap length front ∙ length-le_words (words count l (4 * before)) ∙ ap (λ (k : ℕ). 4 * k) (length-words count l (4 * before)) in
      let behind : 2048 * i - length entries ≡ from = omega (arith, length-entries, e, p.before-is) in
      let tail-long : length (drop from tail) ≡ 36 - from =
      length-drop from tail ∙ ap (λ (k : ℕ). k - from) (length-tail previous) in
      ap₂ (λ (a : List ℕ) (k : ℕ). sets (sets (replicate sector_length 0) 0 a) k (take long (drop from tail))) (sym front) (sym place)
      ∙ ap (sets (sets (replicate sector_length 0) 0 (take sector_length (drop (2048 * i) entries))) (length (take sector_length (drop (2048 * i) entries)))) (same-part tail-long place (min-is long (36 - from) (2048 - 4 * count) is))
      ∙ ap (λ (k : ℕ). sets (sets (replicate sector_length 0) 0 (take sector_length (drop (2048 * i) entries))) (length (take sector_length (drop (2048 * i) entries)))
      (take (sector_length - length (take sector_length (drop (2048 * i) entries))) (drop k tail))) (sym behind)
      ∙ own-made entries tail (2048 * i)
    where
      same-part : length (drop from (table_regid ++ le 4 previous)) ≡ 36 - from → length (take sector_length (drop (2048 * i) (le_words (words n l 0)))) ≡ 4 * count → (long ≡ 36 - from) ⊎ (long ≡ 2048 - 4 * count)
          → take long (drop from (table_regid ++ le 4 previous)) ≡ take (sector_length - length (take sector_length (drop (2048 * i) (le_words (words n l 0))))) (drop from (table_regid ++ le 4 previous))
      same-part t c (inr z) =
          let q : long ≡ sector_length - length (take sector_length (drop (2048 * i) (le_words (words n l 0)))) = omega (arith, z, c) in
          ap (λ (k : ℕ). take k (drop from (table_regid ++ le 4 previous))) q
      same-part t c (inl z) =
          take_all long (drop from (table_regid ++ le 4 previous)) (omega (arith, t, z))
          ∙ sym (take_all (sector_length - length (take sector_length (drop (2048 * i) (le_words (words n l 0))))) (drop from (table_regid ++ le 4 previous)) (omega (arith, t, z, c, is)))

-- ---- a sector of entries alone

-- it is their bytes, as they stand
pub entries-alone : (n i : ℕ) (l : List ℕ) (previous : ℕ) → AllBytes l → 4 * n ≤ length l → 512 * (i + 1) ≤ n
    → own_sector (table_bytes (words n l 0) previous) i ≡ take sector_length (drop (sector_length * i) l)
unfolding table_bytes
entries-alone n i l previous bytes inside all =
    let k : ℕ = sector_length * i in
    let entries : List ℕ = le_words (words n l 0) in
    let tail : List ℕ = table_regid ++ le 4 previous in
    let within : k + sector_length ≤ 4 * n = omega arith in
    let long : length entries ≡ 4 * n = length-le_words (words n l 0) ∙ ap (λ (m : ℕ). 4 * m) (length-words n l 0) in
    let part : take sector_length (drop k (entries ++ tail)) ≡ take sector_length (drop k l) =
    sym (part-take (4 * n) k sector_length (entries ++ tail) within)
    ∙ ap (λ (x : List ℕ). take sector_length (drop k x)) (take_at entries tail (4 * n) long ∙ le_words-words n l 0 bytes inside-all)
    ∙ part-take (4 * n) k sector_length l within in
    ap filled_up part ∙ whole (take sector_length (drop k l)) (length-take-le sector_length (drop k l) (rw (length-drop k l) (omega arith)))
  where
    inside-all : 0 + 4 * n ≤ length l
    inside-all = omega arith

    whole : (s : List ℕ) → length s ≡ sector_length → filled_up s ≡ s
    whole s e = let none : sector_length - length s ≡ 0 = omega arith in ap (λ (m : ℕ). s ++ replicate m 0) none ∙ append-nil s
