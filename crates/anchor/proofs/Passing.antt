-- "Show that no own sector that we record can pass for a table ICB or a closing's pointer" (document 02, R-8). Both have a tag identifier, 261 or 2, and a tag
-- location from their block on. A table is words of 32 bits, its regid too; the fourth word of an own sector stands where a tag's location does. It is an
-- entry or the previous table, and so FFFFFFFF or lower than the block; or a word of the regid's text, and too high; or one behind it, and then the
-- identifier's place holds text; or 0, where the block is not 0.
--     neither-of  no own sector of a table of 4 numbers or more is a table or a pointer, at any block from which on the table may stand
-- Assumes nothing.
use Prim.Native.Nat.{ℕ, zero, suc, ◌+◌, ◌-◌, ◌*◌, ◌≤◌, ◌<◌}
use native.Mathlib.Omega.{arith}
use mathlib.Core.Path.{◌≡◌, refl, sym, ap, ap₂, ◌∙◌, subst}
use mathlib.Core.Bool.{Bool, true, false, ◌&&◌}
use mathlib.Core.List.{List, [], ◌∷◌, ◌++◌, append_assoc, append-nil}
use mathlib.Core.Logic.{◌⊎◌, inl, inr}
use lib.Dec.{eqb, leb, lit≤}
use lib.ListN.{length, get_or, get_or-append, get_or-eq_default}
use lib.Seq.{drop_at, get_or-append-add}
use borrow.Author.Tests.{eqb-true, leb-true}
use Rattle.std.proofs.lemmas.Bool.{false_from_ne_true, cases_lt}
use Rattle.le.specs.Bytes.{every}
use Rattle.le.specs.Field.{le, read_le, le_words}
use Rattle.le.proofs.Fields.{length-le, read-le, read-drop, read-add}
use Rattle.le.proofs.Rows.{and_left, and_right}
use Rattle.le.proofs.Runs.{Words}
use Rattle.tag.specs.Tag.{summed}
use Rattle.vat.specs.Table.{sector_length, unused_or_below, Lower, table_name, is_table}
use Rattle.vat.specs.Sector.{table_regid, table_bytes}
use Rattle.vat.specs.Own.{own_sector}
use Rattle.vat.proofs.Joined.{own-field}
use Rattle.vat.proofs.Theorems.{recognised, location, Named, named, each-named, fits, all_fit}
use Rattle.anchor.specs.Anchor.{anchor_identifier, farthest_start, anchor_tagged}
use Rattle.anchor.proofs.Theorems.{table-identifier}

-- ---- what a table's ICB or a pointer has

record Passing (s : List ℕ) (c : ℕ) : Type 0 where
  identified : (read_le 2 s 0 ≡ 261) ⊎ (read_le 2 s 0 ≡ anchor_identifier)
  from : c ≤ read_le 4 s 12
  to : read_le 4 s 12 ≤ c + farthest_start

table-passes : (lower : Lower) (s : List ℕ) (c : ℕ) → is_table lower s c ≡ true → Passing s c
table-passes lower s c e =
    let here : read_le 4 s 12 ≡ c = location s c (recognised lower s c e).frame.plain in
    record { identified = inl (table-identifier lower s c e); from = omega arith; to = omega arith }

anchor-passes : (s : List ℕ) (c : ℕ) → anchor_tagged s c ≡ true → Passing s c
unfolding anchor_tagged
anchor-passes s c e =
    let at : ℕ = read_le 4 s 12 in
    let p : Bool = eqb (read_le 2 s 0) anchor_identifier in
    let q : Bool = leb c at in
    let r : Bool = leb at (c + farthest_start) in
    let e₁ : (q && (r && summed s)) ≡ true = and_right p (q && (r && summed s)) e in
    record {
      identified = inr (eqb-true (read_le 2 s 0) anchor_identifier (and_left p (q && (r && summed s)) e));
      from = leb-true c at (and_left q (r && summed s) e₁);
      to = leb-true at (c + farthest_start) (and_left r (summed s) (and_right q (r && summed s) e₁));
    }

-- the sector at block c is neither
abbrev pub Neither : List ℕ → ℕ → Type 0
Neither s c = ((lower : Lower) → is_table lower s c ≡ false) × (anchor_tagged s c ≡ false)

neither : (s : List ℕ) (c : ℕ) → (Passing s c → ⊥) → Neither s c
neither s c none_is = (λ lower. false_from_ne_true (is_table lower s c) (λ e. none_is (table-passes lower s c e)), false_from_ne_true (anchor_tagged s c) (λ e. none_is (anchor-passes s c e)))

-- ---- a table as words

regid_words : List ℕ
regid_words = 0x44552A00 ∷ 0x69562046 ∷ 0x61757472 ∷ 0x6C41206C ∷ 0x20636F6C ∷ 0x006C6254 ∷ 0x00000150 ∷ 0 ∷ []

abbrev table_words : List ℕ → ℕ → List ℕ
table_words map previous = map ++ (regid_words ++ (previous ∷ []))

words_append : (xs ys : List ℕ) → le_words (xs ++ ys) ≡ le_words xs ++ le_words ys
unfolding le_words
words_append [] ys = refl
words_append (x ∷ xs) ys = ap (λ (l : List ℕ). le 4 x ++ l) (words_append xs ys) ∙ sym (append_assoc (le 4 x) (le_words xs) (le_words ys))

regid-words : le_words regid_words ≡ table_regid
unfolding regid_words le_words table_regid table_name le
regid-words = refl

regid-fits : Words regid_words
unfolding regid_words
regid-fits = omega arith

table-words : (map : List ℕ) (previous : ℕ) → table_bytes map previous ≡ le_words (table_words map previous)
unfolding table_bytes le_words
table-words map previous =
    sym
    (words_append map (regid_words ++ (previous ∷ []))
    ∙ ap (λ (l : List ℕ). le_words map ++ l) (words_append regid_words (previous ∷ []) ∙ ap₂ (λ (x y : List ℕ). x ++ y) regid-words (append-nil (le 4 previous))))

nothing-at : (at : ℕ) → read_le 4 [] at ≡ 0
unfolding read_le
nothing-at at = refl

-- word q, or 0 behind the last
word_at : (xs : List ℕ) (q : ℕ) → Words xs → read_le 4 (le_words xs) (4 * q) ≡ get_or xs q 0
unfolding le_words
word_at [] q f = nothing-at (4 * q)
word_at (x ∷ xs) zero f = read-le 4 x (le 4 x ++ le_words xs) (le_words xs) 0 refl f.0
word_at (x ∷ xs) (suc q) f =
    let e : 4 * suc q ≡ 4 + 4 * q = omega arith in
    ap (read_le 4 (le 4 x ++ le_words xs)) e
    ∙ sym (read-drop 4 (le 4 x ++ le_words xs) 4 (4 * q))
    ∙ ap (λ (l : List ℕ). read_le 4 l (4 * q)) (drop_at (le 4 x) (le_words xs) 4 (length-le 4 x))
    ∙ word_at xs q f.1

-- ---- an own sector as words

-- word q of it
own-word : (xs : List ℕ) (i q : ℕ) → Words xs → 4 * q + 4 ≤ sector_length → read_le 4 (own_sector (le_words xs) i) (4 * q) ≡ get_or xs (512 * i + q) 0
own-word xs i q f h =
    let t : List ℕ = le_words xs in
    let at : sector_length * i + 4 * q ≡ 4 * (512 * i + q) = omega arith in
    own-field 4 t i (4 * q) h
    ∙ ap (read_le 4 t) at
    ∙ word_at xs (512 * i + q) f

-- ---- none passes

big : (k : ℕ) → k < 6 → 7103060 ≤ get_or regid_words k 0
unfolding regid_words
big zero h = lit≤ tt
big (suc zero) h = lit≤ tt
big (suc (suc zero)) h = lit≤ tt
big (suc (suc (suc zero))) h = lit≤ tt
big (suc (suc (suc (suc zero)))) h = lit≤ tt
big (suc (suc (suc (suc (suc zero))))) h = lit≤ tt
big (suc (suc (suc (suc (suc (suc k)))))) h = absurd (omega arith)

regid-count : length regid_words ≡ 8
unfolding regid_words
regid-count = refl

regid-third : get_or regid_words 3 0 ≡ 0x6C41206C
unfolding regid_words
regid-third = refl

regid-fourth : get_or regid_words 4 0 ≡ 0x20636F6C
unfolding regid_words
regid-fourth = refl

module _ (map : List ℕ) (previous : ℕ) (r : ℕ) (many : 4 ≤ length map) (entries : (k : ℕ) → k < length map → Named r (get_or map k 0)) (before : Named r previous) (fits : Words (table_words map previous)) where
  abbrev word : ℕ → ℕ
  word q = get_or (table_words map previous) q 0

  entry-word : (q : ℕ) → q < length map → word q ≡ get_or map q 0
  entry-word q h = get_or-append map (regid_words ++ (previous ∷ [])) 0 q h

  regid-word : (k : ℕ) → k < 8 → word (length map + k) ≡ get_or regid_words k 0
  regid-word k h =
      get_or-append-add map (regid_words ++ (previous ∷ [])) k 0 ∙ get_or-append regid_words (previous ∷ []) 0 k (omega (arith, regid-count))

  previous-word : word (length map + 8) ≡ previous
  unfolding regid_words
  previous-word = get_or-append-add map (regid_words ++ (previous ∷ [])) 8 0

  last-words : (k : ℕ) → word (length map + (9 + k)) ≡ 0
  unfolding regid_words
  last-words k =
      get_or-append-add map (regid_words ++ (previous ∷ [])) (9 + k) 0
      ∙ get_or-eq_default (regid_words ++ (previous ∷ [])) 0 {n = 9 + k} (omega arith)

  module _ (i c : ℕ) (above : r ≤ c) (low : c < 4000000) (first-or : (i ≡ 0) ⊎ (0 < c)) where
    abbrev sector : List ℕ
    sector = own_sector (le_words (table_words map previous)) i

    located-at : read_le 4 sector 12 ≡ word (512 * i + 3)
    located-at = own-word (table_words map previous) i 3 fits (lit≤ tt)

    named-not : (x : ℕ) → Named r x → c ≤ x → x ≤ c + farthest_start → ⊥
    named-not x (inl h) a b = omega arith
    named-not x (inr e) a b = omega arith

    -- where the identifier stands is text
    text-not : (x : ℕ) → read_le 4 sector 0 ≡ x → (x ≡ 0x6C41206C) ⊎ (x ≡ 0x20636F6C) → (read_le 2 sector 0 ≡ 261) ⊎ (read_le 2 sector 0 ≡ anchor_identifier) → ⊥
    text-not x e t p =
        let halves : read_le 4 sector 0 ≡ read_le 2 sector 0 + 65536 * read_le 2 sector 2 = read-add 2 2 sector 0 in
        go t p (read_le 2 sector 0) (read_le 2 sector 2) refl (sym e ∙ halves)
      where
        go : (x ≡ 0x6C41206C) ⊎ (x ≡ 0x20636F6C) → (read_le 2 sector 0 ≡ 261) ⊎ (read_le 2 sector 0 ≡ anchor_identifier) → (a b : ℕ) → read_le 2 sector 0 ≡ a → x ≡ a + 65536 * b → ⊥
        go (inl z) (inl w) a b u v = omega arith
        go (inl z) (inr w) a b u v = omega arith
        go (inr z) (inl w) a b u v = omega arith
        go (inr z) (inr w) a b u v = omega arith

    none_passes : Passing sector c → ⊥
    none_passes p = cases (cases_lt q n)
      where
        n : ℕ
        n = length map

        q : ℕ
        q = 512 * i + 3

        lower : c ≤ word q
        lower = rw located-at at p.from

        upper : word q ≤ c + farthest_start
        upper = rw located-at at p.to

        first_word : (k : ℕ) → q ≡ n + suc (suc (suc k)) → k < 8 → read_le 4 sector 0 ≡ get_or regid_words k 0
        first_word k e h =
            let here : 512 * i + 0 ≡ n + k = omega arith in
            own-word (table_words map previous) i 0 fits (lit≤ tt) ∙ ap word here ∙ regid-word k h

        -- word k behind the entries
        behind : (k : ℕ) → q ≡ n + k → ⊥
        behind k e = go (cases_lt k 6)
          where
            go : (k < 6) ⊎ (6 ≤ k) → ⊥
            go (inl h) =
                let x : word q ≡ get_or regid_words k 0 = ap word e ∙ regid-word k (omega arith) in
                omega (arith, x, big k h, upper)
            go (inr h) = further (cases_lt k 8)
              where
                further : (k < 8) ⊎ (8 ≤ k) → ⊥
                further (inl l) = which (cases_lt k 7)
                  where
                    which : (k < 7) ⊎ (7 ≤ k) → ⊥
                    which (inl m) = text-not (get_or regid_words 3 0) (first_word 3 (omega arith) (lit≤ tt)) (inl regid-third) p.identified
                    which (inr m) = text-not (get_or regid_words 4 0) (first_word 4 (omega arith) (lit≤ tt)) (inr regid-fourth) p.identified
                further (inr l) = last (cases_lt 8 k)
                  where
                    last : (8 < k) ⊎ (k ≤ 8) → ⊥
                    last (inr m) =
                        let here : q ≡ n + 8 = omega arith in
                        let x : word q ≡ previous = ap word here ∙ previous-word in
                        named-not previous before (omega (arith, x, lower)) (omega (arith, x, upper))
                    last (inl m) =
                        let here : q ≡ n + (9 + (k - 9)) = omega arith in
                        let x : word q ≡ 0 = ap word here ∙ last-words (k - 9) in
                        zero-not first-or (omega (arith, x, lower))
                      where
                        zero-not : (i ≡ 0) ⊎ (0 < c) → c ≤ 0 → ⊥
                        zero-not (inl z) low = omega arith
                        zero-not (inr z) low = omega arith

        cases : (q < n) ⊎ (n ≤ q) → ⊥
        cases (inl h) =
            let x : word q ≡ get_or map q 0 = entry-word q h in
            named-not (get_or map q 0) (entries q h) (omega (arith, x, lower)) (omega (arith, x, upper))
        cases (inr h) = behind (q - n) (omega arith)

-- no own sector of the table's bytes t is either, at any block from r on that a disc has; one of zeros could be at block 0
abbrev pub NeitherOf : ℕ → List ℕ → Type 0
NeitherOf r t = (i c : ℕ) → r ≤ c → c < 4000000 → (i ≡ 0) ⊎ (0 < c) → Neither (own_sector t i) c

all_words : (xs ys : List ℕ) → Words xs → Words ys → Words (xs ++ ys)
all_words [] ys p q = q
all_words (x ∷ xs) ys p q = (p.0, all_words xs ys p.1 q)

pub neither-of : (map : List ℕ) (previous r : ℕ) → 4 ≤ length map → every (unused_or_below r) map ≡ true → unused_or_below r previous ≡ true → r < 4294967296
    → NeitherOf r (table_bytes map previous)
neither-of map previous r many entries before small i c above low first =
    let words : Words (table_words map previous) =
    all_words map (regid_words ++ (previous ∷ [])) (all_fit r map small entries) (all_words regid_words (previous ∷ []) regid-fits (fits r previous small before, tt)) in
    subst (λ (t : List ℕ). Neither (own_sector t i) c) (sym (table-words map previous))
    (neither (own_sector (le_words (table_words map previous)) i) c
    (none_passes map previous r many (each-named r map entries) (named r previous before) words i c above low first))
