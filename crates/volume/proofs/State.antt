-- The working state and its 16,364 bytes are inverse to each other, each call's state is well formed, and what it makes of the map.
-- Assumes nothing.
use Prim.Native.Nat.{ℕ, zero, suc, ◌+◌, ◌-◌, ◌*◌, ◌^◌, ◌≤◌, ◌<◌}
use native.Mathlib.Nat.{add-zero, pow-suc}
use native.Mathlib.Omega.{arith}
use mathlib.Core.Path.{◌≡◌, refl, sym, ap, ap₂, ◌∙◌, subst}
use mathlib.Core.Bool.{Bool, true, false}
use Rattle.std.specs.Prelude.{Option, None, Some}
use mathlib.Core.List.{List, [], ◌∷◌, ◌++◌, append-nil}
use lib.Dec.{eqb, lit<}
use lib.ListN.{length, get_or, take, drop, set, replicate, length-set, length-append, length-replicate, length-drop, take-append-drop}
use lib.Seq.{sets, drop-drop, take_at, take_all, take-set-lt, take-suc-set, length-take-le}
use lib.Arith.{lt_of_le-ne}
use native.Mathlib.Numerals.{add-one}
use borrow.Author.Tests.{eqb-true, eqb-false}
use Rattle.le.specs.Field.{le, read_le, words, le_words}
use Rattle.le.proofs.Bytes.{sets-append}
use Rattle.le.proofs.Fields.{length-le, read-le}
use Rattle.le.proofs.Runs.{sets-all, Words, words-read, length-words, length-le_words, words-none, words_step, drop-on, AllBytes, byte_at, le_read, le_words-words}
use Rattle.vat.specs.Table.{limit, unused}
use Rattle.volume.specs.declared.Volume.{Volume}
use Rattle.volume.specs.Volume.{places, entries_length, ledger_length, unpack, pack, map_of, begun, filled, grown, wrote, released, closed, committed}

-- every number of the state has 32 bits, and there are as many entries as places
pub record Proper (v : Volume) : Type 0 where
  pub long : length v.entries ≡ places
  pub entry-words : Words v.entries
  pub size_word : v.size < 4294967296
  pub recorded-word : v.recorded < 4294967296
  pub last_word : v.last < 4294967296
  pub mode-word : v.mode < 4294967296

-- with so many entries the state fills its bytes, and its numbers can be read back
module _ (v : Volume) (long : length v.entries ≡ places) where
  packed-long : length (pack v) ≡ ledger_length
  unfolding pack
  packed-long =
      let a : List ℕ = le 4 v.size in
      let b : List ℕ = le 4 v.recorded in
      let c : List ℕ = le 4 v.last in
      let d : List ℕ = le 4 v.mode in
      rw (length-append (le_words v.entries) (a ++ (b ++ (c ++ d))), length-append a (b ++ (c ++ d)), length-append b (c ++ d), length-append c d, length-le 4 v.size, length-le 4 v.recorded, length-le 4 v.last, length-le 4 v.mode)
      (omega (arith, length-le_words v.entries, long))

  at_size : drop entries_length (pack v) ≡ le 4 v.size ++ (le 4 v.recorded ++ (le 4 v.last ++ le 4 v.mode))
  unfolding pack
  at_size =
      drop-on (pack v) (le_words v.entries) (le 4 v.size ++ (le 4 v.recorded ++ (le 4 v.last ++ le 4 v.mode))) 0 entries_length refl
      (length-le_words v.entries ∙ ap (λ (n : ℕ). 4 * n) long)

  packed-size : v.size < 4294967296 → read_le 4 (pack v) entries_length ≡ v.size
  packed-size small = read-le 4 v.size (pack v) (le 4 v.recorded ++ (le 4 v.last ++ le 4 v.mode)) entries_length at_size small

  pub size-kept : v.size ≤ limit → (unpack (pack v)).size ≤ limit
  unfolding unpack
  size-kept few = rw (packed-size (omega arith)) few

  -- the other fields, each where it stands
  at-recorded : drop (entries_length + 4) (pack v) ≡ le 4 v.recorded ++ (le 4 v.last ++ le 4 v.mode)
  at-recorded = drop-on (pack v) (le 4 v.size) (le 4 v.recorded ++ (le 4 v.last ++ le 4 v.mode)) entries_length 4 at_size (length-le 4 v.size)

  at_last : drop (entries_length + 8) (pack v) ≡ le 4 v.last ++ le 4 v.mode
  at_last = drop-on (pack v) (le 4 v.recorded) (le 4 v.last ++ le 4 v.mode) (entries_length + 4) 4 at-recorded (length-le 4 v.recorded)

  at-mode : drop (entries_length + 12) (pack v) ≡ le 4 v.mode ++ []
  at-mode = drop-on (pack v) (le 4 v.last) (le 4 v.mode) (entries_length + 8) 4 at_last (length-le 4 v.last) ∙ sym (append-nil (le 4 v.mode))

  pub recorded-kept : v.recorded < 4294967296 → (unpack (pack v)).recorded ≡ v.recorded
  unfolding unpack
  recorded-kept small = read-le 4 v.recorded (pack v) (le 4 v.last ++ le 4 v.mode) (entries_length + 4) at-recorded small

  pub last-kept : v.last < 4294967296 → (unpack (pack v)).last ≡ v.last
  unfolding unpack
  last-kept small = read-le 4 v.last (pack v) (le 4 v.mode) (entries_length + 8) at_last small

module _ (v : Volume) (ok : Proper v) where
  pub length-pack : length (pack v) ≡ ledger_length
  length-pack = packed-long v ok.long

  packed-entries : words places (pack v) 0 ≡ v.entries
  unfolding pack
  packed-entries =
      ap (λ (n : ℕ). words n (pack v) 0) (sym ok.long)
      ∙ words-read v.entries (pack v) (le 4 v.size ++ (le 4 v.recorded ++ (le 4 v.last ++ le 4 v.mode))) 0 refl ok.entry-words

  pub unpack-pack : unpack (pack v) ≡ v
  unfolding unpack
  unpack-pack =
      let size : read_le 4 (pack v) entries_length ≡ v.size = packed-size v ok.long ok.size_word in
      let recorded : read_le 4 (pack v) (entries_length + 4) ≡ v.recorded = recorded-kept v ok.long ok.recorded-word in
      let last : read_le 4 (pack v) (entries_length + 8) ≡ v.last = last-kept v ok.long ok.last_word in
      let mode : read_le 4 (pack v) (entries_length + 12) ≡ v.mode = read-le 4 v.mode (pack v) [] (entries_length + 12) (at-mode v ok.long) ok.mode-word in
      λ i. record { entries = packed-entries i; size = size i; recorded = recorded i; last = last i; mode = mode i }

-- five parts of a list, each joined to what follows it
joined : {a a' b b' c c' d d' e e' : List ℕ} → a ≡ a' → b ≡ b' → c ≡ c' → d ≡ d' → e ≡ e' → a ++ (b ++ (c ++ (d ++ e))) ≡ a' ++ (b' ++ (c' ++ (d' ++ e')))
joined p q r s t = λ i. p i ++ (q i ++ (r i ++ (s i ++ t i)))

four-on : (l : List ℕ) (n : ℕ) → take 4 (drop n l) ++ drop (n + 4) l ≡ drop n l
four-on l n = ap (λ (k : List ℕ). take 4 (drop n l) ++ k) (sym (drop-drop 4 n l)) ∙ take-append-drop 4 (drop n l)

parts : (l : List ℕ) (n : ℕ) → length l ≡ n + 16
    → take n l ++ (take 4 (drop n l) ++ (take 4 (drop (n + 4) l) ++ (take 4 (drop (n + 4 + 4) l) ++ take 4 (drop (n + 4 + 4 + 4) l)))) ≡ l
parts l n h =
    let last : take 4 (drop (n + 4 + 4 + 4) l) ≡ drop (n + 4 + 4 + 4) l = take_all 4 (drop (n + 4 + 4 + 4) l) (omega (arith, length-drop (n + 4 + 4 + 4) l)) in
    rw (last, four-on l (n + 4 + 4), four-on l (n + 4), four-on l n) (take-append-drop n l)

-- and the other way round, for any 16,364 bytes
pub pack-unpack : (l : List ℕ) → AllBytes l → length l ≡ ledger_length → pack (unpack l) ≡ l
unfolding pack unpack
pack-unpack l a h =
    joined (le_words-words places l 0 a (omega arith)) (le_read 4 l entries_length a (omega arith)) (le_read 4 l (entries_length + 4) a (omega arith))
    (le_read 4 l (entries_length + 8) a (omega arith)) (le_read 4 l (entries_length + 12) a (omega arith))
    ∙ parts l entries_length h

-- ---- each call's state is well formed

words-replicate : (n x : ℕ) → x < 4294967296 → Words (replicate n x)
words-replicate zero x h = tt
words-replicate (suc n) x h = (h, words-replicate n x h)

words_append : (xs ys : List ℕ) → Words xs → Words ys → Words (xs ++ ys)
words_append [] ys a b = b
words_append (x ∷ xs) ys a b = (a.0, words_append xs ys a.1 b)

words-set : (xs : List ℕ) (n x : ℕ) → Words xs → x < 4294967296 → Words (set xs n x)
words-set [] n x a h = tt
words-set (y ∷ ys) zero x a h = (h, a.1)
words-set (y ∷ ys) (suc n) x a h = (a.0, words-set ys n x a.1 h)

pub proper-begun : (r : ℕ) → r < 4294967296 → Proper (begun r)
unfolding begun
proper-begun r h =
    record {
      long = length-replicate {A = ℕ} places unused;
      entry-words = words-replicate places unused (lit< tt);
      size_word = lit< tt;
      recorded-word = h;
      last_word = lit< tt;
      mode-word = lit< tt;
    }

pub long-unpack : (l : List ℕ) → length (unpack l).entries ≡ places
unfolding unpack
long-unpack l = length-words places l 0

pub long_filled : (map : List ℕ) (b r mode : ℕ) → length map ≤ limit → length (filled map b r mode).entries ≡ places
unfolding filled
long_filled map b r mode few =
    length-append map (replicate (places - length map) unused) ∙ ap (λ (k : ℕ). length map + k) (length-replicate {A = ℕ} (places - length map) unused) ∙ omega arith

pub proper-filled : (map : List ℕ) (b r mode : ℕ) → length map ≤ limit → Words map → b < 4294967296 → r < 4294967296 → mode < 4294967296 → Proper (filled map b r mode)
unfolding filled
proper-filled map b r mode few ok hb hr hm =
    record {
      long = long_filled map b r mode few;
      entry-words = words_append map (replicate (places - length map) unused) ok (words-replicate (places - length map) unused (lit< tt));
      size_word = omega arith;
      recorded-word = hr;
      last_word = hb;
      mode-word = hm;
    }

-- any bytes unpack to a well-formed state
read-lt : (n : ℕ) (s : List ℕ) (at : ℕ) → AllBytes s → read_le n s at < 256 ^ n
unfolding read_le
read-lt zero s at a = lit< tt
read-lt (suc n) s at a =
    let low : get_or s at 0 < 256 = byte_at s a at in
    let high : read_le n s (at + 1) < 256 ^ n = read-lt n s (at + 1) a in
    rw (pow-suc 256 n) (omega arith)

words-of-bytes : (n : ℕ) (s : List ℕ) (at : ℕ) → AllBytes s → Words (words n s at)
words-of-bytes zero s at a = subst Words (sym (words-none s at)) tt
words-of-bytes (suc n) s at a = subst Words (sym (words_step n s at)) (read-lt 4 s at a, words-of-bytes n s (at + 4) a)

pub proper-unpack : (l : List ℕ) → AllBytes l → Proper (unpack l)
unfolding unpack
proper-unpack l a =
    record {
      long = long-unpack l;
      entry-words = words-of-bytes places l 0 a;
      size_word = read-lt 4 l entries_length a;
      recorded-word = read-lt 4 l (entries_length + 4) a;
      last_word = read-lt 4 l (entries_length + 8) a;
      mode-word = read-lt 4 l (entries_length + 12) a;
    }

grown-le : (t : Bool) (n : ℕ) → grown t n ≤ n + 1
grown-le true n = omega arith
grown-le false n = omega arith

module _ (v : Volume) (ok : Proper v) where
  pub proper-wrote : (n : Option ℕ) (b : ℕ) → v.size ≤ limit → b < unused → Proper (wrote n b v)
  unfolding wrote
  proper-wrote None b few h =
      record {
        long = ok.long;
        entry-words = ok.entry-words;
        size_word = ok.size_word;
        recorded-word = omega arith;
        last_word = ok.last_word;
        mode-word = lit< tt;
      }
  proper-wrote (Some n) b few h =
      record {
        long = length-set v.entries n b ∙ ok.long;
        entry-words = words-set v.entries n b ok.entry-words (omega arith);
        size_word = omega (arith, grown-le (eqb n v.size) v.size);
        recorded-word = omega arith;
        last_word = ok.last_word;
        mode-word = lit< tt;
      }

  pub proper-released : (n : ℕ) → Proper (released n v)
  unfolding released
  proper-released n =
      record {
        long = length-set v.entries n unused ∙ ok.long;
        entry-words = words-set v.entries n unused ok.entry-words (lit< tt);
        size_word = ok.size_word;
        recorded-word = ok.recorded-word;
        last_word = ok.last_word;
        mode-word = ok.mode-word;
      }

  pub proper-closed : Proper (closed v)
  unfolding closed
  proper-closed =
      record {
        long = ok.long;
        entry-words = ok.entry-words;
        size_word = ok.size_word;
        recorded-word = ok.recorded-word;
        last_word = ok.last_word;
        mode-word = lit< tt;
      }

  pub proper-committed : (b : ℕ) → b < unused → Proper (committed b v)
  unfolding committed
  proper-committed b h =
      record {
        long = ok.long;
        entry-words = ok.entry-words;
        size_word = ok.size_word;
        recorded-word = omega arith;
        last_word = omega arith;
        mode-word = lit< tt;
      }

-- ---- what each call makes of the map

abbrev pub grown_map : Bool → List ℕ → ℕ → ℕ → List ℕ
grown_map true xs n b = xs ++ (b ∷ [])
grown_map false xs n b = set xs n b

pub map-filled : (map : List ℕ) (b r mode : ℕ) → map_of (filled map b r mode) ≡ map
unfolding filled
map-filled map b r mode = take_at map (replicate (places - length map) unused) (length map) refl

pub map-wrote : (v : Volume) (n b : ℕ) → n ≤ v.size → v.size ≤ length v.entries → n < length v.entries → map_of (wrote (Some n) b v) ≡ grown_map (eqb n v.size) (map_of v) n b
unfolding wrote
map-wrote v n b le long inside = go (eqb n v.size) refl
  where
    go : (t : Bool) → eqb n v.size ≡ t → take (grown t v.size) (set v.entries n b) ≡ grown_map t (map_of v) n b
    go true e =
        let same : n ≡ v.size = eqb-true n v.size e in
        rw (← same, add-one n) (take-suc-set v.entries n b inside)
    go false e =
        take-set-lt v.size v.entries n b (lt_of_le-ne le (eqb-false n v.size e))

pub map-released : (v : Volume) (n : ℕ) → n < v.size → map_of (released n v) ≡ set (map_of v) n unused
unfolding released
map-released v n h = take-set-lt v.size v.entries n unused h

pub length-map : (v : Volume) → v.size ≤ length v.entries → length (map_of v) ≡ v.size
length-map v h = length-take-le v.size v.entries h

-- ---- the entries, read one by one

pub words_snoc : (n : ℕ) (s : List ℕ) (at : ℕ) → words (suc n) s at ≡ words n s at ++ (read_le 4 s (at + 4 * n) ∷ [])
words_snoc zero s at =
    words_step 0 s at ∙ ap (λ (l : List ℕ). read_le 4 s at ∷ l) (words-none s (at + 4))
    ∙ sym (ap₂ (λ (l : List ℕ) (k : ℕ). l ++ (read_le 4 s k ∷ [])) (words-none s at) (add-zero at))
words_snoc (suc n) s at =
    let e : at + 4 + 4 * n ≡ at + 4 * suc n = omega arith in
    words_step (suc n) s at
    ∙ ap {B = List ℕ} (λ l. read_le 4 s at ∷ l) (words_snoc n s (at + 4) ∙ ap (λ (k : ℕ). words n s (at + 4) ++ (read_le 4 s k ∷ [])) e)
    ∙ ap (λ (l : List ℕ). l ++ (read_le 4 s (at + 4 * suc n) ∷ [])) (sym (words_step n s at))

-- ---- the state, put part by part

pub pack-put : (v : Volume) (l : List ℕ) → length v.entries ≡ places → length l ≡ ledger_length
    → sets (sets (sets (sets (sets l 0 (le_words v.entries)) entries_length (le 4 v.size)) (entries_length + 4) (le 4 v.recorded)) (entries_length + 8) (le 4 v.last)) (entries_length + 12) (le 4 v.mode)
    ≡ pack v
unfolding pack
pack-put v l long h =
    let e : List ℕ = le_words v.entries in
    let a : List ℕ = le 4 v.size in
    let b : List ℕ = le 4 v.recorded in
    let c : List ℕ = le 4 v.last in
    let d : List ℕ = le 4 v.mode in
    let front : length e ≡ entries_length = length-le_words v.entries ∙ ap (λ (n : ℕ). 4 * n) long in
    let whole : length (e ++ (a ++ (b ++ (c ++ d)))) ≡ length l =
    rw (length-append e (a ++ (b ++ (c ++ d))), length-append a (b ++ (c ++ d)), length-append b (c ++ d), length-append c d, length-le 4 v.size, length-le 4 v.recorded, length-le 4 v.last, length-le 4 v.mode, front) (sym h) in
    sym (sym (sets-all (e ++ (a ++ (b ++ (c ++ d)))) l whole)
    ∙ sets-append e (a ++ (b ++ (c ++ d))) l 0
    ∙ ap (λ (k : ℕ). sets (sets l 0 e) k (a ++ (b ++ (c ++ d)))) (ap (λ (n : ℕ). 0 + n) front)
    ∙ rest (sets l 0 e) a b c d entries_length (length-le 4 v.size) (length-le 4 v.recorded) (length-le 4 v.last))
  where
    rest : (s a b c d : List ℕ) (at : ℕ) → length a ≡ 4 → length b ≡ 4 → length c ≡ 4
        → sets s at (a ++ (b ++ (c ++ d))) ≡ sets (sets (sets (sets s at a) (at + 4) b) (at + 8) c) (at + 12) d
    rest s a b c d at p q r =
        let two : at + 4 + 4 ≡ at + 8 = omega arith in
        let three : at + 8 + 4 ≡ at + 12 = omega arith in
        rw (sets-append a (b ++ (c ++ d)) s at, p, sets-append b (c ++ d) (sets s at a) (at + 4), q, two, sets-append c d (sets (sets s at a) (at + 4) b) (at + 8), r, three)
