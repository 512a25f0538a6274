-- Runs of bytes and fields, on plain values: one turn of each loop over a run, and what is read where a run stands.
-- Assumes nothing.
use Prim.Native.Nat.{ℕ, zero, suc, ◌+◌, ◌*◌, ◌/◌, ◌%◌, ◌≤◌, ◌<◌}
use native.Mathlib.Nat.{add-zero, not-suc-le-zero, le_of_suc-le-suc}
use native.Mathlib.Numerals.{add-one}
use native.Mathlib.Omega.{arith}
use mathlib.Core.Path.{◌≡◌, refl, sym, ap, ap₂, ◌∙◌}
use mathlib.Core.Bool.{Bool, true, false, ◌&&◌, and_assoc}
use mathlib.Core.List.{List, [], ◌∷◌, ◌++◌, append_assoc, append-nil}
use lib.Dec.{eqb}
use lib.ListN.{length, take, drop, get_or, length-append, drop_of_length-le}
use lib.Pointwise.{pointwise}
use lib.Seq.{sets, sets-eq, drop-cons, drop_at, drop-drop, get_or-drop, take-add}
use borrow.Author.Tests.{eqb-true, eq-eqb}
use borrow.Rule.Slice.PartMut.{put_mid}
use Rattle.le.specs.Bytes.{every, total, holds_text}
use Rattle.le.specs.Field.{le, read_le, put_le, leading_words, words, le_words}
use Rattle.le.proofs.Bytes.{sets-append}
use Rattle.le.proofs.Fields.{length-le, read-le, read-shift, read-drop}
use Rattle.le.proofs.Rows.{and_left, and_right}

-- a whole buffer that is overwritten
pub sets-all : (vs l : List ℕ) → length vs ≡ length l → sets l 0 vs ≡ vs
sets-all vs l h =
    let all : length l ≤ 0 + length vs = omega arith in
    sets-eq vs l 0 (omega arith) ∙ ap (λ (r : List ℕ). vs ++ r) (drop_of_length-le l all) ∙ append-nil vs

-- ---- a part of the bytes, put or compared in one go

pub put_mid-sets : (s vs : List ℕ) (at n : ℕ) → n ≡ length vs → at + length vs ≤ length s → put_mid at n s vs ≡ sets s at vs
put_mid-sets s vs at n e h =
    rw (e, drop-drop (length vs) at s, ← append_assoc (take at s) vs (drop (at + length vs) s)) (sym (sets-eq vs s at h))

pub text-part : (text s : List ℕ) (at n : ℕ) → n ≡ length text → at + length text ≤ length s → pointwise eqb (take n (drop at s)) text ≡ holds_text s at text
unfolding holds_text
text-part [] s at n e h = rw e
text-part (x ∷ xs) s at n e h =
    rw (e, drop-cons s at 0 (omega arith), ← add-one at) (ap (λ (t : Bool). eqb (get_or s at 0) x && t) (text-part xs s (at + 1) (length xs) refl (omega arith)))

-- ---- what is left, with its first element taken

pub test-taken : (test : ℕ → Bool) (held : Bool) (s : List ℕ) (i : ℕ) → i < length s → ((held && test (get_or s i 0)) && every test (drop (i + 1) s)) ≡ (held && every test (drop i s))
unfolding every
test-taken test held s i h =
    rw (drop-cons s i 0 h, add-one i) (and_assoc held (test (get_or s i 0)) (every test (drop (suc i) s)))

pub total-taken : (sum : ℕ) (s : List ℕ) (i : ℕ) → i < length s → ((sum + get_or s i 0) % 256 + total (drop (i + 1) s)) % 256 ≡ (sum + total (drop i s)) % 256
unfolding total
total-taken sum s i h = rw (drop-cons s i 0 h, add-one i) (omega arith)

pub word-put : (s xs : List ℕ) (at i x : ℕ) → i < length xs → get_or xs i 0 ≡ x
    → sets (put_le 4 s (at + 4 * i) x) (at + 4 * (i + 1)) (le_words (drop (i + 1) xs)) ≡ sets s (at + 4 * i) (le_words (drop i xs))
unfolding le_words
word-put s xs at i x h e =
    let next : at + 4 * (i + 1) ≡ at + 4 * i + 4 = omega arith in
    rw (drop-cons xs i 0 h, e, next, add-one i, sets-append (le 4 x) (le_words (drop (suc i) xs)) s (at + 4 * i), length-le 4 x)

pub length-le_words : (xs : List ℕ) → length (le_words xs) ≡ 4 * length xs
unfolding le_words
length-le_words [] = refl
length-le_words (x ∷ xs) = rw (length-append (le 4 x) (le_words xs), length-le 4 x, length-le_words xs) (omega arith)

-- ---- what stands at a place is read there

-- behind p, which stands at `at`, stands the rest
pub drop-on : (s p q : List ℕ) (at k : ℕ) → drop at s ≡ p ++ q → length p ≡ k → drop (at + k) s ≡ q
drop-on s p q at k e h = sym (drop-drop k at s) ∙ ap (drop k) e ∙ drop_at p q k h

first_byte : (s : List ℕ) (x : ℕ) (q : List ℕ) (at : ℕ) → drop at s ≡ x ∷ q → get_or s at 0 ≡ x
first_byte s x q at e = ap (λ (k : ℕ). get_or s k 0) (sym (add-zero at)) ∙ sym (get_or-drop at s 0 0) ∙ ap (λ (l : List ℕ). get_or l 0 0) e

pub text-held : (text s rest : List ℕ) (at : ℕ) → drop at s ≡ text ++ rest → holds_text s at text ≡ true
unfolding holds_text
text-held [] s rest at e = refl
text-held (x ∷ xs) s rest at e =
    ap₂ (λ (a b : Bool). a && b) (eq-eqb (get_or s at 0) x (first_byte s x (xs ++ rest) at e))
    (text-held xs s rest (at + 1) (drop-on s (x ∷ []) (xs ++ rest) at 1 e refl))

-- ---- a text that is looked for

-- by two parts, the second where the first ends
pub text-split : (k : ℕ) (text s : List ℕ) (at : ℕ) → k ≤ length text → holds_text s at text ≡ (holds_text s at (take k text) && holds_text s (at + k) (drop k text))
unfolding holds_text
text-split zero text s at h = ap (λ (p : ℕ). holds_text s p text) (sym (add-zero at))
text-split (suc k) [] s at h = absurd (not-suc-le-zero h)
text-split (suc k) (x ∷ xs) s at h =
    let next : at + 1 + k ≡ at + suc k = omega arith in
    ap (λ (t : Bool). eqb (get_or s at 0) x && t)
    (text-split k xs s (at + 1) (le_of_suc-le-suc h) ∙ ap (λ (p : ℕ). holds_text s (at + 1) (take k xs) && holds_text s p (drop k xs)) next)
    ∙ sym (and_assoc (eqb (get_or s at 0) x) (holds_text s (at + 1) (take k xs)) (holds_text s (at + suc k) (drop k xs)))

-- it is told by its own bytes alone, wherever they stand
pub text-shift : (text s t : List ℕ) (a b : ℕ) → ((k : ℕ) → k < length text → get_or s (a + k) 0 ≡ get_or t (b + k) 0) → holds_text s a text ≡ holds_text t b text
unfolding holds_text
text-shift [] s t a b same = refl
text-shift (x ∷ xs) s t a b same =
    let first : get_or s a 0 ≡ get_or t b 0 =
    ap (λ (k : ℕ). get_or s k 0) (sym (add-zero a)) ∙ same 0 (omega arith) ∙ ap (λ (k : ℕ). get_or t k 0) (add-zero b) in
    ap₂ (λ (y : ℕ) (u : Bool). eqb y x && u) first
    (text-shift xs s t (a + 1) (b + 1)
    (λ k h.
    let p : a + 1 + k ≡ a + suc k = omega arith in
    let q : b + 1 + k ≡ b + suc k = omega arith in
    ap (λ (i : ℕ). get_or s i 0) p ∙ same (suc k) (omega arith) ∙ ap (λ (i : ℕ). get_or t i 0) (sym q)))

text-byte : (text s : List ℕ) (at k : ℕ) → holds_text s at text ≡ true → k < length text → get_or s (at + k) 0 ≡ get_or text k 0
unfolding holds_text
text-byte [] s at k e h = absurd (not-suc-le-zero h)
text-byte (x ∷ xs) s at zero e h =
    ap (λ (j : ℕ). get_or s j 0) (add-zero at) ∙ eqb-true (get_or s at 0) x (and_left (eqb (get_or s at 0) x) (holds_text s (at + 1) xs) e)
text-byte (x ∷ xs) s at (suc k) e h =
    let next : at + suc k ≡ at + 1 + k = omega arith in
    ap (λ (j : ℕ). get_or s j 0) next ∙ text-byte xs s (at + 1) k (and_right (eqb (get_or s at 0) x) (holds_text s (at + 1) xs) e) (le_of_suc-le-suc h)

-- it does not stand where one of its fields is another
pub field-other : (n : ℕ) (text s : List ℕ) (at k : ℕ) → k + n ≤ length text → (read_le n s (at + k) ≡ read_le n text k → ⊥) → holds_text s at text ≡ false
field-other n text s at k h other = go (holds_text s at text) refl
  where
    go : (t : Bool) → holds_text s at text ≡ t → t ≡ false
    go false e = refl
    go true e =
        absurd
        (other
        (read-shift n s text (at + k) k
        (λ j low.
        let there : at + k + j ≡ at + (k + j) = omega arith in
        ap (λ (i : ℕ). get_or s i 0) there ∙ text-byte text s at (k + j) e (omega arith))))

-- every number of the list fits 32 bits
abbrev pub Words : List ℕ → Type 0
Words [] = Unit
Words (x ∷ xs) = (x < 4294967296) × Words xs

-- the first field of a run, and the others
pub words-none : (s : List ℕ) (at : ℕ) → words 0 s at ≡ []
unfolding words leading_words
words-none s at = refl

pub words_step : (n : ℕ) (s : List ℕ) (at : ℕ) → words (suc n) s at ≡ read_le 4 s at ∷ words n s (at + 4)
unfolding words leading_words
words_step n s at =
    ap₂ {C = List ℕ} (λ (x : ℕ) (xs : List ℕ). x ∷ xs) (read-drop 4 s at 0 ∙ ap (read_le 4 s) (add-zero at)) (ap (leading_words n) (drop-drop 4 at s))

pub words-read : (xs s rest : List ℕ) (at : ℕ) → drop at s ≡ le_words xs ++ rest → Words xs → words (length xs) s at ≡ xs
unfolding le_words
words-read [] s rest at e f = words-none s at
words-read (x ∷ xs) s rest at e f =
    let here : drop at s ≡ le 4 x ++ (le_words xs ++ rest) = e ∙ append_assoc (le 4 x) (le_words xs) rest in
    words_step (length xs) s at
    ∙ ap₂ {C = List ℕ} (λ (a : ℕ) (b : List ℕ). a ∷ b) (read-le 4 x s (le_words xs ++ rest) at here f.0)
    (words-read xs s rest (at + 4) (drop-on s (le 4 x) (le_words xs ++ rest) at 4 here (length-le 4 x)) f.1)

-- numbers that are put at the beginning stand there
pub words-put : (l xs : List ℕ) → 4 * length xs ≤ length l → Words xs → words (length xs) (sets l 0 (le_words xs)) 0 ≡ xs
words-put l xs room fit =
    words-read xs (sets l 0 (le_words xs)) (drop (0 + length (le_words xs)) l) 0 (sets-eq (le_words xs) l 0 (omega (arith, length-le_words xs))) fit

pub length-words : (n : ℕ) (s : List ℕ) (at : ℕ) → length (words n s at) ≡ n
length-words zero s at = ap length (words-none s at)
length-words (suc n) s at = ap length (words_step n s at) ∙ ap suc (length-words n s (at + 4))

-- fields are read from their own bytes alone, wherever they stand
pub words-shift : (n : ℕ) (s t : List ℕ) (a b : ℕ) → ((k : ℕ) → k < 4 * n → get_or s (a + k) 0 ≡ get_or t (b + k) 0) → words n s a ≡ words n t b
words-shift zero s t a b same = words-none s a ∙ sym (words-none t b)
words-shift (suc n) s t a b same =
    words_step n s a
    ∙ ap₂ {C = List ℕ} (λ (x : ℕ) (xs : List ℕ). x ∷ xs) (read-shift 4 s t a b (λ k h. same k (omega arith)))
    (words-shift n s t (a + 4) (b + 4)
    (λ k h.
    let p : a + 4 + k ≡ a + (4 + k) = omega arith in
    let q : b + 4 + k ≡ b + (4 + k) = omega arith in
    ap (λ (i : ℕ). get_or s i 0) p ∙ same (4 + k) (omega arith) ∙ ap (λ (i : ℕ). get_or t i 0) (sym q)))
    ∙ sym (words_step n t b)

-- field i of a run of fields
pub get_d_words : (n : ℕ) (s : List ℕ) (at i d : ℕ) → i < n → get_or (words n s at) i d ≡ read_le 4 s (at + 4 * i)
get_d_words zero s at i d h = absurd (not-suc-le-zero h)
get_d_words (suc n) s at zero d h = ap (λ (l : List ℕ). get_or l 0 d) (words_step n s at) ∙ ap (read_le 4 s) (sym (add-zero at))
get_d_words (suc n) s at (suc i) d h =
    let e : at + 4 + 4 * i ≡ at + 4 * suc i = omega arith in
    ap (λ (l : List ℕ). get_or l (suc i) d) (words_step n s at) ∙ get_d_words n s (at + 4) i d (le_of_suc-le-suc h) ∙ ap (read_le 4 s) e

-- ---- what is read, put back, is what stood there

-- every number of the list is a byte
abbrev pub AllBytes : List ℕ → Type 0
AllBytes [] = Unit
AllBytes (x ∷ xs) = (x < 256) × AllBytes xs

pub byte_at : (s : List ℕ) → AllBytes s → (i : ℕ) → get_or s i 0 < 256
byte_at [] a i = omega arith
byte_at (x ∷ xs) a zero = a.0
byte_at (x ∷ xs) a (suc i) = byte_at xs a.1 i

pub all-bytes : (s : List ℕ) → ((i : ℕ) → get_or s i 0 < 256) → AllBytes s
all-bytes [] h = tt
all-bytes (x ∷ xs) h = (h 0, all-bytes xs (λ i. h (suc i)))

pub le_read : (n : ℕ) (s : List ℕ) (at : ℕ) → AllBytes s → at + n ≤ length s → le n (read_le n s at) ≡ take n (drop at s)
unfolding le read_le
le_read zero s at a h = refl
le_read (suc n) s at a h =
    let low : ℕ = get_or s at 0 in
    let high : ℕ = read_le n s (at + 1) in
    let small : low < 256 = byte_at s a at in
    let first : (low + 256 * high) % 256 ≡ low = omega arith in
    let rest : (low + 256 * high) / 256 ≡ high = omega arith in
    rw (first, rest, drop-cons s at 0 (omega arith), ← add-one at) (ap {B = List ℕ} (λ l. low ∷ l) (le_read n s (at + 1) a (omega arith)))

pub le_words-words : (n : ℕ) (s : List ℕ) (at : ℕ) → AllBytes s → at + 4 * n ≤ length s → le_words (words n s at) ≡ take (4 * n) (drop at s)
unfolding le_words
le_words-words zero s at a h = ap le_words (words-none s at)
le_words-words (suc n) s at a h =
    let e : 4 * suc n ≡ 4 + 4 * n = omega arith in
    ap le_words (words_step n s at)
    ∙ ap₂ (λ (x y : List ℕ). x ++ y) (le_read 4 s at a (omega arith)) (le_words-words n s (at + 4) a (omega arith) ∙ ap (take (4 * n)) (sym (drop-drop 4 at s)))
    ∙ sym (ap (λ (k : ℕ). take k (drop at s)) e ∙ take-add 4 (4 * n) (drop at s))
