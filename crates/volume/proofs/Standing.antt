-- Bytes of the ledger that stand already: the entries of a state that was loaded, one entry put among them, and what each call leaves of them; and the map of a
-- table that is shown.
-- Assumes nothing.
use Prim.Native.Nat.{ℕ, zero, suc, ◌+◌, ◌-◌, ◌*◌, ◌≤◌, ◌<◌}
use native.Mathlib.Nat.{not-suc-le-zero, zero-add}
use native.Mathlib.Omega.{arith}
use mathlib.Core.Path.{◌≡◌, refl, sym, ap, ap₂, ◌∙◌}
use mathlib.Core.List.{List, [], ◌∷◌, ◌++◌, append_assoc}
use mathlib.Core.Logic.{inl}
use Rattle.std.specs.Prelude.{None, Some}
use lib.ListN.{length, take, drop, set, replicate, length-append, length-replicate, take-append-drop}
use lib.Seq.{sets, sets-eq, length-take-le}
use Rattle.le.specs.Field.{le, put_le, leading_words, words, le_words}
use Rattle.le.proofs.Bytes.{drop-sets-after, sets-append}
use Rattle.le.proofs.Fields.{length-le, read-put, read-sets-apart}
use Rattle.le.proofs.Runs.{AllBytes, length-words, length-le_words, words_step, le_words-words}
use Rattle.vat.specs.Table.{unused}
use Rattle.volume.specs.declared.Volume.{Volume}
use Rattle.volume.specs.Volume.{places, entries_length, ledger_length, unpack, pack, filled, wrote, released, closed, committed}
use Rattle.volume.proofs.State.{long-unpack, pack-put}

-- the first bytes stored over themselves
same-stored : (k : ℕ) (l : List ℕ) → k ≤ length l → sets l 0 (take k l) ≡ l
same-stored k l h =
    let long : length (take k l) ≡ k = length-take-le k l h in
    sets-eq (take k l) l 0 (omega (arith, long)) ∙ ap (λ (n : ℕ). take k l ++ drop n l) (ap (λ (n : ℕ). 0 + n) long ∙ zero-add k) ∙ take-append-drop k l

-- the entries that the bytes hold stand there already
entries-stand : (l : List ℕ) → AllBytes l → length l ≡ ledger_length → sets l 0 (le_words (unpack l).entries) ≡ l
unfolding unpack
entries-stand l a h = ap (sets l 0) (le_words-words places l 0 a (omega arith)) ∙ same-stored (4 * places) l (omega arith)

pub fields-put : (v : Volume) (l : List ℕ) → AllBytes l → length l ≡ ledger_length → v.entries ≡ (unpack l).entries
    → sets (sets (sets (sets l entries_length (le 4 v.size)) (entries_length + 4) (le 4 v.recorded)) (entries_length + 8) (le 4 v.last)) (entries_length + 12) (le 4 v.mode) ≡ pack v
fields-put v l a h e =
    ap (λ (t : List ℕ). sets (sets (sets (sets t entries_length (le 4 v.size)) (entries_length + 4) (le 4 v.recorded)) (entries_length + 8) (le 4 v.last)) (entries_length + 12) (le 4 v.mode))
    (sym (ap (λ (xs : List ℕ). sets l 0 (le_words xs)) e ∙ entries-stand l a h))
    ∙ pack-put v l (ap length e ∙ long-unpack l) h

-- ---- one word put

words-behind : (k : ℕ) (l : List ℕ) (p : ℕ) (vs : List ℕ) (at : ℕ) → p + length vs ≤ at → words k (sets l p vs) at ≡ words k l at
unfolding words
words-behind k l p vs at h = ap (leading_words k) (drop-sets-after vs l p at h)

words-put : (k n : ℕ) (l : List ℕ) (at x : ℕ) → n < k → at + 4 * n + 4 ≤ length l → x < 4294967296 → words k (put_le 4 l (at + 4 * n) x) at ≡ set (words k l at) n x
words-put zero n l at x h inside f = absurd (not-suc-le-zero h)
words-put (suc k) zero l at x h inside f =
    let here : at + 4 * 0 ≡ at = omega arith in
    ap (λ (p : ℕ). words (suc k) (put_le 4 l p x) at) here
    ∙ words_step k (put_le 4 l at x) at
    ∙ ap₂ {C = List ℕ} (λ (y : ℕ) (ys : List ℕ). y ∷ ys) (read-put 4 l at x (omega arith) f) (words-behind k l at (le 4 x) (at + 4) (omega (arith, length-le 4 x)))
    ∙ sym (ap (λ (ys : List ℕ). set ys 0 x) (words_step k l at))
words-put (suc k) (suc n) l at x h inside f =
    let on : at + 4 * suc n ≡ at + 4 + 4 * n = omega arith in
    words_step k (put_le 4 l (at + 4 * suc n) x) at
    ∙ ap₂ {C = List ℕ} (λ (y : ℕ) (ys : List ℕ). y ∷ ys) (read-sets-apart 4 l at (at + 4 * suc n) (le 4 x) (inl (omega arith)))
    (ap (λ (p : ℕ). words k (put_le 4 l p x) (at + 4)) on ∙ words-put k n l (at + 4) x (omega arith) (omega arith) f)
    ∙ sym (ap (λ (ys : List ℕ). set ys (suc n) x) (words_step k l at))

-- entry n put: the bytes hold the other entries, and this one
pub entry-put : (l : List ℕ) (n x : ℕ) → n < places → length l ≡ ledger_length → x < 4294967296 → (unpack (put_le 4 l (4 * n) x)).entries ≡ set (unpack l).entries n x
unfolding unpack
entry-put l n x h long f =
    let at : 4 * n ≡ 0 + 4 * n = omega arith in
    ap (λ (p : ℕ). words places (put_le 4 l p x) 0) at ∙ words-put places n l 0 x h (omega arith) f

-- ---- the entries after each call

pub entries-wrote : (v : Volume) (n b : ℕ) → (wrote (Some n) b v).entries ≡ set v.entries n b
unfolding wrote
entries-wrote v n b = refl

pub entries-unnumbered : (v : Volume) (b : ℕ) → (wrote None b v).entries ≡ v.entries
unfolding wrote
entries-unnumbered v b = refl

pub entries-released : (v : Volume) (n : ℕ) → (released n v).entries ≡ set v.entries n unused
unfolding released
entries-released v n = refl

pub entries-closed : (v : Volume) → (closed v).entries ≡ v.entries
unfolding closed
entries-closed v = refl

pub entries-committed : (v : Volume) (b : ℕ) → (committed b v).entries ≡ v.entries
unfolding committed
entries-committed v b = refl

-- ---- a map that stands at the beginning, shown

words_append : (xs ys : List ℕ) → le_words (xs ++ ys) ≡ le_words xs ++ le_words ys
unfolding le_words
words_append [] ys = refl
words_append (x ∷ xs) ys = ap (λ (l : List ℕ). le 4 x ++ l) (words_append xs ys) ∙ sym (append_assoc (le 4 x) (le_words xs) (le_words ys))

-- n entries stand there, and all others are put as unused; then the fields
pub shown-put : (l : List ℕ) (n b r mode : ℕ) → AllBytes l → length l ≡ ledger_length → n ≤ places
    → sets (sets (sets (sets (sets l (4 * n) (le_words (replicate (places - n) unused))) entries_length (le 4 n)) (entries_length + 4) (le 4 r)) (entries_length + 8) (le 4 b)) (entries_length + 12) (le 4 mode)
    ≡ pack (filled (words n l 0) b r mode)
unfolding filled
shown-put l n b r mode a h few =
    let map : List ℕ = words n l 0 in
    let count : length map ≡ n = length-words n l 0 in
    let rest : List ℕ = replicate (places - n) unused in
    let v : Volume = record { entries = map ++ rest; size = n; recorded = r; last = b; mode = mode } in
    let long : length (map ++ rest) ≡ places = omega (arith, length-append map rest, count, length-replicate {A = ℕ} (places - n) unused) in
    let stand : sets l 0 (le_words (map ++ rest)) ≡ sets l (4 * n) (le_words rest) =
    ap (sets l 0) (words_append map rest)
    ∙ sets-append (le_words map) (le_words rest) l 0
    ∙ ap₂ (λ (t : List ℕ) (k : ℕ). sets t k (le_words rest)) (ap (sets l 0) (le_words-words n l 0 a (omega arith)) ∙ same-stored (4 * n) l (omega arith)) (omega (arith, length-le_words map, count)) in
    ap (λ (t : List ℕ). sets (sets (sets (sets t entries_length (le 4 n)) (entries_length + 4) (le 4 r)) (entries_length + 8) (le 4 b)) (entries_length + 12) (le 4 mode)) (sym stand)
    ∙ pack-put v l long h
    ∙ ap (λ (k : ℕ). pack (record { entries = map ++ replicate (places - k) unused; size = k; recorded = r; last = b; mode = mode })) (sym count)
