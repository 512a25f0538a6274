-- What mount and look back leave shows the page of its table, and reads it.
-- Assumes nothing.
use Prim.Native.Nat.{ℕ, zero, suc, ◌-◌, ◌<◌}
use native.Mathlib.Omega.{arith}
use mathlib.Core.Path.{◌≡◌, refl, sym, ap, ap₂, ◌∙◌, subst}
use mathlib.Core.Bool.{Bool, true, false, ◌||◌, not, or-true}
use mathlib.Core.List.{List, [], ◌∷◌, ◌++◌}
use lib.Dec.{eqb, leb}
use lib.ListN.{length, get_or, drop, replicate}
use lib.Seq.{drop_at}
use borrow.Author.Tests.{eq-eqb, eqb-true, eqb-false, le-leb, lt-leb}
use Rattle.le.specs.Bytes.{every}
use Rattle.vat.specs.Table.{sector_length, limit, unused, unused_or_below}
use Rattle.disc.specs.Disc.{Disc, recorded, kind_at, sector_at, readable, content, puts}
use Rattle.disc.specs.Tables.{table_at, map_at}
use Rattle.disc.proofs.Recording.{Sound}
use Rattle.disc.proofs.Told.{few-at}
use Rattle.disc.proofs.Found.{table-recorded}
use Rattle.volume.specs.declared.Volume.{Volume}
use Rattle.volume.specs.Volume.{ledger_length, packet_open, read_only, unpack, pack, map_of, is_unused, fits, filled}
use Rattle.volume.proofs.State.{Proper, unpack-pack, length-pack, map-filled}
use Rattle.recorder.specs.Calls.{read}
use Rattle.recorder.specs.Refusals.{Test, test, first, block_lent, unfit, block_of, not_in_use, tests, outcome}
use Rattle.recorder.specs.Effects.{effect, after, shown_at}
use Rattle.recorder.proofs.Done.{skip, stop, none_left, skip-basic}
use Rattle.history.specs.History.{unused_entry}
use Rattle.history.specs.Events.{shown_if}
use Rattle.history.specs.Claim.{block_number, reading, Shows}
use Rattle.history.proofs.Log.{all-below-more, shown_of, page_from, length-page}
use Rattle.history.proofs.Growth.{F, names-below, all-below-to}
use Rattle.history.proofs.Steps.{proper-table}

-- ---- the page of a map, number by number

page-at : (d : Disc) (xs : List ℕ) (n : ℕ) → get_or (page_from F d xs) n unused_entry ≡ shown_of F d (get_or xs n unused)
page-at d [] n = refl
page-at d (x ∷ xs) zero = refl
page-at d (x ∷ xs) (suc n) = page-at d xs n

block-of : (d : Disc) (x : ℕ) → block_number (shown_of F d x) ≡ x
block-of d x = go (eqb x unused) refl
  where
    go : (t : Bool) → eqb x unused ≡ t → block_number (shown_if (eqb x unused) x (content d x)) ≡ x
    go true e = rw e (sym (eqb-true x unused e))
    go false e = rw e

padded-at : (xs : List ℕ) (k n : ℕ) → get_or (xs ++ replicate k unused) n unused ≡ get_or xs n unused
padded-at [] zero n = refl
padded-at [] (suc k) zero = refl
padded-at [] (suc k) (suc n) = padded-at [] k n
padded-at (x ∷ xs) k zero = refl
padded-at (x ∷ xs) k (suc n) = padded-at xs k n

used-below : (xs : List ℕ) (n : ℕ) → (get_or xs n unused ≡ unused → ⊥) → n < length xs
used-below [] n u = absurd (u refl)
used-below (x ∷ xs) zero u = omega arith
used-below (x ∷ xs) (suc n) u = let h : n < length xs = used-below xs n u in omega arith

all-unused : (k : ℕ) → every is_unused (replicate k unused) ≡ true
unfolding every
all-unused zero = refl
all-unused (suc k) = all-unused k

-- ---- a read

-- what the two tests of a read say of entry x: in use or not, readable or not
read-rest : Disc → Volume → ℕ → ℕ → List Test
read-rest d v n x = test 10 (leb v.size n || eqb x unused) ∷ test 11 (not (eqb (kind_at d x) 1)) ∷ []

module _ (d : Disc) (l : List ℕ) (n : ℕ) (block : List ℕ) (ok : Sound d) (long : length l ≡ ledger_length) (whole : length block ≡ sector_length) (fit : fits d (unpack l) ≡ true) where
  x : ℕ
  x = get_or (unpack l).entries n unused

  read-outcome : outcome d l (read n block) ≡ first (read-rest d (unpack l) n x)
  unfolding outcome tests read-rest x
  read-outcome =
      let v : Volume = unpack l in
      let rest : List Test = test 10 (not_in_use v n) ∷ test 11 (not (eqb (kind_at d (get_or v.entries n unused)) 1)) ∷ [] in
      let lent : block_lent l block ≡ true = rw (eq-eqb (length l) ledger_length long, eq-eqb (length block) sector_length whole) in
      skip-basic d (block_lent l block) (unfit d l ∷ rest) ok lent ∙ skip 4 (not (fits d v)) rest (ap not fit)

  -- the answer, by what the entry shows
  pub read_answer : ((get_or (unpack l).entries n unused ≡ unused → ⊥) → n < (unpack l).size)
      → after d l (read n block) ≡ reading d l block (shown_of F d (get_or (unpack l).entries n unused))
  unfolding after effect content puts read-rest x
  read_answer below = go (eqb x unused) refl (eqb (kind_at d x) 1) refl
    where
      go : (t : Bool) → eqb x unused ≡ t → (u : Bool) → eqb (kind_at d x) 1 ≡ u
          → after d l (read n block) ≡ reading d l block (shown_if (eqb x unused) x (readable (eqb (kind_at d x) 1) (sector_at d x)))
      go true z u y =
          let answer : outcome d l (read n block) ≡ 10 =
          read-outcome ∙ stop 10 (leb (unpack l).size n || eqb x unused) (test 11 (not (eqb (kind_at d x) 1)) ∷ []) (ap (λ (t : Bool). leb (unpack l).size n || t) z ∙ or-true (leb (unpack l).size n)) in
          rw (answer, z)
      go false z true y =
          let used : (leb (unpack l).size n || eqb x unused) ≡ false = ap₂ (λ (p q : Bool). p || q) (lt-leb (unpack l).size n (below (eqb-false x unused z))) z in
          let answer : outcome d l (read n block) ≡ 0 =
          read-outcome ∙ skip 10 (leb (unpack l).size n || eqb x unused) (test 11 (not (eqb (kind_at d x) 1)) ∷ []) used ∙ skip 11 (not (eqb (kind_at d x) 1)) [] (ap not y) ∙ none_left in
          rw (answer, z, y)
      go false z false y =
          let used : (leb (unpack l).size n || eqb x unused) ≡ false = ap₂ (λ (p q : Bool). p || q) (lt-leb (unpack l).size n (below (eqb-false x unused z))) z in
          let answer : outcome d l (read n block) ≡ 11 =
          read-outcome ∙ skip 10 (leb (unpack l).size n || eqb x unused) (test 11 (not (eqb (kind_at d x) 1)) ∷ []) used ∙ stop 11 (not (eqb (kind_at d x) 1)) [] (ap not y) in
          rw (answer, z, y)

-- ---- a state filled from a table

-- looking only or with no packet open
abbrev Filling : ℕ → Type 0
Filling mode = (leb mode read_only ≡ true) × (eqb mode packet_open ≡ false)

filled-fits : (d : Disc) → Sound d → (b mode : ℕ) → Filling mode → table_at d b ≡ true → fits d (shown_at d b mode) ≡ true
unfolding fits filled
filled-fits d ok b mode m e =
    let xs : List ℕ = map_at d b in
    let r : ℕ = recorded d in
    let inside : b < r = table-recorded d ok b e in
    let few : leb (length xs) limit ≡ true = le-leb (length xs) limit (few-at d b e) in
    let behind : every is_unused (drop (length xs) (xs ++ replicate (limit - length xs) unused)) ≡ true =
    ap (every is_unused) (drop_at xs (replicate (limit - length xs) unused) (length xs) refl) ∙ all-unused (limit - length xs) in
    let named : every (unused_or_below r) (map_of (filled xs b r mode)) ≡ true =
    ap (every (unused_or_below r)) (map-filled xs b r mode) ∙ all-below-to r xs (all-below-more b r xs (omega arith) (names-below d b e)) in
    rw (few, behind, named, eq-eqb r r refl, e, or-true (eqb b unused), m.0, m.1)

-- a ledger that fits the disc and whose numbers are the map's
pub record HoldsMap (d : Disc) (l xs : List ℕ) : Type 0 where
  pub long : length l ≡ ledger_length
  pub fit : fits d (unpack l) ≡ true
  pub size : (unpack l).size ≡ length xs
  pub entry : (n : ℕ) → block_of (unpack l) n ≡ get_or xs n unused

module _ (d : Disc) (ok : Sound d) (b mode : ℕ) (word : mode < 4294967296) (m : Filling mode) (e : table_at d b ≡ true) where
  pub holds-table : HoldsMap d (pack (shown_at d b mode)) (map_at d b)
  unfolding filled
  holds-table =
      let v : Volume = shown_at d b mode in
      let proper : Proper v = proper-table d ok b mode word e in
      let unpacked : unpack (pack v) ≡ v = unpack-pack v proper in
      record {
        long = length-pack v proper;
        fit = ap (fits d) unpacked ∙ filled-fits d ok b mode m e;
        size = ap (λ (u : Volume). u.size) unpacked;
        entry = λ n. ap (λ (u : Volume). block_of u n) unpacked ∙ padded-at (map_at d b) (limit - length (map_at d b)) n;
      }

  pub shows-table : Shows d (pack (shown_at d b mode)) (page_from F d (map_at d b))
  shows-table =
      let l : List ℕ = pack (shown_at d b mode) in
      let h : HoldsMap d l (map_at d b) = holds-table in
      record {
        size = h.size ∙ sym (length-page F d (map_at d b));
        entry = λ n. h.entry n ∙ sym (ap block_number (page-at d (map_at d b) n) ∙ block-of d (get_or (map_at d b) n unused));
        reads = λ n block whole.
            read_answer d l n block ok h.long whole h.fit (λ used. subst (λ (k : ℕ). n < k) (sym h.size) (used-below (map_at d b) n (λ z. used (h.entry n ∙ z))))
            ∙ ap (reading d l block) (ap (shown_of F d) (h.entry n) ∙ sym (page-at d (map_at d b) n));
      }
