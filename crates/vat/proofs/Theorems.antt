-- The table, for every map, block, kind and sector, once over its form:
--     reads-back       the ICB recorded for a map, a previous table, own sectors that stand below it, if there are any, a timestamp and block b is a table's at b
--                      that holds exactly these
--     at-one-block     a sector is a table's at one block number at most, so the recorded one at no other (`not-elsewhere`)
--     tells            what is recognised stands below one sector's end behind attributes of a multiple of 4 bytes, and holds at most 4,087 entries,
--                      each and its previous FFFFFFFF or below b; at block 0 all are FFFFFFFF
-- Assumes nothing.
use Prim.Native.Nat.{ℕ, zero, suc, ◌+◌, ◌/◌, ◌%◌, ◌≤◌, ◌<◌}
use native.Mathlib.Nat.{not-suc-le-zero}
use native.Mathlib.Omega.{arith}
use mathlib.Core.Path.{◌≡◌, refl, sym, ap, ap₂, ◌∙◌, subst}
use mathlib.Core.Bool.{Bool, true, false, ◌&&◌, ◌||◌}
use mathlib.Core.List.{List, [], ◌∷◌, ◌++◌, append_assoc, append-nil}
use mathlib.Core.Logic.{◌⊎◌, inl, inr}
use Rattle.std.specs.Prelude.{Option}
use lib.Dec.{eqb, ltb, leb, lit≤}
use lib.ListN.{length, take, drop, get_or, replicate, length-replicate}
use lib.Seq.{sets, take_at}
use borrow.Author.Tests.{eq-eqb, eqb-true, ltb-true, ltb-false, lt-ltb, le-leb}
use Rattle.std.proofs.lemmas.Bool.{false_from_ne_true}
use Rattle.le.specs.Bytes.{every, holds_text}
use Rattle.le.specs.Field.{Row, row, le, read_le, words, le_words, holds, lay}
use Rattle.le.proofs.Bytes.{drop-sets, drop-sets-after}
use Rattle.le.proofs.Fields.{read-le}
use Rattle.le.proofs.Rows.{and_left, and_right, length-lay, holds-spared, holds-append, drop-lay, part-lay}
use Rattle.le.proofs.Runs.{length-le_words, drop-on, text-held, Words, words-read, length-words}
use Rattle.extent.specs.declared.Extent.{Extent}
use Rattle.extent.specs.Extents.{descriptors_length, extents_from, descriptors, total_length, locations}
use Rattle.extent.proofs.Extents.{length-descriptors, extents-read}
use Rattle.tag.specs.Tag.{sealed}
use Rattle.tag.proofs.Sums.{seal_rows, seal-lays, sealed-seal}
use Rattle.timestamp.specs.Timestamp.{stamp_length}
use Rattle.vat.specs.Table.{sector_length, most_own, most_bytes, limit, unused, unused_or_below, Lower, table_start, tag_version, entry_rows, plain_rows, length_rows, embedded, outside, attribute_length, described_length, whole_length, own_of, measured, framed, modified_at, modified_of, is_there, bytes_of, lies, full_before, laid, joined, inside, bytes_if, table_of, table_length, regid_at, table_name, entry_count, entries_of, previous_of, enclosed, listed, is_table}
use Rattle.vat.specs.Own.{sectors_of, own_count_if, own_count, own_sectors, extents_at}
use Rattle.vat.specs.Sector.{table_regid, table_bytes, own_rows, station_name, station_at, described, body, icb_rows, icb}
use Rattle.vat.proofs.Frame.{located, Framed, framed-tells, few-entries, Enclosed, enclosed-tells}
use Rattle.vat.proofs.Joined.{Fills, Stand, own-laid, own-joined, AllSmall, length-extents, extents-fit, total-extents, extents-at, length-sectors, stand-count}
use Rattle.vat.proofs.Record.{length-table, Recordable, rows-held, plain-held, sizes-held, sizes-told, flagged, length-timed, length-body, behind-times, time-stands}

-- ---- what is recognised

pub record Recognised (lower : Lower) (s : List ℕ) (b : ℕ) : Type 0 where
  pub whole : length s ≡ sector_length
  pub frame : Framed s b
  pub on-data : laid lower (own_of s) ≡ true
  pub around : Enclosed (table_of lower s) b
  pub entries : every (unused_or_below b) (entries_of (table_of lower s)) ≡ true
  pub sums : sealed s ≡ true

pub framed_of : (lower : Lower) (s : List ℕ) (b : ℕ) → is_table lower s b ≡ true → framed s b ≡ true
unfolding is_table
framed_of lower s b e =
    let rest : Bool = laid lower (own_of s) && (listed (table_of lower s) b && sealed s) in
    and_left (framed s b) rest (and_right (eqb (length s) sector_length) (framed s b && rest) e)

pub recognised : (lower : Lower) (s : List ℕ) (b : ℕ) → is_table lower s b ≡ true → Recognised lower s b
unfolding is_table listed
recognised lower s b e =
    let t : List ℕ = table_of lower s in
    let long : Bool = eqb (length s) sector_length in
    let f : Bool = framed s b in
    let n : Bool = enclosed t b in
    let named : Bool = every (unused_or_below b) (entries_of t) in
    let own : Bool = laid lower (own_of s) in
    let e₀ : (f && (own && ((n && named) && sealed s))) ≡ true = and_right long (f && (own && ((n && named) && sealed s))) e in
    let e₁ : (own && ((n && named) && sealed s)) ≡ true = and_right f (own && ((n && named) && sealed s)) e₀ in
    let e₂ : ((n && named) && sealed s) ≡ true = and_right own ((n && named) && sealed s) e₁ in
    let e₃ : (n && named) ≡ true = and_left (n && named) (sealed s) e₂ in
    record {
      whole = eqb-true (length s) sector_length (and_left long (f && (own && ((n && named) && sealed s))) e);
      frame = framed-tells s b (framed_of lower s b e);
      on-data = and_left own ((n && named) && sealed s) e₁;
      around = enclosed-tells t b (and_left n named e₃);
      entries = and_right n named e₃;
      sums = and_right (n && named) (sealed s) e₂;
    }

pub location : (s : List ℕ) (b : ℕ) → holds s (plain_rows b) ≡ true → read_le 4 s 12 ≡ b
unfolding plain_rows
location s b e =
    let links : List Row = row 48 2 0 ∷ [] in
    located s tag_version 0 b (and_left (holds s (entry_rows tag_version 0 b)) (holds s links) (sym (holds-append (entry_rows tag_version 0 b) links s) ∙ e))

pub at-one-block : (lower lower' : Lower) (s : List ℕ) (b b' : ℕ) → is_table lower s b ≡ true → is_table lower' s b' ≡ true → b ≡ b'
at-one-block lower lower' s b b' e e' = sym (location s b (recognised lower s b e).frame.plain) ∙ location s b' (recognised lower' s b' e').frame.plain

-- a block number that a sector at block b may hold
abbrev pub Named : ℕ → ℕ → Type 0
Named b x = (x < b) ⊎ (x ≡ unused)

pub named : (b x : ℕ) → unused_or_below b x ≡ true → Named b x
named b x e = go (ltb x b) refl e
  where
    go : (t : Bool) → ltb x b ≡ t → (t || eqb x unused) ≡ true → Named b x
    go true below e = inl (ltb-true x b below)
    go false above e = inr (eqb-true x unused e)

pub each-named : (b : ℕ) (xs : List ℕ) → every (unused_or_below b) xs ≡ true → (i : ℕ) → i < length xs → Named b (get_or xs i 0)
unfolding every
each-named b [] e i h = absurd (not-suc-le-zero h)
each-named b (x ∷ xs) e zero h = named b x (and_left (unused_or_below b x) (every (unused_or_below b) xs) e)
each-named b (x ∷ xs) e (suc i) h = each-named b xs (and_right (unused_or_below b x) (every (unused_or_below b) xs) e) i (omega arith)

pub record Tells (lower : Lower) (s : List ℕ) (b : ℕ) : Type 0 where
  pub aligned : attribute_length s % 4 ≡ 0
  pub below : whole_length s < sector_length
  pub counted : length (entries_of (table_of lower s)) ≡ entry_count (table_of lower s)
  pub few : entry_count (table_of lower s) ≤ limit
  pub entry : (i : ℕ) → i < entry_count (table_of lower s) → Named b (get_or (entries_of (table_of lower s)) i 0)
  pub previous : Named b (previous_of (table_of lower s))

pub tells : (lower : Lower) (s : List ℕ) (b : ℕ) → is_table lower s b ≡ true → Tells lower s b
unfolding entries_of
tells lower s b e =
    let t : List ℕ = table_of lower s in
    let r : Recognised lower s b = recognised lower s b e in
    let count : length (entries_of t) ≡ entry_count t = length-words (entry_count t) t 0 in
    record {
      aligned = r.frame.aligned;
      below = r.frame.below;
      counted = count;
      few = few-entries lower s b r.whole r.frame r.on-data;
      entry = λ i h. each-named b (entries_of t) r.entries i (rw count h);
      previous = named b (previous_of t) r.around.backward;
    }

at_zero : (x : ℕ) → Named 0 x → x ≡ unused
at_zero x (inl h) = absurd (not-suc-le-zero h)
at_zero x (inr e) = e

pub all-unused-at-zero : (lower : Lower) (s : List ℕ) → is_table lower s 0 ≡ true → ((i : ℕ) → i < entry_count (table_of lower s) → get_or (entries_of (table_of lower s)) i 0 ≡ unused) × (previous_of (table_of lower s) ≡ unused)
all-unused-at-zero lower s e =
    let t : Tells lower s 0 = tells lower s 0 e in
    (λ i h. at_zero (get_or (entries_of (table_of lower s)) i 0) (t.entry i h), at_zero (previous_of (table_of lower s)) t.previous)

-- ---- what was recorded

pub fits : (b x : ℕ) → b < 4294967296 → unused_or_below b x ≡ true → x < 4294967296
fits b x hb e = go (named b x e)
  where
    go : Named b x → x < 4294967296
    go (inl h) = omega arith
    go (inr e) = omega arith

pub all_fit : (b : ℕ) (xs : List ℕ) → b < 4294967296 → every (unused_or_below b) xs ≡ true → Words xs
unfolding every
all_fit b [] hb e = tt
all_fit b (x ∷ xs) hb e = (
  fits b x hb (and_left (unused_or_below b x) (every (unused_or_below b) xs) e),
  all_fit b xs hb (and_right (unused_or_below b x) (every (unused_or_below b) xs) e),
)

-- the sector with its header and sums, over what stands behind them, the name and the times
module _ (t blocks stamp : List ℕ) (b : ℕ) where
  over : List ℕ
  over = lay (body t blocks stamp) (icb_rows t blocks b)

  length_over : length over ≡ sector_length
  unfolding over
  length_over = length-lay (icb_rows t blocks b) (body t blocks stamp) ∙ length-body t blocks stamp

  icb-lays : icb t blocks stamp b ≡ lay over (seal_rows over)
  unfolding icb over
  icb-lays = seal-lays over

  pub icb-long : length (icb t blocks stamp b) ≡ sector_length
  icb-long = ap length icb-lays ∙ length-lay (seal_rows over) over ∙ length_over

  sums-held : sealed (icb t blocks stamp b) ≡ true
  unfolding icb over
  sums-held = sealed-seal over (omega (arith, length_over))

module _ (t blocks stamp : List ℕ) (b : ℕ) (ok : Recordable t blocks) (low : b < 4294967296) (timely : length stamp ≡ stamp_length) where
  -- sealing spares the header
  held : holds (icb t blocks stamp b) (icb_rows t blocks b) ≡ true
  unfolding over icb_rows plain_rows length_rows own_rows
  held =
      let l : List ℕ = over t blocks stamp b in
      ap (λ (l : List ℕ). holds l (icb_rows t blocks b)) (icb-lays t blocks stamp b)
      ∙ holds-spared (icb_rows t blocks b) (seal_rows l) l tt
      ∙ rows-held t blocks b (body t blocks stamp) ok low (length-body t blocks stamp)

  -- header and sums end before what they describe
  described-stands : drop (table_start 0) (icb t blocks stamp b) ≡ described t blocks ++ drop (table_start 0 + length (described t blocks)) (replicate sector_length 0)
  unfolding over icb_rows plain_rows length_rows own_rows body station_name
  described-stands =
      let l : List ℕ = over t blocks stamp b in
      let zeros : List ℕ = replicate sector_length 0 in
      let content : List ℕ = described t blocks in
      let within : table_start 0 + length content ≤ length zeros = omega (arith, ok.short, length-replicate {A = ℕ} sector_length 0) in
      ap (drop (table_start 0)) (icb-lays t blocks stamp b)
      ∙ drop-lay (seal_rows l) l (table_start 0) tt
      ∙ drop-lay (icb_rows t blocks b) (body t blocks stamp) (table_start 0) tt
      ∙ behind-times stamp (sets (sets zeros (table_start 0) content) station_at station_name) timely
      ∙ drop-sets-after station_name (sets zeros (table_start 0) content) station_at (table_start 0) (lit≤ tt)
      ∙ drop-sets content zeros (table_start 0) within

  -- header and sums spare the times
  pub icb-time : modified_of (icb t blocks stamp b) ≡ stamp
  unfolding over icb_rows plain_rows length_rows own_rows body modified_of
  icb-time =
      let l : List ℕ = over t blocks stamp b in
      let s : List ℕ = sets (sets (replicate sector_length 0) (table_start 0) (described t blocks)) station_at station_name in
      let long : length s ≡ sector_length = sym (length-timed stamp s) ∙ length-body t blocks stamp in
      ap modified_of (icb-lays t blocks stamp b)
      ∙ part-lay (seal_rows l) l modified_at stamp_length tt
      ∙ part-lay (icb_rows t blocks b) (body t blocks stamp) modified_at stamp_length tt
      ∙ time-stands stamp s timely (omega arith)

  unattributed : attribute_length (icb t blocks stamp b) ≡ 0
  unfolding attribute_length
  unattributed = (sizes-told t blocks (icb t blocks stamp b) b held).attributes

  described-told : described_length (icb t blocks stamp b) ≡ length (described t blocks)
  unfolding described_length
  described-told = (sizes-told t blocks (icb t blocks stamp b) b held).descriptors

-- ---- its form

-- the own sectors of a table, if it has any, stand below its ICB
abbrev Standing : Lower → List ℕ → List ℕ → Type 0
Standing lower t [] = Unit
Standing lower t (c ∷ cs) = Stand lower (c ∷ cs) (sectors_of (suc (length cs)) t) × Fills (length cs) (length t)

-- what the ICB s tells of the form of its table
record Formed (lower : Lower) (t blocks s : List ℕ) : Type 0 where
  sized : measured s ≡ true
  on-data : laid lower (own_of s) ≡ true
  table : table_of lower s ≡ t
  names : locations (own_of s) ≡ blocks

formed : (t blocks stamp : List ℕ) (b : ℕ) → Recordable t blocks → AllSmall blocks → b < 4294967296 → length stamp ≡ stamp_length → (lower : Lower) → Standing lower t blocks
    → Formed lower t blocks (icb t blocks stamp b)
unfolding own_of measured inside table_of laid locations
formed t [] stamp b ok small low timely lower h =
    let s : List ℕ = icb t [] stamp b in
    let rows : holds s (icb_rows t [] b) ≡ true = held t [] stamp b ok low timely in
    let within : embedded s ≡ true = ap (λ (k : ℕ). eqb (k % 8) 3) (flagged t [] s b rows) in
    let behind : List ℕ = drop (table_start 0 + length t) (replicate sector_length 0) in
    record {
      sized = rw (within, unattributed t [] stamp b ok low timely, described-told t [] stamp b ok low timely, sizes-held t [] s b rows);
      on-data = rw within;
      table =
          rw (within, unattributed t [] stamp b ok low timely, described-told t [] stamp b ok low timely)
          (ap (take (length t)) (described-stands t [] stamp b ok low timely) ∙ take_at t behind (length t) refl);
      names = rw within;
    }
formed t (c ∷ cs) stamp b ok small low timely lower h =
    let blocks : List ℕ = c ∷ cs in
    let s : List ℕ = icb t blocks stamp b in
    let all : holds s (icb_rows t blocks b) ≡ true = held t blocks stamp b ok low timely in
    let es : List Extent = extents_at (length t) blocks in
    let not-inside : embedded s ≡ false = ap (λ (k : ℕ). eqb (k % 8) 3) (flagged t blocks s b all) in
    let elsewhere : outside s ≡ true = ap (λ (k : ℕ). eqb (k % 8) 0) (flagged t blocks s b all) in
    let long : length (descriptors es) ≡ descriptors_length (length es) = length-descriptors es in
    let count : length es ≡ length blocks = length-extents (length t) blocks in
    let eighth : described_length s / 8 ≡ length es = omega (arith, described-told t blocks stamp b ok low timely, long) in
    let own : extents_from (described_length s / 8) s (table_start (attribute_length s)) ≡ es =
    ap₂ (λ (k a : ℕ). extents_from k s (table_start a)) eighth (unattributed t blocks stamp b ok low timely)
    ∙ extents-read es s (drop (table_start 0 + length (descriptors es)) (replicate sector_length 0)) (table_start 0) (extents-fit (length t) blocks ok.long small) (described-stands t blocks stamp b ok low timely) in
    let total : total_length es ≡ length t = total-extents (length cs) (length t) blocks refl h.1 in
    let rows : holds s (length_rows 0 (descriptors_length (length es)) (total_length es)) ≡ true =
    ap₂ (λ (x y : ℕ). holds s (length_rows 0 x y)) (sym long) total ∙ sizes-held t blocks s b all in
    let some-own : leb 1 (length es) ≡ true = le-leb 1 (length es) (omega (arith, count)) in
    let few-own : leb (length es) most_own ≡ true = le-leb (length es) most_own (omega (arith, count, ok.few)) in
    record {
      sized = rw (not-inside, elsewhere, own, unattributed t blocks stamp b ok low timely, some-own, few-own, rows);
      on-data = rw (not-inside, own) (own-laid lower (length cs) t blocks h.0 h.1);
      table = rw (not-inside, own) (own-joined lower (length cs) t blocks h.0 h.1);
      names = rw (not-inside, own) (extents-at (length t) blocks);
    }

-- it is recognised where the table is listed
module _ (t blocks stamp : List ℕ) (b : ℕ) (ok : Recordable t blocks) (small : AllSmall blocks) (low : b < 4294967296) (timely : length stamp ≡ stamp_length) (lower : Lower)
    (stands : Standing lower t blocks) where
  form : Formed lower t blocks (icb t blocks stamp b)
  form = formed t blocks stamp b ok small low timely lower stands

  is-table-here : listed t b ≡ true → is_table lower (icb t blocks stamp b) b ≡ true
  unfolding is_table framed
  is-table-here good =
      let s : List ℕ = icb t blocks stamp b in
      let short : ltb (table_start 0 + length (described t blocks)) sector_length ≡ true = lt-ltb (table_start 0 + length (described t blocks)) sector_length ok.short in
      rw (eq-eqb (length s) sector_length (icb-long t blocks stamp b), plain-held t blocks s b (held t blocks stamp b ok low timely), unattributed t blocks stamp b ok low timely, described-told t blocks stamp b ok low timely, short, form.sized, form.on-data, form.table, good, sums-held t blocks stamp b)

-- ---- the table's bytes

module _ (map : List ℕ) (previous : ℕ) where
  counted : entry_count (table_bytes map previous) ≡ length map
  unfolding entry_count
  counted = omega (arith, length-table map previous)

  -- the parts of the table, each where it stands
  regid-stands : drop (regid_at (length map)) (table_bytes map previous) ≡ table_regid ++ (le 4 previous ++ [])
  unfolding table_bytes
  regid-stands =
      let at : 0 + regid_at (length map) ≡ regid_at (length map) = omega arith in
      ap (λ (k : ℕ). drop k (table_bytes map previous)) (sym at)
      ∙ drop-on (table_bytes map previous) (le_words map) (table_regid ++ le 4 previous) 0 (regid_at (length map)) refl (length-le_words map)
      ∙ ap (λ (l : List ℕ). table_regid ++ l) (sym (append-nil (le 4 previous)))

  named-held : holds_text (table_bytes map previous) (regid_at (length map) + 1) table_name ≡ true
  unfolding table_regid
  named-held =
      let suffix : List ℕ = 0x50 ∷ 0x01 ∷ 0 ∷ 0 ∷ 0 ∷ 0 ∷ 0 ∷ 0 ∷ [] in
      let behind : List ℕ = suffix ++ (le 4 previous ++ []) in
      text-held table_name (table_bytes map previous) behind (regid_at (length map) + 1)
      (drop-on (table_bytes map previous) (0 ∷ []) (table_name ++ behind) (regid_at (length map)) 1
      (regid-stands ∙ ap (λ (l : List ℕ). 0 ∷ l) (append_assoc table_name suffix (le 4 previous ++ []))) refl)

  pub previous-stands : previous < 4294967296 → read_le 4 (table_bytes map previous) (regid_at (length map) + 32) ≡ previous
  unfolding table_regid table_name
  previous-stands =
      read-le 4 previous (table_bytes map previous) [] (regid_at (length map) + 32)
      (drop-on (table_bytes map previous) table_regid (le 4 previous ++ []) (regid_at (length map)) 32 regid-stands refl)

  module _ (fits : Words map) (small : previous < 4294967296) where
    entries-back : entries_of (table_bytes map previous) ≡ map
    unfolding entries_of table_bytes
    entries-back =
        ap (λ (k : ℕ). words k (table_bytes map previous) 0) counted ∙ words-read map (table_bytes map previous) (table_regid ++ le 4 previous) 0 refl fits

    previous-back : previous_of (table_bytes map previous) ≡ previous
    unfolding previous_of
    previous-back = ap (λ (k : ℕ). read_le 4 (table_bytes map previous) (regid_at k + 32)) counted ∙ previous-stands small

  listed_back : (b : ℕ) → b < 4294967296 → every (unused_or_below b) map ≡ true → unused_or_below b previous ≡ true → listed (table_bytes map previous) b ≡ true
  unfolding listed enclosed
  listed_back b low below before =
      let t : List ℕ = table_bytes map previous in
      let words : Words map = all_fit b map low below in
      let small : previous < 4294967296 = fits b previous low before in
      rw (counted, eq-eqb (length t) (table_length (length map)) (length-table map previous), named-held, entries-back words small, previous-back words small, before, below)

-- ---- both together

-- how many own sectors a table of n bytes has: none, and it fits behind its ICB; or some, which hold it, the last not empty
pub none-own : (n : ℕ) → own_count n ≡ 0 → table_start 0 + n < sector_length
unfolding own_count
none-own n e = go (ltb (table_start 0 + n) sector_length) refl e
  where
    go : (t : Bool) → ltb (table_start 0 + n) sector_length ≡ t → own_count_if t n ≡ 0 → table_start 0 + n < sector_length
    go true z e = ltb-true (table_start 0 + n) sector_length z
    go false z e = absurd (let high : sector_length ≤ table_start 0 + n = ltb-false (table_start 0 + n) sector_length z in omega arith)

pub some-own : (n k : ℕ) → own_count n ≡ suc k → (sector_length ≤ table_start 0 + n) × Fills k n
unfolding own_count
some-own n k e = go (ltb (table_start 0 + n) sector_length) refl e
  where
    go : (t : Bool) → ltb (table_start 0 + n) sector_length ≡ t → own_count_if t n ≡ suc k → (sector_length ≤ table_start 0 + n) × Fills k n
    go true z e = absurd (omega arith)
    go false z e = (ltb-false (table_start 0 + n) sector_length z, record { more = omega arith; enough = omega arith })

pub few-own : (n : ℕ) → n ≤ most_bytes → own_count n ≤ most_own
unfolding own_count
few-own n h = go (ltb (table_start 0 + n) sector_length)
  where
    go : (t : Bool) → own_count_if t n ≤ most_own
    go true = omega arith
    go false = omega arith

-- "Ours of up to 458 stay embedded", and 4,087 numbers fill eight sectors
pub limit-held : (n : ℕ) → n ≤ limit → table_length n ≤ most_bytes
limit-held n h = omega arith

pub embedded-up-to : (n : ℕ) → n ≤ 458 → own_count (table_length n) ≡ 0
unfolding own_count
embedded-up-to n h = ap (λ (t : Bool). own_count_if t (table_length n)) (lt-ltb (table_start 0 + table_length n) sector_length (omega arith))

-- the sectors of a table stand at its blocks, as many
module _ (t : List ℕ) where
  standing : (lower : Lower) (blocks : List ℕ) → Stand lower blocks (own_sectors t) → Standing lower t blocks
  standing lower [] h = tt
  standing lower (c ∷ cs) h =
      let count : own_count (length t) ≡ suc (length cs) =
      sym (length-sectors (own_count (length t)) t) ∙ sym (stand-count lower (c ∷ cs) (own_sectors t) h) in
      (subst (λ (m : ℕ). Stand lower (c ∷ cs) (sectors_of m t)) count h, (some-own (length t) (length cs) count).1)

  pub recordable : (blocks : List ℕ) → length t ≤ most_bytes → length blocks ≡ own_count (length t) → Recordable t blocks
  recordable [] most count =
      record { short = none-own (length t) (sym count); long = omega arith; few = omega arith }
  recordable (c ∷ cs) most count =
      let es : List Extent = extents_at (length t) (c ∷ cs) in
      let eight : length (c ∷ cs) ≤ most_own = omega (arith, few-own (length t) most) in
      record { short = omega (arith, length-descriptors es, length-extents (length t) (c ∷ cs)); long = omega arith; few = eight }

-- the ICB recorded for a map, a previous table, the blocks of own sectors, a timestamp and a block, where this can be read below it
pub record ReadsBack (lower : Lower) (map : List ℕ) (previous : ℕ) (blocks stamp : List ℕ) (b : ℕ) : Type 0 where
  pub is-table : is_table lower (icb (table_bytes map previous) blocks stamp b) b ≡ true
  pub attributes : attribute_length (icb (table_bytes map previous) blocks stamp b) ≡ 0
  pub count : entry_count (table_of lower (icb (table_bytes map previous) blocks stamp b)) ≡ length map
  pub entries : entries_of (table_of lower (icb (table_bytes map previous) blocks stamp b)) ≡ map
  pub previous-table : previous_of (table_of lower (icb (table_bytes map previous) blocks stamp b)) ≡ previous
  pub modified : modified_of (icb (table_bytes map previous) blocks stamp b) ≡ stamp
  pub names : locations (own_of (icb (table_bytes map previous) blocks stamp b)) ≡ blocks

-- as many blocks as own sectors
counted-blocks : (lower : Lower) (t blocks : List ℕ) → Stand lower blocks (own_sectors t) → length blocks ≡ own_count (length t)
counted-blocks lower t blocks h = stand-count lower blocks (own_sectors t) h ∙ length-sectors (own_count (length t)) t

pub reads-back : (lower : Lower) (map : List ℕ) (previous : ℕ) (blocks stamp : List ℕ) (b : ℕ) → length map ≤ limit → every (unused_or_below b) map ≡ true → unused_or_below b previous ≡ true
    → Stand lower blocks (own_sectors (table_bytes map previous)) → AllSmall blocks → length stamp ≡ stamp_length → b < 4294967296 → ReadsBack lower map previous blocks stamp b
reads-back lower map previous blocks stamp b few below before stands small timely low =
    let t : List ℕ = table_bytes map previous in
    let most : length t ≤ most_bytes = omega (arith, length-table map previous) in
    let ok : Recordable t blocks = recordable t blocks most (counted-blocks lower t blocks stands) in
    let f : Formed lower t blocks (icb t blocks stamp b) = form t blocks stamp b ok small low timely lower (standing t lower blocks stands) in
    let in_words : Words map = all_fit b map low below in
    let in-word : previous < 4294967296 = fits b previous low before in
    record {
      is-table = is-table-here t blocks stamp b ok small low timely lower (standing t lower blocks stands) (listed_back map previous b low below before);
      attributes = unattributed t blocks stamp b ok low timely;
      count = ap entry_count f.table ∙ counted map previous;
      entries = ap entries_of f.table ∙ entries-back map previous in_words in-word;
      previous-table = ap previous_of f.table ∙ previous-back map previous in_words in-word;
      modified = icb-time t blocks stamp b ok low timely;
      names = f.names;
    }

-- whatever the map, it is a table at no other block
pub not-elsewhere : (map : List ℕ) (previous : ℕ) (blocks stamp : List ℕ) (b : ℕ) → length map ≤ limit → length blocks ≡ own_count (length (table_bytes map previous)) → length stamp ≡ stamp_length
    → b < 4294967296 → (lower : Lower) (b' : ℕ) → (b' ≡ b → ⊥) → is_table lower (icb (table_bytes map previous) blocks stamp b) b' ≡ false
not-elsewhere map previous blocks stamp b few count timely low lower b' other =
    let t : List ℕ = table_bytes map previous in
    let s : List ℕ = icb t blocks stamp b in
    let ok : Recordable t blocks = recordable t blocks (omega (arith, length-table map previous)) count in
    false_from_ne_true (is_table lower s b')
    (λ e. other (sym (location s b' (recognised lower s b' e).frame.plain) ∙ location s b (plain-held t blocks s b (held t blocks stamp b ok low timely))))

-- ---- what keeps it

-- readers that agree on these blocks
abbrev pub Agree : Lower → Lower → List ℕ → Type 0
Agree lower lower' [] = Unit
Agree lower lower' (c ∷ cs) = (lower' c ≡ lower c) × Agree lower lower' cs

agree-own : (lower lower' : Lower) (es : List Extent) → Agree lower lower' (locations es) → (laid lower' es ≡ laid lower es) × (joined lower' es ≡ joined lower es)
unfolding laid joined lies locations
agree-own lower lower' [] a = (refl, refl)
agree-own lower lower' (e ∷ es) a =
    let rest : (laid lower' es ≡ laid lower es) × (joined lower' es ≡ joined lower es) = agree-own lower lower' es a.1 in (
      ap₂ (λ (o : Option (List ℕ)) (t : Bool). (ltb 0 e.length && (leb e.length sector_length && is_there o)) && (full_before e es && t)) a.0 rest.0,
      ap₂ (λ (o : Option (List ℕ)) (l : List ℕ). take e.length (bytes_of o) ++ l) a.0 rest.1,
    )

-- what can be read of its own sectors decides with the ICB whether it is a table, and what it holds
pub agree-table : (lower lower' : Lower) (s : List ℕ) (b : ℕ) → Agree lower lower' (locations (own_of s)) → (is_table lower' s b ≡ is_table lower s b) × (table_of lower' s ≡ table_of lower s)
unfolding is_table table_of
agree-table lower lower' s b a =
    let own : (laid lower' (own_of s) ≡ laid lower (own_of s)) × (joined lower' (own_of s) ≡ joined lower (own_of s)) = agree-own lower lower' (own_of s) a in (
      ap₂ (λ (t : Bool) (l : List ℕ). eqb (length s) sector_length && (framed s b && (t && (listed (bytes_if (embedded s) (inside s) l) b && sealed s)))) own.0 own.1,
      ap (λ (l : List ℕ). bytes_if (embedded s) (inside s) l) own.1,
    )
