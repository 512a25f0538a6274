-- What the recording functions need of the sector's definition, on plain values.
-- Assumes nothing.
use Prim.Native.Nat.{ℕ, ◌+◌, ◌≤◌, ◌<◌}
use native.Mathlib.Omega.{arith}
use mathlib.Core.Path.{◌≡◌, refl, sym, ap, ◌∙◌}
use mathlib.Core.Bool.{Bool, true, ◌&&◌}
use mathlib.Core.List.{List, [], ◌∷◌, ◌++◌}
use mathlib.Core.Logic.{inl}
use lib.Dec.{eqb, lit≤}
use lib.ListN.{length, take, drop, replicate, length-append, length-replicate}
use lib.Seq.{sets, length-sets, take_at}
use borrow.Author.Tests.{eqb-true}
use Rattle.le.specs.Field.{Row, row, le, read_le, lay, holds, le_words}
use Rattle.le.proofs.Bytes.{drop-sets, drop-sets-after, part-sets-apart, sets-append}
use Rattle.le.proofs.Fields.{length-le}
use Rattle.le.proofs.Rows.{and_left, and_right, holds-lay, holds-append}
use Rattle.le.proofs.Runs.{length-le_words}
use Rattle.timestamp.specs.Timestamp.{stamp_length}
use Rattle.vat.specs.Table.{sector_length, most_own, unused, table_start, table_length, regid_at, plain_rows, length_rows, table_name, modified_at, modified_of}
use Rattle.vat.specs.Sector.{table_regid, table_bytes, own_rows, station_at, station_name, access_at, attribute_at, timed, described, allocation_for, body, icb_rows}
use Rattle.vat.proofs.Frame.{Lengths, lengths}

-- the regid as it is put: flags, text, suffix
regid-parts : table_regid ≡ le 1 0 ++ (table_name ++ le 8 0x0150)
unfolding table_regid table_name le
regid-parts = refl

name-length : length table_name ≡ 23
unfolding table_name
name-length = refl

regid-length : length table_regid ≡ 32
unfolding table_regid table_name
regid-length = refl

-- what stands behind the entries, put part by part
pub tail-put : (s : List ℕ) (at previous : ℕ)
    → sets (sets (sets (sets s at (le 1 0)) (at + 1) table_name) (at + 24) (le 8 0x0150)) (at + 32) (le 4 previous) ≡ sets s at (table_regid ++ le 4 previous)
tail-put s at previous =
    let name-end : at + 1 + length table_name ≡ at + 24 = omega (arith, name-length) in
    let regid : sets s at table_regid ≡ sets (sets (sets s at (le 1 0)) (at + 1) table_name) (at + 24) (le 8 0x0150) =
    ap (sets s at) regid-parts
    ∙ sets-append (le 1 0) (table_name ++ le 8 0x0150) s at
    ∙ rw (length-le 1 0) (sets-append table_name (le 8 0x0150) (sets s at (le 1 0)) (at + 1))
    ∙ ap (λ (k : ℕ). sets (sets (sets s at (le 1 0)) (at + 1) table_name) k (le 8 0x0150)) name-end in
    sym (rw (sets-append table_regid (le 4 previous) s at, regid-length, regid))

pub length-tail : (previous : ℕ) → length (table_regid ++ le 4 previous) ≡ 36
length-tail previous = rw (length-append table_regid (le 4 previous), regid-length, length-le 4 previous)

-- the table: its entries, and the tail behind them
pub table-put : (s map : List ℕ) (previous r : ℕ) → r ≡ table_start 0 + regid_at (length map)
    → sets (sets s (table_start 0) (le_words map)) r (table_regid ++ le 4 previous) ≡ sets s (table_start 0) (table_bytes map previous)
unfolding table_bytes
table-put s map previous r e =
    let behind : table_start 0 + length (le_words map) ≡ r = omega (arith, length-le_words map) in
    sym (sets-append (le_words map) (table_regid ++ le 4 previous) s (table_start 0) ∙ ap (λ (k : ℕ). sets (sets s (table_start 0) (le_words map)) k (table_regid ++ le 4 previous)) behind)

pub length-table : (map : List ℕ) (previous : ℕ) → length (table_bytes map previous) ≡ table_length (length map)
unfolding table_bytes
length-table map previous = rw (length-append (le_words map) (table_regid ++ le 4 previous), length-le_words map, length-tail previous)

-- what is known of a table that is recorded: it fits behind the ICB, or in own sectors, whose descriptors do
pub record Recordable (t blocks : List ℕ) : Type 0 where
  pub short : table_start 0 + length (described t blocks) < sector_length
  pub long : length t < 4294967296
  pub few : length blocks ≤ most_own

allocation-small : (blocks : List ℕ) → allocation_for blocks ≤ 3
allocation-small [] = lit≤ tt
allocation-small (c ∷ cs) = lit≤ tt

-- all rows of the ICB are held where they were laid, and so its lengths
pub rows-held : (t blocks : List ℕ) (b : ℕ) (s : List ℕ) → Recordable t blocks → b < 4294967296 → length s ≡ sector_length
    → holds (lay s (icb_rows t blocks b)) (icb_rows t blocks b) ≡ true
unfolding icb_rows plain_rows length_rows own_rows
rows-held t blocks b s ok low long =
    holds-lay (icb_rows t blocks b) s tt 176 tt (omega arith) (omega (arith, ok.short, ok.long, ok.few, allocation-small blocks))

module _ (t blocks s : List ℕ) (b : ℕ) (held : holds s (icb_rows t blocks b) ≡ true) where
  abbrev pub sizes : List Row
  sizes = length_rows 0 (length (described t blocks)) (length t)

  abbrev pub others : List Row
  others = own_rows (allocation_for blocks) ++ (row 64 8 (length blocks) ∷ [])

  all_held : (holds s (plain_rows b) && holds s (sizes ++ others)) ≡ true
  unfolding icb_rows
  all_held = sym (holds-append (plain_rows b) (sizes ++ others) s) ∙ held

  rest-held : (holds s sizes && holds s others) ≡ true
  rest-held = sym (holds-append sizes others s) ∙ and_right (holds s (plain_rows b)) (holds s (sizes ++ others)) all_held

  pub plain-held : holds s (plain_rows b) ≡ true
  plain-held = and_left (holds s (plain_rows b)) (holds s (sizes ++ others)) all_held

  pub sizes-held : holds s sizes ≡ true
  sizes-held = and_left (holds s sizes) (holds s others) rest-held

  pub sizes-told : Lengths s 0 (length (described t blocks)) (length t)
  sizes-told = lengths s 0 (length (described t blocks)) (length t) sizes-held

  pub flagged : read_le 2 s 34 ≡ allocation_for blocks
  unfolding holds own_rows
  flagged =
      let tail : Bool = eqb (read_le 4 s 36) unused && (eqb (read_le 4 s 40) unused && (eqb (read_le 4 s 108) 1 && (eqb (read_le 8 s 64) (length blocks) && true))) in
      let most : Bool = eqb (read_le 2 s 24) 1 in
      let flags : Bool = eqb (read_le 2 s 34) (allocation_for blocks) in
      let own : (most && (flags && tail)) ≡ true = and_right (holds s sizes) (holds s others) rest-held in
      eqb-true (read_le 2 s 34) (allocation_for blocks) (and_left flags tail (and_right most (flags && tail) own))

pub length-timed : (stamp s : List ℕ) → length (timed stamp s) ≡ length s
unfolding timed
length-timed stamp s =
    length-sets (sets (sets s access_at stamp) modified_at stamp) attribute_at stamp
    ∙ length-sets (sets s access_at stamp) modified_at stamp
    ∙ length-sets s access_at stamp

pub length-body : (table blocks stamp : List ℕ) → length (body table blocks stamp) ≡ sector_length
unfolding body
length-body table blocks stamp =
    let zeros : List ℕ = replicate sector_length 0 in
    length-timed stamp (sets (sets zeros (table_start 0) (described table blocks)) station_at station_name)
    ∙ length-sets (sets zeros (table_start 0) (described table blocks)) station_at station_name
    ∙ length-sets zeros (table_start 0) (described table blocks)
    ∙ length-replicate {A = ℕ} sector_length 0

-- the times end before the table
pub behind-times : (stamp s : List ℕ) → length stamp ≡ stamp_length → drop (table_start 0) (timed stamp s) ≡ drop (table_start 0) s
unfolding timed
behind-times stamp s long =
    let t : List ℕ = sets s access_at stamp in
    let u : List ℕ = sets t modified_at stamp in
    drop-sets-after stamp u attribute_at (table_start 0) (omega arith)
    ∙ drop-sets-after stamp t modified_at (table_start 0) (omega arith)
    ∙ drop-sets-after stamp s access_at (table_start 0) (omega arith)

-- the modification time is the stamp
pub time-stands : (stamp s : List ℕ) → length stamp ≡ stamp_length → attribute_at ≤ length s → modified_of (timed stamp s) ≡ stamp
unfolding timed modified_of
time-stands stamp s long inside =
    let t : List ℕ = sets s access_at stamp in
    let u : List ℕ = sets t modified_at stamp in
    part-sets-apart stamp u attribute_at modified_at stamp_length (inl (lit≤ tt))
    ∙ ap (take stamp_length) (drop-sets stamp t modified_at (omega (arith, length-sets s access_at stamp)))
    ∙ take_at stamp (drop (modified_at + length stamp) t) stamp_length long
