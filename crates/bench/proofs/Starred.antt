-- The starred rows of document 01's 'Bench examples', shown once, as one claim over one list of them, and rows for document 02's requests, as three more (those for
-- larger tables stand in `Apart`): the checker works each out from the definitions, calls on the states that their ledgers hold (`States`).
-- Assumes nothing.
use Prim.Native.Nat.{ℕ, ◌+◌, ◌*◌}
use mathlib.Core.Bool.{Bool, true, false, not, ◌&&◌}
use mathlib.Core.List.{List, [], ◌∷◌, ◌++◌}
use Rattle.std.specs.Prelude.{None, Some}
use mathlib.Core.Path.{◌≡◌, refl, sym, ap₂, subst}
use lib.Dec.{T, eqb, ltb, eqb→eq}
use lib.ListN.{length, replicate, set}
use lib.Seq.{sets}
use Rattle.le.specs.Field.{le, read_le, leading_words, words, le_words, lay, holds}
use Rattle.le.specs.Bytes.{every, total, holds_text}
use Rattle.crc.specs.Crc.{crc_of, crc_from, byte_step}
use Rattle.tag.specs.Tag.{crc_length, checksum, body_crc, summed, sealed, seal}
use Rattle.timestamp.specs.Calendar.{months, real, days_of_years, days_before, minutes_before}
use Rattle.timestamp.specs.Timestamp.{zone_of, moment_of, valid, minutes_of, told}
use Rattle.extent.specs.Extents.{extent, extents_from, descriptors, total_length, locations}
use Rattle.vat.specs.Table.{unused, Lower, plain_rows, length_rows, attribute_length, described_length, own_of, measured, framed, modified_of, lies, laid, joined, inside, table_of, table_length, table_name, entry_count, entries_of, previous_of, enclosed, listed, is_table, tag_version}
use Rattle.vat.specs.Sector.{table_regid, table_bytes, own_rows, station_name, timed, no_stamp, body, icb_rows, icb}
use Rattle.vat.specs.Own as own
use Rattle.vat.specs.Own.{own_sector, own_count, extents_at}
use Rattle.anchor.specs.Anchor.{anchor_rows, anchor, anchor_tagged}
use Rattle.disc.specs.Disc.{Disc, sized, leading, in_order, sector_at, readable, content, stored, puts}
use Rattle.disc.specs.Tables.{table_at, bytes_at, map_at, previous_at, time_at, named_by, newest_below, walk}
use Rattle.disc.specs.Session.{closing, session_closed}
use Rattle.disc.specs.Again.{same, named_again, own_blocks, fresh, again_of, fresh_of}
use Rattle.disc.specs.Save.{icb_of, save_sectors}
use Rattle.volume.specs.declared.Volume.{Volume}
use Rattle.volume.specs.Volume.{places, unpack, pack, fits, begun, filled, wrote, released, closed, committed}
use Rattle.recorder.specs.Calls.{Call, begin, mount, write, close_packet, commit, close_session, look_back, time_of}
use Rattle.recorder.specs.Refusals.{first, links, reserve, walked, tests, outcome}
use Rattle.recorder.specs.Effects.{effect, After, after, second_number, sectors_of}
use Rattle.bench.proofs.States.{tests_of, outcome_of, doing, proper, Step, step, Holds, Left, both, holds-pack, stepped, sectors_held}

-- To open this is to open every definition that the rows and lists are worked out from.
unfoldable pub opened : Unit {0}
unfolding le read_le leading_words words le_words lay holds every total holds_text crc_from byte_step checksum body_crc summed sealed seal months real days_of_years days_before minutes_before zone_of moment_of valid minutes_of told extents_from descriptors total_length locations plain_rows length_rows attribute_length described_length own_of measured framed modified_of lies laid joined inside table_of table_name entry_count entries_of previous_of enclosed listed is_table table_regid table_bytes own_rows station_name timed body icb_rows icb own.sectors_of own_count extents_at anchor_rows anchor anchor_tagged sized leading in_order sector_at content stored puts table_at bytes_at map_at previous_at time_at named_by newest_below walk closing session_closed same named_again own_blocks fresh again_of fresh_of icb_of save_sectors unpack pack fits begun filled wrote released closed committed first links reserve walked tests outcome effect after second_number sectors_of tests_of outcome_of doing proper step sectors_held
opened = tt

-- A blank disc of n sectors, and a lent block.
abbrev pub blank : ℕ → Disc
blank n = record { image = replicate (2048 * n) 0; kinds = replicate n 0 }

abbrev pub block : ℕ → List ℕ
block x = x ∷ replicate 2047 0

-- The table sector of n unused entries at block b behind a bytes of attributes, all zero; its sums are not put yet.
abbrev pub behind : ℕ → ℕ → ℕ → List ℕ
behind a n b = lay (sets (block 0) (176 + a) (table_bytes (replicate n unused) unused)) (plain_rows b ++ (length_rows a (table_length n) (table_length n) ++ own_rows 3))

-- A reader for which nothing lies below: no table that its ICB holds asks it.
abbrev pub nothing : Lower
nothing b = None

-- A disc of two sectors, the first with these bytes, the other blank.
abbrev pub holding : List ℕ → Disc
holding s = record { image = s ++ block 0; kinds = 1 ∷ 0 ∷ [] }

-- The first m blocks, and a reader for which the own sectors of a table lie there.
abbrev pub first_blocks : ℕ → List ℕ
first_blocks m = own_blocks (replicate m None) 0

abbrev pub lying : List ℕ → ℕ → Lower
lying t m b = readable (ltb b m) (own_sector t b)

-- What a list of calls answers, each lent disc and ledger as the one before left them.
unfoldable pub answers : Disc → List ℕ → List Call → List ℕ
answers d l [] = []
answers d l (c ∷ cs) = let a : After = after d l c in a.answer ∷ answers a.disc a.ledger cs

-- The ledger that they leave.
unfoldable pub ledger_left : Disc → List ℕ → List Call → List ℕ
ledger_left d l [] = l
ledger_left d l (c ∷ cs) = let a : After = after d l c in ledger_left a.disc a.ledger cs

-- What a test that passes says.
pub same_bytes : (xs ys : List ℕ) → T (same xs ys) → xs ≡ ys
unfolding same
same_bytes [] [] t = refl
same_bytes [] (y ∷ ys) t = absurd t
same_bytes (x ∷ xs) [] t = absurd t
same_bytes (x ∷ xs) (y ∷ ys) t =
    let s = both (eqb x y) (same xs ys) t in
    ap₂ (λ (z : ℕ) (zs : List ℕ). z ∷ zs) (eqb→eq x y s.0) (same_bytes xs ys s.1)

abbrev pub refused : ℕ → ℕ
refused n = n * 4294967296

-- So many numbers, all unused, on a disc with r sectors recorded, in this mode; and with nothing recorded and no packet open.
abbrev pub numbers_on : ℕ → ℕ → ℕ → Volume
numbers_on n r mode = record { entries = replicate places unused; size = n; recorded = r; last = unused; mode = mode }

abbrev pub numbers : ℕ → Volume
numbers n = numbers_on n 0 0

-- All numbers, and the bytes of this state: as good as any where a call does not read its ledger.
abbrev pub most : Volume
most = numbers 4087

abbrev pub full : List ℕ
full = pack most

-- A timestamp of whole minutes, with the twelve bits of its zone: 2049 is -2047, 2656 is -1440, 2655 is -1441.
abbrev pub stamp : ℕ → ℕ → ℕ → ℕ → ℕ → ℕ → List ℕ
stamp zone year month day hour minute = le 2 (4096 + zone) ++ (le 2 year ++ (month ∷ day ∷ hour ∷ minute ∷ 0 ∷ 0 ∷ 0 ∷ 0 ∷ []))

-- A timestamp with other seconds.
abbrev pub with_seconds : ℕ → List ℕ → List ℕ
with_seconds seconds s = set s 8 seconds

abbrev pub answer : List ℕ
answer = replicate 8 0

-- A closing's pointer with this tag location, and a closing with this partition start.
abbrev pub pointer : ℕ → List ℕ
pointer location = anchor tag_version (extent 32768 257) (extent 32768 513) location

abbrev pub closing_at : ℕ → Call
closing_at start = close_session (extent 32768 257) (extent 32768 513) start

pub data Example : Type 0 where
  -- the CRC of these bytes
  crc-of : List ℕ → ℕ → Example
  -- a bytes of attributes and n entries: the table length and the CRC length that stand in the sector
  lengths-of : ℕ → ℕ → ℕ → ℕ → Example
  -- the sector of n entries: not a table sector
  no_table : ℕ → Example
  -- n entries in m own sectors: a table sector, with the table length and the CRC length that stand in it; or none
  lengths-apart : ℕ → ℕ → ℕ → ℕ → Example
  no-table-apart : ℕ → ℕ → Example
  -- a table stands at this block of a disc, or not
  table-at : Disc → ℕ → Bool → Example
  -- n entries behind a bytes of attributes: all but the sums of a table sector, or not, and then no table sector whatever the sums
  framed-behind : ℕ → ℕ → Bool → Example
  -- what is told of a timestamp: its minutes, as 32 bits, and its mark
  told_of : List ℕ → ℕ → ℕ → Example
  -- a timestamp that breaks the limits
  wrong-stamp : List ℕ → Example
  -- a pointer with this tag location at block b: such a tag, or not
  tagged-at : ℕ → ℕ → Bool → Example
  -- what a write must leave on a disc of so many sectors
  reserve-of : ℕ → ℕ → Example
  -- calls on a disc, with the state of the ledger lent to the first of them: their answers
  calls-on : Disc → Volume → List Call → List ℕ → Example
  -- and the state of the ledger that they leave
  leaves : Disc → Volume → List Call → Volume → Example

unfoldable pub right : Example → Bool
right (crc-of bytes value) = eqb (crc_of bytes) value
right (lengths-of a n table crc) = let s : List ℕ = lay (block 0) (length_rows a (table_length n) (table_length n)) in eqb (read_le 4 s 172) table && eqb (crc_length s) crc
right (no_table n) = not (is_table nothing (icb (table_bytes (replicate n unused) unused) [] no_stamp 0) 0)
right (lengths-apart n m table crc) =
    let t : List ℕ = table_bytes (replicate n unused) unused in
    let s : List ℕ = icb t (first_blocks m) no_stamp m in
    eqb (own_count (length t)) m && (is_table (lying t m) s m && (eqb (read_le 8 s 56) table && eqb (crc_length s) crc))
right (no-table-apart n m) =
    let t : List ℕ = table_bytes (replicate n unused) unused in
    not (is_table (lying t m) (icb t (first_blocks m) no_stamp m) m)
right (table-at d b true) = table_at d b
right (table-at d b false) = not (table_at d b)
right (framed-behind a n true) = let s : List ℕ = behind a n 0 in framed s 0 && listed (table_of nothing s) 0
right (framed-behind a n false) = not (framed (behind a n 0) 0)
right (told_of stamp minutes mark) = valid stamp && same (told stamp) (le 4 minutes ++ le 4 mark)
right (wrong-stamp stamp) = not (valid stamp)
right (tagged-at location b true) = anchor_tagged (pointer location) b
right (tagged-at location b false) = not (anchor_tagged (pointer location) b)
right (reserve-of sectors left) = eqb (reserve sectors) left
right (calls-on d v cs expected) = same (answers d (pack v) cs) expected
right (leaves d v cs left) = same (ledger_left d (pack v) cs) (pack left)

unfoldable pub all_right : List Example → Bool
all_right [] = true
all_right (e ∷ es) = right e && all_right es

-- ---- how they are worked out

-- The calls, on the state that the ledger holds: each answers what is expected.
unfoldable pub expects : Disc → Bool → Volume → List Call → List ℕ → Bool
expects d long v [] [] = true
expects d long v [] (x ∷ xs) = false
expects d long v (c ∷ cs) [] = false
expects d long v (c ∷ cs) (x ∷ xs) = let s : Step = step d long v c in s.held && (eqb s.answer x && expects s.disc s.long s.state cs xs)

unfoldable pub worked : Example → Bool
worked (calls-on d v cs expected) = proper v && expects d true v cs expected
worked (crc-of bytes value) = right (crc-of bytes value)
worked (lengths-of a n table crc) = right (lengths-of a n table crc)
worked (no_table n) = right (no_table n)
worked (lengths-apart n m table crc) = right (lengths-apart n m table crc)
worked (no-table-apart n m) = right (no-table-apart n m)
worked (table-at d b there) = right (table-at d b there)
worked (framed-behind a n so) = right (framed-behind a n so)
worked (told_of stamp minutes mark) = right (told_of stamp minutes mark)
worked (wrong-stamp stamp) = right (wrong-stamp stamp)
worked (tagged-at location b so) = right (tagged-at location b so)
worked (reserve-of sectors left) = right (reserve-of sectors left)
worked (leaves d v cs left) = right (leaves d v cs left)

unfoldable pub all-worked : List Example → Bool
all-worked [] = true
all-worked (e ∷ es) = worked e && all-worked es

joint : (a b : Bool) → T a → T b → T (a && b)
joint true b t u = u
joint false b t u = absurd t

as-expected : (cs : List Call) (xs : List ℕ) (d : Disc) (l : List ℕ) {long : Bool} {v : Volume} → Holds l long v → T (expects d long v cs xs)
    → T (same (answers d l cs) xs)
unfolding expects answers same
as-expected [] [] d l h t = tt
as-expected [] (x ∷ xs) d l h t = absurd t
as-expected (c ∷ cs) [] d l h t = absurd t
as-expected (c ∷ cs) (x ∷ xs) d l {long} {v} h t =
    let s : Step = step d long v c in
    let more : Bool = expects s.disc s.long s.state cs xs in
    let p = both s.held (eqb s.answer x && more) t in
    let q = both (eqb s.answer x) more p.1 in
    let left : Left (after d l c) s = stepped d l c h p.0 in
    joint (eqb (after d l c).answer x) (same (answers (after d l c).disc (after d l c).ledger cs) xs)
    (subst (λ (n : ℕ). T (eqb n x)) (sym left.answer) q.0)
    (subst (λ (e : Disc). T (same (answers e (after d l c).ledger cs) xs)) (sym left.disc) (as-expected cs xs s.disc (after d l c).ledger left.holds q.1))

is_right : (e : Example) → T (worked e) → T (right e)
unfolding worked right
is_right (calls-on d v cs expected) t =
    let s = both (proper v) (expects d true v cs expected) t in
    as-expected cs expected d (pack v) (holds-pack v s.0) s.1
is_right (crc-of bytes value) t = t
is_right (lengths-of a n table crc) t = t
is_right (no_table n) t = t
is_right (lengths-apart n m table crc) t = t
is_right (no-table-apart n m) t = t
is_right (table-at d b there) t = t
is_right (framed-behind a n so) t = t
is_right (told_of stamp minutes mark) t = t
is_right (wrong-stamp stamp) t = t
is_right (tagged-at location b so) t = t
is_right (reserve-of sectors left) t = t
is_right (leaves d v cs left) t = t

pub rows_right : (es : List Example) → T (all-worked es) → T (all_right es)
unfolding all-worked all_right
rows_right [] t = tt
rows_right (e ∷ es) t = let s = both (worked e) (all-worked es) t in joint (right e) (all_right es) (is_right e s.0) (rows_right es s.1)

-- ---- the rows

-- Document 01's starred rows.
unfoldable pub starred : List Example
starred =
    crc-of (0x70 ∷ 0x6A ∷ 0x77 ∷ []) 0x3299
    ∷ lengths-of 0 0 36 196
    ∷ lengths-of 0 458 1868 2028
    ∷ no_table 459
    ∷ lengths-apart 459 1 1872 168
    ∷ lengths-apart 4087 8 16384 224
    ∷ no-table-apart 4088 8
    ∷ no-table-apart 4088 9
    ∷ calls-on (blank 16) most (begin ∷ write (Some 0) (block 1) ∷ commit None ∷ []) (0 ∷ refused 14 ∷ 0 ∷ [])
    ∷ calls-on (blank 17) most (begin ∷ write (Some 0) (block 1) ∷ write (Some 1) (block 2) ∷ []) (0 ∷ 0 ∷ refused 14 ∷ [])
    ∷ calls-on (blank 18) most (begin ∷ write (Some 0) (block 1) ∷ write (Some 1) (block 2) ∷ write (Some 2) (block 3) ∷ []) (0 ∷ 0 ∷ 1 ∷ refused 14 ∷ [])
    ∷ calls-on (blank 25) most (begin ∷ write (Some 0) (block 1) ∷ close_packet ∷ write (Some 1) (block 2) ∷ []) (0 ∷ 0 ∷ 0 ∷ 8 ∷ [])
    ∷ calls-on (blank 24) most (begin ∷ write (Some 0) (block 1) ∷ close_packet ∷ write (Some 1) (block 2) ∷ []) (0 ∷ 0 ∷ 0 ∷ refused 14 ∷ [])
    ∷ calls-on (blank 17) most (begin ∷ write (Some 1) (block 1) ∷ []) (0 ∷ refused 12 ∷ [])
    ∷ calls-on (blank 17) (numbers 458) (write (Some 458) (block 1) ∷ []) (0 ∷ [])
    ∷ calls-on (blank 17) most (write (Some 4087) (block 1) ∷ []) (refused 13 ∷ [])
    ∷ calls-on (blank 19) most (begin ∷ write (Some 0) (block 1) ∷ write (Some 1) (block 2) ∷ write (Some 2) (icb (table_bytes [] unused) [] no_stamp 1) ∷ []) (0 ∷ 0 ∷ 1 ∷ 2 ∷ [])
    ∷ calls-on (blank 19) most (begin ∷ write (Some 0) (block 1) ∷ write (Some 1) (block 2) ∷ write (Some 2) (icb (table_bytes [] unused) [] no_stamp 2) ∷ []) (0 ∷ 0 ∷ 1 ∷ refused 15 ∷ [])
    ∷ []

pub starred-rows : T (all_right starred)
unfolding opened right expects worked all-worked starred
starred-rows = rows_right starred tt

-- Document 02's: numbers above limit and size, tables behind attributes, timestamps.
unfoldable pub requested : List Example
requested =
    calls-on (blank 17) most (write (Some 4088) (block 1) ∷ []) (refused 13 ∷ [])
    ∷ calls-on (blank 17) (numbers 3) (write (Some 4087) (block 1) ∷ []) (refused 13 ∷ [])
    ∷ calls-on (blank 17) (numbers 3) (write (Some 500) (block 1) ∷ []) (refused 12 ∷ [])
    ∷ lengths-of 220 2 44 424
    ∷ framed-behind 1832 0 true
    ∷ framed-behind 1836 0 false
    ∷ framed-behind 1824 2 true
    ∷ framed-behind 1828 2 false
    ∷ framed-behind 2 0 false
    ∷ framed-behind 4294967292 0 false
    ∷ calls-on (blank 18) most (begin ∷ write (Some 0) (seal (behind 220 2 1)) ∷ write (Some 1) (seal (behind 220 2 1)) ∷ []) (0 ∷ 0 ∷ refused 15 ∷ [])
    ∷ calls-on (holding (seal (behind 220 2 0))) most (begin ∷ mount ∷ []) (refused 6 ∷ 1 ∷ [])
    ∷ told_of (stamp 60 1970 1 1 0 30) 0xFFFFFFE2 0
    ∷ told_of (stamp 2049 1970 1 1 0 30) 30 1
    ∷ told_of (stamp 0 2000 2 29 12 0) 15863760 0
    ∷ told_of (stamp 0 2096 2 29 12 0) 66355920 0
    ∷ wrong-stamp (stamp 0 2099 2 29 12 0)
    ∷ told_of (stamp 1440 2099 12 31 23 59) 68372639 0
    ∷ told_of (stamp 2656 2099 12 31 23 59) 68375519 0
    ∷ wrong-stamp (stamp 2047 2099 12 31 23 59)
    ∷ wrong-stamp (stamp 2048 2099 12 31 23 59)
    ∷ wrong-stamp (stamp 1441 2099 12 31 23 59)
    ∷ wrong-stamp (stamp 2655 2099 12 31 23 59)
    ∷ told_of (with_seconds 59 (stamp 0 2096 2 29 12 0)) 66355920 0
    ∷ wrong-stamp (with_seconds 60 (stamp 0 2096 2 29 12 0))
    ∷ calls-on (blank 3) most (begin ∷ commit (Some (stamp 60 1970 1 1 0 30)) ∷ commit None ∷ time_of 0 answer ∷ time_of 1 answer ∷ time_of 2 answer ∷ [])
    (0 ∷ 0 ∷ 1 ∷ refused 16 ∷ 0 ∷ refused 9 ∷ [])
    ∷ calls-on (blank 1) most (begin ∷ commit None ∷ commit (Some (stamp 0 2099 2 29 12 0)) ∷ commit (Some (stamp 0 2096 2 29 12 0)) ∷ look_back 0 ∷ commit (Some (stamp 0 2099 2 29 12 0)) ∷ [])
    (0 ∷ 0 ∷ refused 16 ∷ refused 14 ∷ 0 ∷ refused 5 ∷ [])
    ∷ []

pub requested-rows : T (all_right requested)
unfolding opened right expects worked all-worked requested
requested-rows = rows_right requested tt

-- And of a closing: its pointer's tag, the reserve, and 5, 15, 18 and 14.
unfoldable pub closings : List Example
closings =
    tagged-at 7 7 true
    ∷ tagged-at 6 7 false
    ∷ tagged-at 400007 7 true
    ∷ tagged-at 400008 7 false
    ∷ reserve-of 999 16
    ∷ reserve-of 1000 264
    ∷ calls-on (blank 18) most (begin ∷ write (Some 0) (pointer 400001) ∷ write (Some 1) (pointer 400001) ∷ []) (0 ∷ 0 ∷ refused 15 ∷ [])
    ∷ calls-on (blank 2) most (begin ∷ commit None ∷ closing_at 400001 ∷ closing_at 400000 ∷ look_back 0 ∷ closing_at 400001 ∷ []) (0 ∷ 0 ∷ refused 18 ∷ refused 14 ∷ 0 ∷ refused 5 ∷ [])
    ∷ []

pub closing-rows : T (all_right closings)
unfolding opened right expects worked all-worked closings
closing-rows = rows_right closings tt

-- And of writes without a number: size and entries stay, also where all numbers are taken; 14, the links, and 5.
unfoldable pub unnumbered : List Example
unnumbered =
    leaves (blank 17) most (begin ∷ write None (block 1) ∷ []) (numbers_on 0 1 1)
    ∷ leaves (blank 17) most (write None (block 1) ∷ []) (numbers_on 4087 1 1)
    ∷ calls-on (blank 18) most (write None (block 1) ∷ write None (block 2) ∷ write None (block 3) ∷ []) (0 ∷ 1 ∷ refused 14 ∷ [])
    ∷ calls-on (blank 25) most (write None (block 1) ∷ close_packet ∷ write None (block 2) ∷ []) (0 ∷ 0 ∷ 8 ∷ [])
    ∷ calls-on (blank 17) (numbers_on 4087 0 2) (write None (block 1) ∷ []) (refused 5 ∷ [])
    ∷ []

pub unnumbered-rows : T (all_right unnumbered)
unfolding opened ledger_left right expects worked all-worked unnumbered
unnumbered-rows = rows_right unnumbered tt
