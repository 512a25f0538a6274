-- What a call that is done does (document 01, 'The calls', and document 02): its second number, the sectors that it records, the state that it leaves
-- and the buffer that it was lent beside. And what every call leaves, done or refused.
use Rattle.std.specs.Prelude.{ℕ, zero, suc, ◌+◌, ◌*◌, Bool, true, false, List, [], ◌∷◌, ◌++◌, eqb, length, replicate}
use Rattle.extent.specs.declared.Extent.{Extent}
use Rattle.timestamp.specs.Timestamp.{told}
use Rattle.vat.specs.Sector.{no_stamp, table_bytes}
use Rattle.disc.specs.Disc.{Disc, lent, Sector, link, plain, recorded, sector_at, puts}
use Rattle.std.specs.Prelude.{Ok, Err}
use Rattle.disc.specs.Tables.{Walk, map_at, newest, block_found}
use Rattle.disc.specs.Session.{closing}
use Rattle.disc.specs.Again.{fresh_of}
use Rattle.disc.specs.Save.{save_sectors, last_block}
use Rattle.volume.specs.declared.Volume.{Volume}
use Rattle.volume.specs.Volume.{idle, read_only, unpack, pack, map_of, begun, filled, wrote, released, closed, committed}
use Rattle.recorder.specs.Calls.{Call, begin, mount, write, release, close_packet, commit, close_session, read, look_back, time_of, stamp_of, stamp_buffer, buffer_of}
use Rattle.recorder.specs.Refusals.{links, target, block_of, walked, time_back, outcome}

pub record Effect : Type 0 where
  pub second : ℕ
  pub sectors : List Sector
  pub ledger : List ℕ
  pub buffer : List ℕ

-- Nothing is recorded and no buffer changes.
abbrev pub settles : ℕ → List ℕ → Effect
settles second ledger = record { second = second; sectors = []; ledger = ledger; buffer = [] }

-- The block that look back k reaches; 0 where it fails, which no call that is done meets.
abbrev pub block_reached : Walk → ℕ
block_reached (Ok b) = b
block_reached (Err s) = 0

-- "Clean means that it is the last recorded sector": 1 if clean and 0 if dirty.
abbrev pub clean_number : Bool → ℕ
clean_number true = 1
clean_number false = 0

-- The state that shows the table at block b: its map and that block, what is recorded, and the mode.
abbrev pub shown_at : Disc → ℕ → ℕ → Volume
shown_at d b mode = filled (map_at d b) b (recorded d) mode

-- A save of a map with a previous table: links, what a closing puts first, of which a commit has none, and the table's sectors, the last of which is the
-- table and becomes the ledger's last. Of a closing "the second number and ledger are as after a commit".
abbrev pub saved : Disc → Volume → List ℕ → ℕ → List Sector → List ℕ → List ℕ → Effect
saved d v map previous first stamp buffer =
    let at : ℕ = target v + length first in
    let save : List Sector = save_sectors d (table_bytes map previous) previous stamp at in
    let b : ℕ = last_block at save in
    record {
      second = b;
      sectors = replicate (links v) link ++ (first ++ save);
      ledger = pack (committed b v);
      buffer = buffer;
    }

-- A commit's, and a closing's, of the working map with the ledger's last table.
abbrev pub commits : Disc → Volume → List ℕ → List ℕ → Effect
commits d v stamp buffer = saved d v (map_of v) v.last [] stamp buffer

-- What a closing puts before its save, which records so many own sectors.
abbrev pub closing_first : Disc → Volume → Extent → Extent → ℕ → List Sector
closing_first d v main reserve start =
    closing main reserve start (target v) (length (fresh_of d (table_bytes (map_of v) v.last) v.last))

abbrev pub closes : Disc → Volume → Extent → Extent → ℕ → Effect
closes d v main reserve start = saved d v (map_of v) v.last (closing_first d v main reserve start) no_stamp []

unfoldable pub effect : Disc → List ℕ → Call → Effect
effect d l begin = settles 0 (pack (begun (recorded d)))
effect d l mount =
    let b : ℕ = block_found (newest d) in
    settles (clean_number (eqb (b + 1) (recorded d))) (pack (shown_at d b idle))
effect d l (write n block) =
    let v : Volume = unpack l in
    record {
      second = target v;
      sectors = replicate (links v) link ++ (plain block ∷ []);
      ledger = pack (wrote n (target v) v);
      buffer = block;
    }
effect d l (release n) = settles 0 (pack (released n (unpack l)))
effect d l close_packet = settles 0 (pack (closed (unpack l)))
effect d l (commit stamp) = commits d (unpack l) (stamp_of stamp) (stamp_buffer stamp)
effect d l (close_session main reserve start) = closes d (unpack l) main reserve start
effect d l (read n block) =
    record { second = 0; sectors = []; ledger = l; buffer = sector_at d (block_of (unpack l) n) }
effect d l (look_back k) =
    let b : ℕ = block_reached (walked d k) in
    settles b (pack (shown_at d b read_only))
effect d l (time_of k answer) = record { second = 0; sectors = []; ledger = l; buffer = told (time_back d k) }

-- All that a call leaves: the answer, "outcome × 4,294,967,296 + second number", and every lent byte.
pub record After : Type 0 where
  pub answer : ℕ
  pub disc : Disc
  pub ledger : List ℕ
  pub buffer : List ℕ

abbrev pub left : ℕ → List ℕ → List ℕ → List ℕ → List ℕ → After
left answer image kinds ledger buffer = record { answer = answer; disc = lent image kinds; ledger = ledger; buffer = buffer }

-- "A refusal's second number is 0, and it alters no lent byte."
abbrev pub settled : Disc → List ℕ → List ℕ → ℕ → Effect → After
settled d l buffer zero e =
    record { answer = e.second; disc = puts d (recorded d) e.sectors; ledger = e.ledger; buffer = e.buffer }
settled d l buffer (suc n) e = record { answer = suc n * 4294967296; disc = d; ledger = l; buffer = buffer }

unfoldable pub after : Disc → List ℕ → Call → After
after d l c = settled d l (buffer_of c) (outcome d l c) (effect d l c)

-- The second number answered, and the sectors recorded: 0 and none of a call that is refused.
abbrev pub if_done : ℕ → ℕ → ℕ
if_done zero second = second
if_done (suc n) second = 0

abbrev pub sectors_if : ℕ → List Sector → List Sector
sectors_if zero sectors = sectors
sectors_if (suc n) sectors = []

unfoldable pub second_number : Disc → List ℕ → Call → ℕ
second_number d l c = if_done (outcome d l c) (effect d l c).second

unfoldable pub sectors_of : Disc → List ℕ → Call → List Sector
sectors_of d l c = sectors_if (outcome d l c) (effect d l c).sectors
