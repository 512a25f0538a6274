-- Which refusal a call is given (document 01, 'Refusals, by who causes them', and document 02): "The lowest applicable number is given, never another,
-- and none without its condition", where lowest "means first in the order of tests", in demand 1 too (document 02, R-1). Each call has a list of tests in
-- order; the first that applies gives its number, and 0 is done.
use Rattle.std.specs.Prelude.{ℕ, ◌+◌, Bool, true, false, ◌&&◌, ◌||◌, not, List, [], ◌∷◌, ◌++◌, eqb, ltb, leb, length, get_or}
use Rattle.std.specs.Prelude.{Option, None, Some}
use Rattle.timestamp.specs.Timestamp.{stamp_length, told_length, valid}
use Rattle.vat.specs.Table.{sector_length, limit, unused, is_table}
use Rattle.vat.specs.Sector.{table_bytes}
use Rattle.anchor.specs.Anchor.{farthest_start, anchor_tagged}
use Rattle.disc.specs.Disc.{Disc, sized, in_order, blanks, kind_at}
use Rattle.std.specs.Prelude.{Ok, Err}
use Rattle.disc.specs.declared.Stop.TheVariants.{Broken, Ended}
use Rattle.disc.specs.Tables.{Walk, below, table_at, previous_at, time_at, newest, walk}
use Rattle.disc.specs.Session.{closing_length, session_closed}
use Rattle.disc.specs.Save.{save_sectors}
use Rattle.volume.specs.declared.Volume.{Volume}
use Rattle.volume.specs.Volume.{ledger_length, idle, read_only, unpack, map_of, fits}
use Rattle.recorder.specs.Calls.{Call, begin, mount, write, release, close_packet, commit, close_session, read, look_back, time_of, stamp_of}

pub record Test : Type 0 where
  pub number : ℕ
  pub applies : Bool

abbrev pub test : ℕ → Bool → Test
test number applies = record { number = number; applies = applies }

abbrev pub or_else : Bool → ℕ → ℕ → ℕ
or_else true number later = number
or_else false number later = later

unfoldable pub first : List Test → ℕ
first [] = 0
first (t ∷ ts) = let later : ℕ = first ts in or_else t.applies t.number later

-- "an underrun costs seven blocks": the links that write, commit and closing record first, "in mode 0 with recorded above 0".
abbrev pub link_count : ℕ
link_count = 7

abbrev pub links_if : Bool → ℕ
links_if true = link_count
links_if false = 0

unfoldable pub links : Volume → ℕ
links v = links_if (eqb v.mode idle && ltb 0 v.recorded)

-- The block behind them, which a write or a commit takes, and a closing's pointer.
abbrev pub target : Volume → ℕ
target v = v.recorded + links v

-- "Write needs links + 1 + 8 blank sectors", of which "the short disc's reserve grows from 8 to 16", and "on discs of 1,000 sectors or more a write must
-- leave 264".
abbrev pub reserve_if : Bool → ℕ
reserve_if true = 264
reserve_if false = 16

unfoldable pub reserve : ℕ → ℕ
reserve sectors = reserve_if (leb 1000 sectors)

-- 1, 2, 3: the disc's size, the lent lengths, the kinds.
abbrev pub basic : Disc → Bool → List Test
basic d lengths = test 1 (not (sized d)) ∷ test 2 (not lengths) ∷ test 3 (not (in_order d.kinds)) ∷ []

abbrev pub ledger_lent : List ℕ → Bool
ledger_lent l = eqb (length l) ledger_length

abbrev pub block_lent : List ℕ → List ℕ → Bool
block_lent l block = ledger_lent l && eqb (length block) sector_length

-- "A lent timestamp or answer of another length gives 2."
abbrev pub stamp_long : Option (List ℕ) → Bool
stamp_long None = true
stamp_long (Some stamp) = eqb (length stamp) stamp_length

abbrev pub stamp_lent : List ℕ → Option (List ℕ) → Bool
stamp_lent l stamp = ledger_lent l && stamp_long stamp

abbrev pub answer_lent : List ℕ → List ℕ → Bool
answer_lent l answer = ledger_lent l && eqb (length answer) told_length

-- 4: the ledger does not fit.
abbrev pub unfit : Disc → List ℕ → Test
unfit d l = test 4 (not (fits d (unpack l)))

-- What every call that may record is asked behind 1, 2 and 3: the ledger fits; 5, looking only; and 17, "write, release, commit, close packet or closing
-- on a closed disc, tested directly after 5".
abbrev pub gate : Disc → List ℕ → List Test
gate d l = unfit d l ∷ test 5 (eqb (unpack l).mode read_only) ∷ test 17 (session_closed d) ∷ []

-- 15, what no write may put at block b of this disc: a table sector, with the own sectors that it names here, and "every block with such a tag" as a
-- closing's pointer has.
abbrev pub forbidden_at : Disc → ℕ → List ℕ → Bool
forbidden_at d b block = is_table (below d b) block b || anchor_tagged block b

-- Write's own tests: the number, if it has one, the room, the lent block. "13 comes directly before 12": "a number at or above the limit gives 13, even
-- above size".
abbrev pub number_tests : Volume → Option ℕ → List Test
number_tests v None = []
number_tests v (Some n) = test 13 (leb limit n) ∷ test 12 (ltb v.size n) ∷ []

abbrev pub block_tests : Disc → Volume → List ℕ → List Test
block_tests d v block =
    test 14 (ltb (blanks d) (links v + 1 + reserve (length d.kinds))) ∷ test 15 (forbidden_at d (target v) block) ∷ []

abbrev pub write_tests : Disc → Volume → Option ℕ → List ℕ → List Test
write_tests d v n block = number_tests v n ++ block_tests d v block

-- 16, "a timestamp given .. breaks these limits": "tested after 5 on a commit".
abbrev pub stamp_wrong : Option (List ℕ) → Bool
stamp_wrong None = false
stamp_wrong (Some stamp) = not (valid stamp)

-- 14 of a save that records so many sectors behind its links.
abbrev pub no_room : Disc → Volume → ℕ → Test
no_room d v recording = test 14 (ltb (blanks d) (links v + recording))

-- A commit's own tests: the timestamp, if it has one, and the room for the sectors of its save: "commit needs blank sectors for what it records".
abbrev pub commit_tests : Disc → Volume → Option (List ℕ) → List Test
commit_tests d v stamp =
    test 16 (stamp_wrong stamp)
    ∷ no_room d v (length (save_sectors d (table_bytes (map_of v) v.last) v.last (stamp_of stamp) (target v)))
    ∷ []

-- A closing's: 18, "the partition start exceeds 400,000", and the room: it "needs links + 257", own sectors of its table among them.
abbrev pub closing_tests : Disc → Volume → ℕ → List Test
closing_tests d v start = test 18 (ltb farthest_start start) ∷ no_room d v (closing_length + 1) ∷ []

-- The block that number n names. 10: "v not below size, or .. an unused entry".
abbrev pub block_of : Volume → ℕ → ℕ
block_of v n = get_or v.entries n unused

abbrev pub not_in_use : Volume → ℕ → Bool
not_in_use v n = leb v.size n || eqb (block_of v n) unused

-- What a call that shows a number is asked behind 1, 2 and 3: 4, 10, and 11, "the entry's sector is not kind 1".
abbrev pub numbered_tests : Disc → List ℕ → ℕ → List Test
numbered_tests d l n =
    let v : Volume = unpack l in
    unfit d l ∷ test 10 (not_in_use v n) ∷ test 11 (not (eqb (kind_at d (block_of v n)) 1)) ∷ []

-- 6 and 7: a table sector exists, or none.
abbrev pub is_some : Option ℕ → Bool
is_some None = false
is_some (Some b) = true

-- The walk of look back k: "from the table that mount would find, follows the previous entry k times".
abbrev pub walk_from : Disc → ℕ → Option ℕ → Walk
walk_from d k None = Err Broken
walk_from d k (Some b) = walk (table_at d) (previous_at d) k b

unfoldable pub walked : Disc → ℕ → Walk
walked d k = walk_from d k (newest d)

abbrev pub is_broken : Walk → Bool
is_broken (Ok b) = false
is_broken (Err Broken) = true
is_broken (Err Ended) = false

abbrev pub is_ended : Walk → Bool
is_ended (Ok b) = false
is_ended (Err Broken) = false
is_ended (Err Ended) = true

-- The tests of a walk back k tables. "Look back stops at its first failing step."
abbrev pub walk_tests : Disc → ℕ → List Test
walk_tests d k = test 7 (not (is_some (newest d))) ∷ test 8 (is_broken (walked d k)) ∷ test 9 (is_ended (walked d k)) ∷ []

-- The modification time of the table k saves back; none where the walk fails, which no call that is done meets.
abbrev pub time_reached : Disc → Walk → List ℕ
time_reached d (Ok b) = time_at d b
time_reached d (Err s) = []

abbrev pub time_back : Disc → ℕ → List ℕ
time_back d k = time_reached d (walked d k)

-- 16, "a timestamp .. found breaks these limits": "after 9 when asking".
abbrev pub time_wrong : Disc → ℕ → Test
time_wrong d k = test 16 (not (valid (time_back d k)))

unfoldable pub tests : Disc → List ℕ → Call → List Test
tests d l begin = basic d (ledger_lent l) ++ (test 6 (is_some (newest d)) ∷ [])
tests d l mount = basic d (ledger_lent l) ++ (test 7 (not (is_some (newest d))) ∷ [])
tests d l (write n block) = basic d (block_lent l block) ++ (gate d l ++ write_tests d (unpack l) n block)
tests d l (release n) = basic d (ledger_lent l) ++ (gate d l ++ (test 10 (not_in_use (unpack l) n) ∷ []))
tests d l close_packet = basic d (ledger_lent l) ++ gate d l
tests d l (commit stamp) = basic d (stamp_lent l stamp) ++ (gate d l ++ commit_tests d (unpack l) stamp)
tests d l (close_session main reserve start) = basic d (ledger_lent l) ++ (gate d l ++ closing_tests d (unpack l) start)
tests d l (read n block) = basic d (block_lent l block) ++ numbered_tests d l n
tests d l (look_back k) = basic d (ledger_lent l) ++ walk_tests d k
tests d l (time_of k answer) = basic d (answer_lent l answer) ++ (walk_tests d k ++ (time_wrong d k ∷ []))

-- The outcome: 0 done, else the refusal.
unfoldable pub outcome : Disc → List ℕ → Call → ℕ
outcome d l c = first (tests d l c)
