-- A host program's day: calls one after another, each on what the one before left, until one is refused.
use Rattle.std.specs.Prelude.{ℕ, ◌+◌, ◌*◌, ◌<◌, ◌≤◌, Bool, true, false, ◌&&◌, List, [], ◌∷◌, ◌++◌, map, ◌≡◌, eqb, ltb, length, get_or, take}
use Rattle.std.specs.Prelude.{Option, None, Some}
use Rattle.vat.specs.Table.{sector_length, unused}
use Rattle.extent.specs.Extents.{extent}
use Rattle.disc.specs.Disc.{Disc, lent, Sector, torn, recorded, put, puts}
use Rattle.volume.specs.Volume.{unpack, grown}
use Rattle.recorder.specs.Calls.{Call, begin, mount, write, read, saves}
use Rattle.recorder.specs.Effects.{after, sectors_of}
use Rattle.roles.specs.Keeping.{AfterRoles, after_roles}
use Rattle.run.specs.Entry.{entry}
use Rattle.run.specs.View.{filled_with, view}
use Rattle.history.specs.History.{History}
use Rattle.history.specs.Events.{World, Event, runs, remembers}
use Rattle.history.specs.Closed.{TurnedAway}
use Rattle.archive.specs.Earlier.{Seen, showing}
use Rattle.space.specs.Called.{world_of}

-- What the last call answered, outcome × 4,294,967,296 + second number; and the disc, the roles and the ledger as it left them.
pub record Day : Type 0 where
  pub answer : ℕ
  pub disc : Disc
  pub roles : List ℕ
  pub ledger : List ℕ

abbrev pub ended : ℕ → List ℕ → List ℕ → List ℕ → List ℕ → Day
ended answer image kinds roles ledger = record { answer = answer; disc = lent image kinds; roles = roles; ledger = ledger }

-- Before the first call.
abbrev pub morning : List ℕ → List ℕ → List ℕ → List ℕ → Day
morning image kinds roles ledger = ended 0 image kinds roles ledger

-- A read and a question for a time are not lent the roles, and leave them.
abbrev pub called : Disc → List ℕ → List ℕ → Call → Day
called d roles l c =
    let a : AfterRoles = after_roles d roles l c in
    record { answer = a.call.answer; disc = a.call.disc; roles = a.roles; ledger = a.call.ledger }

-- The next call is made if all so far were done: an answer below 4,294,967,296 has the outcome 0.
abbrev pub going_on : Bool → Day → Day → Day
going_on true x next = next
going_on false x next = x

unfoldable pub day : Day → List Call → Day
day x [] = x
day x (c ∷ cs) = day (going_on (ltb x.answer 4294967296) x (called x.disc x.roles x.ledger c)) cs

abbrev pub AllDone : Day → List Call → Type 0
AllDone x cs = (day x cs).answer < 4294967296

-- A day starts with a begin on a fresh disc, or else with a mount.
abbrev pub opening : Bool → Call
opening true = begin
opening false = mount

-- What number v then reads.
abbrev pub read_at : Day → ℕ → List ℕ → List ℕ
read_at x v out = (after x.disc x.ledger (read v out)).buffer

-- A save of number v by the call c as a mount then answers and shows it: clean, at the block that the save told, the number at the block that write told,
-- and as many numbers as before, or one more.
pub record ShowsSave (x : Day) (start : Call) (v : ℕ) (block : List ℕ) (c : Call) (answer : ℕ) (ledger : List ℕ) : Type 0 where
  pub clean : answer ≡ 1
  pub table : (unpack ledger).last ≡ (day x (start ∷ write (Some v) block ∷ c ∷ [])).answer
  pub entry : get_or (unpack ledger).entries v unused ≡ (day x (start ∷ write (Some v) block ∷ [])).answer
  pub size :
      let before : ℕ = (unpack (day x (start ∷ [])).ledger).size in
      (unpack ledger).size ≡ grown (eqb v before) before

-- What look back 1 answers on a save whose ledger had this last table: that table, or 9 where there was none.
abbrev pub back_if : Bool → ℕ → ℕ
back_if true last = 9 * 4294967296
back_if false last = last

abbrev pub one_back : ℕ → ℕ
one_back last = back_if (eqb last unused) last

-- How many saves are among the calls.
abbrev pub saves_among : List Call → ℕ
saves_among [] = 0
saves_among (c ∷ cs) = grown (saves c) (saves_among cs)

-- What a cut leaves at the call's next sector, if there is one: it stays as it was, or is torn to 2048 bytes of any kind.
abbrev pub struck : Bool → Option (List ℕ) → ℕ → Disc → Disc
struck true (Some bytes) b d = put d b (torn bytes)
struck true None b d = d
struck false tear b d = d

abbrev pub OneSector : Option (List ℕ) → Type 0
OneSector None = Unit
OneSector (Some bytes) = length bytes ≡ sector_length

-- The sectors that the call c records behind these calls.
abbrev pub sectors_behind : Day → List Call → Call → List Sector
sectors_behind x cs c = sectors_of (day x cs).disc (day x cs).ledger c

-- All of these calls were done, and the call c behind them was cut after j of its sectors: the disc is left as told.
pub record CutBehind (x : Day) (cs : List Call) (c : Call) (j : ℕ) (tear : Option (List ℕ)) (left : Disc) : Type 0 where
  pub all_done : AllDone x cs
  pub within : j ≤ length (sectors_behind x cs c)
  pub one-sector : OneSector tear
  pub is-left :
      let d : Disc = (day x cs).disc in
      left ≡ struck (ltb j (length (sectors_behind x cs c))) tear (recorded d + j) (puts d (recorded d) (take j (sectors_behind x cs c)))

-- A save that records n sectors, none if it is refused, has kept its table, the last of them.
abbrev pub table_kept : Call → ℕ → ℕ → Bool
table_kept c j n = saves c && (ltb 0 n && eqb j n)

-- What number v reads after the cut: the block of the new save if its table was kept, and else the old one.
abbrev pub reads_of : Bool → List ℕ → List ℕ → List ℕ
reads_of true old new = new
reads_of false old new = old

-- A program that keeps the disc in a file stores the bytes of a call's sectors first, and then marks the sectors as recorded, one after another. All of
-- these calls were done, and in the call c behind them the program was stopped. While it stored: no sector is marked, and only bytes behind what is
-- recorded have changed.
pub record StoppedStoring (x : Day) (cs : List Call) (left : Disc) : Type 0 where
  pub all_done : AllDone x cs
  pub same-kinds : (day x cs).disc.kinds ≡ left.kinds
  pub same_length : length (day x cs).disc.image ≡ length left.image
  pub same-recorded :
      let r : ℕ = sector_length * recorded (day x cs).disc in
      take r (day x cs).disc.image ≡ take r left.image

-- Or while it marked: all is stored, and the first j sectors are marked.
pub record StoppedMarking (x : Day) (cs : List Call) (c : Call) (j : ℕ) (left : Disc) : Type 0 where
  pub all_done : AllDone x cs
  pub within : j ≤ length (sectors_behind x cs c)
  pub all-stored : (after (day x cs).disc (day x cs).ledger c).disc.image ≡ left.image
  pub some-marked :
      let d : Disc = (day x cs).disc in
      (puts d (recorded d) (take j (sectors_behind x cs c))).kinds ≡ left.kinds

-- What any events leave of a disc, whatever ledger was there: calls that are done, refused or cut.
abbrev pub left_by : Disc → Option (List ℕ) → List Event → Disc
left_by d held tried = (runs (record { disc = d; ledger = held }) tried).disc

-- The disc and the ledger that a day leaves, as events go on from them.
abbrev pub world : Day → World
world x = world_of (record { disc = x.disc; roles = x.roles; ledger = x.ledger })

-- Events that make no save: whatever the history was, its pages stay.
abbrev pub NoSave : World → List Event → Type 0
NoSave w es = (h : History) → (remembers w h es).pages ≡ h.pages

-- An answer that turns away a call on a closed disc.
abbrev pub ClosedAnswer : ℕ → Type 0
ClosedAnswer r = (n : ℕ) × TurnedAway n × (r ≡ n * 4294967296)

-- A view that is done and shows these bytes.
abbrev pub filling : List ℕ → List ℕ → Seen
filling bytes buffer = showing (length bytes) (filled_with bytes buffer)

-- A block is recorded without a number, and more behind it, and behind them all, as number v, the entry of a run: their first n bytes.
abbrev pub storing : Day → Bool → ℕ → List ℕ → List (List ℕ) → ℕ → List Call
storing x fresh v block more n =
    let t : ℕ = (day x (opening fresh ∷ write None block ∷ [])).answer in
    opening fresh ∷ write None block ∷ (map (write None) more ++ (write (Some v) (entry (extent n t ∷ []) (t + length (block ∷ more))) ∷ []))

-- The blocks' bytes, one behind the other.
abbrev pub joined_blocks : List (List ℕ) → List ℕ
joined_blocks [] = []
joined_blocks (block ∷ more) = block ++ joined_blocks more

-- A day that goes on with a view, if all so far was done: it leaves disc, roles and ledger as they were.
abbrev pub viewed : Day → ℕ → ℕ → List ℕ → Day
viewed x n offset buffer =
    going_on (ltb x.answer 4294967296) x (record { answer = (view x.disc x.ledger n offset buffer).answer; disc = x.disc; roles = x.roles; ledger = x.ledger })
