-- Lists of calls on one disc, done, refused or cut (document 01, 'A cut'), and what the history is fed of them.
use Rattle.std.specs.Prelude.{ℕ, zero, suc, ◌+◌, ◌≤◌, Bool, true, false, ◌&&◌, List, [], ◌∷◌, map, ◌≡◌, eqb, ltb, length, take}
use Rattle.std.specs.Prelude.{Option, None, Some}
use Rattle.vat.specs.Table.{sector_length, unused}
use Rattle.disc.specs.Disc.{Disc, Sector, torn, recorded, content, put, puts}
use Rattle.disc.specs.Tables.{map_at, newest, block_found}
use Rattle.recorder.specs.Calls.{Call, begin, mount, write, release, close_packet, commit, close_session, read, look_back, time_of, restores, saves, only_tells}
use Rattle.recorder.specs.Refusals.{outcome}
use Rattle.recorder.specs.Effects.{after, second_number, sectors_of}
use Rattle.history.specs.History.{Entry, unused_entry, shows, Snapshot, History, Told, Fed, answered, cut, cut_commit, feed}

-- The disc and the ledger "as the one before left them"; none: "The ledger is lost: it may hold anything".
pub record World : Type 0 where
  pub disc : Disc
  pub ledger : Option (List ℕ)

-- A call, done or refused; or one cut after j of its sectors, the next one torn to the bytes given, or left blank. The list beside the call is what a
-- lost ledger holds just then.
pub data Event : Type 0 where
  calls : Call → List ℕ → Event
  cuts : Call → List ℕ → ℕ → Option (List ℕ) → Event

-- What a call is lent as ledger: what the one before left, or what a lost one holds.
abbrev pub ledger_held : Option (List ℕ) → List ℕ → List ℕ
ledger_held None junk = junk
ledger_held (Some l) junk = l

-- "In the cut rule this and any later call that only tells counts as a refused one" (document 02, R-3).
abbrev pub CountsAsDone : Disc → List ℕ → Call → Type 0
CountsAsDone d l c = (outcome d l c ≡ 0) × (only_tells c ≡ false)

-- "until a begin, mount or look back is done, only these three and refused calls follow."
abbrev pub Follows : World → Call → List ℕ → Type 0
Follows w c junk = (w.ledger ≡ None) → (CountsAsDone w.disc junk c → restores c ≡ true)

-- "A cut keeps the first j of them, for any j from 0 to all; the call's next sector, if there is one, stays blank or has kind 3 with arbitrary bytes."
abbrev pub Torn : Option (List ℕ) → Type 0
Torn None = Unit
Torn (Some bytes) = length bytes ≡ sector_length

abbrev pub Allowed : World → Event → Type 0
Allowed w (calls c junk) = Follows w c junk
Allowed w (cuts c junk j tear) = Follows w c junk × (j ≤ length (sectors_of w.disc (ledger_held w.ledger junk) c)) × Torn tear

abbrev pub torn_at : Bool → Option (List ℕ) → ℕ → Disc → Disc
torn_at true (Some bytes) b d = put d b (torn bytes)
torn_at true None b d = d
torn_at false tear b d = d

unfoldable pub cut_disc : Disc → List Sector → ℕ → Option (List ℕ) → Disc
cut_disc d ss j tear = torn_at (ltb j (length ss)) tear (recorded d + j) (puts d (recorded d) (take j ss))

-- After a refused call a lost ledger is still lost, and so it is after one that only tells.
abbrev pub ledger_after : Bool → ℕ → Option (List ℕ) → List ℕ → Option (List ℕ)
ledger_after true n before left = before
ledger_after false zero before left = Some left
ledger_after false (suc n) before left = before

unfoldable pub next : World → Event → World
next w (calls c junk) =
    let l : List ℕ = ledger_held w.ledger junk in
    record {
      disc = (after w.disc l c).disc;
      ledger = ledger_after (only_tells c) (outcome w.disc l c) w.ledger (after w.disc l c).ledger;
    }
next w (cuts c junk j tear) =
    record { disc = cut_disc w.disc (sectors_of w.disc (ledger_held w.ledger junk) c) j tear; ledger = None }

-- What the history is told of a call: "a closing counts as a commit".
abbrev pub told : Call → Told
told begin = Told.begin
told mount = Told.mount
told (write n block) = Told.write n block
told (release n) = Told.release n
told close_packet = Told.close_packet
told (commit stamp) = Told.commit
told (close_session main reserve start) = Told.commit
told (read n block) = Told.read n
told (look_back k) = Told.look_back k
told (time_of k answer) = Told.time_of k

-- The table sector of a save is kept if it would have been done and all of its sectors are there.
abbrev pub kept : Disc → List ℕ → Call → ℕ → Bool
kept d l c j = eqb (outcome d l c) 0 && eqb j (length (sectors_of d l c))

abbrev pub cut_if : Bool → Told → Bool → Fed
cut_if true c kept = cut_commit kept
cut_if false c kept = cut c

abbrev pub cut_short : Disc → List ℕ → Call → ℕ → Fed
cut_short d l c j = cut_if (saves c) (told c) (kept d l c j)

unfoldable pub fed : World → Event → Fed
fed w (calls c junk) =
    let l : List ℕ = ledger_held w.ledger junk in
    answered (told c) (outcome w.disc l c) (second_number w.disc l c)
fed w (cuts c junk j tear) = cut_short w.disc (ledger_held w.ledger junk) c j

-- A list of events: each is allowed where the ones before have led, the world goes on, and the history is fed.
unfoldable pub AllAllowed : World → List Event → Type 0
AllAllowed w [] = Unit
AllAllowed w (e ∷ es) = Allowed w e × AllAllowed (next w e) es

unfoldable pub runs : World → List Event → World
runs w [] = w
runs w (e ∷ es) = runs (next w e) es

unfoldable pub remembers : World → History → List Event → History
remembers w h [] = h
remembers w h (e ∷ es) = remembers (next w e) (feed h (fed w e)) es

-- What the disc shows of a map: "each block with the bytes it had, or 11 if not kind 1".
abbrev pub shown_if : Bool → ℕ → Option (List ℕ) → Entry
shown_if true x bytes = unused_entry
shown_if false x bytes = shows x bytes

unfoldable pub shown : Disc → ℕ → Entry
shown d x = shown_if (eqb x unused) x (content d x)

abbrev pub page_of : Disc → List ℕ → Snapshot
page_of d xs = map (shown d) xs

-- "Start: after begin no page and a draft of size 0; after mount one page, the table found, .. and a copy as draft."
abbrev pub after_call : Disc → List ℕ → Call → World
after_call d l c = record { disc = (after d l c).disc; ledger = Some (after d l c).ledger }

abbrev pub begun_history : History
begun_history = record { pages = []; draft = Some [] }

abbrev pub mounted_history : Disc → History
mounted_history d =
    let p : Snapshot = page_of d (map_at d (block_found (newest d))) in
    record { pages = p ∷ []; draft = Some p }
