-- A run worked out, and drawn from the claim about earlier entries (`earlier-entries`): two blocks without a number, its entry as number 0, and a save; then
-- number 0 is another block, in a save of its own, and one more save is cut.
--     shown-run     the events are allowed and make their saves, and views of the first save tell what is written beside them
--     viewed-later  one save back they tell the same on the disc that the later events leave, lent any 16,364 bytes
-- Assumes nothing.
use Prim.Native.Nat.{ℕ, zero, suc, ◌+◌, ◌*◌}
use mathlib.Core.Bool.{Bool, true, not, ◌&&◌}
use mathlib.Core.List.{List, [], ◌∷◌, ◌++◌}
use Rattle.std.specs.Prelude.{None, Some}
use mathlib.Core.Path.{◌≡◌, refl, sym, ap, ◌∙◌}
use lib.Dec.{T, eqb, leb, eqb→eq}
use lib.ListN.{length}
use Rattle.extent.specs.Extents.{extent}
use Rattle.disc.specs.Disc.{Disc, kind_at}
use Rattle.disc.specs.Again.{same}
use Rattle.volume.specs.declared.Volume.{Volume}
use Rattle.volume.specs.Volume.{unpack, fits}
use Rattle.recorder.specs.Calls.{begin, write, commit, look_back}
use Rattle.recorder.specs.Refusals.{test, first, basic, ledger_lent, block_of, not_in_use, outcome}
use Rattle.recorder.specs.Effects.{settled, after}
use Rattle.run.specs.Entry.{extent_count, lies, laid, is_entry, extent_bytes, run_bytes, total_sectors, file_rows, entry}
use Rattle.run.specs.View.{most_viewed, run_tests, view_outcome, shown_from, filled_with, view_effect, view}
use Rattle.history.specs.History.{History, feed}
use Rattle.history.specs.Events.{World, Event, calls, cuts, cut_disc, runs, remembers, begun_history}
use Rattle.archive.specs.Earlier.{Seen, seen, seen_back}
use Rattle.archive.proofs.Theorem.{earlier-entries}
use Rattle.bench.proofs.States.{outcome_of, Step, step, Holds, holds-own, Left, both, along, outcome-same, stepped}
use Rattle.bench.proofs.Starred.{opened, blank, block, same_bytes, full, refused}
use Rattle.cuts.proofs.Worked.{Played, So, played, allowed-before, more-so, played-from, from-started, from-so}
use Rattle.cuts.proofs.Lists.{start}

-- ---- the test

-- A view of number n from the offset on, lent this buffer: its answer, and the buffer as it is left.
pub record Look : Type 0 where
  pub number : ℕ
  pub offset : ℕ
  pub buffer : List ℕ
  pub told : Seen

abbrev pub look : ℕ → ℕ → List ℕ → ℕ → List ℕ → Look
look n offset buffer answer left = record { number = n; offset = offset; buffer = buffer; told = record { answer = answer; buffer = left } }

-- The view, on the state that the ledger holds.
unfoldable pub view_outcome_of : Disc → Bool → Volume → ℕ → ℕ → List ℕ → ℕ
view_outcome_of d long v n offset buffer =
    first
    (basic d (long && leb (length buffer) most_viewed)
    ++ ((test 4 (not (fits d v)) ∷ test 10 (not_in_use v n) ∷ test 11 (not (eqb (kind_at d (block_of v n)) 1)) ∷ []) ++ run_tests d (block_of v n) offset))

abbrev seen_of : List ℕ → ℕ → List ℕ → Seen
seen_of buffer zero bytes = record { answer = length bytes; buffer = filled_with bytes buffer }
seen_of buffer (suc n) bytes = record { answer = suc n * 4294967296; buffer = buffer }

unfoldable pub view_of : Disc → Bool → Volume → ℕ → ℕ → List ℕ → Seen
view_of d long v n offset buffer = seen_of buffer (view_outcome_of d long v n offset buffer) (shown_from d (block_of v n) offset (length buffer))

view-same : (d : Disc) (l : List ℕ) (n offset : ℕ) (buffer : List ℕ) {long : Bool} {v : Volume} → Holds l long v
    → seen (view d l n offset buffer) ≡ view_of d long v n offset buffer
unfolding view view_outcome view_effect view_of view_outcome_of
view-same d l n offset buffer h =
    along l (λ long v. seen (view d l n offset buffer) ≡ view_of d long v n offset buffer) (go (view_outcome_of d (ledger_lent l) (unpack l) n offset buffer)) h
  where
    go : (o : ℕ) → seen (settled d l buffer o (view_effect d l n offset buffer)) ≡ seen_of buffer o (shown_from d (block_of (unpack l) n) offset (length buffer))
    go zero = refl
    go (suc m) = refl

unfoldable pub tells : Disc → Bool → Volume → List Look → Bool
tells d long v [] = true
tells d long v (x ∷ xs) =
    let s : Seen = view_of d long v x.number x.offset x.buffer in
    (eqb s.answer x.told.answer && same s.buffer x.told.buffer) && tells d long v xs

-- Events whose last save is looked at, then events that make m saves more.
unfoldable pub viewed-works : ℕ → List Event → List Event → ℕ → List Look → Bool
unfolding opened cut_disc feed played played-from tells extent_count lies laid is_entry extent_bytes run_bytes total_sectors file_rows entry view_outcome_of shown_from view_of
viewed-works n es later m xs =
    let p : Played = played-from (blank n) begin begun_history es in
    let q : Played = played p.allowed p.disc p.kept p.past later in
    let s : Step = step p.disc (ledger_lent full) (unpack full) (look_back 0) in
    q.allowed
    && (s.held
    && (eqb (outcome_of p.disc (ledger_lent full) (unpack full) (look_back 0)) 0
    && (eqb (length q.past.pages) (m + length p.past.pages) && tells p.disc s.long s.state xs)))

-- ---- what it says

-- Every one of these views of the save k before the newest, lent any 16,364 bytes as ledger.
abbrev pub TellsBack : Disc → ℕ → List Look → Type 0
TellsBack d k [] = Unit
TellsBack d k (x ∷ xs) =
    ((l : List ℕ) → length l ≡ 16364 → seen_back d l k x.number x.offset x.buffer ≡ x.told) × TellsBack d k xs

seen_same : (a s : Seen) → T (eqb a.answer s.answer && same a.buffer s.buffer) → a ≡ s
seen_same a s t =
    let e = both (eqb a.answer s.answer) (same a.buffer s.buffer) t in
    λ i. record { answer = eqb→eq a.answer s.answer e.0 i; buffer = same_bytes a.buffer s.buffer e.1 i }

module _ (n : ℕ) (es later : List Event) (m : ℕ) (xs : List Look) (t : T (viewed-works n es later m xs)) where
  abbrev p : Played
  p = played-from (blank n) begin begun_history es

  abbrev q : Played
  q = played p.allowed p.disc p.kept p.past later

  abbrev s : Step
  s = step p.disc (ledger_lent full) (unpack full) (look_back 0)

  abbrev looked : ℕ
  looked = outcome_of p.disc (ledger_lent full) (unpack full) (look_back 0)

  parts : T q.allowed × (T s.held × (T (eqb looked 0) × (T (eqb (length q.past.pages) (m + length p.past.pages)) × T (tells p.disc s.long s.state xs))))
  unfolding viewed-works
  parts =
      let counted : Bool = eqb (length q.past.pages) (m + length p.past.pages) in
      let told : Bool = tells p.disc s.long s.state xs in
      let a = both q.allowed (s.held && (eqb looked 0 && (counted && told))) t in
      let b = both s.held (eqb looked 0 && (counted && told)) a.1 in
      let c = both (eqb looked 0) (counted && told) b.1 in
      (a.0, (b.0, (c.0, both counted told c.1)))

  -- the world and the history that the list leaves
  abbrev w : World
  w = runs (start n) es

  abbrev h : History
  h = remembers (start n) begun_history es

  p-allowed : T p.allowed
  p-allowed = allowed-before later p.allowed p.disc p.kept p.past parts.0

  before : So (start n) begun_history es p
  before = from-so (blank n) begin begun_history es p-allowed

  behind : So w h later q
  behind = more-so (start n) begun_history es p before later parts.0

  counted : length (remembers w h later).pages ≡ m + length h.pages
  counted =
      ap (λ (x : History). length x.pages) behind.past ∙ eqb→eq (length q.past.pages) (m + length p.past.pages) parts.1.1.1.0
      ∙ ap (λ (x : History). m + length x.pages) (sym before.past)

  look-done : outcome w.disc full (look_back 0) ≡ 0
  look-done =
      ap (λ (x : Disc). outcome x full (look_back 0)) before.disc ∙ outcome-same p.disc full (look_back 0) (holds-own full) ∙ eqb→eq looked 0 parts.1.1.0

  -- a view of the last save, now
  seen-now : (y : Look) → T (eqb (view_of p.disc s.long s.state y.number y.offset y.buffer).answer y.told.answer
      && same (view_of p.disc s.long s.state y.number y.offset y.buffer).buffer y.told.buffer)
      → seen_back w.disc full 0 y.number y.offset y.buffer ≡ y.told
  seen-now y u =
      let left : Left (after p.disc full (look_back 0)) s = stepped p.disc full (look_back 0) (holds-own full) parts.1.0 in
      ap (λ (x : Disc). seen_back x full 0 y.number y.offset y.buffer) before.disc
      ∙ view-same p.disc (after p.disc full (look_back 0)).ledger y.number y.offset y.buffer left.holds
      ∙ seen_same (view_of p.disc s.long s.state y.number y.offset y.buffer) y.told u

  drawn : (ys : List Look) → T (tells p.disc s.long s.state ys) → TellsBack (runs w later).disc (m + 0) ys
  unfolding tells
  drawn [] u = tt
  drawn (y ∷ ys) u =
      let a : Seen = view_of p.disc s.long s.state y.number y.offset y.buffer in
      let r = both (eqb a.answer y.told.answer && same a.buffer y.told.buffer) (tells p.disc s.long s.state ys) u in
      ((λ l long. earlier-entries.after-begin (blank n) full (from-started (blank n) begin begun_history es p-allowed) es before.allowed later behind.allowed m counted 0 full l look-done long y.number y.offset y.buffer ∙ seen-now y r.0), drawn ys r.1)

  pub drawn-views : TellsBack (runs (runs (start n) es) later).disc (m + 0) xs
  drawn-views = drawn xs parts.1.1.1.1

-- ---- the list

-- a run of a block and three bytes more, its entry at block 2, and number 1, which is no entry
unfoldable pub run-saved : List Event
run-saved =
    calls (write None (block 5)) [] ∷ calls (write None (block 6)) []
    ∷ calls (write (Some 0) (entry (extent 2048 0 ∷ extent 3 1 ∷ []) 2)) [] ∷ calls (write (Some 1) (block 7)) [] ∷ calls (commit None) []
    ∷ []

unfoldable pub saved-again : List Event
saved-again = calls (write (Some 0) (block 8)) [] ∷ calls (commit None) [] ∷ cuts (commit None) [] 0 (Some (block 9)) ∷ []

-- across the two extents, past the run's end, at it, behind it; of number 1, and of a number that is not in use
unfoldable pub looks : List Look
looks =
    look 0 2047 (9 ∷ 9 ∷ []) 2 (0 ∷ 6 ∷ [])
    ∷ look 0 2048 (9 ∷ 9 ∷ 9 ∷ 9 ∷ []) 3 (6 ∷ 0 ∷ 0 ∷ 9 ∷ [])
    ∷ look 0 2051 (9 ∷ []) 0 (9 ∷ [])
    ∷ look 0 2052 (9 ∷ []) (refused 20) (9 ∷ [])
    ∷ look 1 0 (9 ∷ []) (refused 19) (9 ∷ [])
    ∷ look 2 0 (9 ∷ []) (refused 10) (9 ∷ [])
    ∷ []

shown-run : T (viewed-works 22 run-saved saved-again 1 looks)
unfolding viewed-works run-saved saved-again looks
shown-run = tt

pub viewed-later : TellsBack (runs (runs (start 22) run-saved) saved-again).disc 1 looks
viewed-later = drawn-views 22 run-saved saved-again 1 looks shown-run

-- the run, whose number is another block by then, from its last byte but three on
pub run-seen : (l : List ℕ) → length l ≡ 16364 → seen_back (runs (runs (start 22) run-saved) saved-again).disc l 1 0 2047 (9 ∷ 9 ∷ []) ≡ record { answer = 2; buffer = 0 ∷ 6 ∷ [] }
unfolding looks
run-seen = viewed-later.0
