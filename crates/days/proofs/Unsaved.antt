-- Events behind a save that make no other: a second save that is cut, and a commit that is refused.
--     unsaved   what `after_events` asks of the day and of the events can hold
-- Assumes nothing.
use Prim.Native.Nat.{ℕ, zero, suc}
use native.Mathlib.Omega.{arith}
use mathlib.Core.Bool.{Bool, true, false, ◌&&◌}
use mathlib.Core.List.{List, [], ◌∷◌}
use Rattle.std.specs.Prelude.{None, Some}
use mathlib.Core.Path.{◌≡◌, refl, ap, ◌∙◌}
use lib.Dec.{eqb, ltb}
use lib.ListN.{length}
use borrow.Author.Tests.{lt-ltb, ne_eqb}
use Rattle.disc.specs.Disc.{Disc}
use Rattle.volume.specs.Volume.{ledger_length}
use Rattle.recorder.specs.Calls.{Call, write, close_packet, commit, only_tells}
use Rattle.recorder.specs.Refusals.{outcome}
use Rattle.recorder.specs.Effects.{after, second_number, sectors_of}
use Rattle.recorder.proofs.Done.{ledger-accepted}
use Rattle.history.specs.History.{History, answered, saved_if, done, feed}
use Rattle.history.specs.Events.{World, Event, calls, cuts, ledger_held, ledger_after, next, told, fed, AllAllowed, remembers}
use Rattle.bench.proofs.Starred.{block}
use Rattle.client.specs.Day.{Day, day, AllDone, world, NoSave}
use Rattle.client.proofs.Days.{part-done}
use Rattle.client.proofs.Claimed.{not-lost}
use Rattle.client.proofs.Saves.{cut-history}
use Rattle.days.proofs.Inhabited.{fresh, save, saved-once}

-- ---- the events

-- a commit that is cut before its first sector, and one that is refused, since no byte of a ledger is lent
abbrev cut-and-refused : List Event
cut-and-refused = cuts (commit None) [] 0 None ∷ calls (commit None) [] ∷ []

abbrev pub cut-save : List Event
cut-save = calls (write (Some 0) (block 2)) [] ∷ calls close_packet [] ∷ cut-and-refused

refused : (d : Disc) → outcome d [] (commit None) ≡ 0 → ⊥
refused d e = let z : ◌≡◌ {A = ℕ} 0 ledger_length = ledger-accepted d [] (commit None) e in omega (arith, z)

-- ---- what leaves the pages

-- a call that is refused, and one that makes no page where it is done
call-leaves : (w : World) (c : Call) → (outcome w.disc (ledger_held w.ledger []) c ≡ 0 → (h : History) (second : ℕ) → (done (told c) second h).pages ≡ h.pages)
    → (h : History) → (feed h (fed w (calls c []))).pages ≡ h.pages
unfolding feed fed
call-leaves w c same h =
    let l : List ℕ = ledger_held w.ledger [] in
    go (outcome w.disc l c) (second_number w.disc l c) same
  where
    go : (n second : ℕ) → (n ≡ 0 → (g : History) (k : ℕ) → (done (told c) k g).pages ≡ g.pages) → (feed h (answered (told c) n second)).pages ≡ h.pages
    go zero second same = same refl h second
    go (suc n) second same = refl

cut-leaves : (w : World) (h : History) → (feed h (fed w (cuts (commit None) [] 0 None))).pages ≡ h.pages
unfolding fed
cut-leaves w h =
    let l : List ℕ = ledger_held w.ledger [] in
    ap (λ (g : History). g.pages) (cut-history w.disc l h (commit None) 0)
    ∙ ap (λ (t : Bool). saved_if t h.draft h.pages) (none_kept (length (sectors_of w.disc l (commit None))))
  where
    none_kept : (n : ℕ) → (ltb 0 n && eqb 0 n) ≡ false
    none_kept zero = refl
    none_kept (suc n) = rw (ne_eqb 0 (suc n) (λ e. omega (arith, e)), lt-ltb 0 (suc n) (omega arith))

-- each event of a list, and so the list
abbrev EachLeaves : World → List Event → Type 0
EachLeaves w [] = Unit
EachLeaves w (e ∷ es) = ((h : History) → (feed h (fed w e)).pages ≡ h.pages) × EachLeaves (next w e) es

none_made : (es : List Event) (w : World) → EachLeaves w es → NoSave w es
unfolding remembers
none_made [] w each h = refl
none_made (e ∷ es) w each h = none_made es (next w e) each.1 (feed h (fed w e)) ∙ each.0 h

-- ---- behind any day, and so behind the first save

-- a call leaves a ledger where there was one
still-held : (w : World) (c : Call) → (w.ledger ≡ None → ⊥) → (next w (calls c [])).ledger ≡ None → ⊥
unfolding next
still-held w c held =
    let l : List ℕ = ledger_held w.ledger [] in
    go (only_tells c) (outcome w.disc l c) (after w.disc l c).ledger
  where
    go : (tells : Bool) (n : ℕ) (left : List ℕ) → ledger_after tells n w.ledger left ≡ None → ⊥
    go true n left = held
    go false zero left = not-lost left
    go false (suc n) left = held

module _ (x : Day) where
  abbrev written : World
  written = next (world x) (calls (write (Some 0) (block 2)) [])

  abbrev closed : World
  closed = next written (calls close_packet [])

  abbrev cut : World
  cut = next closed (cuts (commit None) [] 0 None)

  allowed : AllAllowed (world x) cut-save
  unfolding AllAllowed
  allowed =
      let held : (world x).ledger ≡ None → ⊥ = not-lost x.ledger in
      let written_held : written.ledger ≡ None → ⊥ = still-held (world x) (write (Some 0) (block 2)) held in
      let closed-held : closed.ledger ≡ None → ⊥ = still-held written close_packet written_held in
      let rest : AllAllowed closed cut-and-refused = ((λ lost. absurd (closed-held lost), omega arith, tt), (λ lost done. absurd (refused cut.disc done.0), tt)) in
      (λ lost. absurd (held lost), (λ lost. absurd (written_held lost), rest))

  no-save : NoSave (world x) cut-save
  unfolding next
  no-save =
      let rest : EachLeaves closed cut-and-refused = (cut-leaves closed, (call-leaves cut (commit None) (λ done. absurd (refused cut.disc done)), tt)) in
      none_made cut-save (world x) (call-leaves (world x) (write (Some 0) (block 2)) (λ done h second. refl), (call-leaves written close_packet (λ done h second. refl), rest))

abbrev saved-day : Day
saved-day = day (fresh 39) save

pub unsaved : AllDone (fresh 39) save × AllAllowed (world saved-day) cut-save × NoSave (world saved-day) cut-save
unsaved = (part-done save (write (Some 0) (block 2) ∷ []) (fresh 39) saved-once, allowed saved-day, no-save saved-day)
