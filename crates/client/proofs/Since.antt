-- A day on which every call is done, as a list of events; and a save among its calls, with any before it and since.
--     went          the calls as events
--     saved-there   what the claims about saves ask of such a day
-- Assumes nothing.
use Prim.Native.Nat.{suc, ◌+◌, ◌<◌}
use native.Mathlib.Omega.{arith}
use mathlib.Core.Path.{◌≡◌, refl, sym, ap, ◌∙◌, subst}
use mathlib.Core.Bool.{Bool, true}
use mathlib.Core.List.{List, [], ◌∷◌, ◌++◌}
use lib.ListN.{length}
use Rattle.recorder.specs.Calls.{Call, saves}
use Rattle.recorder.specs.Refusals.{outcome}
use Rattle.recorder.specs.Effects.{second_number}
use Rattle.history.specs.History.{History, done, feed}
use Rattle.history.specs.Events.{World, calls, AllAllowed, next, told, fed, runs, remembers}
use Rattle.history.proofs.Theorem.{Kept, saved-page}
use Rattle.space.specs.Called.{as_events}
use Rattle.client.specs.Day.{Day, day, AllDone, opening, saves_among, world}
use Rattle.client.proofs.Days.{joined, part-done, did, done_first, called-done, first_done, rest-done, Fit, start-fit}
use Rattle.client.proofs.Claimed.{not-lost, history, next-done, fed-done, kept_next, kept_on, start_history, start-kept, opened, remembered}
use Rattle.client.proofs.Saves.{MovedBack, moved_back}

-- ---- a day as a list of events

pub record Went (x : Day) (h : History) (cs : List Call) : Type 0 where
  pub allowed : AllAllowed (world x) (as_events cs)
  pub ended : runs (world x) (as_events cs) ≡ world (day x cs)
  pub recalled : remembers (world x) h (as_events cs) ≡ history x h cs

pub went : (cs : List Call) (x : Day) (h : History) → x.answer < 4294967296 → AllDone x cs → Went x h cs
unfolding AllAllowed runs remembers day
went [] x h ok a = record { allowed = tt; ended = refl; recalled = refl }
went (c ∷ cs) x h ok a =
    let z : outcome x.disc x.ledger c ≡ 0 = done_first x c cs ok a in
    let x' : Day = did x c in
    let h' : History = done (told c) (second_number x.disc x.ledger c) h in
    let w : next (world x) (calls c []) ≡ world x' = next-done x c z in
    let rest : Went x' h' cs = went cs x' h' (called-done x c cs ok a) (rest-done x c cs ok a) in
    record {
      allowed = (λ n. absurd (not-lost x.ledger n), subst (λ (v : World). AllAllowed v (as_events cs)) (sym w) rest.allowed);
      ended = ap (λ (v : World). runs v (as_events cs)) w ∙ rest.ended ∙ ap world (sym (first_done x c cs ok a));
      recalled =
          ap (λ (v : World). remembers v (feed h (fed (world x) (calls c []))) (as_events cs)) w
          ∙ ap (λ (g : History). remembers (world x') g (as_events cs)) (fed-done x c z h)
          ∙ rest.recalled;
    }

-- one part of a day after another, as the history goes on
pub history-joined : (cs ds : List Call) (x : Day) (h : History) → x.answer < 4294967296 → AllDone x cs → history x h (cs ++ ds) ≡ history (day x cs) (history x h cs) ds
unfolding day
history-joined [] ds x h ok a = refl
history-joined (c ∷ cs) ds x h ok a =
    let x' : Day = did x c in
    let h' : History = done (told c) (second_number x.disc x.ledger c) h in
    history-joined cs ds x' h' (called-done x c cs ok a) (rest-done x c cs ok a) ∙ ap (λ (y : Day). history y (history x' h' cs) ds) (sym (first_done x c cs ok a))

-- ---- a save, with any calls before it and since

abbrev pub up_to : Day → Bool → List Call → Day
up_to x fresh before = day (opened x fresh) before

abbrev pub saved : Day → Bool → List Call → Call → Day
saved x fresh before c = did (up_to x fresh before) c

-- the history with the save
abbrev pub book : Day → Bool → List Call → Call → History
book x fresh before c = done (told c) (second_number (up_to x fresh before).disc (up_to x fresh before).ledger c) (remembered x fresh before)

pub record SavedThere (x : Day) (fresh : Bool) (before : List Call) (c : Call) (since : List Call) : Type 0 where
  pub roles-fit : Fit x
  pub start-done : outcome x.disc x.ledger (opening fresh) ≡ 0
  pub opened-done : (opened x fresh).answer < 4294967296
  pub before-done : AllDone (opened x fresh) before
  pub is-done : outcome (up_to x fresh before).disc (up_to x fresh before).ledger c ≡ 0
  pub saved-done : (saved x fresh before c).answer < 4294967296
  pub saved-kept : Kept (world (saved x fresh before c)) (book x fresh before c)
  pub ends_there : day (opened x fresh) (before ++ (c ∷ [])) ≡ saved x fresh before c
  pub a-page : length (book x fresh before c).pages ≡ suc (length (remembered x fresh before).pages)
  pub went-since : Went (saved x fresh before c) (book x fresh before c) since
  pub counted : length (remembers (world (saved x fresh before c)) (book x fresh before c) (as_events since)).pages ≡ saves_among since + length (book x fresh before c).pages
  pub same-disc : (runs (world (saved x fresh before c)) (as_events since)).disc ≡ (day x (opening fresh ∷ (before ++ (c ∷ since)))).disc

pub saved-there : (x : Day) (fresh : Bool) → x.answer < 4294967296 → (before since : List Call) (c : Call) → saves c ≡ true → AllDone x (opening fresh ∷ (before ++ (c ∷ since))) → SavedThere x fresh before c since
unfolding day
saved-there x fresh ok before since c is-save a =
    let o : Day = opened x fresh in
    let h : History = start_history fresh x.disc in
    let e : outcome x.disc x.ledger (opening fresh) ≡ 0 = done_first x (opening fresh) (before ++ (c ∷ since)) ok a in
    let o-done : o.answer < 4294967296 = called-done x (opening fresh) (before ++ (c ∷ since)) ok a in
    let rest : AllDone o (before ++ (c ∷ since)) = rest-done x (opening fresh) (before ++ (c ∷ since)) ok a in
    let b-done : AllDone o before = part-done before (c ∷ since) o rest in
    let y : Day = up_to x fresh before in
    let hy : History = remembered x fresh before in
    let y-rest : AllDone y (c ∷ since) = subst (λ (z : Day). z.answer < 4294967296) (joined before (c ∷ since) o) rest in
    let kept : Kept (world y) hy = kept_on before o h o-done b-done (start-kept fresh x.disc x.ledger e) in
    let z : Day = saved x fresh before c in
    let hz : History = book x fresh before c in
    let c-done : outcome y.disc y.ledger c ≡ 0 = done_first y c since b-done y-rest in
    let z-done : z.answer < 4294967296 = called-done y c since b-done y-rest in
    let z-rest : AllDone z since = rest-done y c since b-done y-rest in
    let w : Went z hz since = went since z hz z-done z-rest in
    let z-kept : Kept (world z) hz = kept_next y c c-done hy kept in
    let moved : MovedBack hz.pages (history z hz since).pages (saves_among since) = moved_back since z hz z-done z-rest z-kept in
    record {
      roles-fit = start-fit x fresh (before ++ (c ∷ since)) ok a;
      start-done = e;
      opened-done = o-done;
      before-done = b-done;
      is-done = c-done;
      saved-done = z-done;
      saved-kept = z-kept;
      ends_there = joined before (c ∷ []) o ∙ first_done y c [] b-done (part-done (c ∷ []) since y y-rest);
      a-page = ap length (saved-page y.disc y.ledger hy kept c is-save c-done (second_number y.disc y.ledger c));
      went-since = w;
      counted = ap (λ (g : History). length g.pages) w.recalled ∙ (let n : length (history z hz since).pages ≡ saves_among since + length hz.pages = omega (arith, moved.count) in n);
      same-disc =
          ap (λ (v : World). v.disc) w.ended
          ∙ ap (λ (v : Day). v.disc) (sym (first_done y c since b-done y-rest) ∙ sym (joined before (c ∷ since) o) ∙ sym (first_done x (opening fresh) (before ++ (c ∷ since)) ok a));
    }
