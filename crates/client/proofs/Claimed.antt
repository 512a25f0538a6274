-- The claim about power cuts, put to a day on which every call is done: a begin or a mount, calls that follow it, and whatever happens then.
--     claim-behind, claim-at   what is claimed of the disc then
--     kept_at                  and what holds of the ledger
-- Assumes nothing.
use Prim.Native.Nat.{ℕ, ◌<◌}
use native.Mathlib.Omega.{arith}
use mathlib.Core.Path.{◌≡◌, refl, sym, ap, ◌∙◌, subst, subst₂}
use mathlib.Core.Bool.{Bool, true, false}
use mathlib.Core.List.{List, [], ◌∷◌}
use Rattle.std.specs.Prelude.{Option, None, Some}
use Rattle.disc.specs.Disc.{Disc}
use Rattle.disc.specs.Tables.{map_at, newest, block_found}
use Rattle.recorder.specs.Calls.{Call, begin, mount, write, release, close_packet, commit, close_session, read, look_back, time_of, only_tells}
use Rattle.recorder.specs.Refusals.{outcome}
use Rattle.recorder.specs.Effects.{effect, after, second_number}
use Rattle.history.specs.History.{Snapshot, History, done, feed}
use Rattle.history.specs.Events.{World, calls, AllAllowed, ledger_after, next, told, fed, runs, remembers, page_of, after_call}
use Rattle.history.specs.Claim.{Claim}
use Rattle.alike.specs.Scribbles.{Happening, event, AllHappen, ends, recalls}
use Rattle.history.proofs.Theorem.{Kept, all-kept, begun_kept, mounted-kept}
use Rattle.alike.proofs.Scribbles.{scribbled-power-cuts}
use Rattle.client.specs.Day.{Day, day, AllDone, opening, world}
use Rattle.client.proofs.Days.{did, first_done, called-done, done_first, rest-done}

-- ---- calls that are done, and then whatever happens

pub not-lost : (l : List ℕ) → ◌≡◌ {A = Option (List ℕ)} (Some l) None → ⊥
not-lost l e = let z : ◌≡◌ {A = ℕ} 0 1 = cc in omega arith

abbrev calls_then : List Call → List Happening → List Happening
calls_then [] hs = hs
calls_then (c ∷ cs) hs = event (calls c []) ∷ calls_then cs hs

-- the history after the calls
abbrev pub history : Day → History → List Call → History
history x h [] = h
history x h (c ∷ cs) = history (did x c) (done (told c) (second_number x.disc x.ledger c) h) cs

-- a call that only tells leaves the ledger that it was lent
still-held : (d : Disc) (l : List ℕ) (c : Call) → outcome d l c ≡ 0 → ledger_after (only_tells c) 0 (Some l) (after d l c).ledger ≡ Some (after d l c).ledger
unfolding after effect
still-held d l begin e = refl
still-held d l mount e = refl
still-held d l (write v block) e = refl
still-held d l (release v) e = refl
still-held d l close_packet e = refl
still-held d l (commit stamp) e = refl
still-held d l (close_session main reserve start) e = refl
still-held d l (read v block) e = refl
still-held d l (look_back k) e = refl
still-held d l (time_of k answer) e = rw e

module _ (x : Day) (c : Call) (e : outcome x.disc x.ledger c ≡ 0) where
  pub next-done : next (world x) (calls c []) ≡ world (did x c)
  unfolding next
  next-done = rw e (λ i. record { disc = (after x.disc x.ledger c).disc; ledger = still-held x.disc x.ledger c e i })

  pub fed-done : (h : History) → feed h (fed (world x) (calls c [])) ≡ done (told c) (second_number x.disc x.ledger c) h
  unfolding feed fed
  fed-done h = rw e

  -- what holds before a call holds after it
  pub kept_next : (h : History) → Kept (world x) h → Kept (world (did x c)) (done (told c) (second_number x.disc x.ledger c) h)
  unfolding AllAllowed runs remembers
  kept_next h k = subst₂ Kept next-done (fed-done h) (all-kept (calls c [] ∷ []) (world x) h k (λ z. absurd (not-lost x.ledger z), tt))

record Goes (x : Day) (h : History) (cs : List Call) (hs : List Happening) : Type 0 where
  allowed : AllHappen (world (day x cs)) hs → AllHappen (world x) (calls_then cs hs)
  ended : ends (world x) (calls_then cs hs) ≡ ends (world (day x cs)) hs
  recalled : recalls (world x) h (calls_then cs hs) ≡ recalls (world (day x cs)) (history x h cs) hs

goes : (cs : List Call) (x : Day) (h : History) (hs : List Happening) → x.answer < 4294967296 → AllDone x cs → Goes x h cs hs
unfolding AllHappen ends recalls day
goes [] x h hs ok a = record { allowed = λ b. b; ended = refl; recalled = refl }
goes (c ∷ cs) x h hs ok a =
    let z : outcome x.disc x.ledger c ≡ 0 = done_first x c cs ok a in
    let x' : Day = did x c in
    let h' : History = done (told c) (second_number x.disc x.ledger c) h in
    let at : world (day x (c ∷ cs)) ≡ world (day x' cs) = ap world (first_done x c cs ok a) in
    let rest : Goes x' h' cs hs = goes cs x' h' hs (called-done x c cs ok a) (rest-done x c cs ok a) in
    let w : next (world x) (calls c []) ≡ world x' = next-done x c z in
    record {
      allowed = λ b. (λ n. absurd (not-lost x.ledger n), subst (λ (v : World). AllHappen v (calls_then cs hs)) (sym w) (rest.allowed (subst (λ (v : World). AllHappen v hs) at b)));
      ended = ap (λ (v : World). ends v (calls_then cs hs)) w ∙ rest.ended ∙ ap (λ (v : World). ends v hs) (sym at);
      recalled =
          ap (λ (v : World). recalls v (feed h (fed (world x) (calls c []))) (calls_then cs hs)) w
          ∙ ap (λ (g : History). recalls (world x') g (calls_then cs hs)) (fed-done x c z h)
          ∙ rest.recalled
          ∙ ap (λ (v : World). recalls v (history x' h' cs) hs) (sym at);
    }

pub kept_on : (cs : List Call) (x : Day) (h : History) → x.answer < 4294967296 → AllDone x cs → Kept (world x) h → Kept (world (day x cs)) (history x h cs)
unfolding day
kept_on [] x h ok a k = k
kept_on (c ∷ cs) x h ok a k =
    subst (λ (y : Day). Kept (world y) (history x h (c ∷ cs))) (sym (first_done x c cs ok a))
    (kept_on cs (did x c) (done (told c) (second_number x.disc x.ledger c) h) (called-done x c cs ok a) (rest-done x c cs ok a)
    (kept_next x c (done_first x c cs ok a) h k))

-- ---- the start

-- the page that a day starts from: nothing, or what mount finds
abbrev pub start_page : Bool → Disc → Snapshot
start_page true d = []
start_page false d = page_of d (map_at d (block_found (newest d)))

abbrev pub start_pages : Bool → Disc → List Snapshot
start_pages true d = []
start_pages false d = start_page false d ∷ []

abbrev pub start_history : Bool → Disc → History
start_history fresh d = record { pages = start_pages fresh d; draft = Some (start_page fresh d) }

start-claim : (fresh : Bool) (d : Disc) (l : List ℕ) → outcome d l (opening fresh) ≡ 0
    → (hs : List Happening) → AllHappen (after_call d l (opening fresh)) hs
    → Claim (ends (after_call d l (opening fresh)) hs).disc (recalls (after_call d l (opening fresh)) (start_history fresh d) hs)
start-claim true d l e = scribbled-power-cuts.after-begin d l e
start-claim false d l e = scribbled-power-cuts.after-mount d l e

pub start-kept : (fresh : Bool) (d : Disc) (l : List ℕ) → outcome d l (opening fresh) ≡ 0 → Kept (after_call d l (opening fresh)) (start_history fresh d)
start-kept true d l e = begun_kept d l e
start-kept false d l e = mounted-kept d l e

-- ---- behind the start and the calls that follow

abbrev pub opened : Day → Bool → Day
opened x fresh = did x (opening fresh)

abbrev pub remembered : Day → Bool → List Call → History
remembered x fresh cs = history (opened x fresh) (start_history fresh x.disc) cs

module _ (x : Day) (fresh : Bool) (ok : x.answer < 4294967296) where
  module _ (cs : List Call) (a : AllDone x (opening fresh ∷ cs)) where
    went : (hs : List Happening) → Goes (opened x fresh) (start_history fresh x.disc) cs hs
    went hs = goes cs (opened x fresh) (start_history fresh x.disc) hs (called-done x (opening fresh) cs ok a) (rest-done x (opening fresh) cs ok a)

    there : world (day x (opening fresh ∷ cs)) ≡ world (day (opened x fresh) cs)
    there = ap world (first_done x (opening fresh) cs ok a)

    pub claim-behind : (hs : List Happening) → AllHappen (world (day x (opening fresh ∷ cs))) hs
        → Claim (ends (world (day x (opening fresh ∷ cs))) hs).disc (recalls (world (day x (opening fresh ∷ cs))) (remembered x fresh cs) hs)
    claim-behind hs allowed =
        subst₂ Claim
        (ap (λ (w : World). w.disc) ((went hs).ended ∙ ap (λ (w : World). ends w hs) (sym there)))
        ((went hs).recalled ∙ ap (λ (w : World). recalls w (remembered x fresh cs) hs) (sym there))
        (start-claim fresh x.disc x.ledger (done_first x (opening fresh) cs ok a) (calls_then cs hs) ((went hs).allowed (subst (λ (w : World). AllHappen w hs) there allowed)))

    pub claim-at : Claim (day x (opening fresh ∷ cs)).disc (remembered x fresh cs)
    unfolding AllHappen ends recalls
    claim-at = claim-behind [] tt

    pub kept_at : Kept (world (day x (opening fresh ∷ cs))) (remembered x fresh cs)
    kept_at =
        subst (λ (w : World). Kept w (remembered x fresh cs)) (sym there)
        (kept_on cs (opened x fresh) (start_history fresh x.disc) (called-done x (opening fresh) cs ok a) (rest-done x (opening fresh) cs ok a)
        (start-kept fresh x.disc x.ledger (done_first x (opening fresh) cs ok a)))
