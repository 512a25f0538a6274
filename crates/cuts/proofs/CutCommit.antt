-- A list of events and then a commit that is cut: from one working out of the list, what every cut of the commit needs and leaves.
--     cut-allowed   a cut after any of the commit's sectors is allowed, whatever the struck sector holds
--     cut-pages     the pages are the list's, and the draft before them exactly if the cut kept the last sector
-- Assumes nothing.
use Prim.Native.Nat.{ℕ, ◌≤◌}
use mathlib.Core.Bool.{Bool, false, ◌&&◌}
use mathlib.Core.List.{List, [], ◌∷◌, ◌++◌}
use Rattle.std.specs.Prelude.{Option, None, Some}
use mathlib.Core.Path.{◌≡◌, refl, sym, ap, ◌∙◌, subst, subst₂}
use lib.Dec.{T, eqb, eqb→eq}
use lib.ListN.{length}
use Rattle.disc.specs.Disc.{Disc}
use Rattle.recorder.specs.Calls.{Call, commit}
use Rattle.recorder.specs.Refusals.{outcome}
use Rattle.recorder.specs.Effects.{sectors_of}
use Rattle.history.specs.History.{Snapshot, History, saved_if, feed}
use Rattle.history.specs.Events.{World, Event, cuts, ledger_held, Torn, Allowed, cut_disc, next, fed, AllAllowed, runs, remembers, shown, after_call}
use Rattle.bench.proofs.States.{outcome_of, both, outcome-same, sectors_held, sectors-same}
use Rattle.bench.proofs.Starred.{opened, full}
use Rattle.cuts.proofs.Pages.{same-entry, same-page, same-pages, page-same, pages-same}
use Rattle.cuts.proofs.Worked.{Kept, Matches, some-none, Played, So, played-from, from-started, from-so}

-- ---- the test

unfoldable pub same-draft : Option Snapshot → Snapshot → Bool
same-draft None p = false
same-draft (Some q) p = same-page q p

-- A state is at hand, a commit would be done with n sectors, and the history has these pages and this draft.
unfoldable pub commits : Disc → Option Kept → History → ℕ → List Snapshot → Snapshot → Bool
commits d None h n ps draft = false
commits d (Some k) h n ps draft =
    eqb (outcome_of d k.long k.state (commit None)) 0
    && (eqb (length (sectors_held d k.long k.state (commit None))) n && (same-pages h.pages ps && same-draft h.draft draft))

unfoldable pub commit-works : Disc → Call → History → List Event → ℕ → List Snapshot → Snapshot → Bool
unfolding opened same-entry same-page same-pages cut_disc feed played-from same-draft commits shown
commit-works d c h es n ps draft = let p : Played = played-from d c h es in p.allowed && commits p.disc p.kept p.past n ps draft

-- ---- what it says

record Commits (w : World) (h : History) (n : ℕ) (ps : List Snapshot) (p : Snapshot) : Type 0 where
  has-state : w.ledger ≡ None → ⊥
  is-done : outcome w.disc (ledger_held w.ledger []) (commit None) ≡ 0
  sectors : length (sectors_of w.disc (ledger_held w.ledger []) (commit None)) ≡ n
  pages : h.pages ≡ ps
  draft : h.draft ≡ Some p

draft-same : (o : Option Snapshot) (p : Snapshot) → T (same-draft o p) → o ≡ Some p
unfolding same-draft
draft-same None p t = absurd t
draft-same (Some q) p t = ap (λ (x : Snapshot). Some x) (page-same q p t)

commits-so : (d : Disc) (o : Option (List ℕ)) (k : Option Kept) (h : History) (n : ℕ) (ps : List Snapshot) (draft : Snapshot) → Matches o k
    → T (commits d k h n ps draft) → Commits (record { disc = d; ledger = o }) h n ps draft
unfolding commits
commits-so d o None h n ps draft m t = absurd t
commits-so d None (Some k) h n ps draft m t = absurd m
commits-so d (Some l) (Some k) h n ps draft m t =
    let done : Bool = eqb (outcome_of d k.long k.state (commit None)) 0 in
    let counted : Bool = eqb (length (sectors_held d k.long k.state (commit None))) n in
    let paged : Bool = same-pages h.pages ps in
    let drafted : Bool = same-draft h.draft draft in
    let b = both done (counted && (paged && drafted)) t in
    let c = both counted (paged && drafted) b.1 in
    let e = both paged drafted c.1 in
    record {
      has-state = some-none;
      is-done = outcome-same d l (commit None) m ∙ eqb→eq (outcome_of d k.long k.state (commit None)) 0 b.0;
      sectors = ap length (sectors-same d l (commit None) m) ∙ eqb→eq (length (sectors_held d k.long k.state (commit None))) n c.0;
      pages = pages-same h.pages ps e.0;
      draft = draft-same h.draft draft e.1;
    }

-- ---- one more event behind a list

allowed_then : (es : List Event) (w : World) (e : Event) → AllAllowed w es → Allowed (runs w es) e → AllAllowed w (es ++ (e ∷ []))
unfolding AllAllowed runs
allowed_then [] w e a b = (b, tt)
allowed_then (x ∷ es) w e a b = (a.0, allowed_then es (next w x) e a.1 b)

remembered-then : (es : List Event) (w : World) (h : History) (e : Event) → remembers w h (es ++ (e ∷ [])) ≡ feed (remembers w h es) (fed (runs w es) e)
unfolding remembers runs
remembered-then [] w h e = refl
remembered-then (x ∷ es) w h e = remembered-then es (next w x) (feed h (fed w x)) e

-- ---- the cut

cut-feeds : (w : World) (h : History) (n : ℕ) (ps : List Snapshot) (draft : Snapshot) → Commits w h n ps draft → (j : ℕ) (tear : Option (List ℕ))
    → (feed h (fed w (cuts (commit None) [] j tear))).pages ≡ saved_if (eqb j n) (Some draft) ps
unfolding feed fed
cut-feeds w h n ps draft c j tear = rw (c.is-done, c.sectors, c.pages, c.draft)

module _ (d : Disc) (c : Call) (h : History) (es : List Event) (n : ℕ) (ps : List Snapshot) (draft : Snapshot) (t : T (commit-works d c h es n ps draft)) where
  abbrev w : World
  w = after_call d full c

  abbrev p : Played
  p = played-from d c h es

  parts : T p.allowed × T (commits p.disc p.kept p.past n ps draft)
  unfolding commit-works
  parts = both p.allowed (commits p.disc p.kept p.past n ps draft) t

  so : So w h es p
  so = from-so d c h es parts.0

  ready : Commits (runs w es) (remembers w h es) n ps draft
  ready =
      subst₂ (λ (x : Disc) (g : History). Commits (record { disc = x; ledger = (runs w es).ledger }) g n ps draft) (sym so.disc) (sym so.past)
      (commits-so p.disc (runs w es).ledger p.kept p.past n ps draft so.ledger parts.1)

  pub cut_started : outcome d full c ≡ 0
  cut_started = from-started d c h es parts.0

  pub cut-allowed : (j : ℕ) → j ≤ n → (tear : Option (List ℕ)) → Torn tear → AllAllowed w (es ++ (cuts (commit None) [] j tear ∷ []))
  cut-allowed j most tear long =
      allowed_then es w (cuts (commit None) [] j tear) so.allowed
      ((λ lost done. absurd (ready.has-state lost)), subst (λ (k : ℕ). j ≤ k) (sym ready.sectors) most, long)

  pub cut-pages : (j : ℕ) (tear : Option (List ℕ)) → (remembers w h (es ++ (cuts (commit None) [] j tear ∷ []))).pages ≡ saved_if (eqb j n) (Some draft) ps
  cut-pages j tear =
      ap (λ (x : History). x.pages) (remembered-then es w h (cuts (commit None) [] j tear)) ∙ cut-feeds (runs w es) (remembers w h es) n ps draft ready j tear
