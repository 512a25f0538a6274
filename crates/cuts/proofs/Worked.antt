-- A list of events, worked out on the states that the ledgers hold: whether each event is allowed, and the disc, the state and the history that it leaves, each step
-- once. What the test of a list says when it passes is what the claim about power cuts asks of the list, and the pages that it speaks of:
--     Works      the begin or mount that the list starts from is done, every event is allowed, the history has these pages, and on the disc that the list
--                leaves mount shows the newest of them and each look back its own
--     works-so   that a list works
-- Assumes nothing.
use Prim.Native.Nat.{ℕ, zero, suc, ◌≤◌}
use native.Mathlib.Omega.{arith}
use mathlib.Core.Bool.{Bool, true, false, ◌&&◌, ◌||◌, not}
use mathlib.Core.List.{List, [], ◌∷◌}
use Rattle.std.specs.Prelude.{Option, None, Some}
use mathlib.Core.Path.{◌≡◌, refl, sym, ap, ◌∙◌, subst, subst₂}
use lib.Dec.{T, eqb, leb, eqb→eq, leb→le}
use lib.ListN.{length}
use Rattle.disc.specs.Disc.{Disc, Sector}
use Rattle.volume.specs.declared.Volume.{Volume}
use Rattle.volume.specs.Volume.{unpack}
use Rattle.recorder.specs.Calls.{Call, buffer_of, restores, saves, only_tells}
use Rattle.recorder.specs.Refusals.{ledger_lent, outcome}
use Rattle.recorder.specs.Effects.{after, if_done, sectors_if, sectors_of}
use Rattle.history.specs.History.{Snapshot, History, answered, feed}
use Rattle.history.specs.Events.{World, Event, calls, cuts, ledger_held, CountsAsDone, Torn, cut_disc, ledger_after, next, told, cut_if, fed, AllAllowed, runs, remembers, shown, after_call}
use Rattle.bench.proofs.States.{outcome_of, Doing, doing, Step, settled_of, step, Holds, holds-own, Left, both, outcome-same, stepped, sectors_held, sectors-same, second-same}
use Rattle.bench.proofs.Starred.{opened, full}
use Rattle.cuts.proofs.Pages.{reads_as, mounts-to, looks-to, page-held, shows-held, mounts-held, looks-held, mounts-read, looks-read, same-entry, same-page, same-pages, pages-same}

-- ---- the state at hand

-- What a ledger holds: whether it has the right length, and the state.
pub record Kept : Type 0 where
  pub long : Bool
  pub state : Volume

abbrev pub Matches : Option (List ℕ) → Option Kept → Type 0
Matches None None = Unit
Matches None (Some k) = ⊥
Matches (Some l) None = ⊥
Matches (Some l) (Some k) = Holds l k.long k.state

-- What a call is lent, and what is at hand behind it.
abbrev pub lent_to : Option Kept → List ℕ → Kept
lent_to None junk = record { long = ledger_lent junk; state = unpack junk }
lent_to (Some k) junk = k

abbrev kept_after : Bool → ℕ → Option Kept → Kept → Option Kept
kept_after true n before left = before
kept_after false zero before left = Some left
kept_after false (suc n) before left = before

pub lent-holds : (o : Option (List ℕ)) (k : Option Kept) (junk : List ℕ) → Matches o k → Holds (ledger_held o junk) (lent_to k junk).long (lent_to k junk).state
lent-holds None None junk m = holds-own junk
lent-holds None (Some k) junk m = absurd m
lent-holds (Some l) None junk m = absurd m
lent-holds (Some l) (Some k) junk m = m

matches-after : (t : Bool) (n : ℕ) (o : Option (List ℕ)) (k : Option Kept) (l : List ℕ) (left : Kept) → Matches o k → Holds l left.long left.state
    → Matches (ledger_after t n o l) (kept_after t n k left)
matches-after true n o k l left m h = m
matches-after false zero o k l left m h = h
matches-after false (suc n) o k l left m h = m

-- ---- whether an event is allowed

-- With a state at hand every call may follow; with none, what is refused or only tells, and what makes one.
unfoldable pub follows : Option Kept → ℕ → Call → Bool
follows (Some k) n c = true
follows None n c = not (eqb n 0) || (only_tells c || restores c)

-- A struck sector has 2,048 bytes.
unfoldable pub struck : Option (List ℕ) → Bool
struck None = true
struck (Some bytes) = eqb (length bytes) 2048

pub some-none : {l : List ℕ} → ◌≡◌ {A = Option (List ℕ)} (Some l) None → ⊥
some-none e = let z : ◌≡◌ {A = ℕ} 0 1 = cc in omega arith

following : (o : Option (List ℕ)) (k : Option Kept) → Matches o k → (d : Disc) (c : Call) (junk : List ℕ) (n : ℕ) → outcome d (ledger_held o junk) c ≡ n
    → T (follows k n c) → o ≡ None → CountsAsDone d junk c → restores c ≡ true
unfolding follows
following (Some l) k m d c junk n e t lost done = absurd (some-none lost)
following None (Some k) m d c junk n e t lost done = absurd m
following None None m d c junk n e t lost done =
    holds (restores c) (subst (λ (u : Bool). T (u || restores c)) done.1 (subst (λ (i : ℕ). T (not (eqb i 0) || (only_tells c || restores c))) (sym e ∙ done.0) t))
  where
    holds : (t : Bool) → T t → t ≡ true
    holds true u = refl
    holds false u = absurd u

struck-long : (tear : Option (List ℕ)) → T (struck tear) → Torn tear
unfolding struck
struck-long None t = tt
struck-long (Some bytes) t = eqb→eq (length bytes) 2048 t

-- ---- a list

pub record Played : Type 0 where
  pub allowed : Bool
  pub disc : Disc
  pub kept : Option Kept
  pub past : History

unfoldable pub played : Bool → Disc → Option Kept → History → List Event → Played
unfolding follows struck
played ok d k h [] = record { allowed = ok; disc = d; kept = k; past = h }
played ok d k h (calls c junk ∷ es) =
    let m : Kept = lent_to k junk in
    let n : ℕ = outcome_of d m.long m.state c in
    let x : Doing = doing d m.state c in
    let s : Step = settled_of d m.long m.state (buffer_of c) n x in
    played (ok && (s.held && follows k n c)) s.disc (kept_after (only_tells c) n k (record { long = s.long; state = s.state }))
    (feed h (answered (told c) n (if_done n x.second))) es
played ok d k h (cuts c junk j tear ∷ es) =
    let m : Kept = lent_to k junk in
    let n : ℕ = outcome_of d m.long m.state c in
    let ss : List Sector = sectors_if n (doing d m.state c).sectors in
    played (ok && (follows k n c && (leb j (length ss) && struck tear))) (cut_disc d ss j tear) None (feed h (cut_if (saves c) (told c) (eqb n 0 && eqb j (length ss)))) es

-- What the working out says of the world and the history that the list leaves.
pub record So (w : World) (h : History) (es : List Event) (p : Played) : Type 0 where
  pub allowed : AllAllowed w es
  pub disc : (runs w es).disc ≡ p.disc
  pub ledger : Matches (runs w es).ledger p.kept
  pub past : remembers w h es ≡ p.past

-- an event that is not allowed is not made up for
pub allowed-before : (es : List Event) (ok : Bool) (d : Disc) (k : Option Kept) (h : History) → T (played ok d k h es).allowed → T ok
unfolding played
allowed-before [] ok d k h t = t
allowed-before (calls c junk ∷ es) ok d k h t =
    let m : Kept = lent_to k junk in
    let n : ℕ = outcome_of d m.long m.state c in
    let x : Doing = doing d m.state c in
    let s : Step = settled_of d m.long m.state (buffer_of c) n x in
    (both ok (s.held && follows k n c)
    (allowed-before es (ok && (s.held && follows k n c)) s.disc (kept_after (only_tells c) n k (record { long = s.long; state = s.state }))
    (feed h (answered (told c) n (if_done n x.second))) t)).0
allowed-before (cuts c junk j tear ∷ es) ok d k h t =
    let m : Kept = lent_to k junk in
    let n : ℕ = outcome_of d m.long m.state c in
    let ss : List Sector = sectors_if n (doing d m.state c).sectors in
    let now : Bool = follows k n c && (leb j (length ss) && struck tear) in
    (both ok now (allowed-before es (ok && now) (cut_disc d ss j tear) None (feed h (cut_if (saves c) (told c) (eqb n 0 && eqb j (length ss)))) t)).0

pub played-so : (es : List Event) (ok : Bool) (k : Option Kept) (h : History) (w : World) → Matches w.ledger k → T (played ok w.disc k h es).allowed
    → So w h es (played ok w.disc k h es)
unfolding played AllAllowed runs remembers next fed step sectors_held
played-so [] ok k h w m t = record { allowed = tt; disc = refl; ledger = m; past = refl }
played-so (calls c junk ∷ es) ok k h w m t =
    let d : Disc = w.disc in
    let l : List ℕ = ledger_held w.ledger junk in
    let q : Kept = lent_to k junk in
    let n : ℕ = outcome_of d q.long q.state c in
    let x : Doing = doing d q.state c in
    let s : Step = settled_of d q.long q.state (buffer_of c) n x in
    let left : Kept = record { long = s.long; state = s.state } in
    let k' : Option Kept = kept_after (only_tells c) n k left in
    let now : Bool = s.held && follows k n c in
    let h' : History = feed h (answered (told c) n (if_done n x.second)) in
    let w' : World = next w (calls c junk) in
    let g : History = feed h (fed w (calls c junk)) in
    let held : Holds l q.long q.state = lent-holds w.ledger k junk m in
    let fine = both s.held (follows k n c) (both ok now (allowed-before es (ok && now) s.disc k' h' t)).1 in
    let a : Left (after d l c) s = stepped d l c held fine.0 in
    let outcomes : outcome d l c ≡ n = outcome-same d l c held in
    let fits : Matches w'.ledger k' =
    subst (λ (i : ℕ). Matches w'.ledger (kept_after (only_tells c) i k left)) outcomes
    (matches-after (only_tells c) (outcome d l c) w.ledger k (after d l c).ledger left m a.holds) in
    let rest : So w' g es (played (ok && now) s.disc k' h' es) =
    subst₂ (λ (e : Disc) (f : History). T (played (ok && now) e k' f es).allowed → So w' g es (played (ok && now) e k' f es)) a.disc
    (λ i. feed h (answered (told c) (outcomes i) (second-same d l c held i))) (played-so es (ok && now) k' g w' fits) t in
    record {
      allowed = (following w.ledger k m d c junk n outcomes fine.1, rest.allowed);
      disc = rest.disc;
      ledger = rest.ledger;
      past = rest.past;
    }
played-so (cuts c junk j tear ∷ es) ok k h w m t =
    let d : Disc = w.disc in
    let l : List ℕ = ledger_held w.ledger junk in
    let q : Kept = lent_to k junk in
    let n : ℕ = outcome_of d q.long q.state c in
    let ss : List Sector = sectors_if n (doing d q.state c).sectors in
    let now : Bool = follows k n c && (leb j (length ss) && struck tear) in
    let h' : History = feed h (cut_if (saves c) (told c) (eqb n 0 && eqb j (length ss))) in
    let w' : World = next w (cuts c junk j tear) in
    let g : History = feed h (fed w (cuts c junk j tear)) in
    let held : Holds l q.long q.state = lent-holds w.ledger k junk m in
    let fine = both (follows k n c) (leb j (length ss) && struck tear) (both ok now (allowed-before es (ok && now) (cut_disc d ss j tear) None h' t)).1 in
    let more = both (leb j (length ss)) (struck tear) fine.1 in
    let outcomes : outcome d l c ≡ n = outcome-same d l c held in
    let sectors : sectors_of d l c ≡ ss = sectors-same d l c held in
    let rest : So w' g es (played (ok && now) (cut_disc d ss j tear) None h' es) =
    subst₂ (λ (e : Disc) (f : History). T (played (ok && now) e None f es).allowed → So w' g es (played (ok && now) e None f es))
    (ap (λ (xs : List Sector). cut_disc d xs j tear) sectors) (λ i. feed h (cut_if (saves c) (told c) (eqb (outcomes i) 0 && eqb j (length (sectors i)))))
    (played-so es (ok && now) None g w' tt) t in
    record {
      allowed = (
        (following w.ledger k m d c junk n outcomes fine.0, subst (λ (xs : List Sector). j ≤ length xs) (sym sectors) (leb→le j (length ss) more.0), struck-long tear more.1),
        rest.allowed,
      );
      disc = rest.disc;
      ledger = rest.ledger;
      past = rest.past;
    }

-- and what follows is worked out from there
pub more-so : (w : World) (h : History) (es : List Event) (p : Played) → So w h es p → (later : List Event)
    → T (played p.allowed p.disc p.kept p.past later).allowed → So (runs w es) (remembers w h es) later (played p.allowed p.disc p.kept p.past later)
more-so w h es p so later =
    subst₂ (λ (e : Disc) (g : History). T (played p.allowed e p.kept g later).allowed → So (runs w es) (remembers w h es) later (played p.allowed e p.kept g later))
    so.disc so.past (played-so later p.allowed p.kept (remembers w h es) (runs w es) so.ledger)

-- ---- a list from its begin or mount on

unfoldable pub played-from : Disc → Call → History → List Event → Played
unfolding played
played-from d c h es =
    let s : Step = step d (ledger_lent full) (unpack full) c in
    played (s.held && eqb (outcome_of d (ledger_lent full) (unpack full) c) 0) s.disc (Some (record { long = s.long; state = s.state })) h es

module _ (d : Disc) (c : Call) (h : History) (es : List Event) (t : T (played-from d c h es).allowed) where
  abbrev s : Step
  s = step d (ledger_lent full) (unpack full) c

  abbrev ok : Bool
  ok = s.held && eqb (outcome_of d (ledger_lent full) (unpack full) c) 0

  abbrev k : Option Kept
  k = Some (record { long = s.long; state = s.state })

  fine : T s.held × T (eqb (outcome_of d (ledger_lent full) (unpack full) c) 0)
  unfolding played-from
  fine = both s.held (eqb (outcome_of d (ledger_lent full) (unpack full) c) 0) (allowed-before es ok s.disc k h t)

  pub from-started : outcome d full c ≡ 0
  from-started = outcome-same d full c (holds-own full) ∙ eqb→eq (outcome_of d (ledger_lent full) (unpack full) c) 0 fine.1

  pub from-so : So (after_call d full c) h es (played-from d c h es)
  unfolding played-from
  from-so =
      let a : Left (after d full c) s = stepped d full c (holds-own full) fine.0 in
      subst (λ (e : Disc). T (played ok e k h es).allowed → So (after_call d full c) h es (played ok e k h es)) a.disc
      (played-so es ok k h (after_call d full c) a.holds) t

-- Every event is allowed, the history has these pages, mount shows the newest and each look back its page.
unfoldable pub works : Disc → Call → History → List Event → List Snapshot → Bool
unfolding opened reads_as page-held shows-held same-entry same-page same-pages mounts-held looks-held cut_disc feed played-from shown
works d c h es ps =
    let p : Played = played-from d c h es in
    p.allowed && (same-pages p.past.pages ps && (mounts-held p.disc ps && looks-held p.disc 0 ps))

pub record Works (d : Disc) (c : Call) (h : History) (es : List Event) (ps : List Snapshot) : Type 0 where
  pub started : outcome d full c ≡ 0
  pub allowed : AllAllowed (after_call d full c) es
  pub pages : (remembers (after_call d full c) h es).pages ≡ ps
  pub mounts : T (mounts-to (runs (after_call d full c) es).disc ps)
  pub looks : T (looks-to (runs (after_call d full c) es).disc 0 ps)

pub works-so : (d : Disc) (c : Call) (h : History) (es : List Event) (ps : List Snapshot) → T (works d c h es ps) → Works d c h es ps
unfolding works
works-so d c h es ps t =
    let p : Played = played-from d c h es in
    let shown : Bool = mounts-held p.disc ps && looks-held p.disc 0 ps in
    let a = both p.allowed (same-pages p.past.pages ps && shown) t in
    let b = both (same-pages p.past.pages ps) shown a.1 in
    let e = both (mounts-held p.disc ps) (looks-held p.disc 0 ps) b.1 in
    let so : So (after_call d full c) h es p = from-so d c h es a.0 in
    record {
      started = from-started d c h es a.0;
      allowed = so.allowed;
      pages = ap (λ (x : History). x.pages) so.past ∙ pages-same p.past.pages ps b.0;
      mounts = subst (λ (x : Disc). T (mounts-to x ps)) (sym so.disc) (mounts-read p.disc ps e.0);
      looks = subst (λ (x : Disc). T (looks-to x 0 ps)) (sym so.disc) (looks-read ps p.disc 0 e.1);
    }
