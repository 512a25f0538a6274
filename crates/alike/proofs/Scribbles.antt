-- Bytes that mean nothing mean nothing to the history either: from alike worlds every event is allowed alike, is remembered as the same and leaves alike
-- worlds; the claim of one disc is the claim of an alike one. Hence demand 3 of lists in which such bytes change between any two events.
--     scribbled-power-cuts   the claim of specs/Scribbles.antt
-- Assumes nothing.
use Prim.Native.Nat.{ℕ, zero, suc, ◌+◌, ◌≤◌}
use mathlib.Core.Path.{◌≡◌, refl, sym, ap, ◌∙◌, subst}
use mathlib.Core.Bool.{Bool, true, false, ◌&&◌}
use mathlib.Core.List.{List, [], ◌∷◌}
use Rattle.std.specs.Prelude.{Option, None, Some}
use lib.Dec.{eqb, ltb}
use lib.ListN.{length, get_or, take}
use Rattle.disc.specs.Disc.{Disc, Sector, recorded, puts}
use Rattle.disc.proofs.Recording.{AllWhole, whole_take}
use Rattle.recorder.specs.Calls.{Call, begin, mount, read, look_back, saves, only_tells}
use Rattle.recorder.specs.Refusals.{outcome}
use Rattle.recorder.specs.Effects.{effect, After, settled, after, sectors_of}
use Rattle.alike.specs.Alike.{Alike, SameCall}
use Rattle.alike.proofs.Discs.{alike_refl, alike-sym, alike-trans, same-recorded, alike-torn, alike-puts}
use Rattle.alike.proofs.Calls.{sectors-whole}
use Rattle.alike.proofs.Views.{mean-nothing}
use Rattle.history.specs.History.{Entry, unused_entry, shows, Snapshot, History, Fed, answered, feed}
use Rattle.history.specs.Events.{World, Event, calls, cuts, ledger_held, Allowed, torn_at, cut_disc, ledger_after, next, told, cut_if, fed, AllAllowed, runs, remembers, after_call, begun_history, mounted_history}
use Rattle.history.specs.Claim.{reading, Shows, DoneShowing, Mounts, Claim}
use Rattle.alike.specs.Scribbles.{Happening, event, scribble, on_disc, AllHappen, ends, recalls, ScribbledPowerCuts}
use Rattle.history.proofs.Theorem.{power-cuts}

-- ---- one event, on alike discs and one ledger

-- worlds whose discs are alike, with one ledger
record AlikeWorlds (w u : World) : Type 0 where
  alike-discs : Alike w.disc u.disc
  same-ledger : w.ledger ≡ u.ledger

torn-alike : (t : Bool) (tear : Option (List ℕ)) (b : ℕ) {d e : Disc} → Alike d e → Alike (torn_at t tear b d) (torn_at t tear b e)
torn-alike true None b a = a
torn-alike true (Some bytes) b a = alike-torn a b bytes
torn-alike false tear b a = a

module _ {d e : Disc} (a : Alike d e) (o : Option (List ℕ)) where
  cut-alike : (ss : List Sector) → AllWhole ss → (j : ℕ) (tear : Option (List ℕ)) → Alike (cut_disc d ss j tear) (cut_disc e ss j tear)
  unfolding cut_disc
  cut-alike ss f j tear =
      subst (λ (r : ℕ). Alike (cut_disc d ss j tear) (torn_at (ltb j (length ss)) tear (r + j) (puts e r (take j ss)))) (same-recorded a)
      (torn-alike (ltb j (length ss)) tear (recorded d + j) (alike-puts (take j ss) (whole_take j ss f) a (recorded d)))

  next-alike : (v : Event) → AlikeWorlds (next (record { disc = d; ledger = o }) v) (next (record { disc = e; ledger = o }) v)
  unfolding next
  next-alike (calls c junk) =
      let s : SameCall d e (ledger_held o junk) c = mean-nothing.calls d e a (ledger_held o junk) c in
      record { alike-discs = s.alike-discs; same-ledger = λ i. ledger_after (only_tells c) (s.same_outcome i) o (s.same-ledger i) }
  next-alike (cuts c junk j tear) =
      let l : List ℕ = ledger_held o junk in
      record {
        alike-discs =
            subst (λ (ss : List Sector). Alike (cut_disc d (sectors_of d l c) j tear) (cut_disc e ss j tear)) (mean-nothing.calls d e a l c).same-sectors
            (cut-alike (sectors_of d l c) (sectors-whole d l c) j tear);
        same-ledger = refl;
      }

  fed-same : (v : Event) → fed (record { disc = d; ledger = o }) v ≡ fed (record { disc = e; ledger = o }) v
  unfolding fed
  fed-same (calls c junk) =
      let s : SameCall d e (ledger_held o junk) c = mean-nothing.calls d e a (ledger_held o junk) c in
      λ i. answered (told c) (s.same_outcome i) (s.same_second i)
  fed-same (cuts c junk j tear) =
      let s : SameCall d e (ledger_held o junk) c = mean-nothing.calls d e a (ledger_held o junk) c in
      λ i. cut_if (saves c) (told c) (eqb (s.same_outcome i) 0 && eqb j (length (s.same-sectors i)))

  allowed_same : (v : Event) → Allowed (record { disc = d; ledger = o }) v → Allowed (record { disc = e; ledger = o }) v
  allowed_same (calls c junk) f = λ n z. f n ((mean-nothing.calls d e a junk c).same_outcome ∙ z.0, z.1)
  allowed_same (cuts c junk j tear) f = (
    λ n z. f.0 n ((mean-nothing.calls d e a junk c).same_outcome ∙ z.0, z.1),
    subst (λ (ss : List Sector). j ≤ length ss) (mean-nothing.calls d e a (ledger_held o junk) c).same-sectors f.1,
    f.2,
  )

-- ---- one event, on alike worlds

module _ {w u : World} (a : AlikeWorlds w u) where
  -- with the ledger of one it is shown of the other
  along : (P : World → Type 0) → P (on_disc w u.disc) → P u
  along P = subst (λ (o : Option (List ℕ)). P (record { disc = u.disc; ledger = o })) a.same-ledger

  world-alike : (v : Event) → AlikeWorlds (next w v) (next u v)
  world-alike v = along (λ x. AlikeWorlds (next w v) (next x v)) (next-alike a.alike-discs w.ledger v)

  world-fed : (v : Event) → fed w v ≡ fed u v
  world-fed v = along (λ x. fed w v ≡ fed x v) (fed-same a.alike-discs w.ledger v)

  world-allowed : (v : Event) → Allowed w v → Allowed u v
  world-allowed v f = along (λ x. Allowed x v) (allowed_same a.alike-discs w.ledger v f)

-- ---- the claim of one disc is that of the other

abbrev onto : Disc → After → After
onto e r = record { answer = r.answer; disc = e; ledger = r.ledger; buffer = r.buffer }

reading-onto : (d e : Disc) (l block : List ℕ) (x : Entry) → onto e (reading d l block x) ≡ reading e l block x
reading-onto d e l block unused_entry = refl
reading-onto d e l block (shows b None) = refl
reading-onto d e l block (shows b (Some bytes)) = refl

read-leaves : (d : Disc) (l : List ℕ) (n : ℕ) (block : List ℕ) → (after d l (read n block)).disc ≡ d
unfolding after effect puts
read-leaves d l n block = go (outcome d l (read n block))
  where
    go : (o : ℕ) → (settled d l block o (effect d l (read n block))).disc ≡ d
    go zero = refl
    go (suc m) = refl

module _ {d e : Disc} (a : Alike d e) where
  read-onto : (l : List ℕ) (n : ℕ) (block : List ℕ) → after e l (read n block) ≡ onto e (after d l (read n block))
  read-onto l n block =
      let s : SameCall d e l (read n block) = mean-nothing.calls d e a l (read n block) in
      λ i. record { answer = sym s.same_answer i; disc = read-leaves e l n block i; ledger = sym s.same-ledger i; buffer = sym s.same-buffer i }

  shows_alike : (l : List ℕ) (p : Snapshot) → Shows d l p → Shows e l p
  shows_alike l p s =
      record {
        size = s.size;
        entry = s.entry;
        reads = λ n block long. read-onto l n block ∙ ap (onto e) (s.reads n block long) ∙ reading-onto d e l block (get_or p n unused_entry);
      }

  done-alike : (l : List ℕ) (c : Call) (p : Snapshot) → DoneShowing d l c p → DoneShowing e l c p
  done-alike l c p s =
      let same : SameCall d e l c = mean-nothing.calls d e a l c in
      record {
        is-done = sym same.same_outcome ∙ s.is-done;
        showing = subst (λ (m : List ℕ). Shows e m p) same.same-ledger (shows_alike (after d l c).ledger p s.showing);
      }

  mounts-alike : (l : List ℕ) (ps : List Snapshot) → Mounts d l ps → Mounts e l ps
  mounts-alike l [] m = sym (mean-nothing.calls d e a l mount).same_outcome ∙ m
  mounts-alike l (p ∷ ps) m = done-alike l mount p m

  pub claim-alike : (h : History) → Claim d h → Claim e h
  claim-alike h c =
      record {
        mounts = λ l long. mounts-alike l h.pages (c.mounts l long);
        looks = λ l long k below. done-alike l (look_back k) (get_or h.pages k []) (c.looks l long k below);
      }

-- ---- events between which such bytes change

-- the events alone
abbrev calm : List Happening → List Event
calm [] = []
calm (event v ∷ hs) = v ∷ calm hs
calm (scribble d ∷ hs) = calm hs

record Calmed (w u : World) (h : History) (hs : List Happening) : Type 0 where
  allowed : AllAllowed u (calm hs)
  alike-ends : AlikeWorlds (ends w hs) (runs u (calm hs))
  same-history : recalls w h hs ≡ remembers u h (calm hs)

calmed : (hs : List Happening) {w u : World} (h : History) → AlikeWorlds w u → AllHappen w hs → Calmed w u h hs
unfolding AllAllowed runs remembers AllHappen ends recalls
calmed [] h a f = record { allowed = tt; alike-ends = a; same-history = refl }
calmed (event v ∷ hs) {w} {u} h a f =
    let s : Calmed (next w v) (next u v) (feed h (fed w v)) hs = calmed hs (feed h (fed w v)) (world-alike a v) f.1 in
    record {
      allowed = (world-allowed a v f.0, s.allowed);
      alike-ends = s.alike-ends;
      same-history = s.same-history ∙ ap (λ (x : Fed). remembers (next u v) (feed h x) (calm hs)) (world-fed a v);
    }
calmed (scribble d ∷ hs) {w} {u} h a f =
    let s : Calmed (on_disc w d) u h hs =
    calmed hs h (record { alike-discs = alike-trans (alike-sym f.0) a.alike-discs; same-ledger = a.same-ledger }) f.1 in
    record { allowed = s.allowed; alike-ends = s.alike-ends; same-history = s.same-history }

scribbled : (w : World) (h : History) → ((es : List Event) → AllAllowed w es → Claim (runs w es).disc (remembers w h es))
    → (hs : List Happening) → AllHappen w hs → Claim (ends w hs).disc (recalls w h hs)
scribbled w h all hs f =
    let s : Calmed w w h hs = calmed hs h (record { alike-discs = alike_refl w.disc; same-ledger = refl }) f in
    claim-alike (alike-sym s.alike-ends.alike-discs) (recalls w h hs)
    (subst (λ (k : History). Claim (runs w (calm hs)).disc k) (sym s.same-history) (all (calm hs) s.allowed))

pub scribbled-power-cuts : ScribbledPowerCuts
scribbled-power-cuts =
    record {
      after-begin = λ d l z. scribbled (after_call d l begin) begun_history (power-cuts.after-begin d l z);
      after-mount = λ d l z. scribbled (after_call d l mount) (mounted_history d) (power-cuts.after-mount d l z);
    }
