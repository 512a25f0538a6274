-- What is read behind a mount or a look back that shows a page.
-- Assumes nothing.
use Prim.Native.Nat.{ℕ, zero, suc, ◌*◌, ◌<◌}
use mathlib.Core.Path.{◌≡◌, refl, sym, ap, ◌∙◌, subst}
use mathlib.Core.List.{List, [], ◌∷◌, ◌++◌}
use Rattle.std.specs.Prelude.{Some}
use lib.ListN.{length, get_or}
use Rattle.vat.specs.Table.{sector_length}
use Rattle.disc.specs.Disc.{Disc, recorded, puts}
use Rattle.recorder.specs.Calls.{Call, mount, read, look_back}
use Rattle.recorder.specs.Refusals.{outcome}
use Rattle.recorder.specs.Effects.{Effect, effect, After, settled, after}
use Rattle.recorder.proofs.Answers.{done-small}
use Rattle.history.specs.History.{Entry, unused_entry, shows, Snapshot}
use Rattle.history.specs.Claim.{reading, DoneShowing}
use Rattle.client.specs.Day.{Day, ended, day, AllDone, read_at}
use Rattle.client.proofs.Days.{joined, did, Fit, first-fit, next-fit}

-- mount and look back record nothing
settles-disc : (d : Disc) (l b : List ℕ) (n : ℕ) (x : Effect) → x.sectors ≡ [] → (settled d l b n x).disc ≡ d
unfolding puts
settles-disc d l b zero x e = ap (puts d (recorded d)) e
settles-disc d l b (suc n) x e = refl

pub mount-disc : (d : Disc) (l : List ℕ) → (after d l mount).disc ≡ d
unfolding after effect
mount-disc d l = settles-disc d l [] (outcome d l mount) (effect d l mount) refl

pub look-disc : (d : Disc) (l : List ℕ) (k : ℕ) → (after d l (look_back k)).disc ≡ d
unfolding after effect
look-disc d l k = settles-disc d l [] (outcome d l (look_back k)) (effect d l (look_back k)) refl

-- the call c is done, and a read of v behind it gives this answer and this block
pub record Reads (x : Day) (c : Call) (v : ℕ) (out : List ℕ) (answer : ℕ) (block : List ℕ) : Type 0 where
  pub shown : AllDone x (c ∷ [])
  pub told : (day x (c ∷ read v out ∷ [])).answer ≡ answer
  pub bytes : read_at (day x (c ∷ [])) v out ≡ block

module _ {x : Day} {c : Call} {v : ℕ} {out : List ℕ} {answer : ℕ} {block : List ℕ} (s : Reads x c v out answer block) where
  -- a program that makes both calls
  pub given : {r : ℕ} {i k o m : List ℕ} → ended r i k o m ≡ day x (c ∷ read v out ∷ []) → {out' : List ℕ} → (AllDone x (c ∷ []) → out' ≡ read_at (day x (c ∷ [])) v out) → (r ≡ answer) × (out' ≡ block)
  given e copied = (ap (λ (y : Day). y.answer) e ∙ s.told, copied s.shown ∙ s.bytes)

module _ (x : Day) (cs : List Call) {c : Call} {v : ℕ} {out : List ℕ} {answer : ℕ} {block : List ℕ} (s : Reads (day x cs) c v out answer block) where
  -- and that made other calls before
  pub given-behind : {r : ℕ} {i k o m : List ℕ} → ended r i k o m ≡ day x (cs ++ (c ∷ read v out ∷ []))
      → {q : ℕ} {i' k' o' m' : List ℕ} → ended q i' k' o' m' ≡ day x (cs ++ (c ∷ [])) → {out' : List ℕ} → out' ≡ read_at (ended q i' k' o' m') v out → (r ≡ answer) × (out' ≡ block)
  given-behind e f copied =
      given s (e ∙ joined cs (c ∷ read v out ∷ []) x) (λ a. copied ∙ ap (λ (y : Day). read_at y v out) (f ∙ joined cs (c ∷ []) x))

module _ (x : Day) (ok : x.answer < 4294967296) (fit : Fit x) (c : Call) {p : Snapshot} (s : DoneShowing x.disc x.ledger c p) (same : (after x.disc x.ledger c).disc ≡ x.disc) (small : (after x.disc x.ledger c).answer < 4294967296) (v : ℕ) (out : List ℕ) (long : length out ≡ sector_length) where
  abbrev behind : List ℕ
  behind = (after x.disc x.ledger c).ledger

  abbrev reads : Entry → After
  reads e = reading x.disc behind out e

  reads-entry : after (after x.disc x.ledger c).disc behind (read v out) ≡ reads (get_or p v unused_entry)
  reads-entry = ap (λ (d : Disc). after d behind (read v out)) same ∙ s.showing.reads v out long

  reads-page : Reads x c v out (reads (get_or p v unused_entry)).answer (reads (get_or p v unused_entry)).buffer
  unfolding day
  reads-page =
      record {
        shown = subst (λ (y : Day). y.answer < 4294967296) (sym (first-fit x c [] ok fit)) small;
        told =
            ap (λ (y : Day). y.answer) (first-fit x c (read v out ∷ []) ok fit ∙ first-fit (did x c) (read v out) [] small (next-fit x c fit))
            ∙ ap (λ (a : After). a.answer) reads-entry;
        bytes = ap (λ (y : Day). read_at y v out) (first-fit x c [] ok fit) ∙ ap (λ (a : After). a.buffer) reads-entry;
      }

  -- in use: the page's bytes
  reads-block : {b : ℕ} {block : List ℕ} → get_or p v unused_entry ≡ shows b (Some block) → Reads x c v out 0 block
  reads-block e = subst (λ (y : Entry). Reads x c v out (reads y).answer (reads y).buffer) e reads-page

  -- not in use: 10, and the lent block as it was
  reads-unused : get_or p v unused_entry ≡ unused_entry → Reads x c v out (10 * 4294967296) out
  reads-unused e = subst (λ (y : Entry). Reads x c v out (reads y).answer (reads y).buffer) e reads-page

module _ (x : Day) (ok : x.answer < 4294967296) (fit : Fit x) {p : Snapshot} (v : ℕ) (out : List ℕ) (long : length out ≡ sector_length) where
  module _ (s : DoneShowing x.disc x.ledger mount p) where
    pub mount-reads : {b : ℕ} {block : List ℕ} → get_or p v unused_entry ≡ shows b (Some block) → Reads x mount v out 0 block
    mount-reads = reads-block x ok fit mount s (mount-disc x.disc x.ledger) (done-small x.disc x.ledger mount s.is-done) v out long

    pub mount-unused : get_or p v unused_entry ≡ unused_entry → Reads x mount v out (10 * 4294967296) out
    mount-unused = reads-unused x ok fit mount s (mount-disc x.disc x.ledger) (done-small x.disc x.ledger mount s.is-done) v out long

  pub look-reads : (k : ℕ) → DoneShowing x.disc x.ledger (look_back k) p → {b : ℕ} {block : List ℕ} → get_or p v unused_entry ≡ shows b (Some block) → Reads x (look_back k) v out 0 block
  look-reads k s = reads-block x ok fit (look_back k) s (look-disc x.disc x.ledger k) (done-small x.disc x.ledger (look_back k) s.is-done) v out long
