-- A save that was made stays k steps back when k saves follow it, over any format: each step of the log keeps the way to it.
--     step-extends   every step only adds to the disc
--     page-behind    each page is as many steps back as pages are newer
--     way-walk, walk-way  along the way the walk back reaches the save, and only so
--     since-kept     every step keeps it, one step longer where it makes a save
-- Assumes nothing.
use Prim.Native.Nat.{ℕ, zero, suc, ◌+◌, ◌<◌}
use native.Mathlib.Nat.{not-suc-le-zero, le_of_suc-le-suc}
use native.Mathlib.Omega.{arith}
use mathlib.Core.Path.{◌≡◌, refl, sym, ap, ◌∙◌, subst}
use mathlib.Core.Bool.{Bool, true, false}
use mathlib.Core.List.{List, [], ◌∷◌}
use Rattle.std.specs.Prelude.{Option, None, Some}
use lib.ListN.{length, get_or}
use lib.Dec.{eqb}
use borrow.Author.Tests.{ne_eqb, eqb-false}
use Rattle.vat.specs.Table.{unused}
use Rattle.std.specs.Prelude.{Ok}
use Rattle.disc.specs.Tables.{stepped, walk}
use Rattle.disc.proofs.Found.{newest-table}
use Rattle.history.specs.History.{Snapshot, History, Fed, saved, feed}
use Rattle.history.proofs.Log.{Format, or_unused, newest_of, Extends, Plain, Saved, extends-same, State, Step, working, Link, Chain, Pages, Drafted, Inv, newest-plain, newest-saved, head-link}

module _ (F : Format) where
  pub step-extends : {s s' : State F} {f : Fed} → Step F s f s' → Extends F s.disc s'.disc
  step-extends {s} (Step.quiet same) = extends-same F s.disc
  step-extends (Step.begun {d} second none-there) = extends-same F d
  step-extends (Step.mounted {d} second t there) = extends-same F d
  step-extends (Step.looked {d} k second w looks) = extends-same F d
  step-extends (Step.wrote xs last n t block p inside used reads) = p.extends
  step-extends (Step.released {d} xs last n second) = extends-same F d
  step-extends (Step.committed xs last t second s) = s.extends
  step-extends (Step.lost f clears p) = p.extends
  step-extends (Step.lost-saved xs last t s) = s.extends

  -- ---- the way back

  -- k steps lead from the table at t to the table at b, each to a recorded one
  abbrev pub Way : F.Disc → ℕ → ℕ → ℕ → Type 0
  Way d zero t b = (t ≡ b) × (t < F.recorded d)
  Way d (suc k) t b = (t < F.recorded d) × (F.previous_at d t ≡ unused → ⊥) × (F.table d (F.previous_at d t) ≡ true) × Way d k (F.previous_at d t) b

  way-start : (d : F.Disc) (k t b : ℕ) → Way d k t b → t < F.recorded d
  way-start d zero t b w = w.1
  way-start d (suc k) t b w = w.0

  pub way-walk : (d : F.Disc) (k t b : ℕ) → Way d k t b → walk (F.table d) (F.previous_at d) k t ≡ Ok b
  unfolding walk
  way-walk d zero t b w = ap Ok w.0
  way-walk d (suc k) t b w = rw (ne_eqb (F.previous_at d t) unused w.1, w.2) (way-walk d k (F.previous_at d t) b w.3)

  -- and where the walk back reaches a save, the way leads there, since every table is recorded
  pub walk-way : (d : F.Disc) → ((b : ℕ) → F.table d b ≡ true → b < F.recorded d) → (k t b : ℕ) → t < F.recorded d
      → walk (F.table d) (F.previous_at d) k t ≡ Ok b → Way d k t b
  unfolding walk
  walk-way d recorded-table zero t b h e = let same : t ≡ b = cc in (same, h)
  walk-way d recorded-table (suc k) t b h e = go (eqb old unused) refl (F.table d old) refl e (walk-way d recorded-table k old b)
    where
      old : ℕ
      old = F.previous_at d t

      go : (u : Bool) → eqb old unused ≡ u → (p : Bool) → F.table d old ≡ p → stepped u p (walk (F.table d) (F.previous_at d) k old) ≡ Ok b
          → (old < F.recorded d → walk (F.table d) (F.previous_at d) k old ≡ Ok b → Way d k old b) → Way d (suc k) t b
      go true z p y e ih = absurd (let n : ◌≡◌ {A = ℕ} 0 1 = cc in omega arith)
      go false z false y e ih = absurd (let n : ◌≡◌ {A = ℕ} 0 1 = cc in omega arith)
      go false z true y e ih = (h, eqb-false old unused z, y, ih (recorded-table old y) e)

  way-kept : {d d' : F.Disc} → Extends F d d' → (k t b : ℕ) → Way d k t b → Way d' k t b
  way-kept e zero t b w = (w.0, omega (arith, w.1, e.more))
  way-kept {d} {d'} e (suc k) t b w =
      let old : ℕ = F.previous_at d t in
      let same : F.previous_at d' t ≡ old = e.previous t w.0 in
      subst (λ (x : ℕ). (t < F.recorded d') × (x ≡ unused → ⊥) × (F.table d' x ≡ true) × Way d' k x b) (sym same)
      (omega (arith, w.0, e.more), w.1, e.tables old (way-start d k old b w.3) ∙ w.2, way-kept e k old b w.3)

  -- the save at block b, k steps back from the newest table
  pub record Behind (d : F.Disc) (k b : ℕ) : Type 0 where
    pub newest : ℕ
    pub is-newest : newest_of F d ≡ Some newest
    pub way : Way d k newest b

  chain-way : (d : F.Disc) (b : ℕ) (p : Snapshot) (ps : List Snapshot) → Chain F d b p ps → (k : ℕ) → k < suc (length ps)
      → (t : ℕ) × Way d k b t × Link F d t (get_or (p ∷ ps) k [])
  chain-way d b p ps c zero h = let l : Link F d b p = head-link F b p ps c in (b, (refl, l.inside), l)
  chain-way d b p [] c (suc k) h = absurd (not-suc-le-zero (le_of_suc-le-suc h))
  chain-way d b p (q ∷ qs) c (suc k) h =
      let below : ℕ = F.previous_at d b in
      let further = chain-way d below q qs c.2 k (le_of_suc-le-suc h) in
      (further.0, (c.0.inside, c.1, (head-link F below q qs c.2).is-table, further.1), further.2)

  pub page-behind : (d : F.Disc) (ps : List Snapshot) → Pages F d ps → (k : ℕ) → k < length ps → (t : ℕ) × Behind d k t × Link F d t (get_or ps k [])
  page-behind d [] n k h = absurd (not-suc-le-zero h)
  page-behind d (p ∷ ps) n k h =
      let w = chain-way d n.0 p ps n.2 k h in
      (w.0, record { newest = n.0; is-newest = n.1; way = w.1 }, w.2)

  -- ---- as saves follow

  behind-plain : {d d' : F.Disc} → Plain F d d' → (k b : ℕ) → Behind d k b → Behind d' k b
  behind-plain {d} {d'} p k b r =
      record { newest = r.newest; is-newest = newest-plain F p ∙ r.is-newest; way = way-kept p.extends k r.newest b r.way }

  -- a save whose previous table is the newest is one step more
  behind-saved : {d d' : F.Disc} (xs : List ℕ) (last t : ℕ) → Saved F d d' (working F xs last) t → last ≡ or_unused (newest_of F d)
      → (k b : ℕ) → Behind d k b → Behind d' (suc k) b
  behind-saved {d} {d'} xs last t s is_last k b r =
      let old : ℕ = r.newest in
      let named : F.previous_at d' t ≡ old = s.its-previous ∙ is_last ∙ ap or_unused r.is-newest in
      let inside : old < F.recorded d = way-start d k old b r.way in
      let table : F.table d' old ≡ true = s.extends.tables old inside ∙ newest-table (F.table d) (F.recorded d) old r.is-newest in
      record {
        newest = t;
        is-newest = newest-saved F (working F xs last) t s;
        way =
            subst (λ (x : ℕ). (t < F.recorded d') × (x ≡ unused → ⊥) × (F.table d' x ≡ true) × Way d' k x b) (sym named)
            (omega (arith, s.last-sector), (λ u. omega (arith, s.small, s.behind)), table, way-kept s.extends k old b r.way);
      }

  -- of the pages, m were there when the save at block b was k steps back
  pub record Since (d : F.Disc) (pages : List Snapshot) (m k b : ℕ) : Type 0 where
    pub followed : ℕ
    pub counted : k + length pages ≡ followed + m
    pub behind : Behind d followed b

  since-plain : {d d' : F.Disc} → Plain F d d' → {pages : List Snapshot} {m k b : ℕ} → Since d pages m k b → Since d' pages m k b
  since-plain p {pages} {m} {k} {b} r = record { followed = r.followed; counted = r.counted; behind = behind-plain p r.followed b r.behind }

  since-saved : {d d' : F.Disc} (xs : List ℕ) (last t : ℕ) → Saved F d d' (working F xs last) t → {draft : Option Snapshot} → Drafted F d xs last draft
      → {pages : List Snapshot} {m k b : ℕ} → Since d pages m k b → Since d' (saved draft pages) m k b
  since-saved {d} {d'} xs last t s {draft} g {pages} {m} {k} {b} r =
      subst (λ (o : Option Snapshot). Since d' (saved o pages) m k b) (sym g.shown)
      (record { followed = suc r.followed; counted = omega (arith, r.counted); behind = behind-saved xs last t s g.newest r.followed b r.behind })

  pub since-kept : {s s' : State F} {f : Fed} (h : History) → Step F s f s' → Inv F s h → {m k b : ℕ} → Since s.disc h.pages m k b → Since s'.disc (feed h f).pages m k b
  unfolding feed
  since-kept {s} h (Step.quiet same) i {m} {k} {b} r = subst (λ (g : History). Since s.disc g.pages m k b) (sym (same h)) r
  since-kept h (Step.begun second none-there) i r = r
  since-kept h (Step.mounted second t there) i r = r
  since-kept h (Step.looked k second w looks) i r = r
  since-kept h (Step.wrote xs last None t block p inside used reads) i r = since-plain p r
  since-kept h (Step.wrote xs last (Some n) t block p inside used reads) i r = since-plain p r
  since-kept h (Step.released xs last n second) i r = r
  since-kept h (Step.committed xs last t second s) i r = since-saved xs last t s i.draft r
  since-kept {s} {s'} h (Step.lost f clears p) i {m} {k} {b} r = subst (λ (g : History). Since s'.disc g.pages m k b) (sym (clears h)) (since-plain p r)
  since-kept h (Step.lost-saved xs last t s) i r = since-saved xs last t s i.draft r
