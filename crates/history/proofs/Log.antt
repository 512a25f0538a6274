-- A write-once log of tables, over any format: what a step of a call does to the disc and the working state, and that each step keeps the history
-- true. A format owes its operations, one law, and for each call the step that it takes.
--     kept          every step keeps the invariant, whose first part is that the newest table shows the newest page
--     newest-saved  a table recorded last is the newest
-- Assumes nothing.
use Prim.Native.Nat.{ℕ, zero, suc, ◌+◌, ◌-◌, ◌≤◌, ◌<◌}
use native.Mathlib.Nat.{add-zero, add-suc, le_refl}
use native.Mathlib.Omega.{arith}
use mathlib.Core.Path.{◌≡◌, refl, sym, ap, ap₂, ◌∙◌, subst}
use mathlib.Core.Bool.{Bool, true, false}
use mathlib.Core.List.{List, [], ◌∷◌, ◌++◌, map}
use Rattle.std.specs.Prelude.{Option, None, Some}
use mathlib.Core.Logic.{◌⊎◌, inl, inr}
use lib.Dec.{eqb, ltb}
use lib.ListN.{length, set}
use borrow.Author.Tests.{eq-eqb, ne_eqb, ltb-true, ltb-false}
use Rattle.vat.specs.Table.{unused}
use Rattle.vat.proofs.Theorems.{Named}
use Rattle.volume.proofs.State.{grown_map}
use Rattle.disc.specs.Tables.{found, newest_below}
use Rattle.history.specs.History.{Entry, unused_entry, shows, Snapshot, History, Told, Fed, answered, cut_commit, placed, on_draft, newest_page, saved, feed}
use Rattle.history.specs.Events.{shown_if}

-- ---- a format

pub record Format : Type 1 where
  pub Disc : Type 0
  pub recorded : Disc → ℕ
  pub table : Disc → ℕ → Bool
  pub map_at : Disc → ℕ → List ℕ
  pub previous_at : Disc → ℕ → ℕ
  pub time_at : Disc → ℕ → List ℕ
  pub content : Disc → ℕ → Option (List ℕ)

-- block numbers that may be named while r sectors are recorded
abbrev pub AllBelow : ℕ → List ℕ → Type 0
AllBelow r [] = Unit
AllBelow r (x ∷ xs) = Named r x × AllBelow r xs

-- the one law of the format: a table names lower blocks alone
abbrev pub NamesBelow : Format → Type 0
NamesBelow F = (d : F.Disc) (b : ℕ) → F.table d b ≡ true → AllBelow b (F.map_at d b)

below_more : (r r' : ℕ) (x : ℕ) → r ≤ r' → Named r x → Named r' x
below_more r r' x h (inl l) = inl (omega arith)
below_more r r' x h (inr e) = inr e

pub all-below-more : (r r' : ℕ) (xs : List ℕ) → r ≤ r' → AllBelow r xs → AllBelow r' xs
all-below-more r r' [] h a = tt
all-below-more r r' (x ∷ xs) h a = (below_more r r' x h a.0, all-below-more r r' xs h a.1)

-- the map that a write at block b leaves: one without a number leaves it as it is
abbrev pub written_map : Option ℕ → List ℕ → ℕ → List ℕ
written_map None xs b = xs
written_map (Some n) xs b = grown_map (eqb n (length xs)) xs n b

-- the working state as the history sees it
pub record View : Type 0 where
  pub map : List ℕ
  pub last : ℕ
  pub looking : Bool

abbrev pub or_unused : Option ℕ → ℕ
or_unused None = unused
or_unused (Some b) = b

is_none : {A : Type 0} → Option A → ℕ
is_none None = 1
is_none (Some b) = 0

pub none-some : {A : Type 0} (b : A) → ◌≡◌ {A = Option A} None (Some b) → ⊥
unfolding is_none
none-some b e = let z : ◌≡◌ {A = ℕ} 1 0 = ap is_none e in omega arith

pub some_same : {A : Type 0} (a b : A) → Some a ≡ Some b → a ≡ b
some_same a b e = cc

lt-or-ge : (a b : ℕ) → (a < b) ⊎ (b ≤ a)
lt-or-ge a b = go (ltb a b) refl
  where
    go : (t : Bool) → ltb a b ≡ t → (a < b) ⊎ (b ≤ a)
    go true e = inl (ltb-true a b e)
    go false e = inr (ltb-false a b e)

module _ (F : Format) where
  abbrev pub newest_of : F.Disc → Option ℕ
  newest_of d = newest_below (F.table d) (F.recorded d)

  abbrev pub shown_of : F.Disc → ℕ → Entry
  shown_of d x = shown_if (eqb x unused) x (F.content d x)

  abbrev pub page_from : F.Disc → List ℕ → Snapshot
  page_from d xs = mathlib.Core.List.map (shown_of d) xs

  pub record Extends (d d' : F.Disc) : Type 0 where
    pub more : F.recorded d ≤ F.recorded d'
    pub tables : (b : ℕ) → b < F.recorded d → F.table d' b ≡ F.table d b
    pub maps : (b : ℕ) → b < F.recorded d → F.map_at d' b ≡ F.map_at d b
    pub previous : (b : ℕ) → b < F.recorded d → F.previous_at d' b ≡ F.previous_at d b
    pub times : (b : ℕ) → b < F.recorded d → F.time_at d' b ≡ F.time_at d b
    pub contents : (b : ℕ) → b < F.recorded d → F.content d' b ≡ F.content d b

  -- recorded on, with no table among what was added
  pub record Plain (d d' : F.Disc) : Type 0 where
    pub extends : Extends d d'
    pub no_table : (b : ℕ) → F.recorded d ≤ b → b < F.recorded d' → F.table d' b ≡ false

  -- recorded on, with one table, the last sector
  pub record Saved (d d' : F.Disc) (v : View) (b : ℕ) : Type 0 where
    pub extends : Extends d d'
    pub behind : F.recorded d ≤ b
    pub small : b < unused
    pub last-sector : F.recorded d' ≡ suc b
    pub a-table : F.table d' b ≡ true
    pub its_map : F.map_at d' b ≡ v.map
    pub its-previous : F.previous_at d' b ≡ v.last

  pub extends-same : (d : F.Disc) → Extends d d
  extends-same d = record { more = le_refl (F.recorded d); tables = λ b h. refl; maps = λ b h. refl; previous = λ b h. refl; times = λ b h. refl; contents = λ b h. refl }

  pub extends-on : {d e f : F.Disc} → Extends d e → Extends e f → Extends d f
  extends-on {d} {e} {f} p q =
      let up : (b : ℕ) → b < F.recorded d → b < F.recorded e = λ b h. omega (arith, p.more) in
      record {
        more = omega (arith, p.more, q.more);
        tables = λ b h. q.tables b (up b h) ∙ p.tables b h;
        maps = λ b h. q.maps b (up b h) ∙ p.maps b h;
        previous = λ b h. q.previous b (up b h) ∙ p.previous b h;
        times = λ b h. q.times b (up b h) ∙ p.times b h;
        contents = λ b h. q.contents b (up b h) ∙ p.contents b h;
      }

  pub plain-same : (d : F.Disc) → Plain d d
  plain-same d = record { extends = extends-same d; no_table = λ b low high. absurd (omega arith) }

  pub plain-on : {d e f : F.Disc} → Plain d e → Plain e f → Plain d f
  plain-on {d} {e} {f} p q =
      record {
        extends = extends-on p.extends q.extends;
        no_table = λ b low high. between b low high (lt-or-ge b (F.recorded e));
      }
    where
      between : (b : ℕ) → F.recorded d ≤ b → b < F.recorded f → (b < F.recorded e) ⊎ (F.recorded e ≤ b) → F.table f b ≡ false
      between b low high (inl h) = q.extends.tables b h ∙ p.no_table b low h
      between b low high (inr h) = q.no_table b h high

  -- ---- the steps

  pub record State : Type 0 where
    pub disc : F.Disc
    pub held : Option View

  abbrev pub at : F.Disc → Option View → State
  at d v = record { disc = d; held = v }

  -- what a write, a release, a commit start from
  abbrev pub working : List ℕ → ℕ → View
  working xs last = record { map = xs; last = last; looking = false }

  pub data Step : State → Fed → State → Type 0 where
    -- a refused call, a read, a packet closed
    quiet : {s : State} {f : Fed} → ((h : History) → feed h f ≡ h) → Step s f s
    begun : {d : F.Disc} {v : Option View} (second : ℕ) → newest_of d ≡ None → Step (at d v) (answered Told.begin 0 second) (at d (Some (working [] unused)))
    mounted : {d : F.Disc} {v : Option View} (second b : ℕ) → newest_of d ≡ Some b
        → Step (at d v) (answered Told.mount 0 second) (at d (Some (working (F.map_at d b) b)))
    looked : {d : F.Disc} {v : Option View} (k second : ℕ) (w : View) → w.looking ≡ true → Step (at d v) (answered (Told.look_back k) 0 second) (at d (Some w))
    wrote : {d d' : F.Disc} (xs : List ℕ) (last : ℕ) (n : Option ℕ) (b : ℕ) (block : List ℕ) → Plain d d' → b < F.recorded d'
        → (b ≡ unused → ⊥) → F.content d' b ≡ Some block
        → Step (at d (Some (working xs last))) (answered (Told.write n block) 0 b) (at d' (Some (working (written_map n xs b) last)))
    released : {d : F.Disc} (xs : List ℕ) (last n second : ℕ) → Step (at d (Some (working xs last))) (answered (Told.release n) 0 second) (at d (Some (working (set xs n unused) last)))
    committed : {d d' : F.Disc} (xs : List ℕ) (last b second : ℕ) → Saved d d' (working xs last) b
        → Step (at d (Some (working xs last))) (answered Told.commit 0 second) (at d' (Some (working xs b)))
    lost : {d d' : F.Disc} {v : Option View} (f : Fed) → ((h : History) → feed h f ≡ record { pages = h.pages; draft = None }) → Plain d d' → Step (at d v) f (at d' None)
    lost-saved : {d d' : F.Disc} (xs : List ℕ) (last b : ℕ) → Saved d d' (working xs last) b → Step (at d (Some (working xs last))) (cut_commit true) (at d' None)

  -- ---- the invariant

  pub record Link (d : F.Disc) (b : ℕ) (p : Snapshot) : Type 0 where
    pub is-table : F.table d b ≡ true
    pub inside : b < F.recorded d
    pub page : p ≡ page_from d (F.map_at d b)

  abbrev pub Chain : F.Disc → ℕ → Snapshot → List Snapshot → Type 0
  Chain d b p [] = Link d b p
  Chain d b p (q ∷ qs) = Link d b p × (F.previous_at d b ≡ unused → ⊥) × Chain d (F.previous_at d b) q qs

  abbrev pub Pages : F.Disc → List Snapshot → Type 0
  Pages d [] = newest_of d ≡ None
  Pages d (p ∷ ps) = (b : ℕ) × (newest_of d ≡ Some b) × Chain d b p ps

  -- the working map shows the draft, and its last table is the newest on the disc
  pub record Drafted (d : F.Disc) (xs : List ℕ) (last : ℕ) (draft : Option Snapshot) : Type 0 where
    pub shown : draft ≡ Some (page_from d xs)
    pub named : AllBelow (F.recorded d) xs
    pub newest : last ≡ or_unused (newest_of d)

  abbrev pub HeldIf : Bool → F.Disc → List ℕ → ℕ → Option Snapshot → Type 0
  HeldIf true d xs last draft = draft ≡ None
  HeldIf false d xs last draft = Drafted d xs last draft

  abbrev pub Held : F.Disc → Option View → Option Snapshot → Type 0
  Held d None draft = draft ≡ None
  Held d (Some v) draft = HeldIf v.looking d v.map v.last draft

  pub record Inv (s : State) (h : History) : Type 0 where
    pub pages : Pages s.disc h.pages
    pub draft : Held s.disc s.held h.draft

  -- ---- laws of steps

  pub length-page : (d : F.Disc) (xs : List ℕ) → length (page_from d xs) ≡ length xs
  length-page d [] = refl
  length-page d (x ∷ xs) = ap suc (length-page d xs)

  page-append : (d : F.Disc) (xs ys : List ℕ) → page_from d (xs ++ ys) ≡ page_from d xs ++ page_from d ys
  page-append d [] ys = refl
  page-append d (x ∷ xs) ys = ap {B = Snapshot} (λ l. shown_of d x ∷ l) (page-append d xs ys)

  page-set : (d : F.Disc) (xs : List ℕ) (n x : ℕ) → page_from d (set xs n x) ≡ set (page_from d xs) n (shown_of d x)
  page-set d [] n x = refl
  page-set d (y ∷ ys) zero x = refl
  page-set d (y ∷ ys) (suc n) x = ap {B = Snapshot} (λ l. shown_of d y ∷ l) (page-set d ys n x)

  module _ {d d' : F.Disc} (e : Extends d d') where
    shown-kept : (x : ℕ) → Named (F.recorded d) x → shown_of d' x ≡ shown_of d x
    shown-kept x (inr u) = rw (eq-eqb x unused u)
    shown-kept x (inl l) = ap (λ (c : Option (List ℕ)). shown_if (eqb x unused) x c) (e.contents x l)

    page-kept : (xs : List ℕ) → AllBelow (F.recorded d) xs → page_from d' xs ≡ page_from d xs
    page-kept [] a = refl
    page-kept (x ∷ xs) a = ap₂ {C = Snapshot} (λ y ys. y ∷ ys) (shown-kept x a.0) (page-kept xs a.1)

    newest-below-kept : (n : ℕ) → n ≤ F.recorded d → newest_below (F.table d') n ≡ newest_below (F.table d) n
    unfolding newest_below
    newest-below-kept zero h = refl
    newest-below-kept (suc n) h = ap₂ (λ (t : Bool) (o : Option ℕ). found t n o) (e.tables n h) (newest-below-kept n (omega arith))

  newest-on : {d d' : F.Disc} → Plain d d' → (k : ℕ) → F.recorded d + k ≤ F.recorded d' → newest_below (F.table d') (F.recorded d + k) ≡ newest_of d
  unfolding newest_below
  newest-on {d} {d'} p zero h = rw (add-zero (F.recorded d)) (newest-below-kept p.extends (F.recorded d) (le_refl (F.recorded d)))
  newest-on {d} {d'} p (suc k) h =
      let b : ℕ = F.recorded d + k in
      rw (add-suc (F.recorded d) k, p.no_table b (omega arith) (omega arith)) (newest-on p k (omega arith))

  -- plain sectors leave the newest table
  pub newest-plain : {d d' : F.Disc} → Plain d d' → newest_of d' ≡ newest_of d
  newest-plain {d} {d'} p =
      let more : F.recorded d ≤ F.recorded d' = p.extends.more in
      let e : F.recorded d + (F.recorded d' - F.recorded d) ≡ F.recorded d' = omega arith in
      rw e at (newest-on p (F.recorded d' - F.recorded d) (omega arith))

  pub newest-saved : {d d' : F.Disc} (v : View) (b : ℕ) → Saved d d' v b → newest_of d' ≡ Some b
  unfolding newest_below
  newest-saved {d} {d'} v b s = rw (s.last-sector, s.a-table)

  pub head-link : {d : F.Disc} (b : ℕ) (p : Snapshot) (ps : List Snapshot) → Chain d b p ps → Link d b p
  head-link b p [] c = c
  head-link b p (q ∷ qs) c = c.0

  module _ (names-below : NamesBelow F) where
    link-kept : {d d' : F.Disc} → Extends d d' → (b : ℕ) (p : Snapshot) → Link d b p → Link d' b p
    link-kept {d} {d'} e b p l =
        let below : AllBelow (F.recorded d) (F.map_at d b) = all-below-more b (F.recorded d) (F.map_at d b) (omega (arith, l.inside)) (names-below d b l.is-table) in
        record {
          is-table = e.tables b l.inside ∙ l.is-table;
          inside = omega (arith, l.inside, e.more);
          page = l.page ∙ sym (page-kept e (F.map_at d b) below) ∙ ap (page_from d') (sym (e.maps b l.inside));
        }

    chain-kept : {d d' : F.Disc} → Extends d d' → (b : ℕ) (p : Snapshot) (ps : List Snapshot) → Chain d b p ps → Chain d' b p ps
    chain-kept e b p [] c = link-kept e b p c
    chain-kept {d} {d'} e b p (q ∷ qs) c =
        let same : F.previous_at d' b ≡ F.previous_at d b = e.previous b c.0.inside in
        (link-kept e b p c.0, (λ u. c.1 (sym same ∙ u)), subst (λ (x : ℕ). Chain d' x q qs) (sym same) (chain-kept e (F.previous_at d b) q qs c.2))

    pages-plain : {d d' : F.Disc} → Plain d d' → (ps : List Snapshot) → Pages d ps → Pages d' ps
    pages-plain p [] n = newest-plain p ∙ n
    pages-plain p (q ∷ qs) n = (n.0, newest-plain p ∙ n.1, chain-kept p.extends n.0 q qs n.2)

    -- plain sectors, then a table of the draft whose previous is the newest: the draft is a page
    pages-saved : {d d' : F.Disc} (xs : List ℕ) (last b : ℕ) → Saved d d' (working xs last) b → (ps : List Snapshot) → Pages d ps
        → AllBelow (F.recorded d) xs → last ≡ or_unused (newest_of d) → Pages d' (page_from d xs ∷ ps)
    pages-saved {d} {d'} xs last b s ps n below is-newest = (b, newest-saved (working xs last) b s, chained ps n)
      where
        link : Link d' b (page_from d xs)
        link =
            record {
              is-table = s.a-table;
              inside = omega (arith, s.last-sector);
              page = sym (page-kept s.extends xs below) ∙ ap (page_from d') (sym s.its_map);
            }

        chained : (ps : List Snapshot) → Pages d ps → Chain d' b (page_from d xs) ps
        chained [] n = link
        chained (q ∷ qs) n =
            let old : ℕ = n.0 in
            let named : F.previous_at d' b ≡ old = s.its-previous ∙ is-newest ∙ ap or_unused n.1 in
            let inside : old < F.recorded d = (head-link old q qs n.2).inside in
            (link, (λ u. let z : old ≡ unused = sym named ∙ u in omega (arith, s.small, s.behind)), subst (λ (x : ℕ). Chain d' x q qs) (sym named) (chain-kept s.extends old q qs n.2))

    all-below-append : (r : ℕ) (xs : List ℕ) (b : ℕ) → AllBelow r xs → Named r b → AllBelow r (xs ++ (b ∷ []))
    all-below-append r [] b a h = (h, tt)
    all-below-append r (x ∷ xs) b a h = (a.0, all-below-append r xs b a.1 h)

    all-below-set : (r : ℕ) (xs : List ℕ) (n b : ℕ) → AllBelow r xs → Named r b → AllBelow r (set xs n b)
    all-below-set r [] n b a h = tt
    all-below-set r (x ∷ xs) zero b a h = (h, a.1)
    all-below-set r (x ∷ xs) (suc n) b a h = (a.0, all-below-set r xs n b a.1 h)

    -- plain sectors leave the draft
    drafted-plain : {d d' : F.Disc} → Plain d d' → (xs : List ℕ) (last : ℕ) (draft : Option Snapshot) → Drafted d xs last draft → Drafted d' xs last draft
    drafted-plain {d} {d'} p xs last draft g =
        record {
          shown = g.shown ∙ ap Some (sym (page-kept p.extends xs g.named));
          named = all-below-more (F.recorded d) (F.recorded d') xs p.extends.more g.named;
          newest = g.newest ∙ ap or_unused (sym (newest-plain p));
        }

    -- entry n becomes block b, which reads the block lent
    page-written : (t : Bool) (d : F.Disc) (xs : List ℕ) (n b : ℕ) (block : List ℕ) → (b ≡ unused → ⊥) → F.content d b ≡ Some block
        → placed t (page_from d xs) n (shows b (Some block)) ≡ page_from d (grown_map t xs n b)
    page-written true d xs n b block u c =
        let entry : shown_of d b ≡ shows b (Some block) = rw (ne_eqb b unused u, c) in
        sym (page-append d xs (b ∷ []) ∙ ap (λ (y : Entry). page_from d xs ++ (y ∷ [])) entry)
    page-written false d xs n b block u c =
        let entry : shown_of d b ≡ shows b (Some block) = rw (ne_eqb b unused u, c) in
        sym (page-set d xs n b ∙ ap (set (page_from d xs) n) entry)

    grown-below : (t : Bool) (r : ℕ) (xs : List ℕ) (n b : ℕ) → AllBelow r xs → Named r b → AllBelow r (grown_map t xs n b)
    grown-below true r xs n b a h = all-below-append r xs b a h
    grown-below false r xs n b a h = all-below-set r xs n b a h

    -- a mounted table is the newest page's
    mounted-page : (d : F.Disc) (b : ℕ) → newest_of d ≡ Some b → (ps : List Snapshot) → Pages d ps → newest_page ps ≡ Some (page_from d (F.map_at d b))
    mounted-page d b e [] n = absurd (none-some b (sym n ∙ e))
    mounted-page d b e (p ∷ ps) n =
        let same : n.0 ≡ b = some_same n.0 b (sym n.1 ∙ e) in
        ap Some ((head-link n.0 p ps n.2).page ∙ ap (λ (x : ℕ). page_from d (F.map_at d x)) same)

    mounted-below : (d : F.Disc) (b : ℕ) → newest_of d ≡ Some b → (ps : List Snapshot) → Pages d ps → AllBelow (F.recorded d) (F.map_at d b)
    mounted-below d b e [] n = absurd (none-some b (sym n ∙ e))
    mounted-below d b e (p ∷ ps) n =
        let l : Link d n.0 p = head-link n.0 p ps n.2 in
        let same : n.0 ≡ b = some_same n.0 b (sym n.1 ∙ e) in
        subst (λ (x : ℕ). AllBelow (F.recorded d) (F.map_at d x)) same
        (all-below-more n.0 (F.recorded d) (F.map_at d n.0) (omega (arith, l.inside)) (names-below d n.0 l.is-table))

    pub kept : {s s' : State} {f : Fed} (h : History) → Step s f s' → Inv s h → Inv s' (feed h f)
    unfolding feed
    kept {s} h (quiet same) i = subst (λ (g : History). Inv s g) (sym (same h)) i
    kept h (begun {d} second none-there) i =
        record { pages = i.pages; draft = record { shown = refl; named = tt; newest = ap or_unused (sym none-there) } }
    kept h (mounted {d} second b there) i =
        record {
          pages = i.pages;
          draft =
              record {
                shown = mounted-page d b there h.pages i.pages;
                named = mounted-below d b there h.pages i.pages;
                newest = ap or_unused (sym there);
              };
        }
    kept h (looked {d} k second w looks) i = record { pages = i.pages; draft = rw looks refl }
    kept h (wrote xs last None b block p inside used reads) i =
        record { pages = pages-plain p h.pages i.pages; draft = drafted-plain p xs last h.draft i.draft }
    kept h (wrote {d} {d'} xs last (Some n) b block p inside used reads) i =
        let g : Drafted d' xs last h.draft = drafted-plain p xs last h.draft i.draft in
        let page : Snapshot = page_from d' xs in
        let entry : Entry = shows b (Some block) in
        record {
          pages = pages-plain p h.pages i.pages;
          draft =
              record {
                shown =
                    ap (on_draft (λ q. placed (eqb n (length q)) q n entry)) g.shown
                    ∙ ap Some (ap (λ (k : ℕ). placed (eqb n k) page n entry) (length-page d' xs) ∙ page-written (eqb n (length xs)) d' xs n b block used reads);
                named = grown-below (eqb n (length xs)) (F.recorded d') xs n b g.named (inl inside);
                newest = g.newest;
              };
        }
    kept h (released {d} xs last n second) i =
        let g : Drafted d xs last h.draft = i.draft in
        record {
          pages = i.pages;
          draft =
              record {
                shown = ap (on_draft (λ q. set q n unused_entry)) g.shown ∙ ap Some (sym (page-set d xs n unused));
                named = all-below-set (F.recorded d) xs n unused g.named (inr refl);
                newest = g.newest;
              };
        }
    kept h (committed {d} {d'} xs last b second s) i =
        let g : Drafted d xs last h.draft = i.draft in
        record {
          pages = subst (λ (o : Option Snapshot). Pages d' (saved o h.pages)) (sym g.shown) (pages-saved xs last b s h.pages i.pages g.named g.newest);
          draft =
              record {
                shown = g.shown ∙ ap Some (sym (page-kept s.extends xs g.named));
                named = all-below-more (F.recorded d) (F.recorded d') xs s.extends.more g.named;
                newest = ap or_unused (sym (newest-saved (working xs last) b s));
              };
        }
    kept h (lost {d} {d'} {v} f clears p) i =
        subst (λ (g : History). Inv (at d' None) g) (sym (clears h)) (record { pages = pages-plain p h.pages i.pages; draft = refl })
    kept h (lost-saved {d} {d'} xs last b s) i =
        let g : Drafted d xs last h.draft = i.draft in
        record {
          pages = subst (λ (o : Option Snapshot). Pages d' (saved o h.pages)) (sym g.shown) (pages-saved xs last b s h.pages i.pages g.named g.newest);
          draft = refl;
        }
