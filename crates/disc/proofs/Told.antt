-- Tables known by laws, whatever form they have: what a table tells, what is none, and what keeps them.
--     data-kind, recognised-at, entries-named, few-at, named-data  what a table tells
--     table-of, map_of_lem, previous-of, time-of, names_of, other-kind what stands at a block, or that it is none
--     table_same, map_same, previous-same, time-same, names_same   discs that read the same at a block and below have the same table there, or none
--     told                                                         a table whose sectors read the same is there and holds the same, whatever else changed
-- Assumes nothing.
use Prim.Native.Nat.{ℕ, ◌≤◌, ◌<◌}
use native.Mathlib.Omega.{arith}
use mathlib.Core.Path.{◌≡◌, refl, sym, ap, ap₂, ◌∙◌, fun_ext, subst}
use mathlib.Core.Bool.{Bool, true, false, ◌&&◌, false≢true}
use mathlib.Core.List.{List, [], ◌∷◌}
use Rattle.std.specs.Prelude.{Some}
use lib.Dec.{eqb, ltb, leb}
use lib.ListN.{length}
use borrow.Author.Tests.{eqb-true, eqb-false, eq-eqb, ne_eqb, ltb-true}
use Rattle.le.specs.Bytes.{every}
use Rattle.le.proofs.Rows.{and_left, and_right}
use Rattle.extent.specs.declared.Extent.{Extent}
use Rattle.extent.specs.Extents.{locations}
use Rattle.vat.specs.Table.{sector_length, limit, unused_or_below, Lower, own_of, modified_of, is_there, lies, full_before, laid, table_of, entries_of, previous_of, is_table}
use Rattle.vat.proofs.Theorems.{Recognised, recognised, tells, Agree, agree-table}
use Rattle.disc.specs.Disc.{Disc, kind_at, sector_at, readable, content}
use Rattle.disc.specs.Tables.{below, table_at, bytes_at, map_at, previous_at, time_at, named_if, named_by}

-- ---- data

-- data reads its bytes
pub reads-data : (d : Disc) (b : ℕ) → kind_at d b ≡ 1 → content d b ≡ Some (sector_at d b)
unfolding content
reads-data d b k = ap (λ (t : Bool). readable t (sector_at d b)) (eq-eqb (kind_at d b) 1 k)

-- what is read is data, and stands there
pub data-there : (d : Disc) (b : ℕ) (s : List ℕ) → content d b ≡ Some s → (kind_at d b ≡ 1) × (sector_at d b ≡ s)
unfolding content
data-there d b s e = go (eqb (kind_at d b) 1) refl e
  where
    go : (t : Bool) → eqb (kind_at d b) 1 ≡ t → readable t (sector_at d b) ≡ Some s → (kind_at d b ≡ 1) × (sector_at d b ≡ s)
    go true z e = (eqb-true (kind_at d b) 1 z, cc)
    go false z e = absurd (let clash : ◌≡◌ {A = ℕ} 0 1 = cc in omega arith)

-- ---- what a table tells

module _ (d : Disc) (b : ℕ) (e : table_at d b ≡ true) where
  pub data-kind : kind_at d b ≡ 1
  unfolding table_at
  data-kind = eqb-true (kind_at d b) 1 (and_left (eqb (kind_at d b) 1) (is_table (below d b) (sector_at d b) b) e)

  is-table : is_table (below d b) (sector_at d b) b ≡ true
  unfolding table_at
  is-table = and_right (eqb (kind_at d b) 1) (is_table (below d b) (sector_at d b) b) e

  pub recognised-at : Recognised (below d b) (sector_at d b) b
  recognised-at = recognised (below d b) (sector_at d b) b is-table

  pub entries-named : every (unused_or_below b) (map_at d b) ≡ true
  unfolding map_at bytes_at
  entries-named = recognised-at.entries

  pub few-at : length (map_at d b) ≤ limit
  unfolding map_at bytes_at
  few-at = let t = tells (below d b) (sector_at d b) b is-table in omega (arith, t.counted, t.few)

-- its own sectors are data of lower blocks
abbrev pub NamedData : Disc → ℕ → List ℕ → Type 0
NamedData d b [] = Unit
NamedData d b (c ∷ cs) = (c < b) × (kind_at d c ≡ 1) × NamedData d b cs

there-below : (d : Disc) (b c : ℕ) → is_there (below d b c) ≡ true → (c < b) × (kind_at d c ≡ 1)
there-below d b c e = go (ltb c b) (eqb (kind_at d c) 1) refl refl e
  where
    go : (t u : Bool) → ltb c b ≡ t → eqb (kind_at d c) 1 ≡ u → is_there (readable (t && u) (sector_at d c)) ≡ true → (c < b) × (kind_at d c ≡ 1)
    go true true h k e = (ltb-true c b h, eqb-true (kind_at d c) 1 k)
    go true false h k e = absurd (false≢true e)
    go false u h k e = absurd (false≢true e)

laid-data : (d : Disc) (b : ℕ) (es : List Extent) → laid (below d b) es ≡ true → NamedData d b (locations es)
unfolding laid lies locations
laid-data d b [] t = tt
laid-data d b (e ∷ es) t =
    let there : Bool = is_there (below d b e.location) in
    let here : Bool = ltb 0 e.length && (leb e.length sector_length && there) in
    let more : Bool = full_before e es && laid (below d b) es in
    let first : there ≡ true =
    and_right (leb e.length sector_length) there (and_right (ltb 0 e.length) (leb e.length sector_length && there) (and_left here more t)) in
    let low = there-below d b e.location first in
    (low.0, low.1, laid-data d b es (and_right (full_before e es) (laid (below d b) es) (and_right here more t)))

pub named-data : (d : Disc) (b : ℕ) → NamedData d b (named_by d b)
unfolding named_by
named-data d b = go (table_at d b) refl
  where
    go : (t : Bool) → table_at d b ≡ t → NamedData d b (named_if t (locations (own_of (sector_at d b))))
    go true e = laid-data d b (own_of (sector_at d b)) (recognised-at d b e).on-data
    go false e = tt

-- ---- what stands at a block

-- the map is read off the table's bytes
pub map_read : (d : Disc) (b : ℕ) → map_at d b ≡ entries_of (bytes_at d b)
unfolding map_at
map_read d b = refl

-- a sector with a reader of what lies below it settles all of the table there
module _ (d : Disc) (b : ℕ) (lower : Lower) (s : List ℕ) (under : below d b ≡ lower) (here : sector_at d b ≡ s) where
  pub table-of : kind_at d b ≡ 1 → table_at d b ≡ is_table lower s b
  unfolding table_at
  table-of k = rw (eq-eqb (kind_at d b) 1 k, under, here)

  bytes_of : bytes_at d b ≡ table_of lower s
  unfolding bytes_at
  bytes_of = ap₂ table_of under here

  pub map_of_lem : map_at d b ≡ entries_of (table_of lower s)
  unfolding map_at
  map_of_lem = ap entries_of bytes_of

  pub previous-of : previous_at d b ≡ previous_of (table_of lower s)
  unfolding previous_at
  previous-of = ap previous_of bytes_of

  pub time-of : time_at d b ≡ modified_of s
  unfolding time_at
  time-of = ap modified_of here

pub names_of : (d : Disc) (b : ℕ) → table_at d b ≡ true → named_by d b ≡ locations (own_of (sector_at d b))
unfolding named_by
names_of d b e = ap (λ (t : Bool). named_if t (locations (own_of (sector_at d b)))) e

pub names-none : (d : Disc) (b : ℕ) → table_at d b ≡ false → named_by d b ≡ []
unfolding named_by
names-none d b e = ap (λ (t : Bool). named_if t (locations (own_of (sector_at d b)))) e

pub other-kind : (d : Disc) (b : ℕ) → (kind_at d b ≡ 1 → ⊥) → table_at d b ≡ false
unfolding table_at
other-kind d b h = rw (ne_eqb (kind_at d b) 1 h)

-- ---- what keeps them

-- the discs read the same below block b, and so their readers are the same
abbrev pub SameBelow : Disc → Disc → ℕ → Type 0
SameBelow d e b = (c : ℕ) → c < b → content e c ≡ content d c

pub below-same : (d e : Disc) (b : ℕ) → SameBelow d e b → below e b ≡ below d b
unfolding content
below-same d e b same = fun_ext (λ c. go c (ltb c b) refl)
  where
    go : (c : ℕ) (t : Bool) → ltb c b ≡ t → readable (t && eqb (kind_at e c) 1) (sector_at e c) ≡ readable (t && eqb (kind_at d c) 1) (sector_at d c)
    go c false z = refl
    go c true z = same c (ltb-true c b z)

module _ (d e : Disc) (b : ℕ) (under : SameBelow d e b) where
  pub map_same : sector_at e b ≡ sector_at d b → map_at e b ≡ map_at d b
  map_same here = map_of_lem e b (below d b) (sector_at d b) (below-same d e b under) here ∙ sym (map_of_lem d b (below d b) (sector_at d b) refl refl)

  pub previous-same : sector_at e b ≡ sector_at d b → previous_at e b ≡ previous_at d b
  previous-same here = previous-of e b (below d b) (sector_at d b) (below-same d e b under) here ∙ sym (previous-of d b (below d b) (sector_at d b) refl refl)

  pub time-same : sector_at e b ≡ sector_at d b → time_at e b ≡ time_at d b
  time-same here = time-of e b (below d b) (sector_at d b) (below-same d e b under) here ∙ sym (time-of d b (below d b) (sector_at d b) refl refl)

  -- what is read at the block settles with what lies below whether a table stands there
  pub table_same : content e b ≡ content d b → table_at e b ≡ table_at d b
  table_same here = go (eqb (kind_at d b) 1) refl
    where
      go : (t : Bool) → eqb (kind_at d b) 1 ≡ t → table_at e b ≡ table_at d b
      go true z =
          let kind : kind_at d b ≡ 1 = eqb-true (kind_at d b) 1 z in
          let there : (kind_at e b ≡ 1) × (sector_at e b ≡ sector_at d b) = data-there e b (sector_at d b) (here ∙ reads-data d b kind) in
          table-of e b (below d b) (sector_at d b) (below-same d e b under) there.1 there.0 ∙ sym (table-of d b (below d b) (sector_at d b) refl refl kind)
      go false z =
          let other : kind_at d b ≡ 1 → ⊥ = eqb-false (kind_at d b) 1 z in
          other-kind e b (λ k. other (data-there d b (sector_at e b) (sym here ∙ reads-data e b k)).0) ∙ sym (other-kind d b other)

  pub names_same : content e b ≡ content d b → named_by e b ≡ named_by d b
  names_same here = go (table_at d b) refl
    where
      go : (t : Bool) → table_at d b ≡ t → named_by e b ≡ named_by d b
      go true z =
          let there : (kind_at e b ≡ 1) × (sector_at e b ≡ sector_at d b) = data-there e b (sector_at d b) (here ∙ reads-data d b (data-kind d b z)) in
          names_of e b (table_same here ∙ z) ∙ ap (λ (s : List ℕ). locations (own_of s)) there.1 ∙ sym (names_of d b z)
      go false z = names-none e b (table_same here ∙ z) ∙ sym (names-none d b z)

-- ---- a table that is read again

-- the discs read the same at these blocks
abbrev pub SameAt : Disc → Disc → List ℕ → Type 0
SameAt d e [] = Unit
SameAt d e (c ∷ cs) = (content e c ≡ content d c) × SameAt d e cs

pub same-everywhere : (d e : Disc) → ((c : ℕ) → content e c ≡ content d c) → (cs : List ℕ) → SameAt d e cs
same-everywhere d e all [] = tt
same-everywhere d e all (c ∷ cs) = (all c, same-everywhere d e all cs)

below_at : (d e : Disc) (b c : ℕ) → content e c ≡ content d c → below e b c ≡ below d b c
unfolding content
below_at d e b c here = go (ltb c b)
  where
    go : (t : Bool) → readable (t && eqb (kind_at e c) 1) (sector_at e c) ≡ readable (t && eqb (kind_at d c) 1) (sector_at d c)
    go true = here
    go false = refl

agree_at : (d e : Disc) (b : ℕ) (cs : List ℕ) → SameAt d e cs → Agree (below d b) (below e b) cs
agree_at d e b [] a = tt
agree_at d e b (c ∷ cs) a = (below_at d e b c a.0, agree_at d e b cs a.1)

-- the same table, by all that it holds
pub record Same (d e : Disc) (b : ℕ) : Type 0 where
  pub a-table : table_at e b ≡ true
  pub its_map : map_at e b ≡ map_at d b
  pub its-previous : previous_at e b ≡ previous_at d b
  pub its-time : time_at e b ≡ time_at d b
  pub its_own : named_by e b ≡ named_by d b

-- what its sectors read tells it, whatever else changed: its ICB, and those that it names
pub told : (d e : Disc) (b : ℕ) → content e b ≡ content d b → SameAt d e (named_by d b) → table_at d b ≡ true → Same d e b
told d e b here own t =
    let s : List ℕ = sector_at d b in
    let there : (kind_at e b ≡ 1) × (sector_at e b ≡ s) = data-there e b s (here ∙ reads-data d b (data-kind d b t)) in
    let named : named_by d b ≡ locations (own_of s) = names_of d b t in
    let agreed = agree-table (below d b) (below e b) s b (agree_at d e b (locations (own_of s)) (subst (SameAt d e) named own)) in
    let again : table_at e b ≡ true = table-of e b (below e b) s refl there.1 there.0 ∙ agreed.0 ∙ is-table d b t in
    record {
      a-table = again;
      its_map = map_of_lem e b (below e b) s refl there.1 ∙ ap entries_of agreed.1 ∙ sym (map_of_lem d b (below d b) s refl refl);
      its-previous = previous-of e b (below e b) s refl there.1 ∙ ap previous_of agreed.1 ∙ sym (previous-of d b (below d b) s refl refl);
      its-time = time-of e b (below e b) s refl there.1 ∙ sym (time-of d b (below d b) s refl refl);
      its_own = names_of e b again ∙ ap (λ (x : List ℕ). locations (own_of x)) there.1 ∙ sym named;
    }
