-- What a search or a walk finds is a table, on a sound disc a table lies within what is recorded, and none behind the one that a search finds. Then what
-- one sector, and one step, tells of them.
-- Assumes nothing.
use Prim.Native.Nat.{ℕ, zero, suc, ◌+◌, ◌-◌, ◌*◌, ◌≤◌, ◌<◌}
use native.Mathlib.Nat.{not-suc-le-zero, le_of_suc-le-suc, add-zero, zero-add, suc-add}
use native.Mathlib.Omega.{arith}
use mathlib.Core.Path.{◌≡◌, refl, sym, ap, ap₂, ◌∙◌}
use mathlib.Core.Bool.{Bool, true, false, ◌&&◌, not, and_assoc}
use mathlib.Core.List.{List, [], ◌∷◌}
use Rattle.std.specs.Prelude.{Option, None, Some}
use lib.Dec.{eqb, ltb, lit≤}
use lib.ListN.{length, get_or, take, drop, length-drop}
use lib.Seq.{length-take-le, drop-drop}
use borrow.Author.Tests.{not-true, eqb-true, eqb-false, eq-eqb, ne_eqb, ltb-true, ltb-false}
use Rattle.le.specs.Bytes.{every}
use Rattle.le.specs.Field.{read_le, words}
use Rattle.le.proofs.Bytes.{part-take}
use Rattle.le.proofs.Runs.{words-none, words_step}
use Rattle.timestamp.specs.Timestamp.{stamp_length}
use Rattle.tag.specs.Tag.{sealed}
use Rattle.vat.specs.Table.{sector_length, unused, unused_or_below, Lower, own_of, framed, modified_at, modified_of, laid, table_of, entries_of, enclosed, listed, is_table}
use Rattle.vat.proofs.Frame.{untagged-frame}
use Rattle.disc.specs.Tables.{Walk}
use Rattle.std.specs.Prelude.{Ok, Err}
use Rattle.disc.specs.declared.Stop.TheVariants.{Broken, Ended}
use Rattle.disc.specs.Disc.{Disc, recorded, kind_at, sector_at}
use Rattle.disc.specs.Tables.{below, table_at, time_at, found, newest_below, newest, stepped, walk}
use Rattle.le.proofs.Halves.{and-false}
use Rattle.le.proofs.Rows.{and_left, and_right}
use Rattle.disc.proofs.Told.{data-kind, other-kind}
use Rattle.disc.proofs.Recording.{Sized, Sound, blank-kind, kind-recorded}

pub table-recorded : (d : Disc) → Sound d → (b : ℕ) → table_at d b ≡ true → b < recorded d
table-recorded d ok b e = kind-recorded d ok b (λ z. let one : kind_at d b ≡ 1 = data-kind d b e in omega arith)

pub newest-table : (table : ℕ → Bool) (n b : ℕ) → newest_below table n ≡ Some b → table b ≡ true
unfolding newest_below
newest-table table zero b e = absurd (let z : ◌≡◌ {A = ℕ} 0 1 = cc in omega arith)
newest-table table (suc n) b e = go (table n) refl e (newest-table table n b)
  where
    go : (t : Bool) → table n ≡ t → found t n (newest_below table n) ≡ Some b → (newest_below table n ≡ Some b → table b ≡ true) → table b ≡ true
    go true h e ih = let same : n ≡ b = cc in ap table (sym same) ∙ h
    go false h e ih = ih e

pub newest-below : (table : ℕ → Bool) (n b : ℕ) → newest_below table n ≡ Some b → b < n
unfolding newest_below
newest-below table zero b e = absurd (let z : ◌≡◌ {A = ℕ} 0 1 = cc in omega arith)
newest-below table (suc n) b e = go (table n) e (newest-below table n b)
  where
    go : (t : Bool) → found t n (newest_below table n) ≡ Some b → (newest_below table n ≡ Some b → b < n) → b < suc n
    go true e ih = let same : n ≡ b = cc in omega arith
    go false e ih = let low : b < n = ih e in omega arith

-- where the tables end that a search looks for
abbrev pub end_of : Option ℕ → ℕ
end_of None = 0
end_of (Some b) = b + 1

pub newest-ends : (table : ℕ → Bool) (n b : ℕ) → end_of (newest_below table n) ≤ b → b < n → table b ≡ false
unfolding newest_below
newest-ends table zero b high low = absurd (not-suc-le-zero low)
newest-ends table (suc n) b high low = go (table n) refl high (newest-ends table n b) (eqb b n) refl
  where
    go : (t : Bool) → table n ≡ t → end_of (found t n (newest_below table n)) ≤ b → (end_of (newest_below table n) ≤ b → b < n → table b ≡ false) → (u : Bool) → eqb b n ≡ u
        → table b ≡ false
    go true h high ih u e = absurd (omega arith)
    go false h high ih true e = ap table (eqb-true b n e) ∙ h
    go false h high ih false e = let other : b ≡ n → ⊥ = eqb-false b n e in ih high (omega arith)

-- none stands behind what is recorded, nor behind the newest
pub none-recorded : (d : Disc) → Sound d → (b : ℕ) → recorded d ≤ b → table_at d b ≡ false
none-recorded d ok b h = other-kind d b (λ one. let blank : kind_at d b ≡ 0 = blank-kind d.kinds (recorded d) b ok.blank h in omega arith)

pub none-newer : (d : Disc) → Sound d → (b : ℕ) → end_of (newest d) ≤ b → table_at d b ≡ false
none-newer d ok b h = go (ltb b (recorded d)) refl
  where
    go : (t : Bool) → ltb b (recorded d) ≡ t → table_at d b ≡ false
    go true e = newest-ends (table_at d) (recorded d) b h (ltb-true b (recorded d) e)
    go false e = none-recorded d ok b (ltb-false b (recorded d) e)

pub walk-table : (table : ℕ → Bool) (previous : ℕ → ℕ) (k b t : ℕ) → walk table previous k b ≡ Ok t → table b ≡ true → table t ≡ true
unfolding walk
walk-table table previous zero b t e h = let same : b ≡ t = cc in ap table (sym same) ∙ h
walk-table table previous (suc k) b t e h = go (eqb (previous b) unused) (table (previous b)) refl e (walk-table table previous k (previous b) t)
  where
    go : (u p : Bool) → table (previous b) ≡ p → stepped u p (walk table previous k (previous b)) ≡ Ok t
        → (walk table previous k (previous b) ≡ Ok t → table (previous b) ≡ true → table t ≡ true) → table t ≡ true
    go true p h e ih = absurd (let z : ◌≡◌ {A = ℕ} 0 1 = cc in omega arith)
    go false false h e ih = absurd (let z : ◌≡◌ {A = ℕ} 0 1 = cc in omega arith)
    go false true h e ih = ih e h

-- ---- the sector at a block

pub part-sector : (d : Disc) (b : ℕ) → take ((sector_length * b + sector_length) - sector_length * b) (drop (sector_length * b) d.image) ≡ sector_at d b
unfolding sector_at
part-sector d b =
    let long : (sector_length * b + sector_length) - sector_length * b ≡ sector_length = omega arith in
    ap (λ (k : ℕ). take k (drop (sector_length * b) d.image)) long

-- the modification time of a sector, as a part of the image
pub part-time : (d : Disc) (b : ℕ)
    → take ((sector_length * b + modified_at + stamp_length) - (sector_length * b + modified_at)) (drop (sector_length * b + modified_at) d.image) ≡ time_at d b
unfolding time_at sector_at modified_of
part-time d b =
    let at : ℕ = sector_length * b in
    let long : (at + modified_at + stamp_length) - (at + modified_at) ≡ stamp_length = omega arith in
    ap₂ (λ (k : ℕ) (l : List ℕ). take k l) long (sym (drop-drop modified_at at d.image))
    ∙ sym (part-take sector_length modified_at stamp_length (drop at d.image) (lit≤ tt))

-- its bytes lie within the image
pub sector-end : (d : Disc) → Sized d → (b : ℕ) → b < length d.kinds → sector_length * b + sector_length ≤ length d.image
sector-end d ok b h = omega (arith, ok.whole)

pub sector-there : (d : Disc) (b : ℕ) → sector_length * b + sector_length ≤ length d.image → length (sector_at d b) ≡ sector_length
unfolding sector_at
sector-there d b h = length-take-le sector_length (drop (sector_length * b) d.image) (rw (length-drop (sector_length * b) d.image) (omega arith))

pub sector-long : (d : Disc) → Sized d → (b : ℕ) → b < length d.kinds → length (sector_at d b) ≡ sector_length
sector-long d ok b h = sector-there d b (sector-end d ok b h)

pub length-time : (d : Disc) (b : ℕ) → sector_length * b + sector_length ≤ length d.image → length (time_at d b) ≡ stamp_length
unfolding time_at modified_of
length-time d b h =
    let sector : List ℕ = sector_at d b in
    length-take-le stamp_length (drop modified_at sector) (rw (length-drop modified_at sector, sector-there d b h) (lit≤ tt))

-- ---- whether it is a table sector

beyond-kind : (ks : List ℕ) (b : ℕ) → length ks ≤ b → get_or ks b 0 ≡ 0
beyond-kind [] b h = refl
beyond-kind (k ∷ ks) zero h = absurd (not-suc-le-zero h)
beyond-kind (k ∷ ks) (suc b) h = beyond-kind ks b (le_of_suc-le-suc h)

pub table-beyond : (d : Disc) (b : ℕ) → length d.kinds ≤ b → table_at d b ≡ false
table-beyond d b h = other-kind d b (λ one. let blank : kind_at d b ≡ 0 = beyond-kind d.kinds b h in omega arith)

pub table-within : (d : Disc) (b : ℕ) → table_at d b ≡ true → b < length d.kinds
table-within d b e = go (ltb b (length d.kinds)) refl
  where
    go : (t : Bool) → ltb b (length d.kinds) ≡ t → b < length d.kinds
    go true h = ltb-true b (length d.kinds) h
    go false h = absurd (mathlib.Core.Bool.true≢false (sym e ∙ table-beyond d b (ltb-false b (length d.kinds) h)))

module _ (lower : Lower) (s : List ℕ) (b : ℕ) where
  abbrev T : List ℕ
  T = table_of lower s

  abbrev rest : Bool
  rest = laid lower (own_of s) && (listed T b && sealed s)

  pub not-framed : framed s b ≡ false → is_table lower s b ≡ false
  unfolding is_table
  not-framed e = and-false (eqb (length s) sector_length) (framed s b && rest) (ap (λ (t : Bool). t && rest) e)

  pub untagged : eqb (read_le 2 s 0) 261 ≡ false → is_table lower s b ≡ false
  untagged e = not-framed (untagged-frame s b e)

  rest-fails : rest ≡ false → is_table lower s b ≡ false
  unfolding is_table
  rest-fails e = and-false (eqb (length s) sector_length) (framed s b && rest) (and-false (framed s b) rest e)

  pub not-laid : laid lower (own_of s) ≡ false → is_table lower s b ≡ false
  not-laid e = rest-fails (ap (λ (t : Bool). t && (listed T b && sealed s)) e)

  not_listed : listed T b ≡ false → is_table lower s b ≡ false
  not_listed e = rest-fails (and-false (laid lower (own_of s)) (listed T b && sealed s) (ap (λ (t : Bool). t && sealed s) e))

  pub not-enclosed : enclosed T b ≡ false → is_table lower s b ≡ false
  unfolding listed
  not-enclosed e = not_listed (ap (λ (t : Bool). t && every (unused_or_below b) (entries_of T)) e)

  pub not-held : every (unused_or_below b) (entries_of T) ≡ false → is_table lower s b ≡ false
  unfolding listed
  not-held e = not_listed (and-false (enclosed T b) (every (unused_or_below b) (entries_of T)) e)

  pub all-but-sums : length s ≡ sector_length → framed s b ≡ true → laid lower (own_of s) ≡ true → enclosed T b ≡ true → every (unused_or_below b) (entries_of T) ≡ true → is_table lower s b ≡ sealed s
  unfolding is_table listed
  all-but-sums l f o n e = rw (eq-eqb (length s) sector_length l, f, o, n, e)

-- a sector that is not tagged is no table, whatever its kind
pub untagged-block : (d : Disc) (b : ℕ) → eqb (read_le 2 (sector_at d b) 0) 261 ≡ false → table_at d b ≡ false
unfolding table_at
untagged-block d b e =
    let lower : Lower = below d b in
    and-false (eqb (kind_at d b) 1) (is_table lower (sector_at d b) b) (untagged lower (sector_at d b) b e)

-- ---- its entries, group by group

-- k of n entries, and the others
group-taken : (f : ℕ → Bool) (k m : ℕ) (s : List ℕ) (at : ℕ) → (every f (words k s at) && every f (words m s (at + 4 * k))) ≡ every f (words (k + m) s at)
unfolding every
group-taken f zero m s at =
    ap₂ (λ (xs : List ℕ) (p : ℕ). every f xs && every f (words m s p)) (words-none s at) (add-zero at) ∙ ap (λ (n : ℕ). every f (words n s at)) (sym (zero-add m))
group-taken f (suc k) m s at =
    let further : at + 4 * suc k ≡ at + 4 + 4 * k = omega arith in
    let here : Bool = f (read_le 4 s at) in
    ap₂ (λ (xs : List ℕ) (p : ℕ). every f xs && every f (words m s p)) (words_step k s at) further
    ∙ and_assoc here (every f (words k s (at + 4))) (every f (words m s (at + 4 + 4 * k)))
    ∙ ap (λ (t : Bool). here && t) (group-taken f k m s (at + 4))
    ∙ ap (every f) (sym (words_step (k + m) s at))
    ∙ ap (λ (n : ℕ). every f (words n s at)) (sym (suc-add k m))

module _ (f : ℕ → Bool) (k left : ℕ) (s : List ℕ) (at : ℕ) (h : k ≤ left) where
  pub groups-held : (every f (words k s at) && every f (words (left - k) s (at + 4 * k))) ≡ every f (words left s at)
  groups-held = let all : k + (left - k) ≡ left = omega arith in group-taken f k (left - k) s at ∙ ap (λ (n : ℕ). every f (words n s at)) all

  pub group-fails : every f (words k s at) ≡ false → every f (words left s at) ≡ false
  group-fails e = sym groups-held ∙ ap (λ (t : Bool). t && every f (words (left - k) s (at + 4 * k))) e

  pub group-passes : every f (words k s at) ≡ true → every f (words (left - k) s (at + 4 * k)) ≡ every f (words left s at)
  group-passes e = ap (λ (t : Bool). t && every f (words (left - k) s (at + 4 * k))) (sym e) ∙ groups-held

pub words-passed : (f : ℕ → Bool) (left : ℕ) (s : List ℕ) (at : ℕ) → left ≡ 0 → every f (words left s at) ≡ true
unfolding every
words-passed f left s at e = ap (λ (n : ℕ). every f (words n s at)) e ∙ ap (every f) (words-none s at)

-- ---- the search, one block further

not-found-here : (table : ℕ → Bool) (b : ℕ) → table b ≡ false → newest_below table (suc b) ≡ newest_below table b
unfolding newest_below
not-found-here table b e = rw e

found_here : (table : ℕ → Bool) (b : ℕ) → table b ≡ true → newest_below table (suc b) ≡ Some b
unfolding newest_below
found_here table b e = rw e

pub none_below : (table : ℕ → Bool) → newest_below table 0 ≡ None
unfolding newest_below
none_below table = refl

-- a block that holds no table is left behind
pub scan-on : (table : ℕ → Bool) (b : ℕ) (all : Option ℕ) → 0 < b → table (b - 1) ≡ false → newest_below table b ≡ all → newest_below table (b - 1) ≡ all
scan-on table zero all h t e = absurd (not-suc-le-zero h)
scan-on table (suc b) all h t e =
    let one : suc b - 1 ≡ b = omega arith in
    ap (newest_below table) one ∙ sym (not-found-here table b (ap table (sym one) ∙ t)) ∙ e

pub scan-ends : (table : ℕ → Bool) (b : ℕ) (all : Option ℕ) → 0 < b → table (b - 1) ≡ true → newest_below table b ≡ all → all ≡ Some (b - 1)
scan-ends table zero all h t e = absurd (not-suc-le-zero h)
scan-ends table (suc b) all h t e =
    let one : suc b - 1 ≡ b = omega arith in
    sym e ∙ found_here table b (ap table (sym one) ∙ t) ∙ ap Some (sym one)

-- ---- the search, several blocks further

-- of blocks that hold no table while p stands, one more, which holds none unless t stands
pub one_more : (table : ℕ → Bool) (b i : ℕ) (p t : Bool) → (p ≡ true → (c : ℕ) → b ≤ c → c < b + i → table c ≡ false) → (t ≡ false → table (b + i) ≡ false)
    → (p && not t) ≡ true → (c : ℕ) → b ≤ c → c < b + (i + 1) → table c ≡ false
one_more table b i p t before here e c low high = go (eqb c (b + i)) refl
  where
    go : (u : Bool) → eqb c (b + i) ≡ u → table c ≡ false
    go true same = ap table (eqb-true c (b + i) same) ∙ here (not-true t (and_right p (not t) e))
    go false other = let apart : c ≡ b + i → ⊥ = eqb-false c (b + i) other in before (and_left p (not t) e) c low (omega arith)

none_between : (table : ℕ → Bool) (b n : ℕ) → ((c : ℕ) → b ≤ c → c < b + n → table c ≡ false) → newest_below table (b + n) ≡ newest_below table b
none_between table b zero h = ap (newest_below table) (add-zero b)
none_between table b (suc n) h =
    let further : b + suc n ≡ suc (b + n) = omega arith in
    ap (newest_below table) further ∙ not-found-here table (b + n) (h (b + n) (omega arith) (omega arith)) ∙ none_between table b n (λ c low high. h c low (omega arith))

-- n blocks that hold no table are left behind
pub scan-past : (table : ℕ → Bool) (n b : ℕ) (all : Option ℕ) → n ≤ b → ((c : ℕ) → b - n ≤ c → c < b - n + n → table c ≡ false) → newest_below table b ≡ all
    → newest_below table (b - n) ≡ all
scan-past table n b all h t e = let back : b - n + n ≡ b = omega arith in sym (none_between table (b - n) n t) ∙ ap (newest_below table) back ∙ e

-- ---- the walk, one step, and one walk after another

module _ (table : ℕ → Bool) (previous : ℕ → ℕ) where
  pub step-ended : (b : ℕ) → previous b ≡ unused → walk table previous 1 b ≡ Err Ended
  unfolding walk
  step-ended b e = rw (eq-eqb (previous b) unused e)

  pub step-broken : (b : ℕ) → (previous b ≡ unused → ⊥) → table (previous b) ≡ false → walk table previous 1 b ≡ Err Broken
  unfolding walk
  step-broken b u e = rw (ne_eqb (previous b) unused u, e)

  pub step-reached : (b : ℕ) → (previous b ≡ unused → ⊥) → table (previous b) ≡ true → walk table previous 1 b ≡ Ok (previous b)
  unfolding walk
  step-reached b u e = rw (ne_eqb (previous b) unused u, e)

  pub walk_none : (b : ℕ) → walk table previous 0 b ≡ Ok b
  unfolding walk
  walk_none b = refl

  -- a walk goes on where the walk before it came to, or fails with it
  abbrev pub onward : ℕ → Walk → Walk
  onward k (Ok m) = walk table previous k m
  onward k (Err s) = Err s

  pub walk-onward : (j k b : ℕ) → walk table previous (j + k) b ≡ onward k (walk table previous j b)
  unfolding walk
  walk-onward zero k b = ap (λ (n : ℕ). walk table previous n b) (zero-add k)
  walk-onward (suc j) k b =
      ap (λ (n : ℕ). walk table previous n b) (suc-add j k) ∙ go (eqb (previous b) unused) (table (previous b)) (walk-onward j k (previous b))
    where
      go : (u t : Bool) → walk table previous (j + k) (previous b) ≡ onward k (walk table previous j (previous b))
          → stepped u t (walk table previous (j + k) (previous b)) ≡ onward k (stepped u t (walk table previous j (previous b)))
      go true t ih = refl
      go false false ih = refl
      go false true ih = ih
