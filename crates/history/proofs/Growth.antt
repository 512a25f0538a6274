-- The real format as an instance of the log, and what recording a list of sectors does to its disc: plain sectors, a table, or what a cut leaves.
-- Assumes nothing.
use Prim.Native.Nat.{ℕ, zero, suc, ◌+◌, ◌-◌, ◌≤◌, ◌<◌}
use native.Mathlib.Nat.{add-zero, le_refl}
use native.Mathlib.Numerals.{add-one}
use native.Mathlib.Omega.{arith}
use mathlib.Core.Path.{◌≡◌, refl, sym, ap, ap₂, ◌∙◌, subst}
use mathlib.Core.Bool.{Bool, true, false, ◌&&◌, ◌||◌}
use mathlib.Core.List.{List, [], ◌∷◌, ◌++◌}
use mathlib.Core.Logic.{inl, inr}
use Rattle.std.specs.Prelude.{Option, None, Some}
use lib.Dec.{eqb, ltb}
use lib.ListN.{length, take, replicate, get_or}
use lib.Seq.{take-append-le, length-take-le, take-length}
use borrow.Author.Tests.{eq-eqb, ltb-true, lt-ltb, le-ltb}
use Rattle.le.specs.Bytes.{every}
use Rattle.le.proofs.Rows.{and_left, and_right}
use Rattle.vat.specs.Table.{sector_length, unused, unused_or_below, Lower, modified_of, table_of, entries_of, previous_of, is_table, tag_version}
use Rattle.vat.proofs.Theorems.{Named, named}
use Rattle.extent.specs.declared.Extent.{Extent}
use Rattle.anchor.proofs.Theorems.{anchor-no-table, zeros-no-table}
use Rattle.disc.specs.Disc.{Disc, recorded, readable, content, Sector, link, plain, torn, put, puts}
use Rattle.disc.specs.Tables.{below, table_at, map_at, previous_at, time_at}
use Rattle.disc.specs.Session.{zero_sectors, zero_sector, closing}
use Rattle.disc.proofs.Recording.{Sound, Whole, Recorded, put-recorded, plain_here, puts-append, AllWhole, whole_take, blank-kind, links-contents}
use Rattle.disc.proofs.Told.{entries-named, table-of, map_of_lem, previous-of, time-of, other-kind, SameBelow, below-same, table_same, map_same, previous-same, time-same}
use Rattle.disc.proofs.Growing.{one_kept}
use Rattle.disc.proofs.Save.{NoTable, NoTables}
use Rattle.recorder.proofs.Sectors.{behind, length-behind}
use Rattle.history.specs.Events.{Torn, torn_at, cut_disc}
use Rattle.history.proofs.Log.{Format, AllBelow, NamesBelow, View, Extends, Plain, Saved, extends-on, plain-same, plain-on}

abbrev pub F : Format
F = record { Disc = Disc; recorded = recorded; table = table_at; map_at = map_at; previous_at = previous_at; time_at = time_at; content = content }

-- a test of every number, one by one
pub all-below-of : (b : ℕ) (xs : List ℕ) → every (unused_or_below b) xs ≡ true → AllBelow b xs
unfolding every
all-below-of b [] e = tt
all-below-of b (x ∷ xs) e =
    (named b x (and_left (unused_or_below b x) (every (unused_or_below b) xs) e), all-below-of b xs (and_right (unused_or_below b x) (every (unused_or_below b) xs) e))

pub below-to : (b x : ℕ) → Named b x → unused_or_below b x ≡ true
below-to b x (inr e) = rw (eq-eqb x unused e) (or-last (ltb x b))
  where
    or-last : (t : Bool) → (t || true) ≡ true
    or-last true = refl
    or-last false = refl
below-to b x (inl h) = rw (lt-ltb x b h)

pub all-below-to : (b : ℕ) (xs : List ℕ) → AllBelow b xs → every (unused_or_below b) xs ≡ true
unfolding every
all-below-to b [] a = refl
all-below-to b (x ∷ xs) a = ap₂ (λ (p q : Bool). p && q) (below-to b x a.0) (all-below-to b xs a.1)

pub names-below : NamesBelow F
names-below d b e = all-below-of b (map_at d b) (entries-named d b e)

-- ---- data

pub data-within : (ks : List ℕ) (b : ℕ) → get_or ks b 0 ≡ 1 → b < length ks
data-within [] b e = absurd (omega arith)
data-within (k ∷ ks) zero e = omega arith
data-within (k ∷ ks) (suc b) e = let h : b < length ks = data-within ks b e in omega arith

-- ---- one sector

-- what is read below it stays, and so below each lower block
kept-below : {d d' : Disc} {s : Sector} → Recorded d d' s → (b : ℕ) → b < recorded d → SameBelow d d' b
kept-below r b h c low = one_kept r c (omega arith)

pub extends-of : {d d' : Disc} {s : Sector} → Recorded d d' s → Extends F d d'
extends-of {d} {d'} r =
    record {
      more = omega (arith, r.one_more);
      tables = λ b h. table_same d d' b (kept-below r b h) (one_kept r b h);
      maps = λ b h. map_same d d' b (kept-below r b h) (r.sectors-kept b h);
      previous = λ b h. previous-same d d' b (kept-below r b h) (r.sectors-kept b h);
      times = λ b h. time-same d d' b (kept-below r b h) (r.sectors-kept b h);
      contents = one_kept r;
    }

module _ (d : Disc) (ok : Sound d) (room : recorded d < length d.kinds) where
  -- what stands at the next block is decided with what lay below it before
  module _ (s : List ℕ) (w : length s ≡ sector_length) where
    abbrev next : Disc
    next = put d (recorded d) (plain s)

    r-next : Recorded d next (plain s)
    r-next = put-recorded d ok room (plain s) w

    lower-next : below next (recorded d) ≡ below d (recorded d)
    lower-next = below-same d next (recorded d) (one_kept r-next)

    pub table-next : table_at next (recorded d) ≡ is_table (below d (recorded d)) s (recorded d)
    table-next = table-of next (recorded d) (below d (recorded d)) s lower-next (plain_here d ok room s w) r-next.its-kind

    pub map_next : map_at next (recorded d) ≡ entries_of (table_of (below d (recorded d)) s)
    map_next = map_of_lem next (recorded d) (below d (recorded d)) s lower-next (plain_here d ok room s w)

    pub previous-next : previous_at next (recorded d) ≡ previous_of (table_of (below d (recorded d)) s)
    previous-next = previous-of next (recorded d) (below d (recorded d)) s lower-next (plain_here d ok room s w)

    pub time-next : time_at next (recorded d) ≡ modified_of s
    time-next = time-of next (recorded d) (below d (recorded d)) s lower-next (plain_here d ok room s w)

  not_there : (s : Sector) → Whole s → NoTable (recorded d) s → table_at (put d (recorded d) s) (recorded d) ≡ false
  not_there link w n = other-kind (put d (recorded d) link) (recorded d) (λ e. let z = sym (put-recorded d ok room link w).its-kind ∙ e in omega arith)
  not_there (plain s) w n = table-next s w ∙ n (below d (recorded d))
  not_there (torn s) w n = other-kind (put d (recorded d) (torn s)) (recorded d) (λ e. let z = sym (put-recorded d ok room (torn s) w).its-kind ∙ e in omega arith)

  -- a data sector reads its bytes
  pub plain-content : (s : List ℕ) → length s ≡ sector_length → content (put d (recorded d) (plain s)) (recorded d) ≡ Some s
  unfolding content
  plain-content s w =
      ap₂ (λ (k : ℕ) (t : List ℕ). readable (eqb k 1) t) (put-recorded d ok room (plain s) w).its-kind (plain_here d ok room s w)

  pub put-plain : (s : Sector) → Whole s → table_at (put d (recorded d) s) (recorded d) ≡ false → Plain F d (put d (recorded d) s)
  put-plain s w free =
      let r : Recorded d (put d (recorded d) s) s = put-recorded d ok room s w in
      record {
        extends = extends-of r;
        no_table = λ b low high.
            let here : b ≡ recorded d = omega (arith, r.one_more) in
            ap (table_at (put d (recorded d) s)) here ∙ free;
      }

-- ---- a list of sectors

-- sectors recorded, none of them a table
pub record Grown (d d' : Disc) (n : ℕ) : Type 0 where
  pub plainly : Plain F d d'
  pub still-sound : Sound d'
  pub same_length : length d'.kinds ≡ length d.kinds
  pub counted : recorded d' ≡ recorded d + n

pub puts_plain : (ss : List Sector) (d : Disc) → Sound d → recorded d + length ss ≤ length d.kinds → AllWhole ss → NoTables (recorded d) ss
    → Grown d (puts d (recorded d) ss) (length ss)
unfolding puts
puts_plain [] d ok room w n = record { plainly = plain-same F d; still-sound = ok; same_length = refl; counted = sym (add-zero (recorded d)) }
puts_plain (s ∷ ss) d ok room w n =
    let here : recorded d < length d.kinds = omega arith in
    let r : Recorded d (put d (recorded d) s) s = put-recorded d ok here s w.0 in
    let d₁ : Disc = put d (recorded d) s in
    let next : recorded d + 1 ≡ recorded d₁ = add-one (recorded d) ∙ sym r.one_more in
    let more : Grown d₁ (puts d₁ (recorded d₁) ss) (length ss) =
    puts_plain ss d₁ r.still-sound (omega (arith, r.one_more, r.same_length)) w.1 (subst (λ (b : ℕ). NoTables b ss) (sym r.one_more) n.1) in
    subst (λ (b : ℕ). Grown d (puts d₁ b ss) (suc (length ss))) (sym next)
    (record {
      plainly = plain-on F (put-plain d ok here s w.0 (not_there d ok here s w.0 n.0)) more.plainly;
      still-sound = more.still-sound;
      same_length = more.same_length ∙ r.same_length;
      counted = more.counted ∙ omega (arith, r.one_more);
    })

-- ---- sectors that are no tables, then one data sector

pub links-no-tables : (n b : ℕ) → NoTables b (replicate n link)
links-no-tables zero b = tt
links-no-tables (suc n) b = (tt, links-no-tables n (suc b))

-- links change nothing that can be read
pub links-below : (d : Disc) → Sound d → (n b : ℕ) → below (puts d (recorded d) (replicate n link)) b ≡ below d b
links-below d ok n b =
    below-same d (puts d (recorded d) (replicate n link)) b (λ c h. links-contents n d (recorded d) (λ i high. blank-kind d.kinds (recorded d) i ok.blank high) c)

pub no-tables-append : (xs ys : List Sector) (b : ℕ) → NoTables b xs → NoTables (b + length xs) ys → NoTables b (xs ++ ys)
no-tables-append [] ys b p q = subst (λ (k : ℕ). NoTables k ys) (add-zero b) q
no-tables-append (x ∷ xs) ys b p q =
    let e : b + suc (length xs) ≡ suc b + length xs = omega arith in
    (p.0, no-tables-append xs ys (suc b) p.1 (subst (λ (k : ℕ). NoTables k ys) e q))

pub no-tables-take : (j : ℕ) (ss : List Sector) (b : ℕ) → NoTables b ss → NoTables b (take j ss)
no-tables-take zero ss b a = tt
no-tables-take (suc j) [] b a = tt
no-tables-take (suc j) (s ∷ ss) b a = (a.0, no-tables-take j ss (suc b) a.1)

-- what closing records before its table
zeros-no-tables : (n b : ℕ) → NoTables b (replicate n zero_sector)
zeros-no-tables zero b = tt
zeros-no-tables (suc n) b = (λ lower. zeros-no-table lower b, zeros-no-tables n (suc b))

pub closing-no-tables : (main reserve : Extent) (start b own c : ℕ) → NoTables c (closing main reserve start b own)
unfolding closing
closing-no-tables main reserve start b own c = (λ lower. anchor-no-table tag_version main reserve (start + b) lower c, zeros-no-tables (zero_sectors - own) (suc c))

module _ (d : Disc) (ok : Sound d) (ss : List Sector) (w : AllWhole ss) (n : NoTables (recorded d) ss) (s : List ℕ) (long : length s ≡ sector_length) (room : recorded d + (length ss + 1) ≤ length d.kinds) where
  before : Disc
  before = puts d (recorded d) ss

  before-grown : Grown d before (length ss)
  unfolding before
  before-grown = puts_plain ss d ok (omega arith) w n

  before-room : recorded before < length before.kinds
  before-room = omega (arith, before-grown.counted, before-grown.same_length)

  -- the data sector goes behind the others
  goes-behind : puts d (recorded d) (behind ss s) ≡ put before (recorded before) (plain s)
  unfolding puts before
  goes-behind = puts-append ss (plain s ∷ []) d (recorded d) ∙ ap (λ (k : ℕ). put (puts d (recorded d) ss) k (plain s)) (sym before-grown.counted)

  last-recorded : Recorded before (put before (recorded before) (plain s)) (plain s)
  last-recorded = put-recorded before before-grown.still-sound before-room (plain s) long

  pub behind-extends : Extends F (puts d (recorded d) ss) (puts d (recorded d) (behind ss s))
  unfolding before
  behind-extends = subst (λ (x : Disc). Extends F (puts d (recorded d) ss) x) (sym goes-behind) (extends-of last-recorded)

  pub behind-content : content (puts d (recorded d) (behind ss s)) (recorded d + length ss) ≡ Some s
  behind-content =
      ap₂ content goes-behind (sym before-grown.counted) ∙ plain-content before before-grown.still-sound before-room s long

  pub behind-time : time_at (puts d (recorded d) (behind ss s)) (recorded d + length ss) ≡ modified_of s
  behind-time = ap₂ time_at goes-behind (sym before-grown.counted) ∙ time-next before before-grown.still-sound before-room s long

  pub behind-sound : Sound (puts d (recorded d) (behind ss s))
  behind-sound = subst Sound (sym goes-behind) last-recorded.still-sound

  pub behind-counted : recorded (puts d (recorded d) (behind ss s)) ≡ suc (recorded d + length ss)
  behind-counted = ap recorded goes-behind ∙ last-recorded.one_more ∙ ap suc before-grown.counted

  -- what can be read below it
  abbrev pub lower : Lower
  lower = below (puts d (recorded d) ss) (recorded d + length ss)

  -- a table behind them is a save
  pub behind-saved : (v : View) → recorded d + length ss < unused → is_table lower s (recorded d + length ss) ≡ true → entries_of (table_of lower s) ≡ v.map → previous_of (table_of lower s) ≡ v.last
      → Saved F d (puts d (recorded d) (behind ss s)) v (recorded d + length ss)
  unfolding before
  behind-saved v small is-table maps links =
      let r : ℕ = recorded before in
      let counted : recorded d + length ss ≡ r = sym before-grown.counted in
      let ok' : Sound before = before-grown.still-sound in
      let all : Saved F d (put before r (plain s)) v r =
      record {
        extends = extends-on F before-grown.plainly.extends (extends-of last-recorded);
        behind = omega arith;
        small = omega arith;
        last-sector = last-recorded.one_more;
        a-table = table-next before ok' before-room s long ∙ subst (λ (b : ℕ). is_table (below before b) s b ≡ true) counted is-table;
        its_map = map_next before ok' before-room s long ∙ subst (λ (b : ℕ). entries_of (table_of (below before b) s) ≡ v.map) counted maps;
        its-previous = previous-next before ok' before-room s long ∙ subst (λ (b : ℕ). previous_of (table_of (below before b) s) ≡ v.last) counted links;
      } in
      subst (λ (e : Disc). Saved F d e v (recorded d + length ss)) (sym goes-behind) (subst (λ (b : ℕ). Saved F d (put before r (plain s)) v b) (sym counted) all)

  -- and what is none leaves the tables
  pub behind-grown : is_table lower s (recorded d + length ss) ≡ false → Grown d (puts d (recorded d) (behind ss s)) (length (behind ss s))
  unfolding before
  behind-grown free =
      let r : ℕ = recorded before in
      let counted : recorded d + length ss ≡ r = sym before-grown.counted in
      let ok' : Sound before = before-grown.still-sound in
      let no_table : table_at (put before r (plain s)) r ≡ false = table-next before ok' before-room s long ∙ subst (λ (b : ℕ). is_table (below before b) s b ≡ false) counted free in
      let all : Grown d (put before r (plain s)) (length (behind ss s)) =
      record {
        plainly = plain-on F before-grown.plainly (put-plain before ok' before-room (plain s) long no_table);
        still-sound = last-recorded.still-sound;
        same_length = last-recorded.same_length ∙ before-grown.same_length;
        counted = omega (arith, last-recorded.one_more, before-grown.counted, length-behind ss s);
      } in
      subst (λ (e : Disc). Grown d e (length (behind ss s))) (sym goes-behind) all

-- ---- what a cut leaves

pub record Left (d d' : Disc) : Type 0 where
  pub plainly : Plain F d d'
  pub still-sound : Sound d'

-- the first j sectors, none of them a table, and the next one blank or torn
pub cut_left : (ss : List Sector) (d : Disc) (j : ℕ) (tear : Option (List ℕ)) → Sound d → recorded d + length ss ≤ length d.kinds → j ≤ length ss
    → AllWhole (take j ss) → NoTables (recorded d) (take j ss) → Torn tear → Left d (cut_disc d ss j tear)
unfolding cut_disc
cut_left ss d j tear ok room Some-of w n t = go (ltb j (length ss)) refl tear t
  where
    count : length (take j ss) ≡ j
    count = length-take-le j ss Some-of

    g : Grown d (puts d (recorded d) (take j ss)) (length (take j ss))
    g = puts_plain (take j ss) d ok (omega (arith, count)) w n

    go : (u : Bool) → ltb j (length ss) ≡ u → (tear : Option (List ℕ)) → Torn tear → Left d (torn_at u tear (recorded d + j) (puts d (recorded d) (take j ss)))
    go false e tear t = record { plainly = g.plainly; still-sound = g.still-sound }
    go true e None t = record { plainly = g.plainly; still-sound = g.still-sound }
    go true e (Some bytes) t =
        let d₁ : Disc = puts d (recorded d) (take j ss) in
        let at : recorded d₁ ≡ recorded d + j = g.counted ∙ ap (λ (k : ℕ). recorded d + k) count in
        let here : recorded d₁ < length d₁.kinds = omega (arith, ltb-true j (length ss) e, g.same_length) in
        subst (λ (b : ℕ). Left d (put d₁ b (torn bytes))) at
        (record {
          plainly = plain-on F g.plainly (put-plain d₁ g.still-sound here (torn bytes) t (not_there d₁ g.still-sound here (torn bytes) t tt));
          still-sound = (put-recorded d₁ g.still-sound here (torn bytes) t).still-sound;
        })

-- fewer than all of a save's sectors: none of them is its table
pub cut-before-left : (ss : List Sector) (s : List ℕ) (d : Disc) (j : ℕ) (tear : Option (List ℕ)) → Sound d → AllWhole ss → NoTables (recorded d) ss
    → recorded d + (length ss + 1) ≤ length d.kinds → j ≤ length ss → Torn tear → Left d (cut_disc d (behind ss s) j tear)
cut-before-left ss s d j tear ok w n room h t =
    let same : take j (behind ss s) ≡ take j ss = take-append-le j ss (plain s ∷ []) h in
    cut_left (behind ss s) d j tear ok (omega (arith, length-behind ss s)) (omega (arith, length-behind ss s))
    (subst AllWhole (sym same) (whole_take j ss w)) (subst (λ (l : List Sector). NoTables (recorded d) l) (sym same) (no-tables-take j ss (recorded d) n)) t

-- a cut that keeps all sectors leaves what a call that is done leaves
pub cut_all : (ss : List Sector) (d : Disc) (tear : Option (List ℕ)) (j : ℕ) → j ≡ length ss → cut_disc d ss j tear ≡ puts d (recorded d) ss
unfolding cut_disc
cut_all ss d tear j e =
    rw (e, le-ltb (length ss) (length ss) (le_refl (length ss))) (ap (puts d (recorded d)) (take-length ss))

-- a call that records nothing leaves the disc
pub cut-none : (d : Disc) (j : ℕ) (tear : Option (List ℕ)) → j ≤ 0 → cut_disc d [] j tear ≡ d
unfolding puts
cut-none d j tear h = cut_all [] d tear j (omega arith)
