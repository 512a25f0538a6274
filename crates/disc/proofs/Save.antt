-- The sectors of a save: what comes before the table's ICB holds no table and no pointer, and the ICB, the last of them, is the table.
--     save-ends, save-count    a save ends in its ICB
--     own-data, own-no-tables  those before it are data, and none is a table
--     sectors-whole            each fills its block
--     icb-reads                the ICB is a table at its block, with the map, the previous table, the time and its own sectors
--     save-same                what a save records is told by what the previous table's own sectors read
-- Assumes nothing.
use Prim.Native.Nat.{ℕ, suc, ◌+◌, ◌≤◌, ◌<◌}
use native.Mathlib.Omega.{arith}
use mathlib.Core.Path.{◌≡◌, refl, sym, ap, ap₂, ◌∙◌, subst}
use mathlib.Core.Bool.{Bool, true, false, ◌||◌, ◌&&◌}
use mathlib.Core.List.{List, [], ◌∷◌, ◌++◌}
use mathlib.Core.Logic.{inl, inr}
use lib.Dec.{eqb, ltb}
use lib.ListN.{length, length-append}
use borrow.Author.Tests.{eqb-true, eq-eqb, lt-ltb}
use Rattle.le.specs.Bytes.{every}
use Rattle.le.proofs.Rows.{and_left, and_right}
use Rattle.timestamp.specs.Timestamp.{stamp_length}
use Rattle.extent.specs.Extents.{locations}
use Rattle.vat.specs.Table.{sector_length, limit, unused, unused_or_below, Lower, own_of, modified_of, table_of, entries_of, previous_of, is_table}
use Rattle.vat.specs.Own.{own_sectors}
use Rattle.vat.specs.Sector.{table_bytes, icb}
use Rattle.vat.proofs.Record.{length-table}
use Rattle.vat.proofs.Joined.{Stand, AllSmall}
use Rattle.vat.proofs.Theorems.{Named, named, icb-long, ReadsBack, reads-back}
use Rattle.disc.specs.Disc.{Disc, recorded, Sector, link, plain, torn, puts}
use Rattle.disc.specs.Tables.{below, table_at, named_by}
use Rattle.disc.specs.Again.{own_blocks, again_of, fresh_of, fresh, plains}
use Rattle.disc.specs.Save.{icb_of, save_sectors}
use Rattle.disc.proofs.Recording.{Sound, AllWhole, whole_append, puts-append}
use Rattle.disc.proofs.Told.{SameBelow, SameAt, NamedData, named-data, names_same, names-none}
use Rattle.disc.proofs.Found.{table-recorded, table-beyond}
use Rattle.disc.proofs.Growing.{Grew, puts-grew}
use Rattle.disc.proofs.Fresh.{length-plains, fresh-whole, NeitherFrom, fresh-neither, stands, blocks-small, again-same}

-- a sector that is no table where it is recorded, whatever lies below it, and a list of such from block b on
abbrev pub NoTable : ℕ → Sector → Type 0
NoTable b link = Unit
NoTable b (plain s) = (lower : Lower) → is_table lower s b ≡ false
NoTable b (torn s) = Unit

abbrev pub NoTables : ℕ → List Sector → Type 0
NoTables b [] = Unit
NoTables b (s ∷ ss) = NoTable b s × NoTables (suc b) ss

-- a list of data sectors
abbrev pub AllData : List Sector → Type 0
AllData [] = Unit
AllData (link ∷ ss) = ⊥
AllData (plain s ∷ ss) = AllData ss
AllData (torn s ∷ ss) = ⊥

plains-data : (ss : List (List ℕ)) → AllData (plains ss)
plains-data [] = tt
plains-data (s ∷ ss) = plains-data ss

no-tables-of : (c : ℕ) (ss : List (List ℕ)) → NeitherFrom c ss → NoTables c (plains ss)
no-tables-of c [] n = tt
no-tables-of c (s ∷ ss) n = (n.0.0, no-tables-of (suc c) ss n.1)

module _ (d : Disc) (t : List ℕ) (previous : ℕ) where
  -- what a save records before its ICB
  abbrev pub own_recorded : List Sector
  own_recorded = plains (fresh_of d t previous)

  pub own-count : length own_recorded ≡ length (fresh_of d t previous)
  own-count = length-plains (fresh_of d t previous)

  pub own-whole : AllWhole own_recorded
  own-whole = fresh-whole d t previous

  pub own-data : AllData own_recorded
  own-data = plains-data (fresh_of d t previous)

  module _ (stamp : List ℕ) (b : ℕ) where
    pub save-ends : save_sectors d t previous stamp b ≡ own_recorded ++ (plain (icb_of d t previous stamp b) ∷ [])
    unfolding save_sectors
    save-ends = refl

    pub save-count : length (save_sectors d t previous stamp b) ≡ length (fresh_of d t previous) + 1
    save-count = ap length save-ends ∙ length-append own_recorded (plain (icb_of d t previous stamp b) ∷ []) ∙ ap (λ (n : ℕ). n + 1) own-count

    pub icb-whole : length (icb_of d t previous stamp b) ≡ sector_length
    unfolding icb_of
    icb-whole = icb-long t (own_blocks (again_of d t previous) b) stamp (b + length (fresh_of d t previous))

    pub sectors-whole : AllWhole (save_sectors d t previous stamp b)
    sectors-whole = subst AllWhole (sym save-ends) (whole_append own_recorded (plain (icb_of d t previous stamp b) ∷ []) own-whole (icb-whole, tt))

-- ---- told by what is read

-- the discs read the same at the own sectors of the previous table
pub save-same : (d e : Disc) (t : List ℕ) (previous : ℕ) → named_by e previous ≡ named_by d previous → SameAt d e (named_by d previous) → (stamp : List ℕ) (b : ℕ)
    → (save_sectors e t previous stamp b ≡ save_sectors d t previous stamp b) × (fresh_of e t previous ≡ fresh_of d t previous)
unfolding save_sectors icb_of fresh_of
save-same d e t previous named same stamp b =
    let again = again-same d e t previous named same in (
      ap (λ rs. plains (fresh rs (own_sectors t)) ++ (plain (icb t (own_blocks rs b) stamp (b + length (fresh rs (own_sectors t)))) ∷ [])) again,
      ap (λ rs. fresh rs (own_sectors t)) again,
    )

same-named : (d e : Disc) (r b : ℕ) (cs : List ℕ) → SameBelow d e r → b ≤ r → NamedData d b cs → SameAt d e cs
same-named d e r b [] same low a = tt
same-named d e r b (c ∷ cs) same low a = (same c (omega (arith, a.0)), same-named d e r b cs same low a.2)

-- so where the disc grew since, the save is the same: its previous table is one, or there is none
module _ (d e : Disc) (ok : Sound d) (grown : SameBelow d e (recorded d)) (short : length e.kinds ≤ 360000) (t : List ℕ) (previous : ℕ)
    (known : (eqb previous unused || table_at d previous) ≡ true) where
  both-named : (named_by e previous ≡ named_by d previous) × SameAt d e (named_by d previous)
  both-named = go (eqb previous unused) refl known
    where
      go : (u : Bool) → eqb previous unused ≡ u → (u || table_at d previous) ≡ true → (named_by e previous ≡ named_by d previous) × SameAt d e (named_by d previous)
      go true z k =
          let far : previous ≡ unused = eqb-true previous unused z in
          let nothing : named_by d previous ≡ [] = names-none d previous (table-beyond d previous (omega (arith, ok.few))) in
          (names-none e previous (table-beyond e previous (omega arith)) ∙ sym nothing, subst (SameAt d e) (sym nothing) tt)
      go false z k =
          let low : previous < recorded d = table-recorded d ok previous k in
          (names_same d e previous (λ c h. grown c (omega arith)) (grown previous low), same-named d e (recorded d) previous (named_by d previous) grown (omega arith) (named-data d previous))

  pub grown-save : (stamp : List ℕ) (b : ℕ) → save_sectors e t previous stamp b ≡ save_sectors d t previous stamp b
  grown-save stamp b = (save-same d e t previous both-named.0 both-named.1 stamp b).0

  pub grown-fresh : fresh_of e t previous ≡ fresh_of d t previous
  grown-fresh = (save-same d e t previous both-named.0 both-named.1 [] 0).1

-- ---- the ICB

-- the ICB that a save records for a map and a previous table, where this can be read below it
pub record IcbReads (lower : Lower) (s : List ℕ) (map : List ℕ) (previous : ℕ) (stamp : List ℕ) (b : ℕ) (blocks : List ℕ) : Type 0 where
  pub is-table : is_table lower s b ≡ true
  pub entries : entries_of (table_of lower s) ≡ map
  pub previous-table : previous_of (table_of lower s) ≡ previous
  pub modified : modified_of s ≡ stamp
  pub names : locations (own_of s) ≡ blocks

higher : (b c x : ℕ) → b ≤ c → unused_or_below b x ≡ true → unused_or_below c x ≡ true
higher b c x h e = go (named b x e)
  where
    or-true : (t : Bool) → (t || true) ≡ true
    or-true true = refl
    or-true false = refl

    go : Named b x → unused_or_below c x ≡ true
    go (inl l) = rw (lt-ltb x c (omega arith))
    go (inr u) = rw (eq-eqb x unused u) (or-true (ltb x c))

all-higher : (b c : ℕ) (xs : List ℕ) → b ≤ c → every (unused_or_below b) xs ≡ true → every (unused_or_below c) xs ≡ true
unfolding every
all-higher b c [] h e = refl
all-higher b c (x ∷ xs) h e =
    ap₂ (λ (p q : Bool). p && q) (higher b c x h (and_left (unused_or_below b x) (every (unused_or_below b) xs) e)) (all-higher b c xs h (and_right (unused_or_below b x) (every (unused_or_below b) xs) e))

-- a save behind links, and behind what a closing puts first
module _ (d : Disc) (ok : Sound d) (first : List Sector) (w : AllWhole first) (map : List ℕ) (previous : ℕ) (few : length map ≤ limit) (entries : every (unused_or_below (recorded d)) map ≡ true)
    (before : unused_or_below (recorded d) previous ≡ true) where
  abbrev table : List ℕ
  table = table_bytes map previous

  most : length table ≤ 16384
  most = omega (arith, length-table map previous)

  -- the block that its first sector takes
  abbrev behind : ℕ
  behind = recorded d + length first

  pub own-no-tables : behind ≤ length d.kinds → NoTables behind (own_recorded d table previous)
  own-no-tables room = no-tables-of behind (fresh_of d table previous) (fresh-neither d ok map previous behind most entries before (omega arith) (omega (arith, ok.few)))

  module _ (stamp : List ℕ) (timely : length stamp ≡ stamp_length) (room : behind + length (fresh_of d table previous) ≤ length d.kinds) where
    abbrev pub icb_block : ℕ
    icb_block = behind + length (fresh_of d table previous)

    start : Disc
    start = puts d (recorded d) first

    start-grew : Grew d start (length first)
    unfolding start
    start-grew = puts-grew first d ok (omega arith) w

    own_room : recorded start + length (fresh_of d table previous) ≤ length start.kinds
    own_room = omega (arith, start-grew.counted, start-grew.same_length)

    -- all that comes before the ICB
    abbrev pub before_save : Disc
    before_save = puts d (recorded d) (first ++ own_recorded d table previous)

    goes_on : puts start (recorded start) (own_recorded d table previous) ≡ before_save
    unfolding start
    goes_on =
        ap (λ (k : ℕ). puts (puts d (recorded d) first) k (own_recorded d table previous)) start-grew.counted
        ∙ sym (puts-append first (own_recorded d table previous) d (recorded d))

    counted : recorded (puts start (recorded start) (own_recorded d table previous)) ≡ icb_block
    counted =
        let g : Grew start (puts start (recorded start) (own_recorded d table previous)) (length (own_recorded d table previous)) =
        puts-grew (own_recorded d table previous) start start-grew.still-sound (rw (own-count d table previous) own_room) (own-whole d table previous) in
        omega (arith, g.counted, start-grew.counted, own-count d table previous)

    pub icb-reads : IcbReads (below before_save icb_block) (icb_of d table previous stamp behind) map previous stamp icb_block (own_blocks (again_of d table previous) behind)
    unfolding icb_of
    icb-reads =
        let blocks : List ℕ = own_blocks (again_of d table previous) behind in
        let at : recorded start ≡ behind = start-grew.counted in
        let own = stands d start ok start-grew.still-sound start-grew.kept table previous own_room in
        let small = blocks-small d start ok start-grew.still-sound start-grew.kept table previous own_room in
        let r : ReadsBack (below before_save icb_block) map previous blocks stamp icb_block =
        reads-back (below before_save icb_block) map previous blocks stamp icb_block few (all-higher (recorded d) icb_block map (omega arith) entries) (higher (recorded d) icb_block previous (omega arith) before)
        (subst (λ (l : Lower). Stand l blocks (own_sectors table)) (ap₂ below goes_on counted)
        (subst (λ (k : ℕ). Stand (below (puts start (recorded start) (own_recorded d table previous)) (recorded (puts start (recorded start) (own_recorded d table previous)))) (own_blocks (again_of d table previous) k) (own_sectors table)) at own))
        (subst (λ (k : ℕ). AllSmall (own_blocks (again_of d table previous) k)) at small) timely (omega (arith, ok.few)) in
        record { is-table = r.is-table; entries = r.entries; previous-table = r.previous-table; modified = r.modified; names = r.names }
