-- The entry of a run, for all kinds, sectors, blocks and lists of extents:
--     recognised     what an entry tells: at most 100 extents, laid on data below its block, and the run's length, which is their total
--     laid-tells     of laid extents each is not empty, shorter than 1 GiB, and lies wholly on data below the block; whole sectors but the last
--     bytes_below    so its bytes end where the entry's sector begins, or before
--     reads-back     the entry recorded for laid extents at block b is an entry at b, of exactly these
-- Assumes nothing.
use Prim.Native.Nat.{ℕ, ◌+◌, ◌*◌, ◌≤◌, ◌<◌}
use native.Mathlib.Omega.{arith}
use mathlib.Core.Path.{◌≡◌, sym, ap, ◌∙◌}
use mathlib.Core.Bool.{Bool, true, ◌&&◌}
use mathlib.Core.List.{List, [], ◌∷◌, ◌++◌}
use lib.Dec.{eqb, ltb, leb, lit≤}
use lib.ListN.{length, take, drop, replicate, length-replicate}
use lib.Seq.{sets}
use borrow.Author.Tests.{eq-eqb, eqb-true, ltb-true, leb-true, le-leb}
use Rattle.le.specs.Bytes.{every}
use Rattle.le.specs.Field.{Row, read_le, holds, lay}
use Rattle.le.proofs.Bytes.{drop-sets, drop-sets-after}
use Rattle.le.proofs.Rows.{and_left, and_right, length-lay, holds-lay, holds-spared, holds-append, drop-lay}
use Rattle.tag.specs.Tag.{sealed}
use Rattle.tag.proofs.Sums.{seal_rows, seal-lays, sealed-seal}
use Rattle.vat.specs.Table.{sector_length, unused, tag_version, entry_rows, length_rows, allocation_type}
use Rattle.vat.specs.Sector.{own_rows, station_at, station_name}
use Rattle.vat.proofs.Frame.{lengths}
use Rattle.extent.specs.declared.Extent.{Extent}
use Rattle.extent.specs.Extents.{descriptors_length, extents_from, descriptors, total_length}
use Rattle.extent.proofs.Extents.{AllFit, length-descriptors, extents-read}
use Rattle.run.specs.Entry.{most_extents, descriptors_at, extent_count, extents_of, sectors_for, lies, whole_before, laid, file_type, is_entry, total_sectors, file_rows, entry}
use Rattle.run.proofs.Record.{body, header, laid_over, entry-seals, length-body, length-laid}

-- ---- what is laid

pub record Lies (kinds : List ℕ) (b : ℕ) (e : Extent) : Type 0 where
  pub some : 0 < e.length
  pub short : e.length < 1073741824
  pub below : e.location + sectors_for e ≤ b
  pub on-data : every (λ k. eqb k 1) (take (sectors_for e) (drop e.location kinds)) ≡ true

pub lies-tells : (kinds : List ℕ) (b : ℕ) (e : Extent) → lies kinds b e ≡ true → Lies kinds b e
unfolding lies
lies-tells kinds b e t =
    let n : ℕ = sectors_for e in
    let p : Bool = ltb 0 e.length in
    let q : Bool = ltb e.length 1073741824 in
    let r : Bool = leb (e.location + n) b in
    let u : Bool = every (λ k. eqb k 1) (take n (drop e.location kinds)) in
    let t₁ : (q && (r && u)) ≡ true = and_right p (q && (r && u)) t in
    let t₂ : (r && u) ≡ true = and_right q (r && u) t₁ in
    record {
      some = ltb-true 0 e.length (and_left p (q && (r && u)) t);
      short = ltb-true e.length 1073741824 (and_left q (r && u) t₁);
      below = leb-true (e.location + n) b (and_left r u t₂);
      on-data = and_right r u t₂;
    }

pub record Laid (kinds : List ℕ) (b : ℕ) (e : Extent) (es : List Extent) : Type 0 where
  pub first : Lies kinds b e
  pub whole : whole_before e es ≡ true
  pub rest : laid kinds b es ≡ true

pub laid-tells : (kinds : List ℕ) (b : ℕ) (e : Extent) (es : List Extent) → laid kinds b (e ∷ es) ≡ true → Laid kinds b e es
unfolding laid
laid-tells kinds b e es t =
    let more : Bool = whole_before e es && laid kinds b es in
    let t₁ : more ≡ true = and_right (lies kinds b e) more t in
    record {
      first = lies-tells kinds b e (and_left (lies kinds b e) more t);
      whole = and_left (whole_before e es) (laid kinds b es) t₁;
      rest = and_right (whole_before e es) (laid kinds b es) t₁;
    }

pub bytes_below : (kinds : List ℕ) (b : ℕ) (e : Extent) → Lies kinds b e → sector_length * e.location + e.length ≤ sector_length * b
bytes_below kinds b e l = omega arith

-- ---- what is recognised

pub record Recognised (kinds s : List ℕ) (b : ℕ) : Type 0 where
  pub whole : length s ≡ sector_length
  pub few : extent_count s ≤ most_extents
  pub information : read_le 8 s 56 ≡ total_length (extents_of s)
  pub extents-laid : laid kinds b (extents_of s) ≡ true

pub recognised : (kinds s : List ℕ) (b : ℕ) → is_entry kinds s b ≡ true → Recognised kinds s b
unfolding is_entry
recognised kinds s b e =
    let m : ℕ = extent_count s in
    let d : ℕ = descriptors_length m in
    let n : ℕ = total_length (extents_of s) in
    let p : Bool = eqb (length s) sector_length in
    let q : Bool = holds s (entry_rows tag_version file_type b) in
    let r : Bool = eqb (allocation_type s) 0 in
    let t : Bool = leb 1 m in
    let u : Bool = leb m most_extents in
    let x : Bool = holds s (length_rows 0 d n) in
    let y : Bool = laid kinds b (extents_of s) in
    let e₁ : (q && (r && (t && (u && (x && (y && sealed s)))))) ≡ true = and_right p (q && (r && (t && (u && (x && (y && sealed s)))))) e in
    let e₂ : (r && (t && (u && (x && (y && sealed s))))) ≡ true = and_right q (r && (t && (u && (x && (y && sealed s))))) e₁ in
    let e₃ : (t && (u && (x && (y && sealed s)))) ≡ true = and_right r (t && (u && (x && (y && sealed s)))) e₂ in
    let e₄ : (u && (x && (y && sealed s))) ≡ true = and_right t (u && (x && (y && sealed s))) e₃ in
    let e₅ : (x && (y && sealed s)) ≡ true = and_right u (x && (y && sealed s)) e₄ in
    let e₆ : (y && sealed s) ≡ true = and_right x (y && sealed s) e₅ in
    record {
      whole = eqb-true (length s) sector_length (and_left p (q && (r && (t && (u && (x && (y && sealed s)))))) e);
      few = leb-true m most_extents (and_left u (x && (y && sealed s)) e₄);
      information = (lengths s 0 d n (and_left x (y && sealed s) e₅)).information;
      extents-laid = and_left y (sealed s) e₆;
    }

-- ---- what was recorded

-- the totals of laid extents
total-fits : (kinds : List ℕ) (b : ℕ) (es : List Extent) → laid kinds b es ≡ true → total_length es ≤ 1073741824 * length es
unfolding total_length
total-fits kinds b [] t = omega arith
total-fits kinds b (e ∷ es) t =
    let l : Laid kinds b e es = laid-tells kinds b e es t in
    omega (arith, l.first.short, total-fits kinds b es l.rest)

sectors-fit : (kinds : List ℕ) (b : ℕ) (es : List Extent) → laid kinds b es ≡ true → total_sectors es ≤ 1073741824 * length es
unfolding total_sectors
sectors-fit kinds b [] t = omega arith
sectors-fit kinds b (e ∷ es) t =
    let l : Laid kinds b e es = laid-tells kinds b e es t in
    omega (arith, l.first.short, sectors-fit kinds b es l.rest)

all_fit : (kinds : List ℕ) (b : ℕ) (es : List Extent) → b < 4294967296 → laid kinds b es ≡ true → AllFit es
all_fit kinds b [] small t = tt
all_fit kinds b (e ∷ es) small t =
    let l : Laid kinds b e es = laid-tells kinds b e es t in
    (omega (arith, l.first.short), omega (arith, l.first.below), all_fit kinds b es small l.rest)

entry-lays : (es : List Extent) (b : ℕ) → entry es b ≡ lay (laid_over es b) (seal_rows (laid_over es b))
entry-lays es b = entry-seals es b ∙ seal-lays (laid_over es b)

pub length-entry : (es : List Extent) (b : ℕ) → length (entry es b) ≡ sector_length
length-entry es b = ap length (entry-lays es b) ∙ length-lay (seal_rows (laid_over es b)) (laid_over es b) ∙ length-laid es b

module _ (kinds : List ℕ) (es : List Extent) (b : ℕ) (small : b < 4294967296) (some : 1 ≤ length es) (few : length es ≤ most_extents) (on-data : laid kinds b es ≡ true) where
  -- sealing spares the header
  held : holds (entry es b) (header es b) ≡ true
  unfolding laid_over length_rows own_rows file_rows
  held =
      ap (λ (l : List ℕ). holds l (header es b)) (entry-lays es b)
      ∙ holds-spared (header es b) (seal_rows (laid_over es b)) (laid_over es b) tt
      ∙ holds-lay (header es b) (body es) tt 176 tt (omega (arith, length-body es))
      (omega (arith, total-fits kinds b es on-data, sectors-fit kinds b es on-data))

  sums-held : sealed (entry es b) ≡ true
  sums-held = ap sealed (entry-seals es b) ∙ sealed-seal (laid_over es b) (omega (arith, length-laid es b))

  -- header and sums end before the descriptors
  descriptors-stand : drop descriptors_at (entry es b) ≡ descriptors es ++ drop (descriptors_at + descriptors_length (length es)) (replicate sector_length 0)
  unfolding laid_over length_rows own_rows file_rows station_name
  descriptors-stand =
      let zeros : List ℕ = replicate sector_length 0 in
      let inside : descriptors_at + length (descriptors es) ≤ length zeros = omega (arith, length-descriptors es, length-replicate {A = ℕ} sector_length 0) in
      ap (drop descriptors_at) (entry-lays es b)
      ∙ drop-lay (seal_rows (laid_over es b)) (laid_over es b) descriptors_at tt
      ∙ drop-lay (header es b) (body es) descriptors_at tt
      ∙ drop-sets-after station_name (sets zeros descriptors_at (descriptors es)) station_at descriptors_at (lit≤ tt)
      ∙ drop-sets (descriptors es) zeros descriptors_at inside
      ∙ ap (λ (k : ℕ). descriptors es ++ drop (descriptors_at + k) zeros) (length-descriptors es)

  -- the header's parts, one by one
  abbrev sizes : List Row
  sizes = length_rows 0 (descriptors_length (length es)) (total_length es)

  rows-held : holds (entry es b) (entry_rows tag_version file_type b) ≡ true
  rows-held =
      let s : List ℕ = entry es b in
      and_left (holds s (entry_rows tag_version file_type b)) (holds s (sizes ++ (own_rows 0 ++ file_rows es))) (sym (holds-append (entry_rows tag_version file_type b) (sizes ++ (own_rows 0 ++ file_rows es)) s) ∙ held)

  rest-held : (holds (entry es b) sizes && holds (entry es b) (own_rows 0 ++ file_rows es)) ≡ true
  rest-held =
      let s : List ℕ = entry es b in
      sym (holds-append sizes (own_rows 0 ++ file_rows es) s)
      ∙ and_right (holds s (entry_rows tag_version file_type b)) (holds s (sizes ++ (own_rows 0 ++ file_rows es))) (sym (holds-append (entry_rows tag_version file_type b) (sizes ++ (own_rows 0 ++ file_rows es)) s) ∙ held)

  sizes-held : holds (entry es b) sizes ≡ true
  sizes-held = and_left (holds (entry es b) sizes) (holds (entry es b) (own_rows 0 ++ file_rows es)) rest-held

  plain : allocation_type (entry es b) ≡ 0
  unfolding holds own_rows
  plain =
      let s : List ℕ = entry es b in
      let tail : Bool = eqb (read_le 4 s 36) unused && (eqb (read_le 4 s 40) unused && (eqb (read_le 4 s 108) 1 && holds s (file_rows es))) in
      let most : Bool = eqb (read_le 2 s 24) 1 in
      let flags : Bool = eqb (read_le 2 s 34) 0 in
      let own : (most && (flags && tail)) ≡ true = and_right (holds s sizes) (holds s (own_rows 0 ++ file_rows es)) rest-held in
      rw (eqb-true (read_le 2 s 34) 0 (and_left flags tail (and_right most (flags && tail) own)))

  counted : extent_count (entry es b) ≡ length es
  unfolding extent_count
  counted = omega (arith, (lengths (entry es b) 0 (descriptors_length (length es)) (total_length es) sizes-held).descriptors)

  listed : extents_of (entry es b) ≡ es
  listed =
      ap (λ (m : ℕ). extents_from m (entry es b) descriptors_at) counted
      ∙ extents-read es (entry es b) (drop (descriptors_at + descriptors_length (length es)) (replicate sector_length 0)) descriptors_at (all_fit kinds b es small on-data) descriptors-stand

  pub reads-back : (is_entry kinds (entry es b) b ≡ true) × (extents_of (entry es b) ≡ es)
  unfolding is_entry
  reads-back =
      let s : List ℕ = entry es b in (
        rw (eq-eqb (length s) sector_length (length-entry es b), rows-held, plain, listed, counted, le-leb 1 (length es) some, le-leb (length es) most_extents few, sizes-held, on-data, sums-held),
        listed,
      )
