-- A run (document 02, R-6: "Runs longer than a block") and its entry: "an ordinary file entry" (ECMA-167 4/14.9) whose short allocation descriptors name
-- the extents that hold it. Which sectors are such entries, what a run holds, and the entry that is recorded for a list of extents.
use Rattle.std.specs.Prelude.{ℕ, ◌+◌, ◌*◌, ◌/◌, ◌%◌, Bool, true, ◌&&◌, List, [], ◌∷◌, ◌++◌, eqb, ltb, leb, length, take, drop, replicate}
use Rattle.std.proofs.lemmas.List.Edits.{sets}
use Rattle.le.specs.Bytes.{every}
use Rattle.le.specs.Field.{Row, row, read_le, holds, lay}
use Rattle.tag.specs.Tag.{sealed, seal}
use Rattle.vat.specs.Table.{sector_length, table_start, tag_version, entry_rows, length_rows, allocation_type}
use Rattle.vat.specs.Sector.{own_rows, station_at, station_name}
use Rattle.extent.specs.declared.Extent.{Extent}
use Rattle.extent.specs.Extents.{extent, descriptors_length, extents_from, descriptors, total_length}
use Rattle.disc.specs.Disc.{Disc, sector_at}

-- "1 to 100 short allocation descriptors", which start where there are "no attributes". "The information length is their total."
abbrev pub most_extents : ℕ
most_extents = 100

abbrev pub descriptors_at : ℕ
descriptors_at = table_start 0

unfoldable pub extent_count : List ℕ → ℕ
extent_count s = read_le 4 s 172 / 8

abbrev pub extents_of : List ℕ → List Extent
extents_of s = extents_from (extent_count s) s descriptors_at

-- The sectors that an extent takes, the last of them in part.
abbrev pub sectors_for : Extent → ℕ
sectors_for e = (e.length + 2047) / sector_length

-- "Every extent is recorded data below the entry's block, .. none empty", on a disc with these kinds. "Of extent type 0": the high two bits of its
-- length are 0.
unfoldable pub lies : List ℕ → ℕ → Extent → Bool
lies kinds b e =
    let n : ℕ = sectors_for e in
    ltb 0 e.length
    && (ltb e.length 1073741824 && (leb (e.location + n) b && every (λ k. eqb k 1) (take n (drop e.location kinds))))

-- "whole sectors but the last".
abbrev pub whole_before : Extent → List Extent → Bool
whole_before e [] = true
whole_before e (f ∷ es) = eqb (e.length % sector_length) 0

unfoldable pub laid : List ℕ → ℕ → List Extent → Bool
laid kinds b [] = true
laid kinds b (e ∷ es) = lies kinds b e && (whole_before e es && laid kinds b es)

-- The sector s at block b is the entry of a run: "file type 5, version 2, strategy 4, no attributes, allocation type 0". The costly CRC comes last.
abbrev pub file_type : ℕ
file_type = 5

unfoldable pub is_entry : List ℕ → List ℕ → ℕ → Bool
is_entry kinds s b =
    let m : ℕ = extent_count s in
    eqb (length s) sector_length
    && (holds s (entry_rows tag_version file_type b)
    && (eqb (allocation_type s) 0
    && (leb 1 m
    && (leb m most_extents
    && (holds s (length_rows 0 (descriptors_length m) (total_length (extents_of s))) && (laid kinds b (extents_of s) && sealed s))))))

-- On a disc: the sector at block b is such an entry; and the run's bytes, extent behind extent.
abbrev pub entry_at : Disc → ℕ → Bool
entry_at d b = is_entry d.kinds (sector_at d b) b

abbrev pub extents_at : Disc → ℕ → List Extent
extents_at d b = extents_of (sector_at d b)

unfoldable pub extent_bytes : Disc → Extent → List ℕ
extent_bytes d e = take e.length (drop (sector_length * e.location) d.image)

unfoldable pub run_bytes : Disc → List Extent → List ℕ
run_bytes d [] = []
run_bytes d (e ∷ es) = extent_bytes d e ++ run_bytes d es

-- The entry that is recorded for a list of extents at block b. Beside what is asked of it, it tells its sectors, has one link, and all may read it.
unfoldable pub total_sectors : List Extent → ℕ
total_sectors [] = 0
total_sectors (e ∷ es) = sectors_for e + total_sectors es

unfoldable pub file_rows : List Extent → List Row
file_rows es =
    row 44 4 0x1084  -- permissions: owner, group and others may read
    ∷ row 48 2 1  -- link count
    ∷ row 64 8 (total_sectors es)  -- logical blocks recorded
    ∷ []

unfoldable pub entry : List Extent → ℕ → List ℕ
entry es b =
    seal (lay (sets (sets (replicate sector_length 0) descriptors_at (descriptors es)) station_at station_name)
    (entry_rows tag_version file_type b ++ (length_rows 0 (descriptors_length (length es)) (total_length es) ++ (own_rows 0 ++ file_rows es))))

-- The extents that words of 32 bits tell, length and block by turns.
unfoldable pub paired : List ℕ → List Extent
paired [] = []
paired (n ∷ []) = []
paired (n ∷ b ∷ words) = extent n b ∷ paired words
