-- What the recording function needs of the entry's definition, on plain values.
-- Assumes nothing.
use Prim.Native.Nat.{ℕ, ◌+◌, ◌≤◌}
use native.Mathlib.Omega.{arith}
use mathlib.Core.Path.{◌≡◌, refl, ◌∙◌}
use mathlib.Core.List.{List, [], ◌∷◌, ◌++◌}
use lib.ListN.{length, replicate, length-replicate}
use lib.Seq.{sets, length-sets}
use Rattle.le.specs.Field.{Row, row, lay}
use Rattle.le.proofs.Rows.{length-lay, lay-append, read-laid}
use Rattle.tag.specs.Tag.{crc_length, seal}
use Rattle.vat.specs.Table.{sector_length, tag_version, entry_rows, length_rows}
use Rattle.vat.specs.Sector.{own_rows, station_at, station_name}
use Rattle.extent.specs.declared.Extent.{Extent}
use Rattle.extent.specs.Extents.{descriptors_length, descriptors, total_length}
use Rattle.run.specs.Entry.{most_extents, descriptors_at, file_type, file_rows, entry}

-- the descriptors and the name over zeros, and the rows that are laid over them
abbrev pub body : List Extent → List ℕ
body es = sets (sets (replicate sector_length 0) descriptors_at (descriptors es)) station_at station_name

abbrev pub header : List Extent → ℕ → List Row
header es b = entry_rows tag_version file_type b ++ (length_rows 0 (descriptors_length (length es)) (total_length es) ++ (own_rows 0 ++ file_rows es))

unfoldable pub laid_over : List Extent → ℕ → List ℕ
laid_over es b = lay (body es) (header es b)

pub entry-seals : (es : List Extent) (b : ℕ) → entry es b ≡ seal (laid_over es b)
unfolding entry laid_over
entry-seals es b = refl

pub length-body : (es : List Extent) → length (body es) ≡ sector_length
length-body es =
    length-sets (sets (replicate sector_length 0) descriptors_at (descriptors es)) station_at station_name
    ∙ length-sets (replicate sector_length 0) descriptors_at (descriptors es)
    ∙ length-replicate {A = ℕ} sector_length 0

pub length-laid : (es : List Extent) (b : ℕ) → length (laid_over es b) ≡ sector_length
unfolding laid_over
length-laid es b = length-lay (header es b) (body es) ∙ length-body es

-- what is sealed has the CRC length of its row
pub crc-length : (es : List Extent) (b : ℕ) → length es ≤ most_extents → crc_length (laid_over es b) ≡ 160 + descriptors_length (length es)
unfolding laid_over length_rows own_rows file_rows
crc-length es b few =
    let m : ℕ = descriptors_length (length es) in
    let n : ℕ = total_length es in
    read-laid (entry_rows tag_version file_type b ++ (row 168 4 0 ∷ row 172 4 m ∷ row 56 8 n ∷ [])) (own_rows 0 ++ file_rows es) (row 10 2 (160 + m)) (body es) tt (omega (arith, length-body es)) (omega arith)

-- the rows laid part by part
pub header-laid : (es : List Extent) (b : ℕ)
    → lay (lay (lay (lay (body es) (entry_rows tag_version file_type b)) (length_rows 0 (descriptors_length (length es)) (total_length es))) (own_rows 0)) (file_rows es) ≡ laid_over es b
unfolding laid_over
header-laid es b =
    let sizes : List Row = length_rows 0 (descriptors_length (length es)) (total_length es) in
    let s : List ℕ = lay (body es) (entry_rows tag_version file_type b) in
    rw (lay-append (entry_rows tag_version file_type b) (sizes ++ (own_rows 0 ++ file_rows es)) (body es), lay-append sizes (own_rows 0 ++ file_rows es) s, lay-append (own_rows 0) (file_rows es) (lay s sizes))
