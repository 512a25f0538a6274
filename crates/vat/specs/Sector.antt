-- The ICB that commit records (document 01: "What commit records"; document 02 for times and larger tables), every byte of it.
use Rattle.std.specs.Prelude.{ℕ, List, [], ◌∷◌, ◌++◌, length, replicate}
use Rattle.std.proofs.lemmas.List.Edits.{sets}
use Rattle.le.specs.Field.{Row, row, le, le_words, lay}
use Rattle.extent.specs.Extents.{descriptors}
use Rattle.tag.specs.Tag.{seal}
use Rattle.timestamp.specs.Timestamp.{stamp_length}
use Rattle.vat.specs.Table.{sector_length, unused, table_start, plain_rows, length_rows, table_name, modified_at}
use Rattle.vat.specs.Own.{extents_at}

-- "table regid flags 0, suffix hex 50 01 and six zeros".
unfoldable pub table_regid : List ℕ
table_regid = 0 ∷ (table_name ++ (0x50 ∷ 0x01 ∷ 0 ∷ 0 ∷ 0 ∷ 0 ∷ 0 ∷ 0 ∷ []))

-- "Table: entries of 32 bits, a 32-byte regid, the previous table's block".
unfoldable pub table_bytes : List ℕ → ℕ → List ℕ
table_bytes map previous = le_words map ++ (table_regid ++ le 4 previous)

-- Rows that are recorded and not tested, and the flags, of which only the low three bits are tested, the allocation type.
unfoldable pub own_rows : ℕ → List Row
own_rows allocation =
    row 24 2 1  -- maximum entries
    ∷ row 34 2 allocation  -- flags
    ∷ row 36 4 unused  -- user
    ∷ row 40 4 unused  -- group
    ∷ row 108 4 1  -- checkpoint
    ∷ []

-- "implementation regid (128) flags 0, then `*Bench Station`, then zeros".
abbrev pub station_at : ℕ
station_at = 129

unfoldable pub station_name : List ℕ
station_name = 42 ∷ 66 ∷ 101 ∷ 110 ∷ 99 ∷ 104 ∷ 32 ∷ 83 ∷ 116 ∷ 97 ∷ 116 ∷ 105 ∷ 111 ∷ 110 ∷ []

-- A timestamp "as access, modification and attribute time"; of a commit without one there are zeros.
abbrev pub access_at : ℕ
access_at = 72

abbrev pub attribute_at : ℕ
attribute_at = 96

unfoldable pub timed : List ℕ → List ℕ → List ℕ
timed stamp s = sets (sets (sets s access_at stamp) modified_at stamp) attribute_at stamp

abbrev pub no_stamp : List ℕ
no_stamp = replicate stamp_length 0

-- What stands behind the header: the table, or the descriptors of its own sectors, which lie at these blocks. The allocation type tells which.
abbrev pub described : List ℕ → List ℕ → List ℕ
described table [] = table
described table (c ∷ cs) = descriptors (extents_at (length table) (c ∷ cs))

abbrev pub allocation_for : List ℕ → ℕ
allocation_for [] = 3
allocation_for (c ∷ cs) = 0

-- That, the name and the times over zeros: "Everything else is zero, up to byte 2047."
unfoldable pub body : List ℕ → List ℕ → List ℕ → List ℕ
body table blocks stamp = timed stamp (sets (sets (replicate sector_length 0) (table_start 0) (described table blocks)) station_at station_name)

-- The header. "Our commit [..] records none" of the attributes. Of own sectors "we record that number as logical blocks".
unfoldable pub icb_rows : List ℕ → List ℕ → ℕ → List Row
icb_rows table blocks b =
    plain_rows b
    ++ (length_rows 0 (length (described table blocks)) (length table) ++ (own_rows (allocation_for blocks) ++ (row 64 8 (length blocks) ∷ [])))

-- The ICB for a table's bytes, the blocks of its own sectors, none where the ICB holds it, a timestamp and the block b that it is recorded at.
unfoldable pub icb : List ℕ → List ℕ → List ℕ → ℕ → List ℕ
icb table blocks stamp b = seal (lay (body table blocks stamp) (icb_rows table blocks b))
