-- A table of the virtual allocation table (ECMA-167 4/14.9, UDF 1.50 2.2.10; document 01, 'The table sector at block b', and document 02 for attributes,
-- times and larger tables), in three steps: its ICB, the table's bytes, which stand behind the ICB's extended attributes or in sectors of their own, and what
-- these bytes hold.
use Rattle.std.specs.Prelude.{ℕ, ◌+◌, ◌-◌, ◌*◌, ◌/◌, ◌%◌, Bool, true, false, ◌&&◌, ◌||◌, List, [], ◌∷◌, ◌++◌, eqb, ltb, leb, length, take, drop}
use Rattle.std.specs.Prelude.{Option, None, Some}
use Rattle.le.specs.Bytes.{every, holds_text}
use Rattle.le.specs.Field.{Row, row, read_le, holds, words}
use Rattle.extent.specs.declared.Extent.{Extent}
use Rattle.extent.specs.Extents.{descriptors_length, extents_from, total_length}
use Rattle.tag.specs.Tag.{sealed}
use Rattle.timestamp.specs.Timestamp.{stamp_length}

-- A sector has 2048 bytes.
abbrev pub sector_length : ℕ
sector_length = 2048

-- "1 to 8 sectors of its own", and the bytes that these hold.
abbrev pub most_own : ℕ
most_own = 8

abbrev pub most_bytes : ℕ
most_bytes = sector_length * most_own

-- "The limit becomes 4,087 numbers": as many as fit into these.
abbrev pub limit : ℕ
limit = 4087

-- An unused entry, and a missing previous table: hex FFFFFFFF.
abbrev pub unused : ℕ
unused = 0xFFFFFFFF

-- A block that a sector at block b may name: it is "FFFFFFFF or less than b".
abbrev pub unused_or_below : ℕ → ℕ → Bool
unused_or_below b x = ltb x b || eqb x unused

-- What can be read below a block, by its number: the bytes of a sector.
abbrev pub Lower : Type 0
Lower = ℕ → Option (List ℕ)

-- ---- the ICB

-- "The table [..] starts at 176 + attribute length"; between them the attributes, of which nothing is asked.
abbrev pub table_start : ℕ → ℕ
table_start a = 176 + a

-- "descriptor version 2", of every tag that is recorded, and of a file entry that is recognised.
abbrev pub tag_version : ℕ
tag_version = 2

-- Rows that every file entry has: its version, its file type t and its block b settle them. "Its tag, sums and location hold as a table sector's do"
-- (document 02, R-6).
abbrev pub entry_rows : ℕ → ℕ → ℕ → List Row
entry_rows version t b =
    row 0 2 261  -- tag identifier
    ∷ row 2 2 version  -- descriptor version
    ∷ row 5 1 0  -- zero
    ∷ row 12 4 b  -- tag location
    ∷ row 20 2 4  -- strategy
    ∷ row 27 1 t  -- file type
    ∷ []

-- Rows whose number the format or the block b settles.
unfoldable pub plain_rows : ℕ → List Row
plain_rows b = entry_rows tag_version 0 b ++ (row 48 2 0 ∷ [])  -- link count

-- The lengths of a file entry: of its attributes, of its descriptors and of what it holds.
unfoldable pub length_rows : ℕ → ℕ → ℕ → List Row
length_rows attributes descriptors information =
    row 168 4 attributes
    ∷ row 172 4 descriptors
    ∷ row 56 8 information
    ∷ row 10 2 (160 + attributes + descriptors)  -- CRC length
    ∷ []

-- Byte 34, 16 bits: the flags, whose low three bits are the allocation type; of a table "3, embedded", or 0, in "sectors of its own".
abbrev pub allocation_type : List ℕ → ℕ
allocation_type s = read_le 2 s 34 % 8

abbrev pub embedded : List ℕ → Bool
embedded s = eqb (allocation_type s) 3

abbrev pub outside : List ℕ → Bool
outside s = eqb (allocation_type s) 0

-- The attribute length, at byte 168, and the descriptor length, at byte 172: of what stands behind the attributes.
unfoldable pub attribute_length : List ℕ → ℕ
attribute_length s = read_le 4 s 168

unfoldable pub described_length : List ℕ → ℕ
described_length s = read_le 4 s 172

-- ICB, attributes and what stands behind them together, by the lengths that the sector tells. "000 asks that ICB and file together be less than a sector:
-- 176 + 4 × N + 36 < 2048", so that at most 458 entries stand there.
abbrev pub whole_length : List ℕ → ℕ
whole_length s = table_start (attribute_length s) + described_length s

-- The attribute length is "a multiple of 4", "and the whole must stay below one sector".
abbrev pub placed : List ℕ → Bool
placed s = eqb (attribute_length s % 4) 0 && ltb (whole_length s) sector_length

-- "sectors of its own, each named by a short allocation descriptor in the ICB": those behind the attributes. An embedded table has none.
abbrev pub own_if : Bool → List Extent → List Extent
own_if true extents = []
own_if false extents = extents

unfoldable pub own_of : List ℕ → List Extent
own_of s = own_if (embedded s) (extents_from (described_length s / 8) s (table_start (attribute_length s)))

-- The lengths of an ICB: "descriptor length = table length", "information length = table length"; of own sectors "the descriptor length is 8 times the
-- number of own sectors", and the table is as long as all of them.
unfoldable pub measured : List ℕ → Bool
measured s =
    let a : ℕ = attribute_length s in
    let n : ℕ = described_length s in
    let m : ℕ = length (own_of s) in
    (embedded s && holds s (length_rows a n n))
    || (outside s && (leb 1 m && (leb m most_own && holds s (length_rows a (descriptors_length m) (total_length (own_of s))))))

-- The ICB of a table, but for the sums.
unfoldable pub framed : List ℕ → ℕ → Bool
framed s b = holds s (plain_rows b) && (placed s && measured s)

-- The modification time, at byte 84: a timestamp, of which the recognition asks nothing.
abbrev pub modified_at : ℕ
modified_at = 84

unfoldable pub modified_of : List ℕ → List ℕ
modified_of s = take stamp_length (drop modified_at s)

-- ---- the table's bytes

-- A sector that can be read, and its bytes.
abbrev pub is_there : Option (List ℕ) → Bool
is_there None = false
is_there (Some s) = true

abbrev pub bytes_of : Option (List ℕ) → List ℕ
bytes_of None = []
bytes_of (Some s) = s

-- Own sectors: "allocation and extent type 0, blocks below the ICB, kind 1, full but the last, none empty". An extent of another type has a length above a
-- sector's.
unfoldable pub lies : Lower → Extent → Bool
lies lower e = ltb 0 e.length && (leb e.length sector_length && is_there (lower e.location))

abbrev pub full_before : Extent → List Extent → Bool
full_before e [] = true
full_before e (f ∷ es) = eqb e.length sector_length

unfoldable pub laid : Lower → List Extent → Bool
laid lower [] = true
laid lower (e ∷ es) = lies lower e && (full_before e es && laid lower es)

-- The bytes of all, one behind the other.
unfoldable pub joined : Lower → List Extent → List ℕ
joined lower [] = []
joined lower (e ∷ es) = take e.length (bytes_of (lower e.location)) ++ joined lower es

-- The bytes behind the attributes, as many as the ICB tells.
unfoldable pub inside : List ℕ → List ℕ
inside s = take (described_length s) (drop (table_start (attribute_length s)) s)

-- The table: these bytes, or those of its own sectors.
abbrev pub bytes_if : Bool → List ℕ → List ℕ → List ℕ
bytes_if true within apart = within
bytes_if false within apart = apart

unfoldable pub table_of : Lower → List ℕ → List ℕ
table_of lower s = bytes_if (embedded s) (inside s) (joined lower (own_of s))

-- ---- what they hold

-- "Table: entries of 32 bits, a 32-byte regid, the previous table's block (32 bits)." "The table length is 4 × N + 36 exactly."
abbrev pub table_length : ℕ → ℕ
table_length n = 4 * n + 36

-- Where the regid of a table of n entries stands.
abbrev pub regid_at : ℕ → ℕ
regid_at n = 4 * n

-- "Regid bytes 1 to 23 hold the text `*UDF Virtual Alloc Tbl` and one zero."
unfoldable pub table_name : List ℕ
table_name =
    42 ∷ 85 ∷ 68 ∷ 70 ∷ 32 ∷ 86 ∷ 105 ∷ 114 ∷ 116 ∷ 117 ∷ 97 ∷ 108 ∷ 32 ∷ 65 ∷ 108 ∷ 108 ∷ 111 ∷ 99 ∷ 32 ∷ 84 ∷ 98 ∷ 108 ∷ 0 ∷ []

-- "Entry count N = (length − 36) / 4".
unfoldable pub entry_count : List ℕ → ℕ
entry_count t = (length t - 36) / 4

-- The table's entries, and the previous table's block.
unfoldable pub entries_of : List ℕ → List ℕ
entries_of t = words (entry_count t) t 0

unfoldable pub previous_of : List ℕ → ℕ
previous_of t = read_le 4 t (regid_at (entry_count t) + 32)

-- All but the entries: the table's length, its regid, and its previous table.
unfoldable pub enclosed : List ℕ → ℕ → Bool
enclosed t b =
    let n : ℕ = entry_count t in
    eqb (length t) (table_length n) && (holds_text t (regid_at n + 1) table_name && unused_or_below b (previous_of t))

-- "Each entry and the previous block is FFFFFFFF or less than b."
unfoldable pub listed : List ℕ → ℕ → Bool
listed t b = enclosed t b && every (unused_or_below b) (entries_of t)

-- ---- a table

-- The sector s at block b is a table's, where this can be read below it. The costly CRC comes last.
unfoldable pub is_table : Lower → List ℕ → ℕ → Bool
is_table lower s b =
    eqb (length s) sector_length && (framed s b && (laid lower (own_of s) && (listed (table_of lower s) b && sealed s)))
