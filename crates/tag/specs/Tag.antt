-- The sums in the tag of a descriptor (ECMA-167 3/7.2; document 01, 'The table sector at block b', bytes 4, 8 and 10; document 02, R-5).
-- They are the same for every descriptor; a descriptor's own rows stand with it.
use Rattle.std.specs.Prelude.{ℕ, ◌+◌, ◌%◌, Bool, ◌&&◌, List, eqb, take, drop}
use Rattle.le.specs.Bytes.{total}
use Rattle.le.specs.Field.{read_le, put_le}
use Rattle.crc.specs.Crc.{crc_of}

-- Byte 4: "sum of bytes 0 to 3 and 5 to 15, modulo 256".
unfoldable pub checksum : List ℕ → ℕ
checksum s = (total (take 4 s) + total (take 11 (drop 5 s))) % 256

-- Byte 10, 16 bits: the CRC length.
abbrev pub crc_length : List ℕ → ℕ
crc_length s = read_le 2 s 10

-- Byte 8, 16 bits: the CRC "over CRC-length bytes from byte 16".
unfoldable pub body_crc : List ℕ → ℕ
body_crc s = crc_of (take (crc_length s) (drop 16 s))

-- "a right tag checksum": the tag of s holds its own sum.
unfoldable pub summed : List ℕ → Bool
summed s = eqb (read_le 1 s 4) (checksum s)

-- The descriptor s holds both of its sums.
unfoldable pub sealed : List ℕ → Bool
sealed s = summed s && eqb (read_le 2 s 8) (body_crc s)

-- The descriptor s with its CRC put, then its checksum, which sums the CRC too.
abbrev pub checked : List ℕ → List ℕ
checked s = put_le 1 s 4 (checksum s)

unfoldable pub seal : List ℕ → List ℕ
seal s = checked (put_le 2 s 8 (body_crc s))
