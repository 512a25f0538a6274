-- The CRC of ECMA-167 3/7.2.6 (document 01: "CRC: 16 bits, polynomial hex 1021, start 0, high bit first"), and the table that it is taken from.
use Rattle.std.specs.Prelude.{ℕ, zero, suc, ◌*◌, ◌/◌, ◌%◌, ◌<◌, ◌≡◌, Bool, true, false, List, [], ◌∷◌, eqb, length, get_or}
use Rattle.std.specs.Int.Bits.{bit_xor}

abbrev pub polynomial : ℕ
polynomial = 0x1021

-- The 16 bits moved up by one, with the polynomial taken out if the high bit left.
abbrev pub reduced : Bool → ℕ → ℕ
reduced true c = bit_xor (c * 2 % 65536) polynomial
reduced false c = c * 2 % 65536

abbrev pub bit_step : ℕ → ℕ
bit_step c = reduced (eqb (c / 32768) 1) c

abbrev pub bit_steps : ℕ → ℕ → ℕ
bit_steps zero c = c
bit_steps (suc n) c = bit_steps n (bit_step c)

-- A byte enters at the high end, and its eight bits leave one by one.
unfoldable pub byte_step : ℕ → ℕ → ℕ
byte_step c x = bit_steps 8 (bit_xor c (x * 256))

unfoldable pub crc_from : ℕ → List ℕ → ℕ
crc_from c [] = c
crc_from c (x ∷ xs) = crc_from (byte_step c x) xs

abbrev pub crc_of : List ℕ → ℕ
crc_of s = crc_from 0 s

-- Document 02: "a table of 256 numbers. Entry i is the CRC of the one byte i".
pub record OneByteSums (table : List ℕ) : Type 0 where
  pub count : length table ≡ 256
  pub entry : (i : ℕ) → i < 256 → get_or table i 0 ≡ crc_of (i ∷ [])
