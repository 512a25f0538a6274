-- The CRC of a number, whose bits enter one after the other, the highest first. The functions that take words promise this; no promise to another crate cites it.
use Rattle.std.specs.Prelude.{ℕ, zero, suc, ◌+◌, ◌*◌, ◌/◌, ◌%◌, List, get_or}
use Rattle.std.specs.Int.Bits.{bit_xor}
use Rattle.crc.specs.Crc.{bit_step, bit_steps}

-- Of the n lowest bits of a number.
unfoldable pub crc_of_number : ℕ → ℕ → ℕ
crc_of_number zero x = 0
crc_of_number (suc n) x = bit_step (bit_xor (crc_of_number n (x / 2)) (x % 2 * 32768))

-- What a CRC becomes by n bits 0.
unfoldable pub zero_bits : ℕ → ℕ → ℕ
zero_bits n c = bit_steps n c

-- The n bytes from `at` on as one number, the first byte highest.
unfoldable pub number_at : List ℕ → ℕ → ℕ → ℕ
number_at s at zero = 0
number_at s at (suc n) = number_at s at n * 256 + get_or s (at + n) 0
