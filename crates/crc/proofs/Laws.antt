-- The CRC has 16 bits, and one of the bytes that are left is taken.
-- Assumes nothing.
use Prim.Native.Nat.{ℕ, zero, suc, ◌+◌, ◌*◌, ◌/◌, ◌%◌, ◌<◌}
use native.Mathlib.Nat.{mod-lt}
use native.Mathlib.Numerals.{add-one}
use mathlib.Core.Path.{◌≡◌}
use mathlib.Core.Bool.{Bool, true, false}
use mathlib.Core.List.{List, [], ◌∷◌}
use lib.Bits.{bit_xor, xor_lt}
use lib.Dec.{eqb, lit<}
use lib.ListN.{length, drop, get_or}
use lib.Seq.{drop-cons}
use Rattle.crc.specs.Crc.{polynomial, reduced, bit_step, bit_steps, byte_step, crc_from, crc_of}

-- one of the bytes that are left is taken
pub byte-taken : (c i : ℕ) (s : List ℕ) → i < length s → crc_from c (drop i s) ≡ crc_from (byte_step c (get_or s i 0)) (drop (i + 1) s)
unfolding crc_from
byte-taken c i s h = rw (drop-cons s i 0 h, add-one)

reduced-lt : (t : Bool) (c : ℕ) → reduced t c < 65536
reduced-lt true c = xor_lt 16 (c * 2 % 65536) polynomial (mod-lt (c * 2) (lit< tt)) (lit< tt)
reduced-lt false c = mod-lt (c * 2) (lit< tt)

pub bit_step-lt : (c : ℕ) → bit_step c < 65536
bit_step-lt c = reduced-lt (eqb (c / 32768) 1) c

pub bit_steps-lt : (n c : ℕ) → c < 65536 → bit_steps n c < 65536
bit_steps-lt zero c h = h
bit_steps-lt (suc n) c h = bit_steps-lt n (bit_step c) (bit_step-lt c)

pub byte_step-lt : (c x : ℕ) → byte_step c x < 65536
unfolding byte_step
byte_step-lt c x = let d : ℕ = bit_xor c (x * 256) in bit_steps-lt 7 (bit_step d) (bit_step-lt d)

crc_from-lt : (c : ℕ) (s : List ℕ) → c < 65536 → crc_from c s < 65536
unfolding crc_from
crc_from-lt c [] h = h
crc_from-lt c (x ∷ xs) h = crc_from-lt (byte_step c x) xs (byte_step-lt c x)

pub crc-lt : (s : List ℕ) → crc_of s < 65536
crc-lt s = crc_from-lt 0 s (lit< tt)
