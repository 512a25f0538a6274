-- `crc::sum` meets its contract: the CRC so far and the bytes that are left give the answer.
-- Assumes nothing.
use Prim.Native.Nat.{ℕ, ◌+◌, ◌-◌, ◌*◌, ◌^◌, ◌/◌, ◌%◌}
use mathlib.Core.Path.{◌≡◌, ap, sym, ◌∙◌}
use mathlib.Core.List.{List}
use native.Mathlib.Nat.{mod-lt}
use native.Mathlib.Omega.{arith}
use lib.Bits.{bit_xor, xor_zero_l, xor_zero_r}
use lib.Dec.{lit<}
use lib.ListN.{get_or}
use Rattle.crc.specs.Crc.{byte_step}
use Rattle.crc.specs.Number.{crc_of_number, zero_bits}
use Rattle.crc.proofs.Linear.{bits-of-zero}
use Rattle.crc.proofs.Taken.{highest-taken, byte-there}
use Rattle.crc.proofs.Entries.{table_step}
use Rattle.crc.proofs.sum.Goals as goal

pub loop-byte-init : goal.loop-byte-init
loop-byte-init c =
    let k : ℕ = crc_of_number 64 c.args.x in ap (λ (e : ℕ). bit_xor e k) (bits-of-zero 64) ∙ xor_zero_l k

pub loop-byte-preserved : goal.loop-byte-preserved
loop-byte-preserved c =
    let w = c.loop-byte in
    let x : ℕ = c.args.x in
    let i : ℕ = w.byte-index in
    let j : ℕ = 8 - (i + 1) in
    let high : ℕ = x / 2 ^ (8 * j) % 256 in
    let byte : get_or c.to_be_bytes-byte-items.result i 0 ≡ high =
    ap (λ (l : List ℕ). get_or l i 0) c.to_be_bytes-byte-items.ensures ∙ byte-there 8 i j x (omega arith) in
    let step : bit_xor (w.c * 256 % 65536) (get_or c.args.table.now c.from.result 0) ≡ byte_step w.c high =
    table_step c.args.table.now w.c c.from.result high c.requires (omega arith) (mod-lt (x / 2 ^ (8 * j)) (lit< tt)) (c.from.ensures ∙ ap (bit_xor (w.c / 256)) byte) in
    let more : 8 * j + 8 ≡ 8 * (8 - i) = omega arith in
    ap (λ (e : ℕ). bit_xor (zero_bits (8 * j) e) (crc_of_number (8 * j) x)) step
    ∙ highest-taken (8 * j) w.c x (omega arith)
    ∙ ap (λ (n : ℕ). bit_xor (zero_bits n w.c) (crc_of_number n x)) more
    ∙ w.invariant

pub returns : goal.returns
unfolding zero_bits crc_of_number
returns c =
    let w = c.loop-byte in
    let none : 8 * (8 - w.byte-index) ≡ 0 = omega arith in
    sym (xor_zero_r w.c) ∙ rw none at w.invariant
