-- The CRC of a number: of a sum, of a number moved up, and of its high and its low bits.
-- Assumes nothing.
use Prim.Native.Nat.{ℕ, zero, suc, ◌+◌, ◌*◌, ◌^◌, ◌/◌, ◌%◌, ◌<◌}
use native.Mathlib.Nat.{add-zero, zero-add, add-suc, suc-add, mul-one, mul_assoc, mul_comm, div-one, div-eq_of_lt, mod-lt, pow-suc}
use native.Mathlib.Numerals.{add-one}
use native.Mathlib.Omega.{arith}
use mathlib.Core.Path.{◌≡◌, refl, ap, ap₂, sym, ◌∙◌}
use lib.Bits.{bit_xor, xor_lt, xor_zero_l, xor_zero_r, xor_shr, xor_mod, xor_shifted}
use lib.Dec.{lit<}
use lib.Pow.{pow_pos, shl-shr, shr-shr, shr_lt, split}
use Rattle.crc.specs.Crc.{bit_step, bit_steps}
use Rattle.crc.specs.Number.{crc_of_number, zero_bits}
use Rattle.crc.proofs.Xor.{xor_assoc, xor-swap, xor-scaled}
use Rattle.crc.proofs.Laws.{bit_step-lt}
use Rattle.crc.proofs.Linear.{bit_step-xor, bits-lt, bits-add, bits-of-zero}

-- ---- a sum

pub number_lt : (n x : ℕ) → crc_of_number n x < 65536
unfolding crc_of_number
number_lt zero x = lit< tt
number_lt (suc n) x = bit_step-lt (bit_xor (crc_of_number n (x / 2)) (x % 2 * 32768))

bit-lt : (x : ℕ) → x % 2 * 32768 < 65536
bit-lt x = let h : x % 2 < 2 = mod-lt x (lit< tt) in omega arith

entered-lt : (n x : ℕ) → bit_xor (crc_of_number n (x / 2)) (x % 2 * 32768) < 65536
entered-lt n x = xor_lt 16 (crc_of_number n (x / 2)) (x % 2 * 32768) (number_lt n (x / 2)) (bit-lt x)

pub number-xor : (n x y : ℕ) → crc_of_number n (bit_xor x y) ≡ bit_xor (crc_of_number n x) (crc_of_number n y)
unfolding crc_of_number
number-xor zero x y = refl
number-xor (suc n) x y =
    ap₂ (λ (h b : ℕ). bit_step (bit_xor (crc_of_number n h) (b * 32768))) (xor_shr x y 1) (xor_mod x y 1)
    ∙ ap₂ (λ (c e : ℕ). bit_step (bit_xor c e)) (number-xor n (x / 2) (y / 2)) (xor-scaled 15 (x % 2) (y % 2))
    ∙ ap (λ (c : ℕ). bit_step c) (xor-swap (crc_of_number n (x / 2)) (crc_of_number n (y / 2)) (x % 2 * 32768) (y % 2 * 32768))
    ∙ bit_step-xor (bit_xor (crc_of_number n (x / 2)) (x % 2 * 32768)) (bit_xor (crc_of_number n (y / 2)) (y % 2 * 32768)) (entered-lt n x) (entered-lt n y)

pub number-zero : (n : ℕ) → crc_of_number n 0 ≡ 0
unfolding crc_of_number
number-zero zero = refl
number-zero (suc n) = ap (λ (c : ℕ). bit_step (bit_xor c 0)) (number-zero n)

-- ---- moved up by k bits

number-double : (n x : ℕ) → crc_of_number (suc n) (x * 2) ≡ bit_step (crc_of_number n x)
unfolding crc_of_number
number-double n x =
    let half : x * 2 / 2 ≡ x = omega arith in
    let even : x * 2 % 2 ≡ 0 = omega arith in
    ap₂ (λ (h b : ℕ). bit_step (bit_xor (crc_of_number n h) (b * 32768))) half even
    ∙ ap (λ (c : ℕ). bit_step c) (xor_zero_r (crc_of_number n x))

number-shift : (k n x : ℕ) → crc_of_number (n + k) (x * 2 ^ k) ≡ zero_bits k (crc_of_number n x)
unfolding zero_bits
number-shift zero n x = ap₂ crc_of_number (add-zero n) (mul-one x)
number-shift (suc k) n x =
    let up : x * 2 ^ suc k ≡ x * 2 * 2 ^ k = ap (λ (p : ℕ). x * p) (pow-suc 2 k ∙ mul_comm (2 ^ k) 2) ∙ sym (mul_assoc x 2 (2 ^ k)) in
    ap₂ crc_of_number (add-suc n k ∙ sym (suc-add n k)) up
    ∙ number-shift k (suc n) (x * 2)
    ∙ ap (bit_steps k) (number-double n x)

-- ---- its high bits and its m low ones

after-bits : (m c : ℕ) → bit_step (zero_bits m c) ≡ zero_bits (suc m) c
unfolding zero_bits
after-bits m c = sym (ap (λ (n : ℕ). zero_bits n c) (sym (add-one m)) ∙ bits-add m 1 c)

pub number-split : (m n x : ℕ) → crc_of_number (n + m) x ≡ bit_xor (zero_bits m (crc_of_number n (x / 2 ^ m))) (crc_of_number m x)
unfolding crc_of_number zero_bits
number-split zero n x = ap₂ crc_of_number (add-zero n) (sym (div-one x)) ∙ sym (xor_zero_r (crc_of_number n (x / 1)))
number-split (suc m) n x =
    let e : ℕ = x % 2 * 32768 in
    let z : ℕ = zero_bits m (crc_of_number n (x / 2 / 2 ^ m)) in
    let low : ℕ = crc_of_number m (x / 2) in
    let deeper : x / 2 / 2 ^ m ≡ x / 2 ^ suc m = shr-shr x 1 m ∙ ap (λ (k : ℕ). x / 2 ^ k) (suc-add 0 m ∙ ap suc (zero-add m)) in
    ap (λ (k : ℕ). crc_of_number k x) (add-suc n m)
    ∙ ap (λ (c : ℕ). bit_step (bit_xor c e)) (number-split m n (x / 2))
    ∙ ap (λ (c : ℕ). bit_step c) (xor_assoc z low e)
    ∙ bit_step-xor z (bit_xor low e) (bits-lt m (crc_of_number n (x / 2 / 2 ^ m)) (number_lt n (x / 2 / 2 ^ m))) (entered-lt m x)
    ∙ ap (λ (c : ℕ). bit_xor c (bit_step (bit_xor low e))) (after-bits m (crc_of_number n (x / 2 / 2 ^ m)) ∙ ap (λ (y : ℕ). zero_bits (suc m) (crc_of_number n y)) deeper)

pub number_short : (m n x : ℕ) → x < 2 ^ m → crc_of_number (n + m) x ≡ crc_of_number m x
number_short m n x h =
    number-split m n x
    ∙ ap (λ (y : ℕ). bit_xor (zero_bits m (crc_of_number n y)) (crc_of_number m x)) (div-eq_of_lt h)
    ∙ ap (λ (c : ℕ). bit_xor (zero_bits m c) (crc_of_number m x)) (number-zero n)
    ∙ ap (λ (c : ℕ). bit_xor c (crc_of_number m x)) (bits-of-zero m)
    ∙ xor_zero_l (crc_of_number m x)

-- the bits above the n lowest are passed over
pub number-low : (n x : ℕ) → crc_of_number n (x % 2 ^ n) ≡ crc_of_number n x
unfolding crc_of_number
number-low n x =
    let high : ℕ = x / 2 ^ n in
    let parts : bit_xor (high * 2 ^ n) (x % 2 ^ n) ≡ x = xor_shifted high n (x % 2 ^ n) (mod-lt x (pow_pos n)) ∙ split x n in
    let none : crc_of_number n (high * 2 ^ n) ≡ 0 = ap (λ (k : ℕ). crc_of_number k (high * 2 ^ n)) (sym (zero-add n)) ∙ number-shift n 0 high ∙ bits-of-zero n in
    sym
    (ap (crc_of_number n) (sym parts)
    ∙ number-xor n (high * 2 ^ n) (x % 2 ^ n)
    ∙ ap (λ (c : ℕ). bit_xor c (crc_of_number n (x % 2 ^ n))) none
    ∙ xor_zero_l (crc_of_number n (x % 2 ^ n)))

-- k bits 0 behind a number of j + k bits: what leaves at the top, and what stays
pub carry : (j k x : ℕ) → x < 2 ^ (j + k)
    → zero_bits k (crc_of_number (j + k) x) ≡ bit_xor (zero_bits (j + k) (crc_of_number (j + k) (x / 2 ^ j))) (crc_of_number (j + k) (x * 2 ^ k % 2 ^ (j + k)))
carry j k x h =
    let order : j + k + k ≡ k + (j + k) = omega arith in
    let other : k + j ≡ j + k = omega arith in
    let high : x * 2 ^ k / 2 ^ (j + k) ≡ x / 2 ^ j =
    ap (λ (n : ℕ). x * 2 ^ k / 2 ^ n) (sym other) ∙ sym (shr-shr (x * 2 ^ k) k j) ∙ ap (λ (y : ℕ). y / 2 ^ j) (shl-shr x k) in
    let few : x / 2 ^ j < 2 ^ k = shr_lt k j (rw other h) in
    sym (number-shift k (j + k) x)
    ∙ ap (λ (n : ℕ). crc_of_number n (x * 2 ^ k)) order
    ∙ number-split (j + k) k (x * 2 ^ k)
    ∙ ap₂ (λ (y c : ℕ). bit_xor (zero_bits (j + k) (crc_of_number k y)) c) high (sym (number-low (j + k) (x * 2 ^ k)))
    ∙ ap (λ (c : ℕ). bit_xor (zero_bits (j + k) c) (crc_of_number (j + k) (x * 2 ^ k % 2 ^ (j + k)))) (sym (number_short k j (x / 2 ^ j) few))
