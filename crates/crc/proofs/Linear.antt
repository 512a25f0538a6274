-- Steps of the CRC are linear: a sum of two, by exclusive or, goes through each.
-- Assumes nothing.
use Prim.Native.Nat.{ℕ, zero, suc, ◌+◌, ◌*◌, ◌^◌, ◌/◌, ◌%◌, ◌≤◌, ◌<◌}
use native.Mathlib.Nat.{div-lt_iff_lt-mul, mod-lt, div-add-mod', lt_trans, le_refl, suc-add, zero-add, zero-mul, one-mul, mul_comm, pow-suc, not-suc-le-zero, le_of_suc-le-suc}
use native.Mathlib.Omega.{arith}
use mathlib.Core.Path.{◌≡◌, refl, ap, ap₂, subst, sym, ◌∙◌}
use mathlib.Core.Bool.{Bool, true, ◌&&◌}
use lib.Arith.{lt-one}
use lib.Bits.{bit_xor, xor_comm, xor_self, xor_zero_l, xor_zero_r, xor_shr, xor_mod, xor_shifted}
use lib.Dec.{T, eqb, eqb→eq, lit<}
use lib.Pow.{pow_pos, pow-lt}
use Rattle.le.proofs.Rows.{both_left, both_right}
use Rattle.crc.specs.Crc.{polynomial, reduced, bit_step, bit_steps}
use Rattle.crc.specs.Number.{zero_bits}
use Rattle.crc.proofs.Xor.{xor_assoc, xor-swap, xor-scaled}
use Rattle.crc.proofs.Laws.{bit_step-lt, bit_steps-lt}

-- ---- one bit

-- the 16 bits of a sum, moved up by one
moved : (a b : ℕ) → bit_xor a b * 2 % 65536 ≡ bit_xor (a * 2 % 65536) (b * 2 % 65536)
moved a b = ap (λ (n : ℕ). n % 65536) (xor-scaled 1 a b) ∙ xor_mod (a * 2) (b * 2) 16

-- by what the two high bits are
by_high : (a b x y : ℕ) → x < 2 → y < 2 → reduced (eqb (bit_xor x y) 1) (bit_xor a b) ≡ bit_xor (reduced (eqb x 1) a) (reduced (eqb y 1) b)
by_high a b zero zero hx hy = moved a b
by_high a b zero (suc zero) hx hy =
    ap (λ (n : ℕ). bit_xor n polynomial) (moved a b) ∙ xor_assoc (a * 2 % 65536) (b * 2 % 65536) polynomial
by_high a b (suc zero) zero hx hy =
    ap (λ (n : ℕ). bit_xor n polynomial) (moved a b)
    ∙ xor_assoc (a * 2 % 65536) (b * 2 % 65536) polynomial
    ∙ ap (bit_xor (a * 2 % 65536)) (xor_comm (b * 2 % 65536) polynomial)
    ∙ sym (xor_assoc (a * 2 % 65536) polynomial (b * 2 % 65536))
by_high a b (suc zero) (suc zero) hx hy =
    moved a b
    ∙ sym (xor_zero_r (bit_xor (a * 2 % 65536) (b * 2 % 65536)))
    ∙ xor-swap (a * 2 % 65536) (b * 2 % 65536) polynomial polynomial
by_high a b zero (suc (suc y)) hx hy = absurd (not-suc-le-zero (le_of_suc-le-suc (le_of_suc-le-suc hy)))
by_high a b (suc zero) (suc (suc y)) hx hy = absurd (not-suc-le-zero (le_of_suc-le-suc (le_of_suc-le-suc hy)))
by_high a b (suc (suc x)) y hx hy = absurd (not-suc-le-zero (le_of_suc-le-suc (le_of_suc-le-suc hx)))

high_lt : (a : ℕ) → a < 65536 → a / 32768 < 2
high_lt a h = (div-lt_iff_lt-mul (lit< tt)).1 h

pub bit_step-xor : (a b : ℕ) → a < 65536 → b < 65536 → bit_step (bit_xor a b) ≡ bit_xor (bit_step a) (bit_step b)
bit_step-xor a b ha hb =
    ap (λ (n : ℕ). reduced (eqb n 1) (bit_xor a b)) (xor_shr a b 15)
    ∙ by_high a b (a / 32768) (b / 32768) (high_lt a ha) (high_lt b hb)

-- ---- bits 0

pub bits-lt : (n c : ℕ) → c < 65536 → zero_bits n c < 65536
unfolding zero_bits
bits-lt n c h = bit_steps-lt n c h

pub bits-xor : (n a b : ℕ) → a < 65536 → b < 65536 → zero_bits n (bit_xor a b) ≡ bit_xor (zero_bits n a) (zero_bits n b)
unfolding zero_bits
bits-xor zero a b ha hb = refl
bits-xor (suc n) a b ha hb =
    ap (bit_steps n) (bit_step-xor a b ha hb) ∙ bits-xor n (bit_step a) (bit_step b) (bit_step-lt a) (bit_step-lt b)

pub bits-add : (m n c : ℕ) → zero_bits (m + n) c ≡ zero_bits n (zero_bits m c)
unfolding zero_bits
bits-add zero n c = rw (zero-add n)
bits-add (suc m) n c = rw (suc-add m n, bits-add m n (bit_step c))

pub bits-of-zero : (n : ℕ) → zero_bits n 0 ≡ 0
unfolding zero_bits
bits-of-zero zero = refl
bits-of-zero (suc n) = bits-of-zero n

-- ---- two linear functions that agree at each bit agree

abbrev pub Linear : ℕ → (ℕ → ℕ) → Type 0
Linear n f = (a b : ℕ) → a < 2 ^ n → b < 2 ^ n → f (bit_xor a b) ≡ bit_xor (f a) (f b)

abbrev pub agreeing : ℕ → (ℕ → ℕ) → (ℕ → ℕ) → Bool
agreeing zero f g = true
agreeing (suc k) f g = eqb (f (2 ^ k)) (g (2 ^ k)) && agreeing k f g

module _ (n : ℕ) (f g : ℕ → ℕ) (lf : Linear n f) (lg : Linear n g) where
  at_zero : f 0 ≡ g 0
  at_zero = lf 0 0 (pow_pos n) (pow_pos n) ∙ xor_self (f 0) ∙ sym (lg 0 0 (pow_pos n) (pow_pos n) ∙ xor_self (g 0))

  one_bit : (k q w : ℕ) → q < 2 → 2 ^ k < 2 ^ n → w < 2 ^ n → f (2 ^ k) ≡ g (2 ^ k) → f w ≡ g w → f (bit_xor (q * 2 ^ k) w) ≡ g (bit_xor (q * 2 ^ k) w)
  one_bit k zero w hq hk hw p r =
      let e : bit_xor (0 * 2 ^ k) w ≡ w = ap (λ (x : ℕ). bit_xor x w) (zero-mul (2 ^ k)) ∙ xor_zero_l w in
      ap f e ∙ r ∙ ap g (sym e)
  one_bit k (suc zero) w hq hk hw p r =
      let e : bit_xor (1 * 2 ^ k) w ≡ bit_xor (2 ^ k) w = ap (λ (x : ℕ). bit_xor x w) (one-mul (2 ^ k)) in
      ap f e ∙ lf (2 ^ k) w hk hw ∙ ap₂ bit_xor p r ∙ sym (lg (2 ^ k) w hk hw) ∙ ap g (sym e)
  one_bit k (suc (suc q)) w hq hk hw p r = absurd (not-suc-le-zero (le_of_suc-le-suc (le_of_suc-le-suc hq)))

  below : (k : ℕ) → k ≤ n → T (agreeing k f g) → (c : ℕ) → c < 2 ^ k → f c ≡ g c
  below zero hk t c h = ap f (lt-one h) ∙ at_zero ∙ ap g (sym (lt-one h))
  below (suc k) hk t c h =
      let here : Bool = eqb (f (2 ^ k)) (g (2 ^ k)) in
      let q : ℕ = c / 2 ^ k in
      let w : ℕ = c % 2 ^ k in
      let bit : 2 ^ k < 2 ^ n = pow-lt hk in
      let hw : w < 2 ^ k = mod-lt c (pow_pos k) in
      let hq : q < 2 = (div-lt_iff_lt-mul (pow_pos k)).1 (subst (λ (x : ℕ). c < x) (pow-suc 2 k ∙ mul_comm (2 ^ k) 2) h) in
      let e : bit_xor (q * 2 ^ k) w ≡ c = xor_shifted q k w hw ∙ div-add-mod' c (2 ^ k) in
      let less : k ≤ n = omega arith in
      rw e at (one_bit k q w hq bit (lt_trans hw bit) (eqb→eq (f (2 ^ k)) (g (2 ^ k)) (both_left here (agreeing k f g) t)) (below k less (both_right here (agreeing k f g) t) w hw))

  pub agree : T (agreeing n f g) → (c : ℕ) → c < 2 ^ n → f c ≡ g c
  agree = below n (le_refl n)
