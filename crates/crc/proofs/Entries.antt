-- The table: a list is tested against its rule in one run over the entries, and an entry gives the step of a byte.
-- Assumes nothing.
use Prim.Native.Nat.{ℕ, zero, suc, ◌+◌, ◌*◌, ◌/◌, ◌%◌, ◌<◌}
use native.Mathlib.Nat.{add-zero, zero-add, add-suc, suc-add, le_of_suc-le-suc, not-suc-le-zero, mod-lt, div-add-mod'}
use native.Mathlib.Omega.{arith}
use mathlib.Core.Path.{◌≡◌, ap, ap₂, subst, sym, ◌∙◌}
use mathlib.Core.Bool.{Bool, true, ◌&&◌}
use mathlib.Core.List.{List, [], ◌∷◌}
use lib.Bits.{bit_xor, xor_lt, xor_comm, xor_zero_l, xor_shifted}
use lib.Dec.{T, eqb, eqb→eq, lit<}
use lib.ListN.{length, get_or}
use Rattle.le.proofs.Rows.{both_left, both_right}
use Rattle.crc.specs.Crc.{byte_step, crc_from, crc_of, OneByteSums}
use Rattle.crc.specs.Number.{crc_of_number, zero_bits}
use Rattle.crc.proofs.Xor.{xor_assoc, xor-scaled}
use Rattle.crc.proofs.Linear.{agree, bits-xor, bits-of-zero}
use Rattle.crc.proofs.Numbers.{number-xor}
use Rattle.crc.proofs.Taken.{byte-alone, byte_step_lem}

-- ---- the test, counted from i

abbrev pub tested : ℕ → List ℕ → Bool
tested i [] = true
tested i (x ∷ xs) = eqb x (crc_of (i ∷ [])) && tested (suc i) xs

entries : (i : ℕ) (xs : List ℕ) → T (tested i xs) → (k : ℕ) → k < length xs → get_or xs k 0 ≡ crc_of ((i + k) ∷ [])
entries i [] t k h = absurd (not-suc-le-zero h)
entries i (x ∷ xs) t zero h =
    eqb→eq x (crc_of (i ∷ [])) (both_left (eqb x (crc_of (i ∷ []))) (tested (suc i) xs) t)
    ∙ ap (λ (m : ℕ). crc_of (m ∷ [])) (sym (add-zero i))
entries i (x ∷ xs) t (suc k) h =
    entries (suc i) xs (both_right (eqb x (crc_of (i ∷ []))) (tested (suc i) xs) t) k (le_of_suc-le-suc h)
    ∙ ap (λ (m : ℕ). crc_of (m ∷ [])) (suc-add i k ∙ sym (add-suc i k))

pub one-byte-sums : (table : List ℕ) → length table ≡ 256 → T (tested 0 table) → OneByteSums table
one-byte-sums table e t =
    record {
      count = e;
      entry = λ k h. entries 0 table t k (subst (λ (m : ℕ). k < m) (sym e) h) ∙ ap (λ (m : ℕ). crc_of (m ∷ [])) (zero-add k);
    }

-- ---- the step that the table gives: the high byte of the CRC joins the byte that comes, and the low byte moves up

low-moves : (l : ℕ) → l < 256 → zero_bits 8 l ≡ l * 256
unfolding zero_bits
low-moves = agree 8 (zero_bits 8) (λ (l : ℕ). l * 256) (λ a b ha hb. bits-xor 8 a b (omega arith) (omega arith)) (λ a b ha hb. xor-scaled 8 a b) tt

halves-step : (h l x : ℕ) → h < 256 → l < 256 → x < 256 → byte_step (bit_xor (h * 256) l) x ≡ bit_xor (l * 256) (crc_of_number 8 (bit_xor h x))
halves-step h l x hh hl hx =
    let hc : bit_xor (h * 256) l < 65536 = xor_lt 16 (h * 256) l (omega arith) (omega arith) in
    byte_step_lem (bit_xor (h * 256) l) x hc hx
    ∙ ap (λ (e : ℕ). bit_xor e (crc_of_number 8 x)) (bits-xor 8 (h * 256) l (omega arith) (omega arith) ∙ ap₂ bit_xor (byte-alone h hh) (low-moves l hl) ∙ xor_comm (crc_of_number 8 h) (l * 256))
    ∙ xor_assoc (l * 256) (crc_of_number 8 h) (crc_of_number 8 x)
    ∙ ap (bit_xor (l * 256)) (sym (number-xor 8 h x))

one_byte : (x : ℕ) → x < 256 → crc_of (x ∷ []) ≡ crc_of_number 8 x
unfolding crc_from
one_byte x hx = byte_step_lem 0 x (lit< tt) hx ∙ ap (λ (e : ℕ). bit_xor e (crc_of_number 8 x)) (bits-of-zero 8) ∙ xor_zero_l (crc_of_number 8 x)

pub table_step : (table : List ℕ) (c k x : ℕ) → OneByteSums table → c < 65536 → x < 256 → k ≡ bit_xor (c / 256) x → bit_xor (c * 256 % 65536) (get_or table k 0) ≡ byte_step c x
table_step table c k x rule hc hx ek =
    let low : c % 256 < 256 = mod-lt c (lit< tt) in
    let halves : bit_xor (c / 256 * 256) (c % 256) ≡ c = xor_shifted (c / 256) 8 (c % 256) low ∙ div-add-mod' c 256 in
    let moved : c * 256 % 65536 ≡ c % 256 * 256 = omega arith in
    let j : ℕ = bit_xor (c / 256) x in
    let hj : j < 256 = xor_lt 8 (c / 256) x (omega arith) hx in
    ap₂ bit_xor moved (ap (λ (n : ℕ). get_or table n 0) ek ∙ rule.entry j hj ∙ one_byte j hj)
    ∙ sym (halves-step (c / 256) (c % 256) x (omega arith) low hx)
    ∙ ap (λ (n : ℕ). byte_step n x) halves
