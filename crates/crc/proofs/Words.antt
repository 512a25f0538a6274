-- Four words stand for the bytes taken: at the start, when a fifth word comes, and at the end.
-- Assumes nothing.
use Prim.Native.Nat.{ℕ, ◌+◌, ◌-◌, ◌*◌, ◌/◌, ◌%◌, ◌≤◌, ◌<◌}
use native.Mathlib.Nat.{zero-add}
use native.Mathlib.Omega.{arith}
use mathlib.Core.Path.{◌≡◌, ap, ap₂, sym, ◌∙◌}
use mathlib.Core.List.{List}
use lib.Bits.{bit_xor, xor_zero_l}
use lib.Dec.{lit<}
use lib.ListN.{length, drop, get_or}
use Rattle.crc.specs.Crc.{crc_from, crc_of}
use Rattle.crc.specs.Number.{crc_of_number, zero_bits, number_at}
use Rattle.crc.proofs.Xor.{xor_assoc}
use Rattle.crc.proofs.Linear.{bits-lt, bits-xor, bits-add, bits-of-zero}
use Rattle.crc.proofs.Numbers.{number-zero, number_short, number-low}
use Rattle.crc.proofs.Folding.{word, word_lt, four, four-lt, word-dropped}
use Rattle.crc.proofs.Taken.{bytes-taken, number_at-lt}

-- ---- at the start there is one

none : (m : ℕ) → zero_bits m (word 0) ≡ 0
none m = ap (zero_bits m) (number-zero 64) ∙ bits-of-zero m

one_word : (d : ℕ) → four 0 0 0 d ≡ word d
one_word d =
    ap₂ (λ (p q : ℕ). bit_xor (bit_xor p q) (bit_xor (zero_bits 64 (word 0)) (word d))) (none 192) (none 128)
    ∙ ap (λ (p : ℕ). bit_xor 0 (bit_xor p (word d))) (none 64)
    ∙ xor_zero_l (bit_xor 0 (word d))
    ∙ xor_zero_l (word d)

pub started : (n : ℕ) (s : List ℕ) → ((i : ℕ) → get_or s i 0 < 256) → n ≤ 8 → n ≤ length s → crc_from (four 0 0 0 (number_at s 0 n % 18446744073709551616)) (drop n s) ≡ crc_of s
started n s hs hn h =
    let v : ℕ = number_at s 0 n in
    let bits : 64 - 8 * n + 8 * n ≡ 64 = omega arith in
    let few : word v ≡ crc_of_number (8 * n) v = ap (λ (k : ℕ). crc_of_number k v) (sym bits) ∙ number_short (8 * n) (64 - 8 * n) v (number_at-lt s 0 n hs) in
    let inside : 0 + n ≤ length s = omega arith in
    ap (λ (e : ℕ). crc_from e (drop n s))
    (one_word (v % 18446744073709551616)
    ∙ number-low 64 v
    ∙ few
    ∙ sym (ap (λ (e : ℕ). bit_xor e (crc_of_number (8 * n) v)) (bits-of-zero (8 * n)) ∙ xor_zero_l (crc_of_number (8 * n) v)))
    ∙ ap (λ (k : ℕ). crc_from (bit_xor (zero_bits (8 * n) 0) (crc_of_number (8 * n) v)) (drop k s)) (sym (zero-add n))
    ∙ sym (bytes-taken n 0 0 s (lit< tt) hs inside)

-- ---- a fifth comes

pub turned : (a b c d i : ℕ) (s : List ℕ) → a < 18446744073709551616 → ((j : ℕ) → get_or s j 0 < 256) → i + 8 ≤ length s
    → crc_from (four (bit_xor b a) (bit_xor c (a / 281474976710656)) (bit_xor d (a * 65536 % 18446744073709551616)) (bit_xor (number_at s i 8) a)) (drop (i + 8) s) ≡ crc_from (four a b c d) (drop i s)
turned a b c d i s ha hs h =
    ap (λ (k : ℕ). crc_from k (drop (i + 8) s)) (sym (word-dropped a b c d (number_at s i 8) ha))
    ∙ sym (bytes-taken 8 (four a b c d) i s (four-lt a b c d) hs h)

-- ---- at the end three are dropped, one after the other

folded : (p c : ℕ) (x : ℕ) → x ≡ bit_xor (zero_bits 64 p) (word c) → p < 65536 → (m : ℕ) → zero_bits m x ≡ bit_xor (zero_bits (64 + m) p) (zero_bits m (word c))
folded p c x e hp m =
    ap (zero_bits m) e
    ∙ bits-xor m (zero_bits 64 p) (word c) (bits-lt 64 p hp) (word_lt c)
    ∙ ap (λ (k : ℕ). bit_xor k (zero_bits m (word c))) (sym (bits-add 64 m p))

pub ended : (a b c d x y z : ℕ) → word x ≡ bit_xor (zero_bits 64 (word a)) (word b) → word y ≡ bit_xor (zero_bits 64 (word x)) (word c) → word z ≡ bit_xor (zero_bits 64 (word y)) (word d) → word z ≡ four a b c d
ended a b c d x y z ex ey ez =
    ez
    ∙ ap (λ (k : ℕ). bit_xor k (word d))
    (folded (word x) c (word y) ey (word_lt x) 64 ∙ ap (λ (k : ℕ). bit_xor k (zero_bits 64 (word c))) (folded (word a) b (word x) ex (word_lt a) 128))
    ∙ xor_assoc (bit_xor (zero_bits 192 (word a)) (zero_bits 128 (word b))) (zero_bits 64 (word c)) (word d)
