-- A byte enters as the number that it is: bytes of a list may be taken as one number, and a number byte by byte.
-- Assumes nothing.
use Prim.Native.Nat.{ℕ, zero, suc, ◌+◌, ◌*◌, ◌^◌, ◌/◌, ◌%◌, ◌≤◌, ◌<◌}
use native.Mathlib.Nat.{add-zero, mod-lt, pow-suc, div-one, not-suc-le-zero, le_of_suc-le-suc}
use native.Mathlib.Omega.{arith}
use mathlib.Core.Path.{◌≡◌, refl, ap, ap₂, subst, sym, ◌∙◌}
use mathlib.Core.List.{List}
use lib.Bits.{bit_xor, xor_lt, xor_zero_r}
use lib.Arith.{digits_lt}
use lib.Dec.{lit<}
use lib.ListN.{length, take, drop, get_or}
use lib.Pow.{pow-add}
use lib.Seq.{get_or-take, get_or-drop, drop-drop}
use Rattle.std.specs.Int.{w64, byte_at, bytes_high_first, from_be_bytes}
use Rattle.std.specs.Simd.{first_chunks}
use Rattle.crc.specs.Crc.{byte_step, crc_from}
use Rattle.crc.specs.Number.{crc_of_number, zero_bits, number_at}
use Rattle.crc.proofs.Xor.{xor_assoc, xor-scaled}
use Rattle.crc.proofs.Laws.{byte-taken}
use Rattle.crc.proofs.Linear.{agree, bits-lt, bits-xor, bits-add}
use Rattle.crc.proofs.Numbers.{number_lt, number-xor, number-split, number-low}

-- ---- a byte

byte-scaled : (a b : ℕ) → a < 256 → b < 256 → zero_bits 8 (bit_xor a b * 256) ≡ bit_xor (zero_bits 8 (a * 256)) (zero_bits 8 (b * 256))
byte-scaled a b ha hb = ap (zero_bits 8) (xor-scaled 8 a b) ∙ bits-xor 8 (a * 256) (b * 256) (omega arith) (omega arith)

pub byte-alone : (x : ℕ) → x < 256 → zero_bits 8 (x * 256) ≡ crc_of_number 8 x
unfolding zero_bits crc_of_number
byte-alone = agree 8 (λ (x : ℕ). zero_bits 8 (x * 256)) (crc_of_number 8) byte-scaled (λ a b ha hb. number-xor 8 a b) tt

pub byte_step_lem : (c x : ℕ) → c < 65536 → x < 256 → byte_step c x ≡ bit_xor (zero_bits 8 c) (crc_of_number 8 x)
unfolding byte_step zero_bits
byte_step_lem c x hc hx = bits-xor 8 c (x * 256) hc (omega arith) ∙ ap (bit_xor (zero_bits 8 c)) (byte-alone x hx)

-- ---- the next byte of a list

byte-joined : (n c v x : ℕ) → c < 65536 → x < 256
    → byte_step (bit_xor (zero_bits (8 * n) c) (crc_of_number (8 * n) v)) x ≡ bit_xor (zero_bits (8 * suc n) c) (crc_of_number (8 * suc n) (v * 256 + x))
byte-joined n c v x hc hx =
    let z : ℕ = zero_bits (8 * n) c in
    let k : ℕ = crc_of_number (8 * n) v in
    let hz : z < 65536 = bits-lt (8 * n) c hc in
    let hk : k < 65536 = number_lt (8 * n) v in
    let more : 8 * n + 8 ≡ 8 * suc n = omega arith in
    let high : (v * 256 + x) / 256 ≡ v = omega arith in
    let low : (v * 256 + x) % 256 ≡ x = omega arith in
    byte_step_lem (bit_xor z k) x (xor_lt 16 z k hz hk) hx
    ∙ ap (λ (e : ℕ). bit_xor e (crc_of_number 8 x)) (bits-xor 8 z k hz hk)
    ∙ xor_assoc (zero_bits 8 z) (zero_bits 8 k) (crc_of_number 8 x)
    ∙ ap₂ (λ (y e : ℕ). bit_xor (zero_bits 8 z) (bit_xor (zero_bits 8 (crc_of_number (8 * n) y)) e))
    (sym high)
    (ap (crc_of_number 8) (sym low) ∙ number-low 8 (v * 256 + x))
    ∙ ap₂ bit_xor (sym (bits-add (8 * n) 8 c)) (sym (number-split 8 (8 * n) (v * 256 + x)))
    ∙ ap (λ (m : ℕ). bit_xor (zero_bits m c) (crc_of_number m (v * 256 + x))) more

pub bytes-taken : (n c at : ℕ) (s : List ℕ) → c < 65536 → ((i : ℕ) → get_or s i 0 < 256) → at + n ≤ length s
    → crc_from c (drop at s) ≡ crc_from (bit_xor (zero_bits (8 * n) c) (crc_of_number (8 * n) (number_at s at n))) (drop (at + n) s)
unfolding number_at zero_bits crc_of_number
bytes-taken zero c at s hc hs h = ap₂ (λ (e k : ℕ). crc_from e (drop k s)) (sym (xor_zero_r c)) (sym (add-zero at))
bytes-taken (suc n) c at s hc hs h =
    let next : at + n + 1 ≡ at + suc n = omega arith in
    bytes-taken n c at s hc hs (omega arith)
    ∙ byte-taken (bit_xor (zero_bits (8 * n) c) (crc_of_number (8 * n) (number_at s at n))) (at + n) s (omega arith)
    ∙ ap₂ (λ (e k : ℕ). crc_from e (drop k s)) (byte-joined n c (number_at s at n) (get_or s (at + n) 0) hc (hs (at + n))) next

pub number_at-lt : (s : List ℕ) (at n : ℕ) → ((i : ℕ) → get_or s i 0 < 256) → number_at s at n < 2 ^ (8 * n)
unfolding number_at
number_at-lt s at zero hs = lit< tt
number_at-lt s at (suc n) hs =
    let more : 8 * suc n ≡ 8 * n + 8 = omega arith in
    let up : 2 ^ (8 * n + 8) ≡ 2 ^ (8 * n) * 256 = pow-add 2 (8 * n) 8 in
    let before : number_at s at n < 2 ^ (8 * n) = number_at-lt s at n hs in
    subst (λ (p : ℕ). number_at s at n * 256 + get_or s (at + n) 0 < p) (sym (ap (λ (k : ℕ). 2 ^ k) more ∙ up)) (digits_lt before (hs (at + n)))

-- ---- the highest byte of a number of l + 8 bits

pub highest-taken : (l c x : ℕ) → c < 65536 → bit_xor (zero_bits l (byte_step c (x / 2 ^ l % 256))) (crc_of_number l x) ≡ bit_xor (zero_bits (l + 8) c) (crc_of_number (l + 8) x)
highest-taken l c x hc =
    let y : ℕ = x / 2 ^ l in
    let more : 8 + l ≡ l + 8 = omega arith in
    ap (λ (e : ℕ). bit_xor (zero_bits l e) (crc_of_number l x)) (byte_step_lem c (y % 256) hc (mod-lt y (lit< tt)) ∙ ap (bit_xor (zero_bits 8 c)) (number-low 8 y))
    ∙ ap (λ (e : ℕ). bit_xor e (crc_of_number l x)) (bits-xor l (zero_bits 8 c) (crc_of_number 8 y) (bits-lt 8 c hc) (number_lt 8 y))
    ∙ xor_assoc (zero_bits l (zero_bits 8 c)) (zero_bits l (crc_of_number 8 y)) (crc_of_number l x)
    ∙ ap₂ bit_xor (sym (bits-add 8 l c)) (sym (number-split l 8 x))
    ∙ ap (λ (m : ℕ). bit_xor (zero_bits m c) (crc_of_number m x)) more

-- ---- the bytes of a number, the highest first

bytes-of-two : (j : ℕ) → 256 ^ j ≡ 2 ^ (8 * j)
bytes-of-two zero = refl
bytes-of-two (suc j) =
    let more : 8 * j + 8 ≡ 8 * suc j = omega arith in
    pow-suc 256 j ∙ ap (λ (p : ℕ). p * 256) (bytes-of-two j) ∙ sym (pow-add 2 (8 * j) 8) ∙ ap (λ (k : ℕ). 2 ^ k) more

digit : (j x : ℕ) → byte_at j x ≡ x / 2 ^ (8 * j) % 256
digit zero x = ap (λ (y : ℕ). y % 256) (sym (div-one x))
digit (suc j) x = ap (λ (p : ℕ). x / p % 256) (bytes-of-two (suc j))

pub byte-there : (k i j x : ℕ) → i + suc j ≡ k → get_or (bytes_high_first k x) i 0 ≡ x / 2 ^ (8 * j) % 256
byte-there zero i j x e = absurd (omega arith)
byte-there (suc k) zero j x e = let same : k ≡ j = omega arith in ap (λ (n : ℕ). byte_at n x) same ∙ digit j x
byte-there (suc k) (suc i) j x e = byte-there k i j x (omega arith)

-- ---- the words of a list, of eight bytes each

eight_at : (m k : ℕ) (s d : List ℕ) → k < m → get_or (first_chunks 8 m s) k d ≡ take 8 (drop (8 * k) s)
eight_at zero k s d h = absurd (not-suc-le-zero h)
eight_at (suc m) zero s d h = refl
eight_at (suc m) (suc k) s d h =
    let more : 8 + 8 * k ≡ 8 * suc k = omega arith in
    eight_at m k (drop 8 s) d (le_of_suc-le-suc h) ∙ ap (take 8) (drop-drop (8 * k) 8 s ∙ ap (λ (n : ℕ). drop n s) more)

eight_bytes : (s : List ℕ) (at : ℕ) → from_be_bytes w64 (take 8 (drop at s)) ≡ number_at s at 8
unfolding number_at
eight_bytes s at =
    let byte : (i : ℕ) → i < 8 → get_or (take 8 (drop at s)) i 0 ≡ get_or s (at + i) 0 = λ i h. get_or-take 8 (drop at s) i 0 h ∙ get_or-drop at s i 0 in
    omega (arith, byte 0 (lit< tt), byte 1 (lit< tt), byte 2 (lit< tt), byte 3 (lit< tt), byte 4 (lit< tt), byte 5 (lit< tt), byte 6 (lit< tt), byte 7 (lit< tt))

pub word-there : (s : List ℕ) (at m k : ℕ) (words : List (List ℕ)) (d : List ℕ) → words ≡ first_chunks 8 m (drop at s) → k < m → from_be_bytes w64 (get_or words k d) ≡ number_at s (at + 8 * k) 8
word-there s at m k words d e h =
    ap (λ (l : List (List ℕ)). from_be_bytes w64 (get_or l k d)) e
    ∙ ap (from_be_bytes w64) (eight_at m k (drop at s) d h ∙ ap (take 8) (drop-drop (8 * k) at s))
    ∙ eight_bytes s (at + 8 * k)
