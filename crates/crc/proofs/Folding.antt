-- The law of folding. With coefficients modulo 2 the square of a sum is the sum of the squares, so that of P = x^16 + x^12 + x^5 + 1 comes
-- P^n = x^16n + x^12n + x^5n + 1 for n = 1, 2, 4, 8 …: 16n bits 0 do to a CRC what 12n, 5n and none do together (`Folds`). A word with four words after it
-- may therefore be dropped once it is added to later ones (`word-dropped`, n = 16), and so may one with one word after it (`last-dropped`, n = 4).
-- Assumes nothing.
use Prim.Native.Nat.{ℕ, ◌+◌, ◌*◌, ◌/◌, ◌%◌, ◌<◌}
use native.Mathlib.Omega.{arith}
use mathlib.Core.Path.{◌≡◌, refl, ap, ap₂, sym, ◌∙◌}
use lib.Bits.{bit_xor, xor_lt, xor_comm, xor_shr}
use Rattle.crc.specs.Number.{crc_of_number, zero_bits}
use Rattle.crc.proofs.Xor.{xor_assoc, xor-swap, xor-twice}
use Rattle.crc.proofs.Linear.{Linear, agree, bits-lt, bits-xor, bits-add}
use Rattle.crc.proofs.Numbers.{number_lt, number-xor, carry}

record Folds (n : ℕ) : Type 0 where
  sum : (c : ℕ) → c < 65536 → zero_bits (16 * n) c ≡ bit_xor (bit_xor (zero_bits (12 * n) c) (zero_bits (5 * n) c)) c

-- ---- at n = 1: the polynomial itself, tested at each of the 16 bits

abbrev three : ℕ → ℕ
three c = bit_xor (bit_xor (zero_bits 12 c) (zero_bits 5 c)) c

three-linear : Linear 16 three
three-linear a b ha hb =
    ap (λ (x : ℕ). bit_xor x (bit_xor a b))
    (ap₂ bit_xor (bits-xor 12 a b ha hb) (bits-xor 5 a b ha hb) ∙ xor-swap (zero_bits 12 a) (zero_bits 12 b) (zero_bits 5 a) (zero_bits 5 b))
    ∙ xor-swap (bit_xor (zero_bits 12 a) (zero_bits 5 a)) (bit_xor (zero_bits 12 b) (zero_bits 5 b)) a b

folds1 : Folds 1
unfolding zero_bits
folds1 = record { sum = agree 16 (zero_bits 16) three (bits-xor 16) three-linear tt }

-- ---- at 2n: the rule of n behind 16n, 12n, 5n and no bits, where what comes twice goes

later : (n m c : ℕ) → Folds n → c < 65536 → bit_xor (bit_xor (zero_bits (12 * n + m) c) (zero_bits (5 * n + m) c)) (zero_bits m c) ≡ zero_bits (16 * n + m) c
later n m c f hc =
    let p : ℕ = zero_bits (12 * n) c in
    let q : ℕ = zero_bits (5 * n) c in
    let hp : p < 65536 = bits-lt (12 * n) c hc in
    let hq : q < 65536 = bits-lt (5 * n) c hc in
    ap₂ (λ (x y : ℕ). bit_xor (bit_xor x y) (zero_bits m c)) (bits-add (12 * n) m c) (bits-add (5 * n) m c)
    ∙ ap (λ (x : ℕ). bit_xor x (zero_bits m c)) (sym (bits-xor m p q hp hq))
    ∙ sym (bits-xor m (bit_xor p q) c (xor_lt 16 p q hp hq) hc)
    ∙ ap (zero_bits m) (sym (f.sum c hc))
    ∙ sym (bits-add (16 * n) m c)

cancel : (a b c d e z : ℕ) → bit_xor (bit_xor (bit_xor (bit_xor a b) c) (bit_xor (bit_xor b d) e)) (bit_xor (bit_xor c e) z) ≡ bit_xor (bit_xor a d) z
cancel a b c d e z =
    ap (λ (x : ℕ). bit_xor x (bit_xor (bit_xor c e) z))
    (xor-swap (bit_xor a b) c (bit_xor b d) e ∙ ap (λ (x : ℕ). bit_xor x (bit_xor c e)) (xor_assoc a b (bit_xor b d) ∙ ap (bit_xor a) (xor-twice b d)))
    ∙ xor_assoc (bit_xor a d) (bit_xor c e) (bit_xor (bit_xor c e) z)
    ∙ ap (bit_xor (bit_xor a d)) (xor-twice (bit_xor c e) z)

twice : (n : ℕ) → Folds n → Folds (2 * n)
twice n f =
    record {
      sum = λ c hc.
          let a : ℕ = zero_bits (12 * (2 * n)) c in
          let b : ℕ = zero_bits (17 * n) c in
          let p : ℕ = zero_bits (12 * n) c in
          let d : ℕ = zero_bits (5 * (2 * n)) c in
          let e : ℕ = zero_bits (5 * n) c in
          let at : (i j : ℕ) → i ≡ j → zero_bits i c ≡ zero_bits j c = λ i j q. ap (λ (k : ℕ). zero_bits k c) q in
          let high : zero_bits (12 * n + 16 * n) c ≡ bit_xor (bit_xor a b) p =
          at (12 * n + 16 * n) (16 * n + 12 * n) (omega arith)
          ∙ sym (later n (12 * n) c f hc)
          ∙ ap₂ (λ (x y : ℕ). bit_xor (bit_xor x y) p) (at (12 * n + 12 * n) (12 * (2 * n)) (omega arith)) (at (5 * n + 12 * n) (17 * n) (omega arith)) in
          let low : zero_bits (5 * n + 16 * n) c ≡ bit_xor (bit_xor b d) e =
          at (5 * n + 16 * n) (16 * n + 5 * n) (omega arith)
          ∙ sym (later n (5 * n) c f hc)
          ∙ ap₂ (λ (x y : ℕ). bit_xor (bit_xor x y) e) (at (12 * n + 5 * n) (17 * n) (omega arith)) (at (5 * n + 5 * n) (5 * (2 * n)) (omega arith)) in
          at (16 * (2 * n)) (16 * n + 16 * n) (omega arith)
          ∙ sym (later n (16 * n) c f hc)
          ∙ ap₂ bit_xor (ap₂ bit_xor high low) (f.sum c hc)
          ∙ cancel a b p d e c;
    }

folds4 : Folds 4
folds4 = twice 2 (twice 1 folds1)

folds16 : Folds 16
folds16 = twice 8 (twice 4 folds4)

-- ---- four words, and the first of them dropped when a fifth comes

abbrev pub word : ℕ → ℕ
word x = crc_of_number 64 x

pub word_lt : (x : ℕ) → word x < 65536
word_lt x = number_lt 64 x

abbrev pub four : ℕ → ℕ → ℕ → ℕ → ℕ
four a b c d = bit_xor (bit_xor (zero_bits 192 (word a)) (zero_bits 128 (word b))) (bit_xor (zero_bits 64 (word c)) (word d))

two-bits : (m n a b : ℕ) → zero_bits 64 (bit_xor (zero_bits m (word a)) (zero_bits n (word b))) ≡ bit_xor (zero_bits (m + 64) (word a)) (zero_bits (n + 64) (word b))
two-bits m n a b =
    bits-xor 64 (zero_bits m (word a)) (zero_bits n (word b)) (bits-lt m (word a) (word_lt a)) (bits-lt n (word b) (word_lt b))
    ∙ ap₂ bit_xor (sym (bits-add m 64 (word a))) (sym (bits-add n 64 (word b)))

two-lt : (m n a b : ℕ) → bit_xor (zero_bits m (word a)) (zero_bits n (word b)) < 65536
two-lt m n a b = xor_lt 16 (zero_bits m (word a)) (zero_bits n (word b)) (bits-lt m (word a) (word_lt a)) (bits-lt n (word b) (word_lt b))

pub four-lt : (a b c d : ℕ) → four a b c d < 65536
unfolding zero_bits
four-lt a b c d = xor_lt 16 (bit_xor (zero_bits 192 (word a)) (zero_bits 128 (word b))) (bit_xor (zero_bits 64 (word c)) (word d)) (two-lt 192 128 a b) (two-lt 64 0 c d)

-- the four, behind 64 bits more
four-bits : (a b c d : ℕ) → zero_bits 64 (four a b c d) ≡ bit_xor (bit_xor (zero_bits 256 (word a)) (zero_bits 192 (word b))) (bit_xor (zero_bits 128 (word c)) (zero_bits 64 (word d)))
unfolding zero_bits
four-bits a b c d =
    bits-xor 64 (bit_xor (zero_bits 192 (word a)) (zero_bits 128 (word b))) (bit_xor (zero_bits 64 (word c)) (word d)) (two-lt 192 128 a b) (two-lt 64 0 c d)
    ∙ ap₂ bit_xor (two-bits 192 128 a b) (two-bits 64 0 c d)

-- what a word with four after it counts as
counted : (a : ℕ) → a < 18446744073709551616
    → zero_bits 256 (word a) ≡ bit_xor (bit_xor (zero_bits 192 (word a)) (zero_bits 128 (word (a / 281474976710656)))) (bit_xor (zero_bits 64 (word (a * 65536 % 18446744073709551616))) (word a))
counted a h =
    let high : ℕ = word (a / 281474976710656) in
    let low : ℕ = word (a * 65536 % 18446744073709551616) in
    let middle : zero_bits 80 (word a) ≡ bit_xor (zero_bits 128 high) (zero_bits 64 low) =
    bits-add 16 64 (word a)
    ∙ ap (zero_bits 64) (carry 48 16 a h)
    ∙ bits-xor 64 (zero_bits 64 high) low (bits-lt 64 high (number_lt 64 (a / 281474976710656))) (number_lt 64 (a * 65536 % 18446744073709551616))
    ∙ ap (λ (c : ℕ). bit_xor c (zero_bits 64 low)) (sym (bits-add 64 64 high)) in
    folds16.sum (word a) (word_lt a)
    ∙ ap (λ (c : ℕ). bit_xor (bit_xor (zero_bits 192 (word a)) c) (word a)) middle
    ∙ ap (λ (c : ℕ). bit_xor c (word a)) (sym (xor_assoc (zero_bits 192 (word a)) (zero_bits 128 high) (zero_bits 64 low)))
    ∙ xor_assoc (bit_xor (zero_bits 192 (word a)) (zero_bits 128 high)) (zero_bits 64 low) (word a)

first_out : (p q r s t : ℕ) → bit_xor (bit_xor (bit_xor p q) (bit_xor r s)) t ≡ bit_xor p (bit_xor (bit_xor q r) (bit_xor s t))
first_out p q r s t =
    xor_assoc (bit_xor p q) (bit_xor r s) t
    ∙ xor_assoc p q (bit_xor (bit_xor r s) t)
    ∙ ap (bit_xor p) (ap (bit_xor q) (xor_assoc r s t) ∙ sym (xor_assoc q r (bit_xor s t)))

pairwise : (a b c d e f g h : ℕ) → bit_xor (bit_xor (bit_xor a b) (bit_xor c d)) (bit_xor (bit_xor e f) (bit_xor g h)) ≡ bit_xor (bit_xor (bit_xor e a) (bit_xor f b)) (bit_xor (bit_xor g c) (bit_xor h d))
pairwise a b c d e f g h =
    xor_comm (bit_xor (bit_xor a b) (bit_xor c d)) (bit_xor (bit_xor e f) (bit_xor g h))
    ∙ xor-swap (bit_xor e f) (bit_xor g h) (bit_xor a b) (bit_xor c d)
    ∙ ap₂ bit_xor (xor-swap e f a b) (xor-swap g h c d)

added : (m x y : ℕ) → bit_xor (zero_bits m (word x)) (zero_bits m (word y)) ≡ zero_bits m (word (bit_xor x y))
added m x y = sym (ap (zero_bits m) (number-xor 64 x y) ∙ bits-xor m (word x) (word y) (word_lt x) (word_lt y))

pub word-dropped : (a b c d n : ℕ) → a < 18446744073709551616
    → bit_xor (zero_bits 64 (four a b c d)) (word n) ≡ four (bit_xor b a) (bit_xor c (a / 281474976710656)) (bit_xor d (a * 65536 % 18446744073709551616)) (bit_xor n a)
word-dropped a b c d n h =
    let high : ℕ = a / 281474976710656 in
    let low : ℕ = a * 65536 % 18446744073709551616 in
    let rest : ℕ = bit_xor (bit_xor (zero_bits 192 (word b)) (zero_bits 128 (word c))) (bit_xor (zero_bits 64 (word d)) (word n)) in
    ap (λ (e : ℕ). bit_xor e (word n)) (four-bits a b c d)
    ∙ first_out (zero_bits 256 (word a)) (zero_bits 192 (word b)) (zero_bits 128 (word c)) (zero_bits 64 (word d)) (word n)
    ∙ ap (λ (e : ℕ). bit_xor e rest) (counted a h)
    ∙ pairwise (zero_bits 192 (word a)) (zero_bits 128 (word high)) (zero_bits 64 (word low)) (word a) (zero_bits 192 (word b)) (zero_bits 128 (word c)) (zero_bits 64 (word d)) (word n)
    ∙ ap₂ bit_xor (ap₂ bit_xor (added 192 b a) (added 128 c high)) (ap₂ bit_xor (added 64 d low) (sym (number-xor 64 n a)))

-- ---- one word with one after it. With 48 and 20 bits after it a word sticks out into its own place: `spread` is the word with what sticks out, and `closed` undoes it.

abbrev spread : ℕ → ℕ
spread x = bit_xor (bit_xor x (x / 65536)) (x / 17592186044416)

abbrev pub closed : ℕ → ℕ
closed x = bit_xor (spread x) (spread x / 4294967296)

spread-xor : (a b : ℕ) → spread (bit_xor a b) ≡ bit_xor (spread a) (spread b)
spread-xor a b =
    ap₂ (λ (p q : ℕ). bit_xor (bit_xor (bit_xor a b) p) q) (xor_shr a b 16) (xor_shr a b 44)
    ∙ ap (λ (p : ℕ). bit_xor p (bit_xor (a / 17592186044416) (b / 17592186044416))) (xor-swap a b (a / 65536) (b / 65536))
    ∙ xor-swap (bit_xor a (a / 65536)) (bit_xor b (b / 65536)) (a / 17592186044416) (b / 17592186044416)

closed-xor : (a b : ℕ) → closed (bit_xor a b) ≡ bit_xor (closed a) (closed b)
closed-xor a b =
    ap (λ (p : ℕ). bit_xor p (p / 4294967296)) (spread-xor a b)
    ∙ ap (bit_xor (bit_xor (spread a) (spread b))) (xor_shr (spread a) (spread b) 32)
    ∙ xor-swap (spread a) (spread b) (spread a / 4294967296) (spread b / 4294967296)

-- tested at each of the 64 bits
spread-closed : (x : ℕ) → x < 18446744073709551616 → spread (closed x) ≡ x
spread-closed =
    agree 64 (λ (x : ℕ). spread (closed x)) (λ (x : ℕ). x)
    (λ a b ha hb. ap (λ (p : ℕ). spread p) (closed-xor a b) ∙ spread-xor (closed a) (closed b))
    (λ a b ha hb. refl)
    tt

spread-lt : (x : ℕ) → x < 18446744073709551616 → spread x < 18446744073709551616
spread-lt x h =
    xor_lt 64 (bit_xor x (x / 65536)) (x / 17592186044416) (xor_lt 64 x (x / 65536) h (omega arith)) (omega arith)

closed-lt : (x : ℕ) → x < 18446744073709551616 → closed x < 18446744073709551616
closed-lt x h = let p : spread x < 18446744073709551616 = spread-lt x h in xor_lt 64 (spread x) (spread x / 4294967296) p (omega arith)

leaving : (p q u v w : ℕ) → bit_xor (bit_xor (bit_xor (bit_xor (bit_xor p u) (bit_xor q v)) w) p) q ≡ bit_xor (bit_xor w v) u
leaving p q u v w =
    let x : ℕ = bit_xor (bit_xor (bit_xor p u) (bit_xor q v)) w in
    xor_assoc x p q
    ∙ xor_comm x (bit_xor p q)
    ∙ ap (bit_xor (bit_xor p q)) (ap (λ (y : ℕ). bit_xor y w) (xor-swap p u q v) ∙ xor_assoc (bit_xor p q) (bit_xor u v) w)
    ∙ xor-twice (bit_xor p q) (bit_xor (bit_xor u v) w)
    ∙ xor_comm (bit_xor u v) w
    ∙ ap (bit_xor w) (xor_comm u v)
    ∙ sym (xor_assoc w v u)

abbrev parted : ℕ → ℕ
parted h = bit_xor (bit_xor h (h * 1048576 % 18446744073709551616)) (h * 281474976710656 % 18446744073709551616)

spread-dropped : (h : ℕ) → h < 18446744073709551616 → zero_bits 64 (word (spread h)) ≡ word (parted h)
spread-dropped h hh =
    let w : ℕ = word h in
    let p : ℕ = zero_bits 64 (word (h / 65536)) in
    let q : ℕ = zero_bits 64 (word (h / 17592186044416)) in
    let u : ℕ = word (h * 281474976710656 % 18446744073709551616) in
    let v : ℕ = word (h * 1048576 % 18446744073709551616) in
    sym (added 64 (bit_xor h (h / 65536)) (h / 17592186044416))
    ∙ ap (λ (c : ℕ). bit_xor c q) (sym (added 64 h (h / 65536)))
    ∙ ap (λ (c : ℕ). bit_xor (bit_xor c p) q)
    (folds4.sum w (word_lt h) ∙ ap₂ (λ (a b : ℕ). bit_xor (bit_xor a b) w) (carry 16 48 h hh) (carry 44 20 h hh))
    ∙ leaving p q u v w
    ∙ sym
    (number-xor 64 (bit_xor h (h * 1048576 % 18446744073709551616)) (h * 281474976710656 % 18446744073709551616)
    ∙ ap (λ (c : ℕ). bit_xor c u) (number-xor 64 h (h * 1048576 % 18446744073709551616)))

pub last-dropped : (x last : ℕ) → x < 18446744073709551616 → word (bit_xor last (parted (closed x))) ≡ bit_xor (zero_bits 64 (word x)) (word last)
last-dropped x last hx =
    number-xor 64 last (parted (closed x))
    ∙ xor_comm (word last) (word (parted (closed x)))
    ∙ ap (λ (c : ℕ). bit_xor c (word last))
    (sym (spread-dropped (closed x) (closed-lt x hx)) ∙ ap (λ (y : ℕ). zero_bits 64 (word y)) (spread-closed x hx))
