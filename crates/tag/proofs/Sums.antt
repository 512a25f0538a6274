-- A descriptor that was sealed holds both of its sums.
-- Assumes nothing.
use Prim.Native.Nat.{ℕ, ◌+◌, ◌%◌, ◌≤◌, ◌<◌}
use native.Mathlib.Nat.{mod-lt}
use native.Mathlib.Omega.{arith}
use mathlib.Core.Path.{◌≡◌, refl, sym, ap₂, ◌∙◌}
use mathlib.Core.Bool.{Bool, true, ◌&&◌}
use mathlib.Core.List.{List, [], ◌∷◌}
use mathlib.Core.Logic.{inr}
use lib.Dec.{lit<, lit≤}
use lib.ListN.{length, take, drop}
use borrow.Author.Tests.{eq-eqb}
use Rattle.le.specs.Bytes.{total}
use Rattle.le.specs.Field.{Row, row, le, read_le, put_le, lay}
use Rattle.le.proofs.Bytes.{take-sets-before, drop-sets-after}
use Rattle.le.proofs.Fields.{length-le, length-put, read-put, read-sets-apart}
use Rattle.crc.specs.Crc.{crc_of}
use Rattle.crc.proofs.Laws.{crc-lt}
use Rattle.tag.specs.Tag.{checksum, crc_length, body_crc, summed, sealed, checked, seal}

-- the two rows that sealing lays
abbrev pub seal_rows : List ℕ → List Row
seal_rows s = row 8 2 (body_crc s) ∷ row 4 1 (checksum (put_le 2 s 8 (body_crc s))) ∷ []

pub seal-lays : (s : List ℕ) → seal s ≡ lay s (seal_rows s)
unfolding seal lay
seal-lays s = refl

checksum-lt : (s : List ℕ) → checksum s < 256
unfolding checksum
checksum-lt s = mod-lt (total (take 4 s) + total (take 11 (drop 5 s))) (lit< tt)

-- the checksum does not sum itself
checksum-kept : (s : List ℕ) (x : ℕ) → checksum (put_le 1 s 4 x) ≡ checksum s
unfolding checksum
checksum-kept s x =
    ap₂ (λ (a b : List ℕ). (total a + total (take 11 b)) % 256) (take-sets-before (le 1 x) s 4 4 (lit≤ tt))
    (drop-sets-after (le 1 x) s 4 5 (rw (length-le 1 x) (lit≤ tt)))

-- neither sum is part of what the CRC sums
body_kept : (n : ℕ) (s : List ℕ) (at x : ℕ) → at + n ≤ 10 → body_crc (put_le n s at x) ≡ body_crc s
unfolding body_crc
body_kept n s at x h =
    ap₂ (λ (k : ℕ) (l : List ℕ). crc_of (take k l)) (read-sets-apart 2 s 10 at (le n x) (inr (rw (length-le n x) h)))
    (drop-sets-after (le n x) s at 16 (omega (arith, length-le n x)))

body-lt : (s : List ℕ) → body_crc s < 65536
unfolding body_crc
body-lt s = crc-lt (take (crc_length s) (drop 16 s))

pub summed-seal : (s : List ℕ) → 16 ≤ length s → summed (seal s) ≡ true
unfolding summed seal
summed-seal s h =
    let t : List ℕ = put_le 2 s 8 (body_crc s) in
    let u : List ℕ = checked t in
    let long : 16 ≤ length t = omega (arith, length-put 2 s 8 (body_crc s)) in
    eq-eqb (read_le 1 u 4) (checksum u) (read-put 1 t 4 (checksum t) (omega arith) (checksum-lt t) ∙ sym (checksum-kept t (checksum t)))

pub sealed-seal : (s : List ℕ) → 16 ≤ length s → sealed (seal s) ≡ true
unfolding sealed seal
sealed-seal s h =
    let t : List ℕ = put_le 2 s 8 (body_crc s) in
    let u : List ℕ = checked t in
    let crc : read_le 2 u 8 ≡ body_crc u =
    read-sets-apart 2 t 8 4 (le 1 (checksum t)) (inr (rw (length-le 1 (checksum t)) (lit≤ tt)))
    ∙ read-put 2 s 8 (body_crc s) (omega arith) (body-lt s)
    ∙ sym (body_kept 1 t 4 (checksum t) (lit≤ tt) ∙ body_kept 2 s 8 (body_crc s) (lit≤ tt)) in
    ap₂ (λ (a b : Bool). a && b) (summed-seal s h) (eq-eqb (read_le 2 u 8) (body_crc u) crc)
