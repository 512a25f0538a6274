-- Laws of a timestamp's definitions: how far a zone goes, what a valid stamp holds, that its minutes fit 32 bits, and what is
-- read of the answer (`told-minutes`, `told-mark`).
-- Assumes nothing.
use Prim.Native.Nat.{ℕ, ◌+◌, ◌%◌, ◌≤◌, ◌<◌}
use native.Mathlib.Nat.{mod-lt}
use native.Mathlib.Omega.{arith}
use mathlib.Core.Path.{◌≡◌, refl, sym, ap, ap₂, ◌∙◌}
use mathlib.Core.Bool.{Bool, true, false, ◌&&◌}
use mathlib.Core.List.{List, [], ◌++◌, append-nil}
use lib.Dec.{eqb, leb, lit<}
use lib.IntN.{ℤ}
use lib.ListN.{length, replicate, length-append}
use lib.Seq.{sets, drop_at}
use lib.Signed.{mag}
use borrow.Author.Tests.{leb-true}
use mir.Syntax.{w32}
use mir.Val.{SFits, bool_byte, to_z}
use Rattle.le.specs.Field.{le, read_le, put_le}
use Rattle.le.proofs.Bytes.{sets-append}
use Rattle.le.proofs.Fields.{length-le, read-le}
use Rattle.le.proofs.Rows.{and_left, and_right}
use Rattle.le.proofs.Runs.{sets-all}
use Rattle.timestamp.specs.Calendar.{real}
use Rattle.timestamp.specs.Timestamp.{stamp_length, told_length, signed_if, zone_of, moment_of, zoned, not_given, valid, kind_of, counted, marked, minutes_of, word, told}
use Rattle.timestamp.proofs.Dates.{is_real, minutes-small}
use Rattle.std.proofs.lemmas.Int.{ints}
use Rattle.timestamp.proofs.Signed.{word_lt, word_read}

-- ---- the zone

signed-near : (b : Bool) (x : ℕ) → x < 4096 → mag (signed_if b x) < 4096
signed-near true x h = grind (arith, ints)
signed-near false x h = omega arith

-- a zone, given or not, is far from the ends of 32 bits
pub zone-near : (s : List ℕ) → mag (zone_of s) < 4096
unfolding zone_of
zone-near s = signed-near (leb 2048 (read_le 2 s 0 % 4096)) (read_le 2 s 0 % 4096) (mod-lt (read_le 2 s 0) (lit< tt))

-- ---- a valid stamp

pub record Dated (s : List ℕ) : Type 0 where
  pub since : 1970 ≤ (moment_of s).year
  pub until : (moment_of s).year ≤ 2099
  pub date : real (moment_of s) ≡ true

pub dated : (s : List ℕ) → valid s ≡ true → Dated s
unfolding valid moment_of
dated s e =
    let y : ℕ = read_le 2 s 2 in
    let rest : Bool = leb (read_le 1 s 8) 59 && (leb (read_le 1 s 9) 99 && (leb (read_le 1 s 10) 99 && (leb (read_le 1 s 11) 99 && zoned (zone_of s)))) in
    let from : Bool = leb y 2099 && (real (moment_of s) && rest) in
    let e₁ : (leb 1970 y && from) ≡ true = and_right (eqb (kind_of s) 1) (leb 1970 y && from) e in
    let e₂ : from ≡ true = and_right (leb 1970 y) from e₁ in
    let e₃ : (real (moment_of s) && rest) ≡ true = and_right (leb y 2099) (real (moment_of s) && rest) e₂ in
    record {
      since = leb-true 1970 y (and_left (leb 1970 y) from e₁);
      until = leb-true y 2099 (and_left (leb y 2099) (real (moment_of s) && rest) e₂);
      date = and_left (real (moment_of s)) rest e₃;
    }

-- ---- the minutes

counted-near : (b : Bool) (z : ℤ) → mag z < 4096 → mag (counted b z) < 4096
counted-near true z h = lit< tt
counted-near false z h = h

pub minutes-fit : (s : List ℕ) → valid s ≡ true → SFits w32 (minutes_of s)
unfolding minutes_of
minutes-fit s e =
    let d = dated s e in
    let few = minutes-small (moment_of s) d.since d.until (is_real (moment_of s) d.date) in
    let near = counted-near (not_given (zone_of s)) (zone_of s) (zone-near s) in
    omega (arith, ints)

-- ---- the answer

-- who reads the first field as a signed number has the minutes
pub told-minutes : (s : List ℕ) → valid s ≡ true → to_z w32 (read_le 4 (told s) 0) ≡ minutes_of s
unfolding told
told-minutes s e =
    let f = minutes-fit s e in
    let mark : List ℕ = le 4 (marked (not_given (zone_of s))) in
    ap (to_z w32) (read-le 4 (word (minutes_of s)) (told s) mark 0 refl (word_lt (minutes_of s) f)) ∙ word_read (minutes_of s) f

marked-lt : (b : Bool) → marked b < 4294967296
marked-lt true = lit< tt
marked-lt false = lit< tt

pub told-mark : (s : List ℕ) → read_le 4 (told s) 4 ≡ marked (not_given (zone_of s))
unfolding told
told-mark s =
    let w : ℕ = word (minutes_of s) in
    let m : ℕ = marked (not_given (zone_of s)) in
    read-le 4 m (told s) [] 4 (drop_at (le 4 w) (le 4 m) 4 (length-le 4 w) ∙ sym (append-nil (le 4 m))) (marked-lt (not_given (zone_of s)))

pub mark-byte : (b : Bool) → bool_byte b ≡ marked b
mark-byte true = refl
mark-byte false = refl

-- two fields of four bytes fill the answer
pub two_fields : (l : List ℕ) (x y : ℕ) → length l ≡ told_length → put_le 4 (put_le 4 l 0 x) 4 y ≡ le 4 x ++ le 4 y
two_fields l x y h =
    let four : length (le 4 x) ≡ 4 = length-le 4 x in
    let eight : length (le 4 x ++ le 4 y) ≡ length l = length-append (le 4 x) (le 4 y) ∙ ap₂ ◌+◌ four (length-le 4 y) ∙ sym h in
    let place : 4 ≡ 0 + length (le 4 x) = omega arith in
    ap (λ (k : ℕ). sets (put_le 4 l 0 x) k (le 4 y)) place ∙ sym (sets-append (le 4 x) (le 4 y) l 0) ∙ sets-all (le 4 x ++ le 4 y) l eight

-- zeros, which a commit without a timestamp records, are none
pub zeros-wrong : valid (replicate stamp_length 0) ≡ false
unfolding valid read_le
zeros-wrong = refl
