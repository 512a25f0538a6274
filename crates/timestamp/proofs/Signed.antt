-- A signed number's 32 bits, as the library takes and reads them, are those of the definition.
-- Assumes nothing.
use Prim.Native.Nat.{◌<◌}
use native.Mathlib.Omega.{arith}
use mathlib.Core.Path.{◌≡◌, refl, ap, ◌∙◌}
use lib.IntN.{ℤ, pos, negsuc}
use mir.Syntax.{w32}
use mir.Val.{SFits, to_z, of_z}
use mir.Facts.{to_z-of_z}
use Rattle.timestamp.specs.Timestamp.{word}

pub word-bits : (x : ℤ) → word x ≡ of_z w32 x
word-bits (pos n) = refl
word-bits (negsuc n) = omega arith

pub word_lt : (x : ℤ) → SFits w32 x → word x < 4294967296
word_lt (pos n) f = omega arith
word_lt (negsuc n) f = omega arith

-- the bits, read as signed, give the number back
pub word_read : (x : ℤ) → SFits w32 x → to_z w32 (word x) ≡ x
word_read x f = ap (to_z w32) (word-bits x) ∙ to_z-of_z f
