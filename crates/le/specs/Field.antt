-- Little-endian fields of a list of bytes (document 01: "Multi-byte fields are little-endian").
use Rattle.std.specs.Prelude.{ℕ, zero, suc, ◌+◌, ◌*◌, ◌/◌, ◌%◌, Bool, true, ◌&&◌, List, [], ◌∷◌, ◌++◌, eqb, get_or, drop}
use Rattle.std.proofs.lemmas.List.Edits.{sets}

-- The n bytes of x, low byte first.
unfoldable pub le : ℕ → ℕ → List ℕ
le zero x = []
le (suc n) x = (x % 256) ∷ le n (x / 256)

-- The number that the n bytes from place `at` hold.
unfoldable pub read_le : ℕ → List ℕ → ℕ → ℕ
read_le zero s at = 0
read_le (suc n) s at = get_or s at 0 + 256 * read_le n s (at + 1)

-- The bytes s with x put as a field of n bytes at place `at`.
abbrev pub put_le : ℕ → List ℕ → ℕ → ℕ → List ℕ
put_le n s at x = sets s at (le n x)

-- The n fields of four bytes from place `at` on, and the bytes of a list of such fields.
unfoldable pub leading_words : ℕ → List ℕ → List ℕ
leading_words zero s = []
leading_words (suc n) s = read_le 4 s 0 ∷ leading_words n (drop 4 s)

unfoldable pub words : ℕ → List ℕ → ℕ → List ℕ
words n s at = leading_words n (drop at s)

unfoldable pub le_words : List ℕ → List ℕ
le_words [] = []
le_words (x ∷ xs) = le 4 x ++ le_words xs

-- One row of a format's table: a field of `width` bytes at place `at` that holds `value`.
pub record Row : Type 0 where
  pub at : ℕ
  pub width : ℕ
  pub value : ℕ

abbrev pub row : ℕ → ℕ → ℕ → Row
row at width value = record { at = at; width = width; value = value }

-- The bytes s hold every row of the list.
unfoldable pub holds : List ℕ → List Row → Bool
holds s [] = true
holds s (r ∷ rs) = eqb (read_le r.width s r.at) r.value && holds s rs

-- The bytes s with every row of the list put, one after another.
unfoldable pub lay : List ℕ → List Row → List ℕ
lay s [] = s
lay s (r ∷ rs) = lay (put_le r.width s r.at r.value) rs
