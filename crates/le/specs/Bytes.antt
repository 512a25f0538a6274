-- Lists of bytes and numbers: tests and sums that several formats use.
use Rattle.std.specs.Prelude.{ℕ, ◌+◌, Bool, true, ◌&&◌, List, [], ◌∷◌, eqb, get_or}

-- Every number of the list passes the test.
unfoldable pub every : (ℕ → Bool) → List ℕ → Bool
every test [] = true
every test (x ∷ xs) = test x && every test xs

-- The sum of the list.
unfoldable pub total : List ℕ → ℕ
total [] = 0
total (x ∷ xs) = x + total xs

-- The bytes s hold the text from place `at` on.
unfoldable pub holds_text : List ℕ → ℕ → List ℕ → Bool
holds_text s at [] = true
holds_text s at (x ∷ xs) = eqb (get_or s at 0) x && holds_text s (at + 1) xs
