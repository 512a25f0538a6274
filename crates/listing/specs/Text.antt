-- The text of a listing (document 01, 'The listing program'): numbers in columns, the heading, a row, and the last line.
use Rattle.std.specs.Prelude.{ℕ, zero, suc, ◌+◌, ◌/◌, ◌%◌, Bool, true, false, List, [], ◌∷◌, ◌++◌, eqb}
use Rattle.vat.specs.Table.{unused}

-- A digit, or a blank in front of a number.
abbrev pub digit : ℕ → ℕ
digit n = 48 + n % 10

abbrev pub digit_or_blank : ℕ → ℕ
digit_or_blank zero = 32
digit_or_blank (suc n) = digit (suc n)

-- The w columns in front of a last digit: the number n that they hold, blanks if it is 0.
unfoldable pub ahead : ℕ → ℕ → List ℕ
ahead zero n = []
ahead (suc w) n = ahead w (n / 10) ++ (digit_or_blank n ∷ [])

-- A number "right-justified" in w + 1 columns.
unfoldable pub column : ℕ → ℕ → List ℕ
column w n = ahead w (n / 10) ++ (digit n ∷ [])

-- "every line ends in a newline"
abbrev pub newline : ℕ
newline = 10

-- "   k   block  size  used"
unfoldable pub heading : List ℕ
heading =
    32 ∷ 32 ∷ 32 ∷ 107 ∷ 32 ∷ 32 ∷ 32 ∷ 98 ∷ 108 ∷ 111 ∷ 99 ∷ 107 ∷ 32 ∷ 32 ∷ 115 ∷ 105 ∷ 122 ∷ 101 ∷ 32 ∷ 32 ∷ 117 ∷ 115 ∷ 101 ∷ 100 ∷ newline ∷ []

-- "k in 4, block in 8, size in 6, entries in use in 6".
unfoldable pub row_line : ℕ → ℕ → ℕ → ℕ → List ℕ
row_line k block size used = column 3 k ++ (column 7 block ++ (column 5 size ++ (column 5 used ++ (newline ∷ []))))

-- "last line `clean` or `dirty`, or `broken` after a refusal 8"
unfoldable pub clean_line : List ℕ
clean_line = 99 ∷ 108 ∷ 101 ∷ 97 ∷ 110 ∷ newline ∷ []

unfoldable pub dirty_line : List ℕ
dirty_line = 100 ∷ 105 ∷ 114 ∷ 116 ∷ 121 ∷ newline ∷ []

unfoldable pub broken_line : List ℕ
broken_line = 98 ∷ 114 ∷ 111 ∷ 107 ∷ 101 ∷ 110 ∷ newline ∷ []

-- "the line `refused` and the number in 4 columns"
unfoldable pub refused_line : ℕ → List ℕ
refused_line n = 114 ∷ 101 ∷ 102 ∷ 117 ∷ 115 ∷ 101 ∷ 100 ∷ (column 3 n ++ (newline ∷ []))

-- Entries in use: those that are not FFFFFFFF.
abbrev pub counting : Bool → ℕ → ℕ
counting true n = n
counting false n = suc n

unfoldable pub used : List ℕ → ℕ
used [] = 0
used (x ∷ xs) = let n : ℕ = used xs in counting (eqb x unused) n
