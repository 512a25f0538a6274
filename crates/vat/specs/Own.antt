-- Sectors of a table's own (document 02, R-8): how the bytes of a table that is recorded are cut into them.
use Rattle.std.specs.Prelude.{ℕ, zero, suc, ◌+◌, ◌-◌, ◌*◌, ◌/◌, Bool, true, false, List, [], ◌∷◌, ◌++◌, ltb, length, take, drop, replicate}
use Rattle.extent.specs.declared.Extent.{Extent}
use Rattle.extent.specs.Extents.{extent}
use Rattle.vat.specs.Table.{sector_length, table_start}

-- "zeros to the end of the last".
abbrev pub filled_up : List ℕ → List ℕ
filled_up s = s ++ replicate (sector_length - length s) 0

-- Own sector i of a table's bytes, and the first m.
abbrev pub own_sector : List ℕ → ℕ → List ℕ
own_sector t i = filled_up (take sector_length (drop (sector_length * i) t))

unfoldable pub sectors_of : ℕ → List ℕ → List (List ℕ)
sectors_of zero t = []
sectors_of (suc m) t = filled_up (take sector_length t) ∷ sectors_of m (drop sector_length t)

-- How many a table of n bytes has: none if it fits behind its ICB, "Ours of up to 458 stay embedded".
abbrev pub own_count_if : Bool → ℕ → ℕ
own_count_if true n = 0
own_count_if false n = (n + 2047) / sector_length

unfoldable pub own_count : ℕ → ℕ
own_count n = own_count_if (ltb (table_start 0 + n) sector_length) n

abbrev pub own_sectors : List ℕ → List (List ℕ)
own_sectors t = sectors_of (own_count (length t)) t

-- The extents of n bytes in sectors at these blocks: "full but the last".
abbrev pub length_before : ℕ → List ℕ → ℕ
length_before n [] = n
length_before n (b ∷ bs) = sector_length

unfoldable pub extents_at : ℕ → List ℕ → List Extent
extents_at n [] = []
extents_at n (b ∷ bs) = extent (length_before n bs) b ∷ extents_at (n - sector_length) bs
