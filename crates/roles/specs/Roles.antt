-- The role of each sector (document 02, R-7: "Beside the disc keep one byte a sector, 0 to 6: in use by the ledger's map, superseded, without a number,
-- table, link, unreadable, blank").
use Rattle.std.specs.Prelude.{ℕ, zero, suc, Bool, true, false, ◌||◌, List, [], ◌∷◌, ◌++◌, eqb, length, set}
use Rattle.disc.specs.Disc.{Disc, recorded, kind_at}
use Rattle.disc.specs.Tables.{table_at, named_by}

abbrev pub in_use : ℕ
in_use = 0

abbrev pub superseded : ℕ
superseded = 1

abbrev pub unnumbered : ℕ
unnumbered = 2

abbrev pub table_role : ℕ
table_role = 3

abbrev pub link_role : ℕ
link_role = 4

abbrev pub unreadable : ℕ
unreadable = 5

abbrev pub blank_role : ℕ
blank_role = 6

-- The block is one of the list.
unfoldable pub names : List ℕ → ℕ → Bool
names [] b = false
names (x ∷ xs) b = eqb x b || names xs b

-- "each sector that a table names counts as table" (document 02, R-8): block b is a table's ICB, or a table names it as its own, one of those below block n.
unfoldable pub named_below : Disc → ℕ → ℕ → Bool
named_below d zero b = false
named_below d (suc n) b = names (named_by d n) b || named_below d n b

unfoldable pub of_table : Disc → ℕ → Bool
of_table d b = table_at d b || named_below d (recorded d) b

-- "The kind decides the last three"; data has a role of its own.
abbrev pub role_of_kind : ℕ → ℕ → ℕ
role_of_kind zero own = blank_role
role_of_kind (suc zero) own = own
role_of_kind (suc (suc zero)) own = link_role
role_of_kind (suc (suc (suc k))) own = unreadable

-- Data, by whether it is a table's, the map names it, and it is known to be without a number: "a table is never in use", and "data the map does not name
-- counts as superseded".
abbrev pub role_of_data : Bool → Bool → Bool → ℕ
role_of_data true named apart = table_role
role_of_data false true apart = in_use
role_of_data false false true = unnumbered
role_of_data false false false = superseded

-- The role of block b on a disc with this map, where the blocks of the second list are known to be without a number.
unfoldable pub role_at : Disc → List ℕ → List ℕ → ℕ → ℕ
role_at d map apart b = role_of_kind (kind_at d b) (role_of_data (of_table d b) (names map b) (names apart b))

-- The roles of all sectors, one byte each.
unfoldable pub tabulate : (ℕ → ℕ) → ℕ → List ℕ
tabulate f zero = []
tabulate f (suc n) = tabulate f n ++ (f n ∷ [])

abbrev pub roles_of : Disc → List ℕ → List ℕ → List ℕ
roles_of d map apart = tabulate (role_at d map apart) (length d.kinds)

-- The sectors that one table names, marked as its own.
unfoldable pub marked_at : List ℕ → List ℕ → List ℕ
marked_at [] roles = roles
marked_at (b ∷ bs) roles = marked_at bs (set roles b table_role)
