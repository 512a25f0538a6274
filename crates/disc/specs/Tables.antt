-- The tables on a disc: the newest one, and the walk back from table to table.
use Rattle.std.specs.Prelude.{ℕ, zero, suc, Bool, true, false, ◌&&◌, List, [], eqb, ltb, Result, Ok, Err}
use Rattle.std.specs.Prelude.{Option, None, Some}
use Rattle.extent.specs.Extents.{locations}
use Rattle.vat.specs.Table.{unused, Lower, own_of, modified_of, table_of, entries_of, previous_of, is_table}
use Rattle.disc.specs.declared.Stop.{Stop}
use Rattle.disc.specs.declared.Stop.TheVariants.{Broken, Ended}
use Rattle.disc.specs.Disc.{Disc, recorded, kind_at, sector_at, readable}

-- What can be read below block b: the data of lower blocks.
abbrev pub below : Disc → ℕ → Lower
below d b c = readable (ltb c b && eqb (kind_at d c) 1) (sector_at d c)

-- A table stands at block b: its sector is of kind 1 and a table's. The table's bytes, its map, its previous table and its modification time.
unfoldable pub table_at : Disc → ℕ → Bool
table_at d b = eqb (kind_at d b) 1 && is_table (below d b) (sector_at d b) b

unfoldable pub bytes_at : Disc → ℕ → List ℕ
bytes_at d b = table_of (below d b) (sector_at d b)

unfoldable pub map_at : Disc → ℕ → List ℕ
map_at d b = entries_of (bytes_at d b)

unfoldable pub previous_at : Disc → ℕ → ℕ
previous_at d b = previous_of (bytes_at d b)

unfoldable pub time_at : Disc → ℕ → List ℕ
time_at d b = modified_of (sector_at d b)

-- The blocks of the sectors that the table at block b names as its own; none where there is no table.
abbrev pub named_if : Bool → List ℕ → List ℕ
named_if true blocks = blocks
named_if false blocks = []

unfoldable pub named_by : Disc → ℕ → List ℕ
named_by d b = named_if (table_at d b) (locations (own_of (sector_at d b)))

-- "starts at the last recorded sector and goes towards block 0. The first table sector met ends the search."
abbrev pub found : Bool → ℕ → Option ℕ → Option ℕ
found true b lower = Some b
found false b lower = lower

unfoldable pub newest_below : (ℕ → Bool) → ℕ → Option ℕ
newest_below table zero = None
newest_below table (suc b) = let lower : Option ℕ = newest_below table b in found (table b) b lower

abbrev pub newest : Disc → Option ℕ
newest d = newest_below (table_at d) (recorded d)

-- The block found; FFFFFFFF where there is none.
abbrev pub block_found : Option ℕ → ℕ
block_found None = unused
block_found (Some b) = b

-- "follows the previous entry k times": a block reached, or the first step that fails: it names no table sector (refusal 8), or it
-- "meets FFFFFFFF" (refusal 9).
abbrev pub Walk : Type 0
Walk = Result ℕ Stop

abbrev pub stepped : Bool → Bool → Walk → Walk
stepped true table further = Err Ended
stepped false false further = Err Broken
stepped false true further = further

unfoldable pub walk : (ℕ → Bool) → (ℕ → ℕ) → ℕ → ℕ → Walk
walk table previous zero b = Ok b
walk table previous (suc k) b =
    let further : Walk = walk table previous k (previous b) in
    stepped (eqb (previous b) unused) (table (previous b)) further
