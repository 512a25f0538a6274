-- The sectors of a save (document 01, **Commit**; document 02, R-8).
use Rattle.std.specs.Prelude.{ℕ, ◌+◌, ◌-◌, List, [], ◌∷◌, ◌++◌, length}
use Rattle.vat.specs.Sector.{icb}
use Rattle.disc.specs.Disc.{Disc, Sector, plain}
use Rattle.disc.specs.Again.{own_blocks, again_of, fresh_of, plains}

-- The ICB of a save for the bytes t of a table, the table that it names as previous and a timestamp: behind the own sectors that are recorded from block b on.
unfoldable pub icb_of : Disc → List ℕ → ℕ → List ℕ → ℕ → List ℕ
icb_of d t previous stamp b = icb t (own_blocks (again_of d t previous) b) stamp (b + length (fresh_of d t previous))

-- All that is recorded of a save from block b on, which only its last sector, the ICB, makes a save.
unfoldable pub save_sectors : Disc → List ℕ → ℕ → List ℕ → ℕ → List Sector
save_sectors d t previous stamp b = plains (fresh_of d t previous) ++ (plain (icb_of d t previous stamp b) ∷ [])

-- The block of the last of the sectors that are recorded from block b on.
abbrev pub last_block : ℕ → List Sector → ℕ
last_block b sectors = b + (length sectors - 1)
