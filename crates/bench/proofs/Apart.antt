-- Rows for tables in sectors of their own (document 02, R-8), as one claim over one list: the checker works each out from the definitions.
-- Assumes nothing.
use Prim.Native.Nat.{ℕ}
use mathlib.Core.Bool.{true, false}
use mathlib.Core.List.{List, [], ◌∷◌, ◌++◌}
use Rattle.std.specs.Prelude.{None, Some}
use lib.Dec.{T}
use lib.ListN.{length, replicate}
use lib.Seq.{sets}
use Rattle.le.specs.Field.{le_words, lay}
use Rattle.extent.specs.declared.Extent.{Extent}
use Rattle.extent.specs.Extents.{extent, descriptors_length, descriptors}
use Rattle.tag.specs.Tag.{seal}
use Rattle.vat.specs.Table.{unused, plain_rows, length_rows}
use Rattle.vat.specs.Sector.{table_regid, table_bytes, own_rows}
use Rattle.vat.specs.Own.{own_sector}
use Rattle.disc.specs.Disc.{Disc}
use Rattle.recorder.specs.Calls.{begin, mount, write, commit}
use Rattle.bench.proofs.Starred.{opened, blank, block, refused, numbers, most, Example, table-at, calls-on, right, all_right, expects, worked, all-worked, rows_right}

-- An ICB at block 1 with these flags, extents and information length; and a disc of it behind a sector of this kind, then a blank one.
abbrev pub naming : ℕ → List Extent → ℕ → List ℕ
naming flags extents information =
    seal (lay (sets (block 0) 176 (descriptors extents)) (plain_rows 1 ++ (length_rows 0 (descriptors_length (length extents)) information ++ own_rows flags)))

abbrev pub behind_own : ℕ → List ℕ → List ℕ → Disc
behind_own kind s ours = record { image = s ++ (ours ++ block 0); kinds = kind ∷ 1 ∷ 0 ∷ [] }

-- The own sector of another deck's table of two numbers, of which number 0 names this sector; of one of 503, which fill it; and one that is both own sectors of a
-- table of 504.
abbrev pub two_numbers : List ℕ
two_numbers = own_sector (table_bytes (0 ∷ unused ∷ []) unused) 0

abbrev pub full_sector : List ℕ
full_sector = own_sector (table_bytes (replicate 503 0) unused) 0

abbrev pub twice : List ℕ
twice = le_words (replicate 504 0) ++ table_regid

-- Recognised, and not with another kind, other flags, an information length of another number, a table that is no 4 N + 36 bytes, a block not below, another
-- extent type, or no sector; a full sector, and not with an empty one behind it; one block at two places, and not with a sector before the last that is not full.
-- Such a table is found; and 15, but not of an ICB whose sector makes it no table.
-- Room for the own sector and the ICB; eight own sectors; and a second save that names the first of its two own sectors again.
unfoldable pub apart : List Example
apart =
    table-at (behind_own 1 two_numbers (naming 0 (extent 44 0 ∷ []) 44)) 1 true
    ∷ table-at (behind_own 3 two_numbers (naming 0 (extent 44 0 ∷ []) 44)) 1 false
    ∷ table-at (behind_own 1 two_numbers (naming 1 (extent 44 0 ∷ []) 44)) 1 false
    ∷ table-at (behind_own 1 two_numbers (naming 0 (extent 44 0 ∷ []) 45)) 1 false
    ∷ table-at (behind_own 1 two_numbers (naming 0 (extent 43 0 ∷ []) 43)) 1 false
    ∷ table-at (behind_own 1 two_numbers (naming 0 (extent 44 1 ∷ []) 44)) 1 false
    ∷ table-at (behind_own 1 two_numbers (naming 0 (extent 1073741868 0 ∷ []) 44)) 1 false
    ∷ table-at (behind_own 1 two_numbers (naming 0 [] 0)) 1 false
    ∷ table-at (behind_own 1 full_sector (naming 0 (extent 2048 0 ∷ []) 2048)) 1 true
    ∷ table-at (behind_own 1 full_sector (naming 0 (extent 2048 0 ∷ extent 0 0 ∷ []) 2048)) 1 false
    ∷ table-at (behind_own 1 twice (naming 0 (extent 2048 0 ∷ extent 4 0 ∷ []) 2052)) 1 true
    ∷ table-at (behind_own 1 twice (naming 0 (extent 2044 0 ∷ extent 8 0 ∷ []) 2052)) 1 false
    ∷ calls-on (behind_own 1 two_numbers (naming 0 (extent 44 0 ∷ []) 44)) most (begin ∷ mount ∷ []) (refused 6 ∷ 1 ∷ [])
    ∷ calls-on (blank 18) most (begin ∷ write (Some 0) two_numbers ∷ write (Some 1) (naming 0 (extent 44 0 ∷ []) 44) ∷ []) (0 ∷ 0 ∷ refused 15 ∷ [])
    ∷ calls-on (blank 18) most (begin ∷ write (Some 0) (block 1) ∷ write (Some 1) (naming 0 (extent 44 0 ∷ []) 44) ∷ []) (0 ∷ 0 ∷ 1 ∷ [])
    ∷ calls-on (blank 1) (numbers 459) (commit None ∷ []) (refused 14 ∷ [])
    ∷ calls-on (blank 2) (numbers 459) (commit None ∷ []) (1 ∷ [])
    ∷ calls-on (blank 9) most (commit None ∷ []) (8 ∷ [])
    ∷ calls-on (blank 5) (numbers 504) (commit None ∷ commit None ∷ []) (2 ∷ 4 ∷ [])
    ∷ []

pub apart-rows : T (all_right apart)
unfolding opened right expects worked all-worked apart
apart-rows = rows_right apart tt
