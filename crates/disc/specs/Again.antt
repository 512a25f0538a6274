-- The own sectors of a save (document 02, R-8): "An own sector whose 2,048 bytes equal those of the own sector at its place in the table named as previous is
-- named again and not recorded; the rest come before the ICB, in order."
use Rattle.std.specs.Prelude.{ℕ, ◌+◌, Bool, true, false, ◌&&◌, List, [], ◌∷◌, eqb}
use Rattle.std.specs.Prelude.{Option, None, Some}
use Rattle.vat.specs.Table.{Lower, bytes_of}
use Rattle.vat.specs.Own.{own_sectors}
use Rattle.disc.specs.Disc.{Disc, content, Sector, plain}
use Rattle.disc.specs.Tables.{named_by}

-- The lists are equal.
unfoldable pub same : List ℕ → List ℕ → Bool
same [] [] = true
same [] (y ∷ ys) = false
same (x ∷ xs) [] = false
same (x ∷ xs) (y ∷ ys) = eqb x y && same xs ys

-- Of each own sector, by its place: the block at which it is named again, if its bytes stand there. The blocks are those of the table named as previous.
abbrev pub again_if : Bool → ℕ → Option ℕ
again_if true o = Some o
again_if false o = None

unfoldable pub named_again : Lower → List ℕ → List (List ℕ) → List (Option ℕ)
named_again lower olds [] = []
named_again lower [] (s ∷ ss) = None ∷ named_again lower [] ss
named_again lower (o ∷ os) (s ∷ ss) = again_if (same (bytes_of (lower o)) s) o ∷ named_again lower os ss

-- The blocks of all, where the others are recorded from block b on; and these others.
unfoldable pub own_blocks : List (Option ℕ) → ℕ → List ℕ
own_blocks [] b = []
own_blocks (Some o ∷ rs) b = o ∷ own_blocks rs b
own_blocks (None ∷ rs) b = b ∷ own_blocks rs (b + 1)

unfoldable pub fresh : List (Option ℕ) → List (List ℕ) → List (List ℕ)
fresh [] ss = []
fresh (r ∷ rs) [] = []
fresh (Some o ∷ rs) (s ∷ ss) = fresh rs ss
fresh (None ∷ rs) (s ∷ ss) = s ∷ fresh rs ss

-- The bytes t of a table, on a disc with the table named as previous: which of its own sectors are named again, and which are recorded.
unfoldable pub again_of : Disc → List ℕ → ℕ → List (Option ℕ)
again_of d t previous = named_again (content d) (named_by d previous) (own_sectors t)

unfoldable pub fresh_of : Disc → List ℕ → ℕ → List (List ℕ)
fresh_of d t previous = fresh (again_of d t previous) (own_sectors t)

abbrev pub plains : List (List ℕ) → List Sector
plains [] = []
plains (s ∷ ss) = plain s ∷ plains ss
