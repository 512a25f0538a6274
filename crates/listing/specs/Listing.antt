-- The listing (document 01, 'The listing program'): which input has the form, the disc that it holds, and the whole answer.
use Rattle.std.specs.Prelude.{ℕ, zero, suc, ◌+◌, ◌-◌, ◌*◌, ◌/◌, ◌%◌, Bool, true, false, ◌&&◌, not, List, [], ◌∷◌, ◌++◌, eqb, leb, length, get_or, take, drop, replicate}
use Rattle.le.specs.Bytes.{every, holds_text}
use Rattle.vat.specs.Table.{sector_length}
use Rattle.disc.specs.Disc.{Disc, lent}
use Rattle.volume.specs.declared.Volume.{Volume}
use Rattle.volume.specs.Volume.{ledger_length, unpack}
use Rattle.recorder.specs.Calls.{mount, look_back}
use Rattle.recorder.specs.Effects.{After, after}
use Rattle.listing.specs.Text.{column, newline, heading, row_line, clean_line, dirty_line, broken_line, refused_line, used}

-- "the sector count, right-justified in 8 columns; newline"
unfoldable pub first_line : ℕ → List ℕ
first_line n = column 7 n ++ (newline ∷ [])

-- "At most 31 sectors."
abbrev pub most_listed : ℕ
most_listed = 31

-- The count, of those from 1 to n, that the first line gives; 0 if it gives none.
abbrev pub this_or : Bool → ℕ → ℕ → ℕ
this_or true n lower = n
this_or false n lower = lower

unfoldable pub count_up_to : ℕ → List ℕ → ℕ
count_up_to zero s = 0
count_up_to (suc n) s = let lower : ℕ = count_up_to n s in this_or (holds_text s 0 (first_line (suc n))) (suc n) lower

-- "one digit 0 to 3 a sector; newline; the image": where they stand in an input of n sectors.
abbrev pub digits_of : ℕ → List ℕ → List ℕ
digits_of n s = take n (drop 9 s)

abbrev pub image_of : ℕ → List ℕ → List ℕ
image_of n s = drop (10 + n) s

abbrev pub is_kind_digit : ℕ → Bool
is_kind_digit x = leb 48 x && leb x 51

unfoldable pub formed : ℕ → List ℕ → Bool
formed n s = eqb (length s) (10 + n + sector_length * n) && (every is_kind_digit (digits_of n s) && eqb (get_or s (9 + n) 0) newline)

unfoldable pub kinds_of : List ℕ → List ℕ
kinds_of [] = []
kinds_of (x ∷ xs) = (x - 48) ∷ kinds_of xs

-- The two numbers in an answer, "outcome × 4,294,967,296 + second number".
abbrev pub outcome_in : ℕ → ℕ
outcome_in answer = answer / 4294967296

abbrev pub second_in : ℕ → ℕ
second_in answer = answer % 4294967296

-- A ledger to look with: "Begin, mount and look back do not read the ledger."
unfoldable pub spare : List ℕ
spare = replicate ledger_length 0

-- "last line `clean` or `dirty`, or `broken` after a refusal 8"
abbrev pub last_line : Bool → Bool → List ℕ
last_line true clean = broken_line
last_line false true = clean_line
last_line false false = dirty_line

-- The row of look back k, from what that call leaves.
unfoldable pub row_of : ℕ → After → List ℕ
row_of k a = let v : Volume = unpack a.ledger in row_line k (second_in a.answer) v.size (used v.entries)

abbrev pub row_or : Bool → List ℕ → List ℕ → List ℕ → List ℕ
row_or true one further last = one ++ further
row_or false one further last = last

-- The rows from look back k on, "newest first", at most `left` of them, and the last line: "refusal 9 ends the rows".
unfoldable pub rows_from : Disc → Bool → ℕ → ℕ → List ℕ
rows_from d clean zero k = last_line false clean
rows_from d clean (suc left) k =
    let a : After = after d spare (look_back k) in
    let o : ℕ = outcome_in a.answer in
    let further : List ℕ = rows_from d clean left (k + 1) in
    row_or (eqb o 0) (row_of k a) further (last_line (eqb o 8) clean)

abbrev pub listed_if : Bool → List ℕ → List ℕ → List ℕ
listed_if true listed refused = listed
listed_if false listed refused = refused

-- The listing of a disc; 31 sectors have at most 31 tables.
unfoldable pub listed : Disc → List ℕ
listed d =
    let m : ℕ = (after d spare mount).answer in
    let rows : List ℕ = rows_from d (eqb (second_in m) 1) (most_listed + 1) 0 in
    listed_if (eqb (outcome_in m) 0) (heading ++ rows) (refused_line (outcome_in m))

-- "Input of another form, or a refused mount, prints only the line `refused` and the number in 4 columns (1 for the form)."
unfoldable pub listing : List ℕ → List ℕ
listing s =
    let n : ℕ = count_up_to most_listed s in
    let rows : List ℕ = listed (lent (image_of n s) (kinds_of (digits_of n s))) in
    listed_if (not (eqb n 0) && formed n s) rows (refused_line 1)
