-- A view of a run (document 02, R-6): "From a 64-bit offset it fills the lent buffer (at most 65,536 bytes, else 2) as far as the run goes; the second number
-- counts the bytes." It alters neither disc nor ledger; as a read it is allowed with mode 2 and sees unsaved numbers.
use Rattle.std.specs.Prelude.{ℕ, Bool, ◌&&◌, not, List, [], ◌∷◌, ◌++◌, ltb, leb, length, take, drop}
use Rattle.extent.specs.Extents.{total_length}
use Rattle.disc.specs.Disc.{Disc}
use Rattle.volume.specs.Volume.{unpack}
use Rattle.recorder.specs.Refusals.{Test, test, first, basic, ledger_lent, block_of, numbered_tests}
use Rattle.recorder.specs.Effects.{Effect, After, settled}
use Rattle.run.specs.Entry.{entry_at, extents_at, run_bytes}

abbrev pub most_viewed : ℕ
most_viewed = 65536

abbrev pub buffer_lent : List ℕ → List ℕ → Bool
buffer_lent l buffer = ledger_lent l && leb (length buffer) most_viewed

-- A view's own tests, of the block b that the number names: "19, the numbered block is not such an entry, tested after 11; 20, the offset exceeds the
-- run's length, tested after 19".
abbrev pub run_tests : Disc → ℕ → ℕ → List Test
run_tests d b offset = test 19 (not (entry_at d b)) ∷ test 20 (ltb (total_length (extents_at d b)) offset) ∷ []

unfoldable pub view_outcome : Disc → List ℕ → ℕ → ℕ → List ℕ → ℕ
view_outcome d l n offset buffer =
    first (basic d (buffer_lent l buffer) ++ (numbered_tests d l n ++ run_tests d (block_of (unpack l) n) offset))

-- What the run at block b shows from the offset on, as much as there is room for; and the buffer with it, its other bytes as they were.
unfoldable pub shown_from : Disc → ℕ → ℕ → ℕ → List ℕ
shown_from d b offset room = take room (drop offset (run_bytes d (extents_at d b)))

abbrev pub filled_with : List ℕ → List ℕ → List ℕ
filled_with bytes buffer = bytes ++ drop (length bytes) buffer

unfoldable pub view_effect : Disc → List ℕ → ℕ → ℕ → List ℕ → Effect
view_effect d l n offset buffer =
    let bytes : List ℕ = shown_from d (block_of (unpack l) n) offset (length buffer) in
    record { second = length bytes; sectors = []; ledger = l; buffer = filled_with bytes buffer }

-- All that a view leaves.
unfoldable pub view : Disc → List ℕ → ℕ → ℕ → List ℕ → After
view d l n offset buffer = settled d l buffer (view_outcome d l n offset buffer) (view_effect d l n offset buffer)
