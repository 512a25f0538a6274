-- What a view is refused with and what it leaves, from what a read of the same number answers.
-- Assumes nothing.
use Prim.Native.Nat.{ℕ, zero, suc, ◌*◌, ◌≤◌, ◌<◌}
use native.Mathlib.Omega.{arith}
use mathlib.Core.Path.{◌≡◌, refl, sym, ap, ap₂, ◌∙◌}
use mathlib.Core.Bool.{Bool, true, false, ◌&&◌, and-true, not}
use mathlib.Core.List.{List, [], ◌∷◌, ◌++◌}
use lib.Dec.{eqb}
use lib.ListN.{length}
use borrow.Author.Tests.{eq-eqb, le-leb, lt-leb}
use Rattle.vat.specs.Table.{sector_length}
use Rattle.disc.specs.Disc.{Disc, sized, in_order, kind_at, sector_at, puts}
use Rattle.volume.specs.Volume.{unpack, fits}
use Rattle.recorder.specs.Calls.{read}
use Rattle.recorder.specs.Refusals.{Test, test, first, ledger_lent, block_of, not_in_use, tests, outcome}
use Rattle.recorder.specs.Effects.{effect, left, settled, after}
use Rattle.recorder.proofs.Done.{stopped, resumed}
use Rattle.run.specs.View.{most_viewed, buffer_lent, run_tests, shown_from, filled_with, view_outcome, view_effect, view}

-- ---- the tests before 19, by what they find

abbrev asked : Bool → Bool → Bool → Bool → Bool → Bool → List Test
asked a b c e f g = test 1 a ∷ test 2 b ∷ test 3 c ∷ test 4 e ∷ test 10 f ∷ test 11 g ∷ []

-- ---- a view, beside a read that is lent a whole block

no_room_lem : (t : Bool) → (t && false) ≡ false
no_room_lem true = refl
no_room_lem false = refl

module _ (d : Disc) (l : List ℕ) (n : ℕ) (offset : ℕ) (buffer : List ℕ) where
  abbrev found : Bool → List Test
  found lengths =
      asked (not (sized d)) (not lengths) (not (in_order d.kinds)) (not (fits d (unpack l))) (not_in_use (unpack l) n) (not (eqb (kind_at d (block_of (unpack l) n)) 1))

  abbrev rest : List Test
  rest = run_tests d (block_of (unpack l) n) offset

  viewed : view_outcome d l n offset buffer ≡ first (found (buffer_lent l buffer) ++ rest)
  unfolding view_outcome
  viewed = refl

  -- a buffer that is not too long leaves the ledger's length to test
  fitting : length buffer ≤ most_viewed → buffer_lent l buffer ≡ ledger_lent l
  fitting h = ap (λ (t : Bool). ledger_lent l && t) (le-leb (length buffer) most_viewed h) ∙ and-true (ledger_lent l)

  -- 1 and 2 are asked before anything is read
  pub view-1 : sized d ≡ false → view_outcome d l n offset buffer ≡ 1
  unfolding first
  view-1 e = viewed ∙ ap (λ (t : Bool). first (asked (not t) (not (buffer_lent l buffer)) (not (in_order d.kinds)) (not (fits d (unpack l))) (not_in_use (unpack l) n) (not (eqb (kind_at d (block_of (unpack l) n)) 1)) ++ rest)) e

  pub view-2 : sized d ≡ true → most_viewed < length buffer → view_outcome d l n offset buffer ≡ 2
  unfolding first
  view-2 e long =
      let short : buffer_lent l buffer ≡ false = ap (λ (t : Bool). ledger_lent l && t) (lt-leb (length buffer) most_viewed long) ∙ no_room_lem (ledger_lent l) in
      viewed
      ∙ ap₂ (λ (t u : Bool). first (asked (not t) (not u) (not (in_order d.kinds)) (not (fits d (unpack l))) (not_in_use (unpack l) n) (not (eqb (kind_at d (block_of (unpack l) n)) 1)) ++ rest)) e short

  module _ (block : List ℕ) (whole : length block ≡ sector_length) where
    reads : outcome d l (read n block) ≡ first (found (ledger_lent l))
    unfolding outcome tests
    reads = ap (λ (t : Bool). first (found t)) (ap (λ (t : Bool). ledger_lent l && t) (eq-eqb (length block) sector_length whole) ∙ and-true (ledger_lent l))

    pub view-stopped : (outcome d l (read n block) ≡ 0 → ⊥) → length buffer ≤ most_viewed → view_outcome d l n offset buffer ≡ outcome d l (read n block)
    view-stopped other short =
        viewed ∙ ap (λ (t : Bool). first (found t ++ rest)) (fitting short) ∙ stopped (found (ledger_lent l)) rest (λ e. other (reads ∙ e)) ∙ sym reads

    pub view-tested : outcome d l (read n block) ≡ 0 → length buffer ≤ most_viewed → view_outcome d l n offset buffer ≡ first rest
    view-tested e short =
        viewed ∙ ap (λ (t : Bool). first (found t ++ rest)) (fitting short) ∙ resumed (found (ledger_lent l)) rest refl (sym reads ∙ e)

  -- what is left
  pub view-refused : (m : ℕ) → view_outcome d l n offset buffer ≡ m → (m ≡ 0 → ⊥) → left (m * 4294967296) d.image d.kinds l buffer ≡ view d l n offset buffer
  unfolding view
  view-refused zero e h = absurd (h refl)
  view-refused (suc m) e h = ap (λ (k : ℕ). settled d l buffer k (view_effect d l n offset buffer)) (sym e)

  pub view-done : view_outcome d l n offset buffer ≡ 0
      → let bytes : List ℕ = shown_from d (block_of (unpack l) n) offset (length buffer) in
      left (length bytes) d.image d.kinds l (filled_with bytes buffer) ≡ view d l n offset buffer
  unfolding view view_effect puts
  view-done e = ap (λ (k : ℕ). settled d l buffer k (view_effect d l n offset buffer)) (sym e)

-- ---- what a read answers and leaves

pub read-answers : (d : Disc) (l : List ℕ) (n : ℕ) (block : List ℕ) → (after d l (read n block)).answer ≡ outcome d l (read n block) * 4294967296
unfolding after effect
read-answers d l n block = go (outcome d l (read n block))
  where
    go : (m : ℕ) → (settled d l block m (effect d l (read n block))).answer ≡ m * 4294967296
    go zero = refl
    go (suc m) = refl

pub read-shows : (d : Disc) (l : List ℕ) (n : ℕ) (block : List ℕ) → outcome d l (read n block) ≡ 0 → (after d l (read n block)).buffer ≡ sector_at d (block_of (unpack l) n)
unfolding after effect
read-shows d l n block e = rw e
