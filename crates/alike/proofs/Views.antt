-- A view on either of two alike discs tells the same: it looks at data alone. With it document 01's sentence, `MeanNothing`.
-- Assumes nothing.
use Prim.Native.Nat.{ℕ, zero, suc, ◌≤◌, ◌<◌}
use native.Mathlib.Nat.{le_refl}
use native.Mathlib.Omega.{arith}
use mathlib.Core.Path.{◌≡◌, refl, sym, ap, ap₂, ◌∙◌, subst}
use mathlib.Core.Bool.{Bool, true, false, not}
use mathlib.Core.List.{List, [], ◌∷◌, ◌++◌}
use lib.Dec.{eqb, ltb}
use lib.ListN.{length, take, drop}
use borrow.Author.Tests.{eqb-true, not-false}
use Rattle.extent.specs.Extents.{total_length}
use Rattle.disc.specs.Disc.{Disc, kind_at, sector_at, readable, content}
use Rattle.volume.specs.Volume.{unpack}
use Rattle.recorder.specs.Refusals.{Test, test, first, basic, block_of, not_in_use, numbered_tests}
use Rattle.recorder.specs.Effects.{settled}
use Rattle.recorder.proofs.Done.{stopped, none-applies}
use Rattle.run.specs.Entry.{entry_at}
use Rattle.run.specs.View.{buffer_lent, run_tests, view_outcome, shown_from, filled_with, view_effect, view}
use Rattle.history.proofs.Growth.{data-within}
use Rattle.archive.specs.Earlier.{seen}
use Rattle.archive.proofs.Runs.{SameBelow, extents-same, entry-same, run-same}
use Rattle.alike.specs.Alike.{Alike, MeanNothing}
use Rattle.alike.proofs.Discs.{same_kind, same-content}
use Rattle.alike.proofs.Calls.{same-basic, same-unfit, same-call}

module _ {d e : Disc} (a : Alike d e) where
  all_same : SameBelow (length d.kinds) d e
  all_same =
      record {
        sectors = le_refl (length d.kinds);
        sectors' = subst (λ (ks : List ℕ). length d.kinds ≤ length ks) a.same-kinds (le_refl (length d.kinds));
        contents = λ b h. same-content a b;
      }

  module _ (l : List ℕ) (n offset : ℕ) (buffer : List ℕ) where
    abbrev b : ℕ
    b = block_of (unpack l) n

    -- up to 11, and then 19 and 20, on a disc
    abbrev up_to11 : Disc → List Test
    up_to11 x = basic x (buffer_lent l buffer) ++ numbered_tests x l n

    inside : eqb (kind_at d b) 1 ≡ true → b < length d.kinds
    inside z = data-within d.kinds b (eqb-true (kind_at d b) 1 z)

    same-up-to-11 : up_to11 d ≡ up_to11 e
    same-up-to-11 = λ i. same-basic a (buffer_lent l buffer) i ++ (same-unfit a l i ∷ test 10 (not_in_use (unpack l) n) ∷ test 11 (not (eqb (same_kind a b i) 1)) ∷ [])

    -- a view that passes these looks at data
    looks-at-data : first (up_to11 d) ≡ 0 → eqb (kind_at d b) 1 ≡ true
    looks-at-data z = not-false (eqb (kind_at d b) 1) (none-applies (up_to11 d) refl z).1.1.1.1.1.0

    same-run-tests : eqb (kind_at d b) 1 ≡ true → run_tests d b offset ≡ run_tests e b offset
    same-run-tests z =
        ap₂ (λ (t : Bool) (k : ℕ). test 19 (not t) ∷ test 20 (ltb k offset) ∷ [])
        (sym (entry-same all_same b (inside z) z)) (ap total_length (sym (extents-same all_same b (inside z) z)))

    same_outcome : view_outcome d l n offset buffer ≡ view_outcome e l n offset buffer
    unfolding view_outcome
    same_outcome = go (first (up_to11 d)) refl
      where
        go : (o : ℕ) → first (up_to11 d) ≡ o → first (up_to11 d ++ run_tests d b offset) ≡ first (up_to11 e ++ run_tests e b offset)
        go zero z = ap₂ (λ (xs ys : List Test). first (xs ++ ys)) same-up-to-11 (same-run-tests (looks-at-data z))
        go (suc o) z =
            let stops : first (up_to11 d) ≡ 0 → ⊥ = λ y. omega (arith, z, y) in
            stopped (up_to11 d) (run_tests d b offset) stops ∙ sym (stopped (up_to11 d) (run_tests e b offset) stops)
            ∙ ap (λ (xs : List Test). first (xs ++ run_tests e b offset)) same-up-to-11

    same_bytes : view_outcome d l n offset buffer ≡ 0 → shown_from d b offset (length buffer) ≡ shown_from e b offset (length buffer)
    unfolding view_outcome shown_from
    same_bytes z =
        let p = (none-applies (up_to11 d ++ run_tests d b offset) refl z).1.1.1.1.1 in
        let is-data : eqb (kind_at d b) 1 ≡ true = not-false (eqb (kind_at d b) 1) p.0 in
        ap (λ (x : List ℕ). take (length buffer) (drop offset x)) (sym (run-same all_same b (inside is-data) is-data (not-false (entry_at d b) p.1.0)))

    same_view : seen (view d l n offset buffer) ≡ seen (view e l n offset buffer)
    unfolding view view_effect
    same_view = go (view_outcome d l n offset buffer) refl ∙ ap (λ (o : ℕ). seen (settled e l buffer o (view_effect e l n offset buffer))) same_outcome
      where
        go : (o : ℕ) → view_outcome d l n offset buffer ≡ o → seen (settled d l buffer o (view_effect d l n offset buffer)) ≡ seen (settled e l buffer o (view_effect e l n offset buffer))
        go zero z = ap (λ (bytes : List ℕ). record { answer = length bytes; buffer = filled_with bytes buffer }) (same_bytes z)
        go (suc o) z = refl

pub mean-nothing : MeanNothing
mean-nothing = record { calls = λ d e a l c. same-call a l c; views = λ d e a l n offset buffer. same_view a l n offset buffer }
