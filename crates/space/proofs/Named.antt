-- Which blocks a map names: those that it lists, and after an entry is set or added. Then the blocks of a run, and those of a save's own sectors.
-- Assumes nothing.
use Prim.Native.Nat.{ℕ, zero, suc, ◌+◌, ◌≤◌, ◌<◌}
use native.Mathlib.Nat.{not-suc-le-zero}
use native.Mathlib.Omega.{arith}
use mathlib.Core.Path.{◌≡◌, refl, sym, ap, ◌∙◌}
use mathlib.Core.Bool.{Bool, true, false, ◌||◌, or-true, or_comm}
use mathlib.Core.List.{List, [], ◌∷◌, ◌++◌}
use mathlib.Core.Logic.{inl, inr}
use Rattle.std.specs.Prelude.{Option, None, Some}
use lib.Dec.{eqb}
use lib.ListN.{length, get_or, set}
use borrow.Author.Tests.{eq-eqb, ne_eqb, eqb-true, eqb-false}
use Rattle.vat.specs.Table.{unused, Lower, bytes_of}
use Rattle.vat.specs.Own.{own_sectors}
use Rattle.vat.proofs.Theorems.{Named}
use Rattle.disc.specs.Disc.{Disc, content}
use Rattle.disc.specs.Tables.{named_by}
use Rattle.disc.specs.Again.{same, again_if, named_again, own_blocks, fresh, again_of, fresh_of}
use Rattle.volume.proofs.State.{grown_map}
use Rattle.roles.specs.Roles.{names}
use Rattle.roles.proofs.Roles.{names-snoc, names-other}
use Rattle.history.proofs.Log.{AllBelow}
use Rattle.space.specs.Space.{blocks_from}

either : (a b : Bool) → a ≡ false → b ≡ false → (a || b) ≡ false
either a b p q = rw (p, q)

-- a list names what it lists
pub names-entry : (xs : List ℕ) (n x : ℕ) → n < length xs → names xs (get_or xs n x) ≡ true
unfolding names
names-entry [] n x h = absurd (not-suc-le-zero h)
names-entry (y ∷ ys) zero x h = rw (eq-eqb y y refl)
names-entry (y ∷ ys) (suc n) x h = rw (names-entry ys n x (omega arith)) (or-true (eqb y (get_or ys n x)))

-- and no block at or above what is recorded
pub names-above : (r : ℕ) (xs : List ℕ) (b : ℕ) → AllBelow r xs → r ≤ b → b < unused → names xs b ≡ false
unfolding names
names-above r [] b a low high = refl
names-above r (x ∷ xs) b a low high = either (eqb x b) (names xs b) (ne_eqb x b (go a.0)) (names-above r xs b a.1 low high)
  where
    go : Named r x → x ≡ b → ⊥
    go (inl h) e = omega arith
    go (inr h) e = omega arith

-- an entry that is set takes the place of one other block alone
pub names-set : (xs : List ℕ) (n b x i : ℕ) → n < length xs → (i ≡ get_or xs n x → ⊥) → names (set xs n b) i ≡ names (xs ++ (b ∷ [])) i
unfolding names
names-set [] n b x i h other = absurd (not-suc-le-zero h)
names-set (y ∷ ys) zero b x i h other = rw (ne_eqb y i (λ e. other (sym e))) (or_comm (eqb b i) (names ys i) ∙ sym (names-snoc ys b i))
names-set (y ∷ ys) (suc n) b x i h other = ap (λ (t : Bool). eqb y i || t) (names-set ys n b x i (omega arith) other)

-- no other block is named anew
pub names-grown : (t : Bool) (xs : List ℕ) (n b i : ℕ) → (i ≡ b → ⊥) → names xs i ≡ false → names (grown_map t xs n b) i ≡ false
unfolding names
names-grown true xs n b i other e = names-other xs b i other ∙ e
names-grown false xs n b i other e = unset xs n e
  where
    right : (a c : Bool) → (a || c) ≡ false → c ≡ false
    right true c z = absurd (mathlib.Core.Bool.true≢false z)
    right false c z = z

    left : (a c : Bool) → (a || c) ≡ false → a ≡ false
    left true c z = z
    left false c z = refl

    unset : (xs : List ℕ) (n : ℕ) → names xs i ≡ false → names (set xs n b) i ≡ false
    unset [] n z = z
    unset (y ∷ ys) zero z = either (eqb b i) (names ys i) (ne_eqb b i (λ z. other (sym z))) (right (eqb y i) (names ys i) z)
    unset (y ∷ ys) (suc n) z = either (eqb y i) (names (set ys n b) i) (left (eqb y i) (names ys i) z) (unset ys n (right (eqb y i) (names ys i) z))

-- ---- the blocks of a run

pub run-named : (n b i : ℕ) → b ≤ i → i < b + n → names (blocks_from b n) i ≡ true
unfolding names
run-named zero b i low high = absurd (omega arith)
run-named (suc n) b i low high = go (run-named n (b + 1) i) (eqb b i) refl
  where
    go : (b + 1 ≤ i → i < b + 1 + n → names (blocks_from (b + 1) n) i ≡ true) → (t : Bool) → eqb b i ≡ t → (eqb b i || names (blocks_from (b + 1) n) i) ≡ true
    go ih true e = rw e
    go ih false e =
        let other : b ≡ i → ⊥ = eqb-false b i e in
        rw (ih (omega arith) (omega arith)) (or-true (eqb b i))

pub run-within : (n b i : ℕ) → names (blocks_from b n) i ≡ true → (b ≤ i) × (i < b + n)
unfolding names
run-within zero b i e = absurd (mathlib.Core.Bool.false≢true e)
run-within (suc n) b i e = go (run-within n (b + 1) i) (eqb b i) refl e
  where
    go : (names (blocks_from (b + 1) n) i ≡ true → (b + 1 ≤ i) × (i < b + 1 + n)) → (t : Bool) → eqb b i ≡ t → (t || names (blocks_from (b + 1) n) i) ≡ true → (b ≤ i) × (i < b + suc n)
    go ih true z e = let here : b ≡ i = eqb-true b i z in (omega arith, omega arith)
    go ih false z e =
        let further : (b + 1 ≤ i) × (i < b + 1 + n) = ih e in
        (omega arith, omega arith)

-- ---- the blocks of a save's own sectors

-- a block below those that are recorded is one that is named again
again-listed : (lower : Lower) (olds : List ℕ) (ss : List (List ℕ)) (at b : ℕ) → b < at → names (own_blocks (named_again lower olds ss) at) b ≡ true → names olds b ≡ true
unfolding named_again own_blocks names
again-listed lower [] [] at b h e = e
again-listed lower (o ∷ os) [] at b h e = absurd (mathlib.Core.Bool.false≢true e)
again-listed lower [] (s ∷ ss) at b h e =
    again-listed lower [] ss (at + 1) b (omega arith) (ap (λ (t : Bool). t || names (own_blocks (named_again lower [] ss) (at + 1)) b) (sym (ne_eqb at b (λ z. omega arith))) ∙ e)
again-listed lower (o ∷ os) (s ∷ ss) at b h e =
    go (same (bytes_of (lower o)) s) e (λ e. again-listed lower os ss at b h e) (λ e. again-listed lower os ss (at + 1) b (omega arith) e)
  where
    rest : List (Option ℕ)
    rest = named_again lower os ss

    go : (t : Bool) → names (own_blocks (again_if t o ∷ rest) at) b ≡ true → (names (own_blocks rest at) b ≡ true → names os b ≡ true)
        → (names (own_blocks rest (at + 1)) b ≡ true → names os b ≡ true) → (eqb o b || names os b) ≡ true
    go true e here next = either-of (eqb o b) e
      where
        either-of : (u : Bool) → (u || names (own_blocks rest at) b) ≡ true → (u || names os b) ≡ true
        either-of true z = refl
        either-of false z = here z
    go false e here next =
        rw (next (ap (λ (t : Bool). t || names (own_blocks rest (at + 1)) b) (sym (ne_eqb at b (λ z. omega arith))) ∙ e)) (or-true (eqb o b))

pub again-named : (d : Disc) (bytes : List ℕ) (previous at b : ℕ) → b < at → names (own_blocks (again_of d bytes previous) at) b ≡ true → names (named_by d previous) b ≡ true
unfolding again_of
again-named d bytes previous at b h e = again-listed (content d) (named_by d previous) (own_sectors bytes) at b h e

-- all that are recorded are among them
fresh-listed : (rs : List (Option ℕ)) (ss : List (List ℕ)) (at b : ℕ) → at ≤ b → b < at + length (fresh rs ss) → names (own_blocks rs at) b ≡ true
unfolding fresh own_blocks names
fresh-listed [] ss at b low high = absurd (omega arith)
fresh-listed (None ∷ rs) [] at b low high = absurd (omega arith)
fresh-listed (Some o ∷ rs) [] at b low high = absurd (omega arith)
fresh-listed (Some o ∷ rs) (s ∷ ss) at b low high = rw (fresh-listed rs ss at b low high) (or-true (eqb o b))
fresh-listed (None ∷ rs) (s ∷ ss) at b low high = go (eqb at b) refl (fresh-listed rs ss (at + 1) b)
  where
    go : (t : Bool) → eqb at b ≡ t → (at + 1 ≤ b → b < at + 1 + length (fresh rs ss) → names (own_blocks rs (at + 1)) b ≡ true) → (eqb at b || names (own_blocks rs (at + 1)) b) ≡ true
    go true z ih = rw z
    go false z ih = let other : at ≡ b → ⊥ = eqb-false at b z in rw (ih (omega arith) (omega arith)) (or-true (eqb at b))

pub fresh-named : (d : Disc) (bytes : List ℕ) (previous at b : ℕ) → at ≤ b → b < at + length (fresh_of d bytes previous) → names (own_blocks (again_of d bytes previous) at) b ≡ true
unfolding fresh_of
fresh-named d bytes previous at b low high = fresh-listed (again_of d bytes previous) (own_sectors bytes) at b low high
