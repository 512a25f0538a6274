-- Which blocks are a table's once sectors were recorded: no block that was recorded before changes, and of a save all its own sectors are, with its ICB.
--     plain-below, plain-since  sectors among which is no table
--     save-owned                a save
-- Assumes nothing.
use Prim.Native.Nat.{ℕ, suc, ◌+◌, ◌-◌, ◌≤◌, ◌<◌}
use native.Mathlib.Omega.{arith}
use mathlib.Core.Path.{◌≡◌, refl, sym, ap, ap₂, ◌∙◌}
use mathlib.Core.Bool.{Bool, true, false, ◌||◌, or-true, false≢true}
use mathlib.Core.List.{List}
use lib.ListN.{length}
use Rattle.disc.specs.Disc.{Disc, recorded}
use Rattle.disc.specs.Tables.{table_at, named_by}
use Rattle.disc.specs.Again.{own_blocks, again_of, fresh_of}
use Rattle.disc.proofs.Recording.{Sound}
use Rattle.disc.proofs.Told.{names-none}
use Rattle.disc.proofs.Found.{table-recorded}
use Rattle.roles.specs.Roles.{names, named_below, of_table}
use Rattle.roles.proofs.Tables.{names-data, named-suc, none_named, named-by, named-kept, named-no-more, is-table, no_table}
use Rattle.history.proofs.Log.{Extends, Plain}
use Rattle.history.proofs.Growth.{F}
use Rattle.space.proofs.Named.{again-named, fresh-named}

-- ---- no table among them

module _ (d d' : Disc) (p : Plain F d d') where
  named-before : (b : ℕ) → named_below d' (recorded d') b ≡ named_below d (recorded d) b
  named-before b =
      let r : ℕ = recorded d in
      let all : r + (recorded d' - r) ≡ recorded d' = omega (arith, p.extends.more) in
      ap (λ (n : ℕ). named_below d' n b) (sym all)
      ∙ named-no-more d' r (recorded d' - r) b (λ c low high. p.no_table c low (omega arith))
      ∙ named-kept d d' r p.extends.contents r b (omega arith)

  pub plain-below : (b : ℕ) → b < recorded d → of_table d' b ≡ of_table d b
  unfolding of_table
  plain-below b h = ap₂ (λ (t u : Bool). t || u) (p.extends.tables b h) (named-before b)

  pub plain-since : (b : ℕ) → recorded d ≤ b → b < recorded d' → of_table d' b ≡ false
  plain-since b low high = no_table d' b (p.no_table b low high) ∙ named-before b ∙ none_named d (recorded d) b (omega arith)

-- ---- a save

-- its own sectors begin at block `at`, and its ICB stands at block b
pub record SaveOwned (d d' : Disc) (at b : ℕ) : Type 0 where
  pub kept : (i : ℕ) → i < recorded d → of_table d' i ≡ of_table d i
  pub ahead : (i : ℕ) → recorded d ≤ i → i < at → of_table d' i ≡ false
  pub own : (i : ℕ) → at ≤ i → i < b → of_table d' i ≡ true
  pub icb : of_table d' b ≡ true

-- e is the disc before the ICB is recorded
module _ (d e d' : Disc) (ok : Sound d) (p : Plain F d e) (x : Extends F e d') (b : ℕ) (here : recorded e ≡ b) (last : recorded d' ≡ suc b) (table : table_at d' b ≡ true)
    (bytes : List ℕ) (previous at : ℕ) (named : named_by d' b ≡ own_blocks (again_of d bytes previous) at) (behind : recorded d ≤ at) (ends : at + length (fresh_of d bytes previous) ≡ b) where
  abbrev blocks : List ℕ
  blocks = own_blocks (again_of d bytes previous) at

  -- a block before the ICB was a table's, or the save names it
  joined : (i : ℕ) → i < b → of_table d' i ≡ (table_at e i || (names blocks i || named_below e (recorded e) i))
  unfolding of_table
  joined i h =
      let lower : named_below d' b i ≡ named_below e (recorded e) i =
      ap (λ (n : ℕ). named_below d' n i) (sym here) ∙ named-kept e d' (recorded e) x.contents (recorded e) i (omega arith) in
      ap₂ (λ (t u : Bool). t || u) (x.tables i (omega (arith, here)))
      (ap (λ (n : ℕ). named_below d' n i) last ∙ named-suc d' b i ∙ ap₂ (λ (xs : List ℕ) (u : Bool). names xs i || u) named lower)

  named-so : (i : ℕ) → i < b → names blocks i ≡ true → of_table d' i ≡ true
  named-so i h n = joined i h ∙ rw n (or-true (table_at e i))

  not-named-so : (i : ℕ) → i < b → names blocks i ≡ false → of_table d' i ≡ of_table e i
  unfolding of_table
  not-named-so i h n = joined i h ∙ rw n refl

  -- what is named again is a block that the previous table named
  again-is : (i : ℕ) → i < at → names blocks i ≡ true → (i < recorded d) × (named_below d (recorded d) i ≡ true)
  unfolding names
  again-is i h n = go (table_at d previous) refl
    where
      was : names (named_by d previous) i ≡ true
      was = again-named d bytes previous at i h n

      go : (t : Bool) → table_at d previous ≡ t → (i < recorded d) × (named_below d (recorded d) i ≡ true)
      go true t =
          let low : previous < recorded d = table-recorded d ok previous t in
          (omega (arith, (names-data d previous i was).0), named-by d (recorded d) previous i low was)
      go false t = absurd (false≢true (ap (λ (xs : List ℕ). names xs i) (sym (names-none d previous t)) ∙ was))

  saved-below : (i : ℕ) → i < recorded d → of_table d' i ≡ of_table d i
  unfolding of_table
  saved-below i h = go (names blocks i) refl
    where
      go : (t : Bool) → names blocks i ≡ t → of_table d' i ≡ of_table d i
      go true n = named-so i (omega arith) n ∙ sym (ap (λ (u : Bool). table_at d i || u) (again-is i (omega arith) n).1 ∙ or-true (table_at d i))
      go false n = not-named-so i (omega arith) n ∙ plain-below d e p i h

  saved-ahead : (i : ℕ) → recorded d ≤ i → i < at → of_table d' i ≡ false
  saved-ahead i low high = go (names blocks i) refl
    where
      go : (t : Bool) → names blocks i ≡ t → of_table d' i ≡ false
      go true n = absurd (omega (arith, (again-is i high n).0))
      go false n = not-named-so i (omega arith) n ∙ plain-since d e p i low (omega (arith, here))

  pub save-owned : SaveOwned d d' at b
  save-owned =
      record {
        kept = saved-below;
        ahead = saved-ahead;
        own = λ i low high. named-so i high (fresh-named d bytes previous at i low (omega arith));
        icb = is-table d' b table;
      }
