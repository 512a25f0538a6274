-- Which blocks are a table's: its ICB, and those that it names as its own, all of them data of lower blocks.
--     names-lower, names-data    a table names data of lower blocks alone
--     none_named                 so no table at or below a block names it
--     named-by                   what a table names is named
--     named-kept, named-no-more  lower tables name the same on a disc that grew, and blocks without a table name none
--     is-table, no_table         of the table's ICB, and of other blocks
-- Assumes nothing.
use Prim.Native.Nat.{ℕ, zero, suc, ◌+◌, ◌≤◌, ◌<◌}
use native.Mathlib.Nat.{not-suc-le-zero, add-zero, add-suc}
use native.Mathlib.Omega.{arith}
use mathlib.Core.Path.{◌≡◌, refl, sym, ap, ap₂, ◌∙◌}
use mathlib.Core.Bool.{Bool, true, false, ◌||◌, or-true, false≢true}
use mathlib.Core.List.{List, [], ◌∷◌}
use lib.Dec.{eqb}
use borrow.Author.Tests.{eqb-true, eqb-false, ne_eqb}
use Rattle.disc.specs.Disc.{Disc, recorded, kind_at}
use Rattle.disc.specs.Tables.{table_at, named_by}
use Rattle.disc.proofs.Told.{NamedData, named-data, names-none, SameBelow, names_same}
use Rattle.roles.specs.Roles.{names, named_below, of_table}

-- ---- what one table names

named-low : (d : Disc) (b : ℕ) (cs : List ℕ) → NamedData d b cs → (c : ℕ) → b ≤ c → names cs c ≡ false
unfolding names
named-low d b [] n c h = refl
named-low d b (x ∷ cs) n c h = rw (ne_eqb x c (λ e. omega (arith, n.0))) (named-low d b cs n.2 c h)

pub names-lower : (d : Disc) (b c : ℕ) → b ≤ c → names (named_by d b) c ≡ false
names-lower d b c h = named-low d b (named_by d b) (named-data d b) c h

named-is-data : (d : Disc) (b : ℕ) (cs : List ℕ) → NamedData d b cs → (c : ℕ) → names cs c ≡ true → (c < b) × (kind_at d c ≡ 1)
unfolding names
named-is-data d b [] n c e = absurd (false≢true e)
named-is-data d b (x ∷ cs) n c e = go (eqb x c) refl e (named-is-data d b cs n.2 c)
  where
    go : (t : Bool) → eqb x c ≡ t → (t || names cs c) ≡ true → (names cs c ≡ true → (c < b) × (kind_at d c ≡ 1)) → (c < b) × (kind_at d c ≡ 1)
    go true z e rest = let here : x ≡ c = eqb-true x c z in (omega (arith, n.0), ap (kind_at d) (sym here) ∙ n.1)
    go false z e rest = rest e

pub names-data : (d : Disc) (b c : ℕ) → names (named_by d b) c ≡ true → (c < b) × (kind_at d c ≡ 1)
names-data d b c e = named-is-data d b (named_by d b) (named-data d b) c e

-- ---- what the tables below a block name

pub named-suc : (d : Disc) (n b : ℕ) → named_below d (suc n) b ≡ (names (named_by d n) b || named_below d n b)
unfolding named_below
named-suc d n b = refl

pub none_named : (d : Disc) (n b : ℕ) → n ≤ suc b → named_below d n b ≡ false
unfolding named_below
none_named d zero b h = refl
none_named d (suc n) b h = rw (names-lower d n b (omega arith)) (none_named d n b (omega arith))

pub named-by : (d : Disc) (n p b : ℕ) → p < n → names (named_by d p) b ≡ true → named_below d n b ≡ true
unfolding named_below
named-by d zero p b h e = absurd (not-suc-le-zero h)
named-by d (suc n) p b h e = go (eqb p n) refl (λ low. named-by d n p b low e)
  where
    go : (t : Bool) → eqb p n ≡ t → (p < n → named_below d n b ≡ true) → (names (named_by d n) b || named_below d n b) ≡ true
    go true z ih = rw (ap (λ (k : ℕ). names (named_by d k) b) (sym (eqb-true p n z)) ∙ e)
    go false z ih = let other : p ≡ n → ⊥ = eqb-false p n z in rw (ih (omega arith)) (or-true (names (named_by d n) b))

pub named-kept : (d e : Disc) (r : ℕ) → SameBelow d e r → (n b : ℕ) → n ≤ r → named_below e n b ≡ named_below d n b
unfolding named_below
named-kept d e r same zero b h = refl
named-kept d e r same (suc n) b h =
    ap₂ (λ (xs : List ℕ) (t : Bool). names xs b || t) (names_same d e n (λ c low. same c (omega arith)) (same n (omega arith))) (named-kept d e r same n b (omega arith))

pub named-no-more : (d : Disc) (r n b : ℕ) → ((c : ℕ) → r ≤ c → c < r + n → table_at d c ≡ false) → named_below d (r + n) b ≡ named_below d r b
unfolding named_below names
named-no-more d r zero b free = ap (λ (k : ℕ). named_below d k b) (add-zero r)
named-no-more d r (suc n) b free =
    ap (λ (k : ℕ). named_below d k b) (add-suc r n)
    ∙ ap (λ (xs : List ℕ). names xs b || named_below d (r + n) b) (names-none d (r + n) (free (r + n) (omega arith) (omega arith)))
    ∙ named-no-more d r n b (λ c low high. free c low (omega arith))

-- ---- a table's block

pub is-table : (d : Disc) (b : ℕ) → table_at d b ≡ true → of_table d b ≡ true
unfolding of_table
is-table d b e = rw e

pub no_table : (d : Disc) (b : ℕ) → table_at d b ≡ false → of_table d b ≡ named_below d (recorded d) b
unfolding of_table
no_table d b e = rw e
