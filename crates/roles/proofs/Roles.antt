-- A table of a function's values: its length, each value, what a store makes of it. Then which blocks a list names, the role of one block, and lists
-- stored one after another.
-- Assumes nothing.
use Prim.Native.Nat.{ℕ, zero, suc, ◌+◌, ◌≤◌, ◌<◌}
use native.Mathlib.Nat.{not-suc-le-zero, add-zero}
use native.Mathlib.Numerals.{add-one}
use native.Mathlib.Omega.{arith}
use mathlib.Core.Path.{◌≡◌, refl, sym, ap, ap₂, ◌∙◌}
use mathlib.Core.Bool.{Bool, true, false, ◌&&◌, ◌||◌, not, or_assoc, or-false, or-true}
use mathlib.Core.List.{List, [], ◌∷◌, ◌++◌, append_assoc}
use lib.Dec.{eqb}
use lib.ListN.{length, get_or, take, drop, set, length-set, length-append, take-append-drop, get_or-append}
use lib.Seq.{get_or_at, get_or-set_same, get_or-set_other, ext_get_or, take-suc-set, drop-set-lt}
use borrow.Author.Tests.{eqb-true, eqb-false, eq-eqb, ne_eqb}
use Rattle.le.specs.Bytes.{every}
use Rattle.disc.specs.Disc.{Disc, kind_at, stored}
use Rattle.roles.specs.Roles.{blank_role, names, of_table, role_of_kind, role_of_data, role_at, tabulate}

-- ---- a table of a function's values

pub tabulate-suc : (f : ℕ → ℕ) (n : ℕ) → tabulate f (suc n) ≡ tabulate f n ++ (f n ∷ [])
unfolding tabulate
tabulate-suc f n = refl

pub length-tabulate : (f : ℕ → ℕ) (n : ℕ) → length (tabulate f n) ≡ n
unfolding tabulate
length-tabulate f zero = refl
length-tabulate f (suc n) = length-append (tabulate f n) (f n ∷ []) ∙ ap (λ (k : ℕ). k + 1) (length-tabulate f n) ∙ add-one n

pub get_d_tabulate : (f : ℕ → ℕ) (n i x : ℕ) → i < n → get_or (tabulate f n) i x ≡ f i
unfolding tabulate
get_d_tabulate f zero i x h = absurd (not-suc-le-zero h)
get_d_tabulate f (suc n) i x h = go (get_d_tabulate f n i x) (eqb i n) refl
  where
    go : (i < n → get_or (tabulate f n) i x ≡ f i) → (t : Bool) → eqb i n ≡ t → get_or (tabulate f n ++ (f n ∷ [])) i x ≡ f i
    go ih true e =
        let here : i ≡ n = eqb-true i n e in
        get_or_at (tabulate f n) (f n) [] x i (length-tabulate f n ∙ sym here) ∙ ap f (sym here)
    go ih false e =
        let other : i ≡ n → ⊥ = eqb-false i n e in
        let below : i < n = omega arith in
        get_or-append (tabulate f n) (f n ∷ []) x i (omega (arith, length-tabulate f n)) ∙ ih below

pub tabulate-same : (f g : ℕ → ℕ) (n : ℕ) → ((i : ℕ) → i < n → f i ≡ g i) → tabulate f n ≡ tabulate g n
unfolding tabulate
tabulate-same f g zero same = refl
tabulate-same f g (suc n) same =
    ap₂ (λ (l : List ℕ) (x : ℕ). l ++ (x ∷ [])) (tabulate-same f g n (λ i h. same i (omega arith))) (same n (omega arith))

-- a store where two functions differ
pub set-tabulate : (f g : ℕ → ℕ) (n b x : ℕ) → b < n → g b ≡ x → ((i : ℕ) → i < n → (i ≡ b → ⊥) → f i ≡ g i) → set (tabulate f n) b x ≡ tabulate g n
set-tabulate f g n b x h here elsewhere =
    let long : length (set (tabulate f n) b x) ≡ n = length-set (tabulate f n) b x ∙ length-tabulate f n in
    ext_get_or 0 (set (tabulate f n) b x) (tabulate g n) (long ∙ sym (length-tabulate g n)) (λ i low. at i (omega arith))
  where
    at : (i : ℕ) → i < n → get_or (set (tabulate f n) b x) i 0 ≡ get_or (tabulate g n) i 0
    at i low = go (eqb i b) refl
      where
        go : (t : Bool) → eqb i b ≡ t → get_or (set (tabulate f n) b x) i 0 ≡ get_or (tabulate g n) i 0
        go true e =
            let same : i ≡ b = eqb-true i b e in
            ap (λ (k : ℕ). get_or (set (tabulate f n) b x) k 0) same
            ∙ get_or-set_same (tabulate f n) b x 0 (omega (arith, length-tabulate f n))
            ∙ sym here ∙ ap g (sym same) ∙ sym (get_d_tabulate g n i 0 low)
        go false e =
            let other : i ≡ b → ⊥ = eqb-false i b e in
            get_or-set_other (tabulate f n) b i x 0 other ∙ get_d_tabulate f n i 0 low ∙ elsewhere i low other ∙ sym (get_d_tabulate g n i 0 low)

-- ---- the blocks that a list names

pub names-none : (b : ℕ) → names [] b ≡ false
unfolding names
names-none b = refl

pub names-append : (xs ys : List ℕ) (b : ℕ) → names (xs ++ ys) b ≡ (names xs b || names ys b)
unfolding names
names-append [] ys b = refl
names-append (x ∷ xs) ys b = ap (λ (t : Bool). eqb x b || t) (names-append xs ys b) ∙ sym (or_assoc (eqb x b) (names xs b) (names ys b))

pub names-snoc : (xs : List ℕ) (x b : ℕ) → names (xs ++ (x ∷ [])) b ≡ (names xs b || eqb x b)
unfolding names
names-snoc xs x b = names-append xs (x ∷ []) b ∙ ap (λ (t : Bool). names xs b || t) (or-false (eqb x b))

pub names-last : (xs : List ℕ) (b : ℕ) → names (xs ++ (b ∷ [])) b ≡ true
names-last xs b = names-snoc xs b b ∙ ap (λ (t : Bool). names xs b || t) (eq-eqb b b refl) ∙ or-true (names xs b)

pub names-other : (xs : List ℕ) (x b : ℕ) → (b ≡ x → ⊥) → names (xs ++ (x ∷ [])) b ≡ names xs b
names-other xs x b h =
    names-snoc xs x b ∙ ap (λ (t : Bool). names xs b || t) (ne_eqb x b (λ e. h (sym e))) ∙ or-false (names xs b)

-- a list names a block unless every one of it differs
abbrev pub differs : ℕ → ℕ → Bool
differs b x = not (eqb x b)

pub names-every : (xs : List ℕ) (b : ℕ) → names xs b ≡ not (every (differs b) xs)
unfolding names every
names-every [] b = refl
names-every (x ∷ xs) b = go (eqb x b) (names-every xs b)
  where
    go : (t : Bool) → names xs b ≡ not (every (differs b) xs) → (t || names xs b) ≡ not (not t && every (differs b) xs)
    go true ih = refl
    go false ih = ih

-- two more that may be the block
pub neither : (found one other : Bool) → not (found || (one || other)) ≡ (not found && (not one && not other))
neither true one other = refl
neither false true other = refl
neither false false other = refl

-- ---- the role of one block

-- the map and the list of those without a number tell of a block by whether they name it
pub role-names : (d : Disc) (map map' apart apart' : List ℕ) (b : ℕ) → names map b ≡ names map' b → names apart b ≡ names apart' b
    → role_at d map apart b ≡ role_at d map' apart' b
unfolding role_at
role-names d map map' apart apart' b m a = ap₂ (λ (t u : Bool). role_of_kind (kind_at d b) (role_of_data (of_table d b) t u)) m a

module _ (d : Disc) (map apart : List ℕ) (b : ℕ) where
  pub role-blank : kind_at d b ≡ 0 → role_at d map apart b ≡ blank_role
  unfolding role_at
  role-blank e = rw e

-- ---- lists stored one after another

pub stored-none : (xs : List ℕ) (at : ℕ) → stored xs at [] ≡ xs
unfolding stored
stored-none xs at = ap (λ (k : ℕ). take at xs ++ drop k xs) (add-zero at) ∙ take-append-drop at xs

pub stored-cons : (xs : List ℕ) (at x : ℕ) (s : List ℕ) → at < length xs → stored (set xs at x) (at + 1) s ≡ stored xs at (x ∷ s)
unfolding stored
stored-cons xs at x s h =
    let next : at + 1 + length s ≡ at + suc (length s) = omega arith in
    let front : take (at + 1) (set xs at x) ≡ take at xs ++ (x ∷ []) = ap (λ (k : ℕ). take k (set xs at x)) (add-one at) ∙ take-suc-set xs at x h in
    let behind : drop (at + 1 + length s) (set xs at x) ≡ drop (at + suc (length s)) xs =
    drop-set-lt (at + 1 + length s) xs at x (omega arith) ∙ ap (λ (k : ℕ). drop k xs) next in
    ap₂ (λ (a b : List ℕ). a ++ (s ++ b)) front behind ∙ append_assoc (take at xs) (x ∷ []) (s ++ drop (at + suc (length s)) xs)

pub stored-append : (s t xs : List ℕ) (at : ℕ) → at + length s ≤ length xs → stored xs at (s ++ t) ≡ stored (stored xs at s) (at + length s) t
stored-append [] t xs at h = sym (ap₂ (λ (l : List ℕ) (k : ℕ). stored l k t) (stored-none xs at) (add-zero at))
stored-append (x ∷ s) t xs at h =
    let inside : at < length xs = omega arith in
    let next : at + 1 + length s ≡ at + suc (length s) = omega arith in
    sym (stored-cons xs at x (s ++ t) inside)
    ∙ stored-append s t (set xs at x) (at + 1) (omega (arith, length-set xs at x))
    ∙ ap₂ (λ (l : List ℕ) (k : ℕ). stored l k t) (stored-cons xs at x s inside) next
