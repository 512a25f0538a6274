-- The counts of the six recorded roles over a table: together as many as are recorded.
-- Assumes nothing.
use Prim.Native.Nat.{ℕ, zero, suc, ◌+◌, ◌-◌, ◌≤◌, ◌<◌}
use native.Mathlib.Nat.{add-zero, add-suc}
use native.Mathlib.Omega.{arith}
use mathlib.Core.Path.{◌≡◌, refl, ap, ◌∙◌}
use mathlib.Core.Bool.{Bool, true, false}
use mathlib.Core.List.{List, [], ◌∷◌, ◌++◌}
use lib.Dec.{eqb}
use lib.ListN.{length}
use Rattle.disc.specs.Disc.{Disc, recorded, kind_at}
use Rattle.disc.proofs.Order.{leading-at-blank}
use Rattle.disc.proofs.Recording.{Sound, leading_le, blank-kind}
use Rattle.volume.specs.Volume.{grown}
use Rattle.roles.specs.Roles.{blank_role, names, of_table, role_of_kind, role_of_data, role_at, tabulate, roles_of}
use Rattle.roles.proofs.Roles.{tabulate-suc, role-blank}
use Rattle.space.specs.Space.{count, recorded_roles}

-- ---- one role more

swapped : (s t : Bool) (n : ℕ) → grown s (grown t n) ≡ grown t (grown s n)
swapped true true n = refl
swapped true false n = refl
swapped false true n = refl
swapped false false n = refl

count-last : (role x : ℕ) (xs : List ℕ) → count role (xs ++ (x ∷ [])) ≡ grown (eqb x role) (count role xs)
unfolding count
count-last role x [] = refl
count-last role x (y ∷ ys) = ap (grown (eqb y role)) (count-last role x ys) ∙ swapped (eqb y role) (eqb x role) (count role ys)

last-counts : (xs : List ℕ) (x : ℕ) → x < blank_role → recorded_roles (xs ++ (x ∷ [])) ≡ suc (recorded_roles xs)
last-counts xs zero h = simp count-last (omega arith)
last-counts xs (suc zero) h = simp count-last (omega arith)
last-counts xs (suc (suc zero)) h = simp count-last (omega arith)
last-counts xs (suc (suc (suc zero))) h = simp count-last (omega arith)
last-counts xs (suc (suc (suc (suc zero)))) h = simp count-last (omega arith)
last-counts xs (suc (suc (suc (suc (suc zero))))) h = simp count-last (omega arith)
last-counts xs (suc (suc (suc (suc (suc (suc x)))))) h = absurd (omega arith)

last-blank : (xs : List ℕ) → recorded_roles (xs ++ (blank_role ∷ [])) ≡ recorded_roles xs
last-blank xs = simp count-last

-- ---- a table

recorded-counted : (f : ℕ → ℕ) (r : ℕ) → ((b : ℕ) → b < r → f b < blank_role) → recorded_roles (tabulate f r) ≡ r
unfolding tabulate count
recorded-counted f zero low = refl
recorded-counted f (suc r) low =
    last-counts (tabulate f r) (f r) (low r (omega arith)) ∙ ap suc (recorded-counted f r (λ b h. low b (omega arith)))

blank-uncounted : (f : ℕ → ℕ) (r n : ℕ) → ((b : ℕ) → r ≤ b → f b ≡ blank_role) → recorded_roles (tabulate f (r + n)) ≡ recorded_roles (tabulate f r)
blank-uncounted f r zero blank = ap (λ (k : ℕ). recorded_roles (tabulate f k)) (add-zero r)
blank-uncounted f r (suc n) blank =
    ap (λ (k : ℕ). recorded_roles (tabulate f k)) (add-suc r n)
    ∙ ap recorded_roles (tabulate-suc f (r + n))
    ∙ ap (λ (x : ℕ). recorded_roles (tabulate f (r + n) ++ (x ∷ []))) (blank (r + n) (omega arith))
    ∙ last-blank (tabulate f (r + n))
    ∙ blank-uncounted f r n blank

data-role : (t n a : Bool) → role_of_data t n a < blank_role
data-role true n a = omega arith
data-role false true a = omega arith
data-role false false true = omega arith
data-role false false false = omega arith

kind-role : (k own : ℕ) → (k ≡ 0 → ⊥) → own < blank_role → role_of_kind k own < blank_role
kind-role zero own nz h = absurd (nz refl)
kind-role (suc zero) own nz h = h
kind-role (suc (suc zero)) own nz h = omega arith
kind-role (suc (suc (suc k))) own nz h = omega arith

recorded-role : (d : Disc) (m a : List ℕ) (b : ℕ) → b < recorded d → role_at d m a b < blank_role
unfolding role_at
recorded-role d m a b h =
    kind-role (kind_at d b) (role_of_data (of_table d b) (names m b) (names a b)) (λ e. let low : recorded d ≤ b = leading-at-blank d.kinds b e in omega arith) (data-role (of_table d b) (names m b) (names a b))

pub roles-counted : (d : Disc) → Sound d → (m a : List ℕ) → recorded_roles (roles_of d m a) ≡ recorded d
roles-counted d ok m a =
    let r : ℕ = recorded d in
    let rest : length d.kinds ≡ r + (length d.kinds - r) = omega (arith, leading_le d.kinds) in
    ap (λ (k : ℕ). recorded_roles (tabulate (role_at d m a) k)) rest
    ∙ blank-uncounted (role_at d m a) r (length d.kinds - r) (λ b h. role-blank d m a b (blank-kind d.kinds r b ok.blank h))
    ∙ recorded-counted (role_at d m a) r (recorded-role d m a)
