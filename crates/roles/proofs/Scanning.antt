-- The roles while the tables are marked, block by block: of the blocks passed over the tables are, and what these name, and of all others the kind alone
-- decides.
--     none_passed, table-passed, other-passed, all-passed  from no block passed over to all, block by block
--     others-passed                                        several that are no tables at once
--     mark-one, mark-none                                  what one table names, sector by sector
-- Assumes nothing.
use Prim.Native.Nat.{ℕ, zero, suc, ◌+◌, ◌-◌, ◌≤◌, ◌<◌}
use native.Mathlib.Nat.{add-zero}
use native.Mathlib.Numerals.{add-one}
use native.Mathlib.Omega.{arith}
use mathlib.Core.Path.{◌≡◌, refl, sym, ap, ap₂, ◌∙◌}
use mathlib.Core.Bool.{Bool, true, false, ◌&&◌, ◌||◌, and-true, or-true}
use mathlib.Core.List.{List, [], ◌∷◌}
use lib.Dec.{eqb, ltb}
use lib.ListN.{length, get_or, drop, set}
use lib.Seq.{drop-cons, drop-length}
use borrow.Author.Tests.{eqb-true, eqb-false, eq-eqb, ne_eqb, ltb-true, ltb-false, lt-ltb, le-ltb}
use Rattle.disc.specs.Disc.{Disc, counted, leading, recorded, kind_at}
use Rattle.disc.specs.Tables.{table_at, named_by}
use Rattle.le.proofs.Halves.{and-false}
use Rattle.disc.proofs.Told.{data-kind, other-kind, names-none}
use Rattle.roles.specs.Roles.{superseded, table_role, names, named_below, of_table, role_of_kind, role_of_data, role_at, tabulate, marked_at}
use Rattle.roles.proofs.Roles.{tabulate-same, set-tabulate}
use Rattle.roles.proofs.Tables.{names-data, named-suc, named-no-more}

-- ---- a list of blocks marked

pub mark-one : (bs roles : List ℕ) (i : ℕ) → i < length bs → marked_at (drop i bs) roles ≡ marked_at (drop (i + 1) bs) (set roles (get_or bs i 0) table_role)
unfolding marked_at
mark-one bs roles i h =
    ap (λ (l : List ℕ). marked_at l roles) (drop-cons bs i 0 h) ∙ ap (λ (k : ℕ). marked_at (drop k bs) (set roles (get_or bs i 0) table_role)) (sym (add-one i))

pub mark-none : (bs roles : List ℕ) (i : ℕ) → i ≡ length bs → marked_at (drop i bs) roles ≡ roles
unfolding marked_at
mark-none bs roles i e = ap (λ (l : List ℕ). marked_at l roles) (ap (λ (k : ℕ). drop k bs) e ∙ drop-length bs)

-- of a function's values: those that the list names
abbrev set_if : Bool → ℕ → ℕ
set_if true r = table_role
set_if false r = r

mark-tabulate : (m : ℕ) (bs : List ℕ) (f g : ℕ → ℕ) → ((i : ℕ) → names bs i ≡ true → (i < m) × (g i ≡ table_role)) → ((i : ℕ) → names bs i ≡ false → f i ≡ g i)
    → marked_at bs (tabulate f m) ≡ tabulate g m
unfolding marked_at names
mark-tabulate m [] f g listed others = tabulate-same f g m (λ i h. others i refl)
mark-tabulate m (b ∷ bs) f g listed others =
    let f' : ℕ → ℕ = λ i. set_if (eqb b i) (f i) in
    let inside : b < m = (listed b (rw (eq-eqb b b refl))).0 in
    ap (marked_at bs) (set-tabulate f f' m b table_role inside (rw (eq-eqb b b refl)) (λ i low other. rw (ne_eqb b i (λ e. other (sym e)))))
    ∙ mark-tabulate m bs f' g (λ i e. listed i (rw e (or-true (eqb b i)))) (λ i e. unlisted i e (eqb b i) refl)
  where
    unlisted : (i : ℕ) → names bs i ≡ false → (t : Bool) → eqb b i ≡ t → set_if (eqb b i) (f i) ≡ g i
    unlisted i e true z = rw z (sym (listed i (rw z)).1)
    unlisted i e false z = rw z (others i (rw z e))

-- ---- block by block

-- the kind right behind the leading ones is blank
leading-ends : (ks : List ℕ) → get_or ks (leading ks) 0 ≡ 0
unfolding leading
leading-ends [] = refl
leading-ends (k ∷ ks) = go (leading-ends ks) (eqb k 0) refl
  where
    go : get_or ks (leading ks) 0 ≡ 0 → (t : Bool) → eqb k 0 ≡ t → get_or (k ∷ ks) (counted t (leading ks)) 0 ≡ 0
    go ih true z = eqb-true k 0 z
    go ih false z = ih

-- block b is one of the tables below block n, or such a table names it
abbrev marked_to : Disc → ℕ → ℕ → Bool
marked_to d n b = (table_at d b && ltb b n) || named_below d n b

-- the role of block b where the blocks below n have been passed over
abbrev pub passed_to : Disc → ℕ → ℕ → ℕ
passed_to d n b = role_of_kind (kind_at d b) (role_of_data (marked_to d n b) false false)

module _ (d : Disc) where
  -- by whether it is marked
  role-of : (b : ℕ) → Bool → ℕ
  role-of b t = role_of_kind (kind_at d b) (role_of_data t false false)

  pub none_passed : (m : ℕ) → tabulate (λ b. role_of_kind (kind_at d b) superseded) m ≡ tabulate (passed_to d 0) m
  unfolding role-of named_below
  none_passed m =
      tabulate-same (λ b. role_of_kind (kind_at d b) superseded) (passed_to d 0) m
      (λ b h. ap (λ (t : Bool). role-of b (t || false)) (sym (and-false (table_at d b) (ltb b 0) (le-ltb b 0 (omega arith)))))

  -- no table stands right behind what is recorded
  recorded-ends : (b : ℕ) → b ≡ recorded d → table_at d b ≡ false
  recorded-ends b e = other-kind d b (λ one. let blank : kind_at d b ≡ 0 = ap (kind_at d) e ∙ leading-ends d.kinds in omega arith)

  -- and none stands from block n on
  pub all-passed : (m n : ℕ) → n ≤ recorded d + 1 → ((b : ℕ) → n ≤ b → table_at d b ≡ false) → tabulate (passed_to d n) m ≡ tabulate (role_at d [] []) m
  unfolding role_at names of_table role-of
  all-passed m n inside behind = tabulate-same (passed_to d n) (role_at d [] []) m (λ b h. ap (role-of b) (ap₂ (λ (t u : Bool). t || u) (go b (ltb b n) refl) (named b)))
    where
      go : (b : ℕ) (t : Bool) → ltb b n ≡ t → (table_at d b && ltb b n) ≡ table_at d b
      go b true e = ap (λ (t : Bool). table_at d b && t) e ∙ and-true (table_at d b)
      go b false e = and-false (table_at d b) (ltb b n) e ∙ sym (behind b (ltb-false b n e))

      named : (b : ℕ) → named_below d n b ≡ named_below d (recorded d) b
      named b =
          let rest : n + (recorded d + 1 - n) ≡ recorded d + 1 = omega arith in
          sym (named-no-more d n (recorded d + 1 - n) b (λ c low high. behind c low)) ∙ ap (λ (k : ℕ). named_below d k b) rest
          ∙ named-no-more d (recorded d) 1 b (λ c low high. recorded-ends c (omega arith))

  -- one block further
  marked-suc : (n b : ℕ) → marked_to d (n + 1) b ≡ ((table_at d b && ltb b (n + 1)) || (names (named_by d n) b || named_below d n b))
  marked-suc n b = ap (λ (t : Bool). (table_at d b && ltb b (n + 1)) || t) (ap (λ (k : ℕ). named_below d k b) (add-one n) ∙ named-suc d n b)

  elsewhere : (n b : ℕ) → (b ≡ n → ⊥) → names (named_by d n) b ≡ false → passed_to d n b ≡ passed_to d (n + 1) b
  unfolding role-of
  elsewhere n b other unnamed =
      ap (role-of b)
      (ap (λ (t : Bool). (table_at d b && t) || named_below d n b) (go (ltb b n) refl)
      ∙ ap (λ (t : Bool). (table_at d b && ltb b (n + 1)) || (t || named_below d n b)) (sym unnamed) ∙ sym (marked-suc n b))
    where
      go : (t : Bool) → ltb b n ≡ t → ltb b n ≡ ltb b (n + 1)
      go true e = let low : b < n = ltb-true b n e in e ∙ sym (lt-ltb b (n + 1) (omega arith))
      go false e = let high : n ≤ b = ltb-false b n e in e ∙ sym (le-ltb b (n + 1) (omega arith))

  -- the table at block n, and what it names
  here : (n b : ℕ) → table_at d n ≡ true → names (n ∷ named_by d n) b ≡ true → passed_to d (n + 1) b ≡ table_role
  unfolding role-of names
  here n b e listed = go (eqb n b) refl listed
    where
      go : (t : Bool) → eqb n b ≡ t → (t || names (named_by d n) b) ≡ true → passed_to d (n + 1) b ≡ table_role
      go true z l =
          let same : n ≡ b = eqb-true n b z in
          let table : table_at d b ≡ true = ap (table_at d) (sym same) ∙ e in
          rw (data-kind d b table, table, lt-ltb b (n + 1) (omega arith))
      go false z l =
          let named : marked_to d (n + 1) b ≡ true = marked-suc n b ∙ rw l (or-true (table_at d b && ltb b (n + 1))) in
          ap₂ (λ (k : ℕ) (t : Bool). role_of_kind k (role_of_data t false false)) (names-data d n b l).1 named

  pub table-passed : (m n : ℕ) → n < m → table_at d n ≡ true → marked_at (n ∷ named_by d n) (tabulate (passed_to d n) m) ≡ tabulate (passed_to d (n + 1)) m
  unfolding names
  table-passed m n h e = mark-tabulate m (n ∷ named_by d n) (passed_to d n) (passed_to d (n + 1)) (λ b l. (within b (eqb n b) refl l, here n b e l)) (λ b l. outside b (eqb n b) refl l)
    where
      within : (b : ℕ) (t : Bool) → eqb n b ≡ t → (t || names (named_by d n) b) ≡ true → b < m
      within b true z l = let same : n ≡ b = eqb-true n b z in omega arith
      within b false z l = omega (arith, (names-data d n b l).0)

      outside : (b : ℕ) (t : Bool) → eqb n b ≡ t → (t || names (named_by d n) b) ≡ false → passed_to d n b ≡ passed_to d (n + 1) b
      outside b true z l = absurd (mathlib.Core.Bool.true≢false l)
      outside b false z l = elsewhere n b (λ same. eqb-false n b z (sym same)) l

  pub other-passed : (m n : ℕ) → table_at d n ≡ false → tabulate (passed_to d n) m ≡ tabulate (passed_to d (n + 1)) m
  unfolding role-of names
  other-passed m n e = tabulate-same (passed_to d n) (passed_to d (n + 1)) m (λ b h. go b (eqb b n) refl)
    where
      unnamed : (b : ℕ) → names (named_by d n) b ≡ false
      unnamed b = ap (λ (bs : List ℕ). names bs b) (names-none d n e)

      go : (b : ℕ) (t : Bool) → eqb b n ≡ t → passed_to d n b ≡ passed_to d (n + 1) b
      go b true same =
          let free : table_at d b ≡ false = ap (table_at d) (eqb-true b n same) ∙ e in
          ap (role-of b)
          (ap (λ (t : Bool). (t && ltb b n) || named_below d n b) free
          ∙ sym (marked-suc n b ∙ ap₂ (λ (t u : Bool). (t && ltb b (n + 1)) || (u || named_below d n b)) free (unnamed b)))
      go b false other = elsewhere n b (eqb-false b n other) (unnamed b)

  pub others-passed : (m n k : ℕ) → ((b : ℕ) → n ≤ b → b < n + k → table_at d b ≡ false) → tabulate (passed_to d n) m ≡ tabulate (passed_to d (n + k)) m
  others-passed m n zero h = ap (λ (b : ℕ). tabulate (passed_to d b) m) (sym (add-zero n))
  others-passed m n (suc k) h =
      let further : n + k + 1 ≡ n + suc k = omega arith in
      others-passed m n k (λ b low high. h b low (omega arith)) ∙ other-passed m (n + k) (h (n + k) (omega arith) (omega arith)) ∙ ap (λ (b : ℕ). tabulate (passed_to d b) m) further
