-- The roles of a disc on which sectors were recorded: what each of them adds, and that the others stay. And what a number that lets go of its block leaves.
--     recorded-roles          the roles of those that were recorded, stored behind the others
--     links-roles, data-roles links, and data that have all one role
--     same_roles              what is named and what is apart matters below recorded alone
--     lets_go                 the lent role tells what becomes of a block
-- Assumes nothing.
use Prim.Native.Nat.{ℕ, zero, suc, ◌+◌, ◌≤◌, ◌<◌}
use native.Mathlib.Nat.{add-zero}
use native.Mathlib.Numerals.{add-one}
use native.Mathlib.Omega.{arith}
use mathlib.Core.Path.{◌≡◌, refl, sym, ap, ap₂, ◌∙◌, subst}
use mathlib.Core.Bool.{Bool, true, false}
use mathlib.Core.List.{List, [], ◌∷◌, ◌++◌}
use lib.Dec.{eqb, ltb}
use lib.ListN.{length, get_or, set, replicate}
use borrow.Author.Tests.{ltb-true, ltb-false, eqb-true, eqb-false}
use Rattle.disc.specs.Disc.{Disc, recorded, kind_at, Sector, link, plain, torn, stored, put, puts}
use Rattle.disc.proofs.Recording.{Sound, kind_of, Whole, Recorded, put-recorded, blank-kind, AllWhole}
use Rattle.disc.proofs.Save.{AllData}
use Rattle.volume.specs.Volume.{unpack, map_of}
use Rattle.roles.specs.Roles.{in_use, superseded, link_role, names, of_table, role_of_kind, role_of_data, role_at, tabulate, roles_of}
use Rattle.roles.specs.Keeping.{let_go}
use Rattle.roles.proofs.Roles.{length-tabulate, get_d_tabulate, tabulate-same, set-tabulate, role-names, role-blank, stored-none, stored-cons}
use Rattle.roles.proofs.Naming.{let-go-beyond, let-go-other, let-go-named, let-go-now}

-- ---- one sector

-- Of the disc a role asks the kinds, and which blocks are a table's. That is asked of the disc which is left in the end: an own sector is none yet where it
-- is recorded.
abbrev role_by : (ℕ → Bool) → Disc → List ℕ → List ℕ → ℕ → ℕ
role_by own d m a b = role_of_kind (kind_at d b) (role_of_data (own b) (names m b) (names a b))

abbrev roles_by : (ℕ → Bool) → Disc → List ℕ → List ℕ → List ℕ
roles_by own d m a = tabulate (role_by own d m a) (length d.kinds)

-- the role of a sector that is recorded at block b
abbrev pub role_of_sector : (ℕ → Bool) → List ℕ → List ℕ → ℕ → Sector → ℕ
role_of_sector own m a b s = role_of_kind (kind_of s) (role_of_data (own b) (names m b) (names a b))

-- behind what is recorded all is blank
blank-by : (own : ℕ → Bool) (d : Disc) → Sound d → (m a : List ℕ) (b : ℕ) → recorded d ≤ b → role_by own d m a b ≡ role_of_kind 0 (role_of_data (own b) (names m b) (names a b))
blank-by own d ok m a b h = ap (λ (k : ℕ). role_of_kind k (role_of_data (own b) (names m b) (names a b))) (blank-kind d.kinds (recorded d) b ok.blank h)

put-role : (own : ℕ → Bool) (d : Disc) → Sound d → recorded d < length d.kinds → (m a : List ℕ) (s : Sector) → Whole s
    → set (roles_by own d m a) (recorded d) (role_of_sector own m a (recorded d) s) ≡ roles_by own (put d (recorded d) s) m a
put-role own d ok room m a s w =
    set-tabulate (role_by own d m a) (role_by own d' m a) (length d.kinds) (recorded d) (role_of_sector own m a (recorded d) s) room (with-kind (recorded d) r.its-kind) (λ i low other. elsewhere i other (ltb i (recorded d)) refl)
    ∙ ap (tabulate (role_by own d' m a)) (sym r.same_length)
  where
    d' : Disc
    d' = put d (recorded d) s

    r : Recorded d d' s
    r = put-recorded d ok room s w

    with-kind : (i : ℕ) {k n : ℕ} → k ≡ n → role_of_kind k (role_of_data (own i) (names m i) (names a i)) ≡ role_of_kind n (role_of_data (own i) (names m i) (names a i))
    with-kind i e = ap (λ (k : ℕ). role_of_kind k (role_of_data (own i) (names m i) (names a i))) e

    elsewhere : (i : ℕ) → (i ≡ recorded d → ⊥) → (t : Bool) → ltb i (recorded d) ≡ t → role_by own d m a i ≡ role_by own d' m a i
    elsewhere i other true e = sym (with-kind i (r.kinds_kept i (ltb-true i (recorded d) e)))
    elsewhere i other false e =
        let high : recorded d ≤ i = ltb-false i (recorded d) e in
        blank-by own d ok m a i high ∙ sym (blank-by own d' r.still-sound m a i (omega (arith, r.one_more)))

-- ---- a list of sectors

-- the roles of sectors that are recorded from block b on
abbrev pub roles_from : (ℕ → Bool) → List ℕ → List ℕ → ℕ → List Sector → List ℕ
roles_from own m a b [] = []
roles_from own m a b (s ∷ ss) = role_of_sector own m a b s ∷ roles_from own m a (b + 1) ss

puts-roles : (own : ℕ → Bool) (m a : List ℕ) (ss : List Sector) (d : Disc) → Sound d → recorded d + length ss ≤ length d.kinds → AllWhole ss
    → stored (roles_by own d m a) (recorded d) (roles_from own m a (recorded d) ss) ≡ roles_by own (puts d (recorded d) ss) m a
unfolding puts
puts-roles own m a [] d ok room w = stored-none (roles_by own d m a) (recorded d)
puts-roles own m a (s ∷ ss) d ok room w =
    let here : recorded d < length d.kinds = omega arith in
    let d₁ : Disc = put d (recorded d) s in
    let r : Recorded d d₁ s = put-recorded d ok here s w.0 in
    let next : recorded d₁ ≡ recorded d + 1 = r.one_more ∙ sym (add-one (recorded d)) in
    let rest : stored (roles_by own d₁ m a) (recorded d₁) (roles_from own m a (recorded d₁) ss) ≡ roles_by own (puts d₁ (recorded d₁) ss) m a =
    puts-roles own m a ss d₁ r.still-sound (omega (arith, r.one_more, r.same_length)) w.1 in
    sym (stored-cons (roles_by own d m a) (recorded d) (role_of_sector own m a (recorded d) s) (roles_from own m a (recorded d + 1) ss) (omega (arith, length-tabulate (role_by own d m a) (length d.kinds))))
    ∙ ap (λ (t : List ℕ). stored t (recorded d + 1) (roles_from own m a (recorded d + 1) ss)) (put-role own d ok here m a s w.0)
    ∙ subst (λ (b : ℕ). stored (roles_by own d₁ m a) b (roles_from own m a b ss) ≡ roles_by own (puts d₁ b ss) m a) next rest

-- where no block that was recorded before becomes a table's, or ceases to be one's
pub recorded-roles : (m a : List ℕ) (ss : List Sector) (d : Disc) → Sound d → recorded d + length ss ≤ length d.kinds → AllWhole ss
    → ((b : ℕ) → b < recorded d → of_table (puts d (recorded d) ss) b ≡ of_table d b)
    → stored (roles_of d m a) (recorded d) (roles_from (of_table (puts d (recorded d) ss)) m a (recorded d) ss) ≡ roles_of (puts d (recorded d) ss) m a
unfolding role_at
recorded-roles m a ss d ok room w kept =
    ap (λ (x : List ℕ). stored x (recorded d) (roles_from own m a (recorded d) ss)) (tabulate-same (role_at d m a) (role_by own d m a) (length d.kinds) (λ b h. go b (ltb b (recorded d)) refl))
    ∙ puts-roles own m a ss d ok room w
  where
    own : ℕ → Bool
    own = of_table (puts d (recorded d) ss)

    go : (b : ℕ) (t : Bool) → ltb b (recorded d) ≡ t → role_at d m a b ≡ role_by own d m a b
    go b true e = ap (λ (t : Bool). role_of_kind (kind_at d b) (role_of_data t (names m b) (names a b))) (sym (kept b (ltb-true b (recorded d) e)))
    go b false e = let high : recorded d ≤ b = ltb-false b (recorded d) e in blank-by (of_table d) d ok m a b high ∙ sym (blank-by own d ok m a b high)

pub roles-append : (own : ℕ → Bool) (m a : List ℕ) (ss ts : List Sector) (b : ℕ) → roles_from own m a b (ss ++ ts) ≡ roles_from own m a b ss ++ roles_from own m a (b + length ss) ts
roles-append own m a [] ts b = ap (λ (k : ℕ). roles_from own m a k ts) (sym (add-zero b))
roles-append own m a (s ∷ ss) ts b =
    let next : b + 1 + length ss ≡ b + suc (length ss) = omega arith in
    ap (λ (t : List ℕ). role_of_sector own m a b s ∷ t) (roles-append own m a ss ts (b + 1) ∙ ap (λ (k : ℕ). roles_from own m a (b + 1) ss ++ roles_from own m a k ts) next)

pub links-roles : (own : ℕ → Bool) (m a : List ℕ) (n b : ℕ) → roles_from own m a b (replicate n link) ≡ replicate n link_role
links-roles own m a zero b = refl
links-roles own m a (suc n) b = ap (λ (t : List ℕ). link_role ∷ t) (links-roles own m a n (b + 1))

-- data that have all one role
pub data-roles : (own : ℕ → Bool) (m a : List ℕ) (role : ℕ) (ss : List Sector) (b : ℕ) → AllData ss
    → ((i : ℕ) → b ≤ i → i < b + length ss → role_of_data (own i) (names m i) (names a i) ≡ role) → roles_from own m a b ss ≡ replicate (length ss) role
data-roles own m a role [] b k same = refl
data-roles own m a role (link ∷ ss) b k same = absurd k
data-roles own m a role (torn s ∷ ss) b k same = absurd k
data-roles own m a role (plain s ∷ ss) b k same =
    ap₂ (λ (x : ℕ) (t : List ℕ). x ∷ t) (same b (omega arith) (omega arith)) (data-roles own m a role ss (b + 1) k (λ i low high. same i (omega arith) (omega arith)))

-- ---- other names

-- what is named, and what is apart, matters below recorded alone
pub same_roles : (d : Disc) → Sound d → (m m' a a' : List ℕ) → ((b : ℕ) → b < recorded d → (names m b ≡ names m' b) × (names a b ≡ names a' b)) → roles_of d m a ≡ roles_of d m' a'
same_roles d ok m m' a a' same = tabulate-same (role_at d m a) (role_at d m' a') (length d.kinds) (λ b h. go b (ltb b (recorded d)) refl)
  where
    go : (b : ℕ) (t : Bool) → ltb b (recorded d) ≡ t → role_at d m a b ≡ role_at d m' a' b
    go b true e =
        let s : (names m b ≡ names m' b) × (names a b ≡ names a' b) = same b (ltb-true b (recorded d) e) in
        role-names d m m' a a' b s.0 s.1
    go b false e =
        let blank : kind_at d b ≡ 0 = blank-kind d.kinds (recorded d) b ok.blank (ltb-false b (recorded d) e) in
        role-blank d m a b blank ∙ sym (role-blank d m' a' b blank)

-- ---- a number lets go of its block

-- what was in use is superseded once no number names it, and everything else keeps its role
in-use-ends : (k : ℕ) (t : Bool) → role_of_kind k (role_of_data t true false) ≡ in_use → role_of_kind k (role_of_data t false false) ≡ superseded
in-use-ends zero t e = absurd (omega arith)
in-use-ends (suc zero) true e = absurd (omega arith)
in-use-ends (suc zero) false e = refl
in-use-ends (suc (suc zero)) t e = absurd (omega arith)
in-use-ends (suc (suc (suc k))) t e = absurd (omega arith)

others-stay : (k : ℕ) (t : Bool) → (role_of_kind k (role_of_data t true false) ≡ in_use → ⊥) → role_of_kind k (role_of_data t true false) ≡ role_of_kind k (role_of_data t false false)
others-stay zero t h = refl
others-stay (suc zero) true h = refl
others-stay (suc zero) false h = absurd (h refl)
others-stay (suc (suc zero)) t h = refl
others-stay (suc (suc (suc k))) t h = refl

-- from the map m, which named the block, to the ledger's, which names the other blocks that m does
module _ (d : Disc) (l m a roles : List ℕ) (old : ℕ) (e : roles ≡ roles_of d m a) (others : (i : ℕ) → i < length d.kinds → (i ≡ old → ⊥) → names m i ≡ names (map_of (unpack l)) i)
    (was : old < length d.kinds → (names m old ≡ true) × (names a old ≡ false)) where
  abbrev m' : List ℕ
  m' = map_of (unpack l)

  long : length roles ≡ length d.kinds
  long = ap length e ∙ length-tabulate (role_at d m a) (length d.kinds)

  elsewhere : (i : ℕ) → i < length d.kinds → (i ≡ old → ⊥) → role_at d m a i ≡ role_at d m' a i
  elsewhere i h other = role-names d m m' a a i (others i h other) refl

  -- the roles are the same if that of the block is
  still : (old < length d.kinds → role_at d m a old ≡ role_at d m' a old) → roles ≡ roles_of d m' a
  still here = e ∙ tabulate-same (role_at d m a) (role_at d m' a) (length d.kinds) (λ i low. go i low (eqb i old) refl)
    where
      go : (i : ℕ) → i < length d.kinds → (t : Bool) → eqb i old ≡ t → role_at d m a i ≡ role_at d m' a i
      go i low true z =
          let same : i ≡ old = eqb-true i old z in
          subst (λ (b : ℕ). role_at d m a b ≡ role_at d m' a b) (sym same) (here (subst (λ (b : ℕ). b < length d.kinds) same low))
      go i low false z = elsewhere i low (eqb-false i old z)

  -- a role of the block, by whether a map names it
  role-was : old < length d.kinds → (map : List ℕ) (t : Bool) → names map old ≡ t → role_at d map a old ≡ role_of_kind (kind_at d old) (role_of_data (of_table d old) t false)
  unfolding role_at
  role-was low map t n = ap₂ (λ (p q : Bool). role_of_kind (kind_at d old) (role_of_data (of_table d old) p q)) n (was low).1

  named-still : old < length d.kinds → names m' old ≡ true → let_go l old roles ≡ roles_of d m' a
  named-still low n = let-go-named l old roles n ∙ still (λ h. role-names d m m' a a old ((was h).0 ∙ sym n) refl)

  unnamed-since : old < length d.kinds → names m' old ≡ false → (t : Bool) → eqb (role_at d m a old) in_use ≡ t → let_go l old roles ≡ roles_of d m' a
  unnamed-since low n true z =
      let used : role_at d m a old ≡ in_use = eqb-true (role_at d m a old) in_use z in
      let ends : role_at d m' a old ≡ superseded = role-was low m' false n ∙ in-use-ends (kind_at d old) (of_table d old) (sym (role-was low m true (was low).0) ∙ used) in
      let lent : get_or roles old 0 ≡ in_use = ap (λ (x : List ℕ). get_or x old 0) e ∙ get_d_tabulate (role_at d m a) (length d.kinds) old 0 low ∙ used in
      let-go-now l old roles (omega (arith, long)) lent n
      ∙ ap (λ (x : List ℕ). set x old superseded) e
      ∙ set-tabulate (role_at d m a) (role_at d m' a) (length d.kinds) old superseded low ends elsewhere
  unnamed-since low n false z =
      let other : role_at d m a old ≡ in_use → ⊥ = eqb-false (role_at d m a old) in_use z in
      let lent : get_or roles old 0 ≡ role_at d m a old = ap (λ (x : List ℕ). get_or x old 0) e ∙ get_d_tabulate (role_at d m a) (length d.kinds) old 0 low in
      let before : role_at d m a old ≡ role_of_kind (kind_at d old) (role_of_data (of_table d old) true false) = role-was low m true (was low).0 in
      let-go-other l old roles (omega (arith, long)) (λ u. other (sym lent ∙ u))
      ∙ still (λ h. before ∙ others-stay (kind_at d old) (of_table d old) (λ u. other (before ∙ u)) ∙ sym (role-was low m' false n))

  pub lets_go : let_go l old roles ≡ roles_of d m' a
  lets_go = go (ltb old (length d.kinds)) refl (names m' old) refl
    where
      go : (t : Bool) → ltb old (length d.kinds) ≡ t → (u : Bool) → names m' old ≡ u → let_go l old roles ≡ roles_of d m' a
      go true h true n = named-still (ltb-true old (length d.kinds) h) n
      go true h false n = unnamed-since (ltb-true old (length d.kinds) h) n (eqb (role_at d m a old) in_use) refl
      go false h u n =
          let high : length d.kinds ≤ old = ltb-false old (length d.kinds) h in
          let-go-beyond l old roles (omega (arith, long)) ∙ still (λ low. absurd (omega arith))
