-- What one entry more of the map makes of all roles, what a number that lets go of a block does, and what a call recorded as runs of roles.
-- Assumes nothing.
use Prim.Native.Nat.{ℕ, zero, suc, ◌+◌, ◌-◌, ◌≤◌, ◌<◌}
use native.Mathlib.Numerals.{add-one}
use native.Mathlib.Omega.{arith}
use mathlib.Core.Path.{◌≡◌, refl, sym, ap, ap₂, ◌∙◌}
use mathlib.Core.Bool.{Bool, true, false, not}
use mathlib.Core.List.{List, [], ◌∷◌, ◌++◌}
use lib.Dec.{eqb}
use lib.ListN.{length, get_or, take, drop, set, replicate, length-replicate, get_or-eq_default}
use lib.Seq.{take-suc, get_or-take, drop-drop}
use Rattle.std.proofs.lemmas.List.{get_or_default}
use borrow.Rule.Slice.PartMut.{put_mid}
use borrow.Author.Tests.{eqb-true, eqb-false, ne_eqb}
use Rattle.le.proofs.Runs.{length-words}
use Rattle.vat.specs.Table.{limit, unused}
use Rattle.disc.specs.Disc.{Disc, kind_at, stored}
use Rattle.le.proofs.Halves.{and-false}
use Rattle.disc.proofs.Recording.{length-stored}
use Rattle.volume.specs.Volume.{unpack, map_of}
use Rattle.volume.proofs.State.{long-unpack}
use Rattle.roles.specs.Roles.{in_use, superseded, unnumbered, link_role, blank_role, names, of_table, role_of_kind, role_of_data, role_at, roles_of}
use Rattle.roles.specs.Keeping.{supersede_if, let_go, marked}
use Rattle.roles.proofs.Roles.{length-tabulate, get_d_tabulate, tabulate-same, set-tabulate, names-last, names-other, role-names, stored-append}

-- an entry of the map, as the ledger has it
pub map-entry : (l : List ℕ) (n : ℕ) → n < (unpack l).size → (unpack l).size ≤ limit → get_or (unpack l).entries n unused ≡ get_or (map_of (unpack l)) n 0
map-entry l n h few =
    get_or_default (unpack l).entries n unused 0 (omega (arith, long-unpack l)) ∙ sym (get_or-take (unpack l).size (unpack l).entries n 0 h)

-- the map, one entry further
pub map-suc : (l : List ℕ) (n : ℕ) → n < limit → take (n + 1) (unpack l).entries ≡ take n (unpack l).entries ++ (get_or (unpack l).entries n unused ∷ [])
unfolding unpack
map-suc l n h =
    let entries : List ℕ = (unpack l).entries in
    ap (λ (k : ℕ). take k entries) (add-one n) ∙ take-suc entries n unused (omega (arith, length-words limit l 0))

-- ---- one entry more of the map

comes-in-use : (k : ℕ) (table named : Bool) → role_of_kind k (role_of_data table named false) ≡ superseded → role_of_kind k (role_of_data table true false) ≡ in_use
comes-in-use zero table named e = absurd (omega arith)
comes-in-use (suc zero) true named e = absurd (omega arith)
comes-in-use (suc zero) false named e = refl
comes-in-use (suc (suc zero)) table named e = absurd (omega arith)
comes-in-use (suc (suc (suc k))) table named e = absurd (omega arith)

stays : (k : ℕ) (table named : Bool) → (role_of_kind k (role_of_data table named false) ≡ superseded → ⊥)
    → role_of_kind k (role_of_data table named false) ≡ role_of_kind k (role_of_data table true false)
stays zero table named h = refl
stays (suc zero) true named h = refl
stays (suc zero) false true h = refl
stays (suc zero) false false h = absurd (h refl)
stays (suc (suc zero)) table named h = refl
stays (suc (suc (suc k))) table named h = refl

module _ (d : Disc) (map : List ℕ) (b : ℕ) (roles : List ℕ) (e : roles ≡ roles_of d map []) where
  long : length roles ≡ length d.kinds
  long = ap length e ∙ length-tabulate (role_at d map []) (length d.kinds)

  told : b < length d.kinds → get_or roles b 0 ≡ role_at d map [] b
  told h = ap (λ (l : List ℕ). get_or l b 0) e ∙ get_d_tabulate (role_at d map []) (length d.kinds) b 0 h

  elsewhere : (i : ℕ) → (i ≡ b → ⊥) → role_at d map [] i ≡ role_at d (map ++ (b ∷ [])) [] i
  elsewhere i h = role-names d map (map ++ (b ∷ [])) [] [] i (sym (names-other map b i h)) refl

  pub named-now : b < length roles → get_or roles b 0 ≡ superseded → set roles b in_use ≡ roles_of d (map ++ (b ∷ [])) []
  unfolding role_at names
  named-now h was =
      let inside : b < length d.kinds = omega (arith, long) in
      let here : role_at d (map ++ (b ∷ [])) [] b ≡ in_use =
      ap (λ (t : Bool). role_of_kind (kind_at d b) (role_of_data (of_table d b) t false)) (names-last map b)
      ∙ comes-in-use (kind_at d b) (of_table d b) (names map b) (sym (told inside) ∙ was) in
      ap (λ (l : List ℕ). set l b in_use) e
      ∙ set-tabulate (role_at d map []) (role_at d (map ++ (b ∷ [])) []) (length d.kinds) b in_use inside here (λ i low other. elsewhere i other)

  pub named-already : (b < length roles → get_or roles b 0 ≡ superseded → ⊥) → roles ≡ roles_of d (map ++ (b ∷ [])) []
  unfolding role_at names
  named-already h = e ∙ tabulate-same (role_at d map []) (role_at d (map ++ (b ∷ [])) []) (length d.kinds) (λ i low. go i low (eqb i b) refl)
    where
      go : (i : ℕ) → i < length d.kinds → (t : Bool) → eqb i b ≡ t → role_at d map [] i ≡ role_at d (map ++ (b ∷ [])) [] i
      go i low true eq =
          let same : b ≡ i = sym (eqb-true i b eq) in
          let inside : b < length d.kinds = omega arith in
          ap (role_at d map []) (sym same)
          ∙ stays (kind_at d b) (of_table d b) (names map b) (λ was. h (omega (arith, long)) (told inside ∙ was))
          ∙ ap (λ (t : Bool). role_of_kind (kind_at d b) (role_of_data (of_table d b) t false)) (sym (names-last map b))
          ∙ ap (role_at d (map ++ (b ∷ [])) []) same
      go i low false other = elsewhere i (eqb-false i b other)

-- ---- a number lets go of a block

module _ (l : List ℕ) (b : ℕ) (roles : List ℕ) where
  pub let-go-beyond : length roles ≤ b → let_go l b roles ≡ roles
  unfolding let_go
  let-go-beyond h = rw (get_or-eq_default roles blank_role h)

  pub let-go-other : b < length roles → (get_or roles b 0 ≡ in_use → ⊥) → let_go l b roles ≡ roles
  unfolding let_go
  let-go-other h other = rw (get_or_default roles b blank_role 0 h, ne_eqb (get_or roles b 0) in_use other)

  pub let-go-named : names (map_of (unpack l)) b ≡ true → let_go l b roles ≡ roles
  unfolding let_go
  let-go-named n = ap (λ (t : Bool). supersede_if t b roles) (and-false (eqb (get_or roles b blank_role) in_use) (not (names (map_of (unpack l)) b)) (ap not n))

  pub let-go-now : b < length roles → get_or roles b 0 ≡ in_use → names (map_of (unpack l)) b ≡ false → let_go l b roles ≡ set roles b superseded
  unfolding let_go
  let-go-now h was n = rw (get_or_default roles b blank_role 0 h, was, n)

-- ---- what a call recorded

-- a part of the list filled
pub filled-part : (at n x : ℕ) (xs ys : List ℕ) → ys ≡ replicate n x → put_mid at (at + n - at) xs ys ≡ stored xs at (replicate n x)
unfolding stored
filled-part at n x xs ys e =
    let behind : at + (at + n - at) ≡ at + length (replicate n x) = omega (arith, length-replicate {A = ℕ} n x) in
    ap₂ (λ (l rest : List ℕ). take at xs ++ (l ++ rest)) e (drop-drop (at + n - at) at xs ∙ ap (λ (k : ℕ). drop k xs) behind)

-- the links, the sectors between and those of the role, each run behind the other
pub marked-runs : (at links between count role : ℕ) (xs : List ℕ) → at + links + between + count ≤ length xs
    → stored (stored (stored xs at (replicate links link_role)) (at + links) (replicate between unnumbered)) (at + links + between) (replicate count role)
    ≡ marked at links between count role xs
unfolding marked
marked-runs at links between count role xs h =
    let first : List ℕ = replicate links link_role in
    let second : List ℕ = replicate between unnumbered in
    let third : List ℕ = replicate count role in
    let m : length first ≡ links = length-replicate {A = ℕ} links link_role in
    let n : length second ≡ between = length-replicate {A = ℕ} between unnumbered in
    let room : at + length first ≤ length xs = omega arith in
    let linked : List ℕ = stored xs at first in
    let still : length linked ≡ length xs = length-stored xs at first room in
    sym (stored-append first (second ++ third) xs at room
    ∙ ap (λ (k : ℕ). stored linked (at + k) (second ++ third)) m
    ∙ stored-append second third linked (at + links) (omega arith)
    ∙ ap (λ (k : ℕ). stored (stored linked (at + links) second) (at + links + k) third) n)
