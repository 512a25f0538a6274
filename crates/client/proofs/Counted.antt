-- What the roles tell a host, from the claim about them.
--     counts, most-counted       each role as std counts, and no more counted than there are
--     all-accounted              the six counts together
--     is_held, is-not-held       the role of one block
-- Assumes nothing.
use Prim.Native.Nat.{ℕ, zero, suc, ◌+◌, ◌≤◌, ◌<◌}
use native.Mathlib.Omega.{arith}
use mathlib.Core.Path.{◌≡◌, refl, sym, ap, ◌∙◌}
use mathlib.Core.Bool.{Bool, true, false, cond, ◌&&◌, ◌||◌, not}
use mathlib.Core.List.{List, [], ◌∷◌}
use lib.Dec.{eqb}
use lib.ListN.{length, get_or, get_or-eq_default}
use borrow.Author.Tests.{ne_eqb}
use Rattle.std.specs.List.{count_by}
use Rattle.std.proofs.lemmas.List.Recursion.{is_count_by}
use Rattle.disc.specs.Disc.{Disc, recorded, kind_at}
use Rattle.volume.specs.Volume.{unpack, map_of, grown}
use Rattle.recorder.specs.Calls.{Call, may_record}
use Rattle.recorder.specs.Refusals.{outcome}
use Rattle.recorder.specs.Effects.{After, after}
use Rattle.roles.specs.Roles.{in_use, names, of_table, role_of_kind, role_of_data, role_at, roles_of}
use Rattle.roles.specs.Keeping.{after_roles}
use Rattle.roles.proofs.Roles.{length-tabulate, get_d_tabulate}
use Rattle.roles.proofs.Lent.{fit_same, done-fit, call_same, kept-fit}
use Rattle.space.specs.Space.{Lent, leaves_all, leaves, apart_if, afresh, count, recorded_roles}
use Rattle.space.proofs.Theorem.{space}
use Rattle.client.specs.Account.{RolesLeft, holding}

-- ---- counts

-- counting a role is std's counting
pub counts : (role : ℕ) (rs : List ℕ) → count role rs ≡ count_by (λ r. eqb r role) rs
unfolding count
counts role = is_count_by (count role) (λ r. eqb r role) refl (λ r rs. one (eqb r role) (count role rs))
  where
    one : (t : Bool) (n : ℕ) → grown t n ≡ cond t (1 + n) n
    one true n = omega arith
    one false n = refl

pub most-counted : (rs : List ℕ) → recorded_roles rs ≤ length rs
unfolding count
most-counted [] = omega arith
most-counted (zero ∷ rs) = omega (arith, most-counted rs)
most-counted (suc zero ∷ rs) = omega (arith, most-counted rs)
most-counted (suc (suc zero) ∷ rs) = omega (arith, most-counted rs)
most-counted (suc (suc (suc zero)) ∷ rs) = omega (arith, most-counted rs)
most-counted (suc (suc (suc (suc zero))) ∷ rs) = omega (arith, most-counted rs)
most-counted (suc (suc (suc (suc (suc zero)))) ∷ rs) = omega (arith, most-counted rs)
most-counted (suc (suc (suc (suc (suc (suc x))))) ∷ rs) =
    rw (other 0 (omega arith), other 1 (omega arith), other 2 (omega arith), other 3 (omega arith), other 4 (omega arith), other 5 (omega arith)) (omega (arith, most-counted rs))
  where
    other : (role : ℕ) → role < 6 → eqb (suc (suc (suc (suc (suc (suc x)))))) role ≡ false
    other role h = ne_eqb (suc (suc (suc (suc (suc (suc x)))))) role (λ e. omega arith)

-- ---- the roles that calls left

-- worked out afresh, they are those of the disc and the ledger that the calls left
afresh-roles : (cs : List Call) (s : Lent) (apart : List ℕ) → length s.roles ≡ length s.disc.kinds
    → (xs : List ℕ) × (afresh s.disc s.ledger apart cs ≡ roles_of (leaves_all s cs).disc (map_of (unpack (leaves_all s cs).ledger)) xs)
unfolding afresh leaves_all
afresh-roles [] s apart fit = (apart, refl)
afresh-roles (c ∷ cs) s apart fit =
    let same : (after_roles s.disc s.roles s.ledger c).call ≡ after s.disc s.ledger c = call_same s.disc s.roles s.ledger c (fit_same s.disc s.roles s.ledger c fit) in
    let apart' : List ℕ = apart_if (outcome s.disc s.ledger c) c (after s.disc s.ledger c).answer apart in
    let rest = afresh-roles cs (leaves s c) apart' (kept-fit s.disc s.roles s.ledger fit c ∙ ap (λ (a : After). length a.disc.kinds) (sym same)) in
    (rest.0, ap (λ (a : After). afresh a.disc a.ledger apart' cs) (sym same) ∙ rest.1)

role-in-use : (d : Disc) (map apart : List ℕ) (b : ℕ) → eqb (role_at d map apart b) in_use ≡ (eqb (kind_at d b) 1 && (not (of_table d b) && names map b))
unfolding role_at
role-in-use d map apart b = go (kind_at d b) (of_table d b) (names map b) (names apart b)
  where
    go : (k : ℕ) (t n a : Bool) → eqb (role_of_kind k (role_of_data t n a)) in_use ≡ (eqb k 1 && (not t && n))
    go zero t n a = refl
    go (suc zero) true n a = refl
    go (suc zero) false true a = refl
    go (suc zero) false false true = refl
    go (suc zero) false false false = refl
    go (suc (suc zero)) t n a = refl
    go (suc (suc (suc k))) t n a = ap (λ (x : Bool). x && (not t && n)) (sym (ne_eqb (suc (suc (suc k))) 1 (λ e. omega arith)))

module _ {roles : List ℕ} (s : Lent) (c : Call) (cs : List Call) (left : RolesLeft s c cs roles) where
  pub all-accounted : recorded_roles roles ≡ recorded (leaves_all s (c ∷ cs)).disc
  all-accounted = ap recorded_roles (sym left.all_left) ∙ space.counted s c left.restoring left.is-done cs

  left-roles : (xs : List ℕ) × (roles ≡ roles_of (leaves_all s (c ∷ cs)).disc (map_of (unpack (leaves_all s (c ∷ cs)).ledger)) xs)
  left-roles =
      let lent-roles = ap (λ (t : Bool). t || may_record c) left.restoring in
      let fresh = afresh-roles (c ∷ cs) s [] (done-fit s.disc s.roles s.ledger c lent-roles left.is-done) in
      (fresh.0, sym left.all_left ∙ space.kept-up s c left.restoring left.is-done cs ∙ fresh.1)

  abbrev ends : Lent
  ends = leaves_all s (c ∷ cs)

  as_many : length roles ≡ length ends.disc.kinds
  as_many = ap length left-roles.1 ∙ length-tabulate (role_at ends.disc (map_of (unpack ends.ledger)) left-roles.0) (length ends.disc.kinds)

  pub is_held : (b : ℕ) → b < length roles → eqb (get_or roles b 0) in_use ≡ holding ends b
  is_held b h =
      let f : ℕ → ℕ = role_at ends.disc (map_of (unpack ends.ledger)) left-roles.0 in
      ap (λ (x : ℕ). eqb x in_use) (ap (λ (rs : List ℕ). get_or rs b 0) left-roles.1 ∙ get_d_tabulate f (length ends.disc.kinds) b 0 (omega (arith, as_many)))
      ∙ role-in-use ends.disc (map_of (unpack ends.ledger)) left-roles.0 b

  pub is-not-held : (b : ℕ) → length roles ≤ b → false ≡ holding ends b
  is-not-held b h =
      ap (λ (k : ℕ). eqb k 1 && (not (of_table ends.disc b) && names (map_of (unpack ends.ledger)) b))
      (sym (get_or-eq_default ends.disc.kinds 0 (omega (arith, as_many))))
