-- What calls that are lent roles leave is what the claims about lists speak of, proved.
--     as-without-roles   the claim of specs/Called.antt
-- Assumes nothing.
use Prim.Native.Nat.{ℕ, zero, suc, ◌*◌}
use mathlib.Core.Path.{◌≡◌, refl, sym, ap, ◌∙◌, subst}
use mathlib.Core.Bool.{Bool, true, false, ◌||◌, not}
use mathlib.Core.List.{List, [], ◌∷◌, ◌++◌}
use mathlib.Core.Logic.{◌⊎◌, inl, inr}
use Rattle.std.specs.Prelude.{Some}
use lib.Dec.{eqb}
use lib.ListN.{length}
use borrow.Author.Tests.{eqb-true}
use Rattle.disc.specs.Disc.{Disc, sized}
use Rattle.recorder.specs.Calls.{Call, begin, mount, write, release, close_packet, commit, close_session, read, look_back, time_of, buffer_of, restores, may_record, only_tells}
use Rattle.recorder.specs.Refusals.{Test, test, first, tests, outcome}
use Rattle.recorder.specs.Effects.{effect, settled, after}
use Rattle.roles.specs.Keeping.{roles_tests, outcome_roles, AfterRoles, roles_if, kept_up, after_roles}
use Rattle.roles.proofs.Lent.{fit_same, call_same, kept-fit}
use Rattle.history.specs.Events.{World, calls, AllAllowed, ledger_after, next, runs}
use Rattle.history.proofs.Log.{none-some}
use Rattle.space.specs.Space.{Lent, leaves, leaves_all}
use Rattle.space.specs.Called.{RefusedForLengths, as_events, world_of, AsWithoutRoles}

-- ---- one call

as_many : (d : Disc) (roles l : List ℕ) (c : Call) → length roles ≡ length d.kinds → (after_roles d roles l c).call ≡ after d l c
as_many d roles l c h = call_same d roles l c (fit_same d roles l c h)

-- 1 or 2, where the length is wrong
short : (a : Bool) (ts : List Test) → (first (test 1 a ∷ test 2 true ∷ ts) ≡ 1) ⊎ (first (test 1 a ∷ test 2 true ∷ ts) ≡ 2)
unfolding first
short true ts = inl refl
short false ts = inr refl

module _ (d : Disc) (roles l : List ℕ) (c : Call) where
  refused-with : (n : ℕ) → outcome_roles d roles l c ≡ suc n
      → after_roles d roles l c ≡ record { call = record { answer = suc n * 4294967296; disc = d; ledger = l; buffer = buffer_of c }; roles = roles }
  unfolding after_roles
  refused-with n e = ap {B = AfterRoles} (λ (m : ℕ). record { call = settled d l (buffer_of c) m (effect d l c); roles = roles_if m roles (kept_up d roles l c) }) e

  refused-for : (outcome_roles d roles l c ≡ 1) ⊎ (outcome_roles d roles l c ≡ 2) → RefusedForLengths d roles l c
  refused-for (inl e) = (1, inl refl, refused-with 0 e)
  refused-for (inr e) = (2, inr refl, refused-with 1 e)

  wrong-length : (restores c || may_record c) ≡ true → eqb (length roles) (length d.kinds) ≡ false
      → outcome_roles d roles l c ≡ first (test 1 (not (sized d)) ∷ test 2 true ∷ tests d l c)
  unfolding outcome_roles
  wrong-length t z =
      ap (λ (b : Bool). first (roles_tests b d roles ++ tests d l c)) t
      ∙ ap (λ (u : Bool). first (test 1 (not (sized d)) ∷ test 2 (not u) ∷ tests d l c)) z

  each-call : RefusedForLengths d roles l c ⊎ ((after_roles d roles l c).call ≡ after d l c)
  unfolding outcome_roles outcome
  each-call = go (restores c || may_record c) refl (eqb (length roles) (length d.kinds)) refl
    where
      go : (t : Bool) → (restores c || may_record c) ≡ t → (u : Bool) → eqb (length roles) (length d.kinds) ≡ u
          → RefusedForLengths d roles l c ⊎ ((after_roles d roles l c).call ≡ after d l c)
      go false t u z = inr (call_same d roles l c (ap (λ (b : Bool). first (roles_tests b d roles ++ tests d l c)) t))
      go true t true z = inr (as_many d roles l c (eqb-true (length roles) (length d.kinds) z))
      go true t false z =
          inl (refused-for (subst (λ (n : ℕ). (n ≡ 1) ⊎ (n ≡ 2)) (sym (wrong-length t z)) (short (not (sized d)) (tests d l c))))

-- ---- a list of calls

-- the ledger goes on as it is left, also by a call that only tells
goes_on : (d : Disc) (l : List ℕ) (c : Call) (t : Bool) → (n : ℕ) → (t ≡ true → (effect d l c).ledger ≡ l)
    → ledger_after t n (Some l) (settled d l (buffer_of c) n (effect d l c)).ledger ≡ Some (settled d l (buffer_of c) n (effect d l c)).ledger
goes_on d l c true zero h = ap Some (sym (h refl))
goes_on d l c true (suc n) h = refl
goes_on d l c false zero h = refl
goes_on d l c false (suc n) h = refl

only-tells : (d : Disc) (l : List ℕ) (c : Call) → only_tells c ≡ true → (effect d l c).ledger ≡ l
unfolding effect
only-tells d l begin t = absurd (mathlib.Core.Bool.false≢true t)
only-tells d l mount t = absurd (mathlib.Core.Bool.false≢true t)
only-tells d l (write n block) t = absurd (mathlib.Core.Bool.false≢true t)
only-tells d l (release n) t = absurd (mathlib.Core.Bool.false≢true t)
only-tells d l close_packet t = absurd (mathlib.Core.Bool.false≢true t)
only-tells d l (commit stamp) t = absurd (mathlib.Core.Bool.false≢true t)
only-tells d l (close_session main reserve start) t = absurd (mathlib.Core.Bool.false≢true t)
only-tells d l (read n block) t = absurd (mathlib.Core.Bool.false≢true t)
only-tells d l (look_back k) t = absurd (mathlib.Core.Bool.false≢true t)
only-tells d l (time_of k answer) t = refl

module _ (s : Lent) (c : Call) (fit : length s.roles ≡ length s.disc.kinds) where
  same-call : (after_roles s.disc s.roles s.ledger c).call ≡ after s.disc s.ledger c
  same-call = as_many s.disc s.roles s.ledger c fit

  same_next : world_of (leaves s c) ≡ next (world_of s) (calls c [])
  unfolding next after
  same_next =
      (λ i. record { disc = (same-call i).disc; ledger = Some (same-call i).ledger })
      ∙ (λ i. record { disc = (after s.disc s.ledger c).disc; ledger = sym (goes_on s.disc s.ledger c (only_tells c) (outcome s.disc s.ledger c) (only-tells s.disc s.ledger c)) i })

  still-fit : length (leaves s c).roles ≡ length (leaves s c).disc.kinds
  still-fit = kept-fit s.disc s.roles s.ledger fit c ∙ ap (λ a. length a.disc.kinds) (sym same-call)

lists : (cs : List Call) (s : Lent) → length s.roles ≡ length s.disc.kinds
    → AllAllowed (world_of s) (as_events cs) × (world_of (leaves_all s cs) ≡ runs (world_of s) (as_events cs))
unfolding AllAllowed leaves_all runs
lists [] s fit = (tt, refl)
lists (c ∷ cs) s fit =
    let rest = lists cs (leaves s c) (still-fit s c fit) in
    let here : world_of (leaves s c) ≡ next (world_of s) (calls c []) = same_next s c fit in
    (((λ z. absurd (none-some s.ledger (sym z))), subst (λ (w : World). AllAllowed w (as_events cs)) here rest.0), rest.1 ∙ ap (λ (w : World). runs w (as_events cs)) here)

pub as-without-roles : AsWithoutRoles
as-without-roles = record { each-call = each-call; as_many = as_many; lists = λ s cs fit. lists cs s fit }
