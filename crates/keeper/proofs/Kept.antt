-- What a call leaves that is lent the roles, from what the log leaves: turned away for a length, refused by the log, or done with the roles kept up.
-- Assumes nothing.
use Prim.Native.Nat.{ℕ, zero, suc, ◌*◌, ◌<◌}
use native.Mathlib.Omega.{arith}
use mathlib.Core.Path.{◌≡◌, refl, sym, ap, ◌∙◌}
use mathlib.Core.Bool.{Bool, true, ◌||◌}
use mathlib.Core.List.{List, ◌++◌}
use lib.Dec.{eqb}
use lib.ListN.{length}
use borrow.Author.Tests.{eqb-true, not-false}
use Rattle.std.specs.Prelude.{Result, Err}
use Rattle.std.specs.Result.{IsErrAnd}
use Rattle.std.proofs.lemmas.Result.{err_from_is_err_and}
use Rattle.disc.specs.Disc.{Disc, sized}
use Rattle.volume.specs.Volume.{ledger_length}
use Rattle.recorder.specs.declared.Refusal.{Refusal}
use Rattle.recorder.specs.Calls.{Call, close_packet, buffer_of, restores, may_record}
use Rattle.recorder.specs.Refusals.{first, tests, outcome}
use Rattle.recorder.specs.Effects.{effect, After, left, settled, after}
use Rattle.recorder.specs.Refused.{number, answer_of}
use Rattle.recorder.proofs.Done.{stopped, none-applies, resumed, ledger-accepted}
use Rattle.recorder.proofs.Answers.{done-small, done-of}
use Rattle.roles.specs.Keeping.{kept_up, roles_tests, outcome_roles, AfterRoles, left_roles, roles_if, after_roles}
use Rattle.sector_log.proofs.Refused.{above}

-- what 1 and 2 leave when neither applies
pub lengths-told : (d : Disc) (roles : List ℕ) → first (roles_tests true d roles) ≡ 0 → (sized d ≡ true) × (length roles ≡ length d.kinds)
lengths-told d roles e =
    let p = none-applies (roles_tests true d roles) refl e in
    (not-false (sized d) p.0, eqb-true (length roles) (length d.kinds) (not-false (eqb (length roles) (length d.kinds)) p.1.0))

-- the log's call is done: no length is wrong, nothing is refused, and the log leaves this, with a ledger as long as the one accepted
pub record Done (d : Disc) (roles l : List ℕ) (c : Call) (a : ℕ) (i k m b : List ℕ) : Type 0 where
  pub lent : first (roles_tests true d roles) ≡ 0
  pub done : outcome d l c ≡ 0
  pub log : left a i k m b ≡ after d l c
  pub accepted : length l ≡ ledger_length
  pub long : length m ≡ ledger_length

pub done-by : (d : Disc) (roles l : List ℕ) (c : Call) {a : ℕ} {i k m b : List ℕ} → 0 ≡ first (roles_tests true d roles) → left a i k m b ≡ after d l c → length m ≡ length l
    → a < 4294967296 → Done d roles l c a i k m b
done-by d roles l c lent log same small =
    let done : outcome d l c ≡ 0 = done-of d l c (let answer = ap (λ (x : After). x.answer) log in omega (arith, answer)) in
    let accepted : length l ≡ ledger_length = ledger-accepted d l c done in
    record { lent = sym lent; done = done; log = log; accepted = accepted; long = same ∙ accepted }

-- ---- all that a call leaves

module _ (d : Disc) (roles l : List ℕ) (c : Call) where
  by-outcome : (n : ℕ) → n ≡ outcome_roles d roles l c
      → record { call = settled d l (buffer_of c) n (effect d l c); roles = roles_if n roles (kept_up d roles l c) } ≡ after_roles d roles l c
  unfolding after_roles
  by-outcome n e = ap {B = AfterRoles} (λ k. record { call = settled d l (buffer_of c) k (effect d l c); roles = roles_if k roles (kept_up d roles l c) }) e

  same_roles : {x y : After} {rs ss : List ℕ} → x ≡ y → rs ≡ ss → ◌≡◌ {A = AfterRoles} (record { call = x; roles = rs }) (record { call = y; roles = ss })
  same_roles p q = λ i. record { call = p i; roles = q i }

  -- a refusal, as it is told
  told-so : (r : Refusal) (told : Result ℕ Refusal) {i k m b : List ℕ} → IsErrAnd told (λ e. e ≡ r) → left_roles (answer_of told) i k roles m b ≡ left_roles (number r * 4294967296) i k roles m b
  told-so r told {i} {k} {m} {b} e =
      let p = err_from_is_err_and told e in ap (λ (t : Result ℕ Refusal). left_roles (answer_of t) i k roles m b) (p.1 ∙ ap Err p.2)

  module _ (altering : (restores c || may_record c) ≡ true) where
    -- the list of tests of such a call
    listed : (n : ℕ) → first (roles_tests true d roles ++ tests d l c) ≡ n → n ≡ outcome_roles d roles l c
    unfolding outcome_roles
    listed n e = sym (ap (λ (t : Bool). first (roles_tests t d roles ++ tests d l c)) altering ∙ e)

    -- a length is wrong
    pub turned-away : (r : Refusal) (told : Result ℕ Refusal) → number r ≡ first (roles_tests true d roles) → IsErrAnd told (λ e. e ≡ r)
        → left_roles (answer_of told) d.image d.kinds roles l (buffer_of c) ≡ after_roles d roles l c
    turned-away r told o e = told-so r told e ∙ go (number r) o (above r)
      where
        go : (n : ℕ) → n ≡ first (roles_tests true d roles) → 0 < n → left_roles (n * 4294967296) d.image d.kinds roles l (buffer_of c) ≡ after_roles d roles l c
        go zero o h = absurd (omega arith)
        go (suc n) o h = by-outcome (suc n) (listed (suc n) (stopped (roles_tests true d roles) (tests d l c) (λ z. omega (arith, o, z)) ∙ sym o))

    module _ (lent : first (roles_tests true d roles) ≡ 0) where
      -- then the log decides
      as-log : outcome d l c ≡ outcome_roles d roles l c
      unfolding outcome
      as-log = listed (outcome d l c) (resumed (roles_tests true d roles) (tests d l c) refl lent)

      joined : {x : After} {rs : List ℕ} → x ≡ after d l c → rs ≡ roles_if (outcome d l c) roles (kept_up d roles l c) → ◌≡◌ {A = AfterRoles} (record { call = x; roles = rs }) (after_roles d roles l c)
      unfolding after
      joined p q = same_roles p q ∙ by-outcome (outcome d l c) as-log

    -- the log refuses
    pub refused : 0 ≡ first (roles_tests true d roles) → (r : Refusal) (told : Result ℕ Refusal) {i k m b : List ℕ} → left (number r * 4294967296) i k m b ≡ after d l c → IsErrAnd told (λ e. e ≡ r)
        → left_roles (answer_of told) i k roles m b ≡ after_roles d roles l c
    refused lent r told log e = told-so r told e ∙ joined (sym lent) log (go (outcome d l c) refl)
      where
        answered : outcome d l c ≡ 0 → ⊥
        answered z =
            let small : (after d l c).answer < 4294967296 = done-small d l c z in
            let same = ap (λ (x : After). x.answer) log in
            omega (arith, small, same, above r)

        go : (n : ℕ) → outcome d l c ≡ n → roles ≡ roles_if n roles (kept_up d roles l c)
        go zero z = absurd (answered z)
        go (suc n) z = refl

    -- the log's call is done
    pub kept : {a : ℕ} {i k m b rs : List ℕ} → Done d roles l c a i k m b → rs ≡ kept_up d roles l c → left_roles a i k rs m b ≡ after_roles d roles l c
    kept f q = joined f.lent f.log (q ∙ ap (λ (n : ℕ). roles_if n roles (kept_up d roles l c)) (sym f.done))

-- close packet changes no role, done or refused
pub as-they-were : (d : Disc) (roles l : List ℕ) → 0 ≡ first (roles_tests true d roles) → {a : ℕ} {i k m b : List ℕ} → left a i k m b ≡ after d l close_packet
    → left_roles a i k roles m b ≡ after_roles d roles l close_packet
unfolding kept_up
as-they-were d roles l lent log = joined d roles l close_packet refl (sym lent) log (go (outcome d l close_packet))
  where
    go : (n : ℕ) → roles ≡ roles_if n roles roles
    go zero = refl
    go (suc n) = refl
