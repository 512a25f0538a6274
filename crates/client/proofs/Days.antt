-- Days, call by call: what the promise of one call says of the day, and how one part of a day follows another.
--     one                        a call of the station, as a day of one call
--     without-roles              what such a call does that is lent one role a sector
--     goes_on, then-called, then-read, then-time   after calls that are done the rest goes on with what they left, or one call more
--     stops, not_done            a refusal ends the day, and then not all of its calls were done
--     first_done, last_done      a call that is done leaves disc and ledger as it leaves them where no roles are lent
--     first-fit, last_fit        so does any call that is lent one role a sector
--     start-fit, opening-fit     as a day does that is opened
-- Assumes nothing.
use Prim.Native.Nat.{ℕ, ◌≤◌, ◌<◌}
use native.Mathlib.Omega.{arith}
use mathlib.Core.Path.{◌≡◌, refl, sym, ap, ◌∙◌, subst}
use mathlib.Core.Bool.{Bool, true, false, ◌||◌}
use mathlib.Core.List.{List, [], ◌∷◌, ◌++◌}
use Rattle.std.specs.Prelude.{Result, Err}
use lib.Dec.{ltb}
use lib.ListN.{length}
use borrow.Author.Tests.{lt-ltb, le-ltb, ltb-true, ltb-false}
use Rattle.disc.specs.Disc.{Disc, lent}
use Rattle.volume.specs.Volume.{ledger_length}
use Rattle.recorder.specs.Calls.{Call, read, time_of, restores, may_record}
use Rattle.recorder.specs.Refusals.{outcome}
use Rattle.recorder.specs.Refused.{answer_of}
use Rattle.recorder.specs.declared.Refusal.{Refusal}
use Rattle.recorder.specs.Effects.{After, left, after}
use Rattle.recorder.proofs.Refused.{refusal-high}
use Rattle.recorder.proofs.Done.{ledger-accepted}
use Rattle.recorder.proofs.Answers.{settled-done}
use Rattle.roles.specs.Keeping.{outcome_roles, AfterRoles, left_roles, after_roles}
use Rattle.roles.proofs.Lent.{fit_same, done-fit, done-same, call_same, read_same, time-same, kept-fit}
use Rattle.client.specs.Day.{Day, ended, morning, called, going_on, day, AllDone, opening}

-- ---- one part of a day after another

abbrev this_day : AfterRoles → Day
this_day x = record { answer = x.call.answer; disc = x.call.disc; roles = x.roles; ledger = x.call.ledger }

abbrev beside : List ℕ → After → AfterRoles
beside o x = record { call = x; roles = o }

pub one : (i₀ k₀ o₀ m₀ : List ℕ) {a : ℕ} {i k o m b : List ℕ} (c : Call) → left_roles a i k o m b ≡ after_roles (lent i₀ k₀) o₀ m₀ c → ended a i k o m ≡ day (morning i₀ k₀ o₀ m₀) (c ∷ [])
unfolding day
one i₀ k₀ o₀ m₀ c e = ap this_day e

-- a call that is lent one role a sector answers, and leaves disc and ledger, as without roles
pub without-roles : (d : Disc) (o l : List ℕ) (c : Call) → length o ≡ length d.kinds → {a : ℕ} {i k o₁ l₁ b : List ℕ} → left_roles a i k o₁ l₁ b ≡ after_roles d o l c → left a i k l₁ b ≡ after d l c
without-roles d o l c fit e = ap (λ (x : AfterRoles). x.call) e ∙ call_same d o l c (fit_same d o l c fit)

pub joined : (cs ds : List Call) (x : Day) → day x (cs ++ ds) ≡ day (day x cs) ds
unfolding day
joined [] ds x = refl
joined (c ∷ cs) ds x = joined cs ds (going_on (ltb x.answer 4294967296) x (called x.disc x.roles x.ledger c))

pub refused-stays : (cs : List Call) (x : Day) → 4294967296 ≤ x.answer → day x cs ≡ x
unfolding day
refused-stays [] x h = refl
refused-stays (c ∷ cs) x h = ap (λ (t : Bool). day (going_on t x (called x.disc x.roles x.ledger c)) cs) (le-ltb x.answer 4294967296 h) ∙ refused-stays cs x h

first-called : (x : Day) (c : Call) (cs : List Call) → x.answer < 4294967296 → day x (c ∷ cs) ≡ day (called x.disc x.roles x.ledger c) cs
unfolding day
first-called x c cs h = ap (λ (t : Bool). day (going_on t x (called x.disc x.roles x.ledger c)) cs) (lt-ltb x.answer 4294967296 h)

-- after calls that are done the rest goes on with what they left
module _ (x : Day) (cs : List Call) {r : ℕ} {i k o m : List ℕ} (e : ended r i k o m ≡ day x cs) (low : r < 4294967296) where
  pub goes_on : (c : Call) (ds : List Call) → day (morning i k o m) (c ∷ ds) ≡ day x (cs ++ (c ∷ ds))
  unfolding day
  goes_on c ds = sym (first-called (ended r i k o m) c ds low) ∙ ap (λ (y : Day). day y (c ∷ ds)) e ∙ sym (joined cs (c ∷ ds) x)

  module _ {a : ℕ} {i₁ k₁ m₁ b : List ℕ} where
    pub then-called : (c : Call) {o₁ : List ℕ} → left_roles a i₁ k₁ o₁ m₁ b ≡ after_roles (lent i k) o m c → ended a i₁ k₁ o₁ m₁ ≡ day x (cs ++ (c ∷ []))
    then-called c f = one i k o m c f ∙ goes_on c []

    -- a call that is not lent the roles
    pub then-read : (v : ℕ) (out : List ℕ) → left a i₁ k₁ m₁ b ≡ after (lent i k) m (read v out) → ended a i₁ k₁ o m₁ ≡ day x (cs ++ (read v out ∷ []))
    then-read v out f = then-called (read v out) (ap (beside o) f ∙ sym (read_same (lent i k) o m v out))

    pub then-time : (n : ℕ) (answer : List ℕ) → left a i₁ k₁ m₁ b ≡ after (lent i k) m (time_of n answer) → ended a i₁ k₁ o m₁ ≡ day x (cs ++ (time_of n answer ∷ []))
    then-time n answer f = then-called (time_of n answer) (ap (beside o) f ∙ sym (time-same (lent i k) o m n answer))

-- ---- calls that are done

lt-or-le : (a b : ℕ) {A : Type 0} → (a < b → A) → (b ≤ a → A) → A
lt-or-le a b {A} f g = go (ltb a b) refl
  where
    go : (t : Bool) → ltb a b ≡ t → A
    go true e = f (ltb-true a b e)
    go false e = g (ltb-false a b e)

-- a day of calls that are all done: the first part is done
pub part-done : (cs ds : List Call) (x : Day) → AllDone x (cs ++ ds) → AllDone x cs
part-done cs ds x a =
    let whole : (day (day x cs) ds).answer < 4294967296 = subst (λ (y : Day). y.answer < 4294967296) (joined cs ds x) a in
    lt-or-le (day x cs).answer 4294967296 (λ h. h) (λ h. subst (λ (y : Day). y.answer < 4294967296) (refused-stays ds (day x cs) h) whole)

-- a call whose outcome is that without roles
abbrev pub did : Day → Call → Day
did x c =
    let a : After = after x.disc x.ledger c in
    record { answer = a.answer; disc = a.disc; roles = (after_roles x.disc x.roles x.ledger c).roles; ledger = a.ledger }

first-same : (x : Day) (c : Call) (cs : List Call) → x.answer < 4294967296 → outcome_roles x.disc x.roles x.ledger c ≡ outcome x.disc x.ledger c → day x (c ∷ cs) ≡ day (did x c) cs
first-same x c cs h e =
    first-called x c cs h
    ∙ ap (λ (a : After). day (record { answer = a.answer; disc = a.disc; roles = (after_roles x.disc x.roles x.ledger c).roles; ledger = a.ledger }) cs) (call_same x.disc x.roles x.ledger c e)

module _ (x : Day) (c : Call) (cs : List Call) (ok : x.answer < 4294967296) (a : AllDone x (c ∷ cs)) where
  answered : (after_roles x.disc x.roles x.ledger c).call.answer < 4294967296
  unfolding day
  answered = subst (λ (y : Day). y.answer < 4294967296) (first-called x c [] ok) (part-done (c ∷ []) cs x a)

  passed : outcome_roles x.disc x.roles x.ledger c ≡ 0
  unfolding after_roles
  passed = settled-done x.disc x.ledger c (outcome_roles x.disc x.roles x.ledger c) answered

  same : outcome_roles x.disc x.roles x.ledger c ≡ outcome x.disc x.ledger c
  same = done-same x.disc x.roles x.ledger c passed

  pub done_first : outcome x.disc x.ledger c ≡ 0
  done_first = sym same ∙ passed

  pub called-done : (after x.disc x.ledger c).answer < 4294967296
  called-done = subst (λ (y : After). y.answer < 4294967296) (call_same x.disc x.roles x.ledger c same) answered

  pub first_done : day x (c ∷ cs) ≡ day (did x c) cs
  first_done = first-same x c cs ok same

  pub rest-done : AllDone (did x c) cs
  rest-done = subst (λ (y : Day). y.answer < 4294967296) first_done a

  -- and the lent ledger had its length
  pub first-long : length x.ledger ≡ ledger_length
  first-long = ledger-accepted x.disc x.ledger c done_first

-- a refusal ends the day, and `?` hands it on
module _ (x : Day) (cs ds : List Call) (refusal : Refusal) {i k o m : List ℕ} (e : ended (answer_of (Err refusal)) i k o m ≡ day x cs) where
  pub stops : (told : Result ℕ Refusal) → told ≡ Err refusal → ended (answer_of told) i k o m ≡ day x (cs ++ ds)
  stops told same =
      ap (λ (r : Result ℕ Refusal). ended (answer_of r) i k o m) same
      ∙ sym (refused-stays ds (ended (answer_of (Err refusal)) i k o m) (refusal-high refusal)) ∙ ap (λ (y : Day). day y ds) e ∙ sym (joined cs ds x)

  -- so not all of its calls were done
  pub not_done : {A : Type 0} → AllDone x (cs ++ ds) → A
  not_done a = absurd (let same = ap (λ (y : Day). y.answer) e in let d : (day x cs).answer < 4294967296 = part-done cs ds x a in omega (arith, same, d, refusal-high refusal))

-- a last call that is done too
pub last_done : (x : Day) (cs : List Call) (c : Call) → AllDone x (cs ++ (c ∷ [])) → day x (cs ++ (c ∷ [])) ≡ did (day x cs) c
unfolding day
last_done x cs c a =
    joined cs (c ∷ []) x
    ∙ first_done (day x cs) c [] (part-done cs (c ∷ []) x a) (subst (λ (y : Day). y.answer < 4294967296) (joined cs (c ∷ []) x) a)

-- ---- one role a sector

abbrev pub Fit : Day → Type 0
Fit x = length x.roles ≡ length x.disc.kinds

pub first-fit : (x : Day) (c : Call) (cs : List Call) → x.answer < 4294967296 → Fit x → day x (c ∷ cs) ≡ day (did x c) cs
first-fit x c cs h f = first-same x c cs h (fit_same x.disc x.roles x.ledger c f)

pub next-fit : (x : Day) (c : Call) → Fit x → Fit (did x c)
next-fit x c f = kept-fit x.disc x.roles x.ledger f c

fits_on : (cs : List Call) (x : Day) → x.answer < 4294967296 → AllDone x cs → Fit x → Fit (day x cs)
unfolding day
fits_on [] x ok a f = f
fits_on (c ∷ cs) x ok a f =
    subst Fit (sym (first_done x c cs ok a)) (fits_on cs (did x c) (called-done x c cs ok a) (rest-done x c cs ok a) (next-fit x c f))

module _ (x : Day) (fresh : Bool) (cs : List Call) (ok : x.answer < 4294967296) (a : AllDone x (opening fresh ∷ cs)) where
  pub start-fit : Fit x
  start-fit = done-fit x.disc x.roles x.ledger (opening fresh) (lent-roles fresh) (passed x (opening fresh) cs ok a)
    where
      lent-roles : (t : Bool) → (restores (opening t) || may_record (opening t)) ≡ true
      lent-roles true = refl
      lent-roles false = refl

  pub opening-fit : Fit (day x (opening fresh ∷ cs))
  opening-fit = fits_on (opening fresh ∷ cs) x ok a start-fit

-- a further call, behind calls that are all done
pub last_fit : (x : Day) (cs : List Call) (c : Call) → AllDone x cs → Fit (day x cs) → day x (cs ++ (c ∷ [])) ≡ did (day x cs) c
unfolding day
last_fit x cs c a f = joined cs (c ∷ []) x ∙ first-fit (day x cs) c [] a f
