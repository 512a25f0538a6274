-- The roles, proved: after every list of calls, done or refused, that follows a begin, mount or look back that was done, the roles kept up are those
-- worked out afresh, and the counts of the six recorded roles add up to recorded.
--     space      the claim of specs/Space.antt
--     kept_on    every call, done or refused, keeps what holds of disc, ledger and roles
-- Assumes nothing.
use Prim.Native.Nat.{ℕ, zero, suc}
use mathlib.Core.Path.{◌≡◌, refl, sym, ap, ◌∙◌, subst, subst₂}
use mathlib.Core.Bool.{Bool, true, false}
use mathlib.Core.List.{List, [], ◌∷◌}
use Rattle.std.specs.Prelude.{None, Some}
use lib.ListN.{length}
use Rattle.disc.specs.Disc.{Disc, recorded, puts}
use Rattle.disc.proofs.Recording.{Sound}
use Rattle.volume.specs.Volume.{unpack, map_of}
use Rattle.recorder.specs.Calls.{Call, begin, mount, write, release, close_packet, commit, close_session, read, look_back, time_of, restores, only_tells}
use Rattle.recorder.specs.Refusals.{outcome}
use Rattle.recorder.specs.Effects.{effect, After, after}
use Rattle.recorder.proofs.Done.{begin-done, mount-done, look-back-done}
use Rattle.roles.specs.Roles.{role_at}
use Rattle.roles.specs.Keeping.{scanned, kept_up, outcome_roles, AfterRoles, roles_if, after_roles}
use Rattle.roles.proofs.Roles.{length-tabulate, names-none}
use Rattle.roles.proofs.Lent.{fit_same, done-same, all_same}
use Rattle.history.specs.Events.{calls, after_call}
use Rattle.history.proofs.Steps.{Good, event-step}
use Rattle.history.proofs.Theorem.{lost_world, started}
use Rattle.space.specs.Space.{Lent, leaves_all, apart_if, afresh, recorded_roles, Space}
use Rattle.space.proofs.Counts.{roles-counted}
use Rattle.space.proofs.Calls.{Kept, DoneKept, after_is, unnumbered-kept, numbered-kept, release-kept, close-kept}
use Rattle.space.proofs.Saves.{commit-kept, closing-kept}

-- ---- begin, mount and look back

-- they scan what they leave
scan-kept : (d : Disc) (l : List ℕ) → Good (record { disc = d; ledger = Some l }) → Kept d l (scanned d l) []
unfolding scanned
scan-kept d l g = record { good = g; free = λ b e. absurd (mathlib.Core.Bool.false≢true (sym (names-none b) ∙ e)); roles-are = refl }

start-good : (d : Disc) (l : List ℕ) (c : Call) → Sound d → restores c ≡ true → only_tells c ≡ false → outcome d l c ≡ 0 → Good (after_call d l c)
start-good d l c ok r t e =
    subst Good (started (lost_world d) l c t e) (event-step (lost_world d) (calls c l) (record { sound-disc = ok; ledger-good = tt }) (λ z y. r)).good

start-kept : (d : Disc) (l : List ℕ) (c : Call) → restores c ≡ true → outcome d l c ≡ 0 → (roles apart : List ℕ) → DoneKept d l roles apart c
unfolding kept_up
start-kept d l begin r e roles apart = scan-kept (after d l begin).disc (after d l begin).ledger (start-good d l begin (begin-done d l e).0 r refl e)
start-kept d l mount r e roles apart = scan-kept (after d l mount).disc (after d l mount).ledger (start-good d l mount (mount-done d l e).0 r refl e)
start-kept d l (write n block) r e roles apart = absurd (mathlib.Core.Bool.false≢true r)
start-kept d l (release n) r e roles apart = absurd (mathlib.Core.Bool.false≢true r)
start-kept d l close_packet r e roles apart = absurd (mathlib.Core.Bool.false≢true r)
start-kept d l (commit stamp) r e roles apart = absurd (mathlib.Core.Bool.false≢true r)
start-kept d l (close_session main reserve start) r e roles apart = absurd (mathlib.Core.Bool.false≢true r)
start-kept d l (read n block) r e roles apart = absurd (mathlib.Core.Bool.false≢true r)
start-kept d l (look_back k) r e roles apart = scan-kept (after d l (look_back k)).disc (after d l (look_back k)).ledger (start-good d l (look_back k) (look-back-done d l k e).0 r refl e)
start-kept d l (time_of k answer) r e roles apart = absurd (mathlib.Core.Bool.false≢true r)

-- ---- every call

module _ (d : Disc) (l roles apart : List ℕ) (k : Kept d l roles apart) where
  -- a call that leaves disc and ledger
  still : (a : After) → a.disc ≡ d → a.ledger ≡ l → Kept a.disc a.ledger roles apart
  still a p q = subst₂ (λ (x : Disc) (y : List ℕ). Kept x y roles apart) (sym p) (sym q) k

  done-kept : (c : Call) → outcome d l c ≡ 0 → DoneKept d l roles apart c
  unfolding kept_up effect puts
  done-kept begin e = start-kept d l begin refl e roles apart
  done-kept mount e = start-kept d l mount refl e roles apart
  done-kept (write None block) e = unnumbered-kept d l roles apart k block e
  done-kept (write (Some n) block) e = numbered-kept d l roles apart k n block e
  done-kept (release n) e = release-kept d l roles apart k n e
  done-kept close_packet e = close-kept d l roles apart k e
  done-kept (commit stamp) e = commit-kept d l roles apart k stamp e
  done-kept (close_session main reserve start) e = closing-kept d l roles apart k main reserve start e
  done-kept (read n block) e =
      let left = after_is d l (read n block) 0 e in
      still (after d l (read n block)) (ap (λ (a : After). a.disc) left) (ap (λ (a : After). a.ledger) left)
  done-kept (look_back j) e = start-kept d l (look_back j) refl e roles apart
  done-kept (time_of j answer) e =
      let left = after_is d l (time_of j answer) 0 e in
      still (after d l (time_of j answer)) (ap (λ (a : After). a.disc) left) (ap (λ (a : After). a.ledger) left)

  pub kept_on : (c : Call) (n : ℕ) → outcome d l c ≡ n → Kept (after d l c).disc (after d l c).ledger (roles_if n roles (kept_up d roles l c)) (apart_if n c (after d l c).answer apart)
  kept_on c zero e = done-kept c e
  kept_on c (suc n) e =
      let left = after_is d l c (suc n) e in
      still (after d l c) (ap (λ (a : After). a.disc) left) (ap (λ (a : After). a.ledger) left)

-- ---- a list of calls

abbrev lent : Disc → List ℕ → List ℕ → Lent
lent d roles l = record { disc = d; roles = roles; ledger = l }

record Ends (d : Disc) (l roles apart : List ℕ) (cs : List Call) : Type 0 where
  kept-up : (leaves_all (lent d roles l) cs).roles ≡ afresh d l apart cs
  counted : recorded_roles (leaves_all (lent d roles l) cs).roles ≡ recorded (leaves_all (lent d roles l) cs).disc

-- one call, then those that follow
onward : (d : Disc) (l roles apart : List ℕ) (c : Call) (cs : List Call) → outcome_roles d roles l c ≡ outcome d l c
    → Ends (after d l c).disc (after d l c).ledger (roles_if (outcome d l c) roles (kept_up d roles l c)) (apart_if (outcome d l c) c (after d l c).answer apart) cs
    → Ends d l roles apart (c ∷ cs)
unfolding leaves_all afresh
onward d l roles apart c cs same rest =
    let fields : after_roles d roles l c ≡ record { call = after d l c; roles = roles_if (outcome d l c) roles (kept_up d roles l c) } = all_same d roles l c same in
    let left : AfterRoles → Lent = λ a. leaves_all (lent a.call.disc a.roles a.call.ledger) cs in
    record {
      kept-up = ap (λ (a : AfterRoles). (left a).roles) fields ∙ rest.kept-up;
      counted = ap (λ (a : AfterRoles). recorded_roles (left a).roles) fields ∙ rest.counted ∙ sym (ap (λ (a : AfterRoles). recorded (left a).disc) fields);
    }

ends : (cs : List Call) (d : Disc) (l roles apart : List ℕ) → Kept d l roles apart → Ends d l roles apart cs
unfolding leaves_all afresh
ends [] d l roles apart k =
    record { kept-up = k.roles-are; counted = ap recorded_roles k.roles-are ∙ roles-counted d k.good.sound-disc (map_of (unpack l)) apart }
ends (c ∷ cs) d l roles apart k =
    let long : length roles ≡ length d.kinds = ap length k.roles-are ∙ length-tabulate (role_at d (map_of (unpack l)) apart) (length d.kinds) in
    onward d l roles apart c cs (fit_same d roles l c long)
    (ends cs (after d l c).disc (after d l c).ledger (roles_if (outcome d l c) roles (kept_up d roles l c)) (apart_if (outcome d l c) c (after d l c).answer apart) (kept_on d l roles apart k c (outcome d l c) refl))

-- ---- the claim

from_start : (s : Lent) (c : Call) → restores c ≡ true → outcome_roles s.disc s.roles s.ledger c ≡ 0 → (cs : List Call) → Ends s.disc s.ledger s.roles [] (c ∷ cs)
from_start s c r e cs =
    let d : Disc = s.disc in
    let l : List ℕ = s.ledger in
    let is-done : outcome d l c ≡ 0 = sym (done-same d s.roles l c e) ∙ e in
    let first-kept : Kept (after d l c).disc (after d l c).ledger (roles_if (outcome d l c) s.roles (kept_up d s.roles l c)) (apart_if (outcome d l c) c (after d l c).answer []) =
    subst (λ (n : ℕ). Kept (after d l c).disc (after d l c).ledger (roles_if n s.roles (kept_up d s.roles l c)) (apart_if n c (after d l c).answer [])) (sym is-done) (start-kept d l c r is-done s.roles []) in
    onward d l s.roles [] c cs (e ∙ sym is-done)
    (ends cs (after d l c).disc (after d l c).ledger (roles_if (outcome d l c) s.roles (kept_up d s.roles l c)) (apart_if (outcome d l c) c (after d l c).answer []) first-kept)

pub space : Space
space = record { kept-up = λ s c r e cs. (from_start s c r e cs).kept-up; counted = λ s c r e cs. (from_start s c r e cs).counted }
