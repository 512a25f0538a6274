-- What a host wants of a closed disc: it stays as it was, it mounts clean, what was saved is read back, and what may record is turned away.
--     closing-clean, closing-reads   whatever was tried since
--     is-refused                     17, or one of 1 to 5
-- Assumes nothing.
use Prim.Native.Nat.{ℕ, zero, suc, ◌*◌, ◌<◌}
use native.Mathlib.Omega.{arith}
use mathlib.Core.Path.{◌≡◌, refl, sym, ap, ◌∙◌, subst, subst₂}
use mathlib.Core.Bool.{Bool, true, false, ◌||◌, not, or-true}
use mathlib.Core.List.{List, [], ◌∷◌, ◌++◌}
use mathlib.Core.Logic.{inl, inr}
use Rattle.std.specs.Prelude.{Option, Some}
use lib.Dec.{eqb}
use lib.ListN.{length, get_or}
use Rattle.vat.specs.Table.{sector_length}
use Rattle.extent.specs.declared.Extent.{Extent}
use Rattle.disc.specs.Disc.{Disc, lent, sized}
use Rattle.disc.specs.Session.{session_closed}
use Rattle.volume.specs.Volume.{ledger_length}
use Rattle.recorder.specs.Calls.{Call, mount, write, close_session, buffer_of, restores, may_record}
use Rattle.recorder.specs.Refusals.{Test, test, first, tests, outcome}
use Rattle.recorder.specs.Effects.{After, after}
use Rattle.roles.specs.Keeping.{roles_tests, outcome_roles, AfterRoles, left_roles, after_roles}
use Rattle.history.specs.History.{unused_entry, Snapshot, History}
use Rattle.history.specs.Events.{Event, AllAllowed, runs, remembers, after_call}
use Rattle.history.specs.Claim.{DoneShowing}
use Rattle.history.specs.Closed.{ClosedShowing, Closes, TurnedAway}
use Rattle.history.proofs.Log.{some_same}
use Rattle.history.proofs.Closed.{closed-discs}
use Rattle.space.specs.Called.{as_events}
use Rattle.client.specs.Day.{Day, ended, day, AllDone, opening, left_by, world, ClosedAnswer}
use Rattle.client.proofs.Days.{joined, part-done, did, done_first, called-done, first_done, rest-done, last_done, Fit, without-roles}
use Rattle.client.proofs.Claimed.{history, start_history, opened, remembered}
use Rattle.client.proofs.Shown.{Reads, mount-reads}
use Rattle.client.proofs.Saves.{first_page, first-there}
use Rattle.client.proofs.Since.{Went, went}

start-closes : (fresh : Bool) (d : Disc) (l : List ℕ) → outcome d l (opening fresh) ≡ 0 → (es : List Event) → AllAllowed (after_call d l (opening fresh)) es
    → Closes (runs (after_call d l (opening fresh)) es) (remembers (after_call d l (opening fresh)) (start_history fresh d) es)
start-closes true d l e = closed-discs.after-begin d l e
start-closes false d l e = closed-discs.after-mount d l e

module _ (x : Day) (fresh : Bool) (ok : x.answer < 4294967296) (before : List Call) (main reserve : Extent) (n : ℕ) (a : AllDone x (opening fresh ∷ (before ++ (close_session main reserve n ∷ [])))) where
  abbrev closing : Call
  closing = close_session main reserve n

  -- the disc that the day left is closed, and shows the draft that was there before the closing
  pub left-closed : (p : Snapshot) × ((remembered x fresh before).draft ≡ Some p) × ClosedShowing (day x (opening fresh ∷ (before ++ (closing ∷ [])))).disc p
  left-closed =
      let o : Day = opened x fresh in
      let h : History = start_history fresh x.disc in
      let e : outcome x.disc x.ledger (opening fresh) ≡ 0 = done_first x (opening fresh) (before ++ (closing ∷ [])) ok a in
      let o-done : o.answer < 4294967296 = called-done x (opening fresh) (before ++ (closing ∷ [])) ok a in
      let rest : AllDone o (before ++ (closing ∷ [])) = rest-done x (opening fresh) (before ++ (closing ∷ [])) ok a in
      let b-done : AllDone o before = part-done before (closing ∷ []) o rest in
      let y : Day = day o before in
      let there : Went o h before = went before o h o-done b-done in
      let closes : Closes (world y) (history o h before) = subst₂ Closes there.ended there.recalled (start-closes fresh x.disc x.ledger e (as_events before) there.allowed) in
      let is-done : outcome y.disc y.ledger closing ≡ 0 = done_first y closing [] b-done (subst (λ (z : Day). z.answer < 4294967296) (joined before (closing ∷ []) o) rest) in
      let same : day x (opening fresh ∷ (before ++ (closing ∷ []))) ≡ did y closing = first_done x (opening fresh) (before ++ (closing ∷ [])) ok a ∙ last_done o before closing rest in
      let left = closes y.ledger refl main reserve n is-done in
      (left.0, left.1, subst (λ (z : Day). ClosedShowing z.disc left.0) (sym same) left.2)

  -- and it mounts clean, whatever is tried on it
  pub closing-clean : (held : Option (List ℕ)) (tried : List Event) (i k o l : List ℕ) → lent i k ≡ left_by (day x (opening fresh ∷ (before ++ (closing ∷ [])))).disc held tried
      → length o ≡ length k → length l ≡ ledger_length → {r : ℕ} {o' l' b : List ℕ} → left_roles r i k o' l' b ≡ after_roles (lent i k) o l mount → r ≡ 1
  closing-clean held tried i k o l same fit long e =
      let d : Disc = (day x (opening fresh ∷ (before ++ (closing ∷ [])))).disc in
      let unchanged : left_by d held tried ≡ d = closed-discs.unchanged (record { disc = d; ledger = held }) left-closed.2.is-closed tried in
      ap (λ (y : After). y.answer) (without-roles (lent i k) o l mount fit e)
      ∙ ap (λ (z : Disc). (after z l mount).answer) (same ∙ unchanged)
      ∙ left-closed.2.clean l long

-- whatever is tried leaves it
pub closing-reads : (x : Day) (fresh : Bool) → x.answer < 4294967296 → (v : ℕ) (block : List ℕ) (main reserve : Extent) (n : ℕ)
    → AllDone x (opening fresh ∷ write (Some v) block ∷ close_session main reserve n ∷ []) → (held : Option (List ℕ)) (tried : List Event) (y : Day) (out : List ℕ) → y.answer < 4294967296 → Fit y
    → y.disc ≡ left_by (day x (opening fresh ∷ write (Some v) block ∷ close_session main reserve n ∷ [])).disc held tried → length y.ledger ≡ ledger_length → length out ≡ sector_length
    → Reads y mount v out 0 block
closing-reads x fresh ok v block main reserve n a held tried y out y-ok fit same long whole =
    let d : Disc = (day x (opening fresh ∷ write (Some v) block ∷ close_session main reserve n ∷ [])).disc in
    let left = left-closed x fresh ok (write (Some v) block ∷ []) main reserve n a in
    let unchanged : left_by d held tried ≡ d = closed-discs.unchanged (record { disc = d; ledger = held }) left.2.is-closed tried in
    let page : left.0 ≡ first_page x fresh v block = some_same left.0 (first_page x fresh v block) (sym left.1) in
    let shown : DoneShowing y.disc y.ledger mount left.0 = subst (λ (z : Disc). DoneShowing z y.ledger mount left.0) (sym (same ∙ unchanged)) (left.2.mounts y.ledger long) in
    mount-reads y y-ok fit v out whole shown (ap (λ (p : Snapshot). get_or p v unused_entry) page ∙ first-there x fresh ok v block (close_session main reserve n ∷ []) a)

-- ---- a call that is turned away

-- 1 and 2 before the tests of the call
away-first : (a b : Bool) (ts : List Test) → TurnedAway (first ts) → TurnedAway (first (test 1 a ∷ test 2 b ∷ ts))
unfolding first
away-first true b ts t = inr (omega arith, omega arith)
away-first false true ts t = inr (omega arith, omega arith)
away-first false false ts t = t

module _ (d : Disc) (roles l : List ℕ) (c : Call) where
  roles-away : may_record c ≡ true → TurnedAway (outcome d l c) → TurnedAway (outcome_roles d roles l c)
  unfolding outcome outcome_roles
  roles-away m t =
      subst (λ (lent : Bool). TurnedAway (first (roles_tests lent d roles ++ tests d l c))) (sym (ap (λ (t : Bool). restores c || t) m ∙ or-true (restores c)))
      (away-first (not (sized d)) (not (eqb (length roles) (length d.kinds))) (tests d l c) t)

  refused-whole : (n : ℕ) → outcome_roles d roles l c ≡ n → TurnedAway n → after_roles d roles l c ≡ left_roles (n * 4294967296) d.image d.kinds roles l (buffer_of c)
  unfolding after_roles
  refused-whole zero e (inl z) = absurd (omega arith)
  refused-whole zero e (inr z) = absurd (omega (arith, z.0))
  refused-whole (suc n) e t = rw e

-- whichever call 17 turns away
pub is-refused : (i k o l : List ℕ) (c : Call) → may_record c ≡ true → {r : ℕ} {i' k' o' l' b : List ℕ} → left_roles r i' k' o' l' b ≡ after_roles (lent i k) o l c → session_closed (lent i k) ≡ true
    → ClosedAnswer r × (ended r i' k' o' l' ≡ ended r i k o l)
is-refused i k o l c m {r} {i'} {k'} {o'} {l'} {b} e closed =
    let n : ℕ = outcome_roles (lent i k) o l c in
    let away : TurnedAway n = roles-away (lent i k) o l c m (closed-discs.turned-away (lent i k) closed l c m) in
    let all : left_roles r i' k' o' l' b ≡ left_roles (n * 4294967296) i k o l (buffer_of c) = e ∙ refused-whole (lent i k) o l c n refl away in
    ((n, away, ap (λ (x : AfterRoles). x.call.answer) all), ap {B = Day} (λ (x : AfterRoles). record { answer = r; disc = x.call.disc; roles = x.roles; ledger = x.call.ledger }) all)
