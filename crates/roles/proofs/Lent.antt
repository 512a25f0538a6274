-- What being lent the roles changes of a call: one more length is tested, and the roles are kept up.
--     fit_same              as many roles as kinds: the outcome is that of the call alone
--     done-fit, done-same   so of a call that is done
--     read_same, time-same  and of those that are not lent them
--     kept-fit              they stay as many as the kinds
-- Assumes nothing.
use Prim.Native.Nat.{ℕ, zero, suc, ◌+◌, ◌≤◌}
use native.Mathlib.Omega.{arith}
use mathlib.Core.Path.{◌≡◌, refl, sym, ap, ◌∙◌, subst}
use mathlib.Core.Bool.{Bool, true, false, ◌&&◌, ◌||◌, not}
use mathlib.Core.List.{List, [], ◌∷◌, ◌++◌}
use lib.Dec.{eqb}
use lib.ListN.{length, get_or, replicate, length-set, length-append, length-replicate}
use borrow.Author.Tests.{eqb-true, eq-eqb}
use Rattle.vat.specs.Sector.{no_stamp}
use Rattle.disc.specs.Disc.{Disc, Sector, link, plain, torn, sized, recorded, puts}
use Rattle.disc.proofs.Recording.{length-stored, leading_le}
use Rattle.volume.specs.Volume.{unpack, map_of}
use Rattle.recorder.specs.Calls.{Call, begin, mount, write, release, close_packet, commit, close_session, read, look_back, time_of, stamp_of, buffer_of, restores, may_record}
use Rattle.recorder.specs.Refusals.{Test, test, first, links, block_of, tests, outcome}
use Rattle.recorder.specs.Effects.{closing_first, effect, settled, after}
use Rattle.recorder.proofs.Done.{write_done, save_of, SaveDone, commit-done, closing-done}
use Rattle.roles.specs.Roles.{in_use, superseded, unnumbered, table_role, link_role, blank_role, names}
use Rattle.roles.specs.Keeping.{supersede_if, let_go, marked, marked_save, written_role, named_before, scanned, kept_up, roles_tests, outcome_roles, AfterRoles, roles_if, after_roles}
use Rattle.roles.proofs.Roles.{length-tabulate}

-- ---- the tests

-- 1 is tested twice, and once is enough
twice : (a t : Bool) (ts : List Test) → t ≡ true → first (test 1 a ∷ test 2 (not t) ∷ test 1 a ∷ ts) ≡ first (test 1 a ∷ ts)
unfolding first
twice true t ts e = refl
twice false t ts e = rw e

-- the length, where neither 1 nor 2 applies
passed-fit : (a t : Bool) (ts : List Test) → first (test 1 a ∷ test 2 (not t) ∷ ts) ≡ 0 → t ≡ true
unfolding first
passed-fit true t ts e = absurd (omega arith)
passed-fit false true ts e = refl
passed-fit false false ts e = absurd (omega arith)

module _ (d : Disc) (roles l : List ℕ) where
  abbrev fit : Bool
  fit = eqb (length roles) (length d.kinds)

  pub fit_same : (c : Call) → length roles ≡ length d.kinds → outcome_roles d roles l c ≡ outcome d l c
  unfolding outcome_roles outcome tests
  fit_same begin h = twice (not (sized d)) fit _ (eq-eqb (length roles) (length d.kinds) h)
  fit_same mount h = twice (not (sized d)) fit _ (eq-eqb (length roles) (length d.kinds) h)
  fit_same (write n block) h = twice (not (sized d)) fit _ (eq-eqb (length roles) (length d.kinds) h)
  fit_same (release n) h = twice (not (sized d)) fit _ (eq-eqb (length roles) (length d.kinds) h)
  fit_same close_packet h = twice (not (sized d)) fit _ (eq-eqb (length roles) (length d.kinds) h)
  fit_same (commit stamp) h = twice (not (sized d)) fit _ (eq-eqb (length roles) (length d.kinds) h)
  fit_same (close_session main reserve start) h = twice (not (sized d)) fit _ (eq-eqb (length roles) (length d.kinds) h)
  fit_same (read n block) h = refl
  fit_same (look_back k) h = twice (not (sized d)) fit _ (eq-eqb (length roles) (length d.kinds) h)
  fit_same (time_of k answer) h = refl

  module _ (c : Call) where
    pub done-fit : (restores c || may_record c) ≡ true → outcome_roles d roles l c ≡ 0 → length roles ≡ length d.kinds
    unfolding outcome_roles
    done-fit lent e =
        eqb-true (length roles) (length d.kinds)
        (passed-fit (not (sized d)) fit (tests d l c) (subst (λ (t : Bool). first (roles_tests t d roles ++ tests d l c) ≡ 0) lent e))

    pub done-same : outcome_roles d roles l c ≡ 0 → outcome_roles d roles l c ≡ outcome d l c
    unfolding outcome_roles outcome
    done-same e = go (restores c || may_record c) refl
      where
        go : (t : Bool) → (restores c || may_record c) ≡ t → outcome_roles d roles l c ≡ outcome d l c
        go true lent = fit_same c (done-fit lent e)
        go false lent = ap (λ (t : Bool). first (roles_tests t d roles ++ tests d l c)) lent

    -- then the call leaves what it leaves without roles
    pub all_same : outcome_roles d roles l c ≡ outcome d l c → after_roles d roles l c ≡ record { call = after d l c; roles = roles_if (outcome d l c) roles (kept_up d roles l c) }
    unfolding after_roles after
    all_same e = ap {B = AfterRoles} (λ (n : ℕ). record { call = settled d l (buffer_of c) n (effect d l c); roles = roles_if n roles (kept_up d roles l c) }) e

    pub call_same : outcome_roles d roles l c ≡ outcome d l c → (after_roles d roles l c).call ≡ after d l c
    call_same e = ap (λ (x : AfterRoles). x.call) (all_same e)

  -- ---- a read and a question for a time

  left_alone : (n : ℕ) → roles_if n roles roles ≡ roles
  left_alone zero = refl
  left_alone (suc n) = refl

  pub read_same : (n : ℕ) (block : List ℕ) → after_roles d roles l (read n block) ≡ record { call = after d l (read n block); roles = roles }
  unfolding after_roles after outcome_roles outcome kept_up
  read_same n block = ap {B = AfterRoles} (λ (rs : List ℕ). record { call = after d l (read n block); roles = rs }) (left_alone (outcome d l (read n block)))

  pub time-same : (k : ℕ) (answer : List ℕ) → after_roles d roles l (time_of k answer) ≡ record { call = after d l (time_of k answer); roles = roles }
  unfolding after_roles after outcome_roles outcome kept_up
  time-same k answer = ap {B = AfterRoles} (λ (rs : List ℕ). record { call = after d l (time_of k answer); roles = rs }) (left_alone (outcome d l (time_of k answer)))

-- ---- the length of roles that are kept up

length-let-go : (l : List ℕ) (b : ℕ) (roles : List ℕ) → length (let_go l b roles) ≡ length roles
unfolding let_go
length-let-go l b roles = go (eqb (get_or roles b blank_role) in_use && not (names (map_of (unpack l)) b))
  where
    go : (t : Bool) → length (supersede_if t b roles) ≡ length roles
    go true = length-set roles b superseded
    go false = refl

length_marked : (at links between count role : ℕ) (roles : List ℕ) → at + (links + (between + count)) ≤ length roles
    → length (marked at links between count role roles) ≡ length roles
unfolding marked
length_marked at links between count role roles room =
    let marks : List ℕ = replicate links link_role ++ (replicate between unnumbered ++ replicate count role) in
    let n : length marks ≡ links + (between + count) =
    length-append (replicate links link_role) (replicate between unnumbered ++ replicate count role)
    ∙ rw (length-replicate links link_role, length-append (replicate between unnumbered) (replicate count role), length-replicate between unnumbered, length-replicate count role) refl in
    length-stored roles at marks (omega (arith, n))

length-put : (ss : List Sector) (d : Disc) (b : ℕ) → length (puts d b ss).kinds ≡ length d.kinds
unfolding puts
length-put [] d b = refl
length-put (link ∷ ss) d b = length-put ss _ (b + 1) ∙ length-set d.kinds b 2
length-put (plain s ∷ ss) d b = length-put ss _ (b + 1) ∙ length-set d.kinds b 1
length-put (torn s ∷ ss) d b = length-put ss _ (b + 1) ∙ length-set d.kinds b 3

length-after : (d : Disc) (l : List ℕ) (c : Call) → length (after d l c).disc.kinds ≡ length d.kinds
unfolding after
length-after d l c = go (outcome d l c)
  where
    go : (n : ℕ) → length (settled d l (buffer_of c) n (effect d l c)).disc.kinds ≡ length d.kinds
    go zero = length-put (effect d l c).sectors d (recorded d)
    go (suc n) = refl

module _ (d : Disc) (roles l : List ℕ) (h : length roles ≡ length d.kinds) where
  save-length : (first : List Sector) (stamp : List ℕ) → SaveDone d l first stamp → length (marked_save d (unpack l) first stamp roles) ≡ length d.kinds
  save-length first stamp f =
      length_marked (recorded d) (links (unpack l)) (length first) (length (save_of d l first stamp)) table_role roles (omega (arith, f.room, leading_le d.kinds, h)) ∙ h

  length-kept : (c : Call) → outcome d l c ≡ 0 → length (kept_up d roles l c) ≡ length d.kinds
  unfolding kept_up scanned
  length-kept begin e = length-tabulate _ (length (after d l begin).disc.kinds) ∙ length-after d l begin
  length-kept mount e = length-tabulate _ (length (after d l mount).disc.kinds) ∙ length-after d l mount
  length-kept (write n block) e =
      length-let-go (after d l (write n block)).ledger (named_before (unpack l) n) (marked (recorded d) (links (unpack l)) 0 1 (written_role n) roles)
      ∙ length_marked (recorded d) (links (unpack l)) 0 1 (written_role n) roles (omega (arith, (write_done d l n block e).room, leading_le d.kinds, h)) ∙ h
  length-kept (release n) e = length-let-go (after d l (release n)).ledger (block_of (unpack l) n) roles ∙ h
  length-kept close_packet e = h
  length-kept (commit stamp) e = save-length [] (stamp_of stamp) (commit-done d l stamp e).saving
  length-kept (close_session main reserve start) e = save-length (closing_first d (unpack l) main reserve start) no_stamp (closing-done d l main reserve start e).saving
  length-kept (read n block) e = h
  length-kept (look_back k) e = length-tabulate _ (length (after d l (look_back k)).disc.kinds) ∙ length-after d l (look_back k)
  length-kept (time_of k answer) e = h

  -- done or refused
  pub kept-fit : (c : Call) → length (after_roles d roles l c).roles ≡ length (after d l c).disc.kinds
  unfolding after_roles
  kept-fit c = ap (λ (n : ℕ). length (roles_if n roles (kept_up d roles l c))) (fit_same d roles l c h) ∙ go (outcome d l c) refl ∙ sym (length-after d l c)
    where
      go : (n : ℕ) → outcome d l c ≡ n → length (roles_if n roles (kept_up d roles l c)) ≡ length d.kinds
      go zero e = length-kept c e
      go (suc n) e = h
