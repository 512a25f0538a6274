-- What a host's promises ask for can hold: days on which every call is done, worked out by the checker, and behind such a day a cut, a program that was
-- stopped, and roles that were left; and by laws a day that ends in a closing.
-- Assumes nothing.
use Prim.Native.Nat.{ℕ, ◌+◌, ◌*◌, ◌≤◌, ◌<◌}
use native.Mathlib.Omega.{arith}
use mathlib.Core.Bool.{Bool, true, false}
use mathlib.Core.List.{List, [], ◌∷◌, ◌++◌}
use Rattle.std.specs.Prelude.{None, Some}
use mathlib.Core.Path.{◌≡◌, refl, sym, ◌∙◌, subst}
use lib.Dec.{T, eqb, ltb, eqb→eq, ltb→lt}
use lib.ListN.{length, replicate, length-replicate}
use Rattle.vat.specs.Table.{sector_length}
use Rattle.extent.specs.declared.Extent.{Extent}
use Rattle.extent.specs.Extents.{total_length, descriptors}
use Rattle.anchor.specs.Anchor.{farthest_start}
use Rattle.disc.specs.Disc.{Disc, lent, most_sectors, recorded, puts}
use Rattle.disc.specs.Session.{closing_length}
use Rattle.volume.specs.Volume.{ledger_length}
use Rattle.recorder.specs.Calls.{Call, begin, write, release, close_packet, commit, close_session}
use Rattle.recorder.specs.Effects.{after}
use Rattle.recorder.proofs.Answers.{done-small}
use Rattle.roles.specs.Keeping.{outcome_roles}
use Rattle.run.specs.Entry.{total_sectors, file_rows, entry}
use Rattle.space.specs.Space.{Lent, leaves_all}
use Rattle.bench.proofs.Starred.{opened, blank, block, full, stamp}
use Rattle.space.proofs.Worked.{roles-opened}
use Rattle.client.specs.Day.{Day, day, AllDone, opening, CutBehind, StoppedStoring, StoppedMarking, storing}
use Rattle.client.specs.Account.{RolesLeft}
use Rattle.client.proofs.Days.{part-done, did, Fit, first-fit, next-fit}
use Rattle.history.proofs.Closed.{closed-discs}

-- ---- days

abbrev pub fresh : ℕ → Day
fresh n = record { answer = 0; disc = blank n; roles = replicate n 6; ledger = full }

-- a save, a second one behind links, and a third in which the number is released
abbrev pub save : List Call
save = opening true ∷ write (Some 0) (block 1) ∷ commit None ∷ []

abbrev pub save-again : List Call
save-again = write (Some 0) (block 2) ∷ close_packet ∷ commit None ∷ []

abbrev pub save-released : List Call
save-released = opening false ∷ release 0 ∷ commit None ∷ []

-- a save with a time, and a run of two blocks
abbrev pub save-at : List Call
save-at = opening true ∷ write (Some 0) (block 1) ∷ commit (Some (stamp 60 1970 1 1 0 30)) ∷ []

abbrev pub stored : List Call
stored = storing (fresh 20) true 0 (block 1) (block 2 ∷ []) 2051

unfoldable pub all_done : Day → List Call → Bool
all_done x cs = ltb (day x cs).answer 4294967296

unfoldable days-opened : Unit {0}
unfolding roles-opened total_length descriptors total_sectors file_rows entry day all_done
days-opened = tt

thrice : T (all_done (fresh 39) (save ++ (save-again ++ save-released)))
unfolding days-opened
thrice = tt

pub saved-thrice : AllDone (fresh 39) (save ++ (save-again ++ save-released))
unfolding all_done
saved-thrice = ltb→lt (day (fresh 39) (save ++ (save-again ++ save-released))).answer 4294967296 thrice

timed : T (all_done (fresh 18) save-at)
unfolding days-opened
timed = tt

pub saved-at : AllDone (fresh 18) save-at
unfolding all_done
saved-at = ltb→lt (day (fresh 18) save-at).answer 4294967296 timed

storing-done : T (all_done (fresh 20) stored)
unfolding days-opened
storing-done = tt

pub run-stored : AllDone (fresh 20) stored
unfolding all_done
run-stored = ltb→lt (day (fresh 20) stored).answer 4294967296 storing-done

-- the earlier parts of the first day
pub saved-twice : AllDone (fresh 39) (save ++ save-again)
saved-twice = part-done (save ++ save-again) save-released (fresh 39) saved-thrice

pub saved-once : AllDone (fresh 39) (save ++ (write (Some 0) (block 2) ∷ []))
saved-once = part-done (save ++ (write (Some 0) (block 2) ∷ [])) (close_packet ∷ commit None ∷ []) (fresh 39) saved-twice

-- ---- behind any calls that are done

module _ (x : Day) (cs : List Call) (done : AllDone x cs) (c : Call) where
  abbrev d : Disc
  d = (day x cs).disc

  -- the call is cut before its first sector, which stays blank
  pub cut-at-once : (left : Disc) × CutBehind x cs c 0 None left
  cut-at-once = (_, record { all_done = done; within = omega arith; one-sector = tt; is-left = refl })

  -- the program is stopped before it stores, and after it stored all
  pub stopped-storing : StoppedStoring x cs d
  stopped-storing = record { all_done = done; same-kinds = refl; same_length = refl; same-recorded = refl }

  pub stopped-marking : (left : Disc) × StoppedMarking x cs c 0 left
  stopped-marking =
      (record { image = (after d (day x cs).ledger c).disc.image; kinds = (puts d (recorded d) []).kinds }, record { all_done = done; within = omega arith; all-stored = refl; some-marked = refl })

-- ---- roles

abbrev two-sectors : Lent
two-sectors = record { disc = blank 2; roles = replicate 2 9; ledger = full }

begun : T (eqb (outcome_roles (blank 2) (replicate 2 9) full begin) 0)
unfolding opened outcome_roles
begun = tt

pub roles-left : RolesLeft two-sectors begin [] (leaves_all two-sectors (begin ∷ [])).roles
roles-left = record { restoring = refl; is-done = eqb→eq (outcome_roles (blank 2) (replicate 2 9) full begin) 0 begun; all_left = refl }

-- ---- a closed session

-- by the claim that a closing can be done, on every blank disc with room for it
pub closed-day : (image roles l : List ℕ) (n : ℕ) → closing_length < n → n ≤ most_sectors → length image ≡ sector_length * n → length roles ≡ n → length l ≡ ledger_length
    → (main reserve : Extent) (start : ℕ) → start ≤ farthest_start
    → AllDone (record { answer = 0; disc = lent image (replicate n 0); roles = roles; ledger = l }) (opening true ∷ close_session main reserve start ∷ [])
unfolding day
closed-day image roles l n enough few whole fit long main reserve start near =
    let x : Day = record { answer = 0; disc = lent image (replicate n 0); roles = roles; ledger = l } in
    let c : Call = close_session main reserve start in
    let can = closed-discs.on-blank image l n enough few whole long in
    let x-fit : Fit x = fit ∙ sym (length-replicate {A = ℕ} n 0) in
    let o : Day = did x begin in
    let o-done : o.answer < 4294967296 = done-small x.disc l begin can.0 in
    let same : day x (begin ∷ c ∷ []) ≡ did o c = first-fit x begin (c ∷ []) (omega arith) x-fit ∙ first-fit o c [] o-done (next-fit x begin x-fit) in
    subst (λ (y : Day). y.answer < 4294967296) (sym same) (done-small o.disc o.ledger c (can.1 main reserve start near))
