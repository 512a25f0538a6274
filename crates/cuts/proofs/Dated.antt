-- Saves with a time and without, worked out and drawn from the claim about the times of saves (`save-times`): what is told of each, as literal answers.
--     shown-first, shown-plain, shown-cut   the events are allowed and make their saves, also the commit that is cut behind its table, and a time is
--                                           asked for while no state is at hand
--     told-two-back, told-one-back, told-of-the-cut   what is then told, lent any 16,364 bytes and any 8
-- Assumes nothing.
use Prim.Native.Nat.{ℕ, suc, ◌+◌, ◌*◌}
use mathlib.Core.Bool.{Bool, ◌&&◌}
use mathlib.Core.List.{List, [], ◌∷◌, ◌++◌}
use Rattle.std.specs.Prelude.{None, Some}
use mathlib.Core.Path.{◌≡◌, sym, ap, ◌∙◌}
use lib.Dec.{T, eqb, eqb→eq}
use lib.ListN.{length}
use Rattle.le.specs.Field.{le}
use Rattle.disc.specs.Disc.{Disc}
use Rattle.recorder.specs.Calls.{begin, mount, write, commit, time_of}
use Rattle.recorder.specs.Effects.{after}
use Rattle.history.specs.History.{History, feed}
use Rattle.history.specs.Events.{World, Event, calls, cuts, AllAllowed, cut_disc, next, fed, runs, remembers, begun_history}
use Rattle.history.specs.Times.{TellsTime, call_of, saved_stamp}
use Rattle.history.proofs.Times.{save-times}
use Rattle.bench.proofs.States.{both}
use Rattle.bench.proofs.Starred.{opened, blank, block, full, stamp, answer}
use Rattle.cuts.proofs.Worked.{Played, So, played, allowed-before, more-so, played-from, from-started, from-so}
use Rattle.cuts.proofs.Lists.{start}

-- ---- the test

-- Events, then one that makes a save, the one that m saves came before, then events that make k saves more.
unfoldable pub dated-works : ℕ → List Event → Event → List Event → ℕ → ℕ → Bool
unfolding opened cut_disc feed played played-from
dated-works n es e later m k =
    let p : Played = played-from (blank n) begin begun_history es in
    let q : Played = played p.allowed p.disc p.kept p.past (e ∷ []) in
    let r : Played = played q.allowed q.disc q.kept q.past later in
    r.allowed && (eqb (length p.past.pages) m && (eqb (length q.past.pages) (suc m) && eqb (length r.past.pages) (k + suc m)))

module _ (n : ℕ) (es : List Event) (e : Event) (later : List Event) (m k : ℕ) (t : T (dated-works n es e later m k)) where
  abbrev p : Played
  p = played-from (blank n) begin begun_history es

  abbrev q : Played
  q = played p.allowed p.disc p.kept p.past (e ∷ [])

  abbrev r : Played
  r = played q.allowed q.disc q.kept q.past later

  parts : T r.allowed × (T (eqb (length p.past.pages) m) × (T (eqb (length q.past.pages) (suc m)) × T (eqb (length r.past.pages) (k + suc m))))
  unfolding dated-works
  parts =
      let two : Bool = eqb (length q.past.pages) (suc m) && eqb (length r.past.pages) (k + suc m) in
      let a = both r.allowed (eqb (length p.past.pages) m && two) t in
      let b = both (eqb (length p.past.pages) m) two a.1 in
      (a.0, (b.0, both (eqb (length q.past.pages) (suc m)) (eqb (length r.past.pages) (k + suc m)) b.1))

  -- the world and the history before the save
  abbrev w : World
  w = runs (start n) es

  abbrev h : History
  h = remembers (start n) begun_history es

  q-allowed : T q.allowed
  q-allowed = allowed-before later q.allowed q.disc q.kept q.past parts.0

  p-allowed : T p.allowed
  p-allowed = allowed-before (e ∷ []) p.allowed p.disc p.kept p.past q-allowed

  before : So (start n) begun_history es p
  before = from-so (blank n) begin begun_history es p-allowed

  here : So w h (e ∷ []) q
  here = more-so (start n) begun_history es p before (e ∷ []) q-allowed

  behind : So (next w e) (feed h (fed w e)) later r
  unfolding runs remembers
  behind = more-so w h (e ∷ []) q here later parts.0

  page-count : length h.pages ≡ m
  page-count = ap (λ (x : History). length x.pages) before.past ∙ eqb→eq (length p.past.pages) m parts.1.0

  fed-count : length (feed h (fed w e)).pages ≡ suc m
  unfolding remembers
  fed-count = ap (λ (x : History). length x.pages) here.past ∙ eqb→eq (length q.past.pages) (suc m) parts.1.1.0

  counted : length (remembers (next w e) (feed h (fed w e)) later).pages ≡ k + length (feed h (fed w e)).pages
  counted =
      ap (λ (x : History). length x.pages) behind.past ∙ eqb→eq (length r.past.pages) (k + suc m) parts.1.1.1 ∙ ap (λ (i : ℕ). k + i) (sym fed-count)

  pub drawn-time : TellsTime (runs (next (runs (start n) es) e) later).disc k (saved_stamp (call_of e))
  unfolding AllAllowed
  drawn-time =
      save-times.after-begin (blank n) full (from-started (blank n) begin begun_history es p-allowed) es before.allowed e here.allowed.0
      (fed-count ∙ ap suc (sym page-count)) later behind.allowed k counted

-- ---- the list

-- a save of 00:30 on 1 January 1970 with zone 60, a save without a time, and one with no zone given that is cut behind its table; then a time is asked for
unfoldable pub first-save : Event
first-save = calls (commit (Some (stamp 60 1970 1 1 0 30))) []

unfoldable pub plain-save : Event
plain-save = calls (commit None) []

unfoldable pub cut-save : Event
cut-save = cuts (commit (Some (stamp 2049 1970 1 1 0 30))) [] 1 None

unfoldable pub written : ℕ → Event
written x = calls (write (Some 0) (block x)) []

unfoldable pub asks : List Event
asks = calls (time_of 0 answer) full ∷ calls mount full ∷ []

unfoldable pub dated : List Event
dated = written 1 ∷ first-save ∷ written 2 ∷ plain-save ∷ cut-save ∷ asks

shown-first : T (dated-works 19 (written 1 ∷ []) first-save (written 2 ∷ plain-save ∷ cut-save ∷ asks) 0 2)
unfolding dated-works written first-save plain-save cut-save asks
shown-first = tt

shown-plain : T (dated-works 19 (written 1 ∷ first-save ∷ written 2 ∷ []) plain-save (cut-save ∷ asks) 1 1)
unfolding dated-works written first-save plain-save cut-save asks
shown-plain = tt

shown-cut : T (dated-works 19 (written 1 ∷ first-save ∷ written 2 ∷ plain-save ∷ []) cut-save asks 2 0)
unfolding dated-works written first-save plain-save cut-save asks
shown-cut = tt

-- ---- what is told, two saves back, one, and none

module _ (l lent : List ℕ) (ledger-lent : length l ≡ 16364) (answer-lent : length lent ≡ 8) where
  abbrev left : Disc
  left = (runs (start 19) dated).disc

  pub told-two-back : after left l (time_of 2 lent) ≡ record { answer = 0; disc = left; ledger = l; buffer = le 4 0xFFFFFFE2 ++ le 4 0 }
  unfolding opened runs dated first-save
  told-two-back = drawn-time 19 (written 1 ∷ []) first-save (written 2 ∷ plain-save ∷ cut-save ∷ asks) 0 2 shown-first l lent ledger-lent answer-lent

  pub told-one-back : after left l (time_of 1 lent) ≡ record { answer = 16 * 4294967296; disc = left; ledger = l; buffer = lent }
  unfolding opened runs dated plain-save
  told-one-back = drawn-time 19 (written 1 ∷ first-save ∷ written 2 ∷ []) plain-save (cut-save ∷ asks) 1 1 shown-plain l lent ledger-lent answer-lent

  pub told-of-the-cut : after left l (time_of 0 lent) ≡ record { answer = 0; disc = left; ledger = l; buffer = le 4 30 ++ le 4 1 }
  unfolding opened runs dated cut-save
  told-of-the-cut = drawn-time 19 (written 1 ∷ first-save ∷ written 2 ∷ plain-save ∷ []) cut-save asks 2 0 shown-cut l lent ledger-lent answer-lent
