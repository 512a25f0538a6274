-- Calls on the state that a ledger holds: worked out without packing 16,364 bytes behind each call and unpacking them before the next, and that this is what the
-- calls leave.
--     step, Left, stepped   one call, what it leaves, and that it does
-- Assumes nothing.
use Prim.Native.Nat.{ℕ, zero, suc, ◌+◌, ◌*◌}
use mathlib.Core.Bool.{Bool, true, false, not, ◌&&◌}
use mathlib.Core.List.{List, [], ◌∷◌, ◌++◌}
use Rattle.std.specs.Prelude.{Option, None, Some}
use mathlib.Core.Path.{◌≡◌, refl, sym, ap, subst, subst₂}
use lib.Dec.{T, eqb, ltb, eqb→eq, ltb→lt}
use lib.ListN.{length, replicate}
use borrow.Author.Tests.{eq-eqb}
use Rattle.le.specs.Bytes.{every}
use Rattle.le.proofs.Runs.{Words}
use Rattle.timestamp.specs.Timestamp.{told_length, told}
use Rattle.vat.specs.Table.{sector_length}
use Rattle.disc.specs.Disc.{Disc, recorded, kind_at, sector_at, Sector, link, plain, puts}
use Rattle.disc.specs.Tables.{newest, block_found}
use Rattle.disc.specs.Session.{session_closed}
use Rattle.volume.specs.declared.Volume.{Volume}
use Rattle.volume.specs.Volume.{places, ledger_length, idle, read_only, unpack, pack, fits, begun, wrote, released, closed, committed}
use Rattle.volume.proofs.State.{Proper, length-pack, unpack-pack}
use Rattle.recorder.specs.Calls.{Call, begin, mount, write, release, close_packet, commit, close_session, read, look_back, time_of, stamp_of, stamp_buffer, buffer_of}
use Rattle.recorder.specs.Refusals.{Test, test, first, links, target, basic, ledger_lent, stamp_long, write_tests, commit_tests, closing_tests, block_of, not_in_use, is_some, walked, walk_tests, time_back, time_wrong, tests, outcome}
use Rattle.recorder.specs.Effects.{Effect, shown_at, commits, closes, block_reached, clean_number, effect, After, settled, after, if_done, sectors_if, second_number, sectors_of}

-- ---- a call, of the state

-- What it is asked, where the ledger that is lent has the right length, or not, and holds this state.
abbrev gate_of : Disc → Volume → List Test
gate_of d v = test 4 (not (fits d v)) ∷ test 5 (eqb v.mode read_only) ∷ test 17 (session_closed d) ∷ []

unfoldable pub tests_of : Disc → Bool → Volume → Call → List Test
tests_of d long v begin = basic d long ++ (test 6 (is_some (newest d)) ∷ [])
tests_of d long v mount = basic d long ++ (test 7 (not (is_some (newest d))) ∷ [])
tests_of d long v (write n block) = basic d (long && eqb (length block) sector_length) ++ (gate_of d v ++ write_tests d v n block)
tests_of d long v (release n) = basic d long ++ (gate_of d v ++ (test 10 (not_in_use v n) ∷ []))
tests_of d long v close_packet = basic d long ++ gate_of d v
tests_of d long v (commit stamp) = basic d (long && stamp_long stamp) ++ (gate_of d v ++ commit_tests d v stamp)
tests_of d long v (close_session main reserve start) = basic d long ++ (gate_of d v ++ closing_tests d v start)
tests_of d long v (read n block) =
    basic d (long && eqb (length block) sector_length)
    ++ (test 4 (not (fits d v)) ∷ test 10 (not_in_use v n) ∷ test 11 (not (eqb (kind_at d (block_of v n)) 1)) ∷ [])
tests_of d long v (look_back k) = basic d long ++ walk_tests d k
tests_of d long v (time_of k answer) = basic d (long && eqb (length answer) told_length) ++ (walk_tests d k ++ (time_wrong d k ∷ []))

unfoldable pub outcome_of : Disc → Bool → Volume → Call → ℕ
outcome_of d long v c = first (tests_of d long v c)

-- What it does, if it is done: the state that it leaves, or none where the ledger stays as it was lent.
pub record Doing : Type 0 where
  pub second : ℕ
  pub sectors : List Sector
  pub state : Option Volume
  pub buffer : List ℕ

abbrev shows : ℕ → Volume → Doing
shows second v = record { second = second; sectors = []; state = Some v; buffer = [] }

abbrev saves : Volume → Effect → Doing
saves v e = record { second = e.second; sectors = e.sectors; state = Some (committed e.second v); buffer = e.buffer }

unfoldable pub doing : Disc → Volume → Call → Doing
doing d v begin = shows 0 (begun (recorded d))
doing d v mount = let b : ℕ = block_found (newest d) in shows (clean_number (eqb (b + 1) (recorded d))) (shown_at d b idle)
doing d v (write n block) =
    record { second = target v; sectors = replicate (links v) link ++ (plain block ∷ []); state = Some (wrote n (target v) v); buffer = block }
doing d v (release n) = shows 0 (released n v)
doing d v close_packet = shows 0 (closed v)
doing d v (commit stamp) = let e : Effect = commits d v (stamp_of stamp) (stamp_buffer stamp) in saves v e
doing d v (close_session main reserve start) = let e : Effect = closes d v main reserve start in saves v e
doing d v (read n block) = record { second = 0; sectors = []; state = None; buffer = sector_at d (block_of v n) }
doing d v (look_back k) = let b : ℕ = block_reached (walked d k) in shows b (shown_at d b read_only)
doing d v (time_of k answer) = record { second = 0; sectors = []; state = None; buffer = told (time_back d k) }

-- ---- what it leaves

-- The numbers of a state have 32 bits: its bytes hold it.
unfoldable pub proper : Volume → Bool
proper v =
    eqb (length v.entries) places
    && (every (λ x. ltb x 4294967296) v.entries
    && (ltb v.size 4294967296 && (ltb v.recorded 4294967296 && (ltb v.last 4294967296 && ltb v.mode 4294967296))))

abbrev long_after : Bool → Option Volume → Bool
long_after long None = long
long_after long (Some v) = true

abbrev state_after : Volume → Option Volume → Volume
state_after v None = v
state_after v (Some u) = u

abbrev proper_after : Option Volume → Bool
proper_after None = true
proper_after (Some v) = proper v

pub record Step : Type 0 where
  pub answer : ℕ
  pub disc : Disc
  pub long : Bool
  pub state : Volume
  pub buffer : List ℕ
  pub held : Bool

abbrev pub settled_of : Disc → Bool → Volume → List ℕ → ℕ → Doing → Step
settled_of d long v buffer zero x =
    record {
      answer = x.second;
      disc = puts d (recorded d) x.sectors;
      long = long_after long x.state;
      state = state_after v x.state;
      buffer = x.buffer;
      held = proper_after x.state;
    }
settled_of d long v buffer (suc n) x = record { answer = suc n * 4294967296; disc = d; long = long; state = v; buffer = buffer; held = true }

unfoldable pub step : Disc → Bool → Volume → Call → Step
step d long v c = settled_of d long v (buffer_of c) (outcome_of d long v c) (doing d v c)

-- ---- that it is so

-- These bytes have the right length, or not, and hold the state.
pub record Holds (l : List ℕ) (long : Bool) (v : Volume) : Type 0 where
  pub lent-long : ledger_lent l ≡ long
  pub unpacked : unpack l ≡ v

pub holds-own : (l : List ℕ) → Holds l (ledger_lent l) (unpack l)
holds-own l = record { lent-long = refl; unpacked = refl }

pub record Left (a : After) (s : Step) : Type 0 where
  pub answer : a.answer ≡ s.answer
  pub disc : a.disc ≡ s.disc
  pub buffer : a.buffer ≡ s.buffer
  pub holds : Holds a.ledger s.long s.state

pub both : (a b : Bool) → T (a && b) → T a × T b
both true b t = (tt, t)
both false b t = absurd t

every-word : (xs : List ℕ) → T (every (λ x. ltb x 4294967296) xs) → Words xs
unfolding every
every-word [] t = tt
every-word (x ∷ xs) t = let s = both (ltb x 4294967296) (every (λ y. ltb y 4294967296) xs) t in (ltb→lt x 4294967296 s.0, every-word xs s.1)

is-proper : (v : Volume) → T (proper v) → Proper v
unfolding proper
is-proper v t =
    let mode : Bool = ltb v.mode 4294967296 in
    let last : Bool = ltb v.last 4294967296 in
    let recorded : Bool = ltb v.recorded 4294967296 in
    let size : Bool = ltb v.size 4294967296 in
    let entries : Bool = every (λ x. ltb x 4294967296) v.entries in
    let a = both (eqb (length v.entries) places) (entries && (size && (recorded && (last && mode)))) t in
    let b = both entries (size && (recorded && (last && mode))) a.1 in
    let c = both size (recorded && (last && mode)) b.1 in
    let e = both recorded (last && mode) c.1 in
    let f = both last mode e.1 in
    record {
      long = eqb→eq (length v.entries) places a.0;
      entry-words = every-word v.entries b.0;
      size_word = ltb→lt v.size 4294967296 c.0;
      recorded-word = ltb→lt v.recorded 4294967296 e.0;
      last_word = ltb→lt v.last 4294967296 f.0;
      mode-word = ltb→lt v.mode 4294967296 f.1;
    }

pub holds-pack : (v : Volume) → T (proper v) → Holds (pack v) true v
holds-pack v t =
    record { lent-long = eq-eqb (length (pack v)) ledger_length (length-pack v (is-proper v t)); unpacked = unpack-pack v (is-proper v t) }

tests_same : (d : Disc) (l : List ℕ) (c : Call) → tests d l c ≡ tests_of d (ledger_lent l) (unpack l) c
unfolding tests tests_of
tests_same d l begin = refl
tests_same d l mount = refl
tests_same d l (write n block) = refl
tests_same d l (release n) = refl
tests_same d l close_packet = refl
tests_same d l (commit stamp) = refl
tests_same d l (close_session main reserve start) = refl
tests_same d l (read n block) = refl
tests_same d l (look_back k) = refl
tests_same d l (time_of k answer) = refl

abbrev ledger_of : List ℕ → Option Volume → List ℕ
ledger_of l None = l
ledger_of l (Some v) = pack v

abbrev packed : List ℕ → Doing → Effect
packed l x = record { second = x.second; sectors = x.sectors; ledger = ledger_of l x.state; buffer = x.buffer }

effect-same : (d : Disc) (l : List ℕ) (c : Call) → effect d l c ≡ packed l (doing d (unpack l) c)
unfolding effect doing
effect-same d l begin = refl
effect-same d l mount = refl
effect-same d l (write n block) = refl
effect-same d l (release n) = refl
effect-same d l close_packet = refl
effect-same d l (commit stamp) = refl
effect-same d l (close_session main reserve start) = refl
effect-same d l (read n block) = refl
effect-same d l (look_back k) = refl
effect-same d l (time_of k answer) = refl

outcome-own : (d : Disc) (l : List ℕ) (c : Call) → outcome d l c ≡ outcome_of d (ledger_lent l) (unpack l) c
unfolding outcome outcome_of
outcome-own d l c = ap first (tests_same d l c)

-- one ledger's own length and state may stand for any that it holds
pub along : (l : List ℕ) (P : Bool → Volume → Type 0) → P (ledger_lent l) (unpack l) → {long : Bool} {v : Volume} → Holds l long v → P long v
along l P p h = subst₂ P h.lent-long h.unpacked p

pub outcome-same : (d : Disc) (l : List ℕ) (c : Call) {long : Bool} {v : Volume} → Holds l long v → outcome d l c ≡ outcome_of d long v c
outcome-same d l c h = along l (λ long v. outcome d l c ≡ outcome_of d long v c) (outcome-own d l c) h

held_after : (l : List ℕ) (o : Option Volume) → T (proper_after o) → Holds (ledger_of l o) (long_after (ledger_lent l) o) (state_after (unpack l) o)
held_after l None t = holds-own l
held_after l (Some v) t = holds-pack v t

pub stepped : (d : Disc) (l : List ℕ) (c : Call) {long : Bool} {v : Volume} → Holds l long v → T (step d long v c).held → Left (after d l c) (step d long v c)
unfolding after step
stepped d l c h =
    along l (λ long v. T (settled_of d long v (buffer_of c) (outcome_of d long v c) (doing d v c)).held
    → Left (settled d l (buffer_of c) (outcome d l c) (effect d l c)) (settled_of d long v (buffer_of c) (outcome_of d long v c) (doing d v c)))
    (subst (λ (n : ℕ). T (settled_of d (ledger_lent l) (unpack l) (buffer_of c) n (doing d (unpack l) c)).held
    → Left (settled d l (buffer_of c) (outcome d l c) (effect d l c)) (settled_of d (ledger_lent l) (unpack l) (buffer_of c) n (doing d (unpack l) c)))
    (outcome-own d l c) (go (outcome d l c))) h
  where
    go : (n : ℕ) → T (settled_of d (ledger_lent l) (unpack l) (buffer_of c) n (doing d (unpack l) c)).held
        → Left (settled d l (buffer_of c) n (effect d l c)) (settled_of d (ledger_lent l) (unpack l) (buffer_of c) n (doing d (unpack l) c))
    go zero t =
        subst (λ (e : Effect). Left (settled d l (buffer_of c) zero e) (settled_of d (ledger_lent l) (unpack l) (buffer_of c) zero (doing d (unpack l) c)))
        (sym (effect-same d l c))
        (record { answer = refl; disc = refl; buffer = refl; holds = held_after l (doing d (unpack l) c).state t })
    go (suc n) t = record { answer = refl; disc = refl; buffer = refl; holds = holds-own l }

-- What the histories ask of a call besides.
unfoldable pub sectors_held : Disc → Bool → Volume → Call → List Sector
sectors_held d long v c = sectors_if (outcome_of d long v c) (doing d v c).sectors

pub sectors-same : (d : Disc) (l : List ℕ) (c : Call) {long : Bool} {v : Volume} → Holds l long v → sectors_of d l c ≡ sectors_held d long v c
unfolding sectors_of sectors_held
sectors-same d l c h =
    along l (λ long v. sectors_if (outcome d l c) (effect d l c).sectors ≡ sectors_if (outcome_of d long v c) (doing d v c).sectors)
    (λ i. sectors_if (outcome-own d l c i) (effect-same d l c i).sectors) h

pub second-same : (d : Disc) (l : List ℕ) (c : Call) {long : Bool} {v : Volume} → Holds l long v
    → second_number d l c ≡ if_done (outcome_of d long v c) (doing d v c).second
unfolding second_number
second-same d l c h =
    along l (λ long v. if_done (outcome d l c) (effect d l c).second ≡ if_done (outcome_of d long v c) (doing d v c).second)
    (λ i. if_done (outcome-own d l c i) (effect-same d l c i).second) h
