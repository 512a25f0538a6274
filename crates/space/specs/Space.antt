-- The claim about roles (document 02, R-7), for every list of calls, done or refused, of which "none was cut and all three come as the call before left
-- them": "keeping it up on each call gives the same bytes as working it out afresh from that history", and "the counts of the six recorded roles add up
-- to recorded".
use Rattle.std.specs.Prelude.{ℕ, zero, suc, ◌+◌, ◌-◌, true, List, [], ◌∷◌, ◌++◌, ◌≡◌, eqb}
use Rattle.std.specs.Prelude.{None, Some}
use Rattle.disc.specs.Disc.{Disc, recorded}
use Rattle.disc.specs.Session.{closing_length}
use Rattle.volume.specs.Volume.{unpack, map_of, grown}
use Rattle.recorder.specs.Calls.{Call, begin, mount, write, release, close_packet, commit, close_session, read, look_back, time_of, restores}
use Rattle.recorder.specs.Refusals.{outcome}
use Rattle.recorder.specs.Effects.{after}
use Rattle.roles.specs.Roles.{in_use, superseded, unnumbered, table_role, link_role, unreadable, roles_of}
use Rattle.roles.specs.Keeping.{AfterRoles, outcome_roles, after_roles}

-- All three, and what a list of calls makes of them.
pub record Lent : Type 0 where
  pub disc : Disc
  pub roles : List ℕ
  pub ledger : List ℕ

abbrev pub leaves : Lent → Call → Lent
leaves s c =
    let a : AfterRoles = after_roles s.disc s.roles s.ledger c in
    record { disc = a.call.disc; roles = a.roles; ledger = a.call.ledger }

unfoldable pub leaves_all : Lent → List Call → Lent
leaves_all s [] = s
leaves_all s (c ∷ cs) = leaves_all (leaves s c) cs

-- Of the history since begin, mount or look back: the blocks that were recorded without a number. A call that is done adds those that its second number
-- tells; "a closing's sectors before its table are without a number".
abbrev pub blocks_from : ℕ → ℕ → List ℕ
blocks_from b zero = []
blocks_from b (suc n) = b ∷ blocks_from (b + 1) n

abbrev pub apart_after : Call → ℕ → List ℕ → List ℕ
apart_after begin second apart = []
apart_after mount second apart = []
apart_after (write None block) second apart = second ∷ apart
apart_after (write (Some n) block) second apart = apart
apart_after (release n) second apart = apart
apart_after close_packet second apart = apart
apart_after (commit stamp) second apart = apart
apart_after (close_session main reserve start) second apart = blocks_from (second - closing_length) closing_length ++ apart
apart_after (read n block) second apart = apart
apart_after (look_back k) second apart = []
apart_after (time_of k answer) second apart = apart

abbrev pub apart_if : ℕ → Call → ℕ → List ℕ → List ℕ
apart_if zero c second apart = apart_after c second apart
apart_if (suc n) c second apart = apart

-- The roles worked out afresh: from the disc and the map that the calls lead to, and from that history. No role is looked at.
unfoldable pub afresh : Disc → List ℕ → List ℕ → List Call → List ℕ
afresh d l apart [] = roles_of d (map_of (unpack l)) apart
afresh d l apart (c ∷ cs) = afresh (after d l c).disc (after d l c).ledger (apart_if (outcome d l c) c (after d l c).answer apart) cs

-- How many sectors have this role, and the six counts together: all but the blank ones.
unfoldable pub count : ℕ → List ℕ → ℕ
count role [] = 0
count role (r ∷ rs) = let n : ℕ = count role rs in grown (eqb r role) n

abbrev pub recorded_roles : List ℕ → ℕ
recorded_roles rs = count in_use rs + (count superseded rs + (count unnumbered rs + (count table_role rs + (count link_role rs + count unreadable rs))))

-- Whatever is lent to a begin, mount or look back that is done, and whatever calls follow it.
pub record Space : Type 0 where
  pub kept-up : (s : Lent) (c : Call) → restores c ≡ true → outcome_roles s.disc s.roles s.ledger c ≡ 0 → (cs : List Call)
      → (leaves_all s (c ∷ cs)).roles ≡ afresh s.disc s.ledger [] (c ∷ cs)
  pub counted : (s : Lent) (c : Call) → restores c ≡ true → outcome_roles s.disc s.roles s.ledger c ≡ 0 → (cs : List Call)
      → recorded_roles (leaves_all s (c ∷ cs)).roles ≡ recorded (leaves_all s (c ∷ cs)).disc
