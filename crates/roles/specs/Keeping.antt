-- The roles kept up (document 02, R-7: "Each call that alters disc or ledger is lent these bytes too"): what each call makes of them, and all that it
-- then leaves.
use Rattle.std.specs.Prelude.{◌≡◌, ℕ, zero, suc, ◌+◌, ◌≤◌, ◌<◌, Bool, true, false, ◌&&◌, ◌||◌, not, List, [], ◌∷◌, ◌++◌, eqb, length, get_or, set, replicate}
use Rattle.std.specs.Prelude.{Option, None, Some}
use Rattle.vat.specs.Table.{unused}
use Rattle.vat.specs.Sector.{no_stamp, table_bytes}
use Rattle.disc.specs.Disc.{Disc, sized, recorded, Sector, stored}
use Rattle.disc.specs.Tables.{table_at}
use Rattle.disc.specs.Save.{save_sectors}
use Rattle.volume.specs.declared.Volume.{Volume}
use Rattle.volume.specs.Volume.{unpack, map_of}
use Rattle.recorder.specs.Calls.{Call, begin, mount, write, release, close_packet, commit, close_session, read, look_back, time_of, stamp_of, buffer_of, restores, may_record}
use Rattle.recorder.specs.Refusals.{Test, test, first, links, target, block_of, tests}
use Rattle.recorder.specs.Effects.{closing_first, effect, After, left, settled, after}
use Rattle.roles.specs.declared.TablesEnd.{TablesEnd}
use Rattle.roles.specs.declared.TablesEnd.TheVariants.{Below, At}
use Rattle.roles.specs.Roles.{in_use, superseded, unnumbered, table_role, link_role, blank_role, names, roles_of}

-- The tables of a disc end there, within what is recorded.
abbrev pub EndThere : Disc → TablesEnd → Type 0
EndThere d (Below n) = (n ≤ recorded d) × ((b : ℕ) → n ≤ b → table_at d b ≡ false)
EndThere d (At n) = (n ≤ recorded d) × (table_at d n ≡ true) × ((b : ℕ) → n < b → table_at d b ≡ false)

-- Begin, mount and look back: "a scan then gives the start", of the disc with the ledger's map.
unfoldable pub scanned : Disc → List ℕ → List ℕ
scanned d l = roles_of d (map_of (unpack l)) []

-- A number lets go of the block that it named: what was in use is superseded. Another number of the ledger's map that names it keeps it in use. The role that
-- is lent tells whether it was: what is no data, or a table's, never is.
abbrev pub supersede_if : Bool → ℕ → List ℕ → List ℕ
supersede_if true b roles = set roles b superseded
supersede_if false b roles = roles

unfoldable pub let_go : List ℕ → ℕ → List ℕ → List ℕ
let_go l b roles = supersede_if (eqb (get_or roles b blank_role) in_use && not (names (map_of (unpack l)) b)) b roles

-- What a call records: links, the sectors of a closing before its save, and so many of one role: a block, or the sectors of a save. "A closing's sectors
-- before its table are without a number", but for its table's own.
unfoldable pub marked : ℕ → ℕ → ℕ → ℕ → ℕ → List ℕ → List ℕ
marked at links between count role roles =
    stored roles at (replicate links link_role ++ (replicate between unnumbered ++ replicate count role))

-- What a save records, with what it puts first: its own sectors are all of its table.
abbrev pub marked_save : Disc → Volume → List Sector → List ℕ → List ℕ → List ℕ
marked_save d v first stamp roles =
    let save : List Sector = save_sectors d (table_bytes (map_of v) v.last) v.last stamp (target v + length first) in
    marked (recorded d) (links v) (length first) (length save) table_role roles

-- A write with a number and without one: the role of its block, and the block that its number named before.
abbrev pub written_role : Option ℕ → ℕ
written_role None = unnumbered
written_role (Some n) = in_use

abbrev pub named_before : Volume → Option ℕ → ℕ
named_before v None = unused
named_before v (Some n) = block_of v n

-- What a call that is done makes of the roles.
unfoldable pub kept_up : Disc → List ℕ → List ℕ → Call → List ℕ
kept_up d roles l begin = let a : After = after d l begin in scanned a.disc a.ledger
kept_up d roles l mount = let a : After = after d l mount in scanned a.disc a.ledger
kept_up d roles l (write n block) =
    let v : Volume = unpack l in
    let a : After = after d l (write n block) in
    let_go a.ledger (named_before v n) (marked (recorded d) (links v) 0 1 (written_role n) roles)
kept_up d roles l (release n) = let_go (after d l (release n)).ledger (block_of (unpack l) n) roles
kept_up d roles l close_packet = roles
kept_up d roles l (commit stamp) = marked_save d (unpack l) [] (stamp_of stamp) roles
kept_up d roles l (close_session main reserve start) =
    let v : Volume = unpack l in
    marked_save d v (closing_first d v main reserve start) no_stamp roles
kept_up d roles l (read n block) = roles
kept_up d roles l (look_back k) = let a : After = after d l (look_back k) in scanned a.disc a.ledger
kept_up d roles l (time_of k answer) = roles

-- 2: "a lent role buffer of another length than the kinds", tested as every lent length is, behind 1.
abbrev pub roles_tests : Bool → Disc → List ℕ → List Test
roles_tests true d roles = test 1 (not (sized d)) ∷ test 2 (not (eqb (length roles) (length d.kinds))) ∷ []
roles_tests false d roles = []

unfoldable pub outcome_roles : Disc → List ℕ → List ℕ → Call → ℕ
outcome_roles d roles l c = first (roles_tests (restores c || may_record c) d roles ++ tests d l c)

-- All that a call leaves that is lent the roles: "a refusal .. alters no lent byte".
pub record AfterRoles : Type 0 where
  pub call : After
  pub roles : List ℕ

abbrev pub left_roles : ℕ → List ℕ → List ℕ → List ℕ → List ℕ → List ℕ → AfterRoles
left_roles answer image kinds roles ledger buffer = record { call = left answer image kinds ledger buffer; roles = roles }

abbrev pub roles_if : ℕ → List ℕ → List ℕ → List ℕ
roles_if zero before kept = kept
roles_if (suc n) before kept = before

unfoldable pub after_roles : Disc → List ℕ → List ℕ → Call → AfterRoles
after_roles d roles l c =
    let n : ℕ = outcome_roles d roles l c in
    record { call = settled d l (buffer_of c) n (effect d l c); roles = roles_if n roles (kept_up d roles l c) }
