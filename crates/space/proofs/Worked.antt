-- The roles of a few short lists of calls, worked out by the checker from the definitions, each beside the bytes that the rule gives by hand. The longer of
-- these lists are claims of their own: each claim has a bound of steps.
-- Assumes nothing.
use Prim.Native.Nat.{ℕ}
use mathlib.Core.Bool.{Bool, true, ◌&&◌}
use mathlib.Core.List.{List, [], ◌∷◌, ◌++◌}
use Rattle.std.specs.Prelude.{None, Some}
use mathlib.Core.Path.{◌≡◌, refl, sym, ◌∙◌}
use lib.Dec.{T, eqb, eqb→eq}
use lib.ListN.{replicate}
use Rattle.vat.specs.Table.{unused}
use Rattle.vat.specs.Sector.{no_stamp, table_bytes, icb}
use Rattle.disc.specs.Disc.{Disc, plain, torn, puts}
use Rattle.disc.specs.Again.{same}
use Rattle.volume.specs.Volume.{pack}
use Rattle.recorder.specs.Calls.{Call, begin, mount, write, release, close_packet, commit, look_back}
use Rattle.bench.proofs.States.{both}
use Rattle.bench.proofs.Starred.{opened, blank, block, same_bytes, numbers, full, holding, behind}
use Rattle.tag.specs.Tag.{seal}
use Rattle.roles.specs.Roles.{names, named_below, of_table, role_at, tabulate}
use Rattle.roles.specs.Keeping.{scanned, let_go, marked, kept_up, outcome_roles, after_roles}
use Rattle.space.specs.Space.{Lent, leaves_all, afresh}
use Rattle.space.proofs.Theorem.{space}

-- To open this is to open every definition that roles are worked out from.
unfoldable pub roles-opened : Unit {0}
unfolding opened same names named_below of_table role_at tabulate scanned let_go marked kept_up outcome_roles after_roles leaves_all
roles-opened = tt

-- Calls on a disc with these roles and this ledger, and the roles that they leave.
pub record Row : Type 0 where
  pub lent : Lent
  pub calls : List Call
  pub roles : List ℕ

abbrev row : Disc → List ℕ → List ℕ → List Call → List ℕ → Row
row d roles l cs expected = record { lent = record { disc = d; roles = roles; ledger = l }; calls = cs; roles = expected }

unfoldable pub all_right : List Row → Bool
all_right [] = true
all_right (r ∷ rs) = same (leaves_all r.lent r.calls).roles r.roles && all_right rs

-- An afternoon: number 0 is written, saved, written again and released; a block has no number; the packet is closed before the next save.
unfoldable pub kept : List Row
kept =
    row (blank 20) (replicate 20 9) full
    (begin ∷ write (Some 0) (block 1) ∷ commit None ∷ write (Some 0) (block 2) ∷ write None (block 3) ∷ release 0 ∷ close_packet ∷ commit None ∷ [])
    (1 ∷ 3 ∷ 1 ∷ 2 ∷ replicate 7 4 ++ (3 ∷ replicate 8 6))
    ∷ []

pub kept-rows : T (all_right kept)
unfolding roles-opened all_right kept
kept-rows = tt

-- Another, and a look back behind it: which block has no number is not known any more.
unfoldable pub looked : List Row
looked =
    row (blank 20) (replicate 20 9) full
    (begin ∷ write (Some 0) (block 1) ∷ commit None ∷ write (Some 0) (block 2) ∷ write None (block 3) ∷ commit None ∷ look_back 1 ∷ [])
    (0 ∷ 3 ∷ 1 ∷ 1 ∷ 3 ∷ replicate 15 6)
    ∷ []

pub looked-rows : T (all_right looked)
unfolding roles-opened all_right looked
looked-rows = tt

-- The map of another deck: numbers 0 and 1 both name block 0.
abbrev twice : List ℕ
twice = pack (record { entries = 0 ∷ 0 ∷ replicate 4085 unused; size = 2; recorded = 1; last = unused; mode = 0 })

unfoldable pub shared : List Row
shared =
    row (holding (block 1)) (0 ∷ 6 ∷ []) twice (release 0 ∷ []) (0 ∷ 6 ∷ [])
    ∷ row (holding (block 1)) (0 ∷ 6 ∷ []) twice (release 0 ∷ release 1 ∷ []) (1 ∷ 6 ∷ [])
    ∷ row (holding (seal (behind 0 0 0))) (3 ∷ 6 ∷ []) twice (release 0 ∷ release 1 ∷ []) (3 ∷ 6 ∷ [])
    ∷ row (holding (block 1)) (0 ∷ []) twice (release 0 ∷ []) (0 ∷ [])
    ∷ []

pub shared-rows : T (all_right shared)
unfolding roles-opened all_right shared
shared-rows = tt

-- Two saves of 600 numbers, whose tables have two own sectors each: the second names the first of these again, and records the other anew.
abbrev large : List Call
large = commit None ∷ write (Some 599) (block 1) ∷ commit None ∷ []

unfoldable pub owning : List Row
owning =
    row (blank 20) (replicate 20 6) (pack (numbers 600)) (large ++ (release 599 ∷ [])) (3 ∷ 3 ∷ 3 ∷ 1 ∷ 3 ∷ 3 ∷ replicate 14 6)
    ∷ row (blank 20) (replicate 20 6) (pack (numbers 600)) (large ++ (mount ∷ [])) (3 ∷ 3 ∷ 3 ∷ 0 ∷ 3 ∷ 3 ∷ replicate 14 6)
    ∷ []

pub owning-rows : T (all_right owning)
unfolding roles-opened all_right owning
owning-rows = tt

-- ---- and drawn from the claim

-- A mounted disc whose first block cannot be read: number 1 is written again, and a block has no number.
unfoldable pub scratched : Lent
scratched =
    record {
      disc = puts (blank 28) 0 (torn (block 5) ∷ plain (block 6) ∷ plain (icb (table_bytes (0 ∷ 1 ∷ []) unused) [] no_stamp 2) ∷ []);
      roles = replicate 28 9;
      ledger = full;
    }

unfoldable pub evening : List Call
evening = write (Some 1) (block 7) ∷ write None (block 8) ∷ []

unfoldable pub after-evening : List ℕ
after-evening = 5 ∷ 1 ∷ 3 ∷ replicate 7 4 ++ (0 ∷ 2 ∷ replicate 16 6)

worked-evening : T (eqb (outcome_roles scratched.disc scratched.roles scratched.ledger mount) 0 && same (leaves_all scratched (mount ∷ evening)).roles after-evening)
unfolding roles-opened scratched evening after-evening
worked-evening = tt

-- worked out afresh from the history these roles are the same
pub afresh-evening : afresh scratched.disc scratched.ledger [] (mount ∷ evening) ≡ after-evening
afresh-evening =
    let s = both (eqb (outcome_roles scratched.disc scratched.roles scratched.ledger mount) 0) (same (leaves_all scratched (mount ∷ evening)).roles after-evening) worked-evening in
    sym (space.kept-up scratched mount refl (eqb→eq (outcome_roles scratched.disc scratched.roles scratched.ledger mount) 0 s.0) evening)
    ∙ same_bytes (leaves_all scratched (mount ∷ evening)).roles after-evening s.1
