-- The answer of a call: below 4,294,967,296 if it is done, and then its second number. What look back reaches is a table.
-- Assumes nothing.
use Prim.Native.Nat.{ℕ, zero, suc, ◌+◌, ◌<◌}
use native.Mathlib.Omega.{arith}
use mathlib.Core.Path.{◌≡◌, refl, sym, subst}
use mathlib.Core.Bool.{Bool, true, false}
use mathlib.Core.List.{List, []}
use Rattle.std.specs.Prelude.{Option, None, Some}
use lib.Dec.{eqb, lit<}
use lib.ListN.{length}
use Rattle.std.specs.Prelude.{Ok}
use Rattle.disc.specs.Disc.{Disc, Sector, recorded}
use Rattle.disc.specs.Tables.{table_at, previous_at, newest, block_found}
use Rattle.vat.specs.Sector.{no_stamp}
use Rattle.disc.specs.Save.{last_block}
use Rattle.disc.proofs.Recording.{leading_le}
use Rattle.disc.proofs.Found.{table-recorded, newest-table, walk-table}
use Rattle.volume.specs.Volume.{unpack}
use Rattle.recorder.specs.Calls.{Call, begin, mount, write, release, close_packet, commit, close_session, read, look_back, time_of, buffer_of, stamp_of}
use Rattle.recorder.specs.Refusals.{target, walk_from, walked, outcome}
use Rattle.recorder.specs.Effects.{closing_first, effect, block_reached, clean_number, settled, after, second_number}
use Rattle.recorder.proofs.Done.{links-few, write_done, save_of, SaveDone, commit-done, closing-done, look-back-done}

pub settled-done : (d : Disc) (l : List ℕ) (c : Call) (n : ℕ) → (settled d l (buffer_of c) n (effect d l c)).answer < 4294967296 → n ≡ 0
settled-done d l c zero h = refl
settled-done d l c (suc n) h = absurd (omega arith)

pub done-of : (d : Disc) (l : List ℕ) (c : Call) → (after d l c).answer < 4294967296 → outcome d l c ≡ 0
unfolding after
done-of d l c h = settled-done d l c (outcome d l c) h

pub answer-of : (d : Disc) (l : List ℕ) (c : Call) → outcome d l c ≡ 0 → (after d l c).answer ≡ second_number d l c
unfolding after second_number
answer-of d l c e = rw e

pub walked-table : (d : Disc) (k t : ℕ) → walked d k ≡ Ok t → table_at d t ≡ true
unfolding walked
walked-table d k t e = go (newest d) refl e
  where
    go : (o : Option ℕ) → newest d ≡ o → walk_from d k o ≡ Ok t → table_at d t ≡ true
    go None n e = absurd (let z : ◌≡◌ {A = ℕ} 0 1 = cc in omega arith)
    go (Some b) n e = walk-table (table_at d) (previous_at d) k b t e (newest-table (table_at d) (recorded d) b n)

-- ---- a second number has 32 bits

clean-small : (t : Bool) → clean_number t < 4294967296
clean-small true = omega arith
clean-small false = omega arith

save-small : (d : Disc) (l : List ℕ) (first : List Sector) (stamp : List ℕ) → SaveDone d l first stamp
    → last_block (target (unpack l) + length first) (save_of d l first stamp) < 4294967296
save-small d l first stamp f = omega (arith, f.room, f.fit.same-recorded, leading_le d.kinds, f.sound-disc.few)

second-small : (d : Disc) (l : List ℕ) (c : Call) → outcome d l c ≡ 0 → (effect d l c).second < 4294967296
unfolding effect
second-small d l begin e = lit< tt
second-small d l mount e = clean-small (eqb (block_found (newest d) + 1) (recorded d))
second-small d l (write n block) e =
    let f = write_done d l n block e in
    omega (arith, leading_le d.kinds, f.sound-disc.few, f.fit.same-recorded, links-few (unpack l))
second-small d l (release n) e = lit< tt
second-small d l close_packet e = lit< tt
second-small d l (commit stamp) e = save-small d l [] (stamp_of stamp) (commit-done d l stamp e).saving
second-small d l (close_session main reserve start) e = save-small d l (closing_first d (unpack l) main reserve start) no_stamp (closing-done d l main reserve start e).saving
second-small d l (read n block) e = lit< tt
second-small d l (look_back k) e =
    let f = look-back-done d l k e in
    let b : ℕ = f.1.0 in
    let small : b < 4294967296 = omega (arith, leading_le d.kinds, f.0.few, table-recorded d f.0 b (walked-table d k b f.1.1)) in
    subst (λ w. block_reached w < 4294967296) (sym f.1.1) small
second-small d l (time_of k answer) e = lit< tt

pub done-small : (d : Disc) (l : List ℕ) (c : Call) → outcome d l c ≡ 0 → (after d l c).answer < 4294967296
unfolding after
done-small d l c e = rw e (second-small d l c e)
