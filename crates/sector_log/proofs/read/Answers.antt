-- `sector_log::read` meets its contract.
-- Assumes nothing.
use Prim.Native.Nat.{ℕ, ◌+◌, ◌*◌, ◌≤◌, ◌<◌}
use native.Mathlib.Omega.{arith}
use mathlib.Core.Path.{◌≡◌, sym, ap, ◌∙◌}
use mathlib.Core.List.{List}
use lib.ListN.{length}
use Rattle.le.proofs.Runs.{sets-all}
use Rattle.vat.specs.Table.{sector_length}
use Rattle.disc.specs.Disc.{Disc, lent, sector_at}
use Rattle.disc.proofs.Recording.{sized-tells, sound-sized, leading_le}
use Rattle.disc.proofs.Found.{part-sector, sector-end, sector-long}
use Rattle.volume.specs.Volume.{ledger_length, places, unpack}
use Rattle.recorder.specs.Calls.{read}
use Rattle.recorder.specs.Refusals.{block_of, outcome}
use Rattle.recorder.proofs.Done.{ledger-accepted, ReadDone, read_done, entry-recorded}
use Rattle.calls.proofs.Left.{read_left}
use Rattle.sector_log.proofs.Refused.{refused}
use Rattle.sector_log.proofs.read.Goals as goal

-- what a read that is done may take: the entry's sector, from the image into the block
record Readable (d : Disc) (l : List ℕ) (n : ℕ) (block : List ℕ) : Type 0 where
  pub accepted : length l ≡ ledger_length
  pub place : n < places
  pub within : sector_length * block_of (unpack l) n + sector_length ≤ length d.image
  pub long : length (sector_at d (block_of (unpack l) n)) ≡ sector_length
  pub block-long : length block ≡ sector_length

readable : (d : Disc) (l : List ℕ) (n : ℕ) (block : List ℕ) → outcome d l (read n block) ≡ 0 → Readable d l n block
readable d l n block done =
    let told : ReadDone d l n block = read_done d l n block done in
    let names = entry-recorded d (unpack l) n told.fit told.used in
    let tells = sized-tells d (sound-sized d told.sound-disc) in
    let b : ℕ = block_of (unpack l) n in
    let recorded-there : b < length d.kinds = omega (arith, names.1, leading_le d.kinds) in
    record {
      accepted = ledger-accepted d l (read n block) done;
      place = omega (arith, names.0, told.fit.few);
      within = sector-end d tells b recorded-there;
      long = sector-long d tells b recorded-there;
      block-long = told.block-long;
    }

pub returns-in_err-read : goal.returns-in_err-read
returns-in_err-read c = refused _ _ _ _ _ c.in_err-read.ensures c.from_residual.ensures.1

pub entry-requires : goal.entry-requires
entry-requires c = let r = readable _ _ _ _ (sym c.in_ok-read.ensures) in (r.accepted, r.place)

pub slice_bounds-put_block-end : goal.slice_bounds-put_block-end
slice_bounds-put_block-end c = let r = readable _ _ _ _ (sym c.in_ok-read.ensures) in omega (arith, r.within, c.entry.ensures)

pub put_block-requires : goal.put_block-requires
put_block-requires c =
    let r = readable _ _ _ _ (sym c.in_ok-read.ensures) in
    let D : Disc = lent c.args.image.now c.args.kinds.now in
    omega (arith, ap length (part-sector D c.entry.result) ∙ ap (λ (b : ℕ). length (sector_at D b)) c.entry.ensures, r.long, r.block-long)

pub returns : goal.returns
returns c =
    let r = readable _ _ _ _ (sym c.in_ok-read.ensures) in
    let D : Disc = lent c.args.image.now c.args.kinds.now in
    let s : List ℕ = sector_at D (block_of (unpack c.args.ledger.now) c.args.v) in
    cc
    (read_left D c.args.ledger.now c.args.v c.args.block.now (sym c.in_ok-read.ensures), part-sector D c.entry.result, sets-all s c.args.block.now (r.long ∙ sym r.block-long))
