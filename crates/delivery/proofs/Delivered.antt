-- All that is delivered, proved: each statement of specs/Delivery.antt by the theorem that it names.
-- Assumes nothing.
use Prim.Native.Nat.{ℕ, suc, ◌*◌}
use mathlib.Core.List.{List}
use mathlib.Core.Path.{◌≡◌, ap}
use Rattle.disc.specs.Disc.{Disc}
use Rattle.recorder.specs.Calls.{Call, buffer_of}
use Rattle.recorder.specs.Effects.{effect, settled}
use Rattle.roles.specs.Keeping.{outcome_roles, AfterRoles, roles_if, kept_up, left_roles, after_roles}
use Rattle.timestamp.proofs.Theorems.{starts, rises, utc-rises}
use Rattle.timestamp.proofs.Stamps as stamps
use Rattle.vat.proofs.Theorems as tables
use Rattle.anchor.proofs.Theorems as pointers
use Rattle.disc.proofs.Told.{other-kind}
use Rattle.disc.proofs.Fresh as own
use Rattle.volume.proofs.State.{unpack-pack, pack-unpack}
use Rattle.recorder.proofs.Answers.{done-small}
use Rattle.run.proofs.Theorems as runs
use Rattle.history.proofs.Recorded as recordings
use Rattle.history.proofs.Theorem as history
use Rattle.history.proofs.Times as times
use Rattle.history.proofs.Closed as closed
use Rattle.archive.proofs.Theorem as archive
use Rattle.archive.proofs.Viewing as viewing
use Rattle.space.proofs.Theorem as roles
use Rattle.space.proofs.Called as called
use Rattle.alike.proofs.Views as alike
use Rattle.alike.proofs.Scribbles as scribbles
use Rattle.bench.proofs.Starred as bench
use Rattle.bench.proofs.Apart as apart
use Rattle.delivery.specs.Delivery.{Delivery}

refusals : (d : Disc) (rs l : List ℕ) (c : Call) (n : ℕ) → outcome_roles d rs l c ≡ suc n → after_roles d rs l c ≡ left_roles (suc n * 4294967296) d.image d.kinds rs l (buffer_of c)
unfolding after_roles
refusals d rs l c n e = ap {B = AfterRoles} (λ (m : ℕ). record { call = settled d l (buffer_of c) m (effect d l c); roles = roles_if m rs (kept_up d rs l c) }) e

pub delivered : Delivery
delivered =
    record {
      never-twice = recordings.write-once;
      refusals = refusals;
      answers = done-small;
      reads-back = tables.reads-back;
      tells = tables.tells;
      of-kind-1 = other-kind;
      at-one-block = tables.at-one-block;
      not-elsewhere = tables.not-elsewhere;
      unused-at-block-0 = tables.all-unused-at-zero;
      power-cuts = history.power-cuts;
      save-then-mount = history.save-then-mount;
      mean-nothing = alike.mean-nothing;
      scribbled-power-cuts = scribbles.scribbled-power-cuts;
      unpacked = unpack-pack;
      packed = pack-unpack;
      recorded-same = recordings.recorded-same;
      starred-rows = bench.starred-rows;
      requested-rows = bench.requested-rows;
      minutes-start = starts;
      minutes-rise = rises;
      utc-rise = utc-rises;
      told-minutes = stamps.told-minutes;
      told-mark = stamps.told-mark;
      save-times = times.save-times;
      save-then-time = times.save-then-time;
      tagged-anchor = pointers.tagged-anchor;
      anchor-no-table = pointers.anchor-no-table;
      zeros-no-table = pointers.zeros-no-table;
      closed-discs = closed.closed-discs;
      closing-rows = bench.closing-rows;
      entry-reads-back = runs.reads-back;
      entry-recognised = runs.recognised;
      entries-stay = archive.entries-stay;
      earlier-entries = archive.earlier-entries;
      views-in-lists = viewing.views-in-lists;
      unnumbered-rows = bench.unnumbered-rows;
      space = roles.space;
      as-without-roles = called.as-without-roles;
      own-neither = own.fresh-neither;
      apart-rows = apart.apart-rows;
    }
