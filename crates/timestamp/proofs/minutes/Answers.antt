-- `timestamp::minutes` meets its contract: a valid stamp's date is one that the calendar counts, and the difference to a zone fits 32 bits.
-- Assumes nothing.
use Prim.Native.Nat.{◌<◌}
use native.Mathlib.Omega.{arith}
use mathlib.Core.Path.{◌≡◌, sym}
use mathlib.Core.Bool.{true, false}
use lib.Signed.{mag}
use Rattle.std.proofs.lemmas.Int.{ints, to_z-of_z}
use Rattle.timestamp.specs.Timestamp.{minutes_of, zone_of, not_given}
use Rattle.timestamp.proofs.Stamps.{Dated, dated, zone-near}
use Rattle.timestamp.proofs.minutes.Goals as goal

pub minutes-clock-requires : goal.minutes-clock-requires
minutes-clock-requires c =
    let d : Dated c.args.s.now = dated c.args.s.now c.requires.1 in
    rw c.read_moment.ensures (d.since, d.until, d.date)

pub returns-then-not_given : goal.returns-then-not_given
unfolding minutes_of
returns-then-not_given c =
    let mark : not_given (zone_of c.args.s.now) ≡ true = grind (arith, to_z-of_z) in
    rw (mark, sym c.read_moment.ensures) (omega (arith, ints))

pub overflow_sub-result : goal.overflow_sub-result
overflow_sub-result c =
    let near : mag c.zone-zone.result < 4096 = rw c.zone-zone.ensures (zone-near c.args.s.now) in
    omega (arith, ints)

pub returns-else-not_given : goal.returns-else-not_given
unfolding minutes_of
returns-else-not_given c =
    let given : not_given (zone_of c.args.s.now) ≡ false = grind (arith, to_z-of_z) in
    let near : mag c.zone-zone.result < 4096 = rw c.zone-zone.ensures (zone-near c.args.s.now) in
    rw (given, sym c.read_moment.ensures, sym c.zone-zone.ensures) (omega (arith, ints))
