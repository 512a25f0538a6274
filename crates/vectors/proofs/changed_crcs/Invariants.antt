-- `vectors::changed_crcs` is safe and ends: what is kept of the CRCs stays below the prime.
use Rattle.std.proofs.Common.{◌<◌}
use Rattle.vectors.proofs.changed_crcs.Given as goal

abbrev pub invariant-loop-mask : goal.invariant-loop-mask
invariant-loop-mask l = l.crcs < 4294967291
