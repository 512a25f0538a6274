-- `timestamp::tell` meets its contract: two fields side by side fill the answer.
-- Assumes nothing.
use Prim.Native.Nat.{ℕ}
use native.Mathlib.Omega.{arith}
use mathlib.Core.Path.{◌≡◌}
use mathlib.Core.List.{List}
use Rattle.std.proofs.lemmas.Int.{to_z-of_z}
use Rattle.timestamp.specs.Timestamp.{told, word, minutes_of, marked, zone_of, not_given}
use Rattle.timestamp.proofs.Signed.{word-bits}
use Rattle.timestamp.proofs.Stamps.{mark-byte, two_fields}
use Rattle.timestamp.proofs.tell.Goals as goal

pub returns : goal.returns
unfolding told
returns c =
    let stamp : List ℕ = c.args.s.now in
    let first : c.cast_unsigned.result ≡ word (minutes_of stamp) = grind (arith, to_z-of_z, word-bits) in
    let second : c.from.result ≡ marked (not_given (zone_of stamp)) = grind (arith, to_z-of_z, mark-byte) in
    let z = c.cast_unsigned.ensures in
    rw (c.put32-2.ensures, c.put32.ensures, first, second) (two_fields c.args.answer.now _ _ c.requires.2)
