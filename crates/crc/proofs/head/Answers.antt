-- `crc::head` meets its contract: what is read so far is the number of the bytes so far.
-- Assumes nothing.
use Prim.Native.Nat.{ℕ, ◌+◌, ◌*◌, ◌%◌}
use mathlib.Core.Path.{◌≡◌, refl, ap, sym, ◌∙◌}
use mathlib.Core.List.{List}
use native.Mathlib.Nat.{zero-add}
use native.Mathlib.Numerals.{add-one}
use native.Mathlib.Omega.{arith}
use lib.ListN.{get_or, length-take}
use lib.Seq.{get_or-take}
use Rattle.crc.specs.Number.{number_at}
use Rattle.crc.proofs.head.Goals as goal

pub loop-byte-init : goal.loop-byte-init
unfolding number_at
loop-byte-init c =
    refl

pub loop-byte-preserved : goal.loop-byte-preserved
unfolding number_at
loop-byte-preserved c =
    let s : List ℕ = c.args.s.now in
    let x : ℕ = c.loop-byte.x in
    let i : ℕ = c.loop-byte.byte-index in
    let v : ℕ = number_at s 0 i in
    let byte : c.from.result ≡ get_or s i 0 = c.from.ensures ∙ get_or-take c.args.n s i 0 (omega (arith, length-take c.args.n s)) in
    let joined : x * 256 % 18446744073709551616 + c.from.result ≡ (v * 256 + get_or s i 0) % 18446744073709551616 = omega (arith, byte, c.type_inv.s i) in
    joined
    ∙ ap (λ (k : ℕ). (v * 256 + get_or s k 0) % 18446744073709551616) (sym (zero-add i))
    ∙ ap (λ (k : ℕ). number_at s 0 k % 18446744073709551616) (sym (add-one i))
