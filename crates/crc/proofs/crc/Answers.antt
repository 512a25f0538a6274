-- `crc::crc` meets its contract: the four words, carried over the bytes that are left, give the answer.
-- Assumes nothing.
use Prim.Native.Nat.{ℕ, ◌+◌, ◌*◌, ◌/◌, ◌%◌, ◌≤◌, ◌<◌}
use mathlib.Core.Path.{◌≡◌, ◌∙◌}
use mathlib.Core.List.{List}
use native.Mathlib.Nat.{add-zero}
use native.Mathlib.Omega.{arith}
use lib.ListN.{length, get_or, drop_of_length-le}
use Rattle.crc.specs.Crc.{crc_from}
use Rattle.crc.specs.Number.{number_at}
use Rattle.crc.proofs.Taken.{word-there}
use Rattle.crc.proofs.Words.{started, turned, ended}
use Rattle.crc.proofs.crc.Goals as goal

pub loop-word-init : goal.loop-word-init
loop-word-init c =
    let s : List ℕ = c.args.s.now in
    let each : (j : ℕ) → get_or s j 0 < 256 = λ j. omega (arith, c.type_inv.s j) in
    rw (add-zero (length s % 8), c.head-d.ensures, c.as_rchunks.ensures.front_len) (started (length s % 8) s each (omega arith) (omega arith))

pub loop-word-preserved : goal.loop-word-preserved
loop-word-preserved c =
    let s : List ℕ = c.args.s.now in
    let each : (j : ℕ) → get_or s j 0 < 256 = λ j. omega (arith, c.type_inv.s j) in
    let w = c.loop-word in
    let n : ℕ = length s % 8 in
    let k : ℕ = w.word-index in
    let i : ℕ = n + 8 * k in
    let word : c.from_be_bytes.result ≡ number_at s i 8 =
    c.from_be_bytes.ensures ∙ word-there s n (length s / 8) k _ _ c.as_rchunks.ensures.back (omega (arith, c.as_rchunks.ensures.back_len)) in
    let next : n + 8 * (k + 1) ≡ i + 8 = omega arith in
    rw (word, next) (turned w.a w.b w.c w.d i s (omega arith) each (omega arith) ∙ w.invariant)

pub returns : goal.returns
unfolding crc_from
returns c =
    let s : List ℕ = c.args.s.now in
    let w = c.loop-word in
    let done : length s ≤ length s % 8 + 8 * w.word-index = omega (arith, c.as_rchunks.ensures.back_len, c.loop-word-test.false) in
    c.by_table.ensures
    ∙ ended w.a w.b w.c w.d c.fold.result c.fold-2.result c.fold-3.result c.fold.ensures c.fold-2.ensures c.fold-3.ensures
    ∙ rw (drop_of_length-le s done) at w.invariant
