-- `roles::named` meets its contract: what was found so far, and what is left of both halves of the map, make the answer.
-- Assumes nothing.
use Prim.Native.Nat.{ℕ, ◌+◌, ◌-◌, ◌/◌, ◌<◌}
use native.Mathlib.Omega.{arith}
use mathlib.Core.Path.{◌≡◌, sym, ap, ap₂, ◌∙◌}
use mathlib.Core.Bool.{Bool, ◌&&◌, ◌||◌, not, not-not}
use mathlib.Core.List.{List}
use lib.Dec.{eqb}
use lib.ListN.{length, get_or}
use Rattle.le.specs.Bytes.{every}
use Rattle.vat.specs.Table.{unused}
use Rattle.le.proofs.Halves.{left_of, pair-taken, all_left, none_left}
use Rattle.volume.specs.Volume.{unpack, map_of}
use Rattle.volume.proofs.State.{long-unpack, length-map}
use Rattle.roles.proofs.Roles.{differs, names-every, neither}
use Rattle.roles.proofs.Naming.{map-entry}
use Rattle.roles.proofs.named.Goals as goal

pub loop-n-init : goal.loop-n-init
loop-n-init c =
    let half : ℕ = c.size-size.result / 2 in
    all_left (differs c.args.b) (map_of (unpack c.args.ledger.now)) half (c.size-size.result - half) (omega arith)

pub loop-n-preserved : goal.loop-n-preserved
loop-n-preserved c =
    let L : List ℕ = c.args.ledger.now in
    let B : ℕ = c.args.b in
    let map : List ℕ = map_of (unpack L) in
    let half : ℕ = c.size-size.result / 2 in
    let turns : ℕ = c.size-size.result - half in
    let halved : half + turns ≡ length map = omega (arith, c.size-size.ensures, length-map (unpack L) (omega (arith, c.requires.1, long-unpack L))) in
    let told : (n x : ℕ) → n < c.size-size.result → x ≡ get_or (unpack L).entries n unused → x ≡ get_or map n 0 = λ n x h e. e ∙ map-entry L n (omega (arith, c.size-size.ensures)) c.requires.1 in
    let l = c.loop-n in
    let f : ℕ → Bool = differs B in
    let held : not (l.found || (eqb c.entry.result B || eqb c.entry-in-loop-n.result B)) ≡ (not l.found && (f (get_or map l.n 0) && f (get_or map (half + l.n) 0))) =
    neither l.found (eqb c.entry.result B) (eqb c.entry-in-loop-n.result B)
    ∙ ap₂ (λ (x y : ℕ). not l.found && (f x && f y))
    (told l.n c.entry.result (omega arith) c.entry.ensures) (told (half + l.n) c.entry-in-loop-n.result (omega arith) c.entry-in-loop-n.ensures) in
    ap (left_of f map half turns (l.n + 1)) held ∙ pair-taken f map half turns l.n (not l.found) (omega arith) halved ∙ l.invariant

pub returns : goal.returns
returns c =
    let L : List ℕ = c.args.ledger.now in
    let B : ℕ = c.args.b in
    let map : List ℕ = map_of (unpack L) in
    let half : ℕ = c.size-size.result / 2 in
    let turns : ℕ = c.size-size.result - half in
    let halved : half + turns ≡ length map = omega (arith, c.size-size.ensures, length-map (unpack L) (omega (arith, c.requires.1, long-unpack L))) in
    let l = c.loop-n in
    let f : ℕ → Bool = differs B in
    let all : not l.found ≡ every f map = sym (none_left f map half turns l.n (not l.found) (omega arith) halved) ∙ l.invariant in
    sym (not-not l.found) ∙ ap not all ∙ sym (names-every map B)
