-- `disc::bytes::is_table` meets its contract: each test decides, if those before it have passed.
-- Assumes nothing.
use Prim.Native.Nat.{ℕ}
use native.Mathlib.Omega.{arith}
use mathlib.Core.Path.{◌≡◌, sym, ap, ◌∙◌}
use mathlib.Core.Bool.{true}
use mathlib.Core.List.{List}
use Rattle.le.specs.Bytes.{every}
use Rattle.le.specs.Field.{words}
use Rattle.vat.specs.Table.{unused_or_below, Lower, own_of, framed, laid, table_of, entry_count, entries_of, enclosed}
use Rattle.vat.proofs.Frame.{framed-tells}
use Rattle.disc.specs.Disc.{Disc, lent}
use Rattle.disc.specs.Tables.{below}
use Rattle.disc.proofs.Found.{not-framed, not-laid, not-enclosed, not-held, all-but-sums}
use Rattle.disc.proofs.Forms.{sums-within}
use Rattle.disc.proofs.bytes.is_table.Goals as goal

pub returns-then-not-framed : goal.returns-then-not-framed
returns-then-not-framed c =
    let D : Disc = lent c.args.image.now c.args.kinds.now in
    let S : List ℕ = c.args.s.now in
    let lower : Lower = below D c.args.b in
    sym (not-framed lower S c.args.b (sym c.framed.ensures ∙ c.if-not-framed.true))

pub laid-requires : goal.laid-requires
laid-requires c =
    let S : List ℕ = c.args.s.now in
    let frame : framed S c.args.b ≡ true = sym c.framed.ensures ∙ c.if-not-framed.false in
    (c.requires.1, c.requires.2, frame)

pub returns-then-not-laid : goal.returns-then-not-laid
returns-then-not-laid c =
    let D : Disc = lent c.args.image.now c.args.kinds.now in
    let S : List ℕ = c.args.s.now in
    let lower : Lower = below D c.args.b in
    sym (not-laid lower S c.args.b (sym (c.laid.ensures c.args.image.now) ∙ c.if-not-laid.true))

pub enclosed-requires : goal.enclosed-requires
enclosed-requires c =
    let S : List ℕ = c.args.s.now in
    let frame : framed S c.args.b ≡ true = sym c.framed.ensures ∙ c.if-not-framed.false in
    let own : (image : List ℕ) → laid (below (lent image c.args.kinds.now) c.args.b) (own_of S) ≡ true = λ image. sym (c.laid.ensures image) ∙ c.if-not-laid.false in
    (c.requires.0, c.requires.1, c.requires.2, frame, own c.args.image.now)

pub returns-then-not-enclosed : goal.returns-then-not-enclosed
returns-then-not-enclosed c =
    let D : Disc = lent c.args.image.now c.args.kinds.now in
    let S : List ℕ = c.args.s.now in
    let lower : Lower = below D c.args.b in
    sym (not-enclosed lower S c.args.b (sym c.enclosed.ensures ∙ c.if-not-enclosed.true))

pub entry_count-n-requires : goal.entry_count-n-requires
entry_count-n-requires c =
    let S : List ℕ = c.args.s.now in
    let frame : framed S c.args.b ≡ true = sym c.framed.ensures ∙ c.if-not-framed.false in
    let own : (image : List ℕ) → laid (below (lent image c.args.kinds.now) c.args.b) (own_of S) ≡ true = λ image. sym (c.laid.ensures image) ∙ c.if-not-laid.false in
    (c.requires.1, c.requires.2, frame, own)

pub entries_held-requires : goal.entries_held-requires
entries_held-requires c =
    let D : Disc = lent c.args.image.now c.args.kinds.now in
    let S : List ℕ = c.args.s.now in
    let lower : Lower = below D c.args.b in
    let T : List ℕ = table_of lower S in
    let frame : framed S c.args.b ≡ true = sym c.framed.ensures ∙ c.if-not-framed.false in
    let own : (image : List ℕ) → laid (below (lent image c.args.kinds.now) c.args.b) (own_of S) ≡ true = λ image. sym (c.laid.ensures image) ∙ c.if-not-laid.false in
    let count : c.entry_count-n.result ≡ entry_count T = c.entry_count-n.ensures c.args.image.now c.requires.0 in
    (c.requires.0, c.requires.1, c.requires.2, frame, own c.args.image.now, omega (arith, count))

pub returns-then-not-entries_held : goal.returns-then-not-entries_held
unfolding entries_of
returns-then-not-entries_held c =
    let D : Disc = lent c.args.image.now c.args.kinds.now in
    let S : List ℕ = c.args.s.now in
    let lower : Lower = below D c.args.b in
    let T : List ℕ = table_of lower S in
    let count : c.entry_count-n.result ≡ entry_count T = c.entry_count-n.ensures c.args.image.now c.requires.0 in
    let entries : c.entries_held.result ≡ every (unused_or_below c.args.b) (entries_of T) = c.entries_held.ensures ∙ ap (λ (k : ℕ). every (unused_or_below c.args.b) (words k T 0)) count in
    sym (not-held lower S c.args.b (sym entries ∙ c.if-not-entries_held.true))

pub sealed-requires : goal.sealed-requires
sealed-requires c =
    let S : List ℕ = c.args.s.now in
    let frame : framed S c.args.b ≡ true = sym c.framed.ensures ∙ c.if-not-framed.false in
    sums-within S c.args.b c.requires.2 (framed-tells S c.args.b frame)

pub returns : goal.returns
unfolding entries_of
returns c =
    let D : Disc = lent c.args.image.now c.args.kinds.now in
    let S : List ℕ = c.args.s.now in
    let lower : Lower = below D c.args.b in
    let T : List ℕ = table_of lower S in
    let frame : framed S c.args.b ≡ true = sym c.framed.ensures ∙ c.if-not-framed.false in
    let own : (image : List ℕ) → laid (below (lent image c.args.kinds.now) c.args.b) (own_of S) ≡ true = λ image. sym (c.laid.ensures image) ∙ c.if-not-laid.false in
    let around : enclosed T c.args.b ≡ true = sym c.enclosed.ensures ∙ c.if-not-enclosed.false in
    let count : c.entry_count-n.result ≡ entry_count T = c.entry_count-n.ensures c.args.image.now c.requires.0 in
    let entries : c.entries_held.result ≡ every (unused_or_below c.args.b) (entries_of T) = c.entries_held.ensures ∙ ap (λ (k : ℕ). every (unused_or_below c.args.b) (words k T 0)) count in
    c.sealed.ensures
    ∙ sym (all-but-sums lower S c.args.b c.requires.2 frame (own c.args.image.now) around (sym entries ∙ c.if-not-entries_held.false))
