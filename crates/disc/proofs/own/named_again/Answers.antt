-- `disc::own::named_again` meets its contract: the kind decides first, then the bytes, which the map has or which are made; of the map's a first quarter, and of
-- those that are made the previous table, before the others.
-- Assumes nothing.
use Prim.Native.Nat.{ℕ, ◌+◌, ◌-◌, ◌*◌, ◌≤◌}
use native.Mathlib.Omega.{arith}
use mathlib.Core.Path.{◌≡◌, refl, sym, ap, ◌∙◌}
use mathlib.Core.Bool.{Bool, true, false, ◌&&◌}
use mathlib.Core.List.{List}
use lib.ListN.{length, take, drop}
use Rattle.le.specs.Bytes.{holds_text}
use Rattle.le.specs.Field.{words}
use Rattle.le.proofs.Runs.{AllBytes, all-bytes}
use Rattle.vat.specs.Table.{sector_length, bytes_of}
use Rattle.vat.specs.Sector.{table_bytes}
use Rattle.vat.specs.Own.{own_sector}
use Rattle.vat.proofs.Joined.{length-filled}
use Rattle.vat.proofs.Made.{entries-alone}
use Rattle.disc.specs.Disc.{Disc, lent, content}
use Rattle.disc.specs.Again.{same}
use Rattle.disc.proofs.Recording.{sized-tells}
use Rattle.disc.proofs.Pieces.{piece-short}
use Rattle.disc.proofs.Fresh.{text-parts, again-read, again-not}
use Rattle.disc.proofs.own.named_again.Goals as goal

pub returns-then-kinds-place : goal.returns-then-kinds-place
returns-then-kinds-place c =
    let D : Disc = lent c.args.image.now c.args.kinds.now in
    let S : List ℕ = own_sector (table_bytes (words c.args.n c.args.map.now 0) c.args.previous) c.args.i in
    let long : length S ≡ sector_length = length-filled (drop (sector_length * c.args.i) (table_bytes (words c.args.n c.args.map.now 0) c.args.previous)) in
    sym (again-not D c.args.o S long c.if-kinds-place.true)

pub holds_text-requires : goal.holds_text-requires
holds_text-requires c =
    let D : Disc = lent c.args.image.now c.args.kinds.now in
    let inside : sector_length * c.args.o + sector_length ≤ length c.args.image.now = omega (arith, (sized-tells D c.requires.0).whole, c.requires.1) in
    let first : ℕ = sector_length * c.args.i in
    omega (arith, inside, piece-short ((first + 512) - first) (drop first c.args.map.now))

pub returns-then-not-holds_text : goal.returns-then-not-holds_text
returns-then-not-holds_text c =
    let D : Disc = lent c.args.image.now c.args.kinds.now in
    let S : List ℕ = own_sector (table_bytes (words c.args.n c.args.map.now 0) c.args.previous) c.args.i in
    let long : length S ≡ sector_length = length-filled (drop (sector_length * c.args.i) (table_bytes (words c.args.n c.args.map.now 0) c.args.previous)) in
    let inside : sector_length * c.args.o + sector_length ≤ length c.args.image.now = omega (arith, (sized-tells D c.requires.0).whole, c.requires.1) in
    let bytes : AllBytes c.args.map.now = all-bytes c.args.map.now (λ k. omega (arith, c.type_inv.map k)) in
    let compared : (x : List ℕ) → x ≡ S → holds_text c.args.image.now (sector_length * c.args.o) x ≡ same (bytes_of (content D c.args.o)) S = λ x e. ap (holds_text c.args.image.now (sector_length * c.args.o)) e ∙ again-read D c.args.o S long c.if-kinds-place.false inside in
    let first-quarter : Bool = let a = c.args in holds_text a.image.now (sector_length * a.o) (take 512 (drop (sector_length * a.i) a.map.now)) in
    let others : Bool = let a = c.args in holds_text a.image.now (sector_length * a.o + 512) (take 1536 (drop (sector_length * a.i + 512) a.map.now)) in
    let both : (first-quarter && others) ≡ same (bytes_of (content D c.args.o)) S = let a = c.args in
    sym (text-parts 512 1536 a.image.now a.map.now (sector_length * a.o) (sector_length * a.i) (omega (arith, c.if-end-n.true, c.requires.2)))
    ∙ compared (take sector_length (drop (sector_length * a.i) a.map.now))
    (sym (entries-alone a.n a.i a.map.now a.previous bytes c.requires.2 (omega (arith, c.if-end-n.true)))) in
    let first-told : c.holds_text.result ≡ first-quarter = let a = c.args in
    let first : ℕ = sector_length * a.i in
    let count : (first + 512) - first ≡ 512 = omega arith in
    c.holds_text.ensures ∙ ap (λ (k : ℕ). holds_text a.image.now (sector_length * a.o) (take k (drop first a.map.now))) count in
    let other : first-quarter ≡ false = sym first-told ∙ c.if-not-holds_text.true in
    sym (sym both ∙ ap (λ (u : Bool). u && others) other)

pub holds_text-requires-then-end-n : goal.holds_text-requires-then-end-n
holds_text-requires-then-end-n c =
    let D : Disc = lent c.args.image.now c.args.kinds.now in
    let inside : sector_length * c.args.o + sector_length ≤ length c.args.image.now = omega (arith, (sized-tells D c.requires.0).whole, c.requires.1) in
    let first : ℕ = sector_length * c.args.i in
    omega (arith, inside, piece-short ((first + sector_length) - (first + 512)) (drop (first + 512) c.args.map.now))

pub returns-then-end-n : goal.returns-then-end-n
returns-then-end-n c =
    let D : Disc = lent c.args.image.now c.args.kinds.now in
    let S : List ℕ = own_sector (table_bytes (words c.args.n c.args.map.now 0) c.args.previous) c.args.i in
    let long : length S ≡ sector_length = length-filled (drop (sector_length * c.args.i) (table_bytes (words c.args.n c.args.map.now 0) c.args.previous)) in
    let inside : sector_length * c.args.o + sector_length ≤ length c.args.image.now = omega (arith, (sized-tells D c.requires.0).whole, c.requires.1) in
    let bytes : AllBytes c.args.map.now = all-bytes c.args.map.now (λ k. omega (arith, c.type_inv.map k)) in
    let compared : (x : List ℕ) → x ≡ S → holds_text c.args.image.now (sector_length * c.args.o) x ≡ same (bytes_of (content D c.args.o)) S = λ x e. ap (holds_text c.args.image.now (sector_length * c.args.o)) e ∙ again-read D c.args.o S long c.if-kinds-place.false inside in
    let first-quarter : Bool = let a = c.args in holds_text a.image.now (sector_length * a.o) (take 512 (drop (sector_length * a.i) a.map.now)) in
    let others : Bool = let a = c.args in holds_text a.image.now (sector_length * a.o + 512) (take 1536 (drop (sector_length * a.i + 512) a.map.now)) in
    let both : (first-quarter && others) ≡ same (bytes_of (content D c.args.o)) S = let a = c.args in
    sym (text-parts 512 1536 a.image.now a.map.now (sector_length * a.o) (sector_length * a.i) (omega (arith, c.if-end-n.true, c.requires.2)))
    ∙ compared (take sector_length (drop (sector_length * a.i) a.map.now))
    (sym (entries-alone a.n a.i a.map.now a.previous bytes c.requires.2 (omega (arith, c.if-end-n.true)))) in
    let first-told : c.holds_text.result ≡ first-quarter = let a = c.args in
    let first : ℕ = sector_length * a.i in
    let count : (first + 512) - first ≡ 512 = omega arith in
    c.holds_text.ensures ∙ ap (λ (k : ℕ). holds_text a.image.now (sector_length * a.o) (take k (drop first a.map.now))) count in
    let a = c.args in
    let first : ℕ = sector_length * a.i in
    let count : (first + sector_length) - (first + 512) ≡ 1536 = omega arith in
    let same_first : first-quarter ≡ true = sym first-told ∙ c.if-not-holds_text.false in
    c.holds_text-then-end-n.ensures
    ∙ ap (λ (k : ℕ). holds_text a.image.now (sector_length * a.o + 512) (take k (drop (first + 512) a.map.now))) count
    ∙ sym (ap (λ (u : Bool). u && others) same_first)
    ∙ both

pub names_other-requires : goal.names_other-requires
names_other-requires c =
    let D : Disc = lent c.args.image.now c.args.kinds.now in
    let inside : sector_length * c.args.o + sector_length ≤ length c.args.image.now = omega (arith, (sized-tells D c.requires.0).whole, c.requires.1) in
    (inside, c.requires.3, c.requires.4, omega (arith, c.if-end-n.false))

pub returns-then-names_other : goal.returns-then-names_other
returns-then-names_other c =
    let D : Disc = lent c.args.image.now c.args.kinds.now in
    let S : List ℕ = own_sector (table_bytes (words c.args.n c.args.map.now 0) c.args.previous) c.args.i in
    let long : length S ≡ sector_length = length-filled (drop (sector_length * c.args.i) (table_bytes (words c.args.n c.args.map.now 0) c.args.previous)) in
    let inside : sector_length * c.args.o + sector_length ≤ length c.args.image.now = omega (arith, (sized-tells D c.requires.0).whole, c.requires.1) in
    let compared : (x : List ℕ) → x ≡ S → holds_text c.args.image.now (sector_length * c.args.o) x ≡ same (bytes_of (content D c.args.o)) S = λ x e. ap (holds_text c.args.image.now (sector_length * c.args.o)) e ∙ again-read D c.args.o S long c.if-kinds-place.false inside in
    sym (sym (compared S refl) ∙ c.names_other.ensures c.args.map.now c.if-names_other.true)

pub holds_text-requires-2 : goal.holds_text-requires-2
holds_text-requires-2 c =
    let D : Disc = lent c.args.image.now c.args.kinds.now in
    let S : List ℕ = own_sector (table_bytes (words c.args.n c.args.map.now 0) c.args.previous) c.args.i in
    let long : length S ≡ sector_length = length-filled (drop (sector_length * c.args.i) (table_bytes (words c.args.n c.args.map.now 0) c.args.previous)) in
    let inside : sector_length * c.args.o + sector_length ≤ length c.args.image.now = omega (arith, (sized-tells D c.requires.0).whole, c.requires.1) in
    let whole : length c.own_sector.new.s ≡ sector_length = ap length c.own_sector.ensures ∙ long in
    omega (arith, inside, whole)

pub returns : goal.returns
returns c =
    let D : Disc = lent c.args.image.now c.args.kinds.now in
    let S : List ℕ = own_sector (table_bytes (words c.args.n c.args.map.now 0) c.args.previous) c.args.i in
    let long : length S ≡ sector_length = length-filled (drop (sector_length * c.args.i) (table_bytes (words c.args.n c.args.map.now 0) c.args.previous)) in
    let inside : sector_length * c.args.o + sector_length ≤ length c.args.image.now = omega (arith, (sized-tells D c.requires.0).whole, c.requires.1) in
    let compared : (x : List ℕ) → x ≡ S → holds_text c.args.image.now (sector_length * c.args.o) x ≡ same (bytes_of (content D c.args.o)) S = λ x e. ap (holds_text c.args.image.now (sector_length * c.args.o)) e ∙ again-read D c.args.o S long c.if-kinds-place.false inside in
    c.holds_text-2.ensures ∙ compared c.own_sector.new.s c.own_sector.ensures
