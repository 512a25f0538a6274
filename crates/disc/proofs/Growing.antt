-- Sectors recorded one after another at the end of what is recorded: what lies below reads the same, and data can be read.
--     puts-grew                                          so many sectors more are recorded
--     data-kept, data-recorded, data-below, plain-reads  what data does
-- Assumes nothing.
use Prim.Native.Nat.{ℕ, suc, ◌+◌, ◌≤◌, ◌<◌}
use native.Mathlib.Nat.{add-zero}
use native.Mathlib.Numerals.{add-one}
use native.Mathlib.Omega.{arith}
use mathlib.Core.Path.{◌≡◌, refl, sym, ap₂, ◌∙◌, subst}
use mathlib.Core.List.{List, [], ◌∷◌}
use Rattle.std.specs.Prelude.{Some}
use lib.Dec.{eqb}
use lib.ListN.{length}
use borrow.Author.Tests.{lt-ltb}
use Rattle.vat.specs.Table.{sector_length}
use Rattle.disc.specs.Disc.{Disc, recorded, kind_at, readable, content, Sector, plain, put, puts}
use Rattle.disc.specs.Tables.{below}
use Rattle.disc.proofs.Recording.{Sound, AllWhole, Recorded, put-recorded, plain_here, kind-recorded}
use Rattle.disc.proofs.Told.{data-there, SameBelow}

-- n sectors more are recorded, and what was recorded reads the same
pub record Grew (d d' : Disc) (n : ℕ) : Type 0 where
  pub kept : SameBelow d d' (recorded d)
  pub still-sound : Sound d'
  pub same_length : length d'.kinds ≡ length d.kinds
  pub counted : recorded d' ≡ recorded d + n

pub one_kept : {d d' : Disc} {s : Sector} → Recorded d d' s → SameBelow d d' (recorded d)
unfolding content
one_kept r b low = ap₂ (λ (k : ℕ) (x : List ℕ). readable (eqb k 1) x) (r.kinds_kept b low) (r.sectors-kept b low)

pub puts-grew : (ss : List Sector) (d : Disc) → Sound d → recorded d + length ss ≤ length d.kinds → AllWhole ss → Grew d (puts d (recorded d) ss) (length ss)
unfolding puts
puts-grew [] d ok room w = record { kept = λ b low. refl; still-sound = ok; same_length = refl; counted = sym (add-zero (recorded d)) }
puts-grew (s ∷ ss) d ok room w =
    let here : recorded d < length d.kinds = omega arith in
    let d₁ : Disc = put d (recorded d) s in
    let r : Recorded d d₁ s = put-recorded d ok here s w.0 in
    let next : recorded d + 1 ≡ recorded d₁ = add-one (recorded d) ∙ sym r.one_more in
    let more : Grew d₁ (puts d₁ (recorded d₁) ss) (length ss) = puts-grew ss d₁ r.still-sound (omega (arith, r.one_more, r.same_length)) w.1 in
    subst (λ (b : ℕ). Grew d (puts d₁ b ss) (suc (length ss))) (sym next)
    (record {
      kept = λ b low. more.kept b (omega (arith, r.one_more)) ∙ one_kept r b low;
      still-sound = more.still-sound;
      same_length = more.same_length ∙ r.same_length;
      counted = more.counted ∙ omega (arith, r.one_more);
    })

-- ---- data

pub data-recorded : (d : Disc) → Sound d → (b : ℕ) (s : List ℕ) → content d b ≡ Some s → b < recorded d
data-recorded d ok b s e = kind-recorded d ok b (λ z. let one : kind_at d b ≡ 1 = (data-there d b s e).0 in omega arith)

pub data-kept : (d d' : Disc) → Sound d → SameBelow d d' (recorded d) → (b : ℕ) (s : List ℕ) → content d b ≡ Some s → content d' b ≡ Some s
data-kept d d' ok kept b s e = kept b (data-recorded d ok b s e) ∙ e

-- data of a lower block can be read below block c
pub data-below : (d : Disc) (c b : ℕ) (s : List ℕ) → b < c → content d b ≡ Some s → below d c b ≡ Some s
unfolding content
data-below d c b s h e = rw (lt-ltb b c h) e

pub plain-reads : (d : Disc) → Sound d → recorded d < length d.kinds → (s : List ℕ) → length s ≡ sector_length → content (put d (recorded d) (plain s)) (recorded d) ≡ Some s
unfolding content
plain-reads d ok room s w =
    ap₂ (λ (k : ℕ) (t : List ℕ). readable (eqb k 1) t) (put-recorded d ok room (plain s) w).its-kind (plain_here d ok room s w)
