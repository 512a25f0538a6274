-- A run's bytes, piece by piece: what one extent gives, and what is left to show behind it.
-- Assumes nothing.
use Prim.Native.Nat.{ℕ, zero, suc, ◌+◌, ◌-◌, ◌*◌, ◌≤◌, min}
use native.Mathlib.Nat.{zero-min, min-zero, suc-min-suc}
use native.Mathlib.Omega.{arith}
use mathlib.Core.Path.{◌≡◌, refl, sym, ap, ap₂, ◌∙◌}
use mathlib.Core.List.{List, [], ◌∷◌, ◌++◌, append-nil, append_assoc}
use lib.ListN.{length, take, drop, length-append, length-take, length-drop, take-append-drop}
use lib.Seq.{sets, take-nil, drop-nil, drop-drop, length-take-le, take_at, drop_at, sets-eq}
use Rattle.vat.specs.Table.{sector_length}
use Rattle.extent.specs.declared.Extent.{Extent}
use Rattle.disc.specs.Disc.{Disc, lent}
use Rattle.run.specs.Entry.{extent_bytes, run_bytes}
use Rattle.run.specs.View.{filled_with}

-- ---- lists

drop-append : (n : ℕ) (xs ys : List ℕ) → drop n (xs ++ ys) ≡ drop n xs ++ drop (n - length xs) ys
drop-append zero [] ys = refl
drop-append zero (x ∷ xs) ys = let z : 0 - suc (length xs) ≡ 0 = omega arith in rw z
drop-append (suc n) [] ys = let z : suc n - 0 ≡ suc n = omega arith in rw z
drop-append (suc n) (x ∷ xs) ys =
    let z : suc n - suc (length xs) ≡ n - length xs = omega arith in
    drop-append n xs ys ∙ ap (λ (k : ℕ). drop n xs ++ drop k ys) (sym z)

take-append : (n : ℕ) (xs ys : List ℕ) → take n (xs ++ ys) ≡ take n xs ++ take (n - length xs) ys
take-append zero [] ys = refl
take-append zero (x ∷ xs) ys = let z : 0 - suc (length xs) ≡ 0 = omega arith in rw z
take-append (suc n) [] ys = let z : suc n - 0 ≡ suc n = omega arith in rw z
take-append (suc n) (x ∷ xs) ys =
    let z : suc n - suc (length xs) ≡ n - length xs = omega arith in
    ap (λ (l : List ℕ). x ∷ l) (take-append n xs ys ∙ ap (λ (k : ℕ). take n xs ++ take k ys) (sym z))

drop-take : (m n : ℕ) (xs : List ℕ) → drop m (take n xs) ≡ take (n - m) (drop m xs)
drop-take zero n xs = let z : n - 0 ≡ n = omega arith in rw z
drop-take (suc m) zero xs = let z : 0 - suc m ≡ 0 = omega arith in rw z
drop-take (suc m) (suc n) [] = sym (take-nil (suc n - suc m))
drop-take (suc m) (suc n) (x ∷ xs) = let z : suc n - suc m ≡ n - m = omega arith in drop-take m n xs ∙ ap (λ (k : ℕ). take k (drop m xs)) (sym z)

take_min : (m n : ℕ) (xs : List ℕ) → take m (take n xs) ≡ take (min m n) xs
take_min zero n xs = ap (λ (k : ℕ). take k xs) (sym (zero-min n))
take_min (suc m) zero xs = ap (λ (k : ℕ). take k xs) (sym (min-zero (suc m)))
take_min (suc m) (suc n) [] = sym (take-nil (min (suc m) (suc n)))
take_min (suc m) (suc n) (x ∷ xs) = ap (λ (l : List ℕ). x ∷ l) (take_min m n xs) ∙ ap (λ (k : ℕ). take k (x ∷ xs)) (sym (suc-min-suc m n))

-- ---- one extent

module _ (d : Disc) (e : Extent) where
  -- the part of it that is shown, in the image
  shown-part : (skip room : ℕ) → take room (drop skip (extent_bytes d e)) ≡ take (min room (e.length - skip)) (drop (sector_length * e.location + skip) d.image)
  unfolding extent_bytes
  shown-part skip room =
      let at : ℕ = sector_length * e.location in
      ap (take room) (drop-take skip e.length (drop at d.image))
      ∙ take_min room (e.length - skip) (drop skip (drop at d.image))
      ∙ ap (take (min room (e.length - skip))) (drop-drop skip at d.image)

  pub part-shown : (skip room n : ℕ) → n ≡ min room (e.length - skip)
      → take ((sector_length * e.location + skip + n) - (sector_length * e.location + skip)) (drop (sector_length * e.location + skip) d.image) ≡ take room (drop skip (extent_bytes d e))
  part-shown skip room n z =
      let at : ℕ = sector_length * e.location + skip in
      let same : (at + n) - at ≡ min room (e.length - skip) = omega (arith, z) in
      ap (λ (k : ℕ). take k (drop at d.image)) same ∙ sym (shown-part skip room)

  module _ (inside : sector_length * e.location + e.length ≤ length d.image) where
    pub extent-long : length (extent_bytes d e) ≡ e.length
    unfolding extent_bytes
    extent-long =
        let at : ℕ = sector_length * e.location in
        length-take-le e.length (drop at d.image) (omega (arith, length-drop at d.image))

    pub shown-length : (skip room : ℕ) → length (take room (drop skip (extent_bytes d e))) ≡ min room (e.length - skip)
    shown-length skip room =
        length-take room (drop skip (extent_bytes d e))
        ∙ ap (min room) (length-drop skip (extent_bytes d e) ∙ ap (λ (k : ℕ). k - skip) extent-long)

    -- what a run shows is what its first extent gives, and then what the others show
    pub shown-next : (es : List Extent) (skip room : ℕ)
        → take room (drop skip (run_bytes d (e ∷ es)))
        ≡ take room (drop skip (extent_bytes d e)) ++ take (room - length (take room (drop skip (extent_bytes d e)))) (drop (skip - e.length) (run_bytes d es))
    unfolding run_bytes
    shown-next es skip room =
        let x : List ℕ = extent_bytes d e in
        let y : List ℕ = run_bytes d es in
        let left : room - length (drop skip x) ≡ room - length (take room (drop skip x)) = omega (arith, length-take room (drop skip x)) in
        ap (take room) (drop-append skip x y ∙ ap (λ (k : ℕ). drop skip x ++ drop (skip - k) y) extent-long)
        ∙ take-append room (drop skip x) (drop (skip - e.length) y)
        ∙ ap (λ (k : ℕ). take room (drop skip x) ++ take k (drop (skip - e.length) y)) left

-- the kinds do not matter to the bytes
pub of_image : (image kinds : List ℕ) (es : List Extent) → run_bytes (lent image []) es ≡ run_bytes (lent image kinds) es
unfolding extent_bytes run_bytes
of_image image kinds [] = refl
of_image image kinds (e ∷ es) = ap (λ (x : List ℕ). extent_bytes (lent image []) e ++ x) (of_image image kinds es)

-- ---- the buffer

-- a piece put behind what is filled; of an empty one nothing changes
pub put-nothing : (buffer piece : List ℕ) (filled : ℕ) → length piece ≡ 0 → buffer ≡ take filled buffer ++ (piece ++ drop filled buffer)
put-nothing buffer [] filled z = sym (take-append-drop filled buffer)
put-nothing buffer (x ∷ xs) filled z = absurd (omega arith)

pub put-piece : (buffer piece : List ℕ) (filled n : ℕ) → length piece ≡ n → filled + n ≤ length buffer
    → sets buffer filled piece ≡ take filled buffer ++ (piece ++ drop (filled + n) buffer)
put-piece buffer piece filled n z h =
    sets-eq piece buffer filled (omega arith)
    ∙ append_assoc (take filled buffer) piece (drop (filled + length piece) buffer)
    ∙ ap (λ (k : ℕ). take filled buffer ++ (piece ++ drop (filled + k) buffer)) z

-- how far the buffer is filled, and what is still to be shown of the extents that are left: together all that is to be shown
abbrev pub Filled : List ℕ → List ℕ → Disc → List Extent → List ℕ → ℕ → ℕ → Type 0
Filled buffer₀ all d es buffer skip filled =
    (length buffer ≡ length buffer₀)
    × (filled ≤ length buffer₀)
    × (drop filled buffer ≡ drop filled buffer₀)
    × (take filled buffer ++ take (length buffer₀ - filled) (drop skip (run_bytes d es)) ≡ all)

module _ (buffer₀ all : List ℕ) (d : Disc) (e : Extent) (es : List Extent) (inside : sector_length * e.location + e.length ≤ length d.image) where
  pub filled-turn : (buffer : List ℕ) (skip filled : ℕ) → Filled buffer₀ all d (e ∷ es) buffer skip filled → (r : ℕ) (buffer' : List ℕ)
      → let given : List ℕ = take (length buffer - filled) (drop skip (extent_bytes d e)) in
      r ≡ filled + length given → buffer' ≡ take filled buffer ++ (given ++ drop r buffer) → Filled buffer₀ all d es buffer' (skip - e.length) r
  filled-turn buffer skip filled f r buffer' at put =
      let room : ℕ = length buffer - filled in
      let given : List ℕ = take room (drop skip (extent_bytes d e)) in
      let front : List ℕ = take filled buffer in
      let few : length given ≤ room = omega (arith, length-take room (drop skip (extent_bytes d e))) in
      let joined : buffer' ≡ (front ++ given) ++ drop r buffer = put ∙ sym (append_assoc front given (drop r buffer)) in
      let reach : length (front ++ given) ≡ r = length-append front given ∙ ap (λ (k : ℕ). k + length given) (length-take-le filled buffer (omega (arith, f.0, f.1))) ∙ sym at in
      let rest : List ℕ = drop (skip - e.length) (run_bytes d es) in
      let left : length buffer₀ - r ≡ room - length given = omega (arith, at, f.0) in
      let same-room : length buffer₀ - filled ≡ room = omega (arith, f.0) in (
        ap length joined ∙ length-append (front ++ given) (drop r buffer) ∙ omega (arith, reach, length-drop r buffer, at, few, f.0, f.1),
        omega (arith, at, few, f.0, f.1),
        ap (drop r) joined ∙ drop_at (front ++ given) (drop r buffer) r reach
            ∙ ap (λ (k : ℕ). drop k buffer) at ∙ sym (drop-drop (length given) filled buffer) ∙ ap (drop (length given)) f.2 ∙ drop-drop (length given) filled buffer₀ ∙ ap (λ (k : ℕ). drop k buffer₀) (sym at),
        ap₂ (λ (x : List ℕ) (k : ℕ). x ++ take k rest) (ap (take r) joined ∙ take_at (front ++ given) (drop r buffer) r reach) left
            ∙ append_assoc front given (take (room - length given) rest)
            ∙ ap (λ (x : List ℕ). front ++ x) (sym (shown-next d e inside es skip room))
            ∙ ap (λ (k : ℕ). front ++ take k (drop skip (run_bytes d (e ∷ es)))) (sym same-room)
            ∙ f.3,
      )

pub filled-end : (buffer₀ all : List ℕ) (d : Disc) (buffer : List ℕ) (skip filled : ℕ) → Filled buffer₀ all d [] buffer skip filled → (filled ≡ length all) × (buffer ≡ filled_with all buffer₀)
unfolding run_bytes
filled-end buffer₀ all d buffer skip filled f =
    let none : take (length buffer₀ - filled) (drop skip []) ≡ [] = ap (take (length buffer₀ - filled)) (drop-nil skip) ∙ take-nil (length buffer₀ - filled) in
    let whole : take filled buffer ≡ all = sym (append-nil (take filled buffer)) ∙ ap (λ (x : List ℕ). take filled buffer ++ x) (sym none) ∙ f.3 in
    let long : filled ≡ length all = sym (length-take-le filled buffer (omega (arith, f.0, f.1))) ∙ ap length whole in
    (long, sym (take-append-drop filled buffer) ∙ ap₂ (λ (x y : List ℕ). x ++ y) whole (f.2 ∙ ap (λ (k : ℕ). drop k buffer₀) long))
