-- `listing::list::list` meets its contract: another form is refused, and a disc is listed.
-- Assumes nothing.
use Prim.Native.Nat.{ℕ, ◌+◌, ◌-◌, ◌≤◌}
use native.Mathlib.Omega.{arith}
use mathlib.Core.Path.{◌≡◌, refl, sym, ap, ap₂, ◌∙◌}
use mathlib.Core.Bool.{true}
use mathlib.Core.List.{List, ◌++◌}
use lib.ListN.{length, take, drop, replicate, length-drop}
use lib.Seq.{sets, length-take-le}
use Rattle.disc.specs.Disc.{lent}
use Rattle.listing.specs.Listing.{digits_of, image_of, formed, kinds_of, listed, listing}
use Rattle.listing.proofs.Input.{formed-length, too_short, no-count, not-formed, of-the-form, listing-short, front, behind}
use Rattle.listing.proofs.list.list.Goals as goal

-- the three things that are promised
told : {x y : List ℕ} {r : ℕ} (s : List ℕ) → x ≡ y → r ≡ length (listing s) → (x ≡ y) × (r ≡ length (listing s)) × (r ≤ 832)
told s p q = (p, q, omega (arith, q, listing-short s))

-- the digits are as many as the count, and so are the kinds
digits_long : (s : List ℕ) (n : ℕ) → formed n s ≡ true → length (take (9 + n - 9) (drop 9 s)) ≡ n
digits_long s n right =
    let some : 9 + n - 9 ≡ n = omega arith in
    length-take-le (9 + n - 9) (drop 9 s) (rw (length-drop 9 s) (omega (arith, formed-length n s right))) ∙ some

pub returns-then-input-lt9 : goal.returns-then-input-lt9
returns-then-input-lt9 c =
    let s : List ℕ = c.args.input.now in
    let line = too_short s c.if-input-lt9.true in
    told s (c.put_refused.ensures.0 ∙ ap (sets c.args.out.now 0) line) (c.put_refused.ensures.1 ∙ ap length line)

pub returns-in_default : goal.returns-in_default
returns-in_default c =
    let s : List ℕ = c.args.input.now in
    let line = no-count s (sym c.in_default.ensures.number) in
    told s (c.put_refused-in_default.ensures.0 ∙ ap (sets c.args.out.now 0) line) (c.put_refused-in_default.ensures.1 ∙ ap length line)

pub returns-then-not-is_formed : goal.returns-then-not-is_formed
returns-then-not-is_formed c =
    let s : List ℕ = c.args.input.now in
    let line = not-formed s (ap (λ (n : ℕ). formed n s) (sym c.in-Some.ensures.number) ∙ sym c.is_formed.ensures ∙ c.if-not-is_formed.true) in
    told s (c.put_refused-then-not-is_formed.ensures.0 ∙ ap (sets c.args.out.now 0) line) (c.put_refused-then-not-is_formed.ensures.1 ∙ ap length line)

pub slice_bounds-fill_kinds-end : goal.slice_bounds-fill_kinds-end
slice_bounds-fill_kinds-end c =
    let s : List ℕ = c.args.input.now in
    let n : ℕ = c.in-Some.n in
    let right : formed n s ≡ true = sym c.is_formed.ensures ∙ c.if-not-is_formed.false in
    omega (arith, formed-length n s right)

pub slice_bounds-put_listed-count : goal.slice_bounds-put_listed-count
slice_bounds-put_listed-count c =
    let s : List ℕ = c.args.input.now in
    let n : ℕ = c.in-Some.n in
    let right : formed n s ≡ true = sym c.is_formed.ensures ∙ c.if-not-is_formed.false in
    omega (arith, formed-length n s right)

pub slice_bounds-put_listed-start : goal.slice_bounds-put_listed-start
slice_bounds-put_listed-start c =
    let s : List ℕ = c.args.input.now in
    let n : ℕ = c.in-Some.n in
    let right : formed n s ≡ true = sym c.is_formed.ensures ∙ c.if-not-is_formed.false in
    omega (arith, formed-length n s right)

pub returns : goal.returns
returns c =
    let s : List ℕ = c.args.input.now in
    let n : ℕ = c.in-Some.n in
    let right : formed n s ≡ true = sym c.is_formed.ensures ∙ c.if-not-is_formed.false in
    let some : 9 + n - 9 ≡ n = omega arith in
    let digits : List ℕ = take (9 + n - 9) (drop 9 s) in
    let zeros : List ℕ = replicate 31 0 in
    let image : take (length s - (10 + n)) (drop (10 + n) s) ≡ image_of n s = behind s (10 + n) (length s) refl in
    let kinds : take (n - 0) (drop 0 (take 0 zeros ++ (c.fill_kinds.new.kinds ++ drop (n - 0) (drop 0 zeros)))) ≡ kinds_of (digits_of n s) =
    ap (λ (l : List ℕ). take (n - 0) (drop 0 (take 0 zeros ++ (l ++ drop (n - 0) (drop 0 zeros))))) c.fill_kinds.ensures
    ∙ front zeros digits n (digits_long s n right)
    ∙ ap (λ (k : ℕ). kinds_of (take k (drop 9 s))) some in
    let whole : listed (lent (image_of n s) (kinds_of (digits_of n s))) ≡ listing s =
    ap (λ (k : ℕ). listed (lent (image_of k s) (kinds_of (digits_of k s)))) c.in-Some.ensures.number
    ∙ of-the-form s (λ z. omega (arith, z, c.in-Some.ensures.number, c.in-Some.ensures.some.0)) (ap (λ (k : ℕ). formed k s) (sym c.in-Some.ensures.number) ∙ right) in
    let all = ap₂ (λ (i k : List ℕ). listed (lent i k)) image kinds ∙ whole in
    told s (c.put_listed.ensures.0 ∙ ap (sets c.args.out.now 0) all) (c.put_listed.ensures.1 ∙ ap length all)
