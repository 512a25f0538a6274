-- The own sectors of a save one after another, as their blocks are settled and as those that are not named again are recorded: from own sector i on what is left,
-- and one turn of each loop.
--     again-taken  whether the next one is named again
--     Planned      the blocks of the first i are settled
--     Recording    of the first i those that are not named again are recorded
--     own-inside   each of them holds some bytes of its table
-- Assumes nothing.
use Prim.Native.Nat.{ℕ, zero, suc, ◌+◌, ◌-◌, ◌*◌, ◌≤◌, ◌<◌}
use native.Mathlib.Numerals.{add-one}
use native.Mathlib.Omega.{arith}
use mathlib.Core.Path.{◌≡◌, refl, sym, ap, ap₂, ◌∙◌, subst}
use mathlib.Core.Bool.{Bool, true, false, ◌&&◌}
use mathlib.Core.List.{List, [], ◌∷◌, ◌++◌, append-nil}
use Rattle.std.specs.Prelude.{Option, None}
use lib.Dec.{ltb}
use lib.ListN.{length, take, drop, get_or, set, length-set, drop_of_length-le}
use lib.Seq.{drop-cons, take-suc-set, append_snoc}
use borrow.Author.Tests.{ltb-true, ltb-false}
use Rattle.le.specs.Field.{words}
use Rattle.le.proofs.Rows.{and_right}
use Rattle.le.proofs.Runs.{length-words}
use Rattle.vat.specs.Table.{sector_length, most_own, limit, Lower, bytes_of, table_length}
use Rattle.vat.specs.Sector.{table_bytes}
use Rattle.vat.specs.Own.{own_sector, sectors_of, own_count, own_sectors}
use Rattle.vat.proofs.Record.{length-table}
use Rattle.vat.proofs.Joined.{length-filled, sectors-on}
use Rattle.vat.proofs.Theorems.{some-own, few-own, limit-held}
use Rattle.disc.specs.Disc.{Disc, recorded, content, plain, put, puts}
use Rattle.disc.specs.Tables.{named_by}
use Rattle.disc.specs.Again.{same, again_if, named_again, own_blocks, fresh, again_of, fresh_of, plains}
use Rattle.disc.proofs.Recording.{Sound}
use Rattle.disc.proofs.Growing.{data-recorded}
use Rattle.disc.proofs.Fresh.{same_true, read-there}

-- ---- what is left

-- of m own sectors those from number i on, and which of them are named again
abbrev pub sectors_left : List ℕ → ℕ → ℕ → List (List ℕ)
sectors_left t m i = sectors_of (m - i) (drop (sector_length * i) t)

abbrev pub again_left : Disc → List ℕ → ℕ → ℕ → ℕ → List (Option ℕ)
again_left d t previous m i = named_again (content d) (drop i (named_by d previous)) (sectors_left t m i)

abbrev pub fresh_left : Disc → List ℕ → ℕ → ℕ → ℕ → List (List ℕ)
fresh_left d t previous m i = fresh (again_left d t previous m i) (sectors_left t m i)

-- own sector i is named again: it stands at its place in the previous table
abbrev pub is_again : Disc → List ℕ → ℕ → ℕ → Bool
is_again d t previous i = ltb i (length (named_by d previous)) && same (bytes_of (content d (get_or (named_by d previous) i 0))) (own_sector t i)

-- the next of the blocks that the previous table names, if there is one
old-taken : (lower : Lower) (olds s : List ℕ) (ss : List (List ℕ)) (i : ℕ)
    → named_again lower (drop i olds) (s ∷ ss) ≡ again_if (ltb i (length olds) && same (bytes_of (lower (get_or olds i 0))) s) (get_or olds i 0) ∷ named_again lower (drop (i + 1) olds) ss
unfolding named_again
old-taken lower olds s ss i = go (ltb i (length olds)) refl
  where
    go : (t : Bool) → ltb i (length olds) ≡ t
        → named_again lower (drop i olds) (s ∷ ss) ≡ again_if (t && same (bytes_of (lower (get_or olds i 0))) s) (get_or olds i 0) ∷ named_again lower (drop (i + 1) olds) ss
    go true e =
        let here : drop i olds ≡ get_or olds i 0 ∷ drop (i + 1) olds = drop-cons olds i 0 (ltb-true i (length olds) e) ∙ ap (λ (k : ℕ). get_or olds i 0 ∷ drop k olds) (sym (add-one i)) in
        ap (λ (l : List ℕ). named_again lower l (s ∷ ss)) here
    go false e =
        let beyond : length olds ≤ i = ltb-false i (length olds) e in
        let further : length olds ≤ i + 1 = omega arith in
        ap (λ (l : List ℕ). named_again lower l (s ∷ ss)) (drop_of_length-le olds beyond)
        ∙ ap (λ (l : List ℕ). None ∷ named_again lower l ss) (sym (drop_of_length-le olds further))

module _ (d : Disc) (t : List ℕ) (previous m : ℕ) where
  sector-taken : (i : ℕ) → i < m → sectors_left t m i ≡ own_sector t i ∷ sectors_left t m (i + 1)
  sector-taken i h =
      let one : m - i ≡ suc (m - (i + 1)) = omega arith in
      ap (λ (k : ℕ). sectors_of k (drop (sector_length * i) t)) one ∙ sectors-on (m - (i + 1)) i t
      ∙ ap (λ (k : ℕ). own_sector t i ∷ sectors_of (m - (i + 1)) (drop (sector_length * k) t)) (sym (add-one i))

  again-taken : (i : ℕ) → i < m → again_left d t previous m i ≡ again_if (is_again d t previous i) (get_or (named_by d previous) i 0) ∷ again_left d t previous m (i + 1)
  again-taken i h =
      ap (named_again (content d) (drop i (named_by d previous))) (sector-taken i h) ∙ old-taken (content d) (named_by d previous) (own_sector t i) (sectors_left t m (i + 1)) i

  all-sectors : m ≡ own_count (length t) → sectors_left t m 0 ≡ own_sectors t
  all-sectors count = let all : m - 0 ≡ own_count (length t) = omega arith in ap (λ (k : ℕ). sectors_of k t) all

  all-again : m ≡ own_count (length t) → again_left d t previous m 0 ≡ again_of d t previous
  unfolding again_of
  all-again count = ap (named_again (content d) (named_by d previous)) (all-sectors count)

  all-fresh : m ≡ own_count (length t) → fresh_left d t previous m 0 ≡ fresh_of d t previous
  unfolding fresh_of
  all-fresh count = ap₂ fresh (all-again count) (all-sectors count)

  none_left : (i : ℕ) → m ≤ i → sectors_left t m i ≡ []
  unfolding sectors_of
  none_left i h = let None-more : m - i ≡ 0 = omega arith in ap (λ (k : ℕ). sectors_of k (drop (sector_length * i) t)) None-more

  no-again : (i : ℕ) → m ≤ i → again_left d t previous m i ≡ []
  unfolding named_again
  no-again i h = ap (named_again (content d) (drop i (named_by d previous))) (none_left i h) ∙ go (drop i (named_by d previous))
    where
      go : (olds : List ℕ) → named_again (content d) olds [] ≡ []
      go [] = refl
      go (o ∷ os) = refl

  no-fresh : (i : ℕ) → m ≤ i → fresh_left d t previous m i ≡ []
  unfolding fresh
  no-fresh i h = ap₂ fresh (no-again i h) (none_left i h)

  -- the next one is named again, or recorded
  module _ (i : ℕ) (h : i < m) where
    again-next : is_again d t previous i ≡ true → (next : ℕ) → own_blocks (again_left d t previous m i) next ≡ get_or (named_by d previous) i 0 ∷ own_blocks (again_left d t previous m (i + 1)) next
    unfolding own_blocks
    again-next e next =
        ap (λ (rs : List (Option ℕ)). own_blocks rs next) (again-taken i h)
        ∙ ap (λ (u : Bool). own_blocks (again_if u (get_or (named_by d previous) i 0) ∷ again_left d t previous m (i + 1)) next) e

    again-same : is_again d t previous i ≡ true → fresh_left d t previous m i ≡ fresh_left d t previous m (i + 1)
    unfolding fresh
    again-same e =
        ap₂ fresh (again-taken i h) (sector-taken i h)
        ∙ ap (λ (u : Bool). fresh (again_if u (get_or (named_by d previous) i 0) ∷ again_left d t previous m (i + 1)) (own_sector t i ∷ sectors_left t m (i + 1))) e

    fresh-next : is_again d t previous i ≡ false → (next : ℕ) → own_blocks (again_left d t previous m i) next ≡ next ∷ own_blocks (again_left d t previous m (i + 1)) (next + 1)
    unfolding own_blocks
    fresh-next e next =
        ap (λ (rs : List (Option ℕ)). own_blocks rs next) (again-taken i h)
        ∙ ap (λ (u : Bool). own_blocks (again_if u (get_or (named_by d previous) i 0) ∷ again_left d t previous m (i + 1)) next) e

    fresh-first : is_again d t previous i ≡ false → fresh_left d t previous m i ≡ own_sector t i ∷ fresh_left d t previous m (i + 1)
    unfolding fresh
    fresh-first e =
        ap₂ fresh (again-taken i h) (sector-taken i h)
        ∙ ap (λ (u : Bool). fresh (again_if u (get_or (named_by d previous) i 0) ∷ again_left d t previous m (i + 1)) (own_sector t i ∷ sectors_left t m (i + 1))) e

-- one that is named again lies within what is recorded
pub again-low : (d : Disc) → Sound d → (t : List ℕ) (previous i : ℕ) → is_again d t previous i ≡ true → get_or (named_by d previous) i 0 < recorded d
again-low d ok t previous i e =
    let o : ℕ = get_or (named_by d previous) i 0 in
    let s : List ℕ = own_sector t i in
    data-recorded d ok o s
    (read-there (content d o) s (length-filled (drop (sector_length * i) t)) (same_true (bytes_of (content d o)) s (and_right (ltb i (length (named_by d previous))) (same (bytes_of (content d o)) s) e)))

-- ---- the blocks settled

-- one block more
more-settled : (blocks : List ℕ) (i x : ℕ) (rest all : List ℕ) → i < length blocks → take i blocks ++ (x ∷ rest) ≡ all → take (i + 1) (set blocks i x) ++ rest ≡ all
more-settled blocks i x rest all h e =
    ap (λ (k : ℕ). take k (set blocks i x) ++ rest) (add-one i)
    ∙ ap (λ (l : List ℕ). l ++ rest) (take-suc-set blocks i x h)
    ∙ append_snoc (take i blocks) x rest
    ∙ e

pub record Planned (d : Disc) (t : List ℕ) (previous m b : ℕ) (blocks : List ℕ) (next i : ℕ) : Type 0 where
  pub low : b ≤ next
  pub high : next ≤ b + i
  pub settled : take i blocks ++ own_blocks (again_left d t previous m i) next ≡ own_blocks (again_of d t previous) b
  pub counted : next + length (fresh_left d t previous m i) ≡ b + length (fresh_of d t previous)

module _ (d : Disc) (t : List ℕ) (previous m b : ℕ) (blocks : List ℕ) where
  pub plan-starts : m ≡ own_count (length t) → Planned d t previous m b blocks b 0
  plan-starts count =
      record {
        low = omega arith;
        high = omega arith;
        settled = ap (λ (rs : List (Option ℕ)). own_blocks rs b) (all-again d t previous m count);
        counted = ap (λ (ss : List (List ℕ)). b + length ss) (all-fresh d t previous m count);
      }

  module _ (next i : ℕ) (p : Planned d t previous m b blocks next i) where
    pub plan-again : i < m → i < length blocks → is_again d t previous i ≡ true → Planned d t previous m b (set blocks i (get_or (named_by d previous) i 0)) next (i + 1)
    plan-again h room e =
        record {
          low = p.low;
          high = omega (arith, p.high);
          settled =
              more-settled blocks i (get_or (named_by d previous) i 0) (own_blocks (again_left d t previous m (i + 1)) next) (own_blocks (again_of d t previous) b) room
              (ap (λ (l : List ℕ). take i blocks ++ l) (sym (again-next d t previous m i h e next)) ∙ p.settled);
          counted = ap (λ (ss : List (List ℕ)). next + length ss) (sym (again-same d t previous m i h e)) ∙ p.counted;
        }

    pub plan-fresh : i < m → i < length blocks → is_again d t previous i ≡ false → Planned d t previous m b (set blocks i next) (next + 1) (i + 1)
    plan-fresh h room e =
        record {
          low = omega (arith, p.low);
          high = omega (arith, p.high);
          settled =
              more-settled blocks i next (own_blocks (again_left d t previous m (i + 1)) (next + 1)) (own_blocks (again_of d t previous) b) room
              (ap (λ (l : List ℕ). take i blocks ++ l) (sym (fresh-next d t previous m i h e next)) ∙ p.settled);
          counted = omega (arith, ap length (fresh-first d t previous m i h e), p.counted);
        }

    pub plan-ends : m ≤ i → (take i blocks ≡ own_blocks (again_of d t previous) b) × (next - b ≡ length (fresh_of d t previous))
    unfolding own_blocks
    plan-ends h = (
      sym (append-nil (take i blocks)) ∙ ap (λ (rs : List (Option ℕ)). take i blocks ++ own_blocks rs next) (sym (no-again d t previous m i h)) ∙ p.settled,
      omega (arith, p.counted, ap length (no-fresh d t previous m i h)),
    )

-- ---- those that are not named again recorded

-- d is the disc before it all
pub record Recording (d : Disc) (t : List ℕ) (previous m b : ℕ) (blocks : List ℕ) (current : Disc) (next i : ℕ) : Type 0 where
  pub low : b ≤ next
  pub settled : take (m - i) (drop i blocks) ≡ own_blocks (again_left d t previous m i) next
  pub room : next + length (fresh_left d t previous m i) ≤ length current.kinds
  pub left : puts current next (plains (fresh_left d t previous m i)) ≡ puts d b (plains (fresh_of d t previous))

-- the next block of those that are left
block-taken : (blocks : List ℕ) (m i : ℕ) → i < m → i < length blocks → take (m - i) (drop i blocks) ≡ get_or blocks i 0 ∷ take (m - (i + 1)) (drop (i + 1) blocks)
block-taken blocks m i h room =
    let one : m - i ≡ suc (m - (i + 1)) = omega arith in
    ap₂ (λ (k : ℕ) (l : List ℕ). take k l) one (drop-cons blocks i 0 room) ∙ ap (λ (k : ℕ). get_or blocks i 0 ∷ take (m - (i + 1)) (drop k blocks)) (sym (add-one i))

same-heads : (x y : ℕ) (xs ys : List ℕ) → x ∷ xs ≡ y ∷ ys → (x ≡ y) × (xs ≡ ys)
same-heads x y xs ys e = (cc, cc)

module _ (d : Disc) (ok : Sound d) (t : List ℕ) (previous m b : ℕ) (behind : b ≡ recorded d) (blocks : List ℕ) where
  pub record-starts : m ≡ own_count (length t) → take m blocks ≡ own_blocks (again_of d t previous) b → b + length (fresh_of d t previous) ≤ length d.kinds
      → Recording d t previous m b blocks d b 0
  record-starts count settled room =
      let all : m - 0 ≡ m = omega arith in
      record {
        low = omega arith;
        settled = ap (λ (k : ℕ). take k blocks) all ∙ settled ∙ ap (λ (rs : List (Option ℕ)). own_blocks rs b) (sym (all-again d t previous m count));
        room = subst (λ (ss : List (List ℕ)). b + length ss ≤ length d.kinds) (sym (all-fresh d t previous m count)) room;
        left = ap (λ (ss : List (List ℕ)). puts d b (plains ss)) (all-fresh d t previous m count);
      }

  module _ (current : Disc) (next i : ℕ) (r : Recording d t previous m b blocks current next i) where
    module _ (h : i < m) (held : i < length blocks) where
      -- its block tells whether it is named again
      named : is_again d t previous i ≡ true → (get_or blocks i 0 ≡ get_or (named_by d previous) i 0) × (take (m - (i + 1)) (drop (i + 1) blocks) ≡ own_blocks (again_left d t previous m (i + 1)) next)
      named e =
          same-heads (get_or blocks i 0) (get_or (named_by d previous) i 0) (take (m - (i + 1)) (drop (i + 1) blocks)) (own_blocks (again_left d t previous m (i + 1)) next)
          (sym (block-taken blocks m i h held) ∙ r.settled ∙ again-next d t previous m i h e next)

      stands-next : is_again d t previous i ≡ false → (get_or blocks i 0 ≡ next) × (take (m - (i + 1)) (drop (i + 1) blocks) ≡ own_blocks (again_left d t previous m (i + 1)) (next + 1))
      stands-next e =
          same-heads (get_or blocks i 0) next (take (m - (i + 1)) (drop (i + 1) blocks)) (own_blocks (again_left d t previous m (i + 1)) (next + 1))
          (sym (block-taken blocks m i h held) ∙ r.settled ∙ fresh-next d t previous m i h e next)

      pub record-skips : (get_or blocks i 0 ≡ next → ⊥) → Recording d t previous m b blocks current next (i + 1)
      record-skips other = go (is_again d t previous i) refl
        where
          go : (u : Bool) → is_again d t previous i ≡ u → Recording d t previous m b blocks current next (i + 1)
          go false e = absurd (other (stands-next e).0)
          go true e =
              let same_left : fresh_left d t previous m i ≡ fresh_left d t previous m (i + 1) = again-same d t previous m i h e in
              record {
                low = r.low;
                settled = (named e).1;
                room = subst (λ (ss : List (List ℕ)). next + length ss ≤ length current.kinds) same_left r.room;
                left = ap (λ (ss : List (List ℕ)). puts current next (plains ss)) (sym same_left) ∙ r.left;
              }

      -- one that is recorded: there is room for it
      fresh-here : get_or blocks i 0 ≡ next → is_again d t previous i ≡ false
      fresh-here here = go (is_again d t previous i) refl
        where
          go : (u : Bool) → is_again d t previous i ≡ u → u ≡ false
          go false e = refl
          go true e = absurd (omega (arith, (named e).0, again-low d ok t previous i e, r.low))

      pub record-room : get_or blocks i 0 ≡ next → next < length current.kinds
      record-room here = omega (arith, r.room, ap length (fresh-first d t previous m i h (fresh-here here)))

      pub record-puts : get_or blocks i 0 ≡ next → (after : Disc) → after ≡ put current next (plain (own_sector t i)) → Recording d t previous m b blocks after (next + 1) (i + 1)
      unfolding puts
      record-puts here after e =
          let first : fresh_left d t previous m i ≡ own_sector t i ∷ fresh_left d t previous m (i + 1) = fresh-first d t previous m i h (fresh-here here) in
          let long : length after.kinds ≡ length current.kinds = ap (λ (x : Disc). length x.kinds) e ∙ length-set current.kinds next 1 in
          record {
            low = omega (arith, r.low);
            settled = (stands-next (fresh-here here)).1;
            room = omega (arith, r.room, ap length first, long);
            left =
                ap (λ (x : Disc). puts x (next + 1) (plains (fresh_left d t previous m (i + 1)))) e
                ∙ ap (λ (ss : List (List ℕ)). puts current next (plains ss)) (sym first)
                ∙ r.left;
          }

    pub record-ends : m ≤ i → current ≡ puts d b (plains (fresh_of d t previous))
    unfolding puts
    record-ends h = ap (λ (ss : List (List ℕ)). puts current next (plains ss)) (sym (no-fresh d t previous m i h)) ∙ r.left

-- ---- how many there are

pub own-inside : (n i : ℕ) → n ≤ limit → i < own_count (table_length n) → (i < most_own) × (sector_length * i < table_length n)
own-inside n i few h = go (own_count (table_length n)) refl
  where
    go : (m : ℕ) → own_count (table_length n) ≡ m → (i < most_own) × (sector_length * i < table_length n)
    go zero e = absurd (omega arith)
    go (suc k) e = (omega (arith, few-own (table_length n) (limit-held n few)), omega (arith, (some-own (table_length n) k e).1.more))

-- the table of the numbers that a map holds has as many
pub own-many : (n : ℕ) (map : List ℕ) (previous : ℕ) → own_count (table_length n) ≡ own_count (length (table_bytes (words n map 0) previous))
own-many n map previous = ap own_count (sym (length-table (words n map 0) previous ∙ ap table_length (length-words n map 0)))
