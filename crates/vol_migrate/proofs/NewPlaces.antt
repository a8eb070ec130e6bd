-- The number of block-map positions on the path of a logical block that are on no earlier path.
use Rattle.std.proofs.Common.{◌≡◌, ◌∙◌, sym, ap, refl, ℕ, zero, suc, ◌+◌, ◌-◌, ◌*◌, ◌/◌, ◌%◌, ◌<◌, ◌≤◌, Bool, true, false, cond, not, leb, List, [], ◌∷◌, filter, reverse, length, None, Some, inl, inr, arith}
use Rattle.std.specs.Prelude.{◌||◌}
use Rattle.std.specs.List.{list_any, count_by}
use Rattle.std.specs.Option.{option_map_or}
use Rattle.std.specs.Str.{bytes_eq}
use Rattle.std.proofs.lemmas.Bool.{cases_Bool, cases_lt, le-leb, lt-leb, true≢false}
use Rattle.std.proofs.lemmas.List.{append-nil}
use Rattle.std.proofs.lemmas.List.Sums.{length-filter, sum_by-cons}
use Rattle.vol_layout.specs.Laws.{IsFront}
use Rattle.vol_layout.specs.BlockMaps.{last_place, fronts, way}
use Rattle.vol_layout.specs.declared.block_map.BlockMap.TheVariants.{Deep}
use Rattle.vol_layout.proofs.LastPlaces.{last_direct, last_single, last_double, last_triple}
use Rattle.vol_layout.proofs.PlaceLaws.{last_leaf}
use Rattle.vol_file.specs.Clears.{first_block}
use Rattle.vol_file.specs.Need.{need_of, missing_places}
use Rattle.vol_file.specs.Shape.{is_on_ways}
use Rattle.vol_file.proofs.FirstBlocks.{first_front}
use Rattle.vol_file.proofs.KeptPlaces.{first_leaf}
use Rattle.vol_file.proofs.Lasts.{or_true, front_true, way_is}
use Rattle.vol_file.proofs.PlaceLists.{same_bytes}
use Rattle.vol_file.proofs.TakenPlaces.{taken_need}
use Rattle.vol_dir.specs.Tree.{Shape}
use Rattle.vol_migrate.specs.Raised.{names_block, stored_blocks}
use Rattle.vol_migrate.specs.Stages.{ComesAfter, is_new}
use Rattle.vol_migrate.proofs.CarriedBlocks.{below_hole, below_holes, on_more}

-- a list found among the fronts of a position is one of its fronts
front_passed : (p q : List ℕ) → list_any (bytes_eq p) (fronts q) ≡ true → IsFront p q
front_passed p [] h = true≢false (sym h)
front_passed p (j ∷ q) h = elim (cases_Bool (bytes_eq p (j ∷ q))) [
  | inl same ↦ inl (same_bytes p (j ∷ q) same)
  | inr other ↦ inr (front_passed p q (sym (ap (λ t. t || list_any (bytes_eq p) (fronts q)) other) ∙ h))
]

-- the first logical block below a position on the path of block `c` is at most `c`
on_from : (c a : ℕ) (p : List ℕ) → list_any (bytes_eq (a ∷ p)) (way Deep c) ≡ true → first_block Deep (a ∷ p) ≤ c
on_from c a p on =
    elim (last_place Deep c) as (λ o. last_place Deep c ≡ o → first_block Deep (a ∷ p) ≤ c) [
      | None ↦ λ e.
          let none : list_any (bytes_eq (a ∷ p)) (way Deep c) ≡ false =
          ap (λ o. list_any (bytes_eq (a ∷ p)) (option_map_or fronts o [])) e in
          absurd (true≢false (sym on ∙ none))
      | Some q ↦ λ e.
          let front : IsFront (a ∷ p) q = front_passed (a ∷ p) q (ap (list_any (bytes_eq (a ∷ p))) (sym (way_is Deep c q e)) ∙ on) in
          let later = first_front Deep a p q front in
          let leaf = last_leaf Deep c q e in
          let is : first_block Deep q ≡ c = first_leaf Deep q leaf.place leaf.bottom ∙ leaf.block in
          omega (arith, later, is)
    ] refl

-- a position whose first logical block is after `c` isn't on the path of `c`
off_before : (c a : ℕ) (p : List ℕ) → c < first_block Deep (a ∷ p) → list_any (bytes_eq (a ∷ p)) (way Deep c) ≡ false
off_before c a p later =
    elim (cases_Bool (list_any (bytes_eq (a ∷ p)) (way Deep c))) [
      | inl on ↦ let from = on_from c a p on in absurd (omega (arith, later, from))
      | inr off ↦ off
    ]

-- a position that is on the path of no block below `n` isn't on their paths together
none_on : (shape : Shape) (p : List ℕ) (n : ℕ) → ((c : ℕ) → c < n → list_any (bytes_eq p) (way Deep c) ≡ false)
    → is_on_ways Deep (stored_blocks shape n) p ≡ false
none_on shape p zero off = refl
none_on shape p (suc n) off =
    let next : suc n ≡ n + 1 = omega arith in
    let rest = none_on shape p n (λ c low. off c (omega (arith, low))) in
    ap (λ k. is_on_ways Deep (stored_blocks shape k) p) next
    ∙ elim (cases_Bool (names_block shape n)) [
      | inl some ↦
          on_more shape n p some
          ∙ (ap (λ t. t || (list_any (bytes_eq p) (way Deep n) || false)) rest ∙ ap (λ t. t || false) (off n (omega arith)))
      | inr hole ↦ ap (λ blocks. is_on_ways Deep blocks p) (below_hole shape n hole) ∙ rest
    ]

-- a position is on an earlier path if and only if its first logical block is before `passed`
pub named_before : (shape : Shape) (b passed a : ℕ) (p : List ℕ) → ComesAfter shape b passed
    → ((c : ℕ) → first_block Deep (a ∷ p) ≤ c → c < b → list_any (bytes_eq (a ∷ p)) (way Deep c) ≡ true)
    → not (is_on_ways Deep (stored_blocks shape b) (a ∷ p)) ≡ leb passed (first_block Deep (a ∷ p))
named_before shape b passed a p after convex =
    let upto : stored_blocks shape b ≡ stored_blocks shape passed = below_holes shape passed b after.order after.holes in
    elim (cases_lt (first_block Deep (a ∷ p)) passed) [
      | inl before ↦
          let c = passed - 1 in
          let next : passed ≡ c + 1 = omega (arith, before) in
          let on : list_any (bytes_eq (a ∷ p)) (way Deep c) ≡ true =
          convex c (omega (arith, before)) (let order = after.order in omega (arith, before, order)) in
          let named : is_on_ways Deep (stored_blocks shape b) (a ∷ p) ≡ true =
          ap (λ blocks. is_on_ways Deep blocks (a ∷ p)) (upto ∙ ap (stored_blocks shape) next)
          ∙ (on_more shape c (a ∷ p) (after.last (omega (arith, before)))
          ∙ (ap (λ t. is_on_ways Deep (stored_blocks shape c) (a ∷ p) || (t || false)) on ∙ or_true (is_on_ways Deep (stored_blocks shape c) (a ∷ p)))) in
          ap not named ∙ sym (lt-leb passed (first_block Deep (a ∷ p)) before)
      | inr later ↦
          let unnamed : is_on_ways Deep (stored_blocks shape b) (a ∷ p) ≡ false =
          ap (λ blocks. is_on_ways Deep blocks (a ∷ p)) upto
          ∙ none_on shape (a ∷ p) passed (λ c low. off_before c a p (omega (arith, later, low))) in
          ap not unnamed ∙ sym (le-leb passed (first_block Deep (a ∷ p)) later)
    ]

-- `is_new` of a position's first logical block is 1 if the position is on no earlier path, else 0
missing_one : (shape : Shape) (b passed start a : ℕ) (p : List ℕ) → ComesAfter shape b passed → first_block Deep (a ∷ p) ≡ start
    → ((c : ℕ) → start ≤ c → c < b → list_any (bytes_eq (a ∷ p)) (way Deep c) ≡ true)
    → ◌≡◌ {A = ℕ} (cond (not (is_on_ways Deep (stored_blocks shape b) (a ∷ p))) 1 0) (is_new passed start)
missing_one shape b passed start a p after is convex =
    ap (λ t. cond t 1 0)
    (named_before shape b passed a p after (λ c from low. convex c (omega (arith, is, from)) low) ∙ ap (leb passed) is)

-- the position of the block itself is on no earlier path
missing_self : (shape : Shape) (b passed a : ℕ) (p : List ℕ) → ComesAfter shape b passed → first_block Deep (a ∷ p) ≡ b
    → ◌≡◌ {A = ℕ} (cond (not (is_on_ways Deep (stored_blocks shape b) (a ∷ p))) 1 0) 1
missing_self shape b passed a p after is =
    missing_one shape b passed b a p after is (λ c from low. absurd (omega (arith, from, low)))
    ∙ ap (λ t. cond t 1 0) (le-leb passed b after.order)

-- a block needs the positions on its path that don't point to a block yet
need_way : (names : List ℕ → Bool) (b : ℕ) (q : List ℕ) → last_place Deep b ≡ Some q
    → need_of Deep names (b ∷ []) ≡ count_by (λ p. not (names p)) (reverse (fronts q))
unfolding missing_places
need_way names b q e =
    sym (taken_need Deep names (b ∷ []))
    ∙ (ap length (append-nil (filter (λ p. not (names p)) (reverse (way Deep b))))
    ∙ (length-filter (λ p. not (names p)) (reverse (way Deep b))
    ∙ ap (λ w. count_by (λ p. not (names p)) (reverse w)) (way_is Deep b q e)))

-- a first position adds 1 to a count if it passes the test
count_more : (t : List ℕ → Bool) (p : List ℕ) (ps : List (List ℕ)) → count_by t (p ∷ ps) ≡ cond (t p) 1 0 + count_by t ps
count_more t p ps = sum_by-cons (λ q. cond (t q) 1 0) p ps

count_one : (t : List ℕ → Bool) (p : List ℕ) → count_by t (p ∷ []) ≡ cond (t p) 1 0
count_one t p = let cons = count_more t p [] in omega (arith, cons)

-- a front of a block's last position is on the block's path
on_way : (c : ℕ) (p q : List ℕ) → last_place Deep c ≡ Some q → IsFront p q → list_any (bytes_eq p) (way Deep c) ≡ true
on_way c p q e front = ap (list_any (bytes_eq p)) (way_is Deep c q e) ∙ front_true q p front

-- a block at an address of the i-node needs 1 position
pub need_direct : (shape : Shape) (b passed : ℕ) → ComesAfter shape b passed → b < 10
    → need_of Deep (is_on_ways Deep (stored_blocks shape b)) (b ∷ []) ≡ 1
need_direct shape b passed after low =
    let is : first_block Deep (b ∷ []) ≡ b = let leaf = last_leaf Deep b (b ∷ []) (last_direct b low) in
    first_leaf Deep (b ∷ []) leaf.place leaf.bottom ∙ leaf.block in
    need_way (is_on_ways Deep (stored_blocks shape b)) b (b ∷ []) (last_direct b low)
    ∙ (count_one (λ p. not (is_on_ways Deep (stored_blocks shape b) p)) (b ∷ []) ∙ missing_self shape b passed b [] after is)

-- a block below the singly indirect block needs 1 position, and 1 more if the indirect block is new
pub need_single : (shape : Shape) (b passed : ℕ) → ComesAfter shape b passed → 10 ≤ b → b < 138
    → need_of Deep (is_on_ways Deep (stored_blocks shape b)) (b ∷ []) ≡ 1 + is_new passed 10
need_single shape b passed after low high =
    let last = last_single b low high in
    let q = (b - 10) ∷ (10 ∷ []) in
    let t : List ℕ → Bool = λ p. not (is_on_ways Deep (stored_blocks shape b) p) in
    let leaf = last_leaf Deep b q last in
    let is : first_block Deep q ≡ b = first_leaf Deep q leaf.place leaf.bottom ∙ leaf.block in
    let first = missing_one shape b passed 10 10 [] after refl
    (λ c from below. on_way c (10 ∷ []) ((c - 10) ∷ (10 ∷ [])) (last_single c from (omega (arith, below, high))) (inr (inl refl))) in
    let self = missing_self shape b passed (b - 10) (10 ∷ []) after is in
    let cons = count_more t (10 ∷ []) (q ∷ []) in
    let one = count_one t q in
    need_way (is_on_ways Deep (stored_blocks shape b)) b q last ∙ omega (arith, cons, one, first, self)

-- a block below the doubly indirect block needs 1 position, and 1 more for each of the two indirect blocks that is new
pub need_double : (shape : Shape) (b passed : ℕ) → ComesAfter shape b passed → 138 ≤ b → b < 16522
    → need_of Deep (is_on_ways Deep (stored_blocks shape b)) (b ∷ [])
    ≡ 1 + is_new passed 138 + is_new passed (138 + (b - 138) / 128 * 128)
need_double shape b passed after low high =
    let last = last_double b low high in
    let x = (b - 138) / 128 in
    let q = ((b - 138) % 128) ∷ (x ∷ (11 ∷ [])) in
    let t : List ℕ → Bool = λ p. not (is_on_ways Deep (stored_blocks shape b) p) in
    let leaf = last_leaf Deep b q last in
    let is : first_block Deep q ≡ b = first_leaf Deep q leaf.place leaf.bottom ∙ leaf.block in
    let first = missing_one shape b passed 138 11 [] after refl
    (λ c from below. on_way c (11 ∷ []) (((c - 138) % 128) ∷ (((c - 138) / 128) ∷ (11 ∷ []))) (last_double c from (omega (arith, below, high)))
    (inr (inr (inl refl)))) in
    let start : first_block Deep (x ∷ (11 ∷ [])) ≡ 138 + (b - 138) / 128 * 128 = omega arith in
    let second = missing_one shape b passed (138 + (b - 138) / 128 * 128) x (11 ∷ []) after start
    (λ c from below.
    let same : x ≡ (c - 138) / 128 = omega (arith, from, below, low) in
    on_way c (x ∷ (11 ∷ [])) (((c - 138) % 128) ∷ (((c - 138) / 128) ∷ (11 ∷ [])))
    (last_double c (omega (arith, from, low)) (omega (arith, below, high))) (inr (inl (ap (λ y. y ∷ (11 ∷ [])) same)))) in
    let self = missing_self shape b passed ((b - 138) % 128) (x ∷ (11 ∷ [])) after is in
    let cons = count_more t (11 ∷ []) ((x ∷ (11 ∷ [])) ∷ (q ∷ [])) in
    let next = count_more t (x ∷ (11 ∷ [])) (q ∷ []) in
    let one = count_one t q in
    need_way (is_on_ways Deep (stored_blocks shape b)) b q last ∙ omega (arith, cons, next, one, first, second, self)

-- a block below the triply indirect block needs 1 position, and 1 more for each of the three indirect blocks that is new
pub need_triple : (shape : Shape) (b passed : ℕ) → ComesAfter shape b passed → 16522 ≤ b → b < 2113674
    → need_of Deep (is_on_ways Deep (stored_blocks shape b)) (b ∷ [])
    ≡ 1 + is_new passed 16522 + is_new passed (16522 + (b - 16522) / 16384 * 16384) + is_new passed (16522 + (b - 16522) / 128 * 128)
need_triple shape b passed after low high =
    let last = last_triple b low high in
    let x = (b - 16522) / 16384 in
    let y = (b - 16522) / 128 % 128 in
    let q = ((b - 16522) % 128) ∷ (y ∷ (x ∷ (12 ∷ []))) in
    let t : List ℕ → Bool = λ p. not (is_on_ways Deep (stored_blocks shape b) p) in
    let leaf = last_leaf Deep b q last in
    let is : first_block Deep q ≡ b = first_leaf Deep q leaf.place leaf.bottom ∙ leaf.block in
    let first = missing_one shape b passed 16522 12 [] after refl
    (λ c from below. on_way c (12 ∷ []) (((c - 16522) % 128) ∷ (((c - 16522) / 128 % 128) ∷ (((c - 16522) / 16384) ∷ (12 ∷ []))))
    (last_triple c from (omega (arith, below, high))) (inr (inr (inr (inl refl))))) in
    let start : first_block Deep (x ∷ (12 ∷ [])) ≡ 16522 + (b - 16522) / 16384 * 16384 = omega arith in
    let second = missing_one shape b passed (16522 + (b - 16522) / 16384 * 16384) x (12 ∷ []) after start
    (λ c from below.
    let same : x ≡ (c - 16522) / 16384 = omega (arith, from, below, low) in
    on_way c (x ∷ (12 ∷ [])) (((c - 16522) % 128) ∷ (((c - 16522) / 128 % 128) ∷ (((c - 16522) / 16384) ∷ (12 ∷ []))))
    (last_triple c (omega (arith, from, low)) (omega (arith, below, high))) (inr (inr (inl (ap (λ z. z ∷ (12 ∷ [])) same))))) in
    let parts : (b - 16522) / 128 ≡ x * 128 + y = omega arith in
    let begin : first_block Deep (y ∷ (x ∷ (12 ∷ []))) ≡ 16522 + (b - 16522) / 128 * 128 = omega (arith, parts) in
    let third = missing_one shape b passed (16522 + (b - 16522) / 128 * 128) y (x ∷ (12 ∷ [])) after begin
    (λ c from below.
    let same : (b - 16522) / 128 ≡ (c - 16522) / 128 = omega (arith, from, below, low) in
    let other : (c - 16522) / 128 ≡ (c - 16522) / 16384 * 128 + (c - 16522) / 128 % 128 = omega arith in
    let same_x : x ≡ (c - 16522) / 16384 = omega (arith, same, other, parts) in
    let same_y : y ≡ (c - 16522) / 128 % 128 = omega (arith, same, other, parts) in
    on_way c (y ∷ (x ∷ (12 ∷ []))) (((c - 16522) % 128) ∷ (((c - 16522) / 128 % 128) ∷ (((c - 16522) / 16384) ∷ (12 ∷ []))))
    (last_triple c (omega (arith, from, low)) (omega (arith, below, high)))
    (inr (inl (ap (λ z. z ∷ (x ∷ (12 ∷ []))) same_y ∙ ap (λ z. ((c - 16522) / 128 % 128) ∷ (z ∷ (12 ∷ []))) same_x)))) in
    let self = missing_self shape b passed ((b - 16522) % 128) (y ∷ (x ∷ (12 ∷ []))) after is in
    let cons = count_more t (12 ∷ []) ((x ∷ (12 ∷ [])) ∷ ((y ∷ (x ∷ (12 ∷ []))) ∷ (q ∷ []))) in
    let next = count_more t (x ∷ (12 ∷ [])) ((y ∷ (x ∷ (12 ∷ []))) ∷ (q ∷ [])) in
    let more = count_more t (y ∷ (x ∷ (12 ∷ []))) (q ∷ []) in
    let one = count_one t q in
    need_way (is_on_ways Deep (stored_blocks shape b)) b q last ∙ omega (arith, cons, next, more, one, first, second, third, self)
