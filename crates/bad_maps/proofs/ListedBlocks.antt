-- Lemmas on the blocks that a list names, and the ranges of the bytes around them.
use Rattle.std.proofs.Common.{◌≡◌, ◌⊎◌, ℕ, ◌+◌, ◌*◌, ◌<◌, ◌≤◌, ◌∙◌, sym, ap, subst, Bool, true, false, not, ◌&&◌, ◌||◌, ◌==◌, nat_le, nat_lt, if◌then◌else◌, List, [], ◌∷◌, ◌++◌, Option, Some, None, refl, arith, inl, inr}
use Rattle.std.specs.List.{slice_split}
use Rattle.std.proofs.lemmas.Bool.{ltb-false, le-leb, lt-leb, lt-ltb, le-ltb, cases_lt}
use Rattle.bad_maps.specs.Laws.{ListsNameLostBlocks, are_named, is_named}
use Rattle.bad_maps.specs.Lists.{around_from, blocks_between, listed_by, listed_in, onward_from}
use Rattle.bad_maps.specs.Maps.{covers, is_read_from}
use Rattle.bad_maps.specs.declared.lists.ListedBlocks.{ListedBlocks}
use Rattle.bad_maps.specs.declared.maps.ReadRange.{ReadRange}

-- the blocks of a piece are the same without the blocks before it, and come after those
abbrev IsAfter : ℕ → Option ListedBlocks → ListedBlocks → Type 0
IsAfter next alone blocks = (alone ≡ Some blocks) × (next ≤ blocks.first) × (blocks.first < blocks.end)

between_after : (next : ℕ) (one two : Option ℕ) (blocks : ListedBlocks) → blocks_between next one two ≡ Some blocks → IsAfter next (blocks_between 0 one two) blocks
between_after next None two blocks is = absurd (cc)
between_after next (Some first) None blocks is = absurd (cc)
between_after next (Some first) (Some last) blocks is = go (nat_lt first next) (nat_lt last first) refl refl is
  where
    found : ListedBlocks
    found = record { first = first; end = last + 1 }

    go : (a b : Bool) → nat_lt first next ≡ a → nat_lt last first ≡ b → (if a || b then None else Some found) ≡ Some blocks
        → IsAfter next (if nat_lt first 0 || nat_lt last first then None else Some found) blocks
    go true b low order is = absurd (cc)
    go false true low order is = absurd (cc)
    go false false low order is =
        let same : found ≡ blocks = cc in
        let after : next ≤ first = ltb-false first next low in
        let some : first ≤ last = ltb-false last first order in (
          ap (λ c. if c || nat_lt last first then None else Some found) (le-ltb first 0 (omega arith)) ∙ (ap (λ c. if c then None else Some found) order ∙ is),
          subst (λ (it : ListedBlocks). next ≤ it.first) same after,
          subst (λ (it : ListedBlocks). it.first < it.end) same (omega (arith, some)),
        )

words_after : (next : ℕ) (words : List (List ℕ)) (blocks : ListedBlocks) → listed_by next words ≡ Some blocks → IsAfter next (listed_by 0 words) blocks
words_after next [] blocks is = absurd (cc)
words_after next (first ∷ []) blocks is = between_after next _ _ blocks is
words_after next (first ∷ (last ∷ [])) blocks is = between_after next _ _ blocks is
words_after next (first ∷ (last ∷ (more ∷ words))) blocks is = absurd (cc)

-- a test of one more range
any_more : (ranges : List ReadRange) (range : ReadRange) (first count : ℕ)
    → is_read_from (ranges ++ range ∷ []) first count ≡ (is_read_from ranges first count || covers first count range)
any_more [] range first count = or_no (covers first count range)
  where
    or_no : (b : Bool) → (b || false) ≡ b
    or_no true = refl
    or_no false = refl
any_more (other ∷ ranges) range first count =
    ap (λ b. covers first count other || b) (any_more ranges range first count) ∙ regroup (covers first count other) _ _
  where
    regroup : (a b c : Bool) → (a || (b || c)) ≡ ((a || b) || c)
    regroup true b c = refl
    regroup false b c = refl

and_no : (a : Bool) → (a && false) ≡ false
and_no true = refl
and_no false = refl

-- a range of whole blocks has all bytes of a block if and only if the block is one of them
covers_block : (from stop k : ℕ) → covers (512 * k) 512 (record { first = 512 * from; end = 512 * stop }) ≡ (nat_le from k && nat_lt k stop)
covers_block from stop k = elim (cases_lt k from) [
  | inl below ↦
      ap (λ b. b && nat_le (512 * k + 512) (512 * stop)) (lt-leb (512 * from) (512 * k) (omega (arith, below)))
      ∙ sym (ap (λ b. b && nat_lt k stop) (lt-leb from k below))
  | inr after ↦
      ap (λ b. b && nat_le (512 * k + 512) (512 * stop)) (le-leb (512 * from) (512 * k) (omega (arith, after)))
      ∙ (ends (cases_lt k stop) ∙ sym (ap (λ b. b && nat_lt k stop) (le-leb from k after)))
]
  where
    ends : (k < stop) ⊎ (stop ≤ k) → nat_le (512 * k + 512) (512 * stop) ≡ nat_lt k stop
    ends (inl low) = le-leb (512 * k + 512) (512 * stop) (omega (arith, low)) ∙ sym (lt-ltb k stop low)
    ends (inr high) = lt-leb (512 * k + 512) (512 * stop) (omega (arith, high)) ∙ sym (le-ltb k stop high)

-- the last range has all bytes of each block from its first one on
covers_rest : (from k : ℕ) → k ≤ 4294967295 → covers (512 * k) 512 (record { first = 512 * from; end = 18446744073709551615 }) ≡ nat_le from k
covers_rest from k few = elim (cases_lt k from) [
  | inl below ↦
      ap (λ b. b && nat_le (512 * k + 512) 18446744073709551615) (lt-leb (512 * from) (512 * k) (omega (arith, below))) ∙ sym (lt-leb from k below)
  | inr after ↦
      ap (λ b. b && nat_le (512 * k + 512) 18446744073709551615) (le-leb (512 * from) (512 * k) (omega (arith, after)))
      ∙ (le-leb (512 * k + 512) 18446744073709551615 (omega (arith, few)) ∙ sym (le-leb from k after))
]

-- the tests of a block before and after one more piece: it is before the piece, between, in its blocks, or after them
one_piece : (next k : ℕ) (blocks : ListedBlocks) (front more : Bool) → next ≤ blocks.first → blocks.first < blocks.end → (k < blocks.end → more ≡ false)
    → ((front || (nat_le next k && nat_lt k blocks.first)) || (nat_le blocks.end k && not more))
    ≡ (front || (nat_le next k && not ((nat_le blocks.first k && nat_lt k blocks.end) || more)))
one_piece next k blocks true more after some none = refl
one_piece next k blocks false more after some none = elim (cases_lt k next) [
  | inl before ↦
      ap (λ b. (b && nat_lt k blocks.first) || (nat_le blocks.end k && not more)) (lt-leb next k before)
      ∙ (ap (λ b. b && not more) (lt-leb blocks.end k (omega (arith, before, after, some)))
      ∙ sym (ap (λ b. b && not ((nat_le blocks.first k && nat_lt k blocks.end) || more)) (lt-leb next k before)))
  | inr from ↦
      ap (λ b. (b && nat_lt k blocks.first) || (nat_le blocks.end k && not more)) (le-leb next k from)
      ∙ (inside (cases_lt k blocks.first)
      ∙ sym (ap (λ b. b && not ((nat_le blocks.first k && nat_lt k blocks.end) || more)) (le-leb next k from)))
]
  where
    past : (k < blocks.end) ⊎ (blocks.end ≤ k) → (nat_le blocks.end k && not more) ≡ not (nat_lt k blocks.end || more)
    past (inl low) = ap (λ b. b && not more) (lt-leb blocks.end k low) ∙ sym (ap (λ b. not (b || more)) (lt-ltb k blocks.end low))
    past (inr high) = ap (λ b. b && not more) (le-leb blocks.end k high) ∙ sym (ap (λ b. not (b || more)) (le-ltb k blocks.end high))

    inside : (k < blocks.first) ⊎ (blocks.first ≤ k)
        → (nat_lt k blocks.first || (nat_le blocks.end k && not more)) ≡ not ((nat_le blocks.first k && nat_lt k blocks.end) || more)
    inside (inl between) =
        ap (λ b. b || (nat_le blocks.end k && not more)) (lt-ltb k blocks.first between)
        ∙ sym (ap (λ b. not ((b && nat_lt k blocks.end) || more)) (lt-leb blocks.first k between) ∙ ap not (none (omega (arith, between, some))))
    inside (inr reached) =
        ap (λ b. b || (nat_le blocks.end k && not more)) (le-ltb k blocks.first reached)
        ∙ (past (cases_lt k blocks.end) ∙ sym (ap (λ b. not ((b && nat_lt k blocks.end) || more)) (le-leb blocks.first k reached)))

-- the ranges around the blocks of some pieces have a block from `next` on if and only if none of the pieces names it, and none names a block before `next`
abbrev IsAround : ℕ → ℕ → List ReadRange → List (List ℕ) → List ReadRange → Type 0
IsAround k next front pieces ranges =
    (is_read_from ranges (512 * k) 512 ≡ (is_read_from front (512 * k) 512 || (nat_le next k && not (are_named k pieces))))
    × (k < next → are_named k pieces ≡ false)

and_yes : (a : Bool) → (a && true) ≡ a
and_yes true = refl
and_yes false = refl

around_is : (k next : ℕ) (front : List ReadRange) (pieces : List (List ℕ)) (ranges : List ReadRange) → k ≤ 4294967295
    → around_from next front pieces ≡ Some ranges → IsAround k next front pieces ranges
around_is k next front [] ranges few is =
    let last : ReadRange = record { first = 512 * next; end = 18446744073709551615 } in
    let same : front ++ last ∷ [] ≡ ranges = cc in (
      ap (λ all. is_read_from all (512 * k) 512) (sym same)
          ∙ (any_more front last (512 * k) 512
          ∙ ap (λ b. is_read_from front (512 * k) 512 || b) (covers_rest next k few ∙ sym (and_yes (nat_le next k)))),
      λ below. refl,
    )
around_is k next front (piece ∷ pieces) ranges few is =
    elim (listed_in next piece) as (λ found. listed_in next piece ≡ found
    → onward_from next front found (λ next' ranges'. around_from next' ranges' pieces) ≡ Some ranges → IsAround k next front (piece ∷ pieces) ranges) [
      | None ↦ λ none bad. absurd (cc)
      | Some blocks ↦ λ found rest.
          let before : ReadRange = record { first = 512 * next; end = 512 * blocks.first } in
          let after = words_after next (slice_split (λ b. b == 45) piece) blocks found in
          let onward = around_is k blocks.end (front ++ before ∷ []) pieces ranges few rest in
          let alone : is_named k (listed_in 0 piece) ≡ (nat_le blocks.first k && nat_lt k blocks.end) = ap (is_named k) after.0 in (
            onward.0
                ∙ (ap (λ b. b || (nat_le blocks.end k && not (are_named k pieces)))
                (any_more front before (512 * k) 512 ∙ ap (λ b. is_read_from front (512 * k) 512 || b) (covers_block next blocks.first k))
                ∙ (one_piece next k blocks (is_read_from front (512 * k) 512) (are_named k pieces) after.1 after.2 onward.1
                ∙ ap (λ b. is_read_from front (512 * k) 512 || (nat_le next k && not (b || are_named k pieces))) (sym alone))),
            λ below.
                ap (λ b. b || are_named k pieces) (alone ∙ ap (λ b. b && nat_lt k blocks.end) (lt-leb blocks.first k (omega (arith, below, after.1))))
                ∙ onward.1 (omega (arith, below, after.1, after.2)),
          )
    ] refl is

pub lists_name_lost : ListsNameLostBlocks
lists_name_lost text ranges k is few =
    (around_is k 0 [] (slice_split (λ b. b == 44) text) ranges few is).0
    ∙ ap (λ b. b && not (are_named k (slice_split (λ b. b == 44) text))) (le-leb 0 k (omega arith))
