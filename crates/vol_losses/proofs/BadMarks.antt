-- Lemmas on the marks of blocks that weren't read, and on the bytes in their place.
use Rattle.std.proofs.Common.{◌≡◌, ◌≢◌, ◌⊎◌, ℕ, zero, suc, ◌+◌, ◌-◌, ◌*◌, ◌/◌, ◌<◌, ◌≤◌, ◌∙◌, sym, ap, Bool, true, false, not, ◌&&◌, ◌||◌, nat_le, nat_lt, if◌then◌else◌, List, [], ◌∷◌, length, replicate, get_or, set, min, take, cond, refl, arith, inl, inr}
use Rattle.std.specs.Int.{div_ceil}
use Rattle.std.specs.List.{list_any}
use Rattle.std.proofs.lemmas.Bool.{and_parts, leb-true, ltb-true, le-leb, lt-leb, lt-ltb, le-ltb, cases_lt, cases_eq, true≢false}
use Rattle.std.proofs.lemmas.Grind.{div_ceil_times}
use Rattle.std.proofs.lemmas.List.{get_or-set_same, get_or-set_other, get_or-replicate, length-append, length-take-le}
use Rattle.std.proofs.lemmas.List.Folds.{list_any_more}
use Rattle.bad_maps.specs.declared.maps.ReadRange.{ReadRange}
use Rattle.vol_layout.specs.Geometry.{block_count}
use Rattle.vol_layout.specs.declared.edition.Edition.{Edition}
use Rattle.pdp_words.specs.Words.{SameOutside}
use Rattle.vol_losses.specs.BadImages.{is_block_in, is_block_read}
use Rattle.vol_losses.specs.CutImages.{IsCompleted, IsCompletedIf, IsFilled, has_size}
use Rattle.vol_losses.specs.Losses.{is_lost}

and_no : (a : Bool) → (a && false) ≡ false
and_no true = refl
and_no false = refl

-- two tests are the same if each holds where the other does
same_tests : (a b : Bool) → (a ≡ true → b ≡ true) → (b ≡ true → a ≡ true) → a ≡ b
same_tests true b to from = sym (to refl)
same_tests false true to from = from refl
same_tests false false to from = refl

-- a number other than k is below k + 1 exactly if it is below k
other_below : (j k : ℕ) → j ≢ k → nat_lt j (k + 1) ≡ nat_lt j k
other_below j k other = elim (cases_lt j k) [
  | inl below ↦ lt-ltb j (k + 1) (omega (arith, below)) ∙ sym (lt-ltb j k below)
  | inr from ↦ le-ltb j (k + 1) (omega (arith, from, other)) ∙ sym (le-ltb j k from)
]

-- one more mark is taken away
pub mark_gone : (old marks : List Bool) (from k j : ℕ) → from ≤ k → k < length marks
    → is_lost marks j ≡ (is_lost old j && not (nat_le from j && nat_lt j k))
    → is_lost (set marks k false) j ≡ (is_lost old j && not (nat_le from j && nat_lt j (k + 1)))
mark_gone old marks from k j low inside was = elim (cases_eq j k) [
  | inl same ↦
      ap (λ n. get_or (set marks k false) n false) same
      ∙ (get_or-set_same marks k false false inside
      ∙ sym (ap (λ b. is_lost old j && not (b && nat_lt j (k + 1))) (le-leb from j (omega (arith, low, same)))
      ∙ (ap (λ b. is_lost old j && not b) (lt-ltb j (k + 1) (omega (arith, same))) ∙ and_no (is_lost old j))))
  | inr other ↦
      get_or-set_other marks k j false false other
      ∙ (was ∙ ap (λ b. is_lost old j && not (nat_le from j && b)) (sym (other_below j k other)))
]

-- the blocks of which a range has all bytes are those from the first that begins in it to the last that ends in it
pub blocks_in : (first end at from stop k count j : ℕ) → from ≡ div_ceil first 512 - at → stop ≡ min (end / 512 - at) count → stop ≤ k → (k ≤ stop) ⊎ (k ≤ from)
    → j < count → (nat_le from j && nat_lt j k) ≡ (nat_le first (512 * (at + j)) && nat_le (512 * (at + j) + 512) end)
blocks_in first end at from stop k count j from_is stop_is past within inside =
    let up = div_ceil_times first 512 (omega arith) in
    same_tests (nat_le from j && nat_lt j k) (nat_le first (512 * (at + j)) && nat_le (512 * (at + j) + 512) end)
    (λ is.
    let parts = and_parts (nat_le from j) (nat_lt j k) is in
    let low : from ≤ j = leb-true from j parts.0 in
    let high : j < k = ltb-true j k parts.1 in
    let below : j < stop = elim within [ inl k_is ↦ omega (arith, k_is, high) | inr k_is ↦ absurd (omega (arith, k_is, high, low)) ] in
    let begins : first ≤ 512 * (at + j) = omega (arith, low, from_is, up.0) in
    let ends : 512 * (at + j) + 512 ≤ end = omega (arith, below, stop_is) in
    ap (λ b. b && nat_le (512 * (at + j) + 512) end) (le-leb first (512 * (at + j)) begins) ∙ le-leb (512 * (at + j) + 512) end ends)
    (λ is.
    let parts = and_parts (nat_le first (512 * (at + j))) (nat_le (512 * (at + j) + 512) end) is in
    let begins : first ≤ 512 * (at + j) = leb-true first (512 * (at + j)) parts.0 in
    let ends : 512 * (at + j) + 512 ≤ end = leb-true (512 * (at + j) + 512) end parts.1 in
    let low : from ≤ j = omega (arith, begins, from_is, up.1) in
    let high : j < k = omega (arith, ends, stop_is, past, inside) in
    ap (λ b. b && nat_lt j k) (le-leb from j low) ∙ lt-ltb j k high)

not_either : (a b : Bool) → (not a && not b) ≡ not (a || b)
not_either true b = refl
not_either false b = refl

-- the blocks that aren't in the ranges so far, with one more range
pub unread_more : (ranges : List ReadRange) (range : ReadRange) (at i k : ℕ) (marks : List Bool) → i < length ranges → range ≡ get_or ranges i range
    → is_lost marks k ≡ not (is_block_read (take i ranges) at k)
    → (is_lost marks k && not (is_block_in at k range)) ≡ not (is_block_read (take (i + 1) ranges) at k)
unread_more ranges range at i k marks inside is was =
    ap (λ b. b && not (is_block_in at k range)) was
    ∙ (not_either (is_block_read (take i ranges) at k) (is_block_in at k range)
    ∙ ap not (ap (λ (r : ReadRange). is_block_read (take i ranges) at k || is_block_in at k r) is
    ∙ sym (list_any_more (is_block_in at k) ranges i range inside)))

-- at first all blocks are marked
pub all_marked : (ranges : List ReadRange) (at blocks k : ℕ) → k < blocks → is_lost (replicate blocks true) k ≡ not (is_block_read (take 0 ranges) at k)
all_marked ranges at blocks k inside = get_or-replicate blocks k true false inside

-- if no mark is true, no block is lost
pub none_any : (marks : List Bool) (k : ℕ) → list_any (λ mark. mark) marks ≡ false → is_lost marks k ≡ false
none_any [] k none = refl
none_any (true ∷ marks) k none = absurd (true≢false none)
none_any (false ∷ marks) zero none = refl
none_any (false ∷ marks) (suc k) none = none_any marks k none

-- a block that isn't whole in the bytes, or wasn't read whole, is lost
pub lost_or_read : (count k : ℕ) (lost read : Bool) → (k < count → lost ≡ not read) → (nat_le count k || lost) ≡ not (nat_lt k count && read)
lost_or_read count k lost read marks = elim (cases_lt k count) [
  | inl inside ↦ ap (λ b. b || lost) (lt-leb count k inside) ∙ (marks inside ∙ sym (ap (λ b. not (b && read)) (lt-ltb k count inside)))
  | inr past ↦ ap (λ b. b || lost) (le-leb count k past) ∙ sym (ap (λ b. not (b && read)) (le-ltb k count past))
]

-- a byte of a block that wasn't read is zero
pub read_or_zero : (lost read : Bool) (byte : ℕ) → lost ≡ not read → (if lost then 0 else byte) ≡ (if read then byte else 0)
read_or_zero lost true byte is = ap (λ b. if b then 0 else byte) is
read_or_zero lost false byte is = ap (λ b. if b then 0 else byte) is

-- one more block is cleared if it is marked
pub block_cleared : (old image new : List ℕ) (marks : List Bool) (k j r : ℕ) → is_lost marks k ≡ true → r < 512
    → ((n : ℕ) → 512 * k ≤ n → n < 512 * k + 512 → get_or new n 0 ≡ 0) → SameOutside image new (512 * k) (512 * k + 512)
    → get_or image (512 * j + r) 0 ≡ (if nat_lt j k && is_lost marks j then 0 else get_or old (512 * j + r) 0)
    → get_or new (512 * j + r) 0 ≡ (if nat_lt j (k + 1) && is_lost marks j then 0 else get_or old (512 * j + r) 0)
block_cleared old image new marks k j r marked low zeros outside was = elim (cases_eq j k) [
  | inl same ↦
      zeros (512 * j + r) (omega (arith, same)) (omega (arith, same, low))
      ∙ sym (ap (λ b. if b && is_lost marks j then 0 else get_or old (512 * j + r) 0) (lt-ltb j (k + 1) (omega (arith, same)))
      ∙ ap (λ b. if b then 0 else get_or old (512 * j + r) 0) (ap (is_lost marks) same ∙ marked))
  | inr other ↦
      let kept : get_or new (512 * j + r) 0 ≡ get_or image (512 * j + r) 0 = elim (cases_lt j k) [
        | inl below ↦ outside.below (512 * j + r) (omega (arith, below, low))
        | inr from ↦ outside.above (512 * j + r) (omega (arith, from, other))
      ] in
      kept ∙ (was ∙ ap (λ b. if b && is_lost marks j then 0 else get_or old (512 * j + r) 0) (sym (other_below j k other)))
]

-- a block that isn't marked stays
pub block_stays : (old image : List ℕ) (marks : List Bool) (k j r : ℕ) → is_lost marks k ≡ false
    → get_or image (512 * j + r) 0 ≡ (if nat_lt j k && is_lost marks j then 0 else get_or old (512 * j + r) 0)
    → get_or image (512 * j + r) 0 ≡ (if nat_lt j (k + 1) && is_lost marks j then 0 else get_or old (512 * j + r) 0)
block_stays old image marks k j r unmarked was = was ∙ elim (cases_eq j k) [
  | inl same ↦
      let no : is_lost marks j ≡ false = ap (is_lost marks) same ∙ unmarked in
      ap (λ b. if nat_lt j k && b then 0 else get_or old (512 * j + r) 0) no
      ∙ (ap (λ b. if b then 0 else get_or old (512 * j + r) 0) (and_no (nat_lt j k) ∙ sym (and_no (nat_lt j (k + 1))))
      ∙ sym (ap (λ b. if nat_lt j (k + 1) && b then 0 else get_or old (512 * j + r) 0) no))
  | inr other ↦ ap (λ b. if b && is_lost marks j then 0 else get_or old (512 * j + r) 0) (sym (other_below j k other))
]

filled_more : (front : List ℕ) (blocks : ℕ) (image : List ℕ) (lost : List Bool) → IsFilled front blocks image lost → length front ≤ length image
filled_more front blocks image lost filled =
    let count : length image ≡ length front + length (replicate (512 * blocks - length front) 0) =
    ap length filled.zeros ∙ length-append front (replicate (512 * blocks - length front) 0) in
    omega (arith, count)

-- an image that was completed has all whole blocks of its bytes
pub completed_more : (edition : Edition) (bytes image : List ℕ) (lost : List Bool) → IsCompleted edition bytes image lost → length bytes / 512 ≤ length image / 512
completed_more edition bytes image lost completed =
    let blocks = block_count edition bytes in
    let whole = 512 * (length bytes / 512) in
    elim (has_size edition bytes) as (λ b. IsCompletedIf b edition bytes image lost → length bytes / 512 ≤ length image / 512) [
      | false ↦ λ same. let count : length image ≡ length bytes = ap length same.0 in omega (arith, count)
      | true ↦ λ filled.
          elim (nat_lt (length bytes / 512) blocks) as (λ b. IsFilled (cond b (take whole bytes) bytes) blocks image lost → length bytes / 512 ≤ length image / 512) [
            | true ↦ λ is.
                let size : length (take whole bytes) ≡ whole = length-take-le whole bytes (omega arith) in
                let more : length (take whole bytes) ≤ length image = filled_more (take whole bytes) blocks image lost is in
                omega (arith, size, more)
            | false ↦ λ is. let more : length bytes ≤ length image = filled_more bytes blocks image lost is in omega (arith, more)
          ] filled
    ] completed
