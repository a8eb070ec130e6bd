-- The logical blocks below one position in the block map of a file.
use Rattle.std.proofs.Common.{◌≡◌, ℕ, zero, suc, ◌+◌, ◌-◌, ◌*◌, ◌/◌, ◌%◌, ◌<◌, ◌≤◌, ◌∙◌, sym, ap, subst, List, [], ◌∷◌, length, drop, length-drop, ◌^◌, slice_index, refl, arith, inl, inr, true, false, if◌then◌else◌, Option, Some, None}
use Rattle.std.specs.Option.{option_map_or}
use Rattle.std.proofs.lemmas.Bool.{cases_lt}
use Rattle.vol_layout.specs.Edition.{constants}
use Rattle.vol_layout.specs.declared.edition.Edition.{Edition}
use Rattle.vol_layout.specs.declared.edition.Edition.TheVariants.{V6, V7}
use Rattle.vol_layout.specs.Geometry.{Fits, in_zone}
use Rattle.vol_layout.specs.Inode.{kind_of, inode_place, address_at}
use Rattle.vol_layout.specs.BlockPointers.{mode_of, form_at, pointer_in, named, stored}
use Rattle.vol_layout.specs.BlockMaps.{form_of, file_form, has_places, block_limit, pointer_count, last_place, place_to, end_of}
use Rattle.vol_layout.specs.declared.geometry.Geometry.{Geometry}
use Rattle.vol_layout.specs.declared.block_map.BlockMap.{BlockMap}
use Rattle.vol_layout.specs.declared.block_map.BlockMap.TheVariants.{Small, Large, Deep, Bare}
use Rattle.vol_layout.specs.declared.block_map.BlockPath.{BlockPath}
use Rattle.vol_layout.proofs.FrameLaws.{pointers_in}
use Rattle.vol_layout.proofs.NameLaws.{zero_out, named_stops}
use Rattle.vol_layout.proofs.PlaceLaws.{has_no_way, last_none, last_leaf, entry_to, way_place}
use Rattle.vol_file.specs.Holes.{IsHole, blocks_left, direct_count}
use Rattle.vol_layout.proofs.LastPlaces.{last_small, last_large, last_huge, last_direct, last_single, last_double, last_triple}

-- the first item of a list, or 0 if it is empty
abbrev pub head_of : List ℕ → ℕ
head_of [] = 0
head_of (j ∷ p) = j

abbrev pub tail_of : List ℕ → List ℕ
tail_of [] = []
tail_of (j ∷ p) = p

-- a position in the block map is at or below one of the entries `low..high` of the block at position `above`, where the entries are `n` levels above
-- its end
abbrev LiesAmong : ℕ → List ℕ → ℕ → ℕ → Option (List ℕ) → Type 0
LiesAmong n above low high None = Unit {0}
LiesAmong n above low high (Some q) = (x : ℕ) × (drop n q ≡ x ∷ above) × (low ≤ x) × (x < high)

-- position `p` in the block map without its last `n` indexes is followed by at least `k` more entries in its block; an address is followed by none
pub record HasMore (pointers n : ℕ) (p : List ℕ) (k : ℕ) : Type 0 where
  pub within : head_of (drop n p) + k < pointers
  pub address : tail_of (drop n p) ≡ [] → k ≡ 0

-- the position in the block map of logical block `t` is below `p` without its last `n` indexes, or below one of the `k` entries that follow it
abbrev IsAmong : BlockMap → ℕ → List ℕ → ℕ → ℕ → Type 0
IsAmong form n p k t = LiesAmong n (tail_of (drop n p)) (head_of (drop n p)) (head_of (drop n p) + k + 1) (last_place form t)

-- if `Some p` is `Some q`, then `p` is `q`
pub some_is : (p q : List ℕ) → Some p ≡ Some q → p ≡ q
some_is p q e = cc

-- a position in the block map is at or below one of the entries `low..high` if its index on their level is in this range
lies : (form : BlockMap) (n low high x t : ℕ) (above q : List ℕ) → last_place form t ≡ Some q → drop n q ≡ x ∷ above → low ≤ x → x < high
    → LiesAmong n above low high (last_place form t)
lies form n low high x t above q is top from to = subst (LiesAmong n above low high) (sym is) (x, top, from, to)

-- a logical block past the limit has no position in the block map
lies_past : (form : BlockMap) (n low high t : ℕ) (above : List ℕ) → block_limit form ≤ t → LiesAmong n above low high (last_place form t)
lies_past form n low high t above past = subst (LiesAmong n above low high) (sym (has_no_way form t past)) tt

-- `IsAmong` holds for logical blocks of a large file below the first seven addresses
among_large : (b t n k : ℕ) → b < 1792 → b ≤ t → n < 2 → HasMore 256 n ((b % 256) ∷ ((b / 256) ∷ [])) k
    → t < b + blocks_left 256 n ((b % 256) ∷ ((b / 256) ∷ [])) + k * 256 ^ n → IsAmong Large n ((b % 256) ∷ ((b / 256) ∷ [])) k t
among_large b t zero k low from few more within =
    let same : t / 256 ≡ b / 256 = omega arith in
    lies Large 0 (b % 256) (b % 256 + k + 1) (t % 256) t ((b / 256) ∷ []) ((t % 256) ∷ ((t / 256) ∷ [])) (last_large t (omega arith))
    (ap (λ a. (t % 256) ∷ (a ∷ [])) same) (omega arith) (omega arith)
among_large b t (suc zero) k low from few more within =
    let none : k ≡ 0 = more.address refl in
    let same : t / 256 ≡ b / 256 = omega arith in
    lies Large 1 (b / 256) (b / 256 + k + 1) (t / 256) t [] ((t % 256) ∷ ((t / 256) ∷ [])) (last_large t (omega arith)) refl (omega arith) (omega arith)
among_large b t (suc (suc n)) k low from few more within = absurd (omega arith)

-- `IsAmong` holds for logical blocks of a large file below the doubly indirect block
among_huge : (b t n k : ℕ) → 1792 ≤ b → b < 32768 → b ≤ t → n < 3 → HasMore 256 n ((b % 256) ∷ ((b / 256 - 7) ∷ (7 ∷ []))) k
    → t < b + blocks_left 256 n ((b % 256) ∷ ((b / 256 - 7) ∷ (7 ∷ []))) + k * 256 ^ n → IsAmong Large n ((b % 256) ∷ ((b / 256 - 7) ∷ (7 ∷ []))) k t
among_huge b t zero k low high from few more within =
    let same : t / 256 ≡ b / 256 = omega arith in
    lies Large 0 (b % 256) (b % 256 + k + 1) (t % 256) t ((b / 256 - 7) ∷ (7 ∷ [])) ((t % 256) ∷ ((t / 256 - 7) ∷ (7 ∷ []))) (last_huge t (omega arith) (omega arith))
    (ap (λ a. (t % 256) ∷ ((a - 7) ∷ (7 ∷ []))) same) (omega arith) (omega arith)
among_huge b t (suc zero) k low high from few more within = elim (cases_lt t 32768) [
  | inl under ↦
      lies Large 1 (b / 256 - 7) (b / 256 - 7 + k + 1) (t / 256 - 7) t (7 ∷ []) ((t % 256) ∷ ((t / 256 - 7) ∷ (7 ∷ []))) (last_huge t (omega arith) under)
      refl (omega arith) (omega arith)
  | inr past ↦ lies_past Large 1 (b / 256 - 7) (b / 256 - 7 + k + 1) t (7 ∷ []) past
]
among_huge b t (suc (suc zero)) k low high from few more within =
    let none : k ≡ 0 = more.address refl in
    elim (cases_lt t 32768) [
      | inl under ↦ lies Large 2 7 (7 + k + 1) 7 t [] ((t % 256) ∷ ((t / 256 - 7) ∷ (7 ∷ []))) (last_huge t (omega arith) under) refl (omega arith) (omega arith)
      | inr past ↦ lies_past Large 2 7 (7 + k + 1) t [] past
    ]
among_huge b t (suc (suc (suc n))) k low high from few more within = absurd (omega arith)

-- `IsAmong` holds for logical blocks of the seventh edition below the indirect block
among_single : (b t n k : ℕ) → 10 ≤ b → b < 138 → b ≤ t → n < 2 → HasMore 128 n ((b - 10) ∷ (10 ∷ [])) k
    → t < b + blocks_left 128 n ((b - 10) ∷ (10 ∷ [])) + k * 128 ^ n → IsAmong Deep n ((b - 10) ∷ (10 ∷ [])) k t
among_single b t zero k low high from few more within =
    lies Deep 0 (b - 10) (b - 10 + k + 1) (t - 10) t (10 ∷ []) ((t - 10) ∷ (10 ∷ [])) (last_single t (omega arith) (omega arith)) refl (omega arith) (omega arith)
among_single b t (suc zero) k low high from few more within =
    let none : k ≡ 0 = more.address refl in
    lies Deep 1 10 (10 + k + 1) 10 t [] ((t - 10) ∷ (10 ∷ [])) (last_single t (omega arith) (omega arith)) refl (omega arith) (omega arith)
among_single b t (suc (suc n)) k low high from few more within = absurd (omega arith)

-- `IsAmong` holds for logical blocks of the seventh edition below the doubly indirect block
among_double : (b t n k : ℕ) → 138 ≤ b → b < 16522 → b ≤ t → n < 3 → HasMore 128 n (((b - 138) % 128) ∷ (((b - 138) / 128) ∷ (11 ∷ []))) k
    → t < b + blocks_left 128 n (((b - 138) % 128) ∷ (((b - 138) / 128) ∷ (11 ∷ []))) + k * 128 ^ n → IsAmong Deep n (((b - 138) % 128) ∷ (((b - 138) / 128) ∷ (11 ∷ []))) k t
among_double b t zero k low high from few more within =
    let same : (t - 138) / 128 ≡ (b - 138) / 128 = omega arith in
    let under : t < 16522 = omega arith in
    lies Deep 0 ((b - 138) % 128) ((b - 138) % 128 + k + 1) ((t - 138) % 128) t (((b - 138) / 128) ∷ (11 ∷ [])) (((t - 138) % 128) ∷ (((t - 138) / 128) ∷ (11 ∷ [])))
    (last_double t (omega arith) under) (ap (λ a. ((t - 138) % 128) ∷ (a ∷ (11 ∷ []))) same) (omega arith) (omega arith)
among_double b t (suc zero) k low high from few more within =
    let under : t < 16522 = omega arith in
    lies Deep 1 ((b - 138) / 128) ((b - 138) / 128 + k + 1) ((t - 138) / 128) t (11 ∷ []) (((t - 138) % 128) ∷ (((t - 138) / 128) ∷ (11 ∷ []))) (last_double t (omega arith) under)
    refl (omega arith) (omega arith)
among_double b t (suc (suc zero)) k low high from few more within =
    let none : k ≡ 0 = more.address refl in
    let under : t < 16522 = omega arith in
    lies Deep 2 11 (11 + k + 1) 11 t [] (((t - 138) % 128) ∷ (((t - 138) / 128) ∷ (11 ∷ []))) (last_double t (omega arith) under) refl (omega arith) (omega arith)
among_double b t (suc (suc (suc n))) k low high from few more within = absurd (omega arith)

-- `IsAmong` holds for logical blocks of the seventh edition below the triply indirect block
among_triple : (b t n k : ℕ) → 16522 ≤ b → b < 2113674 → b ≤ t → n < 4
    → HasMore 128 n (((b - 16522) % 128) ∷ (((b - 16522) / 128 % 128) ∷ (((b - 16522) / 16384) ∷ (12 ∷ [])))) k
    → t < b + blocks_left 128 n (((b - 16522) % 128) ∷ (((b - 16522) / 128 % 128) ∷ (((b - 16522) / 16384) ∷ (12 ∷ [])))) + k * 128 ^ n
    → IsAmong Deep n (((b - 16522) % 128) ∷ (((b - 16522) / 128 % 128) ∷ (((b - 16522) / 16384) ∷ (12 ∷ [])))) k t
among_triple b t zero k low high from few more within =
    let same : (t - 16522) / 128 ≡ (b - 16522) / 128 = omega arith in
    let over : (t - 16522) / 16384 ≡ (b - 16522) / 16384 = omega arith in
    let under : t < 2113674 = omega arith in
    lies Deep 0 ((b - 16522) % 128) ((b - 16522) % 128 + k + 1) ((t - 16522) % 128) t (((b - 16522) / 128 % 128) ∷ (((b - 16522) / 16384) ∷ (12 ∷ [])))
    (((t - 16522) % 128) ∷ (((t - 16522) / 128 % 128) ∷ (((t - 16522) / 16384) ∷ (12 ∷ [])))) (last_triple t (omega arith) under)
    (ap (λ a. ((t - 16522) % 128) ∷ ((a % 128) ∷ (((t - 16522) / 16384) ∷ (12 ∷ [])))) same
    ∙ ap (λ a. ((t - 16522) % 128) ∷ (((b - 16522) / 128 % 128) ∷ (a ∷ (12 ∷ [])))) over) (omega arith) (omega arith)
among_triple b t (suc zero) k low high from few more within =
    let over : (t - 16522) / 16384 ≡ (b - 16522) / 16384 = omega arith in
    let under : t < 2113674 = omega arith in
    lies Deep 1 ((b - 16522) / 128 % 128) ((b - 16522) / 128 % 128 + k + 1) ((t - 16522) / 128 % 128) t (((b - 16522) / 16384) ∷ (12 ∷ []))
    (((t - 16522) % 128) ∷ (((t - 16522) / 128 % 128) ∷ (((t - 16522) / 16384) ∷ (12 ∷ [])))) (last_triple t (omega arith) under)
    (ap (λ a. ((t - 16522) / 128 % 128) ∷ (a ∷ (12 ∷ []))) over) (omega arith) (omega arith)
among_triple b t (suc (suc zero)) k low high from few more within =
    let under : t < 2113674 = omega arith in
    lies Deep 2 ((b - 16522) / 16384) ((b - 16522) / 16384 + k + 1) ((t - 16522) / 16384) t (12 ∷ [])
    (((t - 16522) % 128) ∷ (((t - 16522) / 128 % 128) ∷ (((t - 16522) / 16384) ∷ (12 ∷ [])))) (last_triple t (omega arith) under) refl (omega arith) (omega arith)
among_triple b t (suc (suc (suc zero))) k low high from few more within =
    let none : k ≡ 0 = more.address refl in
    let under : t < 2113674 = omega arith in
    lies Deep 3 12 (12 + k + 1) 12 t [] (((t - 16522) % 128) ∷ (((t - 16522) / 128 % 128) ∷ (((t - 16522) / 16384) ∷ (12 ∷ [])))) (last_triple t (omega arith) under) refl (omega arith) (omega arith)
among_triple b t (suc (suc (suc (suc n)))) k low high from few more within = absurd (omega arith)

-- an indirect block has at most 256 entries
pub few_pointers : (edition : Edition) → (constants edition).pointers ≤ 256
few_pointers V6 = omega arith
few_pointers V7 = omega arith

-- the logical blocks left below an entry, and those below the `k` entries that follow it, have positions in the block map below these entries
among : (form : BlockMap) (b t n k : ℕ) (p : List ℕ) → last_place form b ≡ Some p → 2 ≤ length p → n < length p → b ≤ t → HasMore (pointer_count form) n p k
    → t < b + blocks_left (pointer_count form) n p + k * pointer_count form ^ n → IsAmong form n p k t
among Small b t n k p e deep few from more within =
    let low : b < 8 = (last_leaf Small b p e).limit in
    let is : (b ∷ []) ≡ p = some_is (b ∷ []) p (sym (last_small b low) ∙ e) in
    let short : length p ≡ 1 = sym (ap length is) in
    absurd (omega arith)
among Large b t n k p e deep few from more within = elim (cases_lt b 1792) [
  | inl low ↦
      let is : ((b % 256) ∷ ((b / 256) ∷ [])) ≡ p = some_is ((b % 256) ∷ ((b / 256) ∷ [])) p (sym (last_large b low) ∙ e) in
      subst (λ q. n < length q → HasMore 256 n q k → t < b + blocks_left 256 n q + k * 256 ^ n → IsAmong Large n q k t) is
      (λ few more within. among_large b t n k low from few more within) few more within
  | inr low ↦
      let high : b < 32768 = (last_leaf Large b p e).limit in
      let is : ((b % 256) ∷ ((b / 256 - 7) ∷ (7 ∷ []))) ≡ p = some_is ((b % 256) ∷ ((b / 256 - 7) ∷ (7 ∷ []))) p (sym (last_huge b low high) ∙ e) in
      subst (λ q. n < length q → HasMore 256 n q k → t < b + blocks_left 256 n q + k * 256 ^ n → IsAmong Large n q k t) is
      (λ few more within. among_huge b t n k low high from few more within) few more within
]
among Deep b t n k p e deep few from more within =
    let limit : b < 2113674 = (last_leaf Deep b p e).limit in
    elim (cases_lt b 10) [
      | inl low ↦
          let is : (b ∷ []) ≡ p = some_is (b ∷ []) p (sym (last_direct b low) ∙ e) in
          let short : length p ≡ 1 = sym (ap length is) in
          absurd (omega arith)
      | inr first ↦ elim (cases_lt b 138) [
        | inl low ↦
            let is : ((b - 10) ∷ (10 ∷ [])) ≡ p = some_is ((b - 10) ∷ (10 ∷ [])) p (sym (last_single b first low) ∙ e) in
            subst (λ q. n < length q → HasMore 128 n q k → t < b + blocks_left 128 n q + k * 128 ^ n → IsAmong Deep n q k t) is
            (λ few more within. among_single b t n k first low from few more within) few more within
        | inr second ↦ elim (cases_lt b 16522) [
          | inl low ↦
              let is : (((b - 138) % 128) ∷ (((b - 138) / 128) ∷ (11 ∷ []))) ≡ p = some_is (((b - 138) % 128) ∷ (((b - 138) / 128) ∷ (11 ∷ []))) p (sym (last_double b second low) ∙ e) in
              subst (λ q. n < length q → HasMore 128 n q k → t < b + blocks_left 128 n q + k * 128 ^ n → IsAmong Deep n q k t) is
              (λ few more within. among_double b t n k second low from few more within) few more within
          | inr third ↦
              let is : (((b - 16522) % 128) ∷ (((b - 16522) / 128 % 128) ∷ (((b - 16522) / 16384) ∷ (12 ∷ [])))) ≡ p = some_is (((b - 16522) % 128) ∷ (((b - 16522) / 128 % 128) ∷ (((b - 16522) / 16384) ∷ (12 ∷ [])))) p (sym (last_triple b third limit) ∙ e) in
              subst (λ q. n < length q → HasMore 128 n q k → t < b + blocks_left 128 n q + k * 128 ^ n → IsAmong Deep n q k t) is
              (λ few more within. among_triple b t n k third limit from few more within) few more within
        ]
      ]
    ]
among Bare b t n k p e deep few from more within = let limit : b < 0 = (last_leaf Bare b p e).limit in absurd (omega arith)

-- a position in the block map below a position that points to no block points to no block
below_none : (geometry : Geometry) (image : List ℕ) (i n : ℕ) (p : List ℕ) → Fits geometry image → n < length p
    → named geometry image i (drop n p) ≡ 0 → named geometry image i p ≡ 0
below_none geometry image i zero p fits few none = none
below_none geometry image i (suc n) [] fits few none = absurd (omega arith)
below_none geometry image i (suc n) (j ∷ []) fits few none = absurd (omega arith)
below_none geometry image i (suc n) (j ∷ (a ∷ p)) fits few none =
    named_stops geometry image i j a p
    (ap (in_zone geometry) (below_none geometry image i n (a ∷ p) fits (omega arith) none) ∙ zero_out geometry image fits)

-- a position in the block map has more indexes than are removed if one is left
long_enough : (n : ℕ) (q : List ℕ) (x : ℕ) (above : List ℕ) → drop n q ≡ x ∷ above → n < length q
long_enough n q x above top = let left : length q - n ≡ suc (length above) = sym (length-drop n q) ∙ ap length top in omega arith

-- no block number is stored for a logical block below entries that are 0
stored_none : (geometry : Geometry) (image : List ℕ) (i n low high : ℕ) (above : List ℕ) (o : Option (List ℕ)) → Fits geometry image
    → LiesAmong n above low high o
    → ((x : ℕ) → low ≤ x → x < high → named geometry image i (x ∷ above) ≡ 0)
    → option_map_or (named geometry image i) o 0 ≡ 0
stored_none geometry image i n low high above None fits among none = refl
stored_none geometry image i n low high above (Some q) fits (x, top, from, to) none =
    below_none geometry image i n q fits (long_enough n q x above top)
    (ap (named geometry image i) top ∙ none x from to)

-- the position in the block map at the end of a path, without its last `n` indexes, is the position reached by the first `d` entries
pub drop_to : (k : ℕ) (entries : List ℕ) (n d : ℕ) → drop n (place_to k entries (n + d)) ≡ place_to k entries d
drop_to k entries zero d = let e : zero + d ≡ d = omega arith in ap (place_to k entries) e
drop_to k entries (suc n) d = let e : suc n + d ≡ suc (n + d) = omega arith in rw e (drop_to k entries n d)

-- a position in the block map reached by `d` entries has `d + 1` indexes
pub length_to : (k : ℕ) (entries : List ℕ) (d : ℕ) → length (place_to k entries d) ≡ suc d
length_to k entries zero = refl
length_to k entries (suc d) = ap suc (length_to k entries d)

-- if a logical block has a path, the `pointer_count` of a mode's block map is the edition's number of entries in an indirect block
pointers_by : (edition : Edition) (mode b : ℕ) (p : List ℕ) → last_place (form_of edition mode) b ≡ Some p
    → pointer_count (form_of edition mode) ≡ (constants edition).pointers
pointers_by edition mode b p =
    elim (has_places (kind_of edition mode)) as (λ t. last_place (if t then file_form edition mode else Bare) b ≡ Some p
    → pointer_count (if t then file_form edition mode else Bare) ≡ (constants edition).pointers) [
      | true ↦ λ e. pointers_in edition mode
      | false ↦ λ e. let none : b < 0 = (last_leaf Bare b p e).limit in absurd (omega arith)
    ]

-- if a logical block has a path, the `pointer_count` of the file's block map is the edition's number of entries in an indirect block
pub pointers_at : (geometry : Geometry) (image : List ℕ) (i : ℕ) (form : BlockMap) (b : ℕ) (way : BlockPath) → form ≡ form_at geometry image i
    → Some (end_of way) ≡ last_place form b → pointer_count form ≡ (constants geometry.edition).pointers
pointers_at geometry image i form b way is end =
    ap pointer_count is
    ∙ pointers_by geometry.edition (mode_of geometry image i) b (end_of way) (ap (λ f. last_place f b) (sym is) ∙ sym end)

-- no block number is stored for the logical blocks left below the entry reached by the first `d` entries of a path, nor for those below the `k`
-- entries that follow it, if all these entries are 0
pub hole_below : (geometry : Geometry) (image : List ℕ) (i : ℕ) (form : BlockMap) (b d n k : ℕ) (way : BlockPath) → Fits geometry image
    → form ≡ form_at geometry image i → Some (end_of way) ≡ last_place form b → 1 ≤ way.depth → n + d ≡ way.depth
    → HasMore (constants geometry.edition).pointers n (end_of way) k
    → ((x : ℕ) → head_of (place_to way.address way.entries d) ≤ x → x < head_of (place_to way.address way.entries d) + k + 1
    → named geometry image i (x ∷ tail_of (place_to way.address way.entries d)) ≡ 0)
    → IsHole geometry image i form b
    (b + blocks_left (constants geometry.edition).pointers n (end_of way) + k * (constants geometry.edition).pointers ^ n)
hole_below geometry image i form b d n k way fits is end deep whole more none = λ t from within.
    let p = end_of way in
    let front : drop n p ≡ place_to way.address way.entries d =
    ap (λ m. drop n (place_to way.address way.entries m)) (sym whole) ∙ drop_to way.address way.entries n d in
    let long : length p ≡ suc way.depth = length_to way.address way.entries way.depth in
    let same : (constants geometry.edition).pointers ≡ pointer_count form = sym (pointers_at geometry image i form b way is end) in
    let lies : IsAmong form n p k t =
    among form b t n k p (sym end) (omega arith) (omega arith) from (subst (λ m. HasMore m n p k) same more)
    (subst (λ m. t < b + blocks_left m n p + k * m ^ n) same within) in
    stored_none geometry image i n (head_of (drop n p)) (head_of (drop n p) + k + 1) (tail_of (drop n p)) (last_place form t) fits lies
    (subst (λ q. (x : ℕ) → head_of q ≤ x → x < head_of q + k + 1 → named geometry image i (x ∷ tail_of q) ≡ 0) (sym front) none)

-- each entry on a path is an entry of an indirect block
pub few_entries : (geometry : Geometry) (image : List ℕ) (i : ℕ) (form : BlockMap) (b : ℕ) (way : BlockPath) → form ≡ form_at geometry image i
    → Some (end_of way) ≡ last_place form b → (k : ℕ) → k < way.depth → slice_index way.entries k < (constants geometry.edition).pointers
few_entries geometry image i form b way is end k h =
    let low : slice_index way.entries k < pointer_count form = entry_to form way.address way.entries k (way_place form b way (suc k) end (omega arith)) in
    let same = pointers_at geometry image i form b way is end in
    omega arith

-- a file has at most 2113674 logical blocks
few_blocks : (form : BlockMap) → block_limit form ≤ 2113674
few_blocks Small = omega arith
few_blocks Large = omega arith
few_blocks Deep = omega arith
few_blocks Bare = omega arith

-- a logical block that has a path is below 2113674
pub low_block : (form : BlockMap) (b : ℕ) (p : List ℕ) → last_place form b ≡ Some p → b < 2113674
low_block form b p e = let limit = (last_leaf form b p e).limit in let few = few_blocks form in omega arith

-- the block number stored for a direct block is the address with its index
pub stored_direct : (geometry : Geometry) (image : List ℕ) (i : ℕ) (form : BlockMap) (b : ℕ) → b < direct_count form
    → stored geometry image i form b ≡ address_at geometry.edition image (inode_place geometry.edition i) b
stored_direct geometry image i Small b low = ap (λ o. option_map_or (named geometry image i) o 0) (last_small b low)
stored_direct geometry image i Large b low = absurd (omega arith)
stored_direct geometry image i Deep b low = ap (λ o. option_map_or (named geometry image i) o 0) (last_direct b low)
stored_direct geometry image i Bare b low = absurd (omega arith)

-- no block number is stored for logical blocks that have no path
pub hole_past : (geometry : Geometry) (image : List ℕ) (i : ℕ) (form : BlockMap) (b end : ℕ) → last_place form b ≡ None → IsHole geometry image i form b end
hole_past geometry image i form b end none = λ t from within.
    let past : block_limit form ≤ t = omega (arith, last_none form b none) in
    ap (λ o. option_map_or (named geometry image i) o 0) (has_no_way form t past)

-- the number at entry `x` of the block reached by the first `d` entries of a path
pub named_under : (geometry : Geometry) (image : List ℕ) (i k : ℕ) (entries : List ℕ) (d x : ℕ)
    → named geometry image i (x ∷ place_to k entries d) ≡ pointer_in geometry image (named geometry image i (place_to k entries d)) x
named_under geometry image i k entries zero x = refl
named_under geometry image i k entries (suc d) x = refl

-- no block number is stored for the logical blocks left below an entry of a path and below the entries that follow it, up to `m` entries, if all
-- these entries are 0
pub hole_at_entries : (geometry : Geometry) (image : List ℕ) (i : ℕ) (form : BlockMap) (b d m : ℕ) (way : BlockPath) → Fits geometry image
    → form ≡ form_at geometry image i → Some (end_of way) ≡ last_place form b → d < way.depth → 1 ≤ m
    → slice_index way.entries d + m ≤ (constants geometry.edition).pointers
    → ((x : ℕ) → slice_index way.entries d ≤ x → x < slice_index way.entries d + m
    → pointer_in geometry image (named geometry image i (place_to way.address way.entries d)) x ≡ 0)
    → IsHole geometry image i form b
    (b + blocks_left (constants geometry.edition).pointers (way.depth - (d + 1)) (end_of way)
    + (m - 1) * (constants geometry.edition).pointers ^ (way.depth - d - 1))
hole_at_entries geometry image i form b d m way fits is end below some room none =
    let pointers = (constants geometry.edition).pointers in
    let n = way.depth - d - 1 in
    let levels : way.depth - (d + 1) ≡ n = omega arith in
    let whole : n + suc d ≡ way.depth = omega arith in
    let front : drop n (end_of way) ≡ slice_index way.entries d ∷ place_to way.address way.entries d =
    ap (λ m. drop n (place_to way.address way.entries m)) (sym whole) ∙ drop_to way.address way.entries n (suc d) in
    let more : HasMore pointers n (end_of way) (m - 1) = record {
      within = subst (λ q. head_of q + (m - 1) < pointers) (sym front) (omega arith);
      address = λ empty.
          let long : length (place_to way.address way.entries d) ≡ 0 = ap length (subst (λ q. tail_of q ≡ []) front empty) in
          absurd (omega (arith, length_to way.address way.entries d));
    } in
    subst (λ l. IsHole geometry image i form b (b + blocks_left pointers l (end_of way) + (m - 1) * pointers ^ n)) (sym levels)
    (hole_below geometry image i form b (suc d) n (m - 1) way fits is end (omega arith) whole more
    (λ x low high. named_under geometry image i way.address way.entries d x ∙ none x low (omega arith)))
