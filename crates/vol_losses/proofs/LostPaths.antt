-- Lemmas on the lost blocks on the paths of logical blocks.
use Rattle.std.proofs.Common.{◌≡◌, ℕ, zero, suc, ◌+◌, ◌-◌, ◌*◌, ◌/◌, ◌%◌, ◌<◌, ◌≤◌, ◌∙◌, sym, ap, subst, Bool, true, false, ◌&&◌, ◌||◌, List, [], ◌∷◌, length, slice_index, refl, arith, inl, inr, if◌then◌else◌, Some, None}
use Rattle.std.proofs.lemmas.Bool.{cases_lt, cases_eq}
use Rattle.std.specs.Option.{option_map_or}
use Rattle.vol_layout.specs.Edition.{constants, number}
use Rattle.vol_layout.specs.Geometry.{in_zone, Fits}
use Rattle.vol_layout.specs.BlockMaps.{block_limit, pointer_count, last_place, place_to, end_of}
use Rattle.vol_layout.specs.BlockPointers.{form_at, pointer_in, named}
use Rattle.vol_layout.specs.declared.geometry.Geometry.{Geometry}
use Rattle.vol_layout.specs.declared.block_map.BlockMap.{BlockMap}
use Rattle.vol_layout.specs.declared.block_map.BlockMap.TheVariants.{Small, Large, Deep, Bare}
use Rattle.vol_layout.specs.declared.block_map.BlockPath.{BlockPath}
use Rattle.vol_layout.proofs.NameLaws.{zero_out, named_stops}
use Rattle.vol_layout.proofs.PlaceLaws.{has_no_way, last_none, last_leaf}
use Rattle.vol_layout.proofs.LastPlaces.{last_small, last_large, last_huge, last_direct, last_single, last_double, last_triple}
use Rattle.vol_file.proofs.Indexes.{named_more}
use Rattle.vol_file.proofs.Subtrees.{head_of, tail_of, some_is, length_to, pointers_at}
use Rattle.vol_losses.specs.Losses.{is_lost, is_lost_block, is_lost_on, is_unsure}

-- a logical block past the last that a file can have can be trusted
pub sure_past : (geometry : Geometry) (image : List ℕ) (lost : List Bool) (i : ℕ) (form : BlockMap) (b c : ℕ) → form ≡ form_at geometry image i
    → None ≡ last_place form b → b ≤ c → is_unsure geometry image lost i c ≡ false
sure_past geometry image lost i form b c is none low =
    let past : block_limit form ≤ c = omega (arith, last_none form b (sym none)) in
    ap (λ f. option_map_or (is_lost_on geometry image lost i) (last_place f c) false) (sym is)
    ∙ ap (λ o. option_map_or (is_lost_on geometry image lost i) o false) (has_no_way form c past)

-- logical block `t` is at an entry of the indirect block that has position `p` in the block map as an entry
abbrev IsBeside : BlockMap → List ℕ → ℕ → Type 0
IsBeside form p t = (x : ℕ) × (last_place form t ≡ Some (x ∷ tail_of p))

-- the logical blocks left of an indirect block are at its entries
beside : (form : BlockMap) (b t : ℕ) (p : List ℕ) → last_place form b ≡ Some p → 2 ≤ length p → b ≤ t → t < b + (pointer_count form - head_of p)
    → IsBeside form p t
beside Small b t p e deep from within =
    let low : b < 8 = (last_leaf Small b p e).limit in
    let is : (b ∷ []) ≡ p = some_is (b ∷ []) p (sym (last_small b low) ∙ e) in
    let short : length p ≡ 1 = sym (ap length is) in
    absurd (omega arith)
beside Large b t p e deep from within = elim (cases_lt b 1792) [
  | inl low ↦
      let is : ((b % 256) ∷ ((b / 256) ∷ [])) ≡ p = some_is ((b % 256) ∷ ((b / 256) ∷ [])) p (sym (last_large b low) ∙ e) in
      subst (λ q. t < b + (256 - head_of q) → IsBeside Large q t) is
      (λ within.
      let same : t / 256 ≡ b / 256 = omega arith in
      (t % 256, last_large t (omega arith) ∙ ap (λ a. Some ((t % 256) ∷ (a ∷ []))) same)) within
  | inr low ↦
      let high : b < 32768 = (last_leaf Large b p e).limit in
      let is : ((b % 256) ∷ ((b / 256 - 7) ∷ (7 ∷ []))) ≡ p = some_is ((b % 256) ∷ ((b / 256 - 7) ∷ (7 ∷ []))) p (sym (last_huge b low high) ∙ e) in
      subst (λ q. t < b + (256 - head_of q) → IsBeside Large q t) is
      (λ within.
      let same : t / 256 - 7 ≡ b / 256 - 7 = omega arith in
      (t % 256, last_huge t (omega arith) (omega arith) ∙ ap (λ a. Some ((t % 256) ∷ (a ∷ (7 ∷ [])))) same)) within
]
beside Deep b t p e deep from within =
    let limit : b < 2113674 = (last_leaf Deep b p e).limit in
    elim (cases_lt b 10) [
      | inl low ↦
          let is : (b ∷ []) ≡ p = some_is (b ∷ []) p (sym (last_direct b low) ∙ e) in
          let short : length p ≡ 1 = sym (ap length is) in
          absurd (omega arith)
      | inr first ↦ elim (cases_lt b 138) [
        | inl low ↦
            let is : ((b - 10) ∷ (10 ∷ [])) ≡ p = some_is ((b - 10) ∷ (10 ∷ [])) p (sym (last_single b first low) ∙ e) in
            subst (λ q. t < b + (128 - head_of q) → IsBeside Deep q t) is
            (λ within. (t - 10, last_single t (omega arith) (omega arith))) within
        | inr second ↦ elim (cases_lt b 16522) [
          | inl low ↦
              let is : (((b - 138) % 128) ∷ (((b - 138) / 128) ∷ (11 ∷ []))) ≡ p = some_is (((b - 138) % 128) ∷ (((b - 138) / 128) ∷ (11 ∷ []))) p (sym (last_double b second low) ∙ e) in
              subst (λ q. t < b + (128 - head_of q) → IsBeside Deep q t) is
              (λ within.
              let same : (t - 138) / 128 ≡ (b - 138) / 128 = omega arith in
              ((t - 138) % 128, last_double t (omega arith) (omega arith) ∙ ap (λ a. Some (((t - 138) % 128) ∷ (a ∷ (11 ∷ [])))) same)) within
          | inr third ↦
              let is : (((b - 16522) % 128) ∷ (((b - 16522) / 128 % 128) ∷ (((b - 16522) / 16384) ∷ (12 ∷ [])))) ≡ p = some_is (((b - 16522) % 128) ∷ (((b - 16522) / 128 % 128) ∷ (((b - 16522) / 16384) ∷ (12 ∷ [])))) p (sym (last_triple b third limit) ∙ e) in
              subst (λ q. t < b + (128 - head_of q) → IsBeside Deep q t) is
              (λ within.
              let same : (t - 16522) / 128 ≡ (b - 16522) / 128 = omega arith in
              let high : (t - 16522) / 16384 ≡ (b - 16522) / 16384 = omega arith in (
                (t - 16522) % 128,
                last_triple t (omega arith) (omega arith)
                    ∙ (ap (λ a. Some (((t - 16522) % 128) ∷ ((a % 128) ∷ (((t - 16522) / 16384) ∷ (12 ∷ []))))) same
                    ∙ ap (λ a. Some (((t - 16522) % 128) ∷ (((b - 16522) / 128 % 128) ∷ (a ∷ (12 ∷ []))))) high),
              )) within
        ]
      ]
    ]
beside Bare b t p e deep from within = let limit : b < 0 = (last_leaf Bare b p e).limit in absurd (omega arith)

-- a disjunction holds if its second part does
pub or_true : (a b : Bool) → b ≡ true → (a || b) ≡ true
or_true true b e = refl
or_true false b e = e

-- a disjunction with false is its first part
pub or_false : (a : Bool) → (a || false) ≡ a
or_false true = refl
or_false false = refl

-- a conjunction with false is false
pub and_false : (a : Bool) → (a && false) ≡ false
and_false true = refl
and_false false = refl

-- a lost block on the path to a position in the block map is on the path to each position below it
lost_under : (geometry : Geometry) (image : List ℕ) (lost : List Bool) (i j : ℕ) (p : List ℕ)
    → is_lost_on geometry image lost i p ≡ true → is_lost_on geometry image lost i (j ∷ p) ≡ true
unfolding is_lost_on
lost_under geometry image lost i j p here =
    or_true (is_lost_block geometry lost (named geometry image i (j ∷ p))) (is_lost_on geometry image lost i p) here

-- a lost block on the path to the first entries of a path is on the path to more of them
lost_to : (geometry : Geometry) (image : List ℕ) (lost : List Bool) (i k : ℕ) (entries : List ℕ) (d n : ℕ) → d ≤ n
    → is_lost_on geometry image lost i (place_to k entries d) ≡ true → is_lost_on geometry image lost i (place_to k entries n) ≡ true
lost_to geometry image lost i k entries zero zero h here = here
lost_to geometry image lost i k entries (suc d) zero h here = absurd (omega arith)
lost_to geometry image lost i k entries d (suc n) h here =
    elim (cases_eq d (suc n)) [
      | inl same ↦ subst (λ x. is_lost_on geometry image lost i (place_to k entries x) ≡ true) same here
      | inr other ↦ lost_under geometry image lost i (slice_index entries n) (place_to k entries n) (lost_to geometry image lost i k entries d n (omega arith) here)
    ]

-- no block on the path to a position in the block map is lost, and it points to no data block
record IsEnd (geometry : Geometry) (image : List ℕ) (lost : List Bool) (i : ℕ) (p : List ℕ) : Type 0 where
  sure : is_lost_on geometry image lost i p ≡ false
  out : in_zone geometry (named geometry image i p) ≡ false

-- a position in the block map below one that points to no data block points to none
end_under : (geometry : Geometry) (image : List ℕ) (lost : List Bool) (i j a : ℕ) (p : List ℕ) → Fits geometry image
    → IsEnd geometry image lost i (a ∷ p) → IsEnd geometry image lost i (j ∷ (a ∷ p))
unfolding is_lost_on
end_under geometry image lost i j a p fits here =
    let none : named geometry image i (j ∷ (a ∷ p)) ≡ 0 = named_stops geometry image i j a p here.out in
    let out : in_zone geometry (named geometry image i (j ∷ (a ∷ p))) ≡ false = ap (in_zone geometry) none ∙ zero_out geometry image fits in
    record {
      sure = ap (λ z. (z && is_lost lost (named geometry image i (j ∷ (a ∷ p)))) || is_lost_on geometry image lost i (a ∷ p)) out ∙ here.sure;
      out = out;
    }

-- an entry beside those of a path points to no data block either
end_beside : (geometry : Geometry) (image : List ℕ) (lost : List Bool) (i k : ℕ) (entries : List ℕ) (n x : ℕ) → Fits geometry image
    → IsEnd geometry image lost i (place_to k entries n) → IsEnd geometry image lost i (x ∷ place_to k entries n)
end_beside geometry image lost i k entries zero x fits here = end_under geometry image lost i x k [] fits here
end_beside geometry image lost i k entries (suc n) x fits here =
    end_under geometry image lost i x (slice_index entries n) (place_to k entries n) fits here

-- a position on a path that points to no data block is followed by others that don't
end_to : (geometry : Geometry) (image : List ℕ) (lost : List Bool) (i k : ℕ) (entries : List ℕ) (d n : ℕ) → d ≤ n → Fits geometry image
    → IsEnd geometry image lost i (place_to k entries d) → IsEnd geometry image lost i (place_to k entries n)
end_to geometry image lost i k entries zero zero h fits here = here
end_to geometry image lost i k entries (suc d) zero h fits here = absurd (omega arith)
end_to geometry image lost i k entries d (suc n) h fits here =
    elim (cases_eq d (suc n)) [
      | inl same ↦ subst (λ x. IsEnd geometry image lost i (place_to k entries x)) same here
      | inr other ↦ end_beside geometry image lost i k entries n (slice_index entries n) fits (end_to geometry image lost i k entries d n (omega arith) fits here)
    ]

-- the blocks on the path to a position are its own and those on the path above
on_to : (geometry : Geometry) (image : List ℕ) (lost : List Bool) (i k : ℕ) (entries : List ℕ) (d : ℕ)
    → is_lost_on geometry image lost i (place_to k entries d)
    ≡ (is_lost_block geometry lost (named geometry image i (place_to k entries d)) || is_lost_on geometry image lost i (tail_of (place_to k entries d)))
unfolding is_lost_on
on_to geometry image lost i k entries zero = refl
on_to geometry image lost i k entries (suc d) = refl

-- the path to the position reached by the first entries of a path, if no block above is lost
pub on_block : (geometry : Geometry) (image : List ℕ) (lost : List Bool) (i k : ℕ) (entries : List ℕ) (d m : ℕ) → m ≡ named geometry image i (place_to k entries d)
    → is_lost_on geometry image lost i (tail_of (place_to k entries d)) ≡ false
    → is_lost_on geometry image lost i (place_to k entries d) ≡ is_lost_block geometry lost m
on_block geometry image lost i k entries d m reached above =
    on_to geometry image lost i k entries d
    ∙ (ap (λ t. is_lost_block geometry lost (named geometry image i (place_to k entries d)) || t) above
    ∙ (or_false (is_lost_block geometry lost (named geometry image i (place_to k entries d))) ∙ ap (is_lost_block geometry lost) (sym reached)))

-- one more entry of a path leads to the number that the data block reached so far has at its index
pub next_named : (geometry : Geometry) (image : List ℕ) (i k : ℕ) (entries : List ℕ) (d m : ℕ) → m ≡ named geometry image i (place_to k entries d)
    → in_zone geometry m ≡ true
    → number geometry.edition image (512 * m) (slice_index entries d) ≡ named geometry image i (place_to k entries (d + 1))
unfolding pointer_in
next_named geometry image i k entries d m reached zone =
    ap (λ z. if z then number geometry.edition image (512 * m) (slice_index entries d) else 0) (sym zone)
    ∙ (ap (λ n. pointer_in geometry image n (slice_index entries d)) reached ∙ sym (named_more geometry image i k entries d))

-- no block above the next position on a path is lost if the one reached so far isn't
pub next_above : (geometry : Geometry) (image : List ℕ) (lost : List Bool) (i k : ℕ) (entries : List ℕ) (d m : ℕ) → m ≡ named geometry image i (place_to k entries d)
    → is_lost_on geometry image lost i (tail_of (place_to k entries d)) ≡ false → is_lost_block geometry lost m ≡ false
    → is_lost_on geometry image lost i (tail_of (place_to k entries (d + 1))) ≡ false
next_above geometry image lost i k entries d m reached above here =
    let next : d + 1 ≡ suc d = omega arith in
    ap (λ n. is_lost_on geometry image lost i (tail_of (place_to k entries n))) next
    ∙ (on_block geometry image lost i k entries d m reached above ∙ here)

-- no block is above an address of the i-node
pub first_above : (geometry : Geometry) (image : List ℕ) (lost : List Bool) (i : ℕ) → is_lost_on geometry image lost i [] ≡ false
unfolding is_lost_on
first_above geometry image lost i = refl

-- the logical blocks left of the last indirect block on a path are at its entries
beside_way : (geometry : Geometry) (image : List ℕ) (i : ℕ) (form : BlockMap) (b m t : ℕ) (way : BlockPath) → form ≡ form_at geometry image i
    → Some (end_of way) ≡ last_place form b → suc m ≡ way.depth → b ≤ t → t < b + ((constants geometry.edition).pointers - slice_index way.entries m)
    → (x : ℕ) × (last_place (form_at geometry image i) t ≡ Some (x ∷ place_to way.address way.entries m))
beside_way geometry image i form b m t way is end depth from within =
    let p : List ℕ = place_to way.address way.entries (suc m) in
    let place : last_place form b ≡ Some p = sym end ∙ ap (λ n. Some (place_to way.address way.entries n)) (sym depth) in
    let long : length p ≡ suc (suc m) = length_to way.address way.entries (suc m) in
    let found : IsBeside form p t = beside form b t p place (omega (arith, long)) from
    (subst (λ n. t < b + (n - slice_index way.entries m)) (sym (pointers_at geometry image i form b way is end)) within) in
    (found.0, ap (λ f. last_place f t) (sym is) ∙ found.1)

-- the logical blocks left of the last indirect block on a path can't be trusted if a block on the path to it is lost, and can if this path ends at no
-- data block
pub same_left : (geometry : Geometry) (image : List ℕ) (lost : List Bool) (i : ℕ) (form : BlockMap) (b d k t : ℕ) (way : BlockPath) (unsure : Bool) → Fits geometry image
    → form ≡ form_at geometry image i → Some (end_of way) ≡ last_place form b → d < way.depth → k ≡ named geometry image i (place_to way.address way.entries d)
    → is_lost_on geometry image lost i (tail_of (place_to way.address way.entries d)) ≡ false
    → unsure ≡ is_lost_block geometry lost k → (unsure ≡ false → in_zone geometry k ≡ false)
    → b ≤ t → t < b + ((constants geometry.edition).pointers - slice_index way.entries (way.depth - 1))
    → is_unsure geometry image lost i t ≡ unsure
same_left geometry image lost i form b d k t way true fits is end low reached above unsure out from within =
    let m = way.depth - 1 in
    let found = beside_way geometry image i form b m t way is end (omega (arith, low)) from within in
    let here : is_lost_on geometry image lost i (place_to way.address way.entries d) ≡ true =
    on_block geometry image lost i way.address way.entries d k reached above ∙ sym unsure in
    ap (λ o. option_map_or (is_lost_on geometry image lost i) o false) found.1
    ∙ lost_under geometry image lost i found.0 (place_to way.address way.entries m)
    (lost_to geometry image lost i way.address way.entries d m (omega (arith, low)) here)
same_left geometry image lost i form b d k t way false fits is end low reached above unsure out from within =
    let m = way.depth - 1 in
    let found = beside_way geometry image i form b m t way is end (omega (arith, low)) from within in
    let here : IsEnd geometry image lost i (place_to way.address way.entries d) = record {
      sure = on_block geometry image lost i way.address way.entries d k reached above ∙ sym unsure;
      out = ap (in_zone geometry) (sym reached) ∙ out refl;
    } in
    ap (λ o. option_map_or (is_lost_on geometry image lost i) o false) found.1
    ∙ (end_beside geometry image lost i way.address way.entries m found.0 fits (end_to geometry image lost i way.address way.entries d m (omega (arith, low)) fits here)).sure

-- a logical block can be trusted if no block above its data block is lost, nor its data block
pub at_end : (geometry : Geometry) (image : List ℕ) (lost : List Bool) (i : ℕ) (form : BlockMap) (b d k : ℕ) (way : BlockPath)
    → form ≡ form_at geometry image i → Some (end_of way) ≡ last_place form b → d ≡ way.depth → k ≡ named geometry image i (place_to way.address way.entries d)
    → is_lost_on geometry image lost i (tail_of (place_to way.address way.entries d)) ≡ false
    → is_unsure geometry image lost i b ≡ is_lost_block geometry lost k
at_end geometry image lost i form b d k way is end whole reached above =
    let place : last_place (form_at geometry image i) b ≡ Some (place_to way.address way.entries d) =
    ap (λ f. last_place f b) (sym is) ∙ (sym end ∙ ap (λ n. Some (place_to way.address way.entries n)) (sym whole)) in
    ap (λ o. option_map_or (is_lost_on geometry image lost i) o false) place
    ∙ on_block geometry image lost i way.address way.entries d k reached above

-- nothing is lost if there are no marks
none_lost : (geometry : Geometry) (image : List ℕ) (lost : List Bool) (i : ℕ) (p : List ℕ) → ((k : ℕ) → is_lost lost k ≡ false)
    → is_lost_on geometry image lost i p ≡ false
unfolding is_lost_on
none_lost geometry image lost i [] none = refl
none_lost geometry image lost i (j ∷ p) none =
    let k = named geometry image i (j ∷ p) in
    ap (λ t. (in_zone geometry k && t) || is_lost_on geometry image lost i p) (none k)
    ∙ (ap (λ t. t || is_lost_on geometry image lost i p) (and_false (in_zone geometry k)) ∙ none_lost geometry image lost i p none)

-- every logical block can be trusted if no block is lost
pub none_unsure : (geometry : Geometry) (image : List ℕ) (lost : List Bool) (i b : ℕ) → ((k : ℕ) → is_lost lost k ≡ false)
    → is_unsure geometry image lost i b ≡ false
none_unsure geometry image lost i b none =
    elim (last_place (form_at geometry image i) b) as (λ o. option_map_or (is_lost_on geometry image lost i) o false ≡ false) [
      | None ↦ refl
      | Some p ↦ none_lost geometry image lost i p none
    ]

-- a block isn't lost if there are no marks
pub no_marks : (lost : List Bool) → length lost ≡ 0 → (k : ℕ) → is_lost lost k ≡ false
no_marks [] none k = refl
no_marks (mark ∷ lost) none k = absurd (omega arith)
