-- The block numbers stored for the logical blocks of a file, found from an indirect block on their path.
use Rattle.std.proofs.Common.{◌≡◌, ℕ, zero, suc, ◌+◌, ◌-◌, ◌*◌, ◌/◌, ◌%◌, ◌<◌, ◌≤◌, ◌∙◌, sym, ap, subst, List, [], ◌∷◌, length, drop, ◌^◌, refl, arith, inl, inr, true, false, Some}
use Rattle.std.specs.Prelude.{Bool, ◌&&◌, nat_lt, slice_index_or}
use Rattle.std.proofs.Math.Nat.{pow-zero, pow-suc, mul-le-mul, one-le-pow}
use Rattle.vol_layout.specs.declared.edition.Edition.{Edition}
use Rattle.vol_layout.specs.declared.edition.Edition.TheVariants.{V6, V7}
use Rattle.std.specs.Option.{option_map_or}
use Rattle.std.proofs.lemmas.Bool.{cases_lt, true≢false}
use Rattle.vol_layout.specs.Edition.{constants}
use Rattle.vol_layout.specs.BlockPointers.{form_at, pointer_in, named, stored}
use Rattle.vol_layout.specs.BlockMaps.{block_limit, pointer_count, last_place, place_to, end_of}
use Rattle.vol_layout.specs.declared.geometry.Geometry.{Geometry}
use Rattle.vol_layout.specs.declared.block_map.BlockMap.{BlockMap}
use Rattle.vol_layout.specs.declared.block_map.BlockMap.TheVariants.{Small, Large, Deep, Bare}
use Rattle.vol_layout.specs.declared.block_map.BlockPath.{BlockPath}
use Rattle.vol_layout.proofs.PlaceLaws.{has_no_way, last_leaf}
use Rattle.vol_layout.proofs.LastPlaces.{last_small, last_large, last_huge, last_direct, last_single, last_double, last_triple}
use Rattle.vol_file.specs.Holes.{blocks_left}
use Rattle.vol_file.specs.Repeats.{below, PassesBelow, MarksPassed}
use Rattle.vol_file.proofs.Subtrees.{some_is, drop_to, length_to, pointers_at}

-- the number stored for logical block `t` can be found from the block at position `p` in the block map without its last `n` indexes, if `t` is below
-- it; logical block `b` is at position `p`
abbrev IsBelow : Geometry → List ℕ → ℕ → BlockMap → ℕ → ℕ → ℕ → List ℕ → ℕ → Type 0
IsBelow geometry image i form pointers n b p t =
    t < block_limit form → b + blocks_left pointers n p ≤ t + pointers ^ n → t < b + blocks_left pointers n p
    → stored geometry image i form t
    ≡ below geometry image pointers (named geometry image i (drop n p)) n (t + pointers ^ n - (b + blocks_left pointers n p))

-- the block number stored for a logical block is the number at its position in the block map
stored_as : (geometry : Geometry) (image : List ℕ) (i : ℕ) (form : BlockMap) (t : ℕ) (q : List ℕ) → last_place form t ≡ Some q
    → stored geometry image i form t ≡ named geometry image i q
stored_as geometry image i form t q is = ap (λ o. option_map_or (named geometry image i) o 0) is

-- equal indexes select the same entry of a block
pointer_as : (geometry : Geometry) (image : List ℕ) (m j k : ℕ) → j ≡ k → pointer_in geometry image m j ≡ pointer_in geometry image m k
pointer_as geometry image m j k same = ap (pointer_in geometry image m) same

-- equal indexes select the same entry of the block to which an entry points
pointers_as : (geometry : Geometry) (image : List ℕ) (m a b j k : ℕ) → a ≡ b → j ≡ k
    → pointer_in geometry image (pointer_in geometry image m a) j ≡ pointer_in geometry image (pointer_in geometry image m b) k
pointers_as geometry image m a b j k same also = ap (λ x. pointer_in geometry image (pointer_in geometry image m x) j) same ∙ pointer_as geometry image (pointer_in geometry image m b) j k also

-- `IsBelow` holds for logical blocks of a large file below an indirect block
below_large : (geometry : Geometry) (image : List ℕ) (i b t : ℕ) → b < 1792 → IsBelow geometry image i Large 256 1 b ((b % 256) ∷ ((b / 256) ∷ [])) t
below_large geometry image i b t low limit from within =
    let same : t / 256 ≡ b / 256 = omega arith in
    stored_as geometry image i Large t ((t % 256) ∷ ((t / 256) ∷ [])) (last_large t (omega arith))
    ∙ (ap (λ a. pointer_in geometry image (named geometry image i (a ∷ [])) (t % 256)) same
    ∙ pointer_as geometry image (named geometry image i ((b / 256) ∷ [])) (t % 256) _ (omega arith))

-- `IsBelow` holds for logical blocks of a large file below an indirect block that is an entry of the doubly indirect block
below_huge : (geometry : Geometry) (image : List ℕ) (i b t : ℕ) → 1792 ≤ b → b < 32768
    → IsBelow geometry image i Large 256 1 b ((b % 256) ∷ ((b / 256 - 7) ∷ (7 ∷ []))) t
below_huge geometry image i b t low high limit from within =
    let same : t / 256 - 7 ≡ b / 256 - 7 = omega arith in
    stored_as geometry image i Large t ((t % 256) ∷ ((t / 256 - 7) ∷ (7 ∷ []))) (last_huge t (omega arith) limit)
    ∙ pointers_as geometry image (named geometry image i (7 ∷ [])) (t / 256 - 7) (b / 256 - 7) (t % 256) _ same (omega arith)

-- `IsBelow` holds for logical blocks of a large file below the doubly indirect block
below_all_huge : (geometry : Geometry) (image : List ℕ) (i b t : ℕ) → 1792 ≤ b → b < 32768
    → IsBelow geometry image i Large 256 2 b ((b % 256) ∷ ((b / 256 - 7) ∷ (7 ∷ []))) t
below_all_huge geometry image i b t low high limit from within =
    stored_as geometry image i Large t ((t % 256) ∷ ((t / 256 - 7) ∷ (7 ∷ []))) (last_huge t (omega arith) limit)
    ∙ pointers_as geometry image (named geometry image i (7 ∷ [])) (t / 256 - 7) _ (t % 256) _ (omega arith) (omega arith)

-- `IsBelow` holds for logical blocks of the seventh edition below the indirect block
below_single : (geometry : Geometry) (image : List ℕ) (i b t : ℕ) → 10 ≤ b → b < 138 → IsBelow geometry image i Deep 128 1 b ((b - 10) ∷ (10 ∷ [])) t
below_single geometry image i b t low high limit from within =
    stored_as geometry image i Deep t ((t - 10) ∷ (10 ∷ [])) (last_single t (omega arith) (omega arith))
    ∙ pointer_as geometry image (named geometry image i (10 ∷ [])) (t - 10) _ (omega arith)

-- `IsBelow` holds for logical blocks of the seventh edition below an indirect block that is an entry of the doubly indirect block
below_double : (geometry : Geometry) (image : List ℕ) (i b t : ℕ) → 138 ≤ b → b < 16522
    → IsBelow geometry image i Deep 128 1 b (((b - 138) % 128) ∷ (((b - 138) / 128) ∷ (11 ∷ []))) t
below_double geometry image i b t low high limit from within =
    stored_as geometry image i Deep t (((t - 138) % 128) ∷ (((t - 138) / 128) ∷ (11 ∷ []))) (last_double t (omega arith) (omega arith))
    ∙ pointers_as geometry image (named geometry image i (11 ∷ [])) ((t - 138) / 128) ((b - 138) / 128) ((t - 138) % 128) _ (omega arith) (omega arith)

-- `IsBelow` holds for logical blocks of the seventh edition below the doubly indirect block
below_all_double : (geometry : Geometry) (image : List ℕ) (i b t : ℕ) → 138 ≤ b → b < 16522
    → IsBelow geometry image i Deep 128 2 b (((b - 138) % 128) ∷ (((b - 138) / 128) ∷ (11 ∷ []))) t
below_all_double geometry image i b t low high limit from within =
    stored_as geometry image i Deep t (((t - 138) % 128) ∷ (((t - 138) / 128) ∷ (11 ∷ []))) (last_double t (omega arith) (omega arith))
    ∙ pointers_as geometry image (named geometry image i (11 ∷ [])) ((t - 138) / 128) _ ((t - 138) % 128) _ (omega arith) (omega arith)

-- the position in the block map that points to logical block `b` below the triply indirect block of the seventh edition
abbrev pub triple_place : ℕ → List ℕ
triple_place b = ((b - 16522) % 128) ∷ (((b - 16522) / 128 % 128) ∷ (((b - 16522) / 16384) ∷ (12 ∷ [])))

-- `IsBelow` holds for logical blocks of the seventh edition below an indirect block on the lowest level of the triply indirect block
below_triple : (geometry : Geometry) (image : List ℕ) (i b t : ℕ) → 16522 ≤ b → b < 2113674 → IsBelow geometry image i Deep 128 1 b (triple_place b) t
below_triple geometry image i b t low high limit from within =
    let over : (t - 16522) / 16384 ≡ (b - 16522) / 16384 = omega arith in
    stored_as geometry image i Deep t (triple_place t) (last_triple t (omega arith) limit)
    ∙ (ap (λ a. pointer_in geometry image (pointer_in geometry image (named geometry image i (a ∷ (12 ∷ []))) ((t - 16522) / 128 % 128)) ((t - 16522) % 128)) over
    ∙ pointers_as geometry image (named geometry image i (((b - 16522) / 16384) ∷ (12 ∷ []))) ((t - 16522) / 128 % 128) ((b - 16522) / 128 % 128) ((t - 16522) % 128) _
    (omega arith) (omega arith))

-- `IsBelow` holds for logical blocks of the seventh edition below a doubly indirect block that is an entry of the triply indirect block
below_all_triple : (geometry : Geometry) (image : List ℕ) (i b t : ℕ) → 16522 ≤ b → b < 2113674 → IsBelow geometry image i Deep 128 2 b (triple_place b) t
below_all_triple geometry image i b t low high limit from within =
    let over : (t - 16522) / 16384 ≡ (b - 16522) / 16384 = omega arith in
    stored_as geometry image i Deep t (triple_place t) (last_triple t (omega arith) limit)
    ∙ (ap (λ a. pointer_in geometry image (pointer_in geometry image (named geometry image i (a ∷ (12 ∷ []))) ((t - 16522) / 128 % 128)) ((t - 16522) % 128)) over
    ∙ pointers_as geometry image (named geometry image i (((b - 16522) / 16384) ∷ (12 ∷ []))) ((t - 16522) / 128 % 128) _ ((t - 16522) % 128) _
    (omega arith) (omega arith))

-- with no level below it, the block found is the block itself
below_itself : (geometry : Geometry) (image : List ℕ) (i : ℕ) (form : BlockMap) (pointers b t : ℕ) (p : List ℕ) → last_place form b ≡ Some p
    → IsBelow geometry image i form pointers 0 b p t
below_itself geometry image i form pointers b t p is limit from within =
    let one : pointers ^ 0 ≡ 1 = pow-zero pointers in
    let same : t ≡ b = omega arith in
    ap (stored geometry image i form) same ∙ stored_as geometry image i form b p is

-- `IsBelow` holds for a position in the block map if it holds for an equal position
as_place : (geometry : Geometry) (image : List ℕ) (i : ℕ) (form : BlockMap) (pointers n b t : ℕ) (p q : List ℕ) → q ≡ p
    → IsBelow geometry image i form pointers n b q t → IsBelow geometry image i form pointers n b p t
as_place geometry image i form pointers n b t p q same is = subst (λ r. IsBelow geometry image i form pointers n b r t) same is

-- the block numbers below each block on a path, up to two levels above its end
falls : (geometry : Geometry) (image : List ℕ) (i : ℕ) (form : BlockMap) (n b t : ℕ) (p : List ℕ) → last_place form b ≡ Some p → n < length p → n < 3
    → IsBelow geometry image i form (pointer_count form) n b p t
falls geometry image i form zero b t p e long few = below_itself geometry image i form (pointer_count form) b t p e
falls geometry image i form (suc (suc (suc n))) b t p e long few = absurd (omega arith)
falls geometry image i Small (suc n) b t p e long few =
    let low : b < 8 = (last_leaf Small b p e).limit in
    let is : (b ∷ []) ≡ p = some_is (b ∷ []) p (sym (last_small b low) ∙ e) in
    let short : length p ≡ 1 = sym (ap length is) in
    absurd (omega arith)
falls geometry image i Bare (suc n) b t p e long few = let limit : b < 0 = (last_leaf Bare b p e).limit in absurd (omega arith)
falls geometry image i Large (suc zero) b t p e long few = elim (cases_lt b 1792) [
  | inl low ↦ as_place geometry image i Large 256 1 b t p _ (some_is _ p (sym (last_large b low) ∙ e)) (below_large geometry image i b t low)
  | inr low ↦
      let high : b < 32768 = (last_leaf Large b p e).limit in
      as_place geometry image i Large 256 1 b t p _ (some_is _ p (sym (last_huge b low high) ∙ e)) (below_huge geometry image i b t low high)
]
falls geometry image i Large (suc (suc zero)) b t p e long few = elim (cases_lt b 1792) [
  | inl low ↦
      let is : ((b % 256) ∷ ((b / 256) ∷ [])) ≡ p = some_is _ p (sym (last_large b low) ∙ e) in
      let short : length p ≡ 2 = sym (ap length is) in
      absurd (omega arith)
  | inr low ↦
      let high : b < 32768 = (last_leaf Large b p e).limit in
      as_place geometry image i Large 256 2 b t p _ (some_is _ p (sym (last_huge b low high) ∙ e)) (below_all_huge geometry image i b t low high)
]
falls geometry image i Deep (suc zero) b t p e long few =
    let limit : b < 2113674 = (last_leaf Deep b p e).limit in
    elim (cases_lt b 10) [
      | inl low ↦
          let is : (b ∷ []) ≡ p = some_is (b ∷ []) p (sym (last_direct b low) ∙ e) in
          let short : length p ≡ 1 = sym (ap length is) in
          absurd (omega arith)
      | inr first ↦ elim (cases_lt b 138) [
        | inl low ↦ as_place geometry image i Deep 128 1 b t p _ (some_is _ p (sym (last_single b first low) ∙ e)) (below_single geometry image i b t first low)
        | inr second ↦ elim (cases_lt b 16522) [
          | inl low ↦ as_place geometry image i Deep 128 1 b t p _ (some_is _ p (sym (last_double b second low) ∙ e)) (below_double geometry image i b t second low)
          | inr third ↦ as_place geometry image i Deep 128 1 b t p _ (some_is _ p (sym (last_triple b third limit) ∙ e)) (below_triple geometry image i b t third limit)
        ]
      ]
    ]
falls geometry image i Deep (suc (suc zero)) b t p e long few =
    let limit : b < 2113674 = (last_leaf Deep b p e).limit in
    elim (cases_lt b 138) [
      | inl low ↦ elim (cases_lt b 10) [
        | inl direct ↦
            let is : (b ∷ []) ≡ p = some_is (b ∷ []) p (sym (last_direct b direct) ∙ e) in
            let short : length p ≡ 1 = sym (ap length is) in
            absurd (omega arith)
        | inr first ↦
            let is : ((b - 10) ∷ (10 ∷ [])) ≡ p = some_is _ p (sym (last_single b first low) ∙ e) in
            let short : length p ≡ 2 = sym (ap length is) in
            absurd (omega arith)
      ]
      | inr second ↦ elim (cases_lt b 16522) [
        | inl low ↦ as_place geometry image i Deep 128 2 b t p _ (some_is _ p (sym (last_double b second low) ∙ e)) (below_all_double geometry image i b t second low)
        | inr third ↦ as_place geometry image i Deep 128 2 b t p _ (some_is _ p (sym (last_triple b third limit) ∙ e)) (below_all_triple geometry image i b t third limit)
      ]
    ]

-- the block number stored for logical block `t`, found from the block reached by the first `d` entries of another logical block's path
pub stored_below : (geometry : Geometry) (image : List ℕ) (i : ℕ) (form : BlockMap) (b d n t : ℕ) (way : BlockPath) → form ≡ form_at geometry image i
    → Some (end_of way) ≡ last_place form b → n + d ≡ way.depth → n < 3 → t < block_limit form
    → b + blocks_left (constants geometry.edition).pointers n (end_of way) ≤ t + (constants geometry.edition).pointers ^ n
    → t < b + blocks_left (constants geometry.edition).pointers n (end_of way)
    → stored geometry image i form t ≡ below geometry image (constants geometry.edition).pointers (named geometry image i (place_to way.address way.entries d)) n
    (t + (constants geometry.edition).pointers ^ n - (b + blocks_left (constants geometry.edition).pointers n (end_of way)))
stored_below geometry image i form b d n t way is end whole few limit =
    let front : drop n (end_of way) ≡ place_to way.address way.entries d =
    ap (λ m. drop n (place_to way.address way.entries m)) (sym whole) ∙ drop_to way.address way.entries n d in
    let long : length (end_of way) ≡ suc way.depth = length_to way.address way.entries way.depth in
    let same : pointer_count form ≡ (constants geometry.edition).pointers = pointers_at geometry image i form b way is end in
    subst (λ m. b + blocks_left m n (end_of way) ≤ t + m ^ n → t < b + blocks_left m n (end_of way)
    → stored geometry image i form t ≡ below geometry image m (named geometry image i (place_to way.address way.entries d)) n
    (t + m ^ n - (b + blocks_left m n (end_of way)))) same
    (subst (λ q. b + blocks_left (pointer_count form) n (end_of way) ≤ t + pointer_count form ^ n → t < b + blocks_left (pointer_count form) n (end_of way)
    → stored geometry image i form t ≡ below geometry image (pointer_count form) (named geometry image i q) n
    (t + pointer_count form ^ n - (b + blocks_left (pointer_count form) n (end_of way)))) front
    (falls geometry image i form n b t (end_of way) (sym end) (omega arith) few limit))

-- the number of logical blocks left below a position in the block map is at most the number of all logical blocks below it
left_most : (pointers n : ℕ) (p : List ℕ) → 1 ≤ pointers → blocks_left pointers n p ≤ pointers ^ n
left_most pointers zero p some = let one : pointers ^ 0 ≡ 1 = pow-zero pointers in omega arith
left_most pointers (suc n) [] some = one-le-pow (suc n) pointers some
left_most pointers (suc n) (j ∷ p) some =
    let more : blocks_left pointers n p * pointers ≤ pointers ^ n * pointers = mul-le-mul (left_most pointers n p some) (omega arith) in
    rw (pow-suc pointers n) (omega (arith, more))

-- an indirect block has at least one entry
some_pointers : (edition : Edition) → 1 ≤ (constants edition).pointers
some_pointers V6 = omega arith
some_pointers V7 = omega arith

-- if everything below the block reached by the first `d` entries of a path passes a test, so do the block numbers stored for the logical blocks there
pub stored_passes : (test : ℕ → ℕ → Bool) (geometry : Geometry) (image : List ℕ) (i : ℕ) (form : BlockMap) (b d n t part : ℕ) (way : BlockPath)
    → form ≡ form_at geometry image i → Some (end_of way) ≡ last_place form b → n + d ≡ way.depth → n < 3
    → PassesBelow test geometry image (named geometry image i (place_to way.address way.entries d)) n → ((part : ℕ) → test 0 part ≡ true)
    → b ≤ t → t < b + blocks_left (constants geometry.edition).pointers n (end_of way) → test (stored geometry image i form t) part ≡ true
stored_passes test geometry image i form b d n t part way is end whole few passes out low within = elim (cases_lt t (block_limit form)) [
  | inl limit ↦
      let pointers = (constants geometry.edition).pointers in
      let most : blocks_left pointers n (end_of way) ≤ pointers ^ n = left_most pointers n (end_of way) (some_pointers geometry.edition) in
      ap (λ k. test k part) (stored_below geometry image i form b d n t way is end whole few limit (omega arith) within)
      ∙ passes (t + pointers ^ n - (b + blocks_left pointers n (end_of way))) part (omega arith)
  | inr past ↦ ap (λ k. test k part) (ap (λ o. option_map_or (named geometry image i) o 0) (has_no_way form t past)) ∙ out part
]

-- if the block numbers of all logical blocks below the block reached by the first `d` entries of a path pass a test, everything below that block
-- passes it
pub passes_stored : (test : ℕ → ℕ → Bool) (geometry : Geometry) (image : List ℕ) (i : ℕ) (form : BlockMap) (b d n from to : ℕ) (way : BlockPath)
    → form ≡ form_at geometry image i → Some (end_of way) ≡ last_place form b → n + d ≡ way.depth → n < 3
    → from + (constants geometry.edition).pointers ^ n ≤ b + blocks_left (constants geometry.edition).pointers n (end_of way)
    → b + blocks_left (constants geometry.edition).pointers n (end_of way) ≤ to → to ≤ block_limit form
    → ((t part : ℕ) → from ≤ t → t < to → test (stored geometry image i form t) part ≡ true)
    → PassesBelow test geometry image (named geometry image i (place_to way.address way.entries d)) n
passes_stored test geometry image i form b d n from to way is end whole few start stop limit passed = λ c part low.
    let pointers = (constants geometry.edition).pointers in
    let last = b + blocks_left pointers n (end_of way) in
    let t = last + c - pointers ^ n in
    let index : t + pointers ^ n - last ≡ c = omega arith in
    ap (λ k. test k part)
    (ap (below geometry image pointers (named geometry image i (place_to way.address way.entries d)) n) (sym index)
    ∙ sym (stored_below geometry image i form b d n t way is end whole few (omega arith) (omega arith) (omega arith)))
    ∙ passed t part (omega arith) (omega arith)

-- unset marks state nothing
pub clear_passes : (test : ℕ → ℕ → Bool) (geometry : Geometry) (image : List ℕ) (marks : List Bool)
    → ((k : ℕ) → slice_index_or marks k false ≡ false) → MarksPassed test geometry image marks
clear_passes test geometry image marks clear = λ m n marked.
    absurd (true≢false (sym marked ∙ (ap (λ b. nat_lt n 3 && b) (clear (3 * m + n)) ∙ and_false (nat_lt n 3))))
  where
    and_false : (b : Bool) → (b && false) ≡ false
    and_false true = refl
    and_false false = refl
