-- An i-node that `block` prints as an owner of a block, although blocks are lost, is an owner of it in the volume.
use Rattle.std.proofs.Common.{◌≡◌, ◌≢◌, ◌⊎◌, ◌≤◌, ◌<◌, ◌+◌, ◌-◌, ◌*◌, ◌/◌, ◌%◌, ◌^◌, ◌==◌, ◌&&◌, ◌∙◌, not, nat_lt, ℕ, zero, suc, Bool, true, false, cond, List, [], ◌∷◌, ◌++◌, length, take, replicate, get_or, Option, None, Some, ap, arith, inl, inr, refl, subst, sym}
use Rattle.std.specs.List.{Any, find, flat_map, range_with_len}
use Rattle.std.proofs.lemmas.Bool.{cases_eq, cases_lt, eqb-true, lt-ltb, true≢false}
use Rattle.std.proofs.lemmas.List.{get_or_past}
use Rattle.bad_maps.specs.declared.maps.ReadRange.{ReadRange}
use Rattle.vol_layout.specs.BlockMaps.{first_count, form_of, levels}
use Rattle.vol_layout.specs.BlockPointers.{form_at, mode_of, pointer_in}
use Rattle.vol_layout.specs.Edition.{constants, number}
use Rattle.vol_layout.specs.Geometry.{Fits, block_count}
use Rattle.vol_layout.specs.Inode.{address_at, inode_place, kind_of}
use Rattle.vol_layout.specs.declared.block_map.BlockMap.TheVariants.{Bare}
use Rattle.vol_layout.specs.declared.edition.Edition.{Edition}
use Rattle.vol_layout.specs.declared.edition.Edition.TheVariants.{V6, V7}
use Rattle.vol_layout.specs.declared.geometry.Geometry.{Geometry}
use Rattle.vol_layout.proofs.BodyLaws.{zone_bounds}
use Rattle.vol_layout.proofs.CopyLaws.{number_copied, number_room}
use Rattle.vol_layout.proofs.FrameLaws.{KeepsPlaces, addresses_of, entry_kept, places_kept}
use Rattle.vol_layout.proofs.InodeLaws.{place_room}
use Rattle.vol_layout.proofs.NameLaws.{entry_in}
use Rattle.vol_file.specs.Clears.{first_at}
use Rattle.vol_file.proofs.OneMoreBlock.{number_zero}
use Rattle.vol_file.proofs.TakenBlocks.{zone_two}
use Rattle.vol_reports.proofs.Ranges.{flat_more}
use Rattle.vol_inspect.specs.Extents.{address_holdings, holdings, holdings_from, single}
use Rattle.vol_inspect.specs.Owners.{is_block, naming}
use Rattle.vol_inspect.specs.declared.extent.Extent.{Extent}
use Rattle.vol_losses.specs.BadImages.{HasRead, IsRescued, is_block_known}
use Rattle.vol_losses.specs.CutImages.{IsCompleted, IsCompletedIf, IsFilled, has_size}
use Rattle.vol_losses.specs.GivenSizes.{IsSized}
use Rattle.vol_losses.specs.Losses.{AgreesOutside, is_lost, node_block}
use Rattle.vol_losses.specs.declared.given_sizes.VolumeSizes.{VolumeSizes}
use Rattle.vol_losses.proofs.Agreement.{node_agrees}
use Rattle.vol_losses.proofs.BadLaws.{rescue_agrees}
use Rattle.command_reads.specs.BadLaws.{BadOwnersAreRight}

-- this is one of the items
abbrev Has : {X : Type 0} → X → List X → Type 0
Has x [] = ⊥
Has x (y ∷ ys) = (y ≡ x) ⊎ Has x ys

has_left : {X : Type 0} (x : X) (xs ys : List X) → Has x xs → Has x (xs ++ ys)
has_left x [] ys has = absurd has
has_left x (y ∷ xs) ys (inl is) = inl is
has_left x (y ∷ xs) ys (inr has) = inr (has_left x xs ys has)

has_right : {X : Type 0} (x : X) (xs ys : List X) → Has x ys → Has x (xs ++ ys)
has_right x [] ys has = has
has_right x (y ∷ xs) ys has = inr (has_right x xs ys has)

has_either : {X : Type 0} (x : X) (xs ys : List X) → Has x (xs ++ ys) → Has x xs ⊎ Has x ys
has_either x [] ys has = inr has
has_either x (y ∷ xs) ys (inl is) = inl (inl is)
has_either x (y ∷ xs) ys (inr has) = elim (has_either x xs ys has) [ inl front ↦ inl (inr front) | inr back ↦ inr back ]

-- an item of some lists is one of others, if it is in each of those where it is in one of these
has_lists : {X : Type 0} (x : X) (f h : ℕ → List X) (n : ℕ) → ((j : ℕ) → j < n → Has x (f j) → Has x (h j)) → Has x (flat_map f (range_with_len 0 n))
    → Has x (flat_map h (range_with_len 0 n))
has_lists x f h zero each has = has
has_lists x f h (suc n) each has =
    let at : 0 + n ≡ n = omega arith in
    elim (has_either x (flat_map f (range_with_len 0 n)) (f n) (subst (Has x) (flat_more f 0 n (suc n) n (omega arith) at) has)) [
      | inl front ↦ subst (Has x) (sym (flat_more h 0 n (suc n) n (omega arith) at))
          (has_left x (flat_map h (range_with_len 0 n)) (h n) (has_lists x f h n (λ j low. each j (omega (arith, low))) front))
      | inr last ↦ subst (Has x) (sym (flat_more h 0 n (suc n) n (omega arith) at))
          (has_right x (flat_map h (range_with_len 0 n)) (h n) (each n (omega arith) last))
    ]

first_is : {X : Type 0} (one other : X) → Some one ≡ Some other → one ≡ other
first_is one other e = cc

-- the first item that passes a test is one of the items, and passes it
found_has : {X : Type 0} (p : X → Bool) (xs : List X) (x : X) → find p xs ≡ Some x → Has x xs × (p x ≡ true)
found_has p [] x is = absurd (cc)
found_has p (y ∷ xs) x is =
    elim (p y) as (λ b. p y ≡ b → cond b (Some y) (find p xs) ≡ Some x → Has x (y ∷ xs) × (p x ≡ true)) [
      | true ↦ λ test one. let same = first_is y x one in (inl same, ap p (sym same) ∙ test)
      | false ↦ λ test rest. let more = found_has p xs x rest in (inr more.0, more.1)
    ] refl is

has_any : {X : Type 0} (x : X) (xs : List X) → Has x xs → Any (λ y. y ≡ x) xs
has_any x [] has = absurd has
has_any x (y ∷ xs) (inl is) = (0, y, omega arith, refl, is)
has_any x (y ∷ xs) (inr has) = let more = has_any x xs has in (suc more.0, more.1, omega (arith, more.2), more.3, more.4)

zero_filled : (n m : ℕ) → ◌≡◌ {A = ℕ} (get_or (replicate m 0) n 0) 0
zero_filled n zero = refl
zero_filled zero (suc m) = refl
zero_filled (suc n) (suc m) = zero_filled n m

-- a byte that is 0, or past the end, stays 0 if zeros are added or bytes at the end are dropped
zero_padded : (xs : List ℕ) (m n : ℕ) → get_or xs n 0 ≡ 0 → get_or (xs ++ replicate m 0) n 0 ≡ 0
zero_padded [] m n is = zero_filled n m
zero_padded (x ∷ xs) m zero is = is
zero_padded (x ∷ xs) m (suc n) is = zero_padded xs m n is

zero_taken : (w : ℕ) (xs : List ℕ) (n : ℕ) → get_or xs n 0 ≡ 0 → get_or (take w xs) n 0 ≡ 0
zero_taken zero xs n is = refl
zero_taken (suc w) [] n is = refl
zero_taken (suc w) (x ∷ xs) zero is = is
zero_taken (suc w) (x ∷ xs) (suc n) is = zero_taken w xs n is

-- so it does where an image is completed
zero_completed : (edition : Edition) (bytes image : List ℕ) (missing : List Bool) (n : ℕ) → IsCompleted edition bytes image missing → get_or bytes n 0 ≡ 0
    → get_or image n 0 ≡ 0
zero_completed edition bytes image missing n completed is =
    let blocks = block_count edition bytes in
    let whole = 512 * (length bytes / 512) in
    elim (has_size edition bytes) as (λ b. IsCompletedIf b edition bytes image missing → get_or image n 0 ≡ 0) [
      | false ↦ λ same. ap (λ xs. get_or xs n 0) same.0 ∙ is
      | true ↦ λ filled.
          elim (nat_lt (length bytes / 512) blocks) as (λ b. IsFilled (cond b (take whole bytes) bytes) blocks image missing → get_or image n 0 ≡ 0) [
            | true ↦ λ there.
                ap (λ xs. get_or xs n 0) there.zeros
                ∙ zero_padded (take whole bytes) (512 * blocks - length (take whole bytes)) n (zero_taken whole bytes n is)
            | false ↦ λ there. ap (λ xs. get_or xs n 0) there.zeros ∙ zero_padded bytes (512 * blocks - length bytes) n is
          ] filled
    ] completed

-- and where sizes are written, but for the first 6 bytes of the super-block
zero_sized : (sizes : Option VolumeSizes) (edition : Edition) (cleared stated : List ℕ) (k r : ℕ) → IsSized sizes edition cleared stated → (k ≡ 1 → 6 ≤ r) → r < 512
    → get_or cleared (512 * k + r) 0 ≡ 0 → get_or stated (512 * k + r) 0 ≡ 0
zero_sized None edition cleared stated k r sized other low is = ap (λ xs. get_or xs (512 * k + r) 0) sized ∙ is
zero_sized (Some sizes) edition cleared stated k r sized other low is =
    let kept : get_or stated (512 * k + r) 0 ≡ get_or (cleared ++ replicate (1024 - length cleared) 0) (512 * k + r) 0 = elim (cases_lt k 1) [
      | inl first ↦ sized.others.below (512 * k + r) (omega (arith, first, low))
      | inr later ↦ sized.others.above (512 * k + r) (elim (cases_eq k 1) [
        | inl one ↦ let high = other one in omega (arith, one, high)
        | inr two ↦ omega (arith, later, two)
      ])
    ] in
    kept ∙ zero_padded cleared (1024 - length cleared) (512 * k + r) is

not_known : (a b : Bool) → a ≡ true → not (a && b) ≡ true → b ≡ false
not_known true true there mark = absurd (true≢false (sym mark))
not_known true false there mark = refl
not_known false b there mark = absurd (true≢false (sym there))

-- a lost block of a rescued image reads as zeros, but for the first 6 bytes of the super-block
lost_zero : (geometry : Geometry) (edition : Edition) (ranges : List ReadRange) (at : ℕ) (sizes : Option VolumeSizes) (bytes image : List ℕ) (lost : List Bool) (k r : ℕ)
    → Fits geometry image → IsRescued edition ranges at sizes bytes image lost → k < geometry.zone_end → (k ≡ 1 → 6 ≤ r) → r < 512 → is_lost lost k ≡ true
    → get_or image (512 * k + r) 0 ≡ 0
lost_zero geometry edition ranges at sizes bytes image lost k r fits rescued inside other low gone =
    let block : k < length image / 512 = omega (arith, inside, fits.blocks) in
    let mark = sym (rescued.marks k block) ∙ gone in
    let count = rescued.zeros.count in
    let cleared : get_or rescued.cleared (512 * k + r) 0 ≡ 0 = elim (cases_lt k (length bytes / 512)) [
      | inl there ↦
          rescued.zeros.block k r there low
          ∙ ap (λ b. cond b (get_or bytes (512 * k + r) 0) 0)
          (not_known (nat_lt k (length bytes / 512)) (is_block_known sizes ranges at k) (lt-ltb k (length bytes / 512) there) mark)
      | inr past ↦ get_or_past rescued.cleared (512 * k + r) 0 (omega (arith, past, count))
    ] in
    zero_completed edition rescued.stated image rescued.missing (512 * k + r) rescued.completed
    (zero_sized sizes edition rescued.cleared rescued.stated k r rescued.sized other low cleared)

-- what is left of a volume: its bytes in the blocks that are known, and zeros in the others, but for the first 6 bytes of the super-block
pub record IsLeft (geometry : Geometry) (lost : List Bool) (image volume : List ℕ) : Type 0 where
  pub agrees : AgreesOutside geometry lost image volume
  pub zeros : (k r : ℕ) → k < geometry.zone_end → (k ≡ 1 → 6 ≤ r) → r < 512 → is_lost lost k ≡ true → get_or image (512 * k + r) 0 ≡ 0

-- an entry of an indirect block that isn't 0 is that of the volume
pub entry_left : (geometry : Geometry) (lost : List Bool) (image volume : List ℕ) (m j : ℕ) → Fits geometry image → IsLeft geometry lost image volume
    → j < (constants geometry.edition).pointers → pointer_in geometry image m j ≢ 0 → pointer_in geometry volume m j ≡ pointer_in geometry image m j
entry_left geometry lost image volume m j fits left within some =
    entry_kept geometry image volume m j
    (λ zone.
    let bounds = zone_bounds geometry m zone in
    let two = zone_two geometry image m fits zone in
    elim (is_lost lost m) as (λ b. is_lost lost m ≡ b → number geometry.edition volume (512 * m) j ≡ number geometry.edition image (512 * m) j) [
      | true ↦ λ gone.
          absurd (some (entry_in geometry image m j zone ∙ number_zero geometry.edition image m j (λ r low. left.zeros m r bounds.1 (λ e. absurd (omega (arith, two, e))) low gone) within))
      | false ↦ λ known.
          number_copied geometry.edition image volume (512 * m) (512 * m) 512 j (record { bytes = λ r low. left.agrees.bytes m r bounds.1 low known })
          (number_room geometry.edition j within)
    ] refl)

-- number 0 leads to no block
none_held : (geometry : Geometry) (image : List ℕ) (d logical : ℕ) (e : Extent) → Has e (holdings_from geometry image d logical 0) → ⊥
unfolding holdings_from
none_held geometry image zero logical e has = has
none_held geometry image (suc d) logical e has = has

-- each block to which a number leads is one to which it leads in the volume, at the same position
held_left : (geometry : Geometry) (lost : List Bool) (image volume : List ℕ) (d logical m : ℕ) (e : Extent) → Fits geometry image → IsLeft geometry lost image volume
    → Has e (holdings_from geometry image d logical m) → Has e (holdings_from geometry volume d logical m)
unfolding holdings_from
held_left geometry lost image volume zero logical m e fits left has = has
held_left geometry lost image volume (suc d) logical m e fits left has =
    let p = (constants geometry.edition).pointers in
    let below = λ (bytes : List ℕ) (j : ℕ). holdings_from geometry bytes d (logical + j * p ^ d) (pointer_in geometry bytes m j) in
    elim (m == 0) as (λ t. Has e (cond t [] (single geometry (suc d) logical m ∷ flat_map (below image) (range_with_len 0 p)))
    → Has e (cond t [] (single geometry (suc d) logical m ∷ flat_map (below volume) (range_with_len 0 p)))) [
      | true ↦ λ none. none
      | false ↦ λ some. elim some [
        | inl is ↦ inl is
        | inr rest ↦ inr (has_lists e (below image) (below volume) p (λ j low here. elim (cases_eq (pointer_in geometry image m j) 0) [
          | inl none ↦ absurd (none_held geometry image d (logical + j * p ^ d) e
              (subst (λ n. Has e (holdings_from geometry image d (logical + j * p ^ d) n)) none here))
          | inr named ↦
              subst (λ n. Has e (holdings_from geometry volume d (logical + j * p ^ d) n)) (sym (entry_left geometry lost image volume m j fits left low named))
              (held_left geometry lost image volume d (logical + j * p ^ d) (pointer_in geometry image m j) e fits left here)
        ]) rest)
      ]
    ] has

-- each block of an i-node whose addresses are those of the volume is one of the i-node in the volume
node_left : (geometry : Geometry) (lost : List Bool) (image volume : List ℕ) (i : ℕ) (e : Extent) → Fits geometry image → IsLeft geometry lost image volume
    → KeepsPlaces geometry image volume i → Has e (holdings geometry image i) → Has e (holdings geometry volume i)
unfolding holdings
node_left geometry lost image volume i e fits left kept has =
    let few = addresses_of geometry.edition (mode_of geometry image i) in
    subst (λ form. Has e (flat_map (address_holdings geometry volume i) (range_with_len 0 (first_count form)))) (sym kept.form)
    (has_lists e (address_holdings geometry image i) (address_holdings geometry volume i) (first_count (form_at geometry image i)) (λ k low here.
    subst (λ form. Has e (holdings_from geometry volume (levels form k) (first_at form k) (address_at geometry.edition volume (inode_place geometry.edition i) k)))
    (sym kept.form)
    (subst (λ n. Has e (holdings_from geometry volume (levels (form_at geometry image i) k) (first_at (form_at geometry image i) k) n))
    (sym (kept.addresses k (omega (arith, low, few))))
    (held_left geometry lost image volume (levels (form_at geometry image i) k) (first_at (form_at geometry image i) k)
    (address_at geometry.edition image (inode_place geometry.edition i) k) e fits left here))) has)

-- an i-node of zeros has no block map
pub bare_form : (edition : Edition) → form_of edition 0 ≡ Bare
unfolding kind_of
bare_form V6 = refl
bare_form V7 = refl

bare_node : (geometry : Geometry) (image : List ℕ) (i : ℕ) (e : Extent) → mode_of geometry image i ≡ 0 → Has e (holdings geometry image i) → ⊥
unfolding holdings
bare_node geometry image i e mode has =
    subst (λ form. Has e (flat_map (address_holdings geometry image i) (range_with_len 0 (first_count form))))
    (ap (form_of geometry.edition) mode ∙ bare_form geometry.edition) has

in_one : (edition : Edition) (i : ℕ) → inode_place edition i % 512 + 1 < 512
in_one V6 i = omega arith
in_one V7 i = omega arith

-- an i-node that is lost has no kind in what is left
pub lost_mode : (geometry : Geometry) (lost : List Bool) (image volume : List ℕ) (i : ℕ) → Fits geometry image → 1 ≤ i → i ≤ geometry.last_inode
    → IsLeft geometry lost image volume → is_lost lost (node_block geometry.edition i) ≡ true → mode_of geometry image i ≡ 0
lost_mode geometry lost image volume i fits first last left gone =
    let at = inode_place geometry.edition i in
    let room = place_room geometry image i fits first last in
    let inside : at / 512 < geometry.zone_end = omega (arith, room, fits.zone) in
    let low = in_one geometry.edition i in
    let one : 512 * (at / 512) + at % 512 ≡ at = omega arith in
    let two : 512 * (at / 512) + (at % 512 + 1) ≡ at + 1 = omega arith in
    let zero_one : get_or image at 0 ≡ 0 = ap (λ n. get_or image n 0) (sym one) ∙ left.zeros (at / 512) (at % 512) inside (λ e. absurd (omega (arith, e))) (omega (arith, low)) gone in
    let zero_two : get_or image (at + 1) 0 ≡ 0 = ap (λ n. get_or image n 0) (sym two) ∙ left.zeros (at / 512) (at % 512 + 1) inside (λ e. absurd (omega (arith, e))) low gone in
    omega (arith, zero_one, zero_two)

-- a rescued image is what is left of each volume that has the bytes of the known blocks
pub is_left : (edition : Edition) (ranges : List ReadRange) (at : ℕ) (sizes : Option VolumeSizes) (bytes volume image : List ℕ) (lost : List Bool) (geometry : Geometry)
    → IsRescued edition ranges at sizes bytes image lost → HasRead sizes ranges at bytes volume → Fits geometry image → IsLeft geometry lost image volume
is_left edition ranges at sizes bytes volume image lost geometry rescued has fits = record {
  agrees = rescue_agrees geometry edition ranges at sizes bytes volume image lost fits rescued has;
  zeros = λ k r inside high low gone. lost_zero geometry edition ranges at sizes bytes image lost k r fits rescued inside high low gone;
}

-- an i-node that is an owner of a block in what is left is one in the volume, at the same position
pub bad_owners_right : BadOwnersAreRight
unfolding naming
bad_owners_right edition ranges at sizes bytes volume image lost geometry b i e rescued has fits first last found =
    let left = is_left edition ranges at sizes bytes volume image lost geometry rescued has fits in
    let held = found_has (is_block b) (holdings geometry image i) e found in
    elim (is_lost lost (node_block geometry.edition i)) as (λ gone. is_lost lost (node_block geometry.edition i) ≡ gone
    → (e.block ≡ b) × (form_at geometry volume i ≡ form_at geometry image i) × Any (λ (held : Extent). held ≡ e) (holdings geometry volume i)) [
      | true ↦ λ gone. absurd (bare_node geometry image i e (lost_mode geometry lost image volume i fits first last left gone) held.0)
      | false ↦ λ known.
          let kept = places_kept geometry image volume i (node_agrees geometry lost image volume i fits first last left.agrees known) in (
            eqb-true e.block b held.1,
            kept.form,
            has_any e (holdings geometry volume i) (node_left geometry lost image volume i e fits left kept held.0),
          )
    ] refl
