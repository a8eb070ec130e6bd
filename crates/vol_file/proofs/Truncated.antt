-- The end of a truncation: the size and the mode are written after the positions in the block map past the blocks kept by a truncation are cleared.
use Rattle.std.proofs.Common.{◌≡◌, ℕ, ◌+◌, ◌*◌, ◌/◌, ◌%◌, ◌<◌, ◌≤◌, ◌⊎◌, ◌∙◌, sym, ap, subst, List, [], ◌∷◌, ◌++◌, length, take, map, filter, get_or, refl, arith, inl, inr, true, false, true≢false, None, Some, if◌then◌else◌}
use Rattle.std.specs.Prelude.{◌==◌, not}
use Rattle.std.proofs.lemmas.Bool.{cases_eq}
use Rattle.std.proofs.lemmas.Bool.Decides.{nat_tests}
use Rattle.std.proofs.lemmas.List.{length-take-le, get_or-take}
use Rattle.std.proofs.lemmas.Grind.{same_number_lists}
use Rattle.pdp_words.specs.Words.{SameOutside}
use Rattle.pdp_words.proofs.Outside.{join}
use Rattle.vol_layout.specs.Edition.{constants}
use Rattle.vol_layout.specs.Geometry.{Fits}
use Rattle.vol_layout.specs.Inode.{inode_place, address_count, address_offset, size_place, size_bytes, size_at, with_large, kind_of}
use Rattle.vol_layout.specs.BlockMaps.{IsPlace, has_places, first_count, block_limit, last_place, places}
use Rattle.vol_layout.specs.BlockPointers.{mode_of, form_at, IsFile, IsPlaceOf, named, stored}
use Rattle.vol_layout.specs.Body.{zone_byte, body_byte, body, body_size}
use Rattle.vol_layout.specs.declared.edition.Edition.{Edition}
use Rattle.vol_layout.specs.declared.edition.Edition.TheVariants.{V6, V7}
use Rattle.vol_layout.specs.declared.geometry.Geometry.{Geometry}
use Rattle.vol_layout.specs.declared.block_map.BlockMap.{BlockMap}
use Rattle.vol_layout.proofs.AddressLaws.{addresses_before, size_within, mode_within, size_above}
use Rattle.vol_layout.proofs.InodeLaws.{place_from, place_room, form_same}
use Rattle.vol_layout.proofs.PlaceLaws.{last_leaf}
use Rattle.vol_layout.proofs.BodyLaws.{zone_bounds, length-body, get_or-body, body_byte_is, zone_byte_out}
use Rattle.vol_layout.proofs.NameLaws.{zero_out, zone_some, holds_named, stored_is, stored_none}
use Rattle.vol_layout.proofs.FrameLaws.{addresses_in, zone_byte_kept}
use Rattle.vol_layout.proofs.KindLaws.{file_allocated, form_file}
use Rattle.vol_free.specs.Stack.{IsIn, IsFree}
use Rattle.vol_free.proofs.Stacks.{head_end}
use Rattle.vol_free.proofs.Frames.{IsFree-before_zone, free_zone}
use Rattle.vol_file.specs.Rules.{size_of, kind_at, Rules3To7With, Rules3To7, IsCovered}
use Rattle.vol_file.specs.Changes.{StaysElsewhere, is_kept_byte, blocks_of, whole_blocks, is_kept, blocks_past, truncated_mode, Truncates}
use Rattle.vol_file.specs.Clears.{first_block, is_past, IsPast, blocks_at, Gains, ClearsPast}
use Rattle.vol_file.proofs.Alone.{fits_len, elsewhere_names, elsewhere_then, elsewhere_changes}
use Rattle.vol_file.proofs.TakenBlocks.{rest_within}
use Rattle.vol_file.proofs.Cells.{names_zoned}
use Rattle.vol_file.proofs.FilledPaths.{limit_of}
use Rattle.vol_file.proofs.FirstBlocks.{past_true, past_false}
use Rattle.vol_file.proofs.Fronts.{front_zero}
use Rattle.vol_file.proofs.FreedCounts.{gains_given}
use Rattle.vol_file.proofs.KeptPlaces.{first_leaf, kept_is, past_list}
use Rattle.vol_file.proofs.Soundness.{Lessens, named_before, sound_after}
use Rattle.vol_file.proofs.PlaceLists.{front_first}
use Rattle.vol_file.proofs.StoredNames.{place_same}
use Rattle.vol_file.proofs.PutSizes.{Resized, resized, size_apart}

-- each address of a file's i-node is a position in its block map
pub addresses_file : (geometry : Geometry) (image : List ℕ) (i : ℕ) → IsFile geometry image i
    → first_count (form_at geometry image i) ≡ address_count geometry.edition
addresses_file geometry image i file =
    ap first_count (form_file geometry.edition (mode_of geometry image i) file.kind) ∙ addresses_in geometry.edition (mode_of geometry image i)

-- a write of the size does not change the bytes of the i-node that must be kept
kept_size : (edition : Edition) (old new : List ℕ) (i r : ℕ) → SameOutside old new (size_place edition i) (size_place edition i + size_bytes edition)
    → is_kept_byte edition r ≡ true → get_or new (inode_place edition i + r) 0 ≡ get_or old (inode_place edition i + r) 0
kept_size edition old new i r same kept =
    elim (size_apart edition i r kept) [
      | inl less ↦ same.below (inode_place edition i + r) less
      | inr more ↦ same.above (inode_place edition i + r) more
    ]

-- in the sixth edition, a write of the mode does not change the bytes of the i-node that must be kept
kept_mode : (old new : List ℕ) (i r : ℕ) → SameOutside old new (inode_place V6 i) (inode_place V6 i + 2)
    → is_kept_byte V6 r ≡ true → get_or new (inode_place V6 i + r) 0 ≡ get_or old (inode_place V6 i + r) 0
kept_mode old new i r same kept = let high : 2 ≤ r = grind (arith, nat_tests) in same.above (inode_place V6 i + r) (omega arith)

-- a write of the mode and size, before the addresses, changes only file `i`
head_elsewhere : (geometry : Geometry) (old new blocks : List ℕ) (i : ℕ) → Rules3To7With geometry old blocks → IsFile geometry old i
    → SameOutside old new (inode_place geometry.edition i) (inode_place geometry.edition i + address_offset geometry.edition)
    → ((r : ℕ) → is_kept_byte geometry.edition r ≡ true
    → get_or new (inode_place geometry.edition i + r) 0 ≡ get_or old (inode_place geometry.edition i + r) 0)
    → StaysElsewhere geometry old new i
head_elsewhere geometry old new blocks i sound file same kept =
    let room = place_room geometry old i sound.fits file.first file.last in
    let from = place_from geometry.edition i in
    let within = size_within geometry.edition i in
    let head = head_end geometry.edition in
    let zone = sound.fits.zone in
    record {
      len = same.len;
      before = λ k h. same.below k (omega (arith, from, head));
      super_block = λ k h l. same.below k (omega (arith, from));
      lower_inodes = λ k h l. same.below k l;
      higher_inodes = λ k h l. same.above k (omega (arith, within.2));
      inode = kept;
      blocks = λ j p k r other names h.
          let bounds = zone_bounds geometry k (names_zoned geometry old blocks j p k sound names) in
          same.above (512 * k + r) (omega (arith, within.2, room, bounds.0));
      behind = λ k h. same.above k (omega (arith, within.2, room, zone));
    }

-- the last steps of a truncation to size 0: the size and the mode are written
pub record Ends (geometry : Geometry) (old low new : List ℕ) (i : ℕ) : Type 0 where
  pub same : SameOutside low new (inode_place geometry.edition i) (inode_place geometry.edition i + address_offset geometry.edition)
  pub kept : (r : ℕ) → is_kept_byte geometry.edition r ≡ true
      → get_or new (inode_place geometry.edition i + r) 0 ≡ get_or low (inode_place geometry.edition i + r) 0
  pub size : size_of geometry new i ≡ 0
  pub mode : mode_of geometry new i ≡ truncated_mode geometry.edition 0 (mode_of geometry old i)
  pub kind : kind_at geometry new i ≡ kind_at geometry old i

-- after a truncation to size 0, no position in the block map of the file points to a block
ends_named : (geometry : Geometry) (old low new blocks : List ℕ) (i : ℕ) (p : List ℕ) → IsFile geometry old i
    → ClearsPast geometry old low i 0 blocks → Ends geometry old low new i
    → IsPlaceOf geometry new i p → named geometry new i p ≡ 0
ends_named geometry old low new blocks i p file clear end place =
    let base = front_first (form_at geometry new i) p place.place in
    let few : first_count (form_at geometry old i) ≡ address_count geometry.edition = addresses_file geometry old i file in
    let many : first_count (form_at geometry new i) ≡ address_count geometry.edition = addresses_file geometry new i place.file in
    let low_k : base.0 < first_count (form_at geometry old i) = omega (arith, base.1, few, many) in
    let none : named geometry low i (base.0 ∷ []) ≡ 0 =
    clear.gone (base.0 ∷ []) (record { file = file; place = low_k }) (past_true (form_at geometry old i) 0 (base.0 ∷ []) (omega arith)) in
    let same : named geometry new i (base.0 ∷ []) ≡ 0 =
    addresses_before geometry.edition low new i (inode_place geometry.edition i) (inode_place geometry.edition i + address_offset geometry.edition) base.0
    end.same (omega arith) ∙ none in
    front_zero geometry new i (base.0 ∷ []) p (fits_len geometry low new end.same.len clear.sound.fits) same base.2

-- the last steps of a truncation to size 0 change file `i` only by clearing positions in the block map
ends_lessens : (geometry : Geometry) (old low new blocks : List ℕ) (i : ℕ) → IsFile geometry old i
    → (clear : ClearsPast geometry old low i 0 blocks) → Ends geometry old low new i → IsFile geometry low i
    → Lessens geometry low new i
ends_lessens geometry old low new blocks i file clear end is = record {
  alone = head_elsewhere geometry low new _ i clear.sound is end.same end.kept;
  kind = end.kind ∙ ap (kind_of geometry.edition) (sym clear.mode);
  greatest = subst (λ n. n ≤ (constants geometry.edition).greatest) (sym end.size) (omega arith);
  small = λ e. subst (λ n. n ≤ 4096) (sym end.size) (omega arith);
  names = λ p place some. absurd (some (ends_named geometry old low new blocks i p file clear end place));
}

-- file `i` is still a file after its positions in the block map are cleared
file_low : (geometry : Geometry) (old low : List ℕ) (i kept : ℕ) (blocks : List ℕ) → IsFile geometry old i → ClearsPast geometry old low i kept blocks
    → IsFile geometry low i
file_low geometry old low i kept blocks file clear = record {
  first = file.first;
  last = file.last;
  kind = ap (λ mode. has_places (kind_of geometry.edition mode)) clear.mode ∙ file.kind;
}

-- a list of length 0 is empty
nil_of : (xs : List ℕ) → length xs ≡ 0 → xs ≡ []
nil_of [] e = refl
nil_of (x ∷ xs) e = absurd (omega arith)

-- a file of size 0 has an empty body
body_empty : (geometry : Geometry) (image : List ℕ) (i : ℕ) → size_of geometry image i ≡ 0 → body geometry image i ≡ []
body_empty geometry image i e =
    let size : body_size geometry image i ≡ 0 = omega (arith, e) in
    nil_of (body geometry image i) (length-body geometry image i ∙ size)

-- clearing all positions in the block map and then writing the size and the mode truncates a file to size 0
emptied : (geometry : Geometry) (old low new blocks : List ℕ) (i : ℕ) → Fits geometry old → IsFile geometry old i
    → ClearsPast geometry old low i 0 blocks → Ends geometry old low new i → Truncates geometry old new i 0 blocks
emptied geometry old low new blocks i fits file clear end =
    let given = blocks_at geometry old i (filter (is_past (form_at geometry old i) 0) (places (form_at geometry old i))) in
    let after = given ++ blocks in
    let list : after ≡ blocks_past geometry old i 0 ++ blocks = ap (λ xs. xs ++ blocks) (past_list geometry old i 0 (omega arith)) in
    let is = file_low geometry old low i 0 blocks file clear in
    let less = ends_lessens geometry old low new blocks i file clear end is in
    let room = place_room geometry low i clear.sound.fits file.first file.last in
    let from = place_from geometry.edition i in
    let within = size_within geometry.edition i in
    let free : IsFree geometry new after = IsFree-before_zone end.same (omega arith) (omega (arith, within.2, room)) clear.sound.free in
    let sound : Rules3To7With geometry new after = sound_after geometry low new after after i clear.sound is less free
    (λ j p place inside.
    let zone = free_zone free (named geometry new j p) inside in
    let some = zone_some geometry new (named geometry new j p) (fits_len geometry low new end.same.len clear.sound.fits) zone in
    let before = named_before geometry low new i j p clear.sound.fits is less place some in
    clear.sound.outside j p before.0 (subst (λ k. IsIn k after) before.1 inside)) in
    let covers : IsCovered geometry old blocks → IsCovered geometry new after = λ covered k zone. elim (clear.covered covered k zone) [
      | inl inside ↦ inl inside
      | inr (j, p, names) ↦ elim (cases_eq j i) [
        | inl same ↦
            let held = holds_named geometry low j p k names.holds in
            let place : IsPlaceOf geometry low i p = subst (λ x. IsPlaceOf geometry low x p) same names.place in
            let before : IsPlaceOf geometry old i p = place_same geometry low old i p (sym clear.mode) place in
            let none : named geometry low i p ≡ 0 = clear.gone p before (past_true (form_at geometry old i) 0 p (omega arith)) in
            absurd (held.1 (sym held.0 ∙ (ap (λ x. named geometry low x p) same ∙ none)))
        | inr other ↦ inr (j, p, elsewhere_names geometry low new i j p k clear.sound.fits less.alone file.first other names)
      ]
    ] in
    record {
      sound = subst (Rules3To7With geometry new) list sound;
      covered = λ covered. subst (IsCovered geometry new) list (covers covered);
      alone = elsewhere_changes geometry old new i fits file.first (elsewhere_then geometry old low new i fits file.first clear.alone less.alone);
      mode = end.mode;
      size = end.size;
      body = body_empty geometry new i end.size;
      names = λ p place. ends_named geometry old low new blocks i p file clear end place;
      bytes = λ n low. absurd (omega (arith, low));
      unused = λ k r inside small.
          let bounds = zone_bounds geometry k (free_zone free k (rest_within k given blocks after refl inside)) in
          end.same.above (512 * k + r) (omega (arith, within.2, room, bounds.0)) ∙ clear.unused k r inside small;
    }

-- clearing all positions in the block map and then writing the size and the mode truncates a file to size `left`, if that is 0
pub emptied_to : (geometry : Geometry) (old low new blocks : List ℕ) (i left : ℕ) → left ≡ 0 → Fits geometry old → IsFile geometry old i
    → ClearsPast geometry old low i (whole_blocks left) blocks → Ends geometry old low new i → Truncates geometry old new i left blocks
emptied_to geometry old low new blocks i left none fits file clear end =
    subst (λ n. Truncates geometry old new i n blocks) (sym none)
    (emptied geometry old low new blocks i fits file (subst (λ n. ClearsPast geometry old low i (whole_blocks n) blocks) none clear) end)

-- a position in the block map is either kept or past the blocks kept by a truncation
kept_or : (form : BlockMap) (left : ℕ) (p : List ℕ) → IsPlace form p → whole_blocks left ≤ block_limit form
    → ((is_kept form left p ≡ true) × (is_past form (whole_blocks left) p ≡ false)) ⊎ ((is_kept form left p ≡ false) × (is_past form (whole_blocks left) p ≡ true))
kept_or form left p place few =
    elim (is_past form (whole_blocks left) p) as (λ t. is_past form (whole_blocks left) p ≡ t
    → ((is_kept form left p ≡ true) × (t ≡ false)) ⊎ ((is_kept form left p ≡ false) × (t ≡ true))) [
      | true ↦ λ e. inr (kept_is form left p place few ∙ ap not e, refl)
      | false ↦ λ e. inl (kept_is form left p place few ∙ ap not e, refl)
    ] refl

-- after the positions in the block map past the blocks kept by a truncation are cleared, a kept position is unchanged, and any other holds 0
cleared_names : (geometry : Geometry) (old low : List ℕ) (i left : ℕ) (blocks p : List ℕ) → whole_blocks left ≤ block_limit (form_at geometry old i)
    → ClearsPast geometry old low i (whole_blocks left) blocks → IsPlaceOf geometry old i p
    → named geometry low i p ≡ (if is_kept (form_at geometry old i) left p then named geometry old i p else 0)
cleared_names geometry old low i left blocks p few clear place =
    elim (kept_or (form_at geometry old i) left p place.place few) [
      | inl (kept, on) ↦ clear.kept p place (λ past. true≢false (sym past ∙ on)) ∙ sym (ap (λ t. if t then named geometry old i p else 0) kept)
      | inr (kept, on) ↦ clear.gone p place on ∙ sym (ap (λ t. if t then named geometry old i p else 0) kept)
    ]

-- clearing the positions in the block map past the blocks kept by a truncation does not change the bytes of the kept blocks
cleared_bytes : (geometry : Geometry) (old low : List ℕ) (i left : ℕ) (blocks : List ℕ) (n : ℕ) → Fits geometry old → IsFile geometry old i
    → ClearsPast geometry old low i (whole_blocks left) blocks → n / 512 < whole_blocks left → body_byte geometry low i n ≡ body_byte geometry old i n
cleared_bytes geometry old low i left blocks n fits file clear low_n =
    let form = form_at geometry old i in
    let b = n / 512 in
    let same : form_at geometry low i ≡ form = form_same geometry old low i clear.mode in
    let stored_same : (q : List ℕ) → last_place form b ≡ Some q → zone_byte geometry low (stored geometry low i form b) (n % 512) ≡ zone_byte geometry old (stored geometry old i form b) (n % 512) =
    λ q e.
    let leaf = last_leaf form b q e in
    let place : IsPlaceOf geometry old i q = record { file = file; place = leaf.place } in
    let first : first_block form q ≡ b = first_leaf form q leaf.place leaf.bottom ∙ leaf.block in
    let apart : IsPast geometry old i (whole_blocks left) q → ⊥ = λ past. true≢false (sym past ∙ past_false form (whole_blocks left) q (omega (arith, first, low_n))) in
    let name : named geometry low i q ≡ named geometry old i q = clear.kept q place apart in
    ap (λ m. zone_byte geometry low m (n % 512)) (stored_is geometry low i form b q e ∙ name)
    ∙ (zone_byte_kept geometry old low (named geometry old i q) (n % 512)
    (λ zone. clear.bytes q (n % 512) place leaf.bottom apart (zone_some geometry old (named geometry old i q) fits zone) (omega arith))
    ∙ sym (ap (λ m. zone_byte geometry old m (n % 512)) (stored_is geometry old i form b q e))) in
    body_byte_is geometry low i n
    ∙ (ap (λ f. zone_byte geometry low (stored geometry low i f b) (n % 512)) same
    ∙ (elim (last_place form b) as (λ o. last_place form b ≡ o
    → zone_byte geometry low (stored geometry low i form b) (n % 512) ≡ zone_byte geometry old (stored geometry old i form b) (n % 512)) [
      | None ↦ λ e.
          ap (λ m. zone_byte geometry low m (n % 512)) (stored_none geometry low i form b e)
          ∙ (zone_byte_out geometry low 0 (n % 512) (zero_out geometry low clear.sound.fits)
          ∙ sym (ap (λ m. zone_byte geometry old m (n % 512)) (stored_none geometry old i form b e)
          ∙ zone_byte_out geometry old 0 (n % 512) (zero_out geometry old fits)))
      | Some q ↦ stored_same q
    ] refl ∙ sym (body_byte_is geometry old i n)))

-- if the size is set to `left`, and the bytes of the blocks kept by a truncation are unchanged, the body is the first `left` bytes of the old body
body_front : (geometry : Geometry) (old new : List ℕ) (i left : ℕ) → size_of geometry new i ≡ left → left ≤ size_of geometry old i
    → size_of geometry old i ≤ (constants geometry.edition).greatest
    → ((n : ℕ) → n / 512 < whole_blocks left → body_byte geometry new i n ≡ body_byte geometry old i n)
    → body geometry new i ≡ take left (body geometry old i)
body_front geometry old new i left size less great bytes =
    let count : body_size geometry new i ≡ left = omega (arith, size, less, great) in
    let whole : body_size geometry old i ≡ size_of geometry old i = omega (arith, great) in
    let long = length-body geometry old i in
    same_number_lists (body geometry new i) (take left (body geometry old i))
    (length-body geometry new i ∙ (count ∙ sym (length-take-le left (body geometry old i) (omega (arith, long, whole, less)))))
    (λ n h.
    let short = length-body geometry new i in
    let low : n < left = omega (arith, h, short, count) in
    get_or-body geometry new i n (omega (arith, low, count))
    ∙ (bytes n (omega (arith, low))
    ∙ (sym (get_or-body geometry old i n (omega (arith, low, whole, less))) ∙ sym (get_or-take left (body geometry old i) n 0 low))))

-- a file can have all kept blocks: their number is within the block map's limit
pub kept_few : (geometry : Geometry) (image : List ℕ) (i left : ℕ) (blocks : List ℕ) → Rules3To7With geometry image blocks → IsFile geometry image i
    → left ≤ size_of geometry image i → whole_blocks left ≤ block_limit (form_at geometry image i)
kept_few geometry image i left blocks sound file less =
    let great = sound.sizes.greatest i file in
    limit_of geometry.edition (mode_of geometry image i) (whole_blocks left) file.kind (omega (arith, great, less))
    (λ e. let small = sound.sizes.small i file e in omega (arith, small, less))

-- the number of blocks freed is the number of blocks past the kept ones
pub given_count : (geometry : Geometry) (old low : List ℕ) (i left count : ℕ) → Rules3To7 geometry old → IsFile geometry old i
    → left ≤ size_of geometry old i → Gains geometry old low count
    → ((blocks : List ℕ) → Rules3To7With geometry old blocks → ClearsPast geometry old low i (whole_blocks left) blocks)
    → count ≡ length (blocks_past geometry old i left)
given_count geometry old low i left count has file less gains clear =
    let few = kept_few geometry old i left has.blocks has.sound file less in
    gains_given geometry old low (blocks_at geometry old i (filter (is_past (form_at geometry old i) (whole_blocks left)) (places (form_at geometry old i))))
    has.blocks count gains has.sound.free (clear has.blocks has.sound).sound.free
    ∙ ap length (past_list geometry old i left few)

-- clearing the positions in the block map past the blocks kept by a truncation and then writing the size truncates a file, if its mode need not
-- change
pub shortened : (geometry : Geometry) (old low new blocks : List ℕ) (i left : ℕ) → Rules3To7With geometry old blocks → IsFile geometry old i
    → left ≤ size_of geometry old i → mode_of geometry old i ≡ truncated_mode geometry.edition left (mode_of geometry old i)
    → ClearsPast geometry old low i (whole_blocks left) blocks
    → SameOutside low new (size_place geometry.edition i) (size_place geometry.edition i + size_bytes geometry.edition)
    → size_at geometry.edition new (inode_place geometry.edition i) ≡ left → Truncates geometry old new i left blocks
shortened geometry old low new blocks i left sound file less mode clear same put =
    let form = form_at geometry old i in
    let given = blocks_at geometry old i (filter (is_past form (whole_blocks left)) (places form)) in
    let few = kept_few geometry old i left blocks sound file less in
    let great = sound.sizes.greatest i file in
    let list : given ++ blocks ≡ blocks_past geometry old i left ++ blocks = ap (λ xs. xs ++ blocks) (past_list geometry old i left few) in
    let is = file_low geometry old low i (whole_blocks left) blocks file clear in
    let end : Resized geometry low new i left (given ++ blocks) =
    resized geometry low new (given ++ blocks) i left clear.sound is same put (omega (arith, great, less))
    (λ e. let small = sound.sizes.small i file (sym (form_same geometry old low i clear.mode) ∙ e) in omega (arith, small, less)) in
    let bytes : (n : ℕ) → n / 512 < whole_blocks left → body_byte geometry new i n ≡ body_byte geometry old i n =
    λ n low_n. end.bytes n ∙ cleared_bytes geometry old low i left blocks n sound.fits file clear low_n in
    record {
      sound = subst (Rules3To7With geometry new) list end.sound;
      covered = λ covered. subst (IsCovered geometry new) list (end.covered (clear.covered covered));
      alone = elsewhere_changes geometry old new i sound.fits file.first
          (elsewhere_then geometry old low new i sound.fits file.first clear.alone end.alone);
      mode = end.mode ∙ (clear.mode ∙ mode);
      size = end.size;
      body = body_front geometry old new i left end.size less great bytes;
      names = λ p place.
          let there : IsPlaceOf geometry low i p = place_same geometry new low i p (sym end.mode) place in
          let before : IsPlaceOf geometry old i p = place_same geometry low old i p (sym clear.mode) there in
          end.names p there ∙ cleared_names geometry old low i left blocks p few clear before;
      bytes = bytes;
      unused = λ k r inside small. end.unused k r (rest_within k given blocks (given ++ blocks) refl inside) small ∙ clear.unused k r inside small;
    }

-- in the sixth edition, the last steps of a truncation to size 0 set the size to 0 and clear the large flag
pub ends_v6 : (geometry : Geometry) (old low mid new : List ℕ) (i was bits : ℕ) → geometry.edition ≡ V6 → IsFile geometry old i
    → SameOutside low mid (size_place geometry.edition i) (size_place geometry.edition i + size_bytes geometry.edition)
    → size_at geometry.edition mid (inode_place geometry.edition i) ≡ 0
    → SameOutside mid new (inode_place geometry.edition i) (inode_place geometry.edition i + 2)
    → mode_of geometry new i ≡ bits → was ≡ mode_of geometry old i → bits ≡ with_large was false
    → (32768 ≤ was → kind_of V6 bits ≡ kind_of V6 was) → Ends geometry old low new i
ends_v6 geometry old low mid new i was bits e file first size second put same_mode flag kind =
    let within = size_within geometry.edition i in
    let behind = mode_within geometry.edition i in
    let is_kind : kind_of V6 bits ≡ kind_of V6 (mode_of geometry old i) =
    let high : 32768 ≤ mode_of geometry old i =
    file_allocated (mode_of geometry old i) (subst (λ x. has_places (kind_of x (mode_of geometry old i)) ≡ true) e file.kind) in
    kind (omega arith) ∙ ap (kind_of V6) same_mode in
    record {
      same = join first second (omega (arith, within.0)) (omega arith) (omega (arith, within.1)) (omega (arith, behind.0));
      kept = λ r kept.
          let six : is_kept_byte V6 r ≡ true = subst (λ x. is_kept_byte x r ≡ true) e kept in
          let there : SameOutside mid new (inode_place V6 i) (inode_place V6 i + 2) =
          subst (λ x. SameOutside mid new (inode_place x i) (inode_place x i + 2)) e second in
          subst (λ x. get_or new (inode_place x i + r) 0 ≡ get_or mid (inode_place x i + r) 0) (sym e) (kept_mode mid new i r there six)
          ∙ kept_size geometry.edition low mid i r first kept;
      size = size_above geometry.edition mid new i (inode_place geometry.edition i) (inode_place geometry.edition i + 2) second (omega arith) ∙ size;
      mode = put ∙ (flag ∙ (ap (λ m. with_large m false) same_mode ∙ subst (λ x. with_large (mode_of geometry old i) false ≡ truncated_mode x 0 (mode_of geometry old i)) (sym e) refl));
      kind = ap (kind_of geometry.edition) put ∙ subst (λ x. kind_of x bits ≡ kind_of x (mode_of geometry old i)) (sym e) is_kind;
    }

-- filtering with a test that is always true keeps the whole list
filter_all : (ps : List (List ℕ)) → filter (λ p. true) ps ≡ ps
filter_all [] = refl
filter_all (p ∷ ps) = ap (λ xs. p ∷ xs) (filter_all ps)

-- a truncation does not change the mode in the seventh edition
pub mode_v7 : (edition : Edition) (left mode : ℕ) → edition ≡ V7 → mode ≡ truncated_mode edition left mode
mode_v7 edition left mode e = subst (λ x. mode ≡ truncated_mode x left mode) (sym e) refl

-- a truncation to a size other than 0 does not change the mode
pub mode_left : (edition : Edition) (left mode : ℕ) → (left ≡ 0 → ⊥) → mode ≡ truncated_mode edition left mode
mode_left V6 left mode some = let no : (left == 0) ≡ false = grind (arith, nat_tests) in sym (ap (λ t. if t then with_large mode false else mode) no)
mode_left V7 left mode some = refl

-- a truncation to size 0 frees all blocks of the file
pub past_all : (geometry : Geometry) (image : List ℕ) (i : ℕ) → blocks_past geometry image i 0 ≡ blocks_of geometry image i
unfolding blocks_past blocks_of
past_all geometry image i =
    ap (λ ps. filter (λ k. not (k == 0)) (map (named geometry image i) ps)) (filter_all (places (form_at geometry image i)))

-- after a truncation to size 0, no position in the block map of the file points to a block
pub names_none : (geometry : Geometry) (old new : List ℕ) (i : ℕ) (p blocks : List ℕ) → Truncates geometry old new i 0 blocks
    → IsPlaceOf geometry new i p → named geometry new i p ≡ 0
names_none geometry old new i p blocks cuts place = cuts.names p place
