-- There is room for the change of a file if the state has enough free blocks.
use Rattle.std.proofs.Common.{◌≡◌, ◌∙◌, sym, ap, ℕ, ◌*◌, ◌/◌, ◌≤◌, List, [], ◌∷◌, length, true, true≢false, arith}
use Rattle.vol_layout.specs.BlockPointers.{mode_of, form_at, IsFile}
use Rattle.vol_layout.specs.BlockMaps.{has_places}
use Rattle.vol_layout.specs.declared.geometry.Geometry.{Geometry}
use Rattle.vol_layout.specs.declared.mode.Kind.{Kind}
use Rattle.vol_layout.specs.declared.mode.Kind.TheVariants as kinds
use Rattle.vol_free.proofs.Stacks.{zone_behind, IsFree_unique}
use Rattle.vol_file.specs.Need.{need_of, need}
use Rattle.vol_file.specs.Rules.{kind_at, Rules3To7With}
use Rattle.vol_file.proofs.MissingLaws.{need_nothing}
use Rattle.vol_file.specs.Shape.{is_named, touched}
use Rattle.vol_dir.specs.Entries.{slots}
use Rattle.vol_dir.specs.Names.{names_in}
use Rattle.vol_dir.specs.Search.{new_slot}
use Rattle.vol_dir.specs.Tree.{free_count, is_named_place, shape_of, shapes, state, tree}
use Rattle.vol_change.specs.Ready.{entry_need}
use Rattle.vol_change.specs.Shapes.{need_in, entry_blocks}
use Rattle.vol_change.specs.Whole.{Rules3To8}
use Rattle.vol_change.proofs.FreeCounts.{form_shape, free_blocks}
use Rattle.vol_change.proofs.States.{shape_here}
use Rattle.vol_change.proofs.ShapePlaces.{need_places}
use Rattle.vol_change.proofs.WrittenStates.{IsKind}
use Rattle.vol_change.proofs.EntryStates.{slot_block, shape_is}

-- the need computed from the shape is the need computed from the image, for each kind of file
need_by : (geometry : Geometry) (image : List ℕ) (i : ℕ) (blocks : List ℕ) (kind : Kind) → has_places (kind_at geometry image i) ≡ true
    → has_places kind ≡ true → need_in geometry.edition (shape_of geometry image i kind) blocks ≡ need_of (form_at geometry image i) (is_named geometry image i) blocks
need_by geometry image i blocks kinds.Regular file h =
    ap (λ f. need_of f (is_named_place geometry image i) blocks) (form_shape geometry.edition (mode_of geometry image i) file)
    ∙ need_places (form_at geometry image i) (is_named geometry image i) blocks
need_by geometry image i blocks kinds.Directory file h =
    ap (λ f. need_of f (is_named_place geometry image i) blocks) (form_shape geometry.edition (mode_of geometry image i) file)
    ∙ need_places (form_at geometry image i) (is_named geometry image i) blocks
need_by geometry image i blocks kinds.Free file h = absurd (true≢false (sym h))
need_by geometry image i blocks kinds.Special file h = absurd (true≢false (sym h))
need_by geometry image i blocks kinds.Odd file h = absurd (true≢false (sym h))

-- the number of blocks that a file needs, computed from its shape, is the number computed from the image
pub need_is : (geometry : Geometry) (image : List ℕ) (i : ℕ) (blocks : List ℕ) → IsFile geometry image i
    → need_in geometry.edition (shapes geometry image i) blocks ≡ need_of (form_at geometry image i) (is_named geometry image i) blocks
need_is geometry image i blocks file =
    ap (λ shape. need_in geometry.edition shape blocks) (shape_here geometry image i file.first file.last)
    ∙ need_by geometry image i blocks (kind_at geometry image i) file.kind file.kind

-- the number of free blocks computed from the shapes is at most the length of the image's free list
pub room_is : (geometry : Geometry) (image : List ℕ) (n : ℕ) → Rules3To8 geometry image → n ≤ free_count geometry (shapes geometry image)
    → (blocks : List ℕ) → Rules3To7With geometry image blocks → n ≤ length blocks
room_is geometry image n rules within blocks sound =
    let zone = zone_behind rules.sound.fits in
    let count = free_blocks geometry image rules.blocks rules.sound rules.covered in
    let same = ap length (IsFree_unique (omega (arith, zone)) rules.sound.free sound.free) in
    omega (arith, within, count, same)

-- storing no bytes needs no blocks
pub nothing_needed : (geometry : Geometry) (image : List ℕ) (i offset len : ℕ) → IsFile geometry image i → len ≡ 0
    → need_in geometry.edition (shapes geometry image i) (touched offset len) ≡ 0
nothing_needed geometry image i offset len file none =
    need_is geometry image i (touched offset len) file ∙ (ap (need geometry image i offset) none ∙ need_nothing (form_at geometry image i) (is_named geometry image i))

-- if the state has enough free blocks for a file's blocks, so does the free list
pub file_room : (geometry : Geometry) (image : List ℕ) (i : ℕ) (blocks : List ℕ) → Rules3To8 geometry image → IsFile geometry image i
    → need_in geometry.edition (shapes geometry image i) blocks ≤ free_count geometry (shapes geometry image)
    → (free : List ℕ) → Rules3To7With geometry image free → need_of (form_at geometry image i) (is_named geometry image i) blocks ≤ length free
file_room geometry image i blocks rules file within =
    let is = need_is geometry image i blocks file in
    room_is geometry image (need_of (form_at geometry image i) (is_named geometry image i) blocks) rules (omega (arith, within, is))

-- the number of blocks that a new entry needs, computed from the shape, is the number computed from the image
pub entry_need_is : (geometry : Geometry) (image : List ℕ) (d : ℕ) → IsKind geometry image d kinds.Directory
    → need geometry image d (16 * new_slot (names_in (slots geometry image d))) 16 ≡ entry_need (state geometry image) d
unfolding tree
entry_need_is geometry image d is =
    let file : IsFile geometry image d = record { first = is.first; last = is.last; kind = ap has_places is.kind } in
    let s = new_slot (names_in (slots geometry image d)) in
    let list : entry_blocks (shapes geometry image d) ≡ s / 32 ∷ [] = ap entry_blocks (shape_is geometry image d is) in
    ap (need_of (form_at geometry image d) (is_named geometry image d)) (slot_block s)
    ∙ (sym (need_is geometry image d (s / 32 ∷ []) file) ∙ sym (ap (need_in geometry.edition (shapes geometry image d)) list))

-- if the state has enough free blocks for a new entry, so does the free list
pub entry_room : (geometry : Geometry) (image : List ℕ) (d : ℕ) → Rules3To8 geometry image → IsKind geometry image d kinds.Directory
    → need_in geometry.edition (shapes geometry image d) (entry_blocks (shapes geometry image d)) ≤ free_count geometry (shapes geometry image)
    → (free : List ℕ) → Rules3To7With geometry image free
    → need geometry image d (16 * new_slot (names_in (slots geometry image d))) 16 ≤ length free
unfolding tree
entry_room geometry image d rules is within free sound =
    let need = entry_need_is geometry image d is in
    omega (arith, need, room_is geometry image (entry_need (state geometry image) d) rules within free sound)
