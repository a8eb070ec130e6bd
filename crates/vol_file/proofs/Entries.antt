-- Entries of indirect blocks and addresses of i-nodes that pointed to a block and are set to 0.
use Rattle.std.proofs.Common.{◌≡◌, ℕ, ◌+◌, ◌*◌, ◌<◌, ◌≤◌, ◌∙◌, sym, ap, subst, List, [], ◌∷◌, length, arith, true}
use Rattle.pdp_words.specs.Words.{SameOutside}
use Rattle.vol_layout.specs.Edition.{constants, number}
use Rattle.vol_layout.specs.Geometry.{in_zone}
use Rattle.vol_layout.specs.Inode.{inode_place, address_at, address_bytes, address_place}
use Rattle.vol_layout.specs.BlockMaps.{first_count, pointer_count}
use Rattle.vol_layout.specs.BlockPointers.{mode_of, form_at, named}
use Rattle.vol_layout.specs.declared.geometry.Geometry.{Geometry}
use Rattle.vol_layout.proofs.CopyLaws.{number_room}
use Rattle.vol_layout.proofs.BodyLaws.{zone_bounds}
use Rattle.vol_layout.proofs.NameLaws.{named_stops, zero_out}
use Rattle.vol_layout.proofs.FrameLaws.{addresses_few, pointers_of}
use Rattle.vol_free.specs.Stack.{IsIn, IsFree}
use Rattle.vol_free.proofs.Stacks.{IsFree_unique, zone_behind}
use Rattle.vol_file.specs.Rules.{Rules3To7With}
use Rattle.vol_file.proofs.Stores.{Stores}
use Rattle.vol_file.specs.Clears.{IsNamedAt}
use Rattle.vol_file.proofs.Cells.{entry_end, stores_entry, stores_address}

-- if rules 3 to 7 hold, a block to which a position in the block map points is a data block
pub named_zone : (geometry : Geometry) (image blocks : List ℕ) (i b : ℕ) (q : List ℕ) → Rules3To7With geometry image blocks
    → IsNamedAt geometry image i q b → in_zone geometry b ≡ true
named_zone geometry image blocks i b q sound is =
    ap (in_zone geometry) (sym is.names) ∙ sound.zoned i q is.place (λ none. is.some (sym is.names ∙ none))

-- if an entry points to a block, the position in the block map above it points to the entry's block
pub entry_above : (geometry : Geometry) (image blocks : List ℕ) (i j a m b : ℕ) (p : List ℕ) → Rules3To7With geometry image blocks
    → named geometry image i (a ∷ p) ≡ m → IsNamedAt geometry image i (j ∷ (a ∷ p)) b → IsNamedAt geometry image i (a ∷ p) m
entry_above geometry image blocks i j a m b p sound block is = record {
  place = record { file = is.place.file; place = is.place.place.2 };
  names = block;
  some = λ none.
      let zero : named geometry image i (a ∷ p) ≡ 0 = block ∙ none in
      is.some (sym is.names ∙ named_stops geometry image i j a p (ap (in_zone geometry) zero ∙ zero_out geometry image sound.fits));
}

-- an entry that points to a block is within the image
pub entry_room : (geometry : Geometry) (image blocks : List ℕ) (i j a m b : ℕ) (p : List ℕ) → Rules3To7With geometry image blocks
    → named geometry image i (a ∷ p) ≡ m → IsNamedAt geometry image i (j ∷ (a ∷ p)) b
    → 512 * m + (constants geometry.edition).number_bytes * (j + 1) ≤ length image
entry_room geometry image blocks i j a m b p sound block is =
    let bounds = zone_bounds geometry m (named_zone geometry image blocks i m (a ∷ p) sound (entry_above geometry image blocks i j a m b p sound block is)) in
    let many = pointers_of geometry.edition (mode_of geometry image i) in
    let index : j < pointer_count (form_at geometry image i) = is.place.place.0 in
    let fit = number_room geometry.edition j (omega (arith, index, many)) in
    let end = entry_end (512 * m) (constants geometry.edition).number_bytes j fit in
    omega (arith, end, bounds.1, sound.fits.blocks)

-- storing 0 in an entry clears its position in the block map and changes nothing else
pub entry_stores : (geometry : Geometry) (old new blocks : List ℕ) (i j a m b : ℕ) (p : List ℕ) → Rules3To7With geometry old blocks
    → named geometry old i (a ∷ p) ≡ m → IsNamedAt geometry old i (j ∷ (a ∷ p)) b
    → SameOutside old new (512 * m + (constants geometry.edition).number_bytes * j) (512 * m + (constants geometry.edition).number_bytes * (j + 1))
    → number geometry.edition new (512 * m) j ≡ 0 → Stores geometry old new i (j ∷ (a ∷ p)) 0 blocks
entry_stores geometry old new blocks i j a m b p sound block is same put =
    stores_entry geometry old new blocks i m j a 0 p sound is.place block
    (named_zone geometry old blocks i m (a ∷ p) sound (entry_above geometry old blocks i j a m b p sound block is)) same put

-- storing 0 in an address clears its position in the block map and changes nothing else
pub address_stores : (geometry : Geometry) (old new blocks : List ℕ) (i k b : ℕ) → Rules3To7With geometry old blocks
    → IsNamedAt geometry old i (k ∷ []) b
    → SameOutside old new (address_place geometry.edition i k) (address_place geometry.edition i k + address_bytes geometry.edition)
    → address_at geometry.edition new (inode_place geometry.edition i) k ≡ 0 → Stores geometry old new i (k ∷ []) 0 blocks
address_stores geometry old new blocks i k b sound is same put =
    let few = addresses_few geometry.edition (mode_of geometry old i) in
    let low : k < first_count (form_at geometry old i) = is.place.place in
    stores_address geometry old new blocks i k 0 sound is.place.file (omega (arith, few, low)) same put

-- after a position in the block map is set to 0, the block to which it pointed isn't free yet
pub stored_fresh : (geometry : Geometry) (old mid blocks : List ℕ) (i b : ℕ) (q : List ℕ) → Rules3To7With geometry old blocks
    → IsNamedAt geometry old i q b → Stores geometry old mid i q 0 blocks
    → (others : List ℕ) → IsFree geometry mid others → IsIn b others → ⊥
stored_fresh geometry old mid blocks i b q sound is store others free within =
    let low : 2 ≤ geometry.zone_start = zone_behind sound.fits in
    let one : others ≡ blocks = IsFree_unique (omega arith) free store.free in
    sound.outside i q is.place (subst (λ k. IsIn k blocks) (sym is.names) (subst (IsIn b) one within))
