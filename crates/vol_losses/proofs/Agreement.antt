-- Lemmas on two images that have the same bytes in all blocks that aren't lost.
use Rattle.std.proofs.Common.{◌≡◌, ℕ, ◌+◌, ◌*◌, ◌/◌, ◌%◌, ◌<◌, ◌≤◌, ◌∙◌, sym, ap, subst, Bool, true, false, ◌&&◌, ◌||◌, List, [], ◌∷◌, get_or, refl, arith, inl, inr, Option, Some, None}
use Rattle.std.proofs.lemmas.Bool.{or_parts}
use Rattle.std.specs.Option.{option_map_or}
use Rattle.vol_layout.specs.Edition.{constants}
use Rattle.vol_layout.specs.Geometry.{in_zone, Fits}
use Rattle.vol_layout.specs.Inode.{inode_place}
use Rattle.vol_layout.specs.BlockMaps.{IsPlace, last_place}
use Rattle.vol_layout.specs.BlockPointers.{form_at, named, stored}
use Rattle.vol_layout.specs.Body.{zone_byte, body_byte, body_size, body}
use Rattle.vol_layout.specs.Laws.{IsFront}
use Rattle.vol_layout.specs.declared.edition.Edition.{Edition}
use Rattle.vol_layout.specs.declared.edition.Edition.TheVariants.{V6, V7}
use Rattle.vol_layout.specs.declared.geometry.Geometry.{Geometry}
use Rattle.vol_layout.proofs.CopyLaws.{IsCopy}
use Rattle.vol_layout.proofs.InodeLaws.{KeepsInode, place_room, body_size_kept}
use Rattle.vol_layout.proofs.PlaceLaws.{last_leaf, front_above}
use Rattle.vol_layout.proofs.FrameLaws.{KeepsPlaces, places_kept, named_frame, stored_kept, zone_byte_kept}
use Rattle.vol_layout.proofs.BodyLaws.{zone_bounds, same_body, body_byte_is}
use Rattle.vol_layout.proofs.NameLaws.{zone_some}
use Rattle.vol_losses.specs.Losses.{is_lost, AgreesOutside, is_lost_block, is_lost_on, is_unsure, node_block, IsWhole}

-- an i-node lies in one block
in_block : (edition : Edition) (i r : ℕ) → r < (constants edition).inode_bytes
    → inode_place edition i % 512 + r < 512
in_block V6 i r h = omega arith
in_block V7 i r h = omega arith

-- an i-node whose block isn't lost has the same bytes
pub node_agrees : (geometry : Geometry) (lost : List Bool) (old new : List ℕ) (i : ℕ) → Fits geometry old → 1 ≤ i → i ≤ geometry.last_inode → AgreesOutside geometry lost old new
    → is_lost lost (node_block geometry.edition i) ≡ false → KeepsInode geometry old new i
node_agrees geometry lost old new i fits first last agrees node = record {
  bytes = λ r h.
      let at = inode_place geometry.edition i in
      let low : at % 512 + r < 512 = in_block geometry.edition i r h in
      let place : 512 * (at / 512) + (at % 512 + r) ≡ at + r = omega arith in
      let room : at + (constants geometry.edition).inode_bytes ≤ 512 * geometry.zone_start = place_room geometry old i fits first last in
      let inside : at / 512 < geometry.zone_end = omega (arith, room, fits.zone) in
      ap (λ x. get_or new x 0) (sym place) ∙ (agrees.bytes (at / 512) (at % 512 + r) inside low node ∙ ap (λ x. get_or old x 0) place);
}

-- if no block on the path to position `p` is lost, then none at a position on that path is
front_sure : (geometry : Geometry) (image : List ℕ) (lost : List Bool) (i : ℕ) (p : List ℕ) (j : ℕ) (q : List ℕ) → IsFront (j ∷ q) p
    → is_lost_on geometry image lost i p ≡ false → is_lost_block geometry lost (named geometry image i (j ∷ q)) ≡ false
unfolding is_lost_on
front_sure geometry image lost i [] j q front sure = elim front [ ]
front_sure geometry image lost i (h ∷ p) j q (inl e) sure =
    subst (λ x. is_lost_block geometry lost (named geometry image i x) ≡ false) (sym e)
    (or_parts (is_lost_block geometry lost (named geometry image i (h ∷ p))) (is_lost_on geometry image lost i p) sure).0
front_sure geometry image lost i (h ∷ p) j q (inr front) sure =
    front_sure geometry image lost i p j q front
    (or_parts (is_lost_block geometry lost (named geometry image i (h ∷ p))) (is_lost_on geometry image lost i p) sure).1

-- a data block that isn't lost has the same bytes
block_agrees : (geometry : Geometry) (lost : List Bool) (old new : List ℕ) (k : ℕ) → AgreesOutside geometry lost old new → in_zone geometry k ≡ true
    → is_lost_block geometry lost k ≡ false → IsCopy old new (512 * k) (512 * k) 512
block_agrees geometry lost old new k agrees zone sure =
    let known : is_lost lost k ≡ false = subst (λ z. (z && is_lost lost k) ≡ false) zone sure in
    record { bytes = λ r h. agrees.bytes k r (zone_bounds geometry k zone).1 h known }

-- a position on whose path no block is lost holds the same block number
pub named_agrees : (geometry : Geometry) (lost : List Bool) (old new : List ℕ) (i : ℕ) (p : List ℕ) → AgreesOutside geometry lost old new
    → KeepsPlaces geometry old new i → IsPlace (form_at geometry old i) p → is_lost_on geometry old lost i p ≡ false
    → named geometry new i p ≡ named geometry old i p
named_agrees geometry lost old new i p agrees kept place sure =
    named_frame geometry old new i p kept place
    (λ j a q front zone. block_agrees geometry lost old new (named geometry old i (a ∷ q)) agrees zone
    (front_sure geometry old lost i p a q (front_above p q j a front) sure))

-- a logical block that can be trusted is stored in the same block
pub stored_agrees : (geometry : Geometry) (lost : List Bool) (old new : List ℕ) (i b : ℕ) → AgreesOutside geometry lost old new
    → KeepsPlaces geometry old new i → is_unsure geometry old lost i b ≡ false
    → stored geometry new i (form_at geometry new i) b ≡ stored geometry old i (form_at geometry old i) b
stored_agrees geometry lost old new i b agrees kept sure =
    ap (λ form. stored geometry new i form b) (kept.form)
    ∙ stored_kept geometry old new i (form_at geometry old i) b
    (λ p e. named_agrees geometry lost old new i p agrees kept (last_leaf (form_at geometry old i) b p e).place
    (subst (λ o. option_map_or (is_lost_on geometry old lost i) o false ≡ false) e sure))

-- the data block at the end of a path without a lost block isn't lost
path_sure : (geometry : Geometry) (image : List ℕ) (lost : List Bool) (i : ℕ) (o : Option (List ℕ)) → Fits geometry image
    → option_map_or (is_lost_on geometry image lost i) o false ≡ false → in_zone geometry (option_map_or (named geometry image i) o 0) ≡ true
    → is_lost_block geometry lost (option_map_or (named geometry image i) o 0) ≡ false
path_sure geometry image lost i (Some (j ∷ p)) fits sure zone = front_sure geometry image lost i (j ∷ p) j p (inl refl) sure
path_sure geometry image lost i (Some []) fits sure zone = absurd (zone_some geometry image 0 fits zone refl)
path_sure geometry image lost i None fits sure zone = absurd (zone_some geometry image 0 fits zone refl)

-- the data block of a logical block that can be trusted isn't lost
stored_sure : (geometry : Geometry) (image : List ℕ) (lost : List Bool) (i b : ℕ) → Fits geometry image
    → is_unsure geometry image lost i b ≡ false → in_zone geometry (stored geometry image i (form_at geometry image i) b) ≡ true
    → is_lost_block geometry lost (stored geometry image i (form_at geometry image i) b) ≡ false
stored_sure geometry image lost i b fits sure zone = path_sure geometry image lost i (last_place (form_at geometry image i) b) fits sure zone

-- a byte in a logical block that can be trusted is the same if the i-node's block map and addresses are
pub mapped_byte : (geometry : Geometry) (lost : List Bool) (old new : List ℕ) (i n : ℕ) → Fits geometry old → AgreesOutside geometry lost old new
    → KeepsPlaces geometry old new i → is_unsure geometry old lost i (n / 512) ≡ false
    → body_byte geometry new i n ≡ body_byte geometry old i n
mapped_byte geometry lost old new i n fits agrees kept sure =
    let byte : n % 512 < 512 = omega arith in
    body_byte_is geometry new i n
    ∙ (ap (λ m. zone_byte geometry new m (n % 512)) (stored_agrees geometry lost old new i (n / 512) agrees kept sure)
    ∙ (zone_byte_kept geometry old new (stored geometry old i (form_at geometry old i) (n / 512)) (n % 512)
    (λ zone. (block_agrees geometry lost old new (stored geometry old i (form_at geometry old i) (n / 512)) agrees zone
    (stored_sure geometry old lost i (n / 512) fits sure zone)).bytes (n % 512) byte)
    ∙ sym (body_byte_is geometry old i n)))

-- the body is the same if the i-node's block map, size and addresses are, and each of its logical blocks can be trusted
pub mapped_body : (geometry : Geometry) (lost : List Bool) (old new : List ℕ) (i : ℕ) → Fits geometry old → AgreesOutside geometry lost old new
    → KeepsPlaces geometry old new i → body_size geometry new i ≡ body_size geometry old i
    → ((b : ℕ) → 512 * b < body_size geometry old i → is_unsure geometry old lost i b ≡ false)
    → body geometry new i ≡ body geometry old i
mapped_body geometry lost old new i fits agrees kept size sure =
    same_body geometry old new i size
    (λ n h. let low : 512 * (n / 512) < body_size geometry old i = omega arith in
    mapped_byte geometry lost old new i n fits agrees kept (sure (n / 512) low))

-- a byte in a logical block that can be trusted is the same
pub byte_agrees : (geometry : Geometry) (lost : List Bool) (old new : List ℕ) (i n : ℕ) → Fits geometry old → 1 ≤ i → i ≤ geometry.last_inode
    → AgreesOutside geometry lost old new
    → is_lost lost (node_block geometry.edition i) ≡ false → is_unsure geometry old lost i (n / 512) ≡ false
    → body_byte geometry new i n ≡ body_byte geometry old i n
byte_agrees geometry lost old new i n fits first last agrees node sure =
    mapped_byte geometry lost old new i n fits agrees (places_kept geometry old new i (node_agrees geometry lost old new i fits first last agrees node)) sure

-- a whole file has the same body
pub body_agrees : (geometry : Geometry) (lost : List Bool) (old new : List ℕ) (i : ℕ) → Fits geometry old → 1 ≤ i → i ≤ geometry.last_inode
    → AgreesOutside geometry lost old new → IsWhole geometry old lost i → body geometry new i ≡ body geometry old i
body_agrees geometry lost old new i fits first last agrees whole =
    let node : KeepsInode geometry old new i = node_agrees geometry lost old new i fits first last agrees whole.node in
    mapped_body geometry lost old new i fits agrees (places_kept geometry old new i node) (body_size_kept geometry old new i node) whole.blocks

-- a path without a lost block has none in the other image either
on_agrees : (geometry : Geometry) (lost : List Bool) (old new : List ℕ) (i : ℕ) (p : List ℕ) → AgreesOutside geometry lost old new
    → KeepsPlaces geometry old new i → IsPlace (form_at geometry old i) p → is_lost_on geometry old lost i p ≡ false
    → is_lost_on geometry new lost i p ≡ false
unfolding is_lost_on
on_agrees geometry lost old new i [] agrees kept place sure = refl
on_agrees geometry lost old new i (k ∷ []) agrees kept place sure =
    ap (λ m. is_lost_block geometry lost m || false) (named_agrees geometry lost old new i (k ∷ []) agrees kept place sure) ∙ sure
on_agrees geometry lost old new i (j ∷ (a ∷ p)) agrees kept place sure =
    let parts = or_parts (is_lost_block geometry lost (named geometry old i (j ∷ (a ∷ p)))) (is_lost_on geometry old lost i (a ∷ p)) sure in
    ap (λ m. is_lost_block geometry lost m || is_lost_on geometry new lost i (a ∷ p)) (named_agrees geometry lost old new i (j ∷ (a ∷ p)) agrees kept place sure)
    ∙ (ap (λ t. t || is_lost_on geometry new lost i (a ∷ p)) parts.0
    ∙ on_agrees geometry lost old new i (a ∷ p) agrees kept place.2 parts.1)

-- a logical block that can be trusted can be trusted in the other image too
pub sure_agrees : (geometry : Geometry) (lost : List Bool) (old new : List ℕ) (i b : ℕ) → Fits geometry old → 1 ≤ i → i ≤ geometry.last_inode
    → AgreesOutside geometry lost old new
    → is_lost lost (node_block geometry.edition i) ≡ false → is_unsure geometry old lost i b ≡ false → is_unsure geometry new lost i b ≡ false
sure_agrees geometry lost old new i b fits first last agrees node sure =
    let kept : KeepsPlaces geometry old new i = places_kept geometry old new i (node_agrees geometry lost old new i fits first last agrees node) in
    ap (λ form. option_map_or (is_lost_on geometry new lost i) (last_place form b) false) (kept.form)
    ∙ elim (last_place (form_at geometry old i) b) as (λ o. last_place (form_at geometry old i) b ≡ o → option_map_or (is_lost_on geometry old lost i) o false ≡ false
    → option_map_or (is_lost_on geometry new lost i) o false ≡ false) [
      | None ↦ λ e s. refl
      | Some p ↦ λ e s. on_agrees geometry lost old new i p agrees kept (last_leaf (form_at geometry old i) b p e).place s
    ] refl sure

-- a whole file is whole in the other image too
pub whole_agrees : (geometry : Geometry) (lost : List Bool) (old new : List ℕ) (i : ℕ) → Fits geometry old → 1 ≤ i → i ≤ geometry.last_inode
    → AgreesOutside geometry lost old new
    → IsWhole geometry old lost i → IsWhole geometry new lost i
whole_agrees geometry lost old new i fits first last agrees whole = record {
  node = whole.node;
  blocks = λ b low. sure_agrees geometry lost old new i b fits first last agrees whole.node
      (whole.blocks b (subst (λ n. 512 * b < n) (body_size_kept geometry old new i (node_agrees geometry lost old new i fits first last agrees whole.node)) low));
}
