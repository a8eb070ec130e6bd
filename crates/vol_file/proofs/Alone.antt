-- Other files are unchanged if only the bytes of one file change.
use Rattle.std.proofs.Common.{◌≡◌, ◌≢◌, ℕ, ◌+◌, ◌*◌, ◌<◌, ◌≤◌, ◌∙◌, sym, subst, List, ◌∷◌, length, refl, arith, inl, inr, Some, None, true}
use Rattle.std.specs.Option.{option_map_or}
use Rattle.std.proofs.lemmas.Bool.{cases_lt}
use Rattle.vol_layout.specs.Edition.{constants}
use Rattle.vol_layout.specs.Geometry.{in_zone, Fits}
use Rattle.vol_layout.specs.Inode.{inode_place}
use Rattle.vol_layout.specs.BlockMaps.{IsPlace, last_place}
use Rattle.vol_layout.specs.BlockPointers.{form_at, IsFile, IsPlaceOf, named, stored, NamesBlock}
use Rattle.vol_layout.specs.Body.{body}
use Rattle.vol_layout.specs.declared.geometry.Geometry.{Geometry}
use Rattle.vol_layout.proofs.CopyLaws.{IsCopy}
use Rattle.vol_layout.proofs.InodeLaws.{body_size_kept, KeepsInode, place_apart, place_room, form_kept, file_kept}
use Rattle.vol_layout.proofs.PlaceLaws.{place_front, last_leaf}
use Rattle.vol_layout.proofs.NameLaws.{zone_some, named_holds, holds_named}
use Rattle.vol_layout.proofs.FrameLaws.{named_frame, places_kept, stored_kept, body_frame}
use Rattle.vol_free.specs.Stack.{IsIn}
use Rattle.vol_file.specs.Changes.{StaysElsewhere, ChangesFileAlone, KeepsBlocks}

-- a geometry that fits an image also fits another image of the same length
pub fits_len : (geometry : Geometry) (old new : List ℕ) → length new ≡ length old → Fits geometry old → Fits geometry new
fits_len geometry old new len fits =
    record { blocks = omega (arith, fits.blocks); i_list = fits.i_list; zone = fits.zone; root = fits.root; limit = fits.limit }

-- bytes that are the same in two images are the same in either order
pub copy_back : (old new : List ℕ) (at size : ℕ) → IsCopy old new at at size → IsCopy new old at at size
copy_back old new at size copy = record { bytes = λ r h. sym (copy.bytes r h) }

-- an i-node with the same bytes has the same positions in its block map
pub place_kept : (geometry : Geometry) (old new : List ℕ) (j : ℕ) (p : List ℕ) → KeepsInode geometry old new j → IsPlaceOf geometry old j p
    → IsPlaceOf geometry new j p
place_kept geometry old new j p kept place = record {
  file = file_kept geometry old new j kept place.file;
  place = subst (λ form. IsPlace form p) (sym (form_kept geometry old new j kept)) place.place;
}

-- a position in the block map that holds the number of a data block points to it by the step-by-step rules
pub names_zone : (geometry : Geometry) (image : List ℕ) (j : ℕ) (p : List ℕ) → Fits geometry image → IsPlaceOf geometry image j p
    → in_zone geometry (named geometry image j p) ≡ true → NamesBlock geometry image j p (named geometry image j p)
names_zone geometry image j p fits place zone = record {
  place = place;
  holds = named_holds geometry image j p (named geometry image j p) fits refl (zone_some geometry image (named geometry image j p) fits zone);
}

-- a change of file `i` does not change another i-node
pub elsewhere_inode : (geometry : Geometry) (old new : List ℕ) (i j : ℕ) → Fits geometry old → StaysElsewhere geometry old new i
    → 1 ≤ i → 1 ≤ j → j ≤ geometry.last_inode → j ≢ i → KeepsInode geometry old new j
elsewhere_inode geometry old new i j fits stays one first last other =
    let room = place_room geometry old j fits first last in
    elim (cases_lt j i) [
      | inl less ↦
          let apart = place_apart geometry.edition j i first less in
          record { bytes = λ r h. stays.lower_inodes (inode_place geometry.edition j + r) (omega arith) (omega arith) }
      | inr more ↦
          let less : i < j = omega arith in
          let apart = place_apart geometry.edition i j one less in
          record { bytes = λ r h. stays.higher_inodes (inode_place geometry.edition j + r) (omega arith) (omega arith) }
    ]

-- a change of file `i` keeps the positions in another file's block map
pub elsewhere_place : (geometry : Geometry) (old new : List ℕ) (i j : ℕ) (p : List ℕ) → Fits geometry old → StaysElsewhere geometry old new i
    → 1 ≤ i → j ≢ i → IsPlaceOf geometry old j p → IsPlaceOf geometry new j p
elsewhere_place geometry old new i j p fits stays one other place =
    place_kept geometry old new j p (elsewhere_inode geometry old new i j fits stays one place.file.first place.file.last other) place

-- a change of file `i` adds no position to another file's block map
pub elsewhere_before : (geometry : Geometry) (old new : List ℕ) (i j : ℕ) (p : List ℕ) → Fits geometry old → StaysElsewhere geometry old new i
    → 1 ≤ i → j ≢ i → IsPlaceOf geometry new j p → IsPlaceOf geometry old j p
elsewhere_before geometry old new i j p fits stays one other place =
    let kept = elsewhere_inode geometry old new i j fits stays one place.file.first place.file.last other in
    place_kept geometry new old j p
    (copy_back old new (inode_place geometry.edition j) (constants geometry.edition).inode_bytes kept) place

-- a change of file `i` does not change the block numbers in another file's block map
pub elsewhere_named : (geometry : Geometry) (old new : List ℕ) (i j : ℕ) (p : List ℕ) → Fits geometry old → StaysElsewhere geometry old new i
    → 1 ≤ i → j ≢ i → IsPlaceOf geometry old j p → named geometry new j p ≡ named geometry old j p
elsewhere_named geometry old new i j p fits stays one other place =
    let kept = elsewhere_inode geometry old new i j fits stays one place.file.first place.file.last other in
    named_frame geometry old new j p (places_kept geometry old new j kept) place.place
    (λ x a q front zone.
    let here : IsPlace (form_at geometry old j) (x ∷ (a ∷ q)) = place_front (form_at geometry old j) p (x ∷ (a ∷ q)) place.place front in
    let above : IsPlaceOf geometry old j (a ∷ q) = record { file = place.file; place = here.2 } in
    record { bytes = λ r h. stays.blocks j (a ∷ q) (named geometry old j (a ∷ q)) r other (names_zone geometry old j (a ∷ q) fits above zone) h })

-- a change of file `i` does not change the data blocks of another file
pub elsewhere_stored : (geometry : Geometry) (old new : List ℕ) (i j b : ℕ) → Fits geometry old → StaysElsewhere geometry old new i
    → j ≢ i → IsFile geometry old j → in_zone geometry (stored geometry old j (form_at geometry old j) b) ≡ true
    → IsCopy old new (512 * stored geometry old j (form_at geometry old j) b) (512 * stored geometry old j (form_at geometry old j) b) 512
elsewhere_stored geometry old new i j b fits stays other file =
    elim (last_place (form_at geometry old j) b) as (λ o. last_place (form_at geometry old j) b ≡ o
    → in_zone geometry (option_map_or (named geometry old j) o 0) ≡ true
    → IsCopy old new (512 * option_map_or (named geometry old j) o 0) (512 * option_map_or (named geometry old j) o 0) 512) [
      | None ↦ λ e zone. absurd (zone_some geometry old 0 fits zone refl)
      | Some p ↦ λ e zone.
          let place : IsPlaceOf geometry old j p = record { file = file; place = (last_leaf (form_at geometry old j) b p e).place } in
          record { bytes = λ r h. stays.blocks j p (named geometry old j p) r other (names_zone geometry old j p fits place zone) h }
    ] refl

-- a change of file `i` does not change the body of another file
pub elsewhere_body : (geometry : Geometry) (old new : List ℕ) (i j : ℕ) → Fits geometry old → StaysElsewhere geometry old new i
    → 1 ≤ i → j ≢ i → IsFile geometry old j → body geometry new j ≡ body geometry old j
elsewhere_body geometry old new i j fits stays one other file =
    let kept = elsewhere_inode geometry old new i j fits stays one file.first file.last other in
    body_frame geometry old new j (places_kept geometry old new j kept) (body_size_kept geometry old new j kept)
    (λ b low. stored_kept geometry old new j (form_at geometry old j) b
    (λ p e. elsewhere_named geometry old new i j p fits stays one other
    (record { file = file; place = (last_leaf (form_at geometry old j) b p e).place })))
    (λ b low zone. elsewhere_stored geometry old new i j b fits stays other file zone)

-- an unchanged image is a change of file `i` that affects no other file
pub elsewhere_self : (geometry : Geometry) (image : List ℕ) (i : ℕ) → StaysElsewhere geometry image image i
elsewhere_self geometry image i = record {
  len = refl;
  before = λ k h. refl;
  super_block = λ k h l. refl;
  lower_inodes = λ k h l. refl;
  higher_inodes = λ k h l. refl;
  inode = λ r h. refl;
  blocks = λ j p k r other names h. refl;
  behind = λ k h. refl;
}

-- a change of file `i` does not change the blocks to which another file points
pub elsewhere_names : (geometry : Geometry) (old new : List ℕ) (i j : ℕ) (p : List ℕ) (k : ℕ) → Fits geometry old → StaysElsewhere geometry old new i
    → 1 ≤ i → j ≢ i → NamesBlock geometry old j p k → NamesBlock geometry new j p k
elsewhere_names geometry old new i j p k fits stays one other names =
    let held = holds_named geometry old j p k names.holds in
    record {
      place = elsewhere_place geometry old new i j p fits stays one other names.place;
      holds = named_holds geometry new j p k (fits_len geometry old new stays.len fits)
          (elsewhere_named geometry old new i j p fits stays one other names.place ∙ held.0) held.1;
    }

-- two successive changes of file `i` are a change of file `i`
pub elsewhere_then : (geometry : Geometry) (old mid new : List ℕ) (i : ℕ) → Fits geometry old → 1 ≤ i
    → StaysElsewhere geometry old mid i → StaysElsewhere geometry mid new i → StaysElsewhere geometry old new i
elsewhere_then geometry old mid new i fits one s t = record {
  len = t.len ∙ s.len;
  before = λ k h. t.before k h ∙ s.before k h;
  super_block = λ k h l. t.super_block k h l ∙ s.super_block k h l;
  lower_inodes = λ k h l. t.lower_inodes k h l ∙ s.lower_inodes k h l;
  higher_inodes = λ k h l. t.higher_inodes k h l ∙ s.higher_inodes k h l;
  inode = λ r h. t.inode r h ∙ s.inode r h;
  blocks = λ j p k r other names h.
      t.blocks j p k r other (elsewhere_names geometry old mid i j p k fits s one other names) h ∙ s.blocks j p k r other names h;
  behind = λ k h. t.behind k h ∙ s.behind k h;
}

-- if only the bytes of file `i` and the free list change, the block maps and bodies of the other files stay the same
pub elsewhere_changes : (geometry : Geometry) (old new : List ℕ) (i : ℕ) → Fits geometry old → 1 ≤ i → StaysElsewhere geometry old new i
    → ChangesFileAlone geometry old new i
elsewhere_changes geometry old new i fits one s = record {
  elsewhere = s;
  places = λ j p other place. elsewhere_named geometry old new i j p fits s one other place;
  bodies = λ j other file. elsewhere_body geometry old new i j fits s one other file;
}

-- if two successive changes leave blocks unchanged, both together do
pub keeps_then : (old mid new blocks rest : List ℕ) → ((k : ℕ) → IsIn k rest → IsIn k blocks) → KeepsBlocks old mid blocks → KeepsBlocks mid new rest
    → KeepsBlocks old new rest
keeps_then old mid new blocks rest less first second k r within low = second k r within low ∙ first k r (less k within) low
