-- Lemmas on files that are the same in two images.
use Rattle.std.proofs.Common.{◌≡◌, ℕ, ◌+◌, ◌*◌, ◌<◌, ◌∙◌, sym, ap, Bool, true, false, List, get_or, refl, not, nat_eq, min}
use Rattle.std.specs.Cmp.Lexicographic.{pointwise, same_text}
use Rattle.pdp_words.specs.Words.{block_of}
use Rattle.vol_layout.specs.Edition.{constants}
use Rattle.vol_layout.specs.Geometry.{Fits}
use Rattle.vol_layout.specs.Inode.{inode_place, inode_of}
use Rattle.vol_layout.specs.BlockPointers.{mode_of}
use Rattle.vol_layout.specs.Body.{body_size}
use Rattle.vol_layout.specs.declared.geometry.Geometry.{Geometry}
use Rattle.vol_layout.specs.declared.i_node.Inode.{Inode}
use Rattle.vol_layout.proofs.InodeLaws.{inode_mode, inode_size, inode_address, form_same}
use Rattle.vol_layout.proofs.FrameLaws.{KeepsPlaces}
use Rattle.vol_layout.proofs.BodyLaws.{get_or-slice_range}
use Rattle.vol_losses.specs.Losses.{AgreesOutside, is_unsure}
use Rattle.vol_losses.proofs.Agreement.{mapped_body}
use Rattle.vol_repair.specs.Kept.{KeepsFile}

-- what is not false is true
not_false : (b : Bool) → not b ≡ false → true ≡ b
not_false true e = refl
not_false false e = let clash : true ≡ false = e in cc

-- a block that is compared and found the same has the same bytes
pub block_same : (old new : List ℕ) (k r : ℕ) (xs ys : List ℕ) → true ≡ pointwise nat_eq xs ys → xs ≡ block_of old k → ys ≡ block_of new k → r < 512
    → get_or new (512 * k + r) 0 ≡ get_or old (512 * k + r) 0
block_same old new k r xs ys found first second low =
    let same : xs ≡ ys = same_text xs ys found in
    sym (get_or-slice_range new (512 * k) 512 r low) ∙ (ap (λ zs. get_or zs r 0) (sym second ∙ (sym same ∙ first)) ∙ get_or-slice_range old (512 * k) 512 r low)

-- a block that two images are found to share has the same bytes in both
pub block_unmarked : (old new : List ℕ) (k r : ℕ) (xs ys : List ℕ) (differs : Bool) → differs ≡ not (pointwise nat_eq xs ys)
    → xs ≡ block_of old k → ys ≡ block_of new k → differs ≡ false → r < 512 → get_or new (512 * k + r) 0 ≡ get_or old (512 * k + r) 0
block_unmarked old new k r xs ys differs told first second equal h =
    block_same old new k r xs ys (not_false (pointwise nat_eq xs ys) (sym told ∙ equal)) first second h

-- the same i-node, but for its link count, has the same block map, addresses and size
kept_places : (geometry : Geometry) (old new : List ℕ) (i : ℕ)
    → record (inode_of geometry.edition new i) { links = (inode_of geometry.edition old i).links } ≡ inode_of geometry.edition old i
    → KeepsPlaces geometry old new i
kept_places geometry old new i same =
    let edition = geometry.edition in
    let at = inode_place edition i in
    let mode : mode_of geometry new i ≡ mode_of geometry old i =
    sym (inode_mode edition new at) ∙ (ap (λ (node : Inode). node.mode.bits) same ∙ inode_mode edition old at) in
    record {
      form = form_same geometry old new i mode;
      addresses = λ k h. sym (inode_address edition new at k h) ∙ (ap (λ (node : Inode). get_or node.addresses k 0) same ∙ inode_address edition old at k h);
    }

-- the same i-node, but for its link count, has a body of the same size
kept_size : (geometry : Geometry) (old new : List ℕ) (i : ℕ)
    → record (inode_of geometry.edition new i) { links = (inode_of geometry.edition old i).links } ≡ inode_of geometry.edition old i
    → body_size geometry new i ≡ body_size geometry old i
kept_size geometry old new i same =
    let edition = geometry.edition in
    let at = inode_place edition i in
    ap (λ n. min n (constants edition).greatest) (sym (inode_size edition new at) ∙ (ap (λ (node : Inode). node.size) same ∙ inode_size edition old at))

-- the same i-node, but for its link count, whose blocks are the same in both images, is of the same file
pub kept_file : (geometry : Geometry) (changed : List Bool) (old new : List ℕ) (i : ℕ) → Fits geometry old → AgreesOutside geometry changed old new
    → record (inode_of geometry.edition new i) { links = (inode_of geometry.edition old i).links } ≡ inode_of geometry.edition old i
    → ((b : ℕ) → 512 * b < body_size geometry old i → is_unsure geometry old changed i b ≡ false) → KeepsFile geometry old new i
kept_file geometry changed old new i fits agrees same sure = record {
  node = same;
  body = mapped_body geometry changed old new i fits agrees (kept_places geometry old new i same) (kept_size geometry old new i same) sure;
}
