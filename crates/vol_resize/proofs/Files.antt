-- Files whose i-nodes and blocks are unchanged.
use Rattle.std.proofs.Common.{◌≡◌, ℕ, ◌*◌, ◌≤◌, ◌∙◌, ap, refl, true, List, ◌∷◌, None, Some}
use Rattle.pdp_words.specs.Words.{long}
use Rattle.vol_layout.specs.Geometry.{Fits, in_zone}
use Rattle.vol_layout.specs.Inode.{inode_of}
use Rattle.vol_layout.specs.BlockPointers.{IsFile, IsPlaceOf, form_at, named, stored}
use Rattle.vol_layout.specs.BlockMaps.{last_place}
use Rattle.vol_layout.specs.Super.{time_place}
use Rattle.vol_layout.specs.declared.geometry.Geometry.{Geometry}
use Rattle.vol_layout.specs.declared.mode.Kind.TheVariants as kinds
use Rattle.vol_layout.proofs.CopyLaws.{IsCopy}
use Rattle.vol_layout.proofs.InodeLaws.{KeepsInode, inode_of_kept, mode_kept, size_kept, body_size_kept}
use Rattle.vol_layout.proofs.FrameLaws.{places_kept, named_frame, stored_kept, body_frame}
use Rattle.vol_layout.proofs.NameLaws.{stored_is, stored_none, zone_some}
use Rattle.vol_layout.proofs.PlaceLaws.{last_leaf, place_front, front_above}
use Rattle.vol_file.specs.Rules.{IsZoned}
use Rattle.vol_dir.specs.Tree.{state, tree}
use Rattle.vol_judge.specs.Graph.{graph_of}
use Rattle.vol_judge.specs.GraphEdits.{IsSameGraph}
use Rattle.vol_judge.proofs.EditedGraphs.{same_graph}
use Rattle.vol_change.specs.Alone.{KeepsContent}
use Rattle.vol_change.specs.Edits.{at_time}
use Rattle.vol_change.proofs.Contents.{kind_same, entry_same, file_by, shape_same, node_same}
use Rattle.vol_change.proofs.States.{makes_time}

-- the data blocks to which the block map of an i-node points are unchanged
abbrev pub KeepsBlocks : Geometry → List ℕ → List ℕ → ℕ → Type 0
KeepsBlocks geometry old new j = (p : List ℕ) → IsPlaceOf geometry old j p → in_zone geometry (named geometry old j p) ≡ true
    → IsCopy old new (512 * named geometry old j p) (512 * named geometry old j p) 512

-- each data block that holds a logical block of a file is unchanged
stored_block : (geometry : Geometry) (old new : List ℕ) (j b : ℕ) → IsFile geometry old j
    → in_zone geometry (stored geometry old j (form_at geometry old j) b) ≡ true → Fits geometry old → KeepsBlocks geometry old new j
    → IsCopy old new (512 * stored geometry old j (form_at geometry old j) b) (512 * stored geometry old j (form_at geometry old j) b) 512
stored_block geometry old new j b file zone fits blocks =
    elim (last_place (form_at geometry old j) b) as (λ o. last_place (form_at geometry old j) b ≡ o
    → IsCopy old new (512 * stored geometry old j (form_at geometry old j) b) (512 * stored geometry old j (form_at geometry old j) b) 512) [
      | None ↦ λ e. absurd (zone_some geometry old (stored geometry old j (form_at geometry old j) b) fits zone (stored_none geometry old j (form_at geometry old j) b e))
      | Some p ↦ λ e.
          let same : stored geometry old j (form_at geometry old j) b ≡ named geometry old j p = stored_is geometry old j (form_at geometry old j) b p e in
          let here = rw same at zone in
          rw same (blocks p (record { file = file; place = (last_leaf (form_at geometry old j) b p e).place }) here)
    ] refl

-- the content of an i-node is unchanged if the i-node and its blocks are
pub content_by : (geometry : Geometry) (old new : List ℕ) (j : ℕ) → Fits geometry old → KeepsInode geometry old new j
    → KeepsBlocks geometry old new j → IsZoned geometry old → KeepsContent geometry old new j
content_by geometry old new j fits kept blocks zoned =
    let places = places_kept geometry old new j kept in
    record {
      mode = mode_kept geometry old new j kept;
      size = size_kept geometry old new j kept;
      addresses = ap (λ node. node.addresses) (inode_of_kept geometry old new j kept);
      bytes = λ file.
          body_frame geometry old new j places (body_size_kept geometry old new j kept)
          (λ b low. stored_kept geometry old new j (form_at geometry old j) b
          (λ p e.
          let leaf = last_leaf (form_at geometry old j) b p e in
          named_frame geometry old new j p places leaf.place
          (λ k a q front zone. blocks (a ∷ q)
          (record { file = file; place = place_front (form_at geometry old j) p (a ∷ q) leaf.place (front_above p q k a front) }) zone)))
          (λ b low zone. stored_block geometry old new j b file zone fits blocks);
      names = λ p place. named_frame geometry old new j p places place.place
          (λ k a q front zone. blocks (a ∷ q)
          (record { file = place.file; place = place_front (form_at geometry old j) p (a ∷ q) place.place (front_above p q k a front) }) zone);
      blocks = λ p r place some h. (blocks p place (zoned j p place some)).bytes r h;
    }

-- setting the time of an image's state to the time in its super-block changes nothing
at_own_time : (geometry : Geometry) (image : List ℕ) → at_time (long image (time_place geometry.edition)) (state geometry image) ≡ state geometry image
unfolding tree
at_own_time geometry image = refl

-- each i-node and its content are unchanged
pub record KeepsFiles (geometry : Geometry) (old new : List ℕ) : Type 0 where
  pub inode : (j : ℕ) → 1 ≤ j → j ≤ geometry.last_inode → inode_of geometry.edition new j ≡ inode_of geometry.edition old j
  pub content : (j : ℕ) → 1 ≤ j → j ≤ geometry.last_inode → KeepsContent geometry old new j

-- the tree and the shapes are unchanged if the files and the time are
pub state_by : (geometry : Geometry) (old new : List ℕ) → KeepsFiles geometry old new
    → long new (time_place geometry.edition) ≡ long old (time_place geometry.edition) → state geometry new ≡ state geometry old
state_by geometry old new files time =
    makes_time geometry old new (long old (time_place geometry.edition)) time
    (λ j first last. (
      node_same geometry old new j (files.content j first last) first last (files.inode j first last),
      shape_same geometry old new j (files.content j first last) first last,
    ))
    ∙ at_own_time geometry old

-- the graph of directories is unchanged if the files are
pub graph_by : (geometry : Geometry) (old new : List ℕ) → KeepsFiles geometry old new → IsSameGraph (graph_of geometry old) (graph_of geometry new)
graph_by geometry old new files =
    same_graph geometry old new (λ x first last. kind_same geometry old new x (files.content x first last))
    (λ x first last. ap (λ node. node.links) (files.inode x first last))
    (λ x is. (files.content x is.first is.last).size)
    (λ x s is. entry_same geometry old new x s (files.content x is.first is.last) (file_by geometry old x kinds.Directory is.first is.last is.kind refl))
