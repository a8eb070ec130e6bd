-- Changes of only one node: two such changes in a row, and the other nodes, which don't change.
use Rattle.std.proofs.Common.{◌≡◌, ◌≢◌, ◌∙◌, sym, ap, subst, refl, ℕ, ◌+◌, ◌*◌, ◌≤◌, List, slice_index, Option, None, Some, inr, arith}
use Rattle.pdp_words.specs.Words.{long, SameOutside}
use Rattle.vol_layout.specs.Edition.{constants}
use Rattle.vol_layout.specs.Geometry.{Fits}
use Rattle.vol_layout.specs.Inode.{inode_place}
use Rattle.vol_layout.specs.BlockPointers.{named}
use Rattle.vol_layout.specs.BlockMaps.{has_places}
use Rattle.vol_layout.specs.Super.{free_head, cache_head, time_place}
use Rattle.vol_layout.specs.declared.geometry.Geometry.{Geometry}
use Rattle.vol_layout.specs.declared.mode.Kind.TheVariants as kinds
use Rattle.vol_layout.proofs.NameLaws.{named_holds}
use Rattle.vol_layout.proofs.CopyLaws.{IsCopy, copy_above, copy_below, long_copied}
use Rattle.vol_layout.proofs.InodeLaws.{KeepsInode, inode_apart, mode_kept, size_kept, inode_of_kept, place_from, place_room}
use Rattle.std.specs.Prelude.{IfSome}
use Rattle.vol_free.specs.Numbers.{IsFreeNumber}
use Rattle.vol_free.proofs.Frames.{IsFree-behind, free_from}
use Rattle.vol_file.specs.Changes.{ChangesFileAlone, spliced}
use Rattle.vol_file.proofs.Alone.{elsewhere_inode}
use Rattle.vol_file.proofs.StoredNames.{place_same}
use Rattle.vol_dir.specs.Entries.{IsDirectory, entry_at}
use Rattle.vol_dir.specs.Tree.{Node, Shape, node_of, tree, state}
use Rattle.vol_judge.specs.Graph.{graph_of}
use Rattle.vol_judge.specs.GraphEdits.{IsSameGraph, KeepsOthers}
use Rattle.vol_judge.proofs.EditedGraphs.{same_graph, keeps_others}
use Rattle.vol_judge.proofs.ImageGraphs.{inside_from}
use Rattle.vol_layout.specs.Body.{body}
use Rattle.vol_change.specs.Changed.{PutsInBody}
use Rattle.vol_change.specs.Alone.{KeepsContent, KeepsNode, ChangesOnly}
use Rattle.vol_change.specs.Edits.{put_node, put_shape}
use Rattle.vol_change.specs.Whole.{Rules3To8, Keeps, StaysAround}
use Rattle.vol_change.proofs.Contents.{kind_same, entry_same, shape_same, node_same}
use Rattle.vol_change.proofs.ListWrites.{content_kept}
use Rattle.vol_change.proofs.States.{shape_at, makes_both, makes_time}
use Rattle.vol_layout.proofs.EditionLaws.{super_order}
use Rattle.vol_change.proofs.WholeLaws.{around_then, around_list, whole_kept, zone_behind}

-- if neither of two changes changes the content of an i-node, both together don't
pub content_then : (geometry : Geometry) (old mid new : List ℕ) (j : ℕ) → KeepsContent geometry old mid j → KeepsContent geometry mid new j
    → KeepsContent geometry old new j
content_then geometry old mid new j a b = record {
  mode = b.mode ∙ a.mode;
  size = b.size ∙ a.size;
  addresses = b.addresses ∙ a.addresses;
  bytes = λ file.
      b.bytes (record { first = file.first; last = file.last; kind = ap has_places (kind_same geometry old mid j a) ∙ file.kind })
      ∙ a.bytes file;
  names = λ p place. b.names p (place_same geometry old mid j p a.mode place) ∙ a.names p place;
  blocks = λ p r place some h.
      let same = a.names p place in
      subst (λ k. slice_index new (512 * k + r) ≡ slice_index mid (512 * k + r)) same
      (b.blocks p r (place_same geometry old mid j p a.mode place) (λ zero. some (sym same ∙ zero)) h)
      ∙ a.blocks p r place some h;
}

-- a directory whose content doesn't change is still a directory
pub directory_stays : (geometry : Geometry) (old new : List ℕ) (d : ℕ) → KeepsContent geometry old new d → IsDirectory geometry old d
    → IsDirectory geometry new d
directory_stays geometry old new d kept is = record { first = is.first; last = is.last; kind = kind_same geometry old new d kept ∙ is.kind }

-- a directory whose content doesn't change keeps its bytes
pub bytes_stay : (geometry : Geometry) (old new : List ℕ) (d : ℕ) → KeepsContent geometry old new d → IsDirectory geometry old d
    → body geometry new d ≡ body geometry old d
bytes_stay geometry old new d kept is = kept.bytes (record { first = is.first; last = is.last; kind = ap has_places is.kind })

-- if a text is put into a directory's bytes between two changes that keep its content, the whole change only puts the text
pub bytes_put : (geometry : Geometry) (old mid low new : List ℕ) (d at : ℕ) (text : List ℕ) → KeepsContent geometry old mid d
    → IsDirectory geometry old d → PutsInBody geometry mid low d at text → KeepsContent geometry low new d → IsDirectory geometry low d
    → PutsInBody geometry old new d at text
bytes_put geometry old mid low new d at text before is puts after still =
    bytes_stay geometry low new d after still ∙ (puts ∙ ap (λ xs. spliced xs at text) (bytes_stay geometry old mid d before is))

-- without any change, no content changes
pub content_refl : (geometry : Geometry) (image : List ℕ) (j : ℕ) → KeepsContent geometry image image j
content_refl geometry image j = record {
  mode = refl;
  size = refl;
  addresses = refl;
  bytes = λ file. refl;
  names = λ p place. refl;
  blocks = λ p r place some h. refl;
}

-- if neither of two changes changes a node, both together don't
node_then : (geometry : Geometry) (old mid new : List ℕ) (j : ℕ) → KeepsNode geometry old mid j → KeepsNode geometry mid new j
    → KeepsNode geometry old new j
node_then geometry old mid new j a b = record {
  content = content_then geometry old mid new j a.content b.content;
  inode = b.inode ∙ a.inode;
}

-- two changes of only node i are together a change of only node i
pub only_then : (geometry : Geometry) (old mid new : List ℕ) (i : ℕ) → ChangesOnly geometry old mid i → ChangesOnly geometry mid new i
    → ChangesOnly geometry old new i
only_then geometry old mid new i a b = record {
  around = around_then geometry old mid new a.around b.around;
  time = b.time ∙ a.time;
  others = λ j first last other. node_then geometry old mid new j (a.others j first last other) (b.others j first last other);
}

-- a write of i-node i changes only node i
pub only_inode : (geometry : Geometry) (old new : List ℕ) (i : ℕ) → Rules3To8 geometry old → 1 ≤ i → i ≤ geometry.last_inode
    → SameOutside old new (inode_place geometry.edition i) (inode_place geometry.edition i + (constants geometry.edition).inode_bytes)
    → ChangesOnly geometry old new i
only_inode geometry old new i rules first last same =
    let from = inode_place geometry.edition i in
    let to = inode_place geometry.edition i + (constants geometry.edition).inode_bytes in
    let room = place_room geometry old i rules.sound.fits first last in
    let start = place_from geometry.edition i in
    let order = super_order geometry.edition in
    record {
      around = around_list geometry old new from to rules.sound.fits same start room;
      time = long_copied old new (time_place geometry.edition) (time_place geometry.edition) 4 0 (time_place geometry.edition) (time_place geometry.edition)
          (copy_below old new from to (time_place geometry.edition) 4 same (omega (arith, start, order))) (omega arith) (omega arith) (omega arith);
      others = λ j low high other.
          let kept = inode_apart geometry old new i j first low other same in
          record { content = content_kept geometry old new from to j rules.sound.zoned same room kept; inode = inode_of_kept geometry old new j kept };
    }

-- a change of file i changes no bytes of another i-node
pub alone_inode : (geometry : Geometry) (old new : List ℕ) (i j : ℕ) → Fits geometry old → ChangesFileAlone geometry old new i → 1 ≤ i → 1 ≤ j
    → j ≤ geometry.last_inode → j ≢ i → KeepsInode geometry old new j
alone_inode geometry old new i j fits alone first low high other =
    elsewhere_inode geometry old new i j fits alone.elsewhere first low high other

-- a change of a file doesn't change the super-block's time
pub alone_time : (geometry : Geometry) (old new : List ℕ) (i : ℕ) → ChangesFileAlone geometry old new i
    → long new (time_place geometry.edition) ≡ long old (time_place geometry.edition)
alone_time geometry old new i alone =
    let order = super_order geometry.edition in
    let at = time_place geometry.edition in
    let copy : IsCopy old new at at 4 = record { bytes = λ r h. alone.elsewhere.super_block (at + r) (omega (arith, order)) (omega (arith, order, h)) } in
    long_copied old new at at 4 0 at at copy (omega arith) (omega arith) (omega arith)

-- a change of a file doesn't change the bytes that no call changes
pub alone_around : (geometry : Geometry) (old new : List ℕ) (i : ℕ) → ChangesFileAlone geometry old new i → StaysAround geometry old new
alone_around geometry old new i alone =
    let order = super_order geometry.edition in
    record {
      len = alone.elsewhere.len;
      before = alone.elsewhere.before;
      flags = λ k low high. alone.elsewhere.super_block k (omega arith) (omega (arith, order));
      rest = λ k low high. alone.elsewhere.super_block k (omega (arith, order)) high;
      behind = alone.elsewhere.behind;
    }

-- a change of file i changes only node i
pub only_file : (geometry : Geometry) (old new : List ℕ) (i : ℕ) → Fits geometry old → ChangesFileAlone geometry old new i → 1 ≤ i
    → ChangesOnly geometry old new i
only_file geometry old new i fits alone first = record {
  around = alone_around geometry old new i alone;
  time = alone_time geometry old new i alone;
  others = λ j low high other.
      let kept = alone_inode geometry old new i j fits alone first low high other in
      record {
        content = record {
          mode = mode_kept geometry old new j kept;
          size = size_kept geometry old new j kept;
          addresses = ap (λ node. node.addresses) (inode_of_kept geometry old new j kept);
          bytes = λ file. alone.bodies j other file;
          names = λ p place. alone.places j p other place;
          blocks = λ p r place some h.
              alone.elsewhere.blocks j p (named geometry old j p) r other
              (record { place = place; holds = named_holds geometry old j p (named geometry old j p) fits refl some }) h;
        };
        inode = inode_of_kept geometry old new j kept;
      };
}

-- a change of only node i replaces its node and its shape in the state
pub only_makes : (geometry : Geometry) (old new : List ℕ) (i : ℕ) (node : Option Node) (shape : Shape) → 1 ≤ i → i ≤ geometry.last_inode
    → ChangesOnly geometry old new i → node_of geometry new i ≡ node → shape_at geometry new i ≡ shape
    → state geometry new ≡ put_shape i shape (put_node i node (state geometry old))
only_makes geometry old new i node shape first last only is places =
    makes_both geometry old new i node shape (record {
      first = first;
      last = last;
      time = only.time;
      others = λ j low high other.
          let kept = only.others j low high other in
          (node_same geometry old new j kept.content low high kept.inode, shape_same geometry old new j kept.content low high);
      here = is;
      places = places;
    })

-- if the content of a directory doesn't change, neither do its entries
pub entry_stays : (geometry : Geometry) (old new : List ℕ) (x s : ℕ) → KeepsContent geometry old new x → IsDirectory geometry old x
    → entry_at geometry new x s ≡ entry_at geometry old x s
entry_stays geometry old new x s kept is =
    entry_same geometry old new x s kept (record { first = is.first; last = is.last; kind = ap has_places is.kind })

-- a change of only node i changes nothing else in the graph
pub only_graph : (geometry : Geometry) (old new : List ℕ) (i : ℕ) → ChangesOnly geometry old new i
    → KeepsOthers (graph_of geometry old) (graph_of geometry new) i i
only_graph geometry old new i only =
    keeps_others geometry old new i i (λ x first last other. kind_same geometry old new x (only.others x first last other).content)
    (λ x is other too. (only.others x is.first is.last other).content.size)
    (λ x t is other too. entry_stays geometry old new x t (only.others x is.first is.last other).content is)

-- a change of only node i changes no other link count in the graph
pub only_links : (geometry : Geometry) (old new : List ℕ) (i x : ℕ) → ChangesOnly geometry old new i → x ≢ i
    → (graph_of geometry old).kind x ≢ kinds.Free → (graph_of geometry new).links x ≡ (graph_of geometry old).links x
only_links geometry old new i x only other used =
    let inside = inside_from geometry old x used in
    ap (λ node. node.links) (only.others x inside.0 inside.1 other).inode

module _ (geometry : Geometry) (old new : List ℕ) (rules : Rules3To8 geometry old)
    (same : SameOutside old new (cache_head geometry.edition) (cache_head geometry.edition + 202)) where
  -- the cache is after the free list, and before the time and the i-nodes
  cache_order : (free_head geometry.edition + 202 ≡ cache_head geometry.edition) × (cache_head geometry.edition + 202 ≤ time_place geometry.edition)
      × (time_place geometry.edition + 4 ≤ 1024)
  cache_order = let order = super_order geometry.edition in (order.0, omega (arith, order), order.3)

  -- a write of the i-number cache changes no node
  pub cache_node : (j : ℕ) → KeepsNode geometry old new j
  cache_node j =
      let start = place_from geometry.edition j in
      let behind = zone_behind geometry old rules.sound.fits in
      let kept = copy_above old new (cache_head geometry.edition) (cache_head geometry.edition + 202) (inode_place geometry.edition j)
      (constants geometry.edition).inode_bytes same (omega (arith, start, cache_order)) in
      record {
        content = content_kept geometry old new (cache_head geometry.edition) (cache_head geometry.edition + 202) j rules.sound.zoned same (omega (arith, behind, cache_order)) kept;
        inode = inode_of_kept geometry old new j kept;
      }

  -- a write of the i-number cache changes neither the bytes that no call changes nor the time
  pub cache_only : (i : ℕ) → ChangesOnly geometry old new i
  cache_only i =
      let behind = zone_behind geometry old rules.sound.fits in
      record {
        around = record {
          len = same.len;
          before = λ k h. same.below k (omega (arith, cache_order));
          flags = λ k a b. same.above k (omega (arith, cache_order));
          rest = λ k a b. same.above k (omega (arith, cache_order));
          behind = λ k h. same.above k (omega (arith, cache_order, behind, rules.sound.fits.zone));
        };
        time = long_copied old new (time_place geometry.edition) (time_place geometry.edition) 4 0 (time_place geometry.edition) (time_place geometry.edition)
            (copy_above old new (cache_head geometry.edition) (cache_head geometry.edition + 202) (time_place geometry.edition) 4 same (omega (arith, cache_order)))
            (omega arith) (omega arith) (omega arith);
        others = λ j first last other. cache_node j;
      }

  -- a write of the i-number cache keeps rules 3 to 8
  pub cache_keeps : Keeps geometry old new
  cache_keeps =
      let behind = zone_behind geometry old rules.sound.fits in
      record {
        rules = whole_kept geometry old new same.len (λ j first last. (cache_node j).content)
            (λ j first last used. rw (cache_node j).inode (rules.sound.sizes.links j first last used))
            (λ blocks free. IsFree-behind same (omega (arith, cache_order)) (λ b is. inr (omega (arith, free_from free b is, behind, cache_order))) free) rules;
        around = (cache_only 0).around;
      }

  -- a write of the i-number cache doesn't change the state
  pub cache_makes : state geometry new ≡ state geometry old
  unfolding tree
  cache_makes =
      makes_time geometry old new (long old (time_place geometry.edition)) (cache_only 0).time
      (λ j first last.
      (node_same geometry old new j (cache_node j).content first last (cache_node j).inode, shape_same geometry old new j (cache_node j).content first last))

  -- a write of the i-number cache doesn't change the graph
  pub cache_graph : IsSameGraph (graph_of geometry old) (graph_of geometry new)
  cache_graph =
      same_graph geometry old new (λ x first last. kind_same geometry old new x (cache_node x).content)
      (λ x first last. ap (λ node. node.links) (cache_node x).inode) (λ x is. (cache_node x).content.size)
      (λ x t is. entry_stays geometry old new x t (cache_node x).content is)

  -- a free i-number is still free after a write of the i-number cache
  pub cache_free : (i : ℕ) → IsFreeNumber geometry old i → IsFreeNumber geometry new i
  cache_free i free = record { above = free.above; within = free.within; mode = (cache_node i).content.mode ∙ free.mode }

  -- a taken i-number that was free is still free after a write of the i-number cache
  pub cache_taken : (taken : Option ℕ) → IfSome taken (λ i. IsFreeNumber geometry old i) → IfSome taken (λ i. IsFreeNumber geometry new i)
  cache_taken None free = free
  cache_taken (Some i) free = cache_free i free
