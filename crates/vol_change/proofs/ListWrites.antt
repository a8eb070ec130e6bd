-- The nodes after a write before the data zone: of the super-block's time, or of an i-node.
use Rattle.std.proofs.Common.{◌≡◌, ◌≢◌, ◌∙◌, sym, ap, refl, ℕ, ◌+◌, ◌*◌, ◌/◌, ◌≤◌, List, Option, None, Some, get_or, min, inl, inr, arith}
use Rattle.std.specs.Option.{option_map}
use Rattle.std.proofs.lemmas.Bool.{cases_eq}
use Rattle.pdp_words.specs.Words.{long, SameOutside}
use Rattle.vol_layout.specs.Edition.{constants}
use Rattle.vol_layout.specs.Inode.{inode_of, inode_place, kind_of}
use Rattle.vol_layout.specs.BlockPointers.{form_at, mode_of, named}
use Rattle.vol_layout.specs.BlockMaps.{has_places}
use Rattle.vol_layout.specs.Super.{time_place}
use Rattle.vol_layout.specs.declared.geometry.Geometry.{Geometry}
use Rattle.vol_layout.specs.declared.i_node.Inode.{Inode}
use Rattle.vol_layout.proofs.CopyLaws.{copy_above, copy_below, long_copied}
use Rattle.vol_layout.proofs.InodeLaws.{KeepsInode, inode_apart, inode_mode, inode_size, inode_address, mode_kept, size_kept, inode_of_kept, place_from, place_room}
use Rattle.vol_layout.proofs.FrameLaws.{KeepsPlaces, named_list_kept, body_byte_list_kept}
use Rattle.vol_layout.proofs.BodyLaws.{same_body, zone_bounds}
use Rattle.vol_free.proofs.Frames.{IsFree-before_zone}
use Rattle.vol_file.specs.Rules.{size_of, kind_at, IsZoned}
use Rattle.vol_dir.specs.Entries.{IsDirectory, entry_at}
use Rattle.vol_dir.specs.Tree.{Content, Node, node_with, node_of, content_of, state}
use Rattle.vol_judge.specs.Graph.{graph_of}
use Rattle.vol_judge.specs.GraphEdits.{IsSameGraph}
use Rattle.vol_judge.proofs.EditedGraphs.{same_graph, kind_kept, entry_kept}
use Rattle.vol_judge.proofs.ImageGraphs.{directory_from, inside_from}
use Rattle.vol_change.specs.Edits.{at_time, change_node}
use Rattle.vol_change.specs.NodeGraphs.{SetsLinks}
use Rattle.vol_change.specs.Alone.{KeepsContent}
use Rattle.vol_change.specs.Changed.{KeepsStored}
use Rattle.vol_change.specs.Whole.{Rules3To8, Keeps}
use Rattle.vol_change.proofs.Contents.{KeepsReading, reading, form_by, form_reads, kind_same, entry_reads, shape_reads, shape_same, node_same, node_of_reading}
use Rattle.vol_dir.proofs.WalkLaws.{node_inside}
use Rattle.vol_change.proofs.States.{makes_node, makes_time}
use Rattle.vol_layout.proofs.EditionLaws.{super_order}
use Rattle.vol_change.proofs.WholeLaws.{whole_kept, whole_reading, around_list, zone_behind, place_before}

-- if the block map and the addresses of i-node i don't change, neither does the address at any position
places_by : (geometry : Geometry) (old new : List ℕ) (i : ℕ) → form_at geometry new i ≡ form_at geometry old i
    → (inode_of geometry.edition new i).addresses ≡ (inode_of geometry.edition old i).addresses → KeepsPlaces geometry old new i
places_by geometry old new i form addresses = record {
  form = form;
  addresses = λ k h.
      sym (inode_address geometry.edition new (inode_place geometry.edition i) k h)
      ∙ (ap (λ xs. get_or xs k 0) addresses ∙ inode_address geometry.edition old (inode_place geometry.edition i) k h);
}

-- after a write before the data zone, i-node i reads as before if its kind, its mode bits above the permissions, its size and its addresses don't
-- change
reading_fields : (geometry : Geometry) (old new : List ℕ) (from to i : ℕ) → SameOutside old new from to → to ≤ 512 * geometry.zone_start
    → kind_at geometry new i ≡ kind_at geometry old i → mode_of geometry new i / 4096 ≡ mode_of geometry old i / 4096
    → size_of geometry new i ≡ size_of geometry old i
    → (inode_of geometry.edition new i).addresses ≡ (inode_of geometry.edition old i).addresses → KeepsReading geometry old new i
reading_fields geometry old new from to i same below kind type size addresses =
    let places = places_by geometry old new i (form_by geometry.edition (mode_of geometry new i) (mode_of geometry old i) kind type) addresses in
    record {
      kind = kind;
      type = type;
      size = size;
      addresses = addresses;
      bytes = λ file. same_body geometry old new i (ap (λ n. min n (constants geometry.edition).greatest) size)
          (λ n h. body_byte_list_kept geometry old new from to i n places same below);
      names = λ p place. named_list_kept geometry old new from to i p places same below place.place;
    }

-- after a write before the data zone, the content of i-node i is unchanged if its mode, its size and its addresses don't change
content_fields : (geometry : Geometry) (old new : List ℕ) (from to i : ℕ) → IsZoned geometry old → SameOutside old new from to → to ≤ 512 * geometry.zone_start
    → mode_of geometry new i ≡ mode_of geometry old i → size_of geometry new i ≡ size_of geometry old i
    → (inode_of geometry.edition new i).addresses ≡ (inode_of geometry.edition old i).addresses → KeepsContent geometry old new i
content_fields geometry old new from to i zoned same below mode size addresses =
    let reads = reading_fields geometry old new from to i same below (ap (kind_of geometry.edition) mode) (ap (λ m. m / 4096) mode) size addresses in
    record {
      mode = mode;
      size = size;
      addresses = addresses;
      bytes = reads.bytes;
      names = reads.names;
      blocks = λ p r place some h.
          let zone = zone_bounds geometry (named geometry old i p) (zoned i p place some) in
          same.above (512 * named geometry old i p + r) (omega (arith, below, zone.0));
    }

-- after a write before the data zone, the content of i-node i is unchanged if its i-node doesn't change
pub content_kept : (geometry : Geometry) (old new : List ℕ) (from to i : ℕ) → IsZoned geometry old → SameOutside old new from to → to ≤ 512 * geometry.zone_start
    → KeepsInode geometry old new i → KeepsContent geometry old new i
content_kept geometry old new from to i zoned same below kept =
    content_fields geometry old new from to i zoned same below (mode_kept geometry old new i kept) (size_kept geometry old new i kept)
    (ap (λ node. node.addresses) (inode_of_kept geometry old new i kept))

-- a write before the data zone keeps everything stored in the blocks that a truncation of file i kept
pub stored_then : (geometry : Geometry) (old mid new : List ℕ) (from to i left : ℕ) → KeepsStored geometry old mid i left → KeepsContent geometry mid new i
    → SameOutside mid new from to → to ≤ 512 * geometry.zone_start → KeepsStored geometry old new i left
stored_then geometry old mid new from to i left stored kept same below =
    let reads = reading geometry mid new i kept in
    record {
      names = λ p place.
          let before = place_before geometry mid new i p reads place in
          kept.names p before ∙ stored.names p before;
      bytes = λ n h.
          body_byte_list_kept geometry mid new from to i n (places_by geometry mid new i (form_reads geometry mid new i reads) kept.addresses) same below
          ∙ stored.bytes n h;
    }

-- if all i-nodes read as before, the entries of directories don't change
entries_stay : (geometry : Geometry) (old new : List ℕ) (x s : ℕ)
    → ((j : ℕ) → 1 ≤ j → j ≤ geometry.last_inode → KeepsReading geometry old new j) → IsDirectory geometry old x
    → entry_at geometry new x s ≡ entry_at geometry old x s
entries_stay geometry old new x s kept is =
    entry_reads geometry old new x s (kept x is.first is.last) (record { first = is.first; last = is.last; kind = ap has_places is.kind })

-- a write of the time changes no i-node
time_inode : (geometry : Geometry) (old new : List ℕ) (j : ℕ)
    → SameOutside old new (time_place geometry.edition) (time_place geometry.edition + 4) → KeepsInode geometry old new j
time_inode geometry old new j same =
    let order = super_order geometry.edition in
    let start = place_from geometry.edition j in
    copy_above old new (time_place geometry.edition) (time_place geometry.edition + 4) (inode_place geometry.edition j)
    (constants geometry.edition).inode_bytes same (omega (arith, order, start))

-- a write of the time changes no content
pub time_content : (geometry : Geometry) (old new : List ℕ) (j : ℕ) → Rules3To8 geometry old
    → SameOutside old new (time_place geometry.edition) (time_place geometry.edition + 4) → KeepsContent geometry old new j
time_content geometry old new j rules same =
    let order = super_order geometry.edition in
    let behind = zone_behind geometry old rules.sound.fits in
    content_kept geometry old new (time_place geometry.edition) (time_place geometry.edition + 4) j rules.sound.zoned same (omega (arith, order, behind))
    (time_inode geometry old new j same)

-- a write of the time keeps rules 3 to 8 and the bytes that no call changes
pub time_keeps : (geometry : Geometry) (old new : List ℕ) → Rules3To8 geometry old
    → SameOutside old new (time_place geometry.edition) (time_place geometry.edition + 4) → Keeps geometry old new
time_keeps geometry old new rules same =
    let order = super_order geometry.edition in
    let behind = zone_behind geometry old rules.sound.fits in
    record {
      rules = whole_kept geometry old new same.len (λ j first last. time_content geometry old new j rules same)
          (λ j first last used.
          rw (inode_of_kept geometry old new j (time_inode geometry old new j same)) (rules.sound.sizes.links j first last used))
          (λ blocks free. IsFree-before_zone same (omega (arith, order)) (omega (arith, order, behind)) free) rules;
      around = record {
        len = same.len;
        before = λ k h. same.below k (omega (arith, order));
        flags = λ k a b. same.below k b;
        rest = λ k a b. same.above k a;
        behind = λ k h. same.above k (omega (arith, order, behind, rules.sound.fits.zone));
      };
    }

-- a write of the time changes the state as `at_time` does
pub time_makes : (geometry : Geometry) (old new : List ℕ) (now : ℕ) → Rules3To8 geometry old
    → SameOutside old new (time_place geometry.edition) (time_place geometry.edition + 4) → long new (time_place geometry.edition) ≡ now
    → state geometry new ≡ at_time now (state geometry old)
time_makes geometry old new now rules same time =
    makes_time geometry old new now time
    (λ j first last.
    let kept = time_content geometry old new j rules same in (
      node_same geometry old new j kept first last (inode_of_kept geometry old new j (time_inode geometry old new j same)),
      shape_same geometry old new j kept first last,
    ))

-- a write of the time doesn't change the graph
pub time_graph : (geometry : Geometry) (old new : List ℕ) → Rules3To8 geometry old
    → SameOutside old new (time_place geometry.edition) (time_place geometry.edition + 4)
    → IsSameGraph (graph_of geometry old) (graph_of geometry new)
time_graph geometry old new rules same =
    let kept = λ (j : ℕ). time_content geometry old new j rules same in
    same_graph geometry old new (λ x first last. kind_same geometry old new x (kept x))
    (λ x first last. ap (λ node. node.links) (inode_of_kept geometry old new x (time_inode geometry old new x same)))
    (λ x is. (kept x).size) (λ x t is. entries_stay geometry old new x t (λ j first last. reading geometry old new j (kept j)) is)

-- i-node i was written back with its kind, its size and its addresses; only the permission bits of its mode may have changed, and no other byte has
pub record PutsInode (geometry : Geometry) (old new : List ℕ) (i : ℕ) (node : Inode) : Type 0 where
  pub first : 1 ≤ i
  pub last : i ≤ geometry.last_inode
  pub same : SameOutside old new (inode_place geometry.edition i) (inode_place geometry.edition i + (constants geometry.edition).inode_bytes)
  pub is : inode_of geometry.edition new i ≡ node
  pub kind : kind_of geometry.edition node.mode.bits ≡ kind_at geometry old i
  pub type : node.mode.bits / 4096 ≡ mode_of geometry old i / 4096
  pub size : node.size ≡ (inode_of geometry.edition old i).size
  pub addresses : node.addresses ≡ (inode_of geometry.edition old i).addresses

-- the mode of i-node i is the mode that was written
mode_put : (geometry : Geometry) (old new : List ℕ) (i : ℕ) (node : Inode) → PutsInode geometry old new i node → mode_of geometry new i ≡ node.mode.bits
mode_put geometry old new i node puts =
    sym (inode_mode geometry.edition new (inode_place geometry.edition i)) ∙ ap (λ n. n.mode.bits) puts.is

-- the size doesn't change
size_put : (geometry : Geometry) (old new : List ℕ) (i : ℕ) (node : Inode) → PutsInode geometry old new i node
    → size_of geometry new i ≡ size_of geometry old i
size_put geometry old new i node puts =
    sym (inode_size geometry.edition new (inode_place geometry.edition i))
    ∙ (ap (λ n. n.size) puts.is ∙ (puts.size ∙ inode_size geometry.edition old (inode_place geometry.edition i)))

-- writing i-node i changes no other content
pub put_beside : (geometry : Geometry) (old new : List ℕ) (i j : ℕ) (node : Inode) → Rules3To8 geometry old → PutsInode geometry old new i node
    → 1 ≤ j → j ≢ i → KeepsContent geometry old new j
put_beside geometry old new i j node rules puts first other =
    content_kept geometry old new (inode_place geometry.edition i) (inode_place geometry.edition i + (constants geometry.edition).inode_bytes) j
    rules.sound.zoned puts.same (place_room geometry old i rules.sound.fits puts.first puts.last)
    (inode_apart geometry old new i j puts.first first other puts.same)

-- if the mode doesn't change either, writing i-node i changes no content
pub put_content : (geometry : Geometry) (old new : List ℕ) (i j : ℕ) (node : Inode) → Rules3To8 geometry old → PutsInode geometry old new i node
    → node.mode ≡ (inode_of geometry.edition old i).mode → 1 ≤ j → j ≤ geometry.last_inode → KeepsContent geometry old new j
put_content geometry old new i j node rules puts mode first last =
    let room = place_room geometry old i rules.sound.fits puts.first puts.last in
    let from = inode_place geometry.edition i in
    let to = inode_place geometry.edition i + (constants geometry.edition).inode_bytes in
    elim (cases_eq j i) [
      | inl e ↦
          rw e (content_fields geometry old new from to i rules.sound.zoned puts.same room
          (mode_put geometry old new i node puts ∙ (ap (λ m. m.bits) mode ∙ inode_mode geometry.edition old from))
          (size_put geometry old new i node puts)
          (ap (λ n. n.addresses) puts.is ∙ puts.addresses))
      | inr other ↦ put_beside geometry old new i j node rules puts first other
    ]

-- after i-node i is written, all i-nodes read as before
pub put_reading : (geometry : Geometry) (old new : List ℕ) (i j : ℕ) (node : Inode) → Rules3To8 geometry old → PutsInode geometry old new i node
    → 1 ≤ j → j ≤ geometry.last_inode → KeepsReading geometry old new j
put_reading geometry old new i j node rules puts first last =
    let room = place_room geometry old i rules.sound.fits puts.first puts.last in
    let from = inode_place geometry.edition i in
    let to = inode_place geometry.edition i + (constants geometry.edition).inode_bytes in
    let mode = mode_put geometry old new i node puts in
    elim (cases_eq j i) [
      | inl e ↦
          rw e (reading_fields geometry old new from to i puts.same room
          (ap (kind_of geometry.edition) mode ∙ puts.kind) (ap (λ m. m / 4096) mode ∙ puts.type)
          (size_put geometry old new i node puts)
          (ap (λ n. n.addresses) puts.is ∙ puts.addresses))
      | inr other ↦ reading geometry old new j (put_beside geometry old new i j node rules puts first other)
    ]

-- the other i-nodes don't change
put_other : (geometry : Geometry) (old new : List ℕ) (i j : ℕ) (node : Inode) → PutsInode geometry old new i node → 1 ≤ j → j ≢ i
    → inode_of geometry.edition new j ≡ inode_of geometry.edition old j
put_other geometry old new i j node puts first other =
    inode_of_kept geometry old new j (inode_apart geometry old new i j puts.first first other puts.same)

-- the time of the super-block doesn't change
put_time : (geometry : Geometry) (old new : List ℕ) (i : ℕ) (node : Inode) → PutsInode geometry old new i node
    → long new (time_place geometry.edition) ≡ long old (time_place geometry.edition)
put_time geometry old new i node puts =
    let start = place_from geometry.edition i in
    let order = super_order geometry.edition in
    let copy = copy_below old new (inode_place geometry.edition i) (inode_place geometry.edition i + (constants geometry.edition).inode_bytes)
    (time_place geometry.edition) 4 puts.same (omega (arith, start, order)) in
    long_copied old new (time_place geometry.edition) (time_place geometry.edition) 4 0 (time_place geometry.edition) (time_place geometry.edition) copy
    (omega arith) (omega arith) (omega arith)

-- writing i-node i keeps rules 3 to 8 and the bytes that no call changes, if its link count is within the limit
pub put_keeps : (geometry : Geometry) (old new : List ℕ) (i : ℕ) (node : Inode) → Rules3To8 geometry old → PutsInode geometry old new i node
    → node.links ≤ (constants geometry.edition).link_limit → Keeps geometry old new
put_keeps geometry old new i node rules puts limit =
    let room = place_room geometry old i rules.sound.fits puts.first puts.last in
    let start = place_from geometry.edition i in
    record {
      rules = whole_reading geometry old new puts.same.len (λ j first last. put_reading geometry old new i j node rules puts first last)
          (λ j first last used. elim (cases_eq j i) [
            | inl e ↦ rw e (rw puts.is limit)
            | inr other ↦ rw (put_other geometry old new i j node puts first other) (rules.sound.sizes.links j first last used)
          ])
          (λ blocks free. IsFree-before_zone puts.same (omega (arith, start)) room free) rules;
      around = around_list geometry old new (inode_place geometry.edition i) (inode_place geometry.edition i + (constants geometry.edition).inode_bytes)
          rules.sound.fits puts.same start room;
    }

-- changing the fields of an i-node changes its node in the same way, for any content
node_put : (change : Node → Node) (was node : Inode) (content : Option Content)
    → ((c : Content) → node_with node c ≡ change (node_with was c))
    → option_map (node_with node) content ≡ option_map change (option_map (node_with was) content)
node_put change was node None each = refl
node_put change was node (Some c) each = ap (λ n. Some n) (each c)

-- writing i-node i changes the state as `change_node` does
pub put_makes : (geometry : Geometry) (old new : List ℕ) (i : ℕ) (node : Inode) (change : Node → Node) → Rules3To8 geometry old
    → PutsInode geometry old new i node → ((c : Content) → node_with node c ≡ change (node_with (inode_of geometry.edition old i) c))
    → state geometry new ≡ change_node i change (state geometry old)
unfolding node_of
put_makes geometry old new i node change rules puts each =
    let kept = λ (j : ℕ) (first : 1 ≤ j) (last : j ≤ geometry.last_inode). put_reading geometry old new i j node rules puts first last in
    makes_node geometry old new i (option_map change ((state geometry old).tree.nodes i)) (record {
      first = puts.first;
      last = puts.last;
      time = put_time geometry old new i node puts;
      others = λ j first last other. (
        node_same geometry old new j (put_beside geometry old new i j node rules puts first other) first last (put_other geometry old new i j node puts first other),
        shape_reads geometry old new j (kept j first last) first last,
      );
      here = node_of_reading geometry old new i (kept i puts.first puts.last) puts.first puts.last
          ∙ (ap (λ n. option_map (node_with n) (content_of geometry old i (kind_at geometry old i))) puts.is
          ∙ (node_put change (inode_of geometry.edition old i) node (content_of geometry old i (kind_at geometry old i)) each
          ∙ sym (ap (option_map change) (node_inside geometry old i puts.first puts.last))));
      places = shape_reads geometry old new i (kept i puts.first puts.last) puts.first puts.last;
    })

-- writing i-node i changes only its link count in the graph
pub put_graph : (geometry : Geometry) (old new : List ℕ) (i : ℕ) (node : Inode) → Rules3To8 geometry old → PutsInode geometry old new i node
    → SetsLinks (graph_of geometry old) (graph_of geometry new) i node.links
put_graph geometry old new i node rules puts =
    let kept = λ (j : ℕ) (first : 1 ≤ j) (last : j ≤ geometry.last_inode). put_reading geometry old new i j node rules puts first last in
    let kind = λ (x : ℕ). kind_kept geometry old new x (λ first last. (kept x first last).kind) in
    record {
      kind = kind;
      size = λ x is. let inside = directory_from geometry old x is in (kept x inside.first inside.last).size;
      entry = λ x t. entry_kept geometry old new x t (kind x) (λ is. entries_stay geometry old new x t kept is);
      links = ap (λ n. n.links) puts.is;
      kept = λ x other used.
          let inside = inside_from geometry old x used in
          ap (λ n. n.links) (put_other geometry old new i x node puts inside.0 other);
    }

-- if the link count of i doesn't change either, neither does the graph
pub put_same : (geometry : Geometry) (old new : List ℕ) (i : ℕ) (node : Inode) → Rules3To8 geometry old → PutsInode geometry old new i node
    → node.links ≡ (inode_of geometry.edition old i).links → IsSameGraph (graph_of geometry old) (graph_of geometry new)
put_same geometry old new i node rules puts links =
    let sets = put_graph geometry old new i node rules puts in
    record {
      kind = sets.kind;
      links = λ x used. elim (cases_eq x i) [
        | inl e ↦ rw e (sets.links ∙ links)
        | inr other ↦ sets.kept x other used
      ];
      size = sets.size;
      entry = sets.entry;
    }
