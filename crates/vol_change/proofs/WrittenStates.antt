-- The state after one file is changed.
use Rattle.std.proofs.Common.{◌≡◌, ◌∙◌, sym, ap, subst, refl, ℕ, zero, suc, ◌+◌, ◌≤◌, ◌==◌, ◌&&◌, Bool, not, true, false, if◌then◌else◌, max, take, List, [], length, Option, Some, arith}
use Rattle.std.specs.Option.{option_map}
use Rattle.std.proofs.lemmas.Bool.Decides.{nat_tests}
use Rattle.vol_layout.specs.Geometry.{Fits}
use Rattle.vol_layout.specs.Inode.{inode_place, inode_of, kind_of, is_large, with_large}
use Rattle.vol_layout.specs.BlockPointers.{mode_of, form_at, IsFile, named}
use Rattle.vol_layout.specs.BlockMaps.{form_of, has_places}
use Rattle.vol_layout.specs.Body.{body}
use Rattle.vol_layout.specs.declared.edition.Edition.{Edition}
use Rattle.vol_layout.specs.declared.edition.Edition.TheVariants.{V6, V7}
use Rattle.vol_layout.specs.declared.geometry.Geometry.{Geometry}
use Rattle.vol_layout.specs.declared.mode.Kind.{Kind}
use Rattle.vol_layout.specs.declared.mode.Kind.TheVariants as kinds
use Rattle.vol_layout.proofs.InodeLaws.{inode_size}
use Rattle.vol_file.specs.Changes.{spliced, Writes, is_kept, truncated_mode, Truncates}
use Rattle.vol_file.specs.Rules.{kind_at, size_of}
use Rattle.vol_file.specs.Shape.{is_named, touched}
use Rattle.vol_dir.specs.Tree.{Content, Body, Node, form_in, is_place, is_named_place, content_of, node_with, node_of, shape_of, tree, state}
use Rattle.vol_change.specs.Contents.{write_body, cut_body}
use Rattle.vol_change.specs.Edits.{body_of}
use Rattle.vol_change.specs.Shapes.{stored_shape, cut_shape}
use Rattle.vol_change.specs.Whole.{Rules3To8, Keeps}
use Rattle.vol_change.proofs.FileInodes.{KeepsMode, KeepsFields, none_passes, all_passes, cut_mode, fields_kept, node_changed}
use Rattle.vol_dir.proofs.WalkLaws.{node_inside}
use Rattle.vol_change.proofs.FreeCounts.{form_shape}
use Rattle.vol_change.proofs.OneNode.{alone_around, only_file, only_makes}
use Rattle.vol_change.proofs.States.{shape_here}
use Rattle.vol_judge.specs.Graph.{graph_of}
use Rattle.vol_judge.specs.GraphEdits.{IsSameGraph}
use Rattle.vol_dir.proofs.PlaceTests.{place_passed}
use Rattle.vol_change.proofs.ShapePlaces.{guarded}
use Rattle.vol_change.proofs.WrittenShapes.{StoresBlocks, stores_blocks}

-- i is an i-number of the volume, of the given kind
pub record IsKind (geometry : Geometry) (image : List ℕ) (i : ℕ) (wanted : Kind) : Type 0 where
  pub first : 1 ≤ i
  pub last : i ≤ geometry.last_inode
  pub kind : kind_at geometry image i ≡ wanted

-- an i-node with a content reads as the node with its fields and this content
pub node_holds : (geometry : Geometry) (image : List ℕ) (i : ℕ) (content : Content) → content_of geometry image i (kind_at geometry image i) ≡ Some content
    → node_of geometry image i ≡ Some (node_with (inode_of geometry.edition image i) content)
unfolding node_of
node_holds geometry image i content is = ap (option_map (node_with (inode_of geometry.edition image i))) is

-- after a change of content and size, the node is changed in the same way
pub node_edited : (geometry : Geometry) (old new : List ℕ) (i : ℕ) (change : Node → Node) (before after : Content) (size : ℕ) → 1 ≤ i
    → i ≤ geometry.last_inode → content_of geometry old i (kind_at geometry old i) ≡ Some before
    → content_of geometry new i (kind_at geometry new i) ≡ Some after
    → KeepsFields (inode_of geometry.edition old i) (inode_of geometry.edition new i) → size_of geometry new i ≡ size
    → record (node_with (inode_of geometry.edition old i) before) { content = after; size = size } ≡ change (node_with (inode_of geometry.edition old i) before)
    → node_of geometry new i ≡ option_map change ((tree geometry old).nodes i)
node_edited geometry old new i change before after size first last was is fields sized made =
    let old_node = inode_of geometry.edition old i in
    let new_node = inode_of geometry.edition new i in
    let is_size : new_node.size ≡ size = inode_size geometry.edition new (inode_place geometry.edition i) ∙ sized in
    node_holds geometry new i after is
    ∙ (ap Some (node_changed old_node new_node before after size fields is_size ∙ made)
    ∙ sym (ap (option_map change) (node_inside geometry old i first last ∙ node_holds geometry old i before was)))

-- after blocks are stored, the shape of a file, except for its slots, is `stored_shape`
pub shape_stored : (geometry : Geometry) (old new blocks : List ℕ) (i : ℕ) (slots : List (Option (List ℕ))) → StoresBlocks geometry old new i blocks
    → record {
      names = is_named_place geometry new i;
      large = is_large geometry.edition (mode_of geometry new i);
      slots = slots;
    } ≡ record (stored_shape geometry.edition (record {
      names = is_named_place geometry old i;
      large = is_large geometry.edition (mode_of geometry old i);
      slots = slots;
    }) blocks) { slots = slots }
shape_stored geometry old new blocks i slots stores =
    λ k. record { names = λ p. stores.names p k; large = stores.large k; slots = slots }

-- a write keeps rules 3 to 8 and the bytes that no call changes
pub writes_keeps : (geometry : Geometry) (old new : List ℕ) (i offset : ℕ) (text : List ℕ) (rules : Rules3To8 geometry old)
    → Writes geometry old new i offset text rules.blocks → Keeps geometry old new
writes_keeps geometry old new i offset text rules writes = record {
  rules = record { blocks = writes.rest; sound = writes.sound; covered = writes.covered rules.covered };
  around = alone_around geometry old new i writes.alone;
}

-- a truncation keeps rules 3 to 8 and the bytes that no call changes
pub truncates_keeps : (geometry : Geometry) (old new : List ℕ) (i size : ℕ) (rules : Rules3To8 geometry old)
    → Truncates geometry old new i size rules.blocks → Keeps geometry old new
truncates_keeps geometry old new i size rules cuts = record {
  rules = record { blocks = _; sound = cuts.sound; covered = cuts.covered rules.covered };
  around = alone_around geometry old new i cuts.alone;
}

-- a write into a regular file changes the state as `write_body` does
pub written_state : (geometry : Geometry) (old new free : List ℕ) (i offset : ℕ) (text : List ℕ) → IsKind geometry old i kinds.Regular → Fits geometry old
    → Writes geometry old new i offset text free → state geometry new ≡ write_body i offset text (state geometry old)
unfolding tree
written_state geometry old new free i offset text is fits writes =
    let file : IsFile geometry old i = record { first = is.first; last = is.last; kind = ap has_places is.kind } in
    let blocks = touched offset (length text) in
    let stores = stores_blocks geometry old new free i offset text file writes in
    let kind : kind_at geometry new i ≡ kinds.Regular = stores.kind ∙ is.kind in
    let before = body geometry old i in
    let size = max (size_of geometry old i) (offset + length text) in
    let old_node = inode_of geometry.edition old i in
    let sized : size_of geometry old i ≡ old_node.size = sym (inode_size geometry.edition old (inode_place geometry.edition i)) in
    only_makes geometry old new i _ _ is.first is.last (only_file geometry old new i fits writes.alone is.first)
    (node_edited geometry old new i (λ node. record node {
      content = Body (spliced (body_of node.content) offset text);
      size = max node.size (offset + length text);
    }) (Body before) (Body (body geometry new i)) size is.first is.last (ap (content_of geometry old i) is.kind)
    (ap (content_of geometry new i) kind) stores.fields writes.size
    (λ k. record (node_with old_node (Body before)) { content = Body (writes.body k); size = max (sized k) (offset + length text) }))
    (ap (shape_of geometry new i) kind
    ∙ (shape_stored geometry old new blocks i [] stores
    ∙ sym (ap (λ shape. stored_shape geometry.edition shape blocks)
    (shape_here geometry old i is.first is.last ∙ ap (shape_of geometry old i) is.kind))))

-- a number or 0, depending on a test, isn't 0 if the number isn't 0 and the test passes
chosen : (t : Bool) (n : ℕ) → not ((if t then n else 0) == 0) ≡ (not (n == 0) && t)
chosen true n = sym (all_passes (not (n == 0)))
chosen false n = sym (none_passes (not (n == 0)))

-- a conjunction of tests is associative
passes_then : (s t u : Bool) → (s && (t && u)) ≡ ((s && t) && u)
passes_then true t u = refl
passes_then false t u = refl

-- the positions that the remaining bytes need are positions before and after the truncation
cut_places : (edition : Edition) (size old new : ℕ) (names : Bool) (p : List ℕ) → new ≡ truncated_mode edition size old
    → (is_place (form_of edition new) p && (names && is_kept (form_of edition old) size p))
    ≡ (is_place (form_of edition old) p && (names && is_kept (form_of edition old) size p))
cut_places V6 zero old new names p cut =
    let none = none_passes names in
    ap (λ t. is_place (form_of V6 new) p && t) none
    ∙ (none_passes (is_place (form_of V6 new) p)
    ∙ sym (ap (λ t. is_place (form_of V6 old) p && t) none ∙ none_passes (is_place (form_of V6 old) p)))
cut_places V6 (suc n) old new names p cut =
    let some : (suc n == 0) ≡ false = grind (arith, nat_tests) in
    ap (λ mode. is_place (form_of V6 mode) p && (names && is_kept (form_of V6 old) (suc n) p))
    (cut ∙ ap (λ t. if t then with_large old false else old) some)
cut_places V7 size old new names p cut =
    ap (λ mode. is_place (form_of V7 mode) p && (names && is_kept (form_of V7 old) size p)) cut

-- after a truncation, a position has an address other than 0 exactly if it had one before and the remaining bytes need it
cut_names : (geometry : Geometry) (old new free : List ℕ) (i size : ℕ) → IsFile geometry new i → has_places (kind_at geometry old i) ≡ true
    → Truncates geometry old new i size free → (p : List ℕ) → is_named_place geometry new i p
    ≡ (is_named_place geometry old i p && is_kept (form_in geometry.edition (is_large geometry.edition (mode_of geometry old i))) size p)
cut_names geometry old new free i size file was cuts p =
    let before = form_at geometry old i in
    let after = form_at geometry new i in
    guarded (is_place after p) (is_named geometry new i p) (is_named geometry old i p && is_kept before size p)
    (λ passes.
    ap (λ n. not (n == 0)) (cuts.names p (record { file = file; place = place_passed after p passes }))
    ∙ chosen (is_kept before size p) (named geometry old i p))
    ∙ (cut_places geometry.edition size (mode_of geometry old i) (mode_of geometry new i) (is_named geometry old i p) p cuts.mode
    ∙ (passes_then (is_place before p) (is_named geometry old i p) (is_kept before size p)
    ∙ sym (ap (λ form. is_named_place geometry old i p && is_kept form size p) (form_shape geometry.edition (mode_of geometry old i) was))))

-- a truncation of a regular file changes the state as `cut_body` does
pub truncated_state : (geometry : Geometry) (old new free : List ℕ) (i size : ℕ) → IsKind geometry old i kinds.Regular → Fits geometry old
    → Truncates geometry old new i size free → state geometry new ≡ cut_body i size (state geometry old)
unfolding tree
truncated_state geometry old new free i size is fits cuts =
    let edition = geometry.edition in
    let large = is_large edition (mode_of geometry old i) in
    let mode : KeepsMode edition (mode_of geometry old i) (mode_of geometry new i) (large && not (size == 0)) =
    subst (λ m. KeepsMode edition (mode_of geometry old i) m (large && not (size == 0))) (sym cuts.mode)
    (cut_mode edition size (mode_of geometry old i) (ap has_places is.kind)) in
    let kind : kind_at geometry new i ≡ kinds.Regular = mode.kind ∙ is.kind in
    let file : IsFile geometry new i = record { first = is.first; last = is.last; kind = ap has_places kind } in
    let names = cut_names geometry old new free i size file (ap has_places is.kind) cuts in
    let old_node = inode_of edition old i in
    only_makes geometry old new i _ _ is.first is.last (only_file geometry old new i fits cuts.alone is.first)
    (node_edited geometry old new i (λ node. record node { content = Body (take size (body_of node.content)); size = size })
    (Body (body geometry old i)) (Body (body geometry new i)) size
    is.first is.last (ap (content_of geometry old i) is.kind) (ap (content_of geometry new i) kind)
    (fields_kept edition old new (inode_place edition i) cuts.alone.elsewhere.inode mode.permissions) cuts.size
    (λ k. record (node_with old_node (Body (body geometry old i))) { content = Body (cuts.body k); size = size }))
    (ap (shape_of geometry new i) kind
    ∙ ((λ k. record { names = λ p. names p k; large = mode.flag k; slots = [] })
    ∙ sym (ap (λ shape. cut_shape edition shape size) (shape_here geometry old i is.first is.last ∙ ap (shape_of geometry old i) is.kind))))

-- a truncation doesn't change the kind of a file
pub truncated_kind : (geometry : Geometry) (old new free : List ℕ) (i size : ℕ) → IsKind geometry old i kinds.Regular
    → Truncates geometry old new i size free → kind_at geometry new i ≡ kind_at geometry old i
truncated_kind geometry old new free i size is cuts =
    ap (kind_of geometry.edition) cuts.mode ∙ (cut_mode geometry.edition size (mode_of geometry old i) (ap has_places is.kind)).kind

-- a write doesn't change the kind of a file
pub written_kind : (geometry : Geometry) (old new free : List ℕ) (i offset : ℕ) (text : List ℕ) → IsFile geometry old i
    → Writes geometry old new i offset text free → kind_at geometry new i ≡ kind_at geometry old i
written_kind geometry old new free i offset text file writes = (stores_blocks geometry old new free i offset text file writes).kind

-- without a change, rules 3 to 8 hold and the bytes that no call changes are unchanged
pub nothing_keeps : (geometry : Geometry) (old new : List ℕ) → Rules3To8 geometry old → new ≡ old → Keeps geometry old new
nothing_keeps geometry old new rules same = subst (Keeps geometry old) (sym same) (record {
  rules = rules;
  around = record {
    len = refl;
    before = λ k low. refl;
    flags = λ k low high. refl;
    rest = λ k low high. refl;
    behind = λ k low. refl;
  };
})

-- without a change, the graph doesn't change
pub nothing_graph : (geometry : Geometry) (old new : List ℕ) → new ≡ old → IsSameGraph (graph_of geometry old) (graph_of geometry new)
nothing_graph geometry old new same = subst (λ image. IsSameGraph (graph_of geometry old) (graph_of geometry image)) (sym same) (record {
  kind = λ i. refl;
  links = λ i used. refl;
  size = λ d is. refl;
  entry = λ d s. refl;
})
