-- A new node: its i-node was free, and it has no blocks.
use Rattle.std.proofs.Common.{◌≡◌, ◌≢◌, ◌∙◌, sym, ap, refl, ℕ, ◌/◌, ◌≤◌, ◌&&◌, ◌==◌, min, not, true, false, List, [], ◌∷◌, map, get_or, Some, arith}
use Rattle.std.specs.List.{range_with_len}
use Rattle.std.specs.Option.{option_map}
use Rattle.std.proofs.lemmas.Bool.{false≢true}
use Rattle.vol_layout.specs.Edition.{constants}
use Rattle.vol_layout.specs.Inode.{inode_of, inode_place, kind_of, is_large}
use Rattle.vol_layout.specs.BlockPointers.{mode_of, form_at, IsPlaceOf, named}
use Rattle.vol_layout.specs.Body.{body, body_byte}
use Rattle.vol_layout.specs.BlockMaps.{has_places, first_count}
use Rattle.vol_layout.specs.declared.geometry.Geometry.{Geometry}
use Rattle.vol_layout.specs.declared.i_node.Inode.{Inode}
use Rattle.vol_layout.specs.declared.mode.Kind.{Kind}
use Rattle.vol_layout.specs.declared.mode.Kind.TheVariants as kinds
use Rattle.vol_layout.proofs.FrameLaws.{addresses_of}
use Rattle.vol_layout.proofs.InodeLaws.{inode_mode, inode_size, inode_address, place_from, place_room}
use Rattle.vol_layout.proofs.KindLaws.{kind_zero}
use Rattle.vol_free.proofs.Frames.{IsFree-before_zone}
use Rattle.vol_file.specs.Rules.{size_of, kind_at}
use Rattle.vol_file.specs.Shape.{is_named}
use Rattle.vol_file.proofs.Alone.{fits_len}
use Rattle.vol_file.proofs.Fronts.{front_zero}
use Rattle.vol_file.proofs.PlaceLists.{front_first}
use Rattle.vol_dir.specs.Entries.{entry_at, slots, slot_count}
use Rattle.vol_dir.specs.Names.{names_of, names_in}
use Rattle.vol_dir.specs.Tree.{Content, Body, Device, Directory, no_shape, content_of, node_with, node_of, shape_of, is_place, is_named_place, state}
use Rattle.vol_dir.proofs.ReadSlots.{entry_at_past}
use Rattle.vol_judge.specs.Graph.{graph_of}
use Rattle.vol_judge.proofs.ImageGraphs.{kind_inside, empty_by}
use Rattle.vol_change.specs.Alone.{ChangesOnly}
use Rattle.vol_change.specs.Changed.{FreeBecomes, as_before}
use Rattle.vol_change.specs.Edits.{put_node, put_shape}
use Rattle.vol_change.specs.Inodes.{MakesInode}
use Rattle.vol_change.specs.NodeGraphs.{AddsNode}
use Rattle.vol_change.specs.Unused.{KeepsUnused}
use Rattle.vol_change.specs.Whole.{Rules3To8, Keeps}
use Rattle.vol_dir.proofs.PlaceTests.{place_passed}
use Rattle.vol_change.proofs.FreeLists.{inode_free}
use Rattle.vol_change.proofs.UnusedBytes.{other_unused}
use Rattle.vol_change.proofs.NewRules.{bare_whole}
use Rattle.vol_change.proofs.OneNode.{only_inode, only_makes, only_graph, only_links}

module _ (geometry : Geometry) (old new : List ℕ) (i : ℕ) (node : Inode) (rules : Rules3To8 geometry old) (makes : MakesInode geometry old new i node) where
  -- i is at least 1
  first : 1 ≤ i
  first = omega (arith, makes.above)

  -- the new i-node has the mode and kind of `node`, and size 0
  mode_new : mode_of geometry new i ≡ node.mode.bits
  mode_new = sym (inode_mode geometry.edition new (inode_place geometry.edition i)) ∙ ap (λ n. n.mode.bits) makes.is

  size_new : size_of geometry new i ≡ 0
  size_new = sym (inode_size geometry.edition new (inode_place geometry.edition i)) ∙ (ap (λ n. n.size) makes.is ∙ makes.size)

  kind_new : kind_at geometry new i ≡ kind_of geometry.edition node.mode.bits
  kind_new = ap (kind_of geometry.edition) mode_new

  -- the i-node was free
  kind_old : kind_at geometry old i ≡ kinds.Free
  kind_old = ap (kind_of geometry.edition) makes.was ∙ kind_zero geometry.edition

  -- only node i changes
  pub made_only : ChangesOnly geometry old new i
  made_only = only_inode geometry old new i rules first makes.last makes.same

  -- all addresses of the new node are 0
  named_new : (p : List ℕ) → IsPlaceOf geometry new i p → named geometry new i p ≡ 0
  named_new p place =
      let base = front_first (form_at geometry new i) p place.place in
      let few : first_count (form_at geometry new i) ≤ 13 = addresses_of geometry.edition (mode_of geometry new i) in
      front_zero geometry new i (base.0 ∷ []) p (fits_len geometry old new makes.same.len rules.sound.fits)
      (sym (inode_address geometry.edition new (inode_place geometry.edition i) base.0 (omega (arith, base.1, few)))
      ∙ (ap (λ n. get_or n.addresses base.0 0) makes.is ∙ makes.empty (sym (ap has_places kind_new) ∙ place.file.kind) base.0))
      base.2

  -- the i-node had no addresses before
  none_old : (p : List ℕ) → IsPlaceOf geometry old i p → named geometry old i p ≡ 0
  none_old p place = absurd (false≢true (sym (ap has_places kind_old) ∙ place.file.kind))

  -- creating a node keeps rules 3 to 8 and the bytes that no call changes
  pub made_keeps : Keeps geometry old new
  made_keeps =
      let room = place_room geometry old i rules.sound.fits first makes.last in
      let start = place_from geometry.edition i in
      record {
        rules = bare_whole geometry old new i rules (record {
          above = makes.above;
          others = made_only.others;
          known = λ odd. makes.known (sym kind_new ∙ odd);
          size = λ file. size_new;
          links = λ used. rw makes.is makes.links;
          before = none_old;
          after = named_new;
        }) makes.same.len (λ blocks free. IsFree-before_zone makes.same (omega (arith, start)) room free);
        around = made_only.around;
      }

  -- creating a node doesn't change the free list
  pub made_free : FreeBecomes geometry old new as_before
  made_free = inode_free geometry old new i rules first makes.last makes.same

  -- creating a node doesn't change the unused bytes of other i-nodes
  pub made_unused : (j : ℕ) → 1 ≤ j → j ≢ i → KeepsUnused geometry old new j
  made_unused j low other = other_unused geometry old new i j first low other makes.same

  -- the new node's size is 0
  no_size : min (size_of geometry new i) (constants geometry.edition).greatest ≡ 0
  no_size = omega (arith, size_new)

  -- the new node has no slots
  no_slots : slot_count geometry new i ≡ 0
  no_slots = ap (λ n. n / 16) no_size

  -- the new node has no bytes
  no_bytes : body geometry new i ≡ []
  unfolding body
  no_bytes = ap (λ n. map (body_byte geometry new i) (range_with_len 0 n)) no_size

  -- the new node has no entries
  no_entries : slots geometry new i ≡ []
  unfolding slots
  no_entries = ap (λ n. map (entry_at geometry new i) (range_with_len 0 n)) no_slots

  -- the new node has no addresses other than 0
  no_names : has_places (kind_of geometry.edition node.mode.bits) ≡ true → is_named_place geometry new i ≡ (λ p. false)
  no_names has =
      let each : (p : List ℕ) → is_named_place geometry new i p ≡ false = λ p.
      elim (is_place (form_at geometry new i) p) as (λ t. is_place (form_at geometry new i) p ≡ t → (t && is_named geometry new i p) ≡ false) [
        | true ↦ λ test. ap (λ n. not (n == 0)) (named_new p (record {
          file = record { first = first; last = makes.last; kind = ap has_places kind_new ∙ has };
          place = place_passed (form_at geometry new i) p test;
        }))
        | false ↦ λ test. refl
      ] refl in
      λ k p. each p k

  -- the new node's shape is empty
  shape_by : (kind : Kind) → kind_of geometry.edition node.mode.bits ≡ kind → shape_of geometry new i kind ≡ no_shape
  shape_by kinds.Free has = refl
  shape_by kinds.Special has = refl
  shape_by kinds.Odd has = refl
  shape_by kinds.Regular has =
      let large : is_large geometry.edition (mode_of geometry new i) ≡ false = ap (is_large geometry.edition) mode_new ∙ makes.small in
      λ k. record { names = no_names (ap has_places has) k; large = large k; slots = [] }
  shape_by kinds.Directory has =
      let large : is_large geometry.edition (mode_of geometry new i) ≡ false = ap (is_large geometry.edition) mode_new ∙ makes.small in
      let none : names_in (slots geometry new i) ≡ [] = ap names_in no_entries in
      λ k. record { names = no_names (ap has_places has) k; large = large k; slots = none k }

  -- the new node has the fields of the i-node and the given content
  node_by : (content : Content) → content_of geometry new i (kind_of geometry.edition node.mode.bits) ≡ Some content
      → node_of geometry new i ≡ Some (node_with node content)
  unfolding node_of
  node_by content is =
      ap (λ kind. option_map (node_with (inode_of geometry.edition new i)) (content_of geometry new i kind)) kind_new
      ∙ (ap (option_map (node_with (inode_of geometry.edition new i))) is ∙ ap (λ n. Some (node_with n content)) makes.is)

  -- creating a node puts it into the state, with an empty shape
  makes_by : (content : Content) → content_of geometry new i (kind_of geometry.edition node.mode.bits) ≡ Some content
      → state geometry new ≡ put_shape i no_shape (put_node i (Some (node_with node content)) (state geometry old))
  makes_by content is =
      only_makes geometry old new i (Some (node_with node content)) no_shape first makes.last made_only (node_by content is)
      (ap (shape_of geometry new i) kind_new ∙ shape_by (kind_of geometry.edition node.mode.bits) refl)

  -- creating a regular file puts a node without bytes into the state
  pub file_makes : kind_of geometry.edition node.mode.bits ≡ kinds.Regular
      → state geometry new ≡ put_shape i no_shape (put_node i (Some (node_with node (Body []))) (state geometry old))
  file_makes kind =
      makes_by (Body []) (ap (content_of geometry new i) kind ∙ ap (λ xs. Some (Body xs)) no_bytes)

  -- creating a directory puts a node without entries into the state
  pub directory_makes : kind_of geometry.edition node.mode.bits ≡ kinds.Directory
      → state geometry new ≡ put_shape i no_shape (put_node i (Some (node_with node (Directory []))) (state geometry old))
  directory_makes kind =
      makes_by (Directory []) (ap (content_of geometry new i) kind ∙ ap (λ xs. Some (Directory (names_of xs))) no_entries)

  -- creating a special file puts a node with its type bits and addresses into the state
  pub device_makes : kind_of geometry.edition node.mode.bits ≡ kinds.Special
      → state geometry new ≡ put_shape i no_shape (put_node i (Some (node_with node (Device (node.mode.bits / 4096) node.addresses))) (state geometry old))
  device_makes kind =
      makes_by (Device (node.mode.bits / 4096) node.addresses)
      (ap (content_of geometry new i) kind
      ∙ (ap (λ bits. Some (Device (bits / 4096) (inode_of geometry.edition new i).addresses)) mode_new
      ∙ ap (λ (n : Inode). Some (Device (node.mode.bits / 4096) n.addresses)) makes.is))

  -- creating a node adds it to the graph
  pub made_graph : (kind : Kind) → kind_of geometry.edition node.mode.bits ≡ kind
      → AddsNode (graph_of geometry old) (graph_of geometry new) i kind node.links
  made_graph kind is = record {
    others = only_graph geometry old new i made_only;
    was = kind_inside geometry old i first makes.last ∙ kind_old;
    kind = kind_inside geometry new i first makes.last ∙ (kind_new ∙ is);
    links = ap (λ n. n.links) makes.is;
    size = size_new;
    empty = λ s. empty_by _ geometry new i s (entry_at_past geometry new i s (omega (arith, no_slots)));
    kept = λ x other used. only_links geometry old new i x made_only other used;
  }
