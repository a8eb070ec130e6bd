-- Freeing a node: its file is truncated, its i-node is cleared, and its i-number is put in the cache.
use Rattle.std.proofs.Common.{◌≡◌, ◌∙◌, sym, ap, subst, ℕ, ◌+◌, ◌<◌, ◌≤◌, ◌++◌, if◌then◌else◌, true, List, [], slice_index, None, inl, inr, arith}
use Rattle.std.specs.Option.{option_map}
use Rattle.std.proofs.lemmas.Bool.{cases_lt, lt-ltb, le-ltb, false≢true}
use Rattle.pdp_words.proofs.Outside.{unchanged}
use Rattle.pdp_words.specs.Words.{word, SameOutside}
use Rattle.vol_layout.specs.Edition.{constants}
use Rattle.vol_layout.specs.Inode.{inode_of, inode_place, kind_of}
use Rattle.vol_layout.specs.BlockPointers.{mode_of, IsPlaceOf, named}
use Rattle.vol_layout.specs.BlockMaps.{has_places}
use Rattle.vol_layout.specs.declared.edition.Edition.{Edition}
use Rattle.vol_layout.specs.declared.geometry.Geometry.{Geometry}
use Rattle.vol_layout.specs.declared.mode.Kind.TheVariants as kinds
use Rattle.vol_layout.proofs.InodeLaws.{place_from, place_room}
use Rattle.vol_layout.proofs.KindLaws.{kind_zero}
use Rattle.vol_layout.specs.Super.{cache_head}
use Rattle.vol_layout.proofs.EditionLaws.{mode_room}
use Rattle.vol_free.specs.Numbers.{cache_len, Cached}
use Rattle.vol_free.proofs.Frames.{IsFree-before_zone}
use Rattle.vol_file.specs.Rules.{kind_at, Rules3To7With}
use Rattle.vol_file.specs.Changes.{blocks_of, Truncates, blocks_past}
use Rattle.vol_file.proofs.Truncated.{past_all}
use Rattle.vol_dir.specs.Tree.{no_shape, content_of, node_with, node_of, shape_of, state}
use Rattle.vol_judge.specs.Graph.{graph_of}
use Rattle.vol_judge.proofs.ImageGraphs.{kind_inside}
use Rattle.vol_change.specs.Alone.{ChangesOnly}
use Rattle.vol_change.specs.Changed.{FreeBecomes, as_before, blocks_freed}
use Rattle.vol_change.specs.Edits.{remove_node}
use Rattle.vol_change.specs.NodeGraphs.{DropsNode}
use Rattle.vol_change.specs.Whole.{Rules3To8, Keeps}
use Rattle.vol_change.proofs.FreeLists.{cache_free_list, inode_free, truncated_free}
use Rattle.vol_change.proofs.NewRules.{bare_whole}
use Rattle.vol_change.proofs.OneNode.{only_file, only_inode, only_then, cache_node, cache_only, cache_keeps, only_makes, only_graph, only_links}

-- truncating a file to zero bytes keeps rules 3 to 8
pub truncated_whole : (geometry : Geometry) (old new : List ℕ) (i : ℕ) → (rules : Rules3To8 geometry old)
    → ((blocks : List ℕ) → Rules3To7With geometry old blocks → Truncates geometry old new i 0 blocks) → Rules3To8 geometry new
truncated_whole geometry old new i rules truncates =
    let done = truncates rules.blocks rules.sound in
    record { blocks = blocks_past geometry old i 0 ++ rules.blocks; sound = done.sound; covered = done.covered rules.covered }

-- truncating a file to zero bytes changes only this file
pub truncated_only : (geometry : Geometry) (old new : List ℕ) (i : ℕ) → (rules : Rules3To8 geometry old) → 1 ≤ i
    → ((blocks : List ℕ) → Rules3To7With geometry old blocks → Truncates geometry old new i 0 blocks) → ChangesOnly geometry old new i
truncated_only geometry old new i rules first truncates =
    only_file geometry old new i rules.sound.fits (truncates rules.blocks rules.sound).alone first

-- truncating a file to zero bytes puts its blocks on the free list
pub truncated_list : (geometry : Geometry) (old new : List ℕ) (i : ℕ) → (rules : Rules3To8 geometry old) → has_places (kind_at geometry old i) ≡ true
    → ((blocks : List ℕ) → Rules3To7With geometry old blocks → Truncates geometry old new i 0 blocks)
    → FreeBecomes geometry old new (λ blocks. blocks_freed geometry old i ++ blocks)
truncated_list geometry old new i rules file truncates =
    subst (λ t. FreeBecomes geometry old new (λ blocks. (if t then blocks_of geometry old i else []) ++ blocks)) (sym file)
    (subst (λ gone. FreeBecomes geometry old new (λ blocks. gone ++ blocks)) (past_all geometry old i)
    (truncated_free geometry old new i 0 rules (truncates rules.blocks rules.sound)))

module _ (geometry : Geometry) (old new : List ℕ) (i : ℕ) (rules : Rules3To8 geometry old) (above : (constants geometry.edition).root < i)
    (last : i ≤ geometry.last_inode) (none : (p : List ℕ) → IsPlaceOf geometry old i p → named geometry old i p ≡ 0)
    (zero : (k : ℕ) → inode_place geometry.edition i ≤ k → k < inode_place geometry.edition i + (constants geometry.edition).inode_bytes
    → slice_index new k ≡ 0)
    (same : SameOutside old new (inode_place geometry.edition i) (inode_place geometry.edition i + (constants geometry.edition).inode_bytes)) where
  -- an i-node of zeros is free
  pub cleared_mode : mode_of geometry new i ≡ 0
  cleared_mode =
      let room : 2 ≤ (constants geometry.edition).inode_bytes = mode_room geometry.edition in
      let low : slice_index new (inode_place geometry.edition i) ≡ 0 = zero (inode_place geometry.edition i) (omega arith) (omega (arith, room)) in
      let high : slice_index new (inode_place geometry.edition i + 1) ≡ 0 = zero (inode_place geometry.edition i + 1) (omega arith) (omega (arith, room)) in
      omega (arith, low, high)

  cleared_kind : kind_at geometry new i ≡ kinds.Free
  cleared_kind = ap (kind_of geometry.edition) cleared_mode ∙ kind_zero geometry.edition

  -- clearing an i-node changes only this i-node
  pub cleared_only : ChangesOnly geometry old new i
  cleared_only = only_inode geometry old new i rules (omega (arith, above)) last same

  -- clearing an i-node keeps rules 3 to 8
  pub cleared_whole : Rules3To8 geometry new
  cleared_whole =
      let room = place_room geometry old i rules.sound.fits (omega (arith, above)) last in
      let start = place_from geometry.edition i in
      bare_whole geometry old new i rules (record {
        above = above;
        others = cleared_only.others;
        known = λ odd. let clash : kinds.Free ≡ kinds.Odd = sym cleared_kind ∙ odd in cc;
        size = λ file. absurd (false≢true (sym (ap has_places cleared_kind) ∙ file.kind));
        links = λ used. absurd (used cleared_kind);
        before = none;
        after = λ p place. absurd (false≢true (sym (ap has_places cleared_kind) ∙ place.file.kind));
      }) same.len (λ blocks free. IsFree-before_zone same (omega (arith, start)) room free)

-- the cache has at most 100 i-numbers
cache_most : (edition : Edition) (image : List ℕ) → cache_len edition image ≤ 100
cache_most edition image =
    elim (cases_lt 100 (word image (cache_head edition))) [
      | inl more ↦ let none : cache_len edition image ≡ 0 = ap (λ t. if t then 0 else word image (cache_head edition)) (lt-ltb 100 (word image (cache_head edition)) more) in
          omega (arith, none)
      | inr few ↦
          let all : cache_len edition image ≡ word image (cache_head edition) =
          ap (λ t. if t then 0 else word image (cache_head edition)) (le-ltb 100 (word image (cache_head edition)) few) in
          omega (arith, all, few)
    ]

-- putting an i-number in the cache changes only bytes of the cache
pub given_inside : (edition : Edition) (old new : List ℕ) (i : ℕ)
    → (cache_len edition old < 100 → Cached edition old new (cache_len edition old) i) → (cache_len edition old ≡ 100 → new ≡ old)
    → SameOutside old new (cache_head edition) (cache_head edition + 202)
given_inside edition old new i cached full =
    let most = cache_most edition old in
    elim (cases_lt (cache_len edition old) 100) [
      | inl room ↦
          let put = cached room in
          record { len = put.len; below = put.below; above = λ k h. put.above k (omega (arith, room, h)) }
      | inr none ↦ rw (full (omega (arith, most, none))) (unchanged old)
    ]

-- node i is freed in three steps: its file is truncated, its i-node is cleared, and its i-number is put in the cache
pub record FreesNode (geometry : Geometry) (old mid low new : List ℕ) (i : ℕ) : Type 0 where
  pub above : (constants geometry.edition).root < i
  pub last : i ≤ geometry.last_inode
  pub rules : Rules3To8 geometry mid
  pub only : ChangesOnly geometry old mid i
  pub none : (p : List ℕ) → IsPlaceOf geometry mid i p → named geometry mid i p ≡ 0
  pub zero : (k : ℕ) → inode_place geometry.edition i ≤ k → k < inode_place geometry.edition i + (constants geometry.edition).inode_bytes
      → slice_index low k ≡ 0
  pub cleared : SameOutside mid low (inode_place geometry.edition i) (inode_place geometry.edition i + (constants geometry.edition).inode_bytes)
  pub given : SameOutside low new (cache_head geometry.edition) (cache_head geometry.edition + 202)

module _ (geometry : Geometry) (old mid low new : List ℕ) (i : ℕ) (frees : FreesNode geometry old mid low new i) where
  first : 1 ≤ i
  first = omega (arith, frees.above)

  low_whole : Rules3To8 geometry low
  low_whole = cleared_whole geometry mid low i frees.rules frees.above frees.last frees.none frees.zero frees.cleared

  -- freeing a node changes only this node
  pub freed_only : ChangesOnly geometry old new i
  freed_only =
      only_then geometry old mid new i frees.only
      (only_then geometry mid low new i (cleared_only geometry mid low i frees.rules frees.above frees.last frees.none frees.zero frees.cleared)
      (cache_only geometry low new low_whole frees.given i))

  -- the i-node of the freed node is free
  freed_mode : mode_of geometry new i ≡ 0
  freed_mode =
      (cache_node geometry low new low_whole frees.given i).content.mode
      ∙ cleared_mode geometry mid low i frees.rules frees.above frees.last frees.none frees.zero frees.cleared

  freed_kind : kind_at geometry new i ≡ kinds.Free
  freed_kind = ap (kind_of geometry.edition) freed_mode ∙ kind_zero geometry.edition

  -- freeing a node keeps rules 3 to 8 and the bytes that no call changes
  pub freed_keeps : Keeps geometry old new
  freed_keeps = record { rules = (cache_keeps geometry low new low_whole frees.given).rules; around = freed_only.around }

  -- after the truncation, the free list doesn't change
  pub freed_list : FreeBecomes geometry mid new as_before
  freed_list blocks free =
      cache_free_list geometry low new low_whole frees.given blocks (inode_free geometry mid low i frees.rules first frees.last frees.cleared blocks free)

  -- freeing a node changes the state as `remove_node` does
  pub freed_makes : state geometry new ≡ remove_node i (state geometry old)
  unfolding node_of
  freed_makes =
      only_makes geometry old new i None no_shape first frees.last freed_only
      (ap (λ k. option_map (node_with (inode_of geometry.edition new i)) (content_of geometry new i k)) freed_kind)
      (ap (shape_of geometry new i) freed_kind)

  -- freeing a node removes it from the graph
  pub freed_graph : DropsNode (graph_of geometry old) (graph_of geometry new) i
  freed_graph = record {
    others = only_graph geometry old new i freed_only;
    kind = kind_inside geometry new i first frees.last ∙ freed_kind;
    kept = λ x other used. only_links geometry old new i x freed_only other used;
  }
