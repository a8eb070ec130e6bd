-- Rebuilding the free list keeps the files, so all rules that held still hold, and the rules about the free list hold too.
use Rattle.std.proofs.Common.{◌≡◌, ◌≢◌, ◌∙◌, sym, ap, subst, refl, ℕ, ◌+◌, ◌*◌, ◌≤◌, true, false, Bool, List, ◌∷◌, Ok, Some, None, inl, inr, get_or, arith}
use Rattle.std.proofs.lemmas.Bool.{both_ways, cases_Bool}
use Rattle.pdp_words.specs.Words.{long}
use Rattle.vol_layout.specs.Geometry.{Fits, geometry_of, geometry_read, in_zone, is_whole, is_bounded}
use Rattle.vol_layout.specs.Inode.{inode_place}
use Rattle.vol_layout.specs.BlockPointers.{IsFile, IsPlaceOf, form_at, named, stored}
use Rattle.vol_layout.specs.BlockMaps.{last_place}
use Rattle.vol_layout.specs.Super.{time_place}
use Rattle.vol_layout.specs.declared.edition.Edition.{Edition}
use Rattle.vol_layout.specs.declared.geometry.Geometry.{Geometry}
use Rattle.vol_layout.proofs.CopyLaws.{IsCopy, long_copied}
use Rattle.vol_layout.proofs.InodeLaws.{KeepsInode, inode_of_kept, mode_kept, size_kept, body_size_kept, place_from, place_room}
use Rattle.vol_layout.proofs.FrameLaws.{places_kept, named_frame, stored_kept, body_frame}
use Rattle.vol_layout.proofs.NameLaws.{stored_is, stored_none, named_holds, holds_named, zone_some}
use Rattle.vol_layout.proofs.PlaceLaws.{last_leaf, place_front, front_above}
use Rattle.vol_free.specs.Rebuild.{unused, KeepsUsed}
use Rattle.vol_free.specs.Stack.{IsFree}
use Rattle.vol_free.proofs.RebuildSteps.{unused_in, in_unused}
use Rattle.vol_free.proofs.Stacks.{zone_from, zone_below}
use Rattle.vol_file.specs.Rules.{IsZoned, IsApart, HasKinds, HasSizes}
use Rattle.vol_file.proofs.StoredNames.{kinds_kept}
use Rattle.vol_dir.specs.Tree.{state, tree}
use Rattle.vol_dir.specs.Entries.{HasEntries}
use Rattle.vol_judge.specs.Directories.{root_of, HasDots, IsTree, HasLinks}
use Rattle.vol_layout.specs.declared.mode.Kind.TheVariants as kinds
use Rattle.vol_judge.specs.Graph.{graph_of}
use Rattle.vol_judge.specs.Marks.{AreNamed}
use Rattle.vol_judge.specs.Sound.{Rule, KeepsRules}
use Rattle.vol_judge.proofs.EditedGraphs.{same_graph}
use Rattle.vol_judge.proofs.GraphParts.{same_sound}
use Rattle.vol_judge.proofs.ImageGraphs.{graph_within, graph_from_rules, rules_from_graph}
use Rattle.vol_change.specs.Alone.{KeepsContent}
use Rattle.vol_change.specs.Edits.{at_time}
use Rattle.vol_change.specs.Whole.{Rules3To8, StaysAround}
use Rattle.vol_change.proofs.Contents.{kind_same, entry_same, file_by, shape_same, node_same}
use Rattle.vol_change.proofs.States.{makes_time}
use Rattle.vol_layout.proofs.EditionLaws.{super_order}
use Rattle.vol_change.proofs.WholeLaws.{geometry_kept, names_stay, sizes_stay, zone_behind}
use Rattle.vol_change.proofs.ReadyLaws.{bounded_kept, whole_kept, sound_by}
use Rattle.vol_check.specs.SalvagedImages.{IsSalvaged}

-- an image that keeps the rules not about the free list has a readable geometry
pub rules_read : (edition : Edition) (image : List ℕ) → KeepsRules false edition image → geometry_read edition image ≡ Ok (geometry_of edition image)
unfolding geometry_read Rule
rules_read edition image rules =
    let whole : is_whole edition image ≡ true = rules 1 in
    let bounded : is_bounded edition image ≡ true = rules 2 in
    rw (whole, bounded) refl

-- the block maps of an image that keeps the rules not about the free list point only to data blocks (rule 5)
pub rules_zoned : (edition : Edition) (image : List ℕ) (geometry : Geometry) → geometry ≡ geometry_of edition image
    → KeepsRules false edition image → IsZoned geometry image
unfolding Rule
rules_zoned edition image geometry same rules = subst (λ g. IsZoned g image) (sym same) (rules 5)

-- no block of an image that keeps the rules not about the free list belongs to files twice (rule 7 for files)
pub rules_apart : (edition : Edition) (image : List ℕ) (geometry : Geometry) → geometry ≡ geometry_of edition image
    → KeepsRules false edition image → IsApart geometry image
unfolding Rule
rules_apart edition image geometry same rules = subst (λ g. IsApart g image) (sym same) (rules 7).0

-- each i-node is unchanged
pub remade_inode : (geometry : Geometry) (old new : List ℕ) (used : List Bool) (j : ℕ) → Fits geometry old → KeepsUsed geometry used old new
    → 1 ≤ j → j ≤ geometry.last_inode → KeepsInode geometry old new j
remade_inode geometry old new used j fits keeps first last =
    let order = super_order geometry.edition in
    let from = place_from geometry.edition j in
    let room = place_room geometry old j fits first last in
    record { bytes = λ k h. keeps.between (inode_place geometry.edition j + k) (omega (arith, order, from)) (omega (arith, room)) }

-- each data block that a block map points to is unchanged
remade_block : (geometry : Geometry) (old new : List ℕ) (used : List Bool) (j : ℕ) (p : List ℕ) → Fits geometry old → AreNamed geometry old used
    → KeepsUsed geometry used old new → IsPlaceOf geometry old j p → in_zone geometry (named geometry old j p) ≡ true
    → IsCopy old new (512 * named geometry old j p) (512 * named geometry old j p) 512
remade_block geometry old new used j p fits marked keeps place zone =
    let set = (marked (named geometry old j p)).1
    (j, p, record { place = place; holds = named_holds geometry old j p (named geometry old j p) fits refl (zone_some geometry old (named geometry old j p) fits zone) }) in
    record { bytes = λ k h. keeps.marked (named geometry old j p) (512 * named geometry old j p + k) set (zone_from geometry (named geometry old j p) zone) (omega arith) (omega arith) }

-- each data block that holds a logical block of a file is unchanged
stored_block : (geometry : Geometry) (old new : List ℕ) (used : List Bool) (j b : ℕ) → IsFile geometry old j
    → in_zone geometry (stored geometry old j (form_at geometry old j) b) ≡ true → Fits geometry old → AreNamed geometry old used
    → KeepsUsed geometry used old new
    → IsCopy old new (512 * stored geometry old j (form_at geometry old j) b) (512 * stored geometry old j (form_at geometry old j) b) 512
stored_block geometry old new used j b file zone fits marked keeps =
    elim (last_place (form_at geometry old j) b) as (λ o. last_place (form_at geometry old j) b ≡ o
    → IsCopy old new (512 * stored geometry old j (form_at geometry old j) b) (512 * stored geometry old j (form_at geometry old j) b) 512) [
      | None ↦ λ e. absurd (zone_some geometry old (stored geometry old j (form_at geometry old j) b) fits zone (stored_none geometry old j (form_at geometry old j) b e))
      | Some p ↦ λ e.
          let same : stored geometry old j (form_at geometry old j) b ≡ named geometry old j p = stored_is geometry old j (form_at geometry old j) b p e in
          let here = rw same at zone in
          rw same (remade_block geometry old new used j p fits marked keeps
          (record { file = file; place = (last_leaf (form_at geometry old j) b p e).place }) here)
    ] refl

-- the content of each i-node is unchanged
pub remade_content : (geometry : Geometry) (old new : List ℕ) (used : List Bool) (j : ℕ) → Fits geometry old → AreNamed geometry old used
    → KeepsUsed geometry used old new → IsZoned geometry old → 1 ≤ j → j ≤ geometry.last_inode → KeepsContent geometry old new j
remade_content geometry old new used j fits marked keeps zoned first last =
    let kept : KeepsInode geometry old new j = remade_inode geometry old new used j fits keeps first last in
    let places = places_kept geometry old new j kept in
    record {
      mode = mode_kept geometry old new j kept;
      size = size_kept geometry old new j kept;
      addresses = ap (λ node. node.addresses) (inode_of_kept geometry old new j kept);
      bytes = λ file.
          body_frame geometry old new j places (body_size_kept geometry old new j kept)
          (λ b low. stored_kept geometry old new j (form_at geometry old j) b
          (λ p e.
          let leaf = last_leaf (form_at geometry old j) b p e in
          named_frame geometry old new j p places leaf.place
          (λ k a q front zone. remade_block geometry old new used j (a ∷ q) fits marked keeps
          (record { file = file; place = place_front (form_at geometry old j) p (a ∷ q) leaf.place (front_above p q k a front) }) zone)))
          (λ b low zone. stored_block geometry old new used j b file zone fits marked keeps);
      names = λ p place. named_frame geometry old new j p places place.place
          (λ k a q front zone. remade_block geometry old new used j (a ∷ q) fits marked keeps
          (record { file = place.file; place = place_front (form_at geometry old j) p (a ∷ q) place.place (front_above p q k a front) }) zone);
      blocks = λ p r place some h. (remade_block geometry old new used j p fits marked keeps place (zoned j p place some)).bytes r h;
    }

-- the bytes that no call changes are unchanged
remade_around : (geometry : Geometry) (old new : List ℕ) (used : List Bool) → Fits geometry old → KeepsUsed geometry used old new
    → StaysAround geometry old new
remade_around geometry old new used fits keeps =
    let order = super_order geometry.edition in
    let behind = zone_behind geometry old fits in
    record {
      len = keeps.len;
      before = keeps.below;
      flags = λ k a b. keeps.between k (omega (arith, order)) (omega (arith, order, behind));
      rest = λ k a b. keeps.between k (omega (arith, order)) (omega (arith, behind));
      behind = keeps.above;
    }

-- block 0 isn't a data block
behind_zero : (geometry : Geometry) (image : List ℕ) → Fits geometry image → 1 ≤ geometry.zone_start
behind_zero geometry image fits = omega (arith, fits.i_list)

-- setting the time of an image's state to the time in its super-block changes nothing
at_own_time : (geometry : Geometry) (image : List ℕ) → at_time (long image (time_place geometry.edition)) (state geometry image) ≡ state geometry image
unfolding tree
at_own_time geometry image = refl

-- the tree and the shapes are unchanged
remade_state : (geometry : Geometry) (old new : List ℕ) (used : List Bool) → Fits geometry old → AreNamed geometry old used
    → KeepsUsed geometry used old new → IsZoned geometry old → state geometry new ≡ state geometry old
remade_state geometry old new used fits marked keeps zoned =
    let order = super_order geometry.edition in
    let behind = zone_behind geometry old fits in
    let time : long new (time_place geometry.edition) ≡ long old (time_place geometry.edition) =
    long_copied old new (time_place geometry.edition) (time_place geometry.edition) 4 0 (time_place geometry.edition) (time_place geometry.edition)
    (record { bytes = λ k h. keeps.between (time_place geometry.edition + k) (omega (arith, order)) (omega (arith, order, behind)) })
    (omega arith) (omega arith) (omega arith) in
    makes_time geometry old new (long old (time_place geometry.edition)) time
    (λ j first last.
    let content = remade_content geometry old new used j fits marked keeps zoned first last in (
      node_same geometry old new j content first last (inode_of_kept geometry old new j (remade_inode geometry old new used j fits keeps first last)),
      shape_same geometry old new j content first last,
    ))
    ∙ at_own_time geometry old

-- rules 3 to 8 hold after the rebuild
remade_whole : (geometry : Geometry) (old new : List ℕ) (used : List Bool) → Fits geometry old → Fits geometry new → AreNamed geometry old used
    → KeepsUsed geometry used old new → IsFree geometry new (unused geometry used) → HasKinds geometry old → HasSizes geometry old
    → IsZoned geometry old → IsApart geometry old → Rules3To8 geometry new
remade_whole geometry old new used fits after marked keeps free kinds sizes zoned apart =
    let content : (j : ℕ) → 1 ≤ j → j ≤ geometry.last_inode → KeepsContent geometry old new j =
    λ j first last. remade_content geometry old new used j fits marked keeps zoned first last in
    let names = names_stay geometry old new content in
    let still_zoned : IsZoned geometry new = λ j p place some.
    let before = names.from j p place some in
    ap (in_zone geometry) before.1 ∙ zoned j p before.0 (λ none. some (before.1 ∙ none)) in
    record {
      blocks = unused geometry used;
      sound = record {
        fits = after;
        kinds = kinds_kept geometry old new fits (λ j first last. kind_same geometry old new j (content j first last)) kinds;
        sizes = sizes_stay geometry old new content
            (λ j first last some. rw (inode_of_kept geometry old new j (remade_inode geometry old new used j fits keeps first last)) (sizes.links j first last some))
            sizes;
        zoned = still_zoned;
        free = free;
        apart = λ j k p q place other some e.
            let before = names.from j p place some in
            let too = names.from k q other (λ none. some (e ∙ none)) in
            apart j k p q before.0 too.0 (λ none. some (before.1 ∙ none)) (sym before.1 ∙ (e ∙ too.1));
        outside = λ j p place i.
            let all = unused_in geometry used geometry.zone_start (named geometry new j p) (omega (arith, fits.zone)) i in
            let some : named geometry new j p ≢ 0 = λ none. omega (arith, all.0, behind_zero geometry old fits) in
            let before = names.from j p place some in
            let zone = zoned j p before.0 (λ none. some (before.1 ∙ none)) in
            let set = (marked (named geometry old j p)).1
            (j, p, record { place = before.0; holds = named_holds geometry old j p (named geometry old j p) fits refl (zone_some geometry old (named geometry old j p) fits zone) }) in
            both_ways _ (rw before.1 at all.2) set;
      };
      covered = λ k zone. elim (cases_Bool (get_or used k false)) [
        | inl set ↦
            let by = (marked k).0 set in
            let is = holds_named geometry old by.0 by.1 k by.2.holds in
            let now = names.to by.0 by.1 by.2.place (λ none. is.1 (sym is.0 ∙ none)) in
            inr (by.0, by.1, record { place = now.0; holds = named_holds geometry new by.0 by.1 k after (sym now.1 ∙ is.0) is.1 })
        | inr clear ↦
            inl (in_unused geometry used geometry.zone_start k (zone_from geometry k zone) (zone_below geometry k zone) clear)
      ];
    }

-- the rules about directories hold after the rebuild
remade_graph : (geometry : Geometry) (old new : List ℕ) (used : List Bool) → Fits geometry old → AreNamed geometry old used
    → KeepsUsed geometry used old new → IsZoned geometry old → HasKinds geometry old → HasSizes geometry old → HasSizes geometry new
    → HasEntries geometry old → HasDots geometry old → IsTree geometry old → HasLinks geometry old
    → HasEntries geometry new × HasDots geometry new × IsTree geometry new × HasLinks geometry new
remade_graph geometry old new used fits marked keeps zoned known sizes later entries dots reached links =
    let content : (j : ℕ) → 1 ≤ j → j ≤ geometry.last_inode → KeepsContent geometry old new j =
    λ j first last. remade_content geometry old new used j fits marked keeps zoned first last in
    rules_from_graph geometry new later
    (same_sound (graph_of geometry old) (graph_of geometry new) (root_of geometry) geometry.last_inode (graph_within geometry old)
    (graph_within geometry new) (graph_from_rules geometry old fits known sizes entries dots reached links)
    (same_graph geometry old new (λ x first last. kind_same geometry old new x (content x first last))
    (λ x first last. ap (λ node. node.links) (inode_of_kept geometry old new x (remade_inode geometry old new used x fits keeps first last)))
    (λ x is. (content x is.first is.last).size)
    (λ x s is. entry_same geometry old new x s (content x is.first is.last) (file_by geometry old x kinds.Directory is.first is.last is.kind refl))))

-- an image with faults only in its free list is salvaged after the list is rebuilt
pub salvaged : (edition : Edition) (old new : List ℕ) (used : List Bool) → KeepsRules false edition old → Fits (geometry_of edition old) old
    → Fits (geometry_of edition old) new → AreNamed (geometry_of edition old) old used → KeepsUsed (geometry_of edition old) used old new
    → IsFree (geometry_of edition old) new (unused (geometry_of edition old) used) → IsSalvaged edition old new
unfolding Rule
salvaged edition old new used rules fits after marked keeps free =
    let geometry = geometry_of edition old in
    let around = remade_around geometry old new used fits keeps in
    let same : geometry_of edition new ≡ geometry = geometry_kept geometry old new around in
    let whole = remade_whole geometry old new used fits after marked keeps free (rules 3) (rules 4) (rules 5) (rules 7).0 in
    let graph = remade_graph geometry old new used fits marked keeps (rules 5) (rules 3) (rules 4) whole.sound.sizes (rules 9) (rules 10) (rules 11) (rules 12) in
    record {
      rules = rules;
      sound = sound_by edition geometry new same (whole_kept edition old new same keeps.len (rules 1)) (bounded_kept edition old new same (rules 2)) whole graph;
      reads = ap (λ g. state g new) same ∙ remade_state geometry old new used fits marked keeps (rules 5);
      around = around;
      used = used;
      named = marked;
      free = free;
      stays = keeps;
    }
