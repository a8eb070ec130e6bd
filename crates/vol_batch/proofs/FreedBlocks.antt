-- The blocks freed by calls that remove names.
use Rattle.std.proofs.Common.{◌≡◌, ◌≢◌, ◌⊎◌, ◌∙◌, sym, ap, subst, ℕ, Bool, true, false, cond, if◌then◌else◌, nat_le, List, [], ◌∷◌, ◌++◌, Option, None, Some, Result, Ok, inl, inr, refl}
use Rattle.std.specs.Option.{option_map}
use Rattle.std.proofs.lemmas.Bool.{cases_eq, false≢true}
use Rattle.vol_layout.specs.Geometry.{geometry_of, in_zone}
use Rattle.vol_layout.specs.Inode.{inode_of, kind_of}
use Rattle.vol_layout.specs.BlockPointers.{mode_of, form_at, IsFile, IsPlaceOf, named}
use Rattle.vol_layout.specs.BlockMaps.{form_of, has_places, IsPlace, places}
use Rattle.vol_layout.specs.declared.geometry.Geometry.{Geometry}
use Rattle.vol_layout.proofs.NameLaws.{holds_named}
use Rattle.vol_free.specs.Stack.{IsIn}
use Rattle.vol_file.specs.Changes.{blocks_of}
use Rattle.vol_file.specs.Rules.{kind_at}
use Rattle.vol_file.proofs.PlaceLists.{places_among}
use Rattle.vol_dir.specs.Access.{user}
use Rattle.vol_dir.specs.Names.{Names}
use Rattle.vol_dir.specs.Tree.{State, tree, state, node_with}
use Rattle.vol_dir.specs.Walk.{walk_parent}
use Rattle.vol_dir.proofs.WalkLaws.{node_inside}
use Rattle.vol_dir.specs.declared.refusal.Refusal.{Refusal}
use Rattle.vol_dir.specs.declared.refusal.Refusal.TheVariants as refusals
use Rattle.vol_judge.specs.Sound.{IsSound}
use Rattle.vol_judge.proofs.AllBlocks.{NamedBy}
use Rattle.vol_judge.proofs.FileBlocks.{blocks_at_all}
use Rattle.vol_judge.proofs.NamedOnce.{at_in, in_left, in_right}
use Rattle.vol_change.specs.Alone.{KeepsContent}
use Rattle.vol_change.specs.Changed.{FreeBecomes, KeepsFilesBut, as_before, blocks_freed}
use Rattle.vol_change.specs.Edits.{at_time, remove_entry, remove_node, drop_link, release}
use Rattle.vol_change.specs.Effects.{after_unlink, after_rmdir}
use Rattle.vol_change.specs.Nodes.{node_at, number_of_name}
use Rattle.vol_change.specs.Whole.{Rules3To8}
use Rattle.vol_change.proofs.NodeEdits.{set_here}
use Rattle.vol_change.proofs.NodeLinks.{content_there}
use Rattle.vol_change.proofs.ReadyLaws.{ready_whole}
use Rattle.vol_change.proofs.WholeLaws.{geometry_kept, whole_of}
use Rattle.vol_file.proofs.Alone.{fits_len}
use Rattle.vol_volume.specs.Reach.{Reach, gives, unlinked, removed, without_entry, reach_of_parent, reached_by}
use Rattle.vol_volume.specs.Step.{on_parent, changed_by}
use Rattle.vol_volume.specs.Verdict.{verdict, of_parent, unlink_tests, rmdir_tests}
use Rattle.vol_volume.specs.Volume.{Mounted, Accepts, Performs}
use Rattle.vol_volume.specs.declared.calls.Call.{Call}
use Rattle.vol_volume.specs.declared.calls.Call.TheVariants.{Unlink, Rmdir}
use Rattle.vol_volume.specs.declared.calls.Done.{Done}
use Rattle.vol_volume.proofs.NodeReadings.{node_of_kind}
use Rattle.vol_batch.specs.Batch.{AreMade}
use Rattle.vol_volume.proofs.TreeWalks.{passes_first, parent_found}
use Rattle.vol_batch.specs.FreedNumbers.{IsFreeBlock, FreesBlocks}
use Rattle.vol_batch.specs.Removal.{call_of}
use Rattle.vol_batch.proofs.FreedNumbers.{AreTaking, IsTaking, links_of, set_alike, without_links}
use Rattle.vol_batch.proofs.GoneTrees.{without}

-- a block-map position of a file is still one if the mode is unchanged
place_over : (g : Geometry) (one other : List ℕ) (i : ℕ) (p : List ℕ) → mode_of g other i ≡ mode_of g one i → IsPlaceOf g one i p → IsPlaceOf g other i p
place_over g one other i p same place = record {
  file = record {
    first = place.file.first;
    last = place.file.last;
    kind = ap (λ m. has_places (kind_of g.edition m)) same ∙ place.file.kind;
  };
  place = subst (λ m. IsPlace (form_of g.edition m) p) (sym same) place.place;
}

-- the block map of a file with unchanged content points to the same blocks
named_after : (g : Geometry) (old new : List ℕ) (i k : ℕ) (p : List ℕ) → KeepsContent g old new i → NamedBy g old i p k → NamedBy g new i p k
named_after g old new i k p kept by =
    record { place = place_over g old new i p kept.mode by.place; is = kept.names p by.place ∙ by.is; some = by.some }

named_before : (g : Geometry) (old new : List ℕ) (i k : ℕ) (p : List ℕ) → KeepsContent g old new i → NamedBy g new i p k → NamedBy g old i p k
named_before g old new i k p kept by =
    let place = place_over g new old i p (sym kept.mode) by.place in record { place = place; is = sym (kept.names p place) ∙ by.is; some = by.some }

-- the blocks in the block map of a freed file are freed
freed_in : (g : Geometry) (image : List ℕ) (i k : ℕ) (p : List ℕ) → NamedBy g image i p k → IsIn k (blocks_freed g image i)
freed_in g image i k p by =
    let all : blocks_freed g image i ≡ blocks_of g image i = ap (λ t. if t then blocks_of g image i else []) by.place.file.kind in
    let here : IsIn (named g image i p) (blocks_of g image i) =
    subst (IsIn (named g image i p)) (sym (blocks_at_all g image i))
    (at_in g image i p (places (form_at g image i)) (places_among (form_at g image i) p by.place.place) (λ none. by.some (sym by.is ∙ none))) in
    subst (IsIn k) (sym all) (subst (λ b. IsIn b (blocks_of g image i)) by.is here)

-- a file is a node
file_there : (g : Geometry) (image : List ℕ) (i : ℕ) → IsFile g image i → (tree g image).nodes i ≢ None
file_there g image i file none =
    let kind = kind_at g image i in
    let held = content_there g image i kind (λ is. false≢true (sym (ap has_places is) ∙ file.kind)) (λ is. false≢true (sym (ap has_places is) ∙ file.kind)) in
    let some : Some (node_with (inode_of g.edition image i) held.0) ≡ None =
    sym (node_inside g image i file.first file.last ∙ (node_of_kind g image i kind refl ∙ ap (option_map (node_with (inode_of g.edition image i))) held.1)) ∙ none in
    absurd (cc)

-- free blocks are still free, and each block of a file is free or still belongs to the same file
record FreesOrKeeps (g : Geometry) (old new : List ℕ) : Type 0 where
  pub free : (k : ℕ) → IsFreeBlock g old k → IsFreeBlock g new k
  pub named : (i k : ℕ) (p : List ℕ) → NamedBy g old i p k → IsFreeBlock g new k ⊎ ((q : List ℕ) × NamedBy g new i q k)

-- a change of directory `d` and of file `i` satisfies `FreesOrKeeps`, if `i` is `d`, or if `i` is gone and its blocks are free
frees_or_keeps : (g : Geometry) (old new : List ℕ) (d i : ℕ) (freed : List ℕ) → Rules3To8 g old → Rules3To8 g new
    → FreeBecomes g old new (λ blocks. freed ++ blocks) → KeepsFilesBut g old new d i
    → (d ≡ i) ⊎ (((tree g new).nodes i ≡ None) × (freed ≡ blocks_freed g old i)) → FreesOrKeeps g old new
frees_or_keeps g old new d i freed rules after listed kept gone = record {
  free = λ k block.
      record { blocks = freed ++ block.blocks; free = listed block.blocks block.free; among = in_right k freed block.blocks block.among };
  named = λ j k p by. elim (cases_eq j d) [
    | inl parent ↦ in_parent j k p by parent
    | inr other ↦ elim (cases_eq j i) [
      | inl same ↦ elim gone [
        | inl one ↦ absurd (other (same ∙ sym one))
        | inr went ↦
            let there = freed_in g old i k p (subst (λ x. NamedBy g old x p k) same by) in
            inl (record {
              blocks = freed ++ rules.blocks;
              free = listed rules.blocks rules.sound.free;
              among = in_left k freed rules.blocks (subst (IsIn k) (sym went.1) there);
            })
      ]
      | inr beside ↦ inr (p, named_after g old new j k p (kept j by.place.file.first by.place.file.last other beside) by)
    ]
  ];
}
  where
    -- a file that has the block afterwards is the one that had it before
    owner : (j k f : ℕ) (p q : List ℕ) → NamedBy g old j p k → j ≡ d → NamedBy g new f q k → f ≡ j
    owner j k f p q by parent now = elim (cases_eq f d) [
      | inl same ↦ same ∙ sym parent
      | inr other ↦ elim (cases_eq f i) [
        | inl at ↦ elim gone [
          | inl one ↦ absurd (other (at ∙ sym one))
          | inr went ↦ absurd (file_there g new i (subst (IsFile g new) at now.place.file) went.0)
        ]
        | inr beside ↦
            let was = named_before g old new f k q (kept f now.place.file.first now.place.file.last other beside) now in
            (rules.sound.apart f j q p was.place by.place (λ none. was.some (sym was.is ∙ none)) (was.is ∙ sym by.is)).0
      ]
    ]

    in_parent : (j k : ℕ) (p : List ℕ) → NamedBy g old j p k → j ≡ d → IsFreeBlock g new k ⊎ ((q : List ℕ) × NamedBy g new j q k)
    in_parent j k p by parent =
        let zone : in_zone g k ≡ true = ap (in_zone g) (sym by.is) ∙ rules.sound.zoned j p by.place (λ none. by.some (sym by.is ∙ none)) in
        elim (after.covered k zone) [
          | inl is ↦ inl (record { blocks = after.blocks; free = after.sound.free; among = is })
          | inr found ↦
              let is = holds_named g new found.0 found.1 k found.2.holds in
              let now : NamedBy g new found.0 found.1 k = record { place = found.2.place; is = is.0; some = is.1 } in
              inr (found.1, subst (λ f. NamedBy g new f found.1 k) (owner j k found.0 p found.1 by parent now) now)
        ]

-- a node that loses its last link is freed
release_gone : (state : State) (now i : ℕ) → nat_le (node_at state.tree i).links 1 ≡ true → (release now i state).tree.nodes i ≡ None
release_gone state now i few =
    ap (λ b. (cond b (remove_node i state) (drop_link now i state)).tree.nodes i) few ∙ set_here state.tree.nodes i None

-- the reach of an Unlink of a name in directory `d` that isn't the node's last name
abbrev kept_of : ℕ → Reach
kept_of d = record { file = d; other = d; listed = as_before; put = None }

abbrev reach_if : Geometry → List ℕ → ℕ → ℕ → Bool → Reach
reach_if g old d i last = cond last (gives d i (blocks_freed g old i)) (kept_of d)

-- an Unlink satisfies `FreesOrKeeps`
unlink_frees : (g : Geometry) (old new path : List ℕ) (now d : ℕ) (name : List ℕ) (done : Done) → walk_parent (tree g old) user path ≡ Some (Ok (d, name))
    → Rules3To8 g old → Performs g old new (Unlink user now path) done → FreesOrKeeps g old new
unfolding reached_by changed_by
unlink_frees g old new path now d name done walked rules performed =
    let i = number_of_name (tree g old) d name in
    let reached : reached_by g old (Unlink user now path) done ≡ without_entry g old d name (unlinked g old d i) =
    ap (λ w. reach_of_parent w (λ e text. without_entry g old e text (unlinked g old e (number_of_name (tree g old) e text)))) walked in
    let made : state g new ≡ at_time now (after_unlink (state g old) now d name) =
    performed.changes.makes ∙ ap (λ (p : Option (Result (ℕ × List ℕ) Refusal)). at_time now (on_parent (state g old) p (after_unlink (state g old) now))) walked in
    by (nat_le (node_at (tree g old) i).links 1) refl
    (subst (λ (r : Reach). FreeBecomes g old new r.listed) reached performed.rest.free)
    (subst (λ (r : Reach). KeepsFilesBut g old new r.file r.other) reached performed.rest.files) made
  where
    by : (last : Bool) → nat_le (node_at (tree g old) (number_of_name (tree g old) d name)).links 1 ≡ last
        → FreeBecomes g old new (reach_if g old d (number_of_name (tree g old) d name) last).listed
        → KeepsFilesBut g old new (reach_if g old d (number_of_name (tree g old) d name) last).file (reach_if g old d (number_of_name (tree g old) d name) last).other
        → state g new ≡ at_time now (after_unlink (state g old) now d name) → FreesOrKeeps g old new
    by true few listed kept made =
        let i = number_of_name (tree g old) d name in
        let first = remove_entry now d name (state g old) in
        let links : (node_at first.tree i).links ≡ (node_at (tree g old) i).links =
        set_alike links_of (tree g old).nodes d (without now name ((tree g old).nodes d)) i (without_links now name ((tree g old).nodes d)) in
        frees_or_keeps g old new d i (blocks_freed g old i) rules (ready_whole g new performed.changes.ready) listed kept
        (inr (ap (λ (s : State). s.tree.nodes i) made ∙ release_gone first now i (ap (λ n. nat_le n 1) links ∙ few), refl))
    by false many listed kept made =
        frees_or_keeps g old new d d [] rules (ready_whole g new performed.changes.ready) listed kept (inl refl)

-- an Rmdir satisfies `FreesOrKeeps`
rmdir_frees : (g : Geometry) (old new path : List ℕ) (now d : ℕ) (name : List ℕ) (done : Done) → walk_parent (tree g old) user path ≡ Some (Ok (d, name))
    → Rules3To8 g old → Performs g old new (Rmdir user now path) done → FreesOrKeeps g old new
unfolding reached_by changed_by
rmdir_frees g old new path now d name done walked rules performed =
    let i = number_of_name (tree g old) d name in
    let reached : reached_by g old (Rmdir user now path) done ≡ without_entry g old d name (removed g old d i) =
    ap (λ w. reach_of_parent w (λ e text. without_entry g old e text (removed g old e (number_of_name (tree g old) e text)))) walked in
    let made : state g new ≡ at_time now (after_rmdir (state g old) now d name) =
    performed.changes.makes ∙ ap (λ (p : Option (Result (ℕ × List ℕ) Refusal)). at_time now (on_parent (state g old) p (after_rmdir (state g old) now))) walked in
    frees_or_keeps g old new d i (blocks_freed g old i) rules (ready_whole g new performed.changes.ready)
    (subst (λ (r : Reach). FreeBecomes g old new r.listed) reached performed.rest.free)
    (subst (λ (r : Reach). KeepsFilesBut g old new r.file r.other) reached performed.rest.files)
    (inr (ap (λ (s : State). s.tree.nodes i) made ∙ set_here (drop_link now d (remove_entry now d name (state g old))).tree.nodes i None, refl))

-- each call of a removal satisfies `FreesOrKeeps`
call_frees : (g : Geometry) (old new path : List ℕ) (now : ℕ) (names : Option Names) (done : Done) → verdict (state g old) (call_of now path names) ≡ None
    → Rules3To8 g old → Performs g old new (call_of now path names) done → FreesOrKeeps g old new
unfolding verdict
call_frees g old new path now None done accepted rules performed =
    let first = passes_first (tree g old) path (of_parent (walk_parent (tree g old) user path) refusals.IsDirectory (unlink_tests (state g old) user)) accepted in
    let parent = parent_found (walk_parent (tree g old) user path) refusals.IsDirectory (unlink_tests (state g old) user) first.others_pass in
    unlink_frees g old new path now parent.0 parent.1 done parent.2 rules performed
call_frees g old new path now (Some names) done accepted rules performed =
    let first = passes_first (tree g old) path (of_parent (walk_parent (tree g old) user path) refusals.Invalid (rmdir_tests (state g old) user)) accepted in
    let parent = parent_found (walk_parent (tree g old) user path) refusals.Invalid (rmdir_tests (state g old) user) first.others_pass in
    rmdir_frees g old new path now parent.0 parent.1 done parent.2 rules performed

accepted_frees : (old mid : Mounted) (call : Call) (done : Done) → IsSound old.edition old.image → IsTaking call → Accepts old mid call done
    → FreesOrKeeps (geometry_of old.edition old.image) old.image mid.image
accepted_frees old mid call done sound taking accepts =
    let g = geometry_of old.edition old.image in
    let changes = accepts.performed.changes in
    let rules = whole_of old.edition old.image (fits_len g mid.image old.image (sym changes.around.len) changes.ready.fits) sound in
    subst (λ (c : Call). verdict (state g old.image) c ≡ None → Performs g old.image mid.image c done → FreesOrKeeps g old.image mid.image) (sym taking.3)
    (λ accepted performed. call_frees g old.image mid.image taking.1 taking.0 taking.2 done accepted rules performed) accepts.accepted accepts.performed

-- all calls of a removal together satisfy `FreesOrKeeps`
all_free : (old new : Mounted) (calls : List Call) → IsSound old.edition old.image → AreTaking calls → AreMade old calls new
    → FreesOrKeeps (geometry_of old.edition old.image) old.image new.image
unfolding AreMade
all_free old new [] sound taking made =
    subst (λ (v : Mounted). FreesOrKeeps (geometry_of old.edition old.image) old.image v.image) (sym made)
    (record { free = λ k block. block; named = λ i k p by. inr (p, by) })
all_free old new (call ∷ calls) sound taking made =
    let mid : Mounted = made.0 in
    let accepts : Accepts old mid call made.1 = made.2 in
    let g = geometry_of old.edition old.image in
    let same : geometry_of mid.edition mid.image ≡ g =
    ap (λ e. geometry_of e mid.image) accepts.edition ∙ geometry_kept g old.image mid.image accepts.performed.changes.around in
    let first = accepted_frees old mid call made.1 sound taking.0 accepts in
    let rest : FreesOrKeeps g mid.image new.image =
    subst (λ h. FreesOrKeeps h mid.image new.image) same
    (all_free mid new calls (subst (λ e. IsSound e mid.image) (sym accepts.edition) accepts.performed.changes.ready.sound) taking.1 made.3) in
    record {
      free = λ k block. rest.free k (first.free k block);
      named = λ i k p by. elim (first.named i k p by) [
        | inl block ↦ inl (rest.free k block)
        | inr at ↦ rest.named i k at.0 at.1
      ];
    }

-- each block of a removed file is free
pub blocks_free : (old new : Mounted) (calls : List Call) → IsSound old.edition old.image → AreTaking calls → AreMade old calls new
    → FreesBlocks (geometry_of old.edition old.image) old.image new.image
blocks_free old new calls sound taking made i k p names gone =
    let g = geometry_of old.edition old.image in
    let is = holds_named g old.image i p k names.holds in
    elim ((all_free old new calls sound taking made).named i k p (record { place = names.place; is = is.0; some = is.1 })) [
      | inl block ↦ block
      | inr at ↦ absurd (file_there g new.image i at.1.place.file gone)
    ]
