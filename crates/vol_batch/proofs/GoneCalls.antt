-- The path after the last of the calls.
use Rattle.std.proofs.Common.{◌≡◌, ◌≢◌, ◌∙◌, sym, ap, subst, ℕ, false, cond, List, [], ◌∷◌, ◌++◌, None, Some, Ok, Err}
use Rattle.std.specs.Prelude.{Option}
use Rattle.std.specs.List.{list_any}
use Rattle.vol_layout.specs.Geometry.{geometry_of}
use Rattle.vol_file.specs.Rules.{Rules3To7}
use Rattle.vol_dir.specs.Names.{Names}
use Rattle.vol_dir.specs.Tree.{Tree, State, state, tree}
use Rattle.vol_dir.specs.Walk.{root, has_zero, components, walk_from, walk, walk_parent}
use Rattle.vol_change.specs.Edits.{at_time, set_at}
use Rattle.vol_change.specs.Effects.{after_unlink, after_rmdir}
use Rattle.vol_change.specs.Ready.{Rules1To12, Becomes}
use Rattle.vol_change.proofs.ReadyLaws.{ready_whole, ready_entries}
use Rattle.vol_volume.specs.Answer.{answer, query_refusal, reply_of, refused_or}
use Rattle.vol_layout.specs.Ids.{is_bad_id}
use Rattle.vol_volume.specs.Step.{on_parent, changed_by, step}
use Rattle.vol_volume.specs.Verdict.{verdict, of_node, of_parent, unlink_tests, rmdir_tests}
use Rattle.vol_volume.specs.Volume.{Mounted, Accepts}
use Rattle.vol_batch.specs.Removal.{call_of}
use Rattle.vol_batch.proofs.GoneNames.{walk_gone}
use Rattle.vol_volume.proofs.TreeWalks.{Reaches, passes_first, reaches, parent_found, names_lead, root_there}
use Rattle.vol_batch.proofs.GoneTrees.{Stays, without, loses, stays_unlink, stays_rmdir}
use Rattle.vol_dir.specs.declared.refusal.Refusal.{Refusal}
use Rattle.vol_dir.specs.declared.refusal.Refusal.TheVariants as refusals
use Rattle.vol_layout.specs.declared.geometry.Geometry.{Geometry}
use Rattle.vol_dir.specs.Access.{user}
use Rattle.vol_volume.specs.declared.calls.Call.TheVariants.{Unlink, Rmdir}
use Rattle.vol_volume.specs.declared.calls.Done.{Done}
use Rattle.vol_volume.specs.declared.queries.Query.TheVariants as queries

-- a Stat of a path is refused if its walk is
answer_of : (tree : Tree) (path : List ℕ) (refusal : Refusal) → is_bad_id tree.geometry.edition 0 0 ≡ false → list_any has_zero (path ∷ []) ≡ false
    → walk tree user path ≡ Err refusal → answer tree (queries.Stat user path) ≡ Err refusal
unfolding query_refusal
answer_of tree path refusal good plain is =
    ap (λ o. refused_or o (reply_of tree (queries.Stat user path)))
    (ap (λ b. cond b (Some refusals.BadId) (cond (list_any has_zero (path ∷ [])) (Some refusals.Invalid) (of_node (walk tree user path) (λ i. None)))) good
    ∙ (ap (λ b. cond b (Some refusals.Invalid) (of_node (walk tree user path) (λ i. None))) plain
    ∙ ap (λ r. of_node r (λ i. None)) is))

-- a walk of a path whose last name was removed ends with NoEntry
walk_over : (g : Geometry) (old new path : List ℕ) (d : ℕ) (name : List ℕ) (front : List (List ℕ)) → (tree g new).nodes (root (tree g new)) ≢ None
    → ((x : ℕ) → (tree g new).nodes x ≢ None → walk_from (tree g old) user x front ≡ Ok d
    → walk_from (tree g new) user x (front ++ name ∷ []) ≡ Err refusals.NoEntry)
    → walk_from (tree g old) user (root (tree g old)) front ≡ Ok d → components path ≡ front ++ name ∷ []
    → walk (tree g new) user path ≡ Err refusals.NoEntry
unfolding tree walk
walk_over g old new path d name front there gone walks parts =
    ap (walk_from (tree g new) user (root (tree g new))) parts ∙ gone (root (tree g new)) there walks

-- a path whose last name was removed leads nowhere
gone_by : (g : Geometry) (old new path : List ℕ) (now d : ℕ) (name : List ℕ) → Reaches (tree g old) path d name → Rules1To12 g new
    → Stays (set_at (tree g old).nodes d (without now name ((tree g old).nodes d))) (tree g new).nodes
    → walk (tree g new) user path ≡ Err refusals.NoEntry
gone_by g old new path now d name reached ready stays =
    let whole = ready_whole g new ready in
    let rules : Rules3To7 g new = record { blocks = whole.blocks; sound = whole.sound } in
    let leads = names_lead g new rules (ready_entries g new ready) in
    let lost = loses (tree g old) (tree g new) now d name stays leads in
    walk_over g old new path d name reached.front (root_there g new rules)
    (walk_gone (tree g old) (tree g new) user d name reached.names lost reached.searched reached.front) reached.walks reached.parts

-- after an accepted Unlink its path leads nowhere
pub unlink_gone : (g : Geometry) (old new path : List ℕ) (now : ℕ) (done : Done) → verdict (state g old) (Unlink user now path) ≡ None
    → Becomes g old new (step (state g old) (Unlink user now path) done) → answer (tree g new) (queries.Stat user path) ≡ Err refusals.NoEntry
unfolding verdict changed_by tree
unlink_gone g old new path now done accepted becomes =
    let first = passes_first (tree g old) path (of_parent (walk_parent (tree g old) user path) refusals.IsDirectory (unlink_tests (state g old) user)) accepted in
    let parent = parent_found (walk_parent (tree g old) user path) refusals.IsDirectory (unlink_tests (state g old) user) first.others_pass in
    let made : state g new ≡ at_time now (after_unlink (state g old) now parent.0 parent.1) =
    becomes.makes ∙ ap (λ p. at_time now (on_parent (state g old) p (after_unlink (state g old) now))) parent.2 in
    let stays = subst (λ (s : State). Stays (set_at (tree g old).nodes parent.0 (without now parent.1 ((tree g old).nodes parent.0))) s.tree.nodes) (sym made)
    (stays_unlink (state g old) now now parent.0 parent.1) in
    answer_of (tree g new) path refusals.NoEntry first.good_id first.no_zero
    (gone_by g old new path now parent.0 parent.1 (reaches (tree g old) path parent.0 parent.1 parent.2) becomes.ready stays)

-- after an accepted Rmdir its path leads nowhere
rmdir_gone : (g : Geometry) (old new path : List ℕ) (now : ℕ) (done : Done) → verdict (state g old) (Rmdir user now path) ≡ None
    → Becomes g old new (step (state g old) (Rmdir user now path) done) → answer (tree g new) (queries.Stat user path) ≡ Err refusals.NoEntry
unfolding verdict changed_by tree
rmdir_gone g old new path now done accepted becomes =
    let first = passes_first (tree g old) path (of_parent (walk_parent (tree g old) user path) refusals.Invalid (rmdir_tests (state g old) user)) accepted in
    let parent = parent_found (walk_parent (tree g old) user path) refusals.Invalid (rmdir_tests (state g old) user) first.others_pass in
    let made : state g new ≡ at_time now (after_rmdir (state g old) now parent.0 parent.1) =
    becomes.makes ∙ ap (λ p. at_time now (on_parent (state g old) p (after_rmdir (state g old) now))) parent.2 in
    let stays = subst (λ (s : State). Stays (set_at (tree g old).nodes parent.0 (without now parent.1 ((tree g old).nodes parent.0))) s.tree.nodes) (sym made)
    (stays_rmdir (state g old) now now parent.0 parent.1) in
    answer_of (tree g new) path refusals.NoEntry first.good_id first.no_zero
    (gone_by g old new path now parent.0 parent.1 (reaches (tree g old) path parent.0 parent.1 parent.2) becomes.ready stays)

-- after the call for a path, the path leads nowhere
pub call_gone : (mid new : Mounted) (path : List ℕ) (now : ℕ) (names : Option Names) (done : Done) → Accepts mid new (call_of now path names) done
    → answer (tree (geometry_of mid.edition mid.image) new.image) (queries.Stat user path) ≡ Err refusals.NoEntry
call_gone mid new path now None done accepts =
    unlink_gone (geometry_of mid.edition mid.image) mid.image new.image path now done accepts.accepted accepts.performed.changes
call_gone mid new path now (Some names) done accepts =
    rmdir_gone (geometry_of mid.edition mid.image) mid.image new.image path now done accepts.accepted accepts.performed.changes
