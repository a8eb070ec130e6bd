-- The result of a removal, and the reasons why there is none.
use Rattle.std.proofs.Common.{◌≡◌, ◌∙◌, sym, ap, subst, refl, ℕ, List, [], ◌∷◌, ◌++◌, Err}
use Rattle.vol_layout.specs.Geometry.{geometry_of}
use Rattle.vol_judge.specs.Sound.{IsSound}
use Rattle.vol_dir.specs.Tree.{Tree, tree}
use Rattle.vol_change.specs.Ready.{Rules1To12}
use Rattle.vol_volume.specs.Answer.{answer}
use Rattle.vol_volume.specs.Faults.{IsFaultOf}
use Rattle.vol_volume.specs.Volume.{Mounted, IsConsistent, Accepts, mounted, reads_as}
use Rattle.vol_batch.specs.Batch.{AreMade}
use Rattle.vol_batch.proofs.MadeCalls.{made_calls}
use Rattle.vol_batch.specs.FreedNumbers.{FreesNumbers}
use Rattle.vol_batch.specs.Removal.{IsRemoval, IsNotFound, names_of, call_of}
use Rattle.vol_batch.specs.Remove.{RemovesTo, IsReason, IsUnmounted, IsStop, unmounted}
use Rattle.vol_batch.proofs.FreedBlocks.{blocks_free}
use Rattle.vol_batch.proofs.FreedNumbers.{takes_taking, numbers_freed}
use Rattle.vol_batch.proofs.GoneCalls.{call_gone}
use Rattle.vol_batch.proofs.TakenPaths.{takes_last}
use Rattle.vol_dir.specs.declared.refusal.Refusal.TheVariants as refusals
use Rattle.vol_layout.specs.declared.edition.Edition.{Edition}
use Rattle.vol_dir.specs.Access.{user}
use Rattle.vol_volume.specs.declared.calls.Call.{Call}
use Rattle.vol_volume.specs.declared.calls.Done.{Done}
use Rattle.vol_volume.specs.declared.queries.Query.TheVariants as queries
use Rattle.vol_volume.specs.declared.volume.MountFault.{MountFault}
use Rattle.vol_volume.specs.declared.volume.MountFault.TheVariants as mounts
use Rattle.vol_batch.specs.declared.faults.RemovalFault.{RemovalFault}
use Rattle.vol_batch.specs.declared.faults.RemovalFault.TheVariants as faults

-- calls that a volume accepts don't change its edition
edition_kept : (old new : Mounted) (calls : List Call) → AreMade old calls new → new.edition ≡ old.edition
unfolding AreMade
edition_kept old new [] made = ap (λ (v : Mounted). v.edition) made
edition_kept old new (call ∷ calls) made = edition_kept made.0 new calls made.3 ∙ made.2.edition

-- a volume accepted this call last
record EndsWith (new : Mounted) (call : Call) : Type 0 where
  pub mid : Mounted
  pub done : Done
  pub accepts : Accepts mid new call done

ends_with : (old new : Mounted) (inner : List Call) (call : Call) → AreMade old (inner ++ call ∷ []) new → EndsWith new call
unfolding AreMade
ends_with old new [] call made = record {
  mid = old;
  done = made.1;
  accepts = subst (λ (v : Mounted). Accepts old v call made.1) (sym made.3) made.2;
}
ends_with old new (first ∷ inner) call made = ends_with made.0 new inner call made.3

-- the last call doesn't change the geometry
ended_sizes : (new : Mounted) (call : Call) (ends : EndsWith new call) → geometry_of ends.mid.edition ends.mid.image ≡ geometry_of new.edition new.image
ended_sizes new call ends =
    ends.accepts.performed.changes.ready.sizes ∙ ap (λ e. geometry_of e new.image) (sym ends.accepts.edition)

-- after the last call of a removal its path leads nowhere
ended_gone : (new : Mounted) (path : List ℕ) (now : ℕ) (tree_before : Tree) → EndsWith new (call_of now path (names_of tree_before path))
    → answer (reads_as new.edition new.image).tree (queries.Stat user path) ≡ Err refusals.NoEntry
ended_gone new path now before ends =
    ap (λ g. answer (tree g new.image) (queries.Stat user path)) (sym (ended_sizes new (call_of now path (names_of before path)) ends))
    ∙ call_gone ends.mid new path now (names_of before path) ends.done ends.accepts

-- if all calls of a removal are made, the volume is its result
removes_from : (edition : Edition) (image path : List ℕ) (now : ℕ) (new : Mounted) (calls : List Call) → IsSound edition image
    → IsRemoval (reads_as edition image).tree path now calls → AreMade (mounted edition image) calls new → IsConsistent new
    → RemovesTo edition image path now new
removes_from edition image path now new calls sound removal made consistent =
    let before = (reads_as edition image).tree in
    let old = mounted edition image in
    let last = takes_last before now path calls removal.takes in
    let ends = ends_with old new last.0 (call_of now path (names_of before path)) (subst (λ cs. AreMade old cs new) last.1 made) in
    let taking = takes_taking before now (path ∷ []) calls removal.takes in
    let same = edition_kept old new calls made in
    let ready = subst (λ g. Rules1To12 g new.image) (ended_sizes new (call_of now path (names_of before path)) ends) ends.accepts.performed.changes.ready in
    record {
      removes = record {
        calls = calls;
        removal = removal;
        made = made_calls edition image new.image calls new sound made consistent refl;
        gone = subst (λ e. answer (reads_as e new.image).tree (queries.Stat user path) ≡ Err refusals.NoEntry) same (ended_gone new path now before ends);
        numbers = subst (λ e. FreesNumbers before calls (reads_as e new.image).tree) same (numbers_freed old new calls taking made ready same);
        blocks = blocks_free old new calls sound taking made;
      };
      accepts = made;
    }

pub all_removed : (edition : Edition) (image path : List ℕ) (now : ℕ) (old new : Mounted) (calls : List Call) → IsSound edition image
    → old ≡ mounted edition image → IsRemoval (reads_as old.edition old.image).tree path now calls → AreMade old calls new → IsConsistent new
    → RemovesTo edition image path now new
all_removed edition image path now old new calls sound is removal made consistent =
    removes_from edition image path now new calls sound
    (subst (λ (v : Mounted). IsRemoval (reads_as v.edition v.image).tree path now calls) is removal)
    (subst (λ (v : Mounted). AreMade v calls new) is made) consistent

-- a fault of mounting is a reason not to remove a path
unmounted_reason : (edition : Edition) (image path : List ℕ) (now : ℕ) (why : MountFault) → IsFaultOf edition image why → IsReason edition image path now (unmounted why)
unfolding IsReason
unmounted_reason edition image path now (mounts.Unsound rule) is = is
unmounted_reason edition image path now mounts.NoMemory is = tt

pub no_volume : (edition : Edition) (image path : List ℕ) (now : ℕ) (fault : RemovalFault) → IsUnmounted edition image fault → IsReason edition image path now fault
unfolding IsUnmounted
no_volume edition image path now fault is = subst (IsReason edition image path now) (sym is.1) (unmounted_reason edition image path now is.0 is.2)

pub is_unmounted : (edition : Edition) (image : List ℕ) (why : MountFault) (fault : RemovalFault) → fault ≡ unmounted why → IsFaultOf edition image why
    → IsUnmounted edition image fault
unfolding IsUnmounted
is_unmounted edition image why fault is cause = (why, is, cause)

-- a path that leads nowhere is a reason not to remove it
missing_reason : (edition : Edition) (image path : List ℕ) (now : ℕ) (fault : RemovalFault) → IsSound edition image
    → IsNotFound (reads_as edition image).tree path fault → IsReason edition image path now fault
unfolding IsReason
missing_reason edition image path now (faults.Unsound rule) sound is = absurd is
missing_reason edition image path now (faults.Missing refusal) sound is = (sound, is)
missing_reason edition image path now (faults.Refused refusal call) sound is = absurd is
missing_reason edition image path now faults.NoMemory sound is = tt

pub not_found : (edition : Edition) (image path : List ℕ) (now : ℕ) (old : Mounted) (fault : RemovalFault) → IsSound edition image → old ≡ mounted edition image
    → IsNotFound (reads_as old.edition old.image).tree path fault → IsReason edition image path now fault
not_found edition image path now old fault sound is missing =
    missing_reason edition image path now fault sound (subst (λ (v : Mounted). IsNotFound (reads_as v.edition v.image).tree path fault) is missing)

-- a refused call is a reason not to remove a path
stop_reason : (edition : Edition) (image path : List ℕ) (now : ℕ) (calls : List Call) (new : Mounted) (fault : RemovalFault) → IsSound edition image
    → IsRemoval (reads_as edition image).tree path now calls → IsStop (mounted edition image) calls new fault → IsReason edition image path now fault
unfolding IsStop IsReason
stop_reason edition image path now calls new (faults.Unsound rule) sound removal is = absurd is
stop_reason edition image path now calls new (faults.Missing refusal) sound removal is = absurd is
stop_reason edition image path now calls new (faults.Refused refusal call) sound removal is =
    (sound, record { calls = calls; removal = removal; volume = new; stopped = is })
stop_reason edition image path now calls new faults.NoMemory sound removal is = tt

pub not_made : (edition : Edition) (image path : List ℕ) (now : ℕ) (old new : Mounted) (calls : List Call) (fault : RemovalFault) → IsSound edition image
    → old ≡ mounted edition image → IsRemoval (reads_as old.edition old.image).tree path now calls → IsStop old calls new fault
    → IsReason edition image path now fault
not_made edition image path now old new calls fault sound is removal stop =
    stop_reason edition image path now calls new fault sound
    (subst (λ (v : Mounted). IsRemoval (reads_as v.edition v.image).tree path now calls) is removal)
    (subst (λ (v : Mounted). IsStop v calls new fault) is stop)
