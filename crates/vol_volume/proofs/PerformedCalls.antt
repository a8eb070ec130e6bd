-- An image after a call's change.
use Rattle.std.proofs.Common.{◌≡◌, ℕ, ◌+◌, ◌^◌, ◌<◌, ◌≤◌, ◌∙◌, ap, sym, subst, nat_le, if◌then◌else◌, true, false, List, Some, Ok, refl, arith}
use Rattle.std.proofs.lemmas.Bool.Decides.{nat_tests}
use Rattle.vol_layout.specs.Edition.{constants}
use Rattle.vol_layout.specs.Geometry.{Fits}
use Rattle.vol_layout.specs.declared.edition.Edition.{Edition}
use Rattle.vol_layout.specs.declared.edition.Edition.TheVariants.{V6, V7}
use Rattle.vol_dir.specs.Names.{get}
use Rattle.vol_dir.specs.Tree.{State, tree, shapes, state, place_count, free_count}
use Rattle.vol_dir.specs.Walk.{walk, walk_parent}
use Rattle.vol_change.specs.Edits.{at_time, after_write, after_truncate}
use Rattle.vol_change.specs.Effects.{after_create, after_mkdir, after_link, after_unlink, after_rmdir, after_chmod, after_chown, after_utime}
use Rattle.vol_change.specs.Nodes.{node_at, names_at}
use Rattle.vol_change.specs.Ready.{Rules1To12, Becomes, free_in}
use Rattle.vol_change.proofs.FreeAfter.{free_after_unlink, free_after_last_unlink}
use Rattle.vol_volume.specs.Inodes.{KeepsInodes}
use Rattle.vol_volume.specs.Journal.{MayAnswer}
use Rattle.vol_volume.specs.Reach.{LeavesTheRest}
use Rattle.vol_volume.specs.Perform.{IsPerformed}
use Rattle.vol_volume.specs.Verdict.{creation, is_free_number}
use Rattle.vol_volume.specs.Step.{on_node, on_parent, changed_by, step}
use Rattle.vol_change.specs.declared.new_nodes.NewFile.{NewFile}
use Rattle.vol_change.specs.declared.new_nodes.NewFile.TheVariants.{Regular, Special}
use Rattle.vol_dir.specs.declared.cred.Cred.{Cred}
use Rattle.vol_layout.specs.declared.geometry.Geometry.{Geometry}
use Rattle.vol_volume.specs.declared.calls.Call.{Call}
use Rattle.vol_volume.specs.declared.calls.Call.TheVariants.{Mkdir, Link, Unlink, Rmdir, Write, Truncate, Chmod, Chown, Times}
use Rattle.vol_volume.specs.declared.calls.Done.{Done}
use Rattle.vol_volume.specs.declared.calls.Done.TheVariants.{Made, Plain}

-- a call is performed if the image reads as the state after the step, and the answer, the i-nodes, the rest of the image and the number of free
-- blocks are as required
pub performed_by : (geometry : Geometry) (old new : List ℕ) (call : Call) (done : Done) (made : State) (free : ℕ)
    → step (state geometry old) call done ≡ made → MayAnswer (state geometry old) call done → Becomes geometry old new made → KeepsInodes geometry old new
    → LeavesTheRest geometry old new call done → free ≡ free_in made → IsPerformed geometry old new call done free
performed_by geometry old new call done made free stepped answered changes inodes rest counted = record {
  performed = record {
    answered = answered;
    changes = subst (λ s. Becomes geometry old new s) (sym stepped) changes;
    inodes = inodes;
    rest = rest;
  };
  counted = counted ∙ ap free_in (sym changes.makes);
}

module _ (state : State) (cred : Cred) (now : ℕ) (path : List ℕ) where
  -- a creation may be answered with a free i-number
  pub create_answered : (file : NewFile) (perm made : ℕ) → is_free_number state.tree made ≡ true
      → MayAnswer state (creation file cred now path perm) (Made made)
  create_answered Regular perm made free = free
  create_answered (Special device) perm made free = free

  -- the step of a creation is `after_create` with the time set
  pub step_create : (file : NewFile) (perm made d : ℕ) (name : List ℕ) → walk_parent state.tree cred path ≡ Some (Ok (d, name))
      → step state (creation file cred now path perm) (Made made) ≡ at_time now (after_create state cred now perm file made d name)
  unfolding changed_by
  step_create Regular perm made d name walked = ap (λ w. at_time now (on_parent state w (after_create state cred now perm Regular made))) walked
  step_create (Special device) perm made d name walked =
      ap (λ w. at_time now (on_parent state w (after_create state cred now perm (Special device) made))) walked

  -- the step of Mkdir is `after_mkdir` with the time set
  pub step_mkdir : (perm made d : ℕ) (name : List ℕ) → walk_parent state.tree cred path ≡ Some (Ok (d, name))
      → step state (Mkdir cred now path perm) (Made made) ≡ at_time now (after_mkdir state cred now perm made d name)
  unfolding changed_by
  step_mkdir perm made d name walked = ap (λ w. at_time now (on_parent state w (after_mkdir state cred now perm made))) walked

  -- the step of Link is `after_link` with the time set
  pub step_link : (target : List ℕ) (i d : ℕ) (name : List ℕ) → walk state.tree cred path ≡ Ok i
      → walk_parent state.tree cred target ≡ Some (Ok (d, name))
      → step state (Link cred now path target) Plain ≡ at_time now (after_link state now i d name)
  unfolding changed_by
  step_link target i d name walked led =
      ap (λ w. at_time now (on_node state w (λ j. on_parent state (walk_parent state.tree cred target) (after_link state now j)))) walked
      ∙ ap (λ w. at_time now (on_parent state w (after_link state now i))) led

  -- the step of Unlink is `after_unlink` with the time set
  pub step_unlink : (d : ℕ) (name : List ℕ) → walk_parent state.tree cred path ≡ Some (Ok (d, name))
      → step state (Unlink cred now path) Plain ≡ at_time now (after_unlink state now d name)
  unfolding changed_by
  step_unlink d name walked = ap (λ w. at_time now (on_parent state w (after_unlink state now))) walked

  -- the step of Rmdir is `after_rmdir` with the time set
  pub step_rmdir : (d : ℕ) (name : List ℕ) → walk_parent state.tree cred path ≡ Some (Ok (d, name))
      → step state (Rmdir cred now path) Plain ≡ at_time now (after_rmdir state now d name)
  unfolding changed_by
  step_rmdir d name walked = ap (λ w. at_time now (on_parent state w (after_rmdir state now))) walked

  -- the step of Write is `after_write` with the time set
  pub step_write : (offset : ℕ) (bytes : List ℕ) (i : ℕ) (done : Done) → walk state.tree cred path ≡ Ok i
      → step state (Write cred now path offset bytes) done ≡ at_time now (after_write state now offset bytes i)
  unfolding changed_by
  step_write offset bytes i done walked = ap (λ w. at_time now (on_node state w (after_write state now offset bytes))) walked

  -- the step of Truncate is `after_truncate` with the time set
  pub step_truncate : (size i : ℕ) → walk state.tree cred path ≡ Ok i
      → step state (Truncate cred now path size) Plain ≡ at_time now (after_truncate state now size i)
  unfolding changed_by
  step_truncate size i walked = ap (λ w. at_time now (on_node state w (after_truncate state now size))) walked

  -- the step of Chmod is `after_chmod` with the time set
  pub step_chmod : (perm i : ℕ) → walk state.tree cred path ≡ Ok i
      → step state (Chmod cred now path perm) Plain ≡ at_time now (after_chmod state now perm i)
  unfolding changed_by
  step_chmod perm i walked = ap (λ w. at_time now (on_node state w (after_chmod state now perm))) walked

  -- the step of Chown is `after_chown` with the time set
  pub step_chown : (uid gid i : ℕ) → walk state.tree cred path ≡ Ok i
      → step state (Chown cred now path uid gid) Plain ≡ at_time now (after_chown state now uid gid i)
  unfolding changed_by
  step_chown uid gid i walked = ap (λ w. at_time now (on_node state w (after_chown state now uid gid))) walked

  -- the step of Times is `after_utime` with the time set
  pub step_times : (atime mtime i : ℕ) → walk state.tree cred path ≡ Ok i
      → step state (Times cred now path atime mtime) Plain ≡ at_time now (after_utime state now atime mtime i)
  unfolding changed_by
  step_times atime mtime i walked = ap (λ w. at_time now (on_node state w (after_utime state now atime mtime))) walked

-- block numbers have at most 24 bits
limit_low : (edition : Edition) → (constants edition).number_limit ≤ 16777216
limit_low V6 = omega arith
limit_low V7 = omega arith

-- the number of free blocks fits in 32 bits
pub free_low : (geometry : Geometry) (image : List ℕ) (made : State) → made.tree.geometry ≡ geometry → Fits geometry image → free_in made < 2 ^ 32
unfolding free_count
free_low geometry image made same fits =
    let end : made.tree.geometry.zone_end ≤ 16777216 = omega (arith, fits.limit, limit_low geometry.edition, ap (λ (g : Geometry). g.zone_end) same) in
    omega arith

-- the number of blocks freed when node i loses a name: all its blocks if it was the last name, else 0
abbrev pub freed_blocks : Geometry → List ℕ → ℕ → ℕ
freed_blocks geometry image i =
    if nat_le (node_at (tree geometry image) i).links 1 then place_count geometry.edition (shapes geometry image i) else 0

-- the number of blocks freed, computed from the link count of the i-node
pub freed_by : (geometry : Geometry) (image : List ℕ) (i freed links : ℕ)
    → freed ≡ (if nat_le links 1 then place_count geometry.edition (shapes geometry image i) else 0) → (node_at (tree geometry image) i).links ≡ links
    → freed ≡ freed_blocks geometry image i
freed_by geometry image i freed links counted same =
    counted ∙ ap (λ n. if nat_le n 1 then place_count geometry.edition (shapes geometry image i) else 0) (sym same)

-- removing a name adds the freed blocks to the free blocks
pub free_unlinked : (geometry : Geometry) (image : List ℕ) (now i d : ℕ) (name : List ℕ) → Rules1To12 geometry image
    → get (names_at (state geometry image).tree d) name ≡ Some i
    → free_in (at_time now (after_unlink (state geometry image) now d name)) ≡ free_in (state geometry image) + freed_blocks geometry image i
free_unlinked geometry image now i d name ready named =
    let links = (node_at (state geometry image).tree i).links in
    elim (nat_le links 1) as (λ b. nat_le links 1 ≡ b
    → free_in (at_time now (after_unlink (state geometry image) now d name))
    ≡ free_in (state geometry image) + (if b then place_count geometry.edition (shapes geometry image i) else 0)) [
      | true ↦ λ e.
          let few : links ≤ 1 = grind (arith, nat_tests, e) in
          free_after_last_unlink geometry image now i d name ready named few
      | false ↦ λ e.
          let many : 2 ≤ links = grind (arith, nat_tests, e) in
          let same : free_in (at_time now (after_unlink (state geometry image) now d name)) ≡ free_in (state geometry image) =
          free_after_unlink geometry image now i d name named many in
          omega (arith, same)
    ] refl
