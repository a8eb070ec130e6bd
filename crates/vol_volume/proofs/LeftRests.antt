-- The rest of the image, which a call leaves unchanged once its paths are walked.
use Rattle.std.proofs.Common.{◌≡◌, ◌∙◌, ap, sym, subst, ℕ, ◌+◌, ◌<◌, ◌≤◌, nat_le, true, false, if◌then◌else◌, List, [], ◌∷◌, ◌*◌, ◌++◌, length, drop, IfSome, None, Some, Ok, inl, inr, refl, arith}
use Rattle.std.proofs.lemmas.Bool.{cases_eq}
use Rattle.std.proofs.lemmas.Bool.Decides.{nat_tests}
use Rattle.vol_layout.specs.declared.geometry.Geometry.{Geometry}
use Rattle.vol_file.specs.Changes.{blocks_past}
use Rattle.vol_file.specs.Shape.{touched}
use Rattle.vol_dir.specs.EntryEdits.{slot_bytes}
use Rattle.vol_dir.specs.Entries.{slots}
use Rattle.vol_dir.specs.Names.{get}
use Rattle.vol_dir.specs.Search.{new_slot, slot_named}
use Rattle.vol_dir.specs.Tree.{tree, shapes, state}
use Rattle.vol_dir.specs.Walk.{walk, walk_parent}
use Rattle.vol_change.specs.declared.new_nodes.NewFile.{NewFile}
use Rattle.vol_change.specs.declared.new_nodes.NewFile.TheVariants.{Regular, Special}
use Rattle.vol_dir.specs.declared.cred.Cred.{Cred}
use Rattle.vol_change.specs.Alone.{KeepsContent, ChangesInode}
use Rattle.vol_change.specs.Changed.{FreeBecomes, KeepsFilesBut, KeepsFiles, KeepsStored, PutsInBody, as_before, blocks_freed}
use Rattle.vol_change.specs.Nodes.{node_at, names_at, number_of_name}
use Rattle.vol_change.specs.Ready.{entry_need}
use Rattle.vol_change.specs.Shapes.{need_in}
use Rattle.vol_change.proofs.FreeAfter.{entry_is}
use Rattle.vol_volume.specs.Verdict.{creation}
use Rattle.vol_volume.specs.Reach.{Reach, takes, gives, unlinked, removed, with_entry, without_entry, reach_of_node, reach_of_parent, reached_by, KeepsBytes, LeavesTheRest}
use Rattle.vol_volume.specs.declared.calls.Call.{Call}
use Rattle.vol_volume.specs.declared.calls.Call.TheVariants.{Mkdir, Link, Unlink, Rmdir, Write, Truncate, Chmod, Chown, Times}
use Rattle.vol_volume.specs.declared.calls.Done.{Done}
use Rattle.vol_volume.specs.declared.calls.Done.TheVariants.{Made, Plain}

module _ (geometry : Geometry) (old new : List ℕ) where
  -- if a call changes nothing outside its reach, `LeavesTheRest` holds
  left_beside : (call : Call) (done : Done) (reach : Reach) → reached_by geometry old call done ≡ reach
      → FreeBecomes geometry old new reach.listed → KeepsFilesBut geometry old new reach.file reach.other
      → IfSome reach.put (λ put. PutsInBody geometry old new reach.file (16 * put.0) put.1) → KeepsBytes geometry old new call
      → LeavesTheRest geometry old new call done
  left_beside call done reach reached free files slot bytes = record {
    free = subst (λ (r : Reach). FreeBecomes geometry old new r.listed) (sym reached) free;
    files = subst (λ (r : Reach). KeepsFilesBut geometry old new r.file r.other) (sym reached) files;
    slot = subst (λ (r : Reach). IfSome r.put (λ put. PutsInBody geometry old new r.file (16 * put.0) put.1)) (sym reached) slot;
    bytes = bytes;
  }

  -- a text put into the slot that was found is put into the slot of the definition, if the two are the same
  slot_put : (d found slot : ℕ) (bytes : List ℕ) → found ≡ slot → PutsInBody geometry old new d (16 * found) bytes
      → PutsInBody geometry old new d (16 * slot) bytes
  slot_put d found slot bytes is = subst (λ (s : ℕ). PutsInBody geometry old new d (16 * s) bytes) is

  module _ (cred : Cred) (now : ℕ) (path : List ℕ) where
    module _ (d : ℕ) (name : List ℕ) (walked : walk_parent (tree geometry old) cred path ≡ Some (Ok (d, name))) (slot : ℕ) where
      -- the reach of a creation
      create_reached : (file : NewFile) (perm made : ℕ) → reached_by geometry old (creation file cred now path perm) (Made made)
          ≡ with_entry geometry old d name made (takes d made (entry_need (state geometry old) d))
      unfolding reached_by
      create_reached Regular perm made =
          ap (λ w. reach_of_parent w (λ e text. with_entry geometry old e text made (takes e made (entry_need (state geometry old) e)))) walked
      create_reached (Special device) perm made =
          ap (λ w. reach_of_parent w (λ e text. with_entry geometry old e text made (takes e made (entry_need (state geometry old) e)))) walked

      -- a creation keeps no other bytes by itself
      create_keeps : (file : NewFile) (perm : ℕ) → KeepsBytes geometry old new (creation file cred now path perm)
      unfolding KeepsBytes
      create_keeps Regular perm = tt
      create_keeps (Special device) perm = tt

      -- `LeavesTheRest` holds after a creation
      pub create_leaves : (file : NewFile) (perm made : ℕ) → slot ≡ new_slot (shapes geometry old d).slots
          → FreeBecomes geometry old new (drop (entry_need (state geometry old) d))
          → KeepsFilesBut geometry old new d made → PutsInBody geometry old new d (16 * slot) (slot_bytes name made)
          → LeavesTheRest geometry old new (creation file cred now path perm) (Made made)
      create_leaves file perm made is free files bytes =
          left_beside (creation file cred now path perm) (Made made)
          (with_entry geometry old d name made (takes d made (entry_need (state geometry old) d)))
          (create_reached file perm made) free files (slot_put d slot _ (slot_bytes name made) is bytes) (create_keeps file perm)

      -- `LeavesTheRest` holds after Mkdir
      pub mkdir_leaves : (perm made : ℕ) → slot ≡ new_slot (shapes geometry old d).slots
          → FreeBecomes geometry old new (drop (entry_need (state geometry old) d + 1))
          → KeepsFilesBut geometry old new d made → PutsInBody geometry old new d (16 * slot) (slot_bytes name made)
          → LeavesTheRest geometry old new (Mkdir cred now path perm) (Made made)
      unfolding reached_by KeepsBytes
      mkdir_leaves perm made is free files bytes =
          left_beside (Mkdir cred now path perm) (Made made)
          (with_entry geometry old d name made (takes d made (entry_need (state geometry old) d + 1)))
          (ap (λ w. reach_of_parent w (λ e text. with_entry geometry old e text made (takes e made (entry_need (state geometry old) e + 1)))) walked)
          free files (slot_put d slot _ (slot_bytes name made) is bytes) tt

      -- `LeavesTheRest` holds after Link
      pub link_leaves : (source : List ℕ) (i : ℕ) → walk (tree geometry old) cred source ≡ Ok i → slot ≡ new_slot (shapes geometry old d).slots
          → FreeBecomes geometry old new (drop (entry_need (state geometry old) d))
          → KeepsFilesBut geometry old new d d → PutsInBody geometry old new d (16 * slot) (slot_bytes name i)
          → LeavesTheRest geometry old new (Link cred now source path) Plain
      unfolding reached_by KeepsBytes
      link_leaves source i led is free files bytes =
          left_beside (Link cred now source path) Plain (with_entry geometry old d name i (takes d d (entry_need (state geometry old) d)))
          (ap (λ w. reach_of_node w (λ j. reach_of_parent (walk_parent (tree geometry old) cred path)
          (λ e text. with_entry geometry old e text j (takes e e (entry_need (state geometry old) e))))) led
          ∙ ap (λ w. reach_of_parent w (λ e text. with_entry geometry old e text i (takes e e (entry_need (state geometry old) e)))) walked)
          free files (slot_put d slot _ (slot_bytes name i) is bytes) tt

      module _ (i : ℕ) (named : get (names_at (tree geometry old) d) name ≡ Some i) (found : slot ≡ slot_named name (slots geometry old d)) where
        -- `LeavesTheRest` holds after Rmdir
        pub rmdir_leaves : FreeBecomes geometry old new (λ blocks. blocks_freed geometry old i ++ blocks)
            → KeepsFilesBut geometry old new d i → PutsInBody geometry old new d (16 * slot) (0 ∷ 0 ∷ [])
            → LeavesTheRest geometry old new (Rmdir cred now path) Plain
        unfolding reached_by KeepsBytes
        rmdir_leaves free files bytes =
            left_beside (Rmdir cred now path) Plain (without_entry geometry old d name (removed geometry old d i))
            (ap (λ w. reach_of_parent w (λ e text. without_entry geometry old e text (removed geometry old e (number_of_name (tree geometry old) e text)))) walked
            ∙ ap (λ j. without_entry geometry old d name (removed geometry old d j)) (entry_is (state geometry old) d i name named))
            free files (slot_put d slot _ (0 ∷ 0 ∷ []) found bytes) tt

        -- the reach of Unlink is `unlinked` with the entry removed
        unlink_reached : reached_by geometry old (Unlink cred now path) Plain ≡ without_entry geometry old d name (unlinked geometry old d i)
        unfolding reached_by
        unlink_reached =
            ap (λ w. reach_of_parent w (λ e text. without_entry geometry old e text (unlinked geometry old e (number_of_name (tree geometry old) e text)))) walked
            ∙ ap (λ j. without_entry geometry old d name (unlinked geometry old d j)) (entry_is (state geometry old) d i name named)

        -- `LeavesTheRest` holds after Unlink
        pub unlink_leaves : (links : ℕ) → (node_at (tree geometry old) i).links ≡ links
            → (links ≤ 1 → FreeBecomes geometry old new (λ blocks. blocks_freed geometry old i ++ blocks))
            → (1 < links → FreeBecomes geometry old new as_before) → (1 < links → KeepsContent geometry old new i)
            → KeepsFilesBut geometry old new d i → PutsInBody geometry old new d (16 * slot) (0 ∷ 0 ∷ [])
            → LeavesTheRest geometry old new (Unlink cred now path) Plain
        unfolding KeepsBytes
        unlink_leaves links counted freed stays kept files bytes =
            let last : Reach = gives d i (blocks_freed geometry old i) in
            let more : Reach = record { file = d; other = d; listed = as_before; put = None } in
            let reached : (b : _) → nat_le links 1 ≡ b → reached_by geometry old (Unlink cred now path) Plain
            ≡ without_entry geometry old d name (if b then last else more) =
            λ b is. unlink_reached
            ∙ ap (λ t. without_entry geometry old d name (if t then last else more)) (ap (λ n. nat_le n 1) counted ∙ is) in
            let put : PutsInBody geometry old new d (16 * slot_named name (slots geometry old d)) (0 ∷ 0 ∷ []) =
            slot_put d slot _ (0 ∷ 0 ∷ []) found bytes in
            elim (nat_le links 1) as (λ b. nat_le links 1 ≡ b → LeavesTheRest geometry old new (Unlink cred now path) Plain) [
              | true ↦ λ is.
                  let few : links ≤ 1 = grind (arith, nat_tests, is) in
                  left_beside (Unlink cred now path) Plain (without_entry geometry old d name last) (reached true is) (freed few) files put tt
              | false ↦ λ is.
                  let many : 1 < links = grind (arith, nat_tests, is) in
                  left_beside (Unlink cred now path) Plain (without_entry geometry old d name more) (reached false is) (stays many)
                  (λ j low high beside _. elim (cases_eq j i) [
                    | inl e ↦ rw e (kept many)
                    | inr other ↦ files j low high beside other
                  ]) put tt
            ] refl

    module _ (i : ℕ) (walked : walk (tree geometry old) cred path ≡ Ok i) where
      -- `LeavesTheRest` holds after Write
      pub write_leaves : (offset : ℕ) (bytes : List ℕ) (done : Done)
          → FreeBecomes geometry old new (drop (need_in geometry.edition (shapes geometry old i) (touched offset (length bytes))))
          → KeepsFilesBut geometry old new i i → LeavesTheRest geometry old new (Write cred now path offset bytes) done
      unfolding reached_by KeepsBytes
      write_leaves offset bytes done free files =
          left_beside (Write cred now path offset bytes) done
          (takes i i (need_in geometry.edition (shapes geometry old i) (touched offset (length bytes))))
          (ap (λ w. reach_of_node w (λ j. takes j j (need_in geometry.edition (shapes geometry old j) (touched offset (length bytes))))) walked)
          free files tt tt

      -- `LeavesTheRest` holds after Truncate
      pub truncate_leaves : (left : ℕ) → FreeBecomes geometry old new (λ blocks. blocks_past geometry old i left ++ blocks)
          → KeepsFilesBut geometry old new i i → KeepsStored geometry old new i left → LeavesTheRest geometry old new (Truncate cred now path left) Plain
      unfolding reached_by KeepsBytes
      truncate_leaves left free files stored =
          left_beside (Truncate cred now path left) Plain (gives i i (blocks_past geometry old i left))
          (ap (λ w. reach_of_node w (λ j. gives j j (blocks_past geometry old j left))) walked) free files tt (rw walked stored)

      -- `LeavesTheRest` holds after Chmod
      pub chmod_leaves : (perm : ℕ) → FreeBecomes geometry old new as_before
          → KeepsFilesBut geometry old new i i → ChangesInode geometry old new i → LeavesTheRest geometry old new (Chmod cred now path perm) Plain
      unfolding reached_by KeepsBytes
      chmod_leaves perm free files inode =
          left_beside (Chmod cred now path perm) Plain (record { file = i; other = i; listed = as_before; put = None })
          (ap (λ w. reach_of_node w (λ j. record { file = j; other = j; listed = as_before; put = None })) walked) free files tt (rw walked inode)

      -- `LeavesTheRest` holds after Chown
      pub chown_leaves : (uid gid : ℕ) → FreeBecomes geometry old new as_before
          → KeepsFiles geometry old new → ChangesInode geometry old new i → LeavesTheRest geometry old new (Chown cred now path uid gid) Plain
      unfolding reached_by KeepsBytes
      chown_leaves uid gid free files inode =
          record { free = free; files = λ j low high _ _. files j low high; slot = tt; bytes = rw walked inode }

      -- `LeavesTheRest` holds after Times
      pub times_leaves : (atime mtime : ℕ) → FreeBecomes geometry old new as_before
          → KeepsFiles geometry old new → ChangesInode geometry old new i → LeavesTheRest geometry old new (Times cred now path atime mtime) Plain
      unfolding reached_by KeepsBytes
      times_leaves atime mtime free files inode =
          record { free = free; files = λ j low high _ _. files j low high; slot = tt; bytes = rw walked inode }
