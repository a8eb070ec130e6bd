-- The bytes that rebuilding the free list keeps when all files are copied: zeros, and the slots of directories.
use Rattle.std.proofs.Common.{◌≡◌, ◌∙◌, sym, ap, ℕ, ◌+◌, ◌-◌, Bool, List, get_or, inl, inr, refl, arith}
use Rattle.vol_layout.specs.Body.{body}
use Rattle.vol_layout.specs.Edition.{constants}
use Rattle.vol_layout.specs.Inode.{kind_of}
use Rattle.vol_layout.specs.declared.geometry.Geometry.{Geometry}
use Rattle.vol_layout.specs.declared.mode.Kind.TheVariants as kinds
use Rattle.vol_layout.proofs.InodeLaws.{mode_kept}
use Rattle.vol_free.specs.Rebuild.{KeepsUsed}
use Rattle.vol_file.specs.Changes.{whole_blocks}
use Rattle.vol_file.specs.Rules.{kind_at, size_of}
use Rattle.vol_judge.specs.Marks.{AreNamed}
use Rattle.vol_change.proofs.WholeLaws.{zone_behind}
use Rattle.vol_check.proofs.Remade.{remade_inode, remade_content}
use Rattle.vol_migrate.specs.Migrate.{HasZeros, HasRaisedSlots}
use Rattle.vol_migrate.specs.Stages.{IsUsed, MayMigrate, carried_byte}
use Rattle.vol_migrate.proofs.StageSteps.{carried_kind, super_stays}
use Rattle.vol_migrate.proofs.StageLaws.{old_rules, carried_file, used_file}
use Rattle.vol_migrate.proofs.LastStages.{IsLast, all_carried, body_carried, used_or, unused_vacant}

-- zeros are unchanged when the free list is rebuilt
pub last_zeros : (from to : Geometry) (old made new : List ℕ) (now : ℕ) (used : List Bool) → MayMigrate old from to → IsLast from to old now made
    → KeepsUsed to used made new → HasZeros to new
last_zeros from to old made new now used may stage keeps =
    let fits = stage.sound.fits in
    let behind = zone_behind to made fits in
    let size : (constants to.edition).inode_bytes ≡ 64 = ap (λ e. (constants e).inode_bytes) may.seventh in
    record {
      front = (super_stays to now made new stage.super_block keeps.len keeps.below (λ k a b. keeps.between k a (omega (arith, b, behind)))).rest;
      free = λ k first last free.
          let kept = remade_inode to made new used k fits keeps first last in
          elim (used_or from old k) [
            | inl none ↦ record { zero = λ r low. kept.bytes r low ∙ stage.zeros k r first last (inl (unused_vacant from old k none)) low }
            | inr is ↦
                let i = k - 1 in
                let kind = carried_kind from to old made now i (whole_blocks (size_of from old i)) may.sixth may.seventh
                (old_rules old from to may).sound.kinds is.1 (all_carried from to old made now i stage is.1) in
                absurd (is.1.some (sym kind ∙ (ap (kind_at to made) (sym is.0) ∙ (sym (ap (kind_of to.edition) (mode_kept to made new k kept)) ∙ free))))
          ];
      unused = λ k first last.
          (remade_inode to made new used k fits keeps first last).bytes 51 (omega (arith, size))
          ∙ stage.zeros k 51 first last (inr refl) (omega (arith, size));
    }

-- the slots of directories are unchanged when the free list is rebuilt
pub last_slots : (from to : Geometry) (old made new : List ℕ) (now : ℕ) (used : List Bool) → MayMigrate old from to → IsLast from to old now made
    → KeepsUsed to used made new → AreNamed to made used → HasRaisedSlots from to old new
last_slots from to old made new now used may stage keeps named = λ i x is low.
    let one : IsUsed from old i = record {
      first = is.first;
      last = is.last;
      some = λ free. let both : kinds.Directory ≡ kinds.Free = sym is.kind ∙ free in absurd (cc);
    } in
    let old_file = used_file old from i kinds.Directory one is.kind refl in
    let file = carried_file old from to now made i (whole_blocks (size_of from old i)) may old_file (all_carried from to old made now i stage one) in
    ap (λ xs. get_or xs x 0) ((remade_content to made new used (i + 1) stage.sound.fits named keeps stage.sound.zoned file.first file.last).bytes file)
    ∙ (body_carried from to old made now i x may stage old_file low ∙ ap (λ k. carried_byte k (body from old i) x) is.kind)
