-- The files are copied to a volume that has all i-nodes, and then the free list is rebuilt.
use Rattle.std.proofs.Common.{◌≡◌, ◌∙◌, sym, ap, subst, ◌*◌, replicate, false, arith}
use Rattle.vol_layout.specs.Geometry.{geometry_of}
use Rattle.vol_judge.specs.Sound.{KeepsRules}
use Rattle.vol_migrate.specs.Migrate.{IsMigrated}
use Rattle.vol_migrate.specs.Stages.{IsStage}
use Rattle.vol_migrate.proofs.LastRules.{last_rules}
use Rattle.vol_migrate.proofs.Migrated.{made_first, migrated}
use Rattle.vol_migrate.proofs.migrate_volume.make.Goals as goal

pub copy_files-requires-clause-stage : goal.copy_files-requires-clause-stage
copy_files-requires-clause-stage c =
    let may = c.requires in
    let count : c.args.to.now.zone_end * 512 ≡ 512 * c.args.to.now.zone_end = omega arith in
    let zeros : c.from_bytes-image.result ≡ replicate (512 * c.args.to.now.zone_end) 0 =
    c.from_bytes-image.ensures ∙ (c.in_ok-zeros.ensures.items_if_clones_equal (λ y e. e) ∙ ap (λ n. replicate n 0) count) in
    let first : IsStage c.args.from.now c.args.to.now c.args.old.now c.args.now c.free_all.new.image 1 0 =
    made_first c.args.old.now c.from_bytes-image.result c.put_super.new.image c.put_inodes.new.image c.free_all.new.image c.args.from.now c.args.to.now c.args.now
    may zeros c.put_super.ensures.sizes c.put_super.ensures.time c.put_super.ensures.rest c.put_super.ensures.others c.put_inodes.ensures.others c.put_inodes.ensures.put
    c.in_ok-free_all.ensures.others c.in_ok-free_all.ensures.free c.in_ok-free_all.ensures.fits in
    record { now = c.args.now; stage = first }

pub relist-requires-clause-sizes : goal.relist-requires-clause-sizes
relist-requires-clause-sizes c =
    let may = c.requires in
    let count : c.args.to.now.zone_end * 512 ≡ 512 * c.args.to.now.zone_end = omega arith in
    let zeros : c.from_bytes-image.result ≡ replicate (512 * c.args.to.now.zone_end) 0 =
    c.from_bytes-image.ensures ∙ (c.in_ok-zeros.ensures.items_if_clones_equal (λ y e. e) ∙ ap (λ n. replicate n 0) count) in
    let first : IsStage c.args.from.now c.args.to.now c.args.old.now c.args.now c.free_all.new.image 1 0 =
    made_first c.args.old.now c.from_bytes-image.result c.put_super.new.image c.put_inodes.new.image c.free_all.new.image c.args.from.now c.args.to.now c.args.now
    may zeros c.put_super.ensures.sizes c.put_super.ensures.time c.put_super.ensures.rest c.put_super.ensures.others c.put_inodes.ensures.others c.put_inodes.ensures.put
    c.in_ok-free_all.ensures.others c.in_ok-free_all.ensures.free c.in_ok-free_all.ensures.fits in
    let last = c.copy_files.ensures c.args.now first in
    ap (λ e. geometry_of e c.copy_files.new.image) (sym may.seventh) ∙ last.super_block.sizes

pub relist-requires-clause-fits : goal.relist-requires-clause-fits
relist-requires-clause-fits c =
    let may = c.requires in
    let count : c.args.to.now.zone_end * 512 ≡ 512 * c.args.to.now.zone_end = omega arith in
    let zeros : c.from_bytes-image.result ≡ replicate (512 * c.args.to.now.zone_end) 0 =
    c.from_bytes-image.ensures ∙ (c.in_ok-zeros.ensures.items_if_clones_equal (λ y e. e) ∙ ap (λ n. replicate n 0) count) in
    let first : IsStage c.args.from.now c.args.to.now c.args.old.now c.args.now c.free_all.new.image 1 0 =
    made_first c.args.old.now c.from_bytes-image.result c.put_super.new.image c.put_inodes.new.image c.free_all.new.image c.args.from.now c.args.to.now c.args.now
    may zeros c.put_super.ensures.sizes c.put_super.ensures.time c.put_super.ensures.rest c.put_super.ensures.others c.put_inodes.ensures.others c.put_inodes.ensures.put
    c.in_ok-free_all.ensures.others c.in_ok-free_all.ensures.free c.in_ok-free_all.ensures.fits in
    let last = c.copy_files.ensures c.args.now first in
    last.sound.fits

pub relist-requires-clause-rules : goal.relist-requires-clause-rules
relist-requires-clause-rules c =
    let may = c.requires in
    let count : c.args.to.now.zone_end * 512 ≡ 512 * c.args.to.now.zone_end = omega arith in
    let zeros : c.from_bytes-image.result ≡ replicate (512 * c.args.to.now.zone_end) 0 =
    c.from_bytes-image.ensures ∙ (c.in_ok-zeros.ensures.items_if_clones_equal (λ y e. e) ∙ ap (λ n. replicate n 0) count) in
    let first : IsStage c.args.from.now c.args.to.now c.args.old.now c.args.now c.free_all.new.image 1 0 =
    made_first c.args.old.now c.from_bytes-image.result c.put_super.new.image c.put_inodes.new.image c.free_all.new.image c.args.from.now c.args.to.now c.args.now
    may zeros c.put_super.ensures.sizes c.put_super.ensures.time c.put_super.ensures.rest c.put_super.ensures.others c.put_inodes.ensures.others c.put_inodes.ensures.put
    c.in_ok-free_all.ensures.others c.in_ok-free_all.ensures.free c.in_ok-free_all.ensures.fits in
    let last = c.copy_files.ensures c.args.now first in
    subst (λ e. KeepsRules false e c.copy_files.new.image) may.seventh
    (last_rules c.args.from.now c.args.to.now c.args.old.now c.copy_files.new.image c.args.now may last)

pub returns : goal.returns
returns c = λ blocks list_blocks is.
    let may = c.requires in
    let count : c.args.to.now.zone_end * 512 ≡ 512 * c.args.to.now.zone_end = omega arith in
    let zeros : c.from_bytes-image.result ≡ replicate (512 * c.args.to.now.zone_end) 0 =
    c.from_bytes-image.ensures ∙ (c.in_ok-zeros.ensures.items_if_clones_equal (λ y e. e) ∙ ap (λ n. replicate n 0) count) in
    let first : IsStage c.args.from.now c.args.to.now c.args.old.now c.args.now c.free_all.new.image 1 0 =
    made_first c.args.old.now c.from_bytes-image.result c.put_super.new.image c.put_inodes.new.image c.free_all.new.image c.args.from.now c.args.to.now c.args.now
    may zeros c.put_super.ensures.sizes c.put_super.ensures.time c.put_super.ensures.rest c.put_super.ensures.others c.put_inodes.ensures.others c.put_inodes.ensures.put
    c.in_ok-free_all.ensures.others c.in_ok-free_all.ensures.free c.in_ok-free_all.ensures.fits in
    let last = c.copy_files.ensures c.args.now first in
    subst (IsMigrated c.args.old.now blocks list_blocks c.args.now) (sym c.into_bytes.ensures)
    (migrated c.args.old.now c.copy_files.new.image c.relist.new.image c.args.from.now c.args.to.now c.args.now blocks list_blocks may last
    c.in_ok-relist.ensures is)
