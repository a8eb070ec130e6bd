-- All checks pass.
use Rattle.std.proofs.Common.{sym, subst}
use Rattle.vol_dir.specs.Tree.{state}
use Rattle.vol_mkfs.specs.Mkfs.{IsMakeable}
use Rattle.vol_migrate.specs.Stages.{MayMigrate}
use Rattle.vol_migrate.proofs.Migrated.{allowed, may_migrate}
use Rattle.vol_migrate.proofs.migrate_volume.migrate_image.Goals as goal

pub make-requires : goal.make-requires
make-requires c =
    let from = c.sound_geometry-from.result in
    let free = allowed (state from c.args.old.now) c.args.blocks c.args.list_blocks c.args.devices (sym c.in_default.ensures) in
    subst (MayMigrate c.args.old.now from) (sym c.new_geometry-to.ensures.value)
    (may_migrate c.args.old.now from c.args.blocks c.args.list_blocks c.requires c.sound_geometry-from.ensures.value c.sound_geometry-from.ensures.fits
    (subst IsMakeable c.new_geometry-to.ensures.value c.new_geometry-to.ensures.makeable) free.above free.space)
