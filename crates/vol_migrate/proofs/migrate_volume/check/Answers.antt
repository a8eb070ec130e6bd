-- A sound image keeps rule 4.
use Rattle.vol_migrate.proofs.Migrated.{sound_sizes}
use Rattle.vol_migrate.proofs.migrate_volume.check.Goals as goal

pub places_needed-requires-clause-sizes : goal.places_needed-requires-clause-sizes
places_needed-requires-clause-sizes c = sound_sizes c.args.old.now c.args.from.now c.requires.geometry c.requires.sound
