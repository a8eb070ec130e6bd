use Rattle.std.proofs.Common.{refl}
use Rattle.command_faults.proofs.Concluded.{among, concluded}
use Rattle.command_changes.proofs.migrate.migrate_command.Goals as goal

pub returns-clause-outcome : goal.returns-clause-outcome
returns-clause-outcome g c =
    concluded _ _ _ _ _ _ (among _ _ _ _ _ refl c.migrate_image.ensures.migrated c.migrate_image.ensures.fault c.unremarked.ensures)
    c.conclude-answer.ensures.made c.conclude-answer.ensures.fault refl
