use Rattle.std.proofs.Common.{refl}
use Rattle.command_reads.proofs.Printed.{showing}
use Rattle.command_reads.proofs.comparison.show_comparison.Goals as goal

pub returns-in-Fields : goal.returns-in-Fields
returns-in-Fields g c =
    rw c.in-Fields.is (showing _ _ _ _ _ refl c.diff_fields.ensures c.print.ensures.printed c.print.ensures.told)
