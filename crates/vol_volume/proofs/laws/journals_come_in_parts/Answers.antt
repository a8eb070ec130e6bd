use Rattle.vol_volume.proofs.Journals.{after-append, legal-in-parts}
use Rattle.vol_volume.proofs.laws.journals_come_in_parts.Goals as goal

pub returns-clause-leads : goal.returns-clause-leads
returns-clause-leads c = after-append

pub returns-clause-legal : goal.returns-clause-legal
returns-clause-legal c = legal-in-parts
