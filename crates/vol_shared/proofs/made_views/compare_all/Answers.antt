use Rattle.vol_shared.specs.Stored.{stored_of}
use Rattle.vol_shared.proofs.Prefixes.{all_covered, all_agree}
use Rattle.vol_shared.proofs.made_views.compare_all.Goals as goal

pub returns-clause-covers : goal.returns-clause-covers
returns-clause-covers g c = all_covered (stored_of c.args.volume.now) c.args.publisher.log c.args.views.now c.requires.published c.compare.ensures.behind

pub returns-clause-agree : goal.returns-clause-agree
returns-clause-agree g c = all_agree (stored_of c.args.volume.now) c.args.publisher.log c.args.views.now c.requires.published c.compare.ensures.behind
