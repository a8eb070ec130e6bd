use Rattle.vol_repair.proofs.repaired_volume.repair_broken.Goals as goal

pub told-requires-clause-broken : goal.told-requires-clause-broken
told-requires-clause-broken c = λ sound. c.requires.broken.broken (sound c.args.rule)
