use Rattle.std.proofs.Common.{◌<◌, ◌≤◌, subst, length, get_or}
use Rattle.vol_dir.proofs.NameKeys.{slot_name}
use Rattle.vol_dir.proofs.listing.name_key.Goals as goal

pub returns-clause-stored : goal.returns-clause-stored
returns-clause-stored c = slot_name c.args.slot.name (subst (λ xs. length xs ≤ 14) c.name.ensures c.key_from.ensures.few)
    (λ k. subst (λ xs. get_or xs k 0 < 256) c.name.ensures (c.key_from.ensures.small k))
