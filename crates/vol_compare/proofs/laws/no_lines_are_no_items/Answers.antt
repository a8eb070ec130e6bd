use Rattle.vol_compare.proofs.JsonLaws.{itemless_is_silent, silent_is_itemless}
use Rattle.vol_compare.proofs.laws.no_lines_are_no_items.Goals as goal

pub returns : goal.returns
returns c times was is pairings = (itemless_is_silent times was is pairings, silent_is_itemless times was is pairings)
