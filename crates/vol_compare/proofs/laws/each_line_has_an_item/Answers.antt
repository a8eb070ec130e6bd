use Rattle.vol_compare.proofs.JsonLaws.{count_items}
use Rattle.vol_compare.proofs.laws.each_line_has_an_item.Goals as goal

pub returns : goal.returns
returns c times was is pairings = count_items times was is pairings
