use Rattle.vol_layout.proofs.PlaceLaws.{has_way, last_leaf, last_apart}
use Rattle.vol_layout.proofs.WayOrder.{orders_ways}
use Rattle.vol_layout.proofs.laws.ways_end_at_places.Goals as goal

pub returns-clause-limit : goal.returns-clause-limit
returns-clause-limit c form b = (has_way form b, λ h. (last_leaf form b h.0 h.1).limit)

pub returns-clause-places : goal.returns-clause-places
returns-clause-places c form b p e = ((last_leaf form b p e).place, (last_leaf form b p e).bottom)

pub returns-clause-apart : goal.returns-clause-apart
returns-clause-apart c = last_apart

pub returns-clause-order : goal.returns-clause-order
returns-clause-order c = orders_ways
