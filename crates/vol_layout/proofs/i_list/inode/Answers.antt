use Rattle.std.proofs.Common.{arith, refl, rules}
use Rattle.vol_layout.proofs.StoredInodes.{storable_v6, storable_v7}
use Rattle.vol_layout.proofs.i_list.inode.Goals as goal

pub returns-in-V6-clause-storable : goal.returns-in-V6-clause-storable
returns-in-V6-clause-storable c =
    storable_v6 _ c.in-V6.is _ (omega arith) (omega arith) (omega arith) (omega arith) c.addresses-addresses.ensures.bound
    c.addresses-addresses.ensures.none refl

pub returns-in-V7-clause-storable : goal.returns-in-V7-clause-storable
returns-in-V7-clause-storable c =
    storable_v7 _ c.in-V7.is _ c.addresses-addresses.ensures.bound (search rules)
