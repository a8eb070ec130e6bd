use Rattle.vol_fields.proofs.DiffLaws.{byte_told}
use Rattle.vol_fields.proofs.laws.differences_tell_each_byte.Goals as goal

pub returns : goal.returns
returns c h roles old new least fields groups lists are n within other differs =
    byte_told h roles old new least fields groups lists are n within other differs
