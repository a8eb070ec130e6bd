use Rattle.std.proofs.Common.{◌≡◌, false, length, nat_lt, arith, rules}
use Rattle.std.proofs.lemmas.Bool.{le-ltb}
use Rattle.vol_scripts.specs.Scripts.{is_for_view}
use Rattle.vol_scripts.proofs.ReadingLemmas.{started}
use Rattle.vol_scripts.proofs.read.has_bad_start.Goals as goal

pub returns : goal.returns
returns c =
    let few : nat_lt (length c.args.front.now) 5 ≡ false = le-ltb (length c.args.front.now) 5 (omega arith) in
    let other : is_for_view c.args.front.now ≡ false = search rules in
    started c.args.front.now _ c.has_bad_first.result few other c.of.ensures c.has_bad_first.ensures
