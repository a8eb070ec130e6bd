use Rattle.std.proofs.Common.{subst}
use Rattle.vol_judge.proofs.NamedFree.{FindsMarked, clear_more}
use Rattle.vol_judge.proofs.free_list.first_named.Goals as goal

pub returns-in-None-2 : goal.returns-in-None-2
returns-in-None-2 c = λ blocks found.
    clear_more c.args.named.now blocks c.args.b (subst (FindsMarked c.args.named.now blocks) c.in-None-2.is found) c.if-named-b-ne0.false
