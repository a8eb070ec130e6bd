use Rattle.std.proofs.Common.{arith}
use Rattle.vol_mkfs.proofs.BlankStacks.{chain_fits}
use Rattle.vol_mkfs.proofs.blank.first.put_free_list.Goals as goal

pub overflow_sub-top : goal.overflow_sub-top
overflow_sub-top c = (chain_fits c.args.geometry.now c.first_chain-top.result (omega arith) c.first_chain-top.ensures).0

pub overflow_cast-top : goal.overflow_cast-top
overflow_cast-top c =
    let few = (chain_fits c.args.geometry.now c.first_chain-top.result (omega arith) c.first_chain-top.ensures).2 in omega (arith, few)

pub put_free_head-requires-clause-top : goal.put_free_head-requires-clause-top
put_free_head-requires-clause-top c = (chain_fits c.args.geometry.now c.first_chain-top.result (omega arith) c.first_chain-top.ensures).1

pub put_free_head-requires-clause-chain : goal.put_free_head-requires-clause-chain
put_free_head-requires-clause-chain c = (chain_fits c.args.geometry.now c.first_chain-top.result (omega arith) c.first_chain-top.ensures).3
