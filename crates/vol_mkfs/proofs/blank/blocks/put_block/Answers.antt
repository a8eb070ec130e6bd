use Rattle.std.proofs.Common.{◌≡◌, ◌+◌, ap, sym, ◌∙◌, arith}
use Rattle.vol_layout.specs.Edition.{constants}
use Rattle.vol_mkfs.proofs.BlankBlocks.{chain_room, early_put, root_put, chain_put, zero_put}
use Rattle.vol_mkfs.proofs.blank.blocks.put_block.Goals as goal

pub put_free_head-requires-clause-top : goal.put_free_head-requires-clause-top
put_free_head-requires-clause-top c =
    let geometry = c.args.geometry.now in
    let room = chain_room geometry c.args.b (sym c.is_chain.ensures ∙ c.if-is_chain.true) in
    let slots : c.constants-slots.result.free_slots ≡ (constants geometry.edition).free_slots = ap (λ k. k.free_slots) c.constants-slots.ensures in
    omega (arith, room.0, c.from.ensures)

pub put_free_head-requires-clause-chain : goal.put_free_head-requires-clause-chain
put_free_head-requires-clause-chain c more =
    let geometry = c.args.geometry.now in
    let room = chain_room geometry c.args.b (sym c.is_chain.ensures ∙ c.if-is_chain.true) in
    let slots : c.constants-slots.result.free_slots ≡ (constants geometry.edition).free_slots = ap (λ k. k.free_slots) c.constants-slots.ensures in
    let again = room.1 (omega (arith, c.from.ensures)) in
    omega (arith, again, c.from.ensures)

pub returns-then-b-lt-FIRST_BLOCKS-clause-put : goal.returns-then-b-lt-FIRST_BLOCKS-clause-put
returns-then-b-lt-FIRST_BLOCKS-clause-put c =
    early_put c.args.geometry.now c.args.first.now _ _ c.args.at c.args.b c.if-b-lt-FIRST_BLOCKS.true c.block.ensures.bytes c.block.ensures.len c.put_bytes.ensures.put

pub returns-then-b-geometry-clause-put : goal.returns-then-b-geometry-clause-put
returns-then-b-geometry-clause-put c =
    root_put c.args.geometry.now c.args.first.now _ _ c.args.at c.args.b c.requires.makeable.start c.if-b-geometry.true c.block-then-b-geometry.ensures.bytes
    c.block-then-b-geometry.ensures.len c.put_bytes-then-b-geometry.ensures.put

pub returns-then-is_chain-clause-put : goal.returns-then-is_chain-clause-put
returns-then-is_chain-clause-put c =
    let geometry = c.args.geometry.now in
    let slots : c.constants-slots.result.free_slots ≡ (constants geometry.edition).free_slots = ap (λ k. k.free_slots) c.constants-slots.ensures in
    chain_put geometry c.args.first.now c.put_free_head.new.bytes c.args.at c.args.b (c.args.b + c.from.result) c.constants-slots.result.free_slots
    c.requires.makeable.start (sym c.is_chain.ensures ∙ c.if-is_chain.true) (omega (arith, c.from.ensures)) slots c.put_free_head.ensures.head
    (λ r from to. c.put_free_head.ensures.others.above (c.args.at + r) (omega arith) ∙ c.clear.ensures.zero (c.args.at + r) (omega arith) (omega arith))

pub returns-else-is_chain-clause-put : goal.returns-else-is_chain-clause-put
returns-else-is_chain-clause-put c =
    zero_put c.args.geometry.now c.args.first.now c.clear.new.bytes c.args.at c.args.b c.if-b-lt-FIRST_BLOCKS.false c.if-b-geometry.false
    (sym c.is_chain.ensures ∙ c.if-is_chain.false) c.clear.ensures.zero
