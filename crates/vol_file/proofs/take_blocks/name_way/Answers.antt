use Rattle.std.proofs.Common.{◌<◌, sym, subst, arith}
use Rattle.vol_layout.specs.BlockMaps.{block_limit}
use Rattle.vol_layout.proofs.PlaceLaws.{last_none}
use Rattle.vol_file.proofs.Lasts.{way_wanted, way_named, way_next, may_first, may_next}
use Rattle.vol_file.proofs.take_blocks.name_way.Goals as goal

pub returns-in_default : goal.returns-in_default
returns-in_default c = λ wanted blocks wants.
    let past = last_none c.args.form c.args.b (sym c.in_default.ensures.end) in
    let limit = subst (λ f. c.args.b < block_limit f) (sym c.requires.form) wants.limit in
    absurd (omega (arith, past, limit))

pub name_address-block-requires : goal.name_address-block-requires
name_address-block-requires c = record {
  may = may_first c.args.geometry.now c.args.image.now c.args.i c.args.form c.args.b c.in-Some.way c.requires.form c.in-Some.ensures.end c.requires.may;
}

pub loop-d-init : goal.loop-d-init
loop-d-init c = λ wanted blocks wants.
    c.name_address-block.ensures wanted blocks
    (way_wanted c.args.geometry.now c.args.image.now c.args.i c.args.form wanted c.args.b blocks c.in-Some.way 0
    c.requires.form c.in-Some.ensures.end wants (omega arith))

pub name_entry-block-requires : goal.name_entry-block-requires
name_entry-block-requires c =
    let may = c.requires.may in
    record {
      may = may_next c.args.geometry.now c.args.image.now c.loop-d.image c.args.i c.args.form c.args.b c.in-Some.way c.loop-d.d c.loop-d.block
          c.requires.form c.in-Some.ensures.end may c.loop-d-test.true (c.loop-d.invariant _ _ may.is);
    }

pub loop-d-preserved : goal.loop-d-preserved
loop-d-preserved c = λ wanted blocks wants.
    way_next c.args.geometry.now c.args.image.now c.loop-d.image c.name_entry-block.new.image c.args.i c.args.form wanted c.args.b blocks
    c.in-Some.way c.loop-d.d c.loop-d.block c.name_entry-block.result c.requires.form c.in-Some.ensures.end wants c.loop-d-test.true
    (c.loop-d.invariant wanted blocks wants) (λ a p. c.name_entry-block.ensures c.args.image.now c.args.i wanted a p blocks)

pub returns : goal.returns
returns c = λ wanted blocks wants.
    way_named c.args.geometry.now c.args.image.now c.loop-d.image c.args.i c.args.form wanted c.args.b blocks c.in-Some.way c.loop-d.d c.loop-d.block
    c.requires.form c.in-Some.ensures.end (omega arith) (c.loop-d.invariant wanted blocks wants)
