use Rattle.std.proofs.Common.{◌≡◌, ◌+◌, ◌-◌, subst, sym, ◌∙◌, arith}
use Rattle.vol_layout.proofs.InodeLaws.{form_same}
use Rattle.vol_file.specs.Steps.{NamesWays}
use Rattle.vol_file.proofs.Ranges.{ways_none, ways_next, ways_more}
use Rattle.vol_file.proofs.take_blocks.name_ways.Goals as goal

pub loop-b-init : goal.loop-b-init
loop-b-init c = record {
  named = λ wanted blocks wants.
      ways_none c.args.geometry.now c.args.image.now c.args.i wanted c.args.from (c.args.to - c.args.from) (c.args.from - c.args.from) blocks wants (omega arith);
}

pub name_way-requires-clause-form : goal.name_way-requires-clause-form
name_way-requires-clause-form c =
    let may = c.requires.may in
    let named = c.loop-b.invariant.named may.wanted may.blocks may.is in
    c.requires.form ∙ sym (form_same c.args.geometry.now c.args.image.now c.loop-b.image c.args.i named.extends.mode)

pub name_way-requires-clause-may : goal.name_way-requires-clause-may
name_way-requires-clause-may c =
    let may = c.requires.may in
    let named = c.loop-b.invariant.named may.wanted may.blocks may.is in
    record {
      wanted = may.wanted;
      blocks = named.rest;
      is = ways_next c.args.geometry.now c.args.image.now c.loop-b.image c.args.i may.wanted c.args.from (c.args.to - c.args.from)
          (c.loop-b.b - c.args.from) c.loop-b.b may.blocks may.is named (omega arith) (omega arith);
    }

pub loop-b-preserved : goal.loop-b-preserved
loop-b-preserved c = record {
  named = λ wanted blocks wants.
      let named = c.loop-b.invariant.named wanted blocks wants in
      ways_more c.args.geometry.now c.args.image.now c.loop-b.image c.name_way.new.image c.args.i wanted c.args.from (c.args.to - c.args.from)
      (c.loop-b.b - c.args.from) c.loop-b.b (c.loop-b.b + 1 - c.args.from) blocks wants named (omega arith) (omega arith)
      (c.name_way.ensures wanted named.rest
      (ways_next c.args.geometry.now c.args.image.now c.loop-b.image c.args.i wanted c.args.from (c.args.to - c.args.from)
      (c.loop-b.b - c.args.from) c.loop-b.b blocks wants named (omega arith) (omega arith)));
}

pub returns : goal.returns
returns c = λ wanted blocks wants.
    let same : c.loop-b.b - c.args.from ≡ c.args.to - c.args.from = omega arith in
    subst (λ n. NamesWays c.args.geometry.now c.args.image.now c.loop-b.image c.args.i wanted c.args.from n blocks) same
    (c.loop-b.invariant.named wanted blocks wants)
