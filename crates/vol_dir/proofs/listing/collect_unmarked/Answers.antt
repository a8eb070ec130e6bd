use Rattle.std.proofs.Common.{refl}
use Rattle.vol_layout.specs.Slot.{name_of}
use Rattle.vol_dir.specs.NameList.{by_bytes}
use Rattle.vol_dir.proofs.ListedNames.{is_met, collected_none, collected_next, collected_all}
use Rattle.vol_dir.proofs.listing.collect_unmarked.Goals as goal

pub loop-s-init : goal.loop-s-init
loop-s-init c = collected_none c.args.geometry.now c.args.image.now c.args.dir c.new-names.result.entries c.args.marks.now c.new-names.ensures.empty c.requires.clear

pub loop-s-preserved : goal.loop-s-preserved
loop-s-preserved c =
    let collected = c.loop-s.invariant in
    let met = is_met (by_bytes c.loop-s.names.entries) in
    collected_next c.args.geometry.now c.args.image.now c.args.dir c.loop-s.from c.in-Some.s c.in-Some.slot (name_of c.in-Some.slot.name) c.loop-s.names.entries
    c.put_first.new.names.entries c.loop-s.marks c.next_unmarked.new.marks collected c.in-Some.ensures.found
    (c.in-Some.ensures.passed met refl collected.marked collected.known) (c.in-Some.ensures.marks met refl collected.marked collected.known) refl
    c.in_ok-put_first.ensures.put c.in_ok-put_first.ensures.keyed

pub returns : goal.returns
returns c =
    let collected = c.loop-s.invariant in
    let met = is_met (by_bytes c.loop-s.names.entries) in
    collected_all c.args.geometry.now c.args.image.now c.args.dir c.loop-s.from c.loop-s.names.entries c.loop-s.marks collected
    (c.in_default.ensures.passed met refl collected.marked collected.known)
