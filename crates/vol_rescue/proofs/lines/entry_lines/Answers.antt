use Rattle.std.proofs.Common.{◌++◌, ◌∷◌, [], List, take, ap, sym, ◌∙◌, subst, arith}
use Rattle.std.proofs.lemmas.List.{take_more, take_all}
use Rattle.vol_archive.specs.declared.met_entries.MetEntry.{MetEntry}
use Rattle.vol_rescue.specs.Lines.{AreEntryLines}
use Rattle.vol_rescue.proofs.lines.entry_lines.Goals as goal

pub founds-preserved : goal.founds-preserved
founds-preserved c =
    let g = c.args.geometry.now in
    let image = c.args.image.now in
    let lost = c.args.lost.now in
    let founds = c.args.founds.now in
    let at = c.founds.found-index in
    let found = c.found-item.result in
    let new = c.push_entry.new.lines.items in
    let added = c.in_ok-push_entry.ensures in
    subst (λ (fs : List MetEntry). AreEntryLines g image lost fs new)
    (sym (take_more founds at found c.founds-test.true ∙ ap (λ x. take at founds ++ x ∷ []) (sym c.found-item.is)))
    (subst (AreEntryLines g image lost (take at founds ++ found ∷ [])) (sym added.2)
    (AreEntryLines.more (take at founds) c.founds.lines.items found added.0 c.founds.invariant added.1))

pub returns : goal.returns
returns c =
    subst (λ (fs : List MetEntry). AreEntryLines c.args.geometry.now c.args.image.now c.args.lost.now fs c.founds.lines.items)
    (take_all c.founds.found-index c.args.founds.now (omega arith)) c.founds.invariant

pub founds-init : goal.founds-init
founds-init c =
    subst (AreEntryLines c.args.geometry.now c.args.image.now c.args.lost.now []) (sym c.new-lines.ensures.items) AreEntryLines.none
