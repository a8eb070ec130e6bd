use Rattle.std.proofs.Common.{◌++◌, ◌∷◌, [], List, map, take, ap, sym, ◌∙◌, subst, arith}
use Rattle.std.proofs.lemmas.List.{take_more, take_all}
use Rattle.std.specs.Option.{option_to_list}
use Rattle.serde_json.specs.Data.{Data}
use Rattle.serde_json.specs.View.{view}
use Rattle.vol_archive.specs.declared.met_entries.MetEntry.{MetEntry}
use Rattle.vol_listing.specs.KnownSums.{AreKnownData}
use Rattle.vol_listing.proofs.sums.sum_values.Goals as goal

pub founds-preserved : goal.founds-preserved
founds-preserved c =
    let g = c.args.geometry.now in
    let image = c.args.image.now in
    let lost = c.args.lost.now in
    let top = c.args.top.now in
    let founds = c.args.founds.now in
    let at = c.founds.found-index in
    let found = c.found-item.result in
    let more = map view (option_to_list c.in_ok-more.more) in
    subst (λ (fs : List MetEntry). AreKnownData g image lost top fs (map view c.push_if.new.values.items))
    (sym (take_more founds at found c.founds-test.true ∙ ap (λ x. take at founds ++ x ∷ []) (sym c.found-item.is)))
    (subst (AreKnownData g image lost top (take at founds ++ found ∷ [])) (sym c.in_ok-push_if.ensures)
    (AreKnownData.more (take at founds) (map view c.founds.values.items) found more c.founds.invariant c.in_ok-more.ensures))

pub returns : goal.returns
returns c =
    subst (λ (fs : List MetEntry). AreKnownData c.args.geometry.now c.args.image.now c.args.lost.now c.args.top.now fs (map view c.founds.values.items))
    (take_all c.founds.found-index c.args.founds.now (omega arith)) c.founds.invariant

pub founds-init : goal.founds-init
founds-init c =
    subst (λ values. AreKnownData c.args.geometry.now c.args.image.now c.args.lost.now c.args.top.now [] (map view values)) (sym c.new-values.ensures.items) AreKnownData.none
