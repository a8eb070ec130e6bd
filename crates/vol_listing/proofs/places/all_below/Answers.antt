use Rattle.std.proofs.Common.{rules, ◌≡◌, [], ◌∷◌}
use Rattle.vol_dir.specs.Tree.{tree}
use Rattle.vol_listing.proofs.Descents.{descent_begins, descent_on, descent_more, descent_ends}
use Rattle.vol_listing.proofs.places.all_below.Goals as goal

pub places-init : goal.places-init
places-init c = λ rest onward.
    descent_begins (tree c.args.geometry.now c.args.image.now) c.args.start.now c.new-pending.result.items c.new-places.result.items
    c.push_below.new.pending.items rest c.new-pending.ensures.items c.new-places.ensures.items c.in_ok-push_below.ensures onward

pub places-preserved : goal.places-preserved
places-preserved c = λ rest onward.
    descent_more (tree c.args.geometry.now c.args.image.now) c.args.start.now c.in-Some.place c.places.places.items c.push.new.self.items rest c.in_ok-push.ensures.items
    (c.places.invariant (c.in-Some.place ∷ rest)
    (descent_on (tree c.args.geometry.now c.args.image.now) c.in-Some.place c.places.pending.items c.pop.new.self.items c.push_below-in-Some.new.pending.items rest
    c.in-Some.ensures.items c.in_ok-push_below-2.ensures onward))

pub returns : goal.returns
returns c =
    let none : c.places.pending.items ≡ [] = search rules in
    descent_ends (tree c.args.geometry.now c.args.image.now) c.args.start.now c.places.places.items c.places.pending.items none c.places.invariant
