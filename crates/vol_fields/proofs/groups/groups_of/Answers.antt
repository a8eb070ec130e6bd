use Rattle.std.proofs.Common.{◌+◌, ◌<◌, ◌≤◌, length, sym, subst, arith}
use Rattle.std.proofs.lemmas.List.Elements.{All-push}
use Rattle.vol_fields.specs.Groups.{AreGroupsUpTo, AreGroupsWithin}
use Rattle.vol_fields.specs.declared.groups.Group.{Group}
use Rattle.vol_fields.proofs.GroupLaws.{groups_more}
use Rattle.vol_fields.proofs.groups.groups_of.Goals as goal

pub loop-n-preserved : goal.loop-n-preserved
loop-n-preserved c =
    let joins = c.args.joins.now in
    let least = c.args.least in
    let group = c.group_at-group.result in
    let from = c.group_at-group.ensures.from in
    let first = c.group_at-group.ensures.first in
    record {
      within = omega (arith, c.group_at-group.ensures.within);
      added = subst (AreGroupsUpTo joins least 0 (group.last + 1)) (sym c.in_ok-push.ensures.items)
          (groups_more joins least 0 c.loop-n.n c.loop-n.groups.items group c.loop-n.invariant.added c.loop-n-test.true c.group_at-group.ensures.exact);
      inside = subst (AreGroupsWithin (length joins)) (sym c.in_ok-push.ensures.items)
          (All-push (λ (g : Group). (g.first ≤ g.last) × (g.last < length joins)) c.loop-n.groups.items group c.loop-n.invariant.inside
          (omega (arith, from, first), c.group_at-group.ensures.within));
    }
