use Rattle.std.proofs.Common.{◌≡◌, ◌+◌, ◌^◌, ◌<◌, arith}
use Rattle.vol_dir.specs.Tree.{tree, shapes, state}
use Rattle.vol_change.specs.Edits.{at_time, after_truncate}
use Rattle.vol_change.specs.Ready.{free_in}
use Rattle.vol_change.specs.Shapes.{cut_count}
use Rattle.vol_change.proofs.FreeAfter.{free_after_truncate}
use Rattle.vol_volume.proofs.KeptInodes.{truncate_inodes}
use Rattle.vol_volume.proofs.LeftRests.{truncate_leaves}
use Rattle.vol_volume.proofs.NodeReadings.{tree_geometry, used_first}
use Rattle.vol_volume.proofs.PerformedCalls.{performed_by, step_truncate, free_low}
use Rattle.vol_volume.specs.declared.calls.Call.TheVariants.{Truncate}
use Rattle.vol_volume.specs.declared.calls.Done.TheVariants.{Plain}
use Rattle.vol_volume.proofs.checked_calls.truncate.make.Goals as goal

pub overflow_add-result : goal.overflow_add-result
unfolding tree
overflow_add-result c =
    let geometry = c.args.geometry.now in
    let image = c.args.image.now in
    let i = c.in_ok-i.i in
    let made = at_time c.args.caller.moment (after_truncate (state geometry image) c.args.caller.moment c.args.length i) in
    let count : c.args.free ≡ free_in (state geometry image) = c.requires.count in
    let freed : c.truncate-freed.result ≡ cut_count geometry.edition (shapes geometry image i) c.args.length = c.truncate-freed.ensures.count in
    let after : free_in made ≡ free_in (state geometry image) + cut_count geometry.edition (shapes geometry image i) c.args.length =
    free_after_truncate geometry image c.args.caller.moment c.args.length i c.requires.ready
    (used_first geometry image i c.in_ok-i.ensures.node.used) c.in_ok-i.ensures.node.used.last in
    let low : free_in made < 2 ^ 32 = free_low geometry image made (tree_geometry geometry image) c.requires.ready.fits in
    omega (arith, count, freed, after, low)

pub returns-clause-performed : goal.returns-clause-performed
returns-clause-performed c =
    let geometry = c.args.geometry.now in
    let image = c.args.image.now in
    let i = c.in_ok-i.i in
    let made = at_time c.args.caller.moment (after_truncate (state geometry image) c.args.caller.moment c.args.length i) in
    let count : c.args.free ≡ free_in (state geometry image) = c.requires.count in
    let freed : c.truncate-freed.result ≡ cut_count geometry.edition (shapes geometry image i) c.args.length = c.truncate-freed.ensures.count in
    let after : free_in made ≡ free_in (state geometry image) + cut_count geometry.edition (shapes geometry image i) c.args.length =
    free_after_truncate geometry image c.args.caller.moment c.args.length i c.requires.ready
    (used_first geometry image i c.in_ok-i.ensures.node.used) c.in_ok-i.ensures.node.used.last in
    performed_by geometry image c.truncate-freed.new.image (Truncate c.args.caller.cred c.args.caller.moment c.args.path.now c.args.length) Plain
    made (c.args.free + c.truncate-freed.result)
    (step_truncate (state geometry image) c.args.caller.cred c.args.caller.moment c.args.path.now c.args.length i c.in_ok-i.ensures.node.walked) tt
    c.truncate-freed.ensures.changes
    (truncate_inodes geometry image c.truncate-freed.new.image c.args.caller.moment c.args.length i
    c.truncate-freed.ensures.changes.makes c.truncate-freed.ensures.unused)
    (truncate_leaves geometry image c.truncate-freed.new.image c.args.caller.cred c.args.caller.moment c.args.path.now i
    c.in_ok-i.ensures.node.walked c.args.length c.truncate-freed.ensures.list c.truncate-freed.ensures.files c.truncate-freed.ensures.stored)
    (omega (arith, count, freed, after))
