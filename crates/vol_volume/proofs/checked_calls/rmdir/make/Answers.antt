use Rattle.std.proofs.Common.{◌≡◌, ℕ, ◌+◌, ◌^◌, ◌<◌, ◌∙◌, ap, sym, arith}
use Rattle.vol_dir.specs.Tree.{tree, shapes, state, place_count}
use Rattle.vol_dir.specs.Walk.{is_directory}
use Rattle.vol_change.specs.Edits.{at_time}
use Rattle.vol_change.specs.Nodes.{node_at}
use Rattle.vol_change.specs.Effects.{after_rmdir}
use Rattle.vol_change.specs.Ready.{free_in}
use Rattle.vol_change.proofs.FreeAfter.{free_after_rmdir}
use Rattle.vol_volume.specs.Verdict.{has_others}
use Rattle.vol_volume.proofs.Accepted.{rmdir_passed}
use Rattle.vol_volume.proofs.KeptInodes.{rmdir_inodes}
use Rattle.vol_volume.proofs.LeftRests.{rmdir_leaves}
use Rattle.vol_change.proofs.FreeAfter.{entry_is}
use Rattle.vol_volume.proofs.NodeReadings.{tree_geometry, used_first, used_some, directory_from}
use Rattle.vol_volume.proofs.PerformedCalls.{performed_by, step_rmdir, free_low}
use Rattle.vol_volume.specs.declared.calls.Call.TheVariants.{Rmdir}
use Rattle.vol_volume.specs.declared.calls.Done.TheVariants.{Plain}
use Rattle.vol_volume.proofs.checked_calls.rmdir.make.Goals as goal

pub rmdir-freed-requires-clause-plain : goal.rmdir-freed-requires-clause-plain
rmdir-freed-requires-clause-plain c =
    (rmdir_passed (state c.args.geometry.now c.args.image.now) c.args.caller.cred c.args.path.now c.in_ok-found.found.dir c.in_ok-found.found.name.now (sym c.in_ok-found.ensures.refusal) c.in_ok-found.ensures.leads.walked).plain

pub rmdir-freed-requires-clause-gone : goal.rmdir-freed-requires-clause-gone
rmdir-freed-requires-clause-gone c =
    (directory_from c.args.geometry.now c.args.image.now c.in_ok-found.found.entry.inode (used_first c.args.geometry.now c.args.image.now c.in_ok-found.found.entry.inode c.in_ok-found.ensures.entry.used) c.in_ok-found.ensures.entry.used.last (ap (λ (j : ℕ). is_directory (node_at (tree c.args.geometry.now c.args.image.now) j)) (sym (entry_is (state c.args.geometry.now c.args.image.now) c.in_ok-found.found.dir c.in_ok-found.found.entry.inode c.in_ok-found.found.name.now c.in_ok-found.ensures.entry.named)) ∙ (rmdir_passed (state c.args.geometry.now c.args.image.now) c.args.caller.cred c.args.path.now c.in_ok-found.found.dir c.in_ok-found.found.name.now (sym c.in_ok-found.ensures.refusal) c.in_ok-found.ensures.leads.walked).gone))

pub rmdir-freed-requires-clause-only : goal.rmdir-freed-requires-clause-only
rmdir-freed-requires-clause-only c =
    ap (has_others (tree c.args.geometry.now c.args.image.now)) (sym (entry_is (state c.args.geometry.now c.args.image.now) c.in_ok-found.found.dir c.in_ok-found.found.entry.inode c.in_ok-found.found.name.now c.in_ok-found.ensures.entry.named)) ∙ (rmdir_passed (state c.args.geometry.now c.args.image.now) c.args.caller.cred c.args.path.now c.in_ok-found.found.dir c.in_ok-found.found.name.now (sym c.in_ok-found.ensures.refusal) c.in_ok-found.ensures.leads.walked).only

pub overflow_add-result : goal.overflow_add-result
unfolding tree
overflow_add-result c =
    let count : c.args.free ≡ free_in (state c.args.geometry.now c.args.image.now) = c.requires.count in
    let freed : c.rmdir-freed.result ≡ place_count c.args.geometry.now.edition (shapes c.args.geometry.now c.args.image.now c.in_ok-found.found.entry.inode) = c.rmdir-freed.ensures.count in
    let after : free_in (at_time c.args.caller.moment (after_rmdir (state c.args.geometry.now c.args.image.now) c.args.caller.moment c.in_ok-found.found.dir c.in_ok-found.found.name.now)) ≡ free_in (state c.args.geometry.now c.args.image.now) + place_count c.args.geometry.now.edition (shapes c.args.geometry.now c.args.image.now c.in_ok-found.found.entry.inode) =
    free_after_rmdir c.args.geometry.now c.args.image.now c.args.caller.moment c.in_ok-found.found.entry.inode c.in_ok-found.found.dir c.in_ok-found.found.name.now c.requires.ready c.in_ok-found.ensures.entry.named in
    let low : free_in (at_time c.args.caller.moment (after_rmdir (state c.args.geometry.now c.args.image.now) c.args.caller.moment c.in_ok-found.found.dir c.in_ok-found.found.name.now)) < 2 ^ 32 = free_low c.args.geometry.now c.args.image.now (at_time c.args.caller.moment (after_rmdir (state c.args.geometry.now c.args.image.now) c.args.caller.moment c.in_ok-found.found.dir c.in_ok-found.found.name.now)) (tree_geometry c.args.geometry.now c.args.image.now) c.requires.ready.fits in
    omega (arith, count, freed, after, low)

pub returns-clause-performed : goal.returns-clause-performed
returns-clause-performed c =
    let count : c.args.free ≡ free_in (state c.args.geometry.now c.args.image.now) = c.requires.count in
    let freed : c.rmdir-freed.result ≡ place_count c.args.geometry.now.edition (shapes c.args.geometry.now c.args.image.now c.in_ok-found.found.entry.inode) = c.rmdir-freed.ensures.count in
    let after : free_in (at_time c.args.caller.moment (after_rmdir (state c.args.geometry.now c.args.image.now) c.args.caller.moment c.in_ok-found.found.dir c.in_ok-found.found.name.now)) ≡ free_in (state c.args.geometry.now c.args.image.now) + place_count c.args.geometry.now.edition (shapes c.args.geometry.now c.args.image.now c.in_ok-found.found.entry.inode) =
    free_after_rmdir c.args.geometry.now c.args.image.now c.args.caller.moment c.in_ok-found.found.entry.inode c.in_ok-found.found.dir c.in_ok-found.found.name.now c.requires.ready c.in_ok-found.ensures.entry.named in
    performed_by c.args.geometry.now c.args.image.now c.rmdir-freed.new.image (Rmdir c.args.caller.cred c.args.caller.moment c.args.path.now) Plain
    (at_time c.args.caller.moment (after_rmdir (state c.args.geometry.now c.args.image.now) c.args.caller.moment c.in_ok-found.found.dir c.in_ok-found.found.name.now))
    (c.args.free + c.rmdir-freed.result)
    (step_rmdir (state c.args.geometry.now c.args.image.now) c.args.caller.cred c.args.caller.moment c.args.path.now c.in_ok-found.found.dir c.in_ok-found.found.name.now c.in_ok-found.ensures.leads.walked) tt
    c.rmdir-freed.ensures.changes
    (rmdir_inodes c.args.geometry.now c.args.image.now c.rmdir-freed.new.image c.args.caller.moment c.in_ok-found.found.entry.inode c.in_ok-found.found.dir c.in_ok-found.found.name.now
    c.rmdir-freed.ensures.changes.makes c.in_ok-found.ensures.entry.named
    (used_some c.args.geometry.now c.args.image.now c.in_ok-found.found.entry.inode
    (used_first c.args.geometry.now c.args.image.now c.in_ok-found.found.entry.inode c.in_ok-found.ensures.entry.used) c.ready_stands.ensures.files c.in_ok-found.ensures.entry.used)
    c.rmdir-freed.ensures.cleared c.rmdir-freed.ensures.others)
    (rmdir_leaves c.args.geometry.now c.args.image.now c.rmdir-freed.new.image c.args.caller.cred c.args.caller.moment c.args.path.now c.in_ok-found.found.dir c.in_ok-found.found.name.now
    c.in_ok-found.ensures.leads.walked c.in_ok-found.found.entry.slot c.in_ok-found.found.entry.inode c.in_ok-found.ensures.entry.named
    c.in_ok-found.ensures.entry.slot c.rmdir-freed.ensures.list c.rmdir-freed.ensures.files c.rmdir-freed.ensures.bytes)
    (omega (arith, count, freed, after))
