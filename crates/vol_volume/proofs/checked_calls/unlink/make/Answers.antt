use Rattle.std.proofs.Common.{◌≡◌, ℕ, ◌+◌, ◌^◌, ◌<◌, ◌∙◌, ap, sym, arith}
use Rattle.vol_layout.specs.Inode.{inode_of}
use Rattle.vol_dir.specs.Tree.{tree, state}
use Rattle.vol_dir.specs.Walk.{is_directory}
use Rattle.vol_change.specs.Edits.{at_time}
use Rattle.vol_change.specs.Nodes.{node_at}
use Rattle.vol_change.specs.Effects.{after_unlink}
use Rattle.vol_change.specs.Ready.{free_in}
use Rattle.vol_volume.proofs.Accepted.{unlink_passed}
use Rattle.vol_volume.proofs.KeptInodes.{unlink_inodes}
use Rattle.vol_volume.proofs.LeftRests.{unlink_leaves}
use Rattle.vol_change.proofs.FreeAfter.{entry_is}
use Rattle.vol_volume.proofs.NodeReadings.{tree_geometry, used_first, used_some, links_are, other_kind}
use Rattle.vol_volume.proofs.PerformedCalls.{performed_by, step_unlink, free_low, freed_blocks, freed_by, free_unlinked}
use Rattle.vol_volume.specs.declared.calls.Call.TheVariants.{Unlink}
use Rattle.vol_volume.specs.declared.calls.Done.TheVariants.{Plain}
use Rattle.vol_volume.proofs.checked_calls.unlink.make.Goals as goal

pub unlink-freed-requires-clause-other : goal.unlink-freed-requires-clause-other
unlink-freed-requires-clause-other c =
    (other_kind c.args.geometry.now c.args.image.now c.in_ok-found.found.entry.inode (used_first c.args.geometry.now c.args.image.now c.in_ok-found.found.entry.inode c.in_ok-found.ensures.entry.used) c.in_ok-found.ensures.entry.used.last (ap (λ (j : ℕ). is_directory (node_at (tree c.args.geometry.now c.args.image.now) j)) (sym (entry_is (state c.args.geometry.now c.args.image.now) c.in_ok-found.found.dir c.in_ok-found.found.entry.inode c.in_ok-found.found.name.now c.in_ok-found.ensures.entry.named)) ∙ (unlink_passed (state c.args.geometry.now c.args.image.now) c.args.caller.cred c.args.path.now c.in_ok-found.found.dir c.in_ok-found.found.name.now (sym c.in_ok-found.ensures.refusal) c.in_ok-found.ensures.leads.walked).1))

pub overflow_add-result : goal.overflow_add-result
unfolding tree
overflow_add-result c =
    let count : c.args.free ≡ free_in (state c.args.geometry.now c.args.image.now) = c.requires.count in
    let lost : c.unlink-freed.result ≡ (freed_blocks c.args.geometry.now c.args.image.now c.in_ok-found.found.entry.inode) =
    freed_by c.args.geometry.now c.args.image.now c.in_ok-found.found.entry.inode c.unlink-freed.result
    (inode_of c.args.geometry.now.edition c.args.image.now c.in_ok-found.found.entry.inode).links c.unlink-freed.ensures.count
    (links_are c.args.geometry.now c.args.image.now c.in_ok-found.found.entry.inode
    (used_first c.args.geometry.now c.args.image.now c.in_ok-found.found.entry.inode c.in_ok-found.ensures.entry.used)
    c.ready_stands.ensures.files c.in_ok-found.ensures.entry.used) in
    let after : free_in (at_time c.args.caller.moment (after_unlink (state c.args.geometry.now c.args.image.now) c.args.caller.moment c.in_ok-found.found.dir c.in_ok-found.found.name.now)) ≡ free_in (state c.args.geometry.now c.args.image.now) + (freed_blocks c.args.geometry.now c.args.image.now c.in_ok-found.found.entry.inode) =
    free_unlinked c.args.geometry.now c.args.image.now c.args.caller.moment c.in_ok-found.found.entry.inode c.in_ok-found.found.dir c.in_ok-found.found.name.now c.requires.ready c.in_ok-found.ensures.entry.named in
    let same : free_in (state c.args.geometry.now c.unlink-freed.new.image) ≡ free_in (at_time c.args.caller.moment (after_unlink (state c.args.geometry.now c.args.image.now) c.args.caller.moment c.in_ok-found.found.dir c.in_ok-found.found.name.now)) = ap free_in c.unlink-freed.ensures.changes.makes in
    let low : free_in (state c.args.geometry.now c.unlink-freed.new.image) < 2 ^ 32 =
    free_low c.args.geometry.now c.args.image.now (state c.args.geometry.now c.unlink-freed.new.image) (tree_geometry c.args.geometry.now c.unlink-freed.new.image) c.requires.ready.fits in
    omega (arith, count, lost, after, same, low)

pub returns-clause-performed : goal.returns-clause-performed
returns-clause-performed c =
    let count : c.args.free ≡ free_in (state c.args.geometry.now c.args.image.now) = c.requires.count in
    let lost : c.unlink-freed.result ≡ (freed_blocks c.args.geometry.now c.args.image.now c.in_ok-found.found.entry.inode) =
    freed_by c.args.geometry.now c.args.image.now c.in_ok-found.found.entry.inode c.unlink-freed.result
    (inode_of c.args.geometry.now.edition c.args.image.now c.in_ok-found.found.entry.inode).links c.unlink-freed.ensures.count
    (links_are c.args.geometry.now c.args.image.now c.in_ok-found.found.entry.inode
    (used_first c.args.geometry.now c.args.image.now c.in_ok-found.found.entry.inode c.in_ok-found.ensures.entry.used)
    c.ready_stands.ensures.files c.in_ok-found.ensures.entry.used) in
    let after : free_in (at_time c.args.caller.moment (after_unlink (state c.args.geometry.now c.args.image.now) c.args.caller.moment c.in_ok-found.found.dir c.in_ok-found.found.name.now)) ≡ free_in (state c.args.geometry.now c.args.image.now) + (freed_blocks c.args.geometry.now c.args.image.now c.in_ok-found.found.entry.inode) =
    free_unlinked c.args.geometry.now c.args.image.now c.args.caller.moment c.in_ok-found.found.entry.inode c.in_ok-found.found.dir c.in_ok-found.found.name.now c.requires.ready c.in_ok-found.ensures.entry.named in
    let first = used_first c.args.geometry.now c.args.image.now c.in_ok-found.found.entry.inode c.in_ok-found.ensures.entry.used in
    performed_by c.args.geometry.now c.args.image.now c.unlink-freed.new.image (Unlink c.args.caller.cred c.args.caller.moment c.args.path.now) Plain
    (at_time c.args.caller.moment (after_unlink (state c.args.geometry.now c.args.image.now) c.args.caller.moment c.in_ok-found.found.dir c.in_ok-found.found.name.now))
    (c.args.free + c.unlink-freed.result)
    (step_unlink (state c.args.geometry.now c.args.image.now) c.args.caller.cred c.args.caller.moment c.args.path.now c.in_ok-found.found.dir c.in_ok-found.found.name.now c.in_ok-found.ensures.leads.walked) tt
    c.unlink-freed.ensures.changes
    (unlink_inodes c.args.geometry.now c.args.image.now c.unlink-freed.new.image c.args.caller.moment c.in_ok-found.found.entry.inode c.in_ok-found.found.dir
    (inode_of c.args.geometry.now.edition c.args.image.now c.in_ok-found.found.entry.inode).links c.in_ok-found.found.name.now
    c.unlink-freed.ensures.changes.makes c.in_ok-found.ensures.entry.named
    (used_some c.args.geometry.now c.args.image.now c.in_ok-found.found.entry.inode first c.ready_stands.ensures.files c.in_ok-found.ensures.entry.used)
    first c.in_ok-found.ensures.entry.used.last
    (links_are c.args.geometry.now c.args.image.now c.in_ok-found.found.entry.inode first c.ready_stands.ensures.files c.in_ok-found.ensures.entry.used)
    c.unlink-freed.ensures.cleared c.unlink-freed.ensures.unused c.unlink-freed.ensures.others)
    (unlink_leaves c.args.geometry.now c.args.image.now c.unlink-freed.new.image c.args.caller.cred c.args.caller.moment c.args.path.now c.in_ok-found.found.dir c.in_ok-found.found.name.now
    c.in_ok-found.ensures.leads.walked c.in_ok-found.found.entry.slot c.in_ok-found.found.entry.inode c.in_ok-found.ensures.entry.named
    c.in_ok-found.ensures.entry.slot
    (inode_of c.args.geometry.now.edition c.args.image.now c.in_ok-found.found.entry.inode).links
    (links_are c.args.geometry.now c.args.image.now c.in_ok-found.found.entry.inode first c.ready_stands.ensures.files c.in_ok-found.ensures.entry.used)
    c.unlink-freed.ensures.freed c.unlink-freed.ensures.list c.unlink-freed.ensures.kept c.unlink-freed.ensures.files c.unlink-freed.ensures.bytes)
    (omega (arith, count, lost, after))
