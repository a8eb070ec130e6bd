use Rattle.std.proofs.Common.{◌≡◌, ◌∙◌, ap, sym, subst}
use Rattle.std.specs.Prelude.{Ok, Err}
use Rattle.vol_layout.specs.Edition.{constants}
use Rattle.vol_layout.specs.Geometry.{Fits, geometry_of}
use Rattle.vol_judge.proofs.RuleNumbers.{read_sizes}
use Rattle.vol_dir.specs.Entries.{IsDirectory}
use Rattle.command_changes.proofs.RepairedImages.{sound_read, sound_root, told_lost}
use Rattle.command_changes.proofs.repair_losses.lost_lines.Goals as goal

pub tell_repaired-requires-clause-directory : goal.tell_repaired-requires-clause-directory
tell_repaired-requires-clause-directory c =
    let new = c.args.new.now in
    let sizes = read_sizes c.args.edition new c.in-Ok.geometry (sym c.in-Ok.ensures.exact) in
    let fits = subst (λ g. Fits g new) sizes c.in-Ok.ensures.fits in
    rw c.constants-root.ensures (subst (λ g. IsDirectory g new (constants c.args.edition).root) (sym sizes) (sound_root c.args.edition new fits c.requires.sound))

pub unreachable-requires : goal.unreachable-requires
unreachable-requires c =
    let clash : Err c.in-Err.field-0 ≡ Ok (geometry_of c.args.edition c.args.new.now) =
    c.in-Err.ensures.exact ∙ sound_read c.args.edition c.args.new.now c.requires.sound in
    absurd (cc)

pub returns : goal.returns
returns c =
    told_lost c.args.edition c.in-Ok.geometry c.args.old.now c.args.new.now c.in_ok-lines-in-Ok.lines.items c.constants-root.result.root c.args.lost.now
    (sym c.is_empty.ensures ∙ c.if-is_empty.false) (read_sizes c.args.edition c.args.new.now c.in-Ok.geometry (sym c.in-Ok.ensures.exact))
    (ap (λ k. k.root) c.constants-root.ensures) c.in_ok-lines-in-Ok.ensures
