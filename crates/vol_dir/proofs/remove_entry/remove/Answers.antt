use Rattle.std.proofs.Common.{◌∙◌, sym, ap, arith, true≢false}
use Rattle.std.specs.Option.{is_some}
use Rattle.vol_dir.proofs.Searches.{missing_number, named_slot}
use Rattle.vol_dir.proofs.remove_entry.remove.Goals as goal

pub remove_at-requires-clause-slot : goal.remove_at-requires-clause-slot
remove_at-requires-clause-slot c =
    let entry = c.in-Some.entry in
    sym (named_slot c.args.geometry.now c.args.image.now c.args.name.now c.args.dir entry.slot entry.inode c.in-Some.ensures)

pub returns-in_default : goal.returns-in_default
returns-in_default c =
    absurd (true≢false (sym c.requires.there
    ∙ ap is_some (missing_number c.args.geometry.now c.args.image.now c.args.dir c.args.name.now (λ t h. c.in_default.ensures t (omega arith) h))))
