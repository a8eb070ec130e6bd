use Rattle.std.proofs.Common.{◌∙◌, sym, arith}
use Rattle.vol_dir.proofs.Searches.{named_number, missing_number}
use Rattle.vol_dir.proofs.entries.find.Goals as goal

pub returns-in_err-first_entry : goal.returns-in_err-first_entry
returns-in_err-first_entry c =
    c.from_residual.ensures
    ∙ sym (missing_number c.args.geometry.now c.args.image.now c.args.dir c.args.name.now (λ t h. c.in_err-first_entry.ensures t (omega arith) h))

pub returns : goal.returns
returns c =
    let entry = c.in_ok-first_entry.field-0 in
    sym (named_number c.args.geometry.now c.args.image.now c.args.name.now c.args.dir entry.slot entry.inode c.in_ok-first_entry.ensures)
