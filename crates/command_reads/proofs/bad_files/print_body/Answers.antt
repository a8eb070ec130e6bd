use Rattle.std.proofs.Common.{ap, [], inl, inr, refl, subst}
use Rattle.command_faults.specs.Faults.{line_after}
use Rattle.command_reads.specs.BadFiles.{IsOpened}
use Rattle.command_reads.specs.Cat.{file_of}
use Rattle.command_reads.proofs.Printed.{told_only}
use Rattle.command_reads.proofs.bad_files.print_body.Goals as goal

pub returns-in-Err : goal.returns-in-Err
returns-in-Err g c edition number is =
    let why = subst (IsOpened number (file_of edition c.args.image.now)) c.in-Err.is is in
    inr (
      _,
      (c.in-Err.why, why, c.as_fault.ensures),
      told_only c.from.ensures,
    )

pub returns-in-Ok-show : goal.returns-in-Ok-show
returns-in-Ok-show g c edition number is =
    let found = subst (IsOpened number (file_of edition c.args.image.now)) c.in-Ok.is is in
    inl (
      _,
      0,
      [],
      (((c.in-Ok.file.geometry, c.in-Ok.file.inode, found.0, found.1, refl), refl), refl),
      inl (record {
        status = refl;
        whole = c.in-Ok-show.ensures.ok;
        working = c.in-Ok-show.ensures.kept;
        said = refl;
      }),
    )

pub returns-in-Err-show : goal.returns-in-Err-show
returns-in-Err-show g c edition number is =
    let found = subst (IsOpened number (file_of edition c.args.image.now)) c.in-Ok.is is in
    inl (
      _,
      0,
      [],
      (((c.in-Ok.file.geometry, c.in-Ok.file.inode, found.0, found.1, refl), refl), refl),
      inr (record {
        status = c.from-in-Err-show.ensures.0;
        front = (c.in-Err-show.ensures.part.0, c.in-Err-show.ensures.part.2);
        broken = c.in-Err-show.ensures.fault;
        said = ap line_after c.from-in-Err-show.ensures.1;
      }),
    )
