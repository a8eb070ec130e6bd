use Rattle.std.proofs.Common.{ap, [], inl, inr, refl, subst}
use Rattle.std.proofs.KnownBytes.{Appends-nil}
use Rattle.command_faults.specs.Faults.{line_after}
use Rattle.command_reads.specs.BadFiles.{IsOpened, file_sights, place_of}
use Rattle.command_reads.specs.Node.{number_of}
use Rattle.command_reads.proofs.KnownFiles.{file_unreached, hidden, known_file, visible}
use Rattle.command_reads.proofs.Printed.{showing, told_only}
use Rattle.command_reads.proofs.bad_files.read_known.Goals as goal

pub returns-in-Err : goal.returns-in-Err
returns-in-Err g c opened is =
    let edition = c.args.edition in
    let image = c.args.image.now in
    let lost = c.args.lost.now in
    let place = place_of c.args.node in
    let number = number_of c.args.edition c.args.image.now c.args.node in
    let unopened = subst (IsOpened number opened) c.in-Err.is is in
    showing (file_sights edition image lost place number opened c.args.damaged) _ _ _ _ refl
    (file_unreached edition image lost place number opened c.args.damaged c.unreached-shown.result (c.unreached-shown.ensures.shown opened unopened)
    (c.unreached-shown.ensures.fault opened unopened)) c.print.ensures.printed c.print.ensures.told

pub returns-in-Err-remarks_on : goal.returns-in-Err-remarks_on
returns-in-Err-remarks_on g c opened is =
    inr (
      _,
      inl refl,
      told_only c.from.ensures,
    )

pub returns-then-not-is_shown : goal.returns-then-not-is_shown
returns-then-not-is_shown g c opened is =
    let remarks = c.in-Ok-remarks_on.remarks in
    inl (
      [],
      c.ending_with.result.status,
      remarks.lines.items,
      known_file c.args.edition c.args.image.now c.args.lost.now (place_of c.args.node) (number_of c.args.edition c.args.image.now c.args.node) opened c.args.damaged
          c.is_shown.result c.args.found c.in-Ok.file [] remarks.lines.items remarks.is_short c.ending_with.result.status is c.in-Ok.is c.is_shown.ensures
          (hidden c.is_shown.result _ c.if-not-is_shown.true) c.in-Ok-remarks_on.ensures c.ending_with.ensures.status,
      inl (record {
        status = refl;
        whole = Appends-nil (g.O.Sink.contents c.args.output.now);
        working = refl;
        said = c.ending_with.ensures.line;
      }),
    )

pub returns-in-Ok-show : goal.returns-in-Ok-show
returns-in-Ok-show g c opened is =
    let remarks = c.in-Ok-remarks_on.remarks in
    inl (
      _,
      c.ending_with-in-Ok-show.result.status,
      remarks.lines.items,
      known_file c.args.edition c.args.image.now c.args.lost.now (place_of c.args.node) (number_of c.args.edition c.args.image.now c.args.node) opened c.args.damaged
          c.is_shown.result c.args.found c.in-Ok.file _ remarks.lines.items remarks.is_short c.ending_with-in-Ok-show.result.status is c.in-Ok.is c.is_shown.ensures
          (visible c.is_shown.result _ c.if-not-is_shown.false) c.in-Ok-remarks_on.ensures c.ending_with-in-Ok-show.ensures.status,
      inl (record {
        status = refl;
        whole = c.in-Ok-show.ensures.ok;
        working = c.in-Ok-show.ensures.kept;
        said = c.ending_with-in-Ok-show.ensures.line;
      }),
    )

pub returns-in-Err-show : goal.returns-in-Err-show
returns-in-Err-show g c opened is =
    let remarks = c.in-Ok-remarks_on.remarks in
    inl (
      _,
      _,
      remarks.lines.items,
      known_file c.args.edition c.args.image.now c.args.lost.now (place_of c.args.node) (number_of c.args.edition c.args.image.now c.args.node) opened c.args.damaged
          c.is_shown.result c.args.found c.in-Ok.file _ remarks.lines.items remarks.is_short _ is c.in-Ok.is c.is_shown.ensures
          (visible c.is_shown.result _ c.if-not-is_shown.false) c.in-Ok-remarks_on.ensures refl,
      inr (record {
        status = c.from-in-Err-show.ensures.0;
        front = (c.in-Err-show.ensures.part.0, c.in-Err-show.ensures.part.2);
        broken = c.in-Err-show.ensures.fault;
        said = ap line_after c.from-in-Err-show.ensures.1;
      }),
    )
