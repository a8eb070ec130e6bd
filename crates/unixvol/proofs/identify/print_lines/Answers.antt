use Rattle.std.proofs.Common.{◌∙◌, ◌+◌, ℕ, List, ap, arith, map, refl, subst, sym}
use Rattle.std.specs.Borrow.{Bor}
use Rattle.std.specs.Io.KnownBytes.{Appends}
use Rattle.pdp_words.specs.Devices.{AppendsFront}
use Rattle.command_faults.specs.Faults.{line_after}
use Rattle.command_faults.specs.Streams.{streams}
use Rattle.unixvol.specs.Identify.{RunsIdentify}
use Rattle.unixvol.proofs.Identified.{ArePrinted, breaks_first, breaks_off, printed_all, printed_more, printed_none}
use Rattle.unixvol.proofs.identify.print_lines.Goals as goal

pub returns-in-Err : goal.returns-in-Err
returns-in-Err g c =
    let cut = c.in-Err.ensures.broken in
    let run = streams g.O.Sink.contents g.O.Sink.failed c.args.output.now c.print_line.new.output c.from-in-Err.result.fault in
    subst (λ (status : ℕ). RunsIdentify g.R.File.Read.remaining g.R.ImageFiles.had g.R.ImageFiles.stood run c.args.form (map (λ (image : Bor (List ℕ)). image.now) c.args.images.now) status) (sym c.from-in-Err.ensures.0)
    (breaks_off g.R.File.Read.remaining g.R.ImageFiles.had g.R.ImageFiles.stood c.args.form c.args.images.now c.images.image-index _ run (g.O.Sink.contents c.images.output) c.images.status cut.0 cut.1 cut.2 (omega arith)
    c.images.invariant.0 cut.3 cut.4 cut.5 (ap line_after c.from-in-Err.ensures.1))

pub images-preserved : goal.images-preserved
images-preserved g c =
    let line = c.in-Ok-print_line.ensures.printed in (
      subst (λ (status : ℕ). ArePrinted g.R.File.Read.remaining g.R.ImageFiles.had g.R.ImageFiles.stood c.args.form c.args.images.now (c.images.image-index + 1) (g.O.Sink.contents c.args.output.now)
          (g.O.Sink.contents c.print_line.new.output) status) (sym c.max-status.ensures)
          (printed_more g.R.File.Read.remaining g.R.ImageFiles.had g.R.ImageFiles.stood c.args.form c.args.images.now c.images.image-index _ (g.O.Sink.contents c.args.output.now) (g.O.Sink.contents c.images.output)
          (g.O.Sink.contents c.print_line.new.output) c.images.status c.in-Ok-print_line.one (omega arith) c.images.invariant.0 (line.0, line.1, line.2)),
      line.3 ∙ c.images.invariant.1,
    )

pub returns-in_default : goal.returns-in_default
returns-in_default g c =
    let run = streams g.O.Sink.contents g.O.Sink.failed c.args.output.now c.write_all.new.sink c.from.result.fault in
    let paths = map (λ (image : Bor (List ℕ)). image.now) c.args.images.now in
    subst (λ (status : ℕ). RunsIdentify g.R.File.Read.remaining g.R.ImageFiles.had g.R.ImageFiles.stood run c.args.form paths status) (sym c.from.ensures.0)
    (breaks_first g.R.File.Read.remaining g.R.ImageFiles.had g.R.ImageFiles.stood c.args.form paths run c.in_default.field-0.written
    (subst (λ (bytes : List ℕ). AppendsFront (g.O.Sink.contents c.args.output.now) (g.O.Sink.contents c.write_all.new.sink) bytes c.in_default.field-0.written) c.front_of.ensures
    c.in_default.ensures.part) c.in_default.ensures.fault (ap line_after c.from.ensures.1))

pub images-init : goal.images-init
images-init g c = (
  printed_none g.R.File.Read.remaining g.R.ImageFiles.had g.R.ImageFiles.stood c.args.form c.args.images.now (g.O.Sink.contents c.args.output.now)
      (g.O.Sink.contents c.write_all.new.sink)
      (subst (λ (bytes : List ℕ). Appends (g.O.Sink.contents c.args.output.now) (g.O.Sink.contents c.write_all.new.sink) bytes) c.front_of.ensures c.in-Ok.ensures.ok),
  c.in-Ok.ensures.working,
)

pub returns : goal.returns
returns g c =
    printed_all g.R.File.Read.remaining g.R.ImageFiles.had g.R.ImageFiles.stood c.args.form c.args.images.now c.images.image-index _ c.images.status (omega arith)
    c.images.invariant.0 c.images.invariant.1 refl
