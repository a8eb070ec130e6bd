use Rattle.std.proofs.Common.{◌∙◌, ◌+◌, ℕ, List, ap, arith, subst, sym}
use Rattle.pdp_words.specs.Devices.{AppendsFront}
use Rattle.command_faults.specs.Faults.{line_after}
use Rattle.command_faults.specs.Streams.{streams}
use Rattle.unixvol.specs.Below.{VisitsAll}
use Rattle.unixvol.proofs.VisitedBelow.{ArePrintedBelow, breaks_first, breaks_off, visited_more}
use Rattle.unixvol.proofs.identify_below.print_stack.Goals as goal

pub returns-in_default : goal.returns-in_default
returns-in_default g c =
    let run = streams g.O.Sink.contents g.O.Sink.failed c.args.output.now c.write_all.new.sink c.from.result.fault in
    subst (λ (status : ℕ). VisitsAll g.R.File.Read.remaining g.R.ImageFiles.had g.R.ImageFiles.stood g.R.ImageFiles.listed run c.args.form c.args.stack.items status)
    (sym c.from.ensures.0)
    (breaks_first g.R.File.Read.remaining g.R.ImageFiles.had g.R.ImageFiles.stood g.R.ImageFiles.listed c.args.form c.args.stack.items run c.in_default.field-0.written
    (subst (λ (bytes : List ℕ). AppendsFront (g.O.Sink.contents c.args.output.now) (g.O.Sink.contents c.write_all.new.sink) bytes c.in_default.field-0.written) c.front_of.ensures
    c.in_default.ensures.part) c.in_default.ensures.fault (ap line_after c.from.ensures.1))

pub returns-in-Err : goal.returns-in-Err
returns-in-Err g c =
    let cut = c.in-Err.ensures.broken in
    let run = streams g.O.Sink.contents g.O.Sink.failed c.args.output.now c.visit.new.output c.from-in-Err.result.fault in
    subst (λ (status : ℕ). VisitsAll g.R.File.Read.remaining g.R.ImageFiles.had g.R.ImageFiles.stood g.R.ImageFiles.listed run c.args.form c.args.stack.items status)
    (sym c.from-in-Err.ensures.0)
    (breaks_off g.R.File.Read.remaining g.R.ImageFiles.had g.R.ImageFiles.stood g.R.ImageFiles.listed c.args.form c.args.stack.items c.visits.stack.items c.pop.new.self.items c.in-Some.found
    c.visits.visited c.visits.status cut.2 cut.1 run (g.O.Sink.contents c.visits.output) cut.0 c.visits.invariant.0 c.in-Some.ensures.items cut.3 cut.4 cut.5
    (ap line_after c.from-in-Err.ensures.1))

pub visits-preserved : goal.visits-preserved
visits-preserved g c =
    let one = c.in-Ok-visit.ensures.visited in (
      subst (λ (status : ℕ). ArePrintedBelow g.R.File.Read.remaining g.R.ImageFiles.had g.R.ImageFiles.stood g.R.ImageFiles.listed c.args.form c.args.stack.items (c.visits.visited + 1)
          c.visit.new.stack.items (g.O.Sink.contents c.args.output.now) (g.O.Sink.contents c.visit.new.output) status) (sym c.max-status.ensures)
          (visited_more g.R.File.Read.remaining g.R.ImageFiles.had g.R.ImageFiles.stood g.R.ImageFiles.listed c.args.form c.args.stack.items c.visits.stack.items c.visit.new.stack.items
          c.pop.new.self.items c.in-Some.found c.visits.visited c.visits.status c.in-Ok-visit.one (g.O.Sink.contents c.args.output.now) (g.O.Sink.contents c.visits.output)
          (g.O.Sink.contents c.visit.new.output) c.visits.invariant.0 c.in-Some.ensures.items (one.0, one.1, one.2, one.3, one.4)),
      one.5 ∙ c.visits.invariant.1,
      omega (arith, c.visits-test.true),
    )
