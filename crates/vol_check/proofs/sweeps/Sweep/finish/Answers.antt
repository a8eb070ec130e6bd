use Rattle.std.proofs.Common.{◌≡◌, ◌∙◌, sym, ap, subst, ℕ, List, All, length, arith}
use Rattle.std.proofs.lemmas.Result.{IfOk-weaker}
use Rattle.count_table.specs.Tallies.{table_shape, items_of}
use Rattle.vol_reports.specs.Reports.{block_report_of, entry_report_of, IsNameReportOf}
use Rattle.vol_reports.specs.Icheck.{block_lines}
use Rattle.vol_reports.specs.Dcheck.{entry_lines}
use Rattle.vol_reports.specs.Ncheck.{IsNameLines}
use Rattle.vol_reports.specs.Counted.{CountsBlocks, CountsEntries, CountsNames, HasLinkCounts}
use Rattle.vol_check.specs.declared.checker.Checker.{Checker}
use Rattle.vol_check.specs.declared.checker.Checker.TheVariants.{Blocks, Entries, Names}
use Rattle.vol_check.specs.Shapes.{Layout}
use Rattle.vol_check.specs.Seats.{IsOf}
use Rattle.vol_check.specs.Layouts.{IsFor}
use Rattle.vol_check.specs.SweepReports.{IsReport}
use Rattle.vol_check.proofs.Layouts.{read_fits}
use Rattle.vol_check.proofs.Reported.{walked, counts_blocks}
use Rattle.vol_check.proofs.EntriesReported.{counts_entries}
use Rattle.vol_check.proofs.NamesReported.{counts_names}
use Rattle.vol_check.proofs.sweeps.Sweep.finish.Goals as goal

pub block_report-requires-clause-zone : goal.block_report-requires-clause-zone
block_report-requires-clause-zone c = (c.args.self.shaped.ready c.in-Ok.geometry c.in-Ok.is).bounds.zone

pub block_report-requires-clause-wide : goal.block_report-requires-clause-wide
block_report-requires-clause-wide c =
    let has = (c.args.self.shaped.ready c.in-Ok.geometry c.in-Ok.is).words.of_blocks c.in-Blocks.is in
    omega (arith, c.close-words.ensures.wide, has.counts, has.leasts)

pub returns-in-Blocks-clause-report : goal.returns-in-Blocks-clause-report
returns-in-Blocks-clause-report c =
    let sweep = c.args.self in
    let g = c.in-Ok.geometry in
    let all = c.in_ok-all.all in
    let gathers = c.in_ok-all.ensures in
    let ready = sweep.shaped.ready g c.in-Ok.is in
    let has = ready.words.of_blocks c.in-Blocks.is in
    let words = items_of c.close-words.result in
    let well = c.if-all.false in
    IfOk-weaker c.block_report.result (λ report. (image : List ℕ) → CountsBlocks g image words all.fault → report ≡ block_lines g image)
    (λ report. (image : List ℕ) → IsFor sweep image → All (IsOf sweep.checker sweep.layout image) c.args.seats.items → IsReport sweep.checker sweep.edition image report)
    (λ report is image layout seats.
    let read = layout.read ∙ c.in-Ok.is in
    let knows = gathers.knows sweep.checker sweep.layout image seats in
    let known = subst (λ (x : Layout). IsOf Blocks x image all) c.in-Ok.is (subst (λ (k : Checker). IsOf k sweep.layout image all) c.in-Blocks.is knows) in
    let fits = read_fits sweep.edition image g read ready.bounds in
    let stopped = gathers.stopped well in
    let fault = known.fault well ∙ walked g image fits (table_shape sweep.tally) all.seat.me.0 words has c.close-words.ensures stopped (known.marks well) in
    let counts = counts_blocks g image fits (table_shape sweep.tally) all.seat.me.0 words has c.close-words.ensures stopped (known.marks well) all.fault fault in
    subst (λ (k : Checker). IsReport k sweep.edition image report) (sym c.in-Blocks.is)
    (is image counts ∙ sym (ap (λ (x : Layout). block_report_of x image) read)))
    c.block_report.ensures

pub entry_report-requires-clause-wide : goal.entry_report-requires-clause-wide
entry_report-requires-clause-wide c =
    let has = (c.args.self.shaped.ready c.in-Ok.geometry c.in-Ok.is).words.of_entries c.in-Entries.is in
    omega (arith, c.close-words.ensures.wide, has.counts, has.leasts)

pub entry_report-requires-clause-links : goal.entry_report-requires-clause-links
entry_report-requires-clause-links c =
    let len = (c.args.self.shaped.ready c.in-Ok.geometry c.in-Ok.is).counts c.in-Entries.is in
    ap length c.deref.ensures.value ∙ len

pub returns-in-Entries-clause-report : goal.returns-in-Entries-clause-report
returns-in-Entries-clause-report c =
    let sweep = c.args.self in
    let g = c.in-Ok.geometry in
    let all = c.in_ok-all.all in
    let gathers = c.in_ok-all.ensures in
    let ready = sweep.shaped.ready g c.in-Ok.is in
    let has = ready.words.of_entries c.in-Entries.is in
    let words = items_of c.close-words.result in
    let well = c.if-all.false in
    let other : sweep.checker ≡ Blocks → ⊥ = λ e. absurd (let q : Entries ≡ Blocks = sym c.in-Entries.is ∙ e in cc) in
    IfOk-weaker c.entry_report.result
    (λ report. (image : List ℕ) → CountsEntries g image words → HasLinkCounts g image c.deref.result.now → report ≡ entry_lines g image)
    (λ report. (image : List ℕ) → IsFor sweep image → All (IsOf sweep.checker sweep.layout image) c.args.seats.items → IsReport sweep.checker sweep.edition image report)
    (λ report is image layout seats.
    let read = layout.read ∙ c.in-Ok.is in
    let knows = gathers.knows sweep.checker sweep.layout image seats in
    let known = subst (λ (x : Layout). IsOf Entries x image all) c.in-Ok.is (subst (λ (k : Checker). IsOf k sweep.layout image all) c.in-Entries.is knows) in
    let fits = read_fits sweep.edition image g read ready.bounds in
    let stopped = gathers.stopped well in
    let counts = counts_entries g image fits (table_shape sweep.tally) all.seat.me.0 words sweep.pieces sweep.starts.items has c.close-words.ensures
    sweep.shaped.count stopped (ready.parts other) (layout.starts g c.in-Ok.is other) (known.marks well) in
    let links = subst (HasLinkCounts g image) (sym c.deref.ensures.value) (layout.links g c.in-Ok.is c.in-Entries.is) in
    subst (λ (k : Checker). IsReport k sweep.edition image report) (sym c.in-Entries.is)
    (is image counts links ∙ sym (ap (λ (x : Layout). entry_report_of x image) read)))
    c.entry_report.ensures

pub name_report-requires : goal.name_report-requires
name_report-requires c =
    let has = (c.args.self.shaped.ready c.in-Ok.geometry c.in-Ok.is).words.of_names c.in-Names.is in
    omega (arith, c.close-words.ensures.wide, has.counts, has.leasts)

pub returns-in-Ok-clause-report : goal.returns-in-Ok-clause-report
returns-in-Ok-clause-report c =
    let sweep = c.args.self in
    let g = c.in-Ok.geometry in
    let all = c.in_ok-all.all in
    let gathers = c.in_ok-all.ensures in
    let ready = sweep.shaped.ready g c.in-Ok.is in
    let has = ready.words.of_names c.in-Names.is in
    let words = items_of c.close-words.result in
    let well = c.if-all.false in
    let other : sweep.checker ≡ Blocks → ⊥ = λ e. absurd (let q : Names ≡ Blocks = sym c.in-Names.is ∙ e in cc) in
    IfOk-weaker c.name_report.result
    (λ report. (image : List ℕ) → CountsNames g image words c.deref-in-Names.result.now → IsNameLines g image report)
    (λ report. (image : List ℕ) → IsFor sweep image → All (IsOf sweep.checker sweep.layout image) c.args.seats.items → IsReport sweep.checker sweep.edition image report)
    (λ report is image layout seats.
    let read = layout.read ∙ c.in-Ok.is in
    let knows = gathers.knows sweep.checker sweep.layout image seats in
    let known = subst (λ (x : Layout). IsOf Names x image all) c.in-Ok.is (subst (λ (k : Checker). IsOf k sweep.layout image all) c.in-Names.is knows) in
    let fits = read_fits sweep.edition image g read ready.bounds in
    let stopped = gathers.stopped well in
    let counts = counts_names g image fits (table_shape sweep.tally) all.seat.me.0 words sweep.pieces sweep.starts.items has c.close-words.ensures
    sweep.shaped.count stopped (ready.parts other) (layout.starts g c.in-Ok.is other) (known.marks well) all.entries.items (known.entries well) in
    subst (λ (k : Checker). IsReport k sweep.edition image report) (sym c.in-Names.is)
    (subst (λ (x : Layout). IsNameReportOf x image report) (sym read)
    (is image (subst (CountsNames g image words) (sym c.deref-in-Names.ensures.value) counts))))
    c.name_report.ensures
