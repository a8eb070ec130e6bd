use Rattle.std.proofs.Common.{◌≡◌, ◌∙◌, ◌==◌, if◌then◌else◌, List, Bool, false, ℕ, inl, length, ap, subst, sym}
use Rattle.vol_archive.specs.declared.met_entries.MetEntry.{MetEntry}
use Rattle.vol_listing.specs.Listings.{shown_path}
use Rattle.command_reads.specs.Export.{begun, told_status}
use Rattle.command_reads.specs.Losses.{TellsExport, is_graded}
use Rattle.command_reads.specs.Sums.{AreSumsIn, IsManifest, sums_sights}
use Rattle.command_reads.specs.Print.{IsSight}
use Rattle.command_reads.proofs.UnreachedPaths.{unreached_sums}
use Rattle.command_terms.specs.declared.looks.ExportOptions.{ExportOptions}
use Rattle.command_reads.proofs.sums.sums_of.Goals as goal

pub returns : goal.returns
returns c =
    let edition = c.args.edition in
    let image = c.args.image.now in
    let marks = c.args.marks.now in
    let start = c.in-Ok.start in
    let text = c.in_ok-text.text.items in
    let remarks = c.in_ok-remarks.remarks in
    let line = sym c.ending_with-ending.ensures.line in
    inl (
      subst (λ (lines : List ℕ). IsManifest edition image marks c.args.path.now c.args.form c.args.lost text lines) line (record {
        start = start;
        begins = sym (c.in-Ok.ensures.exact ∙ ap (λ (path : List ℕ). begun c.args.lost edition image path) c.as_bytes.ensures.value);
        founds = c.in_ok-rescue.rescue.founds.items;
        walk = c.in_ok-rescue.ensures.founds;
        words = subst (λ (founds : List MetEntry). AreSumsIn start.geometry image marks (shown_path c.args.path.now) founds c.args.form text)
            (c.deref-2.ensures.value ∙ c.in_ok-kept.ensures)
            (subst (λ (top : List ℕ). AreSumsIn start.geometry image marks top c.deref-2.result.now c.args.form text)
            (c.deref.ensures.value ∙ (c.in_ok-top.ensures ∙ ap (λ (path : List ℕ). shown_path path) c.as_bytes-2.ensures.value)) c.in_ok-text.ensures);
        short = remarks.is_short;
        told = subst (λ (options : ExportOptions). TellsExport edition image marks start c.in_ok-rescue.rescue.founds.items options remarks.lines.items remarks.is_short)
            c.as_exported-options.ensures c.in_ok-remarks.ensures;
      }),
      subst (λ (lines : List ℕ). c.ending_with-ending.result.status ≡ (if length lines == 0 then 0 else told_status (is_graded false marks) remarks.is_short)) line
          (c.ending_with-ending.ensures.status
          ∙ ap (λ (graded : Bool). if length remarks.lines.items == 0 then 0 else told_status graded remarks.is_short) c.is_graded.ensures),
    )

pub returns-in-Err : goal.returns-in-Err
returns-in-Err c =
    let edition = c.args.edition in
    let image = c.args.image.now in
    let given = c.as_bytes-in-Err.result.now in
    let begins = sym (c.in-Err.ensures.exact ∙ ap (λ (path : List ℕ). begun c.args.lost edition image path) (c.as_bytes.ensures.value ∙ sym c.as_bytes-in-Err.ensures.value)) in
    subst (λ (path : List ℕ). IsSight (sums_sights edition image c.args.marks.now path c.args.form c.args.lost) c.unreached.result) c.as_bytes-in-Err.ensures.value
    (unreached_sums edition image c.args.marks.now given c.args.form c.args.lost c.in-Err.why c.unreached.result begins c.unreached.ensures.shown c.unreached.ensures.fault)
