use Rattle.std.proofs.Common.{◌≡◌, ◌∙◌, ◌==◌, if◌then◌else◌, List, ℕ, inl, length, ap, subst, sym}
use Rattle.std.specs.Prelude.{option_map, true}
use Rattle.vol_archive.specs.declared.met_entries.MetEntry.{MetEntry}
use Rattle.vol_listing.specs.Listings.{shown_path}
use Rattle.command_reads.specs.Export.{begun, told_status}
use Rattle.command_reads.specs.Find.{AreFound, TellsFound, found_in, found_sights}
use Rattle.command_reads.specs.Print.{IsSight}
use Rattle.command_reads.proofs.UnreachedPaths.{unreached_found}
use Rattle.command_reads.proofs.find.find_in.Goals as goal

pub returns : goal.returns
returns c =
    let edition = c.args.edition in
    let image = c.args.image.now in
    let pattern = option_map (λ word. word.now) c.args.pattern in
    let remarks = c.in_ok-remarks.remarks in
    let line = sym c.ending_with-ending.ensures.line in
    inl (
      remarks.is_short,
      subst (λ (lines : List ℕ). AreFound edition image c.args.marks.now c.args.path.now pattern c.args.lost c.args.form c.args.screen remarks.is_short c.in_ok-text.text.items lines)
          line (record {
            start = c.in-Ok.start;
            founds = c.in_ok-rescue.rescue.founds.items;
            begins = sym (c.in-Ok.ensures.exact ∙ ap (λ (path : List ℕ). begun c.args.lost edition image path) c.as_bytes.ensures.value);
            walk = c.in_ok-rescue.ensures.founds;
            paths = c.in_ok-text.ensures
                ∙ (ap (λ (top : List ℕ). found_in c.args.screen pattern top c.deref-2.result.now c.args.form)
                (c.deref.ensures.value ∙ (c.in_ok-top.ensures ∙ ap (λ (path : List ℕ). shown_path path) c.as_bytes-2.ensures.value))
                ∙ ap (λ (founds : List MetEntry). found_in c.args.screen pattern (shown_path c.args.path.now) founds c.args.form) c.deref-2.ensures.value);
            told = subst (λ (founds : List MetEntry). TellsFound c.in-Ok.start.geometry image c.args.marks.now c.in-Ok.start.inode founds remarks.lines.items remarks.is_short)
                c.deref-3.ensures.value c.in_ok-remarks.ensures;
          }),
      subst (λ (lines : List ℕ). c.ending_with-ending.result.status ≡ (if length lines == 0 then 0 else told_status true remarks.is_short)) line
          c.ending_with-ending.ensures.status,
    )

pub returns-in-Err : goal.returns-in-Err
returns-in-Err c =
    let edition = c.args.edition in
    let image = c.args.image.now in
    let pattern = option_map (λ word. word.now) c.args.pattern in
    let given = c.as_bytes-in-Err.result.now in
    let begins = sym (c.in-Err.ensures.exact ∙ ap (λ (path : List ℕ). begun c.args.lost edition image path) (c.as_bytes.ensures.value ∙ sym c.as_bytes-in-Err.ensures.value)) in
    subst (λ (path : List ℕ). IsSight (found_sights edition image c.args.marks.now path pattern c.args.lost c.args.form c.args.screen) c.unreached.result) c.as_bytes-in-Err.ensures.value
    (unreached_found edition image c.args.marks.now given pattern c.args.lost c.args.form c.args.screen c.in-Err.why c.unreached.result begins c.unreached.ensures.shown
    c.unreached.ensures.fault)
