use Rattle.std.proofs.Common.{◌≡◌, ◌+◌, [], ap, ◌∙◌, arith}
use Rattle.std.specs.List.{flat_map, range_with_len}
use Rattle.count_table.specs.Tallies.{items_of}
use Rattle.vol_reports.specs.FromWords.{links_line_in, no_links}
use Rattle.vol_reports.proofs.Ranges.{appended_more}
use Rattle.vol_reports.proofs.EntryLines.{entries_from}
use Rattle.vol_reports.proofs.dcheck.entry_report.Goals as goal

pub loop-before-preserved : goal.loop-before-preserved
loop-before-preserved c =
    appended_more (links_line_in (items_of c.args.words.now) c.args.links.now no_links) [] c.loop-before.lines.items c.push_links.new.lines.items
    1 c.loop-before.before (c.loop-before.before + 1) (c.loop-before.before + 1) (omega arith) (omega arith) c.loop-before.invariant
    c.in_ok-push_links.ensures

pub returns : goal.returns
returns c = λ image counts has.
    let line = links_line_in (items_of c.args.words.now) c.args.links.now no_links in
    let all : c.loop-before.before ≡ c.args.geometry.now.last_inode = omega arith in
    c.from_vec.ensures ∙ (c.loop-before.invariant ∙ (ap (λ n. flat_map line (range_with_len 1 n)) all ∙ entries_from counts has))
