-- If the words count an image's entries, they give the lines of its entry report.
use Rattle.std.proofs.Common.{◌≡◌, ℕ, ◌+◌, ◌-◌, List, get_or, ap, ◌∙◌, arith}
use Rattle.vol_layout.specs.declared.geometry.Geometry.{Geometry}
use Rattle.vol_judge.specs.Directories.{entry_count}
use Rattle.vol_reports.specs.Dcheck.{link_count, wants_entry, links_line, links_line_of, entry_lines}
use Rattle.vol_reports.specs.Counted.{CountsEntries, HasLinkCounts}
use Rattle.vol_reports.specs.FromWords.{links_line_in, no_links, inode_lines}
use Rattle.vol_reports.specs.declared.inode_link_counts.LinkCount.{LinkCount}
use Rattle.vol_reports.proofs.Ranges.{flat_same}

-- the lines computed from the words are those of the report
pub entries_from : {g : Geometry} {image words : List ℕ} {links : List LinkCount} → CountsEntries g image words → HasLinkCounts g image links
    → inode_lines g (links_line_in words links no_links) ≡ entry_lines g image
unfolding entry_lines
entries_from {g} {image} {words} {links} counts has =
    flat_same (links_line_in words links no_links) (links_line g image) 1 g.last_inode (λ i low high.
    let back : i - 1 + 1 ≡ i = omega arith in
    ap (λ n. links_line_of i n (get_or links (i - 1) no_links).links (get_or links (i - 1) no_links).wants_entry) (counts.entries i low (omega arith))
    ∙ (ap (λ n. links_line_of i (entry_count g image i) n (get_or links (i - 1) no_links).wants_entry)
    (has.counts (i - 1) no_links (omega arith) ∙ ap (link_count g image) back)
    ∙ ap (λ b. links_line_of i (entry_count g image i) (link_count g image i) b) (has.wanted (i - 1) no_links (omega arith) ∙ ap (wants_entry g image) back)))
