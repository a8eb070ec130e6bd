use Rattle.std.proofs.Common.{◌≡◌, ◌==◌, if◌then◌else◌, true, ℕ, List, length, subst, sym}
use Rattle.vol_dir.specs.Tree.{tree}
use Rattle.vol_listing.specs.Listings.{IsListingOf, start_of}
use Rattle.vol_rescue.specs.Lines.{TellsNamed}
use Rattle.command_reads.specs.BadLists.{IsKnownListing, told_names}
use Rattle.command_reads.specs.Export.{told_status}
use Rattle.command_reads.proofs.bad_lists.list_known.Goals as goal

pub returns-clause-shown : goal.returns-clause-shown
returns-clause-shown c =
    let geometry = c.args.place.geometry in
    let image = c.args.image.now in
    let lost = c.args.lost.now in
    let inode = c.args.place.inode in
    let remarks = c.in_ok-remarks.remarks in
    let line = sym c.ending_with-ending.ensures.line in (
      subst (IsKnownListing c.args.edition image lost c.args.path.now c.args.listing c.args.screen c.in_ok-text.text.items) line (record {
        inode = inode;
        found = c.requires.found;
        geometry = geometry;
        opened = c.requires.opened;
        listed = subst (λ (path : List ℕ). IsListingOf (tree geometry image) c.args.listing c.args.screen (start_of path inode) c.in_ok-text.text.items)
            c.as_bytes-path.ensures.value c.in_ok-text.ensures;
        short = remarks.is_short;
        told = subst (λ (path : List ℕ). TellsNamed geometry image lost (told_names geometry image lost c.args.listing.depth path inode) remarks.lines.items remarks.is_short)
            c.as_bytes-path.ensures.value c.in_ok-remarks.ensures;
      }),
      subst (λ (lines : List ℕ). c.ending_with-ending.result.status ≡ (if length lines == 0 then 0 else told_status true remarks.is_short)) line
          c.ending_with-ending.ensures.status,
    )
