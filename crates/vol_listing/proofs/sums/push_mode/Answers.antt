use Rattle.std.proofs.Common.{◌++◌, ◌∙◌, ap}
use Rattle.vol_listing.specs.Digits.{padded_number}
use Rattle.vol_listing.specs.LongLines.{column, kind_column}
use Rattle.vol_listing.specs.Sums.{mode_columns}
use Rattle.vol_listing.proofs.Columns.{appended}
use Rattle.vol_listing.proofs.sums.push_mode.Goals as goal

pub returns : goal.returns
unfolding mode_columns
returns c =
    let row = c.args.row in
    appended c.args.text.now.items c.push_column.new.text.items _ (column (kind_column row)) _
    (c.in_ok-push_column.ensures ∙ ap (λ text. c.args.text.now.items ++ column text) c.kind_column.ensures)
    (appended c.push_column.new.text.items c.push_column-2.new.text.items c.push_column-3.new.text.items (column (padded_number row.uid)) (column (padded_number row.gid))
    (c.in_ok-push_column-2.ensures ∙ ap (λ text. c.push_column.new.text.items ++ column text) c.padded.ensures)
    (c.in_ok-push_column-3.ensures ∙ ap (λ text. c.push_column-2.new.text.items ++ column text) c.padded-2.ensures))
