use Rattle.std.proofs.Common.{sym, ◌∙◌}
use Rattle.vol_listing.proofs.NodesRead.{row_outside, row_none, row_regular, row_directory, row_special}
use Rattle.vol_listing.proofs.rows.row_at.Goals as goal

pub returns-then-not-is_number : goal.returns-then-not-is_number
returns-then-not-is_number c = c.no_row.ensures ∙ row_outside c.args.geometry.now c.args.image.now c.args.i (sym c.if-not-is_number.ensures)

pub returns-in-Free : goal.returns-in-Free
returns-in-Free c =
    c.no_row-in-Free.ensures ∙ row_none c.args.geometry.now c.args.image.now c.args.i c.kind.result (sym c.if-not-is_number.ensures) c.kind.ensures c.in-Free.is

pub returns-in-Regular : goal.returns-in-Regular
returns-in-Regular c =
    c.row_with.ensures
    ∙ row_regular c.args.geometry.now c.args.image.now c.args.i c.inode-node.result (sym c.if-not-is_number.ensures) (sym c.in-Regular.is ∙ c.kind.ensures)
    c.inode-node.ensures.value

pub returns-in-Directory : goal.returns-in-Directory
returns-in-Directory c =
    c.row_with-in-Directory.ensures
    ∙ row_directory c.args.geometry.now c.args.image.now c.args.i c.inode-node.result (sym c.if-not-is_number.ensures) (sym c.in-Directory.is ∙ c.kind.ensures)
    c.inode-node.ensures.value

pub returns-in-Special : goal.returns-in-Special
returns-in-Special c =
    c.row_with-in-Special.ensures
    ∙ row_special c.args.geometry.now c.args.image.now c.args.i c.inode-node.result c.special_sort.result (sym c.if-not-is_number.ensures)
    (sym c.in-Special.is ∙ c.kind.ensures) c.inode-node.ensures.value c.special_sort.ensures
