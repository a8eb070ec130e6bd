use Rattle.std.proofs.Common.{◌≡◌, ◌∙◌, ◌++◌, ap, map}
use Rattle.std.specs.List.{flat_map}
use Rattle.vol_listing.specs.Listings.{shown_path}
use Rattle.command_copies.specs.Nodes.{copied_as, node_at, read_as}
use Rattle.command_copies.specs.Trees.{entry_line, entry_nodes, line_of}
use Rattle.command_copies.proofs.ReadTrees.{tree_at}
use Rattle.command_copies.proofs.trees.push_tree.Goals as goal

pub returns : goal.returns
returns c =
    let g = c.args.geometry.now in
    let image = c.args.image.now in
    let name = c.name_of-name.result.now in
    let shown = c.in_ok-top.top.items in
    let read = c.in_ok-read.read in
    let mid = c.push_read.new.into in
    let place : c.in_ok-place.place.items ≡ name = c.in_ok-place.ensures.items ∙ c.as_bytes-2.ensures.value in
    tree_at g image c.args.path.now c.args.start c.in_ok-founds.founds.items name shown (read_as read) (map copied_as c.args.into.now.nodes.items)
    (map copied_as mid.nodes.items) (map copied_as c.push_founds.new.into.nodes.items) c.args.into.now.lines.items mid.lines.items
    c.push_founds.new.into.lines.items c.in_ok-founds.ensures c.name_of-name.ensures (c.in_ok-top.ensures ∙ ap shown_path c.as_bytes.ensures.value)
    (c.in_ok-read.ensures ∙ ap (λ path. node_at g image path c.args.start) place) c.in_ok-push_read.ensures.nodes
    (c.in_ok-push_founds.ensures.nodes ∙ ap (λ founds. map copied_as mid.nodes.items ++ flat_map (entry_nodes g image name) founds) c.deref-3.ensures.value)
    (c.in_ok-push_read.ensures.lines ∙ ap (λ top. c.args.into.now.lines.items ++ line_of top (read_as read)) c.deref.ensures.value)
    (c.in_ok-push_founds.ensures.lines
    ∙ (ap (λ top. mid.lines.items ++ flat_map (entry_line g image name top) c.deref-3.result.now) c.deref-2.ensures.value
    ∙ ap (λ founds. mid.lines.items ++ flat_map (entry_line g image name shown) founds) c.deref-3.ensures.value))
