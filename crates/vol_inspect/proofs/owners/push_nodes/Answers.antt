use Rattle.std.proofs.Common.{◌≡◌, ◌+◌, ◌++◌, ap, ◌∙◌, arith, refl}
use Rattle.std.specs.List.{flat_map, range_with_len}
use Rattle.vol_reports.proofs.Ranges.{appended_more}
use Rattle.vol_layout.specs.BlockPointers.{form_at}
use Rattle.vol_layout.specs.BlockMaps.{form_of}
use Rattle.vol_inspect.specs.Owners.{naming, node_owners, owner_by}
use Rattle.vol_inspect.proofs.owners.push_nodes.Goals as goal

pub loop-before-preserved : goal.loop-before-preserved
loop-before-preserved c =
    let g = c.args.geometry.now in
    let image = c.args.image.now in
    let b = c.args.b in
    let form : c.of-form.result ≡ form_at g image (c.loop-before.before + 1) = c.of-form.ensures ∙ ap (form_of g.edition) c.mode.ensures in
    record {
      dead = c.naming-extent.ensures.dead;
      found = appended_more (λ i. owner_by i (form_at g image i) (naming g image b i)) c.args.found.now.items c.loop-before.found.items c.push_node.new.found.items
          1 c.loop-before.before (c.loop-before.before + 1) (c.loop-before.before + 1) refl (omega arith) c.loop-before.invariant.found
          (c.in_ok-push_node.ensures ∙ (λ x. c.loop-before.found.items ++ owner_by (c.loop-before.before + 1) (form x) (c.naming-extent.ensures.found x)));
    }

pub returns : goal.returns
unfolding node_owners
returns c =
    let end : c.loop-before.before ≡ c.args.geometry.now.last_inode = omega arith in
    c.loop-before.invariant.found
    ∙ ap (λ n. c.args.found.now.items ++ flat_map (λ i. owner_by i (form_at c.args.geometry.now c.args.image.now i) (naming c.args.geometry.now c.args.image.now c.args.b i)) (range_with_len 1 n)) end
