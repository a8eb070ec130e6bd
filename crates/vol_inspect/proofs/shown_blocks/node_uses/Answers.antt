use Rattle.std.proofs.Common.{◌≡◌, ◌++◌, ◌∷◌, [], List, Option, ap, sym, arith, ◌∙◌, get_or, length, map}
use Rattle.std.specs.List.{range_with_len}
use Rattle.std.proofs.lemmas.List.FromFn.{get_or-map-range_with_len, length-map-range_with_len, map-range_with_len_more}
use Rattle.vol_inspect.specs.NodeUses.{has_block, is_counted, node_use, shown_if}
use Rattle.vol_inspect.specs.Uses.{use_of}
use Rattle.vol_inspect.specs.declared.uses.Use.{Use}
use Rattle.vol_inspect.specs.declared.uses.Use.TheVariants as uses
use Rattle.vol_inspect.proofs.NodeUses.{counted_is}
use Rattle.vol_inspect.proofs.shown_blocks.node_uses.Goals as goal

pub use_at-usage-requires : goal.use_at-usage-requires
use_at-usage-requires c =
    omega (
      arith,
      ap (λ (us : List Use). length us) c.deref.ensures.value,
      ap (λ (us : List Use). length us) c.in_ok-uses.ensures,
      length-map-range_with_len (use_of c.args.geometry.now c.args.image.now) 0 c.args.geometry.now.zone_end,
    )

pub loop-b-preserved : goal.loop-b-preserved
loop-b-preserved c =
    let g = c.args.geometry.now in
    let image = c.args.image.now in
    let b = c.loop-b.b in
    let counted : c.is_counted.result ≡ has_block g image c.args.i b =
    c.is_counted.ensures
    ∙ (ap (λ cs. is_counted g cs b) c.deref-in-loop-b.ensures.value
    ∙ counted_is g image c.in_ok-counts.counts.items c.args.i b c.in_ok-counts.ensures.each) in
    let usage : c.use_at-usage.result ≡ use_of g image b =
    c.use_at-usage.ensures
    ∙ (ap (λ (us : List Use). get_or us b uses.Boot) (c.deref.ensures.value ∙ c.in_ok-uses.ensures)
    ∙ get_or-map-range_with_len (use_of g image) 0 g.zone_end b b uses.Boot c.loop-b-test.true (omega arith)) in
    let is : c.shown_if.result ≡ node_use g image c.args.i b =
    c.shown_if.ensures ∙ (ap (λ t. shown_if t c.use_at-usage.result) counted ∙ ap (shown_if (has_block g image c.args.i b)) usage) in
    c.in_ok-push.ensures.items
    ∙ (ap (λ xs. xs ++ c.shown_if.result ∷ []) c.loop-b.invariant
    ∙ (ap (λ (x : Option Use). map (node_use g image c.args.i) (range_with_len 0 b) ++ x ∷ []) is
    ∙ sym (map-range_with_len_more (node_use g image c.args.i) 0 b b (omega arith))))
