use Rattle.std.proofs.Common.{◌≡◌, ◌+◌, sym, ap, subst, refl, arith, ◌∙◌}
use Rattle.vol_layout.specs.Inode.{inode_place, address_at}
use Rattle.vol_layout.specs.BlockPointers.{form_at}
use Rattle.vol_layout.specs.BlockMaps.{form_of, first_count, levels}
use Rattle.vol_file.specs.Changes.{blocks_of}
use Rattle.vol_judge.specs.Marks.{ExtendsMarks, blocks_from}
use Rattle.vol_judge.proofs.MoreMarks.{ext_first, ext_address}
use Rattle.vol_judge.proofs.FileBlocks.{address_blocks, addresses_from, blocks_by_address}
use Rattle.vol_judge.proofs.used_blocks.mark_file.Goals as goal

pub loop-k-init : goal.loop-k-init
loop-k-init c = record { addresses = ext_first c.args.geometry.now c.args.image.now c.args.i c.args.marks.now; known = c.requires.known }

pub loop-k-preserved : goal.loop-k-preserved
loop-k-preserved c =
    let g = c.args.geometry.now in
    let image = c.args.image.now in
    let k = c.loop-k.k in
    let new = c.mark_from.new.marks in
    let form : c.of-form.result ≡ form_at g image c.args.i = c.of-form.ensures ∙ ap (form_of g.edition) c.mode.ensures in
    let level : levels (form_at g image c.args.i) k ≡ c.levels.result = sym (c.levels.ensures ∙ ap (λ f. levels f k) form) in
    let same : address_blocks g image c.args.i k ≡ blocks_from g image c.levels.result c.address-b.result =
    ap (λ d. blocks_from g image d (address_at g.edition image (inode_place g.edition c.args.i) k)) level
    ∙ ap (blocks_from g image c.levels.result) (sym c.address-b.ensures) in
    record {
      addresses = ext_address g image c.args.i k (k + 1) c.args.marks.now c.loop-k.marks new refl c.loop-k.invariant.addresses
          (subst (λ xs. ExtendsMarks g xs c.loop-k.marks new) (sym same) c.mark_from.ensures.extends);
      known = c.mark_from.ensures.known;
    }

pub returns-clause-extends : goal.returns-clause-extends
returns-clause-extends c =
    let g = c.args.geometry.now in
    let image = c.args.image.now in
    let form : c.of-form.result ≡ form_at g image c.args.i = c.of-form.ensures ∙ ap (form_of g.edition) c.mode.ensures in
    let count : c.address_count-k-end.result ≡ first_count (form_at g image c.args.i) = c.address_count-k-end.ensures ∙ ap first_count form in
    let end : first_count (form_at g image c.args.i) ≡ c.loop-k.k = omega (arith, count, c.loop-k-test.false, c.loop-k.auto.k-end) in
    let same : blocks_of g image c.args.i ≡ addresses_from g image c.args.i c.loop-k.k =
    blocks_by_address g image c.args.i c.requires.fits c.requires.first c.requires.last ∙ ap (addresses_from g image c.args.i) end in
    subst (λ xs. ExtendsMarks g xs c.args.marks.now c.loop-k.marks) (sym same) c.loop-k.invariant.addresses
