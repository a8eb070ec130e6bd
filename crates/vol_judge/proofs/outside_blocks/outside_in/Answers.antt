use Rattle.std.proofs.Common.{◌≡◌, ◌<◌, ◌+◌, sym, ap, refl, arith, ◌∙◌, Some, None}
use Rattle.vol_layout.specs.Inode.{inode_place, address_at}
use Rattle.vol_layout.specs.BlockPointers.{form_at}
use Rattle.vol_layout.specs.BlockMaps.{form_of, first_count, levels}
use Rattle.vol_judge.specs.Marks.{blocks_from}
use Rattle.vol_judge.proofs.FileBlocks.{address_blocks, addresses_from, blocks_by_address}
use Rattle.vol_judge.specs.OutsideBlocks.{first_outside}
use Rattle.vol_judge.proofs.Outsides.{addresses_start, addresses_next, addresses_stop}
use Rattle.vol_judge.proofs.outside_blocks.outside_in.Goals as goal

pub loop-k-init : goal.loop-k-init
loop-k-init c = record { addresses = addresses_start c.args.geometry.now c.args.image.now c.args.i; known = c.requires.known }

pub returns-in-Some-clause-exact : goal.returns-in-Some-clause-exact
returns-in-Some-clause-exact c =
    let g = c.args.geometry.now in
    let image = c.args.image.now in
    let form : c.of-form.result ≡ form_at g image c.args.i = c.of-form.ensures ∙ ap (form_of g.edition) c.mode.ensures in
    let count : c.address_count-k-end.result ≡ first_count (form_at g image c.args.i) = c.address_count-k-end.ensures ∙ ap first_count form in
    let within : c.loop-k.k < first_count (form_at g image c.args.i) = omega (arith, count, c.loop-k-test.true) in
    let level : levels (form_at g image c.args.i) c.loop-k.k ≡ c.levels.result = sym (c.levels.ensures ∙ ap (λ f. levels f c.loop-k.k) form) in
    let same : address_blocks g image c.args.i c.loop-k.k ≡ blocks_from g image c.levels.result c.address-b.result =
    ap (λ d. blocks_from g image d (address_at g.edition image (inode_place g.edition c.args.i) c.loop-k.k)) level
    ∙ ap (blocks_from g image c.levels.result) (sym c.address-b.ensures) in
    let some : first_outside g (address_blocks g image c.args.i c.loop-k.k) ≡ Some c.in-Some.number =
    ap (first_outside g) same ∙ sym c.in-Some.ensures.exact in
    sym (ap (first_outside g) (blocks_by_address g image c.args.i c.requires.fits c.requires.first c.requires.last)
    ∙ addresses_stop g image c.args.i c.loop-k.k (first_count (form_at g image c.args.i)) c.in-Some.number within c.loop-k.invariant.addresses some)

pub loop-k-preserved : goal.loop-k-preserved
loop-k-preserved c =
    let g = c.args.geometry.now in
    let image = c.args.image.now in
    let form : c.of-form.result ≡ form_at g image c.args.i = c.of-form.ensures ∙ ap (form_of g.edition) c.mode.ensures in
    let level : levels (form_at g image c.args.i) c.loop-k.k ≡ c.levels.result = sym (c.levels.ensures ∙ ap (λ f. levels f c.loop-k.k) form) in
    let same : address_blocks g image c.args.i c.loop-k.k ≡ blocks_from g image c.levels.result c.address-b.result =
    ap (λ d. blocks_from g image d (address_at g.edition image (inode_place g.edition c.args.i) c.loop-k.k)) level
    ∙ ap (blocks_from g image c.levels.result) (sym c.address-b.ensures) in
    let none : first_outside g (address_blocks g image c.args.i c.loop-k.k) ≡ None =
    ap (first_outside g) same ∙ (sym c.outside_from.ensures.exact ∙ c.in_default.is) in
    record {
      addresses = addresses_next g image c.args.i c.loop-k.k (c.loop-k.k + 1) None refl c.loop-k.invariant.addresses none;
      known = c.outside_from.ensures.known;
    }

pub returns-clause-exact : goal.returns-clause-exact
returns-clause-exact c =
    let g = c.args.geometry.now in
    let image = c.args.image.now in
    let form : c.of-form.result ≡ form_at g image c.args.i = c.of-form.ensures ∙ ap (form_of g.edition) c.mode.ensures in
    let count : c.address_count-k-end.result ≡ first_count (form_at g image c.args.i) = c.address_count-k-end.ensures ∙ ap first_count form in
    let end : first_count (form_at g image c.args.i) ≡ c.loop-k.k = omega (arith, count, c.loop-k-test.false, c.loop-k.auto.k-end) in
    sym (ap (first_outside g)
    (blocks_by_address g image c.args.i c.requires.fits c.requires.first c.requires.last ∙ ap (addresses_from g image c.args.i) end)
    ∙ c.loop-k.invariant.addresses)
