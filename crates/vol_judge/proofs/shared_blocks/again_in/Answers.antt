use Rattle.std.proofs.Common.{◌≡◌, ◌<◌, ◌+◌, sym, ap, subst, refl, arith, ◌∙◌, Some}
use Rattle.vol_layout.specs.Inode.{inode_place, address_at}
use Rattle.vol_layout.specs.BlockPointers.{form_at}
use Rattle.vol_layout.specs.BlockMaps.{form_of, first_count, levels}
use Rattle.vol_judge.specs.Marks.{IsInside, blocks_from, marked}
use Rattle.vol_judge.proofs.ZonedFiles.{address_inside}
use Rattle.vol_judge.proofs.FileBlocks.{address_blocks, addresses_from, blocks_by_address, addresses_none, addresses_more}
use Rattle.vol_judge.specs.SharedBlocks.{again}
use Rattle.vol_judge.proofs.Agains.{addresses_again}
use Rattle.vol_judge.proofs.shared_blocks.again_in.Goals as goal

pub loop-k-init : goal.loop-k-init
loop-k-init c = addresses_none c.args.geometry.now c.args.image.now c.args.i c.args.marks.now

pub again_from-requires-clause-inside : goal.again_from-requires-clause-inside
again_from-requires-clause-inside c =
    let g = c.args.geometry.now in
    let image = c.args.image.now in
    let form : c.of-form.result ≡ form_at g image c.args.i = c.of-form.ensures ∙ ap (form_of g.edition) c.mode.ensures in
    let count : c.address_count-k-end.result ≡ first_count (form_at g image c.args.i) = c.address_count-k-end.ensures ∙ ap first_count form in
    let within : c.loop-k.k < first_count (form_at g image c.args.i) = omega (arith, count, c.loop-k-test.true) in
    let level : levels (form_at g image c.args.i) c.loop-k.k ≡ c.levels.result = sym (c.levels.ensures ∙ ap (λ f. levels f c.loop-k.k) form) in
    let there : IsInside g image (levels (form_at g image c.args.i) c.loop-k.k) (address_at g.edition image (inode_place g.edition c.args.i) c.loop-k.k) =
    address_inside g image c.args.i c.loop-k.k c.requires.first c.requires.last within c.requires.zoned in
    subst (IsInside g image c.levels.result) (sym c.address-b.ensures)
    (subst (λ d. IsInside g image d (address_at g.edition image (inode_place g.edition c.args.i) c.loop-k.k)) level there)

pub returns-in-Some-clause-twice : goal.returns-in-Some-clause-twice
returns-in-Some-clause-twice c =
    let g = c.args.geometry.now in
    let image = c.args.image.now in
    let form : c.of-form.result ≡ form_at g image c.args.i = c.of-form.ensures ∙ ap (form_of g.edition) c.mode.ensures in
    let count : c.address_count-k-end.result ≡ first_count (form_at g image c.args.i) = c.address_count-k-end.ensures ∙ ap first_count form in
    let within : c.loop-k.k < first_count (form_at g image c.args.i) = omega (arith, count, c.loop-k-test.true) in
    let level : levels (form_at g image c.args.i) c.loop-k.k ≡ c.levels.result = sym (c.levels.ensures ∙ ap (λ f. levels f c.loop-k.k) form) in
    let same : address_blocks g image c.args.i c.loop-k.k ≡ blocks_from g image c.levels.result c.address-b.result =
    ap (λ d. blocks_from g image d (address_at g.edition image (inode_place g.edition c.args.i) c.loop-k.k)) level
    ∙ ap (blocks_from g image c.levels.result) (sym c.address-b.ensures) in
    let found : again c.loop-k.marks (address_blocks g image c.args.i c.loop-k.k) ≡ Some c.in-Some.found =
    ap (again c.loop-k.marks) same ∙ c.in-Some.ensures.twice in
    ap (again c.args.marks.now) (blocks_by_address g image c.args.i c.requires.fits c.requires.first c.requires.last)
    ∙ addresses_again g image c.args.i c.loop-k.k (first_count (form_at g image c.args.i)) c.args.marks.now c.loop-k.marks c.in-Some.found within
    c.loop-k.invariant found

pub loop-k-preserved : goal.loop-k-preserved
loop-k-preserved c =
    let g = c.args.geometry.now in
    let image = c.args.image.now in
    let form : c.of-form.result ≡ form_at g image c.args.i = c.of-form.ensures ∙ ap (form_of g.edition) c.mode.ensures in
    let level : levels (form_at g image c.args.i) c.loop-k.k ≡ c.levels.result = sym (c.levels.ensures ∙ ap (λ f. levels f c.loop-k.k) form) in
    let same : address_blocks g image c.args.i c.loop-k.k ≡ blocks_from g image c.levels.result c.address-b.result =
    ap (λ d. blocks_from g image d (address_at g.edition image (inode_place g.edition c.args.i) c.loop-k.k)) level
    ∙ ap (blocks_from g image c.levels.result) (sym c.address-b.ensures) in
    let last : marked c.loop-k.marks (address_blocks g image c.args.i c.loop-k.k) ≡ Some c.again_from.new.marks =
    ap (marked c.loop-k.marks) same ∙ c.in_default.ensures.fresh in
    addresses_more g image c.args.i c.loop-k.k (c.loop-k.k + 1) c.args.marks.now c.loop-k.marks (Some c.again_from.new.marks) refl c.loop-k.invariant last

pub returns-clause-fresh : goal.returns-clause-fresh
returns-clause-fresh c =
    let g = c.args.geometry.now in
    let image = c.args.image.now in
    let form : c.of-form.result ≡ form_at g image c.args.i = c.of-form.ensures ∙ ap (form_of g.edition) c.mode.ensures in
    let count : c.address_count-k-end.result ≡ first_count (form_at g image c.args.i) = c.address_count-k-end.ensures ∙ ap first_count form in
    let end : c.loop-k.k ≡ first_count (form_at g image c.args.i) = omega (arith, count, c.loop-k-test.false, c.loop-k.auto.k-end) in
    ap (marked c.args.marks.now)
    (blocks_by_address g image c.args.i c.requires.fits c.requires.first c.requires.last ∙ ap (addresses_from g image c.args.i) (sym end))
    ∙ c.loop-k.invariant
