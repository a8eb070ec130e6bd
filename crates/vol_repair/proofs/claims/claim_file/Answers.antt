use Rattle.std.proofs.Common.{◌≡◌, ◌+◌, ◌∙◌, ◌||◌, sym, ap, subst, refl, arith}
use Rattle.vol_layout.specs.Inode.{inode_place, address_at}
use Rattle.vol_layout.specs.BlockPointers.{form_at}
use Rattle.vol_layout.specs.BlockMaps.{form_of, first_count, levels}
use Rattle.vol_file.specs.Changes.{blocks_of}
use Rattle.vol_judge.specs.Marks.{blocks_from}
use Rattle.vol_judge.proofs.FileBlocks.{address_blocks, addresses_from, blocks_by_address}
use Rattle.vol_repair.specs.Claims.{Claims}
use Rattle.vol_repair.proofs.Claiming.{claims_first, claims_address}
use Rattle.vol_repair.proofs.claims.claim_file.Goals as goal
use Rattle.vol_repair.proofs.claims.claim_file.Goals.{then-clash, else-clash}

pub loop-k-init : goal.loop-k-init
loop-k-init c = claims_first c.args.geometry.now c.args.image.now c.args.i c.args.used.now

pub loop-k-preserved : goal.loop-k-preserved
loop-k-preserved c =
    let g = c.args.geometry.now in
    let image = c.args.image.now in
    let k = c.loop-k.k in
    let new = c.claim.new.used in
    let form : c.of-form.result ≡ form_at g image c.args.i = c.of-form.ensures ∙ ap (form_of g.edition) c.mode.ensures in
    let level : levels (form_at g image c.args.i) k ≡ c.levels.result = sym (c.levels.ensures ∙ ap (λ f. levels f k) form) in
    let same : address_blocks g image c.args.i k ≡ blocks_from g image c.levels.result c.address-b.result =
    ap (λ d. blocks_from g image d (address_at g.edition image (inode_place g.edition c.args.i) k)) level
    ∙ ap (blocks_from g image c.levels.result) (sym c.address-b.ensures) in
    let or : c.if-clash.clash ≡ (c.loop-k.clash || c.in_ok-below.below) = elim c.if-clash.branch [
      | then-clash w ↦ w.clash-is ∙ (w.if-clash.true ∙ sym (ap (λ t. t || c.in_ok-below.below) w.if-clash.true))
      | else-clash w ↦ w.clash-is ∙ sym (ap (λ t. t || c.in_ok-below.below) w.if-clash.false)
    ] in
    subst (Claims g (addresses_from g image c.args.i (k + 1)) c.args.used.now new) (sym or)
    (claims_address g image c.args.i k (k + 1) c.args.used.now c.loop-k.used new c.loop-k.clash c.in_ok-below.below refl c.loop-k.invariant
    (subst (λ xs. Claims g xs c.loop-k.used new c.in_ok-below.below) (sym same) c.in_ok-below.ensures))

pub returns : goal.returns
returns c =
    let g = c.args.geometry.now in
    let image = c.args.image.now in
    let form : c.of-form.result ≡ form_at g image c.args.i = c.of-form.ensures ∙ ap (form_of g.edition) c.mode.ensures in
    let count : c.address_count-k-end.result ≡ first_count (form_at g image c.args.i) = c.address_count-k-end.ensures ∙ ap first_count form in
    let end : first_count (form_at g image c.args.i) ≡ c.loop-k.k = omega (arith, count, c.loop-k-test.false, c.loop-k.auto.k-end) in
    let same : blocks_of g image c.args.i ≡ addresses_from g image c.args.i c.loop-k.k =
    blocks_by_address g image c.args.i c.requires.fits c.requires.first c.requires.last ∙ ap (addresses_from g image c.args.i) end in
    subst (λ xs. Claims g xs c.args.used.now c.loop-k.used c.loop-k.clash) (sym same) c.loop-k.invariant
