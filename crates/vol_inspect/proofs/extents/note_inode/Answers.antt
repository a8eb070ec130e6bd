use Rattle.std.proofs.Common.{◌≡◌, ◌+◌, ◌<◌, ◌≤◌, [], ◌∷◌, sym, ap, arith, ◌∙◌}
use Rattle.vol_layout.specs.BlockPointers.{form_at}
use Rattle.vol_layout.specs.BlockMaps.{form_of, first_count, levels}
use Rattle.vol_file.specs.Clears.{first_at}
use Rattle.vol_file.proofs.FirstBlocks.{levels_few}
use Rattle.vol_inspect.specs.Extents.{holdings_from, address_holdings, holdings}
use Rattle.vol_inspect.proofs.Gatherings.{notes_none, notes_then, notes_as, addresses_before, addresses_none, addresses_more, addresses_all}
use Rattle.vol_inspect.proofs.Spans.{address_room}
use Rattle.vol_inspect.proofs.extents.note_inode.Goals as goal

pub loop-k-init : goal.loop-k-init
loop-k-init c = notes_as c.args.gathering.now c.args.gathering.now _ _ (notes_none c.args.gathering.now) (sym (addresses_none c.args.geometry.now c.args.image.now c.args.i))

pub note_from-requires-clause-room : goal.note_from-requires-clause-room
note_from-requires-clause-room c =
    let form = c.of-form.result in
    let low : c.loop-k.k < first_count form = omega (arith, c.address_count-k-end.ensures, c.loop-k-test.true) in
    let most : levels form c.loop-k.k ≤ 3 = levels_few form (c.loop-k.k ∷ []) low in
    let few : c.levels.result ≤ 3 = omega (arith, c.levels.ensures, most) in
    address_room c.args.geometry.now.edition c.levels.result c.first_logical-logical.result few c.first_logical-logical.ensures.bound

pub loop-k-preserved : goal.loop-k-preserved
loop-k-preserved c =
    let g = c.args.geometry.now in
    let image = c.args.image.now in
    let i = c.args.i in
    let form : c.of-form.result ≡ form_at g image i = c.of-form.ensures ∙ ap (form_of g.edition) c.mode.ensures in
    let level : c.levels.result ≡ levels (form_at g image i) c.loop-k.k = c.levels.ensures ∙ ap (λ f. levels f c.loop-k.k) form in
    let logical : c.first_logical-logical.result ≡ first_at (form_at g image i) c.loop-k.k =
    c.first_logical-logical.ensures.value ∙ ap (λ f. first_at f c.loop-k.k) form in
    notes_as c.args.gathering.now c.note_from.new.gathering _ (addresses_before g image i (c.loop-k.k + 1))
    (notes_then c.args.gathering.now c.loop-k.gathering c.note_from.new.gathering (addresses_before g image i c.loop-k.k) (address_holdings g image i c.loop-k.k)
    c.loop-k.invariant
    (notes_as c.loop-k.gathering c.note_from.new.gathering _ (address_holdings g image i c.loop-k.k) c.in_ok-note_from.ensures
    (λ x. holdings_from g image (level x) (logical x) (c.address-b.ensures x))))
    (sym (addresses_more g image i c.loop-k.k))

pub returns : goal.returns
returns c =
    let g = c.args.geometry.now in
    let image = c.args.image.now in
    let i = c.args.i in
    let form : c.of-form.result ≡ form_at g image i = c.of-form.ensures ∙ ap (form_of g.edition) c.mode.ensures in
    let count : c.address_count-k-end.result ≡ first_count (form_at g image i) = c.address_count-k-end.ensures ∙ ap first_count form in
    let end : c.loop-k.k ≡ first_count (form_at g image i) = omega (arith, count, c.loop-k-test.false, c.loop-k.auto.k-end) in
    notes_as c.args.gathering.now c.loop-k.gathering (addresses_before g image i c.loop-k.k) (holdings g image i) c.loop-k.invariant
    (ap (addresses_before g image i) end ∙ addresses_all g image i)
