use Rattle.std.proofs.Common.{◌≡◌, ◌+◌, ◌<◌, ◌≤◌, [], ◌∷◌, sym, ap, arith, ◌∙◌}
use Rattle.vol_layout.specs.BlockPointers.{form_at}
use Rattle.vol_layout.specs.BlockMaps.{form_of, first_count, levels}
use Rattle.vol_file.specs.Clears.{first_at}
use Rattle.vol_file.proofs.FirstBlocks.{levels_few}
use Rattle.vol_inspect.specs.Extents.{holdings_from, address_holdings, holdings}
use Rattle.vol_inspect.proofs.Gatherings.{addresses_before, addresses_none, addresses_more, addresses_all}
use Rattle.vol_inspect.proofs.HolderLaws.{notes_none, notes_then, notes_as}
use Rattle.vol_inspect.proofs.Spans.{address_room}
use Rattle.vol_inspect.proofs.holders.note_node.Goals as goal

pub loop-k-init : goal.loop-k-init
loop-k-init c =
    let g = c.args.geometry.now in
    record {
      notes = notes_as g c.args.i c.args.table.now c.args.table.now _ _ (notes_none g c.args.i c.args.table.now)
          (sym (addresses_none g c.args.image.now c.args.i));
      noted = c.requires.noted;
    }

pub note_holders-requires : goal.note_holders-requires
note_holders-requires c =
    let form = c.of-form.result in
    let low : c.loop-k.k < first_count form = omega (arith, c.address_count-k-end.ensures, c.loop-k-test.true) in
    let most : levels form c.loop-k.k ≤ 3 = levels_few form (c.loop-k.k ∷ []) low in
    let few : c.levels.result ≤ 3 = omega (arith, c.levels.ensures, most) in
    record {
      fits = c.requires.fits;
      level = few;
      room = address_room c.args.geometry.now.edition c.levels.result c.first_logical-logical.result few c.first_logical-logical.ensures.bound;
      table = c.loop-k.invariant.notes.len ∙ c.requires.table;
      noted = c.loop-k.invariant.noted;
    }

pub loop-k-preserved : goal.loop-k-preserved
loop-k-preserved c =
    let g = c.args.geometry.now in
    let image = c.args.image.now in
    let i = c.args.i in
    let form : c.of-form.result ≡ form_at g image i = c.of-form.ensures ∙ ap (form_of g.edition) c.mode.ensures in
    let level : c.levels.result ≡ levels (form_at g image i) c.loop-k.k = c.levels.ensures ∙ ap (λ f. levels f c.loop-k.k) form in
    let logical : c.first_logical-logical.result ≡ first_at (form_at g image i) c.loop-k.k =
    c.first_logical-logical.ensures.value ∙ ap (λ f. first_at f c.loop-k.k) form in
    record {
      notes = notes_as g i c.args.table.now c.note_holders.new.table _ (addresses_before g image i (c.loop-k.k + 1))
          (notes_then g i c.args.table.now c.loop-k.table c.note_holders.new.table (addresses_before g image i c.loop-k.k) (address_holdings g image i c.loop-k.k)
          c.loop-k.invariant.notes
          (notes_as g i c.loop-k.table c.note_holders.new.table _ (address_holdings g image i c.loop-k.k) c.note_holders.ensures.notes
          (λ x. holdings_from g image (level x) (logical x) (c.address-b.ensures x))))
          (sym (addresses_more g image i c.loop-k.k));
      noted = c.note_holders.ensures.noted;
    }

pub returns-clause-notes : goal.returns-clause-notes
returns-clause-notes c =
    let g = c.args.geometry.now in
    let image = c.args.image.now in
    let i = c.args.i in
    let form : c.of-form.result ≡ form_at g image i = c.of-form.ensures ∙ ap (form_of g.edition) c.mode.ensures in
    let count : c.address_count-k-end.result ≡ first_count (form_at g image i) = c.address_count-k-end.ensures ∙ ap first_count form in
    let end : c.loop-k.k ≡ first_count (form_at g image i) = omega (arith, count, c.loop-k-test.false, c.loop-k.auto.k-end) in
    notes_as g i c.args.table.now c.loop-k.table (addresses_before g image i c.loop-k.k) (holdings g image i) c.loop-k.invariant.notes
    (ap (addresses_before g image i) end ∙ addresses_all g image i)
