use Rattle.std.proofs.Common.{◌≡◌, ◌<◌, ◌≤◌, ◌∷◌, [], ℕ, List, Option, sym, ap, arith, ◌∙◌}
use Rattle.std.specs.List.{find}
use Rattle.vol_layout.specs.Inode.{inode_place, address_at}
use Rattle.vol_layout.specs.BlockPointers.{form_at}
use Rattle.vol_layout.specs.BlockMaps.{form_of, first_count, levels}
use Rattle.vol_layout.specs.declared.block_map.BlockMap.{BlockMap}
use Rattle.vol_layout.specs.declared.geometry.Geometry.{Geometry}
use Rattle.vol_file.specs.Clears.{first_at}
use Rattle.vol_file.proofs.FirstBlocks.{levels_few}
use Rattle.vol_inspect.specs.declared.extent.Extent.{Extent}
use Rattle.vol_inspect.specs.Extents.{holdings_from, address_holdings}
use Rattle.vol_inspect.specs.Owners.{is_block, naming}
use Rattle.vol_inspect.proofs.Gatherings.{addresses_none}
use Rattle.vol_inspect.proofs.Owned.{none_found, node_none, node_passes, node_stops_with}
use Rattle.vol_inspect.proofs.Spans.{address_room}
use Rattle.vol_inspect.proofs.owners.naming.Goals as goal

pub loop-k-init : goal.loop-k-init
loop-k-init c = record {
  dead = c.requires.dead;
  none = ap (find (is_block c.args.b)) (addresses_none c.args.geometry.now c.args.image.now c.args.i);
}

pub find_from-found-requires-clause-room : goal.find_from-found-requires-clause-room
find_from-found-requires-clause-room c =
    let form = c.of-form.result in
    let low : c.loop-k.k < first_count form = omega (arith, c.address_count-k-end.ensures, c.loop-k-test.true) in
    let most : levels form c.loop-k.k ≤ 3 = levels_few form (c.loop-k.k ∷ []) low in
    let few : c.levels.result ≤ 3 = omega (arith, c.levels.ensures, most) in
    address_room c.args.geometry.now.edition c.levels.result c.first_logical-logical.result few c.first_logical-logical.ensures.bound

-- the search below address `k` has the result of the search in its blocks
at_address : (g : Geometry) (image : List ℕ) (i k b level logical m : ℕ) (form : BlockMap) (found : Option Extent) → form ≡ form_at g image i
    → level ≡ levels form k → logical ≡ first_at form k → m ≡ address_at g.edition image (inode_place g.edition i) k
    → found ≡ find (is_block b) (holdings_from g image level logical m) → found ≡ find (is_block b) (address_holdings g image i k)
at_address g image i k b level logical m form found is deep first names finds =
    let level_is : level ≡ levels (form_at g image i) k = deep ∙ ap (λ f. levels f k) is in
    let logical_is : logical ≡ first_at (form_at g image i) k = first ∙ ap (λ f. first_at f k) is in
    finds ∙ (λ x. find (is_block b) (holdings_from g image (level_is x) (logical_is x) (names x)))

pub returns-then-is_some-clause-found : goal.returns-then-is_some-clause-found
unfolding naming
returns-then-is_some-clause-found c =
    let g = c.args.geometry.now in
    let image = c.args.image.now in
    let form : c.of-form.result ≡ form_at g image c.args.i = c.of-form.ensures ∙ ap (form_of g.edition) c.mode.ensures in
    let count : c.address_count-k-end.result ≡ first_count (form_at g image c.args.i) = c.address_count-k-end.ensures ∙ ap first_count form in
    node_stops_with g image c.args.b c.args.i c.loop-k.k c.find_from-found.result (sym c.is_some.ensures ∙ c.if-is_some.true)
    (omega (arith, count, c.loop-k-test.true)) c.loop-k.invariant.none
    (at_address g image c.args.i c.loop-k.k c.args.b c.levels.result c.first_logical-logical.result c.address-m.result c.of-form.result
    c.find_from-found.result form c.levels.ensures c.first_logical-logical.ensures.value c.address-m.ensures c.find_from-found.ensures.found)

pub loop-k-preserved : goal.loop-k-preserved
loop-k-preserved c =
    let g = c.args.geometry.now in
    let image = c.args.image.now in
    let form : c.of-form.result ≡ form_at g image c.args.i = c.of-form.ensures ∙ ap (form_of g.edition) c.mode.ensures in
    let found = at_address g image c.args.i c.loop-k.k c.args.b c.levels.result c.first_logical-logical.result c.address-m.result c.of-form.result
    c.find_from-found.result form c.levels.ensures c.first_logical-logical.ensures.value c.address-m.ensures c.find_from-found.ensures.found in
    let nothing = none_found c.find_from-found.result (sym c.is_some.ensures ∙ c.if-is_some.false) in
    record {
      dead = c.find_from-found.ensures.dead;
      none = node_passes g image c.args.b c.args.i c.loop-k.k c.loop-k.invariant.none (sym found ∙ nothing);
    }

pub returns-clause-found : goal.returns-clause-found
unfolding naming
returns-clause-found c =
    let g = c.args.geometry.now in
    let image = c.args.image.now in
    let form : c.of-form.result ≡ form_at g image c.args.i = c.of-form.ensures ∙ ap (form_of g.edition) c.mode.ensures in
    let count : c.address_count-k-end.result ≡ first_count (form_at g image c.args.i) = c.address_count-k-end.ensures ∙ ap first_count form in
    let end : c.loop-k.k ≡ first_count (form_at g image c.args.i) = omega (arith, count, c.loop-k-test.false, c.loop-k.auto.k-end) in
    node_none g image c.args.b c.args.i c.loop-k.k end c.loop-k.invariant.none
