use Rattle.std.proofs.Common.{ℕ, ◌≡◌, ◌++◌, ◌∷◌, [], List, Option, ap, sym, arith, ◌∙◌, length, map}
use Rattle.std.specs.List.{range_with_len}
use Rattle.std.proofs.lemmas.List.FromFn.{length-map-range_with_len, map-range_with_len_more}
use Rattle.vol_inspect.specs.Cells.{cell_count, cell_of, piece}
use Rattle.vol_inspect.specs.declared.cell_groups.Cell.{Cell}
use Rattle.vol_inspect.specs.declared.uses.Use.{Use}
use Rattle.vol_inspect.proofs.CellLaws.{cell_within, cells_few}
use Rattle.vol_inspect.proofs.cell_groups.cells.Goals as goal

pub piece-requires : goal.piece-requires
piece-requires c =
    cell_within c.args.each (length c.args.blocks.now) c.loop-k.k c.requires.some (omega (arith, c.loop-k-test.true, c.loop-k.auto.k-end, c.cell_count-k-end.ensures))

pub loop-k-preserved : goal.loop-k-preserved
loop-k-preserved c =
    let k = c.loop-k.k in
    let f : ℕ → Cell = λ k. cell_of (piece c.args.each c.args.blocks.now k) in
    let is : c.cell_of.result ≡ f k = c.cell_of.ensures ∙ ap (λ (bs : List (Option Use)). cell_of bs) c.piece.ensures in
    c.in_ok-push.ensures.items
    ∙ (ap (λ xs. xs ++ c.cell_of.result ∷ []) c.loop-k.invariant
    ∙ (ap (λ (x : Cell). map f (range_with_len 0 k) ++ x ∷ []) is ∙ sym (map-range_with_len_more f 0 k k (omega arith))))

pub returns-clause-all : goal.returns-clause-all
returns-clause-all c =
    let end : c.loop-k.k ≡ cell_count c.args.each (length c.args.blocks.now) =
    omega (arith, c.loop-k-test.false, c.loop-k.auto.k-end, c.cell_count-k-end.ensures) in
    c.loop-k.invariant ∙ ap (λ n. map (λ k. cell_of (piece c.args.each c.args.blocks.now k)) (range_with_len 0 n)) end

-- the number of the cells
count_is : (f : ℕ → Cell) (each n : ℕ) (found : List Cell) → found ≡ map f (range_with_len 0 (cell_count each n)) → length found ≡ cell_count each n
count_is f each n found is = ap (λ (xs : List Cell). length xs) is ∙ length-map-range_with_len f 0 (cell_count each n)

pub returns-clause-places : goal.returns-clause-places
returns-clause-places c = λ k low.
    let count = count_is _ c.args.each (length c.args.blocks.now) c.loop-k.found.items (returns-clause-all c) in
    cell_within c.args.each (length c.args.blocks.now) k c.requires.some (omega (arith, low, count))

pub returns-clause-few : goal.returns-clause-few
returns-clause-few c =
    let count = count_is _ c.args.each (length c.args.blocks.now) c.loop-k.found.items (returns-clause-all c) in
    let few = cells_few c.args.each (length c.args.blocks.now) c.requires.some in
    omega (arith, count, few)
