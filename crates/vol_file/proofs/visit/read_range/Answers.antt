use Rattle.std.proofs.Common.{◌≡◌, ℕ, zero, suc, ◌+◌, ◌-◌, ◌<◌, [], ◌∷◌, ◌++◌, arith, ap, sym, subst, ◌∙◌, of_calls}
use Rattle.std.specs.List.{range_with_len}
use Rattle.std.proofs.lemmas.List.{get_or-replicate}
use Rattle.std.proofs.lemmas.Fn.{FoldsTo-push}
use Rattle.vol_layout.specs.Body.{zone_byte}
use Rattle.vol_layout.specs.BlockPointers.{form_at, stored}
use Rattle.vol_layout.proofs.BodyLaws.{body_byte_at}
use Rattle.vol_file.specs.Runs.{LooksUp}
use Rattle.vol_file.specs.Visits.{IsBlock, Visits}
use Rattle.vol_file.proofs.visit.read_range.Goals as goal

-- a range with one more number is the range followed by that number
range_suc : (a n : ℕ) → range_with_len a (suc n) ≡ range_with_len a n ++ (a + n) ∷ []
range_suc a zero = let here : a ≡ a + 0 = omega arith in ap (λ k. k ∷ []) here
range_suc a (suc n) =
    let here : a + 1 + n ≡ a + suc n = omega arith in
    ap (λ xs. a ∷ xs) (range_suc (a + 1) n) ∙ ap (λ k. a ∷ (range_with_len (a + 1) n ++ k ∷ [])) here

-- the range up to `b` inclusive is the range up to `b` followed by `b`
range_to : (a b : ℕ) → a < b + 1 → range_with_len a (b + 1 - a) ≡ range_with_len a (b - a) ++ b ∷ []
range_to a b h =
    let more : b + 1 - a ≡ suc (b - a) = omega arith in
    let here : a + (b - a) ≡ b = omega arith in
    ap (range_with_len a) more ∙ (range_suc a (b - a) ∙ ap (λ k. range_with_len a (b - a) ++ k ∷ []) here)

pub block_bytes-requires-clause-zeros : goal.block_bytes-requires-clause-zeros
block_bytes-requires-clause-zeros g c = λ r h. get_or-replicate 512 r 0 0 h

pub loop-b-preserved : goal.loop-b-preserved
loop-b-preserved g c =
    let geometry = c.args.geometry.now in
    let image = c.args.image.now in
    let i = c.args.i in
    let b = c.loop-b.b in
    let inode = c.loop-b.invariant.0.inode in
    let number : c.number_at-block.result ≡ stored geometry image i (form_at geometry image i) b =
    subst (λ j. c.number_at-block.result ≡ stored geometry image j (form_at geometry image j) b) inode c.number_at-block.ensures.number in
    let block : IsBlock geometry image i b c.block_bytes.result.now = record {
      len = c.block_bytes.ensures.len;
      at = λ r h. ◌∙◌ {b = zone_byte geometry image c.number_at-block.result r} (c.block_bytes.ensures.bytes r h)
          (ap (λ k. zone_byte geometry image k r) number ∙ sym (body_byte_at geometry image i b r h));
    } in
    let visits : Visits {F = g.row.F.Denot} g.F.FnMut geometry image i c.loop-b.visit b c.visit.new.self = record {
      shown = c.block_bytes.result;
      block = block;
      called = c.visit.ensures;
    } in (
      subst (λ j. LooksUp geometry image j c.number_at-block.new.numbers) inode c.number_at-block.ensures.own,
      rw (range_to c.args.first b (omega arith)) (FoldsTo-push (Visits g.F.FnMut geometry image i) _ _ _ b _ c.loop-b.invariant.1 visits),
      search of_calls,
    )
