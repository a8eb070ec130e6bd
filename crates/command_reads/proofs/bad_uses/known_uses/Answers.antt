use Rattle.std.proofs.Common.{◌≡◌, ◌++◌, ◌∷◌, [], List, ap, sym, arith, ◌∙◌, get_or, length, map}
use Rattle.std.specs.List.{range_with_len}
use Rattle.std.proofs.lemmas.List.FromFn.{get_or-map-range_with_len, length-map-range_with_len, map-range_with_len_more}
use Rattle.vol_inspect.specs.Uses.{use_of}
use Rattle.vol_inspect.specs.declared.uses.Use.{Use}
use Rattle.vol_inspect.specs.declared.uses.Use.TheVariants as uses
use Rattle.vol_losses.specs.Losses.{is_lost}
use Rattle.command_reads.specs.BadUses.{known_as, known_use}
use Rattle.command_reads.proofs.bad_uses.known_uses.Goals as goal

pub use_at-usage-requires : goal.use_at-usage-requires
use_at-usage-requires c =
    omega (
      arith,
      ap (λ (us : List Use). length us) c.deref.ensures.value,
      ap (λ (us : List Use). length us) c.in_ok-uses.ensures,
      length-map-range_with_len (use_of c.args.geometry.now c.args.image.now) 0 c.args.geometry.now.zone_end,
    )

pub loop-b-preserved : goal.loop-b-preserved
loop-b-preserved c =
    let g = c.args.geometry.now in
    let image = c.args.image.now in
    let lost = c.args.lost.now in
    let b = c.loop-b.b in
    let usage : c.use_at-usage.result ≡ use_of g image b =
    c.use_at-usage.ensures
    ∙ (ap (λ (us : List Use). get_or us b uses.Boot) (c.deref.ensures.value ∙ c.in_ok-uses.ensures)
    ∙ get_or-map-range_with_len (use_of g image) 0 g.zone_end b b uses.Boot c.loop-b-test.true (omega arith)) in
    let is : c.known_as.result ≡ known_use g image lost b =
    c.known_as.ensures ∙ (ap (λ t. known_as t c.use_at-usage.result) c.is_lost.ensures ∙ ap (known_as (is_lost lost b)) usage) in
    c.in_ok-push.ensures.items
    ∙ (ap (λ xs. xs ++ c.known_as.result ∷ []) c.loop-b.invariant
    ∙ (ap (λ (x : Use). map (known_use g image lost) (range_with_len 0 b) ++ x ∷ []) is
    ∙ sym (map-range_with_len_more (known_use g image lost) 0 b b (omega arith))))
