use Rattle.std.proofs.Common.{◌∙◌, List, Some, ap, map}
use Rattle.vol_inspect.specs.declared.uses.Use.{Use}
use Rattle.command_reads.proofs.KnownUses.{known_room}
use Rattle.command_reads.proofs.bad_uses.known_picture.Goals as goal

pub uses_text-requires-clause-some : goal.uses_text-requires-clause-some
uses_text-requires-clause-some c =
    (known_room c.args.geometry.now c.args.image.now c.args.lost.now _ c.requires
    (c.deref-2.ensures.value ∙ (c.in_ok-blocks.ensures ∙ ap (λ (us : List Use). map (λ u. Some u) us) (c.deref.ensures.value ∙ c.in_ok-uses.ensures)))).0

pub uses_text-requires-clause-few : goal.uses_text-requires-clause-few
uses_text-requires-clause-few c =
    (known_room c.args.geometry.now c.args.image.now c.args.lost.now _ c.requires
    (c.deref-2.ensures.value ∙ (c.in_ok-blocks.ensures ∙ ap (λ (us : List Use). map (λ u. Some u) us) (c.deref.ensures.value ∙ c.in_ok-uses.ensures)))).1
