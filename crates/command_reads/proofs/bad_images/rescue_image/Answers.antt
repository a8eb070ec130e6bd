use Rattle.std.proofs.Common.{List, ◌∙◌, inl, inr, ap, sym, subst}
use Rattle.std.specs.Prelude.{Err}
use Rattle.bad_maps.specs.Maps.{ReadsMap, ranges_in}
use Rattle.bad_maps.specs.declared.maps.ReadRange.{ReadRange}
use Rattle.command_faults.specs.Streams.{still}
use Rattle.command_reads.specs.BadLooks.{TellsUnrescued}
use Rattle.command_reads.proofs.BadImages.{if_err}
use Rattle.command_reads.proofs.BadLooks.{told_misread}
use Rattle.command_reads.proofs.bad_images.rescue_image.Goals as goal

pub returns-in-Outside-clause-fault : goal.returns-in-Outside-clause-fault
returns-in-Outside-clause-fault c =
    rw c.in-Outside.is (if_err c.rescue_from.result
    (λ ending told known failed. subst (λ (ranges : List ReadRange). TellsUnrescued c.args.edition ranges 0 c.args.sizes c.args.bytes.items (still known failed ending.fault) ending.status)
    c.deref.ensures.value (told known failed)) c.rescue_from.ensures.fault)

pub returns-in-Ok-clause-fault : goal.returns-in-Ok-clause-fault
returns-in-Ok-clause-fault c =
    rw c.in-Map.is (if_err c.rescue_from-in-Ok.result (λ ending told known failed. inl (
      c.in-Ok.ranges.items,
      ap ranges_in (sym c.deref-2.ensures.value) ∙ c.in-Ok.ensures,
      subst (λ (ranges : List ReadRange). TellsUnrescued c.args.edition ranges c.in-Map.map.at c.args.sizes c.args.bytes.items (still known failed ending.fault) ending.status)
          c.deref-in-Ok.ensures.value (told known failed),
    )) c.rescue_from-in-Ok.ensures.fault)

pub returns-in-Err-clause-fault : goal.returns-in-Err-clause-fault
returns-in-Err-clause-fault c = λ known failed.
    rw c.in-Map.is (inr
    (told_misread c.in-Map.map known failed c.in-Err.fault c.misread.result.status c.misread.result.fault
    (subst (λ text. ReadsMap (ranges_in text) (Err c.in-Err.fault)) c.deref-2.ensures.value c.in-Err.ensures) c.misread.ensures))
