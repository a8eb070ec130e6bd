use Rattle.std.proofs.Common.{◌∙◌, ap, codes, inl, inr, refl, Some}
use Rattle.vol_listing.specs.declared.options.Screen.TheVariants.{Stream}
use Rattle.command_reads.specs.Look.{Looks}
use Rattle.command_terms.specs.declared.bad_looks.BadLook.TheVariants as bad_looks
use Rattle.command_terms.specs.declared.looks.Look.TheVariants as looks
use Rattle.unixvol_c.specs.Looks.{RescuesAs, rescue_options}
use Rattle.unixvol_c.proofs.KeptStreams.{kept_as, kept_shown}
use Rattle.unixvol_c.proofs.looks.kept_rescue.Goals as goal

pub returns-then-not-view : goal.returns-then-not-view
returns-then-not-view c =
    kept_as (λ streams status. Looks c.args.edition c.args.bytes.now Stream streams status (looks.Export c.args.path (rescue_options c.args.view.now)))
    (RescuesAs c.args.edition c.args.bytes.now c.args.view.now c.args.path.now c.args.map.now) c.kept_look.result
    (λ streams status shown. inl (c.if-not-view.true, shown)) c.kept_look.ensures

pub returns : goal.returns
returns c =
    kept_shown (RescuesAs c.args.edition c.args.bytes.now c.args.view.now c.args.path.now c.args.map.now) _ _ _ _ _ _ _ _ c.look_bad-ending.result.status
    c.keep.result (c.new-output.ensures.bytes ∙ ap Some c.new.ensures.items) c.new-output.ensures.fresh
    (c.new-errors.ensures.bytes ∙ ap Some c.new-2.ensures.items) c.keep.ensures.working c.keep.ensures.both c.keep.ensures.status c.tell.ensures
    (inr (
      c.if-not-view.false,
      (
        record { name = record { ref_ptr = (0, 0); now = codes "map" }; text = c.in_ok-from_slice.field-0; at = c.args.view.now.at },
        bad_looks.Export c.args.path (rescue_options c.args.view.now),
        (refl, c.in_ok-from_slice.ensures.items, refl),
        (refl, refl),
        rw c.in_ok-image.ensures.items at c.look_bad-ending.ensures,
      ),
    ))
