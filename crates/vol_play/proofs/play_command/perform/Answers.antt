use Rattle.std.proofs.Common.{◌∙◌, Bool, arith, ap, inl, inr, refl, subst}
use Rattle.std.proofs.KnownBytes.{Keeps-refl}
use Rattle.command_faults.specs.Faults.{line_after}
use Rattle.command_faults.specs.Streams.{streams}
use Rattle.vol_play.specs.Play.{EndsPlay, any_cut}
use Rattle.vol_play.proofs.ReadLaws.{read_many, read_views}
use Rattle.vol_play.proofs.play_command.perform.Goals as goal

pub play_image-requires-clause-first : goal.play_image-requires-clause-first
play_image-requires-clause-first g c =
    let many = read_many 1 0 c.args.scripts.items c.in-Ok.scripts.items c.in-Ok.ensures in omega (arith, many, c.requires.first)

pub play_image-requires-clause-last : goal.play_image-requires-clause-last
play_image-requires-clause-last g c =
    let many = read_many 1 0 c.args.scripts.items c.in-Ok.scripts.items c.in-Ok.ensures in omega (arith, many, c.requires.last)

pub play_image-requires-clause-views : goal.play_image-requires-clause-views
play_image-requires-clause-views g c =
    let few = read_views 1 0 c.args.scripts.items c.in-Ok.scripts.items (omega arith) c.in-Ok.ensures in omega arith

pub returns-in-Ok-play_image : goal.returns-in-Ok-play_image
returns-in-Ok-play_image g c =
    let last = c.in-Ok-play_image.volume in
    let played = c.in-Ok-play_image.played.items in
    let ends =
    subst
    (λ (cuts : Bool).
    EndsPlay last cuts c.args.journal c.args.form played
    (streams g.O.Sink.contents g.O.Sink.failed c.args.output.now c.finish_traced.new.output c.finish_traced.result.fault) c.finish_traced.result)
    (c.any_cut-cuts.ensures ∙ ap any_cut c.deref.ensures.value) c.finish_traced.ensures
    in
    inr (c.in-Ok.scripts.items, c.in-Ok.ensures, inr (last, played, c.in-Ok-play_image.ensures.played, ends))

pub returns-in-Err : goal.returns-in-Err
returns-in-Err g c = inl ((Keeps-refl (g.O.Sink.contents c.args.output.now), refl), (c.in-Err.fault, c.in-Err.ensures, c.refuse.ensures))

pub returns-in-Err-play_image : goal.returns-in-Err-play_image
returns-in-Err-play_image g c =
    let told = c.report.ensures in
    inr (
      c.in-Ok.scripts.items,
      c.in-Ok.ensures,
      inl (
        (Keeps-refl (g.O.Sink.contents c.args.output.now), refl),
        (
          c.in-Err-play_image.fault,
          c.in-Err-play_image.ensures.fault,
          record { unsaved = told.unsaved; ends = told.fault.0; told = ap line_after told.fault.1 },
        ),
      ),
    )
