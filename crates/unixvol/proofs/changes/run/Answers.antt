use Rattle.std.proofs.Common.{◌≡◌, [], ◌∙◌, Err, ap, inl, inr, refl, subst, sym}
use Rattle.command_changes.specs.Changes.{changed}
use Rattle.command_terms.specs.Needs.{needs_of}
use Rattle.command_terms.specs.declared.changes.Needs.{Needs}
use Rattle.unixvol.specs.FileFaults.{file_status}
use Rattle.unixvol.specs.Runs.{GaveArchive, GavePut, IsGivenTo, IsUngiven, IsUnread, wants_terminal}
use Rattle.unixvol.proofs.Concluded.{ends_unread}
use Rattle.unixvol.proofs.Done.{ends_ungiven}
use Rattle.unixvol.proofs.FileFaults.{stopped}
use Rattle.unixvol.proofs.Traced.{ends_traced}
use Rattle.unixvol.proofs.changes.run.Goals as goal

pub returns-then-wants_terminal : goal.returns-then-wants_terminal
returns-then-wants_terminal g c =
    let known = g.O.Sink.contents c.args.output.now in
    let done = stopped (λ status. status ≡ 3) known (g.O.Sink.failed c.args.output.now) (Err c.from.result) _ c.from.ensures refl in (
      [],
      inl (ap (wants_terminal c.args.is_terminal) (sym c.needs-needs.ensures) ∙ sym c.wants_terminal.ensures ∙ c.if-wants_terminal.true, refl, done),
      ends_unread g.R.File.Read.remaining _ _ (inl done.0) done.1,
    )

pub returns-in_err-expect_volume : goal.returns-in_err-expect_volume
returns-in_err-expect_volume g c =
    let known = g.O.Sink.contents c.args.output.now in
    let done = stopped (IsUnread g.R.File.Read.remaining) known (g.O.Sink.failed c.args.output.now) _ _ c.from_residual.ensures.1 (inl c.in_err-expect_volume.ensures) in (
      [],
      inr (
        ap (wants_terminal c.args.is_terminal) (sym c.needs-needs.ensures) ∙ sym c.wants_terminal.ensures ∙ c.if-wants_terminal.false,
        inl (refl, inl done),
      ),
      ends_unread g.R.File.Read.remaining _ _ done.0 done.1,
    )

pub returns-in_err-given : goal.returns-in_err-given
returns-in_err-given g c =
    let known = g.O.Sink.contents c.args.output.now in
    let lacks = IsUngiven (IsUnread g.R.File.Read.remaining) (IsUnread g.I.Read.remaining) in
    let done = stopped (lacks (needs_of c.args.change)) known (g.O.Sink.failed c.args.output.now) _ _ c.from_residual-in_err-given.ensures.1
    (subst (λ (wanted : Needs). lacks wanted (file_status c.in_err-given.field-0.0)) c.needs-needs.ensures c.in_err-given.ensures.fault) in (
      [],
      inr (
        ap (wants_terminal c.args.is_terminal) (sym c.needs-needs.ensures) ∙ sym c.wants_terminal.ensures ∙ c.if-wants_terminal.false,
        inl (refl, inr done),
      ),
      ends_ungiven g.R.File.Read.remaining g.I.Read.remaining _ _ (needs_of c.args.change) done.0 done.1,
    )

pub returns-in_err-image : goal.returns-in_err-image
returns-in_err-image g c =
    let known = g.O.Sink.contents c.args.output.now in
    let done = stopped (IsUnread g.R.File.Read.remaining) known (g.O.Sink.failed c.args.output.now) _ _ c.from_residual-in_err-image.ensures.1 c.in_err-image.ensures.fault in (
      [],
      inr (
        ap (wants_terminal c.args.is_terminal) (sym c.needs-needs.ensures) ∙ sym c.wants_terminal.ensures ∙ c.if-wants_terminal.false,
        inl (refl, inl done),
      ),
      ends_unread g.R.File.Read.remaining _ _ done.0 done.1,
    )

pub returns : goal.returns
returns g c =
    let given = subst (λ (wanted : Needs). IsGivenTo (GavePut c.args.volume.edition g.R.File.Read.remaining) (GaveArchive g.I.Read.remaining) wanted c.in_ok-given.given) c.needs-needs.ensures
    c.in_ok-given.ensures.given in
    let outcomes = changed c.args.volume.edition c.in_ok-image.image.items c.in_ok-given.given c.args.change c.args.trace in
    let ends = c.save_traced.ensures in (
      outcomes.lines,
      inr (
        ap (wants_terminal c.args.is_terminal) (sym c.needs-needs.ensures) ∙ sym c.wants_terminal.ensures ∙ c.if-wants_terminal.false,
        inr (
          c.in_ok-image.image.items,
          c.in_ok-image.stamp,
          c.in_ok-given.given,
          c.perform-outcome.result,
          c.in_ok-image.ensures.given,
          given,
          c.perform-outcome.ensures,
          refl,
          ends,
        ),
      ),
      ends_traced outcomes _ _ _ _ c.perform-outcome.ensures ends,
    )
