use Rattle.std.proofs.Common.{length, subst}
use Rattle.host_files.specs.Packs.{IsCopied}
use Rattle.host_files.specs.ReadParts.{IsSkipped}
use Rattle.host_files.proofs.Packs.{are_spliced, misfit_long, misfit_short}
use Rattle.host_files.proofs.pack.splice.Goals as goal

pub returns-then-branch-2-clause-ok : goal.returns-then-branch-2-clause-ok
returns-then-branch-2-clause-ok g c =
    let first = subst (IsCopied c.args.at (g.S.Source.remaining c.args.pack.now) (g.S.Source.remaining c.copy.new.source)
    (g.W.Sink.contents c.args.sink.now) (g.W.Sink.contents c.copy.new.sink)) c.if-branch.false c.in_ok-copy.ensures.ok in
    let lost = subst (IsSkipped (length c.args.bytes.now) (g.S.Source.remaining c.copy.new.source) (g.S.Source.remaining c.skip.new.source))
    c.in-Ok-false.field-0-test c.in-Ok-false.ensures.ok in
    let last = subst (IsCopied 18446744073709551615 (g.S.Source.remaining c.skip.new.source) (g.S.Source.remaining c.copy-2.new.source)
    (g.W.Sink.contents c.write_with_holes.new.sink) (g.W.Sink.contents c.copy-2.new.sink)) c.if-branch-2.true c.in_ok-copy-2.ensures.ok in
    are_spliced c.args.at 18446744073709551615 c.args.bytes.now
    (g.S.Source.remaining c.args.pack.now) (g.S.Source.remaining c.copy.new.source) (g.S.Source.remaining c.skip.new.source) (g.S.Source.remaining c.copy-2.new.source)
    (g.W.Sink.contents c.args.sink.now) (g.W.Sink.contents c.copy.new.sink) (g.W.Sink.contents c.write_with_holes.new.sink) (g.W.Sink.contents c.copy-2.new.sink)
    first c.in-Ok.ensures.ok lost last

pub returns-in-Ok-true-clause-misfit : goal.returns-in-Ok-true-clause-misfit
returns-in-Ok-true-clause-misfit g c is =
    let first = subst (IsCopied c.args.at (g.S.Source.remaining c.args.pack.now) (g.S.Source.remaining c.copy.new.source)
    (g.W.Sink.contents c.args.sink.now) (g.W.Sink.contents c.copy.new.sink)) c.if-branch.false c.in_ok-copy.ensures.ok in
    let lost = subst (IsSkipped (length c.args.bytes.now) (g.S.Source.remaining c.copy.new.source) (g.S.Source.remaining c.skip.new.source))
    c.in-Ok-true.field-0-test c.in-Ok-true.ensures.ok in
    misfit_short c.args.at (length c.args.bytes.now)
    (g.S.Source.remaining c.args.pack.now) (g.S.Source.remaining c.copy.new.source) (g.S.Source.remaining c.skip.new.source)
    (g.W.Sink.contents c.args.sink.now) (g.W.Sink.contents c.copy.new.sink) first lost

pub returns-else-branch-2-clause-misfit : goal.returns-else-branch-2-clause-misfit
returns-else-branch-2-clause-misfit g c is =
    let first = subst (IsCopied c.args.at (g.S.Source.remaining c.args.pack.now) (g.S.Source.remaining c.copy.new.source)
    (g.W.Sink.contents c.args.sink.now) (g.W.Sink.contents c.copy.new.sink)) c.if-branch.false c.in_ok-copy.ensures.ok in
    let lost = subst (IsSkipped (length c.args.bytes.now) (g.S.Source.remaining c.copy.new.source) (g.S.Source.remaining c.skip.new.source))
    c.in-Ok-false.field-0-test c.in-Ok-false.ensures.ok in
    let last = subst (IsCopied 18446744073709551615 (g.S.Source.remaining c.skip.new.source) (g.S.Source.remaining c.copy-2.new.source)
    (g.W.Sink.contents c.write_with_holes.new.sink) (g.W.Sink.contents c.copy-2.new.sink)) c.if-branch-2.false c.in_ok-copy-2.ensures.ok in
    misfit_long c.args.at (length c.args.bytes.now)
    (g.S.Source.remaining c.args.pack.now) (g.S.Source.remaining c.copy.new.source) (g.S.Source.remaining c.skip.new.source) (g.S.Source.remaining c.copy-2.new.source)
    (g.W.Sink.contents c.args.sink.now) (g.W.Sink.contents c.copy.new.sink) (g.W.Sink.contents c.write_with_holes.new.sink) (g.W.Sink.contents c.copy-2.new.sink)
    first lost last
