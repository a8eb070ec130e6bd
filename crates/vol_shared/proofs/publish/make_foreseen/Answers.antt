use Rattle.std.proofs.Common.{◌≡◌, ◌+◌, ◌++◌, ◌∷◌, [], List, length, ◌∙◌, ap, sym, subst, arith}
use Rattle.vol_dir.specs.Tree.{State}
use Rattle.vol_volume.specs.Journal.{MayFollow}
use Rattle.vol_volume.specs.Volume.{Mounted, Accepts}
use Rattle.vol_volume.specs.declared.calls.Call.{Call}
use Rattle.vol_volume.specs.declared.calls.Record.{Record}
use Rattle.vol_receipts.specs.Agrees.{origin_of}
use Rattle.vol_receipts.proofs.Records.{get_accepted}
use Rattle.vol_views.specs.declared.history.LogEntry.{LogEntry}
use Rattle.vol_views.specs.declared.history.LogEntry.TheVariants.{Made}
use Rattle.vol_views.specs.States.{state_of}
use Rattle.vol_shared.specs.Published.{IsPublished}
use Rattle.vol_shared.specs.Stored.{stored_of}
use Rattle.vol_shared.proofs.Prefixes.{published_state, published_more}
use Rattle.vol_shared.proofs.publish.make_foreseen.Goals as goal

pub publish-publisher-requires-clause-may_follow : goal.publish-publisher-requires-clause-may_follow
publish-publisher-requires-clause-may_follow g c =
    let state = published_state c.args.volume c.args.publisher.log c.check.ensures c.requires.published c.check-2.ensures.reads in
    subst (λ (k : Call). MayFollow (state_of c.args.publisher.log) (record { call = k; done = c.args.entry.done })) (sym c.in-Ok.ensures)
    (subst (λ (s : State). MayFollow s c.args.entry) (sym state) c.requires.may_follow)

pub accepted-receipt-requires-clause-last : goal.accepted-receipt-requires-clause-last
accepted-receipt-requires-clause-last g c =
    let accepts = subst (λ (m : Mounted). Accepts m c.redo-volume.result c.args.entry.call c.args.entry.done) c.in-Ok-reserve.ensures.reserved c.redo-volume.ensures in
    let first = c.first.ensures in
    let records = ap (λ (l : List Record). length l) c.journal.ensures in
    get_accepted c.args.volume c.redo-volume.result c.args.entry.call c.args.asked c.args.entry.done (c.first.result + length c.journal.result.now) (omega (arith, first, records)) c.requires.asked accepts

pub together-requires-2-clause-published : goal.together-requires-2-clause-published
together-requires-2-clause-published g c =
    let accepts = subst (λ (m : Mounted). Accepts m c.redo-volume.result c.args.entry.call c.args.entry.done) c.in-Ok-reserve.ensures.reserved c.redo-volume.ensures in
    let origin : origin_of c.redo-volume.result ≡ origin_of c.args.volume = cc (accepts.edition, accepts.base, accepts.first) in
    subst (λ (l : List LogEntry). IsPublished l (stored_of c.redo-volume.result))
    (sym (c.publish-publisher.ensures.log ∙ ap (λ (k : Call). c.args.publisher.log ++ Made (record { call = k; done = c.args.entry.done }) ∷ []) c.in-Ok.ensures))
    (published_more (stored_of c.args.volume) (stored_of c.redo-volume.result) c.args.publisher.log c.args.entry c.requires.published origin accepts.journal)
