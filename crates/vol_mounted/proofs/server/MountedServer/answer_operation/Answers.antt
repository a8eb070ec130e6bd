use Rattle.std.proofs.Common.{sym, inl}
use Rattle.vol_mounted.proofs.TurnLaws.{match_true}
use Rattle.vol_mounted.proofs.server.MountedServer.answer_operation.Goals as goal

pub returns : goal.returns
returns g c = (
  c.if-not-save.ensures.0,
  c.if-not-save.ensures.1,
  match_true _ _ _ (sym c.if-not-is_sync.ensures) (inl (c.save.new.self, c.if-not-save.ensures.2, c.answer_saved-2.ensures)),
)
