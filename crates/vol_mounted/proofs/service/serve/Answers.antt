use Rattle.std.proofs.Common.{refl, true, false}
use Rattle.vol_mounted.proofs.Stores.{stored}
use Rattle.vol_mounted.proofs.service.serve.Goals as goal

pub returns-then-not-save-clause-turns : goal.returns-then-not-save-clause-turns
returns-then-not-save-clause-turns g c = (
  c.run-ended.new.server,
  g.H.Host.saved c.run-ended.new.host,
  c.run-ended.result,
  c.if-not-save.ensures.0,
  false,
  c.run-ended.ensures.turns,
  c.if-not-save.ensures.1,
  c.if-not-save.ensures.2,
  refl,
)

pub returns-in-Ok-clause-turns : goal.returns-in-Ok-clause-turns
returns-in-Ok-clause-turns g c = (
  c.run-ended.new.server,
  g.H.Host.saved c.run-ended.new.host,
  c.run-ended.result,
  c.if-not-save.ensures.0,
  true,
  c.run-ended.ensures.turns,
  c.if-not-save.ensures.1,
  c.if-not-save.ensures.2,
  (refl, c.in-Ok.is),
)

pub returns-in-Ok-clause-stored : goal.returns-in-Ok-clause-stored
returns-in-Ok-clause-stored g c file stores saved =
    stored file _ _ _ _ _ c.if-not-save.ensures.1 c.if-not-save.ensures.2 (c.run-ended.ensures.stored file stores)

pub returns-in-Err-clause-turns : goal.returns-in-Err-clause-turns
returns-in-Err-clause-turns g c = (
  c.run-ended.new.server,
  g.H.Host.saved c.run-ended.new.host,
  c.run-ended.result,
  c.if-not-save.ensures.0,
  true,
  c.run-ended.ensures.turns,
  c.if-not-save.ensures.1,
  c.if-not-save.ensures.2,
  (refl, c.in-Err.is),
)

pub returns-in-Err-clause-stored : goal.returns-in-Err-clause-stored
returns-in-Err-clause-stored g c file stores saved =
    stored file _ _ _ _ _ c.if-not-save.ensures.1 c.if-not-save.ensures.2 (c.run-ended.ensures.stored file stores)

pub returns-then-not-save-clause-stored : goal.returns-then-not-save-clause-stored
returns-then-not-save-clause-stored g c file stores saved = absurd (saved refl)
