use Rattle.std.proofs.lemmas.Result.{IfErr-weaker}
use Rattle.vol_mkfs.proofs.BlankWrites.{writes_volume, writes_front}
use Rattle.vol_mkfs.proofs.blank.BlankVolume.write_to.Goals as goal

pub returns-clause-ok : goal.returns-clause-ok
returns-clause-ok g c =
    rw (← c.self.view_is)
    (writes_volume c.self.inside.geometry c.self.inside.first c.self.invariant _ _ c.write_blocks.result c.write_blocks.ensures.ok)

pub returns-clause-part : goal.returns-clause-part
returns-clause-part g c =
    rw (← c.self.view_is)
    (IfErr-weaker c.write_blocks.result _ _ (λ e. writes_front c.self.inside.geometry c.self.inside.first c.self.invariant _ _ e.written)
    c.write_blocks.ensures.part)
