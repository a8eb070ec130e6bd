-- Invariant: none of the calls so far was refused.
use Rattle.std.proofs.Common.{◌≡◌, drop}
use Rattle.vol_dir.specs.Tree.{state}
use Rattle.vol_mounted.specs.Plans.{first_refused}
use Rattle.vol_mounted.proofs.scene.Scene.ask.Given as goal

abbrev pub invariant-tests : goal.invariant-tests
invariant-tests l =
    first_refused (state l.self.geometry.now l.self.volume.now.image) l.tests
    ≡ first_refused (state l.self.geometry.now l.self.volume.now.image) (drop l.call-index l.tests)
