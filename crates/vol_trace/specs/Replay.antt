-- An image that replays the records of a journal.
use Rattle.std.specs.Prelude.{◌≡◌}
use Rattle.vol_layout.specs.Geometry.{Fits, geometry_of}
use Rattle.vol_dir.specs.Tree.{free_count, shapes}
use Rattle.vol_judge.specs.Sound.{IsSound}
use Rattle.vol_trace.specs.Trace.{roles_of}
use Rattle.vol_trace.specs.declared.replay.Replay.{Replay}

-- the image of a replay is sound, and its geometry and its number of free blocks are right (this project)
pub record IsReady (replay : Replay) : Type 0 where
  pub sound : IsSound replay.geometry.edition replay.image
  pub sizes : replay.geometry ≡ geometry_of replay.geometry.edition replay.image
  pub fits : Fits replay.geometry replay.image
  pub count : replay.free ≡ free_count replay.geometry (shapes replay.geometry replay.image)

-- a replay may take its next record: it remembers the present image, with the role of each block (this project)
pub record IsReplay (replay : Replay) : Type 0 where
  pub ready : IsReady replay
  pub before : replay.before ≡ replay.image
  pub roles : replay.roles.items ≡ roles_of replay.geometry replay.image
