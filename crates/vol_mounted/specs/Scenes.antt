-- The values of a scene that calls and replies depend on.
use Rattle.vol_mounted.specs.Plans.{Sight}
use Rattle.vol_mounted.specs.declared.scene.Scene.{Scene}

-- the values of a scene that calls and replies depend on (this project)
abbrev pub sight_of : Scene → Sight
sight_of scene = record {
  geometry = scene.geometry.now;
  image = scene.volume.now.image;
  nodes = scene.nodes.now;
  owner = scene.owner;
  now = scene.moment;
}
