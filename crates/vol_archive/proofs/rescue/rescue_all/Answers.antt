use Rattle.vol_archive.proofs.Rescues.{rescue_begins}
use Rattle.vol_archive.proofs.rescue.rescue_all.Goals as goal

pub loop-i-init : goal.loop-i-init
loop-i-init c = record {
  rescued = rescue_begins c.args.geometry.now c.args.image.now c.args.orphans.now c.new.result.items c.in_ok-walk_with.field-0.founds.items
      c.constants-root.result.root (λ i. (c.constants-root.ensures i).root) c.new.ensures.items c.in_ok-walk_with.ensures.walk;
  firsts = c.in_ok-walk_with.ensures.firsts;
}
