use Rattle.std.proofs.Common.{◌≡◌, ◌+◌, ◌∷◌, [], length, ap, ◌∙◌, arith, length-append}
use Rattle.vol_reports.specs.Dcheck.{link_count, wants_entry}
use Rattle.vol_reports.proofs.Ranges.{pushed_more}
use Rattle.vol_reports.proofs.inode_link_counts.link_counts.Goals as goal

pub loop-before-preserved : goal.loop-before-preserved
loop-before-preserved c =
    let g = c.args.geometry.now in
    let image = c.args.image.now in
    let items = c.in_ok-push.ensures.items in
    let was = c.loop-before.invariant in
    record {
      wide = ap length items ∙ omega (arith, length-append c.loop-before.links.items (c.link_count-link_count.result ∷ []), was.wide);
      counts = pushed_more (λ k x. x.links ≡ link_count g image (k + 1)) c.loop-before.links.items c.push.new.self.items c.link_count-link_count.result
          c.loop-before.before items was.wide was.counts c.link_count-link_count.ensures.links;
      wanted = pushed_more (λ k x. x.wants_entry ≡ wants_entry g image (k + 1)) c.loop-before.links.items c.push.new.self.items c.link_count-link_count.result
          c.loop-before.before items was.wide was.wanted c.link_count-link_count.ensures.wanted;
    }
