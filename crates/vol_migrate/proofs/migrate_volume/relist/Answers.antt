-- The old free list is cleared, and a new one is built.
use Rattle.std.proofs.Common.{◌≡◌, ◌∙◌, sym, ap, subst, ◌+◌}
use Rattle.pdp_words.specs.Words.{SameOutside}
use Rattle.vol_layout.specs.Super.{free_head}
use Rattle.vol_layout.specs.declared.edition.Edition.TheVariants.{V7}
use Rattle.vol_check.proofs.Remade.{rules_zoned, rules_apart}
use Rattle.vol_migrate.proofs.Migrated.{relisted}
use Rattle.vol_migrate.proofs.migrate_volume.relist.Goals as goal

pub named_blocks-requires-clause-zoned : goal.named_blocks-requires-clause-zoned
named_blocks-requires-clause-zoned c = rules_zoned V7 c.args.image.now c.args.to.now (sym c.requires.sizes) c.requires.rules

pub named_blocks-requires-clause-apart : goal.named_blocks-requires-clause-apart
named_blocks-requires-clause-apart c = rules_apart V7 c.args.image.now c.args.to.now (sym c.requires.sizes) c.requires.rules

pub returns : goal.returns
returns c =
    let head : c.free_head-head.result ≡ free_head c.args.to.now.edition = c.free_head-head.ensures ∙ ap free_head (sym c.requires.seventh) in
    let same : SameOutside c.args.image.now c.clear.new.self (free_head c.args.to.now.edition) (free_head c.args.to.now.edition + 202) =
    subst (λ h. SameOutside c.args.image.now c.clear.new.self h (h + 202)) head c.clear.ensures.others in
    relisted c.args.to.now c.args.image.now c.clear.new.self c.rebuild.new.image c.in_ok-used.used.items c.requires.seventh c.requires.sizes
    c.requires.fits c.rebuild.ensures.fits c.requires.rules c.in_ok-used.ensures.named same
    (rw (c.deref.ensures.value) at c.rebuild.ensures.others) (rw (c.deref.ensures.value) at c.rebuild.ensures.free)
