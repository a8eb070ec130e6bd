-- The rules that hold when all files are copied: all those that aren't about the free list.
use Rattle.std.proofs.Common.{◌≡◌, ◌∙◌, sym, ap, subst, refl, ℕ, ◌+◌, Bool, true, false, List, Result, Ok, Err, None, inr, arith}
use Rattle.std.specs.Prelude.{if◌then◌else◌}
use Rattle.vol_layout.specs.Edition.{constants}
use Rattle.vol_layout.specs.Geometry.{geometry_of, geometry_read, is_whole, is_bounded}
use Rattle.vol_layout.specs.declared.edition.Edition.{Edition}
use Rattle.vol_layout.specs.declared.geometry.Geometry.{Geometry}
use Rattle.vol_layout.specs.declared.geometry.GeometryFault.{GeometryFault}
use Rattle.vol_layout.specs.declared.geometry.GeometryFault.TheVariants.{Short, Bounds}
use Rattle.vol_file.specs.Rules.{HasKinds, HasSizes, IsApart, IsZoned}
use Rattle.vol_dir.specs.Entries.{HasEntries}
use Rattle.vol_judge.specs.Directories.{HasDots, HasLinks, IsTree, root_of}
use Rattle.vol_judge.specs.Graph.{graph_of, IsGraphSound}
use Rattle.vol_judge.specs.Sound.{KeepsRules}
use Rattle.vol_judge.proofs.ImageGraphs.{graph_within, rules_from_graph}
use Rattle.vol_judge.proofs.RuleNumbers.{judged}
use Rattle.vol_change.proofs.ReadyLaws.{ready_graph}
use Rattle.vol_mkfs.proofs.NewSizes.{read_makeable}
use Rattle.vol_migrate.specs.Stages.{MayMigrate}
use Rattle.vol_migrate.proofs.RaisedGraphs.{raised_sound}
use Rattle.vol_migrate.proofs.LastStages.{IsLast, graph_raised}

-- a geometry that was read satisfies rules 1 and 2
read_whole : (edition : Edition) (image : List ℕ) (geometry : Geometry) → geometry_read edition image ≡ Ok geometry
    → (is_whole edition image ≡ true) × (is_bounded edition image ≡ true)
unfolding geometry_read
read_whole edition image geometry read = go (is_whole edition image) (is_bounded edition image) refl refl read where
  is_ok : Result Geometry GeometryFault → Bool
  is_ok (Ok g) = true
  is_ok (Err fault) = false

  go : (whole bounded : Bool) → is_whole edition image ≡ whole → is_bounded edition image ≡ bounded
      → (if whole then (if bounded then Ok (geometry_of edition image) else Err Bounds) else Err Short) ≡ Ok geometry
      → (is_whole edition image ≡ true) × (is_bounded edition image ≡ true)
  go true true e f r = (e, f)
  go true false e f r = let clash : false ≡ true = ap is_ok r in cc
  go false bounded e f r = let clash : false ≡ true = ap is_ok r in cc

-- the rules about directories hold
last_graph : (from to : Geometry) (old image : List ℕ) (now : ℕ) → MayMigrate old from to → IsLast from to old now image
    → HasEntries to image × HasDots to image × IsTree to image × HasLinks to image
last_graph from to old image now may stage =
    let old_root : root_of from ≡ 1 = ap (λ e. (constants e).root) may.sixth in
    let new_root : root_of to ≡ root_of from + 1 = ap (λ e. (constants e).root) may.seventh ∙ ap (λ n. n + 1) (sym old_root) in
    let inside = stage.sound.fits.root in
    let sound = raised_sound (graph_of from old) (graph_of to image) (root_of from) from.last_inode to.last_inode (graph_within from old) (graph_within to image)
    (graph_raised from to old image now may stage) (omega (arith, inside)) (ready_graph from old may.ready) refl in
    rules_from_graph to image stage.sound.sizes
    (subst (λ root. IsGraphSound (graph_of to image) root to.last_inode) (sym new_root) sound)

-- all rules that aren't about the free list hold
pub last_rules : (from to : Geometry) (old image : List ℕ) (now : ℕ) → MayMigrate old from to → IsLast from to old now image → KeepsRules false to.edition image
last_rules from to old image now may stage =
    let super_block = stage.super_block in
    let same = super_block.sizes in
    let read = read_makeable to image may.makeable super_block.len (ap (λ (g : Geometry). g.zone_start) same) (ap (λ (g : Geometry). g.zone_end) same) in
    let both = read_whole to.edition image to read in
    let graph = last_graph from to old image now may stage in
    judged false to.edition image None
    (inr (
      tt,
      inr (
        both.0,
        inr (
          both.1,
          inr (
            subst (λ g. HasKinds g image) (sym same) stage.sound.kinds,
            inr (
              subst (λ g. HasSizes g image) (sym same) stage.sound.sizes,
              inr (
                subst (λ g. IsZoned g image) (sym same) stage.sound.zoned,
                inr (
                  tt,
                  inr (
                    (subst (λ g. IsApart g image) (sym same) stage.sound.apart, tt),
                    inr (
                      tt,
                      inr (
                        subst (λ g. HasEntries g image) (sym same) graph.0,
                        inr (
                          subst (λ g. HasDots g image) (sym same) graph.1,
                          inr (subst (λ g. IsTree g image) (sym same) graph.2, inr (subst (λ g. HasLinks g image) (sym same) graph.3, refl)),
                        ),
                      ),
                    ),
                  ),
                ),
              ),
            ),
          ),
        ),
      ),
    ))
