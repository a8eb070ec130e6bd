use Rattle.std.proofs.Common.{refl}
use Rattle.vol_file.specs.Rules.{HasKinds, HasSizes}
use Rattle.vol_dir.specs.Entries.{HasEntries}
use Rattle.vol_judge.specs.Directories.{IsTree, HasLinks}
use Rattle.vol_judge.specs.Entries.{IsFirstEntry}
use Rattle.vol_judge.specs.INodes.{IsFirstKind, IsFirstSize}
use Rattle.vol_judge.specs.Links.{IsFirstLink}
use Rattle.vol_judge.specs.DirectoryTree.{IsFirstTree}
use Rattle.vol_findings.proofs.OutcomeLaws.{said_as}
use Rattle.vol_findings.proofs.outcome.check_volume.Goals as goal

pub returns : goal.returns
returns c =
    let g = c.args.geometry.now in
    let image = c.args.image.now in
    let asked : ⊥ → ⊥ = λ none. none in
    record {
      whole = refl;
      bounded = refl;
      kinds = said_as (HasKinds g image) (IsFirstKind g image) ⊥ c.find_kind.result c.of-kinds.result asked c.find_kind.ensures c.of-kinds.ensures;
      sizes = said_as (HasSizes g image) (IsFirstSize g image) ⊥ c.find_size.result c.of-sizes.result asked c.find_size.ensures c.of-sizes.ensures;
      zoned = c.in_ok-blocks.ensures.zoned;
      listed = c.in_ok-blocks.ensures.listed;
      apart = c.in_ok-blocks.ensures.apart;
      covered = c.in_ok-blocks.ensures.covered;
      entries = said_as (HasEntries g image) (IsFirstEntry g image) ⊥ c.in_ok-find_entry.field-0 c.of-entries.result asked
          c.in_ok-find_entry.ensures c.of-entries.ensures;
      dots = c.check_dots-dots.ensures;
      tree = said_as (IsTree g image) (IsFirstTree g image) ⊥ c.in_ok-find_tree.field-0 c.of-tree.result asked c.in_ok-find_tree.ensures c.of-tree.ensures;
      links = said_as (HasLinks g image) (IsFirstLink g image) ⊥ c.find_link.result c.of-links.result asked c.find_link.ensures c.of-links.ensures;
    }
