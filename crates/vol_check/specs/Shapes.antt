-- The layout of an image, and the shape of a table of counts for it.
use Rattle.std.specs.Prelude.{◌≡◌, ◌≢◌, ℕ, ◌+◌, ◌*◌, ◌<◌, ◌≤◌, List, length, slice_index, Result, Ok, Err}
use Rattle.vol_layout.specs.Edition.{constants}
use Rattle.vol_layout.specs.declared.geometry.Geometry.{Geometry}
use Rattle.vol_layout.specs.declared.geometry.GeometryFault.{GeometryFault}
use Rattle.count_table.specs.declared.rule.TableShape.{TableShape}
use Rattle.vol_reports.specs.declared.inode_link_counts.LinkCount.{LinkCount}
use Rattle.vol_reports.specs.Words.{HasWords, HasEntryWords, HasNameWords}
use Rattle.vol_check.specs.declared.checker.Checker.{Checker}
use Rattle.vol_check.specs.declared.checker.Checker.TheVariants.{Blocks, Entries, Names}

-- the layout from an image's super-block: its geometry, or the rule that fails, 1 or 2 (filsys.h)
abbrev pub Layout : Type 0
Layout = Result Geometry GeometryFault

-- a geometry is within the bounds of its edition, like the geometry of any image (filsys.h)
pub record IsLaidOut (g : Geometry) : Type 0 where
  pub i_list : 1024 + (constants g.edition).inode_bytes * g.last_inode ≡ 512 * g.zone_start
  pub zone : g.zone_start < g.zone_end
  pub root : (constants g.edition).root < g.last_inode
  pub limit : g.zone_end ≤ (constants g.edition).number_limit

-- a table has the words that the pieces of a sweep mark (this project)
pub record HasWordsOf (checker : Checker) (g : Geometry) (shape : TableShape) : Type 0 where
  pub of_blocks : checker ≡ Blocks → HasWords g shape
  pub of_entries : checker ≡ Entries → HasEntryWords g shape
  pub of_names : checker ≡ Names → HasNameWords g shape

-- for each i-number, the number of pieces before its first one, then the total, if the pieces are parts of directories (this project)
pub record CountsParts (g : Geometry) (pieces : ℕ) (starts : List ℕ) : Type 0 where
  pub wide : length starts ≡ g.last_inode + 1
  pub first : slice_index starts 0 ≡ 0
  pub last : slice_index starts g.last_inode ≡ pieces

-- the parts of a sweep over images with a geometry: the words, the pieces, and, for entries, the link counts (this project)
pub record IsReady (checker : Checker) (g : Geometry) (pieces : ℕ) (starts : List ℕ) (links : List LinkCount) (shape : TableShape) : Type 0 where
  pub bounds : IsLaidOut g
  pub words : HasWordsOf checker g shape
  pub parts : checker ≢ Blocks → CountsParts g pieces starts
  pub counts : checker ≡ Entries → length links ≡ g.last_inode

-- the parts of a sweep over images with this layout; images without geometry have no pieces (this project)
pub record IsShaped (checker : Checker) (layout : Layout) (pieces : ℕ) (starts : List ℕ) (links : List LinkCount) (shape : TableShape) : Type 0 where
  pub count : shape.pieces ≡ pieces
  pub ready : (g : Geometry) → layout ≡ Ok g → IsReady checker g pieces starts links shape
  pub none : (fault : GeometryFault) → layout ≡ Err fault → pieces ≡ 0
