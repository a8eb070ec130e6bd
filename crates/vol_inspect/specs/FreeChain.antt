-- The chain of the free list, link by link.
use Rattle.std.specs.Prelude.{◌≡◌, ℕ, ◌*◌, ◌==◌, if◌then◌else◌, List, [], ◌∷◌, ◌++◌, length, map, Result, Ok, Err, IsOk}
use Rattle.pdp_words.specs.Words.{word}
use Rattle.vol_layout.specs.Geometry.{geometry_read}
use Rattle.vol_layout.specs.Super.{free_head}
use Rattle.vol_layout.specs.declared.edition.Edition.{Edition}
use Rattle.vol_layout.specs.declared.geometry.Geometry.{Geometry}
use Rattle.vol_free.specs.FreeWalk.{free_walk}
use Rattle.vol_free.specs.Walk.{left_after}
use Rattle.vol_inspect.specs.Inspect.{link_numbers}
use Rattle.vol_inspect.specs.declared.fault.InspectFault.{InspectFault}
use Rattle.vol_inspect.specs.declared.fault.InspectFault.TheVariants.{Unsound, NoEntry, NoMemory}
use Rattle.vol_inspect.specs.declared.free_chain.ChainReport.{ChainReport}
use Rattle.vol_inspect.specs.declared.free_chain.FreeLink.{FreeLink}

-- a link of the chain: the block that contains it, its count as it is stored, and the numbers in use in its array (filsys.h, fblk.h)
pub record Link : Type 0 where
  pub block : ℕ
  pub count : ℕ
  pub numbers : List ℕ

-- the link that is shown (this project)
abbrev pub shown_link : FreeLink → Link
shown_link link = record { block = link.block; count = link.count; numbers = link.numbers.items }

-- the byte of a link's count in a block: in the super-block, which is block 1, it is a field; any other block begins with it (filsys.h, fblk.h)
abbrev pub link_head : Edition → ℕ → ℕ
link_head edition block = if block == 1 then free_head edition else 512 * block

-- the link in a block (filsys.h, fblk.h)
abbrev pub link_of : Edition → List ℕ → ℕ → Link
link_of edition image block =
    record {
      block = block;
      count = word image (link_head edition block);
      numbers = link_numbers edition image (link_head edition block);
    }

-- the link in block `b`, if `b` is the last of the `left` numbers left in an array (filsys.h, fblk.h)
abbrev pub shown_from : Geometry → List ℕ → ℕ → ℕ → List Link
shown_from g image left b = if left == 1 then link_of g.edition image b ∷ [] else []

-- the links on a walk over the free list that passed these blocks, the last block first: the link of the super-block, and the link in each block that
-- was the last number left in an array (filsys.h, fblk.h)
unfoldable pub links_met : Geometry → List ℕ → List ℕ → List Link
links_met g image [] = link_of g.edition image 1 ∷ []
links_met g image (b ∷ met) = links_met g image met ++ shown_from g image (left_after g image met) b

-- a report on the chain of an image with a geometry, up to the first fault of the free list (icheck; filsys.h)
pub record IsChainReport (g : Geometry) (image : List ℕ) (report : ChainReport) : Type 0 where
  pub links : map shown_link report.links.items ≡ links_met g image (free_walk g image).met
  pub free_blocks : report.free_blocks ≡ length (free_walk g image).met
  pub fault : report.fault ≡ (free_walk g image).fault

-- the report on the chain, or the reason why there is none (this project)
abbrev pub InspectsChain : Edition → List ℕ → Result ChainReport InspectFault → Type 0
InspectsChain edition image (Ok report) = (g : Geometry) × (geometry_read edition image ≡ Ok g) × IsChainReport g image report
InspectsChain edition image (Err (Unsound fault)) = geometry_read edition image ≡ Err fault
InspectsChain edition image (Err NoMemory) = IsOk (geometry_read edition image)
InspectsChain edition image (Err NoEntry) = ⊥
