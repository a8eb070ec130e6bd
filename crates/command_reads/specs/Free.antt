-- The command that shows the chain of the free list.
use Rattle.std.specs.Prelude.{◌≡◌, ℕ, List, ◌++◌, codes, map, Ok, Err}
use Rattle.serde_json.specs.Data.{Data, array, object, member, no_members}
use Rattle.serde_json.specs.View.{items_of}
use Rattle.serde_json.specs.Written.{compact_text}
use Rattle.vol_inspect.specs.FreeChain.{InspectsChain}
use Rattle.vol_inspect.specs.Texts.{chain_text}
use Rattle.vol_inspect.specs.declared.fault.InspectFault.{InspectFault}
use Rattle.vol_inspect.specs.declared.free_chain.ChainReport.{ChainReport}
use Rattle.vol_inspect.specs.declared.free_chain.FreeLink.{FreeLink}
use Rattle.vol_layout.specs.declared.edition.Edition.{Edition}
use Rattle.vol_listing.specs.Json.{count}
use Rattle.command_faults.specs.declared.fault.Fault.{Fault}
use Rattle.command_reads.specs.Faults.{uninspected}
use Rattle.command_reads.specs.Json.{counts}
use Rattle.command_reads.specs.SuperBlock.{fault_data}
use Rattle.command_terms.specs.declared.looks.OutputForm.{OutputForm}
use Rattle.command_terms.specs.declared.looks.OutputForm.TheVariants as forms

-- a link of the chain: the block that holds it, its numbers, and its count (this project)
abbrev pub link_data : FreeLink → Data
link_data link =
    object (member (codes "block") (count link.block)
    (member (codes "free") (counts link.numbers.items)
    (member (codes "nfree") (count link.count) no_members)))

-- the chain of the free list: its links, the number of free blocks, and the fault that ends it (this project)
abbrev pub chain_data : ChainReport → Data
chain_data report =
    object (member (codes "chain") (array (items_of (map link_data report.links.items)))
    (member (codes "format") (count 1)
    (member (codes "free_blocks") (count report.free_blocks)
    (member (codes "free_fault") (fault_data report.fault) no_members))))

-- the chain as JSON, on one line (RFC 8259)
abbrev pub chain_json : ChainReport → List ℕ
chain_json report = compact_text (chain_data report) ++ codes "\n"

-- a report on the chain in this format (this project)
abbrev pub chain_in : ChainReport → OutputForm → List ℕ
chain_in report forms.Text = chain_text report
chain_in report forms.Json = chain_json report

-- the text of the report on the chain of an image's free list, in this format (this project)
abbrev pub IsChainText : Edition → List ℕ → OutputForm → List ℕ → Type 0
IsChainText edition image form text = (report : ChainReport) × InspectsChain edition image (Ok report) × (text ≡ chain_in report form)

-- the reason why the chain isn't shown (this project)
abbrev pub IsChainFault : Edition → List ℕ → Fault → Type 0
IsChainFault edition image fault = (why : InspectFault) × InspectsChain edition image (Err why) × (fault ≡ uninspected why)
