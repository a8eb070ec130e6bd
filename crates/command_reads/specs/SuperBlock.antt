-- The commands that show the super-block, and the space of the volume.
use Rattle.std.specs.Prelude.{ℕ, ◌-◌, List, ◌++◌, codes, Option, None, Some, slice_index, ◌≡◌, Ok, Err}
use Rattle.serde_json.specs.Data.{Data, null, string, object, member, no_members, Members, put}
use Rattle.serde_json.specs.Written.{compact_text}
use Rattle.vol_free.specs.FreeWalk.{fault_word}
use Rattle.vol_free.specs.declared.free_walk.FreeFault.{FreeFault}
use Rattle.vol_inspect.specs.declared.super_report.SuperReport.{SuperReport}
use Rattle.vol_listing.specs.Json.{count}
use Rattle.command_reads.specs.Json.{counts}
use Rattle.vol_inspect.specs.Inspect.{InspectsSuper}
use Rattle.vol_inspect.specs.Space.{in_use, space_text}
use Rattle.vol_inspect.specs.Texts.{super_text}
use Rattle.vol_inspect.specs.declared.fault.InspectFault.{InspectFault}
use Rattle.vol_layout.specs.declared.edition.Edition.{Edition}
use Rattle.command_faults.specs.declared.fault.Fault.{Fault}
use Rattle.command_reads.specs.Faults.{uninspected}
use Rattle.command_terms.specs.declared.looks.OutputForm.{OutputForm}
use Rattle.command_terms.specs.declared.looks.OutputForm.TheVariants as forms
use Rattle.command_reads.specs.declared.super_block.SuperPart.{SuperPart}
use Rattle.command_reads.specs.declared.super_block.SuperPart.TheVariants as parts

-- the fault that ended the walk over the free list, with its count or number (icheck)
abbrev pub fault_data : Option (FreeFault × ℕ) → Data
fault_data None = null
fault_data (Some fault) = object (member (codes "fault") (string (fault_word fault.0)) (member (codes "number") (count fault.1) no_members))

-- the super-block: its fields by their names in filsys.h, and the counts (this project)
unfoldable pub super_data : SuperReport → Data
super_data report =
    object (member (codes "cache") (counts report.cache.items)
    (member (codes "data_blocks") (count (report.geometry.zone_end - report.geometry.zone_start))
    (member (codes "flock") (count (slice_index report.flags 0))
    (member (codes "fmod") (count (slice_index report.flags 2))
    (member (codes "format") (count 1)
    (member (codes "free") (counts report.free.items)
    (member (codes "free_blocks") (count report.free_blocks)
    (member (codes "free_fault") (fault_data report.fault)
    (member (codes "free_inodes") (count report.free_inodes)
    (member (codes "fsize") (count report.block_count)
    (member (codes "ilock") (count (slice_index report.flags 1))
    (member (codes "inodes") (count report.geometry.last_inode)
    (member (codes "isize") (count report.list_size)
    (member (codes "nfree") (count report.free_count)
    (member (codes "ninode") (count report.cache_count)
    (member (codes "ronly") (count (slice_index report.flags 3))
    (member (codes "time") (count report.time) no_members)))))))))))))))))

-- the space of a volume: the numbers of blocks, of data blocks and of i-nodes, how many are free, how many are used, and the fault of the free list (df)
unfoldable pub space_data : SuperReport → Data
space_data report =
    let data_blocks = report.geometry.zone_end - report.geometry.zone_start in
    object (member (codes "blocks") (count report.geometry.zone_end)
    (member (codes "data_blocks") (count data_blocks)
    (member (codes "format") (count 1)
    (member (codes "free_blocks") (count report.free_blocks)
    (member (codes "free_fault") (fault_data report.fault)
    (member (codes "free_inodes") (count report.free_inodes)
    (member (codes "inodes") (count report.geometry.last_inode)
    (member (codes "used_blocks") (count (in_use report.geometry.zone_end report.free_blocks))
    (member (codes "used_data_blocks") (count (in_use data_blocks report.free_blocks))
    (member (codes "used_inodes") (count (in_use report.geometry.last_inode report.free_inodes)) no_members))))))))))

-- part of the report on the super-block, as data (this project)
abbrev pub part_data : SuperPart → SuperReport → Data
part_data parts.Fields report = super_data report
part_data parts.Space report = space_data report

-- part of the report on the super-block, as text (this project)
abbrev pub part_text : SuperPart → SuperReport → List ℕ
part_text parts.Fields report = super_text report
part_text parts.Space report = space_text report

-- the members of an object, with the number of the format, the sizes of a volume, and its time added (this project)
unfoldable pub with_sizes : SuperReport → Members → Members
with_sizes report members =
    put (codes "time") (count report.time)
    (put (codes "inodes") (count report.geometry.last_inode)
    (put (codes "data_blocks") (count (report.geometry.zone_end - report.geometry.zone_start))
    (put (codes "fsize") (count report.block_count)
    (put (codes "isize") (count report.list_size)
    (put (codes "format") (count 1) members)))))

-- the members of an object, with the flags of a super-block added (this project)
unfoldable pub with_flags : SuperReport → Members → Members
with_flags report members =
    put (codes "ronly") (count (slice_index report.flags 3))
    (put (codes "fmod") (count (slice_index report.flags 2))
    (put (codes "ilock") (count (slice_index report.flags 1))
    (put (codes "flock") (count (slice_index report.flags 0)) members)))

-- the members of an object, with the free list added (this project)
unfoldable pub with_free : SuperReport → Members → Members
with_free report members =
    put (codes "free_fault") (fault_data report.fault)
    (put (codes "free_blocks") (count report.free_blocks)
    (put (codes "free") (counts report.free.items)
    (put (codes "nfree") (count report.free_count) members)))

-- the members of an object, with the i-number cache and the number of free i-nodes added (this project)
unfoldable pub with_cache : SuperReport → Members → Members
with_cache report members =
    put (codes "free_inodes") (count report.free_inodes)
    (put (codes "cache") (counts report.cache.items)
    (put (codes "ninode") (count report.cache_count) members))

-- part of the report on the super-block in this format: JSON is on one line (RFC 8259)
abbrev pub super_in : SuperReport → SuperPart → OutputForm → List ℕ
super_in report part forms.Text = part_text part report
super_in report part forms.Json = compact_text (part_data part report) ++ codes "\n"

-- the text of part of the report on the super-block of an image, in this format (this project)
abbrev pub IsSuperText : Edition → List ℕ → SuperPart → OutputForm → List ℕ → Type 0
IsSuperText edition image part form text = (report : SuperReport) × InspectsSuper edition image (Ok report) × (text ≡ super_in report part form)

-- the reason why the super-block of an image isn't shown (this project)
abbrev pub IsSuperFault : Edition → List ℕ → Fault → Type 0
IsSuperFault edition image fault = (why : InspectFault) × InspectsSuper edition image (Err why) × (fault ≡ uninspected why)
