-- The text of the reports.
use Rattle.std.specs.Prelude.{ℕ, ◌+◌, ◌-◌, ◌%◌, ◌==◌, nat_lt, Bool, true, false, if◌then◌else◌, List, [], ◌∷◌, ◌++◌, codes, decimal, length, take, Option, None, Some, slice_index}
use Rattle.std.specs.List.{flat_map, range_with_len}
use Rattle.std.specs.Fmt.{digits}
use Rattle.vol_layout.specs.Inode.{kind_of, permissions_of, address_count}
use Rattle.vol_layout.specs.declared.mode.Kind.{Kind}
use Rattle.vol_layout.specs.declared.mode.Kind.TheVariants as kinds
use Rattle.vol_inspect.specs.declared.extent.Extent.{Extent}
use Rattle.vol_free.specs.FreeWalk.{fault_word}
use Rattle.vol_free.specs.declared.free_walk.FreeFault.{FreeFault}
use Rattle.vol_inspect.specs.declared.super_report.SuperReport.{SuperReport}
use Rattle.vol_inspect.specs.declared.free_chain.ChainReport.{ChainReport}
use Rattle.vol_inspect.specs.declared.free_chain.FreeLink.{FreeLink}
use Rattle.vol_inspect.specs.declared.inode_report.InodeReport.{InodeReport}

-- a number in octal digits, with a zero before them (this project)
abbrev pub octal_text : ℕ → List ℕ
octal_text n = 48 ∷ digits 8 false n

-- numbers with a space before each (this project)
unfoldable pub all_spaced : List ℕ → List ℕ
all_spaced numbers = flat_map (λ n. 32 ∷ decimal n) numbers

-- the word for a kind of i-node (this project)
abbrev pub kind_name : Kind → List ℕ
kind_name kinds.Free = codes "free"
kind_name kinds.Regular = codes "file"
kind_name kinds.Directory = codes "directory"
kind_name kinds.Special = codes "special"
kind_name kinds.Odd = codes "odd"

-- the first and the last of a range of numbers, or the only one (this project)
abbrev pub range_text : ℕ → ℕ → List ℕ
range_text first count = if nat_lt count 2 then decimal first else decimal first ++ (codes "-" ++ decimal (first + (count - 1)))

-- the remark on numbers outside the data blocks (this project)
abbrev pub inside_text : Bool → List ℕ
inside_text true = []
inside_text false = codes ", no data block"

-- the part of an indirect block's line about its levels and its first logical block (this project)
abbrev pub below_text : ℕ → ℕ → List ℕ
below_text level logical = codes "pointers, level " ++ (decimal level ++ (codes ", from logical " ++ decimal logical))

-- the blocks of an extent, and the logical blocks at or below them (this project)
abbrev pub extent_text : Extent → List ℕ
extent_text e =
    if e.level == 0 then
    codes "block " ++ (range_text e.block e.count ++ (codes ": logical " ++ (range_text e.logical e.count ++ inside_text e.inside)))
    else
    codes "block " ++ (decimal e.block ++ (codes ": " ++ (below_text e.level e.logical ++ inside_text e.inside)))

-- extents, each on a line (this project)
unfoldable pub extents_text : List Extent → List ℕ
extents_text extents = flat_map (λ e. extent_text e ++ codes "\n") extents

-- the lines of the fields before the addresses (this project)
abbrev pub fields_text : InodeReport → List ℕ
fields_text report =
    codes "i-node " ++ (decimal report.number
    ++ (codes "\nmode " ++ (octal_text report.node.mode.bits ++ (codes " " ++ (kind_name (kind_of report.edition report.node.mode.bits)
    ++ (codes " " ++ (octal_text (permissions_of report.node.mode.bits)
    ++ (codes "\nnlink " ++ (decimal report.node.links
    ++ (codes "\nuid " ++ (decimal report.node.uid
    ++ (codes "\ngid " ++ (decimal report.node.gid
    ++ (codes "\nsize " ++ (decimal report.node.size
    ++ codes "\naddr")))))))))))))))

-- the lines of the times; the sixth edition has two (this project)
abbrev pub times_text : ℕ → ℕ → Option ℕ → List ℕ
times_text accessed modified None =
    codes "\natime " ++ (decimal accessed ++ (codes "\nmtime " ++ (decimal modified ++ codes "\n")))
times_text accessed modified (Some changed) =
    codes "\natime " ++ (decimal accessed ++ (codes "\nmtime " ++ (decimal modified ++ (codes "\nctime " ++ (decimal changed ++ codes "\n")))))

-- an i-node: its fields by their names in the manual, and its extents (this project)
abbrev pub inode_text : InodeReport → List ℕ
inode_text report =
    fields_text report ++ (all_spaced (take (address_count report.edition) report.node.addresses)
    ++ (times_text report.node.accessed report.node.modified report.node.changed ++ extents_text report.extents.items))

-- the line of the fault that ended the walk over the free list, with its count or number (icheck)
abbrev pub free_fault_line : Option (FreeFault × ℕ) → List ℕ
free_fault_line None = []
free_fault_line (Some fault) = fault_word fault.0 ++ (codes " " ++ (decimal fault.1 ++ codes "\n"))

-- the lines of the counts, up to the numbers of the free list (this project)
abbrev pub sizes_text : SuperReport → List ℕ
sizes_text report =
    codes "isize " ++ (decimal report.list_size
    ++ (codes "\nfsize " ++ (decimal report.block_count
    ++ (codes "\nnfree " ++ decimal report.free_count))))

-- the lines of the flags and of the time, after the i-number cache (this project)
abbrev pub guards_text : SuperReport → List ℕ
guards_text report =
    codes "\nflock " ++ (decimal (slice_index report.flags 0)
    ++ (codes "\nilock " ++ (decimal (slice_index report.flags 1)
    ++ (codes "\nfmod " ++ (decimal (slice_index report.flags 2)
    ++ (codes "\nronly " ++ (decimal (slice_index report.flags 3)
    ++ (codes "\ntime " ++ (decimal report.time
    ++ codes "\n")))))))))

-- the lines of the totals: data blocks and i-nodes, and how many of them are free (this project)
abbrev pub counts_text : SuperReport → List ℕ
counts_text report =
    codes "data blocks " ++ (decimal (report.geometry.zone_end - report.geometry.zone_start)
    ++ (codes ", free " ++ (decimal report.free_blocks
    ++ (codes "\ni-nodes " ++ (decimal report.geometry.last_inode
    ++ (codes ", free " ++ (decimal report.free_inodes
    ++ codes "\n")))))))

-- the beginning of a line of an array with this name: the index of the first number on it (this project)
abbrev pub line_head : List ℕ → ℕ → List ℕ
line_head name k = codes "\n" ++ (name ++ (codes "[" ++ (decimal k ++ codes "]")))

-- number `k` of an array, ten on a line (this project)
abbrev pub array_item : List ℕ → ℕ → ℕ → List ℕ
array_item name n k = (if k % 10 == 0 then line_head name k else []) ++ (32 ∷ decimal n)

-- the numbers of an array, ten on a line after the index of the first (this project)
unfoldable pub array_text : List ℕ → List ℕ → List ℕ
array_text name numbers = flat_map (λ k. array_item name (slice_index numbers k) k) (range_with_len 0 (length numbers))

-- the lines of the counts and of the free array (this project)
abbrev pub free_text : SuperReport → List ℕ
free_text report = sizes_text report ++ array_text (codes "free") report.free.items

-- the lines of the i-number cache (this project)
abbrev pub cache_text : SuperReport → List ℕ
cache_text report = codes "\nninode " ++ decimal report.cache_count ++ array_text (codes "inode") report.cache.items

-- the lines of the totals and of the fault (this project)
abbrev pub found_text : SuperReport → List ℕ
found_text report = counts_text report ++ free_fault_line report.fault

-- the super-block: its fields by their names in filsys.h, and the totals (this project)
abbrev pub super_text : SuperReport → List ℕ
super_text report = free_text report ++ (cache_text report ++ (guards_text report ++ found_text report))

-- the block that contains a link of the free list's chain: the super-block, or another block (this project)
abbrev pub link_where : ℕ → List ℕ
link_where block = if block == 1 then codes "super-block" else codes "block " ++ decimal block

-- the lines of a link: its block and count, and its numbers (this project)
abbrev pub link_text : FreeLink → List ℕ
link_text link =
    link_where link.block ++ (codes ": nfree " ++ (decimal link.count ++ (array_text (codes "free") link.numbers.items ++ codes "\n")))

-- the lines of links (this project)
unfoldable pub links_text : List FreeLink → List ℕ
links_text links = flat_map link_text links

-- the line of the totals: the numbers of links and of free blocks (this project)
abbrev pub chain_totals : ChainReport → List ℕ
chain_totals report = codes "links " ++ (decimal (length report.links.items) ++ (codes ", free blocks " ++ (decimal report.free_blocks ++ codes "\n")))

-- the chain of the free list: its links, the fault that ends it, and the totals (this project)
abbrev pub chain_text : ChainReport → List ℕ
chain_text report = links_text report.links.items ++ (free_fault_line report.fault ++ chain_totals report)
