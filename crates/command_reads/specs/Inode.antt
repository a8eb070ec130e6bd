-- The report on an i-node.
use Rattle.std.specs.Prelude.{ℕ, ◌/◌, ◌%◌, false, List, [], ◌∷◌, ◌++◌, map, take, codes, decimal, ◌≡◌, Result, Ok, Err}
use Rattle.serde_json.specs.Data.{Data, string, array, object, member, no_members, put, Members}
use Rattle.serde_json.specs.View.{items_of}
use Rattle.serde_json.specs.Written.{compact_text}
use Rattle.vol_layout.specs.Inode.{address_count, device_of, kind_of, permissions_of}
use Rattle.vol_layout.specs.declared.mode.Kind.{Kind}
use Rattle.vol_layout.specs.declared.mode.Kind.TheVariants as kinds
use Rattle.vol_inspect.specs.Texts.{kind_name, inode_text}
use Rattle.vol_inspect.specs.declared.inode_report.InodeReport.{InodeReport}
use Rattle.vol_listing.specs.Json.{count, octal}
use Rattle.vol_listing.specs.ListingJson.{device_members}
use Rattle.vol_listing.specs.Rows.{special_sort, special_word}
use Rattle.command_reads.specs.Json.{between_braces, counts, count_or_null, extent_data}
use Rattle.vol_inspect.specs.Inspect.{InspectsInode}
use Rattle.vol_inspect.specs.declared.fault.InspectFault.{InspectFault}
use Rattle.vol_layout.specs.declared.edition.Edition.{Edition}
use Rattle.command_faults.specs.declared.fault.Fault.{Fault}
use Rattle.command_reads.specs.Faults.{uninspected}
use Rattle.command_reads.specs.Node.{node_fault}
use Rattle.command_reads.specs.Print.{Sights, plainly}
use Rattle.command_terms.specs.declared.looks.OutputForm.{OutputForm}
use Rattle.command_reads.specs.declared.node.NodeFault.{NodeFault}
use Rattle.command_terms.specs.declared.looks.OutputForm.TheVariants as forms

-- the word for a kind of i-node; that of a special file is by its type (this project)
abbrev pub word_of : Kind → ℕ → List ℕ
word_of kinds.Free type = kind_name kinds.Free
word_of kinds.Regular type = kind_name kinds.Regular
word_of kinds.Directory type = kind_name kinds.Directory
word_of kinds.Special type = special_word type
word_of kinds.Odd type = kind_name kinds.Odd

-- the word for the kind of an i-node with this mode, whose highest four bits are its type (stat.h)
abbrev pub kind_word : Edition → ℕ → List ℕ
kind_word edition mode = word_of (kind_of edition mode) (mode / 4096)

-- the lines of an i-node of this kind about its device: of a special file the major and the minor number, the high and the low byte of the device's number
-- (stat.h)
abbrev pub device_lines : Kind → ℕ → List ℕ
device_lines kinds.Free device = []
device_lines kinds.Regular device = []
device_lines kinds.Directory device = []
device_lines kinds.Special device = codes "major " ++ (decimal (device / 256) ++ (codes "\nminor " ++ (decimal (device % 256) ++ codes "\n")))
device_lines kinds.Odd device = []

-- the members of an i-node of this kind, with those of its device in front: a special file of this type has those that it has in a listing (this project)
abbrev pub after_device : Kind → ℕ → ℕ → Members → Members
after_device kinds.Free type device others = others
after_device kinds.Regular type device others = others
after_device kinds.Directory type device others = others
after_device kinds.Special type device others = device_members (special_sort type device) others
after_device kinds.Odd type device others = others

-- an i-node: its fields by their names in the manual, its kind, its permissions, its device and its extents; the sixth edition has no time of change
-- (this project)
unfoldable pub inode_data : InodeReport → Data
inode_data report =
    object (member (codes "addr") (counts (take (address_count report.edition) report.node.addresses))
    (member (codes "atime") (count report.node.accessed)
    (member (codes "ctime") (count_or_null report.node.changed)
    (member (codes "extents") (array (items_of (map extent_data report.extents.items)))
    (member (codes "format") (count 1)
    (member (codes "gid") (count report.node.gid)
    (member (codes "ino") (count report.number)
    (member (codes "kind") (string (kind_word report.edition report.node.mode.bits))
    (member (codes "links") (count report.node.links)
    (after_device (kind_of report.edition report.node.mode.bits) (report.node.mode.bits / 4096) (device_of report.node)
    (member (codes "mode") (octal report.node.mode.bits)
    (member (codes "mtime") (count report.node.modified)
    (member (codes "permissions") (octal (permissions_of report.node.mode.bits))
    (member (codes "size") (count report.node.size)
    (member (codes "uid") (count report.node.uid) no_members)))))))))))))))

-- an i-node as JSON, on one line (RFC 8259)
abbrev pub inode_json : InodeReport → List ℕ
inode_json report = compact_text (inode_data report) ++ codes "\n"

-- the members of an i-node that come before its extents; the sixth edition has no time of change (manual section 5, file system)
unfoldable pub members_front : InodeReport → Members
members_front report =
    member (codes "addr") (counts (take (address_count report.edition) report.node.addresses))
    (member (codes "atime") (count report.node.accessed)
    (member (codes "ctime") (count_or_null report.node.changed) no_members))

-- the members of an i-node that come after its extents (manual section 5, file system)
unfoldable pub members_back : InodeReport → Members
members_back report =
    member (codes "format") (count 1)
    (member (codes "gid") (count report.node.gid)
    (member (codes "ino") (count report.number)
    (member (codes "kind") (string (kind_word report.edition report.node.mode.bits))
    (member (codes "links") (count report.node.links)
    (after_device (kind_of report.edition report.node.mode.bits) (report.node.mode.bits / 4096) (device_of report.node)
    (member (codes "mode") (octal report.node.mode.bits)
    (member (codes "mtime") (count report.node.modified)
    (member (codes "permissions") (octal (permissions_of report.node.mode.bits))
    (member (codes "size") (count report.node.size)
    (member (codes "uid") (count report.node.uid) no_members))))))))))

-- the members of an object, with the number of the format and the numbers of an i-node that come after its extents added (this project)
unfoldable pub with_numbers : InodeReport → Members → Members
with_numbers report members =
    put (codes "uid") (count report.node.uid)
    (put (codes "size") (count report.node.size)
    (put (codes "mtime") (count report.node.modified)
    (put (codes "links") (count report.node.links)
    (put (codes "ino") (count report.number)
    (put (codes "gid") (count report.node.gid)
    (put (codes "format") (count 1) members))))))

-- the members of an object, with the kind, the mode and the permissions of an i-node added (this project)
unfoldable pub with_words : InodeReport → Members → Members
with_words report members =
    put (codes "permissions") (octal (permissions_of report.node.mode.bits))
    (put (codes "mode") (octal report.node.mode.bits)
    (put (codes "kind") (string (kind_word report.edition report.node.mode.bits)) members))

-- the members of an object, with the device of an i-node of this kind added (this project)
abbrev pub with_special : Kind → ℕ → Members → Members
with_special kinds.Free device members = members
with_special kinds.Regular device members = members
with_special kinds.Directory device members = members
with_special kinds.Special device members = put (codes "minor") (count (device % 256)) (put (codes "major") (count (device / 256)) members)
with_special kinds.Odd device members = members

-- the text of the report in front of its extents (RFC 8259)
unfoldable pub inode_front : InodeReport → List ℕ
inode_front report = 123 ∷ (between_braces false (members_front report) ++ codes ",\"extents\":[")

-- the text of the report after its extents (RFC 8259)
unfoldable pub inode_back : InodeReport → List ℕ
inode_back report = codes "]," ++ (between_braces false (members_back report) ++ codes "}\n")

-- the lines of an i-node, the last of a special file about its device (this project)
abbrev pub inode_lines : InodeReport → List ℕ
inode_lines report = inode_text report ++ device_lines (kind_of report.edition report.node.mode.bits) (device_of report.node)

-- a report on an i-node in this format (this project)
abbrev pub inode_in : InodeReport → OutputForm → List ℕ
inode_in report forms.Text = inode_lines report
inode_in report forms.Json = inode_json report

-- the text of the report on an i-node of an image, in this format (this project)
abbrev pub IsInodeText : Edition → List ℕ → ℕ → OutputForm → List ℕ → Type 0
IsInodeText edition image number form text =
    (report : InodeReport) × InspectsInode edition image number (Ok report) × (text ≡ inode_in report form)

-- the reason why an i-node of an image isn't shown (this project)
abbrev pub IsInodeFault : Edition → List ℕ → ℕ → Fault → Type 0
IsInodeFault edition image number fault = (why : InspectFault) × InspectsInode edition image number (Err why) × (fault ≡ uninspected why)

-- what the look at an i-node may come to, given its number or the reason why there is none (this project)
abbrev pub found : Edition → List ℕ → OutputForm → Result ℕ NodeFault → Sights
found edition image form (Ok number) = plainly (IsInodeText edition image number form) (IsInodeFault edition image number)
found edition image form (Err why) = plainly (λ text. ⊥) (λ fault. fault ≡ node_fault why)
