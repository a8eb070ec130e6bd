-- Directory entries for READDIR.
use Rattle.std.specs.Prelude.{ℕ, zero, suc, ◌+◌, ◌-◌, nat_le, if◌then◌else◌, List, [], ◌++◌, Option, None, Some, Result, Ok}
use Rattle.fuse_words.specs.Replies.{dirent_bytes, dirent_size}
use Rattle.fuse_words.specs.declared.directory.EntryKind.{EntryKind}
use Rattle.vol_dir.specs.Walk.{is_plain}
use Rattle.vol_layout.specs.declared.geometry.Geometry.{Geometry}
use Rattle.vol_dir.specs.Entries.{entry_at, slot_count}
use Rattle.vol_dir.specs.Tree.{tree}
use Rattle.vol_serve.specs.Nodes.{after_ok, names_in}
use Rattle.vol_serve.specs.declared.nodes.fault.NodeFault.{NodeFault}
use Rattle.vol_serve.specs.Attributes.{entry_kind_in}

-- the entry of slot `slot`, unless its name is empty or has a slash, followed by further entries, in at most `room` bytes: the first entry without
-- room ends the listing (fuse_dirent)
abbrev pub listed : (ℕ → EntryKind) → ℕ → ℕ → Option (List ℕ × ℕ) → (ℕ → List ℕ) → List ℕ
listed kind slot room None more = more room
listed kind slot room (Some entry) more =
    if is_plain entry.0 then
    (if nat_le (dirent_size entry.0) room then dirent_bytes entry.1 (slot + 1) (kind entry.1) entry.0 ++ more (room - dirent_size entry.0)
    else [])
    else more room

-- the entries of `count` slots, starting at `slot`, in at most `room` bytes; the offset of each entry is the number of the next slot, where the
-- kernel continues to read (fuse_dirent; this project)
unfoldable pub entries_from : (ℕ → Option (List ℕ × ℕ)) → (ℕ → EntryKind) → ℕ → ℕ → ℕ → List ℕ
entries_from entry kind slot room zero = []
entries_from entry kind slot room (suc count) =
    listed kind slot room (entry slot) (λ left. entries_from entry kind (slot + 1) left count)

-- the entries of directory d, starting at slot `from`, in at most `room` bytes, or the fault if there are none (READDIR)
abbrev pub listing_in : Geometry → List ℕ → ℕ → ℕ → ℕ → Result (List ℕ) NodeFault
listing_in geometry image d from room =
    after_ok (names_in (tree geometry image) d) (λ names.
    Ok (entries_from (entry_at geometry image d) (entry_kind_in (tree geometry image)) from room (slot_count geometry image d - from)))
