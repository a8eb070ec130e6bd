-- Statements of the laws of a volume served read-only.
use Rattle.std.specs.Prelude.{◌≡◌, ◌≤◌, ℕ, ◌+◌, true, if◌then◌else◌, List, [], ◌∷◌, ◌++◌, Option, None, Some, Ok}
use Rattle.std.specs.List.{filter_map, flat_map, list_any, range_with_len}
use Rattle.fuse_words.specs.Replies.{data_message, dirent_bytes}
use Rattle.fuse_words.specs.declared.directory.EntryKind.{EntryKind}
use Rattle.fuse_words.specs.declared.operation.Operation.TheVariants as operations
use Rattle.fuse_words.specs.declared.request.Header.{Header}
use Rattle.vol_dir.specs.Walk.{is_plain, is_nil}
use Rattle.vol_layout.specs.declared.geometry.Geometry.{Geometry}
use Rattle.vol_dir.specs.Entries.{entry_at, slot_count}
use Rattle.vol_dir.specs.Names.{Names}
use Rattle.vol_dir.specs.Tree.{tree}
use Rattle.vol_serve.specs.Nodes.{names_in}
use Rattle.vol_serve.specs.Answers.{operation_reply}
use Rattle.vol_serve.specs.Attributes.{entry_kind_in}
use Rattle.vol_serve.specs.NodeNumbers.{i_number}

-- an entry in the reply to READDIR: its i-number, the offset of the next entry, its kind and its name (fuse_dirent)
pub record ListedEntry : Type 0 where
  pub number : ℕ
  pub next : ℕ
  pub kind : EntryKind
  pub name : List ℕ

-- the bytes of entries in the reply to READDIR, one after another (fuse_dirent)
abbrev pub bytes_of : List ListedEntry → List ℕ
bytes_of entries = flat_map (λ (entry : ListedEntry). dirent_bytes entry.number entry.next entry.kind entry.name) entries

-- the entry of a slot as it is listed, unless its name is empty or has a slash; the next entry is that of the next slot (fuse_dirent; this project)
abbrev pub listed_in : (ℕ → EntryKind) → ℕ → Option (List ℕ × ℕ) → Option ListedEntry
listed_in kind slot None = None
listed_in kind slot (Some entry) =
    if is_plain entry.0 then Some (record { number = entry.1; next = slot + 1; kind = kind entry.1; name = entry.0 }) else None

-- the entries of these slots, in their order (fuse_dirent)
abbrev pub listed_at : (ℕ → Option (List ℕ × ℕ)) → (ℕ → EntryKind) → List ℕ → List ListedEntry
listed_at entry kind slots = filter_map (λ (slot : ℕ). listed_in kind slot (entry slot)) slots

-- each entry of directory d once, in the order of the slots (manual section 5, directories)
abbrev pub entries_of : Geometry → List ℕ → ℕ → List ListedEntry
entries_of geometry image d =
    listed_at (entry_at geometry image d) (entry_kind_in (tree geometry image)) (range_with_len 0 (slot_count geometry image d))

-- the offset of the next entry after some entries from an offset: the last entry has it; the same offset, if there is no entry (fuse_dirent)
abbrev pub offset_after : ℕ → List ListedEntry → ℕ
offset_after offset [] = offset
offset_after offset (entry ∷ entries) = offset_after entry.next entries

-- READDIR of directory d, with room for any entry: at least 40 bytes (fuse_read_in, FUSE_DIRENT_SIZE)
pub record ReadDir (geometry : Geometry) (d : ℕ) : Type 0 where
  pub header : Header
  pub handle : ℕ
  pub size : ℕ
  pub opcode : header.opcode ≡ 28
  pub node : i_number geometry.edition header.node ≡ Some d
  pub room : 40 ≤ size

-- READDIRs, the first one from this offset and each later one from the last offset in the reply before, have replies with these entries
-- (fuse_read_in)
unfoldable pub AreReplied : (geometry : Geometry) → List ℕ → (d : ℕ) → ℕ → List (ReadDir geometry d) → List (List ListedEntry) → Type 0
AreReplied geometry image d offset [] replies = replies ≡ []
AreReplied geometry image d offset (request ∷ requests) [] = ⊥
AreReplied geometry image d offset (request ∷ requests) (reply ∷ replies) =
    (operation_reply geometry image request.header (operations.ReadDir request.handle offset request.size)
    ≡ Ok (data_message request.header.unique (bytes_of reply)))
    × AreReplied geometry image d (offset_after offset reply) requests replies

-- READDIRs from offset 0, each from the last offset in the reply before, give each entry exactly once, in order: the replies have the first entries, and
-- once a reply has none, they have had all (READDIR)
abbrev pub ListingsAreWhole : Type 0
ListingsAreWhole = (geometry : Geometry) (image : List ℕ) (d : ℕ) (names : Names) (requests : List (ReadDir geometry d))
    → names_in (tree geometry image) d ≡ Ok names
    → (replies : List (List ListedEntry)) × (rest : List ListedEntry) × AreReplied geometry image d 0 requests replies
    × (flat_map (λ (reply : List ListedEntry). reply) replies ++ rest ≡ entries_of geometry image d) × (list_any is_nil replies ≡ true → rest ≡ [])
