-- The graph of directories: the kind, link count and size of each i-number, and the entries in its slots. Rules 9 to 12 of soundness are stated for
-- it.
use Rattle.std.specs.Prelude.{◌≡◌, ◌≢◌, ℕ, ◌/◌, ◌%◌, ◌≤◌, ◌==◌, false, if◌then◌else◌, List, [], map, Option, None, Some}
use Rattle.std.specs.List.{count_by, sum_by, range_with_len, list_any}
use Rattle.vol_layout.specs.Inode.{inode_of}
use Rattle.vol_file.specs.Rules.{size_of, kind_at}
use Rattle.vol_dir.specs.Entries.{entry_at}
use Rattle.vol_dir.specs.Names.{dot, dot_dot, is_dots}
use Rattle.vol_dir.specs.Tree.{is_number}
use Rattle.vol_judge.specs.Directories.{is_for}
use Rattle.vol_layout.specs.declared.geometry.Geometry.{Geometry}
use Rattle.vol_layout.specs.declared.mode.Kind.{Kind}
use Rattle.vol_layout.specs.declared.mode.Kind.TheVariants as kinds

-- the graph of directories (dcheck)
pub record Graph : Type 0 where
  pub kind : ℕ → Kind
  pub links : ℕ → ℕ
  pub size : ℕ → ℕ
  pub entry : ℕ → ℕ → Option (List ℕ × ℕ)

-- the entry in slot s of an i-number of the given kind; only directories have slots (manual section 5, directories)
abbrev pub entry_by : Kind → Geometry → List ℕ → ℕ → ℕ → Option (List ℕ × ℕ)
entry_by kinds.Directory geometry image d s = entry_at geometry image d s
entry_by kinds.Free geometry image d s = None
entry_by kinds.Regular geometry image d s = None
entry_by kinds.Special geometry image d s = None
entry_by kinds.Odd geometry image d s = None

-- the kind of an i-number, free if it is outside the volume (manual section 5, file system)
abbrev pub kind_in : Geometry → List ℕ → ℕ → Kind
kind_in geometry image i = if is_number geometry i then kind_at geometry image i else kinds.Free

-- the graph of an image (dcheck)
abbrev pub graph_of : Geometry → List ℕ → Graph
graph_of geometry image = record {
  kind = kind_in geometry image;
  links = λ i. (inode_of geometry.edition image i).links;
  size = size_of geometry image;
  entry = λ d s. entry_by (kind_in geometry image d) geometry image d s;
}

-- the graph is that of a volume whose last i-number is `last`: i-numbers that aren't free are from 1 to `last`, and only directories have entries,
-- none past their size (this project)
pub record IsGraphWithin (graph : Graph) (last : ℕ) : Type 0 where
  pub numbers : (i : ℕ) → graph.kind i ≢ kinds.Free → (1 ≤ i) × (i ≤ last)
  pub slots : (d s : ℕ) → graph.size d / 16 ≤ s → graph.entry d s ≡ None
  pub directories : (d s : ℕ) → graph.kind d ≢ kinds.Directory → graph.entry d s ≡ None

-- slot s of d has an entry for i, with a name other than `.` and `..` (dcheck, ncheck)
abbrev pub Leads : Graph → ℕ → ℕ → ℕ → Type 0
Leads graph d s i = (name : List ℕ) × (graph.entry d s ≡ Some (name, i)) × (is_dots name ≡ false)

-- i can be reached from the root by entries other than `.` and `..` (ncheck)
pub data IsBelow (graph : Graph) (root : ℕ) : ℕ → Type 0 where
  at_root : IsBelow graph root root
  below : (d s i : ℕ) → IsBelow graph root d → Leads graph d s i → IsBelow graph root i

-- the number of slots of d with an entry for i (dcheck)
abbrev pub counted_in : Graph → ℕ → ℕ → ℕ
counted_in graph i d = count_by (is_for i) (map (graph.entry d) (range_with_len 0 (graph.size d / 16)))

-- the number of entries for i in all directories up to the last i-number (dcheck)
unfoldable pub counted : Graph → ℕ → ℕ → ℕ
counted graph last i = sum_by (counted_in graph i) (range_with_len 1 last)

-- rules 9 to 12, for a graph with the given root and last i-number (dcheck, ncheck)
pub record IsGraphSound (graph : Graph) (root last : ℕ) : Type 0 where
  pub whole : (d : ℕ) → graph.kind d ≡ kinds.Directory → graph.size d % 16 ≡ 0
  pub named : (d s i : ℕ) (name : List ℕ) → graph.entry d s ≡ Some (name, i) → (name ≢ []) × (list_any (λ c. c == 47) name ≡ false)
  pub allocated : (d s i : ℕ) (name : List ℕ) → graph.entry d s ≡ Some (name, i) → (root ≤ i) × (graph.kind i ≢ kinds.Free)
  pub once : (d s t i j : ℕ) (name : List ℕ) → graph.entry d s ≡ Some (name, i) → graph.entry d t ≡ Some (name, j) → s ≡ t
  pub itself : (d : ℕ) → graph.kind d ≡ kinds.Directory → (s : ℕ) × (graph.entry d s ≡ Some (dot, d))
  pub of_root : (s : ℕ) × (graph.entry root s ≡ Some (dot_dot, root))
  pub parent : (d : ℕ) → graph.kind d ≡ kinds.Directory → d ≢ root
      → (s : ℕ) × (e : ℕ) × (t : ℕ) × (graph.entry d s ≡ Some (dot_dot, e)) × Leads graph e t d
  pub reached : (d : ℕ) → graph.kind d ≡ kinds.Directory → IsBelow graph root d
  pub one : (d e s f t : ℕ) → graph.kind d ≡ kinds.Directory → Leads graph e s d → Leads graph f t d → (e ≡ f) × (s ≡ t)
  pub root_none : (e s : ℕ) → Leads graph e s root → ⊥
  pub counts : (i : ℕ) → graph.kind i ≢ kinds.Free → graph.links i ≡ counted graph last i
  pub linked : (i : ℕ) → root ≤ i → graph.kind i ≢ kinds.Free → 1 ≤ graph.links i
