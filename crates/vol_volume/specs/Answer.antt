-- The answers to queries.
use Rattle.std.specs.Prelude.{◌≡◌, ℕ, Bool, true, false, not, List, [], ◌∷◌, take, drop, Option, None, Some, Result, Ok, Err}
use Rattle.vol_dir.specs.Access.{grants, may_read}
use Rattle.vol_dir.specs.Tree.{Content, Body, Directory, Device, Node, Tree}
use Rattle.vol_dir.specs.Walk.{is_directory, walk}
use Rattle.vol_change.specs.Nodes.{node_at, names_at}
use Rattle.vol_volume.specs.Verdict.{first_of, then_others, of_node, body_tests}
use Rattle.vol_change.specs.Edits.{body_of}
use Rattle.vol_dir.specs.declared.cred.Cred.{Cred}
use Rattle.vol_dir.specs.declared.refusal.Refusal.{Refusal}
use Rattle.vol_dir.specs.declared.refusal.Refusal.TheVariants as refusals
use Rattle.vol_layout.specs.declared.mode.Kind.{Kind}
use Rattle.vol_layout.specs.declared.mode.Kind.TheVariants as kinds
use Rattle.vol_volume.specs.declared.queries.Query.{Query}
use Rattle.vol_volume.specs.declared.queries.Query.TheVariants as queries
use Rattle.vol_volume.specs.declared.queries.Reply.{Reply}
use Rattle.vol_volume.specs.declared.queries.Reply.TheVariants as replies
use Rattle.vol_volume.specs.declared.queries.Stat.{Stat}

-- the kind of a node with this content (manual section 5, file system)
abbrev pub kind_of_content : Content → Kind
kind_of_content (Body bytes) = kinds.Regular
kind_of_content (Directory names) = kinds.Directory
kind_of_content (Device type addresses) = kinds.Special

-- the attributes of node i (stat)
abbrev pub stat_of : ℕ → Node → Stat
stat_of i node = record {
  number = i;
  kind = kind_of_content node.content;
  permissions = node.permissions;
  links = node.links;
  uid = node.uid;
  gid = node.gid;
  size = node.size;
  accessed = node.accessed;
  modified = node.modified;
  changed = node.changed;
}

-- the checks of a node before its names are listed (Lions on access)
abbrev pub list_tests : Tree → Cred → ℕ → List (Bool × Refusal)
list_tests tree cred i =
    (not (is_directory (node_at tree i)), refusals.NotDirectory)
    ∷ (not (grants may_read cred (node_at tree i)), refusals.Access)
    ∷ []

-- the first refusal of a query that applies, other than NoMemory (this project)
unfoldable pub query_refusal : Tree → Query → Option Refusal
query_refusal tree (queries.Stat cred path) = then_others tree cred (path ∷ []) (of_node (walk tree cred path) (λ i. None))
query_refusal tree (queries.Read cred path offset len) =
    then_others tree cred (path ∷ []) (of_node (walk tree cred path) (λ i. first_of (body_tests tree may_read cred i)))
query_refusal tree (queries.List cred path) =
    then_others tree cred (path ∷ []) (of_node (walk tree cred path) (λ i. first_of (list_tests tree cred i)))

-- the reply for the node at the end of a walk, or the refusal of the walk (Lions on namei)
abbrev pub reply_at : Result ℕ Refusal → (ℕ → Reply) → Result Reply Refusal
reply_at (Err refusal) reply = Err refusal
reply_at (Ok i) reply = Ok (reply i)

-- at most `len` bytes of a body, starting at an offset; none at or past its end (Lions on readi)
abbrev pub read_bytes : List ℕ → ℕ → ℕ → List ℕ
read_bytes body offset len = take len (drop offset body)

-- the reply to a query that is not refused (stat, read; listing the names in ascending order of their bytes is this project's)
unfoldable pub reply_of : Tree → Query → Result Reply Refusal
reply_of tree (queries.Stat cred path) = reply_at (walk tree cred path) (λ i. replies.Stat (stat_of i (node_at tree i)))
reply_of tree (queries.Read cred path offset len) =
    reply_at (walk tree cred path) (λ i. replies.Bytes (read_bytes (body_of (node_at tree i).content) offset len))
reply_of tree (queries.List cred path) = reply_at (walk tree cred path) (λ i. replies.Names (names_at tree i))

-- the refusal, or else the reply (this project)
abbrev pub refused_or : Option Refusal → Result Reply Refusal → Result Reply Refusal
refused_or (Some refusal) reply = Err refusal
refused_or None reply = reply

-- the answer to a query (this project)
abbrev pub answer : Tree → Query → Result Reply Refusal
answer tree query = refused_or (query_refusal tree query) (reply_of tree query)

-- true if the reply to a query needs memory (this project)
abbrev pub takes_memory : Query → Bool
takes_memory (queries.Stat cred path) = false
takes_memory (queries.Read cred path offset len) = true
takes_memory (queries.List cred path) = true

-- a query returns its answer; if the reply needs memory and nothing else refuses the query, it may return NoMemory instead (this project)
abbrev pub Answers : Tree → Query → Result Reply Refusal → Type 0
Answers tree query (Err refusals.NoMemory) = (takes_memory query ≡ true) × (query_refusal tree query ≡ None)
Answers tree query result = result ≡ answer tree query
