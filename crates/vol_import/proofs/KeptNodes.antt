-- The nodes that paths led to before, in a tree that has grown.
use Rattle.std.proofs.Common.{◌≡◌, ◌≢◌, ◌∙◌, sym, ap, subst, refl, ℕ, ◌%◌, Bool, true, false, cond, List, [], ◌∷◌, Option, None, Some, Result, Ok, Err, arith}
use Rattle.std.specs.List.{list_any}
use Rattle.std.specs.Option.{is_some, option_map, unwrap_or}
use Rattle.vol_layout.specs.Geometry.{geometry_of}
use Rattle.vol_layout.specs.Ids.{is_bad_id}
use Rattle.vol_layout.specs.Inode.{inode_of, kind_of}
use Rattle.vol_layout.specs.BlockPointers.{mode_of}
use Rattle.vol_layout.specs.declared.edition.Edition.{Edition}
use Rattle.vol_layout.specs.declared.geometry.Geometry.{Geometry}
use Rattle.vol_layout.specs.declared.mode.Kind.TheVariants as kinds
use Rattle.vol_dir.specs.Access.{user}
use Rattle.vol_dir.specs.Tree.{Content, Body, Directory, Device, Node, Tree, State, content_of, is_number, node_of, node_with, tree}
use Rattle.vol_dir.specs.Walk.{has_zero, is_directory, map_of, walk}
use Rattle.vol_dir.specs.declared.refusal.Refusal.{Refusal}
use Rattle.vol_dir.specs.declared.refusal.Refusal.TheVariants as refusals
use Rattle.vol_judge.specs.Sound.{IsSound}
use Rattle.vol_judge.proofs.Parts.{sound_entries, sound_files, sound_fits}
use Rattle.vol_change.specs.Nodes.{no_node, node_at}
use Rattle.vol_volume.specs.Answer.{answer, kind_of_content, query_refusal, refused_or, reply_at, reply_of, stat_of}
use Rattle.vol_volume.specs.Verdict.{of_node}
use Rattle.vol_volume.specs.Volume.{Mounted, mounted, reads_as}
use Rattle.vol_volume.specs.declared.calls.Call.{Call}
use Rattle.vol_volume.specs.declared.queries.Query.TheVariants as queries
use Rattle.vol_volume.specs.declared.queries.Reply.TheVariants as replies
use Rattle.vol_volume.specs.declared.queries.Stat.{Stat}
use Rattle.vol_import.specs.MadeMembers.{KeepsNode, KeepsNodes}
use Rattle.vol_batch.specs.Batch.{AreMade}
use Rattle.vol_batch.proofs.MadeNames.{LeadsTo, Grows, KeepsOwners, grown_path, owner_told}
use Rattle.vol_batch.proofs.MadePaths.{read_answered, stat_answered}
use Rattle.vol_import.proofs.MemberCalls.{IsRun}
use Rattle.vol_volume.proofs.TreeWalks.{node_there}

-- the permissions of a node have twelve bits
abbrev pub AreSmall : Tree → Type 0
AreSmall tree = (x : ℕ) (node : Node) → tree.nodes x ≡ Some node → node.permissions % 4096 ≡ node.permissions

pub small_bits : (geometry : Geometry) (image : List ℕ) → AreSmall (tree geometry image)
unfolding tree node_of
small_bits geometry image x node = by (is_number geometry x) (content_of geometry image x (kind_of geometry.edition (mode_of geometry image x)))
  where
    twice : (bits : ℕ) → bits % 4096 % 4096 ≡ bits % 4096
    twice bits = omega arith

    by : (number : Bool) (content : Option Content)
        → cond number (option_map (node_with (inode_of geometry.edition image x)) content) None ≡ Some node → node.permissions % 4096 ≡ node.permissions
    by false content is = absurd (cc)
    by true None is = absurd (cc)
    by true (Some content) is =
        let same : node_with (inode_of geometry.edition image x) content ≡ node = cc in
        subst (λ (n : Node). n.permissions % 4096 ≡ n.permissions) same (twice (inode_of geometry.edition image x).mode.bits)

-- a path whose Stat is answered leads to a node
pub record IsTold (tree : Tree) (path : List ℕ) (told : Stat) : Type 0 where
  pub number : ℕ
  pub walked : walk tree user path ≡ Ok number
  pub plain : list_any has_zero (path ∷ []) ≡ false
  pub is : told ≡ stat_of number (node_at tree number)

pub stat_told : (tree : Tree) (path : List ℕ) (told : Stat) → answer tree (queries.Stat user path) ≡ Ok (replies.Stat told) → IsTold tree path told
unfolding query_refusal reply_of
stat_told tree path told = by (is_bad_id tree.geometry.edition 0 0) (list_any has_zero (path ∷ [])) (walk tree user path) refl refl
  where
    by : (bad zero : Bool) (walked : Result ℕ Refusal) → list_any has_zero (path ∷ []) ≡ zero → walk tree user path ≡ walked
        → refused_or (cond bad (Some refusals.BadId) (cond zero (Some refusals.Invalid) (of_node walked (λ i. None))))
        (reply_at walked (λ i. replies.Stat (stat_of i (node_at tree i)))) ≡ Ok (replies.Stat told) → IsTold tree path told
    by true zero walked z w e = absurd (cc)
    by false true walked z w e = absurd (cc)
    by false false (Err refusal) z w e = absurd (cc)
    by false false (Ok i) z w e =
        let same : stat_of i (node_at tree i) ≡ told = cc in
        record { number = i; walked = w; plain = z; is = sym same }

-- a content with a directory's map has the kind of a directory
pub directory_kind : (content : Content) → is_some (map_of content) ≡ true → kind_of_content content ≡ kinds.Directory
directory_kind (Directory names) e = refl
directory_kind (Body bytes) e = absurd (cc)
directory_kind (Device type addresses) e = absurd (cc)

other_kind : (content : Content) → kind_of_content content ≢ kinds.Directory → is_some (map_of content) ≡ false
other_kind (Directory names) other = absurd (other refl)
other_kind (Body bytes) other = refl
other_kind (Device type addresses) other = refl

regular_body : (content : Content) → kind_of_content content ≡ kinds.Regular → (bytes : List ℕ) × (content ≡ Body bytes)
regular_body (Directory names) e = absurd (cc)
regular_body (Body bytes) e = (bytes, refl)
regular_body (Device type addresses) e = absurd (cc)

-- a node that a path leads to is kept in a grown tree
node_kept : (old new : Tree) (path : List ℕ) (node : Node) → Grows old new → KeepsOwners old new → list_any has_zero (path ∷ []) ≡ false
    → (leads : LeadsTo old path node) → KeepsNode old new path (stat_of leads.number node)
node_kept old new path node grows owners plain leads =
    let i = leads.number in
    let stays = (grows.kept i).1 node leads.stands in
    let next = stays.0 in
    let owner = owners i node leads.stands in
    let both : Some next ≡ Some owner.0 = sym stays.1 ∙ owner.1 in
    let same : next ≡ owner.0 = cc in
    let owned : owner_told next ≡ owner_told node = ap owner_told same ∙ owner.2 in
    let here : LeadsTo new path next = record { number = i; walked = grown_path old new path i grows leads.walked; stands = stays.1 } in
    let kept = λ (other : kind_of_content node.content ≢ kinds.Directory). stays.3 (other_kind node.content other) in
    record {
      stat = stat_of i next;
      found = stat_answered new path next plain here;
      number = refl;
      kind = elim (is_directory node) as (λ b. is_directory node ≡ b → kind_of_content next.content ≡ kind_of_content node.content) [
        | true ↦ λ e. directory_kind next.content (stays.2 ∙ e) ∙ sym (directory_kind node.content e)
        | false ↦ λ e. ap kind_of_content (ap (λ (f : Content × ℕ × ℕ × ℕ × ℕ × ℕ). f.0) (stays.3 e))
      ] refl;
      permissions = ap (λ (o : ℕ × ℕ × ℕ). o.0) owned;
      uid = ap (λ (o : ℕ × ℕ × ℕ). o.1) owned;
      gid = ap (λ (o : ℕ × ℕ × ℕ). o.2) owned;
      size = λ other. ap (λ (f : Content × ℕ × ℕ × ℕ × ℕ × ℕ). f.4) (kept other);
      modified = λ other. ap (λ (f : Content × ℕ × ℕ × ℕ × ℕ × ℕ). f.5) (kept other);
      read = λ regular offset len.
          let held = regular_body node.content regular in
          let other : is_some (map_of node.content) ≡ false = ap (λ (c : Content). is_some (map_of c)) held.1 in
          let content = ap (λ (f : Content × ℕ × ℕ × ℕ × ℕ × ℕ). f.0) (stays.3 other) ∙ held.1 in
          read_answered new path held.0 offset len next plain here content ∙ sym (read_answered old path held.0 offset len node plain leads held.1);
    }

-- if each walk leads to a node, all nodes are kept in a grown tree
nodes_kept : (old new : Tree) → Grows old new → KeepsOwners old new → ((path : List ℕ) (i : ℕ) → walk old user path ≡ Ok i → old.nodes i ≢ None)
    → KeepsNodes old new
nodes_kept old new grows owners there path told is =
    let found = stat_told old path told is in
    by (old.nodes found.number) found refl (there path found.number found.walked)
  where
    by : (node : Option Node) (found : IsTold old path told) → old.nodes found.number ≡ node → old.nodes found.number ≢ None → KeepsNode old new path told
    by None found stands some = absurd (some stands)
    by (Some node) found stands some =
        let leads : LeadsTo old path node = record { number = found.number; walked = found.walked; stands = stands } in
        let same : told ≡ stat_of found.number node =
        found.is ∙ ap (λ (n : Option Node). stat_of found.number (unwrap_or n no_node)) stands in
        subst (KeepsNode old new path) (sym same) (node_kept old new path node grows owners found.plain leads)

-- a tree keeps its own nodes
nodes_same : (tree : Tree) → KeepsNodes tree tree
nodes_same tree path told is = record {
  stat = told;
  found = is;
  number = refl;
  kind = refl;
  permissions = refl;
  uid = refl;
  gid = refl;
  size = λ other. refl;
  modified = λ other. refl;
  read = λ regular offset len. refl;
}

-- calls that a sound volume accepts keep the nodes of its tree if they keep all owners
pub nodes_left : (edition : Edition) (image bytes : List ℕ) (calls : List Call) (volume : Mounted) → IsSound edition image
    → AreMade (mounted edition image) calls volume → IsRun (reads_as edition image) calls (reads_as edition bytes)
    → Grows (reads_as edition image).tree (reads_as edition bytes).tree → KeepsOwners (reads_as edition image).tree (reads_as edition bytes).tree
    → KeepsNodes (reads_as edition image).tree (reads_as edition bytes).tree
unfolding AreMade
nodes_left edition image bytes [] volume sound made run grows owners =
    subst (λ (s : State). KeepsNodes (reads_as edition image).tree s.tree) (sym run) (nodes_same (reads_as edition image).tree)
nodes_left edition image bytes (call ∷ calls) volume sound made run grows owners =
    let geometry = geometry_of edition image in
    let fits = sound_fits edition image sound made.2.performed.changes.ready.fits.limit in
    nodes_kept (tree geometry image) (reads_as edition bytes).tree grows owners (λ path i walked.
    node_there geometry image path i (sound_files edition image fits sound) (sound_entries edition image sound) walked)
