-- After WRITE, READ gives what was written.
use Rattle.std.proofs.Common.{◌≡◌, ◌≢◌, ◌∙◌, sym, ap, subst, refl, ℕ, ◌+◌, ◌^◌, max, min, arith, Bool, true, false, List, [], ◌∷◌, length, Option, None, Some, Result, Ok, Err}
use Rattle.std.specs.Prelude.{nat_lt, if◌then◌else◌}
use Rattle.std.specs.Option.{is_some, ok_or, option_map, unwrap_or}
use Rattle.std.specs.Result.{IfOk}
use Rattle.fuse_words.specs.Replies.{data_message}
use Rattle.fuse_words.specs.declared.operation.Operation.TheVariants as operations
use Rattle.fuse_words.specs.declared.request.Header.{Header}
use Rattle.pdp_words.specs.Steps.{and_then}
use Rattle.vol_layout.specs.Geometry.{geometry_of}
use Rattle.vol_layout.specs.declared.geometry.Geometry.{Geometry}
use Rattle.vol_file.specs.Changes.{spliced}
use Rattle.vol_dir.specs.Access.{user}
use Rattle.vol_dir.specs.Tree.{Body, Content, Device, Directory, Node, State, Tree, tree}
use Rattle.vol_dir.specs.Walk.{is_directory, map_of, walk}
use Rattle.vol_dir.specs.declared.refusal.Refusal.{Refusal}
use Rattle.vol_dir.specs.declared.refusal.Refusal.TheVariants as refusals
use Rattle.vol_judge.proofs.Parts.{sound_entries, sound_files, sound_fits}
use Rattle.vol_change.specs.Edits.{after_write, at_time, body_of, modified, set_at}
use Rattle.vol_change.specs.Nodes.{no_node as empty_node, node_at}
use Rattle.vol_change.proofs.NodeEdits.{set_here}
use Rattle.vol_change.proofs.SideStates.{set_beside}
use Rattle.vol_volume.specs.Answer.{read_bytes}
use Rattle.vol_volume.specs.Step.{changed_by, on_node, step}
use Rattle.vol_volume.specs.Verdict.{is_device, verdict}
use Rattle.vol_volume.specs.Volume.{Accepts, IsConsistent, Mounted}
use Rattle.vol_volume.specs.declared.calls.Call.{Call}
use Rattle.vol_volume.specs.declared.calls.Call.TheVariants as calls
use Rattle.vol_volume.specs.declared.calls.Done.{Done}
use Rattle.vol_volume.proofs.Accepted.{write_passed}
use Rattle.vol_batch.specs.Batch.{AreMade}
use Rattle.vol_volume.proofs.TreeWalks.{node_there}
use Rattle.vol_serve.specs.Nodes.{after_ok, bytes_in, bytes_of}
use Rattle.vol_serve.specs.declared.nodes.fault.NodeFault.{NodeFault}
use Rattle.vol_serve.specs.declared.nodes.fault.NodeFault.TheVariants as faults
use Rattle.vol_serve.specs.Answers.{answered}
use Rattle.vol_mounted.specs.Laws.{Reads, WritesAreRead, tree_in}
use Rattle.vol_mounted.specs.Losses.{lost_node}
use Rattle.vol_mounted.specs.Numbers.{i_number}
use Rattle.vol_mounted.specs.Plans.{Sight, path_at, short_number, write_calls}
use Rattle.vol_mounted.specs.Records.{remembered, settled}
use Rattle.vol_mounted.specs.Refusals.{no_node}
use Rattle.vol_mounted.specs.Replies.{calls_of, node_reply, number_at, of_request, reply_of}
use Rattle.vol_mounted.specs.Servers.{sight_at}
use Rattle.vol_mounted.specs.declared.known.KnownNode.{KnownNode}
use Rattle.vol_mounted.specs.declared.refusal.MountedRefusal.TheVariants as mounted
use Rattle.vol_mounted.specs.declared.server.MountedServer.{MountedServer}
use Rattle.vol_mounted.proofs.FreeNodes.{reads_next, state_of}
use Rattle.vol_mounted.proofs.MakingPlans.{has_held, numbered, path_leads, then_holds}
use Rattle.vol_mounted.proofs.NodeNumbers.{planned_calls}

-- the call writes the bytes into the node with this number
record WritesNode (sight : Sight) (node offset : ℕ) (bytes : List ℕ) (all : List Call) : Type 0 where
  pub i : ℕ
  pub numbered : i_number sight.geometry.edition sight.nodes node ≡ Some i
  pub path : List ℕ
  pub walked : walk (tree sight.geometry sight.image) user path ≡ Ok i
  pub is : all ≡ calls.Write user sight.now path offset bytes ∷ []

-- a short number is the number
pub short_same : (n short : ℕ) → short_number n ≡ Ok short → short ≡ n
short_same n short = by (nat_lt n (2 ^ 32))
  where
    by : (b : Bool) → (if b then Ok n else Err (mounted.Call refusals.TooBig)) ≡ Ok short → short ≡ n
    by true is = cc
    by false is = absurd (cc)

writes_node : (sight : Sight) (header : Header) (handle offset : ℕ) (bytes : List ℕ)
    → IfOk (calls_of sight header (operations.Write handle offset bytes)) (WritesNode sight header.node offset bytes)
unfolding calls_of
writes_node sight header handle offset bytes =
    then_holds (WritesNode sight header.node offset bytes) (number_at sight header.node) (λ i. write_calls sight i offset bytes) (λ i at.
    then_holds (WritesNode sight header.node offset bytes) (short_number offset) _ (λ short short_is.
    then_holds (WritesNode sight header.node offset bytes) (path_at sight i) _ (λ path found. record {
      i = i;
      numbered = numbered sight header.node i at;
      path = path;
      walked = has_held _ _ path (path_leads sight i) found;
      is = ap (λ at. calls.Write user sight.now path at bytes ∷ []) (short_same offset short short_is);
    })))

-- a node after a write
abbrev pub wrote : ℕ → ℕ → List ℕ → Node → Node
wrote now offset bytes node =
    record (modified now node) { content = Body (spliced (body_of node.content) offset bytes); size = max node.size (offset + length bytes) }

-- the nodes after a write
pub written_nodes : (state : State) (now offset byte : ℕ) (path bytes : List ℕ) (done : Done) (i : ℕ) → walk state.tree user path ≡ Ok i
    → (step state (calls.Write user now path offset (byte ∷ bytes)) done).tree.nodes
    ≡ set_at state.tree.nodes i (option_map (wrote now offset (byte ∷ bytes)) (state.tree.nodes i))
unfolding changed_by
written_nodes state now offset byte path bytes done i walked =
    ap (λ (r : Result ℕ Refusal). (at_time now (on_node state r (after_write state now offset (byte ∷ bytes)))).tree.nodes) walked

-- a node that is neither a directory nor a special file has bytes
pub has_body : (content : Content) → is_some (map_of content) ≡ false → is_device content ≡ false → (body : List ℕ) × (content ≡ Body body)
has_body (Body bytes) plain regular = (bytes, refl)
has_body (Directory names) plain regular = absurd (cc)
has_body (Device type addresses) plain regular = absurd (cc)

-- a path in a consistent volume that accepted a call leads to a node
there : (old new : Mounted) (call : Call) (done : Done) (path : List ℕ) (i : ℕ) → IsConsistent old → Accepts old new call done
    → walk (state_of old).tree user path ≡ Ok i → (node : Node) × ((state_of old).tree.nodes i ≡ Some node)
there old new call done path i consistent accepts walked =
    let sound = consistent.image_sound in
    let fits = sound_fits old.edition old.image sound accepts.performed.changes.ready.fits.limit in
    by ((state_of old).tree.nodes i)
    (node_there (geometry_of old.edition old.image) old.image path i (sound_files old.edition old.image fits sound) (sound_entries old.edition old.image sound) walked)
  where
    by : (node : Option Node) → node ≢ None → (n : Node) × (node ≡ Some n)
    by None some = absurd (some refl)
    by (Some node) some = (node, refl)

-- the bytes of a regular file
body_in : (t : Tree) (i : ℕ) (node : Node) (body : List ℕ) → t.nodes i ≡ Some node → node.content ≡ Body body → bytes_in t i ≡ Ok body
body_in t i node body is content =
    ap (λ (n : Option Node). after_ok (ok_or n faults.Stale) (λ m. ok_or (bytes_of m.content) faults.NotRegular)) is
    ∙ ap (λ (c : Content). ok_or (bytes_of c) faults.NotRegular) content

-- READ gives the bytes of the node
reads : (server : MountedServer) (node i : ℕ) (body : List ℕ) → i_number server.volume.edition server.nodes node ≡ Some i
    → bytes_in (tree_in server) i ≡ Ok body → Reads server node body
unfolding reply_of node_reply
reads server node i body numbered held now header handle offset size same =
    ap (λ node. reply_of (sight_at server now) (record header { node = node }) (operations.Read handle offset size)) same
    ∙ (ap (λ (found : Option ℕ). and_then (ok_or found (no_node faults.Stale)) (λ i. node_reply (sight_at server now) header.unique i (operations.Read handle offset size))) numbered
    ∙ ap (λ (r : Result (List ℕ) NodeFault). of_request (answered (after_ok r (λ bytes. Ok (read_bytes bytes offset (min 131072 size)))) (λ bytes. Ok (data_message header.unique bytes)))) held)

-- a WRITE changes no record
write_remembered : (geometry : Geometry) (image : List ℕ) (nodes : List KnownNode) (sight : Sight) (header : Header) (handle offset : ℕ) (bytes : List ℕ)
    → remembered geometry image nodes header (operations.Write handle offset bytes) true (lost_node sight header (operations.Write handle offset bytes)) ≡ nodes
unfolding settled lost_node
write_remembered geometry image nodes sight header handle offset bytes = refl

-- one call that was made
pub made_one : (old new : Mounted) (call : Call) → AreMade old (call ∷ []) new → (done : Done) × Accepts old new call done
unfolding AreMade
made_one old new call (between, done, accepts, same) = (done, subst (λ volume. Accepts old volume call done) (sym same) accepts)

pub writes_read : WritesAreRead
unfolding verdict
writes_read old new now header handle offset [] consistent some made = absurd (omega (arith, some))
writes_read old new now header handle offset (byte ∷ bytes) consistent some ((all, plan, made), remembers) =
    let text = byte ∷ bytes in
    let sight = sight_at old now in
    let write = has_held (WritesNode sight header.node offset text) _ all (writes_node sight header handle offset text)
    (planned_calls old now header (operations.Write handle offset text) all plan) in
    let i = write.i in
    let call = calls.Write user now write.path offset text in
    let one = made_one old.volume new.volume call (subst (λ all. AreMade old.volume all new.volume) write.is made) in
    let node = there old.volume new.volume call one.0 write.path i consistent one.1 write.walked in
    let may = write_passed (state_of old.volume) user write.path offset (length text) i one.1.accepted write.walked in
    let at : node_at (tree_in old) i ≡ node.0 = ap (λ (n : Option Node). unwrap_or n empty_node) node.1 in
    let held = has_body node.0.content (sym (ap is_directory at) ∙ may.other) (sym (ap (λ (n : Node). is_device n.content) at) ∙ may.regular) in
    let nodes = ap (λ (s : State). s.tree.nodes) (reads_next old.volume new.volume call one.0 one.1)
    ∙ written_nodes (state_of old.volume) now offset byte write.path bytes one.0 i write.walked in
    let change = option_map (wrote now offset text) ((state_of old.volume).tree.nodes i) in
    let here = ap (λ (ns : ℕ → Option Node). ns i) nodes ∙ (set_here (state_of old.volume).tree.nodes i change ∙ ap (option_map (wrote now offset text)) node.1) in
    let records : new.nodes ≡ old.nodes = remembers.0 ∙ write_remembered _ new.volume.image old.nodes sight header handle offset text in
    let number : i_number new.volume.edition new.nodes header.node ≡ Some i = ap (λ edition. i_number edition new.nodes header.node) one.1.edition ∙ (ap (λ ns. i_number old.volume.edition ns header.node) records ∙ write.numbered) in (
      held.0,
      reads old header.node i held.0 write.numbered (body_in (tree_in old) i node.0 held.0 node.1 held.1),
      reads new header.node i (spliced held.0 offset text) number
          (body_in (tree_in new) i (wrote now offset text node.0) (spliced held.0 offset text) here (ap (λ (c : Content). Body (spliced (body_of c) offset text)) held.1)),
      λ j other.
          ap (λ (ns : ℕ → Option Node). ns j) nodes
          ∙ set_beside (state_of old.volume).tree.nodes i change j (λ same. other (ap (λ (found : Option ℕ). ok_or found (no_node faults.Stale)) write.numbered ∙ ap Ok (sym same))),
    )
