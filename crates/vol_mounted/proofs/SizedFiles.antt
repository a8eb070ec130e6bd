-- The call of SETATTR that sets a size.
use Rattle.std.proofs.Common.{◌≡◌, ◌∙◌, sym, ap, subst, refl, ℕ, ◌+◌, ◌-◌, ◌≤◌, max, arith, Bool, true, false, cond, List, [], ◌∷◌, ◌++◌, append_assoc, length, take, drop, Option, None, Some, Result, Ok, Err}
use Rattle.std.specs.Prelude.{◌/◌, nat_le, unwrap_or, replicate, if◌then◌else◌}
use Rattle.std.specs.Option.{option_map, option_to_list}
use Rattle.std.proofs.lemmas.Bool.Decides.{nat_tests}
use Rattle.std.proofs.lemmas.List.{append-nil, drop_all, replicate_more, take_all}
use Rattle.pdp_words.specs.Steps.{and_then}
use Rattle.vol_layout.specs.BlockMaps.{has_places}
use Rattle.vol_layout.specs.BlockPointers.{IsFile, mode_of}
use Rattle.vol_layout.specs.Body.{body}
use Rattle.vol_layout.specs.Geometry.{geometry_of}
use Rattle.vol_layout.specs.Inode.{inode_of, inode_place, kind_of}
use Rattle.vol_layout.specs.declared.geometry.Geometry.{Geometry}
use Rattle.vol_layout.specs.declared.mode.Kind.{Kind}
use Rattle.vol_layout.specs.declared.mode.Kind.TheVariants as kinds
use Rattle.vol_layout.proofs.BodyLaws.{length-body}
use Rattle.vol_layout.proofs.InodeLaws.{inode_size}
use Rattle.vol_file.specs.Changes.{spliced}
use Rattle.vol_file.specs.Rules.{Rules3To7}
use Rattle.vol_dir.specs.Access.{user}
use Rattle.vol_dir.specs.Entries.{slots}
use Rattle.vol_dir.specs.Names.{names_of}
use Rattle.vol_dir.specs.Tree.{Body, Content, Device, Directory, Node, State, content_of, is_number, node_of, node_with, tree}
use Rattle.vol_dir.specs.Walk.{is_directory, root, walk}
use Rattle.vol_dir.specs.declared.refusal.Refusal.{Refusal}
use Rattle.vol_dir.specs.declared.refusal.Refusal.TheVariants as refusals
use Rattle.vol_judge.specs.Sound.{IsSound}
use Rattle.vol_judge.proofs.Parts.{sound_files, sound_fits}
use Rattle.vol_change.specs.Edits.{after_truncate, after_write, at_time, body_of, modified}
use Rattle.vol_change.specs.Nodes.{no_node as empty_node, node_at}
use Rattle.vol_volume.specs.Answer.{kind_of_content, stat_of}
use Rattle.vol_volume.specs.Step.{changed_by, on_node}
use Rattle.vol_volume.specs.Verdict.{first_of, is_device, of_node, truncate_tests, verdict, write_tests}
use Rattle.vol_volume.specs.Volume.{Accepts, Mounted}
use Rattle.vol_volume.specs.declared.calls.Call.{Call}
use Rattle.vol_volume.specs.declared.calls.Call.TheVariants as calls
use Rattle.vol_volume.specs.declared.calls.Done.{Done}
use Rattle.vol_batch.specs.Batch.{AreMade}
use Rattle.vol_batch.proofs.MadeNames.{no_names}
use Rattle.vol_volume.proofs.TreeWalks.{passes_first}
use Rattle.vol_serve.specs.Nodes.{special_of}
use Rattle.vol_mounted.specs.Laws.{content_with}
use Rattle.vol_mounted.specs.Orphans.{resized}
use Rattle.vol_mounted.specs.Plans.{short_number, size_call}
use Rattle.vol_mounted.specs.declared.refusal.MountedRefusal.{MountedRefusal}
use Rattle.vol_mounted.proofs.FreeNodes.{state_of}
use Rattle.vol_mounted.proofs.WrittenFiles.{has_body, made_one, short_same, written_nodes, wrote}
use Rattle.vol_mounted.proofs.NodeCalls.{Alters, Changes, Stands, alters, unaltered}

-- a node after a truncation
abbrev cut : ℕ → ℕ → Node → Node
cut now size node = record (modified now node) { content = Body (take size (body_of node.content)); size = size }

truncate_changes : (state : State) (now size : ℕ) (path : List ℕ) (done : Done) (i : ℕ) → walk state.tree user path ≡ Ok i
    → is_directory (node_at state.tree i) ≡ false → Changes state (calls.Truncate user now path size) done i (cut now size)
unfolding changed_by
truncate_changes state now size path done i walked plain = record {
  nodes = ap (λ (r : Result ℕ Refusal). (at_time now (on_node state r (after_truncate state now size))).tree.nodes) walked;
  begins = ap (λ (r : Result ℕ Refusal). root (at_time now (on_node state r (after_truncate state now size))).tree) walked;
  names = no_names (state.tree.nodes i) (option_map (cut now size) (state.tree.nodes i)) plain;
}

write_changes : (state : State) (now offset : ℕ) (path : List ℕ) (done : Done) (i : ℕ) → walk state.tree user path ≡ Ok i
    → is_directory (node_at state.tree i) ≡ false
    → Changes state (calls.Write user now path offset (0 ∷ [])) done i (wrote now offset (0 ∷ []))
unfolding changed_by
write_changes state now offset path done i walked plain = record {
  nodes = written_nodes state now offset 0 path [] done i walked;
  begins = ap (λ (r : Result ℕ Refusal). root (at_time now (on_node state r (after_write state now offset (0 ∷ [])))).tree) walked;
  names = no_names (state.tree.nodes i) (option_map (wrote now offset (0 ∷ [])) (state.tree.nodes i)) plain;
}

-- the node whose bytes an accepted Truncate or Write changes is a regular file
plain_body : (directory device : Bool) (others : Option Refusal)
    → cond directory (Some refusals.IsDirectory) (cond device (Some refusals.NotRegular) others) ≡ None → (directory ≡ false) × (device ≡ false)
plain_body true device others is = absurd (cc)
plain_body false true others is = absurd (cc)
plain_body false false others is = (refl, refl)

truncate_plain : (state : State) (now size : ℕ) (path : List ℕ) (i : ℕ) → verdict state (calls.Truncate user now path size) ≡ None
    → walk state.tree user path ≡ Ok i → (is_directory (node_at state.tree i) ≡ false) × (is_device (node_at state.tree i).content ≡ false)
unfolding verdict
truncate_plain state now size path i accepted walked =
    let tests : ℕ → Option Refusal = λ i. first_of (truncate_tests state.tree user size i) in
    let first = passes_first state.tree path (of_node (walk state.tree user path) tests) accepted in
    plain_body _ _ _ (ap (λ (r : Result ℕ Refusal). of_node r tests) (sym walked) ∙ first.others_pass)

write_plain : (state : State) (now offset : ℕ) (path : List ℕ) (i : ℕ) → verdict state (calls.Write user now path offset (0 ∷ [])) ≡ None
    → walk state.tree user path ≡ Ok i → (is_directory (node_at state.tree i) ≡ false) × (is_device (node_at state.tree i).content ≡ false)
unfolding verdict
write_plain state now offset path i accepted walked =
    let tests : ℕ → Option Refusal = λ i. first_of (write_tests state user offset (length {A = ℕ} (0 ∷ [])) i) in
    let first = passes_first state.tree path (of_node (walk state.tree user path) tests) accepted in
    plain_body _ _ _ (ap (λ (r : Result ℕ Refusal). of_node r tests) (sym walked) ∙ first.others_pass)

-- a node after its size is set
abbrev pub sized : ℕ → Option ℕ → Node → Node
sized now None node = node
sized now (Some size) node = record (modified now node) { content = Body (resized (body_of node.content) size); size = size }

-- setting the size of a file changes its bytes, and keeps its kind
pub record Sizes (old new : Mounted) (now : ℕ) (path : List ℕ) (i : ℕ) (size : Option ℕ) (node : Node) : Type 0 where
  pub alters : Alters old new path i (sized now size node)
  pub kind : kind_of_content (content_with size node.content) ≡ kind_of_content node.content
  pub special : special_of (content_with size node.content) ≡ special_of node.content

-- the bytes of a file that is cut
cut_body : (held : List ℕ) (size : ℕ) → size ≤ length held → take size held ≡ resized held size
cut_body held size within =
    let none : size - length held ≡ 0 = omega (arith, within) in
    sym (ap (λ n. take size held ++ replicate n 0) none ∙ append-nil (take size held))

-- the bytes of a file that is lengthened by a zero at its new end
grown_body : (held : List ℕ) (size : ℕ) → length held + 1 ≤ size → spliced held (size - 1) (0 ∷ []) ≡ resized held size
grown_body held size more =
    let zeros : List ℕ = replicate (size - 1 - length held) 0 in
    let front : take (size - 1) held ≡ held = take_all (size - 1) held (omega (arith, more)) in
    let rest : drop (size - 1 + 1) held ≡ [] = drop_all (size - 1 + 1) held (omega (arith, more)) in
    let all : take size held ≡ held = take_all size held (omega (arith, more)) in
    let count : size - 1 - length held + 1 ≡ size - length held = omega (arith, more) in
    ap (λ xs. (xs ++ zeros) ++ (0 ∷ drop (size - 1 + 1) held)) front
    ∙ (ap (λ xs. (held ++ zeros) ++ (0 ∷ xs)) rest
    ∙ (append_assoc held zeros (0 ∷ [])
    ∙ (ap (λ xs. held ++ xs) (replicate_more (size - 1 - length held) 0 ∙ ap (λ n. replicate n 0) count)
    ∙ sym (ap (λ xs. xs ++ replicate (size - length held) 0) all))))

-- the bytes of a file of a sound image are as many as its size
full_body : (geometry : Geometry) (image : List ℕ) (i : ℕ) (node : Node) (held : List ℕ) → Rules3To7 geometry image → (tree geometry image).nodes i ≡ Some node
    → node.content ≡ Body held → length held ≡ node.size
unfolding tree node_of
full_body geometry image i node held files is content = by (is_number geometry i) refl (kind_of geometry.edition (mode_of geometry image i)) refl is
  where
    other : (some : Content) → option_map (node_with (inode_of geometry.edition image i)) (Some some) ≡ Some node → some ≡ Body held
    other some is = let same : node_with (inode_of geometry.edition image i) some ≡ node = cc in ap (λ (n : Node). n.content) same ∙ content

    by : (number : Bool) → is_number geometry i ≡ number → (kind : Kind) → kind_of geometry.edition (mode_of geometry image i) ≡ kind
        → cond number (option_map (node_with (inode_of geometry.edition image i)) (content_of geometry image i kind)) None ≡ Some node
        → length held ≡ node.size
    by false number kind at is = absurd (cc)
    by true number kinds.Free at is = absurd (cc)
    by true number kinds.Odd at is = absurd (cc)
    by true number kinds.Directory at is = let both = other (Directory (names_of (slots geometry image i))) is in absurd (cc)
    by true number kinds.Special at is = let both = other (Device (mode_of geometry image i / 4096) (inode_of geometry.edition image i).addresses) is in absurd (cc)
    by true number kinds.Regular at is =
        let same : node_with (inode_of geometry.edition image i) (Body (body geometry image i)) ≡ node = cc in
        let both = other (Body (body geometry image i)) is in
        let bytes : body geometry image i ≡ held = cc in
        let size : (inode_of geometry.edition image i).size ≡ node.size = ap (λ (n : Node). n.size) same in
        let stored = inode_size geometry.edition image (inode_place geometry.edition i) in
        let len = sym (ap length bytes) ∙ length-body geometry image i in
        let file : IsFile geometry image i = record { first = grind (arith, nat_tests, number); last = grind (arith, nat_tests, number); kind = ap has_places at } in
        let low = files.sound.sizes.greatest i file in
        omega (arith, len, stored, size, low)

-- the call that sets a size: it cuts a file, or writes a zero at its new end
abbrev setting : ℕ → List ℕ → Bool → ℕ → Call
setting now path cuts n = if cuts then calls.Truncate user now path n else calls.Write user now path (n - 1) (0 ∷ [])

-- SETATTR sets a size
pub sizes : (old new : Mounted) (now : ℕ) (path : List ℕ) (i : ℕ) (size : Option ℕ) (node : Node) (call : Option Call) → IsSound old.edition old.image
    → size_call now (stat_of i node) path size ≡ Ok call → Stands old path i node → AreMade old (option_to_list call) new
    → Sizes old new now path i size node
unfolding AreMade
sizes old new now path i None node call sound is stands made =
    let none : None ≡ call = cc in
    record {
      alters = unaltered old new path i node (subst (λ (call : Option Call). AreMade old (option_to_list call) new) (sym none) made) stands;
      kind = refl;
      special = refl;
    }
sizes old new now path i (Some size) node call sound is stands made = short (short_number size) refl is
  where
    at : node_at (state_of old).tree i ≡ node
    at = ap (λ (n : Option Node). unwrap_or n empty_node) stands.here

    -- the file's bytes
    holds : (done : Done) (call : Call) → Accepts old new call done → is_directory (node_at (state_of old).tree i) ≡ false
        → is_device (node_at (state_of old).tree i).content ≡ false → (held : List ℕ) × (node.content ≡ Body held) × (length held ≡ node.size)
    holds done call accepts plain regular =
        let body = has_body node.content (sym (ap is_directory at) ∙ plain) (sym (ap (λ (n : Node). is_device n.content) at) ∙ regular) in
        let fits = sound_fits old.edition old.image sound accepts.performed.changes.ready.fits.limit in
        let files = sound_files old.edition old.image fits sound in
        (body.0, body.1, full_body (geometry_of old.edition old.image) old.image i node body.0 files stands.here body.1)

    by : (cuts : Bool) → nat_le size node.size ≡ cuts → AreMade old (setting now path cuts size ∷ []) new → Sizes old new now path i (Some size) node
    by true low made =
        let call = calls.Truncate user now path size in
        let one = made_one old new call made in
        let plain = truncate_plain (state_of old) now size path i one.1.accepted stands.walked in
        let body = holds one.0 call one.1 plain.0 plain.1 in
        let len : length (body_of node.content) ≡ node.size = ap (λ (c : Content). length (body_of c)) body.1 ∙ body.2 in
        let within : size ≤ length (body_of node.content) = grind (arith, nat_tests, low, len) in
        record {
          alters = subst (Alters old new path i) (ap (λ bytes. record (modified now node) { content = Body bytes; size = size }) (cut_body (body_of node.content) size within))
              (alters old new call one.0 path i node (cut now size) one.1 stands (truncate_changes (state_of old) now size path one.0 i stands.walked plain.0));
          kind = sym (ap kind_of_content body.1);
          special = sym (ap special_of body.1);
        }
    by false high made =
        let call = calls.Write user now path (size - 1) (0 ∷ []) in
        let one = made_one old new call made in
        let plain = write_plain (state_of old) now (size - 1) path i one.1.accepted stands.walked in
        let body = holds one.0 call one.1 plain.0 plain.1 in
        let len : length (body_of node.content) ≡ node.size = ap (λ (c : Content). length (body_of c)) body.1 ∙ body.2 in
        let above : node.size + 1 ≤ size = grind (arith, nat_tests, high) in
        let more : length (body_of node.content) + 1 ≤ size = omega (arith, above, len) in
        let end : max node.size (size - 1 + 1) ≡ size = omega (arith, above) in
        record {
          alters = subst (Alters old new path i)
              (ap (λ bytes. record (modified now node) { content = Body bytes; size = max node.size (size - 1 + 1) }) (grown_body (body_of node.content) size more)
              ∙ ap (λ n. record (modified now node) { content = Body (resized (body_of node.content) size); size = n }) end)
              (alters old new call one.0 path i node (wrote now (size - 1) (0 ∷ [])) one.1 stands
              (write_changes (state_of old) now (size - 1) path one.0 i stands.walked plain.0));
          kind = sym (ap kind_of_content body.1);
          special = sym (ap special_of body.1);
        }

    short : (found : Result ℕ MountedRefusal) → short_number size ≡ found
        → and_then found (λ n. Ok (Some (setting now path (nat_le n node.size) n))) ≡ Ok call → Sizes old new now path i (Some size) node
    short (Err refusal) e is = absurd (cc)
    short (Ok n) e is =
        let same : n ≡ size = short_same size n e in
        let one : Some (setting now path (nat_le n node.size) n) ≡ call = cc in
        by (nat_le size node.size) refl
        (subst (λ n. AreMade old (setting now path (nat_le n node.size) n ∷ []) new) same (subst (λ (call : Option Call). AreMade old (option_to_list call) new) (sym one) made))
