-- After SETATTR, GETATTR has what was set, and nothing else of the node changed.
use Rattle.std.proofs.Common.{◌≡◌, ◌∙◌, sym, ap, subst, refl, ℕ, Bool, true, false, List, ◌++◌, Option, None, Some, Ok}
use Rattle.std.specs.Prelude.{◌&&◌, ◌||◌, is_none, is_some, MatchBool}
use Rattle.std.specs.Option.{ok_or, option_map, option_map_or, option_to_list}
use Rattle.std.specs.Result.{IfOk}
use Rattle.fuse_words.specs.Replies.{attributes_message}
use Rattle.fuse_words.specs.declared.attribute_changes.AttributeChanges.{AttributeChanges}
use Rattle.fuse_words.specs.declared.operation.Operation.TheVariants as operations
use Rattle.fuse_words.specs.declared.request.Header.{Header}
use Rattle.pdp_words.specs.Steps.{and_then}
use Rattle.vol_layout.specs.declared.geometry.Geometry.{Geometry}
use Rattle.vol_dir.specs.Access.{user}
use Rattle.vol_dir.specs.Tree.{Node, Tree, tree}
use Rattle.vol_dir.specs.Walk.{walk}
use Rattle.vol_dir.specs.declared.cred.Cred.{Cred}
use Rattle.vol_judge.specs.Sound.{IsSound}
use Rattle.vol_change.specs.Edits.{with_owner, with_permission_bits, with_times}
use Rattle.vol_volume.specs.Answer.{kind_of_content, stat_of}
use Rattle.vol_volume.specs.Volume.{IsConsistent, Mounted, reads_as}
use Rattle.vol_volume.specs.declared.calls.Call.{Call}
use Rattle.vol_volume.specs.declared.calls.Call.TheVariants as calls
use Rattle.vol_volume.specs.declared.queries.Stat.{Stat}
use Rattle.vol_batch.specs.Batch.{AreMade}
use Rattle.vol_volume.proofs.TreeWalks.{named}
use Rattle.vol_serve.specs.Nodes.{special_of}
use Rattle.vol_serve.specs.declared.nodes.fault.NodeFault.TheVariants as faults
use Rattle.vol_serve.specs.declared.nodes.stats.SpecialFile.{SpecialFile}
use Rattle.vol_serve.specs.Attributes.{attributes_of}
use Rattle.vol_mounted.specs.Laws.{AttributesAreSet, SetsAttributes, SetsFile, Shows, content_with, sets_nothing, tree_in, with_changes}
use Rattle.vol_mounted.specs.Losses.{kept_after, lost_file, lost_node}
use Rattle.vol_mounted.specs.Numbers.{i_number}
use Rattle.vol_mounted.specs.Plans.{Sight, attribute_calls, mode_call, owner_call, path_at, size_call, stat_at, times_call}
use Rattle.vol_mounted.specs.Records.{remembered, settled}
use Rattle.vol_mounted.specs.Refusals.{no_node, of_nodes}
use Rattle.vol_mounted.specs.Replies.{calls_of, node_reply, number_at, reply_of, shown}
use Rattle.vol_mounted.specs.Orphans.{KeptFile, present_attributes}
use Rattle.vol_mounted.specs.Servers.{files_in, limits_in, sight_at}
use Rattle.vol_mounted.specs.Turns.{IsAnswered, IsReplied, is_orphan}
use Rattle.vol_mounted.specs.declared.known.KnownNode.{KnownNode}
use Rattle.vol_mounted.specs.declared.owner.Owner.{Owner}
use Rattle.vol_mounted.specs.declared.server.MountedServer.{MountedServer}
use Rattle.vol_mounted.proofs.AcceptedTurns.{IsDone, done_tree, is_done, is_made}
use Rattle.vol_mounted.proofs.FreeNodes.{made_edition}
use Rattle.vol_mounted.proofs.MakingPlans.{asked_holds, has_held, numbered, path_leads, stat_node, then_holds}
use Rattle.vol_mounted.proofs.NodeNumbers.{planned_calls}
use Rattle.vol_mounted.proofs.NodeCalls.{Alters, Stands, altered_then, applies, chmod_changes, chown_changes, made_parts, times_changes}
use Rattle.vol_mounted.proofs.SizedFiles.{sized, sizes}
use Rattle.vol_mounted.proofs.SetFiles.{SetsAt, set_file, sets_at, shows_file, shows_set}
use Rattle.vol_mounted.proofs.SetFields.{accessed_is, accessed_set, bits_of, changed_is, content_is, gid_is, links_are, mode_is, modified_is, modified_set, owns, permissions_are, shown_gid, shown_uid, size_is, stamp, times_are, times_none, times_of, uid_is, with_all, with_bits, with_cred}

-- the attributes of a node as they are shown
abbrev shown_stat : Option Owner → Stat → Stat
shown_stat owner stat = record stat { uid = shown_uid owner stat.uid; gid = shown_gid owner stat.gid }

shown_is : (owner : Option Owner) (stat : Stat) (special : Option SpecialFile)
    → attributes_of (shown_stat owner stat) special ≡ shown owner (attributes_of stat special)
shown_is None stat special = refl
shown_is (Some owner) stat special = refl

-- GETATTR shows a node
shows : (server : MountedServer) (node i : ℕ) (held : Node) → i_number server.volume.edition server.nodes node ≡ Some i
    → (tree_in server).nodes i ≡ Some held → Shows server node (shown_stat server.owner (stat_of i held)) (special_of held.content)
unfolding reply_of node_reply
shows server node i held numbered stands now header same =
    ap (λ node. reply_of (sight_at server now) (record header { node = node }) operations.GetAttr) same
    ∙ (ap (λ (found : Option ℕ). and_then (ok_or found (no_node faults.Stale)) (λ i. node_reply (sight_at server now) header.unique i operations.GetAttr)) numbered
    ∙ (ap (λ (n : Option Node). and_then (and_then (of_nodes (ok_or (option_map (λ stat. attributes_of stat (option_map_or (λ (node : Node). special_of node.content) n None)) (option_map (stat_of i) n)) faults.Stale))
    (λ attributes. Ok (shown server.owner attributes))) (λ attributes. Ok (attributes_message header.unique 3600 attributes))) stands
    ∙ ap (λ attributes. Ok (attributes_message header.unique 3600 attributes)) (sym (shown_is server.owner (stat_of i held) (special_of held.content)))))

-- the calls of SETATTR
record SetsNode (sight : Sight) (node : ℕ) (changes : AttributeChanges) (all : List Call) : Type 0 where
  pub i : ℕ
  pub at : number_at sight node ≡ Ok i
  pub path : List ℕ
  pub walked : walk (tree sight.geometry sight.image) user path ≡ Ok i
  pub stat : Stat
  pub stat_is : stat_at sight i ≡ Ok stat
  pub size_set : Option Call
  pub size_is : size_call sight.now stat path changes.size ≡ Ok size_set
  pub owner_set : Option Call
  pub owner_is : owner_call sight stat path changes.uid changes.gid ≡ Ok owner_set
  pub is : all ≡ ((option_to_list size_set ++ option_to_list (mode_call sight.now path changes.mode)) ++ option_to_list owner_set)
      ++ option_to_list (times_call sight.now stat path changes.accessed changes.modified)

sets_node : (sight : Sight) (header : Header) (changes : AttributeChanges)
    → IfOk (calls_of sight header (operations.SetAttr changes)) (SetsNode sight header.node changes)
unfolding calls_of
sets_node sight header changes =
    then_holds (SetsNode sight header.node changes) (number_at sight header.node) (λ i. attribute_calls sight i changes) (λ i at.
    then_holds (SetsNode sight header.node changes) (path_at sight i) _ (λ path found.
    then_holds (SetsNode sight header.node changes) (stat_at sight i) _ (λ stat stat_is.
    then_holds (SetsNode sight header.node changes) (size_call sight.now stat path changes.size) _ (λ size_set size_is.
    then_holds (SetsNode sight header.node changes) (owner_call sight stat path changes.uid changes.gid) _ (λ owner_set owner_is.
    asked_holds (SetsNode sight header.node changes) _ _ (record {
      i = i;
      at = at;
      path = path;
      walked = has_held _ _ path (path_leads sight i) found;
      stat = stat;
      stat_is = stat_is;
      size_set = size_set;
      size_is = size_is;
      owner_set = owner_set;
      owner_is = owner_is;
      is = refl;
    }))))))

-- a SETATTR changes no record
set_remembered : (geometry : Geometry) (image : List ℕ) (nodes : List KnownNode) (sight : Sight) (header : Header) (changes : AttributeChanges)
    → remembered geometry image nodes header (operations.SetAttr changes) true (lost_node sight header (operations.SetAttr changes)) ≡ nodes
unfolding settled lost_node
set_remembered geometry image nodes sight header changes = refl

-- a SETATTR takes no name of a file
set_files : (geometry : Geometry) (image : List ℕ) (files : List KeptFile) (sight : Sight) (header : Header) (changes : AttributeChanges)
    → kept_after geometry image files (lost_node sight header (operations.SetAttr changes)) (lost_file sight header (operations.SetAttr changes)) ≡ files
unfolding lost_node
set_files geometry image files sight header changes = refl

-- what the calls of SETATTR make of a node
record IsSet (old new : Mounted) (owner : Option Owner) (now : ℕ) (path : List ℕ) (i : ℕ) (changes : AttributeChanges) (was : Node) : Type 0 where
  pub is : Node
  pub alters : Alters old new path i is
  pub stat : shown_stat owner (stat_of i is) ≡ with_changes owner now changes (shown_stat owner (stat_of i was))
  pub special : special_of is.content ≡ special_of was.content
  pub content : is.content ≡ content_with changes.size was.content
  pub hidden : (user : Owner) → owner ≡ Some user → (is.uid ≡ was.uid) × (is.gid ≡ was.gid)

is_set : (old new : Mounted) (sight : Sight) (path : List ℕ) (i : ℕ) (changes : AttributeChanges) (was : Node) (size_set owner_set : Option Call)
    → IsSound old.edition old.image → Stands old path i was → size_call sight.now (stat_of i was) path changes.size ≡ Ok size_set
    → owner_call sight (stat_of i was) path changes.uid changes.gid ≡ Ok owner_set
    → AreMade old (((option_to_list size_set ++ option_to_list (mode_call sight.now path changes.mode)) ++ option_to_list owner_set)
    ++ option_to_list (times_call sight.now (stat_of i was) path changes.accessed changes.modified)) new
    → IsSet old new sight.owner sight.now path i changes was
is_set old new sight path i changes was size_set owner_set sound stands size_planned owner_planned made =
    let now = sight.now in
    let owner = sight.owner in
    let stat = stat_of i was in
    let last = made_parts old new ((option_to_list size_set ++ option_to_list (mode_call now path changes.mode)) ++ option_to_list owner_set) _ made in
    let third = made_parts old last.0 (option_to_list size_set ++ option_to_list (mode_call now path changes.mode)) _ last.1 in
    let first = made_parts old third.0 (option_to_list size_set) _ third.1 in
    let size = sizes old first.0 now path i changes.size was size_set sound size_planned stands first.1 in
    let bits = applies (λ (perm : ℕ). calls.Chmod user now path perm) (with_permission_bits now) path i (λ perm state done. chmod_changes state now perm path done i)
    (bits_of changes.mode) first.0 third.0 (sized now changes.size was) size.alters.stands
    (subst (λ (call : Option Call). AreMade first.0 (option_to_list call) third.0) (mode_is now path changes.mode) first.2) in
    let own = owns sight stat path changes.uid changes.gid owner_set owner_planned in
    let creds = applies (λ (c : Cred). calls.Chown user now path c.uid c.gid) (λ (c : Cred). with_owner now c.uid c.gid) path i
    (λ c state done. chown_changes state now c.uid c.gid path done i) own.cred third.0 last.0 (with_bits now changes.size changes.mode was) bits.stands
    (subst (λ (call : Option Call). AreMade third.0 (option_to_list call) last.0) own.is third.2) in
    let times = times_of now stat changes.accessed changes.modified in
    let timed = applies (λ (t : ℕ × ℕ). calls.Times user now path t.0 t.1) (λ (t : ℕ × ℕ). with_times now t.0 t.1) path i
    (λ t state done. times_changes state now t.0 t.1 path done i) times last.0 new (with_cred now changes.size changes.mode own.cred was) creds.stands
    (subst (λ (call : Option Call). AreMade last.0 (option_to_list call) new) (times_are now stat path changes.accessed changes.modified) last.2) in
    let is = with_all now changes.size changes.mode own.cred times was in
    let content = content_is now changes.size changes.mode own.cred times was in
    let nothing : (((is_none changes.size && is_none changes.mode) && is_none own.cred) && is_none times) ≡ sets_nothing owner changes =
    ap (λ b. ((is_none changes.size && is_none changes.mode) && b) && is_none times) own.none
    ∙ ap (λ b. ((is_none changes.size && is_none changes.mode) && (is_some owner || (is_none changes.uid && is_none changes.gid))) && b)
    (times_none now stat changes.accessed changes.modified) in
    record {
      is = is;
      alters = altered_then old last.0 new path i (with_cred now changes.size changes.mode own.cred was) is
          (altered_then old third.0 last.0 path i (with_bits now changes.size changes.mode was) (with_cred now changes.size changes.mode own.cred was)
          (altered_then old first.0 third.0 path i (sized now changes.size was) (with_bits now changes.size changes.mode was) size.alters bits) creds) timed;
      stat = λ k. record {
        number = i;
        kind = (ap kind_of_content content ∙ size.kind) k;
        permissions = permissions_are now changes.size changes.mode own.cred times was k;
        links = links_are now changes.size changes.mode own.cred times was k;
        uid = (ap (shown_uid owner) (uid_is now changes.size changes.mode own.cred times was) ∙ own.uid_shown) k;
        gid = (ap (shown_gid owner) (gid_is now changes.size changes.mode own.cred times was) ∙ own.gid_shown) k;
        size = size_is now changes.size changes.mode own.cred times was k;
        accessed = (accessed_is now changes.size changes.mode own.cred times was ∙ accessed_set now stat changes.accessed changes.modified) k;
        modified = (modified_is now changes.size changes.mode own.cred times was ∙ modified_set now changes.size stat changes.accessed changes.modified) k;
        changed = (changed_is now changes.size changes.mode own.cred times was ∙ ap (λ b. stamp now b was.changed) nothing) k;
      };
      special = ap special_of content ∙ size.special;
      content = content;
      hidden = λ user one. let none = own.hidden user one in (
        uid_is now changes.size changes.mode own.cred times was ∙ ap (λ (c : Option Cred). option_map_or (λ (c : Cred). c.uid) c was.uid) none,
        gid_is now changes.size changes.mode own.cred times was ∙ ap (λ (c : Option Cred). option_map_or (λ (c : Cred). c.gid) c was.gid) none,
      );
    }

-- a node with a name
node_set : (old new : MountedServer) (now : ℕ) (header : Header) (changes : AttributeChanges) → IsConsistent old.volume
    → IsDone old new now header (operations.SetAttr changes) → is_orphan old header.node ≡ false → SetsAttributes old new now header.node changes
node_set old new now header changes consistent done named =
    let operation = operations.SetAttr changes in
    let made = is_made old new now header operation done named in
    let all = made.0.0 in
    let sets = has_held (SetsNode (sight_at old now) header.node changes) _ all (sets_node (sight_at old now) header changes)
    (planned_calls old now header operation all made.0.1) in
    let i = sets.i in
    let was = stat_node (sight_at old now) i sets.stat sets.stat_is in
    let set = is_set old.volume done.answered.volume (sight_at old now) sets.path i changes was.0 sets.size_set sets.owner_set consistent.image_sound
    (record { here = was.1; walked = sets.walked })
    (ap (λ stat. size_call now stat sets.path changes.size) was.2 ∙ sets.size_is)
    (ap (λ stat. owner_call (sight_at old now) stat sets.path changes.uid changes.gid) was.2 ∙ sets.owner_is)
    (subst (λ stat. AreMade old.volume (((option_to_list sets.size_set ++ option_to_list (mode_call now sets.path changes.mode)) ++ option_to_list sets.owner_set)
    ++ option_to_list (times_call now stat sets.path changes.accessed changes.modified)) done.answered.volume) (sym was.2)
    (subst (λ all. AreMade old.volume all done.answered.volume) sets.is made.0.2)) in
    let tree = done_tree old new now header operation done in
    let records : new.nodes ≡ old.nodes =
    done.nodes ∙ (made.1.0 ∙ set_remembered _ done.answered.volume.image old.nodes (sight_at old now) header changes) in
    let edition : new.volume.edition ≡ old.volume.edition = done.edition ∙ made_edition old.volume done.answered.volume all made.0.2 in
    let number : i_number old.volume.edition old.nodes header.node ≡ Some i = numbered (sight_at old now) header.node i sets.at in
    let later : i_number new.volume.edition new.nodes header.node ≡ Some i =
    ap (λ edition. i_number edition new.nodes header.node) edition ∙ (ap (λ ns. i_number old.volume.edition ns header.node) records ∙ number) in
    let owner : new.owner ≡ old.owner = done.owner ∙ done.served.0.owner in
    let stands : (tree_in new).nodes i ≡ Some set.is = ap (λ (t : Tree). t.nodes i) tree ∙ set.alters.stands.here in
    record {
      i = i;
      numbered = sets.at;
      stat = shown_stat old.owner (stat_of i was.0);
      special = special_of was.0.content;
      had = shows old header.node i was.0 number was.1;
      has = subst (λ special. Shows new header.node (with_changes old.owner now changes (shown_stat old.owner (stat_of i was.0))) special) set.special
          (subst (λ stat. Shows new header.node stat (special_of set.is.content))
          (ap (λ owner. shown_stat owner (stat_of i set.is)) owner ∙ set.stat) (shows new header.node i set.is later stands));
      was = was.0;
      stood = was.1;
      is = set.is;
      stands = stands;
      content = set.content;
      hidden = set.hidden;
      others = λ j other. ap (λ (t : Tree). t.nodes j) tree ∙ set.alters.others j other;
      files = done.files ∙ (made.1.1 ∙ set_files _ done.answered.volume.image (files_in old) (sight_at old now) header changes);
    }

-- a file without a name
file_set : (old new : MountedServer) (now : ℕ) (header : Header) (changes : AttributeChanges) (done : IsDone old new now header (operations.SetAttr changes))
    → done.answered.volume ≡ old.volume → IsReplied old done.answered now header (operations.SetAttr changes) (Ok done.reply)
    → SetsFile old new now header.node changes
file_set old new now header changes done volume replied =
    let made = sets_at (limits_in old) now header changes (files_in old) (record { files = files_in done.answered; reply = done.reply }) replied in
    let sets : SetsAt (files_in old) (files_in new) now header.node changes =
    record { place = made.place; file = made.file; at = made.at; is = done.files ∙ made.is } in
    record {
      attributes = present_attributes sets.file;
      bytes = sets.file.content;
      had = shows_file old header.node sets.place sets.file sets.at;
      has = shows_set old new now header.node changes sets;
      place = sets.place;
      before = sets.file;
      stood = sets.at.held;
      after = set_file now changes sets.file;
      kept = (refl, refl);
      files = sets.is;
      tree = done_tree old new now header (operations.SetAttr changes) done ∙ ap (λ (v : Mounted). (reads_as v.edition v.image).tree) volume;
    }

pub attributes_set : AttributesAreSet
attributes_set old new turn header changes consistent accepts =
    let done = is_done old new turn header (operations.SetAttr changes) accepts refl in by done (is_orphan old header.node) refl done.served.1
  where
    by : (done : IsDone old new turn.now header (operations.SetAttr changes)) (b : Bool) → is_orphan old header.node ≡ b
        → MatchBool b
        ((done.answered.volume ≡ old.volume) × (done.answered.nodes ≡ old.nodes)
        × IsReplied old done.answered turn.now header (operations.SetAttr changes) (Ok done.reply))
        (IsAnswered old done.answered turn.now header (operations.SetAttr changes) (Ok done.reply))
        → MatchBool b (SetsFile old new turn.now header.node changes) (SetsAttributes old new turn.now header.node changes)
    by done true is (volume, nodes, replied) = file_set old new turn.now header changes done volume replied
    by done false is answered = node_set old new turn.now header changes consistent done is
