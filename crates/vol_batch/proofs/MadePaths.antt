-- The node at the path of an accepted call, which is new or a file with new bytes; and the answers to queries about it.
use Rattle.std.proofs.Common.{◌≡◌, ◌≢◌, ◌∙◌, sym, ap, subst, refl, ℕ, ◌+◌, max, Bool, true, false, cond, not, nat_lt, nat_le, ◌&&◌, List, [], ◌∷◌, ◌++◌, length, Option, None, Some, Result, Ok, Err, arith}
use Rattle.std.specs.List.{list_any}
use Rattle.std.specs.Option.{is_none, is_some, ok_or, option_map, unwrap_or}
use Rattle.std.specs.Str.{bytes_eq}
use Rattle.std.proofs.lemmas.Bool.{and_parts, or_parts}
use Rattle.std.proofs.lemmas.List.{append-nil, drop_all}
use Rattle.vol_layout.specs.Ids.{is_bad_id}
use Rattle.vol_layout.specs.declared.edition.Edition.{Edition}
use Rattle.vol_layout.specs.declared.edition.Edition.TheVariants.{V6, V7}
use Rattle.vol_file.specs.Changes.{spliced}
use Rattle.vol_dir.specs.Access.{user, grants, may_read}
use Rattle.vol_dir.specs.Names.{Names, get, insert, dot, dot_dot}
use Rattle.vol_dir.specs.Tree.{Content, Body, Directory, Node, Tree, State, no_shape}
use Rattle.vol_dir.specs.Walk.{root, map_of, is_directory, has_zero, walk, walk_parent}
use Rattle.vol_dir.specs.declared.refusal.Refusal.{Refusal}
use Rattle.vol_dir.specs.declared.refusal.Refusal.TheVariants as refusals
use Rattle.vol_change.specs.Edits.{at_time, put_node, put_shape, new_content, new_node, new_directory, modified, body_of, set_at, after_write, after_truncate}
use Rattle.vol_change.specs.declared.new_nodes.NewFile.{NewFile}
use Rattle.vol_change.specs.declared.new_nodes.NewFile.TheVariants.{Regular, Special}
use Rattle.vol_layout.specs.declared.mode.DeviceId.{DeviceId}
use Rattle.vol_change.specs.Effects.{after_create, after_mkdir}
use Rattle.vol_change.specs.Nodes.{no_node, node_at, size_with_entry}
use Rattle.vol_change.specs.Ready.{TakesName}
use Rattle.vol_change.specs.Shapes.{new_directory_shape}
use Rattle.vol_volume.specs.Answer.{answer, kind_of_content, query_refusal, reply_of, reply_at, refused_or, read_bytes, stat_of}
use Rattle.vol_volume.specs.Journal.{MayAnswer}
use Rattle.vol_volume.specs.Step.{step, changed_by, on_node, on_parent}
use Rattle.vol_volume.specs.Verdict.{verdict, is_free_number, is_device, first_of, of_node, of_parent, creation, file_tests, mkdir_tests, truncate_tests}
use Rattle.vol_volume.specs.declared.calls.Call.TheVariants.{Create, Mkdir, Mknod, Truncate, Write}
use Rattle.vol_volume.specs.declared.calls.Done.{Done}
use Rattle.vol_volume.specs.declared.calls.Done.TheVariants.{Made, Wrote, Plain}
use Rattle.vol_volume.specs.declared.queries.Query.TheVariants as queries
use Rattle.vol_volume.specs.declared.queries.Reply.{Reply}
use Rattle.vol_volume.specs.declared.queries.Reply.TheVariants as replies
use Rattle.vol_volume.proofs.Accepted.{create_passed, creation_verdict, mkdir_passed}
use Rattle.vol_volume.proofs.PerformedCalls.{step_create}
use Rattle.vol_volume.proofs.TreeWalks.{Reaches, passes_first, reaches, parent_found}
use Rattle.vol_batch.specs.Paths.{HasFile}
use Rattle.vol_batch.proofs.MadeNames.{LeadsTo, MakesAt, MakesName, Gains, HasNoOthers, entered, get_insert, searched_names, path_kept, leads_still, name_made, name_linked, gains_made}

-- a free i-number has no node
free_none : (tree : Tree) (i : ℕ) → is_free_number tree i ≡ true → tree.nodes i ≡ None
free_none t i free =
    let above = and_parts (nat_lt (root t) i) (nat_le i t.geometry.last_inode && is_none (t.nodes i)) free in
    by (t.nodes i) (and_parts (nat_le i t.geometry.last_inode) (is_none (t.nodes i)) above.1).1
  where
    by : (node : Option Node) → is_none node ≡ true → node ≡ None
    by None e = refl
    by (Some node) e = absurd (cc)

-- a new directory has no names but `.` and `..`
bare_directory : (edition : Edition) (now perm i d : ℕ) → HasNoOthers None (Some (new_node edition user now perm (new_directory i d) 2 32))
bare_directory edition now perm i d word j is plain =
    let parts = or_parts (bytes_eq word dot) (bytes_eq word dot_dot) plain in
    let none : get (insert (insert [] dot i) dot_dot d) word ≡ None =
    get_insert (insert [] dot i) dot_dot word d
    ∙ (ap (λ b. cond b (Some d) (get (insert [] dot i) word)) parts.1
    ∙ (get_insert [] dot word i ∙ ap (λ b. cond b (Some i) (get [] word)) parts.0)) in
    let both : Err refusals.NoEntry ≡ Ok j = sym (ap (λ (o : Option ℕ). ok_or o refusals.NoEntry) none) ∙ is in
    absurd (cc)

-- a call that makes a node makes its name in the directory that its path leads to
makes_name : (state : State) (path : List ℕ) (now size d i : ℕ) (name : List ℕ) (node : Node) → Reaches state.tree path d name → TakesName state d name
    → is_free_number state.tree i ≡ true → HasNoOthers None (Some node)
    → MakesName state.tree.nodes (set_at (set_at state.tree.nodes i (Some node)) d (entered now size name i (set_at state.tree.nodes i (Some node) d))) d name i node
makes_name state path now size d i name node reached takes free bare =
    name_made state.tree.nodes now size d i name node reached.names (free_none state.tree i free) reached.searched
    (ap (λ names. get names name) (sym (searched_names (state.tree.nodes d) reached.names reached.searched)) ∙ takes.fresh) bare

-- if a call makes a name, its path ends with it
made_at : (old new : Tree) (path : List ℕ) (d i : ℕ) (name : List ℕ) (node : Node) → new.geometry.edition ≡ old.geometry.edition → Reaches old path d name
    → MakesName old.nodes new.nodes d name i node → MakesAt old new path node
made_at old new path d i name node same reached makes =
    (record { directory = d; name = name; number = i; edition = same; reached = reached; enters = makes.enters }, makes)

-- a path leads to a regular file with these bytes
pub record Holds (tree : Tree) (path bytes : List ℕ) : Type 0 where
  pub node : Node
  pub leads : LeadsTo tree path node
  pub content : node.content ≡ Body bytes
  pub size : node.size ≡ length bytes

-- a new file has no names
bare_file : (edition : Edition) (now perm : ℕ) (file : NewFile) → HasNoOthers None (Some (new_node edition user now perm (new_content edition file) 1 0))
bare_file edition now perm Regular word j is plain = is
bare_file edition now perm (Special device) word j is plain = is

-- a creation that may be answered with an i-number was answered with a free one
pub made_free : (file : NewFile) (state : State) (now perm : ℕ) (path : List ℕ) (done : Done) → MayAnswer state (creation file user now path perm) done
    → (i : ℕ) × (done ≡ Made i) × (is_free_number state.tree i ≡ true)
made_free Regular state now perm path (Made i) free = (i, refl, free)
made_free Regular state now perm path (Wrote n) free = absurd free
made_free Regular state now perm path Plain free = absurd free
made_free (Special device) state now perm path (Made i) free = (i, refl, free)
made_free (Special device) state now perm path (Wrote n) free = absurd free
made_free (Special device) state now perm path Plain free = absurd free

-- an accepted creation makes a file at its path
pub creation_makes : (file : NewFile) (state : State) (now perm : ℕ) (path : List ℕ) (done : Done) → verdict state (creation file user now path perm) ≡ None
    → MayAnswer state (creation file user now path perm) done
    → MakesAt state.tree (step state (creation file user now path perm) done).tree path
    (new_node state.tree.geometry.edition user now perm (new_content state.tree.geometry.edition file) 1 0)
creation_makes file state now perm path done accepted answered =
    let made = made_free file state now perm path done answered in
    let i = made.0 in
    let node = new_node state.tree.geometry.edition user now perm (new_content state.tree.geometry.edition file) 1 0 in
    let passed = sym (creation_verdict file state user now path perm) ∙ accepted in
    let first = passes_first state.tree path (of_parent (walk_parent state.tree user path) refusals.Exists (file_tests file state user)) passed in
    let parent = parent_found (walk_parent state.tree user path) refusals.Exists (file_tests file state user) first.others_pass in
    let may = create_passed file state user path parent.0 parent.1 passed parent.2 in
    let size = size_with_entry (put_shape i no_shape (put_node i (Some node) state)) parent.0 in
    let reached = reaches state.tree path parent.0 parent.1 parent.2 in
    let stepped = step_create state user now path file perm i parent.0 parent.1 parent.2 in
    subst (λ (d : Done). MakesAt state.tree (step state (creation file user now path perm) d).tree path node) (sym made.1)
    (subst (λ (s : State). MakesAt state.tree s.tree path node) (sym stepped)
    (made_at state.tree (at_time now (after_create state user now perm file i parent.0 parent.1)).tree path parent.0 i parent.1 node refl reached
    (makes_name state path now size parent.0 i parent.1 node reached may.0.takes made.2 (bare_file state.tree.geometry.edition now perm file))))

-- an accepted Create makes an empty file at its path
pub create_makes : (state : State) (now perm : ℕ) (path : List ℕ) (done : Done) → verdict state (Create user now path perm) ≡ None
    → MayAnswer state (Create user now path perm) done
    → MakesAt state.tree (step state (Create user now path perm) done).tree path (new_node state.tree.geometry.edition user now perm (Body []) 1 0)
create_makes = creation_makes Regular

-- after an accepted Mknod the path leads to the special file
pub mknod_gains : (state : State) (now perm : ℕ) (device : DeviceId) (path : List ℕ) (done : Done) → verdict state (Mknod user now path perm device) ≡ None
    → MayAnswer state (Mknod user now path perm device) done
    → Gains state.tree (step state (Mknod user now path perm device) done).tree path
    (new_node state.tree.geometry.edition user now perm (new_content state.tree.geometry.edition (Special device)) 1 0)
mknod_gains state now perm device path done accepted free =
    gains_made state.tree _ path _ (creation_makes (Special device) state now perm path done accepted free)

pub create_gains : (state : State) (now perm : ℕ) (path : List ℕ) (done : Done) → verdict state (Create user now path perm) ≡ None
    → MayAnswer state (Create user now path perm) done
    → Gains state.tree (step state (Create user now path perm) done).tree path (new_node state.tree.geometry.edition user now perm (Body []) 1 0)
create_gains state now perm path done accepted free = gains_made state.tree _ path _ (create_makes state now perm path done accepted free)

pub create_holds : (state : State) (now perm : ℕ) (path : List ℕ) (done : Done) → verdict state (Create user now path perm) ≡ None
    → MayAnswer state (Create user now path perm) done → Holds (step state (Create user now path perm) done).tree path []
create_holds state now perm path done accepted free = record {
  node = new_node state.tree.geometry.edition user now perm (Body []) 1 0;
  leads = (create_gains state now perm path done accepted free).leads;
  content = refl;
  size = refl;
}

-- an accepted Mkdir makes a directory at its path
pub mkdir_makes : (state : State) (now perm : ℕ) (path : List ℕ) (done : Done) → verdict state (Mkdir user now path perm) ≡ None
    → MayAnswer state (Mkdir user now path perm) done
    → (names : Names) × MakesAt state.tree (step state (Mkdir user now path perm) done).tree path
    (new_node state.tree.geometry.edition user now perm (Directory names) 2 32)
unfolding verdict changed_by
mkdir_makes state now perm path (Made i) accepted free =
    let first = passes_first state.tree path (of_parent (walk_parent state.tree user path) refusals.Exists (mkdir_tests state user)) accepted in
    let parent = parent_found (walk_parent state.tree user path) refusals.Exists (mkdir_tests state user) first.others_pass in
    let may = mkdir_passed state user path parent.0 parent.1 accepted parent.2 in
    let node = new_node state.tree.geometry.edition user now perm (new_directory i parent.0) 2 32 in
    let put = set_at state.tree.nodes i (Some node) in
    let size = size_with_entry (put_shape i (new_directory_shape state.tree.geometry.edition) (put_node i (Some node) state)) parent.0 in
    let reached = reaches state.tree path parent.0 parent.1 parent.2 in (
      insert (insert [] dot i) dot_dot parent.0,
      subst (λ (p : Option (Result (ℕ × List ℕ) Refusal)). MakesAt state.tree (at_time now (on_parent state p (after_mkdir state user now perm i))).tree path node)
          (sym parent.2)
          (made_at state.tree (at_time now (after_mkdir state user now perm i parent.0 parent.1)).tree path parent.0 i parent.1 node refl reached
          (name_linked state.tree.nodes (set_at put parent.0 (entered now size parent.1 i (put parent.0))) now parent.0 i parent.1 node
          (makes_name state path now size parent.0 i parent.1 node reached may.0.takes free
          (bare_directory state.tree.geometry.edition now perm i parent.0)))),
    )
mkdir_makes state now perm path (Wrote n) accepted free = absurd free
mkdir_makes state now perm path Plain accepted free = absurd free

pub mkdir_gains : (state : State) (now perm : ℕ) (path : List ℕ) (done : Done) → verdict state (Mkdir user now path perm) ≡ None
    → MayAnswer state (Mkdir user now path perm) done
    → (names : Names) × Gains state.tree (step state (Mkdir user now path perm) done).tree path
    (new_node state.tree.geometry.edition user now perm (Directory names) 2 32)
mkdir_gains state now perm path done accepted free =
    let made = mkdir_makes state now perm path done accepted free in
    (made.0, gains_made state.tree _ path _ made.1)

-- if no check of a node fails, there is a node
pub node_found : (walked : Result ℕ Refusal) (others : ℕ → Option Refusal) → of_node walked others ≡ None → (i : ℕ) × (walked ≡ Ok i) × (others i ≡ None)
node_found (Ok i) others e = (i, refl, e)
node_found (Err refusal) others e = absurd (cc)

-- if a list of tests has no refusal, its first test is false, and the others have none
pub not_first : (test : Bool) (refusal : Refusal) (others : Option Refusal) → cond test (Some refusal) others ≡ None → (test ≡ false) × (others ≡ None)
not_first true refusal others e = absurd (cc)
not_first false refusal others e = (refl, e)

-- a node without its bytes, if there is one
abbrev emptied : ℕ → Option Node → Option Node
emptied now node = option_map (λ (x : Node). record (modified now x) { content = Body []; size = 0 }) node

empty_holds : (tree : Tree) (now : ℕ) (path : List ℕ) (i : ℕ) (was : Option Node) → (walk tree user path ≡ Ok i) × (tree.nodes i ≡ emptied now was)
    → (walk tree user path ≡ Ok i → tree.nodes i ≢ None) → Holds tree path []
empty_holds tree now path i None led some = absurd (some led.0 led.1)
empty_holds tree now path i (Some node) led some = record {
  node = record (modified now node) { content = Body []; size = 0 };
  leads = record { number = i; walked = led.0; stands = led.1 };
  content = refl;
  size = refl;
}

-- an accepted Truncate to 0 bytes leaves an empty file at its path, if every walk of the path in the new tree leads to a node
pub truncate_holds : (state : State) (now : ℕ) (path : List ℕ) (done : Done) → verdict state (Truncate user now path 0) ≡ None
    → ((i : ℕ) → walk (step state (Truncate user now path 0) done).tree user path ≡ Ok i → (step state (Truncate user now path 0) done).tree.nodes i ≢ None)
    → Holds (step state (Truncate user now path 0) done).tree path []
unfolding verdict changed_by
truncate_holds state now path done accepted there =
    let first = passes_first state.tree path (of_node (walk state.tree user path) (λ i. first_of (truncate_tests state.tree user 0 i))) accepted in
    let led = node_found (walk state.tree user path) (λ i. first_of (truncate_tests state.tree user 0 i)) first.others_pass in
    let plain = (not_first (is_directory (node_at state.tree led.0)) refusals.IsDirectory _ led.2).0 in
    let new = (at_time now (after_truncate state now 0 led.0)).tree in
    subst (λ (t : Tree). ((i : ℕ) → walk t user path ≡ Ok i → t.nodes i ≢ None) → Holds t path [])
    (sym (ap (λ (r : Result ℕ Refusal). (at_time now (on_node state r (after_truncate state now 0))).tree) led.1))
    (λ some. empty_holds new now path led.0 (state.tree.nodes led.0)
    (leads_still state.tree new path led.0 (emptied now (state.tree.nodes led.0)) refl refl plain led.1) (some led.0)) there

-- splicing bytes into no bytes at 0 gives these bytes
pub spliced_all : (bytes : List ℕ) → spliced [] 0 bytes ≡ bytes
spliced_all bytes = ap (λ rest. bytes ++ rest) (drop_all (0 + length bytes) [] (omega arith)) ∙ append-nil bytes

-- bytes written at the start of an empty file are its contents
written_holds : (state : State) (now : ℕ) (path bytes : List ℕ) (held : Holds state.tree path [])
    → Holds (at_time now (after_write state now 0 bytes held.leads.number)).tree path bytes
written_holds state now path [] held = record {
  node = held.node;
  leads = record {
    number = held.leads.number;
    walked = path_kept state.tree (at_time now state).tree path held.leads.number refl (λ x name j e. e) held.leads.walked;
    stands = held.leads.stands;
  };
  content = held.content;
  size = held.size;
}
written_holds state now path (byte ∷ bytes) held =
    let i = held.leads.number in
    let all = byte ∷ bytes in
    let write : Node → Node = λ node. record (modified now node) { content = Body (spliced (body_of node.content) 0 all); size = max node.size (0 + length all) } in
    let plain = ap (λ (n : Option Node). is_directory (unwrap_or n no_node)) held.leads.stands ∙ ap (λ (c : Content). is_some (map_of c)) held.content in
    let led = leads_still state.tree (at_time now (after_write state now 0 all i)).tree path i (option_map write (state.tree.nodes i)) refl refl plain held.leads.walked in
    let size = held.size in
    record {
      node = write held.node;
      leads = record { number = i; walked = led.0; stands = led.1 ∙ ap (option_map write) held.leads.stands };
      content = ap (λ (c : Content). Body (spliced (body_of c) 0 all)) held.content ∙ ap Body (spliced_all all);
      size = omega (arith, size);
    }

-- an accepted Write to an empty file leaves its bytes there
pub write_holds : (state : State) (now : ℕ) (path bytes : List ℕ) (done : Done) → Holds state.tree path []
    → Holds (step state (Write user now path 0 bytes) done).tree path bytes
unfolding changed_by
write_holds state now path bytes done held =
    subst (λ (r : Result ℕ Refusal). Holds (at_time now (on_node state r (after_write state now 0 bytes))).tree path bytes) (sym held.leads.walked)
    (written_holds state now path bytes held)

-- user 0 and group 0 are within the limits of both editions
pub good_id : (edition : Edition) → is_bad_id edition 0 0 ≡ false
good_id V6 = refl
good_id V7 = refl

-- a query whose checks all pass is answered
answered : (bad zero : Bool) (walked : Result ℕ Refusal) (others : ℕ → Option Refusal) (reply : ℕ → Reply) (i : ℕ) → bad ≡ false → zero ≡ false
    → walked ≡ Ok i → others i ≡ None
    → refused_or (cond bad (Some refusals.BadId) (cond zero (Some refusals.Invalid) (of_node walked others))) (reply_at walked reply) ≡ Ok (reply i)
answered true zero walked others reply i good plain is none = absurd (cc)
answered false true walked others reply i good plain is none = absurd (cc)
answered false false (Err refusal) others reply i good plain is none = absurd (cc)
answered false false (Ok j) others reply i good plain is none =
    let same : j ≡ i = cc in
    ap (λ (o : Option Refusal). refused_or o (Ok (reply j))) (ap others same ∙ none) ∙ ap (λ k. Ok (reply k)) same

-- a Stat returns the attributes of the node that a path leads to
pub walk_answered : (tree : Tree) (path : List ℕ) (i : ℕ) → list_any has_zero (path ∷ []) ≡ false → walk tree user path ≡ Ok i
    → answer tree (queries.Stat user path) ≡ Ok (replies.Stat (stat_of i (node_at tree i)))
unfolding query_refusal reply_of
walk_answered tree path i plain walked =
    answered (is_bad_id tree.geometry.edition 0 0) (list_any has_zero (path ∷ [])) (walk tree user path) (λ j. None)
    (λ j. replies.Stat (stat_of j (node_at tree j))) i (good_id tree.geometry.edition) plain walked refl

pub stat_answered : (tree : Tree) (path : List ℕ) (node : Node) → list_any has_zero (path ∷ []) ≡ false → (leads : LeadsTo tree path node)
    → answer tree (queries.Stat user path) ≡ Ok (replies.Stat (stat_of leads.number node))
stat_answered tree path node plain leads =
    walk_answered tree path leads.number plain leads.walked
    ∙ ap (λ (n : Option Node). Ok (replies.Stat (stat_of leads.number (unwrap_or n no_node)))) leads.stands

-- the checks of a Read for a node
abbrev read_tests : Node → Option Refusal
read_tests node =
    first_of ((is_directory node, refusals.IsDirectory) ∷ (is_device node.content, refusals.NotRegular) ∷ (not (grants may_read user node), refusals.Access) ∷ [])

abbrev held_tests : Content → Option Refusal
held_tests held = first_of ((is_some (map_of held), refusals.IsDirectory) ∷ (is_device held, refusals.NotRegular) ∷ (false, refusals.Access) ∷ [])

-- a Read returns the bytes of the file that a path leads to
pub read_answered : (tree : Tree) (path bytes : List ℕ) (offset len : ℕ) (node : Node) → list_any has_zero (path ∷ []) ≡ false → LeadsTo tree path node
    → node.content ≡ Body bytes → answer tree (queries.Read user path offset len) ≡ Ok (replies.Bytes (read_bytes bytes offset len))
unfolding query_refusal reply_of
read_answered tree path bytes offset len node plain leads content =
    let i = leads.number in
    answered (is_bad_id tree.geometry.edition 0 0) (list_any has_zero (path ∷ [])) (walk tree user path) (λ j. read_tests (node_at tree j))
    (λ j. replies.Bytes (read_bytes (body_of (node_at tree j).content) offset len)) i (good_id tree.geometry.edition) plain leads.walked
    (ap (λ (n : Option Node). read_tests (unwrap_or n no_node)) leads.stands ∙ ap held_tests content)
    ∙ (ap (λ (n : Option Node). Ok (replies.Bytes (read_bytes (body_of (unwrap_or n no_node).content) offset len))) leads.stands
    ∙ ap (λ (c : Content). Ok (replies.Bytes (read_bytes (body_of c) offset len))) content)

-- a path that leads to a regular file with these bytes satisfies `HasFile`
abbrev pub holds_file : (tree : Tree) (path bytes : List ℕ) → list_any has_zero (path ∷ []) ≡ false → Holds tree path bytes → HasFile tree path bytes
holds_file tree path bytes plain held = record {
  stat = stat_of held.leads.number held.node;
  found = stat_answered tree path held.node plain held.leads;
  kind = ap kind_of_content held.content;
  size = held.size;
  read = λ offset len. read_answered tree path bytes offset len held.node plain held.leads held.content;
}
