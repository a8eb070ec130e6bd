-- After RENAME the new name leads to what the old one led to, the old one to nothing, and all other names stay.
use Rattle.std.proofs.Common.{◌≡◌, ◌≢◌, ◌∙◌, ◌⊎◌, sym, ap, subst, refl, ℕ, ◌+◌, ◌-◌, arith, Bool, true, false, cond, eq-eqb, List, [], ◌∷◌, ◌++◌, Option, None, Some, Result, Ok, Err, inl, inr}
use Rattle.std.specs.Prelude.{◌==◌, nat_lt, nat_le, if◌then◌else◌}
use Rattle.std.specs.Option.{option_map}
use Rattle.std.specs.Result.{IfOk}
use Rattle.std.proofs.lemmas.Bool.{eqb-true, true≢false}
use Rattle.fuse_words.specs.declared.operation.Operation.{Operation}
use Rattle.fuse_words.specs.declared.operation.Operation.TheVariants as operations
use Rattle.fuse_words.specs.declared.request.Header.{Header}
use Rattle.pdp_words.specs.Steps.{and_then}
use Rattle.vol_layout.specs.Edition.{constants}
use Rattle.vol_layout.specs.Geometry.{Fits, geometry_of}
use Rattle.vol_dir.specs.Access.{user}
use Rattle.vol_dir.specs.Names.{Names}
use Rattle.vol_dir.specs.Tree.{Node, Tree, tree}
use Rattle.vol_dir.specs.Walk.{walk}
use Rattle.vol_judge.specs.Sound.{IsSound}
use Rattle.vol_judge.proofs.Parts.{sound_fits}
use Rattle.vol_change.specs.Edits.{stamped}
use Rattle.vol_volume.specs.Volume.{Accepts, Mounted}
use Rattle.vol_volume.specs.declared.calls.Call.{Call}
use Rattle.vol_volume.specs.declared.calls.Call.TheVariants as calls
use Rattle.vol_volume.specs.declared.calls.Done.{Done}
use Rattle.vol_volume.specs.declared.queries.Stat.{Stat}
use Rattle.vol_batch.specs.Batch.{AreMade}
use Rattle.vol_batch.proofs.MadeNames.{linked}
use Rattle.vol_volume.proofs.TreeWalks.{searched}
use Rattle.vol_serve.specs.Nodes.{look_up}
use Rattle.vol_serve.specs.declared.nodes.fault.NodeFault.{NodeFault}
use Rattle.vol_serve.specs.declared.nodes.fault.NodeFault.TheVariants as faults
use Rattle.vol_mounted.specs.Laws.{MovesName, Renames, RenamesLead, Renaming, renaming_of, tree_in}
use Rattle.vol_mounted.specs.Plans.{Sight, is_directory, name_at, named_calls, replace_calls, stat_at}
use Rattle.vol_mounted.specs.Refusals.{of_nodes}
use Rattle.vol_mounted.specs.Replies.{calls_of, number_at, renamed}
use Rattle.vol_mounted.specs.Servers.{sight_at}
use Rattle.vol_mounted.specs.Turns.{is_sync}
use Rattle.vol_mounted.specs.declared.refusal.MountedRefusal.{MountedRefusal}
use Rattle.vol_mounted.specs.declared.refusal.MountedRefusal.TheVariants as mounted
use Rattle.vol_mounted.proofs.AcceptedTurns.{done_tree, is_done, is_made, rename_named}
use Rattle.vol_mounted.proofs.FreeNodes.{state_of}
use Rattle.vol_mounted.proofs.MakingPlans.{IsPathed, asked_holds, has_held, if_holds, name_pathed, stat_node, then_holds}
use Rattle.vol_mounted.proofs.NameEntries.{IsName, dropped, entry, entry_leads, entry_map, is_led, is_missing, links, lives, no_entry, none_leads, parent_entry, path_past, path_stays, unlinks, walk_entry}
use Rattle.vol_mounted.proofs.NewNodes.{sound_next}
use Rattle.vol_mounted.proofs.NodeNumbers.{planned_calls}

-- what the new name of node i leads to before a rename, and the calls of the rename
abbrev IsPlan : ℕ → List ℕ → List ℕ → ℕ → Result ℕ NodeFault → List Call → Type 0
IsPlan now source target i there all =
    ((there ≡ Ok i) × (all ≡ []))
    ⊎ (((there ≡ Err faults.NoEntry) × (all ≡ calls.Link user now source target ∷ calls.Unlink user now source ∷ []))
    ⊎ ((j : ℕ) × (there ≡ Ok j) × (j ≢ i) × (all ≡ calls.Unlink user now target ∷ calls.Link user now source target ∷ calls.Unlink user now source ∷ [])))

plan_named : (sight : Sight) (flags : ℕ) (stat : Stat) (source target : List ℕ) (i : ℕ) (there : Result ℕ NodeFault) → i ≡ stat.number
    → IfOk (named_calls sight flags stat source target there) (IsPlan sight.now source target i there)
plan_named sight flags stat source target i (Ok j) number =
    if_holds (IsPlan sight.now source target i (Ok j)) (flags == 1) _ _ tt (by (j == stat.number) refl)
  where
    by : (same : Bool) → (j == stat.number) ≡ same
        → IfOk (if same then Ok [] else and_then (stat_at sight j) (λ there. replace_calls sight stat there source target)) (IsPlan sight.now source target i (Ok j))
    by true same = inl (ap Ok (eqb-true j stat.number same ∙ sym number), refl)
    by false other =
        let apart : j ≢ i = λ same. true≢false (sym (eq-eqb j stat.number (same ∙ number)) ∙ other) in
        then_holds (IsPlan sight.now source target i (Ok j)) (stat_at sight j) _ (λ there is.
        if_holds (IsPlan sight.now source target i (Ok j)) (is_directory there.kind) _ _ tt
        (if_holds (IsPlan sight.now source target i (Ok j)) (nat_le (constants sight.geometry.edition).link_limit stat.links) _ _ tt
        (asked_holds (IsPlan sight.now source target i (Ok j)) _ _ (inr (inr (j, refl, apart, refl))))))
plan_named sight flags stat source target i (Err faults.NoEntry) number =
    asked_holds (IsPlan sight.now source target i (Err faults.NoEntry)) _ _ (inr (inl (refl, refl)))
plan_named sight flags stat source target i (Err fault) number = tt

-- the calls of a rename
record PlansRename (sight : Sight) (node : ℕ) (names : Renaming) (all : List Call) : Type 0 where
  pub d : ℕ
  pub e : ℕ
  pub i : ℕ
  pub at : number_at sight node ≡ Ok d
  pub to : number_at sight names.directory ≡ Ok e
  pub source : List ℕ
  pub source_is : IsPathed sight d names.name source
  pub target : List ℕ
  pub target_is : IsPathed sight e names.new_name target
  pub led : look_up (tree sight.geometry sight.image) d names.name ≡ Ok i
  pub plan : IsPlan sight.now source target i (look_up (tree sight.geometry sight.image) e names.new_name) all

if_more : (P Q : List Call → Type 0) (result : Result (List Call) MountedRefusal) → ((all : List Call) → P all → Q all) → IfOk result P → IfOk result Q
if_more P Q (Ok all) more holds = more all holds
if_more P Q (Err refusal) more holds = tt

found_node : (r : Result ℕ NodeFault) (i : ℕ) → of_nodes r ≡ Ok i → r ≡ Ok i
found_node (Ok j) i is = cc
found_node (Err fault) i is = absurd (cc)

plans_rename : (sight : Sight) (header : Header) (flags : ℕ) (names : Renaming)
    → IfOk (renamed sight header names.directory flags names.name names.new_name) (PlansRename sight header.node names)
plans_rename sight header flags names =
    let P = PlansRename sight header.node names in
    let t = tree sight.geometry sight.image in
    then_holds P (number_at sight header.node) _ (λ d at.
    then_holds P (number_at sight names.directory) _ (λ e to.
    if_holds P (nat_lt 1 flags) _ _ tt
    (then_holds P (name_at sight d names.name) _ (λ source source_is.
    then_holds P (name_at sight e names.new_name) _ (λ target target_is.
    then_holds P (of_nodes (look_up t d names.name)) _ (λ i led.
    then_holds P (stat_at sight i) _ (λ stat stat_is.
    let node = stat_node sight i stat stat_is in
    let number : i ≡ stat.number = ap (λ (s : Stat). s.number) node.2 in
    if_holds P (is_directory stat.kind) (Err mounted.IsDirectory) (named_calls sight flags stat source target (look_up t e names.new_name)) tt
    (if_more (IsPlan sight.now source target i (look_up t e names.new_name)) P (named_calls sight flags stat source target (look_up t e names.new_name)) (λ all plan. record {
      d = d;
      e = e;
      i = i;
      at = at;
      to = to;
      source = source;
      source_is = has_held (IsPathed sight d names.name) _ source (name_pathed sight d names.name) source_is;
      target = target;
      target_is = has_held (IsPathed sight e names.new_name) _ target (name_pathed sight e names.new_name) target_is;
      led = found_node (look_up t d names.name) i led;
      plan = plan;
    }) (plan_named sight flags stat source target i (look_up t e names.new_name) number)))))))))

plans : (sight : Sight) (header : Header) (operation : Operation) (names : Renaming) → renaming_of operation ≡ Some names
    → IfOk (calls_of sight header operation) (PlansRename sight header.node names)
unfolding calls_of
plans sight header (operations.Rename directory name new_name) names is =
    let one : Renaming = record { name = name; directory = directory; new_name = new_name } in
    let same : names ≡ one = cc in
    subst (λ (n : Renaming). IfOk (renamed sight header directory 0 name new_name) (PlansRename sight header.node n)) (sym same) (plans_rename sight header 0 one)
plans sight header (operations.Rename2 directory flags name new_name) names is =
    let one : Renaming = record { name = name; directory = directory; new_name = new_name } in
    let same : names ≡ one = cc in
    subst (λ (n : Renaming). IfOk (renamed sight header directory flags name new_name) (PlansRename sight header.node n)) (sym same) (plans_rename sight header flags one)
plans sight header operation names is = absurd (cc)

rename_quiet : (operation : Operation) (names : Renaming) → renaming_of operation ≡ Some names → is_sync operation ≡ false
rename_quiet (operations.Rename directory name new_name) names is = refl
rename_quiet (operations.Rename2 directory flags name new_name) names is = refl
rename_quiet operation names is = absurd (cc)

-- the entries of the trees before and after node i got its new name and lost its old one
record Moves (old new : Tree) (now i d : ℕ) (name : List ℕ) (e : ℕ) (new_name : List ℕ) : Type 0 where
  pub here : entry new e new_name ≡ Some i
  pub gone : entry new d name ≡ None
  pub others : (x : ℕ) (word : List ℕ) → (x ≡ d → word ≡ name → ⊥) → (x ≡ e → word ≡ new_name → ⊥) → entry new x word ≡ entry old x word
  pub names : Names
  pub held : searched (new.nodes d) ≡ Ok names
  pub away : e ≢ i
  pub last : Bool
  pub node : new.nodes i ≡ cond last None (option_map (dropped now) (linked now (old.nodes i)))
  pub stays : (x : ℕ) → x ≢ i → x ≢ d → x ≢ e → (entry old e new_name ≡ Some x → ⊥) → new.nodes x ≡ old.nodes x

-- an accepted Link to a free name, and an accepted Unlink of the old one
moves : (old mid new : Mounted) (now : ℕ) (from name to new_name : List ℕ) (d e i : ℕ) (names : Names) (done after : Done) → IsName name → IsName new_name
    → Accepts old mid (calls.Link user now (from ++ 47 ∷ name) (to ++ 47 ∷ new_name)) done → Accepts mid new (calls.Unlink user now (from ++ 47 ∷ name)) after
    → walk (state_of old).tree user from ≡ Ok d → walk (state_of old).tree user to ≡ Ok e → entry (state_of old).tree d name ≡ Some i
    → searched ((state_of old).tree.nodes e) ≡ Ok names → Moves (state_of old).tree (state_of new).tree now i d name e new_name
moves old mid new now from name to new_name d e i names done after is new_is first second led there here held =
    let t = (state_of old).tree in
    let m = (state_of mid).tree in
    let source = from ++ 47 ∷ name in
    let link = links old mid now source (to ++ 47 ∷ new_name) e new_name i names done first (walk_entry t from name d i is led here)
    (parent_entry t to new_name e names new_is there held) held in
    let apart : d ≡ e → name ≡ new_name → ⊥ = λ same_d same_name.
    let both : None ≡ Some i = sym link.fresh ∙ (ap (entry t e) (sym same_name) ∙ (ap (λ k. entry t k name) (sym same_d) ∙ here)) in cc in
    let still : entry m d name ≡ Some i = link.others d name apart ∙ here in
    let map = entry_map (m.nodes d) name i still in
    let walked : walk m user from ≡ Ok d = path_stays t m e new_name link.fresh link.others link.begins from d led in
    let lost = unlinks mid new now source d name i after second (parent_entry m from name d map.0 is walked map.1) still in
    record {
      here = lost.others e new_name (λ same_e same_name. apart (sym same_e) (sym same_name)) ∙ link.here;
      gone = lost.gone;
      others = λ x word other_d other_e. lost.others x word other_d ∙ link.others x word other_e;
      names = lost.names;
      held = lost.held;
      away = link.away;
      last = lost.last;
      node = lost.node ∙ ap (λ n. cond lost.last None (option_map (dropped now) n)) link.node;
      stays = λ x other_i other_d other_e other_j. lost.stays x other_d other_i ∙ link.stays x other_e other_i;
    }

-- an accepted Unlink of the new name before
moves_over : (old mid new : Mounted) (now : ℕ) (from name to new_name : List ℕ) (d e i j : ℕ) (done : Done) → IsName name → IsName new_name
    → Accepts old mid (calls.Unlink user now (to ++ 47 ∷ new_name)) done
    → ((names : Names) → walk (state_of mid).tree user from ≡ Ok d → walk (state_of mid).tree user to ≡ Ok e → entry (state_of mid).tree d name ≡ Some i
    → searched ((state_of mid).tree.nodes e) ≡ Ok names → Moves (state_of mid).tree (state_of new).tree now i d name e new_name)
    → walk (state_of old).tree user from ≡ Ok d → walk (state_of old).tree user to ≡ Ok e → entry (state_of old).tree d name ≡ Some i
    → entry (state_of old).tree e new_name ≡ Some j → j ≢ i → Moves (state_of old).tree (state_of new).tree now i d name e new_name
moves_over old mid new now from name to new_name d e i j done is new_is first onward led there here over other =
    let t = (state_of old).tree in
    let m = (state_of mid).tree in
    let map = entry_map (t.nodes e) new_name j over in
    let lost = unlinks old mid now (to ++ 47 ∷ new_name) e new_name j done first (parent_entry t to new_name e map.0 new_is there map.1) over in
    let bare : (word : List ℕ) → entry t j word ≡ None = λ word. no_entry (t.nodes j) word lost.plain in
    let apart_d : j ≢ d = λ same. let both : None ≡ Some i = sym (bare name) ∙ (ap (λ k. entry t k name) same ∙ here) in cc in
    let apart_e : j ≢ e = λ same. let both : None ≡ Some j = sym (bare new_name) ∙ (ap (λ k. entry t k new_name) same ∙ over) in cc in
    let apart : d ≡ e → name ≡ new_name → ⊥ = λ same_d same_name.
    let both : Some j ≡ Some i = sym over ∙ (ap (entry t e) (sym same_name) ∙ (ap (λ k. entry t k name) (sym same_d) ∙ here)) in
    let same : j ≡ i = cc in other same in
    let rest = onward lost.names (path_past t m e j new_name over bare lost.others lost.begins from d apart_d led)
    (path_past t m e j new_name over bare lost.others lost.begins to e apart_e there) (lost.others d name apart ∙ here) lost.held in
    let away = rest.away in
    let same : m.nodes i ≡ t.nodes i = lost.stays i (λ at. away (sym at)) (λ at. other (sym at)) in
    record {
      here = rest.here;
      gone = rest.gone;
      others = λ x word other_d other_e. rest.others x word other_d other_e ∙ lost.others x word other_e;
      names = rest.names;
      held = rest.held;
      away = rest.away;
      last = rest.last;
      node = rest.node ∙ ap (λ n. cond rest.last None (option_map (dropped now) (linked now n))) same;
      stays = λ x other_i other_d other_e other_j.
          rest.stays x other_i other_d other_e (λ now_there. let both : None ≡ Some x = sym lost.gone ∙ now_there in cc)
          ∙ lost.stays x other_e (λ at. other_j (over ∙ ap Some (sym at)));
    }

-- the node after it got a name and lost one
twice : (now : ℕ) (time : Option ℕ) → option_map (λ _. now) (option_map (λ _. now) time) ≡ option_map (λ _. now) time
twice now None = refl
twice now (Some time) = refl

stamped_once : (now : ℕ) (node : Node) → dropped now (record (stamped now node) { links = node.links + 1 }) ≡ stamped now node
stamped_once now node =
    let links : node.links + 1 - 1 ≡ node.links = omega arith in
    ap (λ n. record (dropped now (record (stamped now node) { links = node.links + 1 })) { links = n }) links
    ∙ ap (λ (time : Option ℕ). record node { changed = time }) (twice now node.changed)

node_moved : (now : ℕ) (last : Bool) (was is : Option Node) → is ≡ cond last None (option_map (dropped now) (linked now was)) → is ≢ None
    → is ≡ option_map (stamped now) was
node_moved now true was is same some = absurd (some same)
node_moved now false None is same some = absurd (some same)
node_moved now false (Some node) is same some = same ∙ ap Some (stamped_once now node)

-- the geometry of a volume fits its image, which is sound
abbrev IsWhole : Mounted → Type 0
IsWhole volume = Fits (geometry_of volume.edition volume.image) volume.image × IsSound volume.edition volume.image

-- the names of the trees before and after
moves_name : (old new : Mounted) (now i d : ℕ) (name : List ℕ) (e : ℕ) (new_name : List ℕ) → IsName name → IsName new_name → IsWhole old → IsWhole new
    → Moves (state_of old).tree (state_of new).tree now i d name e new_name
    → MovesName (state_of old).tree (state_of new).tree now i d name e new_name
moves_name old new now i d name e new_name is new_is before after moved =
    let t = (state_of old).tree in
    let n = (state_of new).tree in
    let there = lives new after e new_name i moved.here in
    record {
      leads = entry_leads n e new_name i there.0 new_is.short moved.here there.1;
      gone = none_leads n d name moved.names is.short moved.held moved.gone;
      others = λ x j word other_d other_e. (
        λ led.
            let was = is_led t x word j led in
            let here = moved.others x word other_d other_e ∙ was.here in
            let node = lives new after x word j here in
            entry_leads n x word j node.0 was.short here node.1,
        λ led.
            let was = is_led n x word j led in
            let here = sym (moved.others x word other_d other_e) ∙ was.here in
            let node = lives old before x word j here in
            entry_leads t x word j node.0 was.short here node.1,
      );
      node = node_moved now moved.last (t.nodes i) (n.nodes i) moved.node (λ none. let both : None ≡ Some there.0 = sym none ∙ there.1 in cc);
      stays = λ j other_i other_d other_e other_j. moved.stays j other_i other_d other_e (λ over.
          let node = lives old before e new_name j over in
          other_j (entry_leads t e new_name j node.0 new_is.short over node.1));
    }

-- a volume that accepted a call is whole
whole_before : (old new : Mounted) (call : Call) (done : Done) → Accepts old new call done → IsSound old.edition old.image → IsWhole old
whole_before old new call done accepts sound = (sound_fits old.edition old.image sound accepts.performed.changes.ready.fits.limit, sound)

-- a rename to a free name
to_free : (old new : Mounted) (now : ℕ) (from name to new_name : List ℕ) (d e i : ℕ) → IsSound old.edition old.image → IsName name → IsName new_name
    → walk (state_of old).tree user from ≡ Ok d → walk (state_of old).tree user to ≡ Ok e → look_up (state_of old).tree d name ≡ Ok i
    → look_up (state_of old).tree e new_name ≡ Err faults.NoEntry
    → AreMade old (calls.Link user now (from ++ 47 ∷ name) (to ++ 47 ∷ new_name) ∷ calls.Unlink user now (from ++ 47 ∷ name) ∷ []) new
    → MovesName (state_of old).tree (state_of new).tree now i d name e new_name
unfolding AreMade
to_free old new now from name to new_name d e i sound is new_is led there here free (mid, done, first, (last, after, second, same)) =
    let removes = subst (λ (volume : Mounted). Accepts mid volume (calls.Unlink user now (from ++ 47 ∷ name)) after) (sym same) second in
    let map = is_missing (state_of old).tree e new_name free in
    moves_name old new now i d name e new_name is new_is
    (whole_before old mid (calls.Link user now (from ++ 47 ∷ name) (to ++ 47 ∷ new_name)) done first sound)
    (sound_next mid new (calls.Unlink user now (from ++ 47 ∷ name)) after removes)
    (moves old mid new now from name to new_name d e i map.0 done after is new_is first removes led there (is_led (state_of old).tree d name i here).here map.1)

-- a rename to the name of another node
to_other : (old new : Mounted) (now : ℕ) (from name to new_name : List ℕ) (d e i j : ℕ) → IsSound old.edition old.image → IsName name → IsName new_name
    → walk (state_of old).tree user from ≡ Ok d → walk (state_of old).tree user to ≡ Ok e → look_up (state_of old).tree d name ≡ Ok i
    → look_up (state_of old).tree e new_name ≡ Ok j → j ≢ i
    → AreMade old (calls.Unlink user now (to ++ 47 ∷ new_name) ∷ calls.Link user now (from ++ 47 ∷ name) (to ++ 47 ∷ new_name) ∷ calls.Unlink user now (from ++ 47 ∷ name) ∷ []) new
    → MovesName (state_of old).tree (state_of new).tree now i d name e new_name
unfolding AreMade
to_other old new now from name to new_name d e i j sound is new_is led there here over other (gone, done, first, (mid, next, second, (last, after, third, same))) =
    let removes = subst (λ (volume : Mounted). Accepts mid volume (calls.Unlink user now (from ++ 47 ∷ name)) after) (sym same) third in
    moves_name old new now i d name e new_name is new_is
    (whole_before old gone (calls.Unlink user now (to ++ 47 ∷ new_name)) done first sound)
    (sound_next mid new (calls.Unlink user now (from ++ 47 ∷ name)) after removes)
    (moves_over old gone new now from name to new_name d e i j done is new_is first
    (λ names led there here held. moves gone mid new now from name to new_name d e i names next after is new_is second removes led there here held)
    led there (is_led (state_of old).tree d name i here).here (is_led (state_of old).tree e new_name j over).here other)

renames_by : (old new : Mounted) (now : ℕ) (from name to new_name : List ℕ) (d e i : ℕ) (all : List Call) → IsSound old.edition old.image → IsName name
    → IsName new_name → walk (state_of old).tree user from ≡ Ok d → walk (state_of old).tree user to ≡ Ok e → look_up (state_of old).tree d name ≡ Ok i
    → IsPlan now (from ++ 47 ∷ name) (to ++ 47 ∷ new_name) i (look_up (state_of old).tree e new_name) all → AreMade old all new
    → Renames (state_of old).tree (state_of new).tree now i d name e new_name
unfolding AreMade
renames_by old new now from name to new_name d e i all sound is new_is led there here (inl (same, none)) made =
    let still : new ≡ old = subst (λ all. AreMade old all new) none made in
    inl (same, ap (λ (volume : Mounted). (state_of volume).tree) still)
renames_by old new now from name to new_name d e i all sound is new_is led there here (inr (inl (free, two))) made =
    inr (
      λ over. let both : Err faults.NoEntry ≡ Ok i = sym free ∙ over in cc,
      to_free old new now from name to new_name d e i sound is new_is led there here free (subst (λ all. AreMade old all new) two made),
    )
renames_by old new now from name to new_name d e i all sound is new_is led there here (inr (inr (j, over, other, three))) made =
    inr (
      λ same. let both : Ok j ≡ Ok i = sym over ∙ same in let number : j ≡ i = cc in other number,
      to_other old new now from name to new_name d e i j sound is new_is led there here over other (subst (λ all. AreMade old all new) three made),
    )

pub renames_led : RenamesLead
renames_led old new turn header operation names consistent it accepts =
    let now = turn.now in
    let sight = sight_at old now in
    let done = is_done old new turn header operation accepts (rename_quiet operation names it) in
    let made = is_made old new now header operation done (rename_named old new now header operation names it done) in
    let all = made.0.0 in
    let plan = has_held (PlansRename sight header.node names) _ all (plans sight header operation names it) (planned_calls old now header operation all made.0.1) in
    let source = plan.source_is in
    let target = plan.target_is in
    let renamed = renames_by old.volume done.answered.volume now source.front names.name target.front names.new_name plan.d plan.e plan.i all consistent.image_sound
    (record { short = source.short; plain = source.plain }) (record { short = target.short; plain = target.plain }) source.walked target.walked plan.led
    (subst (λ path. IsPlan now path (target.front ++ 47 ∷ names.new_name) plan.i (look_up (tree_in old) plan.e names.new_name) all) source.is
    (subst (λ path. IsPlan now plan.source path plan.i (look_up (tree_in old) plan.e names.new_name) all) target.is plan.plan)) made.0.2 in (
      plan.i,
      plan.d,
      plan.e,
      plan.at,
      plan.to,
      plan.led,
      subst (λ t. Renames (tree_in old) t now plan.i plan.d names.name plan.e names.new_name) (sym (done_tree old new now header operation done)) renamed,
    )
