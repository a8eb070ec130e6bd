-- The calls that operations make: only MKNOD and MKDIR make a node, by their first call.
use Rattle.std.proofs.Common.{◌≡◌, ◌∙◌, ap, subst, refl, ℕ, ◌-◌, Bool, true, false, List, [], ◌∷◌, ◌++◌, length, Option, None, Some, Result, Ok, Err, ◌⊎◌, inl, inr}
use Rattle.std.specs.Prelude.{◌%◌, ◌==◌, ◌&&◌, ◌||◌, nat_lt, nat_le, is_none, unwrap_or, if◌then◌else◌}
use Rattle.std.specs.List.{list_any}
use Rattle.std.specs.Option.{ok_or, option_map, option_to_list}
use Rattle.std.specs.Result.{IfOk}
use Rattle.std.proofs.lemmas.Bool.{eqb-true, false≢true, true≢false}
use Rattle.std.proofs.lemmas.List.Folds.{list_any-append}
use Rattle.fuse_words.specs.declared.attribute_changes.AttributeChanges.{AttributeChanges}
use Rattle.fuse_words.specs.declared.attribute_changes.NewTime.{NewTime}
use Rattle.fuse_words.specs.declared.operation.Operation.{Operation}
use Rattle.fuse_words.specs.declared.operation.Operation.TheVariants as operations
use Rattle.fuse_words.specs.declared.request.Header.{Header}
use Rattle.pdp_words.specs.Steps.{and_then}
use Rattle.vol_dir.specs.Walk.{is_plain, walk}
use Rattle.vol_dir.specs.Access.{user}
use Rattle.vol_dir.specs.Tree.{Node, tree}
use Rattle.vol_dir.specs.declared.cred.Cred.{Cred}
use Rattle.vol_dir.specs.declared.refusal.Refusal.{Refusal}
use Rattle.vol_serve.specs.Nodes.{look_up}
use Rattle.vol_serve.specs.declared.nodes.fault.NodeFault.{NodeFault}
use Rattle.vol_serve.specs.declared.nodes.fault.NodeFault.TheVariants as faults
use Rattle.vol_change.specs.declared.new_nodes.NewFile.{NewFile}
use Rattle.vol_volume.specs.Answer.{stat_of}
use Rattle.vol_volume.specs.Verdict.{creation}
use Rattle.vol_volume.specs.declared.calls.Call.{Call}
use Rattle.vol_volume.specs.declared.calls.Call.TheVariants as calls
use Rattle.vol_volume.specs.declared.queries.Stat.{Stat}
use Rattle.vol_mounted.specs.Numbers.{i_number}
use Rattle.vol_serve.specs.declared.errno.RequestRefusal.TheVariants as requests
use Rattle.vol_mounted.specs.Refusals.{no_node, of_nodes}
use Rattle.vol_mounted.specs.Paths.{path_to, if_leading, leads_to}
use Rattle.vol_mounted.specs.Plans.{Sight, cred_of, path_at, set_time, short_number, unless_refused, name_at, new_file, owner_of, given_to, stat_at, is_directory, named_calls, rename_calls, size_call, mode_call, given_call, owner_call, times_call, attribute_calls}
use Rattle.vol_mounted.specs.Replies.{number_at, renamed, calls_of}
use Rattle.vol_mounted.specs.declared.owner.Owner.{Owner}
use Rattle.vol_mounted.specs.declared.refusal.MountedRefusal.{MountedRefusal}
use Rattle.vol_mounted.specs.declared.refusal.MountedRefusal.TheVariants as mounted
use Rattle.vol_mounted.proofs.FreeNodes.{makes}

-- a property of the value of a result, if the next step's value always has it
pub then_holds : {X Y : Type 0} (P : Y → Type 0) (result : Result X MountedRefusal) (next : X → Result Y MountedRefusal)
    → ((x : X) → result ≡ Ok x → IfOk (next x) P) → IfOk (and_then result next) P
then_holds P (Ok x) next each = each x refl
then_holds P (Err refusal) next each = tt

-- a property of the value of either of two results
pub if_holds : {Y : Type 0} (P : Y → Type 0) (b : Bool) (first second : Result Y MountedRefusal) → IfOk first P → IfOk second P
    → IfOk (if b then first else second) P
if_holds P true first second holds other = holds
if_holds P false first second holds other = other

-- if a property holds of a result's value, it holds of the value that the result has
pub has_held : {Y : Type 0} (P : Y → Type 0) (result : Result Y MountedRefusal) (y : Y) → IfOk result P → result ≡ Ok y → P y
has_held {Y = Y} P result y holds is = subst (λ (r : Result Y MountedRefusal). IfOk r P) is holds

-- a property of calls that are checked first
pub asked_holds : (P : List Call → Type 0) (refused : Option Refusal) (all : List Call) → P all → IfOk (unless_refused refused all) P
asked_holds P (Some refusal) all holds = tt
asked_holds P None all holds = holds

-- the node of a Stat
pub stat_node : (sight : Sight) (i : ℕ) (stat : Stat) → stat_at sight i ≡ Ok stat
    → (node : Node) × ((tree sight.geometry sight.image).nodes i ≡ Some node) × (stat_of i node ≡ stat)
stat_node sight i stat = by ((tree sight.geometry sight.image).nodes i)
  where
    by : (held : Option Node) → of_nodes (ok_or (option_map (stat_of i) held) faults.Stale) ≡ Ok stat
        → (node : Node) × (held ≡ Some node) × (stat_of i node ≡ stat)
    by None is = absurd (cc)
    by (Some node) is = (node, refl, cc)

-- no call makes a node
abbrev pub MakesNone : List Call → Type 0
MakesNone calls = list_any makes calls ≡ false

-- a call that there may be makes no node
abbrev pub MakesNoneIf : Option Call → Type 0
MakesNoneIf call = MakesNone (option_to_list call)

asked_none : (sight : Sight) (refused : Option Refusal) (all : List Call) → MakesNone all → IfOk (unless_refused refused all) MakesNone
asked_none sight (Some refusal) all none = tt
asked_none sight None all none = none

both_none : (xs ys : List Call) → MakesNone xs → MakesNone ys → MakesNone (xs ++ ys)
both_none xs ys first second = list_any-append makes xs ys ∙ (ap (λ b. b || list_any makes ys) first ∙ second)

named_none : (sight : Sight) (flags : ℕ) (stat : Stat) (source target : List ℕ) (there : Result ℕ NodeFault)
    → IfOk (named_calls sight flags stat source target there) MakesNone
named_none sight flags stat source target (Ok j) =
    if_holds MakesNone (flags == 1) _ _ tt
    (if_holds MakesNone (j == stat.number) _ _ refl
    (then_holds MakesNone (stat_at sight j) _ (λ there is.
    if_holds MakesNone (is_directory there.kind) _ _ tt
    (if_holds MakesNone (nat_le _ stat.links) _ _ tt (asked_none sight _ _ refl)))))
named_none sight flags stat source target (Err faults.NoEntry) = asked_none sight _ _ refl
named_none sight flags stat source target (Err fault) = tt

rename_none : (sight : Sight) (flags d : ℕ) (name : List ℕ) (e : ℕ) (new_name : List ℕ) → IfOk (rename_calls sight flags d name e new_name) MakesNone
rename_none sight flags d name e new_name =
    if_holds MakesNone (nat_lt 1 flags) _ _ tt
    (then_holds MakesNone (name_at sight d name) _ (λ source is.
    then_holds MakesNone (name_at sight e new_name) _ (λ target is.
    then_holds MakesNone (of_nodes (look_up (tree sight.geometry sight.image) d name)) _ (λ i is.
    then_holds MakesNone (stat_at sight i) _ (λ stat is.
    if_holds MakesNone (is_directory stat.kind) (Err mounted.IsDirectory)
    (named_calls sight flags stat source target (look_up (tree sight.geometry sight.image) e new_name)) tt
    (named_none sight flags stat source target (look_up (tree sight.geometry sight.image) e new_name)))))))

renamed_none : (sight : Sight) (header : Header) (directory flags : ℕ) (name new_name : List ℕ) → IfOk (renamed sight header directory flags name new_name) MakesNone
renamed_none sight header directory flags name new_name =
    then_holds MakesNone (number_at sight header.node) _ (λ d is.
    then_holds MakesNone (number_at sight directory) _ (λ e is. rename_none sight flags d name e new_name))

size_none : (now : ℕ) (stat : Stat) (path : List ℕ) (size : Option ℕ) → IfOk (size_call now stat path size) MakesNoneIf
size_none now stat path None = refl
size_none now stat path (Some size) = then_holds MakesNoneIf (short_number size) _ (λ short is. by (nat_le short stat.size) short)
  where
    by : (b : Bool) (short : ℕ) → MakesNoneIf (Some (if b then calls.Truncate user now path short else calls.Write user now path (short - 1) (0 ∷ [])))
    by true short = refl
    by false short = refl

mode_none : (now : ℕ) (path : List ℕ) (mode : Option ℕ) → MakesNoneIf (mode_call now path mode)
mode_none now path None = refl
mode_none now path (Some mode) = refl

owner_none : (sight : Sight) (stat : Stat) (path : List ℕ) (uid gid : Option ℕ) → IfOk (owner_call sight stat path uid gid) MakesNoneIf
owner_none sight stat path uid gid = if_holds MakesNoneIf (is_none uid && is_none gid) _ _ refl (by sight.owner)
  where
    by : (owner : Option Owner) → IfOk (given_call sight stat path uid gid owner) MakesNoneIf
    by None = then_holds MakesNoneIf (cred_of sight.geometry.edition (unwrap_or uid stat.uid) (unwrap_or gid stat.gid)) _ (λ cred is. refl)
    by (Some owner) =
        if_holds MakesNoneIf ((unwrap_or uid owner.uid == owner.uid) && (unwrap_or gid owner.gid == owner.gid)) (Ok None) (Err mounted.NotPermitted) refl tt

times_none : (now : ℕ) (stat : Stat) (path : List ℕ) (accessed modified : Option NewTime) → MakesNoneIf (times_call now stat path accessed modified)
times_none now stat path accessed modified =
    by (is_none accessed && is_none modified) (calls.Times user now path (set_time now stat.accessed accessed) (set_time now stat.modified modified)) refl
  where
    by : (b : Bool) (call : Call) → makes call ≡ false → MakesNoneIf (if b then None else Some call)
    by true call none = refl
    by false call none = ap (λ b. b || false) none

attributes_none : (sight : Sight) (i : ℕ) (changes : AttributeChanges) → IfOk (attribute_calls sight i changes) MakesNone
attributes_none sight i changes =
    then_holds MakesNone (path_at sight i) _ (λ path is.
    then_holds MakesNone (stat_at sight i) _ (λ stat is.
    then_holds MakesNone (size_call sight.now stat path changes.size) _ (λ sized size_is.
    then_holds MakesNone (owner_call sight stat path changes.uid changes.gid) _ (λ owned owner_is.
    asked_none sight _ _
    (both_none ((option_to_list sized ++ option_to_list (mode_call sight.now path changes.mode)) ++ option_to_list owned) _
    (both_none (option_to_list sized ++ option_to_list (mode_call sight.now path changes.mode)) (option_to_list owned)
    (both_none (option_to_list sized) (option_to_list (mode_call sight.now path changes.mode))
    (has_held MakesNoneIf _ sized (size_none sight.now stat path changes.size) size_is) (mode_none sight.now path changes.mode))
    (has_held MakesNoneIf _ owned (owner_none sight stat path changes.uid changes.gid) owner_is))
    (times_none sight.now stat path changes.accessed changes.modified))))))

-- a call makes a node at a path
abbrev pub MakesAt : Call → ℕ → ℕ → List ℕ → Type 0
MakesAt call now perm path = ((file : NewFile) × (call ≡ creation file user now path perm)) ⊎ (call ≡ calls.Mkdir user now path perm)

-- the calls make one node, with this name in the directory with this node number
pub record MakesNamed (sight : Sight) (node : ℕ) (name : List ℕ) (all : List Call) : Type 0 where
  pub d : ℕ
  pub directory : i_number sight.geometry.edition sight.nodes node ≡ Some d
  pub path : List ℕ
  pub walked : walk (tree sight.geometry sight.image) user path ≡ Ok d
  pub short : nat_lt 14 (length name) ≡ false
  pub plain : is_plain name ≡ true
  pub call : Call
  pub perm : ℕ
  pub owner : Cred
  pub makes : MakesAt call sight.now perm (path ++ 47 ∷ name)
  pub is : all ≡ call ∷ given_to owner sight.now (path ++ 47 ∷ name)

-- a name's path is that of its directory, to which a walk leads
pub record IsPathed (sight : Sight) (d : ℕ) (name path : List ℕ) : Type 0 where
  pub front : List ℕ
  pub walked : walk (tree sight.geometry sight.image) user front ≡ Ok d
  pub short : nat_lt 14 (length name) ≡ false
  pub plain : is_plain name ≡ true
  pub is : path ≡ front ++ 47 ∷ name

-- a path that was climbed to leads to its node
pub path_leads : (sight : Sight) (d : ℕ) → IfOk (path_to sight.geometry sight.image sight.nodes d) (λ path. walk (tree sight.geometry sight.image) user path ≡ Ok d)
path_leads sight d = by _
  where
    found : (path : List ℕ) (b : Bool) → leads_to (walk (tree sight.geometry sight.image) user path) d ≡ b
        → IfOk (ok_or (if b then Some path else None) (no_node faults.Stale)) (λ path. walk (tree sight.geometry sight.image) user path ≡ Ok d)
    found path false is = tt
    found path true is = walked (walk (tree sight.geometry sight.image) user path) is
      where
        walked : (r : Result ℕ Refusal) → leads_to r d ≡ true → r ≡ Ok d
        walked (Ok i) same = ap Ok (eqb-true i d same)
        walked (Err refusal) same = absurd (false≢true same)

    by : (climbed : Option (List ℕ))
        → IfOk (ok_or (if_leading sight.geometry sight.image d climbed) (no_node faults.Stale)) (λ path. walk (tree sight.geometry sight.image) user path ≡ Ok d)
    by None = tt
    by (Some path) = found path (leads_to (walk (tree sight.geometry sight.image) user path) d) refl

pub name_pathed : (sight : Sight) (d : ℕ) (name : List ℕ) → IfOk (name_at sight d name) (IsPathed sight d name)
name_pathed sight d name = by (nat_lt 14 (length name)) refl (is_plain name) refl
  where
    by : (long : Bool) → nat_lt 14 (length name) ≡ long → (plain : Bool) → is_plain name ≡ plain
        → IfOk (if long then Err (no_node faults.LongName) else if plain then and_then (path_to sight.geometry sight.image sight.nodes d) (λ path. Ok (path ++ 47 ∷ name))
        else Err (mounted.Request requests.Malformed)) (IsPathed sight d name)
    by true long plain is = tt
    by false long false is = tt
    by false long true is = then_holds (IsPathed sight d name) (path_to sight.geometry sight.image sight.nodes d) (λ path. Ok (path ++ 47 ∷ name)) (λ path found. record {
      front = path;
      walked = has_held _ _ path (path_leads sight d) found;
      short = long;
      plain = is;
      is = refl;
    })

pub numbered : (sight : Sight) (node d : ℕ) → number_at sight node ≡ Ok d → i_number sight.geometry.edition sight.nodes node ≡ Some d
numbered sight node d = by (i_number sight.geometry.edition sight.nodes node)
  where
    by : (found : Option ℕ) → ok_or found (no_node faults.Stale) ≡ Ok d → found ≡ Some d
    by None is = absurd (cc)
    by (Some i) is = let same : i ≡ d = cc in ap Some same

-- true for the operations that make a node
abbrev pub is_making : Operation → Bool
is_making (operations.MkNod mode device name) = true
is_making (operations.MkDir mode name) = true
is_making operation = false

-- the name that an operation makes
abbrev pub made_name : Operation → List ℕ
made_name (operations.MkNod mode device name) = name
made_name (operations.MkDir mode name) = name
made_name operation = []

-- MKNOD and MKDIR make a node with their name, by their first call
pub making : (sight : Sight) (header : Header) (operation : Operation) → is_making operation ≡ true
    → IfOk (calls_of sight header operation) (MakesNamed sight header.node (made_name operation))
unfolding calls_of
making sight header (operations.MkNod mode device name) it =
    then_holds _ (number_at sight header.node) _ (λ d at.
    then_holds _ (ok_or (new_file header.uid mode device) mounted.NotPermitted) _ (λ file chosen.
    then_holds _ (owner_of sight.geometry.edition sight.owner header) _ (λ owner owned.
    then_holds _ (name_at sight d name) _ (λ path found.
    let pathed = has_held (IsPathed sight d name) _ path (name_pathed sight d name) found in record {
      d = d;
      directory = numbered sight header.node d at;
      path = pathed.front;
      walked = pathed.walked;
      short = pathed.short;
      plain = pathed.plain;
      call = creation file user sight.now (pathed.front ++ 47 ∷ name) (mode % 4096);
      perm = mode % 4096;
      owner = owner;
      makes = inl (file, refl);
      is = ap (λ (whole : List ℕ). creation file user sight.now whole (mode % 4096) ∷ given_to owner sight.now whole) pathed.is;
    }))))
making sight header (operations.MkDir mode name) it =
    then_holds _ (number_at sight header.node) _ (λ d at.
    then_holds _ (owner_of sight.geometry.edition sight.owner header) _ (λ owner owned.
    then_holds _ (name_at sight d name) _ (λ path found.
    let pathed = has_held (IsPathed sight d name) _ path (name_pathed sight d name) found in record {
      d = d;
      directory = numbered sight header.node d at;
      path = pathed.front;
      walked = pathed.walked;
      short = pathed.short;
      plain = pathed.plain;
      call = calls.Mkdir user sight.now (pathed.front ++ 47 ∷ name) (mode % 4096);
      perm = mode % 4096;
      owner = owner;
      makes = inr refl;
      is = ap (λ (whole : List ℕ). calls.Mkdir user sight.now whole (mode % 4096) ∷ given_to owner sight.now whole) pathed.is;
    })))
making sight header operation it = absurd (false≢true it)

-- no other operation makes a node
pub making_none : (sight : Sight) (header : Header) (operation : Operation) → is_making operation ≡ false → IfOk (calls_of sight header operation) MakesNone
unfolding calls_of
making_none sight header (operations.MkNod mode device name) none = absurd (true≢false none)
making_none sight header (operations.MkDir mode name) none = absurd (true≢false none)
making_none sight header (operations.Unlink name) none =
    then_holds MakesNone (number_at sight header.node) _ (λ d at. then_holds MakesNone (name_at sight d name) _ (λ path is. refl))
making_none sight header (operations.RmDir name) none =
    then_holds MakesNone (number_at sight header.node) _ (λ d at. then_holds MakesNone (name_at sight d name) _ (λ path is. refl))
making_none sight header (operations.Link node name) none =
    then_holds MakesNone (number_at sight header.node) _ (λ d at.
    then_holds MakesNone (number_at sight node) _ (λ i is.
    then_holds MakesNone (path_at sight i) _ (λ source is. then_holds MakesNone (name_at sight d name) _ (λ target is. refl))))
making_none sight header (operations.Rename directory name new_name) none = renamed_none sight header directory 0 name new_name
making_none sight header (operations.Rename2 directory flags name new_name) none = renamed_none sight header directory flags name new_name
making_none sight header (operations.Write handle offset bytes) none =
    then_holds MakesNone (number_at sight header.node) _ (λ i at.
    then_holds MakesNone (short_number offset) _ (λ short is. then_holds MakesNone (path_at sight i) _ (λ path is. refl)))
making_none sight header (operations.SetAttr changes) none =
    then_holds MakesNone (number_at sight header.node) _ (λ i at. attributes_none sight i changes)
making_none sight header operation none = refl
