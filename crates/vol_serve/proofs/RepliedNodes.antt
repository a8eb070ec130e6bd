-- On a sound image, requests by i-number agree with queries by path.
use Rattle.std.proofs.Common.{◌≡◌, ◌≢◌, ℕ, ◌≤◌, false, not, nat_lt, ◌||◌, if◌then◌else◌, List, [], ◌∷◌, ◌++◌, length, Option, None, Some, Result, Ok, Err, refl, ap, ◌∙◌, arith}
use Rattle.std.specs.Prelude.{◌↔◌}
use Rattle.std.specs.Option.{is_some, option_map, option_map_or, ok_or, unwrap_or}
use Rattle.std.proofs.lemmas.Bool.Decides.{nat_tests}
use Rattle.vol_layout.specs.Geometry.{geometry_of}
use Rattle.vol_layout.specs.Ids.{is_bad_id}
use Rattle.vol_layout.specs.declared.edition.Edition.{Edition}
use Rattle.vol_layout.specs.declared.edition.Edition.TheVariants.{V6, V7}
use Rattle.vol_layout.specs.declared.geometry.Geometry.{Geometry}
use Rattle.vol_judge.proofs.Parts.{sound_files, sound_entries}
use Rattle.vol_dir.specs.Access.{user, may_read}
use Rattle.vol_dir.specs.Names.{Names, get, names_of}
use Rattle.vol_dir.specs.Tree.{Content, Body, Directory, Device, Node, Tree, tree}
use Rattle.pdp_words.specs.Steps.{and_then}
use Rattle.vol_dir.specs.Walk.{IsComponent, components, find_in, has_zero, map_of, search, search_node, walk, walk_from}
use Rattle.vol_dir.proofs.PathJoins.{walk-onward}
use Rattle.vol_dir.specs.declared.refusal.Refusal.{Refusal}
use Rattle.vol_dir.specs.declared.refusal.Refusal.TheVariants as refusals
use Rattle.vol_dir.proofs.Components.{one_component}
use Rattle.vol_change.specs.Nodes.{no_node, node_at, names_at}
use Rattle.vol_change.specs.Edits.{body_of}
use Rattle.vol_volume.specs.Answer.{answer, list_tests, query_refusal, read_bytes, refused_or, reply_at, reply_of, stat_of}
use Rattle.vol_volume.specs.Verdict.{body_tests, first_of, is_device, of_node, then_others}
use Rattle.vol_volume.proofs.NodeReadings.{directory_is, names_are}
use Rattle.vol_volume.specs.declared.queries.Query.{Query}
use Rattle.vol_volume.specs.declared.queries.Query.TheVariants as queries
use Rattle.vol_volume.specs.declared.queries.Reply.{Reply}
use Rattle.vol_volume.specs.declared.queries.Reply.TheVariants as replies
use Rattle.vol_volume.proofs.TreeWalks.{names_lead, node_there}
use Rattle.vol_serve.specs.NodeLaws.{LeadsTo, StatsAreReplied, BytesAreReplied, NamesLeadAsWalks, ListingsAreReplied}
use Rattle.vol_serve.specs.Nodes.{after_ok, bytes_of, look_up, number_in, number_of, read_in}
use Rattle.vol_serve.specs.declared.nodes.fault.NodeFault.{NodeFault}
use Rattle.vol_serve.specs.declared.nodes.fault.NodeFault.TheVariants as faults
use Rattle.vol_serve.proofs.ListedSlots.{listed, slots_listed}

-- an i-number whose node isn't `None` has a node
some_node : (node : Option Node) → node ≢ None → (n : Node) × (node ≡ Some n)
some_node None some = absurd (some refl)
some_node (Some n) some = (n, refl)

-- a path leads to a node
led_node : (edition : Edition) (image path : List ℕ) (i : ℕ) → LeadsTo edition image path i
    → (n : Node) × ((tree (geometry_of edition image) image).nodes i ≡ Some n)
led_node edition image path i leads =
    some_node ((tree (geometry_of edition image) image).nodes i)
    (node_there (geometry_of edition image) image path i (sound_files edition image leads.fits leads.sound) (sound_entries edition image leads.sound) leads.walked)

-- user 0 and group 0 are within the limits of both editions
good_id : (edition : Edition) → is_bad_id edition 0 0 ≡ false
good_id V6 = refl
good_id V7 = refl

-- a path without a zero byte passes the first checks of a query
asked : (geometry : Geometry) (image path : List ℕ) (others : Option Refusal) → has_zero path ≡ false
    → then_others (tree geometry image) user (path ∷ []) others ≡ others
unfolding tree
asked geometry image path others nonzero =
    ap (λ b. if b then Some refusals.BadId else if has_zero path || false then Some refusals.Invalid else others) (good_id geometry.edition)
    ∙ ap (λ z. if z || false then Some refusals.Invalid else others) nonzero

-- a query that isn't refused has its reply as its answer
answered : (tree : Tree) (query : Query) (reply : Reply) → query_refusal tree query ≡ None → reply_of tree query ≡ Ok reply → answer tree query ≡ Ok reply
answered tree query reply none is = ap (λ r. refused_or r (reply_of tree query)) none ∙ is

-- a query that is refused has its refusal as its answer
unanswered : (tree : Tree) (query : Query) (refusal : Refusal) → query_refusal tree query ≡ Some refusal → answer tree query ≡ Err refusal
unanswered tree query refusal is = ap (λ r. refused_or r (reply_of tree query)) is

-- `node_at` returns the node of an i-number that has one
at_node : (tree : Tree) (i : ℕ) (n : Node) → tree.nodes i ≡ Some n → node_at tree i ≡ n
at_node tree i n is = ap (λ m. unwrap_or m no_node) is

pub stats_replied : StatsAreReplied
unfolding query_refusal reply_of
stats_replied edition image path i leads nonzero =
    let geometry = geometry_of edition image in
    let t = tree geometry image in
    let node = led_node edition image path i leads in (
      stat_of i node.0,
      ap (option_map (stat_of i)) node.1,
      answered t (queries.Stat user path) (replies.Stat (stat_of i node.0))
          (asked geometry image path (of_node (walk t user path) (λ i. None)) nonzero ∙ ap (λ r. of_node r (λ i. None)) leads.walked)
          (ap (λ r. reply_at r (λ i. replies.Stat (stat_of i (node_at t i)))) leads.walked
          ∙ ap (λ n. Ok (replies.Stat (stat_of i n))) (at_node t i node.0 node.1)),
    )

-- the refusal of a Read, from the node's content
abbrev tested : Content → Option Refusal
tested content = first_of ((is_some (map_of content), refusals.IsDirectory) ∷ (is_device content, refusals.NotRegular) ∷ (false, refusals.Access) ∷ [])

-- the bytes of a Read, from the node's content
abbrev bytes_by : Content → ℕ → ℕ → Result (List ℕ) NodeFault
bytes_by content offset len = after_ok (ok_or (bytes_of content) faults.NotRegular) (λ bytes. Ok (read_bytes bytes offset len))

-- bytes are read from a node if and only if they are the reply to a Read, from the node's content
same_bytes : (content : Content) (read : Result (List ℕ) NodeFault) (refusal : Option Refusal) (reply : Result Reply Refusal) (offset len : ℕ) (bytes : List ℕ)
    → read ≡ bytes_by content offset len → refusal ≡ tested content → reply ≡ Ok (replies.Bytes (read_bytes (body_of content) offset len))
    → (read ≡ Ok bytes) ↔ (refused_or refusal reply ≡ Ok (replies.Bytes bytes))
same_bytes (Body held) read refusal reply offset len bytes read_is refused reply_is =
    let answer_is : refused_or refusal reply ≡ Ok (replies.Bytes (read_bytes held offset len)) = ap (λ r. refused_or r reply) refused ∙ reply_is in (
      λ e. let same : read_bytes held offset len ≡ bytes = cc in answer_is ∙ ap (λ b. Ok (replies.Bytes b)) same,
      λ e. let same : read_bytes held offset len ≡ bytes = cc in read_is ∙ ap Ok same,
    )
same_bytes (Directory names) read refusal reply offset len bytes read_is refused reply_is =
    let answer_is : refused_or refusal reply ≡ Err refusals.IsDirectory = ap (λ r. refused_or r reply) refused in (λ e. cc, λ e. cc)
same_bytes (Device type addresses) read refusal reply offset len bytes read_is refused reply_is =
    let answer_is : refused_or refusal reply ≡ Err refusals.NotRegular = ap (λ r. refused_or r reply) refused in (λ e. cc, λ e. cc)

pub bytes_replied : BytesAreReplied
unfolding query_refusal reply_of
bytes_replied edition image path i offset len bytes leads nonzero =
    let geometry = geometry_of edition image in
    let t = tree geometry image in
    let node = led_node edition image path i leads in
    let here = at_node t i node.0 node.1 in
    same_bytes node.0.content (read_in t i offset len) (query_refusal t (queries.Read user path offset len)) (reply_of t (queries.Read user path offset len)) offset len bytes
    (ap (λ (n : Option Node). after_ok (after_ok (ok_or n faults.Stale) (λ m. ok_or (bytes_of m.content) faults.NotRegular)) (λ bytes. Ok (read_bytes bytes offset len))) node.1)
    (asked geometry image path (of_node (walk t user path) (λ i. first_of (body_tests t may_read user i))) nonzero
    ∙ (ap (λ r. of_node r (λ i. first_of (body_tests t may_read user i))) leads.walked ∙ ap (λ (n : Node). tested n.content) here))
    (ap (λ r. reply_at r (λ i. replies.Bytes (read_bytes (body_of (node_at t i).content) offset len))) leads.walked
    ∙ ap (λ (n : Node). Ok (replies.Bytes (read_bytes (body_of n.content) offset len))) here)

-- two searches that lead to the same i-number agree
both_lead : (look : Result ℕ NodeFault) (find : Result ℕ Refusal) (i j : ℕ) → look ≡ Ok j → find ≡ Ok j → (look ≡ Ok i) ↔ (find ≡ Ok i)
both_lead look find i j look_is find_is = (λ e. cc, λ e. cc)

-- two searches that lead nowhere agree
none_leads : (look : Result ℕ NodeFault) (find : Result ℕ Refusal) (i : ℕ) (fault : NodeFault) (refusal : Refusal) → look ≡ Err fault → find ≡ Err refusal
    → (look ≡ Ok i) ↔ (find ≡ Ok i)
none_leads look find i fault refusal look_is find_is = (λ e. cc, λ e. cc)

-- the node that a name leads to, from its i-number in a map
abbrev numbered : Tree → Option ℕ → Result ℕ NodeFault
numbered t found = after_ok (ok_or found faults.NoEntry) (number_in t)

-- a name with an i-number in a map leads to the same node as a step of a walk
same_found : (t : Tree) (found : Option ℕ) (look : Result ℕ NodeFault) (find : Result ℕ Refusal) (i : ℕ) → ((y : ℕ) → found ≡ Some y → t.nodes y ≢ None)
    → look ≡ numbered t found → find ≡ ok_or found refusals.NoEntry → (look ≡ Ok i) ↔ (find ≡ Ok i)
same_found t None look find i there look_is find_is = none_leads look find i faults.NoEntry refusals.NoEntry look_is find_is
same_found t (Some y) look find i there look_is find_is =
    let node = some_node (t.nodes y) (there y refl) in
    both_lead look find i y (look_is ∙ ap (λ (n : Option Node). after_ok (ok_or n faults.Stale) (λ _. Ok y)) node.1) find_is

-- the map that user 0 finds in a node, from its content
abbrev searched : Content → Result Names Refusal
searched content = option_map_or (λ names. Ok names) (map_of content) (Err refusals.NotDirectory)

-- a name leads from a node to the same node as a step of a walk, from the node's content
same_step : (t : Tree) (d i : ℕ) (name : List ℕ) (content : Content) (look : Result ℕ NodeFault) (find : Result ℕ Refusal)
    → ((names : Names) (y : ℕ) → searched content ≡ Ok names → get names name ≡ Some y → t.nodes y ≢ None)
    → look ≡ after_ok (ok_or (map_of content) faults.NotDirectory) (λ names. numbered t (get names name))
    → find ≡ and_then (searched content) (λ names. ok_or (get names name) refusals.NoEntry) → (look ≡ Ok i) ↔ (find ≡ Ok i)
same_step t d i name (Directory names) look find there look_is find_is = same_found t (get names name) look find i (λ y is. there names y refl is) look_is find_is
same_step t d i name (Body bytes) look find there look_is find_is = none_leads look find i faults.NotDirectory refusals.NotDirectory look_is find_is
same_step t d i name (Device type addresses) look find there look_is find_is = none_leads look find i faults.NotDirectory refusals.NotDirectory look_is find_is

-- a name that satisfies `IsComponent` is its only component
component_one : (name : List ℕ) → IsComponent name → components name ≡ name ∷ []
component_one [] is = absurd (let some : 1 ≤ length {A = ℕ} [] = is.some in omega (arith, some))
component_one (c ∷ name) is = one_component (c ∷ name) (ap not is.plain) is.short

-- a walk followed by no step is the walk
walk_end : (r : Result ℕ Refusal) → and_then r (λ i. Ok i) ≡ r
walk_end (Ok i) = refl
walk_end (Err refusal) = refl

-- a walk of a path, a slash and one more name is a walk of the path followed by a search
walk_more : (t : Tree) (path name : List ℕ) (d : ℕ) → walk t user path ≡ Ok d → IsComponent name → walk t user (path ++ 47 ∷ name) ≡ find_in t user d name
walk_more t path name d walked is =
    walk-onward t user path name ∙ (ap (λ r. and_then r (λ i. walk_from t user i (components name))) walked
    ∙ (ap (walk_from t user d) (component_one name is) ∙ walk_end (find_in t user d name)))

pub names_lead_as_walks : NamesLeadAsWalks
names_lead_as_walks edition image path name d i leads is =
    let geometry = geometry_of edition image in
    let t = tree geometry image in
    let node = led_node edition image path d leads in
    let held = node.0.content in
    let short : nat_lt 14 (length name) ≡ false = grind (arith, nat_tests, is.short) in
    let searches : search t user d ≡ searched held = ap (λ (n : Option Node). option_map_or (search_node user) n (Err refusals.NotDirectory)) node.1 in
    let looks : look_up t d name ≡ after_ok (ok_or (map_of held) faults.NotDirectory) (λ names. numbered t (get names name)) =
    ap (λ (n : Option Node). after_ok (after_ok (ok_or n faults.Stale) (λ m. ok_or (map_of m.content) faults.NotDirectory)) (λ names. number_of t names name)) node.1
    ∙ ap (λ b. after_ok (ok_or (map_of held) faults.NotDirectory) (λ names. if b then Err faults.LongName else numbered t (get names name))) short in
    let walks = walk_more t path name d leads.walked is in
    same_step t d i name held (look_up t d name) (walk t user (path ++ 47 ∷ name))
    (λ names y found here. names_lead geometry image (sound_files edition image leads.fits leads.sound) (sound_entries edition image leads.sound) d names name y (searches ∙ found) here)
    looks (walks ∙ ap (λ r. and_then r (λ names. ok_or (get names name) refusals.NoEntry)) searches)

pub listings_replied : ListingsAreReplied
unfolding query_refusal reply_of
listings_replied edition image path d founds leads nonzero directory met =
    let geometry = geometry_of edition image in
    let t = tree geometry image in
    answered t (queries.List user path) (replies.Names (names_of (listed founds)))
    (asked geometry image path (of_node (walk t user path) (λ i. first_of (list_tests t user i))) nonzero
    ∙ (ap (λ r. of_node r (λ i. first_of (list_tests t user i))) leads.walked
    ∙ ap (λ b. first_of ((not b, refusals.NotDirectory) ∷ (false, refusals.Access) ∷ [])) (directory_is geometry image d directory.first directory.last directory.kind)))
    (ap (λ r. reply_at r (λ i. replies.Names (names_at t i))) leads.walked
    ∙ ap (λ names. Ok (replies.Names names)) (names_are geometry image d directory ∙ slots_listed geometry image d founds met))
