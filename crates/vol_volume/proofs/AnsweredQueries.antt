-- The answers to queries: refusals, replies, and NoMemory.
use Rattle.std.proofs.Common.{◌≡◌, ℕ, ◌+◌, ◌-◌, min, Bool, true, false, ◌||◌, if◌then◌else◌, List, [], ◌∷◌, ◌++◌, take, drop, length, Option, None, Some, Result, Ok, Err, refl, ap, sym, ◌∙◌, arith}
use Rattle.std.specs.Prelude.{MatchResult, slice_range}
use Rattle.std.proofs.lemmas.List.{take_all, drop_all, take_min, append-nil, length-drop}
use Rattle.vol_dir.specs.Access.{may_read}
use Rattle.vol_dir.specs.Tree.{Tree, tree}
use Rattle.vol_dir.specs.Walk.{has_zero, walk}
use Rattle.vol_dir.specs.declared.cred.Cred.{Cred}
use Rattle.vol_dir.specs.declared.refusal.Refusal.{Refusal}
use Rattle.vol_dir.specs.declared.refusal.Refusal.TheVariants as refusals
use Rattle.vol_layout.specs.declared.geometry.Geometry.{Geometry}
use Rattle.vol_change.specs.Nodes.{node_at, names_at}
use Rattle.vol_change.specs.Edits.{body_of}
use Rattle.vol_volume.specs.Answer.{list_tests, query_refusal, read_bytes, reply_at, reply_of, refused_or, stat_of, Answers}
use Rattle.vol_volume.specs.NodeLookup.{IsPathRefused, LeadsTo}
use Rattle.vol_layout.specs.Ids.{is_bad_id}
use Rattle.vol_volume.specs.Verdict.{first_of, body_tests, then_others, of_node}
use Rattle.vol_volume.specs.declared.queries.Query.{Query}
use Rattle.vol_volume.specs.declared.queries.Query.TheVariants as queries
use Rattle.vol_volume.specs.declared.queries.Reply.{Reply}
use Rattle.vol_volume.specs.declared.queries.Reply.TheVariants as replies
use Rattle.vol_volume.specs.declared.queries.Stat.{Stat}
use Rattle.vol_volume.proofs.Refusals.{query_other}

-- the first checks, given their results: BadId, then Invalid, then the other checks
abbrev pub asked_first : Bool → Bool → Option Refusal → Option Refusal
asked_first bad zero others = if bad then Some refusals.BadId else if zero then Some refusals.Invalid else others

refused_by : (bad zero : Bool) (others : Option Refusal) (refusal : Refusal) → Some refusal ≡ asked_first bad zero None
    → asked_first bad (zero || false) others ≡ Some refusal
refused_by true zero others refusal is = sym is
refused_by false true others refusal is = sym is
refused_by false false others refusal is = cc

left_by : (bad zero : Bool) (others : Option Refusal) → None ≡ asked_first bad zero None → asked_first bad (zero || false) others ≡ others
left_by true zero others is = cc
left_by false true others is = cc
left_by false false others is = refl

-- a bad user or group number or a zero byte in the path is refused before anything else
pub first_refused : (geometry : Geometry) (image : List ℕ) (cred : Cred) (path : List ℕ) (refusal : Refusal)
    → Some refusal ≡ (if is_bad_id geometry.edition cred.uid cred.gid then Some refusals.BadId else if has_zero path then Some refusals.Invalid else None)
    → (others : Option Refusal) → then_others (tree geometry image) cred (path ∷ []) others ≡ Some refusal
unfolding tree
first_refused geometry image cred path refusal is others = refused_by (is_bad_id geometry.edition cred.uid cred.gid) (has_zero path) others refusal is

-- if the first checks pass, the other checks decide
pub asked : (geometry : Geometry) (image : List ℕ) (cred : Cred) (path : List ℕ) (others : Option Refusal)
    → None ≡ (if is_bad_id geometry.edition cred.uid cred.gid then Some refusals.BadId else if has_zero path then Some refusals.Invalid else None)
    → then_others (tree geometry image) cred (path ∷ []) others ≡ others
unfolding tree
asked geometry image cred path others none = left_by (is_bad_id geometry.edition cred.uid cred.gid) (has_zero path) others none

-- if the first checks pass, the walk of the path leads to a node or is refused
pub walked : (geometry : Geometry) (image : List ℕ) (cred : Cred) (path : List ℕ) (result : Result ℕ Refusal)
    → None ≡ (if is_bad_id geometry.edition cred.uid cred.gid then Some refusals.BadId else if has_zero path then Some refusals.Invalid else None)
    → result ≡ walk (tree geometry image) cred path
    → MatchResult result (LeadsTo (tree geometry image) cred path) (IsPathRefused (tree geometry image) cred path)
walked geometry image cred path (Ok i) none is = record {
  walked = sym is;
  asked = λ others. asked geometry image cred path (of_node (walk (tree geometry image) cred path) others) none ∙ ap (λ r. of_node r others) (sym is);
}
walked geometry image cred path (Err refusal) none is =
    λ others. asked geometry image cred path (of_node (walk (tree geometry image) cred path) others) none ∙ ap (λ r. of_node r others) (sym is)

-- a refused query is answered with its refusal
refused : (tree : Tree) (query : Query) (refusal : Refusal) → query_refusal tree query ≡ Some refusal → Answers tree query (Err refusal)
refused tree query refusals.NoMemory is = absurd (query_other tree query is)
refused tree query refusals.NotOwner is = sym (ap (λ refusal. refused_or refusal (reply_of tree query)) is)
refused tree query refusals.NoEntry is = sym (ap (λ refusal. refused_or refusal (reply_of tree query)) is)
refused tree query refusals.Access is = sym (ap (λ refusal. refused_or refusal (reply_of tree query)) is)
refused tree query refusals.Exists is = sym (ap (λ refusal. refused_or refusal (reply_of tree query)) is)
refused tree query refusals.NotDirectory is = sym (ap (λ refusal. refused_or refusal (reply_of tree query)) is)
refused tree query refusals.IsDirectory is = sym (ap (λ refusal. refused_or refusal (reply_of tree query)) is)
refused tree query refusals.Invalid is = sym (ap (λ refusal. refused_or refusal (reply_of tree query)) is)
refused tree query refusals.TooBig is = sym (ap (λ refusal. refused_or refusal (reply_of tree query)) is)
refused tree query refusals.NoSpace is = sym (ap (λ refusal. refused_or refusal (reply_of tree query)) is)
refused tree query refusals.TooManyLinks is = sym (ap (λ refusal. refused_or refusal (reply_of tree query)) is)
refused tree query refusals.NotEmpty is = sym (ap (λ refusal. refused_or refusal (reply_of tree query)) is)
refused tree query refusals.NotRegular is = sym (ap (λ refusal. refused_or refusal (reply_of tree query)) is)
refused tree query refusals.NoInode is = sym (ap (λ refusal. refused_or refusal (reply_of tree query)) is)
refused tree query refusals.BadId is = sym (ap (λ refusal. refused_or refusal (reply_of tree query)) is)

-- a query that isn't refused is answered with its reply
replied : (tree : Tree) (query : Query) (reply : Reply) → query_refusal tree query ≡ None → reply_of tree query ≡ Ok reply
    → Answers tree query (Ok reply)
replied tree query reply none is = sym (ap (λ refusal. refused_or refusal (reply_of tree query)) none ∙ is)

-- Stat of a path that is refused is answered with this refusal
pub stat_refused : (tree : Tree) (cred : Cred) (path : List ℕ) (refusal : Refusal) → IsPathRefused tree cred path refusal
    → Answers tree (queries.Stat cred path) (Err refusal)
unfolding query_refusal
stat_refused tree cred path refusal denied = refused tree (queries.Stat cred path) refusal (denied (λ i. None))

-- Stat of a node is answered with its attributes
pub stat_replied : (tree : Tree) (cred : Cred) (path : List ℕ) (i : ℕ) (stat : Stat) → LeadsTo tree cred path i
    → stat ≡ stat_of i (node_at tree i) → Answers tree (queries.Stat cred path) (Ok (replies.Stat stat))
unfolding query_refusal reply_of
stat_replied tree cred path i stat leads is =
    replied tree (queries.Stat cred path) (replies.Stat stat) (leads.asked (λ i. None))
    (ap (λ r. reply_at r (λ i. replies.Stat (stat_of i (node_at tree i)))) leads.walked ∙ ap (λ s. Ok (replies.Stat s)) (sym is))

-- Read of a path that is refused is answered with this refusal
pub read_refused : (tree : Tree) (cred : Cred) (path : List ℕ) (offset len : ℕ) (refusal : Refusal) → IsPathRefused tree cred path refusal
    → Answers tree (queries.Read cred path offset len) (Err refusal)
unfolding query_refusal
read_refused tree cred path offset len refusal denied =
    refused tree (queries.Read cred path offset len) refusal (denied (λ i. first_of (body_tests tree may_read cred i)))

-- Read of a node whose checks fail is answered with the first refusal
pub read_tested : (tree : Tree) (cred : Cred) (path : List ℕ) (offset len i : ℕ) (refusal : Refusal) → LeadsTo tree cred path i
    → Some refusal ≡ first_of (body_tests tree may_read cred i) → Answers tree (queries.Read cred path offset len) (Err refusal)
unfolding query_refusal
read_tested tree cred path offset len i refusal leads denied =
    refused tree (queries.Read cred path offset len) refusal (leads.asked (λ i. first_of (body_tests tree may_read cred i)) ∙ sym denied)

-- Read may be answered with NoMemory if no check fails
pub read_unmade : (tree : Tree) (cred : Cred) (path : List ℕ) (offset len i : ℕ) → LeadsTo tree cred path i
    → None ≡ first_of (body_tests tree may_read cred i) → Answers tree (queries.Read cred path offset len) (Err refusals.NoMemory)
unfolding query_refusal
read_unmade tree cred path offset len i leads none =
    (refl, leads.asked (λ i. first_of (body_tests tree may_read cred i)) ∙ sym none)

-- Read of a node is answered with its bytes
pub read_replied : (tree : Tree) (cred : Cred) (path : List ℕ) (offset len i : ℕ) (bytes : List ℕ) → LeadsTo tree cred path i
    → None ≡ first_of (body_tests tree may_read cred i) → bytes ≡ read_bytes (body_of (node_at tree i).content) offset len
    → Answers tree (queries.Read cred path offset len) (Ok (replies.Bytes bytes))
unfolding query_refusal reply_of
read_replied tree cred path offset len i bytes leads none is =
    replied tree (queries.Read cred path offset len) (replies.Bytes bytes)
    (leads.asked (λ i. first_of (body_tests tree may_read cred i)) ∙ sym none)
    (ap (λ r. reply_at r (λ i. replies.Bytes (read_bytes (body_of (node_at tree i).content) offset len))) leads.walked
    ∙ ap (λ b. Ok (replies.Bytes b)) (sym is))

-- List of a path that is refused is answered with this refusal
pub list_refused : (tree : Tree) (cred : Cred) (path : List ℕ) (refusal : Refusal) → IsPathRefused tree cred path refusal
    → Answers tree (queries.List cred path) (Err refusal)
unfolding query_refusal
list_refused tree cred path refusal denied = refused tree (queries.List cred path) refusal (denied (λ i. first_of (list_tests tree cred i)))

-- List of a node whose checks fail is answered with the first refusal
pub list_tested : (tree : Tree) (cred : Cred) (path : List ℕ) (i : ℕ) (refusal : Refusal) → LeadsTo tree cred path i
    → Some refusal ≡ first_of (list_tests tree cred i) → Answers tree (queries.List cred path) (Err refusal)
unfolding query_refusal
list_tested tree cred path i refusal leads denied =
    refused tree (queries.List cred path) refusal (leads.asked (λ i. first_of (list_tests tree cred i)) ∙ sym denied)

-- List may be answered with NoMemory if no check fails
pub list_unmade : (tree : Tree) (cred : Cred) (path : List ℕ) (i : ℕ) → LeadsTo tree cred path i
    → None ≡ first_of (list_tests tree cred i) → Answers tree (queries.List cred path) (Err refusals.NoMemory)
unfolding query_refusal
list_unmade tree cred path i leads none = (refl, leads.asked (λ i. first_of (list_tests tree cred i)) ∙ sym none)

-- List of a node is answered with its names
pub list_replied : (tree : Tree) (cred : Cred) (path : List ℕ) (i : ℕ) (names : List (List ℕ × ℕ)) → LeadsTo tree cred path i
    → None ≡ first_of (list_tests tree cred i) → names ≡ names_at tree i
    → Answers tree (queries.List cred path) (Ok (replies.Names names))
unfolding query_refusal reply_of
list_replied tree cred path i names leads none is =
    replied tree (queries.List cred path) (replies.Names names)
    (leads.asked (λ i. first_of (list_tests tree cred i)) ∙ sym none)
    (ap (λ r. reply_at r (λ i. replies.Names (names_at tree i))) leads.walked ∙ ap (λ n. Ok (replies.Names n)) (sym is))

-- a buffer of exactly the length of the reply, filled by `vol_file::read`, holds the bytes of the reply
pub bytes_read : (body items new : List ℕ) (offset len size count read : ℕ) → length body ≡ size → length items ≡ min len (size - offset)
    → count ≡ length items → length new ≡ length items → read ≡ min (length items) (size - offset)
    → take read new ≡ slice_range body offset (offset + read)
    → take count (new ++ drop (length new) items) ≡ read_bytes body offset len
bytes_read body items new offset len size count read body_len items_len count_is new_len read_is holds =
    let rest : drop (length new) items ≡ [] = drop_all (length new) items (omega arith) in
    let rest_len = length-drop offset body in
    let all : read ≡ length new = omega arith in
    let short : offset + read - offset ≡ min len (length (drop offset body)) = omega arith in
    ap (λ xs. take count (new ++ xs)) rest
    ∙ (ap (take count) (append-nil new)
    ∙ (take_all count new (omega arith)
    ∙ (sym (take_all read new (omega arith))
    ∙ (holds
    ∙ (ap (λ n. take n (drop offset body)) short
    ∙ take_min len (drop offset body))))))
