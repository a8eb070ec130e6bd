-- After SETATTR of an open file without a name, GETATTR has what was set, and READ the bytes of the new size.
use Rattle.std.proofs.Common.{◌≡◌, ◌∙◌, sym, ap, subst, refl, ℕ, zero, suc, ◌+◌, ◌-◌, ◌/◌, min, arith, Bool, true, false, cond, not, nat_lt, List, [], ◌∷◌, length, length-append, take, drop, Option, None, Some, Result, Ok, Err}
use Rattle.std.specs.Prelude.{◌==◌, unwrap_or, replicate, slice_get, slice_set, if◌then◌else◌}
use Rattle.std.specs.List.{position, position_or_len}
use Rattle.std.specs.Option.{option_map_or}
use Rattle.std.proofs.lemmas.List.{length-replicate, length-set, length-take}
use Rattle.fuse_words.specs.Replies.{attributes_message, data_message}
use Rattle.fuse_words.specs.declared.attribute_changes.AttributeChanges.{AttributeChanges}
use Rattle.fuse_words.specs.declared.operation.Operation.{Operation}
use Rattle.fuse_words.specs.declared.operation.Operation.TheVariants as operations
use Rattle.fuse_words.specs.declared.request.Header.{Header}
use Rattle.pdp_words.specs.Steps.{and_then}
use Rattle.vol_dir.specs.declared.refusal.Refusal.TheVariants as refusals
use Rattle.vol_serve.specs.declared.nodes.fault.NodeFault.TheVariants as faults
use Rattle.vol_mounted.specs.Laws.{ShowsFile, file_with_changes}
use Rattle.vol_mounted.specs.Orphans.{FilesReplied, KeptFile, file_after, file_reply, files_after, given_attributes, is_release, place_of, present_attributes, replied_at, resized, sized}
use Rattle.vol_mounted.specs.Refusals.{no_node, no_space}
use Rattle.vol_mounted.specs.Servers.{files_in, limits_in}
use Rattle.vol_mounted.specs.declared.orphan.Limits.{Limits}
use Rattle.vol_mounted.specs.declared.refusal.MountedRefusal.{MountedRefusal}
use Rattle.vol_mounted.specs.declared.refusal.MountedRefusal.TheVariants as mounted
use Rattle.vol_mounted.specs.declared.server.MountedServer.{MountedServer}
use Rattle.vol_mounted.proofs.AcceptedTurns.{after_by}

-- the file with a number is at this place
pub record IsAt (files : List KeptFile) (node place : ℕ) (file : KeptFile) : Type 0 where
  pub placed : place_of node files ≡ Some place
  pub held : slice_get files place ≡ Some file

-- a file that is set to itself
set_same : (files : List KeptFile) (place : ℕ) (file : KeptFile) → slice_get files place ≡ Some file → slice_set files place file ≡ files
set_same [] place file is = absurd (cc)
set_same (first ∷ files) zero file is = let same : first ≡ file = cc in ap (λ (f : KeptFile). f ∷ files) (sym same)
set_same (first ∷ files) (suc place) file is = ap (λ (rest : List KeptFile). first ∷ rest) (set_same files place file is)

set_here : (files : List KeptFile) (place : ℕ) (was file : KeptFile) → slice_get files place ≡ Some was → slice_get (slice_set files place file) place ≡ Some file
set_here [] place was file is = absurd (cc)
set_here (first ∷ files) zero was file is = refl
set_here (first ∷ files) (suc place) was file is = set_here files place was file is

-- the first file that passes a test is at the same place, if the file that is set passes it exactly if the old one does
set_first : (test : KeptFile → Bool) (files : List KeptFile) (place : ℕ) (was file : KeptFile) → slice_get files place ≡ Some was → test file ≡ test was
    → position_or_len test (slice_set files place file) ≡ position_or_len test files
set_first test [] place was file is same = absurd (cc)
set_first test (first ∷ files) zero was file is same =
    let here : first ≡ was = cc in
    ap (λ b. cond (not b) (1 + position_or_len test files) 0) (same ∙ ap test (sym here))
set_first test (first ∷ files) (suc place) was file is same =
    ap (λ n. cond (not (test first)) (1 + n) 0) (set_first test files place was file is same)

set_position : (test : KeptFile → Bool) (files : List KeptFile) (place : ℕ) (was file : KeptFile) → slice_get files place ≡ Some was → test file ≡ test was
    → position test (slice_set files place file) ≡ position test files
set_position test files place was file is same =
    ap (λ n. cond (nat_lt n (length (slice_set files place file))) (Some n) None) (set_first test files place was file is same)
    ∙ ap (λ n. cond (nat_lt (position_or_len test files) n) (Some (position_or_len test files)) None) (length-set files place file)

-- the file that was set is at the same place
set_placed : (files : List KeptFile) (node place : ℕ) (was file : KeptFile) → IsAt files node place was → file.node ≡ was.node
    → IsAt (slice_set files place file) node place file
set_placed files node place was file at same = record {
  placed = set_position (λ (f : KeptFile). f.node == node) files place was file at.held (ap (λ n. n == node) same) ∙ at.placed;
  held = set_here files place was file at.held;
}

-- an operation on a file at a place
reply_at : (limits : Limits) (now : ℕ) (header : Header) (operation : Operation) (files : List KeptFile) (place : ℕ) (file : KeptFile)
    → is_release operation ≡ false → IsAt files header.node place file
    → files_after limits now header operation files ≡ replied_at limits now header.unique operation files place file
reply_at limits now header operation files place file other at =
    ap (after_by limits now header operation files) other
    ∙ (ap (λ (p : Option ℕ). option_map_or (λ (place : ℕ). option_map_or (replied_at limits now header.unique operation files place) (slice_get files place) (Err (no_node faults.Stale)))
    p (Err (no_node faults.Stale))) at.placed
    ∙ ap (λ (f : Option KeptFile). option_map_or (replied_at limits now header.unique operation files place) f (Err (no_node faults.Stale))) at.held)

-- files without a name, and a reply
abbrev with_reply : List ℕ → List KeptFile → Result FilesReplied MountedRefusal
with_reply reply files = Ok (record { files = files; reply = reply })

-- GETATTR and READ of a file
pub shows_file : (server : MountedServer) (node place : ℕ) (file : KeptFile) → IsAt (files_in server) node place file
    → ShowsFile server node (present_attributes file) file.content
unfolding file_after file_reply
shows_file server node place file at = record {
  shows = λ now header same.
      reply_at (limits_in server) now header operations.GetAttr (files_in server) place file refl (subst (λ n. IsAt (files_in server) n place file) (sym same) at)
      ∙ ap (with_reply (attributes_message header.unique 3600 (present_attributes file))) (set_same (files_in server) place file at.held);
  reads = λ now handle offset size header same.
      reply_at (limits_in server) now header (operations.Read handle offset size) (files_in server) place file refl
      (subst (λ n. IsAt (files_in server) n place file) (sym same) at)
      ∙ ap (with_reply (data_message header.unique (take (min 131072 size) (drop offset file.content)))) (set_same (files_in server) place file at.held);
}

-- the bytes of a file after SETATTR
abbrev bytes_with : Option ℕ → List ℕ → List ℕ
bytes_with size bytes = option_map_or (resized bytes) size bytes

-- a file after SETATTR
abbrev pub set_file : ℕ → AttributeChanges → KeptFile → KeptFile
set_file now changes file = record file { content = bytes_with changes.size file.content; attributes = given_attributes now changes file.attributes }

-- the file that SETATTR sets
pub record SetsAt (files after : List KeptFile) (now node : ℕ) (changes : AttributeChanges) : Type 0 where
  pub place : ℕ
  pub file : KeptFile
  pub at : IsAt files node place file
  pub is : after ≡ slice_set files place (set_file now changes file)

pub sets_at : (limits : Limits) (now : ℕ) (header : Header) (changes : AttributeChanges) (files : List KeptFile) (replied : FilesReplied)
    → files_after limits now header (operations.SetAttr changes) files ≡ Ok replied → SetsAt files replied.files now header.node changes
unfolding file_after file_reply
sets_at limits now header changes files replied is = by (place_of header.node files) refl is
  where
    set : (place : ℕ) (file : KeptFile) (size : Option ℕ)
        → and_then (and_then (sized limits size file) (λ (file : KeptFile). Ok (record file { attributes = given_attributes now changes file.attributes })))
        (λ (after : KeptFile). with_reply (file_reply header.unique (operations.SetAttr changes) after) (slice_set files place after)) ≡ Ok replied
        → replied.files ≡ slice_set files place (record file { content = bytes_with size file.content; attributes = given_attributes now changes file.attributes })
    set place file None is =
        let after : KeptFile = record file { attributes = given_attributes now changes file.attributes } in
        let one : FilesReplied = record { files = slice_set files place after; reply = file_reply header.unique (operations.SetAttr changes) after } in
        let same : replied ≡ one = cc in
        ap (λ (r : FilesReplied). r.files) same
    set place file (Some size) is = great (nat_lt limits.greatest size) (nat_lt limits.spare (size - length file.content)) is
      where
        great : (too_great too_many : Bool)
            → and_then (and_then (and_then (if too_great then Err (mounted.Call refusals.TooBig) else if too_many then Err no_space else Ok size)
            (λ size. Ok (record file { content = resized file.content size }))) (λ (file : KeptFile). Ok (record file { attributes = given_attributes now changes file.attributes })))
            (λ (after : KeptFile). with_reply (file_reply header.unique (operations.SetAttr changes) after) (slice_set files place after)) ≡ Ok replied
            → replied.files ≡ slice_set files place (record file { content = resized file.content size; attributes = given_attributes now changes file.attributes })
        great true many is = absurd (cc)
        great false true is = absurd (cc)
        great false false is =
            let after : KeptFile = record file { content = resized file.content size; attributes = given_attributes now changes file.attributes } in
            let one : FilesReplied = record { files = slice_set files place after; reply = file_reply header.unique (operations.SetAttr changes) after } in
            let same : replied ≡ one = cc in
            ap (λ (r : FilesReplied). r.files) same

    at : (place : ℕ) (file : Option KeptFile) → place_of header.node files ≡ Some place → slice_get files place ≡ file
        → option_map_or (replied_at limits now header.unique (operations.SetAttr changes) files place) file (Err (no_node faults.Stale)) ≡ Ok replied
        → SetsAt files replied.files now header.node changes
    at place None placed held is = absurd (cc)
    at place (Some file) placed held is =
        record { place = place; file = file; at = record { placed = placed; held = held }; is = set place file changes.size is }

    by : (place : Option ℕ) → place_of header.node files ≡ place
        → option_map_or (λ (place : ℕ). option_map_or (replied_at limits now header.unique (operations.SetAttr changes) files place) (slice_get files place) (Err (no_node faults.Stale)))
        place (Err (no_node faults.Stale)) ≡ Ok replied → SetsAt files replied.files now header.node changes
    by None placed is = absurd (cc)
    by (Some place) placed is = at place (slice_get files place) placed refl is

-- the number of bytes of a file after SETATTR
size_with : (size : Option ℕ) (bytes : List ℕ) → length (bytes_with size bytes) ≡ unwrap_or size (length bytes)
size_with None bytes = refl
size_with (Some size) bytes =
    let whole = length-append (take size bytes) (replicate (size - length bytes) 0) in
    let front = length-take size bytes in
    let zeros = length-replicate {A = ℕ} (size - length bytes) 0 in
    omega (arith, whole, front, zeros)

-- what GETATTR and READ give of a file that SETATTR set
pub shows_set : (old new : MountedServer) (now node : ℕ) (changes : AttributeChanges) (sets : SetsAt (files_in old) (files_in new) now node changes)
    → ShowsFile new node (file_with_changes now changes (present_attributes sets.file)) (bytes_with changes.size sets.file.content)
shows_set old new now node changes sets =
    let file = set_file now changes sets.file in
    let at : IsAt (files_in new) node sets.place file =
    subst (λ files. IsAt files node sets.place file) (sym sets.is) (set_placed (files_in old) node sets.place sets.file file sets.at refl) in
    subst (λ attributes. ShowsFile new node attributes (bytes_with changes.size sets.file.content))
    (ap (λ n. record (given_attributes now changes sets.file.attributes) { size = n; blocks = (n + 511) / 512 }) (size_with changes.size sets.file.content))
    (shows_file new node sets.place file at)
