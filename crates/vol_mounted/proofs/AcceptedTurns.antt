-- If the error in a reply is 0, the calls of its request were made.
use Rattle.std.proofs.Common.{◌≡◌, ◌≢◌, ◌∙◌, sym, ap, subst, refl, ℕ, Bool, true, false, eq-eqb, List, [], length, Option, None, Some, Result, Ok, Err, inl, inr}
use Rattle.std.specs.Prelude.{◌==◌, slice_get, slice_set, if◌then◌else◌, MatchBool}
use Rattle.std.specs.Option.{option_map_or}
use Rattle.std.proofs.lemmas.Bool.{true≢false}
use Rattle.fuse_words.specs.Replies.{status_message}
use Rattle.fuse_words.specs.Requests.{number, wants_reply}
use Rattle.fuse_words.specs.declared.operation.Operation.{Operation}
use Rattle.fuse_words.specs.declared.operation.Operation.TheVariants as operations
use Rattle.fuse_words.specs.declared.request.Header.{Header}
use Rattle.fuse_words.specs.declared.request.Request.{Request}
use Rattle.fuse_words.specs.declared.request.RequestFault.{RequestFault}
use Rattle.pdp_words.specs.Steps.{and_then}
use Rattle.vol_dir.specs.declared.refusal.Refusal.{Refusal}
use Rattle.vol_dir.specs.declared.refusal.Refusal.TheVariants as refusals
use Rattle.vol_serve.specs.declared.nodes.fault.NodeFault.{NodeFault}
use Rattle.vol_serve.specs.declared.nodes.fault.NodeFault.TheVariants as faults
use Rattle.vol_serve.specs.Errno.{errno as request_errno}
use Rattle.vol_serve.specs.declared.errno.RequestRefusal.{RequestRefusal}
use Rattle.vol_serve.specs.declared.errno.RequestRefusal.TheVariants as requests
use Rattle.vol_mounted.specs.Errno.{call_errno, errno}
use Rattle.vol_volume.specs.Volume.{reads_as}
use Rattle.vol_mounted.specs.Laws.{AcceptsRequest, Renaming, renaming_of, tree_in}
use Rattle.vol_mounted.specs.Orphans.{FilesReplied, KeptFile, closed_once, file_after, file_reply, files_after, is_release, place_of, replied_at, with_file}
use Rattle.vol_mounted.specs.Refusals.{no_node}
use Rattle.vol_mounted.specs.Servers.{files_in, limits_in}
use Rattle.vol_mounted.specs.Turns.{Answers, Turn, HasOutcome, IsAnswered, IsCut, IsMade, IsReplied, IsServed, IsSynced, Stays, is_orphan, is_sync, message_of}
use Rattle.vol_mounted.specs.declared.orphan.Limits.{Limits}
use Rattle.vol_mounted.specs.declared.refusal.MountedRefusal.{MountedRefusal}
use Rattle.vol_mounted.specs.declared.refusal.MountedRefusal.TheVariants as mounted
use Rattle.vol_mounted.specs.declared.server.MountedServer.{MountedServer}

-- true if the error in a message with an error number is 0
abbrev is_success : ℕ → ℕ → Bool
is_success unique n = number 4 4 (status_message unique n) == 0

call_error : (unique : ℕ) (refusal : Refusal) → is_success unique (call_errno refusal) ≡ false
call_error unique refusals.NotOwner = refl
call_error unique refusals.NoEntry = refl
call_error unique refusals.NoMemory = refl
call_error unique refusals.Access = refl
call_error unique refusals.Exists = refl
call_error unique refusals.NotDirectory = refl
call_error unique refusals.IsDirectory = refl
call_error unique refusals.Invalid = refl
call_error unique refusals.TooBig = refl
call_error unique refusals.NoSpace = refl
call_error unique refusals.TooManyLinks = refl
call_error unique refusals.NotEmpty = refl
call_error unique refusals.NotRegular = refl
call_error unique refusals.NoInode = refl
call_error unique refusals.BadId = refl

node_error : (unique : ℕ) (fault : NodeFault) → is_success unique (request_errno (requests.Node fault)) ≡ false
node_error unique faults.Stale = refl
node_error unique faults.NotDirectory = refl
node_error unique faults.NotRegular = refl
node_error unique faults.NoEntry = refl
node_error unique faults.LongName = refl

request_error : (unique : ℕ) (refusal : RequestRefusal) → is_success unique (request_errno refusal) ≡ false
request_error unique (requests.Node fault) = node_error unique fault
request_error unique requests.ReadOnly = refl
request_error unique requests.Malformed = refl
request_error unique requests.Version = refl
request_error unique requests.Unserved = refl

refusal_error : (unique : ℕ) (refusal : MountedRefusal) → is_success unique (errno refusal) ≡ false
refusal_error unique (mounted.Request refusal) = request_error unique refusal
refusal_error unique (mounted.Call refusal) = call_error unique refusal
refusal_error unique mounted.NotPermitted = refl
refusal_error unique mounted.IsDirectory = refl
refusal_error unique mounted.Flags = refl
refusal_error unique mounted.Unsaved = refl

-- the error in the message of a refusal isn't 0
refused_error : (unique : ℕ) (refusal : MountedRefusal) → number 4 4 (status_message unique (errno refusal)) ≢ 0
refused_error unique refusal zero =
    true≢false (sym (eq-eqb (number 4 4 (status_message unique (errno refusal))) 0 zero) ∙ refusal_error unique refusal)

-- if the error in the reply is 0, the request isn't refused
not_refused : (unique : ℕ) (outcome : Result (List ℕ) MountedRefusal) (reply : List ℕ) → message_of unique outcome ≡ reply → number 4 4 reply ≡ 0
    → (bytes : List ℕ) × (outcome ≡ Ok bytes)
not_refused unique (Ok bytes) reply is accepted = (bytes, refl)
not_refused unique (Err refusal) reply is accepted = absurd (refused_error unique refusal (ap (number 4 4) is ∙ accepted))

-- a request was served, and what a later cut of the journal leaves of the server
pub record IsDone (old new : MountedServer) (now : ℕ) (header : Header) (operation : Operation) : Type 0 where
  pub answered : MountedServer
  pub reply : List ℕ
  pub served : IsServed old answered now header operation (Ok reply)
  pub edition : new.volume.edition ≡ answered.volume.edition
  pub image : new.volume.image ≡ answered.volume.image
  pub nodes : new.nodes ≡ answered.nodes
  pub owner : new.owner ≡ answered.owner
  pub files : files_in new ≡ files_in answered

done_by : (old answered new : MountedServer) (now count : ℕ) (header : Header) (operation : Operation) (reply : List ℕ) → IsCut answered new count
    → IsServed old answered now header operation (Ok reply) → IsDone old new now header operation
done_by old answered new now count header operation reply cut served = by cut
  where
    like : (mid : MountedServer) → new ≡ mid → mid.volume.edition ≡ answered.volume.edition → mid.volume.image ≡ answered.volume.image
        → mid.nodes ≡ answered.nodes → mid.owner ≡ answered.owner → files_in mid ≡ files_in answered → IsDone old new now header operation
    like mid same edition image nodes owner files = record {
      answered = answered;
      reply = reply;
      served = served;
      edition = ap (λ (server : MountedServer). server.volume.edition) same ∙ edition;
      image = ap (λ (server : MountedServer). server.volume.image) same ∙ image;
      nodes = ap (λ (server : MountedServer). server.nodes) same ∙ nodes;
      owner = ap (λ (server : MountedServer). server.owner) same ∙ owner;
      files = ap files_in same ∙ files;
    }

    by : IsCut answered new count → IsDone old new now header operation
    by (inl (light, same)) = like _ same refl refl refl refl refl
    by (inr (heavy, inl same)) = like _ same refl refl refl refl refl
    by (inr (heavy, inr (full, same))) = like _ same refl refl refl refl refl

-- an accepted request that saves nothing was served
pub is_done : (old new : MountedServer) (turn : Turn) (header : Header) (operation : Operation) → AcceptsRequest old new turn header operation
    → is_sync operation ≡ false → IsDone old new turn.now header operation
unfolding Answers
is_done old new turn header operation accepts quiet =
    by (wants_reply header.opcode)
    (subst (λ (asked : Result Request RequestFault). Answers old accepts.turned.answered turn.now asked turn.reply turn.images) accepts.request accepts.turned.answers)
  where
    asked : (outcome : Result (List ℕ) MountedRefusal) → message_of header.unique outcome ≡ accepts.reply
        → HasOutcome old accepts.turned.answered turn.now header operation outcome turn.images → IsDone old new turn.now header operation
    asked outcome is has =
        let ok = not_refused header.unique outcome accepts.reply is accepts.accepted in
        let both : IsServed old accepts.turned.answered turn.now header operation outcome × (turn.images ≡ []) =
        subst (λ b. MatchBool b (IsSynced old accepts.turned.answered turn.now header operation outcome turn.images)
        (IsServed old accepts.turned.answered turn.now header operation outcome × (turn.images ≡ []))) quiet has in
        done_by old accepts.turned.answered new turn.now (length turn.request) header operation ok.0 accepts.turned.cut
        (subst (IsServed old accepts.turned.answered turn.now header operation) ok.1 both.0)

    by : (waits : Bool) → MatchBool waits
        ((outcome : Result (List ℕ) MountedRefusal) × (turn.reply ≡ Some (message_of header.unique outcome))
        × HasOutcome old accepts.turned.answered turn.now header operation outcome turn.images)
        (Stays old accepts.turned.answered turn.images × (turn.reply ≡ None)) → IsDone old new turn.now header operation
    by true (outcome, is, has) =
        let both : Some (message_of header.unique outcome) ≡ Some accepts.reply = sym is ∙ accepts.came in
        let same : message_of header.unique outcome ≡ accepts.reply = cc in
        asked outcome same has
    by false (stays, none) = let both : None ≡ Some accepts.reply = sym none ∙ accepts.came in absurd (cc)

-- the tree after a request that was served
pub done_tree : (old new : MountedServer) (now : ℕ) (header : Header) (operation : Operation) (done : IsDone old new now header operation)
    → tree_in new ≡ tree_in done.answered
done_tree old new now header operation done =
    ap (λ edition. (reads_as edition new.volume.image).tree) done.edition
    ∙ ap (λ image. (reads_as done.answered.volume.edition image).tree) done.image

-- a request that was served on a node with a name made its calls
pub is_made : (old new : MountedServer) (now : ℕ) (header : Header) (operation : Operation) (done : IsDone old new now header operation)
    → is_orphan old header.node ≡ false → IsMade old done.answered now header operation
is_made old new now header operation done named =
    let answered : IsAnswered old done.answered now header operation (Ok done.reply) =
    subst (λ b. MatchBool b
    ((done.answered.volume ≡ old.volume) × (done.answered.nodes ≡ old.nodes) × IsReplied old done.answered now header operation (Ok done.reply))
    (IsAnswered old done.answered now header operation (Ok done.reply))) named done.served.1 in
    answered.0

-- the reply of a file after an operation on it, if the operation isn't refused
abbrev replied_by : ℕ → Operation → List KeptFile → ℕ → Result KeptFile MountedRefusal → Result FilesReplied MountedRefusal
replied_by unique operation files place after =
    and_then after (λ (after : KeptFile). Ok (record { files = slice_set files place after; reply = file_reply unique operation after }))

-- the files after an operation, which is RELEASE or not
abbrev pub after_by : Limits → ℕ → Header → Operation → List KeptFile → Bool → Result FilesReplied MountedRefusal
after_by limits now header operation files release =
    if release then Ok (record { files = closed_once header.node files; reply = status_message header.unique 0 })
    else with_file header.node files (Err (no_node faults.Stale)) (replied_at limits now header.unique operation files)

-- an operation that every file without a name refuses has no reply
none_replied : (limits : Limits) (now : ℕ) (header : Header) (operation : Operation) (files : List KeptFile) (refusal : MountedRefusal) (replied : FilesReplied)
    → is_release operation ≡ false → ((file : KeptFile) → file_after limits now operation file ≡ Err refusal)
    → files_after limits now header operation files ≡ Ok replied → ⊥
none_replied limits now header operation files refusal replied other refuses is =
    by (place_of header.node files)
    (subst (λ b. after_by limits now header operation files b ≡ Ok replied) other is)
  where
    at : (place : ℕ) (file : Option KeptFile)
        → option_map_or (replied_at limits now header.unique operation files place) file (Err (no_node faults.Stale)) ≡ Ok replied → ⊥
    at place None is = cc
    at place (Some file) is =
        let none : Err refusal ≡ Ok replied = sym (ap (replied_by header.unique operation files place) (refuses file)) ∙ is in cc

    by : (place : Option ℕ)
        → option_map_or (λ (place : ℕ). option_map_or (replied_at limits now header.unique operation files place) (slice_get files place) (Err (no_node faults.Stale)))
        place (Err (no_node faults.Stale)) ≡ Ok replied → ⊥
    by None is = cc
    by (Some place) is = at place (slice_get files place) is

-- if every file without a name refuses an operation that was served, it was on a node with a name
named_by : (old new : MountedServer) (now : ℕ) (header : Header) (operation : Operation) (refusal : MountedRefusal) → is_release operation ≡ false
    → ((limits : Limits) (file : KeptFile) → file_after limits now operation file ≡ Err refusal) → IsDone old new now header operation
    → is_orphan old header.node ≡ false
named_by old new now header operation refusal other refuses done = by (is_orphan old header.node) refl done.served.1
  where
    by : (b : Bool) → is_orphan old header.node ≡ b → MatchBool b
        ((done.answered.volume ≡ old.volume) × (done.answered.nodes ≡ old.nodes) × IsReplied old done.answered now header operation (Ok done.reply))
        (IsAnswered old done.answered now header operation (Ok done.reply)) → is_orphan old header.node ≡ false
    by true is (volume, nodes, replied) =
        absurd (none_replied (limits_in old) now header operation (files_in old) refusal _ other (refuses (limits_in old)) replied)
    by false is answered = is

-- a rename that was served was in a directory with a name
pub rename_named : (old new : MountedServer) (now : ℕ) (header : Header) (operation : Operation) (names : Renaming) → renaming_of operation ≡ Some names
    → IsDone old new now header operation → is_orphan old header.node ≡ false
unfolding file_after
rename_named old new now header (operations.Rename directory name new_name) names is done =
    named_by old new now header (operations.Rename directory name new_name) (mounted.Request requests.Unserved) refl (λ limits file. refl) done
rename_named old new now header (operations.Rename2 directory flags name new_name) names is done =
    named_by old new now header (operations.Rename2 directory flags name new_name) (mounted.Request requests.Unserved) refl (λ limits file. refl) done
rename_named old new now header operation names is done = absurd (cc)
