-- The image in the file, from turn to turn: by `Stores` it is the server's, unless the server's is marked as changed.
use Rattle.std.proofs.Common.{◌≡◌, ◌∙◌, refl, sym, ap, subst, true≢false, ℕ, List, [], ◌++◌, length, Option, None, Some, Result, Ok, Err, inl, inr}
use Rattle.std.proofs.lemmas.List.{append-nil}
use Rattle.std.proofs.lemmas.List.Sums.{fold-append}
use Rattle.std.proofs.lemmas.Option.{none-some}
use Rattle.std.specs.Prelude.{Bool, true, false, MatchBool, unwrap_or}
use Rattle.fuse_words.specs.Requests.{wants_reply}
use Rattle.fuse_words.specs.declared.operation.Operation.{Operation}
use Rattle.fuse_words.specs.declared.request.Header.{Header}
use Rattle.fuse_words.specs.declared.request.Request.{Request}
use Rattle.fuse_words.specs.declared.request.RequestFault.{RequestFault}
use Rattle.fuse_words.specs.declared.request.RequestFault.TheVariants as faults
use Rattle.vol_serve.specs.Messages.{Grows}
use Rattle.vol_mounted.specs.Servers.{IsNoted}
use Rattle.vol_mounted.specs.Services.{IsStored, Stores, last_of}
use Rattle.vol_mounted.specs.Turns.{Turn, Turns, Answers, HasOutcome, IsCut, IsSaved, IsServed, IsSynced, Stays, is_sync, message_of}
use Rattle.vol_mounted.specs.declared.refusal.MountedRefusal.{MountedRefusal}
use Rattle.vol_mounted.specs.declared.server.MountedServer.{MountedServer}

-- if no image was saved, the file still has the server's image, or the image is marked as changed
none_saved : (file : List ℕ) (saved saved' : Option (List (List ℕ))) (server : MountedServer) → Grows saved saved' [] → Stores file saved server → Stores file saved' server
none_saved file None saved' server grows (images, is, last) = absurd (none-some images is)
none_saved file (Some before) saved' server grows (images, is, last) =
    (before, grows ∙ ap Some (append-nil before), λ unchanged. last unchanged ∙ ap (last_of file) (same before images is))
  where
    same : (xs ys : List (List ℕ)) → Some xs ≡ Some ys → ys ≡ xs
    same xs ys equal = ap (λ (known : Option (List (List ℕ))). unwrap_or known []) (sym equal)

-- if the image was changed and is marked as changed, or wasn't changed, `Stores` still holds
noted : (file : List ℕ) (saved : Option (List (List ℕ))) (old new : MountedServer) → IsNoted old new → Stores file saved old → Stores file saved new
noted file saved old new (inl (same, flag)) (images, is, last) = (images, is, λ unchanged. same ∙ last (sym flag ∙ unchanged))
noted file saved old new (inr changed) (images, is, last) = (images, is, λ unchanged. absurd (true≢false (sym changed ∙ unchanged)))

-- `Stores` still holds after a save, whether it succeeded or not
pub saved_keeps : (file : List ℕ) (saved saved' : Option (List (List ℕ))) (old new : MountedServer) (images : List (List ℕ)) (done : Bool)
    → Grows saved saved' images → IsSaved old new images done → Stores file saved old → Stores file saved' new
saved_keeps file saved saved' old new images true grows (inl (flag, same, none)) stores =
    subst (λ (server : MountedServer). Stores file saved' server) (sym same) (none_saved file saved saved' old (subst (Grows saved saved') none grows) stores)
saved_keeps file None saved' old new images true grows (inr (same, one)) (before, is, last) = absurd (none-some before is)
saved_keeps file (Some before) saved' old new images true grows (inr (same, one)) stores = (
  before ++ images,
  grows,
  λ unchanged. ap (λ (server : MountedServer). server.volume.image) same
      ∙ sym (fold-append (λ (before image : List ℕ). image) file before images ∙ ap (λ more. last_of (last_of file before) more) one),
)
saved_keeps file saved saved' old new images false grows (same, none) stores =
    subst (λ (server : MountedServer). Stores file saved' server) (sym same) (none_saved file saved saved' old (subst (Grows saved saved') none grows) stores)

-- after a save that succeeded, the file has the server's image
pub stored : (file : List ℕ) (saved saved' : Option (List (List ℕ))) (old new : MountedServer) (images : List (List ℕ))
    → Grows saved saved' images → IsSaved old new images true → Stores file saved old → IsStored file saved' new.volume.image
stored file saved saved' old new images grows is stores =
    let kept : Stores file saved' new = saved_keeps file saved saved' old new images true grows is stores in (kept.0, kept.1, kept.2 (unnoted is))
  where
    unnoted : IsSaved old new images true → new.is_changed ≡ false
    unnoted (inl (flag, same, none)) = ap (λ (server : MountedServer). server.is_changed) same ∙ flag
    unnoted (inr (same, one)) = ap (λ (server : MountedServer). server.is_changed) same

-- `Stores` still holds after an operation was answered, where FSYNC and FSYNCDIR save the image first
outcome_keeps : (file : List ℕ) (saved saved' : Option (List (List ℕ))) (old new : MountedServer) (now : ℕ) (header : Header) (operation : Operation)
    (outcome : Result (List ℕ) MountedRefusal) (images : List (List ℕ)) → Grows saved saved' images → HasOutcome old new now header operation outcome images
    → Stores file saved old → Stores file saved' new
outcome_keeps file saved saved' old new now header operation outcome images grows has stores = by (is_sync operation) has
  where
    by : (sync : Bool) → MatchBool sync (IsSynced old new now header operation outcome images)
        (IsServed old new now header operation outcome × (images ≡ [])) → Stores file saved' new
    by true (inl (between, is_saved, served)) =
        noted file saved' between new served.0.noted (saved_keeps file saved saved' old between images true grows is_saved stores)
    by true (inr (is_saved, refused)) = saved_keeps file saved saved' old new images false grows is_saved stores
    by false (served, none) =
        none_saved file saved saved' new (subst (Grows saved saved') none grows) (noted file saved old new served.0.noted stores)

-- `Stores` still holds if nothing changed
stays_keeps : (file : List ℕ) (saved saved' : Option (List (List ℕ))) (old new : MountedServer) (images : List (List ℕ)) → Grows saved saved' images
    → Stays old new images → Stores file saved old → Stores file saved' new
stays_keeps file saved saved' old new images grows stays stores = saved_keeps file saved saved' old new images false grows stays stores

-- `Stores` still holds after a request was answered
answers_keeps : (file : List ℕ) (saved saved' : Option (List (List ℕ))) (old new : MountedServer) (now : ℕ) (asked : Result Request RequestFault)
    (reply : Option (List ℕ)) (images : List (List ℕ)) → Grows saved saved' images → Answers old new now asked reply images
    → Stores file saved old → Stores file saved' new
unfolding Answers
answers_keeps file saved saved' old new now (Ok request) reply images grows answers stores = by (wants_reply request.header.opcode) answers
  where
    by : (waits : Bool) → MatchBool waits
        ((outcome : Result (List ℕ) MountedRefusal) × (reply ≡ Some (message_of request.header.unique outcome))
        × HasOutcome old new now request.header request.operation outcome images)
        (Stays old new images × (reply ≡ None)) → Stores file saved' new
    by true (outcome, is, has) = outcome_keeps file saved saved' old new now request.header request.operation outcome images grows has stores
    by false (stays, is) = stays_keeps file saved saved' old new images grows stays stores
answers_keeps file saved saved' old new now (Err faults.NoHeader) reply images grows answers stores = stays_keeps file saved saved' old new images grows answers.0 stores
answers_keeps file saved saved' old new now (Err (faults.Length header)) reply images grows answers stores = stays_keeps file saved saved' old new images grows answers.0 stores
answers_keeps file saved saved' old new now (Err (faults.Body header)) reply images grows answers stores = stays_keeps file saved saved' old new images grows answers.0 stores

-- cutting the journal, or not, doesn't change the image or its mark
cut_noted : (old new : MountedServer) (count : ℕ) → IsCut old new count → IsNoted old new
cut_noted old new count cut = by cut
  where
    like : (mid : MountedServer) → new ≡ mid → mid.volume.image ≡ old.volume.image → mid.is_changed ≡ old.is_changed → IsNoted old new
    like mid same image flag = inl (ap (λ (server : MountedServer). server.volume.image) same ∙ image, ap (λ (server : MountedServer). server.is_changed) same ∙ flag)

    by : IsCut old new count → IsNoted old new
    by (inl (light, same)) = like _ same refl refl
    by (inr (heavy, inl same)) = like _ same refl refl
    by (inr (heavy, inr (full, same))) = like _ same refl refl

-- `Stores` still holds after a turn
pub turn_keeps : (file : List ℕ) (saved saved' : Option (List (List ℕ))) (old new : MountedServer) (turn : Turn) → Grows saved saved' turn.images
    → Turns old new turn → Stores file saved old → Stores file saved' new
turn_keeps file saved saved' old new turn grows turned stores =
    noted file saved' turned.answered new (cut_noted turned.answered new (length turn.request) turned.cut)
    (answers_keeps file saved saved' old turned.answered turn.now _ turn.reply turn.images grows turned.answers stores)
