-- Turns, one after another.
use Rattle.std.proofs.Common.{◌≡◌, ◌∙◌, refl, sym, ap, subst, ℕ, List, [], ◌∷◌, ◌++◌, append_assoc, Option, None, Some, Result, Ok, Err}
use Rattle.std.proofs.lemmas.List.{append-nil}
use Rattle.std.proofs.lemmas.List.Elements.{filter_map-append}
use Rattle.std.specs.Prelude.{Bool, true, false, MatchBool}
use Rattle.std.specs.Bool.{OnTrue, OnFalse}
use Rattle.fuse_words.specs.Requests.{wants_reply}
use Rattle.fuse_words.specs.declared.request.Header.{Header}
use Rattle.fuse_words.specs.declared.request.Request.{Request}
use Rattle.fuse_words.specs.declared.request.RequestFault.{RequestFault}
use Rattle.fuse_words.specs.declared.request.RequestFault.TheVariants as faults
use Rattle.vol_serve.specs.Messages.{Grows}
use Rattle.vol_serve.proofs.MessageLaws.{grows_more}
use Rattle.vol_mounted.specs.Services.{requests_of, replies_of, images_of}
use Rattle.vol_mounted.specs.Turns.{Turn, Turns, Follow, Answers, HasOutcome, message_of, malformed_reply}
use Rattle.vol_mounted.specs.declared.refusal.MountedRefusal.{MountedRefusal}
use Rattle.vol_mounted.specs.declared.server.MountedServer.{MountedServer}

-- some turns followed by one more turn lead from the first server to the last one
pub follow_more : (old now new : MountedServer) (turns : List Turn) (turn : Turn) → Follow old turns now → Turns now new turn
    → Follow old (turns ++ turn ∷ []) new
unfolding Follow
follow_more old now new [] turn same turned = (new, subst (λ (server : MountedServer). Turns server new turn) same turned, refl)
follow_more old now new (first ∷ turns) turn (between, begun, followed) turned = (between, begun, follow_more between now new turns turn followed turned)

-- no turns lead from a server to itself
pub follow_none : (server : MountedServer) → Follow server [] server
unfolding Follow
follow_none server = refl

-- the two cases of sending a reply: it was sent, or it couldn't be sent
pub sent_or_not : (P Q R S : Type 0) (b : Bool) → OnTrue b P → OnFalse b Q → R → OnFalse b S → MatchBool b P (Q × R × S)
sent_or_not P Q R S true sent kept missing failed = sent
sent_or_not P Q R S false sent kept missing failed = (kept, missing, failed)

-- the requests of some turns and one more are the requests of the turns, followed by the request of the one more
pub requests_more : (turns : List Turn) (turn : Turn) → requests_of (turns ++ turn ∷ []) ≡ requests_of turns ++ turn.request ∷ []
requests_more [] turn = refl
requests_more (first ∷ turns) turn = ap (λ more. first.request ∷ more) (requests_more turns turn)

-- the images of some turns and one more are the images of the turns, followed by the images of the one more
pub images_more : (turns : List Turn) (turn : Turn) → images_of (turns ++ turn ∷ []) ≡ images_of turns ++ turn.images
images_more [] turn = append-nil turn.images
images_more (first ∷ turns) turn =
    ap (λ more. first.images ++ more) (images_more turns turn) ∙ sym (append_assoc first.images (images_of turns) turn.images)

-- if `b` is true, `MatchBool` holds in its first case
pub match_true : (P Q : Type 0) (b : Bool) → b ≡ true → P → MatchBool b P Q
match_true P Q b is p = subst (λ way. MatchBool way P Q) (sym is) p

-- if `b` is false, `MatchBool` holds in its second case
pub match_false : (P Q : Type 0) (b : Bool) → b ≡ false → Q → MatchBool b P Q
match_false P Q b is q = subst (λ way. MatchBool way P Q) (sym is) q

-- a request whose reply the kernel doesn't wait for changes nothing and has no reply
pub unanswered : (server : MountedServer) (now : ℕ) (request : Request) → wants_reply request.header.opcode ≡ false
    → Answers server server now (Ok request) None []
unfolding Answers
unanswered server now request quiet = match_false _ _ (wants_reply request.header.opcode) quiet ((refl, refl), refl)

-- a request whose reply the kernel waits for has the reply of its outcome
pub replied : (old new : MountedServer) (now : ℕ) (request : Request) (outcome : Result (List ℕ) MountedRefusal) (reply : List ℕ) (images : List (List ℕ))
    → wants_reply request.header.opcode ≡ true → reply ≡ message_of request.header.unique outcome
    → HasOutcome old new now request.header request.operation outcome images → Answers old new now (Ok request) (Some reply) images
unfolding Answers
replied old new now request outcome reply images waits is has =
    match_true _ _ (wants_reply request.header.opcode) waits (outcome, ap Some is, has)

-- if there are fewer bytes than in a header, nothing changes and there is no reply
pub unheard : (server : MountedServer) (now : ℕ) (asked : Result Request RequestFault) (fault : RequestFault) → Err fault ≡ asked
    → fault ≡ faults.NoHeader → Answers server server now asked None []
unfolding Answers
unheard server now asked fault is why =
    subst (λ one. Answers server server now one None []) is
    (subst (λ one. Answers server server now (Err one) None []) (sym why) ((refl, refl), refl))

-- if the length in the header isn't the request's, nothing changes and the reply is that to a malformed request
pub misjudged : (server : MountedServer) (now : ℕ) (asked : Result Request RequestFault) (fault : RequestFault) (header : Header) (reply : Option (List ℕ))
    → Err fault ≡ asked → fault ≡ faults.Length header → reply ≡ malformed_reply header → Answers server server now asked reply []
unfolding Answers
misjudged server now asked fault header reply is why so =
    subst (λ one. Answers server server now one reply []) is
    (subst (λ one. Answers server server now (Err one) reply []) (sym why) ((refl, refl), so))

-- if the body isn't the operation's, nothing changes and the reply is that to a malformed request
pub misshapen : (server : MountedServer) (now : ℕ) (asked : Result Request RequestFault) (fault : RequestFault) (header : Header) (reply : Option (List ℕ))
    → Err fault ≡ asked → fault ≡ faults.Body header → reply ≡ malformed_reply header → Answers server server now asked reply []
unfolding Answers
misshapen server now asked fault header reply is why so =
    subst (λ one. Answers server server now one reply []) is
    (subst (λ one. Answers server server now (Err one) reply []) (sym why) ((refl, refl), so))

-- if one more request is taken, the requests taken are the requests of the turns with the new turn
pub requests_grow : (a b c : Option (List (List ℕ))) (turns : List Turn) (turn : Turn) (request : List ℕ) → turn.request ≡ request
    → Grows a b (requests_of turns) → Grows b c (request ∷ []) → Grows a c (requests_of (turns ++ turn ∷ []))
requests_grow a b c turns turn request is first then =
    subst (λ more. Grows a c more) (sym (requests_more turns turn))
    (subst (λ taken. Grows a c (requests_of turns ++ taken ∷ [])) (sym is) (grows_more a b c (requests_of turns) (request ∷ []) first then))

-- if the reply of one more turn is sent, the replies sent are the replies of the turns with the new turn
pub replies_grow : (a b c : Option (List (List ℕ))) (turns : List Turn) (turn : Turn) → Grows a b (replies_of turns) → Grows b c (replies_of (turn ∷ []))
    → Grows a c (replies_of (turns ++ turn ∷ []))
replies_grow a b c turns turn first then =
    subst (λ more. Grows a c more) (sym (filter_map-append (λ (one : Turn). one.reply) turns (turn ∷ [])))
    (grows_more a b c (replies_of turns) (replies_of (turn ∷ [])) first then)

-- if the images of one more turn are saved, the images saved are the images of the turns with the new turn
pub images_grow : (a b c : Option (List (List ℕ))) (turns : List Turn) (turn : Turn) → Grows a b (images_of turns) → Grows b c turn.images
    → Grows a c (images_of (turns ++ turn ∷ []))
images_grow a b c turns turn first then =
    subst (λ more. Grows a c more) (sym (images_more turns turn)) (grows_more a b c (images_of turns) turn.images first then)
