-- A node number is never used for two nodes that live at different times.
use Rattle.std.proofs.Common.{◌≡◌, ◌≢◌, ◌∙◌, ◌⊎◌, sym, ap, subst, refl, ℕ, ◌+◌, ◌-◌, ◌*◌, ◌^◌, ◌<◌, arith, Bool, true, false, List, [], ◌∷◌, ◌++◌, length, eq-eqb, Option, None, Some, Result, Ok, Err, inl, inr}
use Rattle.std.specs.Prelude.{nat_lt, if◌then◌else◌, MatchBool}
use Rattle.std.proofs.lemmas.Bool.{cases_eq, false≢true, ne_eqb, or_parts}
use Rattle.std.specs.List.{list_any}
use Rattle.std.proofs.lemmas.Bool.Decides.{nat_tests}
use Rattle.std.proofs.lemmas.List.{append-nil}
use Rattle.std.proofs.lemmas.List.Folds.{list_any-append}
use Rattle.fuse_words.specs.Requests.{wants_reply, request_of}
use Rattle.fuse_words.specs.declared.operation.Operation.{Operation}
use Rattle.fuse_words.specs.declared.operation.Operation.TheVariants as operations
use Rattle.fuse_words.specs.declared.request.Header.{Header}
use Rattle.fuse_words.specs.declared.request.Request.{Request}
use Rattle.fuse_words.specs.declared.request.RequestFault.{RequestFault}
use Rattle.fuse_words.specs.declared.request.RequestFault.TheVariants as faults
use Rattle.pdp_words.specs.Steps.{and_then}
use Rattle.vol_layout.specs.Edition.{constants}
use Rattle.vol_layout.specs.Geometry.{geometry_of}
use Rattle.vol_layout.specs.declared.edition.Edition.{Edition}
use Rattle.vol_layout.specs.declared.geometry.Geometry.{Geometry}
use Rattle.vol_dir.specs.Tree.{State, tree}
use Rattle.vol_dir.specs.Walk.{root}
use Rattle.vol_volume.specs.Volume.{Mounted}
use Rattle.vol_volume.specs.declared.calls.Call.{Call}
use Rattle.vol_batch.specs.Batch.{AreMade}
use Rattle.vol_serve.specs.Nodes.{look_up}
use Rattle.vol_mounted.specs.Laws.{NumbersStayApart}
use Rattle.vol_mounted.specs.Numbers.{birth_at, i_number, node_number}
use Rattle.vol_mounted.specs.Records.{after_loss, found, settled}
use Rattle.vol_mounted.specs.Refusals.{no_space}
use Rattle.vol_mounted.specs.Replies.{calls_of}
use Rattle.vol_mounted.specs.Servers.{sight_at, spare_in}
use Rattle.vol_mounted.specs.Losses.{lost_bytes, lost_node}
use Rattle.vol_mounted.specs.Turns.{Turn, Turns, Follow, Answers, HasOutcome, IsAnswered, IsCut, IsMade, IsReplied, IsSaved, IsServed, IsSynced, IsUnmade, Remembers, Stays, is_orphan, is_sync, message_of, planned}
use Rattle.vol_mounted.specs.declared.known.KnownNode.{KnownNode}
use Rattle.vol_mounted.specs.declared.refusal.MountedRefusal.{MountedRefusal}
use Rattle.vol_mounted.specs.declared.server.MountedServer.{MountedServer}
use Rattle.vol_mounted.proofs.Births.{IsLater, later_same, later_then, remembered_later, loss_later, found_more}
use Rattle.vol_mounted.proofs.FreeNodes.{makes, state_of, made_free, made_edition, made_count, stopped_front}
use Rattle.vol_mounted.proofs.MakingPlans.{MakesNamed, MakesNone, has_held, is_making, made_name, making, making_none}
use Rattle.vol_mounted.proofs.NewNodes.{bears}

-- a volume and its records after some requests: no i-number has fewer births, and one whose node was made has more, and isn't the root's
pub record Advances (old new : Mounted) (before after : List KnownNode) : Type 0 where
  pub edition : new.edition ≡ old.edition
  pub later : IsLater before after
  pub more : (i : ℕ) → (state_of old).tree.nodes i ≡ None → (state_of new).tree.nodes i ≢ None
      → (i ≢ root (state_of old).tree) × (i < length before → birth_at before i < 2 ^ 32 - 1 → birth_at before i < birth_at after i)

-- nothing changes
same_stays : (old new : Mounted) (before after : List KnownNode) → new ≡ old → after ≡ before → Advances old new before after
same_stays old new before after volume nodes = record {
  edition = ap (λ (v : Mounted). v.edition) volume;
  later = subst (IsLater before) (sym nodes) (later_same before);
  more = λ i free lives. absurd (lives (ap (λ (v : Mounted). (state_of v).tree.nodes i) volume ∙ free));
}

-- the calls of a plan are those of the operation
pub planned_calls : (server : MountedServer) (now : ℕ) (header : Header) (operation : Operation) (all : List Call) → planned server now header operation ≡ Ok all
    → calls_of (sight_at server now) header operation ≡ Ok all
planned_calls server now header operation all =
    by (calls_of (sight_at server now) header operation) (nat_lt (spare_in server) (lost_bytes (sight_at server now) header operation))
  where
    by : (result : Result (List Call) MountedRefusal) (full : Bool)
        → and_then result (λ calls. if full then Err no_space else Ok calls) ≡ Ok all → result ≡ Ok all
    by (Ok calls) true is = absurd (cc)
    by (Ok calls) false is = is
    by (Err refusal) full is = absurd (cc)

-- if no call makes a node, none of the first ones does
front_none : (front rest : List Call) → MakesNone (front ++ rest) → MakesNone front
front_none front rest none = (or_parts (list_any makes front) (list_any makes rest) (sym (list_any-append makes front rest) ∙ none)).0

-- the records after MKNOD and MKDIR
settled_found : (geometry : Geometry) (image : List ℕ) (nodes : List KnownNode) (header : Header) (operation : Operation) → is_making operation ≡ true
    → settled geometry image nodes header operation ≡ found geometry image nodes true header.node (made_name operation)
unfolding settled
settled_found geometry image nodes header (operations.MkNod mode device name) it = refl
settled_found geometry image nodes header (operations.MkDir mode name) it = refl
settled_found geometry image nodes header operation it = absurd (false≢true it)

-- the births of a node that MKNOD or MKDIR made
new_births : (old new : MountedServer) (now : ℕ) (header : Header) (operation : Operation) (i d : ℕ) → is_making operation ≡ true
    → new.volume.edition ≡ old.volume.edition → Remembers old new now header operation true
    → i_number old.volume.edition old.nodes header.node ≡ Some d → look_up (state_of new.volume).tree d (made_name operation) ≡ Ok i
    → i < length old.nodes → birth_at old.nodes i < 2 ^ 32 - 1 → birth_at old.nodes i < birth_at new.nodes i
new_births old new now header operation i d it same remembers at leads within few =
    let geometry = geometry_of new.volume.edition new.volume.image in
    let name = made_name operation in
    let more = found_more geometry new.volume.image old.nodes header.node d i name
    (ap (λ edition. i_number edition old.nodes header.node) same ∙ at) leads within few in
    let lost = lost_node (sight_at old now) header operation in
    let kept = (loss_later geometry new.volume.image (found geometry new.volume.image old.nodes true header.node name) lost).births i in
    let is = remembers.0 ∙ ap (λ nodes. after_loss geometry new.volume.image nodes lost) (settled_found geometry new.volume.image old.nodes header operation it) in
    subst (λ nodes. birth_at old.nodes i < birth_at nodes i) (sym is) (omega (arith, more, kept))

-- MKNOD and MKDIR
making_more : (old new : MountedServer) (now : ℕ) (header : Header) (operation : Operation) (all front rest : List Call) (i : ℕ) → is_making operation ≡ true
    → planned old now header operation ≡ Ok all → all ≡ front ++ rest → AreMade old.volume front new.volume
    → Remembers old new now header operation true → (state_of old.volume).tree.nodes i ≡ None → (state_of new.volume).tree.nodes i ≢ None
    → (i ≢ root (state_of old.volume).tree) × (i < length old.nodes → birth_at old.nodes i < 2 ^ 32 - 1 → birth_at old.nodes i < birth_at new.nodes i)
making_more old new now header operation all front rest i it plan is made remembers free lives =
    let name = made_name operation in
    let named = has_held (MakesNamed (sight_at old now) header.node name) _ all (making (sight_at old now) header operation it)
    (planned_calls old now header operation all plan) in
    elim (bears old.volume new.volume front rest named.call named.owner now named.perm named.path name named.d named.makes (sym named.is ∙ is) made
    named.walked named.short named.plain) [
      | inl same ↦ absurd (lives (ap (λ (volume : Mounted). (state_of volume).tree.nodes i) same ∙ free))
      | inr born ↦
          let here : i ≡ born.number = elim (cases_eq i born.number) [
            | inl here ↦ here
            | inr other ↦ absurd (lives (born.others i other free))
          ] in (
            λ at. born.above (sym here ∙ at),
            new_births old new now header operation i named.d it (made_edition old.volume new.volume front made) remembers named.directory
                (born.looks ∙ ap Ok (sym here)),
          )
    ]

-- some calls of an operation were made, and the records are those after it, unless none was made
operation_advances : (old new : MountedServer) (now : ℕ) (header : Header) (operation : Operation) (all front rest : List Call) (is_made : Bool)
    → planned old now header operation ≡ Ok all → all ≡ front ++ rest → AreMade old.volume front new.volume → (is_made ≡ true) ⊎ (new.volume ≡ old.volume)
    → Remembers old new now header operation is_made → Advances old.volume new.volume old.nodes new.nodes
operation_advances old new now header operation all front rest is_made plan is made some remembers = record {
  edition = made_edition old.volume new.volume front made;
  later = subst (IsLater old.nodes) (sym remembers.0)
      (remembered_later _ new.volume.image old.nodes header operation is_made (lost_node (sight_at old now) header operation));
  more = λ i free lives. elim some [
    | inl all_made ↦ by i free lives (subst (Remembers old new now header operation) all_made remembers) (is_making operation) refl
    | inr same ↦ absurd (lives (ap (λ (volume : Mounted). (state_of volume).tree.nodes i) same ∙ free))
  ];
}
  where
    by : (i : ℕ) → (state_of old.volume).tree.nodes i ≡ None → (state_of new.volume).tree.nodes i ≢ None → Remembers old new now header operation true
        → (b : Bool) → is_making operation ≡ b
        → (i ≢ root (state_of old.volume).tree) × (i < length old.nodes → birth_at old.nodes i < 2 ^ 32 - 1 → birth_at old.nodes i < birth_at new.nodes i)
    by i free lives settles true it = making_more old new now header operation all front rest i it plan is made settles free lives
    by i free lives settles false other =
        let none = has_held MakesNone _ all (making_none (sight_at old now) header operation other) (planned_calls old now header operation all plan) in
        absurd (lives (made_free old.volume new.volume front i made (front_none front rest (subst MakesNone is none)) free))

-- if calls were made, the journal has grown
some_made : (old new : Mounted) (front : List Call) → AreMade old front new → (nat_lt (length old.journal) (length new.journal) ≡ true) ⊎ (new ≡ old)
unfolding AreMade
some_made old new [] same = inr same
some_made old new (call ∷ front) made =
    let count = made_count old new (call ∷ front) made in
    let grown : length old.journal < length new.journal = omega (arith, count) in
    inl (grind (arith, nat_tests, grown))

-- the volume and the records of a server after a request
abbrev pub Goes : MountedServer → MountedServer → Type 0
Goes old new = Advances old.volume new.volume old.nodes new.nodes

made_goes : (old new : MountedServer) (now : ℕ) (header : Header) (operation : Operation) → IsMade old new now header operation → Goes old new
made_goes old new now header operation ((calls, plan, made), remembers) =
    operation_advances old new now header operation calls calls [] true plan (sym (append-nil calls)) made (inl refl) remembers

unmade_goes : (old new : MountedServer) (now : ℕ) (header : Header) (operation : Operation) (refusal : MountedRefusal)
    → IsUnmade old new now header operation refusal → Goes old new
unmade_goes old new now header operation refusal (inl (volume, nodes, files, why)) = same_stays old.volume new.volume old.nodes new.nodes volume nodes
unmade_goes old new now header operation refusal (inr (calls, plan, (why, stopped, is, made), remembers)) =
    let front = stopped_front old.volume new.volume calls why stopped made in
    operation_advances old new now header operation calls front.0 front.1 _ plan front.2 front.3 (some_made old.volume new.volume front.0 front.3) remembers

answered_goes : (old new : MountedServer) (now : ℕ) (header : Header) (operation : Operation) (outcome : Result (List ℕ) MountedRefusal)
    → IsAnswered old new now header operation outcome → Goes old new
answered_goes old new now header operation (Ok reply) (made, is) = made_goes old new now header operation made
answered_goes old new now header operation (Err refusal) (inl unmade) = unmade_goes old new now header operation refusal unmade
answered_goes old new now header operation (Err refusal) (inr (made, is)) = made_goes old new now header operation made

served_goes : (old new : MountedServer) (now : ℕ) (header : Header) (operation : Operation) (outcome : Result (List ℕ) MountedRefusal)
    → IsServed old new now header operation outcome → Goes old new
served_goes old new now header operation outcome served = by (is_orphan old header.node) served.1
  where
    by : (b : Bool) → MatchBool b ((new.volume ≡ old.volume) × (new.nodes ≡ old.nodes) × IsReplied old new now header operation outcome)
        (IsAnswered old new now header operation outcome) → Goes old new
    by true (volume, nodes, replied) = same_stays old.volume new.volume old.nodes new.nodes volume nodes
    by false answered = answered_goes old new now header operation outcome answered

unchanged : (old new : MountedServer) → new ≡ old → Goes old new
unchanged old new same =
    same_stays old.volume new.volume old.nodes new.nodes (ap (λ (server : MountedServer). server.volume) same) (ap (λ (server : MountedServer). server.nodes) same)

-- a save changes neither the volume nor the records
saved_goes : (old between new : MountedServer) (images : List (List ℕ)) → IsSaved old between images true → Goes between new → Goes old new
saved_goes old between new images (inl (flag, same, none)) goes = subst (λ server. Goes server new) same goes
saved_goes old between new images (inr (same, one)) goes = subst (λ server. Goes server new) same goes

outcome_goes : (old new : MountedServer) (now : ℕ) (header : Header) (operation : Operation) (outcome : Result (List ℕ) MountedRefusal) (images : List (List ℕ))
    → HasOutcome old new now header operation outcome images → Goes old new
outcome_goes old new now header operation outcome images has = by (is_sync operation) has
  where
    by : (sync : Bool) → MatchBool sync (IsSynced old new now header operation outcome images)
        (IsServed old new now header operation outcome × (images ≡ [])) → Goes old new
    by true (inl (between, is_saved, served)) = saved_goes old between new images is_saved (served_goes between new now header operation outcome served)
    by true (inr (is_saved, refused)) = unchanged old new is_saved.0
    by false (served, none) = served_goes old new now header operation outcome served

answers_go : (old new : MountedServer) (now : ℕ) (asked : Result Request RequestFault) (reply : Option (List ℕ)) (images : List (List ℕ))
    → Answers old new now asked reply images → Goes old new
unfolding Answers
answers_go old new now (Ok request) reply images answers = by (wants_reply request.header.opcode) answers
  where
    by : (waits : Bool) → MatchBool waits
        ((outcome : Result (List ℕ) MountedRefusal) × (reply ≡ Some (message_of request.header.unique outcome))
        × HasOutcome old new now request.header request.operation outcome images)
        (Stays old new images × (reply ≡ None)) → Goes old new
    by true (outcome, is, has) = outcome_goes old new now request.header request.operation outcome images has
    by false (stays, is) = unchanged old new stays.0
answers_go old new now (Err faults.NoHeader) reply images answers = unchanged old new answers.0.0
answers_go old new now (Err (faults.Length header)) reply images answers = unchanged old new answers.0.0
answers_go old new now (Err (faults.Body header)) reply images answers = unchanged old new answers.0.0

-- cutting the journal, or not, changes neither the tree nor the records
cut_goes : (old answered new : MountedServer) (count : ℕ) → IsCut answered new count → Goes old answered → Goes old new
cut_goes old answered new count cut goes = by cut
  where
    like : (mid : MountedServer) → new ≡ mid → mid.volume.edition ≡ answered.volume.edition → state_of mid.volume ≡ state_of answered.volume
        → mid.nodes ≡ answered.nodes → Goes old new
    like mid same edition state nodes =
        let same_nodes = ap (λ (server : MountedServer). server.nodes) same ∙ nodes in
        let same_state = ap (λ (server : MountedServer). state_of server.volume) same ∙ state in
        record {
          edition = ap (λ (server : MountedServer). server.volume.edition) same ∙ (edition ∙ goes.edition);
          later = subst (IsLater old.nodes) (sym same_nodes) goes.later;
          more = λ i free lives.
              let more = goes.more i free (λ none. lives (ap (λ (s : State). s.tree.nodes i) same_state ∙ none)) in
              (more.0, subst (λ nodes. i < length old.nodes → birth_at old.nodes i < 2 ^ 32 - 1 → birth_at old.nodes i < birth_at nodes i) (sym same_nodes) more.1);
        }

    by : IsCut answered new count → Goes old new
    by (inl (light, same)) = like _ same refl refl refl
    by (inr (heavy, inl same)) = like _ same refl refl refl
    by (inr (heavy, inr (full, same))) = like _ same refl refl refl

pub turn_goes : (old new : MountedServer) (turn : Turn) → Turns old new turn → Goes old new
turn_goes old new turn turned =
    cut_goes old turned.answered new (length turn.request) turned.cut
    (answers_go old turned.answered turn.now (request_of turn.request) turn.reply turn.images turned.answers)

-- turns keep the edition, and lower no births
pub follow_later : (old new : MountedServer) (turns : List Turn) → Follow old turns new → (new.volume.edition ≡ old.volume.edition) × IsLater old.nodes new.nodes
unfolding Follow
follow_later old new [] same =
    (ap (λ (server : MountedServer). server.volume.edition) same, subst (IsLater old.nodes) (sym (ap (λ (server : MountedServer). server.nodes) same)) (later_same old.nodes))
follow_later old new (turn ∷ turns) (between, turned, followed) =
    let first = turn_goes old between turn turned in
    let rest = follow_later between new turns followed in
    (rest.0 ∙ first.edition, later_then old.nodes between.nodes new.nodes first.later rest.1)

-- two numbers differ if the one is of an i-number with births that the other's node hasn't reached
numbers_differ : (edition : Edition) (old new : List KnownNode) (i j : ℕ) → i < 65536 → j < 65536 → i ≢ (constants edition).root
    → birth_at old i < birth_at new i → node_number edition new i ≢ node_number edition old j
numbers_differ edition old new i j short low other more same =
    let root = (constants edition).root in
    let number : node_number edition new i ≡ 65536 * birth_at new i + i = ap (λ b. if b then 1 else 65536 * birth_at new i + i) (ne_eqb i root other) in
    elim (cases_eq j root) [
      | inl at ↦
          let one : node_number edition old j ≡ 1 = ap (λ b. if b then 1 else 65536 * birth_at old j + j) (eq-eqb j root at) in
          omega (arith, same, number, one, more)
      | inr away ↦
          let its : node_number edition old j ≡ 65536 * birth_at old j + j = ap (λ b. if b then 1 else 65536 * birth_at old j + j) (ne_eqb j root away) in
          let here : j ≡ i = omega (arith, same, number, its, short, low) in
          let births : birth_at old j ≡ birth_at old i = ap (birth_at old) here in
          omega (arith, same, number, its, here, births, more)
    ]

-- the root's i-number, by the edition
root_is : (volume : Mounted) → root (state_of volume).tree ≡ (constants volume.edition).root
unfolding tree
root_is volume = refl

pub numbers_apart : NumbersStayApart
numbers_apart first old new last earlier later turn i j count before makes after low =
    let begun = follow_later first old earlier before in
    let turned = turn_goes old new turn makes.turned in
    let ended = follow_later new last later after in
    let more = turned.more i makes.free makes.lives in
    let length_is = begun.1.count in
    let short = makes.short in
    let raised = more.1 (omega (arith, length_is, count, short)) makes.births in
    let front = begun.1.births i in
    let back = ended.1.births i in
    let edition = ended.0 ∙ (turned.edition ∙ begun.0) in
    let root_there = root_is old.volume ∙ ap (λ edition. (constants edition).root) begun.0 in
    let differ = numbers_differ first.volume.edition first.nodes last.nodes i j short low (λ at. more.0 (at ∙ sym root_there)) (omega (arith, front, raised, back)) in
    λ same. differ (ap (λ edition. node_number edition last.nodes i) (sym edition) ∙ same)
