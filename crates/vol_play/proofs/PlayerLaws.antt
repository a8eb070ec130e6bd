-- Players before and after the scripts are played.
use Rattle.std.proofs.Common.{◌≡◌, ◌∙◌, ℕ, ◌+◌, ◌≤◌, List, [], ◌∷◌, ◌++◌, Some, length, map, All, true, refl, ap, sym, subst, append_assoc, length-append, arith}
use Rattle.std.proofs.lemmas.List.Elements.{All-cons, All-head, All-nil, All-tail}
use Rattle.std.specs.Prelude.{Vec, cond, count_by, vec_capacity}
use Rattle.std.specs.Global.{Global}
use Rattle.std.specs.List.{AllByRecursion}
use Rattle.vol_views.specs.Logs.{number_of}
use Rattle.vol_receipts.specs.declared.receipts.Origin.{Origin}
use Rattle.vol_scripts.specs.Endings.{receipts_in}
use Rattle.vol_scripts.specs.declared.played.Played.{Played}
use Rattle.vol_scripts.specs.declared.steps.Script.{Script}
use Rattle.vol_scripts.specs.declared.steps.Script.TheVariants as kinds
use Rattle.vol_scripts.specs.declared.steps.ScriptStep.{ScriptStep}
use Rattle.vol_shared.specs.Opened.{Opened}
use Rattle.vol_shared.specs.Sessions.{Known}
use Rattle.vol_shared.specs.Stored.{next_number}
use Rattle.vol_views.specs.Views.{Watched}
use Rattle.vol_volume.specs.declared.calls.Record.{Record}
use Rattle.vol_volume.specs.declared.queries.Query.{Query}
use Rattle.vol_play.specs.Opened.{fresh_session, IsFreshView}
use Rattle.vol_play.specs.Players.{CanPlay, HasPlayed, InPairs, IsDealt, IsDealtTo, IsPrepared, is_session, is_view, lines_of, played_by, sessions_of, views_of, wants_session, wants_view}
use Rattle.vol_play.specs.Steps.{CameInTurn, CameOf, CameOfScript, CameOfView, is_seen, cuts_made, known_after_all, places_made}
use Rattle.vol_play.specs.declared.prepare.Prepared.{Prepared}
use Rattle.vol_play.specs.declared.prepare.Player.{Player}
use Rattle.vol_play.specs.declared.prepare.Player.TheVariants.{Caller, Viewer}
use Rattle.vol_play.proofs.ListLaws.{counted_first}
use Rattle.vol_play.proofs.QueryLaws.{view_cuts, view_places, view_seen}

-- the sessions of players are the first player's, followed by the others'
pub sessions_first : (player : Player) (players : List Player) → sessions_of (player ∷ players) ≡ sessions_of (player ∷ []) ++ sessions_of players
sessions_first (Caller session steps played) players = refl
sessions_first (Viewer view queries played) players = refl

-- the views of players are the first player's, followed by the others'
pub views_first : (player : Player) (players : List Player) → views_of (player ∷ players) ≡ views_of (player ∷ []) ++ views_of players
views_first (Caller session steps played) players = refl
views_first (Viewer view queries played) players = refl

module _ {A : Type 0} (of : List Player → List A) (first : (player : Player) (players : List Player) → of (player ∷ players) ≡ of (player ∷ []) ++ of players) where
  -- if the first player's part was appended, the list followed by the other players' parts is still the whole list
  pub put_on : (old new whole : List A) (player : Player) (players left : List Player) → left ≡ player ∷ players → new ≡ old ++ of (player ∷ [])
      → old ++ of left ≡ whole → new ++ of players ≡ whole
  put_on old new whole player players left left_is new_is so_far =
      ap (λ (xs : List A). xs ++ of players) new_is ∙ append_assoc old (of (player ∷ [])) (of players)
      ∙ ap (λ (xs : List A). old ++ xs) (sym (first player players) ∙ ap of (sym left_is)) ∙ so_far

  -- if there is room for the parts of all players, there is still room after the first player's part was appended
  pub fits_on : (old new : List A) (room : ℕ) (player : Player) (players left : List Player) → left ≡ player ∷ players → new ≡ old ++ of (player ∷ [])
      → length old + length (of left) ≤ room → (length old + length (of (player ∷ [])) ≤ room) × (length new + length (of players) ≤ room)
  fits_on old new room player players left left_is new_is fits =
      let longer = ap length new_is ∙ length-append old (of (player ∷ [])) in
      let parts = ap (λ (ps : List Player). length (of ps)) left_is ∙ ap length (first player players) ∙ length-append (of (player ∷ [])) (of players) in
      (omega arith, omega arith)

-- two lists that are related in pairs have the same length
pub as_many : {A B : Type 0} (related : A → B → Type 0) (xs : List A) (ys : List B) → InPairs related xs ys → length ys ≡ length xs
as_many related [] [] all = refl
as_many related [] (y ∷ ys) all = absurd all
as_many related (x ∷ xs) [] all = absurd all
as_many related (x ∷ xs) (y ∷ ys) all = let h = as_many related xs ys all.1 in omega arith

module _ (shared : Opened) where
  -- a view that was just opened starts at the volume's next record number
  fresh_number : (view : Watched) → IsFreshView shared view → number_of view.log ≡ next_number shared.stored
  fresh_number view is =
      let first = ap (λ (o : Origin). o.first) is.fresh.origin in
      let records = ap (λ (rs : List Record). length rs) is.fresh.records in
      omega arith

  -- a player with a script that has no results yet can play it
  can_play : (script : Script) (room : Vec Played Global) (player : Player) → room.items ≡ [] → lines_of script ≤ vec_capacity room
      → IsDealtTo shared script room player → CanPlay shared.of player
  can_play (kinds.Session wanted) room (Caller session steps played) empty fits dealt = (
    ap (λ (s : Known). s.of) dealt.0,
    ap (λ (p : Vec Played Global). p.items) dealt.2 ∙ empty,
    subst (λ (p : Vec Played Global). length steps ≤ vec_capacity p) (sym dealt.2) (subst (λ (ls : List ScriptStep). length ls ≤ vec_capacity room) (sym dealt.1) fits),
  )
  can_play (kinds.Session wanted) room (Viewer view queries played) empty fits dealt = absurd dealt
  can_play (kinds.View wanted) room (Caller session steps played) empty fits dealt = absurd dealt
  can_play (kinds.View wanted) room (Viewer view queries played) empty fits dealt = (
    ap (λ (p : Vec Played Global). p.items) dealt.2 ∙ empty,
    subst (λ (p : Vec Played Global). length queries + 1 ≤ vec_capacity p) (sym dealt.2) (subst (λ (qs : List Query). length qs + 1 ≤ vec_capacity room) (sym dealt.1) fits),
  )

  -- all players can play their scripts
  pub dealt_can : (prepared : List Prepared) (players : List Player) → All IsPrepared prepared → InPairs (IsDealt shared) prepared players
      → All (CanPlay shared.of) players
  dealt_can [] [] ready dealt = All-nil (CanPlay shared.of)
  dealt_can [] (q ∷ qs) ready dealt = absurd dealt
  dealt_can (p ∷ ps) [] ready dealt = absurd dealt
  dealt_can (p ∷ ps) (q ∷ qs) ready dealt =
      let one = All-head IsPrepared p ps ready in
      All-cons (CanPlay shared.of) q qs (can_play p.script p.played q one.empty one.room dealt.0) (dealt_can ps qs (All-tail IsPrepared p ps ready) dealt.1)

  -- a script's player after it played the script
  abbrev EndedAs : Script → Player → Type 0
  EndedAs (kinds.Session wanted) (Caller session steps played) =
      CameInTurn CameOf wanted (next_number shared.stored) played.items × (session ≡ known_after_all (fresh_session shared) played.items)
  EndedAs (kinds.Session wanted) (Viewer view queries played) = ⊥
  EndedAs (kinds.View wanted) (Caller session steps played) = ⊥
  EndedAs (kinds.View wanted) (Viewer view queries played) =
      CameOfView wanted (next_number shared.stored) played.items × (shared.of.book ≡ Some view.book) × (view.receipts ≡ receipts_in played.items)

  abbrev pub HasEnded : Prepared → Player → Type 0
  HasEnded prepared player = EndedAs prepared.script player

  ended_one : (script : Script) (room : Vec Played Global) (old new : Player) → IsDealtTo shared script room old → HasPlayed old new → EndedAs script new
  ended_one (kinds.Session wanted) room (Caller session steps was) (Caller now none played) dealt has = (
    subst (λ (k : Known). CameInTurn CameOf wanted k.next played.items) dealt.0 (subst (λ (ls : List ScriptStep). CameInTurn CameOf ls session.next played.items) dealt.1 has.0),
    has.1 ∙ ap (λ (k : Known). known_after_all k played.items) dealt.0,
  )
  ended_one (kinds.Session wanted) room (Caller session steps was) (Viewer view none played) dealt has = absurd has
  ended_one (kinds.Session wanted) room (Viewer view queries was) new dealt has = absurd dealt
  ended_one (kinds.View wanted) room (Caller session steps was) new dealt has = absurd dealt
  ended_one (kinds.View wanted) room (Viewer view queries was) (Caller now none played) dealt has = absurd has
  ended_one (kinds.View wanted) room (Viewer view queries was) (Viewer now none played) dealt has = (
    subst (λ (n : ℕ). CameOfView wanted n played.items) (fresh_number view dealt.0)
        (subst (λ (qs : List Query). CameOfView qs (number_of view.log) played.items) dealt.1 has.0),
    dealt.0.own ∙ ap Some (sym has.1),
    has.2 ∙ ap (λ rs. rs ++ receipts_in played.items) dealt.0.fresh.receipts,
  )

  pub ended_all : (prepared : List Prepared) (old new : List Player) → InPairs (IsDealt shared) prepared old → InPairs HasPlayed old new
      → InPairs HasEnded prepared new
  ended_all [] [] [] dealt has = tt
  ended_all [] [] (n ∷ ns) dealt has = absurd has
  ended_all [] (o ∷ os) ns dealt has = absurd dealt
  ended_all (p ∷ ps) [] ns dealt has = absurd dealt
  ended_all (p ∷ ps) (o ∷ os) [] dealt has = absurd has
  ended_all (p ∷ ps) (o ∷ os) (n ∷ ns) dealt has = (ended_one p.script p.played o n dealt.0 has.0, ended_all ps os ns dealt.1 has.1)

  -- after a script was played, each of its lines has a result
  came_one : (script : Script) (player : Player) → EndedAs script player → CameOfScript script (next_number shared.stored) (played_by player).items
  came_one (kinds.Session wanted) (Caller session steps played) ended = ended.0
  came_one (kinds.Session wanted) (Viewer view queries played) ended = absurd ended
  came_one (kinds.View wanted) (Caller session steps played) ended = absurd ended
  came_one (kinds.View wanted) (Viewer view queries played) ended = ended.0

  pub came_all : (prepared : List Prepared) (players : List Player) → InPairs HasEnded prepared players
      → InPairs (λ script came. CameOfScript script (next_number shared.stored) came.items) (map (λ p. p.script) prepared) (map played_by players)
  came_all [] [] all = tt
  came_all [] (q ∷ qs) all = absurd all
  came_all (p ∷ ps) [] all = absurd all
  came_all (p ∷ ps) (q ∷ qs) all = (came_one p.script q all.0, came_all ps qs all.1)

  -- the number of sessions of some players is 1 if the first script is for a session, else 0, plus the number of the other players' sessions
  sessions_one : (script : Script) (player : Player) (rest : List Player) → EndedAs script player
      → length (sessions_of (player ∷ rest)) ≡ cond (is_session script) 1 0 + length (sessions_of rest)
  sessions_one (kinds.Session wanted) (Caller session steps played) rest ended = omega arith
  sessions_one (kinds.Session wanted) (Viewer view queries played) rest ended = absurd ended
  sessions_one (kinds.View wanted) (Caller session steps played) rest ended = absurd ended
  sessions_one (kinds.View wanted) (Viewer view queries played) rest ended = omega arith

  pub sessions_many : (prepared : List Prepared) (players : List Player) → InPairs HasEnded prepared players
      → length (sessions_of players) ≡ count_by wants_session prepared
  sessions_many [] [] all = refl
  sessions_many [] (q ∷ qs) all = absurd all
  sessions_many (p ∷ ps) [] all = absurd all
  sessions_many (p ∷ ps) (q ∷ qs) all = sessions_one p.script q qs all.0 ∙ ap (λ n. cond (is_session p.script) 1 0 + n) (sessions_many ps qs all.1) ∙ sym (counted_first wants_session p ps)

  views_one : (script : Script) (player : Player) (rest : List Player) → EndedAs script player
      → length (views_of (player ∷ rest)) ≡ cond (is_view script) 1 0 + length (views_of rest)
  views_one (kinds.Session wanted) (Caller session steps played) rest ended = omega arith
  views_one (kinds.Session wanted) (Viewer view queries played) rest ended = absurd ended
  views_one (kinds.View wanted) (Caller session steps played) rest ended = absurd ended
  views_one (kinds.View wanted) (Viewer view queries played) rest ended = omega arith

  pub views_many : (prepared : List Prepared) (players : List Player) → InPairs HasEnded prepared players
      → length (views_of players) ≡ count_by wants_view prepared
  views_many [] [] all = refl
  views_many [] (q ∷ qs) all = absurd all
  views_many (p ∷ ps) [] all = absurd all
  views_many (p ∷ ps) (q ∷ qs) all = views_one p.script q qs all.0 ∙ ap (λ n. cond (is_view p.script) 1 0 + n) (views_many ps qs all.1) ∙ sym (counted_first wants_view p ps)

  -- facts about one player after its script was played: its session has run the lines with these results; or its view made no records and no cuts,
  -- and has the receipts
  abbrev pub IsEnded : Player → Type 0
  IsEnded (Caller session steps played) = session ≡ known_after_all (fresh_session shared) played.items
  IsEnded (Viewer view queries played) = (places_made played.items ≡ []) × (cuts_made played.items ≡ [])
      × (shared.of.book ≡ Some view.book) × (view.receipts ≡ receipts_in played.items) × (is_seen played.items ≡ true)

  ended_player : (script : Script) (player : Player) → EndedAs script player → IsEnded player
  ended_player (kinds.Session wanted) (Caller session steps played) ended = ended.1
  ended_player (kinds.Session wanted) (Viewer view queries played) ended = absurd ended
  ended_player (kinds.View wanted) (Caller session steps played) ended = absurd ended
  ended_player (kinds.View wanted) (Viewer view queries played) ended = (
    view_places wanted (next_number shared.stored) played.items ended.0,
    view_cuts wanted (next_number shared.stored) played.items ended.0,
    ended.1,
    ended.2,
    view_seen wanted (next_number shared.stored) played.items ended.0,
  )

  pub ended_players : (prepared : List Prepared) (players : List Player) → InPairs HasEnded prepared players → AllByRecursion IsEnded players
  ended_players [] [] all = tt
  ended_players [] (q ∷ qs) all = absurd all
  ended_players (p ∷ ps) [] all = absurd all
  ended_players (p ∷ ps) (q ∷ qs) all = (ended_player p.script q all.0, ended_players ps qs all.1)
