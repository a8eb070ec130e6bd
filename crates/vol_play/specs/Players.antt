-- Scripts with their sessions and views, before and after they are played.
use Rattle.std.specs.Prelude.{◌≡◌, ℕ, ◌+◌, ◌≤◌, ◌++◌, Bool, true, false, List, [], ◌∷◌, length, Vec, vec_capacity}
use Rattle.std.specs.Global.{Global}
use Rattle.vol_views.specs.Logs.{number_of}
use Rattle.vol_scripts.specs.Endings.{receipts_in}
use Rattle.vol_scripts.specs.declared.played.Played.{Played}
use Rattle.vol_scripts.specs.declared.steps.Script.{Script}
use Rattle.vol_scripts.specs.declared.steps.Script.TheVariants as kinds
use Rattle.vol_shared.specs.Opened.{Opened}
use Rattle.vol_shared.specs.Sessions.{Identity, Known}
use Rattle.vol_views.specs.Views.{Watched}
use Rattle.vol_play.specs.Opened.{fresh_session, IsFreshView}
use Rattle.vol_play.specs.Steps.{CameOf, CameInTurn, CameOfView, known_after_all}
use Rattle.vol_play.specs.declared.prepare.Prepared.{Prepared}
use Rattle.vol_play.specs.declared.prepare.Player.{Player}
use Rattle.vol_play.specs.declared.prepare.Player.TheVariants.{Caller, Viewer}

-- two lists have the same length, and a relation holds between the elements at each index (this project)
abbrev pub InPairs : {A B : Type 0} → (A → B → Type 0) → List A → List B → Type 0
InPairs related [] [] = Unit {0}
InPairs related [] (y ∷ ys) = ⊥
InPairs related (x ∷ xs) [] = ⊥
InPairs related (x ∷ xs) (y ∷ ys) = related x y × InPairs related xs ys

-- true if a script is for a view (this project)
abbrev pub is_view : Script → Bool
is_view (kinds.Session steps) = false
is_view (kinds.View queries) = true

-- true if a script is for a session (this project)
abbrev pub is_session : Script → Bool
is_session (kinds.Session steps) = true
is_session (kinds.View queries) = false

-- true if a prepared script needs a view (this project)
abbrev pub wants_view : Prepared → Bool
wants_view prepared = is_view prepared.script

-- true if a prepared script needs a session (this project)
abbrev pub wants_session : Prepared → Bool
wants_session prepared = is_session prepared.script

-- the number of results of a script's lines (this project)
abbrev pub lines_of : Script → ℕ
lines_of (kinds.Session steps) = length steps
lines_of (kinds.View queries) = length queries + 1

-- a script has no results yet, and there is room for the result of each line (this project)
pub record IsPrepared (prepared : Prepared) : Type 0 where
  pub empty : prepared.played.items ≡ []
  pub room : lines_of prepared.script ≤ vec_capacity prepared.played

-- the results of a player's script (this project)
abbrev pub played_by : Player → Vec Played Global
played_by (Caller session steps played) = played
played_by (Viewer view queries played) = played

-- the sessions of players, in order (this project)
abbrev pub sessions_of : List Player → List Known
sessions_of [] = []
sessions_of (Caller session steps played ∷ players) = session ∷ sessions_of players
sessions_of (Viewer view queries played ∷ players) = sessions_of players

-- the views of players, in order (this project)
abbrev pub views_of : List Player → List Watched
views_of [] = []
views_of (Caller session steps played ∷ players) = views_of players
views_of (Viewer view queries played ∷ players) = view ∷ views_of players

-- a player has a script's lines, the room for their results, and a session or a view that was just opened (this project)
abbrev pub IsDealtTo : Opened → Script → Vec Played Global → Player → Type 0
IsDealtTo shared (kinds.Session wanted) room (Caller session steps played) = (session ≡ fresh_session shared) × (steps ≡ wanted) × (played ≡ room)
IsDealtTo shared (kinds.Session wanted) room (Viewer view queries played) = ⊥
IsDealtTo shared (kinds.View wanted) room (Caller session steps played) = ⊥
IsDealtTo shared (kinds.View wanted) room (Viewer view queries played) = IsFreshView shared view × (queries ≡ wanted) × (played ≡ room)

-- a player was assigned to a script (this project)
abbrev pub IsDealt : Opened → Prepared → Player → Type 0
IsDealt shared prepared player = IsDealtTo shared prepared.script prepared.played player

-- a player can play its script on a volume (this project)
abbrev pub CanPlay : Identity → Player → Type 0
CanPlay of (Caller session steps played) = (session.of ≡ of) × (played.items ≡ []) × (length steps ≤ vec_capacity played)
CanPlay of (Viewer view queries played) = (played.items ≡ []) × (length queries + 1 ≤ vec_capacity played)

-- a player before and after it played its script (this project)
abbrev pub HasPlayed : Player → Player → Type 0
HasPlayed (Caller old steps room) (Caller new none played) = CameInTurn CameOf steps old.next played.items × (new ≡ known_after_all old played.items)
HasPlayed (Caller old steps room) (Viewer new none played) = ⊥
HasPlayed (Viewer old queries room) (Caller new none played) = ⊥
HasPlayed (Viewer old queries room) (Viewer new none played) = CameOfView queries (number_of old.log) played.items
    × (new.book ≡ old.book) × (new.receipts ≡ old.receipts ++ receipts_in played.items)
