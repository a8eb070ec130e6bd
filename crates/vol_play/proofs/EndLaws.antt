-- Facts about a volume after all scripts were played, from the results of their lines.
use Rattle.std.proofs.Common.{◌≡◌, ◌∙◌, ℕ, ◌+◌, ◌≤◌, List, [], ◌∷◌, ◌++◌, Some, map, max, All, true≢false, false, refl, ap, sym, arith}
use Rattle.std.proofs.lemmas.List.Elements.{All-append, All-cons, All-head, All-nil, All-same, All-tail, All-weaker}
use Rattle.std.specs.Prelude.{Vec}
use Rattle.std.specs.Global.{Global}
use Rattle.std.specs.List.{AllByRecursion}
use Rattle.count_table.specs.Sums.{total, below}
use Rattle.count_table.proofs.Totals.{total_append}
use Rattle.vol_receipts.specs.Agrees.{origin_of, Agrees}
use Rattle.vol_receipts.specs.declared.receipts.Receipt.{Receipt}
use Rattle.vol_scripts.specs.Endings.{receipts_in}
use Rattle.vol_scripts.specs.declared.played.Played.{Played}
use Rattle.vol_scripts.specs.declared.steps.Script.{Script}
use Rattle.vol_shared.specs.Lists.{greatest, greatest_of}
use Rattle.vol_shared.specs.Opened.{Opened}
use Rattle.vol_shared.specs.Sessions.{Known}
use Rattle.vol_shared.specs.Stored.{next_number, unpublished}
use Rattle.vol_shared.proofs.Lists.{greatest_append}
use Rattle.vol_views.specs.Views.{Watched}
use Rattle.vol_volume.specs.Volume.{Mounted}
use Rattle.vol_play.specs.Opened.{Closes, fresh_session}
use Rattle.vol_play.specs.Players.{InPairs, played_by, sessions_of, views_of}
use Rattle.vol_play.specs.Play.{ArePlayed}
use Rattle.vol_play.specs.Steps.{CameOfScript, is_seen, cuts_made, places_made}
use Rattle.vol_play.specs.declared.prepare.Player.{Player}
use Rattle.vol_play.specs.declared.prepare.Player.TheVariants.{Caller, Viewer}
use Rattle.vol_play.proofs.ListLaws.{all_after, greatest_none, total_none}
use Rattle.vol_play.proofs.PlayerLaws.{IsEnded}
use Rattle.vol_play.proofs.StepLaws.{known_all_of, known_cuts, known_places, known_receipts}

module _ (shared : Opened) where
  -- all sessions belong to the shared volume
  own_dealt : (players : List Player) → AllByRecursion (IsEnded shared) players → All (λ s. s.of ≡ shared.of) (sessions_of players)
  own_dealt [] all = All-nil (λ (s : Known). s.of ≡ shared.of)
  own_dealt (Caller session steps played ∷ players) all =
      All-cons (λ (s : Known). s.of ≡ shared.of) session (sessions_of players) (ap (λ (s : Known). s.of) all.0 ∙ known_all_of (fresh_session shared) played.items)
      (own_dealt players all.1)
  own_dealt (Viewer view queries played ∷ players) all = own_dealt players all.1

  -- all views belong to the shared volume
  pub own_views : (players : List Player) → AllByRecursion (IsEnded shared) players → All (λ v. shared.of.book ≡ Some v.book) (views_of players)
  own_views [] all = All-nil (λ (v : Watched). shared.of.book ≡ Some v.book)
  own_views (Caller session steps played ∷ players) all = own_views players all.1
  own_views (Viewer view queries played ∷ players) all =
      All-cons (λ (v : Watched). shared.of.book ≡ Some v.book) view (views_of players) all.0.2 (own_views players all.1)

  -- the records that all sessions made have the same total weight as the records that the calls of all scripts made
  places_dealt : (weight : ℕ → ℕ) (players : List Player) → AllByRecursion (IsEnded shared) players
      → total (λ s. total weight s.places) (sessions_of players) ≡ total (λ came. total weight (places_made came.items)) (map played_by players)
  unfolding total
  places_dealt weight [] all = refl
  places_dealt weight (Caller session steps played ∷ players) all =
      let one = ap (total weight) (ap (λ (s : Known). s.places) all.0 ∙ known_places (fresh_session shared) played.items) in
      let rest = places_dealt weight players all.1 in
      omega arith
  places_dealt weight (Viewer view queries played ∷ players) all =
      let one = ap (total weight) all.0.0 in let rest = places_dealt weight players all.1 in omega arith

  -- the greatest number that the cuts of all sessions returned is the greatest that the cuts of all scripts returned
  cuts_dealt : (players : List Player) → AllByRecursion (IsEnded shared) players
      → greatest (λ s. greatest_of s.cuts) (sessions_of players) ≡ greatest (λ came. greatest_of (cuts_made came.items)) (map played_by players)
  unfolding greatest
  cuts_dealt [] all = refl
  cuts_dealt (Caller session steps played ∷ players) all =
      let one = ap greatest_of (ap (λ (s : Known). s.cuts) all.0 ∙ known_cuts (fresh_session shared) played.items) in
      let rest = cuts_dealt players all.1 in
      omega arith
  cuts_dealt (Viewer view queries played ∷ players) all = let one = ap greatest_of all.0.1 in let rest = cuts_dealt players all.1 in omega arith

  -- if no script cut the journal, no session did
  uncut_dealt : (players : List Player) → AllByRecursion (IsEnded shared) players → All (λ came. cuts_made came.items ≡ []) (map played_by players)
      → All (λ s. s.cuts ≡ []) (sessions_of players)
  uncut_dealt [] all none = All-nil (λ (s : Known). s.cuts ≡ [])
  uncut_dealt (Caller session steps played ∷ players) all none =
      All-cons (λ (s : Known). s.cuts ≡ []) session (sessions_of players)
      (ap (λ (s : Known). s.cuts) all.0 ∙ known_cuts (fresh_session shared) played.items
      ∙ All-head (λ (came : Vec Played Global). cuts_made came.items ≡ []) played (map played_by players) none)
      (uncut_dealt players all.1 (All-tail (λ (came : Vec Played Global). cuts_made came.items ≡ []) played (map played_by players) none))
  uncut_dealt (Viewer view queries played ∷ players) all none =
      uncut_dealt players all.1 (All-tail (λ (came : Vec Played Global). cuts_made came.items ≡ []) played (map played_by players) none)

  -- a fact that holds for the receipts of all sessions and views holds for all receipts of the scripts
  receipts_dealt : (fits : Receipt → Type 0) (players : List Player) → AllByRecursion (IsEnded shared) players
      → All (λ s. All fits s.receipts) (sessions_of players) → All (λ v. All fits v.receipts) (views_of players)
      → All (λ came. All fits (receipts_in came.items)) (map played_by players)
  receipts_dealt fits [] all sessions views = All-nil (λ (came : Vec Played Global). All fits (receipts_in came.items))
  receipts_dealt fits (Caller session steps played ∷ players) all sessions views =
      All-cons (λ (came : Vec Played Global). All fits (receipts_in came.items)) played (map played_by players)
      (All-same fits (receipts_in played.items) session.receipts (sym (ap (λ (s : Known). s.receipts) all.0 ∙ known_receipts (fresh_session shared) played.items))
      (All-head (λ (s : Known). All fits s.receipts) session (sessions_of players) sessions))
      (receipts_dealt fits players all.1 (All-tail (λ (s : Known). All fits s.receipts) session (sessions_of players) sessions) views)
  receipts_dealt fits (Viewer view queries played ∷ players) all sessions views =
      All-cons (λ (came : Vec Played Global). All fits (receipts_in came.items)) played (map played_by players)
      (All-same fits (receipts_in played.items) view.receipts (sym all.0.3) (All-head (λ (v : Watched). All fits v.receipts) view (views_of players) views))
      (receipts_dealt fits players all.1 sessions (All-tail (λ (v : Watched). All fits v.receipts) view (views_of players) views))

  -- a fact that holds for the receipts of all sessions holds for the receipts of the scripts for sessions
  called_dealt : (fits : Receipt → Type 0) (players : List Player) → AllByRecursion (IsEnded shared) players
      → All (λ s. All fits s.receipts) (sessions_of players)
      → All (λ came. is_seen came.items ≡ false → All fits (receipts_in came.items)) (map played_by players)
  called_dealt fits [] all sessions = All-nil (λ (came : Vec Played Global). is_seen came.items ≡ false → All fits (receipts_in came.items))
  called_dealt fits (Caller session steps played ∷ players) all sessions =
      All-cons (λ (came : Vec Played Global). is_seen came.items ≡ false → All fits (receipts_in came.items)) played (map played_by players)
      (λ called.
      All-same fits (receipts_in played.items) session.receipts (sym (ap (λ (s : Known). s.receipts) all.0 ∙ known_receipts (fresh_session shared) played.items))
      (All-head (λ (s : Known). All fits s.receipts) session (sessions_of players) sessions))
      (called_dealt fits players all.1 (All-tail (λ (s : Known). All fits s.receipts) session (sessions_of players) sessions))
  called_dealt fits (Viewer view queries played ∷ players) all sessions =
      All-cons (λ (came : Vec Played Global). is_seen came.items ≡ false → All fits (receipts_in came.items)) played (map played_by players)
      (λ called. absurd (true≢false (sym all.0.4 ∙ called)))
      (called_dealt fits players all.1 sessions)

  -- these facts also hold with the sessions that no script used
  module _ (left : List Known) (unused : All (λ s. s ≡ fresh_session shared) left) (players : List Player) (ended : AllByRecursion (IsEnded shared) players) where
    pub own_sessions : All (λ s. s.of ≡ shared.of) (left ++ sessions_of players)
    own_sessions =
        All-append (λ (s : Known). s.of ≡ shared.of) left (sessions_of players)
        (All-weaker (λ (s : Known). s ≡ fresh_session shared) (λ (s : Known). s.of ≡ shared.of) (λ s is. ap (λ (k : Known). k.of) is) left unused)
        (own_dealt players ended)

    pub ended_places : (weight : ℕ → ℕ)
        → total (λ s. total weight s.places) (left ++ sessions_of players) ≡ total (λ came. total weight (places_made came.items)) (map played_by players)
    unfolding total
    ended_places weight =
        let whole = total_append (λ (s : Known). total weight s.places) left (sessions_of players) in
        let none = total_none (λ (s : Known). total weight s.places) left
        (All-weaker (λ (s : Known). s ≡ fresh_session shared) (λ (s : Known). total weight s.places ≡ 0) (λ s is. ap (λ (k : Known). total weight k.places) is) left unused)
        in
        let dealt = places_dealt weight players ended in
        omega arith

    pub ended_cuts : greatest (λ s. greatest_of s.cuts) (left ++ sessions_of players) ≡ greatest (λ came. greatest_of (cuts_made came.items)) (map played_by players)
    unfolding greatest
    ended_cuts =
        let whole = greatest_append (λ (s : Known). greatest_of s.cuts) left (sessions_of players) in
        let none = greatest_none (λ (s : Known). greatest_of s.cuts) left
        (All-weaker (λ (s : Known). s ≡ fresh_session shared) (λ (s : Known). greatest_of s.cuts ≡ 0) (λ s is. ap (λ (k : Known). greatest_of k.cuts) is) left unused)
        in
        let dealt = cuts_dealt players ended in
        omega arith

    pub ended_uncut : All (λ came. cuts_made came.items ≡ []) (map played_by players) → All (λ s. s.cuts ≡ []) (left ++ sessions_of players)
    ended_uncut none =
        All-append (λ (s : Known). s.cuts ≡ []) left (sessions_of players)
        (All-weaker (λ (s : Known). s ≡ fresh_session shared) (λ (s : Known). s.cuts ≡ []) (λ s is. ap (λ (k : Known). k.cuts) is) left unused)
        (uncut_dealt players ended none)

    pub ended_receipts : (fits : Receipt → Type 0) → All (λ s. All fits s.receipts) (left ++ sessions_of players) → All (λ v. All fits v.receipts) (views_of players)
        → All (λ came. All fits (receipts_in came.items)) (map played_by players)
    ended_receipts fits sessions views =
        receipts_dealt fits players ended (all_after (λ (s : Known). All fits s.receipts) left (sessions_of players) sessions) views

    ended_called : (fits : Receipt → Type 0) → All (λ s. All fits s.receipts) (left ++ sessions_of players)
        → All (λ came. is_seen came.items ≡ false → All fits (receipts_in came.items)) (map played_by players)
    ended_called fits sessions = called_dealt fits players ended (all_after (λ (s : Known). All fits s.receipts) left (sessions_of players) sessions)

    -- after the sharing ends, the volume and the results of the scripts' lines satisfy the definition of a play
    pub whole_played : (scripts : List Script) (last : Mounted) → InPairs (λ script came. CameOfScript script (next_number shared.stored) came.items) scripts (map played_by players)
        → Closes shared.stored (left ++ sessions_of players) (views_of players) last → ArePlayed (unpublished shared.stored) scripts last (map played_by players)
    whole_played scripts last came closes = record {
      came = came;
      goes_on = (
        closes.goes_on.0,
        record {
          edition = closes.goes_on.1.edition;
          first = closes.goes_on.1.first;
          starts = closes.goes_on.1.starts;
          begins = closes.goes_on.1.begins;
          around = closes.goes_on.1.around;
        },
        ended_called (Agrees shared.stored.origin (closes.goes_on.0 ++ last.journal)) closes.goes_on.2,
      );
      uncut = λ none. closes.uncut (ended_uncut none);
      first = closes.first ∙ ap (λ n. max shared.stored.origin.first n) ended_cuts;
      places =
          λ weight.
          ap (λ n. n + below weight (next_number shared.stored)) (sym (ended_places weight)) ∙ closes.places weight;
      agree = ended_receipts (λ receipt. last.first ≤ receipt.at → Agrees (origin_of last) last.journal receipt) closes.agree closes.views_agree;
    }
