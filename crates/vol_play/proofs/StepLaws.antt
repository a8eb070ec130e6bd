-- The results of a script's steps, and their effect on its session.
use Rattle.std.proofs.Common.{◌≡◌, ℕ, ◌∙◌, List, [], ◌∷◌, ◌++◌, refl, sym, ap, subst, append-nil, append_assoc, length, arith}
use Rattle.vol_receipts.specs.declared.receipts.Receipt.{Receipt}
use Rattle.vol_scripts.specs.Endings.{receipts_in}
use Rattle.vol_scripts.specs.declared.played.Played.{Played}
use Rattle.vol_scripts.specs.declared.played.Played.TheVariants as played
use Rattle.vol_shared.specs.Sessions.{Known, Got, HasCut}
use Rattle.vol_play.specs.Steps.{CameInTurn, next_after, known_after, known_after_all, places_made, cuts_made}

-- if a session got a receipt, `known_after` describes it
pub got_known : (old new : Known) (receipt : Receipt) → new.of ≡ old.of → Got old new receipt → new ≡ known_after old (played.Told receipt)
got_known old new receipt same got = rw (sym same, sym got.next, sym got.places, sym got.cuts, sym got.receipts) refl

-- if a session cut the journal, `known_after` describes it
pub cut_known : (old new : Known) (first : ℕ) → new.of ≡ old.of → HasCut old new first → new ≡ known_after old (played.Cut first)
cut_known old new first same cut = rw (sym same, sym cut.cuts, sym cut.next, sym cut.places, sym cut.receipts) refl

-- a step doesn't change the volume that a session belongs to
pub known_of : (known : Known) (came : Played) → (known_after known came).of ≡ known.of
known_of known (played.Told receipt) = refl
known_of known (played.Cut first) = refl
known_of known played.NoMemory = refl
known_of known played.NotEntered = refl
known_of known played.View = refl

-- steps don't change the volume that a session belongs to
pub known_all_of : (known : Known) (all : List Played) → (known_after_all known all).of ≡ known.of
known_all_of known [] = refl
known_all_of known (came ∷ others) = known_all_of (known_after known came) others ∙ known_of known came

-- the least number of a session's next receipt after a step is `next_after`
pub known_next : (known : Known) (came : Played) → (known_after known came).next ≡ next_after known.next came
known_next known (played.Told receipt) = refl
known_next known (played.Cut first) = refl
known_next known played.NoMemory = refl
known_next known played.NotEntered = refl
known_next known played.View = refl

-- a session after some steps and one more is the session after these steps, after the one more
pub known_push : (known : Known) (all : List Played) (came : Played) → known_after_all known (all ++ came ∷ []) ≡ known_after (known_after_all known all) came
known_push known [] came = refl
known_push known (first ∷ all) came = known_push (known_after known first) all came

module _ {A : Type 0} (came_of : A → ℕ → Played → Type 0) (Came : List Played → Type 0) where
  -- if the results so far are followed by the result of the next line, the results of the lines after it follow
  pub came_more : (rest : List A) (line : A) (next later : ℕ) (prefix now : List Played) (came : Played)
      → later ≡ next_after next came → now ≡ prefix ++ came ∷ [] → came_of line next came
      → ((others : List Played) → CameInTurn came_of (line ∷ rest) next others → Came (prefix ++ others))
      → (others : List Played) → CameInTurn came_of rest later others → Came (now ++ others)
  came_more rest line next later prefix now came later_is now_is one given others all =
      let joined : now ++ others ≡ prefix ++ came ∷ others = ap (λ (ps : List Played). ps ++ others) now_is ∙ append_assoc prefix (came ∷ []) others in
      subst Came (sym joined) (given (came ∷ others) (one, subst (λ (n : ℕ). CameInTurn came_of rest n others) later_is all))

  -- if no line is left, the results so far are all results
  pub came_end : (rest : List A) (next : ℕ) (prefix : List Played) → length rest ≡ 0
      → ((others : List Played) → CameInTurn came_of rest next others → Came (prefix ++ others)) → Came prefix
  came_end [] next prefix none given = subst Came (append-nil prefix) (given [] tt)
  came_end (line ∷ rest) next prefix none given = absurd (omega arith)

-- a session's records after some steps are its old records, followed by the records of the steps
pub known_places : (known : Known) (all : List Played) → (known_after_all known all).places ≡ known.places ++ places_made all
known_places known [] = sym (append-nil known.places)
known_places known (played.Told receipt ∷ others) = known_places (known_after known (played.Told receipt)) others ∙ append_assoc known.places _ (places_made others)
known_places known (played.Cut first ∷ others) = known_places (known_after known (played.Cut first)) others
known_places known (played.NoMemory ∷ others) = known_places known others
known_places known (played.NotEntered ∷ others) = known_places known others
known_places known (played.View ∷ others) = known_places known others

-- the numbers that a session's cuts returned are the old numbers, followed by the numbers that the cuts among the steps returned
pub known_cuts : (known : Known) (all : List Played) → (known_after_all known all).cuts ≡ known.cuts ++ cuts_made all
known_cuts known [] = sym (append-nil known.cuts)
known_cuts known (played.Told receipt ∷ others) = known_cuts (known_after known (played.Told receipt)) others
known_cuts known (played.Cut first ∷ others) = known_cuts (known_after known (played.Cut first)) others ∙ append_assoc known.cuts (first ∷ []) (cuts_made others)
known_cuts known (played.NoMemory ∷ others) = known_cuts known others
known_cuts known (played.NotEntered ∷ others) = known_cuts known others
known_cuts known (played.View ∷ others) = known_cuts known others

-- a session's receipts after some steps are its old receipts, followed by the receipts of the steps
pub known_receipts : (known : Known) (all : List Played) → (known_after_all known all).receipts ≡ known.receipts ++ receipts_in all
known_receipts known [] = sym (append-nil known.receipts)
known_receipts known (played.Told receipt ∷ others) =
    known_receipts (known_after known (played.Told receipt)) others ∙ append_assoc known.receipts (receipt ∷ []) (receipts_in others)
known_receipts known (played.Cut first ∷ others) = known_receipts (known_after known (played.Cut first)) others
known_receipts known (played.NoMemory ∷ others) = known_receipts known others
known_receipts known (played.NotEntered ∷ others) = known_receipts known others
known_receipts known (played.View ∷ others) = known_receipts known others

-- the receipts of some results and one more are the receipts of the results, followed by the receipt of the one more, if it has one
pub receipts_push : (prefix : List Played) (came : Played) → receipts_in (prefix ++ came ∷ []) ≡ receipts_in prefix ++ receipts_in (came ∷ [])
receipts_push [] came = refl
receipts_push (played.Told receipt ∷ prefix) came = ap (λ rs. receipt ∷ rs) (receipts_push prefix came)
receipts_push (played.Cut first ∷ prefix) came = receipts_push prefix came
receipts_push (played.NoMemory ∷ prefix) came = receipts_push prefix came
receipts_push (played.NotEntered ∷ prefix) came = receipts_push prefix came
receipts_push (played.View ∷ prefix) came = receipts_push prefix came
