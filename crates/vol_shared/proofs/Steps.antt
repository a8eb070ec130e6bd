-- Each step preserves the rule of the table.
use Rattle.std.proofs.Common.{◌≡◌, ◌≢◌, ℕ, ◌+◌, ◌-◌, ◌<◌, ◌≤◌, List, [], ◌∷◌, ◌++◌, length, set, slice_index, max, ◌==◌, Bool, true, false, cond, Option, Some, None, All, sym, refl, ap, ◌∙◌, subst, append_assoc, append-nil, length-append, arith, length-set, get_or-set_same, ⊎_elim}
use Rattle.std.proofs.lemmas.List.Elements.{All-append, All-cons, All-nil}
use mathlib.Core.Option.{some, some-injective, some-ne-none}
use lib.ListN.{get_elem?}
use prog.Atomic.{either}
use Rattle.atomic_table.specs.Table.{State, Me, Step, Act, Allows, keeps, takes, gives, Valid, stepped, carried_after, rest}
use Rattle.atomic_table.proofs.Lists.{at_set, set_else, set_again, set_here, exchanged}
use Rattle.count_table.specs.Sums.{total, below}
use Rattle.count_table.proofs.Totals.{total_append, total_set, total_part, total_ones, below_ones}
use Rattle.vol_change.specs.Whole.{StaysAround}
use Rattle.vol_layout.specs.Geometry.{geometry_of}
use Rattle.vol_layout.specs.declared.edition.Edition.{Edition}
use Rattle.vol_volume.specs.Journal.{after}
use Rattle.vol_volume.specs.declared.calls.Record.{Record}
use Rattle.vol_volume.proofs.Journals.{after-append}
use Rattle.vol_receipts.specs.declared.receipts.Origin.{Origin}
use Rattle.vol_receipts.specs.Agrees.{start, Agrees, place_of, record_of}
use Rattle.vol_receipts.specs.declared.receipts.Receipt.{Receipt}
use Rattle.vol_receipts.proofs.Agreement.{agrees_grows}
use Rattle.vol_receipts.proofs.Around.{around_both}
use Rattle.vol_shared.specs.Lists.{BeginsWith, greatest, greatest_of}
use Rattle.vol_shared.specs.Stored.{Stored, nothing_stored, next_number, KeepsAround, Follows, IsUnchanged, IsCut}
use Rattle.vol_shared.specs.Rule.{hold_of, SeatFits, Locked}
use Rattle.vol_shared.specs.Plays.{Event, nothing, receipt, cut, nobody, took, gave, FindsVolume, Took, Tries, Gives, IsAnswered, MayGive}
use Rattle.vol_shared.specs.declared.lock_rule.Knowledge.{Knowledge}
use Rattle.vol_shared.specs.declared.lock_rule.TableStart.{TableStart}
use Rattle.vol_shared.proofs.Lists.{begins_itself, begins_same, begins_on, set_there, greatest_push, greatest_set, greatest_part}
use Rattle.vol_shared.proofs.Agreement.{agrees_back, place_goes_on}

abbrev pub cut_of : Knowledge → ℕ
cut_of v = greatest_of v.cuts

-- a seat that holds the volume counts as 1
pub held : (v : Knowledge) → v.holds ≡ true → hold_of v ≡ 1
held v e = ap (λ (b : Bool). cond {A = ℕ} b 1 0) e

pub idle : (v : Knowledge) → v.holds ≡ false → hold_of v ≡ 0
idle v e = ap (λ (b : Bool). cond {A = ℕ} b 1 0) e

hold_small : (v : Knowledge) → hold_of v ≤ 1
hold_small v = grind arith

-- setting the only word to its own value changes nothing
one_word : (words : List ℕ) → length words ≡ 1 → set words 0 (slice_index words 0) ≡ words
one_word [] e = absurd (omega arith)
one_word (x ∷ xs) e = refl

-- the effect of one seat's step while no other seat holds the volume: `last` and `gone` become `next` and `lost`, and the seat's knowledge `v`
-- becomes `w`
pub record Moves (opened last : Stored) (gone : List Record) (v : Knowledge) (next : Stored) (lost : List Record) (w : Knowledge) : Type 0 where
  pub follows : Follows opened lost next
  pub book : next.book ≡ last.book
  pub grows : BeginsWith (lost ++ next.journal) (gone ++ last.journal)
  pub parts : w.parts ≡ v.parts
  pub places : (weight : ℕ → ℕ) → total weight w.places + below weight (next_number last) ≡ total weight v.places + below weight (next_number next)
  pub cuts : greatest_of v.cuts ≤ greatest_of w.cuts
  pub first : next.origin.first ≡ max last.origin.first (greatest_of w.cuts)
  pub uncut : length w.cuts ≡ 0 → (length v.cuts ≡ 0) × (next.origin ≡ last.origin)
  pub fits : SeatFits opened next (lost ++ next.journal) w

module _ (key : TableStart) (s : State (Option Stored) Knowledge) (kept : Locked key s) (id : ℕ) (v : Knowledge) (at : get_elem? s.views id ≡ some v) where
  -- replacing the knowledge `v` of this seat by `w` changes a sum over all seats by the difference of their weights
  pub shifts : (g : Knowledge → ℕ) (w : Knowledge) → total g (set s.views id w) + g v ≡ total g s.views + g w
  shifts g w = total_set g s.views id v w at

  pub own : SeatFits key.stock kept.last (kept.gone ++ kept.last.journal) v
  own = kept.each id v at

  -- if the word is 1 exactly if this seat holds the volume, no other seat holds it
  others_idle : slice_index s.words 0 ≡ hold_of v → (j : ℕ) (x : Knowledge) → j ≢ id → get_elem? s.views j ≡ some x → x.holds ≡ true → ⊥
  others_idle alone j x ne there holds =
      let h = shifts hold_of nobody in
      let l = kept.lock in
      let z : total hold_of (set s.views id nobody) ≡ 0 = omega arith in
      let p = total_part hold_of (set s.views id nobody) j x (set_else s.views id j nobody ne ∙ there) in
      let o = held x holds in
      absurd (omega arith)

  module _ (next : Stored) (lost : List Record) (w : Knowledge) (alone : slice_index s.words 0 ≡ hold_of v)
      (moves : Moves key.stock kept.last kept.gone v next lost w) where
    -- the knowledge of every other seat still satisfies `SeatFits` after the step
    still : (j : ℕ) (x : Knowledge) → j ≢ id → get_elem? s.views j ≡ some x → SeatFits key.stock next (lost ++ next.journal) x
    still j x ne there =
        let f = kept.each j x there in
        record {
          same = f.same;
          prefix = begins_on x.history (kept.gone ++ kept.last.journal) (lost ++ next.journal) moves.grows f.prefix;
          agree = f.agree;
          mine = λ holds. absurd (others_idle alone j x ne there holds);
          spent = f.spent;
        }

    first_moves : next.origin.first ≡ max key.stock.origin.first (greatest cut_of (set s.views id w))
    first_moves =
        let g = greatest_set cut_of s.views id v w at in
        let p = greatest_part cut_of (set s.views id w) id w (set_there s.views id v w at) in
        let k = kept.first in
        let f = moves.first in
        let c = moves.cuts in
        omega arith

    uncut_moves : total (λ (x : Knowledge). length x.cuts) (set s.views id w) ≡ 0 → next.origin ≡ key.stock.origin
    uncut_moves none =
        let h = shifts (λ x. length x.cuts) w in
        let p = total_part (λ (x : Knowledge). length x.cuts) (set s.views id w) id w (set_there s.views id v w at) in
        let z : length w.cuts ≡ 0 = omega arith in
        let u = moves.uncut z in
        let e = u.0 in
        u.1 ∙ kept.uncut (omega arith)

    -- a seat's step preserves the rule while no other seat holds the volume
    pub moved : (homes : List (mathlib.Core.Option.Option (Option Stored))) → (hold_of w ≡ 0 → get_elem? homes 0 ≡ some (some (Some next)))
        → Locked key record { words = set s.words 0 (hold_of w); homes = homes; views = set s.views id w }
    moved homes home =
        let wide = kept.word in
        let here : slice_index (set s.words 0 (hold_of w)) 0 ≡ hold_of w = get_or-set_same s.words 0 (hold_of w) 0 (omega arith) in
        let small = hold_small w in
        record {
          last = next;
          gone = lost;
          word = length-set s.words 0 (hold_of w) ∙ kept.word;
          one = omega arith;
          lock = let h = shifts hold_of w in let l = kept.lock in omega arith;
          home = λ z. home (sym here ∙ z);
          follows = moves.follows;
          book = moves.book ∙ kept.book;
          parts = let h = shifts (λ x. x.parts) w in let p = moves.parts in let k = kept.parts in omega arith;
          places = λ weight. let h = shifts (λ x. total weight x.places) w in let p = moves.places weight in let k = kept.places weight in omega arith;
          first = first_moves;
          uncut = uncut_moves;
          each = λ j x e. ⊎_elim (λ (t : (j ≡ id) × (w ≡ x)). subst (SeatFits key.stock next (lost ++ next.journal)) t.1 moves.fits)
              (λ (t : (j ≢ id) × (get_elem? s.views j ≡ some x)). still j x t.0 t.1) (at_set s.views id j w x e);
        }

  -- receipts that agree with a prefix of the history agree with the history
  agree_more : (history : List Record) → BeginsWith history v.history
      → All (Agrees key.stock.origin v.history) v.receipts → All (Agrees key.stock.origin history) v.receipts
  agree_more history prefix agree = subst (λ (l : List Record). All (Agrees key.stock.origin l) v.receipts) (sym prefix.1)
      (λ k d lt. agrees_grows key.stock.origin v.history prefix.0 _ (agree k d lt))

  -- a seat has at most as many places as the number of the next record
  counted : length v.places ≤ next_number kept.last
  counted =
      let o = total_ones v.places in
      let p = total_part (λ (x : Knowledge). total (λ n. 1) x.places) s.views id v at in
      let k = kept.places (λ n. 1) in
      let b = below_ones (next_number kept.last) in
      omega arith

  -- the volume that a seat takes continues everything that the seat knew
  pub finds : 0 < v.parts → FindsVolume v kept.gone kept.last
  finds some-parts = record {
    follows = subst (λ (o : Stored). Follows o kept.gone kept.last) (sym (own.same some-parts)) kept.follows;
    goes_on = own.prefix;
    counted = counted;
    book = kept.book ∙ sym (ap (λ (o : Stored). o.book) (own.same some-parts));
  }

  taking : 0 < v.parts → Moves key.stock kept.last kept.gone v kept.last kept.gone (took v kept.last (kept.gone ++ kept.last.journal))
  taking some-parts = record {
    follows = kept.follows;
    book = refl;
    grows = begins_itself (kept.gone ++ kept.last.journal);
    parts = refl;
    places = λ weight. refl;
    cuts = omega arith;
    first = let g = greatest_part cut_of s.views id v at in let k = kept.first in omega arith;
    uncut = λ e. (e, refl);
    fits = record {
      same = own.same;
      prefix = begins_itself (kept.gone ++ kept.last.journal);
      agree = agree_more (kept.gone ++ kept.last.journal) own.prefix own.agree;
      mine = λ h. (refl, refl);
      spent = λ e. absurd (omega arith);
    };
  }

  -- taking the volume preserves the rule
  pub takes_it : slice_index s.words 0 ≡ 0 → 0 < v.parts → v.holds ≡ false
      → Locked key (stepped s 0 1 id [] (took v kept.last (kept.gone ++ kept.last.journal)) (takes 0 (Some kept.last)))
  takes_it z some-parts free =
      moved kept.last kept.gone (took v kept.last (kept.gone ++ kept.last.journal)) (z ∙ sym (idle v free)) (taking some-parts)
      (set s.homes 0 mathlib.Core.Option.none) (λ e. absurd (omega arith))

  -- failing to take the volume preserves the rule
  misses : Locked key (stepped s 0 (slice_index s.words 0) id [] v keeps)
  misses = subst (Locked key) (λ i. record { words = sym (one_word s.words kept.word) i; homes = s.homes; views = sym (set_again s.views id v at) i }) kept

  -- while this seat holds the volume, no other seat does
  holder : v.holds ≡ true → slice_index s.words 0 ≡ hold_of v
  holder holds =
      let o = kept.one in
      let l = kept.lock in
      let p = total_part hold_of s.views id v at in
      let h = held v holds in
      omega arith

  -- the numbers that cuts returned are at most the journal's first number
  pub cuts_low : cut_of v ≤ kept.last.origin.first
  cuts_low = let g = greatest_part cut_of s.views id v at in let k = kept.first in omega arith

  -- if no byte of the volume changes, the bytes that no call changes are unchanged
  around_stays : (given : Stored) → given.image ≡ kept.last.image → KeepsAround key.stock given
  around_stays given same = subst (λ (bytes : List ℕ). StaysAround (geometry_of key.stock.origin.edition key.stock.image) key.stock.image bytes) (sym same) kept.follows.around

  module _ (given : Stored) (some-parts : 0 < v.parts) (same : IsUnchanged kept.last given) where
    same_history : kept.gone ++ given.journal ≡ kept.gone ++ kept.last.journal
    same_history = ap (λ (j : List Record). kept.gone ++ j) same.journal

    giving_back : Moves key.stock kept.last kept.gone v given kept.gone (gave v given nothing)
    giving_back = record {
      follows = record {
        edition = ap (λ (o : Origin). o.edition) same.origin ∙ kept.follows.edition;
        first = ap (λ (o : Origin). o.first) same.origin ∙ kept.follows.first;
        starts = ap start same.origin ∙ kept.follows.starts;
        begins = subst (λ (h : List Record). BeginsWith h key.stock.journal) (sym same_history) kept.follows.begins;
        around = around_stays given same.image;
      };
      book = same.book;
      grows = begins_same (kept.gone ++ given.journal) (kept.gone ++ kept.last.journal) same_history;
      parts = refl;
      places = λ weight. let l = ap length same.journal in let o = ap (λ (o : Origin). o.first) same.origin in
          let t : next_number given ≡ next_number kept.last = omega arith in let e = ap (below weight) t in omega arith;
      cuts = omega arith;
      first = let c = cuts_low in let o = ap (λ (o : Origin). o.first) same.origin in omega arith;
      uncut = λ e. (e, same.origin);
      fits = record {
        same = own.same;
        prefix = subst (λ (h : List Record). BeginsWith h v.history) (sym same_history) own.prefix;
        agree = own.agree;
        mine = λ e. absurd (cc);
        spent = λ e. absurd (omega arith);
      };
    }

  module _ (given : Stored) (some-parts : 0 < v.parts) (knows : v.history ≡ kept.gone ++ kept.last.journal) where
    module _ (r : Receipt) (may : IsAnswered kept.last given r) where
      more : List Record
      more = record_of r.asked r.outcome

      grown : kept.gone ++ given.journal ≡ (kept.gone ++ kept.last.journal) ++ record_of r.asked r.outcome
      grown = ap (λ (j : List Record). kept.gone ++ j) may.journal ∙ sym (append_assoc kept.gone kept.last.journal (record_of r.asked r.outcome))

      known_grown : kept.gone ++ given.journal ≡ v.history ++ record_of r.asked r.outcome
      known_grown = grown ∙ ap (λ (h : List Record). h ++ record_of r.asked r.outcome) (sym knows)

      follows_on : Follows key.stock kept.gone given
      follows_on = record {
        edition = ap (λ (o : Origin). o.edition) may.origin ∙ kept.follows.edition;
        first = ap (λ (o : Origin). o.first) may.origin ∙ kept.follows.first;
        starts = ap start may.origin ∙ kept.follows.starts;
        begins = begins_on key.stock.journal (kept.gone ++ kept.last.journal) (kept.gone ++ given.journal)
            (record_of r.asked r.outcome, grown) kept.follows.begins;
        around = around_both key.stock.origin.edition key.stock.image kept.last.image given.image kept.follows.around
            (subst (λ (e : Edition). StaysAround (geometry_of e kept.last.image) kept.last.image given.image) kept.follows.edition may.around);
      }

      places_on : (weight : ℕ → ℕ) → total weight (v.places ++ place_of r.at r.outcome) + below weight (next_number kept.last)
          ≡ total weight v.places + below weight (next_number given)
      places_on weight =
          let a = total_append weight v.places (place_of r.at r.outcome) in
          let g = place_goes_on weight r.at (r.at - given.origin.first) r.asked r.outcome given.journal (given.origin, may.agrees.1) in
          let from = ap (below weight) may.at in
          let l = ap length may.journal in
          let m = length-append kept.last.journal (record_of r.asked r.outcome) in
          let o = ap (λ (o : Origin). o.first) may.origin in
          let t = may.at in
          let to : r.at + length (record_of r.asked r.outcome) ≡ next_number given = omega arith in
          let reached = ap (below weight) to in
          omega arith

      agree_on : All (Agrees key.stock.origin (v.history ++ record_of r.asked r.outcome)) (v.receipts ++ r ∷ [])
      agree_on = All-append (Agrees key.stock.origin (v.history ++ record_of r.asked r.outcome)) v.receipts (r ∷ [])
          (λ k d lt. agrees_grows key.stock.origin v.history (record_of r.asked r.outcome) _ (own.agree k d lt))
          (All-cons (Agrees key.stock.origin (v.history ++ record_of r.asked r.outcome)) r []
          (subst (λ (h : List Record). Agrees key.stock.origin h r) known_grown
          (agrees_back key.stock kept.gone given follows_on given.journal r may.agrees))
          (All-nil (Agrees key.stock.origin (v.history ++ record_of r.asked r.outcome))))

      giving_answered : Moves key.stock kept.last kept.gone v given kept.gone (gave v given (receipt r))
      giving_answered = record {
        follows = follows_on;
        book = may.book;
        grows = (record_of r.asked r.outcome, grown);
        parts = refl;
        places = places_on;
        cuts = omega arith;
        first = let c = cuts_low in let o = ap (λ (o : Origin). o.first) may.origin in omega arith;
        uncut = λ e. (e, may.origin);
        fits = record {
          same = own.same;
          prefix = begins_same (kept.gone ++ given.journal) (v.history ++ record_of r.asked r.outcome) known_grown;
          agree = agree_on;
          mine = λ e. absurd (cc);
          spent = λ e. absurd (omega arith);
        };
      }

    module _ (is : IsCut kept.last given) where
      all_gone : (kept.gone ++ kept.last.journal) ++ given.journal ≡ kept.gone ++ kept.last.journal
      all_gone = ap (λ (j : List Record). (kept.gone ++ kept.last.journal) ++ j) is.journal ∙ append-nil (kept.gone ++ kept.last.journal)

      end_stays : next_number given ≡ next_number kept.last
      end_stays = let l = ap length is.journal in let f = is.first in omega arith

      giving_cut : Moves key.stock kept.last kept.gone v given (kept.gone ++ kept.last.journal) (gave v given cut)
      giving_cut = record {
        follows = record {
          edition = is.edition ∙ kept.follows.edition;
          first = let f = is.first in let k = kept.follows.first in let l = length-append kept.gone kept.last.journal in omega arith;
          starts =
              let made : after (start kept.last.origin) kept.last.journal ≡ after (after (start key.stock.origin) kept.gone) kept.last.journal = rw kept.follows.starts in
              is.starts ∙ (made ∙ sym (after-append (start key.stock.origin) kept.gone kept.last.journal));
          begins = subst (λ (h : List Record). BeginsWith h key.stock.journal) (sym all_gone) kept.follows.begins;
          around = around_stays given is.image;
        };
        book = is.book;
        grows = begins_same ((kept.gone ++ kept.last.journal) ++ given.journal) (kept.gone ++ kept.last.journal) all_gone;
        parts = refl;
        places = λ weight. let e = ap (below weight) end_stays in omega arith;
        cuts = let p = greatest_push (λ n. n) v.cuts given.origin.first in omega arith;
        first = let p = greatest_push (λ n. n) v.cuts given.origin.first in let c = cuts_low in let f = is.first in omega arith;
        uncut = λ e. let l = length-append v.cuts (given.origin.first ∷ []) in absurd (omega arith);
        fits = record {
          same = own.same;
          prefix = begins_same ((kept.gone ++ kept.last.journal) ++ given.journal) v.history (all_gone ∙ sym knows);
          agree = own.agree;
          mine = λ e. absurd (cc);
          spent = λ e. absurd (omega arith);
        };
      }

  -- giving the volume back preserves the rule
  pub gives_it : (given : Stored) (event : Event) → 0 < v.parts → v.holds ≡ true → 0 < length s.homes → MayGive v.found given event
      → Locked key (stepped s 0 0 id ((0, Some given) ∷ []) (gave v given event) gives)
  gives_it given nothing some-parts holds wide may =
      let mine = own.mine holds in
      let same : IsUnchanged kept.last given = subst (λ (x : Stored). IsUnchanged x given) mine.1 may in
      moved given kept.gone (gave v given nothing) (holder holds) (giving_back given some-parts same)
      (set s.homes 0 (mathlib.Core.Option.some (Some given))) (λ e. set_here s.homes 0 (mathlib.Core.Option.some (Some given)) wide)
  gives_it given (receipt r) some-parts holds wide may =
      let mine = own.mine holds in
      let answer : IsAnswered kept.last given r = subst (λ (x : Stored). IsAnswered x given r) mine.1 may in
      moved given kept.gone (gave v given (receipt r)) (holder holds) (giving_answered given some-parts mine.0 r answer)
      (set s.homes 0 (mathlib.Core.Option.some (Some given))) (λ e. set_here s.homes 0 (mathlib.Core.Option.some (Some given)) wide)
  gives_it given cut some-parts holds wide may =
      let mine = own.mine holds in
      let is : IsCut kept.last given = subst (λ (x : Stored). IsCut x given) mine.1 may in
      moved given (kept.gone ++ kept.last.journal) (gave v given cut) (holder holds) (giving_cut given some-parts mine.0 is)
      (set s.homes 0 (mathlib.Core.Option.some (Some given))) (λ e. set_here s.homes 0 (mathlib.Core.Option.some (Some given)) wide)

-- an attempt to take the volume preserves the rule
tries_free : (key : TableStart) (slots id : ℕ) (v : Knowledge) (st : Step (Option Stored)) → 0 < v.parts → v.holds ≡ false
    → Allows (Locked key) slots id (v, []) 0 (λ n. either (n == 0) 1 n) (Tries st (v, []))
tries_free key slots id v st some-parts free s kept long at small =
    exchanged (slice_index s.words 0) 0 1
    (λ n. (w : Knowledge) × (a : Act (Option Stored)) × Valid s.homes [] a × Locked key (stepped s 0 n id [] w a)
    × Tries st (v, []) (slice_index s.words 0) (w, carried_after [] a))
    (λ z. (
      took v kept.last (kept.gone ++ kept.last.journal),
      takes 0 (Some kept.last),
      kept.home z,
      takes_it key s kept id v at z some-parts free,
      ((λ e. (kept.last, (kept.gone, finds key s kept id v at some-parts, refl))), λ ne. absurd (ne z)),
    ))
    (λ ne. (v, keeps, tt, misses key s kept id v at, ((λ z. absurd (ne z)), λ e. refl)))

pub tries : (key : TableStart) (slots id : ℕ) (me : Me (Option Stored) Knowledge) (st : Step (Option Stored)) → me.1 ≡ [] → 0 < me.0.parts → me.0.holds ≡ false
    → Allows (Locked key) slots id me 0 (λ n. either (n == 0) 1 n) (Tries st me)
tries key slots id me st empty some-parts free =
    subst (λ (held : List (ℕ × Option Stored)). Allows (Locked key) slots id (me.0, held) 0 (λ n. either (n == 0) 1 n) (Tries st (me.0, held)))
    (sym empty) (tries_free key slots id me.0 st some-parts free)

-- the contents of the slot that was taken last
slot_of : List (ℕ × Option Stored) → Option Stored
slot_of [] = None
slot_of (x ∷ xs) = x.1

-- the value taken out of the slot is the volume that was found there
pub took_out : (before mid end : Me (Option Stored) Knowledge) (stored : Stored) (found : Option Stored) → Took before mid stored (Some stored)
    → mid.1 ≡ (0, found) ∷ rest mid.1 → end ≡ (mid.0, (0, None) ∷ rest mid.1) → (found ≡ Some stored) × Took before end stored None
unfolding slot_of
took_out before mid end stored found took there changed =
    let e = took.2 in (
      sym (ap slot_of there) ∙ ap (λ (m : Me (Option Stored) Knowledge). slot_of m.1) e,
      (took.0, took.1, changed ∙ ap (λ (m : Me (Option Stored) Knowledge). (m.0, (0, None) ∷ rest m.1)) e),
    )

-- two values found in the slot that was taken last are equal
pub slot_is : (held : List (ℕ × Option Stored)) (found other : Option Stored) → held ≡ (0, found) ∷ rest held → held ≡ (0, other) ∷ [] → found ≡ other
unfolding slot_of
slot_is held found other there here = sym (ap slot_of there) ∙ ap slot_of here

-- the volume in the slot that was taken last
stored_in : Option Stored → Stored
stored_in None = nothing_stored
stored_in (Some stored) = stored

gives_held : (key : TableStart) (slots id : ℕ) (v : Knowledge) (given : Stored) (event : Event) (st : Step (Option Stored)) → 0 < slots → 0 < v.parts → v.holds ≡ true
    → MayGive v.found given event → Allows (Locked key) slots id (v, (0, Some given) ∷ []) 0 (λ _. 0) (λ n. Gives event st (v, (0, Some given) ∷ []) 0)
unfolding slot_of stored_in
gives_held key slots id v given event st wide some-parts holds may s kept long at small = (
  gave v given event,
  gives,
  tt,
  gives_it key s kept id v at given event some-parts holds (omega arith) may,
  λ other e. ap (λ (x : Stored). (gave v x event, [])) (ap (λ (l : List (ℕ × Option Stored)). stored_in (slot_of l)) e),
)

pub gives_back : (key : TableStart) (slots id : ℕ) (me : Me (Option Stored) Knowledge) (given : Stored) (event : Event) (st : Step (Option Stored)) → 0 < slots
    → me.1 ≡ (0, Some given) ∷ [] → 0 < me.0.parts → me.0.holds ≡ true
    → MayGive me.0.found given event → Allows (Locked key) slots id me 0 (λ _. 0) (λ n. Gives event st me 0)
gives_back key slots id me given event st wide held some-parts holds may =
    subst (λ (l : List (ℕ × Option Stored)). Allows (Locked key) slots id (me.0, l) 0 (λ _. 0) (λ n. Gives event st (me.0, l) 0))
    (sym held) (gives_held key slots id me.0 given event st wide some-parts holds may)
