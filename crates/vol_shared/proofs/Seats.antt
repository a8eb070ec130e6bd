-- Opening the table, splitting and joining seats, and the facts once one seat represents all sessions.
use Rattle.std.proofs.Common.{◌≡◌, ◌≢◌, ◌⊎◌, inl, inr, ℕ, zero, suc, ◌+◌, ◌-◌, ◌<◌, ◌≤◌, List, [], ◌∷◌, ◌++◌, length, set, false, Option, Some, All, sym, refl, ap, ◌∙◌, subst, append_assoc, append-nil, length-append, arith, ⊎_elim}
use Rattle.std.proofs.lemmas.Bool.{cases_eq}
use Rattle.std.proofs.lemmas.List.Elements.{All-append, All-nil}
use Rattle.std.specs.List.{flat_map}
use Rattle.std.proofs.lemmas.List.Concat.{flat_map-append}
use mathlib.Core.Option.{some, some-injective, some-ne-none}
use lib.ListN.{get_elem?}
use Rattle.atomic_table.specs.Table.{State, Splits, Joins, Final, Seen, opening}
use Rattle.atomic_table.proofs.Lists.{at_set, set_else, at_snoc}
use Rattle.count_table.specs.Sums.{total}
use Rattle.count_table.proofs.Totals.{total_nil, total_cons, total_append, total_push, total_set, total_part, total_none}
use Rattle.vol_volume.specs.declared.calls.Record.{Record}
use Rattle.vol_receipts.specs.Agrees.{Agrees}
use Rattle.vol_receipts.specs.declared.receipts.Receipt.{Receipt}
use Rattle.vol_receipts.proofs.Agreement.{agrees_grows}
use Rattle.vol_receipts.proofs.Around.{around_same}
use Rattle.vol_shared.specs.Lists.{BeginsWith, longer, greatest, greatest_of}
use Rattle.vol_shared.specs.Stored.{Stored, Follows}
use Rattle.vol_shared.specs.Rule.{hold_of, SeatFits, Locked}
use Rattle.vol_shared.specs.Plays.{fresh, first_knowledge, nobody, kept_part, given_part, as_one}
use Rattle.vol_shared.specs.Close.{IsSettled}
use Rattle.vol_shared.specs.declared.lock_rule.Knowledge.{Knowledge}
use Rattle.vol_shared.specs.declared.lock_rule.TableStart.{TableStart}
use Rattle.vol_shared.proofs.Lists.{begins_itself, longer_first, longer_second, longer_prefix, set_there, greatest_nil, greatest_cons, greatest_push, greatest_append, greatest_set, greatest_part, greatest_all}
use Rattle.vol_shared.proofs.Steps.{cut_of, idle, shifts}

-- the knowledge of a seat that has done nothing satisfies `SeatFits`
fresh_fits : (opened : Stored) (parts : ℕ) (last : Stored) (history : List Record) → BeginsWith history opened.journal → SeatFits opened last history (fresh parts opened)
fresh_fits opened parts last history begins = record {
  same = λ e. refl;
  prefix = begins;
  agree = All-nil (Agrees opened.origin opened.journal);
  mine = λ e. absurd (cc);
  spent = λ e. (refl, refl, refl);
}

-- the knowledge of a seat that represents no session satisfies `SeatFits`
blank_fits : (opened last : Stored) (history : List Record) → SeatFits opened last history nobody
blank_fits opened last history = record {
  same = λ e. absurd (omega arith);
  prefix = (history, refl);
  agree = All-nil (Agrees opened.origin []);
  mine = λ e. absurd (cc);
  spent = λ e. (refl, refl, refl);
}

-- a volume continues itself, with no record cut
follows_itself : (opened : Stored) → Follows opened [] opened
follows_itself opened = record {
  edition = refl;
  first = omega arith;
  starts = refl;
  begins = begins_itself opened.journal;
  around = around_same opened.origin.edition opened.image opened.image refl;
}

-- the table satisfies its rule when it is opened
pub opens : (key : TableStart) (slots : List (Option Stored)) → slots ≡ Some key.stock ∷ [] → Locked key (opening (0 ∷ []) slots (first_knowledge key))
opens key slots full = subst (λ (l : List (Option Stored)). Locked key (opening (0 ∷ []) l (first_knowledge key))) (sym full) record {
  last = key.stock;
  gone = [];
  word = refl;
  one = omega arith;
  lock = let c = total_cons hold_of (first_knowledge key) [] in let n = total_nil hold_of in omega arith;
  home = λ e. refl;
  follows = follows_itself key.stock;
  book = refl;
  parts = let c = total_cons (λ (v : Knowledge). v.parts) (first_knowledge key) [] in let n = total_nil (λ (v : Knowledge). v.parts) in omega arith;
  places = λ weight. let c = total_cons (λ (v : Knowledge). total weight v.places) (first_knowledge key) [] in
      let n = total_nil (λ (v : Knowledge). total weight v.places) in let z = total_nil weight in omega arith;
  first = let c = greatest_cons cut_of (first_knowledge key) [] in let n = greatest_nil cut_of in let z = greatest_nil (λ (k : ℕ). k) in omega arith;
  uncut = λ e. refl;
  each = only;
}
  where
    only : (id : ℕ) (v : Knowledge) → get_elem? (first_knowledge key ∷ []) id ≡ some v → SeatFits key.stock key.stock key.stock.journal v
    only zero v e = subst (SeatFits key.stock key.stock key.stock.journal) (some-injective (first_knowledge key) v e)
        (fresh_fits key.stock key.sessions key.stock key.stock.journal (begins_itself key.stock.journal))
    only (suc id) v e = absurd (some-ne-none v (sym e))

-- splitting a session off a seat that has done nothing preserves the rule
pub splits : (key : TableStart) (id : ℕ) (v : Knowledge) (parts : ℕ) → 1 ≤ parts → v ≡ fresh parts key.stock → Splits (Locked key) id v (kept_part v) (given_part v)
splits key id v parts some-parts is s kept at =
    subst (λ (x : Knowledge). Locked key record { words = s.words; homes = s.homes; views = set s.views id (kept_part x) ++ given_part x ∷ [] }) (sym is) record {
      last = kept.last;
      gone = kept.gone;
      word = kept.word;
      one = kept.one;
      lock = let h = moves hold_of in let p = pushes hold_of in let k = kept.lock in omega arith;
      home = kept.home;
      follows = kept.follows;
      book = kept.book;
      parts = let h = moves (λ x. x.parts) in let p = pushes (λ x. x.parts) in let k = kept.parts in omega arith;
      places = λ weight. let h = moves (λ x. total weight x.places) in let p = pushes (λ x. total weight x.places) in let n = total_nil weight in
          let k = kept.places weight in omega arith;
      first =
          let g = greatest_set cut_of s.views id (fresh parts opened) (fresh (parts - 1) opened) there in
          let p = greatest_push cut_of (set s.views id (fresh (parts - 1) opened)) (fresh 1 opened) in
          let z = greatest_nil (λ (k : ℕ). k) in let k = kept.first in omega arith;
      uncut = λ e. let h = moves (λ x. length x.cuts) in let p = pushes (λ x. length x.cuts) in kept.uncut (omega arith);
      each = λ j x e. ⊎_elim
          (λ (t : get_elem? (set s.views id (fresh (parts - 1) opened)) j ≡ some x). ⊎_elim
          (λ (u : (j ≡ id) × (fresh (parts - 1) opened ≡ x)). subst (SeatFits opened kept.last (kept.gone ++ kept.last.journal)) u.1 (fits (parts - 1)))
          (λ (u : (j ≢ id) × (get_elem? s.views j ≡ some x)). kept.each j x u.1) (at_set s.views id j (fresh (parts - 1) opened) x t))
          (λ (t : fresh 1 opened ≡ x). subst (SeatFits opened kept.last (kept.gone ++ kept.last.journal)) t (fits 1))
          (at_snoc (set s.views id (fresh (parts - 1) opened)) (fresh 1 opened) x j e);
    }
  where
    opened : Stored
    opened = key.stock

    there : get_elem? s.views id ≡ some (fresh parts key.stock)
    there = subst (λ (x : Knowledge). get_elem? s.views id ≡ some x) is at

    moves : (g : Knowledge → ℕ) → total g (set s.views id (fresh (parts - 1) key.stock)) + g (fresh parts key.stock)
        ≡ total g s.views + g (fresh (parts - 1) key.stock)
    moves g = total_set g s.views id (fresh parts key.stock) (fresh (parts - 1) key.stock) there

    pushes : (g : Knowledge → ℕ) → total g (set s.views id (fresh (parts - 1) key.stock) ++ fresh 1 key.stock ∷ [])
        ≡ total g (set s.views id (fresh (parts - 1) key.stock)) + g (fresh 1 key.stock)
    pushes g = total_push g (set s.views id (fresh (parts - 1) key.stock)) (fresh 1 key.stock)

    fits : (n : ℕ) → SeatFits key.stock kept.last (kept.gone ++ kept.last.journal) (fresh n key.stock)
    fits n = fresh_fits key.stock n kept.last (kept.gone ++ kept.last.journal) kept.follows.begins

-- receipts that agree with a prefix of the history agree with the history
agree_prefix : (opened : Stored) (known history : List Record) (receipts : List Receipt) → BeginsWith history known
    → All (Agrees opened.origin known) receipts → All (Agrees opened.origin history) receipts
agree_prefix opened known history receipts prefix agree = subst (λ (l : List Record). All (Agrees opened.origin l) receipts) (sym prefix.1)
    (λ k d lt. agrees_grows opened.origin known prefix.0 _ (agree k d lt))

-- joining two seats that don't hold the volume preserves the rule
pub joins : (key : TableStart) (id : ℕ) (v : Knowledge) (other : ℕ) (w : Knowledge) → 0 < v.parts → v.holds ≡ false → w.holds ≡ false
    → Joins (Locked key) id v other w (as_one v w) nobody
joins key id v other w some-parts first-free second-free s kept at apart there = record {
  last = kept.last;
  gone = kept.gone;
  word = kept.word;
  one = kept.one;
  lock = let h = sums hold_of in let k = kept.lock in let a = idle v first-free in let b = idle w second-free in omega arith;
  home = kept.home;
  follows = kept.follows;
  book = kept.book;
  parts = let h = sums (λ x. x.parts) in let k = kept.parts in omega arith;
  places = λ weight. let h = sums (λ x. total weight x.places) in let k = kept.places weight in let a = total_append weight w.places v.places in
      let n = total_nil weight in omega arith;
  first =
      let a = greatest_append (λ (k : ℕ). k) w.cuts v.cuts in
      let n = greatest_nil (λ (k : ℕ). k) in
      let g = greatest_set cut_of s.views id v (as_one v w) at in
      let h = greatest_set cut_of (set s.views id (as_one v w)) other w nobody there in
      let p = greatest_part cut_of s.views id v at in
      let q = greatest_part cut_of s.views other w second in
      let r = greatest_part cut_of (set s.views id (as_one v w)) id (as_one v w) (set_there s.views id v (as_one v w) at) in
      let t = greatest_part cut_of (set (set s.views id (as_one v w)) other nobody) id (as_one v w) kept_there in
      let k = kept.first in
      omega arith;
  uncut = λ e. let h = sums (λ x. length x.cuts) in let a = length-append w.cuts v.cuts in kept.uncut (omega arith);
  each = λ j x e. ⊎_elim (λ (t : (j ≡ other) × (nobody ≡ x)). subst (SeatFits key.stock kept.last (kept.gone ++ kept.last.journal)) t.1
      (blank_fits key.stock kept.last (kept.gone ++ kept.last.journal)))
      (λ (t : (j ≢ other) × (get_elem? (set s.views id (as_one v w)) j ≡ some x)). ⊎_elim
      (λ (u : (j ≡ id) × (as_one v w ≡ x)). subst (SeatFits key.stock kept.last (kept.gone ++ kept.last.journal)) u.1 fits)
      (λ (u : (j ≢ id) × (get_elem? s.views j ≡ some x)). kept.each j x u.1) (at_set s.views id j (as_one v w) x t.1))
      (at_set (set s.views id (as_one v w)) other j nobody x e);
}
  where
    second : get_elem? s.views other ≡ some w
    second = sym (set_else s.views id other (as_one v w) apart) ∙ there

    kept_there : get_elem? (set (set s.views id (as_one v w)) other nobody) id ≡ some (as_one v w)
    kept_there = set_else (set s.views id (as_one v w)) other id nobody (λ e. apart (sym e)) ∙ set_there s.views id v (as_one v w) at

    sums : (g : Knowledge → ℕ) → total g (set (set s.views id (as_one v w)) other nobody) + g w + g v ≡ total g s.views + g (as_one v w) + g nobody
    sums g =
        let a = total_set g s.views id v (as_one v w) at in
        let b = total_set g (set s.views id (as_one v w)) other w nobody there in omega arith

    prefix-v : BeginsWith (kept.gone ++ kept.last.journal) v.history
    prefix-v = (kept.each id v at).prefix

    prefix-w : BeginsWith (kept.gone ++ kept.last.journal) w.history
    prefix-w = (kept.each other w second).prefix

    fits : SeatFits key.stock kept.last (kept.gone ++ kept.last.journal) (as_one v w)
    fits = record {
      same = λ e. (kept.each id v at).same some-parts;
      prefix = longer_prefix v.history w.history (kept.gone ++ kept.last.journal) prefix-v prefix-w;
      agree = All-append (Agrees key.stock.origin (longer v.history w.history)) w.receipts v.receipts
          (agree_prefix key.stock w.history (longer v.history w.history) w.receipts (longer_second v.history w.history (kept.gone ++ kept.last.journal) prefix-v prefix-w) (kept.each other w second).agree)
          (agree_prefix key.stock v.history (longer v.history w.history) v.receipts (longer_first v.history w.history (kept.gone ++ kept.last.journal) prefix-v prefix-w) (kept.each id v at).agree);
      mine = λ e. absurd (cc);
      spent = λ e. absurd (omega arith);
    }

module _ (key : TableStart) (s : State (Option Stored) Knowledge) (kept : Locked key s) (id : ℕ) (v : Knowledge) (at : get_elem? s.views id ≡ some v)
    (all : v.parts ≡ key.sessions) where
  -- if one seat represents all sessions, the other seats represent none
  others_spent : (j : ℕ) (x : Knowledge) → j ≢ id → get_elem? s.views j ≡ some x → x.parts ≡ 0
  others_spent j x ne there =
      let h = shifts key s kept id v at (λ x. x.parts) nobody in
      let k = kept.parts in
      let p = total_part (λ (x : Knowledge). x.parts) (set s.views id nobody) j x (set_else s.views id j nobody ne ∙ there) in
      omega arith

  -- seats that represent no session add nothing to a sum over all seats
  alone : (g : Knowledge → ℕ) → g nobody ≡ 0 → ((x : Knowledge) → (x.holds ≡ false) × (x.places ≡ []) × (x.cuts ≡ []) → g x ≡ 0) → total g s.views ≡ g v
  alone g none spent =
      let h = shifts key s kept id v at g nobody in
      let z = total_none g (set s.views id nobody) (λ j x e. ⊎_elim (λ (t : (j ≡ id) × (nobody ≡ x)). ap g (sym t.1) ∙ none)
      (λ (t : (j ≢ id) × (get_elem? s.views j ≡ some x)). spent x ((kept.each j x t.1).spent (others_spent j x t.0 t.1))) (at_set s.views id j nobody x e)) in
      omega arith

  greatest_alone : greatest cut_of s.views ≡ cut_of v
  greatest_alone =
      let p = greatest_part cut_of s.views id v at in
      let q = greatest_all cut_of (cut_of v) s.views (λ j x e. at_most j x e (cases_eq j id)) in
      omega arith
    where
      at_most : (j : ℕ) (x : Knowledge) → get_elem? s.views j ≡ some x → (j ≡ id) ⊎ (j ≢ id) → cut_of x ≤ cut_of v
      at_most j x e (inl same) =
          let i : v ≡ x = some-injective v x (sym at ∙ (ap (get_elem? s.views) (sym same) ∙ e)) in
          let c = ap cut_of i in omega arith
      at_most j x e (inr ne) =
          let c = ap greatest_of ((kept.each j x e).spent (others_spent j x ne e)).2 in let n = greatest_nil (λ (k : ℕ). k) in omega arith

  agree_end : All (Agrees key.stock.origin (kept.gone ++ kept.last.journal)) v.receipts
  agree_end = agree_prefix key.stock v.history (kept.gone ++ kept.last.journal) v.receipts (kept.each id v at).prefix (kept.each id v at).agree

  -- if the seat that represents all sessions doesn't hold the volume, the last volume is in the slot, and satisfies `IsSettled`
  pub ends : v.holds ≡ false → (get_elem? s.homes 0 ≡ some (some (Some kept.last))) × IsSettled key.stock v kept.last
  ends free = (
    kept.home (kept.lock ∙ (alone hold_of refl (λ x spent. idle x spent.0) ∙ idle v free)),
    record {
      goes_on = (kept.gone, kept.follows, agree_end);
      places = λ weight. let a = alone (λ x. total weight x.places) (total_nil weight) (λ x spent. ap (total weight) spent.1 ∙ total_nil weight) in
          let k = kept.places weight in omega arith;
      first = let g = greatest_alone in let k = kept.first in omega arith;
      uncut = λ e. kept.uncut (alone (λ x. length x.cuts) refl (λ x spent. ap length spent.2) ∙ e);
    },
  )

-- the slot of a table that ended contains the last volume, which satisfies `IsSettled`
pub taken_at_end : (key : TableStart) (id : ℕ) (v : Knowledge) (words : List ℕ) (slots : List (Option Stored)) (found : Option Stored)
    → v.parts ≡ key.sessions → v.holds ≡ false → Final (Seen (Locked key) id v) words slots → get_elem? slots 0 ≡ some found
    → (last : Stored) × (found ≡ Some last) × IsSettled key.stock v last × (last.book ≡ key.stock.book)
taken_at_end key id v words slots found all free final there =
    let kept = final.1.0 in
    let e = ends key final.0 kept id v final.1.1 all free in
    (kept.last, some-injective found (Some kept.last) (sym there ∙ final.4 0 (Some kept.last) e.0), e.1, kept.book)

-- the elements made from the last element of a list come after those made from the others
pub last_joins : {A B : Type 0} (f : A → List B) (xs : List A) (x : A) (ys all : List B) → flat_map f (xs ++ x ∷ []) ++ ys ≡ all → flat_map f xs ++ (f x ++ ys) ≡ all
last_joins f xs x ys all e =
    let a : flat_map f (xs ++ x ∷ []) ≡ flat_map f xs ++ f x = flat_map-append f xs (x ∷ []) ∙ ap (λ (l : List _). flat_map f xs ++ l) (append-nil (f x)) in
    sym (append_assoc (flat_map f xs) (f x) ys) ∙ (ap (λ (l : List _). l ++ ys) (sym a) ∙ e)
