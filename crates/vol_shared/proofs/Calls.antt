-- Facts about a session after a call.
use Rattle.std.proofs.Common.{◌≡◌, ℕ, ◌+◌, ◌≤◌, List, [], ◌∷◌, ◌++◌, length, Option, None, sym, refl, ap, ◌∙◌, length-append, arith}
use Rattle.atomic_table.specs.Table.{Me}
use Rattle.atomic_table.specs.Seated.{TableId}
use Rattle.vol_volume.specs.declared.calls.Record.{Record}
use Rattle.vol_receipts.specs.Agrees.{next_of}
use Rattle.vol_receipts.specs.declared.receipts.Receipt.{Receipt}
use Rattle.vol_views.specs.History.{Reached}
use Rattle.vol_shared.specs.Stored.{Stored, next_number, IsCut}
use Rattle.vol_views.specs.Views.{book_in}
use Rattle.vol_shared.specs.Plays.{Event, nothing, receipt, took, gave, FindsVolume, Took, IsAnswered, cut}
use Rattle.vol_shared.specs.Sessions.{known_by, knowledge_of, IsIdle, Got, HasCut}
use Rattle.vol_shared.specs.declared.lock_rule.Knowledge.{Knowledge}

-- the number of the next record in the volume that a seat finds isn't below the least number that the session's next receipt may have
pub reaches : (v : Knowledge) (gone : List Record) (found : Stored) → FindsVolume v gone found
    → v.opened.origin.first + length v.history ≤ next_number found
reaches v gone found finds =
    let f = finds.follows.first in
    let g = finds.goes_on in
    let e = ap length g.1 in
    let a = length-append gone found.journal in
    let b = length-append v.history g.0 in
    omega arith

pub got : (views : List Knowledge) (next count : ℕ) (reported : Option Reached) → IsIdle views next count reported → (me end : Me (Option Stored) Knowledge) (found given : Stored) (r : Receipt)
    → Took (knowledge_of views, []) me found None → IsAnswered found given r → end ≡ (gave me.0 given (receipt r), [])
    → (table other : TableId) (later : ℕ) → later ≡ next_of r.at r.outcome
    → Got (known_by table next (knowledge_of views)) (known_by other later end.0) r
got views next count reported is me end found given r took-it may gave-it table other later noted =
    let v = knowledge_of views in
    let here : end.0 ≡ gave (took v found (took-it.0 ++ found.journal)) given (receipt r) =
    ap (λ (m : Me (Option Stored) Knowledge). m.0) gave-it ∙ ap (λ (m : Me (Option Stored) Knowledge). gave m.0 given (receipt r)) took-it.2 in
    let r-at = may.at in
    let reach = reaches v took-it.0 found took-it.1 in
    let n = is.reached in
    record {
      at = omega arith;
      next = noted;
      places = ap (λ (w : Knowledge). w.places) here;
      cuts = ap (λ (w : Knowledge). w.cuts) here;
      receipts = ap (λ (w : Knowledge). w.receipts) here;
    }

pub has_cut : (views : List Knowledge) (next count : ℕ) (mine : Option Reached) → IsIdle views next count mine → (me end : Me (Option Stored) Knowledge) (found given : Stored) (first : ℕ)
    → Took (knowledge_of views, []) me found None → IsCut found given → first ≡ next_number found → end ≡ (gave me.0 given cut, [])
    → (table other : TableId) → HasCut (known_by table next (knowledge_of views)) (known_by other first end.0) first
has_cut views next count mine is me end found given first took-it cut-it reported gave-it table other =
    let v = knowledge_of views in
    let here : end.0 ≡ gave (took v found (took-it.0 ++ found.journal)) given cut =
    ap (λ (m : Me (Option Stored) Knowledge). m.0) gave-it ∙ ap (λ (m : Me (Option Stored) Knowledge). gave m.0 given cut) took-it.2 in
    let reach = reaches v took-it.0 found took-it.1 in
    let n = is.reached in
    record {
      at = omega arith;
      next = refl;
      places = ap (λ (w : Knowledge). w.places) here;
      cuts = ap (λ (w : Knowledge). w.cuts) here ∙ ap (λ (n : ℕ). v.cuts ++ n ∷ []) (cut-it.first ∙ sym reported);
      receipts = ap (λ (w : Knowledge). w.receipts) here;
    }

-- giving the volume back doesn't change the seat's opened volume
pub keeps_opened : (v : Knowledge) (given : Stored) (event : Event) → (gave v given event).opened ≡ v.opened
keeps_opened v given nothing = refl
keeps_opened v given (receipt r) = refl
keeps_opened v given cut = refl

-- a call doesn't change the log with the volume's records
pub same_book : (views later : List Knowledge) (me end : Me (Option Stored) Knowledge) (found given : Stored) (event : Event)
    → Took (knowledge_of views, []) me found None → end ≡ (gave me.0 given event, []) → later ≡ end.0 ∷ []
    → (knowledge_of later).opened.book ≡ (knowledge_of views).opened.book
same_book views later me end found given event took-it gave-it is =
    let one = ap (λ (vs : List Knowledge). (knowledge_of vs).opened.book) is in
    let two = ap (λ (m : Me (Option Stored) Knowledge). m.0.opened.book) gave-it in
    let three = ap (λ (s : Stored). s.book) (keeps_opened me.0 given event) in
    let four = ap (λ (m : Me (Option Stored) Knowledge). m.0.opened.book) took-it.2 in
    one ∙ (two ∙ (three ∙ four))

-- if the volume is given back with its log, this is still the log of the opened volume
pub reported_book : (views later : List Knowledge) (me end : Me (Option Stored) Knowledge) (found given : Stored) (event : Event) (reported : Option Reached)
    → Took (knowledge_of views, []) me found None → given.book ≡ found.book → end ≡ (gave me.0 given event, []) → later ≡ end.0 ∷ []
    → book_in reported ≡ given.book → book_in reported ≡ (knowledge_of later).opened.book
reported_book views later me end found given event reported took-it same gave-it is reported-is =
    reported-is ∙ (same ∙ (took-it.1.book ∙ sym (same_book views later me end found given event took-it gave-it is)))
