-- Facts about published volumes and the log prefixes that views know.
use Rattle.std.proofs.Common.{◌≡◌, ℕ, ◌+◌, ◌≤◌, List, [], ◌∷◌, ◌++◌, length, All, Option, None, Some, IfSome, refl, ap, sym, ◌∙◌, subst, arith, append_assoc, append-nil, length-append}
use Rattle.std.proofs.lemmas.List.Elements.{All-append, All-cons, All-nil}
use mathlib.Core.List.{IsPrefix}
use Rattle.logbook.specs.Pages.{Book}
use Rattle.vol_dir.specs.Tree.{State}
use Rattle.vol_volume.specs.Journal.{after}
use Rattle.vol_volume.specs.Volume.{Mounted, reads_as, after_cut, IsConsistent, Accepts}
use Rattle.vol_volume.specs.declared.calls.Call.{Call}
use Rattle.vol_volume.specs.declared.calls.Done.{Done}
use Rattle.vol_volume.specs.declared.calls.Record.{Record}
use Rattle.vol_volume.proofs.Journals.{after-append}
use Rattle.vol_receipts.specs.Agrees.{origin_of, start, Agrees, AgreesAfter, next_of, record_of}
use Rattle.vol_receipts.specs.declared.receipts.Asked.{Asked}
use Rattle.vol_receipts.specs.declared.receipts.Asked.TheVariants.{Change, Question}
use Rattle.vol_receipts.specs.declared.receipts.Outcome.{Outcome}
use Rattle.vol_receipts.specs.declared.receipts.Outcome.TheVariants.{Accepted, Refused, Answered}
use Rattle.vol_receipts.specs.declared.receipts.Origin.{Origin}
use Rattle.vol_receipts.specs.declared.receipts.Receipt.{Receipt}
use Rattle.vol_receipts.proofs.Agreement.{agrees_after_cut}
use Rattle.vol_receipts.proofs.Around.{around_call, around_same}
use Rattle.vol_views.specs.History.{Reached}
use Rattle.vol_views.specs.LogRule.{first_log}
use Rattle.vol_views.specs.declared.history.LogEntry.{LogEntry}
use Rattle.vol_views.specs.declared.history.LogEntry.TheVariants.{Made}
use Rattle.vol_views.specs.States.{state_of}
use Rattle.vol_views.specs.Logs.{history_of, origin_in, number_of}
use Rattle.vol_views.proofs.Logs.{history_more, origin_more}
use Rattle.vol_views.specs.Views.{Watched, AgreesIn, IsNew}
use Rattle.vol_views.proofs.Views.{agree_on}
use Rattle.vol_shared.specs.Stored.{Stored, stored_of, stored_with, unpublished, next_number, IsCut}
use Rattle.vol_shared.specs.Plays.{IsAnswered}
use Rattle.vol_shared.specs.Close.{IsSettled}
use Rattle.vol_shared.specs.Published.{IsPublished}
use Rattle.vol_shared.specs.Watch.{IsNewView, IsBehind, Covers}
use Rattle.vol_shared.specs.declared.lock_rule.Knowledge.{Knowledge}

-- all records of a volume are published in its first log
pub published_first : (volume : Mounted) (log : List LogEntry) → log ≡ first_log volume → IsPublished log (stored_of volume)
published_first volume log is = subst (λ (l : List LogEntry). IsPublished l (stored_of volume)) (sym is) (record {
  gone = [];
  begun = λ e. absurd cc;
  records = append-nil volume.journal;
  first = omega arith;
  starts = refl;
})

-- the next record of the log has the same number as the next record of the volume
pub published_number : (log : List LogEntry) (stored : Stored) → IsPublished log stored → number_of log ≡ next_number stored
published_number log stored is =
    let longer = ap length is.records ∙ length-append is.gone stored.journal in omega (arith, longer, is.first)

-- if the log's state is the state after its records, the volume reads as this state
pub published_state : (volume : Mounted) (log : List LogEntry) → IsConsistent volume → IsPublished log (stored_of volume)
    → state_of log ≡ after (start (origin_in log)) (history_of log) → state_of log ≡ reads_as volume.edition volume.image
published_state volume log keeps is reads =
    reads
    ∙ (ap (after (start (origin_in log))) is.records
    ∙ (after-append (start (origin_in log)) is.gone volume.journal
    ∙ (ap (λ (s : State). after s volume.journal) (sym is.starts) ∙ sym keeps.reads)))

-- a volume is still published after one more record is added to its journal and to the log
pub published_more : (old new : Stored) (log : List LogEntry) (entry : Record) → IsPublished log old → new.origin ≡ old.origin
    → new.journal ≡ old.journal ++ entry ∷ [] → IsPublished (log ++ Made entry ∷ []) new
published_more old new log entry is origin journal = record {
  gone = is.gone;
  begun = λ e. longer log e;
  records = history_more log entry
      ∙ (ap (λ (l : List Record). l ++ entry ∷ []) is.records
      ∙ (append_assoc is.gone old.journal (entry ∷ []) ∙ ap (λ (l : List Record). is.gone ++ l) (sym journal)));
  first = ap (λ (o : Origin). o.first) origin ∙ (is.first ∙ ap (λ (o : Origin). o.first + length is.gone) (sym (origin_more log entry)));
  starts = ap start origin ∙ (is.starts ∙ ap (λ (o : Origin). after (start o) is.gone) (sym (origin_more log entry)));
}
  where
    longer : (l : List LogEntry) → (l ++ Made entry ∷ []) ≡ [] → ⊥
    longer [] e = absurd cc
    longer (x ∷ xs) e = absurd cc

-- a volume is still published after its journal is cut
pub published_cut : (old new : Stored) (log : List LogEntry) → IsPublished log old → IsCut old new → IsPublished log new
published_cut old new log is cut = record {
  gone = is.gone ++ old.journal;
  begun = is.begun;
  records = is.records ∙ (sym (append-nil (is.gone ++ old.journal)) ∙ ap (λ (l : List Record). (is.gone ++ old.journal) ++ l) (sym cut.journal));
  first = let f = cut.first in let g = is.first in let l = length-append is.gone old.journal in omega arith;
  starts =
      cut.starts ∙ (ap (λ (s : State). after s old.journal) is.starts ∙ sym (after-append (start (origin_in log)) is.gone old.journal));
}

pub published_after_cut : (volume : Mounted) (log : List LogEntry) → IsConsistent volume → IsPublished log (stored_of volume)
    → IsPublished log (stored_of (after_cut volume))
published_after_cut volume log keeps is =
    published_cut (stored_of volume) (stored_of (after_cut volume)) log is
    (record { edition = refl; bytes = refl; first = refl; starts = keeps.reads; journal = refl; image = refl; book = refl })

-- a receipt of an accepted call satisfies `IsAnswered`
pub answered_call : (old new : Mounted) (book : Option Book) (call asked : Call) (done : Done) (at : ℕ) (receipt : Receipt) → Accepts old new call done
    → asked ≡ call → at ≡ old.first + length old.journal → receipt ≡ (record { at = at; asked = Change asked; outcome = Accepted done })
    → Agrees (origin_of new) new.journal receipt → IsAnswered (stored_with book old) (stored_with book new) receipt
answered_call old new book call asked done at receipt accepts same number is agrees =
    let origin : origin_of new ≡ origin_of old = cc (accepts.edition, accepts.base, accepts.first) in
    let one : record_of receipt.asked receipt.outcome ≡ (record { call = call; done = done }) ∷ [] =
    ap (λ (r : Receipt). record_of r.asked r.outcome) is ∙ ap (λ c. (record { call = c; done = done }) ∷ []) same in
    record {
      origin = origin;
      journal = accepts.journal ∙ ap (λ (l : List Record). old.journal ++ l) (sym one);
      image = λ none. let e = sym one ∙ none in absurd cc;
      around = around_call old new call done accepts;
      at = ap (λ (r : Receipt). r.at) is ∙ number;
      agrees = agrees;
      book = refl;
    }

-- a receipt of a refusal or a query satisfies `IsAnswered`
pub answered_refusal : (volume : Mounted) (book : Option Book) (receipt : Receipt) → record_of receipt.asked receipt.outcome ≡ []
    → receipt.at ≡ volume.first + length volume.journal → Agrees (origin_of volume) volume.journal receipt
    → IsAnswered (stored_with book volume) (stored_with book volume) receipt
answered_refusal volume book receipt none number agrees = record {
  origin = refl;
  journal = sym (append-nil volume.journal) ∙ ap (λ (l : List Record). volume.journal ++ l) (sym none);
  image = λ e. refl;
  around = around_same volume.edition volume.image volume.image refl;
  at = number;
  agrees = agrees;
  book = refl;
}

next_where : (end at : ℕ) (origin : Origin) (journal : List Record) (count : ℕ) (asked : Asked) (outcome : Outcome) → AgreesAfter origin journal count asked outcome
    → end ≡ at + length (record_of asked outcome) → end ≡ next_of at outcome
next_where end at origin journal count (Change call) (Accepted done) agrees is = is
next_where end at origin journal count (Change call) (Refused refusal) agrees is = omega (arith, is)
next_where end at origin journal count (Change call) (Answered reply) agrees is = absurd agrees.1
next_where end at origin journal count (Question query) (Accepted done) agrees is = absurd agrees.1
next_where end at origin journal count (Question query) (Refused refusal) agrees is = omega (arith, is)
next_where end at origin journal count (Question query) (Answered reply) agrees is = omega (arith, is)

-- after a call or query was answered, the next record's number is the least number that the next receipt may have
pub next_is : (found given : Stored) (receipt : Receipt) → IsAnswered found given receipt → next_number given ≡ next_of receipt.at receipt.outcome
next_is found given receipt is =
    let first = ap (λ (o : Origin). o.first) is.origin in
    let longer = ap length is.journal ∙ length-append found.journal (record_of receipt.asked receipt.outcome) in
    let at = is.at in
    next_where (next_number given) receipt.at given.origin given.journal _ receipt.asked receipt.outcome is.agrees.1 (omega (arith, first, longer, at))

-- if the log extends the prefix that a view knows, the volume covers the view's knowledge
pub covers_view : (last : Stored) (log : List LogEntry) (view : Watched) → IsPublished log last → IsBehind log view → Covers last view
covers_view last log view is behind = record {
  gone = is.gone;
  first = is.first ∙ ap (λ (o : Origin). o.first + length is.gone) behind.goes_on.origin;
  starts = is.starts ∙ ap (λ (o : Origin). after (start o) is.gone) behind.goes_on.origin;
  prefix = subst (λ (l : List Record). IsPrefix (history_of view.log) l) is.records behind.goes_on.records;
  agree = λ k d lt.
      subst (λ (o : Origin). Agrees o (is.gone ++ last.journal) (lib.ListN.get_or view.receipts k d)) behind.goes_on.origin
      (subst (λ (l : List Record). Agrees (origin_in log) l (lib.ListN.get_or view.receipts k d)) is.records
      (agree_on view.log log behind.goes_on (lib.ListN.get_or view.receipts k d) (behind.agree k d lt)));
}

-- if the log extends the prefix that a view knows, a receipt of the view agrees with the journal, unless it is older than the last cut
pub covers_receipt : (last : Stored) (log : List LogEntry) (view : Watched) → IsPublished log last → IsBehind log view → (receipt : Receipt)
    → AgreesIn view.log receipt → last.origin.first ≤ receipt.at → Agrees last.origin last.journal receipt
covers_receipt last log view is behind receipt agrees le =
    let on : AgreesIn log receipt = agree_on view.log log behind.goes_on receipt agrees in
    agrees_after_cut (origin_in log) last.origin is.gone last.journal receipt is.first is.starts le
    (subst (λ (l : List Record). Agrees (origin_in log) l receipt) is.records on)

-- if the log extends the prefixes that all views know, the volume covers the knowledge of each
pub all_covered : (last : Stored) (log : List LogEntry) (views : List Watched) → IsPublished log last → All (IsBehind log) views → All (Covers last) views
all_covered last log views is all k d lt = covers_view last log _ is (all k d lt)

pub all_agree : (last : Stored) (log : List LogEntry) (views : List Watched) → IsPublished log last → All (IsBehind log) views
    → All (λ v. All (λ r. last.origin.first ≤ r.at → Agrees last.origin last.journal r) v.receipts) views
all_agree last log views is all k d lt = one (lib.ListN.get_or views k d) (all k d lt)
  where
    one : (view : Watched) → IsBehind log view → All (λ r. last.origin.first ≤ r.at → Agrees last.origin last.journal r) view.receipts
    one view behind i e low le = covers_receipt last log view is behind (lib.ListN.get_or view.receipts i e) (behind.agree i e low) le

-- if all views are of the published log, each is of the log `book`
pub own_views : (book : Book) (of : Option Book) (views : List Watched) → Some book ≡ of → All (λ v. of ≡ Some v.book) views → All (λ v. v.book ≡ book) views
own_views book of views is all k d lt = same (is ∙ all k d lt)
  where
    same : {one other : Book} → Some one ≡ Some other → other ≡ one
    same e = cc

-- if nothing is published, there are no views
pub no_views : (of : Option Book) (views : List Watched) (P : Watched → Type 0) → None ≡ of → All (λ v. of ≡ Some v.book) views → All P views
no_views of views P is all k d lt = absurd (differ (is ∙ all k d lt))
  where
    differ : {one : Book} → None ≡ Some one → ⊥
    differ e = cc

-- if all elements of a list and one more element have a property, so do the elements of the longer list
pub all_pushed : {A : Type 0} (P : A → Type 0) (xs : List A) (x : A) → All P xs → P x → All P (xs ++ x ∷ [])
all_pushed P xs x all one = All-append P xs (x ∷ []) all (All-cons P x [] one (All-nil P))

-- if `P` implies `Q` and `P` holds for the value of an option, if any, so does `Q`
pub some_map : {A : Type 0} (P Q : A → Type 0) (o : Option A) → ((x : A) → P x → Q x) → IfSome o P → IfSome o Q
some_map P Q None f h = tt
some_map P Q (Some x) f h = f x h

-- the facts about a closed volume don't depend on its log
pub settled_alone : (opened : Stored) (v : Knowledge) (last : Stored) → IsSettled opened v last → IsSettled opened v (unpublished last)
settled_alone opened v last is = record {
  goes_on = (
    is.goes_on.0,
    record {
      edition = is.goes_on.1.edition;
      first = is.goes_on.1.first;
      starts = is.goes_on.1.starts;
      begins = is.goes_on.1.begins;
      around = is.goes_on.1.around;
    },
    is.goes_on.2,
  );
  places = is.places;
  first = is.first;
  uncut = is.uncut;
}

-- a new view of the first log is a new view of the opened volume
pub new_view : (volume : Mounted) (opened : Stored) (book : Book) (view : Watched) → unpublished opened ≡ stored_of volume → opened.book ≡ Some book
    → IsNew (record { book = book; log = first_log volume }) view → IsNewView opened view
new_view volume opened book view same own is = record {
  own = own ∙ ap Some (sym is.book);
  origin = ap origin_in is.log ∙ ap (λ (s : Stored). s.origin) (sym same);
  records = ap history_of is.log ∙ (append-nil volume.journal ∙ ap (λ (s : Stored). s.journal) (sym same));
  receipts = is.receipts;
}

-- all new views of the first log are new views of the opened volume
pub all_new : (volume : Mounted) (opened : Stored) (whole : Reached) (views : List Watched) → unpublished opened ≡ stored_of volume → opened.book ≡ Some whole.book
    → whole.log ≡ first_log volume → All (IsNew whole) views → All (IsNewView opened) views
all_new volume opened whole views same own log all k d lt =
    new_view volume opened whole.book (lib.ListN.get_or views k d) same own (begun (all k d lt))
  where
    begun : {view : Watched} → IsNew whole view → IsNew (record { book = whole.book; log = first_log volume }) view
    begun is = record { book = is.book; log = is.log ∙ log; receipts = is.receipts }

-- new views of an opened volume are of the log that it is published in
pub own_of_new : (opened : Stored) (views : List Watched) → All (IsNewView opened) views → All (λ v. opened.book ≡ Some v.book) views
own_of_new opened views all k d lt = own (all k d lt)
  where
    own : {view : Watched} → IsNewView opened view → opened.book ≡ Some view.book
    own is = is.own
