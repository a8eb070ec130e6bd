-- Each step preserves the rule of the published version.
use Rattle.std.proofs.Common.{◌≡◌, ◌≢◌, ℕ, ◌+◌, List, [], ◌∷◌, ◌++◌, set, fold, refl, ap, sym, ◌∙◌, subst, inl, ⊎_elim, Some}
use Rattle.std.proofs.lemmas.List.{append-nil}
use mathlib.Core.List.{IsPrefix}
use mathlib.Core.Option.{some}
use lib.ListN.{get_elem?}
use Rattle.left_right.specs.Register.{Admits, TurnsAt, Forks, Merges}
use Rattle.atomic_table.proofs.Lists.{at_set, at_snoc}
use Rattle.vol_volume.specs.Journal.{MayFollow, after}
use Rattle.vol_receipts.specs.Agrees.{start}
use Rattle.vol_volume.specs.Volume.{Mounted}
use Rattle.vol_volume.specs.declared.calls.Record.{Record}
use Rattle.vol_views.specs.History.{Reached}
use Rattle.vol_views.specs.LogRule.{first_log}
use Rattle.vol_views.specs.declared.history.LogEntry.{LogEntry}
use Rattle.vol_views.specs.declared.history.LogEntry.TheVariants.{Made}
use Rattle.vol_views.specs.States.{state_of}
use Rattle.vol_views.specs.Absorb.{absorbed, empty_operation}
use Rattle.vol_views.specs.Logs.{number_of, origin_in, history_of}
use Rattle.vol_views.specs.PublishedRule.{IsRight, Begins, Holds, Enters, MayShow, nothing_reached}
use Rattle.vol_views.specs.declared.published.Published.{Published}
use Rattle.vol_views.specs.declared.published.Operation.{Operation}
use Rattle.vol_views.proofs.Beginnings.{prefix_self, prefix_more}
use Rattle.vol_views.proofs.Prefixes.{begins_self, begins_on}
use Rattle.vol_views.proofs.Logs.{number_more, reads_more, reads_first}

abbrev Known : Published → List Reached → Type 0
Known p known = (seat : ℕ) (prefix : Reached) → get_elem? known seat ≡ some prefix → Begins prefix p.prefix

-- a reader may learn a prefix of the published log
known_set : (p : Published) (known : List Reached) (seat : ℕ) (prefix : Reached) → Known p known → Begins prefix p.prefix → Known p (set known seat prefix)
known_set p known seat prefix all begins j other at =
    ⊎_elim (λ (t : (j ≡ seat) × (prefix ≡ other)). subst (λ (r : Reached). Begins r p.prefix) t.1 begins)
    (λ (t : (j ≢ seat) × (get_elem? known j ≡ some other)). all j other t.1) (at_set known seat j prefix other at)

-- a new reader may know a prefix of the published log
known_more : (p : Published) (known : List Reached) (prefix : Reached) → Known p known → Begins prefix p.prefix → Known p (known ++ prefix ∷ [])
known_more p known prefix all begins j other at =
    ⊎_elim (λ (e : get_elem? known j ≡ some other). all j other e) (λ (e : prefix ≡ other). subst (λ (r : Reached). Begins r p.prefix) e begins)
    (at_snoc known prefix other j at)

-- a new reader knows nothing
pub admits : Admits Holds nothing_reached
admits p known h = (h.0, known_more p known nothing_reached h.1 (inl refl))

-- the first version may be published
pub holds_first : (p : Published) → IsRight p → Holds p (nothing_reached ∷ [])
holds_first p right = (right, known_more p [] nothing_reached (λ seat prefix at. absurd cc) (inl refl))

-- when a reader enters the published version, its prefix extends the prefix that the reader knew
pub enters : (seat : ℕ) (prefix : Reached) (p : Published) → TurnsAt Holds seat prefix p p Enters
enters seat prefix p known h at = (
  p.prefix,
  (h.0, known_set p known seat p.prefix h.1 (begins_self p.prefix p.prefix refl)),
  (h.0, h.1 seat prefix at, refl),
)

-- showing a next version preserves the rule, if it is consistent with its log prefix, which extends the one shown before
pub shows : (seat : ℕ) (prefix : Reached) (p next : Published) → IsRight next → p.prefix.book ≡ next.prefix.book → IsPrefix p.prefix.log next.prefix.log
    → TurnsAt Holds seat prefix p next (λ before shown then after. after ≡ then.prefix)
shows seat prefix p next right book goes_on known h at =
    let all : Known next known = λ j other e. begins_on other p.prefix next.prefix book goes_on (h.1 j other e) in (
      next.prefix,
      (right, known_set next known seat next.prefix all (begins_self next.prefix next.prefix refl)),
      refl,
    )

-- reporting the owner's log prefix to a reader preserves the rule
pub forks : (seat : ℕ) (prefix : Reached) → Forks Holds seat prefix prefix prefix
forks seat prefix p known h at =
    let begins = h.1 seat prefix at in
    (h.0, known_more p (set known seat prefix) prefix (known_set p known seat prefix h.1 begins) begins)

-- a reader that learns a reported log prefix preserves the rule
pub merges : (seat : ℕ) (prefix : Reached) (other : ℕ) (reported : Reached) → Merges Holds seat prefix other reported reported nothing_reached
merges seat prefix other reported p known h at apart there =
    let begins : Begins reported p.prefix =
    ⊎_elim (λ (t : (other ≡ seat) × (reported ≡ reported)). absurd (apart t.0)) (λ (t : (other ≢ seat) × (get_elem? known other ≡ some reported)). h.1 other reported t.1)
    (at_set known seat other reported reported there) in
    (h.0, known_set p (set known seat reported) other nothing_reached (known_set p known seat reported h.1 begins) (inl refl))

-- showing the version that the operations make preserves the rule, if they satisfy `MayShow`
pub may_show : (seat : ℕ) (prefix : Reached) (p next : Published) (operations : List Operation) → MayShow p operations → next ≡ fold absorbed p operations
    → TurnsAt Holds seat prefix p next (λ before shown then after. after ≡ then.prefix)
may_show seat prefix p next operations may is =
    subst (λ (x : Published). TurnsAt Holds seat prefix p x (λ before shown then after. after ≡ then.prefix)) (sym is)
    (shows seat prefix p (fold absorbed p operations) may.right may.book may.goes_on)

-- with no pending operations, the version shown may be shown again
pub shows_same : (p : Published) → IsRight p → MayShow p []
shows_same p right = record { right = right; book = refl; goes_on = prefix_self p.prefix.log }

-- a version may be shown again after two operations that change nothing
pub shows_empty : (p : Published) (prefix : Reached) (at : ℕ) (operations : List Operation) → IsRight p → p.at ≡ at → p.prefix ≡ prefix
    → operations ≡ empty_operation at prefix ∷ empty_operation at prefix ∷ [] → MayShow p operations
shows_empty p prefix at operations right number same pending =
    let version : (p.version ++ []) ++ [] ≡ prefix.log = append-nil (p.version ++ []) ∙ (append-nil p.version ∙ (right.version ∙ ap (λ r. r.log) same)) in
    rw pending (record {
      right = record {
        begun = λ e. right.begun (ap (λ r. r.log) same ∙ e);
        version = version;
        at = sym number ∙ (right.at ∙ ap (λ r. number_of r.log) same);
        reads = subst (λ (r : Reached). state_of r.log ≡ after (start (origin_in r.log)) (history_of r.log)) same right.reads;
      };
      book = ap (λ r. r.book) same;
      goes_on = subst (λ (r : Reached). IsPrefix p.prefix.log r.log) same (prefix_self p.prefix.log);
    })

longer_some : (log : List LogEntry) (entry : LogEntry) → (log ++ entry ∷ []) ≢ []
longer_some [] entry e = absurd cc
longer_some (first ∷ log) entry e = absurd cc

-- a version may be shown after an operation that applies a record which can come next
pub shows_record : (p : Published) (old new : Reached) (entry : Record) (at : ℕ) (operations : List Operation) → IsRight p → p.prefix ≡ old
    → new.book ≡ old.book → new.log ≡ old.log ++ Made entry ∷ [] → MayFollow (state_of old.log) entry → at ≡ number_of old.log + 1
    → operations ≡ (record { made = Some entry; at = at; prefix = new }) ∷ [] → MayShow p operations
shows_record p old new entry at operations right same book longer may number pending =
    let log : p.prefix.log ≡ old.log = ap (λ r. r.log) same in
    rw pending (record {
      right = record {
        begun = λ e. longer_some old.log (Made entry) (sym longer ∙ e);
        version = ap (λ w. w ++ Made entry ∷ []) (right.version ∙ log) ∙ sym longer;
        at = rw longer (number ∙ sym (number_more old.log entry));
        reads = rw longer (reads_more old.log entry (subst (λ (r : Reached). state_of r.log ≡ after (start (origin_in r.log)) (history_of r.log)) same right.reads) may);
      };
      book = ap (λ r. r.book) same ∙ sym book;
      goes_on = rw (log, longer) (prefix_more old.log (Made entry ∷ []));
    })

-- the first version of an opened volume is consistent with its log prefix
pub right_first : (volume : Mounted) (p : Published) → p.prefix.log ≡ first_log volume → p.version ≡ first_log volume → p.at ≡ number_of (first_log volume) → IsRight p
right_first volume p log version number =
    record {
      begun = λ e. let some : first_log volume ≡ [] = sym log ∙ e in absurd cc;
      version = version ∙ sym log;
      at = number ∙ ap number_of (sym log);
      reads = rw log (reads_first volume);
    }

-- without operations, the version shown is the same as before
pub shown_same : (p shown : Published) (operations : List Operation) → operations ≡ [] → shown ≡ fold absorbed p operations → shown ≡ p
shown_same p shown operations pending is = is ∙ ap (λ os. fold absorbed p os) pending

pub shown_empty : (p shown : Published) (prefix : Reached) (at : ℕ) (operations : List Operation)
    → operations ≡ empty_operation at prefix ∷ empty_operation at prefix ∷ [] → shown ≡ fold absorbed p operations → shown.prefix ≡ prefix
shown_empty p shown prefix at operations pending is = ap (λ q. q.prefix) is ∙ ap (λ os. (fold absorbed p os).prefix) pending

pub shown_record : (p shown : Published) (prefix : Reached) (entry : Record) (at : ℕ) (operations : List Operation)
    → operations ≡ (record { made = Some entry; at = at; prefix = prefix }) ∷ [] → shown ≡ fold absorbed p operations → shown.prefix ≡ prefix
shown_record p shown prefix entry at operations pending is = ap (λ q. q.prefix) is ∙ ap (λ os. (fold absorbed p os).prefix) pending
