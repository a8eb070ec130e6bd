-- The callers' view of a session.
use Rattle.std.specs.Prelude.{◌≡◌, ℕ, ◌+◌, ◌≤◌, List, [], ◌∷◌, ◌++◌, length, false, Option, IfSome}
use Rattle.logbook.specs.Pages.{Book}
use Rattle.atomic_table.specs.Seated.{TableId}
use Rattle.vol_receipts.specs.Agrees.{place_of, next_of}
use Rattle.vol_receipts.specs.declared.receipts.Receipt.{Receipt}
use Rattle.vol_views.specs.History.{Reached}
use Rattle.vol_views.specs.Logs.{number_of}
use Rattle.vol_views.specs.Views.{book_in}
use Rattle.vol_shared.specs.Plays.{nobody}
use Rattle.vol_shared.specs.declared.lock_rule.Knowledge.{Knowledge}

-- the identity of a shared volume: its table, and the log with its records, if they are published (this project)
pub record Identity : Type 0 where
  pub table : TableId
  pub book : Option Book

-- a session: its shared volume, the least number that its next receipt may have, the numbers of the records that its calls made, the numbers that its cuts returned, and its receipts (this project)
pub record Known : Type 0 where
  pub of : Identity
  pub next : ℕ
  pub places : List ℕ
  pub cuts : List ℕ
  pub receipts : List Receipt

-- a session that has made no call or query yet (this project)
abbrev pub new_session : Identity → ℕ → Known
new_session of next = record { of = of; next = next; places = []; cuts = []; receipts = [] }

-- the knowledge of a session's one seat (this project)
abbrev pub knowledge_of : List Knowledge → Knowledge
knowledge_of [] = nobody
knowledge_of (v ∷ vs) = v

-- the callers' view of a session, made from its parts (this project)
abbrev pub known_by : TableId → ℕ → Knowledge → Known
known_by table next v = record {
  of = record { table = table; book = v.opened.book };
  next = next;
  places = v.places;
  cuts = v.cuts;
  receipts = v.receipts;
}

-- a session between two calls, and its progress in the volume's log: the log prefix up to the least number that its next receipt may have (this
-- project)
pub record IsIdle (views : List Knowledge) (next count : ℕ) (reported : Option Reached) : Type 0 where
  pub one : views ≡ knowledge_of views ∷ []
  pub free : (knowledge_of views).holds ≡ false
  pub part : (knowledge_of views).parts ≡ 1
  pub reached : next ≤ (knowledge_of views).opened.origin.first + length (knowledge_of views).history
  pub counted : count ≡ length (knowledge_of views).places
  pub book : book_in reported ≡ (knowledge_of views).opened.book
  pub number : IfSome reported (λ t. number_of t.log ≡ next)

-- a session after it got a receipt: the receipt's number isn't below the least that was allowed, and is added to the places if the call was accepted
-- (this project)
pub record Got (old new : Known) (receipt : Receipt) : Type 0 where
  pub at : old.next ≤ receipt.at
  pub next : new.next ≡ next_of receipt.at receipt.outcome
  pub places : new.places ≡ old.places ++ place_of receipt.at receipt.outcome
  pub cuts : new.cuts ≡ old.cuts
  pub receipts : new.receipts ≡ old.receipts ++ receipt ∷ []

-- a session after it cut the journal: the number of its next receipt is at least the number of the journal's first record (this project)
pub record HasCut (old new : Known) (first : ℕ) : Type 0 where
  pub at : old.next ≤ first
  pub next : new.next ≡ first
  pub places : new.places ≡ old.places
  pub cuts : new.cuts ≡ old.cuts ++ first ∷ []
  pub receipts : new.receipts ≡ old.receipts
