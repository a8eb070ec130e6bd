-- The volume that scripts share, with or without views.
use Rattle.std.specs.Prelude.{◌≡◌, ◌≢◌, ℕ, ◌+◌, ◌≤◌, List, [], All, None, Some, length, max}
use Rattle.count_table.specs.Sums.{total, below}
use Rattle.vol_receipts.specs.Agrees.{origin_of, Agrees}
use Rattle.vol_shared.specs.Lists.{BeginsWith, greatest, greatest_of}
use Rattle.vol_shared.specs.Opened.{Opened}
use Rattle.vol_shared.specs.Sessions.{Known, new_session}
use Rattle.vol_shared.specs.Stored.{Stored, Continues, next_number, stored_of, unpublished}
use Rattle.vol_shared.specs.Watch.{IsNewView}
use Rattle.vol_views.specs.Views.{Watched}
use Rattle.vol_volume.specs.Volume.{Mounted}

-- the state of a session that was just opened (this project)
abbrev pub fresh_session : Opened → Known
fresh_session shared = new_session shared.of (next_number shared.stored)

-- a view was just opened: it belongs to the shared volume, and knows all its records (this project)
pub record IsFreshView (shared : Opened) (view : Watched) : Type 0 where
  pub own : shared.of.book ≡ Some view.book
  pub fresh : IsNewView shared.stored view

-- a volume is shared by `callers` new sessions and `viewers` new views; without views nothing is published (this project)
pub record IsOpened (volume : Stored) (callers viewers : ℕ) (shared : Opened) (all : List Known) (seen : List Watched) : Type 0 where
  pub stored : unpublished shared.stored ≡ volume
  pub sessions : shared.sessions ≡ callers
  pub count : length all ≡ callers
  pub views : length seen ≡ viewers
  pub fresh : All (λ s. s ≡ fresh_session shared) all
  pub fresh_views : All (IsFreshView shared) seen
  pub plain : seen ≡ [] → shared.of.book ≡ None
  pub published : seen ≢ [] → shared.views ≡ length seen

-- all sessions and views of a shared volume are returned to it (this project)
pub record IsReturned (shared : Opened) (all : List Known) (seen : List Watched) : Type 0 where
  pub count : length all ≡ shared.sessions
  pub own : All (λ s. s.of ≡ shared.of) all
  pub own_views : All (λ v. shared.of.book ≡ Some v.book) seen
  pub plain : seen ≡ [] → shared.of.book ≡ None
  pub published : seen ≢ [] → length seen ≡ shared.views

-- a shared volume after the sharing ends, given its sessions and views (this project)
pub record Closes (opened : Stored) (all : List Known) (seen : List Watched) (last : Mounted) : Type 0 where
  pub goes_on : Continues opened (stored_of last) (λ agrees. All (λ s. All agrees s.receipts) all)
  pub uncut : All (λ s. s.cuts ≡ []) all → (origin_of last ≡ opened.origin) × BeginsWith last.journal opened.journal
  pub first : last.first ≡ max opened.origin.first (greatest (λ s. greatest_of s.cuts) all)
  pub places : (weight : ℕ → ℕ) → total (λ s. total weight s.places) all + below weight (next_number opened) ≡ below weight (next_number (stored_of last))
  pub agree : All (λ s. All (λ receipt. last.first ≤ receipt.at → Agrees (origin_of last) last.journal receipt) s.receipts) all
  pub views_agree : All (λ v. All (λ receipt. last.first ≤ receipt.at → Agrees (origin_of last) last.journal receipt) v.receipts) seen
