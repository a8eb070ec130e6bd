-- Facts about a shared volume that was closed, derived from the knowledge of its sessions.
use Rattle.std.proofs.Common.{◌≡◌, ℕ, ◌+◌, ◌≤◌, List, [], ◌++◌, length, max, ap, ◌∙◌, subst, arith, All}
use Rattle.count_table.specs.Sums.{total, below}
use Rattle.count_table.proofs.Totals.{total_ones, below_ones}
use Rattle.vol_volume.specs.Volume.{Mounted}
use Rattle.vol_volume.specs.declared.calls.Record.{Record}
use Rattle.vol_receipts.specs.Agrees.{Agrees}
use Rattle.vol_receipts.specs.declared.receipts.Origin.{Origin}
use Rattle.vol_receipts.proofs.Agreement.{agrees_after_cut}
use Rattle.vol_shared.specs.Lists.{BeginsWith, greatest, greatest_of}
use Rattle.vol_shared.specs.Close.{IsGathered, IsSettled}
use Rattle.vol_shared.specs.Sessions.{Known}
use Rattle.vol_shared.specs.Stored.{Stored, stored_of, next_number, Continues}
use Rattle.vol_shared.specs.declared.lock_rule.Knowledge.{Knowledge}
use Rattle.vol_shared.proofs.Lists.{total_flat, greatest_flat, length_flat, flat_none, all_flat, no_length}

-- the volume with these contents of the lock
volume_of : Stored → Mounted
volume_of stored = record {
  edition = stored.origin.edition;
  image = stored.image;
  base = stored.origin.bytes;
  journal = stored.journal;
  first = stored.origin.first;
}

-- two volumes with the same contents of the lock are equal
pub same_volume : (one other : Mounted) → stored_of one ≡ stored_of other → one ≡ other
unfolding volume_of
same_volume one other e = ap volume_of e

-- there are as many places as records made since the volume was opened
pub counts : (opened : Stored) (v : Knowledge) (last : Stored) → IsSettled opened v last → length v.places + next_number opened ≡ next_number last
counts opened v last is =
    let p = is.places (λ n. 1) in
    let o = total_ones v.places in
    let a = below_ones (next_number opened) in
    let b = below_ones (next_number last) in
    omega arith

module _ (opened : Stored) (sessions : List Known) (v : Knowledge) (last : Stored) (gathered : IsGathered sessions v) (is : IsSettled opened v last) where
  pub end_first : last.origin.first ≡ max opened.origin.first (greatest (λ s. greatest_of s.cuts) sessions)
  end_first =
      let c = ap greatest_of gathered.cuts in
      let g = greatest_flat (λ (s : Known). s.cuts) (λ (n : ℕ). n) sessions in
      let f = is.first in
      omega arith

  pub end_uncut : All (λ s. s.cuts ≡ []) sessions → (last.origin ≡ opened.origin) × BeginsWith last.journal opened.journal
  end_uncut none =
      let empty : v.cuts ≡ [] = gathered.cuts ∙ flat_none (λ (s : Known). s.cuts) sessions none in
      let same = is.uncut (ap length empty) in
      let gone = is.goes_on.0 in
      let follows = is.goes_on.1 in
      let f = follows.first in
      let o = ap (λ (o : Origin). o.first) same in
      let nothing-gone = no_length gone (omega arith) in
      (same, subst (λ (l : List Record). BeginsWith (l ++ last.journal) opened.journal) nothing-gone follows.begins)

  pub end_places : (weight : ℕ → ℕ) → total (λ s. total weight s.places) sessions + below weight (next_number opened) ≡ below weight (next_number last)
  end_places weight =
      let c = ap (total weight) gathered.places in
      let t = total_flat (λ (s : Known). s.places) weight sessions in
      let p = is.places weight in
      omega arith

  pub end_count : total (λ s. length s.places) sessions + next_number opened ≡ next_number last
  end_count =
      let l = ap length gathered.places in
      let t = length_flat (λ (s : Known). s.places) sessions in
      let c = counts opened v last is in
      omega arith

  -- all receipts agree with the records that were cut followed by the journal
  end_whole : All (λ s. All (Agrees opened.origin (is.goes_on.0 ++ last.journal)) s.receipts) sessions
  end_whole = all_flat (λ (s : Known). s.receipts) (Agrees opened.origin (is.goes_on.0 ++ last.journal)) sessions
      (subst (All (Agrees opened.origin (is.goes_on.0 ++ last.journal))) gathered.receipts is.goes_on.2)

  pub end_goes_on : Continues opened last (λ agrees. All (λ s. All agrees s.receipts) sessions)
  end_goes_on = (is.goes_on.0, is.goes_on.1, end_whole)

  pub end_agree : All (λ s. All (λ r. last.origin.first ≤ r.at → Agrees last.origin last.journal r) s.receipts) sessions
  end_agree k d lt j e low le =
      let gone = is.goes_on.0 in
      let follows = is.goes_on.1 in
      agrees_after_cut opened.origin last.origin gone last.journal _ follows.first follows.starts le (end_whole k d lt j e low)
