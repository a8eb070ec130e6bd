-- The free blocks that files use, found by marks.
use Rattle.std.proofs.Common.{◌≡◌, ◌≢◌, ℕ, ◌∙◌, ap, sym, subst, inl, inr, true, List, [], ◌∷◌, ◌++◌, Option, None, Some, MatchOption, get_or, refl, arith, append_assoc}
use Rattle.std.specs.Option.{option_map}
use Rattle.vol_layout.specs.Geometry.{in_zone, Fits}
use Rattle.vol_layout.specs.BlockPointers.{named}
use Rattle.vol_layout.specs.declared.geometry.Geometry.{Geometry}
use Rattle.vol_layout.proofs.NameLaws.{holds_named, named_holds, zone_some}
use Rattle.vol_free.specs.Stack.{IsIn, IsFree}
use Rattle.vol_free.proofs.Stacks.{IsFree_unique, zone_behind}
use Rattle.vol_free.proofs.Frames.{free_zone}
use Rattle.vol_file.specs.Rules.{IsApart}
use Rattle.vol_judge.specs.Finds.{Finds}
use Rattle.vol_judge.specs.Marks.{MarksZone}
use Rattle.vol_judge.specs.SharedBlocks.{AreClear, IsFirstMarked, IsNamedFree, IsFirstTwice}
use Rattle.vol_judge.specs.Sound.{IsFreeApart}
use Rattle.vol_judge.specs.declared.finding.Finding.TheVariants.{UsedAndFree}
use Rattle.vol_judge.proofs.NamedOnce.{in_append, in_left, in_right}

-- the result of a search for the first marked block of a list: None if no block is marked
abbrev pub FindsMarked : List ℕ → List ℕ → Option ℕ → Type 0
FindsMarked marks blocks found = MatchOption found (AreClear marks blocks) (IsFirstMarked marks blocks)

-- in an empty list no block is marked
pub clear_none : (marks : List ℕ) → AreClear marks []
unfolding IsIn
clear_none marks k among = absurd among

-- if no block of a list is marked, and b isn't, no block of the list followed by b is marked
pub clear_more : (marks blocks : List ℕ) (b : ℕ) → AreClear marks blocks → get_or marks b 0 ≡ 0 → AreClear marks (blocks ++ b ∷ [])
unfolding IsIn
clear_more marks blocks b clear none k among = elim (in_append k blocks (b ∷ []) among) [
  | inl before ↦ clear k before
  | inr (inl last) ↦ ap (λ x. get_or marks x 0) last ∙ none
  | inr (inr past) ↦ absurd past
]

-- the first marked block of a list is the first of a longer list
pub marked_more : (marks blocks : List ℕ) (b n : ℕ) → IsFirstMarked marks blocks n → IsFirstMarked marks (blocks ++ b ∷ []) n
marked_more marks blocks b n first = record {
  before = first.before;
  after = first.after ++ b ∷ [];
  is = ap (λ xs. xs ++ b ∷ []) first.is ∙ append_assoc first.before (n ∷ first.after) (b ∷ []);
  marked = first.marked;
  clear = first.clear;
}

module _ (g : Geometry) (image marks blocks : List ℕ) (fits : Fits g image) (names : MarksZone g image marks) (free : IsFree g image blocks) where
  -- if no free block is marked, no file uses a free block
  clear_apart : AreClear marks blocks → IsFreeApart g image
  clear_apart clear = λ others is i p place there.
      let same : others ≡ blocks = IsFree_unique (omega (arith, zone_behind fits)) is free in
      let zone : in_zone g (named g image i p) ≡ true = free_zone is (named g image i p) there in
      let some : named g image i p ≢ 0 = zone_some g image (named g image i p) fits zone in
      let none : get_or marks (named g image i p) 0 ≡ 0 = clear (named g image i p) (subst (IsIn (named g image i p)) same there) in
      (names (named g image i p) zone).1 (i, p, record { place = place; holds = named_holds g image i p (named g image i p) fits refl some }) none

  -- the first marked free block is the first one that a file uses, and rule 7 fails
  first_named : (b : ℕ) → IsApart g image → IsFirstMarked marks blocks b → IsNamedFree g image b × (IsFreeApart g image → ⊥)
  unfolding IsIn
  first_named b apart first =
      let is : blocks ≡ first.before ++ b ∷ first.after = first.is in
      let there : IsIn b blocks = subst (IsIn b) (sym is) (in_right b first.before (b ∷ first.after) (inl refl)) in
      let by = (names b (free_zone free b there)).0 first.marked in
      let named_is : named g image by.0 by.1 ≡ b = (holds_named g image by.0 by.1 b by.2.holds).0 in (
        record {
          apart = apart;
          before = first.before;
          after = first.after;
          free = subst (IsFree g image) is free;
          named = by;
          unnamed = λ k i p early held.
              let zone = free_zone free k (subst (IsIn k) (sym is) (in_left k first.before (b ∷ first.after) early)) in
              (names k zone).1 (i, p, held) (first.clear k early);
        },
        λ rule. rule blocks free by.0 by.1 by.2.place (subst (λ x. IsIn x blocks) (sym named_is) there),
      )

  -- the search returns the first free block that a file uses, or None if there is none
  pub named_found : (found : Option ℕ) → IsApart g image → FindsMarked marks blocks found
      → Finds (IsFreeApart g image) (IsFirstTwice g image) (option_map UsedAndFree found)
  named_found None apart clear = clear_apart clear
  named_found (Some b) apart first = first_named b apart first
