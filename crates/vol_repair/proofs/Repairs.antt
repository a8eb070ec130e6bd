-- Lemmas on repaired copies.
use Rattle.std.proofs.Common.{◌≡◌, ℕ, suc, ◌+◌, ◌<◌, ◌≤◌, ◌∙◌, sym, ap, subst, Bool, true, false, List, [], ◌∷◌, ◌++◌, reverse, slice_index, refl, arith, inl, inr, Option, Some, None}
use Rattle.std.proofs.lemmas.List.Folds.{list_any-append}
use Rattle.std.proofs.lemmas.List.Elements.{All-append, All-cons, All-nil}
use Rattle.std.proofs.lemmas.List.{reverse-reverse}
use Rattle.std.proofs.lemmas.Bool.{true≢false, or_parts}
use Rattle.std.specs.List.{list_any}
use Rattle.std.specs.Option.{is_some}
use Rattle.vol_layout.specs.Geometry.{geometry_of, list_size, block_count}
use Rattle.vol_layout.specs.Edition.{constants}
use Rattle.vol_layout.specs.Inode.{IsStorable}
use Rattle.vol_layout.specs.Inode.IsStorable.{in_v6, in_v7}
use Rattle.vol_layout.specs.declared.i_node.Inode.{Inode}
use Rattle.vol_layout.specs.declared.edition.Edition.{Edition}
use Rattle.vol_layout.specs.declared.edition.Edition.TheVariants.{V6, V7}
use Rattle.vol_layout.specs.declared.geometry.Geometry.{Geometry}
use Rattle.vol_free.specs.FreeWalk.{free_walk}
use Rattle.vol_free.specs.Stack.{IsIn}
use Rattle.vol_free.specs.Walk.{AreZoned}
use Rattle.vol_free.proofs.FreeFaults.{in_reverse}
use Rattle.vol_free.proofs.Stacks.{zone_below}
use Rattle.vol_judge.specs.Sound.{IsSound, IsJudged}
use Rattle.vol_losses.specs.Losses.{AgreesOutside, is_lost}
use Rattle.vol_repair.specs.Lines.{is_about, is_for_links, is_for_slot, is_for_list, IsTold, IsTrueLine}
use Rattle.vol_repair.specs.Repaired.{TellsUpTo, TellsAll, HasSameFront, HasSameList, IsRepaired}
use Rattle.vol_repair.specs.declared.repair_line.RepairLine.{RepairLine}
use Rattle.vol_repair.specs.declared.repair_line.RepairLine.TheVariants as lines
use Rattle.vol_repair.proofs.Telling.{told_more, told_last, or_false}

-- the lines before the first i-number
pub tells_start : (geometry : Geometry) (old new : List ℕ) → TellsUpTo geometry old new 0 []
tells_start geometry old new = record {
  files = λ i first last. absurd (omega (arith, first, last));
  links = λ i first last. absurd (omega (arith, first, last));
  entries = λ d s first last. absurd (omega (arith, first, last));
  fitting = λ i last fits. absurd (omega (arith, last, fits.first));
  right = All-nil (IsTrueLine geometry old new);
  fresh = λ i past. refl;
}

-- a line about the free list is about no i-node
list_quiet : (i : ℕ) (xs : List RepairLine) → list_any (is_about i) (xs ++ (lines.FreeList ∷ [])) ≡ list_any (is_about i) xs
list_quiet i xs = list_any-append (is_about i) xs (lines.FreeList ∷ []) ∙ or_false (list_any (is_about i) xs)

-- all is still told after the line about the free list
pub tells_list : (geometry : Geometry) (old new : List ℕ) (n : ℕ) (xs ys : List RepairLine) → ys ≡ xs ++ (lines.FreeList ∷ [])
    → TellsUpTo geometry old new n xs → TellsUpTo geometry old new n ys
tells_list geometry old new n xs ys items told = subst (TellsUpTo geometry old new n) (sym items) (record {
  files = λ i first last. elim (told.files i first last) [ inl kept ↦ inl kept | inr said ↦ inr (told_more (is_about i) xs (lines.FreeList ∷ []) said) ];
  links = λ i first last. elim (told.links i first last) [ inl same ↦ inl same | inr said ↦ inr (told_more (is_for_links i) xs (lines.FreeList ∷ []) said) ];
  entries = λ d s first last. elim (told.entries d s first last) [
    | inl same ↦ inl same
    | inr said ↦ inr (told_more (is_for_slot d s) xs (lines.FreeList ∷ []) said)
  ];
  fitting = λ i last fits. let found = told.fitting i last fits in (found.0, list_quiet i xs ∙ found.1);
  right = All-append (IsTrueLine geometry old new) xs (lines.FreeList ∷ []) told.right
      (All-cons (IsTrueLine geometry old new) lines.FreeList [] tt (All-nil (IsTrueLine geometry old new)));
  fresh = λ i past. list_quiet i xs ∙ told.fresh i past;
})

-- the line about the free list tells it
pub list_told : (xs ys : List RepairLine) → ys ≡ xs ++ (lines.FreeList ∷ []) → IsTold is_for_list ys
list_told xs ys items = subst (IsTold is_for_list) (sym items) (told_last is_for_list xs lines.FreeList refl)

-- each of some data blocks, of which none is marked, is below the end of the data zone and isn't marked
unmarked : (geometry : Geometry) (changed : List Bool) (xs : List ℕ) (b : ℕ) → IsIn b xs → AreZoned geometry xs → list_any (is_lost changed) xs ≡ false
    → (b < geometry.zone_end) × (is_lost changed b ≡ false)
unfolding IsIn
unmarked geometry changed [] b among zoned none = absurd among
unmarked geometry changed (x ∷ xs) b (inl same) zoned none =
    subst (λ k. (k < geometry.zone_end) × (is_lost changed k ≡ false)) (sym same)
    (zone_below geometry x (zoned 0 0 (omega arith)), (or_parts (is_lost changed x) (list_any (is_lost changed) xs) none).0)
unmarked geometry changed (x ∷ xs) b (inr later) zoned none =
    unmarked geometry changed xs b later (λ k d low. zoned (suc k) d (omega (arith, low)))
    (or_parts (is_lost changed x) (list_any (is_lost changed) xs) none).1

-- two images have the same super-block and blocks of the new one's free list, if none of them is marked as changed
pub list_same : (geometry : Geometry) (changed : List Bool) (old new : List ℕ) (xs : List ℕ) → AgreesOutside geometry changed old new
    → ((r : ℕ) → r < 512 → slice_index new (512 + r) ≡ slice_index old (512 + r)) → reverse xs ≡ (free_walk geometry new).met → AreZoned geometry xs
    → list_any (is_lost changed) xs ≡ false → HasSameList geometry old new
list_same geometry changed old new xs agrees head turned zoned none = record {
  head = head;
  blocks = λ b r among low.
      let met = (free_walk geometry new).met in
      let within : IsIn b xs = subst (IsIn b) (ap reverse (sym turned) ∙ reverse-reverse xs) (in_reverse b met among) in
      let sure = unmarked geometry changed xs b within zoned none in
      agrees.bytes b r sure.0 low sure.1;
}

-- two images with the same numbers of blocks in their super-blocks have the same sizes
pub sizes_same : (edition : Edition) (old new : List ℕ) → list_size new ≡ list_size old → block_count edition new ≡ block_count edition old
    → geometry_of edition new ≡ geometry_of edition old
sizes_same V6 old new list count = cc
sizes_same V7 old new list count = cc

-- a storable i-node stays storable with another link count
pub storable_links : (edition : Edition) (was : Inode) (links : ℕ) → IsStorable edition was → links ≤ (constants edition).link_limit
    → IsStorable edition (record was { links = links })
storable_links V6 was links (in_v6 count uid gid size low high none) limit = in_v6 (omega (arith, limit)) uid gid size low high none
storable_links V7 was links (in_v7 all some) limit = in_v7 all some

-- a sound image is its own repaired copy
pub same_repaired : (edition : Edition) (old new : List ℕ) (xs : List RepairLine) → IsSound edition old → new ≡ old → xs ≡ [] → IsRepaired edition old new xs
same_repaired edition old new xs sound same none =
    subst (λ image. IsRepaired edition old image xs) (sym same) (subst (IsRepaired edition old old) (sym none) (record {
      mended = record {
        sound = sound;
        front = record { len = refl; boot = λ k low. refl; sizes = refl };
        told = record {
          told = record {
            files = λ i first last. inl (record { node = refl; body = refl });
            links = λ i first last. inl refl;
            entries = λ d s first last. inl refl;
            fitting = λ i last fits. (record { node = refl; body = refl }, refl);
            right = All-nil (IsTrueLine (geometry_of edition old) old old);
            fresh = λ i past. refl;
          };
          list = inl (record { head = λ r low. refl; blocks = λ b r among low. refl });
        };
      };
      same = λ known. (refl, refl);
    }))

-- a copy that is sound, with the lines of what differs from an image that isn't
pub other_repaired : (edition : Edition) (geometry : Geometry) (old new : List ℕ) (xs : List RepairLine) → geometry ≡ geometry_of edition old
    → (IsSound edition old → ⊥) → IsSound edition new → HasSameFront edition old new → TellsAll geometry old new xs → IsRepaired edition old new xs
other_repaired edition geometry old new xs sizes broken sound front told = record {
  mended = record { sound = sound; front = front; told = subst (λ g. TellsAll g old new xs) sizes told };
  same = λ was. absurd (broken was);
}

-- an image in whose judgement no rule is broken is sound
pub judged_sound : (edition : Edition) (image : List ℕ) (least : Option ℕ) → IsJudged true edition image least → is_some least ≡ false → IsSound edition image
judged_sound edition image None judged none = judged
judged_sound edition image (Some n) judged none = let clash : true ≡ false = none in absurd (true≢false clash)
