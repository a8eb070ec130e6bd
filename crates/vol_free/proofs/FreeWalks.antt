-- The walk over the free list, block by block.
use Rattle.std.proofs.Common.{◌≡◌, ℕ, zero, suc, ◌+◌, ◌-◌, ◌<◌, ◌≤◌, ◌∙◌, sym, ap, Bool, true, false, ◌||◌, ◌==◌, List, [], ◌∷◌, ◌++◌, length, get_or, set, slice_index_or, Option, Some, Result, Ok, refl, arith, inl, inr, subst, length-set, get_or-set_same, get_or-set_other}
use Rattle.std.proofs.lemmas.Bool.{cases_eq, eq-eqb, ne_eqb}
use Rattle.std.specs.List.{list_any}
use Rattle.pdp_words.specs.Words.{word}
use Rattle.vol_layout.specs.Geometry.{Fits, in_zone}
use Rattle.vol_layout.specs.Super.{free_head}
use Rattle.vol_layout.specs.declared.geometry.Geometry.{Geometry}
use Rattle.vol_free.specs.Stack.{IsIn, Once}
use Rattle.vol_free.specs.FreeWalk.{walk_rest, free_walk}
use Rattle.vol_free.specs.Walk.{HasMet, StepFinds, AreZoned, next_count}
use Rattle.vol_free.specs.declared.free_walk.FreeFault.{FreeFault}
use Rattle.vol_free.specs.declared.free_walk.FreeWalk.{FreeWalk}
use Rattle.vol_free.proofs.FreeFaults.{in_any}
use Rattle.vol_free.proofs.Lengths.{once_within}
use Rattle.vol_free.proofs.Stacks.{zone_from, zone_below, zone_behind, head_end}

-- a walk that has not started has visited no block
pub starts : (g : Geometry) (image : List ℕ) (marks : List Bool) (walk : FreeWalk) → Fits g image
    → walk.head ≡ free_head g.edition → walk.count ≡ word image (free_head g.edition) → walk.met ≡ 0
    → length marks ≡ g.zone_end → ((b : ℕ) → slice_index_or marks b false ≡ false) → HasMet g image marks walk []
unfolding IsIn Once
starts g image marks walk fits head count none len clear = record {
  len = len;
  room = omega (arith, head, head_end g.edition, zone_behind fits, fits.blocks, fits.zone);
  counted = none;
  zoned = λ b i. absurd i;
  once = tt;
  marked = clear;
  left = count;
  rest =
      let whole : g.zone_end - g.zone_start + 1 - walk.met ≡ g.zone_end - g.zone_start + 1 = omega (arith, none) in
      λ i. walk_rest g image (whole i) (head i) (count i) [];
}

module _ {g : Geometry} {image : List ℕ} {marks : List Bool} {walk : FreeWalk} {met : List ℕ} (w : HasMet g image marks walk met) where
  -- a walk visits at most as many blocks as the data zone has
  pub met_most : walk.met ≤ g.zone_end - g.zone_start
  met_most =
      let most = once_within g.zone_start g.zone_end met w.once (λ b i. zone_from g b (w.zoned b i)) (λ b i. zone_below g b (w.zoned b i)) in
      omega (arith, most, w.counted)

  -- if the next step ends the walk, the whole walk has visited the blocks `met`, with the same fault
  pub walk_is : (fault : Option (FreeFault × ℕ)) → ((fuel : ℕ) → walk_rest g image (suc fuel) walk.head walk.count met ≡ record { met = met; fault = fault })
      → free_walk g image ≡ record { met = met; fault = fault }
  walk_is fault end =
      let more : g.zone_end - g.zone_start + 1 - walk.met ≡ suc (g.zone_end - g.zone_start - walk.met) = omega (arith, met_most) in
      sym w.rest ∙ (ap (λ n. walk_rest g image n walk.head walk.count met) more ∙ end (g.zone_end - g.zone_start - walk.met))

  -- if the next step visits block `b`, the walk has visited the blocks `b ∷ met`
  pub walks_on : (next : FreeWalk) (b : ℕ) → in_zone g b ≡ true → get_or marks b false ≡ false → next.met ≡ walk.met + 1
      → next.count ≡ next_count image walk.count b → next.head + 202 ≤ length image
      → ((fuel : ℕ) → walk_rest g image (suc fuel) walk.head walk.count met ≡ walk_rest g image fuel next.head next.count (b ∷ met))
      → HasMet g image (set marks b true) next (b ∷ met)
  unfolding IsIn Once
  walks_on next b zone fresh counted left room on =
      let low = zone_below g b zone in
      let near : b < length marks = omega (arith, low, w.len) in
      let more : g.zone_end - g.zone_start + 1 - walk.met ≡ suc (g.zone_end - g.zone_start - walk.met) = omega (arith, met_most) in
      let fewer : g.zone_end - g.zone_start + 1 - next.met ≡ g.zone_end - g.zone_start - walk.met = omega (arith, counted) in
      record {
        len = length-set marks b true ∙ w.len;
        room = room;
        counted = omega (arith, counted, w.counted);
        zoned = λ k i. elim i [ inl same ↦ ap (in_zone g) same ∙ zone | inr before ↦ w.zoned k before ];
        once = (λ i. let there = in_any b met i in let is = w.marked b in absurd (cc), w.once);
        marked = λ k. elim (cases_eq b k) [
          | inl same ↦ ap (λ x. get_or (set marks b true) x false) (sym same)
              ∙ (get_or-set_same marks b true false near ∙ sym (ap (λ t. t || list_any (λ x. x == k) met) (eq-eqb b k same)))
          | inr other ↦ get_or-set_other marks b k true false (λ e. other (sym e))
              ∙ (w.marked k ∙ sym (ap (λ t. t || list_any (λ x. x == k) met) (ne_eqb b k other)))
        ];
        left = left ∙ ap (λ n. next_count image n b) w.left;
        rest = ap (λ n. walk_rest g image n next.head next.count (b ∷ met)) fewer
            ∙ (sym (on (g.zone_end - g.zone_start - walk.met))
            ∙ (ap (λ n. walk_rest g image n walk.head walk.count met) (sym more) ∙ w.rest));
      }

-- a step that returns block `b` has visited it
pub met_one : (g : Geometry) (image : List ℕ) (old new : List Bool) (walk next : FreeWalk) {found : Result ℕ (FreeFault × ℕ)} {b : ℕ} {met : List ℕ}
    → found ≡ Ok b → StepFinds g image old new walk next (Some found) → HasMet g image old walk met → HasMet g image new next (b ∷ met)
met_one g image old new walk next {met = met} is finds w = subst (λ r. StepFinds g image old new walk next (Some r)) is finds met w

-- the block visited last is a data block
pub zoned_last : {g : Geometry} {image : List ℕ} {marks : List Bool} {walk : FreeWalk} {b : ℕ} {met : List ℕ} → HasMet g image marks walk (b ∷ met) → in_zone g b ≡ true
unfolding IsIn
zoned_last {b = b} w = w.zoned b (inl refl)

-- adding a data block to a list of data blocks gives a list of data blocks
pub zoned_more : (g : Geometry) (xs : List ℕ) (b : ℕ) → AreZoned g xs → in_zone g b ≡ true → AreZoned g (xs ++ b ∷ [])
zoned_more g [] b all zone zero d low = zone
zoned_more g [] b all zone (suc k) d low = absurd (omega (arith, low))
zoned_more g (x ∷ xs) b all zone zero d low = all 0 d (omega arith)
zoned_more g (x ∷ xs) b all zone (suc k) d low = zoned_more g xs b (λ j e less. all (suc j) e (omega (arith, less))) zone k d (omega (arith, low))
