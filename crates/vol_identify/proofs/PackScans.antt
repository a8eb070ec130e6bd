-- A scan that is given a pack piece by piece.
use Rattle.std.specs.Prelude.{slice_range, None}
use Rattle.std.proofs.Common.{◌≡◌, ◌⊎◌, ◌∙◌, ℕ, zero, suc, ◌+◌, ◌-◌, ◌*◌, ◌/◌, ◌<◌, ◌≤◌, min, true, false, ltb, List, [], ◌++◌, length, take, drop, inl, inr, length-append, refl, sym, ap, arith}
use Rattle.std.proofs.lemmas.Bool.{cases_lt, le-ltb, lt-ltb}
use Rattle.std.proofs.lemmas.Bool.Decides.{nat_tests}
use Rattle.std.proofs.lemmas.List.{drop-append-le, drop-drop, length-drop, take-append-le}
use Rattle.std.proofs.Math.Seq.{drop-nil}
use Rattle.pdp_words.specs.Words.{block_of}
use Rattle.vol_identify.specs.Front.{front_at}
use Rattle.vol_identify.specs.Packs.{HasScanned, Scanned, cut_at, found_of, parts_at_end, parts_of, ready_of, step, through, unscanned, volume_at}
use Rattle.vol_identify.specs.declared.pack_scan.PackScan.{PackScan}
use Rattle.vol_identify.specs.declared.pack_scan.Part.{Part}

-- a range of the rest of a list is a range of the list
range_of_rest : (xs : List ℕ) (at from n to : ℕ) → at + from ≡ to → slice_range (drop at xs) from (from + n) ≡ slice_range xs to (to + n)
range_of_rest xs at from n to is =
    let same : from + n - from ≡ to + n - to = omega arith in
    ap (λ l. take (from + n - from) l) (drop-drop from at xs ∙ ap (λ i. drop i xs) is) ∙ ap (λ len. take len (drop to xs)) same

-- a range within the front of a list is a range of the front
pub range_of_front : (front more : List ℕ) (from n : ℕ) → from + n ≤ length front → slice_range (front ++ more) from (from + n) ≡ slice_range front from (from + n)
range_of_front front more from n within =
    let room : from + n - from ≤ length (drop from front) = omega (arith, length-drop from front) in
    ap (λ l. take (from + n - from) l) (drop-append-le from front more (omega arith)) ∙ take-append-le (from + n - from) (drop from front) more room

-- the three blocks from a block on, in the rest of a pack
front_of_rest : (pack : List ℕ) (at k : ℕ) → front_at (drop (512 * at) pack) k ≡ front_at pack (at + k)
unfolding front_at
front_of_rest pack at k = range_of_rest pack (512 * at) (512 * k) 1536 (512 * (at + k)) (omega arith)

-- a look at a block goes by its number, its bytes, the blocks after it, and what is known
same_step : (blocks : ℕ) (k k' : ℕ) (f f' b b' : List ℕ) (s s' : Scanned) → k ≡ k' → f ≡ f' → b ≡ b' → s ≡ s' → step blocks k f b s ≡ step blocks k' f' b' s'
same_step blocks k k' f f' b b' s s' h1 h2 h3 h4 = cc

-- looking at the first blocks of a pack, and then at those of the rest, is looking at all of them
pub through_rest : (blocks at : ℕ) (pack : List ℕ) (count : ℕ) (scanned : Scanned)
    → through blocks at (drop (512 * at) pack) count (through blocks 0 pack at scanned) ≡ through blocks 0 pack (at + count) scanned
unfolding through
through_rest blocks at pack zero scanned = let n : at ≡ at + 0 = omega arith in ap (λ n. through blocks 0 pack n scanned) n
through_rest blocks at pack (suc count) scanned =
    let n : suc (at + count) ≡ at + suc count = omega arith in
    let place : at + count ≡ 0 + (at + count) = omega arith in
    same_step blocks (at + count) (0 + (at + count)) (front_at (drop (512 * at) pack) count) (front_at pack (at + count))
    (block_of (drop (512 * at) pack) count) (block_of pack (at + count))
    (through blocks at (drop (512 * at) pack) count (through blocks 0 pack at scanned)) (through blocks 0 pack (at + count) scanned)
    place (front_of_rest pack at count) (range_of_rest pack (512 * at) (512 * count) 512 (512 * (at + count)) (omega arith))
    (through_rest blocks at pack count scanned)
    ∙ ap (λ m. through blocks 0 pack m scanned) n

-- no volume begins at the last two blocks
none_at : (blocks k : ℕ) (front : List ℕ) → blocks < k + 3 → volume_at blocks k front ≡ None
unfolding volume_at
none_at blocks k front few = grind (arith, nat_tests)

-- and none that is cut off
no_cut_at : (blocks k : ℕ) (front : List ℕ) → blocks < k + 3 → cut_at blocks k front ≡ None
unfolding cut_at
no_cut_at blocks k front few = grind (arith, nat_tests)

-- so what follows a block doesn't matter there
step_end : (blocks k : ℕ) (front other block : List ℕ) (scanned : Scanned) → blocks < k + 3 → step blocks k front block scanned ≡ step blocks k other block scanned
unfolding step
step_end blocks k front other block scanned few =
    let one = none_at blocks k front few in
    let two = none_at blocks k other few in
    let three = no_cut_at blocks k front few in
    let four = no_cut_at blocks k other few in
    cc

-- one block more
pub through_more : (blocks at : ℕ) (bytes : List ℕ) (count : ℕ) (scanned : Scanned)
    → through blocks at bytes (count + 1) scanned ≡ step blocks (at + count) (front_at bytes count) (block_of bytes count) (through blocks at bytes count scanned)
unfolding through
through_more blocks at bytes count scanned = let n : count + 1 ≡ suc count = omega arith in ap (λ m. through blocks at bytes m scanned) n

-- a look at a block of the front of a pack, which has the two blocks after it or ends the pack
step_front : (blocks : ℕ) (front more : List ℕ) (k : ℕ) (scanned : Scanned) → 512 * k + 512 ≤ length front → 512 * min (k + 3) blocks ≤ length front
    → step blocks (0 + k) (front_at (front ++ more) k) (block_of (front ++ more) k) scanned ≡ step blocks (0 + k) (front_at front k) (block_of front k) scanned
unfolding front_at
step_front blocks front more k scanned here seen =
    ap (λ block. step blocks (0 + k) (front_at (front ++ more) k) block scanned) (range_of_front front more (512 * k) 512 here)
    ∙ elim (cases_lt blocks (k + 3)) [
      | inr enough ↦ ap (λ three. step blocks (0 + k) three (block_of front k) scanned) (range_of_front front more (512 * k) 1536 (omega arith))
      | inl few ↦ step_end blocks (0 + k) (front_at (front ++ more) k) (front_at front k) (block_of front k) scanned (omega arith)
    ]

-- looking at blocks goes by these and by the two after the last of them
pub through_front : (blocks : ℕ) (front more : List ℕ) (count : ℕ) (scanned : Scanned) → 512 * count ≤ length front
    → (count ≡ 0) ⊎ (512 * min (count + 2) blocks ≤ length front)
    → through blocks 0 (front ++ more) count scanned ≡ through blocks 0 front count scanned
unfolding through
through_front blocks front more zero scanned here seen = refl
through_front blocks front more (suc count) scanned here (inl none) = absurd (omega (arith, none))
through_front blocks front more (suc count) scanned here (inr seen) =
    step_front blocks front more count (through blocks 0 (front ++ more) count scanned) (omega arith) (omega arith)
    ∙ ap (step blocks (0 + count) (front_at front count) (block_of front count)) (through_front blocks front more count scanned (omega arith) (inr (omega arith)))

-- the number of blocks that can be looked at: all that the pack still has, or all but two
ready_cases : (blocks at : ℕ) (window : List ℕ) (ready : ℕ) → ready ≡ ready_of blocks at window
    → ((ready ≡ blocks - at) × (512 * (blocks - at) ≤ length window)) ⊎ ((512 * (ready + 2) ≤ length window) × (length window < 512 * (blocks - at))) ⊎ ((ready ≡ 0) × (length window < 512 * (blocks - at)))
ready_cases blocks at window ready is =
    elim (cases_lt (length window) (512 * (blocks - at))) [
      | inr all ↦ let no : ltb (length window / 512) (blocks - at) ≡ false = le-ltb _ _ (omega arith) in inl (is ∙ rw no refl, all)
      | inl some ↦ let yes : ltb (length window / 512) (blocks - at) ≡ true = lt-ltb _ _ (omega arith) in
          let ready_is : ready ≡ length window / 512 - 2 = is ∙ rw yes refl in
          inr (elim (cases_lt (length window / 512) 2) [ inr more ↦ inl (omega arith, some) | inl less ↦ inr (omega arith, some) ])
    ]

-- a scan that was given some bytes is given more
pub fed : (before bytes window : List ℕ) (old new : PackScan) (ready : ℕ) → HasScanned before old → length before + length bytes ≤ 512 * old.blocks
    → new.blocks ≡ old.blocks → window ≡ old.window.items ++ bytes → ready ≡ ready_of old.blocks old.at window
    → new.at ≡ old.at + ready → new.window.items ≡ drop (512 * ready) window → found_of new.found ≡ through old.blocks old.at window ready (found_of old.found)
    → HasScanned (before ++ bytes) new
fed before bytes window old new ready had within blocks window_is ready_is at rest found =
    let whole : drop (512 * old.at) (before ++ bytes) ≡ window =
    drop-append-le (512 * old.at) before bytes had.behind ∙ (ap (λ l. l ++ bytes) (sym had.rest) ∙ sym window_is) in
    let len : length (before ++ bytes) ≡ length before + length bytes = length-append before bytes in
    let left : length window ≡ length (before ++ bytes) - 512 * old.at = ap length (sym whole) ∙ length-drop (512 * old.at) (before ++ bytes) in
    let cases = ready_cases old.blocks old.at window ready ready_is in
    record {
      found =
          found
          ∙ (ap (λ w. through old.blocks old.at w ready (found_of old.found)) (sym whole)
          ∙ (ap (through old.blocks old.at (drop (512 * old.at) (before ++ bytes)) ready)
          (had.found ∙ sym (through_front old.blocks before bytes old.at unscanned had.behind had.seen))
          ∙ (through_rest old.blocks old.at (before ++ bytes) ready unscanned
          ∙ (ap (λ n. through old.blocks 0 (before ++ bytes) n unscanned) (sym at)
          ∙ ap (λ n. through n 0 (before ++ bytes) new.at unscanned) (sym blocks)))));
      rest =
          rest ∙ (ap (drop (512 * ready)) (sym whole) ∙ (drop-drop (512 * ready) (512 * old.at) (before ++ bytes)
          ∙ ap (λ n. drop n (before ++ bytes)) (let place : 512 * old.at + 512 * ready ≡ 512 * new.at = omega arith in place)));
      within = omega arith;
      behind = elim cases [ inl all ↦ omega arith | inr some ↦ elim some [ inl more ↦ omega arith | inr none ↦ omega arith ] ];
      seen = elim cases [
        | inl all ↦ inr (omega arith)
        | inr some ↦ elim some [
          | inl more ↦ inr (omega arith)
          | inr none ↦ elim had.seen [ inl first ↦ inl (omega arith) | inr seen ↦ inr (omega arith) ]
        ]
      ];
      done = λ full. elim cases [ inl all ↦ omega arith | inr some ↦ elim some [ inl more ↦ omega arith | inr none ↦ omega arith ] ];
    }

-- no part was found yet
abbrev pub with_parts : List Part → Scanned
with_parts parts = record { next = 0; zeros = true; cut = None; parts = parts }

-- before the first block
pub begun : (scan : PackScan) → found_of scan.found ≡ unscanned → scan.at ≡ 0 → scan.window.items ≡ [] → HasScanned [] scan
unfolding through
begun scan found at window = record {
  found = found ∙ ap (λ n. through scan.blocks 0 [] n unscanned) (sym at);
  rest = window ∙ sym (drop-nil (512 * scan.at));
  within = omega arith;
  behind = omega arith;
  seen = inl at;
  done = λ none. omega arith;
}

-- the parts of a pack that was given whole
pub whole_parts : (pack : List ℕ) (scan : PackScan) → HasScanned pack scan → length pack ≡ 512 * scan.blocks
    → parts_at_end scan.blocks (found_of scan.found) ≡ parts_of scan.blocks pack
unfolding parts_of
whole_parts pack scan has whole =
    ap (parts_at_end scan.blocks) (has.found ∙ ap (λ n. through scan.blocks 0 pack n unscanned) (has.done whole))
