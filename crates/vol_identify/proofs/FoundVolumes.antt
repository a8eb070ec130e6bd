-- Sound volumes are found.
use Rattle.std.specs.Prelude.{if◌then◌else◌, Option, None, Some}
use Rattle.std.specs.List.{Contains}
use Rattle.std.proofs.Common.{◌≡◌, ◌⊎◌, ◌∙◌, ℕ, zero, suc, ◌+◌, ◌-◌, ◌*◌, ◌/◌, ◌<◌, ◌≤◌, true, false, ltb, leb, List, [], ◌∷◌, ◌++◌, length, get_or, drop, inl, inr, refl, ap, subst, length-append, arith}
use Rattle.std.proofs.lemmas.Bool.{cases_lt, le-leb, le-ltb}
use Rattle.std.proofs.lemmas.List.{drop_at, get_or-take, get_or_append_left}
use Rattle.std.proofs.lemmas.List.Elements.{Contains-append_left, Contains-push}
use Rattle.pdp_words.specs.Words.{block_of}
use Rattle.vol_layout.specs.Geometry.{block_count}
use Rattle.vol_layout.specs.declared.edition.Edition.{Edition}
use Rattle.vol_layout.specs.declared.edition.Edition.TheVariants.{V6, V7}
use Rattle.vol_judge.specs.Sound.{IsSound}
use Rattle.vol_identify.specs.Front.{begins, front_at, volume_of, within_either}
use Rattle.vol_identify.specs.Packs.{Scanned, cut_at, looked_at, parts_before, parts_of, step, through, unscanned, volume_at, with_end}
use Rattle.vol_identify.specs.Guesses.{begun_whole, guess_of}
use Rattle.vol_identify.specs.Laws.{Covers, HasSound}
use Rattle.vol_identify.specs.declared.front.FoundVolume.{FoundVolume}
use Rattle.vol_identify.specs.declared.guess.Guess.TheVariants as guesses
use Rattle.vol_identify.specs.declared.pack_scan.Part.{Part}
use Rattle.vol_identify.specs.declared.pack_scan.Part.TheVariants.{Volume, Between}
use Rattle.vol_identify.proofs.SoundFronts.{SameFront, begins_not, begins_sound, count_sound, same_count}

-- the parts so far stay
before_grows : (k : ℕ) (scanned : Scanned) (part : Part) → Contains scanned.parts part → Contains (parts_before k scanned) part
before_grows k scanned part has =
    elim (ltb scanned.next k) as (λ z. Contains (if z then scanned.parts ++ Between scanned.next (k - scanned.next) scanned.zeros ∷ [] else scanned.parts) part)
    [ true ↦ Contains-append_left scanned.parts _ part has | false ↦ has ]

looked_grows : (k : ℕ) (block : List ℕ) (cut : Option FoundVolume) (scanned : Scanned) (found : Option FoundVolume) (part : Part) → Contains scanned.parts part
    → Contains (looked_at k block cut scanned found).parts part
looked_grows k block cut scanned None part has = has
looked_grows k block cut scanned (Some volume) part has = Contains-append_left (parts_before k scanned) _ part (before_grows k scanned part has)

step_grows : (blocks k : ℕ) (front block : List ℕ) (scanned : Scanned) (part : Part) → Contains scanned.parts part
    → Contains (step blocks k front block scanned).parts part
unfolding step
step_grows blocks k front block scanned part has =
    let cut = cut_at blocks k front in
    elim (ltb k scanned.next) as (λ z. Contains (if z then scanned else looked_at k block cut scanned (volume_at blocks k front)).parts part)
    [ true ↦ has | false ↦ looked_grows k block cut scanned (volume_at blocks k front) part has ]

grows : (blocks : ℕ) (pack : List ℕ) (n more : ℕ) (part : Part) → Contains (through blocks 0 pack n unscanned).parts part
    → Contains (through blocks 0 pack (more + n) unscanned).parts part
unfolding through
grows blocks pack n zero part has = let is : n ≡ 0 + n = omega arith in subst (λ m. Contains (through blocks 0 pack m unscanned).parts part) is has
grows blocks pack n (suc more) part has =
    let is : suc (more + n) ≡ suc more + n = omega arith in
    subst (λ m. Contains (through blocks 0 pack m unscanned).parts part) is
    (step_grows blocks (0 + (more + n)) (front_at pack (more + n)) (block_of pack (more + n)) (through blocks 0 pack (more + n) unscanned) part (grows blocks pack n more part has))

end_grows : (blocks : ℕ) (scanned : Scanned) (cut : Option FoundVolume) (part : Part) → Contains scanned.parts part → Contains (with_end blocks scanned cut) part
end_grows blocks scanned None part has = before_grows blocks scanned part has
end_grows blocks scanned (Some volume) part has = Contains-append_left scanned.parts _ part has

-- up to the end
at_end : (blocks : ℕ) (pack : List ℕ) (n : ℕ) (part : Part) → n ≤ blocks → Contains (through blocks 0 pack n unscanned).parts part → Contains (parts_of blocks pack) part
unfolding parts_of
at_end blocks pack n part few has =
    let is : blocks - n + n ≡ blocks = omega arith in
    end_grows blocks (through blocks 0 pack blocks unscanned) (through blocks 0 pack blocks unscanned).cut part
    (subst (λ m. Contains (through blocks 0 pack m unscanned).parts part) is (grows blocks pack n (blocks - n) part has))

-- the last volume of those that begin before block n, if there is one, ends where the next may begin
abbrev HasLast : ℕ → Scanned → Type 0
HasLast n scanned =
    (scanned.next ≡ 0) ⊎ ((j : ℕ) × (w : FoundVolume) × Contains scanned.parts (Volume j w) × (j < n) × (scanned.next ≡ j + w.blocks))

looked_last : (n : ℕ) (block : List ℕ) (cut : Option FoundVolume) (scanned : Scanned) (found : Option FoundVolume) → HasLast n scanned
    → HasLast (suc n) (looked_at n block cut scanned found)
looked_last n block cut scanned None (inl none) = inl none
looked_last n block cut scanned None (inr (j, w, has, low, next)) = inr (j, w, has, omega arith, next)
looked_last n block cut scanned (Some volume) last = inr (n, volume, Contains-push (parts_before n scanned) (Volume n volume), omega arith, refl)

later_last : (n : ℕ) (scanned : Scanned) → HasLast n scanned → HasLast (suc n) scanned
later_last n scanned (inl none) = inl none
later_last n scanned (inr (j, w, has, low, next)) = inr (j, w, has, omega arith, next)

step_last : (blocks n : ℕ) (front block : List ℕ) (scanned : Scanned) → HasLast n scanned → HasLast (suc n) (step blocks n front block scanned)
unfolding step
step_last blocks n front block scanned last =
    let cut = cut_at blocks n front in
    elim (ltb n scanned.next) as (λ z. HasLast (suc n) (if z then scanned else looked_at n block cut scanned (volume_at blocks n front)))
    [ true ↦ later_last n scanned last | false ↦ looked_last n block cut scanned (volume_at blocks n front) last ]

has_last : (blocks : ℕ) (pack : List ℕ) (n : ℕ) → HasLast n (through blocks 0 pack n unscanned)
unfolding through
has_last blocks pack zero = inl refl
has_last blocks pack (suc n) =
    let is : n ≡ 0 + n = omega arith in
    subst (λ m. HasLast (suc n) (step blocks m (front_at pack n) (block_of pack n) (through blocks 0 pack n unscanned))) is
    (step_last blocks n (front_at pack n) (block_of pack n) (through blocks 0 pack n unscanned) (has_last blocks pack n))

-- a volume that begins at a block which isn't inside of another is a part
volume_next : (blocks : ℕ) (pack : List ℕ) (k : ℕ) (volume : FoundVolume) → volume_at blocks k (front_at pack k) ≡ Some volume
    → (through blocks 0 pack k unscanned).next ≤ k → Contains (through blocks 0 pack (suc k) unscanned).parts (Volume k volume)
unfolding through step
volume_next blocks pack k volume found fresh =
    let is : k ≡ 0 + k = omega arith in
    let scanned = through blocks 0 pack k unscanned in
    subst (λ m. Contains (step blocks m (front_at pack k) (block_of pack k) scanned).parts (Volume k volume)) is
    (rw (le-ltb k scanned.next fresh, found) (Contains-push (parts_before k scanned) (Volume k volume)))

-- so each volume is a part or begins inside of one
found_or_covered : (blocks : ℕ) (pack : List ℕ) (k : ℕ) (volume : FoundVolume) → k < blocks → volume_at blocks k (front_at pack k) ≡ Some volume
    → Contains (parts_of blocks pack) (Volume k volume) ⊎ ((part : Part) × Contains (parts_of blocks pack) part × Covers k part)
found_or_covered blocks pack k volume here found =
    elim (cases_lt k (through blocks 0 pack k unscanned).next) [
      | inr fresh ↦ inl (at_end blocks pack (suc k) (Volume k volume) (omega arith) (volume_next blocks pack k volume found fresh))
      | inl inside ↦ elim (has_last blocks pack k) [
        | inl none ↦ absurd (omega (arith, none, inside))
        | inr (j, w, has, low, next) ↦ inr (Volume j w, at_end blocks pack k (Volume j w) (omega arith) has, (low, omega (arith, next, inside)))
      ]
    ]

abbrev volume_with : Edition → ℕ → Option FoundVolume
volume_with edition blocks = Some (record { edition = edition; blocks = blocks })

-- the volume of the right edition that fits is the one that begins
begun_sound : (edition : Edition) (front volume : List ℕ) (room : ℕ) → SameFront front volume → IsSound edition volume → block_count edition volume ≤ room
    → within_either begins front room ≡ Some (volume_of edition volume)
begun_sound V6 front volume room same sound fits =
    let count = same_count V6 front volume same in
    let enough : leb (block_count V6 front) room ≡ true = le-leb (block_count V6 front) room (omega arith) in
    rw (begins_sound V6 front volume same sound, enough) (ap (volume_with V6) count)
begun_sound V7 front volume room same sound fits =
    let count = same_count V7 front volume same in
    let enough : leb (block_count V7 front) room ≡ true = le-leb (block_count V7 front) room (omega arith) in
    rw (begins_not front volume same sound, begins_sound V7 front volume same sound, enough) (ap (volume_with V7) count)

-- the volume of the right edition that fits is the one at a block
placed_at : (edition : Edition) (blocks k : ℕ) (front volume : List ℕ) → SameFront front volume → IsSound edition volume → k + block_count edition volume ≤ blocks
    → volume_at blocks k front ≡ Some (volume_of edition volume)
unfolding volume_at
placed_at edition blocks k front volume same sound fits =
    let four = count_sound edition volume sound in
    let long : ltb (blocks - k) 3 ≡ false = le-ltb (blocks - k) 3 (omega arith) in
    let found = begun_sound edition front volume (blocks - k) same sound (omega arith) in
    rw (long, found) refl

-- the three blocks from a sound volume's first one on are its front
same_front : (edition : Edition) (pack : List ℕ) (blocks k : ℕ) (volume : List ℕ) → HasSound edition pack blocks k volume → SameFront (front_at pack k) volume
unfolding front_at
same_front edition pack blocks k volume has i low =
    let four = count_sound edition volume has.sound in
    let there : drop (512 * k) pack ≡ volume ++ has.after = ap (drop (512 * k)) has.whole ∙ drop_at has.before (volume ++ has.after) (512 * k) has.place in
    get_or-take (512 * k + 1536 - 512 * k) (drop (512 * k) pack) i 0 (omega arith)
    ∙ (ap (λ l. get_or l i 0) there ∙ get_or_append_left volume has.after 0 i (omega (arith, four, has.size)))

pub finds_sound : (edition : Edition) (pack : List ℕ) (blocks k : ℕ) (volume : List ℕ) → HasSound edition pack blocks k volume
    → Contains (parts_of blocks pack) (Volume k (volume_of edition volume)) ⊎ ((part : Part) × Contains (parts_of blocks pack) part × Covers k part)
finds_sound edition pack blocks k volume has =
    let four = count_sound edition volume has.sound in
    let len : length pack ≡ length has.before + (length volume + length has.after) =
    ap length has.whole ∙ (length-append has.before (volume ++ has.after) ∙ ap (λ n. length has.before + n) (length-append volume has.after)) in
    found_or_covered blocks pack k (volume_of edition volume) (omega (arith, len, four, has.place, has.size, has.pack_size))
    (placed_at edition blocks k (front_at pack k) volume (same_front edition pack blocks k volume has) has.sound
    (omega (arith, len, has.place, has.size, has.pack_size)))

-- an image that begins with a sound volume is guessed one
pub guesses_sound : (edition : Edition) (image volume after : List ℕ) → image ≡ volume ++ after → length volume ≡ 512 * block_count edition volume
    → IsSound edition volume → guess_of image ≡ guesses.Volume (volume_of edition volume)
unfolding guess_of begun_whole
guesses_sound edition image volume after whole size sound =
    let four = count_sound edition volume sound in
    let len : length image ≡ length volume + length after = ap length whole ∙ length-append volume after in
    let same : SameFront image volume = λ i low. ap (λ l. get_or l i 0) whole ∙ get_or_append_left volume after 0 i (omega (arith, four, size)) in
    let found = begun_sound edition image volume (length image / 512) same sound (omega (arith, len, size)) in
    let long : ltb (length image) 1536 ≡ false = le-ltb (length image) 1536 (omega (arith, len, four, size)) in
    rw (long, found) refl
