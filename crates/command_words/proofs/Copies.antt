-- Invocations of `put` and `get`: for one file, or for several.
use Rattle.std.proofs.Common.{◌≡◌, ◌≢◌, ◌⊎◌, ◌∙◌, ◌||◌, refl, ℕ, List, [], Option, Some, None, Bool, true, false, true≢false, codes, map, option_map, sym, ap, inl, inr}
use Rattle.std.specs.Prelude.{is_some}
use Rattle.vol_layout.specs.declared.edition.Edition.{Edition}
use Rattle.vol_layout.specs.declared.edition.Edition.TheVariants.{V7}
use Rattle.vol_losses.specs.declared.given_sizes.VolumeSizes.{VolumeSizes}
use Rattle.command_words.specs.BadWords.{IsBadGiven, IsBadImageGiven, IsImageGiven, IsSizesGiven}
use Rattle.command_words.specs.declared.invocation.BadImage.{BadImage}
use Rattle.command_words.specs.declared.invocation.GivenBad.{GivenBad}
use Rattle.command_words.specs.declared.invocation.GivenBad.TheVariants as bads
use Rattle.command_words.specs.Invocations.{AreFilesGiven, ArePathsGiven, AsksForNothing, IsFirstWord, IsGiven, IsLeftOut, IsMomentGiven, IsNonEmptyWord, IsPathWord, IsValue, Words, get_words, is_set, put_words, verb_of}
use Rattle.command_words.specs.declared.invocation.Copying.TheVariants as copies
use Rattle.command_words.specs.declared.invocation.Invocation.{Invocation}
use Rattle.command_words.specs.declared.invocation.Invocation.TheVariants as invocations
use Rattle.command_words.specs.declared.invocation.Work.TheVariants as works
use Rattle.command_words.specs.declared.parameters.WordKind.TheVariants as kinds
use Rattle.command_words.specs.declared.verbs.Verb.{Verb}
use Rattle.command_words.specs.declared.verbs.Verb.TheVariants as verbs
use Rattle.command_terms.specs.declared.bad_looks.BadLook.TheVariants as bad_looks
use Rattle.command_terms.specs.declared.looks.Look.TheVariants as looks
use Rattle.vol_check.specs.declared.checker.Checker.TheVariants as checkers
use Rattle.command_terms.specs.declared.changes.Change.TheVariants as changes

-- one file is put, or several files are
abbrev IsPut : Option ℕ → Words → Type 0
IsPut clock given = ((file : List ℕ) × (now : ℕ) × IsFirstWord given (codes "FILE") file × IsMomentGiven clock (given (codes "NOW")) now
    × IsLeftOut given (codes "MORE") × IsLeftOut given (codes "target-directory") × (is_set (given (codes "recursive")) ≡ false)
    × IsPathWord (given (codes "PATH")))
    ⊎ ((directory : List ℕ) × (files : List (List ℕ)) × (now : ℕ) × (word : Option (List ℕ)) × IsNonEmptyWord given (codes "target-directory") directory
    × AreFilesGiven clock (put_words given) files now word)

-- one file is read by `get`, or several files are
abbrev IsGot : Words → Type 0
IsGot given = (IsLeftOut given (codes "MORE") × IsLeftOut given (codes "output") × (is_set (given (codes "preserve")) ≡ false)
    × (is_set (given (codes "recursive")) ≡ false))
    ⊎ ((folder : List ℕ) × (paths : List (List ℕ)) × IsNonEmptyWord given (codes "output") folder × ArePathsGiven (get_words given) paths
    × (is_set (given (codes "unsound")) ≡ false) × IsBadImageGiven given V7 (is_set (given (codes "cut"))) None)

-- true if the command is `put`
is_put : Verb → Bool
is_put verbs.Put = true
is_put _ = false

-- true if the command is `get`
is_get : Verb → Bool
is_get verbs.Get = true
is_get _ = false

-- every invocation of `put` puts one file or several
puts : (clock : Option ℕ) (given : Words) (invocation : Invocation) → is_put (verb_of invocation) ≡ true → IsGiven clock given invocation → IsPut clock given
unfolding is_put
puts clock given (invocations.Change volume (changes.Put path file keep owner now) trace) put is = inl (file.now, now, is.1.1, is.1.2, is.1.3, is.1.4, is.1.7, is.1.0.1)
puts clock given (invocations.Copy volume (copies.Put directory files keep owner now trace)) put is =
    inr (directory.now, map (λ file. file.now) files.items, now.seconds, option_map (λ word. word.now) now.word, is.1.0, is.1.1)
puts clock given (invocations.Copy volume (copies.PutTree directory folders keep owner now trace)) put is =
    inr (directory.now, map (λ folder. folder.now) folders.items, now.seconds, option_map (λ word. word.now) now.word, is.1.0, is.1.1)
puts clock given (invocations.Work volume (works.Check checkers.Blocks workers form)) put is = absurd (true≢false (sym put))
puts clock given (invocations.Look volume (looks.Export path options)) put is = absurd (true≢false (sym put))
puts clock given (invocations.LookBad volume image (bad_looks.Export path options)) put is = absurd (true≢false (sym put))
puts clock given invocation put is = absurd (true≢false (sym put))

-- every invocation of `get` reads one file or several
gets : (clock : Option ℕ) (given : Words) (invocation : Invocation) → is_get (verb_of invocation) ≡ true → IsGiven clock given invocation → IsGot given
unfolding is_get
gets clock given (invocations.Get volume path) got is = inl (is.1.1, is.1.2, is.1.3, is.1.4)
gets clock given (invocations.Look volume (looks.ReadUnsound path)) got is = inl (is.1.0.1, is.1.0.2, is.1.0.3, is.1.0.4)
gets clock given (invocations.LookBad volume image (bad_looks.Read path damaged)) got is = inl (is.1.0.1, is.1.0.2, is.1.0.3, is.1.0.4)
gets clock given (invocations.Copy volume (copies.Get folder paths is_deep keeps)) got is = inr (folder.now, map (λ path. path.now) paths.items, is.1.0, is.1.1, is.1.3, is.1.4)
gets clock given (invocations.Change volume (changes.Put p file keep owner now) trace) got is = absurd (true≢false (sym got))
gets clock given (invocations.Work volume (works.Check checkers.Blocks workers form)) got is = absurd (true≢false (sym got))
gets clock given (invocations.Look volume (looks.Export path options)) got is = absurd (true≢false (sym got))
gets clock given (invocations.LookBad volume image (bad_looks.Export path options)) got is = absurd (true≢false (sym got))
gets clock given invocation got is = absurd (true≢false (sym got))

-- if the words put neither one file nor several, `put` has no invocation
no_put : (clock : Option ℕ) (given : Words) → (IsPut clock given → ⊥) → AsksForNothing clock verbs.Put given
unfolding AsksForNothing is_put
no_put clock given none = λ invocation asks. none (puts clock given invocation (sym (ap is_put asks.0)) asks.1)

-- if the words read neither one file nor several, `get` has no invocation
no_get : (clock : Option ℕ) (given : Words) → (IsGot given → ⊥) → AsksForNothing clock verbs.Get given
unfolding AsksForNothing is_get
no_get clock given none = λ invocation asks. none (gets clock given invocation (sym (ap is_get asks.0)) asks.1)

-- a word that exists can't have been left out
both : (first : Option (List ℕ)) (word : List ℕ) → first ≡ Some word → first ≡ None → ⊥
both first word some none = absurd (cc)

-- two words that are both the first word are equal
one_word : (first : Option (List ℕ)) (one other : List ℕ) → first ≡ Some one → first ≡ Some other → one ≡ other
one_word first one other is other_is = cc

-- if `--target-directory` is given and the words aren't files with a time, `put` has no invocation
pub no_files : (clock : Option ℕ) (given : Words) (directory : List ℕ) → IsFirstWord given (codes "target-directory") directory
    → ((files : List (List ℕ)) (now : ℕ) (word : Option (List ℕ)) → AreFilesGiven clock (put_words given) files now word → ⊥)
    → AsksForNothing clock verbs.Put given
no_files clock given directory is none = no_put clock given go
  where
    go : IsPut clock given → ⊥
    go (inl one) = both _ directory is one.5
    go (inr several) = none several.1 several.2 several.3 several.5

-- if `--target-directory` is given and its word is empty, `put` has no invocation
pub empty_target : (clock : Option ℕ) (given : Words) (directory : List ℕ) → IsFirstWord given (codes "target-directory") directory → directory ≡ []
    → AsksForNothing clock verbs.Put given
empty_target clock given directory is empty = no_put clock given go
  where
    go : IsPut clock given → ⊥
    go (inl one) = both _ directory is one.5
    go (inr several) = several.4.1 (one_word _ several.0 directory several.4.0 is ∙ empty)

-- if `--target-directory` isn't given and the words aren't those for a single file, `put` has no invocation
no_one : (clock : Option ℕ) (given : Words) → IsLeftOut given (codes "target-directory")
    → ((file : List ℕ) (now : ℕ) → IsFirstWord given (codes "FILE") file → IsMomentGiven clock (given (codes "NOW")) now → IsLeftOut given (codes "MORE") → ⊥)
    → AsksForNothing clock verbs.Put given
no_one clock given left none = no_put clock given go
  where
    go : IsPut clock given → ⊥
    go (inl one) = none one.0 one.1 one.2 one.3 one.4
    go (inr several) = both _ several.0 several.4.0 left

-- if neither `--target-directory` nor the file is given, `put` has no invocation
pub no_file : (clock : Option ℕ) (given : Words) → IsLeftOut given (codes "target-directory") → IsLeftOut given (codes "FILE") → AsksForNothing clock verbs.Put given
no_file clock given left none = no_one clock given left (λ file now first moment more. both _ file first none)

-- if `--target-directory` isn't given but the words of MORE are, `put` has no invocation
pub too_many_put : (clock : Option ℕ) (given : Words) → IsLeftOut given (codes "target-directory") → (IsLeftOut given (codes "MORE") → ⊥)
    → AsksForNothing clock verbs.Put given
too_many_put clock given left many = no_one clock given left (λ file now first moment more. many more)

-- if `--target-directory` isn't given and the path is empty, `put` has no invocation
pub no_path : (clock : Option ℕ) (given : Words) → IsLeftOut given (codes "target-directory") → (IsPathWord (given (codes "PATH")) → ⊥)
    → AsksForNothing clock verbs.Put given
no_path clock given left empty = no_put clock given go
  where
    go : IsPut clock given → ⊥
    go (inl one) = empty one.7
    go (inr several) = both _ several.0 several.4.0 left

-- if `--target-directory` isn't given but `--recursive` is, `put` has no invocation
pub deep_put : (clock : Option ℕ) (given : Words) → IsLeftOut given (codes "target-directory") → is_set (given (codes "recursive")) ≡ true
    → AsksForNothing clock verbs.Put given
deep_put clock given left set = no_put clock given go
  where
    go : IsPut clock given → ⊥
    go (inl one) = true≢false (sym set ∙ one.6)
    go (inr several) = both _ several.0 several.4.0 left

-- if `--target-directory` isn't given and there is no valid time, `put` has no invocation
pub no_moment : (clock : Option ℕ) (given : Words) → IsLeftOut given (codes "target-directory") → (IsValue clock kinds.Moment (given (codes "NOW")) → ⊥)
    → AsksForNothing clock verbs.Put given
no_moment clock given left none = no_one clock given left (λ file now first moment more. none (now, moment))

-- if `--output` is given and the words aren't paths, `get` has no invocation
pub no_paths : (clock : Option ℕ) (given : Words) (folder : List ℕ) → IsFirstWord given (codes "output") folder
    → ((paths : List (List ℕ)) → ArePathsGiven (get_words given) paths → ⊥) → AsksForNothing clock verbs.Get given
no_paths clock given folder is none = no_get clock given go
  where
    go : IsGot given → ⊥
    go (inl one) = both _ folder is one.1
    go (inr several) = none several.1 several.3

-- if `--output` is given and its word is empty, `get` has no invocation
pub empty_output : (clock : Option ℕ) (given : Words) (folder : List ℕ) → IsFirstWord given (codes "output") folder → folder ≡ []
    → AsksForNothing clock verbs.Get given
empty_output clock given folder is empty = no_get clock given go
  where
    go : IsGot given → ⊥
    go (inl one) = both _ folder is one.1
    go (inr several) = several.2.1 (one_word _ several.0 folder several.2.0 is ∙ empty)

-- if `--output` isn't given but the words of MORE are, `get` has no invocation
pub too_many_got : (clock : Option ℕ) (given : Words) → IsLeftOut given (codes "output") → (IsLeftOut given (codes "MORE") → ⊥)
    → AsksForNothing clock verbs.Get given
too_many_got clock given left many = no_get clock given go
  where
    go : IsGot given → ⊥
    go (inl one) = many one.0
    go (inr several) = both _ several.0 several.2.0 left

-- if `--output` isn't given but `--preserve` or `--recursive` is, `get` has no invocation
pub into_nothing : (clock : Option ℕ) (given : Words) → IsLeftOut given (codes "output")
    → (is_set (given (codes "preserve")) ≡ true) ⊎ (is_set (given (codes "recursive")) ≡ true) → AsksForNothing clock verbs.Get given
into_nothing clock given left set = no_get clock given go
  where
    neither : is_set (given (codes "preserve")) ≡ false → is_set (given (codes "recursive")) ≡ false
        → (is_set (given (codes "preserve")) ≡ true) ⊎ (is_set (given (codes "recursive")) ≡ true) → ⊥
    neither kept deep (inl is) = true≢false (sym is ∙ kept)
    neither kept deep (inr is) = true≢false (sym is ∙ deep)

    go : IsGot given → ⊥
    go (inl one) = neither one.2 one.3 set
    go (inr several) = both _ several.0 several.2.0 left

-- if `--output` and `--unsound` are given, `get` has no invocation
pub unsound_got : (clock : Option ℕ) (given : Words) (folder : List ℕ) → IsFirstWord given (codes "output") folder → is_set (given (codes "unsound")) ≡ true
    → AsksForNothing clock verbs.Get given
unsound_got clock given folder is set = no_get clock given go
  where
    go : IsGot given → ⊥
    go (inl one) = both _ folder is one.1
    go (inr several) = true≢false (sym set ∙ several.4)

-- words that say that blocks are lost don't say that none is
pub not_whole : (given : Words) (edition : Edition) (is_cut : Bool) (image : BadImage) → IsImageGiven given edition is_cut image → IsBadImageGiven given V7 is_cut None → ⊥
not_whole given edition is_cut image is none = elim is.1 [
  | inl bad ↦ listed image.bad bad
  | inr rest ↦ sized image.sizes is.0 rest.1
]
  where
    listed : (bad : GivenBad) → IsBadGiven given bad → ⊥
    listed (bads.Map file) named = both _ file.now named.0 none.0.0
    listed (bads.Outside ranges) named = both _ named.1.0 named.1.1 none.0.1

    sized : (sizes : Option VolumeSizes) → IsSizesGiven given edition sizes → (is_cut || is_some sizes) ≡ true → ⊥
    sized None left lost = true≢false (sym lost ∙ ap (λ cut. cut || false) none.2)
    sized (Some sizes) (inl word) lost = both _ word.1.0 word.1.1 none.1.0
    sized (Some sizes) (inr word) lost = both _ word.1.0 word.1.1 none.1.1

-- if `--output` is given, and blocks of the image are lost, `get` has no invocation
pub bad_got : (clock : Option ℕ) (given : Words) (folder : List ℕ) (edition : Edition) (bad : Option BadImage) → IsFirstWord given (codes "output") folder
    → IsBadImageGiven given edition (is_set (given (codes "cut"))) bad → bad ≢ None → AsksForNothing clock verbs.Get given
bad_got clock given folder edition None is read lost = absurd (lost refl)
bad_got clock given folder edition (Some image) is read lost = no_get clock given go
  where
    go : IsGot given → ⊥
    go (inl one) = both _ folder is one.1
    go (inr several) = not_whole given edition (is_set (given (codes "cut"))) image read several.5
