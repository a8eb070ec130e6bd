-- Words that ask for the uses of blocks as JSON, and as a picture for a browser or of one file; or for one file's blocks of an image of which blocks are lost.
use Rattle.std.proofs.Common.{◌≡◌, ◌≢◌, ◌∙◌, ℕ, Option, None, Some, Bool, true, false, true≢false, codes, refl, slice_get, sym, ap}
use Rattle.vol_layout.specs.declared.edition.Edition.{Edition}
use Rattle.command_words.specs.BadWords.{IsBadImageGiven}
use Rattle.command_words.specs.Invocations.{AsksForNothing, IsGiven, Words, is_set, verb_of}
use Rattle.command_words.specs.declared.invocation.BadImage.{BadImage}
use Rattle.command_words.specs.declared.invocation.Copying.TheVariants as copies
use Rattle.command_words.specs.declared.invocation.Invocation.{Invocation}
use Rattle.command_words.specs.declared.invocation.Invocation.TheVariants as invocations
use Rattle.command_words.specs.declared.invocation.Work.TheVariants as works
use Rattle.command_words.specs.declared.verbs.Verb.{Verb}
use Rattle.command_words.specs.declared.verbs.Verb.TheVariants as verbs
use Rattle.command_terms.specs.declared.bad_looks.BadLook.TheVariants as bad_looks
use Rattle.command_terms.specs.declared.looks.Look.TheVariants as looks
use Rattle.vol_check.specs.declared.checker.Checker.TheVariants as checkers
use Rattle.command_terms.specs.declared.changes.Change.TheVariants as changes
use Rattle.command_words.proofs.Copies.{not_whole}

-- true if the command is `map`
is_map : Verb → Bool
is_map verbs.Map = true
is_map _ = false

-- no invocation of `map` has both options
draws : (clock : Option ℕ) (given : Words) (invocation : Invocation) → is_map (verb_of invocation) ≡ true → IsGiven clock given invocation
    → is_set (given (codes "json")) ≡ true → is_set (given (codes "svg")) ≡ true → ⊥
unfolding is_map
draws clock given (invocations.Look volume (looks.Map picture file)) drawn is json svg = true≢false (sym json ∙ is.1.1)
draws clock given (invocations.Look volume looks.Uses) drawn is json svg = true≢false (sym svg ∙ is.1.1)
draws clock given (invocations.LookBad volume image (bad_looks.Map picture)) drawn is json svg = true≢false (sym json ∙ is.1.1)
draws clock given (invocations.LookBad volume image bad_looks.Uses) drawn is json svg = true≢false (sym svg ∙ is.1.1)
draws clock given (invocations.Change volume (changes.Put p file keep owner now) trace) drawn is json svg = absurd (true≢false (sym drawn))
draws clock given (invocations.Copy volume (copies.Put directory files keep owner now trace)) drawn is json svg = absurd (true≢false (sym drawn))
draws clock given (invocations.Work volume (works.Check checkers.Blocks workers form)) drawn is json svg = absurd (true≢false (sym drawn))
draws clock given (invocations.LookBad volume image (bad_looks.Export p options)) drawn is json svg = absurd (true≢false (sym drawn))
draws clock given invocation drawn is json svg = absurd (true≢false (sym drawn))

-- no invocation of `map` has JSON of one file's blocks
shows_file : (clock : Option ℕ) (given : Words) (invocation : Invocation) → is_map (verb_of invocation) ≡ true → IsGiven clock given invocation
    → is_set (given (codes "json")) ≡ true → slice_get (given (codes "file")) 0 ≢ None → ⊥
unfolding is_map
shows_file clock given (invocations.Look volume (looks.Map picture word)) drawn is json file = true≢false (sym json ∙ is.1.1)
shows_file clock given (invocations.Look volume looks.Uses) drawn is json file = file is.1.2
shows_file clock given (invocations.LookBad volume image (bad_looks.Map picture)) drawn is json file = true≢false (sym json ∙ is.1.1)
shows_file clock given (invocations.LookBad volume image bad_looks.Uses) drawn is json file = file is.1.2
shows_file clock given (invocations.Change volume (changes.Put p word keep owner now) trace) drawn is json file = absurd (true≢false (sym drawn))
shows_file clock given (invocations.Copy volume (copies.Put directory files keep owner now trace)) drawn is json file = absurd (true≢false (sym drawn))
shows_file clock given (invocations.Work volume (works.Check checkers.Blocks workers form)) drawn is json file = absurd (true≢false (sym drawn))
shows_file clock given (invocations.LookBad volume image (bad_looks.Export p options)) drawn is json file = absurd (true≢false (sym drawn))
shows_file clock given invocation drawn is json file = absurd (true≢false (sym drawn))

-- if `--json` and `--svg` are given, `map` has no invocation
pub picture_as_json : (clock : Option ℕ) (given : Words) → is_set (given (codes "json")) ≡ true → is_set (given (codes "svg")) ≡ true
    → AsksForNothing clock verbs.Map given
unfolding AsksForNothing is_map
picture_as_json clock given json svg = λ invocation asks. draws clock given invocation (sym (ap is_map asks.0)) asks.1 json svg

-- if `--json` and `--file` are given, `map` has no invocation
pub file_as_json : (clock : Option ℕ) (given : Words) → is_set (given (codes "json")) ≡ true → slice_get (given (codes "file")) 0 ≢ None
    → AsksForNothing clock verbs.Map given
unfolding AsksForNothing is_map
file_as_json clock given json file = λ invocation asks. shows_file clock given invocation (sym (ap is_map asks.0)) asks.1 json file

-- no invocation of `map` shows one file's blocks of an image of which blocks are lost
shows_lost : (clock : Option ℕ) (given : Words) (edition : Edition) (image : BadImage) (invocation : Invocation) → is_map (verb_of invocation) ≡ true
    → IsGiven clock given invocation → slice_get (given (codes "file")) 0 ≢ None
    → IsBadImageGiven given edition (is_set (given (codes "cut"))) (Some image) → ⊥
unfolding is_map
shows_lost clock given edition bad (invocations.Look volume (looks.Map picture word)) drawn is file read =
    not_whole given edition (is_set (given (codes "cut"))) bad read is.1.3
shows_lost clock given edition bad (invocations.Look volume looks.Uses) drawn is file read = file is.1.2
shows_lost clock given edition bad (invocations.LookBad volume image (bad_looks.Map picture)) drawn is file read = file is.1.2
shows_lost clock given edition bad (invocations.LookBad volume image bad_looks.Uses) drawn is file read = file is.1.2
shows_lost clock given edition bad (invocations.Change volume (changes.Put p word keep owner now) trace) drawn is file read = absurd (true≢false (sym drawn))
shows_lost clock given edition bad (invocations.Copy volume (copies.Put directory files keep owner now trace)) drawn is file read = absurd (true≢false (sym drawn))
shows_lost clock given edition bad (invocations.Work volume (works.Check checkers.Blocks workers form)) drawn is file read = absurd (true≢false (sym drawn))
shows_lost clock given edition bad (invocations.LookBad volume image (bad_looks.Export p options)) drawn is file read = absurd (true≢false (sym drawn))
shows_lost clock given edition bad invocation drawn is file read = absurd (true≢false (sym drawn))

-- if `--file` is given, and blocks of the image are lost, `map` has no invocation
pub file_lost : (clock : Option ℕ) (given : Words) (edition : Edition) (bad : Option BadImage) → slice_get (given (codes "file")) 0 ≢ None
    → IsBadImageGiven given edition (is_set (given (codes "cut"))) bad → bad ≢ None → AsksForNothing clock verbs.Map given
unfolding AsksForNothing is_map
file_lost clock given edition None file read lost = absurd (lost refl)
file_lost clock given edition (Some image) file read lost =
    λ invocation asks. shows_lost clock given edition image invocation (sym (ap is_map asks.0)) asks.1 file read
