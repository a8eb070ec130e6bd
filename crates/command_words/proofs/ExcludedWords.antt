-- Words that ask for what excludes each other: `mkfs` for a place in a file that must not exist, `identify` for JSON and a catalogue. And words for `repair`
-- without a file for its copy.
use Rattle.std.proofs.Common.{◌≡◌, ◌⊎◌, ◌∙◌, ℕ, Option, None, Bool, true, false, true≢false, Some, List, codes, slice_get, sym, ap, subst, refl, inl, inr}
use Rattle.std.specs.Borrow.{Bor}
use Rattle.std.specs.Global.{Vec}
use Rattle.command_words.specs.Decimal.{IsNumberUpTo}
use Rattle.command_words.specs.Invocations.{AreTwoFormsGiven, AsksForNothing, IsGiven, IsGuessFormGiven, IsLeftOut, IsNewCopyGiven, IsNewCopyMissing, IsNewPlaceGiven, IsNewPlaceWrong, Words, is_set, verb_of}
use Rattle.command_words.proofs.Moments.{first_number}
use Rattle.command_words.proofs.Values.{no_value}
use Rattle.command_words.specs.declared.invocation.Copying.TheVariants as copies
use Rattle.command_words.specs.declared.invocation.Invocation.{Invocation}
use Rattle.command_words.specs.declared.invocation.Invocation.TheVariants as invocations
use Rattle.command_words.specs.declared.invocation.GuessForm.{GuessForm}
use Rattle.command_words.specs.declared.invocation.GuessForm.TheVariants as forms
use Rattle.command_words.specs.declared.invocation.MadeFile.{MadeFile}
use Rattle.command_words.specs.declared.invocation.NewPlace.{NewPlace}
use Rattle.command_words.specs.declared.invocation.NewPlace.TheVariants as places
use Rattle.vol_mkfs.specs.declared.blank.NewVolume.{NewVolume}
use Rattle.command_words.specs.declared.invocation.Work.TheVariants as works
use Rattle.command_words.specs.declared.verbs.Verb.{Verb}
use Rattle.command_words.specs.declared.verbs.Verb.TheVariants as verbs
use Rattle.command_terms.specs.declared.bad_looks.BadLook.TheVariants as bad_looks
use Rattle.command_terms.specs.declared.looks.Look.TheVariants as looks
use Rattle.vol_check.specs.declared.checker.Checker.TheVariants as checkers
use Rattle.command_terms.specs.declared.changes.Change.TheVariants as changes

-- true if the command is `mkfs`
is_mkfs : Verb → Bool
is_mkfs verbs.Mkfs = true
is_mkfs _ = false

-- true if the command is `identify`
is_identify : Verb → Bool
is_identify verbs.Identify = true
is_identify _ = false

-- an invocation is one of `mkfs` or one of `identify`, or its command is neither
abbrev IsChosen : Invocation → Type 0
IsChosen invocation =
    ((place : NewPlace) × (volume : NewVolume) × (invocation ≡ invocations.Mkfs place volume))
    ⊎ (((images : Vec (Bor (List ℕ))) × (form : GuessForm) × (is_deep : Bool) × (invocation ≡ invocations.Identify images form is_deep))
    ⊎ ((is_mkfs (verb_of invocation) ≡ false) × (is_identify (verb_of invocation) ≡ false)))

chosen : (invocation : Invocation) → IsChosen invocation
unfolding is_mkfs is_identify
chosen (invocations.Mkfs place volume) = inl (place, volume, refl)
chosen (invocations.Identify images form is_deep) = inr (inl (images, form, is_deep, refl))
chosen (invocations.Look volume (looks.List path listing)) = inr (inr (refl, refl))
chosen (invocations.Change volume (changes.Put p file keep owner now) trace) = inr (inr (refl, refl))
chosen (invocations.Copy volume (copies.Put directory files keep owner now trace)) = inr (inr (refl, refl))
chosen (invocations.Work volume (works.Check checkers.Blocks workers form)) = inr (inr (refl, refl))
chosen (invocations.LookBad volume image (bad_looks.Export p options)) = inr (inr (refl, refl))
chosen invocation = inr (inr (refl, refl))

-- words for an invocation of `mkfs` in a file that must not exist have no block of a file
makes : (given : Words) (place : NewPlace) → IsNewPlaceGiven given place → is_set (given (codes "new")) ≡ true → IsLeftOut given (codes "at")
makes given (places.File file) is new = is.1
makes given (places.Part image at) is new = absurd (true≢false (sym new ∙ is.2))

-- words for a format of guesses don't ask for JSON and a catalogue
guesses_one : (given : Words) (form : GuessForm) → IsGuessFormGiven given form → AreTwoFormsGiven given → ⊥
guesses_one given forms.Lines is both = true≢false (sym both.0 ∙ is.0)
guesses_one given forms.Json is both = true≢false (sym both.1 ∙ is.1)
guesses_one given forms.Catalogue is both = true≢false (sym both.0 ∙ is.0)

-- if the word for a block isn't a number, the words for the place aren't valid
pub no_block : (given : Words) (word : List ℕ) → Some word ≡ slice_get (given (codes "at")) 0 → (IsNumberUpTo 4294967295 word → ⊥) → IsNewPlaceWrong given
no_block given word first none = inl (λ if_any. none (first_number 4294967295 (given (codes "at")) word first if_any))

-- if there is a word for a block, and the file must not exist, the words for the place aren't valid
pub in_new_file : (given : Words) (word : List ℕ) → Some word ≡ slice_get (given (codes "at")) 0 → is_set (given (codes "new")) ≡ true → IsNewPlaceWrong given
in_new_file given word first new = inr (new, λ left. let none : Some word ≡ None = first ∙ left in absurd (cc))

-- if the words for the place of a new volume aren't valid, `mkfs` has no invocation
pub place_wrong : (clock : Option ℕ) (given : Words) → IsNewPlaceWrong given → AsksForNothing clock verbs.Mkfs given
unfolding AsksForNothing is_mkfs
place_wrong clock given (inl wrong) = no_value clock verbs.Mkfs given (inr (inr (inr (inr (inr (inr (inr (inr (inl wrong)))))))))
place_wrong clock given (inr both) = λ invocation asks. elim (chosen invocation) [
  | inl of ↦ both.1 (makes given of.0 (subst (IsGiven clock given) of.2 asks.1).0 both.0)
  | inr other ↦ elim other [
    | inl of ↦ absurd (true≢false (ap is_mkfs (asks.0 ∙ ap verb_of of.3)))
    | inr neither ↦ absurd (true≢false (ap is_mkfs asks.0 ∙ neither.0))
  ]
]

-- if the words ask for JSON and a catalogue, `identify` has no invocation
pub two_forms : (clock : Option ℕ) (given : Words) → AreTwoFormsGiven given → AsksForNothing clock verbs.Identify given
unfolding AsksForNothing is_identify
two_forms clock given both = λ invocation asks. elim (chosen invocation) [
  | inl of ↦ absurd (true≢false (ap is_identify (asks.0 ∙ ap verb_of of.2)))
  | inr other ↦ elim other [
    | inl of ↦ guesses_one given of.1 (subst (IsGiven clock given) of.3 asks.1).1 both
    | inr neither ↦ absurd (true≢false (ap is_identify asks.0 ∙ neither.1))
  ]
]

-- true if the command is `repair`
is_repair : Verb → Bool
is_repair verbs.Repair = true
is_repair _ = false

-- words for an invocation of `repair` name a file for its copy, or ask to write nothing
names_copy : (given : Words) (copy : Option MadeFile) → IsNewCopyGiven given copy → IsNewCopyMissing given → ⊥
names_copy given None is missing = true≢false (sym is ∙ missing.0)
names_copy given (Some file) is missing = let none : Some file.path.now ≡ None = sym is.1 ∙ missing.1 in absurd (cc)

-- no invocation of `repair` has neither
repairs : (clock : Option ℕ) (given : Words) (invocation : Invocation) → is_repair (verb_of invocation) ≡ true → IsGiven clock given invocation
    → IsNewCopyMissing given → ⊥
unfolding is_repair
repairs clock given (invocations.Repair volume copy repairing) repaired is missing = names_copy given copy is.0.1 missing
repairs clock given (invocations.RepairBad volume image copy repairing) repaired is missing = names_copy given copy is.0.1 missing
repairs clock given (invocations.Look volume (looks.List path listing)) repaired is missing = absurd (true≢false (sym repaired))
repairs clock given (invocations.Change volume (changes.Put p file keep owner now) trace) repaired is missing = absurd (true≢false (sym repaired))
repairs clock given (invocations.Copy volume (copies.Put directory files keep owner now trace)) repaired is missing = absurd (true≢false (sym repaired))
repairs clock given (invocations.Work volume (works.Check checkers.Blocks workers form)) repaired is missing = absurd (true≢false (sym repaired))
repairs clock given (invocations.LookBad volume image (bad_looks.Export p options)) repaired is missing = absurd (true≢false (sym repaired))
repairs clock given invocation repaired is missing = absurd (true≢false (sym repaired))

-- if the words name no file for a repaired copy, and don't ask to write nothing, `repair` has no invocation
pub copy_missing : (clock : Option ℕ) (given : Words) → IsNewCopyMissing given → AsksForNothing clock verbs.Repair given
unfolding AsksForNothing is_repair
copy_missing clock given missing = λ invocation asks. repairs clock given invocation (sym (ap is_repair asks.0)) asks.1 missing
