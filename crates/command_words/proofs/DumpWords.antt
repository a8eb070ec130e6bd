-- Words that ask for a dump as JSON with octal digits.
use Rattle.std.proofs.Common.{◌≡◌, ◌∙◌, ℕ, Option, Bool, true, false, true≢false, sym, ap}
use Rattle.command_words.specs.Invocations.{AreDigitsOfJson, AsksForNothing, IsDumpFormGiven, IsGiven, Words, verb_of}
use Rattle.command_words.specs.declared.invocation.Copying.TheVariants as copies
use Rattle.command_words.specs.declared.invocation.Invocation.{Invocation}
use Rattle.command_words.specs.declared.invocation.Invocation.TheVariants as invocations
use Rattle.command_words.specs.declared.invocation.Work.TheVariants as works
use Rattle.command_words.specs.declared.verbs.Verb.{Verb}
use Rattle.command_words.specs.declared.verbs.Verb.TheVariants as verbs
use Rattle.command_terms.specs.declared.bad_looks.BadLook.TheVariants as bad_looks
use Rattle.command_terms.specs.declared.looks.DumpForm.{DumpForm}
use Rattle.command_terms.specs.declared.looks.DumpForm.TheVariants as dumps
use Rattle.command_terms.specs.declared.looks.Look.TheVariants as looks
use Rattle.vol_check.specs.declared.checker.Checker.TheVariants as checkers
use Rattle.command_terms.specs.declared.changes.Change.TheVariants as changes

-- true if the command is `dump`
is_dump : Verb → Bool
is_dump verbs.Dump = true
is_dump _ = false

-- words for a format of a dump don't ask for JSON with octal digits
one_form : (given : Words) (form : DumpForm) → IsDumpFormGiven given form → AreDigitsOfJson given → ⊥
one_form given (dumps.Text radix) is both = true≢false (sym both.0 ∙ is.0)
one_form given dumps.Json is both = true≢false (sym both.1 ∙ is.1)

-- no invocation of `dump` has both options
dumps_one : (clock : Option ℕ) (given : Words) (invocation : Invocation) → is_dump (verb_of invocation) ≡ true → IsGiven clock given invocation
    → AreDigitsOfJson given → ⊥
unfolding is_dump
dumps_one clock given (invocations.Look volume (looks.Dump target form)) dumped is both = one_form given form is.1.1 both
dumps_one clock given (invocations.Change volume (changes.Put p file keep owner now) trace) dumped is both = absurd (true≢false (sym dumped))
dumps_one clock given (invocations.Copy volume (copies.Put directory files keep owner now trace)) dumped is both = absurd (true≢false (sym dumped))
dumps_one clock given (invocations.Work volume (works.Check checkers.Blocks workers form)) dumped is both = absurd (true≢false (sym dumped))
dumps_one clock given (invocations.LookBad volume image (bad_looks.Export p options)) dumped is both = absurd (true≢false (sym dumped))
dumps_one clock given invocation dumped is both = absurd (true≢false (sym dumped))

-- if `--json` and `--octal` are given, `dump` has no invocation
pub digits_of_json : (clock : Option ℕ) (given : Words) → AreDigitsOfJson given → AsksForNothing clock verbs.Dump given
unfolding AsksForNothing is_dump
digits_of_json clock given both = λ invocation asks. dumps_one clock given invocation (sym (ap is_dump asks.0)) asks.1 both
