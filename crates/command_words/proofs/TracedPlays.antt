-- Words that ask `play` for JSON and a trace.
use Rattle.std.proofs.Common.{◌≡◌, ◌∙◌, ℕ, Option, Bool, true, false, true≢false, sym, ap}
use Rattle.command_words.specs.Invocations.{AsksForNothing, IsGiven, IsPlayFormGiven, IsTraceAsJson, Words, verb_of}
use Rattle.command_words.specs.declared.invocation.Copying.TheVariants as copies
use Rattle.command_words.specs.declared.invocation.Invocation.{Invocation}
use Rattle.command_words.specs.declared.invocation.Invocation.TheVariants as invocations
use Rattle.command_words.specs.declared.invocation.Work.TheVariants as works
use Rattle.command_words.specs.declared.verbs.Verb.{Verb}
use Rattle.command_words.specs.declared.verbs.Verb.TheVariants as verbs
use Rattle.command_terms.specs.declared.bad_looks.BadLook.TheVariants as bad_looks
use Rattle.command_terms.specs.declared.looks.Look.TheVariants as looks
use Rattle.command_terms.specs.declared.plays.PlayForm.{PlayForm}
use Rattle.command_terms.specs.declared.plays.PlayForm.TheVariants as plays
use Rattle.vol_check.specs.declared.checker.Checker.TheVariants as checkers
use Rattle.command_terms.specs.declared.changes.Change.TheVariants as changes

-- true if the command is `play`
is_play : Verb → Bool
is_play verbs.Play = true
is_play _ = false

-- words for a form of the results don't ask for JSON and a trace
form_one : (given : Words) (form : PlayForm) → IsPlayFormGiven given form → IsTraceAsJson given → ⊥
form_one given (plays.Lines trace) is both = true≢false (sym both.0 ∙ is.0)
form_one given plays.Json is both = true≢false (sym both.1 ∙ is.1)

-- no invocation of `play` has both
prints : (clock : Option ℕ) (given : Words) (invocation : Invocation) → is_play (verb_of invocation) ≡ true → IsGiven clock given invocation
    → IsTraceAsJson given → ⊥
unfolding is_play
prints clock given (invocations.Work volume (works.Play scripts journal form)) played is both = form_one given form is.1.4 both
prints clock given (invocations.Work volume (works.Check checkers.Blocks workers form)) played is both = absurd (true≢false (sym played))
prints clock given (invocations.Look volume (looks.List path listing)) played is both = absurd (true≢false (sym played))
prints clock given (invocations.Change volume (changes.Put p file keep owner now) trace) played is both = absurd (true≢false (sym played))
prints clock given (invocations.Copy volume (copies.Put directory files keep owner now trace)) played is both = absurd (true≢false (sym played))
prints clock given (invocations.LookBad volume image (bad_looks.Export p options)) played is both = absurd (true≢false (sym played))
prints clock given invocation played is both = absurd (true≢false (sym played))

-- if `--json` and `--trace` are given, `play` has no invocation
pub trace_as_json : (clock : Option ℕ) (given : Words) → IsTraceAsJson given → AsksForNothing clock verbs.Play given
unfolding AsksForNothing is_play
trace_as_json clock given both = λ invocation asks. prints clock given invocation (sym (ap is_play asks.0)) asks.1 both
