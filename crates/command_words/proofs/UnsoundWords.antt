-- Words that ask `ls` for the directories below in a volume that need not be sound, or for slots of an image of which blocks are lost.
use Rattle.std.proofs.Common.{◌≡◌, ◌≢◌, ◌∙◌, ℕ, Option, None, Some, Bool, true, false, true≢false, codes, refl, sym, ap}
use Rattle.vol_layout.specs.declared.edition.Edition.{Edition}
use Rattle.vol_layout.specs.declared.edition.Edition.TheVariants.{V7}
use Rattle.command_words.specs.BadWords.{IsBadImageGiven}
use Rattle.command_words.specs.Invocations.{AsksForNothing, IsDepthGiven, IsGiven, Words, is_set, verb_of}
use Rattle.command_words.specs.declared.invocation.BadImage.{BadImage}
use Rattle.command_words.specs.declared.invocation.Copying.TheVariants as copies
use Rattle.command_words.specs.declared.invocation.Invocation.{Invocation}
use Rattle.command_words.specs.declared.invocation.Invocation.TheVariants as invocations
use Rattle.command_words.specs.declared.invocation.Work.TheVariants as works
use Rattle.command_words.specs.declared.verbs.Verb.{Verb}
use Rattle.command_words.specs.declared.verbs.Verb.TheVariants as verbs
use Rattle.command_terms.specs.declared.bad_looks.BadLook.TheVariants as bad_looks
use Rattle.command_terms.specs.declared.looks.Look.TheVariants as looks
use Rattle.vol_check.specs.declared.checker.Checker.TheVariants as checkers
use Rattle.vol_listing.specs.Depths.{goes_below}
use Rattle.vol_listing.specs.declared.options.Depth.{Depth}
use Rattle.vol_listing.specs.declared.options.Depth.TheVariants as depths
use Rattle.command_terms.specs.declared.changes.Change.TheVariants as changes
use Rattle.command_words.proofs.Copies.{not_whole}

-- true if the command is `ls`
is_ls : Verb → Bool
is_ls verbs.Ls = true
is_ls _ = false

-- words that choose the directories below don't choose another depth
one_depth : (given : Words) (depth other : Depth) → IsDepthGiven given depth → goes_below depth ≡ true → IsDepthGiven given other → goes_below other ≡ false → ⊥
one_depth given depths.Itself other is below given_other level = true≢false (sym below)
one_depth given depths.Names other is below given_other level = true≢false (sym below)
one_depth given depths.Below depths.Itself is below given_other level = true≢false (sym given_other ∙ is.0)
one_depth given depths.Below depths.Names is below given_other level = true≢false (sym is.1 ∙ given_other.1)
one_depth given depths.Below depths.Below is below given_other level = true≢false level

-- words that say that blocks are lost, or that the volume need not be sound, don't say that neither is
not_plain : (given : Words) (edition : Edition) (bad : Option BadImage) → IsBadImageGiven given edition (is_set (given (codes "cut"))) bad
    → (bad ≡ None → is_set (given (codes "unsound")) ≡ true) → is_set (given (codes "unsound")) ≡ false
    → IsBadImageGiven given V7 (is_set (given (codes "cut"))) None → ⊥
not_plain given edition None read unsound sound whole = true≢false (sym (unsound refl) ∙ sound)
not_plain given edition (Some image) read unsound sound whole = not_whole given edition (is_set (given (codes "cut"))) image read whole

-- no invocation of `ls` lists the directories below in a volume that need not be sound
lists : (clock : Option ℕ) (given : Words) (edition : Edition) (bad : Option BadImage) (depth : Depth) (invocation : Invocation) → is_ls (verb_of invocation) ≡ true
    → IsGiven clock given invocation → is_set (given (codes "slots")) ≡ false → IsBadImageGiven given edition (is_set (given (codes "cut"))) bad
    → (bad ≡ None → is_set (given (codes "unsound")) ≡ true) → IsDepthGiven given depth → goes_below depth ≡ true → ⊥
unfolding is_ls
lists clock given edition bad depth (invocations.Look volume (looks.List path listing)) listed is plain read unsound chosen below =
    not_plain given edition bad read unsound is.1.4 is.1.5
lists clock given edition bad depth (invocations.Look volume (looks.Slots path form)) listed is plain read unsound chosen below = true≢false (sym is.1.1 ∙ plain)
lists clock given edition bad depth (invocations.Look volume (looks.ListUnsound path listing)) listed is plain read unsound chosen below =
    one_depth given depth listing.depth chosen below is.1.2 is.1.5
lists clock given edition bad depth (invocations.LookBad volume image (bad_looks.List path listing)) listed is plain read unsound chosen below =
    one_depth given depth listing.depth chosen below is.1.2 is.1.4
lists clock given edition bad depth (invocations.Change volume (changes.Put p file keep owner now) trace) listed is plain read unsound chosen below = absurd (true≢false (sym listed))
lists clock given edition bad depth (invocations.Copy volume (copies.Put directory files keep owner now trace)) listed is plain read unsound chosen below = absurd (true≢false (sym listed))
lists clock given edition bad depth (invocations.Work volume (works.Check checkers.Blocks workers form)) listed is plain read unsound chosen below = absurd (true≢false (sym listed))
lists clock given edition bad depth (invocations.LookBad volume image (bad_looks.Export p options)) listed is plain read unsound chosen below = absurd (true≢false (sym listed))
lists clock given edition bad depth invocation listed is plain read unsound chosen below = absurd (true≢false (sym listed))

-- if the volume need not be sound, and the directories below are to be listed, `ls` has no invocation
pub below_unsound : (clock : Option ℕ) (given : Words) (edition : Edition) (bad : Option BadImage) (depth : Depth) → is_set (given (codes "slots")) ≡ false
    → IsBadImageGiven given edition (is_set (given (codes "cut"))) bad → (bad ≡ None → is_set (given (codes "unsound")) ≡ true) → IsDepthGiven given depth
    → goes_below depth ≡ true → AsksForNothing clock verbs.Ls given
unfolding AsksForNothing is_ls
below_unsound clock given edition bad depth plain read unsound chosen below =
    λ invocation asks. lists clock given edition bad depth invocation (sym (ap is_ls asks.0)) asks.1 plain read unsound chosen below

-- no invocation of `ls` shows slots of an image of which blocks are lost
shows : (clock : Option ℕ) (given : Words) (edition : Edition) (image : BadImage) (invocation : Invocation) → is_ls (verb_of invocation) ≡ true
    → IsGiven clock given invocation → is_set (given (codes "slots")) ≡ true → IsBadImageGiven given edition (is_set (given (codes "cut"))) (Some image) → ⊥
unfolding is_ls
shows clock given edition bad (invocations.Look volume (looks.List path listing)) listed is slots read = true≢false (sym slots ∙ is.1.3)
shows clock given edition bad (invocations.Look volume (looks.Slots path form)) listed is slots read =
    not_whole given edition (is_set (given (codes "cut"))) bad read is.1.3
shows clock given edition bad (invocations.Look volume (looks.ListUnsound path listing)) listed is slots read = true≢false (sym slots ∙ is.1.3)
shows clock given edition bad (invocations.LookBad volume image (bad_looks.List path listing)) listed is slots read = true≢false (sym slots ∙ is.1.3)
shows clock given edition bad (invocations.Change volume (changes.Put p file keep owner now) trace) listed is slots read = absurd (true≢false (sym listed))
shows clock given edition bad (invocations.Copy volume (copies.Put directory files keep owner now trace)) listed is slots read = absurd (true≢false (sym listed))
shows clock given edition bad (invocations.Work volume (works.Check checkers.Blocks workers form)) listed is slots read = absurd (true≢false (sym listed))
shows clock given edition bad (invocations.LookBad volume image (bad_looks.Export p options)) listed is slots read = absurd (true≢false (sym listed))
shows clock given edition bad invocation listed is slots read = absurd (true≢false (sym listed))

-- if `--slots` is given, and blocks of the image are lost, `ls` has no invocation
pub bad_slots : (clock : Option ℕ) (given : Words) (edition : Edition) (bad : Option BadImage) → is_set (given (codes "slots")) ≡ true
    → IsBadImageGiven given edition (is_set (given (codes "cut"))) bad → bad ≢ None → AsksForNothing clock verbs.Ls given
unfolding AsksForNothing is_ls
bad_slots clock given edition None slots read lost = absurd (lost refl)
bad_slots clock given edition (Some image) slots read lost =
    λ invocation asks. shows clock given edition image invocation (sym (ap is_ls asks.0)) asks.1 slots read
