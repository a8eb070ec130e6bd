-- Words that ask for two ways to say which blocks couldn't be read, or for two ways to give sizes, mean nothing.
use Rattle.std.proofs.Common.{◌≡◌, ◌⊎◌, ◌∙◌, ℕ, Bool, true, false, List, Option, None, Some, codes, slice_get, sym, ap, inl, inr, true≢false}
use Rattle.std.specs.Prelude.{is_some}
use Rattle.vol_check.specs.declared.checker.Checker.TheVariants as checkers
use Rattle.vol_layout.specs.declared.edition.Edition.{Edition}
use Rattle.vol_layout.specs.declared.edition.Edition.TheVariants.{V7}
use Rattle.vol_losses.specs.declared.given_sizes.VolumeSizes.{VolumeSizes}
use Rattle.command_terms.specs.declared.changes.Change.TheVariants as changes
use Rattle.command_terms.specs.declared.bad_looks.BadLook.TheVariants as bad_looks
use Rattle.command_terms.specs.declared.looks.Look.TheVariants as looks
use Rattle.command_words.specs.BadWords.{AreBothGiven, IsBadGiven, IsBadImageGiven, IsBadWrong, IsImageGiven, IsSizesGiven}
use Rattle.command_words.specs.Invocations.{AsksForNothing, IsGiven, Words, verb_of}
use Rattle.command_words.specs.declared.invocation.BadImage.{BadImage}
use Rattle.command_words.specs.declared.invocation.Copying.TheVariants as copies
use Rattle.command_words.specs.declared.invocation.GivenBad.{GivenBad}
use Rattle.command_words.specs.declared.invocation.GivenBad.TheVariants as bads
use Rattle.command_words.specs.declared.invocation.Invocation.{Invocation}
use Rattle.command_words.specs.declared.invocation.Invocation.TheVariants as invocations
use Rattle.command_words.specs.declared.invocation.Work.TheVariants as works
use Rattle.command_words.specs.declared.verbs.Verb.{Verb}
use Rattle.command_words.specs.declared.verbs.Verb.TheVariants as verbs
use Rattle.command_words.proofs.Values.{no_value}

-- two options are given that exclude each other
abbrev AreTwoGiven : Words → Type 0
AreTwoGiven given = AreBothGiven given (codes "bad") (codes "bad-blocks") ⊎ AreBothGiven given (codes "sizes") (codes "like")

-- true if the command reads words about an image of which some blocks couldn't be read
is_rescuer : Verb → Bool
is_rescuer verbs.Block = true
is_rescuer verbs.Cat = true
is_rescuer verbs.Check = true
is_rescuer verbs.Export = true
is_rescuer verbs.Find = true
is_rescuer verbs.Get = true
is_rescuer verbs.Ls = true
is_rescuer verbs.Map = true
is_rescuer verbs.Repair = true
is_rescuer verbs.Sums = true
is_rescuer _ = false

-- an option without a word isn't given
left_out : (words : List (List ℕ)) → slice_get words 0 ≡ None → is_some (slice_get words 0) ≡ true → ⊥
left_out words none some = true≢false (sym some ∙ ap is_some none)

bad_two : (given : Words) (bad : GivenBad) → IsBadGiven given bad → AreBothGiven given (codes "bad") (codes "bad-blocks") → ⊥
bad_two given (bads.Map file) is both = left_out (given (codes "bad-blocks")) is.1 both.1
bad_two given (bads.Outside ranges) is both = left_out (given (codes "bad")) is.0 both.0

sizes_two : (given : Words) (edition : Edition) (sizes : Option VolumeSizes) → IsSizesGiven given edition sizes → AreBothGiven given (codes "sizes") (codes "like") → ⊥
sizes_two given edition None is both = left_out (given (codes "sizes")) is.0 both.0
sizes_two given edition (Some sizes) (inl is) both = left_out (given (codes "like")) is.0 both.1
sizes_two given edition (Some sizes) (inr is) both = left_out (given (codes "sizes")) is.0 both.0

none_two : (given : Words) (edition : Edition) {is_cut : Bool} → IsBadImageGiven given edition is_cut None → AreTwoGiven given → ⊥
none_two given edition is (inl both) = left_out (given (codes "bad")) is.0.0 both.0
none_two given edition is (inr both) = sizes_two given edition None is.1 both

image_two : (given : Words) (edition : Edition) (is_cut : Bool) (image : BadImage) → IsImageGiven given edition is_cut image → AreTwoGiven given → ⊥
image_two given edition is_cut image is (inl both) = elim is.1 [
  | inl bad ↦ bad_two given image.bad bad both
  | inr none ↦ left_out (given (codes "bad")) none.0.0 both.0
]
image_two given edition is_cut image is (inr both) = sizes_two given edition image.sizes is.0 both

-- an invocation of such a command isn't read from words that give two options that exclude each other
one_way : (clock : Option ℕ) (given : Words) (invocation : Invocation) → is_rescuer (verb_of invocation) ≡ true → IsGiven clock given invocation → AreTwoGiven given → ⊥
unfolding is_rescuer
one_way clock given (invocations.Look volume (looks.List path listing)) read is both = none_two given V7 is.1.5 both
one_way clock given (invocations.Look volume (looks.Slots path form)) read is both = none_two given V7 is.1.3 both
one_way clock given (invocations.Look volume (looks.ListUnsound path listing)) read is both = none_two given V7 is.1.6 both
one_way clock given (invocations.Change volume (changes.Put p file keep owner now) trace) read is both = absurd (true≢false (sym read))
one_way clock given (invocations.Copy volume (copies.Put directory files keep owner now trace)) read is both = absurd (true≢false (sym read))
one_way clock given (invocations.Work volume (works.Check checkers.Blocks workers form)) read is both = absurd (true≢false (sym read))
one_way clock given (invocations.Look volume (looks.Export path options)) read is both = none_two given V7 is.1.1 both
one_way clock given (invocations.Look volume (looks.Find path name lost form)) read is both = none_two given V7 is.1.4 both
one_way clock given (invocations.Look volume (looks.Sums path form lost)) read is both = none_two given V7 is.1.3 both
one_way clock given (invocations.Look volume (looks.Check graded form)) read is both = none_two given V7 is.1.2 both
one_way clock given (invocations.LookBad volume image (bad_looks.Check graded form)) read is both = image_two given volume.edition _ image is.1.2 both
one_way clock given (invocations.Look volume (looks.Block block form)) read is both = none_two given V7 is.1.2 both
one_way clock given (invocations.LookBad volume image (bad_looks.Block block form)) read is both = image_two given volume.edition _ image is.1.2 both
one_way clock given (invocations.Look volume (looks.Map picture file)) read is both = none_two given V7 is.1.3 both
one_way clock given (invocations.Look volume looks.Uses) read is both = none_two given V7 is.1.3 both
one_way clock given (invocations.LookBad volume image (bad_looks.Map picture)) read is both = image_two given volume.edition _ image is.1.3 both
one_way clock given (invocations.LookBad volume image bad_looks.Uses) read is both = image_two given volume.edition _ image is.1.3 both
one_way clock given (invocations.LookBad volume image (bad_looks.Export p options)) read is both = image_two given volume.edition false image is.1.1 both
one_way clock given (invocations.LookBad volume image (bad_looks.Find p name lost form)) read is both = image_two given volume.edition _ image is.1.4 both
one_way clock given (invocations.Repair volume copy repairing) read is both = none_two given V7 is.1 both
one_way clock given (invocations.RepairBad volume image copy repairing) read is both = image_two given volume.edition _ image is.1 both
one_way clock given (invocations.LookBad volume image (bad_looks.Sums p form lost)) read is both = image_two given volume.edition _ image is.1.3 both
one_way clock given (invocations.Get volume path) read is both = none_two given V7 is.3 both
one_way clock given (invocations.Copy volume (copies.Get folder paths is_deep keeps)) read is both = none_two given V7 is.1.4 both
one_way clock given (invocations.Look volume (looks.ReadUnsound path)) read is both = none_two given V7 is.1.2 both
one_way clock given (invocations.LookBad volume image (bad_looks.List p listing)) read is both = image_two given volume.edition _ image is.1.5 both
one_way clock given (invocations.LookBad volume image (bad_looks.Read p damaged)) read is both = image_two given volume.edition _ image is.1.2 both
one_way clock given (invocations.Cat volume node) read is both = none_two given V7 is.2 both
one_way clock given (invocations.LookBad volume image (bad_looks.Body node damaged)) read is both = image_two given volume.edition _ image is.1.2 both
one_way clock given invocation read is both = absurd (true≢false (sym read))

-- if the words about the image aren't valid, none of these commands has an invocation
pub export_wrong : (clock : Option ℕ) (given : Words) → IsBadWrong given → AsksForNothing clock verbs.Export given
unfolding AsksForNothing is_rescuer
export_wrong clock given (inl list) = no_value clock verbs.Export given (inr (inr (inr (inr (inr (inr (inr (inl list))))))))
export_wrong clock given (inr (inl sizes)) = no_value clock verbs.Export given (inr (inr (inr (inr (inr (inr (inr (inr (inl sizes)))))))))
export_wrong clock given (inr (inr (inl disk))) = no_value clock verbs.Export given (inr (inr (inr (inr (inr (inr (inr (inr (inr (inl disk))))))))))
export_wrong clock given (inr (inr (inr both))) = λ invocation asks. one_way clock given invocation (sym (ap is_rescuer asks.0)) asks.1 both

pub find_wrong : (clock : Option ℕ) (given : Words) → IsBadWrong given → AsksForNothing clock verbs.Find given
unfolding AsksForNothing is_rescuer
find_wrong clock given (inl list) = no_value clock verbs.Find given (inr (inr (inr (inr (inr (inr (inr (inr (inl list)))))))))
find_wrong clock given (inr (inl sizes)) = no_value clock verbs.Find given (inr (inr (inr (inr (inr (inr (inr (inr (inr (inl sizes))))))))))
find_wrong clock given (inr (inr (inl disk))) = no_value clock verbs.Find given (inr (inr (inr (inr (inr (inr (inr (inr (inr (inr (inl disk)))))))))))
find_wrong clock given (inr (inr (inr both))) = λ invocation asks. one_way clock given invocation (sym (ap is_rescuer asks.0)) asks.1 both

pub check_wrong : (clock : Option ℕ) (given : Words) → IsBadWrong given → AsksForNothing clock verbs.Check given
unfolding AsksForNothing is_rescuer
check_wrong clock given (inl list) = no_value clock verbs.Check given (inr (inr (inr (inr (inr (inr (inl list)))))))
check_wrong clock given (inr (inl sizes)) = no_value clock verbs.Check given (inr (inr (inr (inr (inr (inr (inr (inl sizes))))))))
check_wrong clock given (inr (inr (inl disk))) = no_value clock verbs.Check given (inr (inr (inr (inr (inr (inr (inr (inr (inl disk)))))))))
check_wrong clock given (inr (inr (inr both))) = λ invocation asks. one_way clock given invocation (sym (ap is_rescuer asks.0)) asks.1 both

pub block_wrong : (clock : Option ℕ) (given : Words) → IsBadWrong given → AsksForNothing clock verbs.Block given
unfolding AsksForNothing is_rescuer
block_wrong clock given (inl list) = no_value clock verbs.Block given (inr (inr (inr (inr (inr (inr (inl list)))))))
block_wrong clock given (inr (inl sizes)) = no_value clock verbs.Block given (inr (inr (inr (inr (inr (inr (inr (inl sizes))))))))
block_wrong clock given (inr (inr (inl disk))) = no_value clock verbs.Block given (inr (inr (inr (inr (inr (inr (inr (inr (inl disk)))))))))
block_wrong clock given (inr (inr (inr both))) = λ invocation asks. one_way clock given invocation (sym (ap is_rescuer asks.0)) asks.1 both

pub repair_wrong : (clock : Option ℕ) (given : Words) → IsBadWrong given → AsksForNothing clock verbs.Repair given
unfolding AsksForNothing is_rescuer
repair_wrong clock given (inl list) = no_value clock verbs.Repair given (inr (inr (inr (inr (inr (inr (inr (inr (inr (inr (inl list)))))))))))
repair_wrong clock given (inr (inl sizes)) = no_value clock verbs.Repair given (inr (inr (inr (inr (inr (inr (inr (inr (inr (inr (inr (inl sizes))))))))))))
repair_wrong clock given (inr (inr (inl disk))) = no_value clock verbs.Repair given (inr (inr (inr (inr (inr (inr (inr (inr (inr (inr (inr (inr (inl disk)))))))))))))
repair_wrong clock given (inr (inr (inr both))) = λ invocation asks. one_way clock given invocation (sym (ap is_rescuer asks.0)) asks.1 both

pub sums_wrong : (clock : Option ℕ) (given : Words) → IsBadWrong given → AsksForNothing clock verbs.Sums given
unfolding AsksForNothing is_rescuer
sums_wrong clock given (inl list) = no_value clock verbs.Sums given (inr (inr (inr (inr (inr (inr (inr (inl list))))))))
sums_wrong clock given (inr (inl sizes)) = no_value clock verbs.Sums given (inr (inr (inr (inr (inr (inr (inr (inr (inl sizes)))))))))
sums_wrong clock given (inr (inr (inl disk))) = no_value clock verbs.Sums given (inr (inr (inr (inr (inr (inr (inr (inr (inr (inl disk))))))))))
sums_wrong clock given (inr (inr (inr both))) = λ invocation asks. one_way clock given invocation (sym (ap is_rescuer asks.0)) asks.1 both

pub get_wrong : (clock : Option ℕ) (given : Words) → IsBadWrong given → AsksForNothing clock verbs.Get given
unfolding AsksForNothing is_rescuer
get_wrong clock given (inl list) = no_value clock verbs.Get given (inr (inr (inr (inr (inr (inr (inr (inr (inr (inr (inr (inl list))))))))))))
get_wrong clock given (inr (inl sizes)) = no_value clock verbs.Get given (inr (inr (inr (inr (inr (inr (inr (inr (inr (inr (inr (inr (inl sizes)))))))))))))
get_wrong clock given (inr (inr (inl disk))) = no_value clock verbs.Get given (inr (inr (inr (inr (inr (inr (inr (inr (inr (inr (inr (inr (inr (inl disk))))))))))))))
get_wrong clock given (inr (inr (inr both))) = λ invocation asks. one_way clock given invocation (sym (ap is_rescuer asks.0)) asks.1 both

pub cat_wrong : (clock : Option ℕ) (given : Words) → IsBadWrong given → AsksForNothing clock verbs.Cat given
unfolding AsksForNothing is_rescuer
cat_wrong clock given (inl list) = no_value clock verbs.Cat given (inr (inr (inr (inr (inr (inr (inl list)))))))
cat_wrong clock given (inr (inl sizes)) = no_value clock verbs.Cat given (inr (inr (inr (inr (inr (inr (inr (inl sizes))))))))
cat_wrong clock given (inr (inr (inl disk))) = no_value clock verbs.Cat given (inr (inr (inr (inr (inr (inr (inr (inr (inl disk)))))))))
cat_wrong clock given (inr (inr (inr both))) = λ invocation asks. one_way clock given invocation (sym (ap is_rescuer asks.0)) asks.1 both

pub ls_wrong : (clock : Option ℕ) (given : Words) → IsBadWrong given → AsksForNothing clock verbs.Ls given
unfolding AsksForNothing is_rescuer
ls_wrong clock given (inl list) = no_value clock verbs.Ls given (inr (inr (inr (inr (inr (inr (inr (inr (inr (inr (inr (inr (inl list)))))))))))))
ls_wrong clock given (inr (inl sizes)) = no_value clock verbs.Ls given (inr (inr (inr (inr (inr (inr (inr (inr (inr (inr (inr (inr (inr (inl sizes))))))))))))))
ls_wrong clock given (inr (inr (inl disk))) = no_value clock verbs.Ls given (inr (inr (inr (inr (inr (inr (inr (inr (inr (inr (inr (inr (inr (inr (inl disk)))))))))))))))
ls_wrong clock given (inr (inr (inr both))) = λ invocation asks. one_way clock given invocation (sym (ap is_rescuer asks.0)) asks.1 both

pub map_wrong : (clock : Option ℕ) (given : Words) → IsBadWrong given → AsksForNothing clock verbs.Map given
unfolding AsksForNothing is_rescuer
map_wrong clock given (inl list) = no_value clock verbs.Map given (inr (inr (inr (inr (inr (inr (inl list)))))))
map_wrong clock given (inr (inl sizes)) = no_value clock verbs.Map given (inr (inr (inr (inr (inr (inr (inr (inl sizes))))))))
map_wrong clock given (inr (inr (inl disk))) = no_value clock verbs.Map given (inr (inr (inr (inr (inr (inr (inr (inr (inl disk)))))))))
map_wrong clock given (inr (inr (inr both))) = λ invocation asks. one_way clock given invocation (sym (ap is_rescuer asks.0)) asks.1 both
