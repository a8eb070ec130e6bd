-- An invocation can only be read from valid words; if a word isn't valid, there is no invocation.
use Rattle.std.proofs.Common.{rules, ◌≡◌, ◌⊎◌, ◌∙◌, ◌≤◌, ◌∷◌, ℕ, List, [], Option, None, codes, false, length, map, sym, ap, subst, inl, inr}
use Rattle.std.specs.Borrow.{Bor}
use Rattle.std.proofs.lemmas.List.{length-map}
use Rattle.bad_maps.specs.Lists.{bytes_around}
use Rattle.vol_layout.specs.declared.edition.Edition.{Edition}
use Rattle.vol_layout.specs.declared.edition.Edition.TheVariants.{V7}
use Rattle.vol_layout.specs.declared.mode.DeviceKind.{DeviceKind}
use Rattle.vol_layout.specs.declared.mode.DeviceKind.TheVariants.{Character, Block}
use Rattle.command_terms.specs.Permissions.{change_to}
use Rattle.command_terms.specs.declared.changes.Change.TheVariants as changes
use Rattle.command_terms.specs.declared.permissions.PermissionChange.{PermissionChange}
use Rattle.command_terms.specs.declared.bad_looks.BadLook.TheVariants as bad_looks
use Rattle.command_terms.specs.declared.looks.Look.TheVariants as looks
use Rattle.command_words.specs.BadWords.{IsBadImageGiven, IsImageGiven, IsReadIfAny, sizes_of}
use Rattle.disk_sizes.specs.Disks.{disk_blocks}
use Rattle.command_words.specs.Invocations.{AreValues, AsksForNothing, IsDeviceKind, IsGiven, IsOneWrong, IsVolumeWrong, NameAsksFor, Words, is_set, verb_of}
use Rattle.command_words.specs.Permissions.{ArePermissionsIfAny, IsPermissionsOr}
use Rattle.command_words.specs.Verbs.{Argument, IsNoCommand, arguments_of, on_volume, verb_name}
use Rattle.command_words.specs.declared.invocation.BadImage.{BadImage}
use Rattle.command_words.specs.declared.invocation.Copying.TheVariants as copies
use Rattle.command_words.specs.declared.invocation.Invocation.{Invocation}
use Rattle.command_words.specs.declared.invocation.Invocation.TheVariants as invocations
use Rattle.command_words.specs.declared.verbs.Verb.{Verb}
use Rattle.command_words.proofs.BadValues.{list_value, none_read, sizes_value}
use Rattle.command_words.proofs.Names.{verb_name-injective}

-- the number of words given for the scripts is the number of scripts, 1 to 64
scripts_value : (items : List (Bor (List ℕ))) (words : List (List ℕ)) → map (λ script. script.now) items ≡ words → 1 ≤ length items → length items ≤ 64
    → (1 ≤ length words) × (length words ≤ 64)
scripts_value items words are least most =
    let same_length : length words ≡ length items = sym (ap length are) ∙ length-map items (λ (script : Bor (List ℕ)). script.now) in (
      subst (λ (n : ℕ). 1 ≤ n) (sym same_length) least,
      subst (λ (n : ℕ). n ≤ 64) (sym same_length) most,
    )

-- a word that names a kind of devices is one of the two
kind_value : (kind : DeviceKind) (word : List ℕ) → IsDeviceKind kind word → (word ≡ codes "c") ⊎ (word ≡ codes "b")
kind_value Character word is = inl is
kind_value Block word is = inr is

-- a word for permissions that were chosen asks for a change of them
permissions_value : (other : PermissionChange) (words : List (List ℕ)) (change : PermissionChange) → IsPermissionsOr other words change
    → ArePermissionsIfAny words
permissions_value other [] change is = tt
permissions_value other (word ∷ more) change is = (change, is)

-- the words about an image with lost blocks are valid
abbrev AreLostValues : Words → Type 0
AreLostValues given = IsReadIfAny bytes_around (given (codes "bad-blocks")) × (IsReadIfAny sizes_of (given (codes "sizes")) × IsReadIfAny disk_blocks (given (codes "like")))

none_values : (given : Words) → IsBadImageGiven given V7 (is_set (given (codes "cut"))) None → AreLostValues given
none_values given none = (none_read bytes_around _ none.0.1, sizes_value given V7 None none.1)

image_values : (given : Words) (edition : Edition) (image : BadImage) → IsImageGiven given edition (is_set (given (codes "cut"))) image → AreLostValues given
image_values given edition image is = (list_value given edition (is_set (given (codes "cut"))) image is, sizes_value given edition image.sizes is.0)

-- the words of an invocation are valid for its command's arguments: the search is made at each invocation
pub values_given : (clock : Option ℕ) (given : Words) (invocation : Invocation) → IsGiven clock given invocation
    → AreValues clock given (arguments_of (verb_of invocation))
values_given clock given (invocations.Cat volume node) is = let whole = none_values given is.2 in search (rules, whole)
values_given clock given (invocations.LookBad volume image (bad_looks.Body node damaged)) is =
    let whole = image_values given volume.edition image is.1.2 in search (rules, whole)
values_given clock given (invocations.Look volume (looks.Export path options)) is =
    let sizes = sizes_value given V7 None is.1.1.1 in
    let list = none_read bytes_around _ is.1.1.0.1 in
    search (rules, list, sizes)
values_given clock given (invocations.Look volume (looks.Find path name lost form)) is =
    let sizes = sizes_value given V7 None is.1.4.1 in
    let list = none_read bytes_around _ is.1.4.0.1 in
    search (rules, list, sizes)
values_given clock given (invocations.LookBad volume image (bad_looks.Export path options)) is =
    let sizes = sizes_value given volume.edition image.sizes is.1.1.0 in
    let list = list_value given volume.edition false image is.1.1 in
    search (rules, list, sizes)
values_given clock given (invocations.LookBad volume image (bad_looks.Find path name lost form)) is =
    let sizes = sizes_value given volume.edition image.sizes is.1.4.0 in
    let list = list_value given volume.edition (is_set (given (codes "cut"))) image is.1.4 in
    search (rules, list, sizes)
values_given clock given (invocations.Look volume (looks.Sums path form lost)) is = let whole = none_values given is.1.3 in search (rules, whole)
values_given clock given (invocations.LookBad volume image (bad_looks.Sums path form lost)) is =
    let whole = image_values given volume.edition image is.1.3 in search (rules, whole)
values_given clock given (invocations.Repair volume copy repairing) is = let whole = none_values given is.1 in search (rules, whole)
values_given clock given (invocations.RepairBad volume image copy repairing) is =
    let whole = image_values given volume.edition image is.1 in search (rules, whole)
values_given clock given (invocations.Get volume path) is = let whole = none_values given is.3 in search (rules, whole)
values_given clock given (invocations.Copy volume (copies.Get folder paths is_deep keeps)) is = let whole = none_values given is.1.4 in search (rules, whole)
values_given clock given (invocations.Look volume (looks.ReadUnsound path)) is = let whole = none_values given is.1.2 in search (rules, whole)
values_given clock given (invocations.LookBad volume image (bad_looks.Read path damaged)) is =
    let whole = image_values given volume.edition image is.1.2 in search (rules, whole)
values_given clock given (invocations.Look volume (looks.Check graded form)) is = let whole = none_values given is.1.2 in search (rules, whole)
values_given clock given (invocations.LookBad volume image (bad_looks.Check graded form)) is =
    let whole = image_values given volume.edition image is.1.2 in search (rules, whole)
values_given clock given (invocations.Look volume (looks.Block block form)) is = let whole = none_values given is.1.2 in search (rules, whole)
values_given clock given (invocations.LookBad volume image (bad_looks.Block block form)) is =
    let whole = image_values given volume.edition image is.1.2 in search (rules, whole)
values_given clock given (invocations.Look volume (looks.Map picture file)) is = let whole = none_values given is.1.3 in search (rules, whole)
values_given clock given (invocations.Look volume looks.Uses) is = let whole = none_values given is.1.3 in search (rules, whole)
values_given clock given (invocations.LookBad volume image (bad_looks.Map picture)) is =
    let whole = image_values given volume.edition image is.1.3 in search (rules, whole)
values_given clock given (invocations.LookBad volume image bad_looks.Uses) is =
    let whole = image_values given volume.edition image is.1.3 in search (rules, whole)
values_given clock given (invocations.Change volume (changes.Mknod path device change owner now) trace) is =
    let kind = kind_value device.kind _ is.1.1.0 in
    let permissions = permissions_value (change_to 0o644) _ change is.1.2 in
    search (rules, kind, permissions)
values_given clock given invocation is = search (rules, scripts_value)

-- if all words are valid, none of them is wrong
none_wrong : (clock : Option ℕ) (given : Words) (row : List Argument) → AreValues clock given row → IsOneWrong clock given row → ⊥
none_wrong clock given [] are wrong = wrong
none_wrong clock given (argument ∷ rest) are (inl wrong) = wrong are.0
none_wrong clock given (argument ∷ rest) are (inr wrong) = none_wrong clock given rest are.1 wrong

-- if the words for a volume aren't valid, neither are the words of a command on a volume
pub volume_wrong : (clock : Option ℕ) (given : Words) (more : List Argument) → IsVolumeWrong given → IsOneWrong clock given (on_volume more)
volume_wrong clock given more (inl edition) = inl edition
volume_wrong clock given more (inr at) = inr (inr (inl at))

-- if one of the words isn't valid, there is no invocation
pub no_value : (clock : Option ℕ) (verb : Verb) (given : Words) → IsOneWrong clock given (arguments_of verb) → AsksForNothing clock verb given
unfolding AsksForNothing
no_value clock verb given wrong = λ invocation asks.
    none_wrong clock given (arguments_of (verb_of invocation)) (values_given clock given invocation asks.1)
    (subst (λ (other : Verb). IsOneWrong clock given (arguments_of other)) asks.0 wrong)

-- if a command has no invocation, there is none for its name
pub names_nothing : (clock : Option ℕ) (verb : Verb) (given : Words) → AsksForNothing clock verb given → (invocation : Invocation)
    → NameAsksFor clock (verb_name verb) given invocation → ⊥
unfolding AsksForNothing
names_nothing clock verb given none invocation asks = none invocation (verb_name-injective verb (verb_of invocation) asks.0, asks.1)

-- if no command has this name, there is no invocation
pub no_command : (clock : Option ℕ) (name : List ℕ) (given : Words) → IsNoCommand name → (invocation : Invocation) → NameAsksFor clock name given invocation → ⊥
no_command clock name given none invocation asks = none (verb_of invocation) asks.0
