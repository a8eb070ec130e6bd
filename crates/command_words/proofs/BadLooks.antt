-- Words that ask for part of an image of which some blocks may not have been read, or for its repair.
use Rattle.std.proofs.Common.{◌≡◌, ℕ, Bool, false, true, List, Option, None, Some, codes, slice_get, refl, subst, sym}
use Rattle.std.specs.Borrow.{Bor}
use Rattle.std.specs.Prelude.{option_map}
use Rattle.command_terms.specs.declared.bad_looks.BadLook.TheVariants as bad_looks
use Rattle.command_terms.specs.declared.looks.ExportOptions.{ExportOptions}
use Rattle.command_terms.specs.declared.looks.Look.TheVariants as looks
use Rattle.command_terms.specs.declared.looks.NodeName.{NodeName}
use Rattle.command_terms.specs.declared.looks.OutputForm.{OutputForm}
use Rattle.command_terms.specs.declared.looks.Picture.{Picture}
use Rattle.vol_listing.specs.Depths.{goes_below}
use Rattle.vol_listing.specs.declared.options.ListOptions.{ListOptions}
use Rattle.command_words.specs.BadWords.{IsBadImageGiven}
use Rattle.command_terms.specs.declared.options.Repairing.{Repairing}
use Rattle.command_words.specs.Decimal.{IsNumberGiven}
use Rattle.command_words.specs.Invocations.{AreLinesGiven, AsksFor, IsDepthGiven, IsExportGiven, IsFormGiven, IsNodeGiven, IsOnePathGiven, IsPictureGiven, IsRepairGiven, IsVolumeGiven, Words, is_set, look_at, repair_at, the_word}
use Rattle.command_words.specs.declared.invocation.BadImage.{BadImage}
use Rattle.command_words.specs.declared.invocation.Invocation.TheVariants as invocations
use Rattle.command_words.specs.declared.invocation.MadeFile.{MadeFile}
use Rattle.command_words.specs.declared.invocation.VolumeFile.{VolumeFile}
use Rattle.command_words.specs.declared.verbs.Verb.TheVariants as verbs

-- the words of `export` ask for its invocation
pub export_asked : (clock : Option ℕ) (given : Words) (volume : VolumeFile) (path : Bor (List ℕ)) (options : ExportOptions) (bad : Option BadImage) → IsVolumeGiven given volume
    → IsExportGiven given path.now options → IsBadImageGiven given volume.edition false bad
    → AsksFor clock verbs.Export given (look_at volume (bad_looks.Export path options) bad)
export_asked clock given volume path options None named is none = (refl, (named, (is, none)))
export_asked clock given volume path options (Some image) named is bad = (refl, (named, (is, bad)))

-- the words of `find` ask for its invocation
pub find_asked : (clock : Option ℕ) (given : Words) (volume : VolumeFile) (path : Bor (List ℕ)) (name : Option (Bor (List ℕ))) (lost : Bool) (form : OutputForm) (bad : Option BadImage)
    → IsVolumeGiven given volume → path.now ≡ the_word given (codes "PATH") → option_map (λ word. word.now) name ≡ slice_get (given (codes "name")) 0
    → lost ≡ is_set (given (codes "lost")) → IsFormGiven given form → IsBadImageGiven given volume.edition (is_set (given (codes "cut"))) bad
    → AsksFor clock verbs.Find given (look_at volume (bad_looks.Find path name lost form) bad)
find_asked clock given volume path name lost form None named is pattern orphans shown none = (refl, (named, (is, pattern, orphans, shown, none)))
find_asked clock given volume path name lost form (Some image) named is pattern orphans shown bad = (refl, (named, (is, pattern, orphans, shown, bad)))

-- the words of `repair` ask for its invocation
pub repair_asked : (clock : Option ℕ) (given : Words) (volume : VolumeFile) (copy : Option MadeFile) (repairing : Repairing) (bad : Option BadImage)
    → IsRepairGiven clock given volume copy repairing → IsBadImageGiven given volume.edition (is_set (given (codes "cut"))) bad
    → AsksFor clock verbs.Repair given (repair_at volume copy repairing bad)
repair_asked clock given volume copy repairing None is none = (refl, (is, none))
repair_asked clock given volume copy repairing (Some image) is bad = (refl, (is, bad))

-- the words of `sums` ask for its invocation
pub sums_asked : (clock : Option ℕ) (given : Words) (volume : VolumeFile) (path : Bor (List ℕ)) (form : OutputForm) (lost : Bool) (bad : Option BadImage)
    → IsVolumeGiven given volume → path.now ≡ the_word given (codes "PATH") → IsFormGiven given form → lost ≡ is_set (given (codes "lost"))
    → IsBadImageGiven given volume.edition (is_set (given (codes "cut"))) bad
    → AsksFor clock verbs.Sums given (look_at volume (bad_looks.Sums path form lost) bad)
sums_asked clock given volume path form lost None named is shown orphans none = (refl, (named, (is, shown, orphans, none)))
sums_asked clock given volume path form lost (Some image) named is shown orphans bad = (refl, (named, (is, shown, orphans, bad)))

-- the words of `ls` ask for its invocation, if the volume need not be sound
pub list_asked : (clock : Option ℕ) (given : Words) (volume : VolumeFile) (path : Bor (List ℕ)) (listing : ListOptions) (bad : Option BadImage)
    → IsVolumeGiven given volume → path.now ≡ the_word given (codes "PATH") → AreLinesGiven given listing.lines → IsDepthGiven given listing.depth
    → goes_below listing.depth ≡ false → is_set (given (codes "slots")) ≡ false → (bad ≡ None → is_set (given (codes "unsound")) ≡ true)
    → IsBadImageGiven given volume.edition (is_set (given (codes "cut"))) bad
    → AsksFor clock verbs.Ls given (look_at volume (bad_looks.List path listing) bad)
list_asked clock given volume path listing None named is lines depth level plain unsound none =
    (refl, (named, (is, lines, depth, plain, unsound refl, level, none)))
list_asked clock given volume path listing (Some image) named is lines depth level plain unsound bad =
    (refl, (named, (is, lines, depth, plain, level, bad)))

-- the words of `get` ask for its invocation, if the volume need not be sound
pub get_asked : (clock : Option ℕ) (given : Words) (volume : VolumeFile) (path : Bor (List ℕ)) (damaged : Bool) (bad : Option BadImage) → IsVolumeGiven given volume
    → IsOnePathGiven given path.now → damaged ≡ is_set (given (codes "damaged")) → (bad ≡ None → is_set (given (codes "unsound")) ≡ true)
    → IsBadImageGiven given volume.edition (is_set (given (codes "cut"))) bad
    → AsksFor clock verbs.Get given (look_at volume (bad_looks.Read path damaged) bad)
get_asked clock given volume path damaged None named is shown unsound none = (refl, (named, (is, unsound refl, none)))
get_asked clock given volume path damaged (Some image) named is shown unsound bad = (refl, (named, (is, shown, bad)))

-- the words of `check` ask for its invocation
pub check_asked : (clock : Option ℕ) (given : Words) (volume : VolumeFile) (graded : Bool) (form : OutputForm) (bad : Option BadImage) → IsVolumeGiven given volume
    → graded ≡ is_set (given (codes "status")) → IsFormGiven given form → IsBadImageGiven given volume.edition (is_set (given (codes "cut"))) bad
    → AsksFor clock verbs.Check given (look_at volume (bad_looks.Check graded form) bad)
check_asked clock given volume graded form None named is shown none = (refl, (named, (is, shown, none)))
check_asked clock given volume graded form (Some image) named is shown bad = (refl, (named, (is, shown, bad)))

-- the words of `cat` ask for its invocation
pub cat_asked : (clock : Option ℕ) (given : Words) (volume : VolumeFile) (node : NodeName) (damaged : Bool) (bad : Option BadImage) → IsVolumeGiven given volume
    → IsNodeGiven (the_word given (codes "INO")) node → damaged ≡ is_set (given (codes "damaged"))
    → IsBadImageGiven given volume.edition (is_set (given (codes "cut"))) bad
    → AsksFor clock verbs.Cat given (look_at volume (bad_looks.Body node damaged) bad)
cat_asked clock given volume node damaged None named is shown none = (refl, (named, is, none))
cat_asked clock given volume node damaged (Some image) named is shown bad = (refl, (named, (is, shown, bad)))

-- the words of `block` ask for its invocation
pub block_asked : (clock : Option ℕ) (given : Words) (volume : VolumeFile) (block : ℕ) (form : OutputForm) (bad : Option BadImage) → IsVolumeGiven given volume
    → IsNumberGiven 4294967295 (the_word given (codes "BLOCK")) block → IsFormGiven given form
    → IsBadImageGiven given volume.edition (is_set (given (codes "cut"))) bad
    → AsksFor clock verbs.Block given (look_at volume (bad_looks.Block block form) bad)
block_asked clock given volume block form None named is shown none = (refl, (named, (is, shown, none)))
block_asked clock given volume block form (Some image) named is shown bad = (refl, (named, (is, shown, bad)))

-- the words of `map` ask for its invocation, if they name no file
pub map_asked : (clock : Option ℕ) (given : Words) (volume : VolumeFile) (picture : Picture) (bad : Option BadImage) → IsVolumeGiven given volume
    → IsPictureGiven given picture → is_set (given (codes "json")) ≡ false → None ≡ slice_get (given (codes "file")) 0
    → IsBadImageGiven given volume.edition (is_set (given (codes "cut"))) bad
    → AsksFor clock verbs.Map given (look_at volume (bad_looks.Map picture) bad)
map_asked clock given volume picture None named is text file none = (refl, (named, (is, text, file, none)))
map_asked clock given volume picture (Some image) named is text file bad = (refl, (named, (is, text, sym file, bad)))

-- so do those of `map --json`
pub uses_asked : (clock : Option ℕ) (given : Words) (volume : VolumeFile) (bad : Option BadImage) → IsVolumeGiven given volume
    → is_set (given (codes "json")) ≡ true → is_set (given (codes "svg")) ≡ false → slice_get (given (codes "file")) 0 ≡ None
    → IsBadImageGiven given volume.edition (is_set (given (codes "cut"))) bad
    → AsksFor clock verbs.Map given (look_at volume bad_looks.Uses bad)
uses_asked clock given volume None named json plain file none = (refl, (named, (json, plain, file, none)))
uses_asked clock given volume (Some image) named json plain file bad = (refl, (named, (json, plain, file, bad)))

-- so do those that name a file, of an image that was read whole
pub file_asked : (clock : Option ℕ) (given : Words) (volume : VolumeFile) (picture : Picture) (path : Bor (List ℕ)) (bad : Option BadImage) → IsVolumeGiven given volume
    → IsPictureGiven given picture → is_set (given (codes "json")) ≡ false → Some path.now ≡ slice_get (given (codes "file")) 0 → bad ≡ None
    → IsBadImageGiven given volume.edition (is_set (given (codes "cut"))) bad
    → AsksFor clock verbs.Map given (invocations.Look volume (looks.Map picture (Some path)))
file_asked clock given volume picture path bad named is text file none read =
    (refl, (named, (is, text, file, subst (λ (b : Option BadImage). IsBadImageGiven given volume.edition (is_set (given (codes "cut"))) b) none read)))
