-- No number in these objects is a fraction.
use Rattle.std.proofs.Common.{◌≡◌, ℕ, false, List, [], ◌∷◌, map, Option, None, Some, refl}
use Rattle.serde_json.specs.View.{items_of}
use Rattle.serde_json.specs.Written.{has_float, items_have_float}
use Rattle.vol_identify.specs.declared.front.FoundVolume.{FoundVolume}
use Rattle.vol_identify.specs.declared.guess.Guess.{Guess}
use Rattle.vol_identify.specs.declared.guess.Guess.TheVariants.{Empty, Packed, Tar, Volume, Swapped, Ext2, CutOff, Foreign, Inside, Unknown}
use Rattle.vol_identify.specs.declared.pack_scan.Part.{Part}
use Rattle.vol_identify.specs.declared.pack_scan.Part.TheVariants as parts
use Rattle.vol_identify.specs.declared.pack_texts.JudgedPart.{JudgedPart}
use Rattle.identify_lines.specs.GuessJson.{count_or_null, guess_parts, part_by, part_data, seen_data, seen_parts, seen_read, tail_of, unread_data, volume_data}
use Rattle.identify_lines.specs.declared.seen.Seen.{Seen}
use Rattle.identify_lines.specs.declared.seen.Seen.TheVariants as seens

-- a number that may be missing is no fraction
optional_whole : (n : Option ℕ) → has_float (count_or_null n) ≡ false
optional_whole None = refl
optional_whole (Some n) = refl

-- a judged volume has no fraction
volume_whole : (path : List ℕ) (block : ℕ) (volume : FoundVolume) (broken : Option ℕ) → has_float (volume_data path block volume broken) ≡ false
volume_whole path block volume None = refl
volume_whole path block volume (Some rule) = refl

-- a part of a pack has no fraction
part_whole : (path : List ℕ) (part : Part) (broken : Option ℕ) → has_float (part_by path part broken) ≡ false
part_whole path (parts.Volume block volume) broken = volume_whole path block volume broken
part_whole path (parts.Between block blocks zeros) broken = refl

-- the parts of a pack have none
judged_whole : (path : List ℕ) (judged : List JudgedPart) → items_have_float (items_of (map (part_data path) judged)) ≡ false
judged_whole path [] = refl
judged_whole path (one ∷ more) = rw (part_whole path one.part one.broken) (judged_whole path more)

-- the volume of a guess has none
guess_whole : (path : List ℕ) (guess : Guess) (broken : Option ℕ) → items_have_float (items_of (guess_parts path guess broken)) ≡ false
guess_whole path Empty broken = refl
guess_whole path (Packed packing) broken = refl
guess_whole path Tar broken = refl
guess_whole path (Volume volume) broken = rw (volume_whole path 0 volume broken) refl
guess_whole path (Swapped volume) broken = refl
guess_whole path Ext2 broken = refl
guess_whole path (CutOff volume there) broken = refl
guess_whole path (Foreign foreign) broken = refl
guess_whole path (Inside volume block) broken = refl
guess_whole path Unknown broken = refl

-- the parts of what a file seems to be have none
parts_whole : (path : List ℕ) (seen : Seen) → items_have_float (items_of (seen_parts path seen)) ≡ false
parts_whole path (seens.Pack judged) = judged_whole path judged.items
parts_whole path (seens.Image found read) = guess_whole path found.guess found.broken

-- what a file seems to be has no fraction
pub seen_whole : (path : List ℕ) (size : Option ℕ) (seen : Seen) → has_float (seen_data path size seen) ≡ false
unfolding seen_data
seen_whole path size seen = rw (optional_whole size, parts_whole path seen, optional_whole (seen_read seen), optional_whole (tail_of size)) refl

-- a file that wasn't read has none
pub unread_whole : (path : List ℕ) (status : ℕ) → has_float (unread_data path status) ≡ false
unread_whole path status = refl
