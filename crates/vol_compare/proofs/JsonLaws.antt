-- Laws of the differences between two trees as JSON.
use Rattle.std.proofs.Common.{◌≡◌, ap, refl, ℕ, suc, Bool, true, false, if◌then◌else◌, not, List, [], ◌∷◌, ◌++◌, length, Option, None, Some}
use Rattle.std.specs.List.{filter, flat_map}
use Rattle.serde_json.specs.Data.{Data}
use Rattle.serde_json.specs.View.{items_of}
use Rattle.serde_json.specs.Written.{has_float, items_have_float}
use Rattle.vol_dir.specs.Walk.{is_nil}
use Rattle.vol_layout.specs.declared.edition.Edition.{Edition}
use Rattle.vol_listing.proofs.ListingValues.{whole_append}
use Rattle.vol_archive.specs.declared.met_entries.Reason.{Reason}
use Rattle.vol_compare.specs.Json.{first_data, is_change_stored, left_data, link_data, major_data, minor_data, node_data, pairing_data, side_data, size_data, time_data, told_data}
use Rattle.vol_compare.specs.Lines.{first_changed}
use Rattle.vol_compare.specs.Members.{Content, LeftOut, Node}
use Rattle.vol_compare.specs.Merge.{Added, Both, Gone, Pairing, line_of}
use Rattle.vol_compare.specs.declared.members.Facts.{Facts}
use Rattle.vol_compare.specs.declared.members.NodeKind.{NodeKind}
use Rattle.vol_compare.specs.declared.members.NodeKind.TheVariants as nodes

-- a time is no fraction
time_whole : (compared : Bool) (time : ℕ) → has_float (time_data compared time) ≡ false
unfolding time_data
time_whole true time = refl
time_whole false time = refl

-- neither is a size, or half a device number
size_whole : (kind : NodeKind) → has_float (size_data kind) ≡ false
unfolding size_data
size_whole (nodes.File size) = refl
size_whole nodes.Directory = refl
size_whole (nodes.Block device) = refl
size_whole (nodes.Character device) = refl

major_whole : (kind : NodeKind) → has_float (major_data kind) ≡ false
unfolding major_data
major_whole (nodes.File size) = refl
major_whole nodes.Directory = refl
major_whole (nodes.Block device) = refl
major_whole (nodes.Character device) = refl

minor_whole : (kind : NodeKind) → has_float (minor_data kind) ≡ false
unfolding minor_data
minor_whole (nodes.File size) = refl
minor_whole nodes.Directory = refl
minor_whole (nodes.Block device) = refl
minor_whole (nodes.Character device) = refl

-- a path has no fraction
link_whole : (first : Option (List ℕ)) → has_float (link_data first) ≡ false
unfolding link_data
link_whole None = refl
link_whole (Some path) = refl

-- a place is no fraction
first_whole : (first : Option ℕ) → has_float (first_data first) ≡ false
unfolding first_data
first_whole None = refl
first_whole (Some at) = refl

-- what a path leads to has no fraction
node_whole : (times : Bool) (edition : Edition) (facts : Facts) (first : Option (List ℕ)) → has_float (node_data times edition facts first) ≡ false
unfolding node_data
node_whole times edition facts first =
    rw (
      time_whole times facts.accessed,
      time_whole (is_change_stored times edition) facts.changed,
      link_whole first,
      major_whole facts.kind,
      minor_whole facts.kind,
      size_whole facts.kind,
    ) refl

left_whole : (reason : Reason) → has_float (left_data reason) ≡ false
unfolding left_data
left_whole reason = refl

side_whole : (times : Bool) (edition : Edition) (content : Content) → has_float (side_data times edition content) ≡ false
side_whole times edition (Node facts bytes first) = node_whole times edition facts first
side_whole times edition (LeftOut reason) = left_whole reason

-- what two trees have at a path has no fraction
pairing_whole : (times : Bool) (was is : Edition) (pairing : Pairing) → has_float (pairing_data times was is pairing) ≡ false
pairing_whole times was is (Gone old) = rw (side_whole times was old.content) refl
pairing_whole times was is (Added new) = rw (side_whole times is new.content) refl
pairing_whole times was is (Both old new) =
    rw (first_whole (first_changed old.content new.content), side_whole times is new.content, side_whole times was old.content) refl

told_whole : (times : Bool) (was is : Edition) (pairing : Pairing) → items_have_float (items_of (told_data times was is pairing)) ≡ false
unfolding told_data
told_whole times was is pairing = either (is_nil (line_of pairing))
  where
    either : (none : Bool) → items_have_float (items_of (if none then [] else pairing_data times was is pairing ∷ [])) ≡ false
    either true = refl
    either false = rw (pairing_whole times was is pairing) refl

-- the differences between two trees have no fraction
pub differences_whole : (times : Bool) (was is : Edition) (pairings : List Pairing)
    → items_have_float (items_of (flat_map (told_data times was is) pairings)) ≡ false
differences_whole times was is [] = refl
differences_whole times was is (pairing ∷ pairings) =
    whole_append (told_data times was is pairing) (flat_map (told_data times was is) pairings) (told_whole times was is pairing)
    (differences_whole times was is pairings)

-- if there is no item, there is no line
no_line : (line : List ℕ) (d : Data) (rest : List Data) (lines : List ℕ) → (rest ≡ [] → lines ≡ [])
    → (if is_nil line then [] else d ∷ []) ++ rest ≡ [] → line ++ lines ≡ []
no_line [] d rest lines more none = more none
no_line (byte ∷ bytes) d rest lines more none = cc

pub itemless_is_silent : (times : Bool) (was is : Edition) (pairings : List Pairing)
    → flat_map (told_data times was is) pairings ≡ [] → flat_map line_of pairings ≡ []
unfolding told_data
itemless_is_silent times was is [] none = refl
itemless_is_silent times was is (pairing ∷ pairings) none =
    no_line (line_of pairing) (pairing_data times was is pairing) (flat_map (told_data times was is) pairings) (flat_map line_of pairings)
    (itemless_is_silent times was is pairings) none

-- if there is no line, there is no item
no_item : (line : List ℕ) (d : Data) (rest : List Data) (lines : List ℕ) → (lines ≡ [] → rest ≡ []) → line ++ lines ≡ []
    → (if is_nil line then [] else d ∷ []) ++ rest ≡ []
no_item [] d rest lines more none = more none
no_item (byte ∷ bytes) d rest lines more none = cc

pub silent_is_itemless : (times : Bool) (was is : Edition) (pairings : List Pairing)
    → flat_map line_of pairings ≡ [] → flat_map (told_data times was is) pairings ≡ []
unfolding told_data
silent_is_itemless times was is [] none = refl
silent_is_itemless times was is (pairing ∷ pairings) none =
    no_item (line_of pairing) (pairing_data times was is pairing) (flat_map (told_data times was is) pairings) (flat_map line_of pairings)
    (silent_is_itemless times was is pairings) none

-- there are as many items as lines
count_one : (line : List ℕ) (d : Data) (rest : List Data) (pairing : Pairing) (told : List Pairing) → length rest ≡ length told
    → length ((if is_nil line then [] else d ∷ []) ++ rest) ≡ length (if not (is_nil line) then pairing ∷ told else told)
count_one [] d rest pairing told more = more
count_one (byte ∷ bytes) d rest pairing told more = ap suc more

pub count_items : (times : Bool) (was is : Edition) (pairings : List Pairing)
    → length (flat_map (told_data times was is) pairings) ≡ length (filter (λ pairing. not (is_nil (line_of pairing))) pairings)
unfolding told_data
count_items times was is [] = refl
count_items times was is (pairing ∷ pairings) =
    count_one (line_of pairing) (pairing_data times was is pairing) (flat_map (told_data times was is) pairings) pairing
    (filter (λ pairing. not (is_nil (line_of pairing))) pairings) (count_items times was is pairings)
