-- The root of a sound image, and the first entry that a list has no place for.
use Rattle.std.proofs.Common.{arith, ◌≡◌, ◌∙◌, ◌<◌, ◌+◌, ◌++◌, ◌∷◌, ℕ, List, get_or, length, take, drop, inl, inr, sym, ap, subst}
use Rattle.std.proofs.lemmas.List.{drop_more, take-append-drop}
use Rattle.vol_layout.specs.Geometry.{Fits, geometry_of}
use Rattle.vol_layout.specs.declared.edition.Edition.{Edition}
use Rattle.vol_layout.specs.declared.edition.Edition.TheVariants.{V6, V7}
use Rattle.vol_layout.specs.declared.geometry.Geometry.{Geometry}
use Rattle.vol_dir.specs.Entries.{IsDirectory}
use Rattle.vol_judge.specs.Directories.{root_of}
use Rattle.vol_judge.specs.Sound.{IsSound, Rule}
use Rattle.vol_archive.specs.declared.met_entries.MetEntry.{MetEntry}
use Rattle.pack_lists.specs.declared.members.ListedMember.{ListedMember}
use Rattle.command_faults.specs.declared.fault.Fault.{Fault}
use Rattle.command_copies.specs.Lists.{HasMembers, IsEntryFault, IsUnlistedAmong, Membership}

-- the root of a sound image is a directory
sound_root : (edition : Edition) (image : List ℕ) → Fits (geometry_of edition image) image → IsSound edition image
    → IsDirectory (geometry_of edition image) image (root_of (geometry_of edition image))
unfolding Rule
sound_root V6 image fits sound = record { first = omega arith; last = omega (arith, fits.root); kind = (sound 3).root }
sound_root V7 image fits sound = record { first = omega arith; last = omega (arith, fits.root); kind = (sound 3).root }

-- the same of the image and the geometry that a volume has
pub root_is : (edition : Edition) (image : List ℕ) (g : Geometry) (seen held : List ℕ) → g ≡ geometry_of edition image → seen ≡ held → held ≡ image
    → Fits g held → IsSound edition image → IsDirectory g seen (root_of g)
root_is edition image g seen held sizes same is fits sound =
    let whole : Fits (geometry_of edition image) image = subst (λ (h : Geometry). Fits h image) sizes (subst (Fits g) is fits) in
    subst (λ (i : List ℕ). IsDirectory g i (root_of g)) (sym (same ∙ is))
    (subst (λ (h : Geometry). IsDirectory h image (root_of h)) (sym sizes) (sound_root edition image whole sound))

-- if the first entries have members and the next has none, its fault is that of all entries
pub first_unlisted : (member : Membership) (founds : List MetEntry) (k : ℕ) (found : MetEntry) (members : List ListedMember) (fault : Fault)
    → k < length founds → found ≡ get_or founds k found → HasMembers member (take k founds) members → IsEntryFault member found fault
    → IsUnlistedAmong member founds fault
first_unlisted member founds k found members fault within at have (inl is) = inl is
first_unlisted member founds k found members fault within at have (inr unlisted) =
    let parts : founds ≡ take k founds ++ found ∷ drop (k + 1) founds =
    sym (take-append-drop k founds) ∙ ap (λ (rest : List MetEntry). take k founds ++ rest)
    (drop_more founds k found within ∙ ap (λ (one : MetEntry). one ∷ drop (k + 1) founds) (sym at)) in
    inr (record {
      front = take k founds;
      found = found;
      rest = drop (k + 1) founds;
      are = parts;
      members = members;
      have = have;
      unlisted = unlisted;
    })
