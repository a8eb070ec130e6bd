-- Lemmas on the objects in a manifest of an image of which blocks may be lost.
use Rattle.std.proofs.Common.{◌≡◌, ◌∙◌, ℕ, Bool, true, false, if◌then◌else◌, List, [], ◌∷◌, ◌++◌, Option, None, Some, refl, ap, sym, subst, append-nil}
use Rattle.std.specs.List.{flat_map}
use Rattle.std.proofs.lemmas.List.Concat.{flat_map-append}
use Rattle.serde_json.specs.Data.{Data}
use Rattle.vol_archive.specs.declared.met_entries.MetEntry.{MetEntry}
use Rattle.vol_change.specs.Nodes.{node_at}
use Rattle.vol_dir.specs.Tree.{tree}
use Rattle.vol_layout.specs.declared.geometry.Geometry.{Geometry}
use Rattle.vol_losses.specs.declared.spans.LostSpan.{LostSpan}
use Rattle.vol_listing.specs.Json.{entries_text}
use Rattle.vol_listing.specs.KnownSums.{AreKnownData, AreSpansIf, IsKnownJson, known_data, known_sum}
use Rattle.vol_listing.specs.Places.{joined}
use Rattle.vol_listing.specs.Rows.{row_of}
use Rattle.vol_listing.specs.Sums.{is_left, met_data, summed_data, sums_data}
use Rattle.vol_listing.proofs.ListingValues.{AreWhole, summed_whole, whole_append, whole_more}

-- the object of an entry has no fraction
known_one : (g : Geometry) (image : List ℕ) (lost : List Bool) (top : List ℕ) (found : MetEntry) (losses : Option (List LostSpan))
    → AreWhole (known_data g image lost top found losses)
known_one g image lost top found losses =
    let sum = known_sum g image lost found.inode in
    let row = row_of found.inode (node_at (tree g image) found.inode) in
    let path = joined top found.path in
    elim (is_left found.role) as (λ b. AreWhole (if b then [] else summed_data sum losses row path ∷ [])) [
      | true ↦ refl
      | false ↦ whole_more (summed_data sum losses row path) [] (summed_whole sum losses row path) refl
    ]

-- the objects of a manifest have no fraction
pub known_whole : (g : Geometry) (image : List ℕ) (lost : List Bool) (top : List ℕ) (founds : List MetEntry) (datas : List Data)
    → AreKnownData g image lost top founds datas → AreWhole datas
known_whole g image lost top founds datas AreKnownData.none = refl
known_whole g image lost top founds datas (AreKnownData.more before front found more are is) =
    whole_append front more (known_whole g image lost top before front are) (subst AreWhole (sym is.2) (known_one g image lost top found is.0))

-- if no block is lost, an entry has the object that it has without an option
plain_one : (g : Geometry) (image top : List ℕ) (found : MetEntry) (losses : Option (List LostSpan)) → AreSpansIf false g image [] found.inode losses
    → known_data g image [] top found losses ≡ met_data (tree g image) top found
plain_one g image top found None spans = refl
plain_one g image top found (Some spans) is = absurd (cc)

plain_all : (g : Geometry) (image top : List ℕ) (founds : List MetEntry) (datas : List Data) → AreKnownData g image [] top founds datas
    → datas ≡ sums_data (tree g image) top founds
plain_all g image top founds datas AreKnownData.none = refl
plain_all g image top founds datas (AreKnownData.more before front found more are is) =
    let f = met_data (tree g image) top in
    let one : more ≡ flat_map f (found ∷ []) = is.2 ∙ (plain_one g image top found is.0 is.1 ∙ sym (append-nil (f found))) in
    (λ k. plain_all g image top before front are k ++ one k) ∙ sym (flat_map-append f before (found ∷ []))

-- the object of all entries is that of the manifest
pub known_json : (g : Geometry) (image : List ℕ) (lost : List Bool) (top : List ℕ) (founds : List MetEntry) (datas : List Data) (text : List ℕ)
    → AreKnownData g image lost top founds datas → text ≡ entries_text datas → IsKnownJson g image lost top founds text
known_json g image [] top founds datas text are is = is ∙ ap entries_text (plain_all g image top founds datas are)
known_json g image (mark ∷ lost) top founds datas text are is = (datas, are, is)
