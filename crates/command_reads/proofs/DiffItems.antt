-- Differences between two images as JSON.
use Rattle.std.proofs.Common.{◌≡◌, ◌∙◌, ap, refl, sym, subst, ℕ, ◌==◌, Bool, false, if◌then◌else◌, List, [], ◌∷◌, length, map, Result, Ok, arith}
use Rattle.std.proofs.lemmas.Bool.{ne_eqb}
use Rattle.std.specs.List.{flat_map}
use Rattle.serde_json.specs.Data.{Data}
use Rattle.serde_json.specs.View.{view}
use Rattle.serde_json.specs.declared.value.Value.{Value}
use Rattle.vol_layout.specs.declared.edition.Edition.{Edition}
use Rattle.vol_layout.specs.declared.geometry.Geometry.{Geometry}
use Rattle.vol_layout.specs.declared.geometry.GeometryFault.{GeometryFault}
use Rattle.field_json.specs.Items.{item_text, lines_json}
use Rattle.command_faults.specs.Streams.{Streams}
use Rattle.command_terms.specs.declared.looks.OutputForm.TheVariants as forms
use Rattle.command_reads.specs.Diff.{IsDiffIn, diff_status, field_differences, items_status}
use Rattle.command_reads.specs.Print.{IsSight, IsSilent, PrintsTelling}
use Rattle.command_reads.specs.declared.diff.NamedImage.{NamedImage}
use Rattle.command_reads.specs.declared.print.Shown.{Shown}

-- two results of reading one geometry are equal
pub one_geometry : (g h : Geometry) (read : Result Geometry GeometryFault) → read ≡ Ok g → read ≡ Ok h → g ≡ h
one_geometry g h read first second = cc

-- a list with an entry has some length
some_length : {X : Type 0} (x : X) (xs : List X) → (length (x ∷ xs) == 0) ≡ false
some_length x xs = ne_eqb _ _ (λ none. absurd (omega (arith, none)))

-- the status after the text of items is that after the items
items_end : (datas : List Data) → diff_status (flat_map item_text datas) ≡ items_status datas
unfolding item_text
items_end [] = refl
items_end (d ∷ ds) =
    ap (λ (none : Bool). if none then 0 else 1) (some_length 44 _) ∙ sym (ap (λ (none : Bool). if none then 0 else 1) (some_length d ds))

-- the status after values is that after their data
pub values_end : (values : List Value) → (if length values == 0 then 0 else 1) ≡ items_status (map view values)
values_end [] = refl
values_end (v ∷ vs) =
    ap (λ (none : Bool). if none then 0 else 1) (some_length v vs)
    ∙ sym (ap (λ (none : Bool). if none then 0 else 1) (some_length (view v) (map view vs)))

-- an object with the items of the differences between two images is what a comparison by fields may come to
pub json_sight : (edition : Edition) (old new : NamedImage) (all : Bool) (items text : List ℕ) (status : ℕ) (shown : Shown)
    → IsDiffIn forms.Json edition old.bytes.items new.bytes.items all items
    → ((datas : List Data) → items ≡ flat_map item_text datas → text ≡ lines_json datas) → status ≡ diff_status items → IsSilent text status shown
    → IsSight (field_differences edition old new all forms.Json) (Ok shown)
json_sight edition old new all items text status shown is prints ends silent =
    let made = is.2.2 in (
      (
        made.0,
        (is.0, is.1, (is.2.0, is.2.1, made.1)),
        silent.0 ∙ prints made.0 made.2,
        silent.1 ∙ (ends ∙ (ap diff_status made.2 ∙ items_end made.0)),
      ),
      silent.2,
    )

-- a text that is printed with a status and lines may be named by equal ones
pub prints_same : (streams : Streams) (wanted asked : ℕ) (lines told text bytes : List ℕ) (status : ℕ) → wanted ≡ asked → lines ≡ told → text ≡ bytes
    → PrintsTelling wanted lines streams text status → PrintsTelling asked told streams bytes status
prints_same streams wanted asked lines told text bytes status same_status same_lines same_text prints =
    subst (λ n. PrintsTelling n told streams bytes status) same_status
    (subst (λ (ls : List ℕ). PrintsTelling wanted ls streams bytes status) same_lines
    (subst (λ (bs : List ℕ). PrintsTelling wanted lines streams bs status) same_text prints))
