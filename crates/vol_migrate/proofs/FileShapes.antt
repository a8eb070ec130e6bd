-- The logical blocks of a file of the sixth edition, and its shape.
use Rattle.std.proofs.Common.{◌≡◌, ◌≢◌, ◌∙◌, sym, ap, subst, refl, ℕ, ◌-◌, ◌≤◌, eqb, true, false, not, List, None, Some, arith}
use Rattle.std.specs.Prelude.{◌&&◌}
use Rattle.std.specs.Option.{option_map_or}
use Rattle.std.proofs.lemmas.Bool.{eq-eqb, ne_eqb}
use Rattle.vol_layout.specs.Edition.{constants}
use Rattle.vol_layout.specs.Inode.{is_large, kind_of}
use Rattle.vol_layout.specs.BlockPointers.{IsFile, form_at, mode_of, named, stored}
use Rattle.vol_layout.specs.BlockMaps.{form_of, has_places, last_place}
use Rattle.vol_layout.specs.declared.edition.Edition.{Edition}
use Rattle.vol_layout.specs.declared.edition.Edition.TheVariants.{V6}
use Rattle.vol_layout.specs.declared.geometry.Geometry.{Geometry}
use Rattle.vol_layout.specs.declared.mode.Kind.{Kind}
use Rattle.vol_layout.specs.declared.mode.Kind.TheVariants as kinds
use Rattle.vol_layout.specs.declared.block_map.BlockMap.{BlockMap}
use Rattle.vol_layout.proofs.PlaceLaws.{last_leaf}
use Rattle.vol_file.specs.Changes.{whole_blocks}
use Rattle.vol_file.specs.Holes.{IsNextStored}
use Rattle.vol_file.specs.Rules.{HasSizes, kind_at, size_of}
use Rattle.vol_file.specs.Shape.{is_named}
use Rattle.vol_dir.specs.Tree.{Shape, form_in, is_place, is_named_place, shapes, shape_of, no_shape}
use Rattle.vol_dir.proofs.PlaceTests.{place_test}
use Rattle.vol_change.proofs.FreeCounts.{form_shape}
use Rattle.vol_change.proofs.States.{shape_here}
use Rattle.vol_migrate.specs.Raised.{names_block}
use Rattle.vol_migrate.specs.Stages.{ComesAfter, file_need, places_for}
use Rattle.vol_migrate.proofs.CarriedBlocks.{none_needed}

-- a shape has the positions of i-node `i` that point to blocks, and its flag for large files
pub record IsShapeOf (geometry : Geometry) (image : List ℕ) (i : ℕ) (shape : Shape) : Type 0 where
  pub names : shape.names ≡ is_named_place geometry image i
  pub large : shape.large ≡ is_large geometry.edition (mode_of geometry image i)

-- the shape of each kind with a block map satisfies `IsShapeOf`
shape_by : (geometry : Geometry) (image : List ℕ) (i : ℕ) (kind : Kind) → has_places kind ≡ true → IsShapeOf geometry image i (shape_of geometry image i kind)
shape_by geometry image i kinds.Regular file = record { names = refl; large = refl }
shape_by geometry image i kinds.Directory file = record { names = refl; large = refl }
shape_by geometry image i kinds.Free file = absurd (cc)
shape_by geometry image i kinds.Special file = absurd (cc)
shape_by geometry image i kinds.Odd file = absurd (cc)

-- the shape of each file satisfies `IsShapeOf`
pub shape_file : (geometry : Geometry) (image : List ℕ) (i : ℕ) → IsFile geometry image i → IsShapeOf geometry image i (shapes geometry image i)
shape_file geometry image i file =
    subst (IsShapeOf geometry image i) (sym (shape_here geometry image i file.first file.last))
    (shape_by geometry image i (kind_at geometry image i) file.kind)

-- a kind without a block map has the empty shape
bare_by : (geometry : Geometry) (image : List ℕ) (i : ℕ) (kind : Kind) → has_places kind ≡ false → shape_of geometry image i kind ≡ no_shape
bare_by geometry image i kinds.Free bare = refl
bare_by geometry image i kinds.Special bare = refl
bare_by geometry image i kinds.Odd bare = refl
bare_by geometry image i kinds.Regular bare = absurd (cc)
bare_by geometry image i kinds.Directory bare = absurd (cc)

-- an i-node that isn't a file needs no positions
pub bare_need : (geometry : Geometry) (image : List ℕ) (i : ℕ) → 1 ≤ i → i ≤ geometry.last_inode → has_places (kind_at geometry image i) ≡ false
    → file_need geometry image i ≡ 0
bare_need geometry image i first last bare =
    ap (λ shape. places_for shape (whole_blocks (size_of geometry image i)))
    (shape_here geometry image i first last ∙ bare_by geometry image i (kind_at geometry image i) bare)
    ∙ none_needed (whole_blocks (size_of geometry image i))

-- the last position on the path of a logical block points to a block if a number is stored for that block
names_last : (geometry : Geometry) (image : List ℕ) (i : ℕ) (form : BlockMap) (b : ℕ) → form_at geometry image i ≡ form
    → option_map_or (is_named_place geometry image i) (last_place form b) false ≡ not (eqb (stored geometry image i form b) 0)
names_last geometry image i form b is =
    elim (last_place form b) as (λ o. last_place form b ≡ o
    → option_map_or (is_named_place geometry image i) o false ≡ not (eqb (option_map_or (named geometry image i) o 0) 0)) [
      | None ↦ λ e. refl
      | Some p ↦ λ e.
          let place : is_place (form_at geometry image i) p ≡ true =
          ap (λ f. is_place f p) is ∙ place_test form p (last_leaf form b p e).place in
          ap (λ t. t && is_named geometry image i p) place
    ] refl

-- the form of a file's block map in the sixth edition follows from its flag for large files
form_sixth : (edition : Edition) (mode : ℕ) → edition ≡ V6 → has_places (kind_of edition mode) ≡ true
    → form_in V6 (is_large edition mode) ≡ form_of edition mode
form_sixth edition mode sixth file = ap (λ e. form_in e (is_large edition mode)) (sym sixth) ∙ form_shape edition mode file

-- a shape has a logical block of a file of the sixth edition if and only if a number is stored for it
pub names_stored : (geometry : Geometry) (image : List ℕ) (i b : ℕ) → geometry.edition ≡ V6 → IsFile geometry image i
    → names_block (shapes geometry image i) b ≡ not (eqb (stored geometry image i (form_at geometry image i) b) 0)
names_stored geometry image i b sixth file =
    let shape = shape_file geometry image i file in
    ap (λ names. option_map_or names (last_place (form_in V6 (shapes geometry image i).large) b) false) shape.names
    ∙ (ap (λ large. option_map_or (is_named_place geometry image i) (last_place (form_in V6 large) b) false) shape.large
    ∙ (ap (λ form. option_map_or (is_named_place geometry image i) (last_place form b) false)
    (form_sixth geometry.edition (mode_of geometry image i) sixth file.kind)
    ∙ names_last geometry image i (form_at geometry image i) b refl))

-- a logical block for which 0 is stored is a hole
pub names_hole : (geometry : Geometry) (image : List ℕ) (i b : ℕ) → geometry.edition ≡ V6 → IsFile geometry image i
    → stored geometry image i (form_at geometry image i) b ≡ 0 → names_block (shapes geometry image i) b ≡ false
names_hole geometry image i b sixth file none = names_stored geometry image i b sixth file ∙ ap not (eq-eqb _ 0 none)

-- a logical block for which another number is stored is in the shape
pub names_some : (geometry : Geometry) (image : List ℕ) (i b : ℕ) → geometry.edition ≡ V6 → IsFile geometry image i
    → stored geometry image i (form_at geometry image i) b ≢ 0 → names_block (shapes geometry image i) b ≡ true
names_some geometry image i b sixth file some = names_stored geometry image i b sixth file ∙ ap not (ne_eqb _ 0 some)

-- the next stored logical block comes after the last one
pub comes_after : (geometry : Geometry) (image : List ℕ) (i passed end b : ℕ) → geometry.edition ≡ V6 → IsFile geometry image i
    → IsNextStored geometry image i (form_at geometry image i) passed end b
    → (1 ≤ passed → names_block (shapes geometry image i) (passed - 1) ≡ true) → ComesAfter (shapes geometry image i) b passed
comes_after geometry image i passed end b sixth file next last = record {
  order = next.reached;
  last = last;
  holes = λ c from to. names_hole geometry image i c sixth file (next.hole c from to);
}

-- a file of the sixth edition has at most 32,768 logical blocks
pub few_blocks : (geometry : Geometry) (image : List ℕ) (i : ℕ) → geometry.edition ≡ V6 → HasSizes geometry image → IsFile geometry image i
    → whole_blocks (size_of geometry image i) ≤ 32768
few_blocks geometry image i sixth sizes file =
    let size = sizes.greatest i file in
    let limit : (constants geometry.edition).greatest ≡ 16777215 = ap (λ e. (constants e).greatest) sixth in
    omega (arith, size, limit)
