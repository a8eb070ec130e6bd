-- Images with the layout that a sweep was made for.
use Rattle.std.proofs.Common.{◌≡◌, ◌≢◌, ◌+◌, ◌*◌, ap, Bool, true, false, if◌then◌else◌, List, ℕ, nat_le, length, refl, Ok, Err, arith}
use Rattle.std.proofs.lemmas.Bool.{and_parts, leb-true}
use Rattle.vol_layout.specs.Geometry.{geometry_read, geometry_of, is_whole, is_bounded, block_count, Fits}
use Rattle.vol_layout.specs.declared.edition.Edition.{Edition}
use Rattle.vol_layout.specs.declared.geometry.Geometry.{Geometry}
use Rattle.vol_layout.specs.declared.geometry.GeometryFault.{GeometryFault}
use Rattle.vol_layout.specs.declared.geometry.GeometryFault.TheVariants.{Short, Bounds}
use Rattle.vol_judge.proofs.RuleNumbers.{read_sizes}
use Rattle.vol_check.specs.declared.checker.Checker.{Checker}
use Rattle.vol_check.specs.declared.checker.Checker.TheVariants.{Blocks, Entries, Names}
use Rattle.vol_check.specs.Shapes.{IsLaidOut, Layout}
use Rattle.vol_check.specs.Parts.{parts_before}
use Rattle.vol_check.specs.Layouts.{pieces_in}

-- a geometry that fits an image is within its bounds
pub laid_out : (g : Geometry) (image : List ℕ) → Fits g image → IsLaidOut g
laid_out g image fits = record { i_list = fits.i_list; zone = fits.zone; root = fits.root; limit = fits.limit }

whole : (w b : Bool) (g other : Geometry) → (if w then (if b then Ok g else Err Bounds) else Err Short) ≡ Ok other → w ≡ true
whole true b g other e = refl
whole false b g other e = absurd (cc)

-- a geometry that was read from an image and is within its bounds fits the image
pub read_fits : (edition : Edition) (image : List ℕ) (g : Geometry) → geometry_read edition image ≡ Ok g → IsLaidOut g → Fits g image
unfolding geometry_read
read_fits edition image g read bounds =
    let w = whole (is_whole edition image) (is_bounded edition image) (geometry_of edition image) g read in
    let parts = and_parts (nat_le 1024 (length image)) (nat_le (512 * block_count edition image) (length image)) w in
    let long = leb-true (512 * block_count edition image) (length image) parts.1 in
    let end = ap (λ k. k.zone_end) (read_sizes edition image g read) in
    record {
      blocks = omega (arith, long, end);
      i_list = bounds.i_list;
      zone = bounds.zone;
      root = bounds.root;
      limit = bounds.limit;
    }

-- the number of pieces is right in each case: without geometry, for blocks, and for directories
pub counted_in : (checker : Checker) (layout : Layout) (image : List ℕ) (pieces : ℕ) → ((g : Geometry) → layout ≡ Ok g → checker ≡ Blocks → pieces ≡ g.last_inode + 1)
    → ((g : Geometry) → layout ≡ Ok g → checker ≢ Blocks → pieces ≡ parts_before g image g.last_inode)
    → ((fault : GeometryFault) → layout ≡ Err fault → pieces ≡ 0) → pieces ≡ pieces_in checker layout image
counted_in Blocks (Ok g) image pieces blocks parts none = blocks g refl refl
counted_in Entries (Ok g) image pieces blocks parts none = parts g refl (λ e. absurd (let q : Entries ≡ Blocks = e in cc))
counted_in Names (Ok g) image pieces blocks parts none = parts g refl (λ e. absurd (let q : Names ≡ Blocks = e in cc))
counted_in checker (Err fault) image pieces blocks parts none = none fault refl
