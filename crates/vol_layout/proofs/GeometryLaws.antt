-- The geometry read from an image is the geometry that its super-block states.
use Rattle.std.proofs.Common.{◌≡◌, List, ℕ, true, false, Bool, if◌then◌else◌}
use Rattle.std.specs.Prelude.{Ok, Err}
use Rattle.vol_layout.specs.Geometry.{geometry_of, geometry_read, is_whole, is_bounded}
use Rattle.vol_layout.specs.declared.edition.Edition.{Edition}
use Rattle.vol_layout.specs.declared.geometry.Geometry.{Geometry}
use Rattle.vol_layout.specs.declared.geometry.GeometryFault.TheVariants.{Short, Bounds}

-- if reading succeeds, the result is the geometry stated by the super-block
read_by : (rules bounded : Bool) (geometry other : Geometry)
    → (if rules then (if bounded then Ok geometry else Err Bounds) else Err Short) ≡ Ok other → geometry ≡ other
read_by true true geometry other e = cc
read_by true false geometry other e = absurd (cc)
read_by false bounded geometry other e = absurd (cc)

pub geometry_is : (edition : Edition) (image : List ℕ) (geometry : Geometry) → geometry_read edition image ≡ Ok geometry → geometry_of edition image ≡ geometry
unfolding geometry_read
geometry_is edition image geometry e = read_by (is_whole edition image) (is_bounded edition image) (geometry_of edition image) geometry e

-- if rules 1 and 2 hold, reading returns the geometry stated by the super-block
pub read_whole : (edition : Edition) (image : List ℕ) → is_whole edition image ≡ true → is_bounded edition image ≡ true
    → geometry_read edition image ≡ Ok (geometry_of edition image)
unfolding geometry_read
read_whole edition image whole bounded = rw (whole, bounded)
