-- A new volume keeps all twelve rules.
use Rattle.std.proofs.Common.{◌≡◌, ℕ, ◌+◌, ◌-◌, List, Bool, true, false, if◌then◌else◌, refl, sym, ap, subst, Ok, Err}
use Rattle.std.specs.Prelude.{Result}
use Rattle.std.specs.List.{range_with_len}
use Rattle.vol_layout.specs.Geometry.{Fits, geometry_of, geometry_read, is_whole, is_bounded}
use Rattle.vol_layout.specs.declared.edition.Edition.{Edition}
use Rattle.vol_layout.specs.declared.geometry.Geometry.{Geometry}
use Rattle.vol_layout.specs.declared.geometry.GeometryFault.{GeometryFault}
use Rattle.vol_layout.specs.declared.geometry.GeometryFault.TheVariants.{Short, Bounds}
use Rattle.vol_file.specs.Rules.{Rules3To7With, IsCovered}
use Rattle.vol_dir.specs.Entries.{HasEntries}
use Rattle.vol_judge.specs.Directories.{HasDots, IsTree, HasLinks}
use Rattle.vol_judge.specs.Sound.{IsSound}
use Rattle.vol_judge.proofs.Parts.{sound_of}
use Rattle.vol_layout.proofs.GeometryLaws.{geometry_is}
use Rattle.vol_mkfs.specs.Mkfs.{IsMakeable, IsNewVolume}
use Rattle.vol_mkfs.proofs.NewSizes.{fits_makeable}
use Rattle.vol_mkfs.proofs.NewFiles
use Rattle.vol_mkfs.proofs.NewDirectories

-- the geometry that was read is the image's own, and rules 1 and 2 hold
pub record IsRead (edition : Edition) (image : List ℕ) (geometry : Geometry) : Type 0 where
  pub whole : is_whole edition image ≡ true
  pub bounded : is_bounded edition image ≡ true
  pub same : geometry_of edition image ≡ geometry

-- if reading the geometry succeeds, it is the image's own, and rules 1 and 2 hold
read_whole : (edition : Edition) (image : List ℕ) (geometry : Geometry) → geometry_read edition image ≡ Ok geometry → IsRead edition image geometry
unfolding geometry_read
read_whole edition image geometry read = go (is_whole edition image) (is_bounded edition image) refl refl read where
  is_ok : Result Geometry GeometryFault → Bool
  is_ok (Ok g) = true
  is_ok (Err fault) = false

  go : (whole bounded : Bool) → is_whole edition image ≡ whole → is_bounded edition image ≡ bounded
      → (if whole then (if bounded then Ok (geometry_of edition image) else Err Bounds) else Err Short) ≡ Ok geometry → IsRead edition image geometry
  go true true e f r = record { whole = e; bounded = f; same = geometry_is edition image geometry read }
  go true false e f r = let clash : false ≡ true = ap is_ok r in cc
  go false bounded e f r = let clash : false ≡ true = ap is_ok r in cc

-- a new volume is sound
pub new_sound : (geometry : Geometry) (uid gid now : ℕ) (image : List ℕ) → IsMakeable geometry → IsNewVolume geometry uid gid now image
    → IsSound geometry.edition image
new_sound geometry uid gid now image makeable new =
    let fits : Fits geometry image = fits_makeable geometry image makeable new.len in
    let start = makeable.start in
    let read : IsRead geometry.edition image geometry = read_whole geometry.edition image geometry new.sizes in
    let blocks = range_with_len (geometry.zone_start + 1) (geometry.zone_end - (geometry.zone_start + 1)) in
    let files : Rules3To7With geometry image blocks = record {
      fits = fits;
      kinds = NewFiles.new_kinds geometry uid gid now image new fits start;
      sizes = NewFiles.new_sizes geometry uid gid now image new fits start;
      zoned = NewFiles.new_zoned geometry uid gid now image new fits start;
      free = new.free;
      apart = NewFiles.new_apart geometry uid gid now image new fits start;
      outside = NewFiles.new_outside geometry uid gid now image new fits start blocks new.free;
    } in
    let covered : IsCovered geometry image blocks = NewFiles.new_covered geometry uid gid now image new fits start blocks new.free in
    sound_of geometry.edition image blocks read.whole read.bounded
    (subst (λ g. Rules3To7With g image blocks) (sym read.same) files)
    (subst (λ g. IsCovered g image blocks) (sym read.same) covered)
    (subst (λ g. HasEntries g image) (sym read.same) (NewDirectories.new_entries geometry uid gid now image new fits start))
    (subst (λ g. HasDots g image) (sym read.same) (NewDirectories.new_dots geometry uid gid now image new fits start))
    (subst (λ g. IsTree g image) (sym read.same) (NewDirectories.new_tree geometry uid gid now image new fits start))
    (subst (λ g. HasLinks g image) (sym read.same) (NewDirectories.new_links geometry uid gid now image new fits start))
