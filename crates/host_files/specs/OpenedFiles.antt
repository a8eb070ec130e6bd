-- The file of an image that a command changes.
use Rattle.std.specs.Prelude.{◌≢◌, ◌*◌, ℕ, List, Option}
use Rattle.vol_layout.specs.declared.edition.Edition.{Edition}
use Rattle.host_files.specs.Packs.{IsReadFrom}
use Rattle.host_files.specs.declared.image_file.FileKind.TheVariants as kinds
use Rattle.host_files.specs.declared.image_file.Stamp.{Stamp}
use Rattle.host_files.specs.declared.image_file.Try.{Try}
use Rattle.host_files.specs.declared.image_file.Try.TheVariants.{Open}
use Rattle.host_files.specs.declared.volume_front.UpTo.TheVariants.{Volume}

-- the system reported this stamp for an open file, and it isn't a pipe, socket or terminal (this project)
abbrev pub OpensTo : {F : Type 0} → (F → Stamp → Type 0) → F → Stamp → Type 0
OpensTo had file stamp = had file stamp × (stamp.kind ≢ kinds.Stream)

-- if a try opened a file, the system reported this stamp for it, and it isn't a pipe, socket or terminal (this project)
abbrev pub IsOpenTo : {F : Type 0} → (F → Stamp → Type 0) → Try F → Type 0
IsOpenTo had (Open file stamp) = OpensTo had file stamp
IsOpenTo had _ = Unit {0}

-- this image was read, as that of a volume at block `at`, from an open file for which the system reported this stamp (this project)
abbrev pub IsOpened : {F : Type 0} → ℕ → Edition → (F → Option (List ℕ)) → (F → Stamp → Type 0) → List ℕ → Stamp → Type 0
IsOpened {F} at edition remaining had image stamp =
    (old : F) × (new : F) × OpensTo had old stamp × IsReadFrom (512 * at) (Volume edition) (remaining old) (remaining new) image
