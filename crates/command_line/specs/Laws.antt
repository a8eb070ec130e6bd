-- The words of `ls`.
use Rattle.std.specs.Prelude.{◌≡◌, ◌≢◌, ◌↔◌, ◌∷◌, ℕ, false, List, [], Option, slice_index, codes}
use Rattle.std.specs.Borrow.{Bor}
use Rattle.command_words.specs.Invocations.{IsEditionNamed}
use Rattle.command_words.specs.declared.invocation.Invocation.{Invocation}
use Rattle.command_words.specs.declared.invocation.Invocation.TheVariants as invocations
use Rattle.command_line.specs.CommandLine.{MetAsks}
use Rattle.command_line.specs.Words.{AreEditions, command_in, faults_of, unixvol_app}
use Rattle.vol_listing.specs.declared.options.Depth.TheVariants as depths
use Rattle.vol_listing.specs.declared.options.Lines.TheVariants as lines
use Rattle.command_terms.specs.declared.looks.Look.TheVariants as looks
use Rattle.vol_layout.specs.declared.edition.Edition.{Edition}

-- a word that doesn't begin with a hyphen (this project)
abbrev pub IsPlainWord : List ℕ → Type 0
IsPlainWord word = slice_index word 0 ≢ 45

-- the invocation lists the names in the directory at this path, each with its i-number, of the volume of this edition that begins with this file
-- (this project)
abbrev pub IsListing : Edition → List ℕ → List ℕ → Invocation → Type 0
IsListing edition image path (invocations.Look volume (looks.List directory listing)) =
    (volume.edition ≡ edition) × (volume.image.now ≡ image) × (directory.now ≡ path) × (listing.lines ≡ lines.Plain) × (listing.depth ≡ depths.Names)
    × (volume.at ≡ 0) × (volume.is_any ≡ false)
IsListing edition image path _ = ⊥

-- whatever the clock's time, clap accepts `ls`, an edition and two words that don't begin with a hyphen; they are read as that listing and as no
-- other invocation (this project)
abbrev pub ReadsListing : Type 0
ReadsListing = (clock : Option ℕ) (editions : Bor (List (Bor (List ℕ)))) → AreEditions editions → (edition : Edition) (program word image path : List ℕ)
    → IsEditionNamed edition word → IsPlainWord image → IsPlainWord path
    → (faults_of (unixvol_app editions) (program ∷ codes "ls" ∷ word ∷ image ∷ path ∷ []) ≡ [])
    × ((invocation : Invocation) → MetAsks clock (command_in (unixvol_app editions) (program ∷ codes "ls" ∷ word ∷ image ∷ path ∷ [])) invocation
    ↔ IsListing edition image path invocation)
