-- Soundness of an image: twelve rules. The first that fails is reported.
use Rattle.std.specs.Prelude.{◌≡◌, ℕ, zero, suc, ◌<◌, Bool, true, false, List, [], ◌∷◌, ◌++◌, Option, None, Some}
use Rattle.vol_layout.specs.Geometry.{geometry_of, is_whole, is_bounded}
use Rattle.vol_free.specs.Stack.{IsFree, HasStack}
use Rattle.vol_file.specs.Rules.{HasKinds, HasSizes, IsZoned, IsApart, IsOutside, IsCovered}
use Rattle.vol_dir.specs.Entries.{HasEntries}
use Rattle.vol_judge.specs.Directories.{HasDots, IsTree, HasLinks}
use Rattle.vol_layout.specs.declared.edition.Edition.{Edition}
use Rattle.vol_layout.specs.declared.geometry.Geometry.{Geometry}

-- rule 7, for the free list: no file uses a free block (icheck)
abbrev pub IsFreeApart : Geometry → List ℕ → Type 0
IsFreeApart geometry image = (blocks : List ℕ) → IsFree geometry image blocks → IsOutside geometry image blocks

-- rule 8: each data block is used by a file or is in the free list (icheck)
abbrev pub IsNoneLost : Geometry → List ℕ → Type 0
IsNoneLost geometry image = (blocks : List ℕ) → IsFree geometry image blocks → IsCovered geometry image blocks

-- the fact itself if it is checked, otherwise a fact that always holds (this project)
abbrev pub Asked : Bool → Type 0 → Type 0
Asked true fact = fact
Asked false fact = Unit {0}

-- rules 6 to 8; if the free list isn't checked, without the requirements on it (icheck)
abbrev pub free_rules : Bool → Geometry → List ℕ → List (Type 0)
free_rules free geometry image =
    Asked free (HasStack geometry image)
    ∷ (IsApart geometry image × Asked free (IsFreeApart geometry image))
    ∷ Asked free (IsNoneLost geometry image)
    ∷ []

-- rules 5 to 8 (icheck)
abbrev pub block_rules : Bool → Geometry → List ℕ → List (Type 0)
block_rules free geometry image = IsZoned geometry image ∷ free_rules free geometry image

-- rules 9 to 12 (dcheck, ncheck)
abbrev pub directory_rules : Geometry → List ℕ → List (Type 0)
directory_rules geometry image =
    HasEntries geometry image
    ∷ HasDots geometry image
    ∷ IsTree geometry image
    ∷ HasLinks geometry image
    ∷ []

-- rules 3 to 12 (this project)
abbrev pub volume_rules : Bool → Geometry → List ℕ → List (Type 0)
volume_rules free geometry image =
    HasKinds geometry image
    ∷ HasSizes geometry image
    ∷ (block_rules free geometry image ++ directory_rules geometry image)

-- all rules in order, after a rule 0 that always holds; if the free list isn't checked, without the requirements on it (this project)
abbrev pub rules : Bool → Edition → List ℕ → Geometry → List (Type 0)
rules free edition image geometry =
    Unit {0}
    ∷ (is_whole edition image ≡ true)
    ∷ (is_bounded edition image ≡ true)
    ∷ volume_rules free geometry image

-- fact n of a list, or, past its end, a fact that always holds (this project)
abbrev pub nth_fact : List (Type 0) → ℕ → Type 0
nth_fact [] n = Unit {0}
nth_fact (fact ∷ facts) zero = fact
nth_fact (fact ∷ facts) (suc n) = nth_fact facts n

-- rule n of an image (this project)
unfoldable pub Rule : Bool → Edition → List ℕ → ℕ → Type 0
Rule free edition image n = nth_fact (rules free edition image (geometry_of edition image)) n

-- all rules that are checked hold (icheck, dcheck)
abbrev pub KeepsRules : Bool → Edition → List ℕ → Type 0
KeepsRules free edition image = (n : ℕ) → Rule free edition image n

-- all twelve rules hold (icheck, dcheck)
abbrev pub IsSound : Edition → List ℕ → Type 0
IsSound edition image = KeepsRules true edition image

-- n is the first rule that fails (this project)
pub record IsLeastBroken (free : Bool) (edition : Edition) (image : List ℕ) (n : ℕ) : Type 0 where
  pub broken : Rule free edition image n → ⊥
  pub before : (m : ℕ) → m < n → Rule free edition image m

-- the result of judging an image: the first rule that fails, or None if all hold (this project)
abbrev pub IsJudged : Bool → Edition → List ℕ → Option ℕ → Type 0
IsJudged free edition image None = KeepsRules free edition image
IsJudged free edition image (Some n) = IsLeastBroken free edition image n
