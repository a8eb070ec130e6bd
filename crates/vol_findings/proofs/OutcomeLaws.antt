-- The outcome of each rule, from the findings.
use Rattle.std.proofs.Common.{◌≡◌, ◌⊎◌, inl, inr, ℕ, Bool, true, false, if◌then◌else◌, List, Option, None, Some, Result, Ok, Err, IfOk, refl, sym, subst}
use Rattle.std.specs.declared.alloc.AllocError.{AllocError}
use Rattle.vol_layout.specs.Geometry.{geometry_of, geometry_read, is_whole, is_bounded}
use Rattle.vol_layout.specs.declared.edition.Edition.{Edition}
use Rattle.vol_layout.specs.declared.geometry.Geometry.{Geometry}
use Rattle.vol_layout.specs.declared.geometry.GeometryFault.TheVariants.{Short, Bounds}
use Rattle.vol_free.specs.Stack.{HasStack}
use Rattle.vol_file.specs.Rules.{HasKinds, HasSizes, IsZoned, IsApart}
use Rattle.vol_dir.specs.Entries.{HasEntries}
use Rattle.vol_judge.specs.Directories.{HasDots, IsTree, HasLinks}
use Rattle.vol_judge.specs.Sound.{Rule, IsNoneLost}
use Rattle.vol_judge.specs.Dots.{IsFirstDots}
use Rattle.vol_judge.specs.Entries.{IsFirstEntry}
use Rattle.vol_judge.specs.FreeList.{IsFirstFault}
use Rattle.vol_judge.specs.INodes.{IsFirstKind, IsFirstSize}
use Rattle.vol_judge.specs.Links.{IsFirstLink}
use Rattle.vol_judge.specs.Lost.{IsFirstUncovered}
use Rattle.vol_judge.specs.SharedBlocks.{IsUsedOnce, IsFirstTwice}
use Rattle.vol_judge.specs.DirectoryTree.{IsFirstTree}
use Rattle.vol_judge.specs.OutsideBlocks.{IsFirstOutside}
use Rattle.vol_judge.specs.Finds.{Finds}
use Rattle.vol_findings.specs.Outcomes.{Says, outcome_of, IsTwiceUnasked, TellsVolume, Tells, Keeps, HasGeometry}
use Rattle.vol_judge.specs.declared.finding.Finding.{Finding}
use Rattle.vol_judge.specs.declared.finding.Finding.TheVariants.{TooShort, BadSizes}
use Rattle.vol_findings.specs.declared.outcome.RuleOutcome.{RuleOutcome}
use Rattle.vol_findings.specs.declared.outcome.RuleOutcome.TheVariants.{Holds, Broken, NotAsked, Lost, Unbroken}
use Rattle.vol_findings.specs.declared.outcome.RuleOutcomes.{RuleOutcomes}

-- the result of a search for the first violation gives the right outcome if there is no reason not to check the rule
said : (rule : Type 0) (first : Finding → Type 0) (reason : Type 0) (found : Option Finding) → (reason → ⊥) → Finds rule first found
    → Says rule first reason (outcome_of found)
said rule first reason None asked finds = (finds, asked)
said rule first reason (Some finding) asked finds = (finds.0, finds.1, asked)

-- an outcome equal to the result of a search is right if there is no reason not to check the rule
pub said_as : (rule : Type 0) (first : Finding → Type 0) (reason : Type 0) (found : Option Finding) (outcome : RuleOutcome) → (reason → ⊥)
    → Finds rule first found → outcome ≡ outcome_of found → Says rule first reason outcome
said_as rule first reason found outcome asked finds is = subst (Says rule first reason) (sym is) (said rule first reason found asked finds)

-- the reason of an outcome may be replaced by an equivalent one
said_for : (rule : Type 0) (first : Finding → Type 0) (reason other : Type 0) (outcome : RuleOutcome) → (reason → other) → (other → reason)
    → Says rule first reason outcome → Says rule first other outcome
said_for rule first reason other Holds from back says = (says.0, λ there. says.1 (back there))
said_for rule first reason other (Broken finding) from back says = (says.0, says.1, λ there. says.2 (back there))
said_for rule first reason other NotAsked from back says = from says
said_for rule first reason other (Lost count number) from back says = elim says [ ]
said_for rule first reason other Unbroken from back says = elim says [ ]

-- if `one` implies `other`, then `one` or `second` implies `other` or `second`
first_for : (one other second : Type 0) → (one → other) → one ⊎ second → other ⊎ second
first_for one other second from (inl there) = inl (from there)
first_for one other second from (inr there) = inr there

-- if reading the geometry fails with Short, the image doesn't satisfy rule 1
chosen_short : (w b : Bool) (g : Geometry) → (if w then (if b then Ok g else Err Bounds) else Err Short) ≡ Err Short → w ≡ true → ⊥
chosen_short true true g e whole = cc
chosen_short true false g e whole = cc
chosen_short false b g e whole = cc

chosen_bounds : (w b : Bool) (g : Geometry) → (if w then (if b then Ok g else Err Bounds) else Err Short) ≡ Err Bounds
    → (w ≡ true) × (b ≡ true → ⊥)
chosen_bounds true true g e = absurd (cc)
chosen_bounds true false g e = (refl, λ bounded. cc)
chosen_bounds false b g e = absurd (cc)

chosen_ok : (w b : Bool) (g other : Geometry) → (if w then (if b then Ok g else Err Bounds) else Err Short) ≡ Ok other
    → (w ≡ true) × (b ≡ true) × (g ≡ other)
chosen_ok true true g other e = (refl, refl, cc)
chosen_ok true false g other e = absurd (cc)
chosen_ok false b g other e = absurd (cc)

-- the outcomes for an image without a geometry
abbrev unread : RuleOutcome → RuleOutcome → RuleOutcomes
unread whole bounded = record {
  whole = whole;
  bounded = bounded;
  kinds = NotAsked;
  sizes = NotAsked;
  zoned = NotAsked;
  listed = NotAsked;
  apart = NotAsked;
  covered = NotAsked;
  entries = NotAsked;
  dots = NotAsked;
  tree = NotAsked;
  links = NotAsked;
}

-- the outcomes of an image that is too short
pub tells_short : (edition : Edition) (image : List ℕ) → geometry_read edition image ≡ Err Short → Tells edition image (unread (Broken TooShort) NotAsked)
unfolding geometry_read Rule
tells_short edition image e =
    let fails = chosen_short (is_whole edition image) (is_bounded edition image) (geometry_of edition image) e in
    record {
      whole = (refl, fails, λ none. none);
      bounded = fails;
      kinds = λ has. fails has.0;
      sizes = λ has. fails has.0;
      zoned = λ has. fails has.0;
      listed = λ has. fails has.0;
      apart = inl (λ has. fails has.0.0);
      covered = λ has. fails has.0.0;
      entries = λ has. fails has.0;
      dots = λ has. fails has.0.0;
      tree = λ has. fails has.0;
      links = λ has. fails has.0;
    }

-- the outcomes of an image whose sizes aren't within their limits
pub tells_bounds : (edition : Edition) (image : List ℕ) → geometry_read edition image ≡ Err Bounds → Tells edition image (unread Holds (Broken BadSizes))
unfolding geometry_read Rule
tells_bounds edition image e =
    let chosen = chosen_bounds (is_whole edition image) (is_bounded edition image) (geometry_of edition image) e in
    record {
      whole = (chosen.0, λ none. none);
      bounded = (refl, chosen.1, λ fails. fails chosen.0);
      kinds = λ has. chosen.1 has.1;
      sizes = λ has. chosen.1 has.1;
      zoned = λ has. chosen.1 has.1;
      listed = λ has. chosen.1 has.1;
      apart = inl (λ has. chosen.1 has.0.1);
      covered = λ has. chosen.1 has.0.1;
      entries = λ has. chosen.1 has.1;
      dots = λ has. chosen.1 has.0.1;
      tree = λ has. chosen.1 has.1;
      links = λ has. chosen.1 has.1;
    }

-- the outcomes of an image with a geometry are those of its volume
tells_own : (edition : Edition) (image : List ℕ) (found : RuleOutcomes) → is_whole edition image ≡ true → is_bounded edition image ≡ true
    → TellsVolume (geometry_of edition image) image found → Tells edition image found
unfolding Rule
tells_own edition image found whole bounded volume =
    let g = geometry_of edition image in
    let Unread : Type 0 = HasGeometry edition image → ⊥ in
    let read : HasGeometry edition image = (whole, bounded) in
    let asked : Unread → ⊥ = λ unread. unread read in
    record {
      whole = subst (Says (is_whole edition image ≡ true) (λ finding. finding ≡ TooShort) ⊥) (sym volume.whole) (whole, λ none. none);
      bounded = subst (Says (is_bounded edition image ≡ true) (λ finding. finding ≡ BadSizes) (is_whole edition image ≡ true → ⊥)) (sym volume.bounded)
          (bounded, λ fails. fails whole);
      kinds = said_for (HasKinds g image) (IsFirstKind g image) ⊥ Unread found.kinds (λ none. absurd none) asked volume.kinds;
      sizes = said_for (HasSizes g image) (IsFirstSize g image) ⊥ Unread found.sizes (λ none. absurd none) asked volume.sizes;
      zoned = said_for (IsZoned g image) (IsFirstOutside g image) ⊥ Unread found.zoned (λ none. absurd none) asked volume.zoned;
      listed = said_for (HasStack g image) (IsFirstFault g image) ⊥ Unread found.listed (λ none. absurd none) asked volume.listed;
      apart = said_for (IsUsedOnce g image) (IsFirstTwice g image) (IsTwiceUnasked g image)
          ((HasGeometry edition image × Keeps edition image 5 → ⊥) ⊎ (IsApart g image × (Keeps edition image 6 → ⊥))) found.apart
          (first_for (IsZoned g image → ⊥) (HasGeometry edition image × Keeps edition image 5 → ⊥) (IsApart g image × (HasStack g image → ⊥))
          (λ fails has. fails has.1))
          (first_for (HasGeometry edition image × Keeps edition image 5 → ⊥) (IsZoned g image → ⊥) (IsApart g image × (HasStack g image → ⊥))
          (λ fails zoned. fails (read, zoned))) volume.apart;
      covered = said_for (IsNoneLost g image) (IsFirstUncovered g image) (HasStack g image → ⊥) (HasGeometry edition image × Keeps edition image 6 → ⊥)
          found.covered (λ fails has. fails has.1) (λ fails stack. fails (read, stack)) volume.covered;
      entries = said_for (HasEntries g image) (IsFirstEntry g image) ⊥ Unread found.entries (λ none. absurd none) asked volume.entries;
      dots = said_for (HasDots g image) (IsFirstDots g image) (HasEntries g image → ⊥) (HasGeometry edition image × Keeps edition image 9 → ⊥) found.dots
          (λ fails has. fails has.1) (λ fails entries. fails (read, entries)) volume.dots;
      tree = said_for (IsTree g image) (IsFirstTree g image) ⊥ Unread found.tree (λ none. absurd none) asked volume.tree;
      links = said_for (HasLinks g image) (IsFirstLink g image) ⊥ Unread found.links (λ none. absurd none) asked volume.links;
    }

pub tells_volume : (edition : Edition) (image : List ℕ) (g : Geometry) (found : RuleOutcomes) → geometry_read edition image ≡ Ok g
    → TellsVolume g image found → Tells edition image found
unfolding geometry_read
tells_volume edition image g found e volume =
    let chosen = chosen_ok (is_whole edition image) (is_bounded edition image) (geometry_of edition image) g e in
    tells_own edition image found chosen.0 chosen.1 (subst (λ x. TellsVolume x image found) (sym chosen.2) volume)

-- the outcomes for the volume of an image with a geometry are those of the image, if memory doesn't run out
pub if_tells : (edition : Edition) (image : List ℕ) (g : Geometry) (result : Result RuleOutcomes AllocError) → geometry_read edition image ≡ Ok g
    → IfOk result (TellsVolume g image) → IfOk result (Tells edition image)
if_tells edition image g (Ok found) e tells = tells_volume edition image g found e tells
if_tells edition image g (Err refused) e tells = tt
