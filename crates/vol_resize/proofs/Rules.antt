-- The rules that a volume with another number of blocks keeps.
use Rattle.std.proofs.Common.{◌≡◌, ℕ, ◌+◌, ◌-◌, ◌*◌, ◌<◌, ◌≤◌, ◌∙◌, ap, sym, subst, refl, true, false, List, length, slice_index, None, inl, inr, arith}
use Rattle.std.proofs.lemmas.Bool.Decides.{nat_tests}
use Rattle.vol_layout.specs.Edition.{constants}
use Rattle.vol_layout.specs.Geometry.{Fits, geometry_of, in_zone, is_bounded, is_whole, block_count, list_size}
use Rattle.vol_layout.specs.BlockMaps.{has_places}
use Rattle.vol_layout.specs.BlockPointers.{IsFile, IsPlaceOf}
use Rattle.vol_layout.specs.declared.edition.Edition.{Edition}
use Rattle.vol_layout.specs.declared.edition.Edition.TheVariants.{V6, V7}
use Rattle.vol_layout.specs.declared.geometry.Geometry.{Geometry}
use Rattle.vol_file.specs.Rules.{HasKinds, HasSizes, IsZoned, IsApart}
use Rattle.vol_dir.specs.Entries.{IsDirectory, HasEntries}
use Rattle.vol_judge.specs.Directories.{HasDots, IsTree, HasLinks}
use Rattle.vol_judge.specs.Graph.{entry_by, graph_of, kind_in}
use Rattle.vol_judge.specs.GraphEdits.{IsSameGraph}
use Rattle.vol_judge.specs.Sound.{KeepsRules}
use Rattle.vol_judge.proofs.GraphParts.{is_directory}
use Rattle.vol_judge.proofs.ImageGraphs.{directory_from, other_by}
use Rattle.vol_judge.proofs.RuleNumbers.{judged}
use Rattle.vol_resize.specs.Resized.{with_blocks}
use Rattle.vol_resize.proofs.Bodies.{HasBoth, named_in}
use Rattle.vol_resize.proofs.States.{entry_same}

-- the graph of directories is the same
pub graph_in : (blocks : ℕ) (geometry : Geometry) (image : List ℕ) → HasBoth blocks geometry image
    → IsSameGraph (graph_of geometry image) (graph_of (with_blocks blocks geometry) image)
graph_in blocks geometry image both = record {
  kind = λ i. refl;
  links = λ i used. refl;
  size = λ d is. refl;
  entry = λ d s. elim (is_directory (kind_in geometry image d)) [
    | inl is ↦
        let directory : IsDirectory geometry image d = directory_from geometry image d is in
        let file : IsFile geometry image d = record { first = directory.first; last = directory.last; kind = ap has_places directory.kind } in
        ap (λ k. entry_by k (with_blocks blocks geometry) image d s) is
        ∙ (entry_same blocks geometry image d s both file ∙ sym (ap (λ k. entry_by k geometry image d s) is))
    | inr other ↦
        other_by (kind_in geometry image d) (with_blocks blocks geometry) image d s other
        ∙ sym (other_by (kind_in geometry image d) geometry image d s other)
  ];
}

-- a position in the block map of a file is the same
pub place_of : (blocks : ℕ) (geometry : Geometry) (image : List ℕ) (i : ℕ) (p : List ℕ) → IsPlaceOf (with_blocks blocks geometry) image i p → IsPlaceOf geometry image i p
place_of blocks geometry image i p is =
    record { file = record { first = is.file.first; last = is.file.last; kind = is.file.kind }; place = is.place }

-- rule 3 still holds
pub kinds_in : (blocks : ℕ) (geometry : Geometry) (image : List ℕ) → HasKinds geometry image → HasKinds (with_blocks blocks geometry) image
kinds_in blocks geometry image kinds = record { known = kinds.known; root = kinds.root; bad_blocks = kinds.bad_blocks }

-- rule 4 still holds
pub sizes_in : (blocks : ℕ) (geometry : Geometry) (image : List ℕ) → HasSizes geometry image → HasSizes (with_blocks blocks geometry) image
sizes_in blocks geometry image sizes = record {
  greatest = λ i file. sizes.greatest i (record { first = file.first; last = file.last; kind = file.kind });
  small = λ i file. sizes.small i (record { first = file.first; last = file.last; kind = file.kind });
  links = sizes.links;
}

-- rule 5 still holds
pub zoned_in : (blocks : ℕ) (geometry : Geometry) (image : List ℕ) → HasBoth blocks geometry image → IsZoned geometry image
    → IsZoned (with_blocks blocks geometry) image
zoned_in blocks geometry image both zoned = λ i p place some.
    let is = place_of blocks geometry image i p place in
    let same = named_in blocks geometry image i p both is in
    ap (in_zone (with_blocks blocks geometry)) same ∙ (both.named i p is ∙ zoned i p is (λ none. some (same ∙ none)))

-- rule 7 still holds for the blocks of files
pub apart_in : (blocks : ℕ) (geometry : Geometry) (image : List ℕ) → HasBoth blocks geometry image → IsApart geometry image
    → IsApart (with_blocks blocks geometry) image
apart_in blocks geometry image both apart = λ i j p q place other some e.
    let first = place_of blocks geometry image i p place in
    let second = place_of blocks geometry image j q other in
    let one = named_in blocks geometry image i p both first in
    let two = named_in blocks geometry image j q both second in
    apart i j p q first second (λ none. some (one ∙ none)) (sym one ∙ (e ∙ two))

-- the size of the i-list is the same
list_same : (old new : List ℕ) → ((k : ℕ) → k < 514 → slice_index new k ≡ slice_index old k) → list_size new ≡ list_size old
list_same old new front =
    let high : slice_index new 512 ≡ slice_index old 512 = front 512 (omega arith) in
    let low : slice_index new 513 ≡ slice_index old 513 = front 513 (omega arith) in
    omega (arith, high, low)

-- the geometry that the super-block states now
pub geometry_in : (edition : Edition) (blocks : ℕ) (old new : List ℕ) → ((k : ℕ) → k < 514 → slice_index new k ≡ slice_index old k)
    → block_count edition new ≡ blocks → geometry_of edition new ≡ with_blocks blocks (geometry_of edition old)
geometry_in V6 blocks old new front count =
    let list = list_same old new front in
    λ k. record { edition = V6; zone_start = list k + 2; zone_end = count k; last_inode = 16 * (list k + 2 - 2) }
geometry_in V7 blocks old new front count =
    let list = list_same old new front in
    λ k. record { edition = V7; zone_start = list k; zone_end = count k; last_inode = 8 * (list k - 2) }

-- rule 1 holds for an image of exactly this many blocks
pub whole_in : (edition : Edition) (blocks : ℕ) (new : List ℕ) → block_count edition new ≡ blocks → length new ≡ 512 * blocks → 2 ≤ blocks
    → is_whole edition new ≡ true
whole_in edition blocks new count len two = grind (arith, nat_tests)

-- rule 2 still holds
pub bounded_in : (edition : Edition) (blocks : ℕ) (old new : List ℕ) → ((k : ℕ) → k < 514 → slice_index new k ≡ slice_index old k)
    → block_count edition new ≡ blocks → is_bounded edition old ≡ true → (geometry_of edition old).zone_start < blocks
    → blocks ≤ (constants edition).block_limit → is_bounded edition new ≡ true
bounded_in V6 blocks old new front count bounded zone limit = let list = list_same old new front in grind (arith, nat_tests)
bounded_in V7 blocks old new front count bounded zone limit = let list = list_same old new front in grind (arith, nat_tests)

-- the geometry fits an image of exactly this many blocks
pub fits_in : (edition : Edition) (blocks : ℕ) (geometry : Geometry) (old new : List ℕ) → geometry.edition ≡ edition → Fits geometry old
    → length new ≡ 512 * blocks → geometry.zone_start < blocks → blocks ≤ (constants edition).block_limit → Fits (with_blocks blocks geometry) new
fits_in V6 blocks geometry old new is fits len zone limit =
    record { blocks = omega (arith, len); i_list = fits.i_list; zone = zone; root = fits.root; limit = rw is (omega (arith, limit)) }
fits_in V7 blocks geometry old new is fits len zone limit =
    record { blocks = omega (arith, len); i_list = fits.i_list; zone = zone; root = fits.root; limit = rw is (omega (arith, limit)) }

-- an image keeps the rules that aren't about the free list
pub rules_by : (edition : Edition) (geometry : Geometry) (image : List ℕ) → geometry_of edition image ≡ geometry → is_whole edition image ≡ true
    → is_bounded edition image ≡ true → HasKinds geometry image → HasSizes geometry image → IsZoned geometry image → IsApart geometry image
    → HasEntries geometry image × HasDots geometry image × IsTree geometry image × HasLinks geometry image → KeepsRules false edition image
rules_by edition geometry image same whole bounded kinds sizes zoned apart graph =
    judged false edition image None
    (inr (
      tt,
      inr (
        whole,
        inr (
          bounded,
          inr (
            subst (λ g. HasKinds g image) (sym same) kinds,
            inr (
              subst (λ g. HasSizes g image) (sym same) sizes,
              inr (
                subst (λ g. IsZoned g image) (sym same) zoned,
                inr (
                  tt,
                  inr (
                    (subst (λ g. IsApart g image) (sym same) apart, tt),
                    inr (
                      tt,
                      inr (
                        subst (λ g. HasEntries g image) (sym same) graph.0,
                        inr (
                          subst (λ g. HasDots g image) (sym same) graph.1,
                          inr (
                            subst (λ g. IsTree g image) (sym same) graph.2,
                            inr (subst (λ g. HasLinks g image) (sym same) graph.3, refl),
                          ),
                        ),
                      ),
                    ),
                  ),
                ),
              ),
            ),
          ),
        ),
      ),
    ))
