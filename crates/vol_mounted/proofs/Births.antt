-- How often i-numbers were allocated: no request lowers it, and a new node raises it.
use Rattle.std.proofs.Common.{◌≡◌, ◌≢◌, ◌∙◌, sym, ap, subst, refl, ℕ, zero, suc, ◌+◌, ◌-◌, ◌^◌, ◌<◌, ◌≤◌, ◌==◌, arith, Bool, true, false, List, [], ◌∷◌, length, Option, None, Some, Result, Ok, Err, inl, inr, slice_get, slice_set}
use Rattle.std.specs.Prelude.{nat_lt, ◌||◌, if◌then◌else◌}
use Rattle.std.specs.Option.{is_some, option_map_or}
use Rattle.std.proofs.lemmas.Bool.{cases_eq}
use Rattle.std.proofs.lemmas.Bool.Decides.{nat_tests}
use Rattle.std.proofs.lemmas.List.{length-set}
use Rattle.std.proofs.lemmas.Option.{slice_get_cases, slice_get_within}
use Rattle.fuse_words.specs.declared.operation.Operation.{Operation}
use Rattle.fuse_words.specs.declared.operation.Operation.TheVariants as operations
use Rattle.fuse_words.specs.declared.request.Header.{Header}
use Rattle.vol_layout.specs.Edition.{constants}
use Rattle.vol_layout.specs.declared.geometry.Geometry.{Geometry}
use Rattle.vol_dir.specs.Names.{is_dots}
use Rattle.vol_dir.specs.Tree.{tree}
use Rattle.vol_serve.specs.Nodes.{stat_in, look_up}
use Rattle.vol_serve.specs.declared.nodes.fault.NodeFault.{NodeFault}
use Rattle.vol_volume.specs.declared.queries.Stat.{Stat}
use Rattle.vol_mounted.specs.Numbers.{birth_at, i_number, with_known, met, born, opened, closed}
use Rattle.vol_mounted.specs.Paths.{place_of}
use Rattle.vol_mounted.specs.Records.{found_by, found_in, found, is_file, opened_in, closed_in, settled, place_for, leads_there, met_at, met_again, after_loss, remembered}
use Rattle.vol_mounted.specs.declared.known.KnownNode.{KnownNode}

-- there are as many records as before, and no i-number has fewer births
pub record IsLater (old new : List KnownNode) : Type 0 where
  pub count : length new ≡ length old
  pub births : (j : ℕ) → birth_at old j ≤ birth_at new j

pub later_same : (nodes : List KnownNode) → IsLater nodes nodes
later_same nodes = record { count = refl; births = λ j. omega arith }

pub later_then : (old mid new : List KnownNode) → IsLater old mid → IsLater mid new → IsLater old new
later_then old mid new first second = record {
  count = second.count ∙ first.count;
  births = λ j. let one = first.births j in let two = second.births j in omega (arith, one, two);
}

-- the record that was set, and the others
set_here : (nodes : List KnownNode) (i : ℕ) (known : KnownNode) → i < length nodes → slice_get (slice_set nodes i known) i ≡ Some known
set_here [] i known low = absurd (omega (arith, low))
set_here (first ∷ nodes) zero known low = refl
set_here (first ∷ nodes) (suc i) known low = set_here nodes i known (omega (arith, low))

set_beside : (nodes : List KnownNode) (i j : ℕ) (known : KnownNode) → j ≢ i → slice_get (slice_set nodes i known) j ≡ slice_get nodes j
set_beside [] i j known other = refl
set_beside (first ∷ nodes) zero zero known other = absurd (other refl)
set_beside (first ∷ nodes) zero (suc j) known other = refl
set_beside (first ∷ nodes) (suc i) zero known other = refl
set_beside (first ∷ nodes) (suc i) (suc j) known other = set_beside nodes i j known (λ same. other (ap (λ (k : ℕ). suc k) same))

-- the births in a record, or 0
abbrev births_of : Option KnownNode → ℕ
births_of known = option_map_or (λ (known : KnownNode). known.birth) known 0

-- the births after one record changed
changed_birth : (nodes : List KnownNode) (i : ℕ) (change : KnownNode → KnownNode) (known : KnownNode) → slice_get nodes i ≡ Some known
    → birth_at (with_known nodes i change) i ≡ (change known).birth
changed_birth nodes i change known is =
    ap (λ (got : Option KnownNode). birth_at (option_map_or (λ (known : KnownNode). slice_set nodes i (change known)) got nodes) i) is
    ∙ ap births_of (set_here nodes i (change known) (slice_get_within nodes i known is))

-- a change of a record that doesn't lower its births
pub known_later : (nodes : List KnownNode) (i : ℕ) (change : KnownNode → KnownNode) → ((known : KnownNode) → known.birth ≤ (change known).birth)
    → IsLater nodes (with_known nodes i change)
known_later nodes i change more = by (slice_get nodes i) refl
  where
    by : (got : Option KnownNode) → slice_get nodes i ≡ got
        → IsLater nodes (option_map_or (λ (known : KnownNode). slice_set nodes i (change known)) got nodes)
    by None is = later_same nodes
    by (Some known) is = record {
      count = length-set nodes i (change known);
      births = λ j. elim (cases_eq j i) [
        | inl here ↦
            let old : birth_at nodes i ≡ known.birth = ap births_of is in
            let new : birth_at (slice_set nodes i (change known)) i ≡ (change known).birth =
            ap births_of (set_here nodes i (change known) (slice_get_within nodes i known is)) in
            let grows = more known in
            subst (λ k. birth_at nodes k ≤ birth_at (slice_set nodes i (change known)) k) (sym here) (omega (arith, old, new, grows))
        | inr other ↦
            let same : birth_at (slice_set nodes i (change known)) j ≡ birth_at nodes j = ap births_of (set_beside nodes i j (change known) other) in
            omega (arith, same)
      ];
    }

met_later : (nodes : List KnownNode) (i directory : ℕ) (name : List ℕ) → IsLater nodes (met nodes i directory name)
met_later nodes i directory name = known_later nodes i _ (λ known. omega arith)

-- the births of a record whose i-number was allocated again
born_more : (known : KnownNode) → known.birth ≤ (born known).birth
born_more known = by (nat_lt known.birth (2 ^ 32 - 1))
  where
    by : (b : Bool) → known.birth ≤ (if b then known.birth + 1 else known.birth)
    by true = omega arith
    by false = omega arith

born_later : (nodes : List KnownNode) (i : ℕ) → IsLater nodes (with_known nodes i born)
born_later nodes i = known_later nodes i born born_more

-- the records before the name of a node is recorded: a new node is counted
abbrev counted : List KnownNode → Bool → ℕ → List KnownNode
counted nodes is_new i = if is_new then with_known nodes i born else nodes

counted_later : (nodes : List KnownNode) (is_new : Bool) (i : ℕ) → IsLater nodes (counted nodes is_new i)
counted_later nodes true i = born_later nodes i
counted_later nodes false i = later_same nodes

-- recording a name, or not
named_later : (nodes : List KnownNode) (i d : ℕ) (name : List ℕ) (stays : Bool) → IsLater nodes (if stays then nodes else met nodes i d name)
named_later nodes i d name true = later_same nodes
named_later nodes i d name false = met_later nodes i d name

found_later : (geometry : Geometry) (image : List ℕ) (nodes : List KnownNode) (is_new : Bool) (node : ℕ) (name : List ℕ)
    → IsLater nodes (found geometry image nodes is_new node name)
found_later geometry image nodes is_new node name = by (i_number geometry.edition nodes node)
  where
    looked : (d : ℕ) (there : Result ℕ NodeFault) → IsLater nodes (found_by geometry.edition nodes is_new d name there)
    looked d (Err fault) = later_same nodes
    looked d (Ok i) =
        later_then nodes (counted nodes is_new i) _ (counted_later nodes is_new i)
        (named_later (counted nodes is_new i) i d name (is_dots name || (i == (constants geometry.edition).root)))

    by : (d : Option ℕ) → IsLater nodes (found_in geometry image nodes is_new name d)
    by None = later_same nodes
    by (Some d) = looked d (look_up (tree geometry image) d name)

opened_later : (geometry : Geometry) (image : List ℕ) (nodes : List KnownNode) (i : Option ℕ) → IsLater nodes (opened_in geometry image nodes i)
opened_later geometry image nodes None = later_same nodes
opened_later geometry image nodes (Some i) = by (option_map_or (λ (stat : Stat). is_file stat.kind) (stat_in (tree geometry image) i) false)
  where
    by : (b : Bool) → IsLater nodes (if b then with_known nodes i opened else nodes)
    by true = known_later nodes i opened (λ known. omega arith)
    by false = later_same nodes

closed_later : (nodes : List KnownNode) (i : Option ℕ) → IsLater nodes (closed_in nodes i)
closed_later nodes None = later_same nodes
closed_later nodes (Some i) = known_later nodes i closed (λ known. omega arith)

settled_later : (geometry : Geometry) (image : List ℕ) (nodes : List KnownNode) (header : Header) (operation : Operation)
    → IsLater nodes (settled geometry image nodes header operation)
unfolding settled
settled_later geometry image nodes header (operations.Lookup name) = found_later geometry image nodes false header.node name
settled_later geometry image nodes header (operations.Link node name) = found_later geometry image nodes false header.node name
settled_later geometry image nodes header (operations.MkNod mode device name) = found_later geometry image nodes true header.node name
settled_later geometry image nodes header (operations.MkDir mode name) = found_later geometry image nodes true header.node name
settled_later geometry image nodes header (operations.Rename directory name new_name) = found_later geometry image nodes false directory new_name
settled_later geometry image nodes header (operations.Rename2 directory flags name new_name) = found_later geometry image nodes false directory new_name
settled_later geometry image nodes header (operations.Open flags) = opened_later geometry image nodes (i_number geometry.edition nodes header.node)
settled_later geometry image nodes header (operations.Release handle) = closed_later nodes (i_number geometry.edition nodes header.node)
settled_later geometry image nodes header operation = later_same nodes

again_later : (geometry : Geometry) (image : List ℕ) (steps : ℕ) (nodes : List KnownNode) (i : ℕ)
    → IsLater nodes (met_again geometry image steps nodes i)
unfolding met_again
again_later geometry image zero nodes i = later_same nodes
again_later geometry image (suc steps) nodes i =
    by ((i == (constants geometry.edition).root) || leads_there (tree geometry image) i (place_of (slice_get nodes i)))
    (λ more directory. again_later geometry image steps more directory) (place_for geometry image i)
  where
    by : (ends : Bool) → ((more : List KnownNode) (directory : ℕ) → IsLater more (met_again geometry image steps more directory))
        → (place : Option (ℕ × List ℕ))
        → IsLater nodes (if ends then nodes else met_at nodes i place (λ more directory. met_again geometry image steps more directory))
    by true next place = later_same nodes
    by false next None = later_same nodes
    by false next (Some place) =
        later_then nodes (met nodes i place.0 place.1) _ (met_later nodes i place.0 place.1) (next (met nodes i place.0 place.1) place.0)

pub loss_later : (geometry : Geometry) (image : List ℕ) (nodes : List KnownNode) (lost : Option ℕ) → IsLater nodes (after_loss geometry image nodes lost)
loss_later geometry image nodes None = later_same nodes
loss_later geometry image nodes (Some i) = by (is_some (stat_in (tree geometry image) i))
  where
    by : (b : Bool) → IsLater nodes (if b then met_again geometry image (length nodes) nodes i else nodes)
    by true = again_later geometry image (length nodes) nodes i
    by false = later_same nodes

-- no request lowers the births of an i-number
pub remembered_later : (geometry : Geometry) (image : List ℕ) (nodes : List KnownNode) (header : Header) (operation : Operation) (is_made : Bool)
    (lost : Option ℕ) → IsLater nodes (remembered geometry image nodes header operation is_made lost)
remembered_later geometry image nodes header operation is_made lost =
    later_then nodes (if is_made then settled geometry image nodes header operation else nodes) _ (by is_made)
    (loss_later geometry image (if is_made then settled geometry image nodes header operation else nodes) lost)
  where
    by : (b : Bool) → IsLater nodes (if b then settled geometry image nodes header operation else nodes)
    by true = settled_later geometry image nodes header operation
    by false = later_same nodes

-- a name that leads to a new node raises the node's births
pub found_more : (geometry : Geometry) (image : List ℕ) (nodes : List KnownNode) (node d i : ℕ) (name : List ℕ)
    → i_number geometry.edition nodes node ≡ Some d → look_up (tree geometry image) d name ≡ Ok i → i < length nodes → birth_at nodes i < 2 ^ 32 - 1
    → birth_at nodes i < birth_at (found geometry image nodes true node name) i
found_more geometry image nodes node d i name at leads within few = elim ((slice_get_cases nodes i).1) [
  | inl here ↦
      let known = here.0 in
      let old : birth_at nodes i ≡ known.birth = ap births_of here.2 in
      let low : nat_lt known.birth (2 ^ 32 - 1) ≡ true = grind (arith, nat_tests, few, old) in
      let new : birth_at (with_known nodes i born) i ≡ known.birth + 1 =
      changed_birth nodes i born known here.2 ∙ ap (λ b. if b then known.birth + 1 else known.birth) low in
      let more = (named_later (with_known nodes i born) i d name (is_dots name || (i == (constants geometry.edition).root))).births i in
      let same = ap (found_in geometry image nodes true name) at ∙ ap (found_by geometry.edition nodes true d name) leads in
      subst (λ after. birth_at nodes i < birth_at after i) (sym same) (omega (arith, old, new, more))
  | inr past ↦ let beyond = past.0 in absurd (omega (arith, within, beyond))
]
