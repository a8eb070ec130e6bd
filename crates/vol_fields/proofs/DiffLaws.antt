-- Lemmas on the differences between two images.
use Rattle.std.proofs.Common.{◌≡◌, ℕ, ◌+◌, ◌<◌, ◌≤◌, ◌∙◌, ◌&&◌, not, Bool, true, false, if◌then◌else◌, eqb, min, List, [], ◌∷◌, ◌++◌, length, map, get_or, inl, inr, refl, sym, ap, arith}
use Rattle.std.specs.List.{Contains, filter, flat_map}
use Rattle.std.proofs.lemmas.Bool.{cases_eq, eq-eqb, eqb-true}
use Rattle.std.proofs.lemmas.Grind.{same_number_lists}
use Rattle.std.proofs.lemmas.List.{get_or_default}
use Rattle.std.proofs.lemmas.List.Elements.{Contains-append_left, Contains-push}
use Rattle.std.proofs.lemmas.List.FromFn.{length-map-range_with_len}
use Rattle.std.specs.Prelude.{codes}
use Rattle.vol_layout.specs.declared.geometry.Geometry.{Geometry}
use Rattle.vol_fields.specs.Changes.{Differs, ListsChanges}
use Rattle.vol_fields.specs.DiffLines.{array_line, block_line, blocks_text, difference_line, field_line, named_part, part_text}
use Rattle.vol_fields.specs.Differences.{AreFieldDifferences, AreRoleDifferences, IsDiffText, ListsDifferences, field_difference, least, length_differences, role_difference}
use Rattle.vol_fields.specs.FieldGroups.{field_joins, is_field_joined}
use Rattle.vol_fields.specs.Fields.{field_at}
use Rattle.vol_fields.specs.Groups.{AreGroups}
use Rattle.vol_fields.specs.RoleChanges.{block_joins, changed_blocks, is_block_joined, is_changed, is_moved}
use Rattle.vol_fields.specs.Tables.{role_at}
use Rattle.vol_fields.specs.declared.differences.Difference.{Difference}
use Rattle.vol_fields.specs.declared.differences.Difference.TheVariants as kinds
use Rattle.vol_fields.specs.declared.field.Field.{Field}
use Rattle.vol_fields.specs.declared.groups.Group.{Group}
use Rattle.vol_fields.specs.declared.role.Role.{Role}
use Rattle.vol_fields.specs.declared.role.Role.TheVariants as roles
use Rattle.vol_fields.proofs.GroupLaws.{in_group, no_entries, no_groups}

-- a role is the same as itself
moved_same : (role : Role) → is_moved 0 role role ≡ true
moved_same (roles.Slots i l size) =
    ap (λ t. t && eqb (l + 0) l) (eq-eqb i i refl) ∙ eq-eqb (l + 0) l (omega arith)
moved_same (roles.Bytes i l size) =
    ap (λ t. t && eqb (l + 0) l) (eq-eqb i i refl) ∙ eq-eqb (l + 0) l (omega arith)
moved_same (roles.Entries i v l) =
    ap (λ t. t && (eqb v v && eqb (l + 0) l)) (eq-eqb i i refl) ∙ (ap (λ t. t && eqb (l + 0) l) (eq-eqb v v refl) ∙ eq-eqb (l + 0) l (omega arith))
moved_same roles.Chain = refl
moved_same roles.Free = refl
moved_same roles.Lost = refl
moved_same roles.Twice = refl
moved_same roles.System = refl
moved_same roles.Outside = refl

-- no element passes a test that is false
filter_none : (p : ℕ → Bool) (xs : List ℕ) → ((x : ℕ) → p x ≡ false) → filter p xs ≡ []
filter_none p [] fails = refl
filter_none p (x ∷ xs) fails = ap (λ t. if t then x ∷ filter p xs else filter p xs) (fails x) ∙ filter_none p xs fails

-- equal tables of roles have no blocks whose roles differ
no_blocks : (table : List Role) → changed_blocks table table ≡ []
unfolding changed_blocks
no_blocks table = filter_none (is_changed table table) _ (λ b. ap not (moved_same (role_at table b)))

-- there is a join for each block
pub blocks_len : (old new : List Role) (blocks : List ℕ) → length (block_joins old new blocks) ≡ length blocks
unfolding block_joins
blocks_len old new blocks = length-map-range_with_len (is_block_joined old new blocks) 0 (length blocks)

-- there is a join for each field
pub fields_len : (fields : List Field) → length (field_joins fields) ≡ length fields
unfolding field_joins
fields_len fields = length-map-range_with_len (is_field_joined fields) 0 (length fields)

-- so none is listed
no_roles : (table : List Role) (all : Bool) (found : List Difference) → AreRoleDifferences table table all found → found ≡ []
no_roles table all found made =
    let blocks = changed_blocks table table in
    let none : length (block_joins table table blocks) ≡ 0 = blocks_len table table blocks ∙ ap length (no_blocks table) in
    made.2 ∙ ap (map (role_difference blocks)) (no_groups (block_joins table table blocks) (least all 2) made.0 none made.1)

-- equal images have no fields that differ
no_changes : (h : Geometry) (table : List Role) (image : List ℕ) (to : ℕ) (fields : List Field) → ListsChanges h table image image to fields → fields ≡ []
no_changes h table image to [] lists = refl
no_changes h table image to (f ∷ more) lists =
    let was = lists.only f (Contains-append_left (f ∷ []) more f (Contains-push [] f)) in absurd (was.2 refl)

-- so none is listed
no_fields : (h : Geometry) (table : List Role) (image : List ℕ) (all : Bool) (found : List Difference) → AreFieldDifferences image h table image all found
    → found ≡ []
no_fields h table image all found made =
    let fields = made.0 in
    let none : length (field_joins fields) ≡ 0 = fields_len fields ∙ ap length (no_changes h table image (min (length image) (length image)) fields made.1) in
    made.2.2 ∙ ap (map (field_difference fields)) (no_groups (field_joins fields) (least all 9) made.2.0 none made.2.1)

-- equal images have no differences
pub no_differences : (h : Geometry) (table : List Role) (image : List ℕ) (all : Bool) (found : List Difference)
    → ListsDifferences table image h table image all found → found ≡ []
unfolding ListsDifferences
no_differences h table image all found made =
    made.2.2
    ∙ (ap (λ same. (if same then [] else kinds.Lengths (length image) (length image) ∷ []) ++ (made.0 ++ made.2.0)) (eq-eqb (length image) (length image) refl)
    ∙ (ap (λ blocks. blocks ++ made.2.0) (no_roles table all made.0 made.1) ∙ no_fields h table image all made.2.0 made.2.1))

-- so they have no text
pub equal_is_silent : (g h : Geometry) (table : List Role) (image : List ℕ) (all : Bool) (text : List ℕ) → IsDiffText g table image h table image all text
    → text ≡ []
equal_is_silent g h table image all text made =
    made.2 ∙ ap (flat_map (difference_line g table image table image)) (no_differences h table image all made.0 made.1)

-- parts of an empty list are empty
last_empty : {X : Type 0} (front rest : List X) → front ++ rest ≡ [] → rest ≡ []
last_empty [] rest none = none
last_empty (x ∷ more) rest none = cc

first_empty : {X : Type 0} (front rest : List X) → front ++ rest ≡ [] → front ≡ []
first_empty [] rest none = refl
first_empty (x ∷ more) rest none = cc

-- nothing is made of an empty list only
pub map_empty : {X Y : Type 0} (f : X → Y) (xs : List X) → map f xs ≡ [] → xs ≡ []
map_empty f [] none = refl
map_empty f (x ∷ xs) none = cc

-- each difference has a line
line_told : (g : Geometry) (table : List Role) (old : List ℕ) (roles : List Role) (new : List ℕ) (difference : Difference)
    → difference_line g table old roles new difference ≡ [] → ⊥
unfolding block_line field_line array_line
line_told g table old roles new (kinds.Lengths was is) none = cc
line_told g table old roles new (kinds.Roles first last count) none =
    let end : codes ": " ++ _ ≡ [] = last_empty (blocks_text first last) _ none in cc
line_told g table old roles new (kinds.Field field) none =
    let end : codes "\n" ≡ [] = last_empty _ (codes "\n") (last_empty (named_part roles field) _ none) in cc
line_told g table old roles new (kinds.Fields first last count) none =
    let end : codes " " ++ _ ≡ [] = last_empty (part_text roles first.part.name first.part) _ none in cc

-- no text, no differences
lines_told : (g : Geometry) (table : List Role) (old : List ℕ) (roles : List Role) (new : List ℕ) (found : List Difference)
    → flat_map (difference_line g table old roles new) found ≡ [] → found ≡ []
lines_told g table old roles new [] none = refl
lines_told g table old roles new (difference ∷ more) none =
    absurd (line_told g table old roles new difference (first_empty (difference_line g table old roles new difference) _ none))

-- different lengths are listed
lengths_told : (old new : ℕ) → length_differences old new ≡ [] → old ≡ new
lengths_told old new none = elim (eqb old new) as (λ t. eqb old new ≡ t → (if t then [] else kinds.Lengths old new ∷ []) ≡ [] → old ≡ new) [
  | true ↦ λ same empty. eqb-true old new same
  | false ↦ λ other empty. cc
] refl none

-- a list without fields lists no change
none_differ : (h : Geometry) (roles : List Role) (new old : List ℕ) (to : ℕ) (fields : List Field) → length fields ≡ 0
    → ListsChanges h roles new old to fields → (n : ℕ) → n < to → get_or new n 0 ≡ get_or old n 0
none_differ h roles new old to fields none lists n below = elim (cases_eq (get_or new n 0) (get_or old n 0)) [
  | inl same ↦ same
  | inr other ↦ let has = lists.all n below other in absurd (omega (arith, none, has.1))
]

-- images without differences are equal
pub none_is_equal : (h : Geometry) (table roles : List Role) (old new : List ℕ) (all : Bool) (found : List Difference)
    → ListsDifferences table old h roles new all found → found ≡ [] → old ≡ new
unfolding ListsDifferences
none_is_equal h table roles old new all found made none =
    let lengths = length_differences (length old) (length new) in
    let whole : lengths ++ (made.0 ++ made.2.0) ≡ [] = sym made.2.2 ∙ none in
    let len : length old ≡ length new = lengths_told (length old) (length new) (first_empty lengths (made.0 ++ made.2.0) whole) in
    let listed = made.2.1 in
    let groups : listed.2.0 ≡ [] = map_empty (field_difference listed.0) listed.2.0
    (sym listed.2.2 ∙ last_empty made.0 made.2.0 (last_empty lengths (made.0 ++ made.2.0) whole)) in
    let entries : length listed.0 ≡ 0 = sym (fields_len listed.0) ∙ no_entries (field_joins listed.0) (least all 9) listed.2.0 groups listed.2.1 in
    same_number_lists old new len
    (λ k low. sym (none_differ h roles new old (min (length new) (length old)) listed.0 entries listed.1 k (omega (arith, len, low))))

-- images whose differences have no line are equal
pub silent_is_equal : (g h : Geometry) (table roles : List Role) (old new : List ℕ) (all : Bool) (text : List ℕ)
    → IsDiffText g table old h roles new all text → text ≡ [] → old ≡ new
silent_is_equal g h table roles old new all text made empty =
    none_is_equal h table roles old new all made.0 made.1 (lines_told g table old roles new made.0 (sym made.2 ∙ empty))

-- a byte that differs is in a field of a group
pub byte_told : (h : Geometry) (roles : List Role) (old new : List ℕ) (least : ℕ) (fields : List Field) (groups : List Group)
    → ListsChanges h roles new old (min (length new) (length old)) fields → AreGroups (field_joins fields) least groups
    → (n : ℕ) → n < length new → n < length old → Differs new old n
    → (group : Group) × Contains groups group × ((k : ℕ) × (group.first ≤ k) × (k ≤ group.last) × (k < length fields)
    × ((d : Field) → get_or fields k d ≡ field_at h roles (length new) n))
byte_told h roles old new least fields groups lists are n within other differs =
    let has = lists.all n (omega (arith, within, other)) differs in
    let found = in_group (field_joins fields) least 0 (length (field_joins fields)) has.0 groups are (omega arith) (omega (arith, has.1, fields_len fields)) in
    (found.0, found.1, (has.0, found.2, found.3, has.1, (λ d. get_or_default fields has.0 d (field_at h roles (length new) n) has.1 ∙ has.2)))
