-- The reasons not to migrate a volume, from the kinds of its i-nodes.
use Rattle.std.proofs.Common.{◌≡◌, ◌≢◌, ◌∙◌, sym, ap, refl, ℕ, zero, suc, ◌+◌, ◌-◌, ◌/◌, ◌<◌, ◌≤◌, ltb, not, Bool, true, false, List, inl, inr, arith}
use Rattle.std.specs.Prelude.{◌||◌, ◌&&◌}
use Rattle.std.specs.List.{list_any, range_with_len}
use Rattle.std.specs.Option.{option_map, option_map_or}
use Rattle.std.proofs.lemmas.Bool.{cases_Bool, cases_lt, lt-ltb, le-ltb, true≢false}
use Rattle.vol_layout.specs.BlockPointers.{mode_of}
use Rattle.vol_layout.specs.Inode.{inode_of}
use Rattle.vol_layout.specs.declared.geometry.Geometry.{Geometry}
use Rattle.vol_layout.specs.declared.mode.Kind.{Kind}
use Rattle.vol_layout.specs.declared.mode.Kind.TheVariants as kinds
use Rattle.vol_file.specs.Rules.{kind_at}
use Rattle.vol_file.proofs.Lasts.{or_true}
use Rattle.vol_file.proofs.MissingLaws.{any_more}
use Rattle.vol_dir.specs.Tree.{Node, Tree, tree, node_of, node_with, content_of}
use Rattle.vol_change.proofs.FileInodes.{none_passes}
use Rattle.vol_dir.proofs.WalkLaws.{node_inside}
use Rattle.vol_migrate.specs.Refuse.{has_above, keeps, is_refused, is_refused_at, is_node_at, is_above_at}
use Rattle.vol_migrate.specs.Stages.{IsUsed}
use Rattle.vol_migrate.specs.declared.devices.Devices.{Devices}

-- if no number below `i` passes a test and `i` doesn't, no number up to `i` does
pub none_more : (f : ℕ → Bool) (i : ℕ) → 1 ≤ i → list_any f (range_with_len 1 (i - 1)) ≡ false → f i ≡ false
    → list_any f (range_with_len 1 (i + 1 - 1)) ≡ false
none_more f i first none off =
    let count : i + 1 - 1 ≡ suc (i - 1) = omega (arith, first) in
    let at : 1 + (i - 1) ≡ i = omega (arith, first) in
    ap (λ n. list_any f (range_with_len 1 n)) count
    ∙ (any_more f 1 (i - 1) ∙ (ap (λ t. t || f (1 + (i - 1))) none ∙ (ap f at ∙ off)))

-- if a number of a range passes a test, `list_any` is true
any_at : (f : ℕ → Bool) (a n d : ℕ) → d < n → f (a + d) ≡ true → list_any f (range_with_len a n) ≡ true
any_at f a zero d low on = absurd (omega (arith, low))
any_at f a (suc n) zero low on = ap (λ t. t || list_any f (range_with_len (a + 1) n)) (ap f (let e : a ≡ a + 0 = omega arith in e) ∙ on)
any_at f a (suc n) (suc d) low on =
    ap (λ t. f a || t) (any_at f (a + 1) n d (omega (arith, low)) (ap f (let e : a + 1 + d ≡ a + suc d = omega arith in e) ∙ on)) ∙ or_true (f a)

-- if a number from 1 to `last` passes a test, `list_any` is true
pub any_from : (f : ℕ → Bool) (last i : ℕ) → 1 ≤ i → i ≤ last → f i ≡ true → list_any f (range_with_len 1 last) ≡ true
any_from f last i first within on =
    any_at f 1 last (i - 1) (omega (arith, first, within)) (ap f (let e : 1 + (i - 1) ≡ i = omega (arith, first) in e) ∙ on)

-- if `list_any` is false for the numbers from 1 to `last`, none of them passes
pub none_from : (f : ℕ → Bool) (last i : ℕ) → list_any f (range_with_len 1 last) ≡ false → 1 ≤ i → i ≤ last → f i ≡ false
none_from f last i none first within =
    elim (cases_Bool (f i)) [
      | inl on ↦ absurd (true≢false (sym (any_from f last i first within on) ∙ none))
      | inr off ↦ off
    ]

-- true if an i-node of this kind, with these type bits and addresses, is a special file that isn't kept
abbrev pub refuses : Devices → ℕ → List ℕ → Kind → Bool
refuses devices type addresses kinds.Special = not (keeps devices type addresses)
refuses devices type addresses kinds.Free = false
refuses devices type addresses kinds.Regular = false
refuses devices type addresses kinds.Directory = false
refuses devices type addresses kinds.Odd = false

-- true if a kind has a node in the tree
abbrev pub is_node : Kind → Bool
is_node kinds.Free = false
is_node kinds.Odd = false
is_node kinds.Special = true
is_node kinds.Regular = true
is_node kinds.Directory = true

-- the node of an i-node is a special file that isn't kept if and only if the i-node is one
refused_by : (devices : Devices) (geometry : Geometry) (image : List ℕ) (i : ℕ) (kind : Kind)
    → option_map_or (λ (node : Node). is_refused devices node.content)
    (option_map (node_with (inode_of geometry.edition image i)) (content_of geometry image i kind)) false
    ≡ refuses devices (mode_of geometry image i / 4096) (inode_of geometry.edition image i).addresses kind
refused_by devices geometry image i kinds.Free = refl
refused_by devices geometry image i kinds.Regular = refl
refused_by devices geometry image i kinds.Directory = refl
refused_by devices geometry image i kinds.Special = refl
refused_by devices geometry image i kinds.Odd = refl

node_by : (geometry : Geometry) (image : List ℕ) (i : ℕ) (kind : Kind)
    → option_map_or (λ (node : Node). true) (option_map (node_with (inode_of geometry.edition image i)) (content_of geometry image i kind)) false ≡ is_node kind
node_by geometry image i kinds.Free = refl
node_by geometry image i kinds.Regular = refl
node_by geometry image i kinds.Directory = refl
node_by geometry image i kinds.Special = refl
node_by geometry image i kinds.Odd = refl

-- the node of an i-number is a special file that isn't kept if and only if the i-node is one
pub refused_here : (devices : Devices) (geometry : Geometry) (image : List ℕ) (i : ℕ) → 1 ≤ i → i ≤ geometry.last_inode
    → is_refused_at devices (tree geometry image) i
    ≡ refuses devices (mode_of geometry image i / 4096) (inode_of geometry.edition image i).addresses (kind_at geometry image i)
unfolding node_of
refused_here devices geometry image i first last =
    ap (λ o. option_map_or (λ (node : Node). is_refused devices node.content) o false) (node_inside geometry image i first last)
    ∙ refused_by devices geometry image i (kind_at geometry image i)

-- an i-number has a node if and only if its kind has one
pub node_here : (geometry : Geometry) (image : List ℕ) (i : ℕ) → 1 ≤ i → i ≤ geometry.last_inode
    → option_map_or (λ (node : Node). true) ((tree geometry image).nodes i) false ≡ is_node (kind_at geometry image i)
unfolding node_of
node_here geometry image i first last =
    ap (λ o. option_map_or (λ (node : Node). true) o false) (node_inside geometry image i first last) ∙ node_by geometry image i (kind_at geometry image i)

-- a kind that is neither free nor odd has a node
pub used_node : (kind : Kind) → kind ≢ kinds.Free → kind ≢ kinds.Odd → is_node kind ≡ true
used_node kinds.Free some known = absurd (some refl)
used_node kinds.Odd some known = absurd (known refl)
used_node kinds.Regular some known = refl
used_node kinds.Directory some known = refl
used_node kinds.Special some known = refl

-- a node whose i-number is at least `last` passes the test
pub above_is : (tree : Tree) (last i : ℕ) → last ≤ i → is_node_at tree i ≡ true → is_above_at tree last i ≡ true
above_is tree last i above node = ap (λ t. t && is_node_at tree i) (lt-ltb last (i + 1) (omega (arith, above))) ∙ node

-- an i-number below `last` fails the test
pub above_low : (tree : Tree) (last i : ℕ) → i < last → is_above_at tree last i ≡ false
above_low tree last i low = ap (λ t. t && is_node_at tree i) (le-ltb last (i + 1) (omega (arith, low)))

-- an i-number without a node fails the test
pub above_none : (tree : Tree) (last i : ℕ) → is_node_at tree i ≡ false → is_above_at tree last i ≡ false
above_none tree last i none = ap (λ t. ltb last (i + 1) && t) none ∙ none_passes (ltb last (i + 1))

-- if no node's i-number plus one is above `last`, each used i-node has room
pub number_all : (geometry : Geometry) (image : List ℕ) (last i : ℕ) → has_above (tree geometry image) last ≡ false → IsUsed geometry image i
    → kind_at geometry image i ≢ kinds.Odd → i + 1 ≤ last
unfolding tree
number_all geometry image last i none used known =
    elim (cases_lt last (i + 1)) [
      | inl above ↦
          let off = none_from (is_above_at (tree geometry image) last)
          geometry.last_inode i none used.first used.last in
          let on : is_above_at (tree geometry image) last i ≡ true =
          above_is (tree geometry image) last i (omega (arith, above))
          (node_here geometry image i used.first used.last ∙ used_node (kind_at geometry image i) used.some known) in
          absurd (true≢false (sym on ∙ off))
      | inr within ↦ within
    ]
