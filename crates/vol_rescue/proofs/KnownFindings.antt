-- The violations that rest on no lost block are right, whatever the lost blocks held.
use Rattle.std.proofs.Common.{◌≡◌, ◌≢◌, ℕ, ◌%◌, ◌≤◌, ◌⊎◌, ◌∙◌, Bool, true, false, not, if◌then◌else◌, List, [], Some, refl, sym, ap, subst, arith, inl, inr, nat_le}
use Rattle.std.proofs.lemmas.Bool.{leb-true, and_parts, true≢false}
use Rattle.vol_layout.specs.Edition.{constants}
use Rattle.vol_layout.specs.Geometry.{Fits}
use Rattle.vol_layout.specs.Inode.{kind_of}
use Rattle.vol_layout.specs.Body.{body, body_size}
use Rattle.vol_layout.specs.declared.geometry.Geometry.{Geometry}
use Rattle.vol_layout.specs.declared.i_node.Inode.{Inode}
use Rattle.vol_layout.specs.declared.mode.Kind.{Kind}
use Rattle.vol_layout.specs.declared.mode.Kind.TheVariants as kinds
use Rattle.vol_layout.proofs.InodeLaws.{KeepsInode, body_size_kept, file_kept, form_kept, inode_of_kept, mode_kept, size_kept}
use Rattle.vol_file.specs.Rules.{HasKinds, HasSizes, kind_at, size_of}
use Rattle.vol_dir.specs.Entries.{HasEntries, HasEntry, IsDirectory, entry_at}
use Rattle.vol_dir.specs.Tree.{is_number}
use Rattle.vol_losses.specs.Losses.{AgreesOutside, is_lost, is_whole, node_block}
use Rattle.vol_losses.proofs.Agreement.{body_agrees, node_agrees}
use Rattle.vol_losses.proofs.SureFlags.{whole_is}
use Rattle.vol_judge.specs.Entries.{IsFirstEntry, IsFirstSlot, IsWrongEntry}
use Rattle.vol_judge.specs.INodes.{IsFirstKind, IsFirstSize}
use Rattle.vol_judge.specs.Limits.{IsLinked, IsSized}
use Rattle.vol_judge.specs.declared.finding.Finding.{Finding}
use Rattle.vol_judge.specs.declared.finding.Finding.TheVariants as findings
use Rattle.vol_judge.proofs.RuleNumbers.{read_sizes}
use Rattle.vol_findings.specs.Outcomes.{HasGeometry, Keeps, Says}
use Rattle.vol_findings.specs.declared.outcome.RuleOutcome.{RuleOutcome}
use Rattle.vol_findings.specs.declared.outcome.RuleOutcome.TheVariants.{Holds, Broken, NotAsked, Lost, Unbroken}
use Rattle.vol_findings.specs.declared.outcome.RuleOutcomes.{RuleOutcomes}
use Rattle.vol_archive.specs.Export.{is_directory}
use Rattle.vol_rescue.specs.KnownOutcomes.{KnownFindingsAreRight, is_known, is_known_directory, is_known_entry, is_known_node, is_known_number, known_bounds, known_of, known_outcome, lost_outcome}

-- a block that isn't marked
unmarked : (mark : Bool) → not mark ≡ true → mark ≡ false
unmarked false e = refl
unmarked true e = absurd (true≢false (sym e))

-- the kind of a free i-node or a regular file, also of an equal kind
either_kind : (a b : Kind) → a ≡ b → (b ≡ kinds.Free) ⊎ (b ≡ kinds.Regular) → (a ≡ kinds.Free) ⊎ (a ≡ kinds.Regular)
either_kind a b e (inl free) = inl (e ∙ free)
either_kind a b e (inr regular) = inr (e ∙ regular)

-- the i-node of an i-number that is known has the same bytes
node_known : (geometry : Geometry) (lost : List Bool) (old new : List ℕ) (i : ℕ) → Fits geometry old → AgreesOutside geometry lost old new → is_known_node geometry lost i ≡ true
    → KeepsInode geometry old new i
node_known geometry lost old new i fits agrees known =
    let parts = and_parts (is_number geometry i) (not (is_lost lost (node_block geometry.edition i))) known in
    let ends = and_parts (nat_le 1 i) (nat_le i geometry.last_inode) parts.0 in
    node_agrees geometry lost old new i fits (leb-true 1 i ends.0) (leb-true i geometry.last_inode ends.1) agrees (unmarked (is_lost lost (node_block geometry.edition i)) parts.1)

-- an i-node with the same bytes has the same kind
kind_kept : (geometry : Geometry) (old new : List ℕ) (i : ℕ) → KeepsInode geometry old new i → kind_at geometry new i ≡ kind_at geometry old i
kind_kept geometry old new i kept = ap (kind_of geometry.edition) (mode_kept geometry old new i kept)

-- a violation of rule 3 in an i-node that is known
kind_right : (geometry : Geometry) (lost : List Bool) (old new : List ℕ) (finding : Finding) → Fits geometry old → AgreesOutside geometry lost old new
    → is_known geometry old lost finding ≡ true → IsFirstKind geometry old finding → HasKinds geometry new → ⊥
kind_right geometry lost old new (findings.OddMode i) fits agrees known first has =
    has.known i first.first first.last (kind_kept geometry old new i (node_known geometry lost old new i fits agrees known) ∙ first.odd)
kind_right geometry lost old new findings.RootKind fits agrees known first has =
    let root = (constants geometry.edition).root in
    first.1 (sym (kind_kept geometry old new root (node_known geometry lost old new root fits agrees known)) ∙ has.root)
kind_right geometry lost old new findings.BadBlocksKind fits agrees known first has =
    let same = sym (kind_kept geometry old new 1 (node_known geometry lost old new 1 fits agrees known)) in
    first.2 (λ edition. either_kind (kind_at geometry old 1) (kind_at geometry new 1) same (has.bad_blocks edition))
kind_right geometry lost old new findings.TooShort fits agrees known first has = elim first [ ]
kind_right geometry lost old new findings.BadSizes fits agrees known first has = elim first [ ]
kind_right geometry lost old new (findings.TooLarge a) fits agrees known first has = elim first [ ]
kind_right geometry lost old new (findings.TooManyLinks a) fits agrees known first has = elim first [ ]
kind_right geometry lost old new (findings.OutOfZone a b) fits agrees known first has = elim first [ ]
kind_right geometry lost old new (findings.FreeList a b) fits agrees known first has = elim first [ ]
kind_right geometry lost old new (findings.Twice a b) fits agrees known first has = elim first [ ]
kind_right geometry lost old new (findings.UsedAndFree a) fits agrees known first has = elim first [ ]
kind_right geometry lost old new (findings.Lost a) fits agrees known first has = elim first [ ]
kind_right geometry lost old new (findings.PartSlot a) fits agrees known first has = elim first [ ]
kind_right geometry lost old new (findings.NoName a b) fits agrees known first has = elim first [ ]
kind_right geometry lost old new (findings.Slash a b) fits agrees known first has = elim first [ ]
kind_right geometry lost old new (findings.BadNumber a b) fits agrees known first has = elim first [ ]
kind_right geometry lost old new (findings.FreeInode a b) fits agrees known first has = elim first [ ]
kind_right geometry lost old new (findings.SameName a b) fits agrees known first has = elim first [ ]
kind_right geometry lost old new (findings.NoDot a) fits agrees known first has = elim first [ ]
kind_right geometry lost old new (findings.NoDotDot a) fits agrees known first has = elim first [ ]
kind_right geometry lost old new (findings.RootEntered a b) fits agrees known first has = elim first [ ]
kind_right geometry lost old new (findings.EnteredTwice a b) fits agrees known first has = elim first [ ]
kind_right geometry lost old new (findings.Unreached a) fits agrees known first has = elim first [ ]
kind_right geometry lost old new (findings.BadLinks a b k) fits agrees known first has = elim first [ ]

-- a size within its limits in an image with the same i-node
sized_kept : (geometry : Geometry) (old new : List ℕ) (i : ℕ) → KeepsInode geometry old new i → HasSizes geometry new → IsSized geometry old i
sized_kept geometry old new i kept has = record {
  greatest = λ file. subst (λ size. size ≤ (constants geometry.edition).greatest) (size_kept geometry old new i kept)
      (has.greatest i (file_kept geometry old new i kept file));
  small = λ file form. subst (λ size. size ≤ 4096) (size_kept geometry old new i kept)
      (has.small i (file_kept geometry old new i kept file) (form_kept geometry old new i kept ∙ form));
}

-- a link count within its limit in an image with the same i-node
linked_kept : (geometry : Geometry) (old new : List ℕ) (i : ℕ) → KeepsInode geometry old new i → 1 ≤ i → i ≤ geometry.last_inode → HasSizes geometry new
    → IsLinked geometry old i
linked_kept geometry old new i kept first last has = λ allocated.
    subst (λ (node : Inode). node.links ≤ (constants geometry.edition).link_limit) (inode_of_kept geometry old new i kept)
    (has.links i first last (λ free. allocated (sym (kind_kept geometry old new i kept) ∙ free)))

-- a violation of rule 4 in an i-node that is known
size_right : (geometry : Geometry) (lost : List Bool) (old new : List ℕ) (finding : Finding) → Fits geometry old → AgreesOutside geometry lost old new
    → is_known geometry old lost finding ≡ true → IsFirstSize geometry old finding → HasSizes geometry new → ⊥
size_right geometry lost old new (findings.TooLarge i) fits agrees known first has =
    first.1 (sized_kept geometry old new i (node_known geometry lost old new i fits agrees known) has)
size_right geometry lost old new (findings.TooManyLinks i) fits agrees known first has =
    first.2 (linked_kept geometry old new i (node_known geometry lost old new i fits agrees known) first.0.first first.0.last has)
size_right geometry lost old new findings.TooShort fits agrees known first has = elim first [ ]
size_right geometry lost old new findings.BadSizes fits agrees known first has = elim first [ ]
size_right geometry lost old new (findings.OddMode a) fits agrees known first has = elim first [ ]
size_right geometry lost old new findings.RootKind fits agrees known first has = elim first [ ]
size_right geometry lost old new findings.BadBlocksKind fits agrees known first has = elim first [ ]
size_right geometry lost old new (findings.OutOfZone a b) fits agrees known first has = elim first [ ]
size_right geometry lost old new (findings.FreeList a b) fits agrees known first has = elim first [ ]
size_right geometry lost old new (findings.Twice a b) fits agrees known first has = elim first [ ]
size_right geometry lost old new (findings.UsedAndFree a) fits agrees known first has = elim first [ ]
size_right geometry lost old new (findings.Lost a) fits agrees known first has = elim first [ ]
size_right geometry lost old new (findings.PartSlot a) fits agrees known first has = elim first [ ]
size_right geometry lost old new (findings.NoName a b) fits agrees known first has = elim first [ ]
size_right geometry lost old new (findings.Slash a b) fits agrees known first has = elim first [ ]
size_right geometry lost old new (findings.BadNumber a b) fits agrees known first has = elim first [ ]
size_right geometry lost old new (findings.FreeInode a b) fits agrees known first has = elim first [ ]
size_right geometry lost old new (findings.SameName a b) fits agrees known first has = elim first [ ]
size_right geometry lost old new (findings.NoDot a) fits agrees known first has = elim first [ ]
size_right geometry lost old new (findings.NoDotDot a) fits agrees known first has = elim first [ ]
size_right geometry lost old new (findings.RootEntered a b) fits agrees known first has = elim first [ ]
size_right geometry lost old new (findings.EnteredTwice a b) fits agrees known first has = elim first [ ]
size_right geometry lost old new (findings.Unreached a) fits agrees known first has = elim first [ ]
size_right geometry lost old new (findings.BadLinks a b k) fits agrees known first has = elim first [ ]

-- directory d has the same size and entries in both images
record KeepsDirectory (geometry : Geometry) (old new : List ℕ) (d : ℕ) : Type 0 where
  size : size_of geometry new d ≡ size_of geometry old d
  kind : IsDirectory geometry new d
  entries : (s : ℕ) → entry_at geometry new d s ≡ entry_at geometry old d s

-- an entry of a directory with the same bytes
entry_kept : (geometry : Geometry) (old new : List ℕ) (d s : ℕ) → body_size geometry new d ≡ body_size geometry old d → body geometry new d ≡ body geometry old d
    → entry_at geometry new d s ≡ entry_at geometry old d s
unfolding entry_at
entry_kept geometry old new d s size same = rw (size, same)

-- a directory that is known is the same
directory_known : (geometry : Geometry) (lost : List Bool) (old new : List ℕ) (d : ℕ) → Fits geometry old → AgreesOutside geometry lost old new → IsDirectory geometry old d
    → is_known_directory geometry old lost d ≡ true → KeepsDirectory geometry old new d
directory_known geometry lost old new d fits agrees directory known =
    let whole = whole_is geometry old lost d (and_parts (is_directory geometry old d) (is_whole geometry old lost d) known).1 in
    let kept = node_agrees geometry lost old new d fits directory.first directory.last agrees whole.node in
    record {
      size = size_kept geometry old new d kept;
      kind = record { first = directory.first; last = directory.last; kind = kind_kept geometry old new d kept ∙ directory.kind };
      entries = λ s. entry_kept geometry old new d s (body_size_kept geometry old new d kept)
          (body_agrees geometry lost old new d fits directory.first directory.last agrees whole);
    }

-- a slot has its entry in both images
entered : (geometry : Geometry) (old new : List ℕ) (d s i : ℕ) (name : List ℕ) → KeepsDirectory geometry old new d → entry_at geometry old d s ≡ Some (name, i)
    → HasEntry geometry new d s name i
entered geometry old new d s i name kept entry = record { directory = kept.kind; entry = kept.entries s ∙ entry }

-- the i-node of an entry that is known
number_known : (geometry : Geometry) (image : List ℕ) (lost : List Bool) (d s i : ℕ) (name : List ℕ) → entry_at geometry image d s ≡ Some (name, i)
    → is_known_entry geometry image lost d s ≡ true → is_known_node geometry lost i ≡ true
number_known geometry image lost d s i name entry known =
    subst (λ found. is_known_number geometry lost found ≡ true) entry
    (and_parts (is_directory geometry image d) (is_known_number geometry lost (entry_at geometry image d s)) known).1

-- a defective entry of a directory that is known
wrong_right : (geometry : Geometry) (lost : List Bool) (old new : List ℕ) (d s i : ℕ) (name : List ℕ) (finding : Finding) → Fits geometry old → AgreesOutside geometry lost old new
    → IsDirectory geometry old d → entry_at geometry old d s ≡ Some (name, i) → is_known geometry old lost finding ≡ true
    → IsWrongEntry geometry old d s name i finding → HasEntries geometry new → ⊥
wrong_right geometry lost old new d s i name (findings.NoName e t) fits agrees directory entry known wrong has =
    let kept = directory_known geometry lost old new d fits agrees directory (subst (λ x. is_known_directory geometry old lost x ≡ true) wrong.0 known) in
    (has.named d s i name (entered geometry old new d s i name kept entry)).0 wrong.2
wrong_right geometry lost old new d s i name (findings.Slash e t) fits agrees directory entry known wrong has =
    let kept = directory_known geometry lost old new d fits agrees directory (subst (λ x. is_known_directory geometry old lost x ≡ true) wrong.0 known) in
    true≢false (sym wrong.3 ∙ (has.named d s i name (entered geometry old new d s i name kept entry)).1)
wrong_right geometry lost old new d s i name (findings.BadNumber e t) fits agrees directory entry known wrong has =
    let kept = directory_known geometry lost old new d fits agrees directory (subst (λ x. is_known_directory geometry old lost x ≡ true) wrong.0 known) in
    let allocated = has.allocated d s i name (entered geometry old new d s i name kept entry) in
    wrong.3 (allocated.0, allocated.1)
wrong_right geometry lost old new d s i name (findings.FreeInode e t) fits agrees directory entry known wrong has =
    let parts = and_parts (is_known_directory geometry old lost e) (is_known_entry geometry old lost e t) known in
    let kept = directory_known geometry lost old new d fits agrees directory (subst (λ x. is_known_directory geometry old lost x ≡ true) wrong.0 parts.0) in
    let slot = subst (λ x. is_known_entry geometry old lost x s ≡ true) wrong.0 (subst (λ x. is_known_entry geometry old lost e x ≡ true) wrong.1 parts.1) in
    let node = node_known geometry lost old new i fits agrees (number_known geometry old lost d s i name entry slot) in
    (has.allocated d s i name (entered geometry old new d s i name kept entry)).2 (kind_kept geometry old new i node ∙ wrong.4)
wrong_right geometry lost old new d s i name findings.TooShort fits agrees directory entry known wrong has = elim wrong [ ]
wrong_right geometry lost old new d s i name findings.BadSizes fits agrees directory entry known wrong has = elim wrong [ ]
wrong_right geometry lost old new d s i name (findings.OddMode a) fits agrees directory entry known wrong has = elim wrong [ ]
wrong_right geometry lost old new d s i name findings.RootKind fits agrees directory entry known wrong has = elim wrong [ ]
wrong_right geometry lost old new d s i name findings.BadBlocksKind fits agrees directory entry known wrong has = elim wrong [ ]
wrong_right geometry lost old new d s i name (findings.TooLarge a) fits agrees directory entry known wrong has = elim wrong [ ]
wrong_right geometry lost old new d s i name (findings.TooManyLinks a) fits agrees directory entry known wrong has = elim wrong [ ]
wrong_right geometry lost old new d s i name (findings.OutOfZone a b) fits agrees directory entry known wrong has = elim wrong [ ]
wrong_right geometry lost old new d s i name (findings.FreeList a b) fits agrees directory entry known wrong has = elim wrong [ ]
wrong_right geometry lost old new d s i name (findings.Twice a b) fits agrees directory entry known wrong has = elim wrong [ ]
wrong_right geometry lost old new d s i name (findings.UsedAndFree a) fits agrees directory entry known wrong has = elim wrong [ ]
wrong_right geometry lost old new d s i name (findings.Lost a) fits agrees directory entry known wrong has = elim wrong [ ]
wrong_right geometry lost old new d s i name (findings.PartSlot a) fits agrees directory entry known wrong has = elim wrong [ ]
wrong_right geometry lost old new d s i name (findings.SameName a b) fits agrees directory entry known wrong has = elim wrong [ ]
wrong_right geometry lost old new d s i name (findings.NoDot a) fits agrees directory entry known wrong has = elim wrong [ ]
wrong_right geometry lost old new d s i name (findings.NoDotDot a) fits agrees directory entry known wrong has = elim wrong [ ]
wrong_right geometry lost old new d s i name (findings.RootEntered a b) fits agrees directory entry known wrong has = elim wrong [ ]
wrong_right geometry lost old new d s i name (findings.EnteredTwice a b) fits agrees directory entry known wrong has = elim wrong [ ]
wrong_right geometry lost old new d s i name (findings.Unreached a) fits agrees directory entry known wrong has = elim wrong [ ]
wrong_right geometry lost old new d s i name (findings.BadLinks a b k) fits agrees directory entry known wrong has = elim wrong [ ]

-- the first violation of rule 9 in a directory that is known
slot_right : (geometry : Geometry) (lost : List Bool) (old new : List ℕ) (d s : ℕ) (finding : Finding) → Fits geometry old → AgreesOutside geometry lost old new
    → IsDirectory geometry old d → is_known geometry old lost finding ≡ true → IsFirstSlot geometry old d s finding → HasEntries geometry new → ⊥
slot_right geometry lost old new d s finding fits agrees directory known first has = elim first.wrong [
  | inl wrong ↦ wrong_right geometry lost old new d s first.inode first.name finding fits agrees directory first.entry known wrong has
  | inr same ↦
      let kept = directory_known geometry lost old new d fits agrees directory (subst (λ x. is_known geometry old lost x ≡ true) same.0 known) in
      let below = same.2 in
      let once = has.once d s below.slot first.inode below.inode first.name (entered geometry old new d s first.inode first.name kept first.entry)
      (entered geometry old new d below.slot below.inode first.name kept below.entry) in
      let before = below.below in
      omega (arith, once, before)
]

-- a violation of rule 9 in a directory that is known
entry_right : (geometry : Geometry) (lost : List Bool) (old new : List ℕ) (finding : Finding) → Fits geometry old → AgreesOutside geometry lost old new
    → is_known geometry old lost finding ≡ true → IsFirstEntry geometry old finding → HasEntries geometry new → ⊥
entry_right geometry lost old new finding fits agrees known first has = elim first.first [
  | inl part ↦
      let kept = directory_known geometry lost old new first.d fits agrees first.directory (subst (λ x. is_known geometry old lost x ≡ true) part.0 known) in
      part.1 (ap (λ n. n % 16) (sym kept.size) ∙ has.whole first.d kept.kind)
  | inr slot ↦ slot_right geometry lost old new first.d slot.0 finding fits agrees first.directory known slot.1 has
]

-- a violation that counts is one that was found, and rests on no lost block
counted : (geometry : Geometry) (image : List ℕ) (lost : List Bool) (outcome : RuleOutcome) (finding : Finding)
    → known_outcome geometry image lost outcome ≡ Broken finding → (outcome ≡ Broken finding) × (is_known geometry image lost finding ≡ true)
counted geometry image lost Holds finding is = absurd (cc)
counted geometry image lost NotAsked finding is = absurd (cc)
counted geometry image lost (Lost count first) finding is = absurd (cc)
counted geometry image lost Unbroken finding is = absurd (cc)
counted geometry image lost (Broken other) finding is = chosen (is_known geometry image lost other) refl is
  where
    other_is : Broken other ≡ Broken finding → other ≡ finding
    other_is same = cc

    chosen : (b : Bool) → is_known geometry image lost other ≡ b → (if b then Broken other else NotAsked) ≡ Broken finding
        → (Broken other ≡ Broken finding) × (is_known geometry image lost finding ≡ true)
    chosen true known same = (same, subst (λ x. is_known geometry image lost x ≡ true) (other_is same) known)
    chosen false known same = absurd (cc)

-- what a right outcome says of a violation that counts
said_first : (geometry : Geometry) (image : List ℕ) (lost : List Bool) (rule : Type 0) (first : Finding → Type 0) (reason : Type 0) (outcome : RuleOutcome) (finding : Finding)
    → Says rule first reason outcome → known_outcome geometry image lost outcome ≡ Broken finding → first finding × (is_known geometry image lost finding ≡ true)
said_first geometry image lost rule first reason outcome finding says is =
    let both = counted geometry image lost outcome finding is in
    ((subst (Says rule first reason) both.0 says).0, both.1)

-- a violation that is named is right
pub findings_right : KnownFindingsAreRight
findings_right = λ edition geometry lost old new found finding read fits agrees tells.
    let same = read_sizes edition old geometry read in
    let outcomes = ap (known_of old lost (record found { whole = lost_outcome lost; bounded = known_bounds lost found.bounded })) read in
    let first_kind = subst (λ g. Says (Keeps edition old 3) (IsFirstKind g old) (HasGeometry edition old → ⊥) found.kinds) (sym same) tells.kinds in
    let first_size = subst (λ g. Says (Keeps edition old 4) (IsFirstSize g old) (HasGeometry edition old → ⊥) found.sizes) (sym same) tells.sizes in
    let first_entry = subst (λ g. Says (Keeps edition old 9) (IsFirstEntry g old) (HasGeometry edition old → ⊥) found.entries) (sym same) tells.entries in (
      λ is. let said = said_first geometry old lost (Keeps edition old 3) (IsFirstKind geometry old) (HasGeometry edition old → ⊥) found.kinds finding first_kind
          (sym (ap (λ (known : RuleOutcomes). known.kinds) outcomes) ∙ is) in
          kind_right geometry lost old new finding fits agrees said.1 said.0,
      λ is. let said = said_first geometry old lost (Keeps edition old 4) (IsFirstSize geometry old) (HasGeometry edition old → ⊥) found.sizes finding first_size
          (sym (ap (λ (known : RuleOutcomes). known.sizes) outcomes) ∙ is) in
          size_right geometry lost old new finding fits agrees said.1 said.0,
      λ is. let said = said_first geometry old lost (Keeps edition old 9) (IsFirstEntry geometry old) (HasGeometry edition old → ⊥) found.entries finding first_entry
          (sym (ap (λ (known : RuleOutcomes). known.entries) outcomes) ∙ is) in
          entry_right geometry lost old new finding fits agrees said.1 said.0,
    )
