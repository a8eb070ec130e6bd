-- Rule 10, checked for one directory after another.
use Rattle.std.proofs.Common.{◌≡◌, ◌≢◌, ℕ, ◌+◌, ◌<◌, ◌≤◌, ◌∙◌, Bool, nat_eq, inl, inr, IsTrue, ◌↔◌, List, Option, None, Some, get_or, refl, sym, ap, subst, arith, eqb-true, eq-eqb}
use Rattle.std.specs.Option.{option_eq}
use Rattle.std.proofs.Math.Dec.{eqb}
use Rattle.std.proofs.lemmas.Bool.{cases_eq, cases_lt, cases_Bool}
use borrow.Author.Count.{below_more}
use Rattle.vol_layout.specs.declared.geometry.Geometry.{Geometry}
use Rattle.vol_dir.specs.Entries.{IsDirectory, HasEntry}
use Rattle.vol_dir.specs.Names.{dot_dot}
use Rattle.vol_judge.specs.Directories.{root_of, HasDots}
use Rattle.vol_judge.specs.Dots.{NamesParent, KeepsDots, KnowsDots, IsBeforeFirst}
use Rattle.vol_judge.specs.InodeMarks.{IsNamed}
use Rattle.vol_judge.specs.DirectoryTree.{NotesParents}
use Rattle.vol_judge.proofs.Decisions.{same_option, other_option}

-- if rule 10 holds, each directory has its entries `.` and `..`
pub each_keeps : {geometry : Geometry} {image : List ℕ} → HasDots geometry image → (d : ℕ) → IsDirectory geometry image d → KeepsDots geometry image d
each_keeps {geometry = geometry} {image = image} rule d is = record {
  own = rule.itself d is;
  parent = record {
    root = λ same.
        subst (λ x. (s : ℕ) × HasEntry geometry image x s dot_dot x) (sym same) (rule.root (subst (IsDirectory geometry image) same is));
    other = λ other. rule.parent d is other;
  };
}

-- if each directory has its entries `.` and `..`, rule 10 holds
pub all_keep : {geometry : Geometry} {image : List ℕ} → ((d : ℕ) → IsDirectory geometry image d → KeepsDots geometry image d) → HasDots geometry image
all_keep {geometry = geometry} all = record {
  itself = λ d is. (all d is).own;
  root = λ is. (all (root_of geometry) is).parent.root refl;
  parent = λ d is other. (all d is).parent.other other;
}

-- if the directories before d have `.` and `..`, and d does if it is one, all up to d have them
pub keep_more : {geometry : Geometry} {image : List ℕ} (d : ℕ) → ((e : ℕ) → e < d → IsDirectory geometry image e → KeepsDots geometry image e)
    → (IsDirectory geometry image d → KeepsDots geometry image d) → (e : ℕ) → e < d + 1 → IsDirectory geometry image e → KeepsDots geometry image e
keep_more {geometry = geometry} {image = image} d below here = below_more (λ e. IsDirectory geometry image e → KeepsDots geometry image e) d below here

-- if the directories up to the last i-number have `.` and `..`, rule 10 holds
pub keep_all : {geometry : Geometry} {image : List ℕ} (d : ℕ)
    → ((e : ℕ) → e < d → IsDirectory geometry image e → KeepsDots geometry image e) → geometry.last_inode < d → HasDots geometry image
keep_all d below last = all_keep (λ e is. below e (let high = is.last in omega (arith, high, last)) is)

-- if d isn't after the first directory without an entry for itself, and isn't that directory, it is before it
pub before_first : (nameless : Option ℕ) (d : ℕ) → ((n : ℕ) → nameless ≡ Some n → d ≤ n) → (nameless ≡ Some d → ⊥) → IsBeforeFirst nameless d
before_first nameless d reached other n is = elim (cases_eq d n) [
  | inl same ↦ absurd (other (is ∙ ap Some (sym same)))
  | inr apart ↦ let low = reached n is in omega (arith, low, apart)
]

-- if all directories before d keep rule 10, d isn't after the first directory without an entry for itself
pub none_before : {geometry : Geometry} {image : List ℕ} {ups : List (Option ℕ)} {nameless : Option ℕ} {d : ℕ} → KnowsDots geometry image ups nameless
    → ((e : ℕ) → e < d → IsDirectory geometry image e → KeepsDots geometry image e) → (n : ℕ) → nameless ≡ Some n → d ≤ n
none_before {d = d} known below n is = elim (cases_lt n d) [
  | inl early ↦ let without = known.without n is in absurd (without.1 (below n early without.0).own)
  | inr late ↦ late
]

-- a directory without an entry `..` has none for its parent
pub no_parent : {geometry : Geometry} {image : List ℕ} {d : ℕ} {number : Option ℕ} → IsNamed geometry image d dot_dot number → number ≡ None
    → NamesParent geometry image d → ⊥
no_parent {geometry = geometry} {d = d} named none names = elim (cases_eq d (root_of geometry)) [
  | inl same ↦ let has = names.root same in let up = named.all has.0 d has.1 in cc
  | inr other ↦ let parent = names.other other in let up = named.all parent.0 parent.1 parent.3 in cc
]

-- the root's `..` is for its parent exactly if it is for the root
pub root_parent : {geometry : Geometry} {image : List ℕ} {d : ℕ} {number : Option ℕ} (up root : ℕ) → IsNamed geometry image d dot_dot number
    → number ≡ Some up → d ≡ root → d ≡ root_of geometry → IsTrue (nat_eq up root) ↔ NamesParent geometry image d
root_parent {d = d} up root named some own is = (
  λ right.
      let same : up ≡ d = eqb-true up root right ∙ sym own in
      record { root = λ here. named.only d (some ∙ ap Some same); other = λ other. absurd (other is) },
  λ names.
      let has = names.root is in
      let both : Some up ≡ Some d = sym some ∙ named.all has.0 d has.1 in
      let same : up ≡ d = cc in
      eq-eqb up root (same ∙ own),
)

-- the `..` of any other directory is for its parent exactly if it is for the noted parent
pub other_parent : {geometry : Geometry} {image : List ℕ} {ups parents : List (Option ℕ)} {d : ℕ} (up : ℕ) (b : Bool)
    → NotesParents geometry image ups parents → IsDirectory geometry image d → IsNamed geometry image d dot_dot (get_or ups d None)
    → get_or ups d None ≡ Some up → d ≢ root_of geometry → b ≡ option_eq eqb (get_or parents d None) (Some up) → IsTrue b ↔ NamesParent geometry image d
other_parent {parents = parents} {d = d} up b notes is named some other test = (
  λ right.
      let has = named.only up some in
      let entry = notes.only d up (same_option (get_or parents d None) up (sym test ∙ right)) in
      record { root = λ same. absurd (other same); other = λ apart. (has.0, up, entry.0, has.1, entry.1) },
  λ names.
      let parent = names.other other in
      let there = named.all parent.0 parent.1 parent.3 in
      let both : Some parent.1 ≡ Some up = sym there ∙ some in
      let same : parent.1 ≡ up = cc in
      let noted = notes.named parent.1 parent.2 d is other parent.4 there in
      elim (cases_Bool b) [
        | inl right ↦ right
        | inr wrong ↦ absurd (other_option (get_or parents d None) up (sym test ∙ wrong) (noted ∙ ap Some same))
      ],
)
