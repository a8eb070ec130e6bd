-- The graph after the steps of a call that removes a name from a directory.
use Rattle.std.proofs.Common.{◌≡◌, ◌≢◌, ◌∙◌, sym, ap, ℕ, ◌-◌, ◌%◌, ◌<◌, ◌≤◌, true≢false, false, true, List, None, Some, arith}
use Rattle.vol_dir.specs.Names.{is_dots}
use Rattle.vol_judge.specs.Graph.{Graph}
use Rattle.vol_judge.specs.GraphEdits.{ChangesSlot, KeepsOthers, DropsName, DropsFile, DropsDirectory}
use Rattle.vol_layout.specs.declared.mode.Kind.TheVariants as kinds
use Rattle.vol_change.specs.Beside.{StaysBeside}
use Rattle.vol_change.specs.NodeGraphs.{SetsLinks, DropsNode}

-- the entry with this name for i-number i is removed from slot s of directory d
pub record LeavesSlot (old mid : Graph) (i d s : ℕ) (name : List ℕ) : Type 0 where
  pub slot : ChangesSlot old mid d s (Some (name, i)) None
  pub beside : StaysBeside old mid d

-- after slot s is emptied, a change of a link count leaves it empty
slot_linked : (old mid new : Graph) (i d s x count : ℕ) (name : List ℕ) → LeavesSlot old mid i d s name → SetsLinks mid new x count
    → ChangesSlot old new d s (Some (name, i)) None
slot_linked old mid new i d s x count name leaves sets = record {
  directory = leaves.slot.directory;
  was = leaves.slot.was;
  is = sets.entry d s ∙ leaves.slot.is;
  beside = λ t other. sets.entry d t ∙ leaves.slot.beside t other;
  whole = ap (λ n. n % 16) (sets.size d (leaves.beside.kind d ∙ leaves.slot.directory)) ∙ leaves.slot.whole;
}

-- after slot s is emptied and a link count is changed, everything but d and i is unchanged
others_linked : (old mid new : Graph) (i d s x count : ℕ) (name : List ℕ) → LeavesSlot old mid i d s name → SetsLinks mid new x count
    → KeepsOthers old new d i
others_linked old mid new i d s x count name leaves sets = record {
  kind = λ y other. sets.kind y ∙ leaves.beside.kind y;
  size = λ y away other is. sets.size y (leaves.beside.kind y ∙ is) ∙ leaves.beside.size y away is;
  entry = λ y t away other. sets.entry y t ∙ leaves.beside.entry y t away;
}

-- after a change of d's entries, a node in use is still in use
still_used : (old mid : Graph) (d x : ℕ) → StaysBeside old mid d → old.kind x ≢ kinds.Free → mid.kind x ≢ kinds.Free
still_used old mid d x beside used free = used (sym (beside.kind x) ∙ free)

-- removing the entry and one link of a node that isn't a directory and has another is `DropsName`
pub left_name : (old mid new : Graph) (i d s count : ℕ) (name : List ℕ) → LeavesSlot old mid i d s name → SetsLinks mid new i count
    → count ≡ mid.links i - 1 → old.kind i ≢ kinds.Free → old.kind i ≢ kinds.Directory → 1 < mid.links i → DropsName old new i d s name
left_name old mid new i d s count name leaves sets less used other most =
    let links = leaves.beside.links i used in
    record {
      slot = slot_linked old mid new i d s i count name leaves sets;
      others = others_linked old mid new i d s i count name leaves sets;
      other = other;
      kind = sets.kind i ∙ leaves.beside.kind i;
      most = omega (arith, most, links);
      links = let is = sets.links in omega (arith, is, less, most, links);
      kept = λ x away some. sets.kept x away (still_used old mid d x leaves.beside some) ∙ leaves.beside.links x some;
    }

-- removing the last entry of a node that isn't a directory, and freeing the node, is `DropsFile`
pub left_file : (old mid new : Graph) (i d s : ℕ) (name : List ℕ) → LeavesSlot old mid i d s name → DropsNode mid new i
    → old.kind i ≢ kinds.Free → old.kind i ≢ kinds.Directory → mid.links i ≤ 1 → DropsFile old new i d s name
left_file old mid new i d s name leaves drops used other last =
    let apart : d ≢ i = λ e. other (ap old.kind (sym e) ∙ leaves.slot.directory) in
    let links = leaves.beside.links i used in
    record {
      slot = record {
        directory = leaves.slot.directory;
        was = leaves.slot.was;
        is = drops.others.entry d s apart apart ∙ leaves.slot.is;
        beside = λ t away. drops.others.entry d t apart apart ∙ leaves.slot.beside t away;
        whole = ap (λ n. n % 16) (drops.others.size d apart apart (leaves.beside.kind d ∙ leaves.slot.directory)) ∙ leaves.slot.whole;
      };
      others = record {
        kind = λ y away. drops.others.kind y away ∙ leaves.beside.kind y;
        size = λ y there away is. drops.others.size y away away (leaves.beside.kind y ∙ is) ∙ leaves.beside.size y there is;
        entry = λ y t there away. drops.others.entry y t away away ∙ leaves.beside.entry y t there;
      };
      other = other;
      kind = drops.kind;
      last = omega (arith, last, links);
      kept = λ x away some. drops.kept x away (still_used old mid d x leaves.beside some) ∙ leaves.beside.links x some;
    }

-- a directory with only `.` and `..` isn't the directory that has the entry for it
pub other_directory : (old mid : Graph) (i d s : ℕ) (name : List ℕ) → LeavesSlot old mid i d s name → is_dots name ≡ false
    → ((t j : ℕ) (word : List ℕ) → old.entry i t ≡ Some (word, j) → is_dots word ≡ true) → d ≢ i
other_directory old mid i d s name leaves plain only same =
    true≢false (sym (only s i name (ap (λ y. old.entry y s) (sym same) ∙ leaves.slot.was)) ∙ plain)

-- removing the entry of a directory, freeing it, and removing the link of its `..` from the parent is `DropsDirectory`
pub left_directory : (old mid low new : Graph) (i d s count : ℕ) (name : List ℕ) → LeavesSlot old mid i d s name → SetsLinks mid low d count
    → DropsNode low new i → count ≡ mid.links d - 1 → 1 ≤ mid.links d → is_dots name ≡ false → old.kind i ≡ kinds.Directory
    → ((t j : ℕ) (word : List ℕ) → old.entry i t ≡ Some (word, j) → is_dots word ≡ true) → DropsDirectory old new i d s name
left_directory old mid low new i d s count name leaves sets drops less some plain was only =
    let apart : d ≢ i = other_directory old mid i d s name leaves plain only in
    let used : old.kind d ≢ kinds.Free = λ e. let clash : kinds.Directory ≡ kinds.Free = sym leaves.slot.directory ∙ e in cc in
    let slot = slot_linked old mid low i d s d count name leaves sets in
    let others = others_linked old mid low i d s d count name leaves sets in
    let kind : low.kind d ≡ kinds.Directory = sets.kind d ∙ (leaves.beside.kind d ∙ leaves.slot.directory) in
    record {
      slot = record {
        directory = slot.directory;
        was = slot.was;
        is = drops.others.entry d s apart apart ∙ slot.is;
        beside = λ t away. drops.others.entry d t apart apart ∙ slot.beside t away;
        whole = ap (λ n. n % 16) (drops.others.size d apart apart kind) ∙ slot.whole;
      };
      others = record {
        kind = λ y away. drops.others.kind y away ∙ others.kind y away;
        size = λ y there away is. drops.others.size y away away (others.kind y away ∙ is) ∙ others.size y there away is;
        entry = λ y t there away. drops.others.entry y t away away ∙ others.entry y t there away;
      };
      named = plain;
      was = was;
      only = only;
      kind = drops.kind;
      less =
          let links = leaves.beside.links d used in
          let now = drops.kept d apart (λ free. let clash : kinds.Directory ≡ kinds.Free = sym kind ∙ free in cc) in
          let is = sets.links in omega (arith, links, now, is, less, some);
      kept = λ x away there none.
          let mid_used = still_used old mid d x leaves.beside none in
          drops.kept x away (λ free. mid_used (sym (sets.kind x) ∙ free)) ∙ (sets.kept x there mid_used ∙ leaves.beside.links x none);
    }
