-- Statements of the laws of requests by i-number.
use Rattle.std.specs.Prelude.{◌≡◌, ℕ, ◌+◌, ◌↔◌, false, List, [], ◌∷◌, ◌++◌, map, Option, None, Some, Ok}
use Rattle.vol_layout.specs.Geometry.{geometry_of, Fits}
use Rattle.vol_layout.specs.declared.edition.Edition.{Edition}
use Rattle.vol_layout.specs.declared.slot.Slot.{Slot}
use Rattle.vol_judge.specs.Sound.{IsSound}
use Rattle.vol_dir.specs.Access.{user}
use Rattle.vol_dir.specs.Entries.{entry_in, entry_at, slot_count, IsDirectory}
use Rattle.vol_dir.specs.Names.{names_of}
use Rattle.vol_dir.specs.Scan.{GoesOn}
use Rattle.vol_dir.specs.Tree.{tree}
use Rattle.vol_dir.specs.Walk.{IsComponent, has_zero, walk}
use Rattle.vol_volume.specs.Answer.{answer}
use Rattle.vol_volume.specs.declared.queries.Query.TheVariants as queries
use Rattle.vol_volume.specs.declared.queries.Reply.TheVariants as replies
use Rattle.vol_volume.specs.declared.queries.Stat.{Stat}
use Rattle.vol_serve.specs.Nodes.{stat_in, read_in, look_up}

-- rules 1 and 2 hold for an image, it is sound, and a path leads to node `i`, as user 0 walks it (Lions on namei)
pub record LeadsTo (edition : Edition) (image path : List ℕ) (i : ℕ) : Type 0 where
  pub fits : Fits (geometry_of edition image) image
  pub sound : IsSound edition image
  pub walked : walk (tree (geometry_of edition image) image) user path ≡ Ok i

-- the attributes of a node are the reply to a Stat of its path (stat)
abbrev pub StatsAreReplied : Type 0
StatsAreReplied = (edition : Edition) (image path : List ℕ) (i : ℕ) → LeadsTo edition image path i → has_zero path ≡ false
    → let tree = tree (geometry_of edition image) image in
    (stat : Stat) × (stat_in tree i ≡ Some stat) × (answer tree (queries.Stat user path) ≡ Ok (replies.Stat stat))

-- bytes of a node are read if and only if they are the reply to a Read of its path (Lions on readi)
abbrev pub BytesAreReplied : Type 0
BytesAreReplied = (edition : Edition) (image path : List ℕ) (i offset len : ℕ) (bytes : List ℕ) → LeadsTo edition image path i → has_zero path ≡ false
    → let tree = tree (geometry_of edition image) image in
    (read_in tree i offset len ≡ Ok bytes) ↔ (answer tree (queries.Read user path offset len) ≡ Ok (replies.Bytes bytes))

-- a name leads from one node to another if and only if the path followed by the name leads there (Lions on namei)
abbrev pub NamesLeadAsWalks : Type 0
NamesLeadAsWalks = (edition : Edition) (image path name : List ℕ) (d i : ℕ) → LeadsTo edition image path d → IsComponent name
    → let tree = tree (geometry_of edition image) image in
    (look_up tree d name ≡ Ok i) ↔ (walk tree user (path ++ 47 ∷ name) ≡ Ok i)

-- a listing that continues from slot `from`, entry by entry, finds exactly these entries, in `count` slots (manual section 5, directories)
abbrev pub IsListed : (ℕ → Option (List ℕ × ℕ)) → ℕ → ℕ → List (ℕ × Slot) → Type 0
IsListed entry count from [] = GoesOn entry from count None
IsListed entry count from (found ∷ founds) = GoesOn entry from count (Some found) × IsListed entry count (found.0 + 1) founds

-- the entries that a listing finds starting with the first slot are, as a map, the names in the reply to a List of the path (Lions on access)
abbrev pub ListingsAreReplied : Type 0
ListingsAreReplied = (edition : Edition) (image path : List ℕ) (d : ℕ) (founds : List (ℕ × Slot)) → LeadsTo edition image path d → has_zero path ≡ false
    → let geometry = geometry_of edition image in
    IsDirectory geometry image d → IsListed (entry_at geometry image d) (slot_count geometry image d) 0 founds
    → answer (tree geometry image) (queries.List user path) ≡ Ok (replies.Names (names_of (map (λ (found : ℕ × Slot). entry_in found.1) founds)))
