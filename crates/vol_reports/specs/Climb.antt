-- Climbing from directories over the naming entries that were found.
use Rattle.std.specs.Prelude.{◌≡◌, ◌≢◌, ◌⊎◌, ℕ, ◌+◌, ◌<◌, ◌==◌, if◌then◌else◌, Bool, List, [], ◌∷◌, ◌++◌, length, slice_index, slice_index_or, slice_set, Option, None, Some}
use Rattle.std.specs.List.{Contains, count_by, list_any}
use Rattle.std.specs.Option.{option_map}
use Rattle.std.specs.Borrow.{Bor}
use Rattle.std.specs.declared.vec.Vec.{Vec}
use Rattle.std.specs.declared.alloc.Global.{Global}
use Rattle.vol_judge.specs.Steps.{rank}
use Rattle.vol_reports.specs.Words.{name_word}
use Rattle.vol_reports.specs.Placed.{Placed}
use Rattle.vol_reports.specs.Ncheck.{slashed, dots, path_up}

-- the naming entry of i-number `i`, if one was found (ncheck)
abbrev pub naming_in : List (Option (Bor Placed)) → ℕ → Option Placed
naming_in naming i = option_map (λ (entry : Bor Placed). entry.now) (slice_index_or naming i None)

-- the names of the entries that a climb passed, each after a slash, starting with the last (ncheck)
unfoldable pub trail : List (Bor Placed) → List ℕ
trail [] = []
trail (entry ∷ way) = trail way ++ slashed entry.now.name

-- the beginning of a path, which depends on whether the climb ended at the root (ncheck)
abbrev pub path_start : Bool → List ℕ
path_start rooted = if rooted then [] else dots

-- every mark is of a turn before `turn` (this project)
abbrev pub AreBefore : ℕ → List ℕ → Type 0
AreBefore turn marks = (x : ℕ) → slice_index marks x < turn

-- an entry is for i-number `i`, and has the rank in the words for `i` (ncheck)
pub record IsNaming (words : List ℕ) (i : ℕ) (entry : Placed) : Type 0 where
  pub inode : entry.inode ≡ i
  pub first : rank entry.directory entry.slot ≡ slice_index words (name_word i)

-- the naming entry found for i-number `i` is the first of its entries, or there is none (ncheck)
pub record HasNaming (words : List ℕ) (entries : List Placed) (naming : List (Option (Bor Placed))) (i : ℕ) : Type 0 where
  pub found : (entry : Placed) → naming_in naming i ≡ Some entry → IsNaming words i entry × Contains entries entry
  pub missing : naming_in naming i ≡ None → (entry : Placed) → Contains entries entry → IsNaming words i entry → ⊥

-- a step up from directory `at`: it is marked with turn `turn`, and this is its naming entry; or this turn marked it before, or it has no naming
-- entry (ncheck)
abbrev pub Steps : List (Option (Bor Placed)) → ℕ → ℕ → List ℕ → List ℕ → Option (Bor Placed) → Type 0
Steps naming turn at old new (Some entry) =
    (at < length old) × (slice_index old at ≢ turn) × (new ≡ slice_set old at turn) × (naming_in naming at ≡ Some entry.now)
Steps naming turn at old new None = ((at < length old) × (slice_index old at ≡ turn)) ⊎ (naming_in naming at ≡ None)

-- the state of a climb from directory `d` when it is at directory `at` (this project)
pub record Climbs (root : ℕ) (naming : List (Option (Bor Placed))) (turn d at : ℕ) (marks : List ℕ) (way : List (Bor Placed)) : Type 0 where
  pub met : List ℕ
  pub fuel : ℕ
  pub spent : fuel + length met ≡ length naming + 1
  pub room : length marks ≡ length naming
  pub count : count_by (λ m. m == turn) marks ≡ length met
  pub flags : (x : ℕ) → x < length marks → list_any (λ e. e == x) met ≡ (slice_index marks x == turn)
  pub early : AreBefore (turn + 1) marks
  pub path : path_up root (naming_in naming) (length naming + 1) [] d ≡ path_up root (naming_in naming) fuel met at ++ trail way

-- an entry was stored at its i-number's index if it is the naming entry of i-number `i`; otherwise the old one is kept (ncheck)
abbrev pub PutsNaming : List ℕ → Placed → List (Option (Bor Placed)) → List (Option (Bor Placed)) → ℕ → Type 0
PutsNaming words entry old new i =
    (IsNaming words i entry × (naming_in new i ≡ Some entry)) ⊎ ((IsNaming words i entry → ⊥) × (naming_in new i ≡ naming_in old i))

-- an entry's i-number and its path over the naming entries that were found (ncheck)
abbrev pub path_in : ℕ → List (Option (Bor Placed)) → Placed → ℕ × List ℕ
path_in root naming entry = (entry.inode, path_up root (naming_in naming) (length naming + 1) [] entry.directory ++ slashed entry.name)

-- a pair as contracts see it (this project)
abbrev pub seen_pair : ℕ × Vec ℕ Global → ℕ × List ℕ
seen_pair pair = (pair.0, pair.1.items)
