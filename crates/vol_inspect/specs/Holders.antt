-- The first position that points to each block.
use Rattle.std.specs.Prelude.{◌≡◌, ℕ, ◌+◌, ◌*◌, ◌≤◌, Bool, true, false, List, [], ◌∷◌, length, slice_index_or, Option, None}
use Rattle.std.specs.Option.{option_or, option_map}
use Rattle.std.specs.List.{find, range_with_len}
use Rattle.vol_layout.specs.Geometry.{in_zone}
use Rattle.vol_layout.specs.declared.geometry.Geometry.{Geometry}
use Rattle.vol_inspect.specs.Owners.{is_block, naming}
use Rattle.vol_inspect.specs.Extents.{holdings_from}
use Rattle.vol_inspect.specs.declared.extent.Extent.{Extent}
use Rattle.vol_inspect.specs.declared.holders.Holder.{Holder}

-- a position of i-node i that points to a block (this project)
abbrev pub held : ℕ → Extent → Holder
held i e = record { ino = i; level = e.level; logical = e.logical }

-- the holder that a table has for block c (this project)
abbrev pub holder_in : List (Option Holder) → ℕ → Option Holder
holder_in table c = slice_index_or table c None

-- each block without a holder got the first of these blocks of i-node i that is this block (this project)
pub record Notes (g : Geometry) (i : ℕ) (old new : List (Option Holder)) (found : List Extent) : Type 0 where
  pub len : length new ≡ length old
  pub each : (c : ℕ) → in_zone g c ≡ true
      → holder_in new c ≡ option_or (holder_in old c) (option_map (held i) (find (is_block c) found))

-- no marked block leads to a block without a holder; each block has four marks, one for each number of levels below it (this project)
pub record AreNoted (g : Geometry) (image : List ℕ) (table : List (Option Holder)) (seen : List Bool) : Type 0 where
  pub len : length seen ≡ 4 * g.zone_end
  pub none : (m d logical c : ℕ) → in_zone g m ≡ true → d ≤ 3 → slice_index_or seen (4 * m + d) false ≡ true → in_zone g c ≡ true
      → holder_in table c ≡ None → find (is_block c) (holdings_from g image d logical m) ≡ None

-- the first of some i-nodes whose block map has block c, with its first position that points to it (this project)
unfoldable pub first_of : Geometry → List ℕ → ℕ → List ℕ → Option Holder
first_of g image c [] = None
first_of g image c (i ∷ more) = option_or (option_map (held i) (naming g image c i)) (first_of g image c more)

-- each data block has the first i-node whose block map has it (this project)
abbrev pub AreHolders : Geometry → List ℕ → ℕ → List (Option Holder) → Type 0
AreHolders g image n table = (c : ℕ) → in_zone g c ≡ true → holder_in table c ≡ first_of g image c (range_with_len 1 n)
