-- The bytes of nodes of one kind.
use Rattle.std.proofs.Common.{◌≡◌, refl, sym, ℕ, true, false, List, None}
use Rattle.std.proofs.lemmas.Bool.{true≢false}
use Rattle.vol_layout.specs.Body.{body}
use Rattle.vol_layout.specs.declared.geometry.Geometry.{Geometry}
use Rattle.vol_compare.specs.Bodies.{first_difference}
use Rattle.vol_compare.specs.Lines.{is_one_kind}
use Rattle.vol_compare.specs.Members.{bytes_of, is_file}
use Rattle.vol_compare.specs.declared.members.NodeKind.{NodeKind}
use Rattle.vol_compare.specs.declared.members.NodeKind.TheVariants as nodes

-- of two regular files the bodies are compared
pub file_bytes : (g h : Geometry) (old new : List ℕ) (i j : ℕ) (a b : NodeKind) → is_file a ≡ true → is_one_kind a b ≡ true
    → first_difference (body g old i) (body h new j) ≡ first_difference (bytes_of g old i a) (bytes_of h new j b)
file_bytes g h old new i j (nodes.File m) (nodes.File n) is one = refl
file_bytes g h old new i j (nodes.File m) nodes.Directory is one = absurd (true≢false (sym one))
file_bytes g h old new i j (nodes.File m) (nodes.Block n) is one = absurd (true≢false (sym one))
file_bytes g h old new i j (nodes.File m) (nodes.Character n) is one = absurd (true≢false (sym one))
file_bytes g h old new i j nodes.Directory b is one = absurd (true≢false (sym is))
file_bytes g h old new i j (nodes.Block m) b is one = absurd (true≢false (sym is))
file_bytes g h old new i j (nodes.Character m) b is one = absurd (true≢false (sym is))

-- of other nodes no bytes are compared
pub no_bytes : (g h : Geometry) (old new : List ℕ) (i j : ℕ) (a b : NodeKind) → is_file a ≡ false → is_one_kind a b ≡ true
    → first_difference (bytes_of g old i a) (bytes_of h new j b) ≡ None
unfolding first_difference
no_bytes g h old new i j (nodes.File m) b is one = absurd (true≢false is)
no_bytes g h old new i j nodes.Directory nodes.Directory is one = refl
no_bytes g h old new i j nodes.Directory (nodes.File n) is one = absurd (true≢false (sym one))
no_bytes g h old new i j nodes.Directory (nodes.Block n) is one = absurd (true≢false (sym one))
no_bytes g h old new i j nodes.Directory (nodes.Character n) is one = absurd (true≢false (sym one))
no_bytes g h old new i j (nodes.Block m) (nodes.Block n) is one = refl
no_bytes g h old new i j (nodes.Block m) (nodes.File n) is one = absurd (true≢false (sym one))
no_bytes g h old new i j (nodes.Block m) nodes.Directory is one = absurd (true≢false (sym one))
no_bytes g h old new i j (nodes.Block m) (nodes.Character n) is one = absurd (true≢false (sym one))
no_bytes g h old new i j (nodes.Character m) (nodes.Character n) is one = refl
no_bytes g h old new i j (nodes.Character m) (nodes.File n) is one = absurd (true≢false (sym one))
no_bytes g h old new i j (nodes.Character m) nodes.Directory is one = absurd (true≢false (sym one))
no_bytes g h old new i j (nodes.Character m) (nodes.Block n) is one = absurd (true≢false (sym one))
