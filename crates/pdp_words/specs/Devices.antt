-- The bytes that a device returns or accepts, if they are known.
use Rattle.std.specs.Prelude.{ℕ, ◌≤◌, List, Option, length, take}
use Rattle.std.specs.Io.KnownBytes.{Appends, Consumes, IsAtEnd}

-- if the remaining bytes were known, they were `image`, and all of them were read (std::io::Read and Write)
abbrev pub IsReadWhole : Option (List ℕ) → Option (List ℕ) → List ℕ → Type 0
IsReadWhole old new image = Consumes old new image × IsAtEnd new

-- some bytes were removed from the front of the remaining bytes, and nothing else changed (std::io::Read and Write)
abbrev pub LosesFront : Option (List ℕ) → Option (List ℕ) → Type 0
LosesFront old new = (front : List ℕ) × Consumes old new front

-- the first `count` bytes of `bytes` were appended to the contents, and `count` is at most its length (std::io::Read and Write)
abbrev pub AppendsFront : Option (List ℕ) → Option (List ℕ) → List ℕ → ℕ → Type 0
AppendsFront old new bytes count = (count ≤ length bytes) × Appends old new (take count bytes)
