-- The messages that were taken and sent.
use Rattle.std.specs.Prelude.{◌≡◌, ℕ, List, ◌++◌, Option, None, Some, ⊤}

-- if the old messages are known, the new ones are the old ones followed by these (this project)
abbrev pub Grows : Option (List (List ℕ)) → Option (List (List ℕ)) → List (List ℕ) → Type 0
Grows None new more = ⊤
Grows (Some old) new more = new ≡ Some (old ++ more)
