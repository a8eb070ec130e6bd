-- Steps, each of which may fail.
use Rattle.std.specs.Prelude.{Result, Ok, Err}

-- the result of the next step after an Ok; an Err ends the steps (Result::and_then)
abbrev pub and_then : {X Y E : Type 0} → Result X E → (X → Result Y E) → Result Y E
and_then (Ok x) next = next x
and_then (Err error) next = Err error
