-- The failure of one call of a reader or writer for tests.
use Rattle.std.specs.Prelude.{◌≡◌, ℕ, ◌==◌, None, Ok, Option, Result, IsErrAnd, if◌then◌else◌}
use Rattle.std.specs.IoError.{error_kind}
use Rattle.std.specs.declared.io.Error.{Error as IoError}
use Rattle.pdp_words.specs.declared.test_streams.WriteMishap.{WriteMishap}
use Rattle.pdp_words.specs.declared.test_streams.WriteMishap.TheVariants.{Error, TakesNone}

-- the failure of this call: `kind` if `left` is 0, else None (for tests)
abbrev pub due : {T : Type 0} → ℕ → Option T → Option T
due left kind = if left == 0 then kind else None

-- the failure that a later call still has: None if `left` is 0, else `kind` (for tests)
abbrev pub not_due : {T : Type 0} → ℕ → Option T → Option T
not_due left kind = if left == 0 then None else kind

-- the result of a write that fails (for tests)
abbrev pub IsWriteGoneWrong : WriteMishap → Result ℕ IoError → Type 0
IsWriteGoneWrong (Error kind) result = IsErrAnd result (λ e. error_kind e ≡ kind)
IsWriteGoneWrong TakesNone result = result ≡ Ok 0
