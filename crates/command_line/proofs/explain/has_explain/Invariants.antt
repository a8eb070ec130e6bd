use Rattle.std.proofs.Common.{◌≡◌, drop, map}
use Rattle.std.specs.String.{string_bytes}
use Rattle.command_line.specs.Explain.{has_explain}
use Rattle.command_line.proofs.explain.has_explain.Given as goal

-- Invariant: none of the words so far is `--` or `--explain`, so the remaining words decide.
abbrev pub invariant-loop-word : goal.invariant-loop-word
invariant-loop-word l = has_explain (map string_bytes l.fn.words) ≡ has_explain (map string_bytes (drop l.word-index l.fn.words))
