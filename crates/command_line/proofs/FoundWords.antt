-- The words that clap found for an argument.
use Rattle.std.proofs.Common.{◌≡◌, ℕ, List, [], Option, None, Some, option_map, slice_get, unwrap_or, refl, sym}
use Rattle.std.specs.Borrow.{Bor}
use Rattle.std.specs.Option.{option_and_then}
use Rattle.std.proofs.lemmas.Option.{slice_get-map}
use Rattle.clap.proofs.WalkLemmas.{raw_values-rows}
use Rattle.clap.specs.Words.{first_value, found_of, matched_of, raw_values, rows_of}
use Rattle.clap.specs.declared.parser.matches.MatchedArg.{MatchedArg}
use Rattle.clap.specs.declared.parser.matches.ArgMatches.{ArgMatches}
use Rattle.command_line.specs.CommandLine.{words_by, words_of}

-- the first word that clap returns for an argument is the first of all its words
pub first_word : (values : ArgMatches) (name : List ℕ) → first_value (found_of values) name ≡ slice_get (words_of values name) 0
first_word values name = go (matched_of (found_of values) name)
  where
    go : (found : Option MatchedArg)
        → option_and_then (λ a. option_map (λ s. s.now) (slice_get a.vals.items 0)) found ≡ slice_get (unwrap_or (option_map raw_values found) []) 0
    go None = refl
    go (Some matched) = sym (slice_get-map (λ (s : Bor (List ℕ)). s.now) matched.vals.items 0)

-- the words for the arguments are those in the rows that clap makes
pub words_same : (values : ArgMatches) → words_of values ≡ words_by (rows_of (found_of values))
words_same values i name = unwrap_or (raw_values-rows (found_of values) name i) []
