-- The invocations that the words of the command line are read as.
use Rattle.std.specs.Prelude.{◌≡◌, ◌⊎◌, ◌∷◌, ℕ, List, [], Option, Some, None, option_map, unwrap_or}
use Rattle.std.specs.Borrow.{Bor}
use Rattle.clap.specs.Words.{App, HasKind, Row, all_of, found_of, kind_of, matched_of, raw_values}
use Rattle.clap.specs.declared.error.Error.{Error}
use Rattle.clap.specs.declared.error.kind.ErrorKind.TheVariants as kinds
use Rattle.clap.specs.declared.parser.matches.ArgMatches.{ArgMatches}
use Rattle.command_words.specs.Invocations.{NameAsksFor, Words}
use Rattle.command_words.specs.declared.invocation.Invocation.{Invocation}
use Rattle.command_line.specs.Words.{AreEditions, command_in, faults_of, unixvol_app}

-- all words that a parse found for an argument (this project)
abbrev pub words_of : ArgMatches → Words
words_of values name = unwrap_or (option_map raw_values (matched_of (found_of values) name)) []

-- all words for an argument, from the rows that clap makes of the command line's words (this project)
abbrev pub words_by : List Row → Words
words_by rows name = unwrap_or (all_of name rows) []

-- the command of this name, with the words for its arguments, isn't read as any invocation (this project)
unfoldable pub NameAsksForNothing : Option ℕ → List ℕ → Words → Type 0
NameAsksForNothing clock name given = (invocation : Invocation) → NameAsksFor clock name given invocation → ⊥

-- memory ran out; or the error reports a wrong word, and `wrong` holds (this project)
abbrev pub TellsOf : Type 0 → Error → Type 0
TellsOf wrong error = (kind_of error ≡ kinds.OutOfMemory) ⊎ ((kind_of error ≡ kinds.ValueValidation) × wrong)

-- the command that clap found, with the rows of its words, is read as this invocation (this project)
abbrev pub MetAsks : Option ℕ → Option (List ℕ × List Row) → Invocation → Type 0
MetAsks clock None invocation = ⊥
MetAsks clock (Some met) invocation = NameAsksFor clock met.0 (words_by met.1) invocation

-- the command that clap found, if any, isn't read as any invocation (this project)
unfoldable pub AsksNothing : Option ℕ → Option (List ℕ × List Row) → Type 0
AsksNothing clock met = (invocation : Invocation) → MetAsks clock met invocation → ⊥

-- the command line accepts these words, and they are read as this invocation (this project)
abbrev pub IsReadBy : App → Option ℕ → List (List ℕ) → Invocation → Type 0
IsReadBy app clock words invocation = (faults_of app words ≡ []) × MetAsks clock (command_in app words) invocation

-- memory ran out; or this is the command line's refusal of the words; or it accepts them, but they aren't read as any invocation (this project)
abbrev pub IsRefusedBy : App → Option ℕ → List (List ℕ) → Error → Type 0
IsRefusedBy app clock words error = HasKind (faults_of app words) error
    ⊎ ((faults_of app words ≡ []) × HasKind (kinds.ValueValidation ∷ kinds.MissingSubcommand ∷ []) error × AsksNothing clock (command_in app words))

-- the command line of `unixvol` accepts these words, and they are read as this invocation (this project)
unfoldable pub IsRead : Option ℕ → List (List ℕ) → Invocation → Type 0
IsRead clock words invocation = (editions : Bor (List (Bor (List ℕ)))) × AreEditions editions × IsReadBy (unixvol_app editions) clock words invocation

-- memory ran out, or the command line of `unixvol` refuses the words, or they aren't read as any invocation (this project)
unfoldable pub IsRefused : Option ℕ → List (List ℕ) → Error → Type 0
IsRefused clock words error = (editions : Bor (List (Bor (List ℕ)))) × AreEditions editions × IsRefusedBy (unixvol_app editions) clock words error
