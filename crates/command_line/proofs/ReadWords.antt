-- Reading the words that the command line accepts.
use Rattle.std.proofs.Common.{◌≡◌, ◌∙◌, true≢false, is_some, ℕ, true, false, List, ◌∷◌, [], Option, Some, None, Ok, Err, Result, IfErr, IfOk, IsErrAnd, IfSome, refl, sym, ap, subst, inl, inr}
use Rattle.std.specs.Option.{option_map}
use Rattle.std.specs.Borrow.{Bor}
use Rattle.std.specs.Prelude.{Box}
use Rattle.clap.specs.declared.builder.command.Command.{Command}
use Rattle.clap.specs.declared.error.Error.{Error}
use Rattle.clap.specs.declared.error.kind.ErrorKind.TheVariants as kinds
use Rattle.std.specs.Box.{box_value}
use Rattle.clap.specs.Words.{App, HasKind, HasMatchesOf, Row, app_of, fault_of, found_of, has_subcommand, kind_of, is_simple, is_simple_and_free, rows_of, subcommand_name_of, subcommand_of, subcommand_rows, subcommand_rows_of}
use Rattle.clap.specs.declared.parser.matches.ArgMatches.{ArgMatches}
use Rattle.clap.specs.declared.parser.matches.ArgMatches.TheViews.{out-ArgMatches, out-SubCommand}
use Rattle.clap.specs.declared.parser.matches.SubCommand.{SubCommand}
use Rattle.command_words.specs.Invocations.{AsksForNothing, IsWorkGiven, IsWorkable, IsWrong, NameAsksFor, TellsOf as IsToldBy, Words}
use Rattle.command_words.specs.declared.fault.WordFault.{WordFault}
use Rattle.command_words.specs.declared.fault.WordFault.TheVariants as faults
use Rattle.command_words.specs.Verbs.{IsNoCommand, verb_name}
use Rattle.command_words.specs.declared.invocation.Invocation.{Invocation}
use Rattle.command_words.specs.declared.invocation.Invocation.TheVariants as invocations
use Rattle.command_words.specs.declared.invocation.VolumeFile.{VolumeFile}
use Rattle.command_words.specs.declared.invocation.Work.{Work}
use Rattle.command_words.specs.declared.invocation.Work.TheVariants as works
use Rattle.command_words.specs.declared.verbs.Verb.{Verb}
use Rattle.command_words.proofs.Values.{names_nothing, no_command}
use Rattle.command_line.specs.CommandLine.{AsksNothing, IsRead, IsRefused, MetAsks, NameAsksForNothing, TellsOf, words_by, words_of}
use Rattle.command_line.specs.Words.{AreEditions, app, argument_rule, bare_program, command_in, explain_rule, faults_of, named_shape, need_rule, program, unixvol_app, verb_shape, with_argument, with_command}
use Rattle.command_line.proofs.FoundWords.{words_same}

-- clap's contract states the result of a parse of this command line
pub simple : (editions : Bor (List (Bor (List ℕ)))) → is_simple (unixvol_app editions) ≡ true
unfolding unixvol_app program bare_program explain_rule with_command verb_shape with_argument named_shape argument_rule need_rule
simple editions = refl

-- clap's contract states which words a parse of this command line refuses
pub simple_and_free : (editions : Bor (List (Bor (List ℕ)))) → is_simple_and_free (unixvol_app editions) ≡ true
unfolding unixvol_app program bare_program explain_rule with_command verb_shape with_argument named_shape argument_rule need_rule
simple_and_free editions = refl

-- if clap found a command, it is the one with this name and these rows
met : {Z : Type 0} (found : Option (Box SubCommand Z)) (name : List ℕ) (rows : List Row)
    → option_map (λ b. (out-SubCommand (box_value b)).name.now) found ≡ Some name → option_map (λ p. p.1) (subcommand_rows found) ≡ Some rows
    → subcommand_rows found ≡ Some (name, rows)
met None name rows named rows_are = absurd (cc)
met (Some b) name rows named rows_are = cc

-- an invocation that is read from the command's rows is also read from the command that clap found
pub asks_by_rows : (clock : Option ℕ) (matches values : ArgMatches) (name : List ℕ) (invocation : Invocation) → subcommand_name_of matches ≡ Some name
    → option_map (λ p. p.1) (subcommand_rows_of matches) ≡ Some (rows_of (found_of values)) → NameAsksFor clock name (words_of values) invocation
    → MetAsks clock (subcommand_rows_of matches) invocation
asks_by_rows clock matches values name invocation named rows_are asks =
    rw (met (out-ArgMatches matches).subcommand name (rows_of (found_of values)) named rows_are)
    (subst (λ (given : Words). NameAsksFor clock name given invocation) (words_same values) asks)

pub asked_by_rows : (clock : Option ℕ) (matches values : ArgMatches) (name : List ℕ) (invocation : Invocation) → subcommand_name_of matches ≡ Some name
    → option_map (λ p. p.1) (subcommand_rows_of matches) ≡ Some (rows_of (found_of values)) → MetAsks clock (subcommand_rows_of matches) invocation
    → NameAsksFor clock name (words_of values) invocation
asked_by_rows clock matches values name invocation named rows_are asks =
    subst (λ (given : Words). NameAsksFor clock name given invocation) (sym (words_same values))
    (rw (met (out-ArgMatches matches).subcommand name (rows_of (found_of values)) named rows_are) at asks)

-- if a fault isn't out of memory, it reports a wrong word
pub told_wrong : (wrong : Type 0) (fault : WordFault) → IsToldBy wrong fault → IsWrong fault → wrong
told_wrong wrong faults.NoMemory tells is = absurd is
told_wrong wrong (faults.Wrong word) tells is = tells

-- if a fault means that a command has no invocation, there is none for the command's name
pub told_nothing : (clock : Option ℕ) (given : Words) (name : List ℕ) (verb : Verb) (fault : WordFault) → name ≡ verb_name verb
    → IsToldBy (AsksForNothing clock verb given) fault → IsWrong fault → NameAsksForNothing clock name given
unfolding NameAsksForNothing
told_nothing clock given name verb fault is tells wrong = λ invocation asks.
    names_nothing clock verb given (told_wrong (AsksForNothing clock verb given) fault tells wrong) invocation
    (subst (λ (n : List ℕ). NameAsksFor clock n given invocation) is asks)

-- the words that clap found are read as the invocation of their command
pub asked : {E : Type 0} (clock : Option ℕ) (matches values : ArgMatches) (name : List ℕ) (result : Result (Option Invocation) E) → Some name ≡ subcommand_name_of matches
    → Some (rows_of (found_of values)) ≡ option_map (λ p. p.1) (subcommand_rows_of matches)
    → IfOk result (λ found. IfSome found (NameAsksFor clock name (words_of values))) → IfOk result (λ found. IfSome found (MetAsks clock (subcommand_rows_of matches)))
asked clock matches values name (Ok (Some invocation)) named rows_are asks = asks_by_rows clock matches values name invocation (sym named) (sym rows_are) asks
asked clock matches values name (Ok None) named rows_are asks = tt
asked clock matches values name (Err e) named rows_are asks = tt

-- if no command has the name that clap found, the words aren't read as any invocation
pub missed : {E : Type 0} (clock : Option ℕ) (matches values : ArgMatches) (name : List ℕ) (result : Result (Option Invocation) E) → Some name ≡ subcommand_name_of matches
    → Some (rows_of (found_of values)) ≡ option_map (λ p. p.1) (subcommand_rows_of matches)
    → IfOk result (λ found. found ≡ None → IsNoCommand name) → IfOk result (λ found. found ≡ None → AsksNothing clock (subcommand_rows_of matches))
unfolding AsksNothing
missed clock matches values name (Ok found) named rows_are none = λ is invocation asks.
    no_command clock name (words_of values) (none is) invocation (asked_by_rows clock matches values name invocation (sym named) (sym rows_are) asks)
missed clock matches values name (Err e) named rows_are none = tt

-- if the command that clap found has no invocation, the words aren't read as any invocation
pub refused : {T : Type 0} (clock : Option ℕ) (matches values : ArgMatches) (name : List ℕ) (result : Result T Error) → Some name ≡ subcommand_name_of matches
    → Some (rows_of (found_of values)) ≡ option_map (λ p. p.1) (subcommand_rows_of matches)
    → IfErr result (TellsOf (NameAsksForNothing clock name (words_of values))) → IfErr result (TellsOf (AsksNothing clock (subcommand_rows_of matches)))
unfolding AsksNothing NameAsksForNothing
refused clock matches values name (Ok found) named rows_are tells = tt
refused clock matches values name (Err e) named rows_are (inl memory) = inl memory
refused clock matches values name (Err e) named rows_are (inr (kind, none)) = inr (
  kind,
  λ invocation asks. none invocation (asked_by_rows clock matches values name invocation (sym named) (sym rows_are) asks),
)

-- if clap found no command, the words aren't read as any invocation
pub none_met : (clock : Option ℕ) (matches : ArgMatches) → has_subcommand matches ≡ false → AsksNothing clock (subcommand_rows_of matches)
unfolding AsksNothing
none_met clock matches none = go (out-ArgMatches matches).subcommand none
  where
    go : {Z : Type 0} (found : Option (Box SubCommand Z)) → is_some found ≡ false → (invocation : Invocation) → MetAsks clock (subcommand_rows found) invocation → ⊥
    go None none invocation asks = asks
    go (Some b) none invocation asks = absurd (true≢false none)

-- if the command line accepts the words, the command that clap found is the one that the words name
pub met_by : (command : Command) (editions : Bor (List (Bor (List ℕ)))) (words : List (List ℕ)) (matches : ArgMatches) → app command ≡ unixvol_app editions
    → HasMatchesOf (app_of command) words matches → subcommand_rows_of matches ≡ command_in (unixvol_app editions) words
unfolding app command_in
met_by command editions words matches is has = (has (ap is_simple is ∙ simple editions)).1 ∙ ap (λ (a : App). subcommand_of a words) is

-- if the command line refuses the words, the error is one of its errors for them
pub tells : (command : Command) (editions : Bor (List (Bor (List ℕ)))) (words : List (List ℕ)) (error : Error) → app command ≡ unixvol_app editions
    → (is_simple_and_free (app_of command) ≡ true → HasKind (fault_of (app_of command) words) error) → HasKind (faults_of (unixvol_app editions) words) error
unfolding app faults_of
tells command editions words error is fails =
    subst (λ (a : App). HasKind (fault_of a words) error) is (fails (ap is_simple_and_free is ∙ simple_and_free editions))

-- if the command line accepts the words, it has no errors for them
pub takes : (command : Command) (editions : Bor (List (Bor (List ℕ)))) (words : List (List ℕ)) → app command ≡ unixvol_app editions
    → (is_simple_and_free (app_of command) ≡ true → fault_of (app_of command) words ≡ []) → faults_of (unixvol_app editions) words ≡ []
unfolding app faults_of
takes command editions words is none =
    subst (λ (a : App). fault_of a words ≡ []) is (none (ap is_simple_and_free is ∙ simple_and_free editions))

-- if the command line accepts the words and they are an invocation, they are read as it
pub reads : (clock : Option ℕ) (editions : Bor (List (Bor (List ℕ)))) (words : List (List ℕ)) (matches : ArgMatches) (invocation : Invocation) → AreEditions editions
    → faults_of (unixvol_app editions) words ≡ [] → subcommand_rows_of matches ≡ command_in (unixvol_app editions) words
    → MetAsks clock (subcommand_rows_of matches) invocation → IsRead clock words invocation
unfolding IsRead
reads clock editions words matches invocation are taken is asks = (editions, are, (taken, rw is at asks))

-- if the command line refuses the words, they are refused
pub refuses : (clock : Option ℕ) (editions : Bor (List (Bor (List ℕ)))) (words : List (List ℕ)) (error : Error) → AreEditions editions
    → HasKind (faults_of (unixvol_app editions) words) error → IsRefused clock words error
unfolding IsRefused
refuses clock editions words error are kind = (editions, are, inl kind)

-- if the command line accepts the words but they aren't any invocation, they are refused
pub asks_nothing : (clock : Option ℕ) (editions : Bor (List (Bor (List ℕ)))) (words : List (List ℕ)) (matches : ArgMatches) (error : Error) → AreEditions editions
    → faults_of (unixvol_app editions) words ≡ [] → subcommand_rows_of matches ≡ command_in (unixvol_app editions) words
    → HasKind (kinds.ValueValidation ∷ kinds.MissingSubcommand ∷ []) error → AsksNothing clock (subcommand_rows_of matches) → IsRefused clock words error
unfolding IsRefused
asks_nothing clock editions words matches error are taken is kind none = (editions, are, inr (taken, kind, subst (AsksNothing clock) is none))

-- if the command line accepts the words but one of them isn't valid, they are refused
pub tells_of : (clock : Option ℕ) (editions : Bor (List (Bor (List ℕ)))) (words : List (List ℕ)) (matches : ArgMatches) (error : Error) → AreEditions editions
    → faults_of (unixvol_app editions) words ≡ [] → subcommand_rows_of matches ≡ command_in (unixvol_app editions) words
    → TellsOf (AsksNothing clock (subcommand_rows_of matches)) error → IsRefused clock words error
tells_of clock editions words matches error are taken is (inl memory) = refuses clock editions words error are (inl memory)
tells_of clock editions words matches error are taken is (inr (kind, none)) = asks_nothing clock editions words matches error are taken is (inr (inl kind)) none

-- a fact about an error also holds for the outcome that returns this error
pub handed_on : {T : Type 0} (result : Result T Error) (error : Error) (P : Error → Type 0) → IsErrAnd result (λ e. e ≡ error) → P error → IfErr result P
handed_on (Ok value) error P is holds = tt
handed_on (Err e) error P is holds = rw is holds

-- if memory ran out, the words are refused
pub memory_ran_out : {T : Type 0} (clock : Option ℕ) (result : Result T Error) (editions : Bor (List (Bor (List ℕ)))) (words : List (List ℕ)) → AreEditions editions
    → IsErrAnd result (λ e. kind_of e ≡ kinds.OutOfMemory) → IfErr result (IsRefused clock words)
memory_ran_out clock (Ok value) editions words are is = tt
memory_ran_out clock (Err e) editions words are is = refuses clock editions words e are (inl is)

-- if work with several threads is read from words, the number of threads or scripts is 1 to 64
work_given : (given : Words) (work : Work) → IsWorkGiven given work → IsWorkable work
work_given given (works.Check checker workers form) is = rw is.0.1 (is.0.0.1, is.0.0.2)
work_given given (works.Play scripts journal form) is = (is.1, is.2)

work_asked : (clock : Option ℕ) (met : Option (List ℕ × List Row)) (volume : VolumeFile) (work : Work) → MetAsks clock met (invocations.Work volume work) → IsWorkable work
work_asked clock None volume work asks = absurd asks
work_asked clock (Some met) volume work asks = work_given (words_by met.1) work asks.1.1

-- if the words are an invocation of work with several threads, the number of threads or scripts is 1 to 64
pub workable : (clock : Option ℕ) (words : List (List ℕ)) (volume : VolumeFile) (work : Work) → IsRead clock words (invocations.Work volume work) → IsWorkable work
unfolding IsRead
workable clock words volume work read = work_asked clock (command_in (unixvol_app read.0) words) volume work read.2.1
