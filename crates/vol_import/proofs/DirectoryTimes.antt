-- The times of directories after an import: a directory that members make has the time of the last of them.
use Rattle.std.proofs.Common.{◌≡◌, ◌∙◌, sym, ap, subst, refl, ℕ, ◌||◌, Bool, true, false, cond, List, [], ◌∷◌, ◌++◌, Option, Some, Result, Ok, Err, inl, inr}
use Rattle.std.specs.List.{list_any}
use Rattle.std.specs.Option.{option_map}
use Rattle.std.proofs.lemmas.Bool.{cases_eq, or_parts, true≢false}
use Rattle.vol_dir.specs.Access.{user}
use Rattle.vol_dir.specs.Tree.{Node, Tree, State}
use Rattle.vol_dir.specs.Walk.{walk}
use Rattle.vol_dir.specs.declared.cred.Cred.{Cred}
use Rattle.vol_change.specs.Edits.{with_times}
use Rattle.vol_volume.specs.Answer.{answer}
use Rattle.vol_volume.specs.Step.{step}
use Rattle.vol_volume.specs.declared.calls.Call.TheVariants as calls
use Rattle.vol_volume.specs.declared.queries.Query.TheVariants as queries
use Rattle.vol_import.specs.MadeMembers.{is_among, is_for}
use Rattle.vol_batch.specs.Paths.{below}
use Rattle.vol_import.specs.Plan.{check, is_directory as says_directory, is_directory_kind, is_known, is_long, is_there, joined, made_as, moment_of, names_of, steps_of, time_calls, times}
use Rattle.vol_import.specs.declared.member_check.MadeAs.{MadeAs}
use Rattle.vol_import.specs.declared.member_check.MadeAs.TheVariants.{File, Directory, Link, Device}
use Rattle.vol_import.specs.declared.member_check.MemberFault.{MemberFault}
use Rattle.vol_import.specs.declared.archive_members.Member.{Member}
use Rattle.vol_import.proofs.DotWalks.{DotsLead, zeros_below}
use Rattle.vol_import.proofs.DraftRuns.{Follows, Stands, follows_kept, follows_less, follows_same, follows_then, none_given, there_leads}
use Rattle.vol_import.proofs.DraftedMembers.{AreMadeAs, IsMadeAs, dotted, for_itself, made_as_kept}
use Rattle.vol_import.proofs.GrownTrees.{directory_given, node_beside, node_changed, times_changes}
use Rattle.vol_import.proofs.KeptNodes.{directory_kind}
use Rattle.vol_batch.proofs.MadeNames.{grown_path, owner_told}
use Rattle.vol_batch.proofs.MadePaths.{stat_answered}
use Rattle.vol_import.proofs.MemberCalls.{IsRun, run_parts}

-- if a Stat of a path finds no directory, neither does one of the path of its steps
pub none_below : (tree : Tree) (base path : List ℕ) → DotsLead tree → list_any is_long (names_of path) ≡ false
    → says_directory (answer tree (queries.Stat user (below base path))) ≡ false → is_there tree base (joined (steps_of path)) ≡ false
none_below tree base path dots short none = by (is_there tree base (joined (steps_of path))) refl
  where
    by : (there : Bool) → is_there tree base (joined (steps_of path)) ≡ there → there ≡ false
    by false e = refl
    by true e =
        let led = there_leads tree (base ++ joined (steps_of path)) e in
        let here = dotted tree base path dots led.0 in
        let plain = ap (λ b. b || false) (sym (zeros_below base path short) ∙ led.1) in
        let told : says_directory (answer tree (queries.Stat user (below base path))) ≡ true =
        ap says_directory (stat_answered tree (below base path) here.0 plain here.1) ∙ ap is_directory_kind (directory_kind here.0.content here.2) in
        absurd (true≢false (sym told ∙ none))

-- members that were made are unchanged by calls that give no owner
pub are_kept : (start : Tree) (base : List ℕ) (now : ℕ) (all : List Member) (known next : List (List ℕ)) (old new : Tree)
    → Follows start base none_given known next old new → AreMadeAs start base now all known old → AreMadeAs start base now all next new
are_kept start base now [] known next old new follows are = tt
are_kept start base now (member ∷ rest) known next old new follows are =
    let again = is_among rest (joined (steps_of member.path)) in (
      made_as_kept start base now member (check start.geometry.edition member) none_given again again known next old new follows (λ last. (last, refl)) are.0,
      are_kept start base now rest known next old new follows are.1,
    )

-- the time of the last change of node `i`
abbrev pub time_at : Tree → ℕ → Option ℕ
time_at tree i = option_map (λ (node : Node). node.modified) (tree.nodes i)

-- a directory that a member makes has the member's time, if no later member is for it
abbrev pub HasTime : Tree → List ℕ → ℕ → Member → Bool → Tree → Type 0
HasTime start base now member again tree =
    made_as member.header.flag member.path ≡ Ok Directory → says_directory (answer start (queries.Stat user (below base member.path))) ≡ false
    → again ≡ false
    → (i : ℕ) × (walk tree user (base ++ joined (steps_of member.path)) ≡ Ok i) × (time_at tree i ≡ Some (moment_of member.header now))

abbrev pub HaveTimes : Tree → List ℕ → ℕ → List Member → Tree → Type 0
HaveTimes start base now [] tree = Unit {0}
HaveTimes start base now (member ∷ rest) tree =
    HasTime start base now member (is_among rest (joined (steps_of member.path))) tree × HaveTimes start base now rest tree

-- the effect of calls that give times to directories: other new directories keep their times
pub record GiveTimes (start : Tree) (base : List ℕ) (given : List ℕ → Bool) (known : List (List ℕ)) (old new : Tree) : Type 0 where
  pub follows : Follows start base none_given known known old new
  pub spares : (path : List ℕ) → is_known known path ≡ true → is_there start base path ≡ false → given path ≡ false → (i : ℕ)
      → walk old user (base ++ path) ≡ Ok i → time_at new i ≡ time_at old i

give_none : (start : Tree) (base : List ℕ) (given : List ℕ → Bool) (known : List (List ℕ)) (tree : Tree) → Stands start base known tree
    → GiveTimes start base given known tree tree
give_none start base given known tree stands =
    record { follows = follows_same start base none_given known tree stands; spares = λ path is none other i walked. refl }

-- the directory of a member is one that didn't exist and that members make
abbrev IsNew : Tree → List ℕ → Member → List (List ℕ) → Type 0
IsNew start base member known =
    made_as member.header.flag member.path ≡ Ok Directory → says_directory (answer start (queries.Stat user (below base member.path))) ≡ false
    → (is_known known (joined (steps_of member.path)) ≡ true) × (is_there start base (joined (steps_of member.path)) ≡ false)

-- the call that gives a member's directory its time, if there is one, does so and spares all others
member_timed : (start : Tree) (base : List ℕ) (now : ℕ) (member : Member) (made : Result (MadeAs × Cred) MemberFault) (again : Bool)
    (known : List (List ℕ)) (from to : State) → DotsLead start → Stands start base known from.tree
    → IsMadeAs start base now member again made known from.tree
    → IsRun from (time_calls start base now member (made_as member.header.flag member.path)) to
    → GiveTimes start base (λ path. is_for path member) known from.tree to.tree × HasTime start base now member false to.tree × IsNew start base member known
member_timed start base now member made again known from to dots stands = by made
  where
    Timed : State → Type 0
    Timed to = GiveTimes start base (λ path. is_for path member) known from.tree to.tree × HasTime start base now member false to.tree
        × IsNew start base member known

    none : to ≡ from → (made_as member.header.flag member.path ≡ Ok Directory
        → says_directory (answer start (queries.Stat user (below base member.path))) ≡ false → ⊥) → Timed to
    none same other = subst Timed (sym same) (
      give_none start base (λ path. is_for path member) known from.tree stands,
      λ kind absent last. absurd (other kind absent),
      λ kind absent. absurd (other kind absent),
    )

    one : (owner : Cred) → IsMadeAs start base now member again (Ok (Directory, owner)) known from.tree → (there : Bool)
        → says_directory (answer start (queries.Stat user (below base member.path))) ≡ there
        → IsRun from (cond there [] (calls.Times user now (below base member.path) (moment_of member.header now) (moment_of member.header now) ∷ [])) to
        → Timed to
    one owner is true e run = none run (λ kind absent. true≢false (sym e ∙ absent))
    one owner is false e run =
        let moment = moment_of member.header now in
        let path = below base member.path in
        let steps = joined (steps_of member.path) in
        let next = step from (calls.Times user now path moment moment) run.0 in
        let led = is.1.led in
        let i = led.1.number in
        let change = with_times now moment moment in
        let changes = times_changes from now path moment moment run.0 i led.1.walked in
        let gives = directory_given from.tree next.tree path change (owner_told led.0) led changes (λ name j is. is) refl refl in
        let follows = follows_kept start base path known from.tree next.tree led stands run.2 gives in
        subst Timed (sym run.3) (
          record {
            follows = follows;
            spares = λ p was absent other j walked. elim (cases_eq j i) [
              | inl at ↦
                  let same = stands.apart p steps was is.1.noted absent j walked (is.1.walked ∙ ap Ok (sym at)) in
                  absurd (true≢false (sym (for_itself member is.0.kind) ∙ (ap (λ p. is_for p member) (sym same) ∙ other)))
              | inr beside ↦ ap (option_map (λ (node : Node). node.modified)) (node_beside from.tree next.tree i change changes j beside)
            ];
          },
          λ kind absent last. (
            i,
            grown_path from.tree next.tree (base ++ steps) i follows.grows is.1.walked,
            ap (option_map (λ (node : Node). node.modified)) (node_changed from.tree next.tree i change led.0 changes led.1.stands),
          ),
          λ kind absent. (is.1.noted, none_below start base member.path dots is.0.short absent),
        )

    by : (made : Result (MadeAs × Cred) MemberFault) → IsMadeAs start base now member again made known from.tree
        → IsRun from (time_calls start base now member (made_as member.header.flag member.path)) to → Timed to
    by (Err fault) is run = absurd is
    by (Ok (File, owner)) is run = none (subst (λ m. IsRun from (time_calls start base now member m) to) is.0.kind run)
        (λ kind absent. let both : Ok File ≡ Ok Directory = sym is.0.kind ∙ kind in cc)
    by (Ok (Link, owner)) is run = none (subst (λ m. IsRun from (time_calls start base now member m) to) is.0.kind run)
        (λ kind absent. let both : Ok Link ≡ Ok Directory = sym is.0.kind ∙ kind in cc)
    by (Ok (Device kind, owner)) is run = none (subst (λ m. IsRun from (time_calls start base now member m) to) is.0.kind run)
        (λ directory absent. let both : Ok (Device kind) ≡ Ok Directory = sym is.0.kind ∙ directory in cc)
    by (Ok (Directory, owner)) is run = one owner is (says_directory (answer start (queries.Stat user (below base member.path)))) refl
        (subst (λ m. IsRun from (time_calls start base now member m) to) is.0.kind run)

-- the calls for all members give the directories their times
pub times_given : (start : Tree) (base : List ℕ) (now : ℕ) (all : List Member) (known : List (List ℕ)) (from to : State) → DotsLead start
    → Stands start base known from.tree → AreMadeAs start base now all known from.tree → IsRun from (times start base now all) to
    → GiveTimes start base (is_among all) known from.tree to.tree × HaveTimes start base now all to.tree
times_given start base now [] known from to dots stands are run =
    subst (λ (s : State). GiveTimes start base (is_among []) known from.tree s.tree × Unit {0}) (sym run)
    (give_none start base (is_among []) known from.tree stands, tt)
times_given start base now (member ∷ rest) known from to dots stands are run =
    let steps = joined (steps_of member.path) in
    let parts = run_parts from to (time_calls start base now member (made_as member.header.flag member.path)) (times start base now rest) run in
    let mid = parts.0 in
    let one = member_timed start base now member (check start.geometry.edition member) (is_among rest steps) known from mid dots stands are.0 parts.1 in
    let grows = one.0.follows.grows in
    let others = times_given start base now rest known mid to dots one.0.follows.stands
    (are_kept start base now rest known known from.tree mid.tree one.0.follows are.1) parts.2 in (
      record {
        follows = follows_less start base (λ path. none_given path || none_given path) none_given known known from.tree to.tree (λ path is. is)
            (follows_then start base none_given none_given known known known from.tree mid.tree to.tree one.0.follows others.0.follows);
        spares = λ path is none other i walked.
            let apart = or_parts (is_for path member) (is_among rest path) other in
            others.0.spares path is none apart.1 i (grown_path from.tree mid.tree (base ++ path) i grows walked)
            ∙ one.0.spares path is none apart.0 i walked;
      },
      (
        λ kind absent last.
            let first = one.1 kind absent refl in
            let new = one.2 kind absent in (
              first.0,
              grown_path mid.tree to.tree (base ++ steps) first.0 others.0.follows.grows first.1,
              others.0.spares steps new.0 new.1 last first.0 first.1 ∙ first.2,
            ),
        others.1,
      ),
    )
