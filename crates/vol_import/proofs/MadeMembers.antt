-- The calls of a plan make the members of the archive.
use Rattle.std.proofs.Common.{◌≡◌, ◌∙◌, sym, ap, subst, refl, ℕ, ◌+◌, ◌*◌, ◌%◌, ◌||◌, Bool, true, false, cond, List, [], ◌∷◌, ◌++◌, Option, None, Some, Ok, Err, arith, ap₂, inl, inr}
use Rattle.std.specs.Prelude.{Result, replicate, reverse}
use Rattle.std.specs.List.{find, flat_map, list_any}
use Rattle.std.specs.Option.{option_map, option_or, unwrap_or}
use Rattle.std.proofs.lemmas.Bool.{or_parts}
use Rattle.std.proofs.lemmas.List.{append-nil, reverse-append}
use Rattle.std.proofs.lemmas.List.Folds.{list_any-append, find-append}
use Rattle.vol_layout.specs.Geometry.{geometry_of}
use Rattle.vol_layout.specs.Inode.{device_type}
use Rattle.vol_layout.specs.declared.edition.Edition.{Edition}
use Rattle.vol_layout.specs.declared.mode.Kind.{Kind}
use Rattle.vol_layout.specs.declared.mode.Kind.TheVariants as kinds
use Rattle.vol_dir.specs.Access.{user}
use Rattle.vol_dir.specs.Tree.{Content, Device as DeviceOf, Node, Tree, State}
use Rattle.vol_dir.specs.Walk.{has_zero, is_nil, walk}
use Rattle.vol_dir.specs.declared.cred.Cred.{Cred}
use Rattle.vol_dir.specs.declared.refusal.Refusal.{Refusal}
use Rattle.vol_change.specs.Edits.{new_content}
use Rattle.vol_change.specs.Nodes.{no_node, node_at}
use Rattle.vol_change.specs.declared.new_nodes.NewFile.TheVariants.{Special}
use Rattle.vol_volume.specs.Answer.{answer, kind_of_content, stat_of}
use Rattle.vol_volume.specs.Step.{step}
use Rattle.vol_volume.specs.Volume.{Mounted, mounted, reads_as}
use Rattle.vol_volume.specs.declared.calls.Call.{Call}
use Rattle.vol_volume.specs.declared.calls.Call.TheVariants as calls
use Rattle.vol_volume.specs.declared.queries.Query.TheVariants as queries
use Rattle.vol_volume.specs.declared.queries.Reply.{Reply}
use Rattle.vol_volume.specs.declared.queries.Reply.TheVariants as replies
use Rattle.vol_volume.proofs.Journals.{reads_made}
use Rattle.vol_import.specs.MadeMembers.{AddsNames, EndsIn, HasMember, HasMembers, HasArchive, KeepsNodes, is_among, is_for, is_made_at, made_paths}
use Rattle.vol_batch.specs.Batch.{AreMade, MakesCalls}
use Rattle.vol_import.specs.Make.{Imports, calls_to_make, planned, told}
use Rattle.vol_import.specs.Options.{calls_with, chosen_members}
use Rattle.vol_import.specs.declared.import_options.ImportOptions.{ImportOptions}
use Rattle.vol_import.specs.Members.{members}
use Rattle.vol_batch.specs.Paths.{below}
use Rattle.vol_import.specs.Plan.{and_next, base_permissions, check, closed, closing_calls, device_of, is_base, is_directory as says_directory, is_directory_at, is_directory_kind, is_there, joined, made_as, moment_of, permissions_given, permissions_of, permissions_told, plan, plan_onto, steps_of, times}
use Rattle.vol_import.specs.declared.member_check.MadeAs.{MadeAs}
use Rattle.vol_import.specs.declared.member_check.MadeAs.TheVariants.{File, Directory, Link, Device}
use Rattle.vol_import.specs.declared.member_check.MemberFault.{MemberFault}
use Rattle.vol_import.specs.declared.faults.ArchiveFault.{ArchiveFault}
use Rattle.vol_import.specs.declared.import_plan.PlanFault.{PlanFault}
use Rattle.vol_import.specs.declared.archive_members.Member.{Member}
use Rattle.vol_archive.proofs.Each.{has_any}
use Rattle.vol_import.proofs.AddedNames.{plan_after}
use Rattle.vol_import.proofs.DotWalks.{DotsLead, dots_ready, dots_sound}
use Rattle.vol_import.proofs.GrownTrees.{Gives, LeadsToDirectory, grown_directory}
use Rattle.vol_batch.proofs.MadeCalls.{keeps}
use Rattle.vol_batch.proofs.MadeNames.{Grows, grows_same, KeepsOwners, owner_none}
use Rattle.vol_batch.proofs.MadePaths.{Holds, holds_file, stat_answered, walk_answered}
use Rattle.vol_import.proofs.MemberCalls.{IsRun, run_parts, chmod_gives}
use Rattle.std.specs.Str.{bytes_eq}
use Rattle.vol_import.proofs.DraftRuns.{Follows, Stands, follows_kept, follows_same, follows_then, none_given, one_number, there_leads}
use Rattle.vol_volume.specs.declared.queries.Stat.{Stat}
use Rattle.vol_import.proofs.DraftedMembers.{AreMadeAs, IsMade, IsMadeAs, IsChecked, numbers_kept, plan_added}
use Rattle.vol_import.proofs.DirectoryTimes.{HasTime, HaveTimes, are_kept, none_below, time_at, times_given}
use Rattle.vol_import.proofs.KeptNodes.{AreSmall, directory_kind, nodes_left, small_bits}

-- reversing a list of members doesn't change whether one is for the directory of the import
any_reverse : (all : List Member) → list_any is_base (reverse all) ≡ list_any is_base all
any_reverse [] = refl
any_reverse (member ∷ rest) =
    ap (list_any is_base) (reverse-append (member ∷ []) rest)
    ∙ (list_any-append is_base (reverse rest) (member ∷ [])
    ∙ (ap (λ b. b || (is_base member || false)) (any_reverse rest) ∙ turned (is_base member) (list_any is_base rest)))
  where
    turned : (a b : Bool) → (b || (a || false)) ≡ (a || b)
    turned true true = refl
    turned true false = refl
    turned false true = refl
    turned false false = refl

-- the nodes of the first tree keep their owners
start_kept : (start : Tree) (base : List ℕ) (given : List ℕ → Bool) (known next : List (List ℕ)) (tree : Tree)
    → Follows start base given known next start tree → KeepsOwners start tree
start_kept start base given known next tree follows x = elim (follows.spares x) [
  | inl keeps ↦ keeps
  | inr gave ↦
      let leads = follows.stands.lead gave.0 gave.1 in
      let same = one_number (walk tree user (base ++ gave.0)) x leads.led.1.number gave.4 leads.led.1.walked in
      owner_none (start.nodes x) (tree.nodes x) (ap start.nodes same ∙ leads.fresh gave.2)
]

-- a member for the directory of the import is a directory, and its path has no steps
base_steps : (member : Member) → is_base member ≡ true → (made_as member.header.flag member.path ≡ Ok Directory) × (steps_of member.path ≡ [])
base_steps member is = by (made_as member.header.flag member.path) refl is
  where
    none : (xs : List (List ℕ)) → is_nil xs ≡ true → xs ≡ []
    none [] e = refl
    none (x ∷ xs) e = absurd (cc)

    by : (made : Result MadeAs MemberFault) → made_as member.header.flag member.path ≡ made → is_directory_at made member.path ≡ true
        → (made_as member.header.flag member.path ≡ Ok Directory) × (steps_of member.path ≡ [])
    by (Ok Directory) m e = (m, none (steps_of member.path) e)
    by (Ok File) m e = absurd (cc)
    by (Ok Link) m e = absurd (cc)
    by (Ok (Device kind)) m e = absurd (cc)
    by (Err fault) m e = absurd (cc)

-- only a member for the directory of the import is the directory with an empty path of steps
base_for : (member : Member) → is_for [] member ≡ is_base member
base_for member = by (made_as member.header.flag member.path)
  where
    empty : (steps : List (List ℕ)) → bytes_eq (joined steps) [] ≡ is_nil steps
    empty [] = refl
    empty (step ∷ steps) = refl

    by : (made : Result MadeAs MemberFault) → is_made_at made member.path [] ≡ is_directory_at made member.path
    by (Ok Directory) = empty (steps_of member.path)
    by (Ok File) = refl
    by (Ok Link) = refl
    by (Ok (Device kind)) = refl
    by (Err fault) = refl

-- if no member is for the directory of the import, no member is the directory with an empty path of steps
none_among : (all : List Member) → find is_base (reverse all) ≡ None → is_among all [] ≡ false
none_among all none = bases all ∙ (sym (any_reverse all) ∙ found_none (reverse all) none)
  where
    bases : (all : List Member) → is_among all [] ≡ list_any is_base all
    bases [] = refl
    bases (member ∷ rest) = ap₂ (λ (a b : Bool). a || b) (base_for member) (bases rest)

    found_none : (all : List Member) → find is_base all ≡ None → list_any is_base all ≡ false
    found_none [] none = refl
    found_none (member ∷ rest) none = by (is_base member) (found_none rest) none
      where
        by : (here : Bool) → (find is_base rest ≡ None → list_any is_base rest ≡ false) → cond here (Some member) (find is_base rest) ≡ None
            → (here || list_any is_base rest) ≡ false
        by true others none = absurd (cc)
        by false others none = others none

-- if members make the directory of the import, it has the permissions of the last of them
last_given : (start : Tree) (base : List ℕ) (now : ℕ) (all : List Member) (known : List (List ℕ)) (tree : Tree) (perm : ℕ)
    → AreMadeAs start base now all known tree → permissions_given all ≡ Some perm → is_there start base [] ≡ false
    → (led : LeadsToDirectory tree base) × (led.0.permissions ≡ perm % 4096)
last_given start base now [] known tree perm are is none = absurd (cc)
last_given start base now (member ∷ rest) known tree perm are is none =
    by (find is_base (reverse rest)) refl (λ given. last_given start base now rest known tree perm are.1 given none)
    (sym (ap told (ap (find is_base) (reverse-append (member ∷ []) rest) ∙ find-append is_base (reverse rest) (member ∷ []))) ∙ is)
  where
    told : Option Member → Option ℕ
    told found = option_map (λ (member : Member). permissions_of member.header) found

    at : (made : Result (MadeAs × Cred) MemberFault) → IsMadeAs start base now member (is_among rest (joined (steps_of member.path))) made known tree
        → made_as member.header.flag member.path ≡ Ok Directory → steps_of member.path ≡ [] → is_among rest [] ≡ false
        → (led : LeadsToDirectory tree base) × (led.0.permissions ≡ permissions_of member.header % 4096)
    at (Err fault) made kind empty last = absurd made
    at (Ok (File, owner)) made kind empty last = let both : Ok File ≡ Ok Directory = sym made.0.kind ∙ kind in absurd (cc)
    at (Ok (Link, owner)) made kind empty last = let both : Ok Link ≡ Ok Directory = sym made.0.kind ∙ kind in absurd (cc)
    at (Ok (Device device, owner)) made kind empty last = let both : Ok (Device device) ≡ Ok Directory = sym made.0.kind ∙ kind in absurd (cc)
    at (Ok (Directory, owner)) made kind empty last =
        let is = made.1 in
        let path : base ++ joined (steps_of member.path) ≡ base = ap (λ steps. base ++ joined steps) empty ∙ append-nil base in (
          (
            is.led.0,
            record {
              number = is.led.1.number;
              walked = subst (λ p. walk tree user p ≡ Ok is.led.1.number) path is.walked;
              stands = is.led.1.stands;
            },
            is.led.2,
          ),
          ap (λ (o : ℕ × ℕ × ℕ). o.0)
              (is.given (ap (λ steps. is_there start base (joined steps)) empty ∙ none) (ap (λ steps. is_among rest (joined steps)) empty ∙ last)),
        )

    one : (here : Bool) → is_base member ≡ here → find is_base (reverse rest) ≡ None → told (cond here (Some member) None) ≡ Some perm
        → (led : LeadsToDirectory tree base) × (led.0.permissions ≡ perm % 4096)
    one true e last is =
        let parts = base_steps member e in
        let same : permissions_of member.header ≡ perm = cc in
        subst (λ p. (led : LeadsToDirectory tree base) × (led.0.permissions ≡ p % 4096)) same
        (at (check start.geometry.edition member) are.0 parts.0 parts.1 (none_among rest last))
    one false e last is = absurd (cc)

    by : (found : Option Member) → find is_base (reverse rest) ≡ found
        → (permissions_given rest ≡ Some perm → (led : LeadsToDirectory tree base) × (led.0.permissions ≡ perm % 4096)) → told (option_or found (cond (is_base member) (Some member) None)) ≡ Some perm
        → (led : LeadsToDirectory tree base) × (led.0.permissions ≡ perm % 4096)
    by None e others is = one (is_base member) refl e is
    by (Some other) e others is = others (ap told e ∙ is)

-- the directory of the import already has the permissions that the closing call gives it
closing_led : (start : Tree) (base : List ℕ) (now : ℕ) (all : List Member) (known : List (List ℕ)) (tree : Tree) (perm : ℕ) → AreSmall start
    → Follows start base (is_among all) [] known start tree → AreMadeAs start base now all known tree
    → base_permissions (answer start (queries.Stat user base)) (permissions_given all) ≡ Some perm
    → (led : LeadsToDirectory tree base) × (led.0.permissions ≡ perm % 4096)
closing_led start base now all known tree perm small follows are = by (answer start (queries.Stat user base)) refl
  where
    given : says_directory (answer start (queries.Stat user base)) ≡ false → permissions_given all ≡ Some perm
        → (led : LeadsToDirectory tree base) × (led.0.permissions ≡ perm % 4096)
    given none is =
        last_given start base now all known tree perm are is
        (ap (λ path. says_directory (answer start (queries.Stat user path))) (append-nil base) ∙ none)

    there : (stat : Stat) → answer start (queries.Stat user base) ≡ Ok (replies.Stat stat) → stat.kind ≡ kinds.Directory → stat.permissions ≡ perm
        → (led : LeadsToDirectory tree base) × (led.0.permissions ≡ perm % 4096)
    there stat e kind is =
        let was = there_leads start base (ap says_directory e ∙ ap is_directory_kind kind) in
        let node = was.0.0 in
        let i = was.0.1.number in
        let led = grown_directory start tree base follows.grows was.0 in
        let both : Ok (replies.Stat stat) ≡ Ok (replies.Stat (stat_of i node)) =
        sym e ∙ stat_answered start base node (ap (λ b. b || false) was.1) was.0.1 in
        let told : stat ≡ stat_of i node = cc in
        let kept = start_kept start base (is_among all) [] known tree follows i node was.0.1.stands in
        let twice : Some led.0 ≡ Some kept.0 = sym led.1.stands ∙ kept.1 in
        let same : led.0 ≡ kept.0 = cc in
        let mine : led.0.permissions ≡ node.permissions =
        ap (λ (n : Node). n.permissions) same ∙ ap (λ (o : ℕ × ℕ × ℕ). o.0) kept.2 in
        let asked : node.permissions ≡ perm = sym (ap (λ (s : Stat). s.permissions) told) ∙ is in
        (led, mine ∙ (sym (small i node was.0.1.stands) ∙ ap (λ p. p % 4096) asked))

    by_kind : (stat : Stat) (kind : Kind) → answer start (queries.Stat user base) ≡ Ok (replies.Stat stat) → stat.kind ≡ kind
        → permissions_told kind stat.permissions (permissions_given all) ≡ Some perm
        → (led : LeadsToDirectory tree base) × (led.0.permissions ≡ perm % 4096)
    by_kind stat kinds.Directory e k is = let same : stat.permissions ≡ perm = cc in there stat e k same
    by_kind stat kinds.Regular e k is = given (ap says_directory e ∙ ap is_directory_kind k) is
    by_kind stat kinds.Special e k is = given (ap says_directory e ∙ ap is_directory_kind k) is
    by_kind stat kinds.Free e k is = given (ap says_directory e ∙ ap is_directory_kind k) is
    by_kind stat kinds.Odd e k is = given (ap says_directory e ∙ ap is_directory_kind k) is

    by : (reply : Result Reply Refusal) → answer start (queries.Stat user base) ≡ reply → base_permissions reply (permissions_given all) ≡ Some perm
        → (led : LeadsToDirectory tree base) × (led.0.permissions ≡ perm % 4096)
    by (Ok (replies.Stat stat)) e is = by_kind stat stat.kind e refl is
    by (Ok (replies.Bytes bytes)) e is = given (ap says_directory e) is
    by (Ok (replies.Names names)) e is = given (ap says_directory e) is
    by (Err refusal) e is = given (ap says_directory e) is

-- the closing call keeps all owners
closing_follows : (start : Tree) (base : List ℕ) (now : ℕ) (all : List Member) (known : List (List ℕ)) (mid to : State) → AreSmall start
    → Follows start base (is_among all) [] known start mid.tree → AreMadeAs start base now all known mid.tree
    → IsRun mid (closing_calls now base (base_permissions (answer start (queries.Stat user base)) (permissions_given all))) to
    → Follows start base none_given known known mid.tree to.tree
closing_follows start base now all known mid to small follows are =
    by (base_permissions (answer start (queries.Stat user base)) (permissions_given all)) refl
  where
    by : (perm : Option ℕ) → base_permissions (answer start (queries.Stat user base)) (permissions_given all) ≡ perm
        → IsRun mid (closing_calls now base perm) to → Follows start base none_given known known mid.tree to.tree
    by None e run =
        subst (λ (s : State). Follows start base none_given known known mid.tree s.tree) (sym run) (follows_same start base none_given known mid.tree follows.stands)
    by (Some perm) e run =
        let led = closing_led start base now all known mid.tree perm small follows are e in
        let next = step mid (calls.Chmod user now base perm) run.0 in
        subst (λ (s : State). Follows start base none_given known known mid.tree s.tree) (sym run.3)
        (follows_kept start base base known mid.tree next.tree led.0 follows.stands run.2
        (subst (λ p. Gives mid.tree next.tree led.0.1.number (p, led.0.0.uid, led.0.0.gid)) (sym led.1) (chmod_gives mid now perm base run.0 led.0)))

-- the tree after the calls of a plan: it has grown, nodes keep their owners, and all members are made with their times
record IsPlanned (start : Tree) (base : List ℕ) (now : ℕ) (all : List Member) (tree : Tree) : Type 0 where
  pub grows : Grows start tree
  pub owners : KeepsOwners start tree
  pub known : List (List ℕ)
  pub members : AreMadeAs start base now all known tree
  pub times : HaveTimes start base now all tree

-- the calls of a plan make all members
plan_made : (from to : State) (base : List ℕ) (now : ℕ) (all : List Member) (calls : List Call) → plan from.tree base now all ≡ Ok calls
    → AreSmall from.tree → DotsLead from.tree → IsRun from calls to → IsPlanned from.tree base now all to.tree
plan_made from to base now all calls is small dots run = by (plan_onto from.tree base now ([], []) all) refl is
  where
    start : Stands from.tree base [] from.tree
    start = record { dots = dots; grown = grows_same from.tree; lead = λ path is. absurd (cc); apart = λ p q one. absurd (cc) }

    added : (more : List Call) → plan_onto from.tree base now ([], []) all ≡ Ok more → (mid : State) → IsRun from more mid
        → (known : List (List ℕ)) × Follows from.tree base (is_among all) [] known from.tree mid.tree × AreMadeAs from.tree base now all known mid.tree
    added more e mid first =
        let adds = plan_added from.tree base now all ([], []) more e in
        let left = adds.1.leaves from mid start (subst (λ cs. IsRun from cs mid) adds.1.calls first) in
        (adds.0, left.0, left.1)

    permissions : Option ℕ
    permissions = base_permissions (answer from.tree (queries.Stat user base)) (permissions_given all)

    -- in state `mid`, before the calls that give times, all members are made, and only permitted effects happened
    Ends : State → Type 0
    Ends mid = (given : List ℕ → Bool) × (known : List (List ℕ)) × Follows from.tree base given [] known from.tree mid.tree
        × AreMadeAs from.tree base now all known mid.tree

    ended_by : (more : List Call) → plan_onto from.tree base now ([], []) all ≡ Ok more → (mid : State)
        → IsRun from (closed now base permissions more) mid → Ends mid
    ended_by [] e mid run = let made = added [] e mid run in (is_among all, made.0, made.1, made.2)
    ended_by (call ∷ more) e mid run =
        let parts = run_parts from mid (call ∷ more) (closing_calls now base permissions) run in
        let made = added (call ∷ more) e parts.0 parts.1 in
        let last = closing_follows from.tree base now all made.0 parts.0 mid small made.1 made.2 parts.2 in (
          λ path. is_among all path || none_given path,
          made.0,
          follows_then from.tree base (is_among all) none_given [] made.0 made.0 from.tree parts.0.tree mid.tree made.1 last,
          are_kept from.tree base now all made.0 made.0 parts.0.tree mid.tree last made.2,
        )

    by : (planned : Result (List Call) PlanFault) → plan_onto from.tree base now ([], []) all ≡ planned
        → and_next planned (λ more. Ok (closed now base permissions more ++ times from.tree base now all)) ≡ Ok calls
        → IsPlanned from.tree base now all to.tree
    by (Err fault) e is = absurd (cc)
    by (Ok more) e is =
        let same : closed now base permissions more ++ times from.tree base now all ≡ calls = cc in
        let parts = run_parts from to (closed now base permissions more) (times from.tree base now all) (subst (λ cs. IsRun from cs to) (sym same) run) in
        let front = ended_by more e parts.0 parts.1 in
        let known = front.1 in
        let last = times_given from.tree base now all known parts.0 to dots front.2.stands front.3 parts.2 in
        let whole = follows_then from.tree base front.0 none_given [] known known from.tree parts.0.tree to.tree front.2 last.0.follows in
        record {
          grows = whole.grows;
          owners = start_kept from.tree base (λ path. front.0 path || none_given path) [] known to.tree whole;
          known = known;
          members = are_kept from.tree base now all known known parts.0.tree to.tree last.0.follows front.3;
          times = last.1;
        }

-- queries return the facts about the node made for a member
member_had : (start tree : Tree) (base : List ℕ) (now : ℕ) (member : Member) (later : List Member) (known : List (List ℕ)) (made : MadeAs × Cred)
    → DotsLead start → IsChecked member made
    → IsMade start base now member (is_among later (joined (steps_of member.path))) made known tree
    → HasTime start base now member (is_among later (joined (steps_of member.path))) tree → HasMember start tree base now member later (Ok made.0)
member_had start tree base now member later known (File, owner) dots checks is timed =
    let path = below base member.path in
    let held : Holds tree path member.content = record {
      node = is.0;
      leads = is.1;
      content = ap (λ (f : Content × ℕ × ℕ × ℕ × ℕ × ℕ). f.0) is.2;
      size = ap (λ (f : Content × ℕ × ℕ × ℕ × ℕ × ℕ). f.4) is.2;
    } in
    let low : permissions_of member.header % 4096 ≡ permissions_of member.header = omega arith in
    record {
      file = holds_file tree path member.content is.3 held;
      given = record {
        permissions = ap (λ (f : Content × ℕ × ℕ × ℕ × ℕ × ℕ). f.1) is.2 ∙ low;
        uid = ap (λ (f : Content × ℕ × ℕ × ℕ × ℕ × ℕ). f.2) is.2 ∙ checks.uid;
        gid = ap (λ (f : Content × ℕ × ℕ × ℕ × ℕ × ℕ). f.3) is.2 ∙ checks.gid;
        modified = ap (λ (f : Content × ℕ × ℕ × ℕ × ℕ × ℕ). f.5) is.2;
      };
    }
member_had start tree base now member later known (Device kind, owner) dots checks is timed =
    let path = below base member.path in
    let low : permissions_of member.header % 4096 ≡ permissions_of member.header = omega arith in
    let content : is.0.content ≡ new_content start.geometry.edition (Special (device_of kind member.header)) =
    ap (λ (f : Content × ℕ × ℕ × ℕ × ℕ × ℕ). f.0) is.2 in
    let numbers = numbers_kept member kind checks.device in
    record {
      stat = stat_of is.1.number is.0;
      found = stat_answered tree path is.0 is.3 is.1;
      special = ap kind_of_content content;
      device = ap (λ (n : Option Node). (unwrap_or n no_node).content) is.1.stands
          ∙ (content
          ∙ ap₂ (λ (major minor : ℕ). DeviceOf (device_type start.geometry.edition kind) ((256 * major + minor) ∷ replicate 12 0)) numbers.0 numbers.1);
      given = record {
        permissions = ap (λ (f : Content × ℕ × ℕ × ℕ × ℕ × ℕ). f.1) is.2 ∙ low;
        uid = ap (λ (f : Content × ℕ × ℕ × ℕ × ℕ × ℕ). f.2) is.2 ∙ checks.uid;
        gid = ap (λ (f : Content × ℕ × ℕ × ℕ × ℕ × ℕ). f.3) is.2 ∙ checks.gid;
        modified = ap (λ (f : Content × ℕ × ℕ × ℕ × ℕ × ℕ). f.5) is.2;
      };
    }
member_had start tree base now member later known (Link, owner) dots checks is timed =
    let source = below base member.link in
    let target = below base member.path in
    let plain = or_parts (has_zero source) (list_any has_zero (target ∷ [])) is.1 in
    record {
      stat = stat_of is.0.0 (node_at tree is.0.0);
      at_source = walk_answered tree source is.0.0 (ap (λ b. b || false) plain.0) is.0.1;
      at_target = walk_answered tree target is.0.0 plain.1 is.0.2;
    }
member_had start tree base now member later known (Directory, owner) dots checks is timed =
    let path = below base member.path in
    let low : permissions_of member.header % 4096 ≡ permissions_of member.header = omega arith in
    record {
      directory = record {
        stat = stat_of is.led.1.number is.led.0;
        found = stat_answered tree path is.led.0 is.plain is.led.1;
        kind = directory_kind is.led.0.content is.led.2;
      };
      given = λ absent last.
          let owner = is.given (none_below start base member.path dots checks.short absent) last in
          let time = timed checks.kind absent last in
          let here = one_number (walk tree user (base ++ joined (steps_of member.path))) time.0 is.led.1.number time.1 is.walked in
          let both : Some is.led.0.modified ≡ Some (moment_of member.header now) =
          sym (ap (time_at tree) here ∙ ap (option_map (λ (node : Node). node.modified)) is.led.1.stands) ∙ time.2 in
          record {
            permissions = ap (λ (o : ℕ × ℕ × ℕ). o.0) owner ∙ low;
            uid = ap (λ (o : ℕ × ℕ × ℕ). o.1) owner ∙ checks.uid;
            gid = ap (λ (o : ℕ × ℕ × ℕ). o.2) owner ∙ checks.gid;
            modified = cc;
          };
    }

members_had : (start tree : Tree) (base : List ℕ) (now : ℕ) (all : List Member) (known : List (List ℕ)) → DotsLead start
    → AreMadeAs start base now all known tree → HaveTimes start base now all tree → HasMembers start tree base now all
unfolding HasMembers
members_had start tree base now [] known dots are timed = tt
members_had start tree base now (member ∷ rest) known dots are timed =
    (by (check start.geometry.edition member) are.0, members_had start tree base now rest known dots are.1 timed.1)
  where
    by : (made : Result (MadeAs × Cred) MemberFault) → IsMadeAs start base now member (is_among rest (joined (steps_of member.path))) made known tree
        → HasMember start tree base now member rest (made_as member.header.flag member.path)
    by (Ok made) is =
        subst (HasMember start tree base now member rest) (sym is.0.kind) (member_had start tree base now member rest known made dots is.0 is.1 timed.0)
    by (Err fault) is = absurd is

-- calls that a volume accepts lead to its state
run_made : (old new : Mounted) (calls : List Call) → AreMade old calls new
    → IsRun (reads_as old.edition old.image) calls (reads_as new.edition new.image)
unfolding AreMade
run_made old new [] made = ap (λ (v : Mounted). reads_as v.edition v.image) made
run_made old new (call ∷ calls) made =
    let mid = made.0 in
    let performed = made.2.performed in
    let geometry = geometry_of old.edition old.image in
    let next : reads_as mid.edition mid.image ≡ step (reads_as old.edition old.image) call made.1 =
    ap (λ edition. reads_as edition mid.image) made.2.edition ∙ reads_made old.edition old.image mid.image call made.1 performed in (
      made.1,
      record { accepted = made.2.accepted; answered = performed.answered },
      subst (λ (s : State). DotsLead s.tree) performed.changes.makes (dots_ready geometry mid.image performed.changes.ready),
      subst (λ (s : State). IsRun s calls (reads_as new.edition new.image)) next (run_made mid new calls made.3),
    )

-- an import makes all members that were read
pub members_left : (edition : Edition) (image archive base bytes : List ℕ) (now : ℕ) (read : Result (List Member) ArchiveFault)
    → Imports edition image (planned (reads_as edition image).tree archive base now read) bytes
    → HasArchive (reads_as edition image).tree (reads_as edition bytes).tree base now read
unfolding Imports HasArchive
members_left edition image archive base bytes now = by
  where
    Has : List Member → Type 0
    Has all = HasMembers (reads_as edition image).tree (reads_as edition bytes).tree base now all
        × KeepsNodes (reads_as edition image).tree (reads_as edition bytes).tree
        × AddsNames (reads_as edition image).tree (reads_as edition bytes).tree (flat_map (made_paths base) all)

    made : (all : List Member) (calls : List Call) → plan (reads_as edition image).tree base now all ≡ Ok calls → MakesCalls edition image calls bytes
        → Has all
    made all calls is imports =
        let volume = imports.volume in
        let run = run_made (mounted edition image) volume calls imports.made in
        let last : reads_as volume.edition volume.image ≡ reads_as edition bytes =
        ap (λ e. reads_as e volume.image) (keeps (mounted edition image) volume calls imports.made).edition ∙ ap (reads_as edition) imports.left in
        let dots = dots_sound edition image imports.mounts in
        let whole = subst (IsRun (reads_as edition image) calls) last run in
        let left = plan_made (reads_as edition image) (reads_as edition bytes) base now all calls is (small_bits (geometry_of edition image) image) dots whole in
        let names = plan_after (reads_as edition image) (reads_as edition bytes) base now all calls is whole in (
          members_had (reads_as edition image).tree (reads_as edition bytes).tree base now all left.known dots left.members left.times,
          nodes_left edition image bytes calls volume imports.mounts imports.made whole left.grows left.owners,
          λ d name i led plain. elim (names.adds d name i led plain) [
            | inl old ↦ inl old
            | inr ends ↦ inr (has_any (EndsIn (reads_as edition bytes).tree d name) (flat_map (made_paths base) all) ends)
          ],
        )

    by_plan : (all : List Member) (planned : Result (List Call) PlanFault) → plan (reads_as edition image).tree base now all ≡ planned
        → Imports edition image (told planned) bytes → Has all
    by_plan all (Ok calls) is imports = made all calls is imports
    by_plan all (Err fault) is imports = absurd imports

    by : (read : Result (List Member) ArchiveFault) → Imports edition image (planned (reads_as edition image).tree archive base now read) bytes
        → HasArchive (reads_as edition image).tree (reads_as edition bytes).tree base now read
    by (Ok all) imports = by_plan all (plan (reads_as edition image).tree base now all) refl imports
    by (Err fault) imports = absurd imports

-- an import with options makes the members that they choose
pub chosen_had : (options : ImportOptions) (edition : Edition) (image archive base bytes : List ℕ) (now : ℕ)
    → Imports edition image (calls_with options (reads_as edition image).tree archive base now) bytes
    → HasArchive (reads_as edition image).tree (reads_as edition bytes).tree base now (chosen_members options (members archive))
unfolding calls_with
chosen_had options edition image archive base bytes now = members_left edition image archive base bytes now (chosen_members options (members archive))

-- an import makes all members of its archive
pub archive_had : (edition : Edition) (image archive base bytes : List ℕ) (now : ℕ)
    → Imports edition image (calls_to_make (reads_as edition image).tree archive base now) bytes
    → HasArchive (reads_as edition image).tree (reads_as edition bytes).tree base now (members archive)
unfolding calls_to_make
archive_had edition image archive base bytes now = members_left edition image archive base bytes now (members archive)
