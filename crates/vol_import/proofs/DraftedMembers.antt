-- The members that a draft of a plan makes.
use Rattle.std.proofs.Common.{◌≡◌, ◌∙◌, sym, ap, subst, refl, ℕ, ◌+◌, ◌%◌, nat_lt, arith, ◌||◌, Bool, true, false, cond, List, [], ◌∷◌, ◌++◌, length, Some, Ok, Err, inl, inr}
use Rattle.std.specs.Prelude.{Result}
use Rattle.std.specs.List.{list_any}
use Rattle.std.specs.Option.{is_some}
use Rattle.std.proofs.lemmas.Bool.{cases_eq, true≢false}
use Rattle.std.proofs.lemmas.Bool.Decides.{nat_tests}
use Rattle.std.proofs.lemmas.List.{append-nil}
use Rattle.vol_layout.specs.Ids.{is_bad_id}
use Rattle.vol_layout.specs.declared.edition.Edition.{Edition}
use Rattle.vol_layout.specs.declared.mode.DeviceKind.{DeviceKind}
use Rattle.vol_dir.specs.Access.{user}
use Rattle.vol_dir.specs.Names.{Names}
use Rattle.vol_dir.specs.Tree.{Content, Body, Directory as DirectoryOf, Device as DeviceOf, Node, Tree, State}
use Rattle.vol_dir.specs.Walk.{has_zero, map_of, search, walk}
use Rattle.vol_dir.specs.declared.cred.Cred.{Cred}
use Rattle.vol_change.specs.Edits.{new_content}
use Rattle.vol_change.specs.declared.new_nodes.NewFile.TheVariants.{Special}
use Rattle.vol_volume.specs.declared.calls.Call.{Call}
use Rattle.vol_volume.specs.declared.calls.Call.TheVariants as calls
use Rattle.vol_import.specs.MadeMembers.{is_among, is_for, is_made_at}
use Rattle.pdp_words.specs.Steps.{and_then}
use Rattle.vol_batch.specs.Paths.{below}
use Rattle.vol_import.specs.Plan.{Drafted, and_next, check, check_device, check_link, check_path, device_of, directory_calls, file_calls, given_calls, is_crowded, is_dot_dot, is_known, is_long, is_long_path, is_there, joined, made_as, moment_of, names_of, onto, owner_of, permissions_of, plan_onto, special_calls, steps_of, way_of, with_made, with_path, with_way}
use Rattle.vol_import.specs.declared.member_check.MadeAs.{MadeAs}
use Rattle.vol_import.specs.declared.member_check.MadeAs.TheVariants.{File, Directory, Link, Device}
use Rattle.vol_import.specs.declared.member_check.MemberFault.{MemberFault}
use Rattle.vol_import.specs.declared.member_check.MemberFault.TheVariants as faults
use Rattle.vol_import.specs.declared.import_plan.PlanFault.{PlanFault}
use Rattle.vol_import.specs.declared.import_plan.PlanFault.TheVariants as plans
use Rattle.vol_import.specs.declared.archive_members.Member.{Member}
use Rattle.vol_import.proofs.DotWalks.{DotsLead, with_dots, without_dots, zeros_below}
use Rattle.vol_import.proofs.GrownTrees.{LeadsToDirectory, LeadBoth, grown_directory, grown_both, link_grows}
use Rattle.vol_batch.proofs.MadeCalls.{keeps}
use Rattle.vol_batch.proofs.MadeNames.{LeadsTo, grown_path, told as node_told, owner_told}
use Rattle.vol_import.proofs.MemberCalls.{GainsNode, IsRun, run_dots, directory_made, file_made, given_gives, special_made}
use Rattle.vol_volume.proofs.TreeWalks.{named, searched}
use Rattle.vol_file.proofs.PlaceLists.{bytes_same}
use Rattle.vol_import.proofs.DraftRuns.{Adds, Follows, Nothing, adds_less, adds_none, adds_then, follows_same, none_given, stands_grown, stands_known, stands_made, stands_there, there_leads, way, with_itself, with_known}

-- the facts about a node
abbrev pub Facts : Type 0
Facts = Content × ℕ × ℕ × ℕ × ℕ × ℕ

-- the facts about the file that a member makes
abbrev pub facts_of : ℕ → Member → Cred → Facts
facts_of now member owner =
    (Body member.content, permissions_of member.header % 4096, owner.uid, owner.gid, length member.content, moment_of member.header now)

-- the facts about the special file that a member makes
abbrev pub device_facts : Edition → ℕ → Member → DeviceKind → Cred → Facts
device_facts edition now member kind owner =
    (new_content edition (Special (device_of kind member.header)), permissions_of member.header % 4096, owner.uid, owner.gid, 0, moment_of member.header now)

-- a path, which has no zero byte, leads to a node with these facts
abbrev pub HasFacts : Tree → List ℕ → Facts → Type 0
HasFacts tree path facts = (node : Node) × LeadsTo tree path node × (node_told node ≡ facts) × (list_any has_zero (path ∷ []) ≡ false)

-- a member's directory is made: its path leads to it, and the path of its steps is known; if it is new and isn't given an owner again, it has the
-- member's permissions and owner
pub record IsMadeDirectory (start : Tree) (base : List ℕ) (member : Member) (owner : Cred) (again : Bool) (known : List (List ℕ)) (tree : Tree) : Type 0 where
  pub led : LeadsToDirectory tree (below base member.path)
  pub walked : walk tree user (base ++ joined (steps_of member.path)) ≡ Ok led.1.number
  pub noted : is_known known (joined (steps_of member.path)) ≡ true
  pub plain : list_any has_zero (below base member.path ∷ []) ≡ false
  pub given : is_there start base (joined (steps_of member.path)) ≡ false → again ≡ false
      → owner_told led.0 ≡ (permissions_of member.header % 4096, owner.uid, owner.gid)

-- a member is made as a node of this kind
abbrev pub IsMade : Tree → List ℕ → ℕ → Member → Bool → MadeAs × Cred → List (List ℕ) → Tree → Type 0
IsMade start base now member again (File, owner) known tree = HasFacts tree (below base member.path) (facts_of now member owner)
IsMade start base now member again (Device kind, owner) known tree =
    HasFacts tree (below base member.path) (device_facts start.geometry.edition now member kind owner)
IsMade start base now member again (Link, owner) known tree =
    LeadBoth tree (below base member.link) (below base member.path) × (list_any has_zero (below base member.link ∷ below base member.path ∷ []) ≡ false)
IsMade start base now member again (Directory, owner) known tree = IsMadeDirectory start base member owner again known tree

-- a directory made by a member is unchanged if it isn't given an owner again
directory_kept : (start : Tree) (base : List ℕ) (member : Member) (owner : Cred) (given : List ℕ → Bool) (again later : Bool) (known next : List (List ℕ))
    (old new : Tree) → Follows start base given known next old new
    → (later ≡ false → (again ≡ false) × (given (joined (steps_of member.path)) ≡ false))
    → IsMadeDirectory start base member owner again known old → IsMadeDirectory start base member owner later next new
directory_kept start base member owner given again later known next old new follows parts is =
    let steps = joined (steps_of member.path) in
    let i = is.led.1.number in
    let led = grown_directory old new (below base member.path) follows.grows is.led in
    let walked = grown_path old new (base ++ steps) i follows.grows is.walked in
    let there = follows.knows steps is.noted in
    record {
      led = led;
      walked = walked;
      noted = there;
      plain = is.plain;
      given = λ none last. elim (follows.spares i) [
        | inl keeps ↦
            let kept = keeps is.led.0 is.led.1.stands in
            let both : Some led.0 ≡ Some kept.0 = sym led.1.stands ∙ kept.1 in
            let same : led.0 ≡ kept.0 = cc in
            ap owner_told same ∙ (kept.2 ∙ is.given none (parts last).0)
        | inr gave ↦
            let same = follows.stands.apart steps gave.0 there gave.1 none i walked gave.4 in
            absurd (true≢false (sym gave.3 ∙ (ap given (sym same) ∙ (parts last).1)))
      ];
    }

-- a node that is no directory is unchanged by later calls
facts_kept : (start : Tree) (base : List ℕ) (given : List ℕ → Bool) (known next : List (List ℕ)) (old new : Tree) (path : List ℕ) (facts : Facts)
    → Follows start base given known next old new → is_some (map_of facts.0) ≡ false → HasFacts old path facts → HasFacts new path facts
facts_kept start base given known next old new path facts follows plain is =
    let led = is.1 in
    let stays = (follows.grows.kept led.number).1 is.0 led.stands in
    let content : is.0.content ≡ facts.0 = ap (λ (f : Facts). f.0) is.2 in (
      stays.0,
      record { number = led.number; walked = grown_path old new path led.number follows.grows led.walked; stands = stays.1 },
      stays.3 (ap (λ (c : Content). is_some (map_of c)) content ∙ plain) ∙ is.2,
      is.3,
    )

-- a member that was made is unchanged by later calls
made_kept : (start : Tree) (base : List ℕ) (now : ℕ) (member : Member) (made : MadeAs × Cred) (given : List ℕ → Bool) (again later : Bool)
    (known next : List (List ℕ)) (old new : Tree) → Follows start base given known next old new
    → (later ≡ false → (again ≡ false) × (given (joined (steps_of member.path)) ≡ false))
    → IsMade start base now member again made known old → IsMade start base now member later made next new
made_kept start base now member (File, owner) given again later known next old new follows parts is =
    facts_kept start base given known next old new (below base member.path) (facts_of now member owner) follows refl is
made_kept start base now member (Device kind, owner) given again later known next old new follows parts is =
    facts_kept start base given known next old new (below base member.path) (device_facts start.geometry.edition now member kind owner) follows refl is
made_kept start base now member (Link, owner) given again later known next old new follows parts is =
    (grown_both old new (below base member.link) (below base member.path) follows.grows is.0, is.1)
made_kept start base now member (Directory, owner) given again later known next old new follows parts is =
    directory_kept start base member owner given again later known next old new follows parts is

-- user 0 may search the directory that a path leads to
pub opens : (tree : Tree) (path : List ℕ) (led : LeadsToDirectory tree path) → (names : Names) × (search tree user led.1.number ≡ Ok names)
opens tree path led =
    let found = by led.0.content led.2 in
    (found.0, ap searched led.1.stands ∙ found.1)
  where
    by : (content : Content) → is_some (map_of content) ≡ true → (names : Names) × (named (map_of content) ≡ Ok names)
    by (DirectoryOf names) e = (names, refl)
    by (Body bytes) e = absurd (cc)
    by (DeviceOf type addresses) e = absurd (cc)

-- if the steps of a path lead to a directory, so does the path
abbrev pub dotted : (tree : Tree) (base path : List ℕ) → DotsLead tree → LeadsToDirectory tree (base ++ joined (steps_of path)) → LeadsToDirectory tree (below base path)
dotted tree base path dots led =
    let i = led.1.number in (
      led.0,
      record {
        number = i;
        walked = with_dots tree base path i dots (opens tree (base ++ joined (steps_of path)) led) led.1.walked;
        stands = led.1.stands;
      },
      led.2,
    )

abbrev undotted : (tree : Tree) (base path : List ℕ) → DotsLead tree → LeadsToDirectory tree (below base path) → LeadsToDirectory tree (base ++ joined (steps_of path))
undotted tree base path dots led =
    let i = led.1.number in
    (led.0, record { number = i; walked = without_dots tree base path i dots led.1.walked; stands = led.1.stands }, led.2)

-- the facts about a member that passes its check
pub record IsChecked (member : Member) (made : MadeAs × Cred) : Type 0 where
  pub kind : made_as member.header.flag member.path ≡ Ok made.0
  pub short : list_any is_long (names_of member.path) ≡ false
  pub device : check_device made.0 member.header ≡ Ok tt
  pub uid : made.1.uid ≡ member.header.uid
  pub gid : made.1.gid ≡ member.header.gid

-- if `and_then` is Ok, its first part is Ok
then_ok : {X Y : Type 0} (first : Result X MemberFault) (next : X → Result Y MemberFault) (y : Y) → and_then first next ≡ Ok y
    → (x : X) × (first ≡ Ok x) × (next x ≡ Ok y)
then_ok (Ok x) next y is = (x, refl, is)
then_ok (Err fault) next y is = absurd (cc)

checked : (edition : Edition) (member : Member) (made : MadeAs × Cred) → check edition member ≡ Ok made → IsChecked member made
unfolding check
checked edition member made is =
    let one = then_ok (made_as member.header.flag member.path) _ made is in
    let two = then_ok (check_path member.path) _ made one.2 in
    let three = then_ok (check_link one.0 member.link) _ made two.2 in
    let four = then_ok (check_device one.0 member.header) _ made three.2 in
    let five = then_ok (owner_of edition member.header) _ made four.2 in
    let all : MadeAs × Cred = (one.0, five.0) in
    let same : all ≡ made = cc in
    let owner : (five.0.uid ≡ member.header.uid) × (five.0.gid ≡ member.header.gid) = owned (is_bad_id edition member.header.uid member.header.gid) five.0 five.1 in
    record {
      kind = one.1 ∙ ap (λ (m : MadeAs × Cred). Ok m.0) same;
      short = not_long (is_long_path member.path) (list_any is_long (names_of member.path)) (list_any is_dot_dot (names_of member.path)) two.0 two.1;
      device = ap (λ (m : MadeAs × Cred). check_device m.0 member.header) (sym same) ∙ four.1;
      uid = ap (λ (m : MadeAs × Cred). m.1.uid) (sym same) ∙ owner.0;
      gid = ap (λ (m : MadeAs × Cred). m.1.gid) (sym same) ∙ owner.1;
    }
  where
    owned : (bad : Bool) (owner : Cred)
        → cond bad (Err faults.Owner) (Ok (record { uid = member.header.uid; gid = member.header.gid })) ≡ Ok owner
        → (owner.uid ≡ member.header.uid) × (owner.gid ≡ member.header.gid)
    owned true owner e = absurd (cc)
    owned false owner e =
        let same : record { uid = member.header.uid; gid = member.header.gid } ≡ owner = cc in
        (ap (λ (o : Cred). o.uid) (sym same), ap (λ (o : Cred). o.gid) (sym same))

    not_long : (path long dots : Bool) (none : Unit {0})
        → cond path (Err faults.LongPath) (cond long (Err faults.LongName) (cond dots (Err faults.DotDot) (Ok tt))) ≡ Ok none → long ≡ false
    not_long true long dots none e = absurd (cc)
    not_long false true dots none e = absurd (cc)
    not_long false false dots none e = refl

-- the numbers of a checked member's device are those of its header
pub numbers_kept : (member : Member) (kind : DeviceKind) → check_device (Device kind) member.header ≡ Ok tt
    → (member.header.major % 256 ≡ member.header.major) × (member.header.minor % 256 ≡ member.header.minor)
numbers_kept member kind = by (nat_lt 255 member.header.major) (nat_lt 255 member.header.minor) tt refl refl
  where
    small : (n : ℕ) → nat_lt 255 n ≡ false → n % 256 ≡ n
    small n e = grind (arith, nat_tests, e)

    by : (major minor : Bool) (none : Unit {0}) → nat_lt 255 member.header.major ≡ major → nat_lt 255 member.header.minor ≡ minor
        → cond (major || minor) (Err faults.Device) (Ok tt) ≡ Ok none
        → (member.header.major % 256 ≡ member.header.major) × (member.header.minor % 256 ≡ member.header.minor)
    by true minor none a b e = absurd (cc)
    by false true none a b e = absurd (cc)
    by false false none a b e = (small member.header.major a, small member.header.minor b)

-- a member that makes a directory is for the path of its own steps
pub for_itself : (member : Member) → made_as member.header.flag member.path ≡ Ok Directory → is_for (joined (steps_of member.path)) member ≡ true
for_itself member kind =
    ap (λ (r : Result MadeAs MemberFault). is_made_at r member.path (joined (steps_of member.path))) kind
    ∙ bytes_same (joined (steps_of member.path)) (joined (steps_of member.path)) refl

directory_member : (start : Tree) (base : List ℕ) (now : ℕ) (member : Member) (owner : Cred) (drafted : Drafted) → IsChecked member (Directory, owner)
    → Adds start base (λ path. is_for path member) drafted (with_made Directory start base now member owner drafted)
    (IsMade start base now member false (Directory, owner))
directory_member start base now member owner drafted checks =
    let steps = joined (steps_of member.path) in
    by (is_there start base steps) (is_known drafted.0 steps) refl refl
  where
    by : (there known : Bool) → is_there start base (joined (steps_of member.path)) ≡ there → is_known drafted.0 (joined (steps_of member.path)) ≡ known
        → Adds start base (λ path. is_for path member) drafted (
          with_path drafted.0 (joined (steps_of member.path)),
          drafted.1
              ++ cond there [] (cond known (given_calls (moment_of member.header now) (below base member.path) (permissions_of member.header) owner)
              (directory_calls (moment_of member.header now) (below base member.path) (permissions_of member.header) owner)),
        )
        (IsMade start base now member false (Directory, owner))
    by true known t k =
        let steps = joined (steps_of member.path) in
        let there = there_leads start (base ++ steps) t in
        let plain = ap (λ b. b || false) (sym (zeros_below base member.path checks.short) ∙ there.1) in
        let next = with_path drafted.0 steps in
        adds_less start base none_given (λ path. is_for path member) drafted (next, drafted.1 ++ []) (IsMade start base now member false (Directory, owner))
        (IsMade start base now member false (Directory, owner))
        (adds_none start base drafted next (IsMade start base now member false (Directory, owner)) (with_known drafted.0 steps) (λ tree stands.
        let led = grown_directory start tree (base ++ steps) stands.grown there.0 in (
          stands_there start base drafted.0 steps tree stands t,
          record {
            led = dotted tree base member.path stands.dots led;
            walked = led.1.walked;
            noted = with_itself drafted.0 steps;
            plain = plain;
            given = λ none last. absurd (true≢false (sym t ∙ none));
          },
        ))) (λ path is. absurd (cc)) (λ tree left. left)
    by false true t k =
        let steps = joined (steps_of member.path) in
        let moment = moment_of member.header now in
        let perm = permissions_of member.header in
        record {
          more = given_calls moment (below base member.path) perm owner;
          calls = refl;
          leaves = λ from to stands run.
              let led = (stands.lead steps k).led in
              let i = led.1.number in
              let here = dotted from.tree base member.path stands.dots led in
              let gives = given_gives from to moment perm (below base member.path) owner here run in
              let grows = gives.0.grows in
              let dots = run_dots from to (given_calls moment (below base member.path) perm owner) stands.dots run in
              let next = grown_directory from.tree to.tree (below base member.path) grows here in
              let both : Some next.0 ≡ Some gives.0.node = sym next.1.stands ∙ gives.0.stands in
              let same : next.0 ≡ gives.0.node = cc in
              let walked = grown_path from.tree to.tree (base ++ steps) i grows led.1.walked in (
                record {
                  knows = with_known drafted.0 steps;
                  grows = grows;
                  stands = stands_known start base drafted.0 steps to.tree (stands_grown start base drafted.0 from.tree to.tree stands grows dots) k;
                  spares = λ x. elim (cases_eq x i) [
                    | inl at ↦ inr (steps, with_itself drafted.0 steps, t, for_itself member checks.kind, walked ∙ ap Ok (sym at))
                    | inr other ↦ inl (gives.0.beside x other)
                  ];
                },
                record {
                  led = next;
                  walked = walked;
                  noted = with_itself drafted.0 steps;
                  plain = gives.1;
                  given = λ none last. ap owner_told same ∙ gives.0.owned;
                },
              );
        }
    by false false t k =
        let steps = joined (steps_of member.path) in
        let moment = moment_of member.header now in
        let perm = permissions_of member.header in
        record {
          more = directory_calls moment (below base member.path) perm owner;
          calls = refl;
          leaves = λ from to stands run.
              let made = directory_made from to moment perm (below base member.path) owner run in
              let gains = made.1.gains in
              let content = ap (λ (f : Content × ℕ × ℕ × ℕ × ℕ × ℕ). f.0) made.1.facts_told in
              let here : LeadsToDirectory to.tree (below base member.path) =
              (made.1.node, gains.leads, ap (λ (c : Content). is_some (map_of c)) content) in
              let dots = run_dots from to (directory_calls moment (below base member.path) perm owner) stands.dots run in
              let led = undotted to.tree base member.path dots here in (
                record {
                  knows = with_known drafted.0 steps;
                  grows = gains.grows;
                  stands = stands_made start base drafted.0 steps from.tree to.tree stands gains.grows dots led gains.free;
                  spares = λ x. inl (gains.owners x);
                },
                record {
                  led = here;
                  walked = led.1.walked;
                  noted = with_itself drafted.0 steps;
                  plain = made.2;
                  given = λ none last. ap (λ (f : Content × ℕ × ℕ × ℕ × ℕ × ℕ). (f.1, f.2, f.3)) made.1.facts_told;
                },
              );
        }

-- calls that make a node that is no directory make its member
node_member : (start : Tree) (base : List ℕ) (given : List ℕ → Bool) (drafted : Drafted) (path : List ℕ) (facts : Facts) (more : List Call)
    → ((from to : State) → from.tree.geometry.edition ≡ start.geometry.edition → IsRun from more to
    → GainsNode from.tree to.tree path facts × (list_any has_zero (path ∷ []) ≡ false))
    → Adds start base given drafted (drafted.0, drafted.1 ++ more) (λ known tree. HasFacts tree path facts)
node_member start base given drafted path facts more makes = record {
  more = more;
  calls = refl;
  leaves = λ from to stands run.
      let made = makes from to stands.grown.edition run in
      let gains = made.0.gains in (
        record {
          knows = λ path is. is;
          grows = gains.grows;
          stands = stands_grown start base drafted.0 from.tree to.tree stands gains.grows (run_dots from to more stands.dots run);
          spares = λ x. inl (gains.owners x);
        },
        (made.0.node, gains.leads, made.0.facts_told, made.1),
      );
}

-- the calls of a checked member make it
made_member : (start : Tree) (base : List ℕ) (now : ℕ) (member : Member) (made : MadeAs) (owner : Cred) (drafted : Drafted) → IsChecked member (made, owner)
    → Adds start base (λ path. is_for path member) drafted (with_made made start base now member owner drafted)
    (IsMade start base now member false (made, owner))
made_member start base now member File owner drafted checks =
    let moment = moment_of member.header now in
    let path = below base member.path in
    let perm = permissions_of member.header in
    node_member start base (λ path. is_for path member) drafted path (facts_of now member owner) (file_calls moment path perm owner member.content)
    (λ from to same run. file_made from to moment perm path member.content owner run)
made_member start base now member (Device kind) owner drafted checks =
    let moment = moment_of member.header now in
    let path = below base member.path in
    let perm = permissions_of member.header in
    let device = device_of kind member.header in
    node_member start base (λ path. is_for path member) drafted path (device_facts start.geometry.edition now member kind owner)
    (special_calls moment path perm owner device)
    (λ from to same run.
    subst (λ (edition : Edition). GainsNode from.tree to.tree path (device_facts edition now member kind owner) × (list_any has_zero (path ∷ []) ≡ false)) same
    (special_made from to moment perm path owner device run))
made_member start base now member Directory owner drafted checks = directory_member start base now member owner drafted checks
made_member start base now member Link owner drafted checks =
    let moment = moment_of member.header now in
    let source = below base member.link in
    let target = below base member.path in
    record {
      more = calls.Link user moment source target ∷ [];
      calls = refl;
      leaves = λ from to stands run.
          let linked = link_grows from moment source target run.0 run.1.accepted in
          subst (λ (s : State). Follows start base (λ path. is_for path member) drafted.0 drafted.0 from.tree s.tree
          × IsMade start base now member false (Link, owner) drafted.0 s.tree) (sym run.3) (
            record {
              knows = λ path is. is;
              grows = linked.0;
              stands = stands_grown start base drafted.0 from.tree _ stands linked.0 run.2;
              spares = λ x. inl (linked.3 x);
            },
            (linked.1, linked.2),
          );
    }

-- a member was checked, and is made with the result of its check
abbrev pub IsMadeAs : Tree → List ℕ → ℕ → Member → Bool → Result (MadeAs × Cred) MemberFault → List (List ℕ) → Tree → Type 0
IsMadeAs start base now member again (Ok made) known tree = IsChecked member made × IsMade start base now member again made known tree
IsMadeAs start base now member again (Err fault) known tree = ⊥

-- each of these members is made
abbrev pub AreMadeAs : Tree → List ℕ → ℕ → List Member → List (List ℕ) → Tree → Type 0
AreMadeAs start base now [] known tree = Unit {0}
AreMadeAs start base now (member ∷ rest) known tree =
    IsMadeAs start base now member (is_among rest (joined (steps_of member.path))) (check start.geometry.edition member) known tree
    × AreMadeAs start base now rest known tree

pub made_as_kept : (start : Tree) (base : List ℕ) (now : ℕ) (member : Member) (made : Result (MadeAs × Cred) MemberFault) (given : List ℕ → Bool) (again later : Bool)
    (known next : List (List ℕ)) (old new : Tree) → Follows start base given known next old new
    → (later ≡ false → (again ≡ false) × (given (joined (steps_of member.path)) ≡ false))
    → IsMadeAs start base now member again made known old → IsMadeAs start base now member later made next new
made_as_kept start base now member (Ok made) given again later known next old new follows parts is =
    (is.0, made_kept start base now member made given again later known next old new follows parts is.1)
made_as_kept start base now member (Err fault) given again later known next old new follows parts is = absurd is

-- a draft with one more member makes this member
member_added : (start : Tree) (base : List ℕ) (now : ℕ) (drafted next : Drafted) (member : Member) (made : Result (MadeAs × Cred) MemberFault)
    → check start.geometry.edition member ≡ made → onto start base now drafted member made ≡ Ok next
    → Adds start base (λ path. is_for path member) drafted next (IsMadeAs start base now member false made)
member_added start base now drafted next member (Err fault) is added = absurd (cc)
member_added start base now drafted next member (Ok made) is added =
    let mid = with_way start base now [] (way_of member.path) drafted in
    by mid (is_crowded start mid) added (way start base now [] (way_of member.path) drafted)
  where
    by : (mid : Drafted) (crowded : Bool)
        → cond crowded (Err (plans.Member (below base member.path) faults.NoInode)) (Ok (with_made made.0 start base now member made.1 mid)) ≡ Ok next
        → Adds start base none_given drafted mid Nothing
        → Adds start base (λ path. is_for path member) drafted next (IsMadeAs start base now member false (Ok made))
    by mid true e ways = absurd (cc)
    by mid false e ways =
        let same : with_made made.0 start base now member made.1 mid ≡ next = cc in
        let checks = checked start.geometry.edition member made is in
        let last = with_made made.0 start base now member made.1 mid in
        let given = λ (path : List ℕ). none_given path || is_for path member in
        subst (λ (d : Drafted). Adds start base (λ path. is_for path member) drafted d (IsMadeAs start base now member false (Ok made))) same
        (adds_less start base given (λ path. is_for path member) drafted last
        (λ known tree. Unit {0} × IsMade start base now member false made known tree) (IsMadeAs start base now member false (Ok made))
        (adds_then start base none_given (λ path. is_for path member) drafted mid last Nothing Nothing (IsMade start base now member false made) ways
        (made_member start base now member made.0 made.1 mid checks) (λ from to follows left. tt)) (λ path is. is) (λ tree left. (checks, left.1)))

-- the draft of all members makes each of them
pub plan_added : (start : Tree) (base : List ℕ) (now : ℕ) (all : List Member) (drafted : Drafted) (calls : List Call)
    → plan_onto start base now drafted all ≡ Ok calls
    → (known : List (List ℕ)) × Adds start base (is_among all) drafted (known, calls) (AreMadeAs start base now all)
unfolding plan_onto
plan_added start base now [] drafted calls is =
    let same : drafted.1 ≡ calls = cc in (
      drafted.0,
      record {
        more = [];
        calls = sym same ∙ sym (append-nil drafted.1);
        leaves = λ from to stands run.
            subst (λ (s : State). Follows start base (is_among []) drafted.0 drafted.0 from.tree s.tree × Unit {0}) (sym run)
            (follows_same start base (is_among []) drafted.0 from.tree stands, tt);
      },
    )
plan_added start base now (member ∷ rest) drafted calls is =
    by (λ next is. plan_added start base now rest next calls is) (onto start base now drafted member (check start.geometry.edition member)) refl is
  where
    by : ((next : Drafted) → plan_onto start base now next rest ≡ Ok calls
        → (known : List (List ℕ)) × Adds start base (is_among rest) next (known, calls) (AreMadeAs start base now rest))
        → (added : Result Drafted PlanFault) → onto start base now drafted member (check start.geometry.edition member) ≡ added
        → and_next added (λ next. plan_onto start base now next rest) ≡ Ok calls
        → (known : List (List ℕ)) × Adds start base (is_among (member ∷ rest)) drafted (known, calls) (AreMadeAs start base now (member ∷ rest))
    by others (Err fault) e done = absurd (cc)
    by others (Ok next) e done =
        let made = check start.geometry.edition member in
        let again = is_among rest (joined (steps_of member.path)) in
        let first = member_added start base now drafted next member made refl e in
        let second = others next done in (
          second.0,
          adds_then start base (λ path. is_for path member) (is_among rest) drafted next (second.0, calls) (IsMadeAs start base now member false made)
              (IsMadeAs start base now member again made) (AreMadeAs start base now rest) first second.1
              (λ from to follows. made_as_kept start base now member made (is_among rest) false again next.0 second.0 from to follows (λ last. (refl, last))),
        )
