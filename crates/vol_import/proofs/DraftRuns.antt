-- Drafts of a plan, and the trees that their calls make: known paths lead to directories, and nodes keep their owners.
use Rattle.std.proofs.Common.{◌≡◌, ◌∙◌, sym, ap, subst, refl, ℕ, ◌&&◌, ◌||◌, Bool, true, false, cond, not, List, [], ◌∷◌, ◌++◌, Option, None, Some, Result, Ok, Err, ◌⊎◌, inl, inr, append_assoc}
use Rattle.std.specs.Cmp.Lexicographic.{slice_cmp}
use Rattle.std.specs.Option.{is_some, unwrap_or}
use Rattle.std.specs.Ordering.{is_eq, match_ordering, nat_cmp}
use Rattle.std.specs.declared.cmp.Ordering.{Ordering}
use Rattle.std.specs.declared.cmp.Ordering.TheVariants.{Less, Equal, Greater}
use Rattle.std.proofs.lemmas.Bool.{cases_eq, true≢false}
use Rattle.std.proofs.lemmas.List.{append-nil}
use Rattle.std.proofs.lemmas.Map.Lookups.{exact_bytes}
use Rattle.std.proofs.lemmas.Map.Text.{is_eq-slice_cmp}
use Rattle.vol_layout.specs.Ids.{is_bad_id}
use Rattle.vol_file.proofs.PlaceLists.{bytes_same}
use Rattle.vol_dir.specs.Access.{user}
use Rattle.vol_dir.specs.Tree.{Content, Body, Directory, Device, Node, Tree, State}
use Rattle.vol_dir.specs.Walk.{has_zero, map_of, walk}
use Rattle.vol_dir.specs.declared.refusal.Refusal.{Refusal}
use Rattle.vol_dir.specs.declared.refusal.Refusal.TheVariants as refusals
use Rattle.vol_change.specs.Nodes.{no_node, node_at}
use Rattle.vol_volume.specs.Answer.{answer, kind_of_content, query_refusal, refused_or, reply_at, reply_of, stat_of}
use Rattle.vol_volume.specs.Verdict.{of_node}
use Rattle.vol_volume.specs.declared.calls.Call.{Call}
use Rattle.vol_volume.specs.declared.queries.Query.TheVariants as queries
use Rattle.vol_volume.specs.declared.queries.Reply.TheVariants as replies
use Rattle.vol_import.specs.Plan.{Drafted, is_directory as says_directory, is_directory_kind, is_known, is_there, way_call, with_path, with_way, with_way_directory}
use Rattle.vol_import.proofs.DotWalks.{DotsLead}
use Rattle.vol_import.proofs.GrownTrees.{Gives, LeadsToDirectory, grown_directory}
use Rattle.vol_batch.proofs.MadeNames.{Grows, KeepsOwner, Stays, grows_same, grows_then, grown_path, owner_same, owner_then, owner_told}
use Rattle.vol_batch.proofs.MadePaths.{mkdir_gains}
use Rattle.vol_import.proofs.MemberCalls.{IsRun, run_parts}

-- an order passes `is_eq` only if it is `Equal`
equal_order : (order : Ordering) → is_eq order ≡ true → order ≡ Equal
equal_order Less e = absurd (cc)
equal_order Equal e = refl
equal_order Greater e = absurd (cc)

-- a path that is known after one is added was known before, or is the added one
known_with : (known : List (List ℕ)) (path p : List ℕ) → is_known (with_path known path) p ≡ true → (is_known known p ≡ true) ⊎ (p ≡ path)
known_with [] path p is = here (slice_cmp nat_cmp p path) refl is
  where
    here : (order : Ordering) → slice_cmp nat_cmp p path ≡ order → (is_eq order || false) ≡ true → (is_known [] p ≡ true) ⊎ (p ≡ path)
    here Less e is = absurd (cc)
    here Equal e is = inr (exact_bytes p path e)
    here Greater e is = absurd (cc)
known_with (first ∷ known) path p is = by (slice_cmp nat_cmp path first) (known_with known path p) is
  where
    before : (order : Ordering) → slice_cmp nat_cmp p path ≡ order → (is_eq order || is_known (first ∷ known) p) ≡ true
        → (is_known (first ∷ known) p ≡ true) ⊎ (p ≡ path)
    before Less e is = inl is
    before Equal e is = inr (exact_bytes p path e)
    before Greater e is = inl is

    after : (order : Ordering) → (is_known (with_path known path) p ≡ true → (is_known known p ≡ true) ⊎ (p ≡ path))
        → (is_eq order || is_known (with_path known path) p) ≡ true → ((is_eq order || is_known known p) ≡ true) ⊎ (p ≡ path)
    after Less rest is = rest is
    after Equal rest is = inl refl
    after Greater rest is = rest is

    by : (order : Ordering) → (is_known (with_path known path) p ≡ true → (is_known known p ≡ true) ⊎ (p ≡ path))
        → is_known (match_ordering order (path ∷ first ∷ known) (first ∷ known) (first ∷ with_path known path)) p ≡ true
        → (is_known (first ∷ known) p ≡ true) ⊎ (p ≡ path)
    by Less rest is = before (slice_cmp nat_cmp p path) refl is
    by Equal rest is = inl is
    by Greater rest is = after (slice_cmp nat_cmp p first) rest is

-- known paths are still known after one is added
pub with_known : (known : List (List ℕ)) (path p : List ℕ) → is_known known p ≡ true → is_known (with_path known path) p ≡ true
with_known [] path p is = absurd (cc)
with_known (first ∷ known) path p is = by (slice_cmp nat_cmp path first) (with_known known path p)
  where
    before : (b : Bool) → (b || is_known (first ∷ known) p) ≡ true
    before true = refl
    before false = is

    after : (b : Bool) → (is_known known p ≡ true → is_known (with_path known path) p ≡ true) → (b || is_known known p) ≡ true
        → (b || is_known (with_path known path) p) ≡ true
    after true rest is = refl
    after false rest is = rest is

    by : (order : Ordering) → (is_known known p ≡ true → is_known (with_path known path) p ≡ true)
        → is_known (match_ordering order (path ∷ first ∷ known) (first ∷ known) (first ∷ with_path known path)) p ≡ true
    by Less rest = before (is_eq (slice_cmp nat_cmp p path))
    by Equal rest = is
    by Greater rest = after (is_eq (slice_cmp nat_cmp p first)) rest is

-- the added path is known
pub with_itself : (known : List (List ℕ)) (path : List ℕ) → is_known (with_path known path) path ≡ true
with_itself known path = go known
  where
    same : is_eq (slice_cmp nat_cmp path path) ≡ true
    same = is_eq-slice_cmp path path ∙ bytes_same path path refl

    go : (known : List (List ℕ)) → is_known (with_path known path) path ≡ true
    go [] = ap (λ b. b || false) same
    go (first ∷ known) = by (slice_cmp nat_cmp path first) refl (go known)
      where
        last : (b : Bool) → (b || true) ≡ true
        last true = refl
        last false = refl

        by : (order : Ordering) → slice_cmp nat_cmp path first ≡ order → is_known (with_path known path) path ≡ true
            → is_known (match_ordering order (path ∷ first ∷ known) (first ∷ known) (first ∷ with_path known path)) path ≡ true
        by Less e rest = ap (λ b. b || is_known (first ∷ known) path) same
        by Equal e rest = ap (λ o. is_eq o || is_known known path) e
        by Greater e rest = ap (λ b. is_eq (slice_cmp nat_cmp path first) || b) rest ∙ last (is_eq (slice_cmp nat_cmp path first))

-- a path below `base` leads to a directory; if the first tree had no directory there, the node is new
pub record Leads (start : Tree) (base : List ℕ) (tree : Tree) (path : List ℕ) : Type 0 where
  pub led : LeadsToDirectory tree (base ++ path)
  pub fresh : is_there start base path ≡ false → start.nodes led.1.number ≡ None

-- a tree between two calls: it has grown from the first tree, each known path leads to a directory, and a new directory has only one known path
pub record Stands (start : Tree) (base : List ℕ) (known : List (List ℕ)) (tree : Tree) : Type 0 where
  pub dots : DotsLead tree
  pub grown : Grows start tree
  pub lead : (path : List ℕ) → is_known known path ≡ true → Leads start base tree path
  pub apart : (p q : List ℕ) → is_known known p ≡ true → is_known known q ≡ true → is_there start base p ≡ false → (i : ℕ)
      → walk tree user (base ++ p) ≡ Ok i → walk tree user (base ++ q) ≡ Ok i → p ≡ q

-- a walk leads to at most one i-number
pub one_number : (walked : Result ℕ Refusal) (i j : ℕ) → walked ≡ Ok i → walked ≡ Ok j → i ≡ j
one_number walked i j first second = let both : Ok i ≡ Ok j = sym first ∙ second in cc

-- a walk in the grown tree leads to the directory that the path led to before
pub walked_back : (old new : Tree) (path : List ℕ) (i : ℕ) → Grows old new → (led : LeadsToDirectory old path) → walk new user path ≡ Ok i
    → walk old user path ≡ Ok i
walked_back old new path i grows led is =
    led.1.walked ∙ ap Ok (one_number (walk new user path) led.1.number i (grown_path old new path led.1.number grows led.1.walked) is)

-- a tree that satisfies `Stands` still does after it has grown
pub stands_grown : (start : Tree) (base : List ℕ) (known : List (List ℕ)) (old new : Tree) → Stands start base known old → Grows old new → DotsLead new
    → Stands start base known new
stands_grown start base known old new stands grows dots = record {
  dots = dots;
  grown = grows_then start old new stands.grown grows;
  lead = λ path is.
      let leads = stands.lead path is in
      record { led = grown_directory old new (base ++ path) grows leads.led; fresh = leads.fresh };
  apart = λ p q one two none i first second.
      stands.apart p q one two none i (walked_back old new (base ++ p) i grows (stands.lead p one).led first)
      (walked_back old new (base ++ q) i grows (stands.lead q two).led second);
}

-- adding a path that leads to a directory of its own preserves `Stands`
stands_with : (start : Tree) (base : List ℕ) (known : List (List ℕ)) (path : List ℕ) (tree : Tree) → Stands start base known tree
    → Leads start base tree path
    → ((q : List ℕ) → is_known known q ≡ true → (is_there start base path ≡ false) ⊎ (is_there start base q ≡ false) → (i : ℕ)
    → walk tree user (base ++ path) ≡ Ok i → walk tree user (base ++ q) ≡ Ok i → path ≡ q)
    → Stands start base (with_path known path) tree
stands_with start base known path tree stands leads other = record {
  dots = stands.dots;
  grown = stands.grown;
  lead = λ p is. elim (known_with known path p is) [
    | inl was ↦ stands.lead p was
    | inr same ↦ subst (Leads start base tree) (sym same) leads
  ];
  apart = λ p q one two none i first second. by p q none i first second (known_with known path p one) (known_with known path q two);
}
  where
    by : (p q : List ℕ) → is_there start base p ≡ false → (i : ℕ) → walk tree user (base ++ p) ≡ Ok i → walk tree user (base ++ q) ≡ Ok i
        → (is_known known p ≡ true) ⊎ (p ≡ path) → (is_known known q ≡ true) ⊎ (q ≡ path) → p ≡ q
    by p q none i first second (inl one) (inl two) = stands.apart p q one two none i first second
    by p q none i first second (inl one) (inr is) =
        sym (other p one (inr none) i (subst (λ r. walk tree user (base ++ r) ≡ Ok i) is second) first) ∙ sym is
    by p q none i first second (inr is) (inl two) =
        is ∙ other q two (inl (subst (λ r. is_there start base r ≡ false) is none)) i (subst (λ r. walk tree user (base ++ r) ≡ Ok i) is first) second
    by p q none i first second (inr is) (inr same) = is ∙ sym same

-- adding a known path preserves `Stands`
pub stands_known : (start : Tree) (base : List ℕ) (known : List (List ℕ)) (path : List ℕ) (tree : Tree) → Stands start base known tree
    → is_known known path ≡ true → Stands start base (with_path known path) tree
stands_known start base known path tree stands is = stands_with start base known path tree stands (stands.lead path is) by
  where
    by : (q : List ℕ) → is_known known q ≡ true → (is_there start base path ≡ false) ⊎ (is_there start base q ≡ false) → (i : ℕ)
        → walk tree user (base ++ path) ≡ Ok i → walk tree user (base ++ q) ≡ Ok i → path ≡ q
    by q two (inl new) i first second = stands.apart path q is two new i first second
    by q two (inr new) i first second = sym (stands.apart q path two is new i second first)

-- a path at which a Stat finds a directory leads to it, and has no zero byte
pub there_leads : (tree : Tree) (path : List ℕ) → says_directory (answer tree (queries.Stat user path)) ≡ true
    → LeadsToDirectory tree path × (has_zero path ≡ false)
unfolding query_refusal reply_of
there_leads tree path is = by (is_bad_id tree.geometry.edition 0 0) (has_zero path) (walk tree user path) refl refl is
  where
    held : (content : Content) → is_directory_kind (kind_of_content content) ≡ true → is_some (map_of content) ≡ true
    held (Directory names) e = refl
    held (Body bytes) e = absurd (cc)
    held (Device type addresses) e = absurd (cc)

    at : (i : ℕ) (node : Option Node) → walk tree user path ≡ Ok i → tree.nodes i ≡ node
        → is_directory_kind (kind_of_content (unwrap_or node no_node).content) ≡ true → LeadsToDirectory tree path
    at i None walked stands e = absurd (cc)
    at i (Some node) walked stands e = (node, record { number = i; walked = walked; stands = stands }, held node.content e)

    by : (bad zero : Bool) (walked : Result ℕ Refusal) → has_zero path ≡ zero → walk tree user path ≡ walked
        → says_directory (refused_or (cond bad (Some refusals.BadId) (cond (zero || false) (Some refusals.Invalid) (of_node walked (λ i. None))))
        (reply_at walked (λ i. replies.Stat (stat_of i (node_at tree i))))) ≡ true → LeadsToDirectory tree path × (has_zero path ≡ false)
    by true zero walked z w e = absurd (cc)
    by false true walked z w e = absurd (cc)
    by false false (Err refusal) z w e = absurd (cc)
    by false false (Ok i) z w e = (at i (tree.nodes i) w refl e, z)

-- adding the path of a directory of the first tree preserves `Stands`
pub stands_there : (start : Tree) (base : List ℕ) (known : List (List ℕ)) (path : List ℕ) (tree : Tree) → Stands start base known tree
    → is_there start base path ≡ true → Stands start base (with_path known path) tree
stands_there start base known path tree stands there =
    stands_with start base known path tree stands
    (record { led = grown_directory start tree (base ++ path) stands.grown led; fresh = λ none. absurd (true≢false (sym there ∙ none)) }) by
  where
    led : LeadsToDirectory start (base ++ path)
    led = (there_leads start (base ++ path) there).0

    by : (q : List ℕ) → is_known known q ≡ true → (is_there start base path ≡ false) ⊎ (is_there start base q ≡ false) → (i : ℕ)
        → walk tree user (base ++ path) ≡ Ok i → walk tree user (base ++ q) ≡ Ok i → path ≡ q
    by q two (inl new) i first second = absurd (true≢false (sym there ∙ new))
    by q two (inr new) i first second =
        let old = led.1.number in
        let leads = stands.lead q two in
        let same : leads.led.1.number ≡ old =
        one_number (walk tree user (base ++ q)) leads.led.1.number i leads.led.1.walked second
        ∙ one_number (walk tree user (base ++ path)) i old first (grown_path start tree (base ++ path) old stands.grown led.1.walked) in
        let both : None ≡ Some led.0 = sym (leads.fresh new) ∙ (ap start.nodes same ∙ led.1.stands) in
        absurd (cc)

-- if a grown tree has no node `i`, the old tree had none
free_before : (old new : Tree) (i : ℕ) → Grows old new → new.nodes i ≡ None → old.nodes i ≡ None
free_before old new i grows free = by (old.nodes i) (grows.kept i).1
  where
    by : (node : Option Node) → Stays node (new.nodes i) → node ≡ None
    by None stays = refl
    by (Some x) stays = let both : None ≡ Some (stays x refl).0 = sym free ∙ (stays x refl).1 in absurd (cc)

-- adding a path whose directory was just made preserves `Stands`
pub stands_made : (start : Tree) (base : List ℕ) (known : List (List ℕ)) (path : List ℕ) (old new : Tree) → Stands start base known old
    → Grows old new → DotsLead new → (led : LeadsToDirectory new (base ++ path)) → old.nodes led.1.number ≡ None
    → Stands start base (with_path known path) new
stands_made start base known path old new stands grows dots led free =
    stands_with start base known path new (stands_grown start base known old new stands grows dots)
    (record { led = led; fresh = λ none. free_before start old led.1.number stands.grown free }) by
  where
    by : (q : List ℕ) → is_known known q ≡ true → (is_there start base path ≡ false) ⊎ (is_there start base q ≡ false) → (i : ℕ)
        → walk new user (base ++ path) ≡ Ok i → walk new user (base ++ q) ≡ Ok i → path ≡ q
    by q two none i first second =
        let was = (stands.lead q two).led in
        let same : was.1.number ≡ led.1.number =
        one_number (walk new user (base ++ q)) was.1.number i (grown_path old new (base ++ q) was.1.number grows was.1.walked) second
        ∙ one_number (walk new user (base ++ path)) i led.1.number first led.1.walked in
        let both : None ≡ Some was.0 = sym free ∙ (ap old.nodes (sym same) ∙ was.1.stands) in
        absurd (cc)

-- no path is given an owner
abbrev pub none_given : List ℕ → Bool
none_given path = false

-- nodes keep their owners, except new directories at known paths that may be given one
abbrev pub Spares : Tree → List ℕ → List (List ℕ) → (List ℕ → Bool) → Tree → Tree → Type 0
Spares start base known given old new =
    (x : ℕ) → KeepsOwner (old.nodes x) (new.nodes x)
    ⊎ ((path : List ℕ) × (is_known known path ≡ true) × (is_there start base path ≡ false) × (given path ≡ true)
    × (walk new user (base ++ path) ≡ Ok x))

-- the effect of calls on a tree between two calls of a plan
pub record Follows (start : Tree) (base : List ℕ) (given : List ℕ → Bool) (known next : List (List ℕ)) (old new : Tree) : Type 0 where
  pub knows : (path : List ℕ) → is_known known path ≡ true → is_known next path ≡ true
  pub grows : Grows old new
  pub stands : Stands start base next new
  pub spares : Spares start base next given old new

pub follows_then : (start : Tree) (base : List ℕ) (one two : List ℕ → Bool) (known mid last : List (List ℕ)) (old between new : Tree)
    → Follows start base one known mid old between → Follows start base two mid last between new
    → Follows start base (λ path. one path || two path) known last old new
follows_then start base one two known mid last old between new first second = record {
  knows = λ path is. second.knows path (first.knows path is);
  grows = grows_then old between new first.grows second.grows;
  stands = second.stands;
  spares = λ x. by x (first.spares x) (second.spares x);
}
  where
    left : (a b : Bool) → a ≡ true → (a || b) ≡ true
    left true b e = refl
    left false b e = absurd (cc)

    right : (a b : Bool) → b ≡ true → (a || b) ≡ true
    right true b e = refl
    right false b e = e

    by : (x : ℕ)
        → KeepsOwner (old.nodes x) (between.nodes x)
        ⊎ ((path : List ℕ) × (is_known mid path ≡ true) × (is_there start base path ≡ false) × (one path ≡ true)
        × (walk between user (base ++ path) ≡ Ok x))
        → KeepsOwner (between.nodes x) (new.nodes x)
        ⊎ ((path : List ℕ) × (is_known last path ≡ true) × (is_there start base path ≡ false) × (two path ≡ true)
        × (walk new user (base ++ path) ≡ Ok x))
        → KeepsOwner (old.nodes x) (new.nodes x)
        ⊎ ((path : List ℕ) × (is_known last path ≡ true) × (is_there start base path ≡ false) × ((one path || two path) ≡ true)
        × (walk new user (base ++ path) ≡ Ok x))
    by x (inl keeps) (inl more) = inl (owner_then (old.nodes x) (between.nodes x) (new.nodes x) keeps more)
    by x (inl keeps) (inr gave) = inr (gave.0, gave.1, gave.2, right (one gave.0) (two gave.0) gave.3, gave.4)
    by x (inr gave) more =
        inr (gave.0, second.knows gave.0 gave.1, gave.2, left (one gave.0) (two gave.0) gave.3, grown_path between new (base ++ gave.0) x second.grows gave.4)

-- no calls have no effect
pub follows_same : (start : Tree) (base : List ℕ) (given : List ℕ → Bool) (known : List (List ℕ)) (tree : Tree) → Stands start base known tree
    → Follows start base given known known tree tree
follows_same start base given known tree stands =
    record { knows = λ path is. is; grows = grows_same tree; stands = stands; spares = λ x. inl (owner_same (tree.nodes x)) }

-- changing a directory without changing its owner has only permitted effects
pub follows_kept : (start : Tree) (base path : List ℕ) (known : List (List ℕ)) (old new : Tree) (led : LeadsToDirectory old path)
    → Stands start base known old → DotsLead new → Gives old new led.1.number (owner_told led.0) → Follows start base none_given known known old new
follows_kept start base path known old new led stands dots gives = record {
  knows = λ path is. is;
  grows = gives.grows;
  stands = stands_grown start base known old new stands gives.grows dots;
  spares = λ x. inl (elim (cases_eq x led.1.number) [
    | inl at ↦ λ node is.
        let both : Some node ≡ Some led.0 = sym is ∙ (ap old.nodes at ∙ led.1.stands) in
        let same : node ≡ led.0 = cc in
        (gives.node, ap new.nodes at ∙ gives.stands, gives.owned ∙ sym (ap owner_told same))
    | inr other ↦ gives.beside x other
  ]);
}

-- the effect is still permitted if more paths may be given an owner
pub follows_less : (start : Tree) (base : List ℕ) (one two : List ℕ → Bool) (known next : List (List ℕ)) (old new : Tree)
    → ((path : List ℕ) → one path ≡ true → two path ≡ true) → Follows start base one known next old new → Follows start base two known next old new
follows_less start base one two known next old new less follows = record {
  knows = follows.knows;
  grows = follows.grows;
  stands = follows.stands;
  spares = λ x. elim (follows.spares x) [
    | inl keeps ↦ inl keeps
    | inr gave ↦ inr (gave.0, gave.1, gave.2, less gave.0 gave.3, gave.4)
  ];
}

-- calls that a draft gains, and a fact that holds after them
pub record Adds (start : Tree) (base : List ℕ) (given : List ℕ → Bool) (old new : Drafted) (Left : List (List ℕ) → Tree → Type 0) : Type 0 where
  pub more : List Call
  pub calls : new.1 ≡ old.1 ++ more
  pub leaves : (from to : State) → Stands start base old.0 from.tree → IsRun from more to
      → Follows start base given old.0 new.0 from.tree to.tree × Left new.0 to.tree

pub adds_then : (start : Tree) (base : List ℕ) (one two : List ℕ → Bool) (old mid new : Drafted) (First Third Second : List (List ℕ) → Tree → Type 0)
    → Adds start base one old mid First → Adds start base two mid new Second
    → ((from to : Tree) → Follows start base two mid.0 new.0 from to → First mid.0 from → Third new.0 to)
    → Adds start base (λ path. one path || two path) old new (λ known tree. Third known tree × Second known tree)
adds_then start base one two old mid new First Third Second first second kept = record {
  more = first.more ++ second.more;
  calls = second.calls ∙ (ap (λ cs. cs ++ second.more) first.calls ∙ append_assoc old.1 first.more second.more);
  leaves = λ from to stands run.
      let parts = run_parts from to first.more second.more run in
      let front = first.leaves from parts.0 stands parts.1 in
      let rest = second.leaves parts.0 to front.0.stands parts.2 in (
        follows_then start base one two old.0 mid.0 new.0 from.tree parts.0.tree to.tree front.0 rest.0,
        (kept parts.0.tree to.tree rest.0 front.1, rest.1),
      );
}

-- a weaker fact holds too, and more paths may be given an owner
pub adds_less : (start : Tree) (base : List ℕ) (one two : List ℕ → Bool) (old new : Drafted) (First Second : List (List ℕ) → Tree → Type 0)
    → Adds start base one old new First → ((path : List ℕ) → one path ≡ true → two path ≡ true)
    → ((tree : Tree) → First new.0 tree → Second new.0 tree) → Adds start base two old new Second
adds_less start base one two old new First Second adds more less = record {
  more = adds.more;
  calls = adds.calls;
  leaves = λ from to stands run.
      let left = adds.leaves from to stands run in
      (follows_less start base one two old.0 new.0 from.tree to.tree more left.0, less to.tree left.1);
}

-- a fact that holds already needs no calls
pub adds_none : (start : Tree) (base : List ℕ) (old : Drafted) (known : List (List ℕ)) (Left : List (List ℕ) → Tree → Type 0)
    → ((path : List ℕ) → is_known old.0 path ≡ true → is_known known path ≡ true)
    → ((tree : Tree) → Stands start base old.0 tree → Stands start base known tree × Left known tree)
    → Adds start base none_given old (known, old.1 ++ []) Left
adds_none start base old known Left knows holds = record {
  more = [];
  calls = refl;
  leaves = λ from to stands run.
      subst (λ (s : State). Follows start base none_given old.0 known from.tree s.tree × Left known s.tree) (sym run) (
      let all = holds from.tree stands in (
        record { knows = knows; grows = grows_same from.tree; stands = all.0; spares = λ x. inl (owner_same (from.tree.nodes x)) },
        all.1,
      )
      );
}

-- a fact that always holds
abbrev pub Nothing : List (List ℕ) → Tree → Type 0
Nothing known tree = Unit {0}

-- making a directory on the path of a member, if it is missing, gives no owner
way_directory : (start : Tree) (base : List ℕ) (now : ℕ) (path : List ℕ) (drafted : Drafted)
    → Adds start base none_given drafted (with_way_directory start base now path drafted) Nothing
way_directory start base now path drafted = by (is_known drafted.0 path) (is_there start base path) refl refl
  where
    by : (known there : Bool) → is_known drafted.0 path ≡ known → is_there start base path ≡ there
        → Adds start base none_given drafted
        (with_path drafted.0 path, drafted.1 ++ cond (not known && not there) (way_call now (base ++ path) ∷ []) []) Nothing
    by true there k t = adds_none start base drafted (with_path drafted.0 path) Nothing (with_known drafted.0 path)
        (λ tree stands. (stands_known start base drafted.0 path tree stands k, tt))
    by false true k t = adds_none start base drafted (with_path drafted.0 path) Nothing (with_known drafted.0 path)
        (λ tree stands. (stands_there start base drafted.0 path tree stands t, tt))
    by false false k t = record {
      more = way_call now (base ++ path) ∷ [];
      calls = refl;
      leaves = λ from to stands run.
          let made = (mkdir_gains from now 0o755 (base ++ path) run.0 run.1.accepted run.1.answered).1 in
          subst (λ (s : State). Follows start base none_given drafted.0 (with_path drafted.0 path) from.tree s.tree × Unit {0}) (sym run.3) (
            record {
              knows = with_known drafted.0 path;
              grows = made.grows;
              stands = stands_made start base drafted.0 path from.tree _ stands made.grows run.2 (_, made.leads, refl) made.free;
              spares = λ x. inl (made.owners x);
            },
            tt,
          );
    }

pub way : (start : Tree) (base : List ℕ) (now : ℕ) (path : List ℕ) (steps : List (List ℕ)) (drafted : Drafted)
    → Adds start base none_given drafted (with_way start base now path steps drafted) Nothing
unfolding with_way
way start base now path [] drafted = record {
  more = [];
  calls = sym (append-nil drafted.1);
  leaves = λ from to stands run.
      subst (λ (s : State). Follows start base none_given drafted.0 drafted.0 from.tree s.tree × Unit {0}) (sym run)
      (follows_same start base none_given drafted.0 from.tree stands, tt);
}
way start base now path (step ∷ steps) drafted =
    let next = path ++ 47 ∷ step in
    let mid = with_way_directory start base now next drafted in
    let last = with_way start base now next steps mid in
    adds_less start base (λ path. none_given path || none_given path) none_given drafted last (λ known tree. Unit {0} × Unit {0}) Nothing
    (adds_then start base none_given none_given drafted mid last Nothing Nothing Nothing (way_directory start base now next drafted)
    (way start base now next steps mid) (λ from to follows left. tt)) (λ path is. is) (λ tree left. tt)
