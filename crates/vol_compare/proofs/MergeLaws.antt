-- When two lists of members have no lines.
use Rattle.std.proofs.Common.{◌≡◌, ◌∙◌, ap, refl, ℕ, ◌&&◌, Bool, true, List, [], ◌∷◌}
use Rattle.std.specs.List.{list_all}
use Rattle.std.proofs.lemmas.Bool.{and_parts}
use Rattle.std.specs.declared.cmp.Ordering.{Ordering}
use Rattle.std.specs.declared.cmp.Ordering.TheVariants.{Less, Equal, Greater}
use Rattle.vol_compare.specs.Members.{Content, Member, is_seen}
use Rattle.std.specs.List.{flat_map}
use Rattle.vol_compare.specs.Lines.{pair_line}
use Rattle.vol_compare.specs.Merge.{Pairing, line_of, merged, merged_lines, paired, path_order, turn}
use Rattle.vol_compare.proofs.PathOrders.{order_equal, order_same}
use Rattle.vol_compare.proofs.SilentLines.{both_empty, first_empty, pair_equal, pair_same, rest_empty, some_text}

-- a member with this path and content
abbrev member : List ℕ → Content → Member
member path content = record { path = path; content = content }

-- it is known of each path of these members what it leads to
abbrev are_seen : List Member → Bool
are_seen members = list_all (λ (m : Member). is_seen m.content) members

-- equal lists have no line, if it is known of each path what it leads to
pub merged_same : (members : List Member) → are_seen members ≡ true → merged_lines members members ≡ []
unfolding merged paired
merged_same [] seen = refl
merged_same (m ∷ members) seen =
    let parts = and_parts (is_seen m.content) (are_seen members) seen in
    ap (λ t. flat_map line_of (turn m (merged members) m members (paired m (merged members) members) t)) (order_same m.path)
    ∙ both_empty (pair_line m.path m.content m.content) (merged_lines members members) (pair_same m.path m.content parts.0) (merged_same members parts.1)

-- members without a line are equal, and those after them if they are; and it is known what their paths lead to
turned_equal : (old new : Member) (olds news : List Member) (more : List Pairing) (t : Ordering) → path_order old.path new.path ≡ t
    → flat_map line_of (turn old (merged olds) new news more t) ≡ [] → (merged_lines olds news ≡ [] → (olds ≡ news) × (are_seen olds ≡ true))
    → (old ∷ olds ≡ new ∷ news) × (are_seen (old ∷ olds) ≡ true)
turned_equal old new olds news more Less is e rest = absurd (some_text 68 _ e)
turned_equal old new olds news more Greater is e rest = absurd (some_text 65 _ e)
turned_equal old new olds news more Equal is e rest =
    let path : old.path ≡ new.path = order_equal old.path new.path is in
    let content = pair_equal old.path old.content new.content (first_empty _ _ e) in
    let one : old ≡ new = ap (λ p. member p old.content) path ∙ ap (member new.path) content.0 in
    let others = rest (rest_empty (pair_line old.path old.content new.content) _ e) in
    (ap (λ m. m ∷ olds) one ∙ ap (λ ms. new ∷ ms) others.0, ap (λ b. b && are_seen olds) content.1 ∙ others.1)

-- lists without a line are equal, and it is known of each path what it leads to
pub merged_equal : (olds news : List Member) → merged_lines olds news ≡ [] → (olds ≡ news) × (are_seen olds ≡ true)
unfolding merged paired
merged_equal [] [] e = (refl, refl)
merged_equal [] (new ∷ news) e = absurd (some_text 65 _ e)
merged_equal (old ∷ olds) [] e = absurd (some_text 68 _ e)
merged_equal (old ∷ olds) (new ∷ news) e =
    turned_equal old new olds news (paired old (merged olds) news) (path_order old.path new.path) refl e (merged_equal olds news)
