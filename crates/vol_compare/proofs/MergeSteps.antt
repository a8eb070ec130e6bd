-- The steps of a merge of two lists of members.
use Rattle.std.proofs.Common.{◌≡◌, ◌∙◌, sym, ap, refl, ℕ, ◌+◌, ◌-◌, ◌<◌, ◌≤◌, ◌||◌, not, Bool, List, [], ◌∷◌, ◌++◌, length, length-drop, map, drop, get_or, subst, arith}
use Rattle.std.specs.declared.cmp.Ordering.TheVariants.{Less, Equal, Greater}
use Rattle.std.proofs.lemmas.List.{drop_more, length-map, nil_from_length}
use Rattle.vol_archive.specs.declared.met_entries.MetEntry.{MetEntry}
use Rattle.vol_dir.specs.Walk.{is_nil}
use Rattle.vol_compare.specs.Members.{Member}
use Rattle.vol_compare.specs.Merge.{Added, Both, Gone, Pairing, all_of, member_at, merged, order_of, paired, path_order, rest_of, turn}
use Rattle.vol_compare.specs.declared.members.MetTree.{MetTree}
use Rattle.vol_compare.proofs.PathOrders.{order_same}

-- from an entry on, the members are that entry's and those after it
pub rest_at : (times : Bool) (tree : MetTree) (i : ℕ) (x : MetEntry) → i < length tree.founds.items → x ≡ get_or tree.founds.items i x
    → rest_of times tree i ≡ member_at times tree x ∷ rest_of times tree (i + 1)
unfolding rest_of
rest_at times tree i x low at =
    let f = member_at times tree in
    let xs = tree.founds.items in
    ap (map f) (drop_more xs i x low) ∙ ap (λ y. f y ∷ map f (drop (i + 1) xs)) (sym at)

-- past the last entry there are no members
pub rest_end : (times : Bool) (tree : MetTree) (i : ℕ) → length tree.founds.items ≤ i → rest_of times tree i ≡ []
unfolding rest_of
rest_end times tree i past =
    let xs = tree.founds.items in
    ap (map (member_at times tree)) (nil_from_length (drop i xs) (omega (arith, length-drop i xs)))

-- the number of members from an entry on
rest_len : (times : Bool) (tree : MetTree) (i : ℕ) → length (rest_of times tree i) ≡ length tree.founds.items - i
unfolding rest_of
rest_len times tree i =
    let xs = tree.founds.items in length-map (drop i xs) (member_at times tree) ∙ length-drop i xs

-- some members come before none
some_less : (olds : List Member) → 0 < length olds → order_of olds [] ≡ Less
some_less [] some = absurd (omega (arith, some))
some_less (old ∷ olds) some = refl

-- if only the old tree has members left, its are before
pub order_less : (times : Bool) (old new : MetTree) (i j : ℕ) → i < length old.founds.items → length new.founds.items ≤ j
    → order_of (rest_of times old i) (rest_of times new j) ≡ Less
order_less times old new i j low past =
    ap (order_of (rest_of times old i)) (rest_end times new j past) ∙ some_less (rest_of times old i) (omega (arith, low, rest_len times old i))

-- if the old tree has no members left, those of the new one are before
pub order_greater : (times : Bool) (old new : MetTree) (i j : ℕ) → length old.founds.items ≤ i
    → order_of (rest_of times old i) (rest_of times new j) ≡ Greater
order_greater times old new i j past = ap (λ xs. order_of xs (rest_of times new j)) (rest_end times old i past)

-- if both have members left, their paths decide
pub order_both : (times : Bool) (old new : MetTree) (i j : ℕ) (x y : MetEntry) → i < length old.founds.items → x ≡ get_or old.founds.items i x
    → j < length new.founds.items → y ≡ get_or new.founds.items j y
    → order_of (rest_of times old i) (rest_of times new j) ≡ path_order x.path y.path
order_both times old new i j x y old_low old_at new_low new_at =
    ap (λ xs. order_of xs (rest_of times new j)) (rest_at times old i x old_low old_at)
    ∙ ap (order_of (member_at times old x ∷ rest_of times old (i + 1))) (rest_at times new j y new_low new_at)

-- what is merged first, and what comes after it
abbrev pub Splits : Pairing → List Member → List Member → List Member → List Member → Type 0
Splits one olds news olds_after news_after = one ∷ merged olds_after news_after ≡ merged olds news

-- a member that only the old tree has
merged_less : (old : Member) (olds news : List Member) → order_of (old ∷ olds) news ≡ Less → Splits (Gone old) (old ∷ olds) news olds news
unfolding merged paired
merged_less old olds [] is = refl
merged_less old olds (new ∷ news) is = sym (ap (turn old (merged olds) new news (paired old (merged olds) news)) is)

-- a member that only the new tree has
merged_greater : (new : Member) (olds news : List Member) → order_of olds (new ∷ news) ≡ Greater → Splits (Added new) olds (new ∷ news) olds news
unfolding merged paired
merged_greater new [] news is = refl
merged_greater new (old ∷ olds) news is = sym (ap (turn old (merged olds) new news (paired old (merged olds) news)) is)

-- a pair of members
merged_both : (old new : Member) (olds news : List Member) → path_order old.path new.path ≡ Equal
    → Splits (Both old new) (old ∷ olds) (new ∷ news) olds news
unfolding merged paired
merged_both old new olds news is = sym (ap (turn old (merged olds) new news (paired old (merged olds) news)) is)

-- the step over an entry that only the old tree has
pub step_less : (times : Bool) (old new : MetTree) (i j : ℕ) (x : MetEntry) → i < length old.founds.items → x ≡ get_or old.founds.items i x
    → order_of (rest_of times old i) (rest_of times new j) ≡ Less
    → Splits (Gone (member_at times old x)) (rest_of times old i) (rest_of times new j) (rest_of times old (i + 1)) (rest_of times new j)
step_less times old new i j x low at is =
    let rest = rest_at times old i x low at in
    subst (λ olds. Splits (Gone (member_at times old x)) olds (rest_of times new j) (rest_of times old (i + 1)) (rest_of times new j)) (sym rest)
    (merged_less (member_at times old x) (rest_of times old (i + 1)) (rest_of times new j)
    (subst (λ olds. order_of olds (rest_of times new j) ≡ Less) rest is))

-- the step over an entry that only the new tree has
pub step_greater : (times : Bool) (old new : MetTree) (i j : ℕ) (y : MetEntry) → j < length new.founds.items → y ≡ get_or new.founds.items j y
    → order_of (rest_of times old i) (rest_of times new j) ≡ Greater
    → Splits (Added (member_at times new y)) (rest_of times old i) (rest_of times new j) (rest_of times old i) (rest_of times new (j + 1))
step_greater times old new i j y low at is =
    let rest = rest_at times new j y low at in
    subst (λ news. Splits (Added (member_at times new y)) (rest_of times old i) news (rest_of times old i) (rest_of times new (j + 1))) (sym rest)
    (merged_greater (member_at times new y) (rest_of times old i) (rest_of times new (j + 1))
    (subst (λ news. order_of (rest_of times old i) news ≡ Greater) rest is))

-- the step over a pair of entries
pub step_equal : (times : Bool) (old new : MetTree) (i j : ℕ) (x y : MetEntry) → i < length old.founds.items → x ≡ get_or old.founds.items i x
    → j < length new.founds.items → y ≡ get_or new.founds.items j y → order_of (rest_of times old i) (rest_of times new j) ≡ Equal
    → Splits (Both (member_at times old x) (member_at times new y)) (rest_of times old i) (rest_of times new j)
    (rest_of times old (i + 1)) (rest_of times new (j + 1))
step_equal times old new i j x y old_low old_at new_low new_at is =
    let olds = rest_at times old i x old_low old_at in
    let news = rest_at times new j y new_low new_at in
    let one = Both (member_at times old x) (member_at times new y) in
    subst (λ xs. Splits one xs (rest_of times new j) (rest_of times old (i + 1)) (rest_of times new (j + 1))) (sym olds)
    (subst (λ ys. Splits one (member_at times old x ∷ rest_of times old (i + 1)) ys (rest_of times old (i + 1)) (rest_of times new (j + 1))) (sym news)
    (merged_both (member_at times old x) (member_at times new y) (rest_of times old (i + 1)) (rest_of times new (j + 1))
    (sym (order_both times old new i j x y old_low old_at new_low new_at) ∙ is)))

-- nothing is merged of two empty lists
none_left : merged [] [] ≡ []
unfolding merged
none_left = refl

-- past the last entries nothing is merged
pub merged_end : (times : Bool) (old new : MetTree) (i j : ℕ) → length old.founds.items ≤ i → length new.founds.items ≤ j
    → merged (rest_of times old i) (rest_of times new j) ≡ []
merged_end times old new i j old_past new_past =
    ap (λ xs. merged xs (rest_of times new j)) (rest_end times old i old_past)
    ∙ (ap (merged []) (rest_end times new j new_past) ∙ none_left)

-- two texts together have a byte if one has
pub some_of_both : (xs ys : List ℕ) → not (is_nil (xs ++ ys)) ≡ (not (is_nil xs) || not (is_nil ys))
some_of_both [] ys = refl
some_of_both (x ∷ xs) ys = refl

-- two trees whose roots have one path have these, and what is below them
pub roots_first : (times : Bool) (old new : MetTree) → old.root.path ≡ new.root.path
    → Both (member_at times old old.root) (member_at times new new.root) ∷ merged (rest_of times old 0) (rest_of times new 0)
    ≡ merged (all_of times old) (all_of times new)
roots_first times old new roots =
    let same : path_order old.root.path new.root.path ≡ Equal = subst (λ path. path_order old.root.path path ≡ Equal) roots (order_same old.root.path) in
    merged_both (member_at times old old.root) (member_at times new new.root) (rest_of times old 0) (rest_of times new 0) same
