-- The words of several files, and their last names.
use Rattle.std.proofs.Common.{◌≡◌, ◌∙◌, ◌≤◌, ◌<◌, ◌+◌, ◌-◌, ◌∷◌, ◌++◌, ◌&&◌, ◌||◌, not, ℕ, List, [], Option, Some, None, Bool, true, false, true≢false, Ordering, length, map, option_map, take, drop, get_or, slice_get, cond, refl, sym, ap, ap₂, subst, inl, inr, arith}
use Rattle.std.specs.Borrow.{Bor}
use Rattle.std.specs.BTreeMap.{is_at}
use Rattle.std.specs.BTreeSet.{BTreeSet, Updates, contains}
use Rattle.std.specs.Cmp.Lexicographic.{slice_cmp}
use Rattle.std.specs.List.{flat_map, list_any}
use Rattle.std.specs.Ordering.{nat_cmp}
use Rattle.std.specs.Path.{path_file_name}
use Rattle.std.specs.Str.{bytes_eq}
use Rattle.std.proofs.lemmas.Bool.{cases_Bool}
use Rattle.std.proofs.lemmas.Grind.{flat_map-append}
use Rattle.std.proofs.lemmas.List.{get_or-map, length-map, map-append, take-append-drop, take-map, take_more}
use Rattle.std.proofs.lemmas.List.Folds.{list_any-append}
use Rattle.std.proofs.lemmas.Map.Text.{is_eq-slice_cmp}
use Rattle.std.proofs.lemmas.Option.{slice_get-get_or, slice_get-map}
use Rattle.std.proofs.lemmas.Slice.Eq.{bytes_eq-Decides}
use Rattle.command_words.specs.Invocations.{AreFilesGiven, EndsInMoment, IsMomentAfter, are_apart, are_distinct, last_names, with_name}

-- the texts that references point to
abbrev pub texts : List (Bor (List ℕ)) → List (List ℕ)
texts words = map (λ word. word.now) words

-- the texts of the first `i + 1` words are the texts of the first `i`, followed by the next word's text
pub texts_more : (words : List (Bor (List ℕ))) (i : ℕ) (other : Bor (List ℕ)) → i < length words
    → texts (take (i + 1) words) ≡ texts (take i words) ++ (get_or words i other).now ∷ []
texts_more words i other inside =
    ap texts (take_more words i other inside) ∙ map-append (λ (word : Bor (List ℕ)). word.now) (take i words) (get_or words i other ∷ [])

-- appending the empty list to a list changes nothing
append_nil : (l : List (List ℕ)) → l ++ [] ≡ l
append_nil [] = refl
append_nil (x ∷ l) = ap (λ (m : List (List ℕ)). x ∷ m) (append_nil l)

-- if `words` are the words given for the first `i` names, then with those for the next name they are the words for the first `i + 1`
pub words_more : (given : List ℕ → List (List ℕ)) (words more : List (Bor (List ℕ))) (names : List (Bor (List ℕ))) (i : ℕ) (other : Bor (List ℕ)) → i < length names
    → texts words ≡ flat_map given (texts (take i names)) → texts more ≡ given (get_or names i other).now
    → texts (words ++ more) ≡ flat_map given (texts (take (i + 1) names))
words_more given words more names i other inside were are =
    let one : flat_map given ((get_or names i other).now ∷ []) ≡ given (get_or names i other).now = append_nil (given (get_or names i other).now) in
    map-append (λ (word : Bor (List ℕ)). word.now) words more
    ∙ (ap₂ (λ (l m : List (List ℕ)). l ++ m) were (are ∙ sym one)
    ∙ (sym (flat_map-append given (texts (take i names)) ((get_or names i other).now ∷ []))
    ∙ ap (flat_map given) (sym (texts_more names i other inside))))

-- if `all` is `names` followed by `more`, this also holds with the same name, if any, before `all` and `names`
name-append : (name : Option (List ℕ)) (all names more : List (List ℕ)) → all ≡ names ++ more → with_name name all ≡ with_name name names ++ more
name-append None all names more is = is
name-append (Some name) all names more is = ap (λ (l : List (List ℕ)). name ∷ l) is

-- the last names of two lists of paths, one after the other, are the last names of the first, followed by the last names of the second
names-append : (paths more : List (List ℕ)) → last_names (paths ++ more) ≡ last_names paths ++ last_names more
names-append [] more = refl
names-append (path ∷ paths) more = name-append (path_file_name path) (last_names (paths ++ more)) (last_names paths) (last_names more) (names-append paths more)

-- the last names of the first `i + 1` paths are the last names of the first `i`, followed by the next path's, if it has one
names_at : (paths : List (Bor (List ℕ))) (i : ℕ) (other : Bor (List ℕ)) → i < length paths
    → last_names (texts (take (i + 1) paths)) ≡ last_names (texts (take i paths)) ++ with_name (path_file_name (get_or paths i other).now) []
names_at paths i other inside = ap last_names (texts_more paths i other inside) ∙ names-append (texts (take i paths)) ((get_or paths i other).now ∷ [])

-- if `names` are the last names of the first `i` paths and the next path has a last name, then appending this name gives the last names of the first
-- `i + 1`
pub names_more : (names : List (Bor (List ℕ))) (name : Bor (List ℕ)) (paths : List (Bor (List ℕ))) (i : ℕ) (other : Bor (List ℕ)) → i < length paths
    → texts names ≡ last_names (texts (take i paths)) → Some name.now ≡ path_file_name (get_or paths i other).now
    → texts (names ++ name ∷ []) ≡ last_names (texts (take (i + 1) paths))
names_more names name paths i other inside were is =
    map-append (λ (word : Bor (List ℕ)). word.now) names (name ∷ [])
    ∙ (ap₂ (λ (l m : List (List ℕ)). l ++ m) were (ap (λ (o : Option (List ℕ)). with_name o []) is)
    ∙ sym (names_at paths i other inside))

-- if `names` are the last names of the first `i` paths and the next path has no last name, they are also the last names of the first `i + 1`
pub names_stay : (names : List (Bor (List ℕ))) (paths : List (Bor (List ℕ))) (i : ℕ) (other : Bor (List ℕ)) → i < length paths
    → texts names ≡ last_names (texts (take i paths)) → None ≡ path_file_name (get_or paths i other).now
    → texts names ≡ last_names (texts (take (i + 1) paths))
names_stay names paths i other inside were is =
    were ∙ (sym (append_nil (last_names (texts (take i paths)))) ∙ (ap (λ (o : Option (List ℕ)). last_names (texts (take i paths)) ++ with_name o []) is ∙ sym (names_at paths i other inside)))

-- an empty reference, as a default value
abbrev pub no_name : Bor (List ℕ)
no_name = record { ref_ptr = (0, 0); now = [] }

-- the order of the texts that references point to
abbrev pub text_cmp : Bor (List ℕ) → Bor (List ℕ) → Ordering
text_cmp one other = slice_cmp nat_cmp one.now other.now

-- the set contains exactly these names
abbrev pub HoldsNames : BTreeSet (Bor (List ℕ)) → List (List ℕ) → Type 0
HoldsNames seen names = (name : Bor (List ℕ)) → contains text_cmp seen name ≡ list_any (λ other. bytes_eq name.now other) names

-- these two orders of four tests have the same result
reordered : (a b c d : Bool) → (not (a || (b || false)) && (not c && d)) ≡ (not (b || c) && (not a && d))
reordered true true c d = refl
reordered true false true d = refl
reordered true false false d = refl
reordered false true c d = refl
reordered false false true d = refl
reordered false false false d = refl

-- the names with `name` after them are distinct exactly if none of them equals `name` and they are distinct
distinct_after : (names : List (List ℕ)) (name : List ℕ) → are_distinct (names ++ name ∷ []) ≡ (not (list_any (λ other. bytes_eq name other) names) && are_distinct names)
distinct_after [] name = refl
distinct_after (first ∷ names) name =
    ap₂ (λ (a b : Bool). not a && b) (list_any-append (λ (other : List ℕ). bytes_eq other first) names (name ∷ [])) (distinct_after names name)
    ∙ reordered (list_any (λ other. bytes_eq other first) names) (bytes_eq name first) (list_any (λ other. bytes_eq name other) names) (are_distinct names)

-- if `not a && b` is false, so is `not (a || more) && with_more`, if `with_more` is false whenever `b` is
either_fails : (a more b with_more : Bool) → (not a && b) ≡ false → (b ≡ false → with_more ≡ false) → (not (a || more) && with_more) ≡ false
either_fails true more b with_more fails then = refl
either_fails false true b with_more fails then = refl
either_fails false false b with_more fails then = then fails

-- if names aren't distinct, they aren't distinct with more names after them
not_distinct_before : (names more : List (List ℕ)) → are_distinct names ≡ false → are_distinct (names ++ more) ≡ false
not_distinct_before [] more fails = absurd (true≢false fails)
not_distinct_before (name ∷ names) more fails =
    ap (λ (b : Bool). not b && are_distinct (names ++ more)) (list_any-append (λ (other : List ℕ). bytes_eq other name) names more)
    ∙ either_fails (list_any (λ other. bytes_eq other name) names) (list_any (λ other. bytes_eq other name) more) (are_distinct names) (are_distinct (names ++ more)) fails
    (not_distinct_before names more)

-- whether two texts are equal doesn't depend on their order
same_both_ways : (one other : List ℕ) → bytes_eq one other ≡ bytes_eq other one
same_both_ways one other =
    elim (cases_Bool (bytes_eq one other)) [
      | inl same ↦ rw ((bytes_eq-Decides one other).0 same) refl
      | inr apart ↦ elim (cases_Bool (bytes_eq other one)) [
        | inl same ↦ rw ((bytes_eq-Decides other one).0 same) refl
        | inr apart' ↦ apart ∙ sym apart'
      ]
    ]

-- a name is in the set after an insertion if it was inserted, or was in the set before
put_or_there : (is_it was : Bool) → cond is_it true was ≡ (was || (is_it || false))
put_or_there true true = refl
put_or_there true false = refl
put_or_there false true = refl
put_or_there false false = refl

-- if the set contains exactly `names`, then with `name` inserted it contains exactly `names` and `name`
pub holds_more : (seen new : BTreeSet (Bor (List ℕ))) (names : List (List ℕ)) (name : Bor (List ℕ)) → HoldsNames seen names
    → Updates text_cmp seen new name true → HoldsNames new (names ++ name.now ∷ [])
holds_more seen new names name holds updates other =
    updates.0 other
    ∙ ap₂ (λ (a b : Bool). cond a true b) (is_eq-slice_cmp name.now other.now ∙ same_both_ways name.now other.now) (holds other)
    ∙ put_or_there (bytes_eq other.now name.now) (list_any (λ earlier. bytes_eq other.now earlier) names)
    ∙ sym (list_any-append (λ (earlier : List ℕ). bytes_eq other.now earlier) names (name.now ∷ []))

-- if names are distinct, they are distinct with one more name that isn't in their set
pub distinct_more : (seen : BTreeSet (Bor (List ℕ))) (names : List (List ℕ)) (name : Bor (List ℕ)) → HoldsNames seen names → contains text_cmp seen name ≡ false
    → are_distinct names ≡ true → are_distinct (names ++ name.now ∷ []) ≡ true
distinct_more seen names name holds new distinct =
    distinct_after names name.now ∙ ap₂ (λ (a b : Bool). not a && b) (sym (holds name) ∙ new) distinct

-- if the set of some names contains the next name, the names aren't distinct
pub not_distinct : (seen : BTreeSet (Bor (List ℕ))) (names : List (Bor (List ℕ))) (i : ℕ) (other : Bor (List ℕ)) → i < length names
    → HoldsNames seen (texts (take i names)) → contains text_cmp seen (get_or names i other) ≡ true → are_distinct (texts names) ≡ false
not_distinct seen names i other inside holds old =
    let name : Bor (List ℕ) = get_or names i other in
    let first : are_distinct (texts (take (i + 1) names)) ≡ false =
    ap are_distinct (texts_more names i other inside)
    ∙ (distinct_after (texts (take i names)) name.now
    ∙ ap (λ (b : Bool). not b && are_distinct (texts (take i names))) (sym (holds name) ∙ old)) in
    let whole : texts names ≡ texts (take (i + 1) names) ++ texts (drop (i + 1) names) =
    ap texts (sym (take-append-drop (i + 1) names)) ∙ map-append (λ (word : Bor (List ℕ)). word.now) (take (i + 1) names) (drop (i + 1) names) in
    ap are_distinct whole ∙ not_distinct_before (texts (take (i + 1) names)) (texts (drop (i + 1) names)) first

-- a set without keys contains exactly the names of the empty list
pub holds_none : (seen : BTreeSet (Bor (List ℕ))) → seen.keys ≡ [] → HoldsNames seen []
holds_none seen empty name = ap (list_any (is_at (text_cmp name))) empty

-- if `answer` is the opposite of `there` and is false, `there` is true
pub not_false : (answer there : Bool) → answer ≡ not there → answer ≡ false → there ≡ true
not_false answer true is refused = refl
not_false answer false is refused = absurd (true≢false (sym is ∙ refused))

-- if `answer` is the opposite of `there` and is true, `there` is false
pub not_true : (answer there : Bool) → answer ≡ not there → answer ≡ true → there ≡ false
not_true answer true is granted = absurd (true≢false (sym granted ∙ is))
not_true answer false is granted = refl

-- the last text of some words is the text of the last word
pub last_text : (words : List (Bor (List ℕ))) (other : Bor (List ℕ)) → 1 ≤ length words
    → get_or (texts words) (length (texts words) - 1) [] ≡ (get_or words (length words - 1) other).now
last_text words other some =
    ap (λ (n : ℕ). get_or (texts words) (n - 1) []) (length-map words (λ (word : Bor (List ℕ)). word.now))
    ∙ get_or-map (λ (word : Bor (List ℕ)). word.now) words (length words - 1) other [] (omega arith)

-- if the last word isn't a time, all words are files, and the time is the clock's
pub all_files : (clock : Option ℕ) (passed words : List (Bor (List ℕ))) (now : ℕ) → passed ≡ words
    → ((moment : ℕ) → EndsInMoment (texts passed) moment → ⊥) → clock ≡ Some now → IsMomentAfter clock (texts words) (texts words) now None
all_files clock passed words now same none told =
    inr (subst (λ (l : List (Bor (List ℕ))). (moment : ℕ) → EndsInMoment (texts l) moment → ⊥) same none, refl, told, refl)

-- if the last word is a time, the words before it are the files, and it is the time's word
pub files_before : (clock : Option ℕ) (passed words files : List (Bor (List ℕ))) (now count : ℕ) (word : Option (Bor (List ℕ))) → passed ≡ words
    → count ≡ length words → EndsInMoment (texts passed) now → files ≡ take (count - 1) words
    → ((other : Bor (List ℕ)) → 0 < count → word ≡ Some (get_or words (count - 1) other))
    → IsMomentAfter clock (texts words) (texts files) now (option_map (λ (text : Bor (List ℕ)). text.now) word)
files_before clock passed words files now count word same counted ends before last =
    let said : EndsInMoment (texts words) now = subst (λ (l : List (Bor (List ℕ))). EndsInMoment (texts l) now) same ends in
    let same_length : length (texts words) ≡ length words = length-map words (λ (text : Bor (List ℕ)). text.now) in
    let place : count - 1 ≡ length (texts words) - 1 = omega (arith, counted, same_length) in
    let within : count - 1 < length words = omega (arith, counted, same_length, said.0) in
    let is : word ≡ slice_get words (count - 1) =
    last no_name (omega (arith, counted, same_length, said.0)) ∙ sym (slice_get-get_or words (count - 1) no_name within) in
    inl (
      said,
      ap texts before ∙ (sym (take-map (λ (text : Bor (List ℕ)). text.now) (count - 1) words) ∙ ap (λ (n : ℕ). take n (texts words)) place),
      ap (option_map (λ (text : Bor (List ℕ)). text.now)) is
          ∙ (sym (slice_get-map (λ (text : Bor (List ℕ)). text.now) words (count - 1)) ∙ ap (slice_get (texts words)) place),
    )

-- a clock without a time doesn't have this time
untold : (clock : Option ℕ) (now : ℕ) → clock ≡ None → clock ≡ Some now → ⊥
untold clock now none told = absurd (cc)

-- if the last word isn't a time and the clock has none, the words aren't files with a time
pub none_told : (clock : Option ℕ) (passed words : List (Bor (List ℕ))) → passed ≡ words → ((moment : ℕ) → EndsInMoment (texts passed) moment → ⊥)
    → clock ≡ None → (files : List (List ℕ)) (now : ℕ) (word : Option (List ℕ)) → IsMomentAfter clock (texts words) files now word → ⊥
none_told clock passed words same none is files now word (inl ends) =
    none now (subst (λ (l : List (Bor (List ℕ))). EndsInMoment (texts l) now) (sym same) ends.0)
none_told clock passed words same none is files now word (inr all) = untold clock now is all.2

-- two ways to read words as files with a time have the same files
files_same : (clock : Option ℕ) (words one other : List (List ℕ)) (now then_ : ℕ) (word another : Option (List ℕ)) → IsMomentAfter clock words one now word
    → IsMomentAfter clock words other then_ another → one ≡ other
files_same clock words one other now then_ word another (inl a) (inl b) = a.1 ∙ sym b.1
files_same clock words one other now then_ word another (inl a) (inr b) = absurd (b.0 now a.0)
files_same clock words one other now then_ word another (inr a) (inl b) = absurd (a.0 then_ b.0)
files_same clock words one other now then_ word another (inr a) (inr b) = a.1 ∙ sym b.1

-- if the words can't be read as files with a time, no files are given
pub none_after : (clock : Option ℕ) (words given : List (List ℕ)) → words ≡ given
    → ((files : List (List ℕ)) (now : ℕ) (word : Option (List ℕ)) → IsMomentAfter clock words files now word → ⊥)
    → (files : List (List ℕ)) (now : ℕ) (word : Option (List ℕ)) → AreFilesGiven clock given files now word → ⊥
none_after clock words given same none files now word are =
    none files now word (subst (λ (w : List (List ℕ)). IsMomentAfter clock w files now word) (sym same) are.2)

-- the files that are given are those before the time
given_found : (clock : Option ℕ) (words given found files : List (List ℕ)) (now then_ : ℕ) (word another : Option (List ℕ)) → words ≡ given
    → IsMomentAfter clock words found now word → AreFilesGiven clock given files then_ another → files ≡ found
given_found clock words given found files now then_ word another same is are =
    files_same clock given files found then_ now another word are.2 (subst (λ (w : List (List ℕ)). IsMomentAfter clock w found now word) same is)

-- if there are no files before the time, no files are given
pub none_found : (clock : Option ℕ) (words given : List (List ℕ)) (found passed : List (Bor (List ℕ))) (now : ℕ) (word : Option (List ℕ)) → words ≡ given
    → passed ≡ found → IsMomentAfter clock words (texts found) now word → length passed ≡ 0
    → (files : List (List ℕ)) (then_ : ℕ) (another : Option (List ℕ)) → AreFilesGiven clock given files then_ another → ⊥
none_found clock words given found passed now word same passed_is is none files then_ another are =
    let files_are = given_found clock words given (texts found) files now then_ word another same is are in
    let no_files : length files ≡ 0 = ap length files_are ∙ (length-map found (λ (word : Bor (List ℕ)). word.now) ∙ (ap length (sym passed_is) ∙ none)) in
    let some : 1 ≤ length files = are.0 in
    absurd (omega arith)

-- if two files before the time have the same last name, no files are given
pub none_apart : (clock : Option ℕ) (words given : List (List ℕ)) (found passed : List (Bor (List ℕ))) (now : ℕ) (word : Option (List ℕ)) → words ≡ given
    → passed ≡ found → IsMomentAfter clock words (texts found) now word → are_apart (texts passed) ≡ false
    → (files : List (List ℕ)) (then_ : ℕ) (another : Option (List ℕ)) → AreFilesGiven clock given files then_ another → ⊥
none_apart clock words given found passed now word same passed_is is none files then_ another are =
    let files_are = given_found clock words given (texts found) files now then_ word another same is are in
    true≢false (sym are.1 ∙ (ap are_apart files_are ∙ (ap (λ (l : List (Bor (List ℕ))). are_apart (texts l)) (sym passed_is) ∙ none)))

-- if there are files before the time, with different last names, these are the files that are given
pub found_given : (clock : Option ℕ) (words given : List (List ℕ)) (found passed again : List (Bor (List ℕ))) (now : ℕ) (word : Option (List ℕ)) → words ≡ given
    → passed ≡ found → again ≡ found → IsMomentAfter clock words (texts found) now word → 1 ≤ length passed → are_apart (texts again) ≡ true
    → AreFilesGiven clock given (texts found) now word
found_given clock words given found passed again now word same passed_is again_is is some apart = (
  subst (λ (n : ℕ). 1 ≤ n) (sym (length-map found (λ (word : Bor (List ℕ)). word.now))) (subst (λ (l : List (Bor (List ℕ))). 1 ≤ length l) passed_is some),
  ap (λ (l : List (Bor (List ℕ))). are_apart (texts l)) (sym again_is) ∙ apart,
  subst (λ (w : List (List ℕ)). IsMomentAfter clock w (texts found) now word) same is,
)
