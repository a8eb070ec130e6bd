-- The words that ask for a second line about a fault.
use Rattle.std.proofs.Common.{◌≡◌, ◌∷◌, ◌∙◌, ◌+◌, ◌<◌, ◌≤◌, ap, false, true, ℕ, List, [], codes, drop, length, map, refl, slice_index_or, subst, sym, arith}
use Rattle.std.specs.Str.{bytes_eq}
use Rattle.std.proofs.lemmas.List.{at_drop_all, at_drop_more}
use Rattle.command_line.specs.Explain.{asks_to_explain, has_explain}

-- the words that start at index `i` begin with the word at `i`
from : {A : Type 0} (bytes : A → List ℕ) (words : List A) (i : ℕ) (word : A) → i < length words → word ≡ slice_index_or words i word
    → has_explain (map bytes (drop i words)) ≡ has_explain (bytes word ∷ map bytes (drop (i + 1) words))
from bytes words i word inside is =
    at_drop_more (λ ws. has_explain (map bytes ws)) words i word inside
    ∙ ap (λ w. has_explain (bytes w ∷ map bytes (drop (i + 1) words))) (sym is)

-- if a word is neither `--` nor `--explain`, it makes no difference whether it is there
passes : (word : List ℕ) (rest : List (List ℕ)) → bytes_eq word (codes "--") ≡ false → bytes_eq word (codes "--explain") ≡ false
    → has_explain (word ∷ rest) ≡ has_explain rest
unfolding has_explain
passes word rest goes other = rw (goes, other) refl

-- no word after a lone `--` counts
stops : (word : List ℕ) (rest : List (List ℕ)) → bytes_eq word (codes "--") ≡ true → has_explain (word ∷ rest) ≡ false
unfolding has_explain
stops word rest ends = rw ends refl

-- a word `--explain` asks for a second line
asks : (word : List ℕ) (rest : List (List ℕ)) → bytes_eq word (codes "--") ≡ false → bytes_eq word (codes "--explain") ≡ true → has_explain (word ∷ rest) ≡ true
unfolding has_explain
asks word rest goes is = rw (goes, is) refl

-- if the words from index `i` on decide, and the word at `i` is neither `--` nor `--explain`, the words after it decide
pub passed : {A : Type 0} (bytes : A → List ℕ) (words : List A) (i : ℕ) (word : A) (text : List ℕ) → i < length words → word ≡ slice_index_or words i word
    → text ≡ bytes word → bytes_eq text (codes "--") ≡ false → bytes_eq text (codes "--explain") ≡ false
    → has_explain (map bytes words) ≡ has_explain (map bytes (drop i words)) → has_explain (map bytes words) ≡ has_explain (map bytes (drop (i + 1) words))
passed bytes words i word text inside is shown goes other before =
    before ∙ (from bytes words i word inside is ∙ passes (bytes word) (map bytes (drop (i + 1) words))
    (subst (λ t. bytes_eq t (codes "--") ≡ false) shown goes) (subst (λ t. bytes_eq t (codes "--explain") ≡ false) shown other))

-- if the words from index `i` on decide, and the word at `i` is `--`, no second line is wanted
pub stopped : {A : Type 0} (bytes : A → List ℕ) (words : List A) (i : ℕ) (word : A) (text : List ℕ) → i < length words → word ≡ slice_index_or words i word
    → text ≡ bytes word → bytes_eq text (codes "--") ≡ true
    → has_explain (map bytes words) ≡ has_explain (map bytes (drop i words)) → false ≡ has_explain (map bytes words)
stopped bytes words i word text inside is shown ends before =
    sym (before ∙ (from bytes words i word inside is ∙ stops (bytes word) (map bytes (drop (i + 1) words)) (subst (λ t. bytes_eq t (codes "--") ≡ true) shown ends)))

-- if the words from index `i` on decide, and the word at `i` is `--explain`, a second line is wanted
pub asked : {A : Type 0} (bytes : A → List ℕ) (words : List A) (i : ℕ) (word : A) (text : List ℕ) → i < length words → word ≡ slice_index_or words i word
    → text ≡ bytes word → bytes_eq text (codes "--") ≡ false → bytes_eq text (codes "--explain") ≡ true
    → has_explain (map bytes words) ≡ has_explain (map bytes (drop i words)) → true ≡ has_explain (map bytes words)
asked bytes words i word text inside is shown goes found before =
    sym (before ∙ (from bytes words i word inside is ∙ asks (bytes word) (map bytes (drop (i + 1) words))
    (subst (λ t. bytes_eq t (codes "--") ≡ false) shown goes) (subst (λ t. bytes_eq t (codes "--explain") ≡ true) shown found)))

-- the empty list of words doesn't ask for a second line
none : has_explain [] ≡ false
unfolding has_explain
none = refl

-- if the words from index `i` on decide, and there are none, no second line is wanted
pub ended : {A : Type 0} (bytes : A → List ℕ) (words : List A) (i : ℕ) → length words ≤ i → has_explain (map bytes words) ≡ has_explain (map bytes (drop i words))
    → false ≡ has_explain (map bytes words)
ended bytes words i past before = sym (before ∙ (at_drop_all (λ ws. has_explain (map bytes ws)) words i past ∙ none))

-- if there is no word, not even the program's name, the words don't ask for a second line
pub nothing : {A : Type 0} (bytes : A → List ℕ) (words : List A) → length words ≡ 0 → false ≡ asks_to_explain (map bytes words)
unfolding has_explain
nothing bytes [] is = refl
nothing bytes (word ∷ words) is = absurd (omega (arith, is))
