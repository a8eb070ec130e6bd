-- Lemmas on the components of a path.
use Rattle.std.proofs.Common.{◌≡◌, ℕ, ◌+◌, ◌<◌, ◌≤◌, ◌-◌, Bool, true, false, cond, eqb, List, [], ◌∷◌, map, take, drop, length, min, refl, suc, zero, Some, None, inl, inr, ap, sym, ◌∙◌, subst, arith}
use Rattle.std.specs.Prelude.{Option, not, ◌&&◌, ◌||◌, ◌==◌, filter}
use Rattle.std.specs.List.{position, position_or_len, list_any}
use Rattle.std.specs.Option.{unwrap_or}
use Rattle.std.proofs.Math.Nat.{min_comm}
use Rattle.std.proofs.lemmas.Bool.{cases_lt, lt-ltb, le-ltb, or_parts, true≢false}
use Rattle.std.proofs.lemmas.List.{take_all, take_min, nil_from_length, length-take, length-drop}
use Rattle.std.proofs.lemmas.List.Quantifiers.{position-Some}
use Rattle.std.proofs.lemmas.List.Sums.{prefix_len-le-length}
use Rattle.vol_dir.specs.Walk.{onto_first, pieces, is_nil, is_plain, components, IsComponent}

-- the pieces that are not empty
abbrev pub kept : List (List ℕ) → List (List ℕ)
kept = filter (λ piece. not (is_nil piece))

-- the non-empty pieces of a path whose first byte is a slash or not, as `slash` states
abbrev kept_at : ℕ → List ℕ → Bool → List (List ℕ)
kept_at c path b = kept (cond b ([] ∷ pieces path) (onto_first c (pieces path)))

one_more : (n : ℕ) → 1 + n ≡ suc n
one_more n = omega arith

-- slashes at the start of a path add no component
pub components-slashes : (path : List ℕ) → components (drop (position_or_len (λ c. not (eqb c 47)) path) path) ≡ components path
unfolding components
components-slashes [] = refl
components-slashes (c ∷ path) =
    let n = position_or_len (λ c. not (eqb c 47)) path in
    elim (eqb c 47) as (λ b. eqb c 47 ≡ b → components (drop (cond (not (not b)) (1 + n) 0) (c ∷ path)) ≡ map (take 14) (kept_at c path b)) [
      | true ↦ λ e. ap (λ k. components (drop k (c ∷ path))) (one_more n) ∙ components-slashes path
      | false ↦ λ e. ap (λ b. map (take 14) (kept_at c path b)) e
    ] refl

-- a path without a slash is one piece
pub one_piece : (name : List ℕ) → list_any (λ c. eqb c 47) name ≡ false → pieces name ≡ name ∷ []
one_piece [] h = refl
one_piece (c ∷ name) h =
    let parts = or_parts (eqb c 47) (list_any (λ c. eqb c 47) name) h in
    ap (λ b. cond b ([] ∷ pieces name) (onto_first c (pieces name))) parts.0 ∙ ap (onto_first c) (one_piece name parts.1)

-- a plain name of at most 14 bytes is its only component
pub one_component : (name : List ℕ) → is_plain name ≡ true → length name ≤ 14 → components name ≡ name ∷ []
unfolding components
one_component name plain short =
    let parts = plain_parts (is_nil name) (list_any (λ c. c == 47) name) plain in
    ap (λ ps. map (take 14) (filter (λ piece. not (is_nil piece)) ps)) (one_piece name parts.1)
    ∙ (ap (λ b. map (take 14) (cond (not b) (name ∷ []) [])) parts.0 ∙ ap (λ n. n ∷ []) (take_all 14 name short))
  where
    plain_parts : (a b : Bool) → (not a && not b) ≡ true → (a ≡ false) × (b ≡ false)
    plain_parts true b e = absurd (true≢false (sym e))
    plain_parts false true e = absurd (true≢false (sym e))
    plain_parts false false e = (refl, refl)

-- the first piece of a path has its first `n` bytes, and the other non-empty pieces are those of the rest of the path
pub record HasFirst (path : List ℕ) (n : ℕ) : Type 0 where
  pub others : List (List ℕ)
  pub first : pieces path ≡ take n path ∷ others
  pub rest : kept (pieces (drop n path)) ≡ kept others

pub has_first : (path : List ℕ) → HasFirst path (position_or_len (λ c. eqb c 47) path)
has_first [] = record { others = []; first = refl; rest = refl }
has_first (c ∷ path) =
    let n = position_or_len (λ c. eqb c 47) path in
    let h = has_first path in
    elim (eqb c 47) as (λ b. eqb c 47 ≡ b → HasFirst (c ∷ path) (cond (not b) (1 + n) 0)) [
      | true ↦ λ e. record {
        others = pieces path;
        first = ap (λ b. cond b ([] ∷ pieces path) (onto_first c (pieces path))) e;
        rest = ap (kept_at c path) e;
      }
      | false ↦ λ e. subst (HasFirst (c ∷ path)) (sym (one_more n)) (record {
        others = h.others;
        first = ap (λ b. cond b ([] ∷ pieces path) (onto_first c (pieces path))) e ∙ ap (onto_first c) h.first;
        rest = h.rest;
      })
    ] refl

-- a path without its leading slashes doesn't begin with a slash
name_follows : (path : List ℕ) → let rest = drop (position_or_len (λ c. not (eqb c 47)) path) path in
    0 < length rest → 0 < position_or_len (λ c. eqb c 47) rest
name_follows [] = λ h. h
name_follows (c ∷ path) =
    let n = position_or_len (λ c. not (eqb c 47)) path in
    elim (eqb c 47) as (λ b. eqb c 47 ≡ b → let rest = drop (cond (not (not b)) (1 + n) 0) (c ∷ path) in
    0 < length rest → 0 < position_or_len (λ c. eqb c 47) rest) [
      | true ↦ λ e. subst (λ k. 0 < length (drop k (c ∷ path)) → 0 < position_or_len (λ c. eqb c 47) (drop k (c ∷ path))) (sym (one_more n)) (name_follows path)
      | false ↦ λ e h. subst (λ b. 0 < cond (not b) (1 + position_or_len (λ c. eqb c 47) path) 0) (sym e) (omega arith)
    ] refl

has_item : (n : ℕ) (path : List ℕ) → 0 < n → 0 < length path → is_nil (take n path) ≡ false
has_item zero path h k = absurd (omega arith)
has_item (suc n) [] h k = absurd (omega arith)
has_item (suc n) (c ∷ path) h k = refl

-- the first component of a path that doesn't begin with a slash has the bytes before the first slash, cut to 14; the other components are those of
-- the rest
components-first : (path : List ℕ) → let n = position_or_len (λ c. eqb c 47) path in 0 < n → 0 < length path
    → components path ≡ take 14 (take n path) ∷ components (drop n path)
unfolding components
components-first path some full =
    let n = position_or_len (λ c. eqb c 47) path in
    let h = has_first path in
    ap (λ ps. map (take 14) (kept ps)) h.first
    ∙ (ap (λ b. map (take 14) (cond (not b) (take n path ∷ kept h.others) (kept h.others))) (has_item n path some full)
    ∙ ap (λ ps. take 14 (take n path) ∷ map (take 14) ps) (sym h.rest))

-- the empty path has no component
pub components-nil : components [] ≡ []
unfolding components
components-nil = refl

-- the index of the first item that passes a test, or the length if none does, is `position_or_len`
pub position_or : (p : ℕ → Bool) (xs : List ℕ) → unwrap_or (position p xs) (length xs) ≡ position_or_len p xs
position_or p xs =
    let within : position_or_len p xs ≤ length xs = prefix_len-le-length (λ x. not (p x)) xs in
    elim (cases_lt (position_or_len p xs) (length xs)) [
      | inl low ↦ ap (λ b. unwrap_or (cond b (Some (position_or_len p xs)) None) (length xs)) (lt-ltb (position_or_len p xs) (length xs) low)
      | inr high ↦
          ap (λ b. unwrap_or (cond b (Some (position_or_len p xs)) None) (length xs)) (le-ltb (position_or_len p xs) (length xs) high)
          ∙ omega arith
    ]

-- a path that consists of slashes has no component
pub components-none : (path : List ℕ) → position (λ c. not (eqb c 47)) path ≡ None → components path ≡ []
components-none path none =
    let n = position_or_len (λ c. not (eqb c 47)) path in
    let all : length path ≡ n = ap (λ o. unwrap_or o (length path)) (sym none) ∙ position_or (λ c. not (eqb c 47)) path in
    let count : length (drop n path) ≡ length path - n = length-drop n path in
    sym (components-slashes path) ∙ (ap components (nil_from_length (drop n path) (omega (arith, all, count))) ∙ components-nil)

-- the first component of a path begins at byte `k`, `named` is the rest of the path from that byte, and the component has `n` bytes before it is cut
pub record Begins (path named : List ℕ) (k n : ℕ) : Type 0 where
  pub at : k ≡ position_or_len (λ c. not (eqb c 47)) path
  pub is : named ≡ drop k path
  pub full : 0 < length named
  pub stop : n ≡ position_or_len (λ c. eqb c 47) named

-- the first component begins at the first byte that isn't a slash, and ends before the next slash
pub begins : (path named : List ℕ) (k n : ℕ) (slash : Option ℕ) → Some k ≡ position (λ c. not (eqb c 47)) path → named ≡ drop k path
    → slash ≡ position (λ c. eqb c 47) named → n ≡ unwrap_or slash (length named) → Begins path named k n
begins path named k n slash start is found stop = record {
  at = ap (λ o. unwrap_or o (length path)) start ∙ position_or (λ c. not (eqb c 47)) path;
  is = is;
  full =
      let low = position-Some (λ c. not (eqb c 47)) path k 0 (sym start) in
      let count : length named ≡ length path - k = ap length is ∙ length-drop k path in
      omega (arith, low.0, count);
  stop = stop ∙ (ap (λ o. unwrap_or o (length named)) found ∙ position_or (λ c. eqb c 47) named);
}

-- the first component has at least one byte
pub has_byte : (path named : List ℕ) (k n : ℕ) → Begins path named k n → 0 < n
has_byte path named k n begun =
    let behind : named ≡ drop (position_or_len (λ c. not (eqb c 47)) path) path = begun.is ∙ ap (λ j. drop j path) begun.at in
    subst (λ j. 0 < j) (sym begun.stop)
    (subst (λ xs. 0 < length xs → 0 < position_or_len (λ c. eqb c 47) xs) (sym behind) (name_follows path) begun.full)

-- the components of a path are the first one, cut to 14 bytes, and those of the rest
pub components-split : (path named front rest : List ℕ) (k n m : ℕ) → Begins path named k n
    → front ≡ take n named → rest ≡ drop n named → m ≡ min (length front) 14
    → components path ≡ take m front ∷ components rest
components-split path named front rest k n m begun before after cut =
    let behind : named ≡ drop (position_or_len (λ c. not (eqb c 47)) path) path = begun.is ∙ ap (λ j. drop j path) begun.at in
    let some : 0 < position_or_len (λ c. eqb c 47) named = subst (λ j. 0 < j) begun.stop (has_byte path named k n begun) in
    let short : take m front ≡ take 14 front = ap (λ j. take j front) (cut ∙ min_comm (length front) 14) ∙ take_min 14 front in
    let split : components named ≡ take 14 (take n named) ∷ components (drop n named) =
    components-first named some begun.full ∙ ap (λ j. take 14 (take j named) ∷ components (drop j named)) (sym begun.stop) in
    let same : components path ≡ components named = sym (components-slashes path) ∙ ap components (sym behind) in
    let parts : take 14 (take n named) ∷ components (drop n named) ≡ take m front ∷ components rest =
    ap (λ xs. take 14 xs ∷ components (drop n named)) (sym before)
    ∙ (ap (λ xs. xs ∷ components (drop n named)) (sym short) ∙ ap (λ xs. take m front ∷ components xs) (sym after)) in
    same ∙ (split ∙ parts)

list_any-take : (p : ℕ → Bool) (n : ℕ) (xs : List ℕ) → list_any p xs ≡ false → list_any p (take n xs) ≡ false
list_any-take p zero xs e = refl
list_any-take p (suc n) [] e = refl
list_any-take p (suc n) (x ∷ xs) e =
    let h = or_parts (p x) (list_any p xs) e in ap (λ b. b || list_any p (take n xs)) h.0 ∙ list_any-take p n xs h.1

-- no byte before the first slash is a slash
list_any-first : (xs : List ℕ) → list_any (λ c. eqb c 47) (take (position_or_len (λ c. eqb c 47) xs) xs) ≡ false
list_any-first [] = refl
list_any-first (c ∷ xs) =
    let n = position_or_len (λ c. eqb c 47) xs in
    elim (eqb c 47) as (λ b. eqb c 47 ≡ b → list_any (λ c. eqb c 47) (take (cond (not b) (1 + n) 0) (c ∷ xs)) ≡ false) [
      | true ↦ λ e. refl
      | false ↦ λ e. subst (λ k. list_any (λ c. eqb c 47) (take k (c ∷ xs)) ≡ false) (sym (one_more n)) (ap (λ b. b || list_any (λ c. eqb c 47) (take n xs)) e ∙ list_any-first xs)
    ] refl

-- the first component has 1 to 14 bytes, and no slash
pub IsComponent-split : (path named front : List ℕ) (k n m : ℕ) → Begins path named k n
    → front ≡ take n named → m ≡ min (length front) 14 → IsComponent (take m front)
IsComponent-split path named front k n m begun before cut =
    let some : 0 < n = has_byte path named k n begun in
    let full : 0 < length named = begun.full in
    let count : length front ≡ min n (length named) = ap length before ∙ length-take n named in
    let short : length (take m front) ≡ min m (length front) = length-take m front in
    let plain : list_any (λ c. eqb c 47) front ≡ false =
    ap (list_any (λ c. eqb c 47)) (before ∙ ap (λ j. take j named) begun.stop) ∙ list_any-first named in
    record { some = omega arith; short = omega arith; plain = list_any-take (λ c. eqb c 47) m front plain }
