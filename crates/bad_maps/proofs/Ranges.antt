-- Lemmas on the ranges of bytes that were read.
use Rattle.std.proofs.Common.{◌≡◌, ℕ, suc, ◌+◌, ◌<◌, ◌≤◌, ◌∙◌, sym, ap, subst, Bool, true, false, not, ◌&&◌, ◌||◌, ◌==◌, length, nat_le, nat_lt, if◌then◌else◌, List, [], ◌∷◌, Option, Some, None, Result, Ok, Err, refl, arith, inl, inr}
use Rattle.std.specs.List.{slice_split}
use Rattle.std.proofs.lemmas.Bool.{and_parts, leb-true, ltb-true, ltb-false, le-leb, lt-leb, lt-ltb, le-ltb, cases_lt, eqb-false, true≢false}
use Rattle.bad_maps.specs.Laws.{OneRangeHasAll}
use Rattle.bad_maps.specs.Lines.{is_silent, is_state, is_status, range_in, wanted}
use Rattle.bad_maps.specs.Maps.{BadLine, Said, after_line, after_words, covers, is_read, is_read_from, is_within, onward, ranges_from, with_line, with_range, with_read_line}
use Rattle.bad_maps.specs.Words.{number_of, word_at}
use Rattle.bad_maps.specs.declared.lines.LineFault.{LineFault}
use Rattle.bad_maps.specs.declared.lines.LineFault.TheVariants as faults
use Rattle.bad_maps.specs.declared.lines.MapLine.{MapLine}
use Rattle.bad_maps.specs.declared.maps.ReadRange.{ReadRange}

-- the ranges begin at `low` or after it and end at `high` or before it; they ascend, and after each there is a byte before the next begins
abbrev pub IsApart : ℕ → List ReadRange → ℕ → Type 0
IsApart low [] high = Unit {0}
IsApart low (range ∷ ranges) high = (low ≤ range.first) × (range.first ≤ range.end) × (range.end ≤ high) × IsApart (suc range.end) ranges high

-- a byte before the ranges isn't read
none_below : (low : ℕ) (ranges : List ReadRange) (high n : ℕ) → IsApart low ranges high → n < low → is_read ranges n ≡ false
none_below low [] high n apart below = refl
none_below low (range ∷ ranges) high n apart below =
    ap (λ b. (b && nat_lt n range.end) || is_read ranges n) (lt-leb range.first n (omega (arith, apart.0, below)))
    ∙ none_below (suc range.end) ranges high n apart.3 (omega (arith, apart.0, apart.1, below))

-- a byte that is in one of the ranges, but not in the first, is in one of the others
in_others : (a b : Bool) → (a || b) ≡ true → a ≡ false → b ≡ true
in_others true b is out = absurd (true≢false out)
in_others false b is out = is

-- a byte of a range that has all of some bytes is in that range
covered_within : (range : ReadRange) (first count n : ℕ) → covers first count range ≡ true → first ≤ n → n < first + count → is_within n range ≡ true
covered_within range first count n is low high =
    let parts = and_parts (nat_le range.first first) (nat_le (first + count) range.end) is in
    let begins : range.first ≤ first = leb-true range.first first parts.0 in
    let ends : first + count ≤ range.end = leb-true (first + count) range.end parts.1 in
    ap (λ b. b && nat_lt n range.end) (le-leb range.first n (omega (arith, begins, low))) ∙ lt-ltb n range.end (omega (arith, ends, high))

or_right : (a b : Bool) → b ≡ true → (a || b) ≡ true
or_right true b is = refl
or_right false b is = is

-- if a range has all of some bytes, each of them was read
pub covered_read : (ranges : List ReadRange) (first count n : ℕ) → is_read_from ranges first count ≡ true → first ≤ n → n < first + count → is_read ranges n ≡ true
covered_read [] first count n is low high = absurd (true≢false (sym is))
covered_read (range ∷ ranges) first count n is low high =
    elim (covers first count range) as (λ b. covers first count range ≡ b → (b || is_read_from ranges first count) ≡ true → is_read (range ∷ ranges) n ≡ true) [
      | true ↦ λ here rest. ap (λ b. b || is_read ranges n) (covered_within range first count n here low high)
      | false ↦ λ here rest. or_right (is_within n range) (is_read ranges n) (covered_read ranges first count n rest low high)
    ] refl is

-- a byte that isn't before a range's end isn't in it
past_range : (range : ReadRange) (n : ℕ) → range.end ≤ n → is_within n range ≡ false
past_range range n past = ap (λ b. nat_le range.first n && b) (le-ltb n range.end past) ∙ and_no (nat_le range.first n)
  where
    and_no : (a : Bool) → (a && false) ≡ false
    and_no true = refl
    and_no false = refl

-- if each of some bytes was read, one range has all of them
pub read_covered : (low : ℕ) (ranges : List ReadRange) (high first count : ℕ) → IsApart low ranges high → 1 ≤ count
    → ((n : ℕ) → first ≤ n → n < first + count → is_read ranges n ≡ true) → is_read_from ranges first count ≡ true
read_covered low [] high first count apart some each = absurd (true≢false (sym (each first (omega arith) (omega (arith, some)))))
read_covered low (range ∷ ranges) high first count apart some each =
    elim (is_within first range) as (λ b. is_within first range ≡ b → is_read_from (range ∷ ranges) first count ≡ true) [
      | true ↦ λ here.
          let parts = and_parts (nat_le range.first first) (nat_lt first range.end) here in
          let before : first < range.end = ltb-true first range.end parts.1 in
          elim (cases_lt range.end (first + count)) [
            | inl short ↦
                absurd (true≢false (sym (in_others (is_within range.end range) (is_read ranges range.end) (each range.end (omega (arith, before)) short)
                (past_range range range.end (omega arith))) ∙ none_below (suc range.end) ranges high range.end apart.3 (omega arith)))
            | inr all ↦
                ap (λ b. b || is_read_from ranges first count) (ap (λ b. b && nat_le (first + count) range.end) parts.0 ∙ le-leb (first + count) range.end all)
          ]
      | false ↦ λ here.
          let other : is_read ranges first ≡ true = in_others (is_within first range) (is_read ranges first) (each first (omega arith) (omega (arith, some))) here in
          let after : range.end < first = elim (cases_lt range.end first) [
            | inl after ↦ after
            | inr before ↦ absurd (true≢false (sym other ∙ none_below (suc range.end) ranges high first apart.3 (omega (arith, before))))
          ] in
          or_right (covers first count range) (is_read_from ranges first count)
          (read_covered (suc range.end) ranges high first count apart.3 some
          (λ n from to. in_others (is_within n range) (is_read ranges n) (each n from to) (past_range range n (omega (arith, after, from)))))
    ] refl

-- the ranges with one more are apart
with_apart : (low : ℕ) (ranges : List ReadRange) (range : ReadRange) (end : ℕ) → IsApart low ranges end → low ≤ range.first → end ≤ range.first
    → range.first ≤ range.end → IsApart low (with_range ranges range) range.end
with_apart low [] range end apart least after some = (least, some, omega arith, tt)
with_apart low (last ∷ []) range end apart least after some =
    elim (last.end == range.first) as (λ b. (last.end == range.first) ≡ b
    → IsApart low (if b then record { first = last.first; end = range.end } ∷ [] else last ∷ range ∷ []) range.end) [
      | true ↦ λ is. (apart.0, omega (arith, apart.1, apart.2, after, some), omega arith, tt)
      | false ↦ λ isnt.
          let apart_is = eqb-false last.end range.first isnt in
          (apart.0, apart.1, omega (arith, apart.2, after, some), (omega (arith, apart.2, after, apart_is), some, omega arith, tt))
    ] refl
with_apart low (first ∷ (next ∷ ranges)) range end apart least after some = (
  apart.0,
  apart.1,
  omega (arith, apart.2, after, some),
  with_apart (suc first.end) (next ∷ ranges) range end apart.3 (omega (arith, apart.3.0, apart.3.1, apart.3.2, after)) after some,
)

-- ranges that are apart up to an end are so up to a later one
apart_on : (low : ℕ) (ranges : List ReadRange) (high more : ℕ) → IsApart low ranges high → high ≤ more → IsApart low ranges more
apart_on low [] high more apart after = tt
apart_on low (range ∷ ranges) high more apart after =
    (apart.0, apart.1, omega (arith, apart.2, after), apart_on (suc range.end) ranges high more apart.3 after)

-- the value of a result, or another one
abbrev value_or : {A B : Type 0} → Result A B → A → A
value_or (Ok value) other = value
value_or (Err fault) other = other

-- two results with the same value
same_value : {A B : Type 0} (one other : A) → ◌≡◌ {A = Result A B} (Ok one) (Ok other) → one ≡ other
same_value {A} {B} one other is = ap (λ (result : Result A B). value_or result one) is

-- the number that a wanted word has
got : {B : Type 0} (number : Option ℕ) (fault : LineFault) (next : ℕ → Result B LineFault) (b : B) → wanted number fault next ≡ Ok b → (n : ℕ) × (next n ≡ Ok b)
got None fault next b is = absurd (cc)
got (Some n) fault next b is = (n, is)

-- the range of a line begins before its end
line_ends : (line : List ℕ) (found : MapLine) → range_in line ≡ Ok found → found.first ≤ found.end
line_ends line found is =
    let one = got (number_of (word_at line 0)) _ _ found is in
    let two = got (number_of (word_at line 1)) _ _ found one.1 in
    ended (is_status (word_at line 2)) (length (word_at line 3) == 0) one.0 two.0 _ found two.1
  where
    ended : (a b : Bool) (first size : ℕ) (read : Bool) (found : MapLine)
        → (if not a then Err faults.Status else if not b then Err faults.More
        else if nat_le (first + size) 18446744073709551615 then Ok (record { first = first; end = first + size; is_read = read }) else Err faults.Far) ≡ Ok found
        → found.first ≤ found.end
    ended false b first size read found is = absurd (cc)
    ended true false first size read found is = absurd (cc)
    ended true true first size read found is = last (nat_le (first + size) 18446744073709551615) is
      where
        last : (c : Bool) → (if c then Ok (record { first = first; end = first + size; is_read = read }) else Err faults.Far) ≡ Ok found → found.first ≤ found.end
        last true is =
            let line : MapLine = record { first = first; end = first + size; is_read = read } in
            subst (λ (l : MapLine). l.first ≤ l.end) (same_value line found is) (omega arith)
        last false is = absurd (cc)

-- what the lines of a map say so far is apart
abbrev IsSaid : Option ℕ → List ReadRange → Type 0
IsSaid None read = read ≡ []
IsSaid (Some end) read = IsApart 0 read end

-- a line for a range leaves the ranges apart
range_said : (read : List ReadRange) (end : ℕ) (found : Result MapLine LineFault) (said : Said) → ((line : MapLine) → found ≡ Ok line → line.first ≤ line.end)
    → with_read_line read end found ≡ Ok said → IsApart 0 read end → IsSaid said.0 said.1
range_said read end (Err fault) said ends is apart = absurd (cc)
range_said read end (Ok line) said ends is apart = go (nat_lt line.first end) refl is
  where
    some : line.first ≤ line.end
    some = ends line refl

    put : end ≤ line.first → (b : Bool) → IsApart 0 (if b then with_range read (record { first = line.first; end = line.end }) else read) line.end
    put after true = with_apart 0 read (record { first = line.first; end = line.end }) end apart (omega arith) after some
    put after false = apart_on 0 read end line.end apart (omega (arith, after, some))

    go : (b : Bool) → nat_lt line.first end ≡ b → (if b then Err faults.Overlap else Ok (Some line.end, with_line read line)) ≡ Ok said → IsSaid said.0 said.1
    go true below is = absurd (cc)
    go false below is =
        subst (λ (s : Said). IsSaid s.0 s.1) (same_value (Some line.end, with_line read line) said is) (put (ltb-false line.first end below) line.is_read)

-- a line that isn't silent leaves the ranges apart
words_said : (ended : Option ℕ) (read : List ReadRange) (line : List ℕ) (said : Said) → after_words ended read line ≡ Ok said → IsSaid ended read → IsSaid said.0 said.1
words_said None read line said is apart = go (is_state line) is
  where
    go : (b : Bool) → (if b then Ok (Some 0, read) else Err faults.State) ≡ Ok said → IsSaid said.0 said.1
    go true is = subst (λ (s : Said). IsSaid s.0 s.1) (same_value (Some 0, read) said is) (subst (λ rs. IsApart 0 rs 0) (sym apart) tt)
    go false is = absurd (cc)
words_said (Some end) read line said is apart = range_said read end (range_in line) said (λ found same. line_ends line found same) is apart

-- one more line leaves the ranges apart
line_said : (ended : Option ℕ) (read : List ReadRange) (line : List ℕ) (said : Said) → after_line ended read line ≡ Ok said → IsSaid ended read → IsSaid said.0 said.1
line_said ended read line said is apart = go (is_silent line) is
  where
    go : (b : Bool) → (if b then Ok (ended, read) else after_words ended read line) ≡ Ok said → IsSaid said.0 said.1
    go true is = subst (λ (s : Said). IsSaid s.0 s.1) (same_value (ended, read) said is) apart
    go false is = words_said ended read line said is apart

-- what holds if the lines after a line can be read
onward_to : (count : ℕ) (found : Result Said LineFault) (next : Option ℕ → List ReadRange → Result (List ReadRange) BadLine) (ranges : List ReadRange) (P : Type 0)
    → ((said : Said) → found ≡ Ok said → next said.0 said.1 ≡ Ok ranges → P) → onward count found next ≡ Ok ranges → P
onward_to count (Err fault) next ranges P each is = absurd (cc)
onward_to count (Ok said) next ranges P each is = each said refl is

-- the ranges of lines are apart
lines_apart : (count : ℕ) (ended : Option ℕ) (read : List ReadRange) (lines : List (List ℕ)) (ranges : List ReadRange) → IsSaid ended read
    → ranges_from count ended read lines ≡ Ok ranges → (high : ℕ) × IsApart 0 ranges high
lines_apart count None read [] ranges apart is = absurd (cc)
lines_apart count (Some end) read [] ranges apart is = (end, subst (λ rs. IsApart 0 rs end) (same_value read ranges is) apart)
lines_apart count ended read (line ∷ lines) ranges apart is =
    onward_to (count + 1) (after_line ended read line) (λ e r. ranges_from (count + 1) e r lines) ranges ((high : ℕ) × IsApart 0 ranges high)
    (λ said same rest. lines_apart (count + 1) said.0 said.1 lines ranges (line_said ended read line said same apart) rest) is

pub one_has_all : OneRangeHasAll
one_has_all text ranges first count is some =
    let apart = lines_apart 0 None [] (slice_split (λ b. b == 10) text) ranges refl is in (
      λ from n low high. covered_read ranges first count n from low high,
      λ each. read_covered 0 ranges apart.0 first count apart.1 some each,
    )
