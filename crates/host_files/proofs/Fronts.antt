-- The part of a file that belongs to its volume.
use Rattle.std.proofs.Common.{◌≡◌, ◌∙◌, ◌+◌, ◌-◌, ◌*◌, ◌<◌, ◌≤◌, ◌++◌, ℕ, true, false, List, [], length, take, Option, Result, Ok, Err, OnErr, inl, inr, refl, sym, ap, subst, arith}
use Rattle.std.proofs.lemmas.Bool.{cases_lt}
use Rattle.std.proofs.lemmas.Bool.Decides.{nat_tests}
use Rattle.std.proofs.lemmas.List.{get_or_append_left, length-append, take-append-le}
use Rattle.std.proofs.Math.Seq.{take-length}
use Rattle.std.proofs.KnownBytes.{Consumes-trans}
use Rattle.std.specs.Io.KnownBytes.{Consumes}
use Rattle.pdp_words.specs.Devices.{LosesFront}
use Rattle.pdp_words.specs.Words.{word}
use Rattle.vol_layout.specs.Edition.{constants}
use Rattle.vol_layout.specs.Geometry.{block_count}
use Rattle.vol_layout.specs.declared.edition.Edition.{Edition}
use Rattle.vol_layout.specs.declared.edition.Edition.TheVariants.{V6, V7}
use Rattle.host_files.specs.ReadParts.{IsEndless, IsReadOn, IsSkipped, IsVolumeRead}

-- a fact that always holds also holds if the result is an error
pub on_err : {T E : Type 0} (result : Result T E) (P : Type 0) → P → OnErr result P
on_err (Ok x) P p = tt
on_err (Err e) P p = p

-- if two prefixes of a source are lost one after the other, so is the prefix made of both
pub loses_both : (a b c : Option (List ℕ)) → LosesFront a b → LosesFront b c → LosesFront a c
loses_both a b c one other = (one.0 ++ other.0, Consumes-trans a b c one.0 other.0 one.1 other.1)

word_front : (head more : List ℕ) (at : ℕ) → at + 2 ≤ length head → word (head ++ more) at ≡ word head at
word_front head more at within = rw (get_or_append_left head more 0 at (omega arith), get_or_append_left head more 0 (at + 1) (omega arith)) refl

-- the number of blocks that a super-block records depends only on the first 1024 bytes
pub count_front : (edition : Edition) (head more : List ℕ) → 1024 ≤ length head → block_count edition (head ++ more) ≡ block_count edition head
count_front V6 head more within = word_front head more 514 (omega arith)
count_front V7 head more within = rw (word_front head more 514 (omega arith), word_front head more 516 (omega arith)) refl

-- if the bytes were read up to the end of the volume's last block or of the source, they satisfy `IsReadFar`
pub read_far : (edition : Edition) (a b c : Option (List ℕ)) (none head all : List ℕ) (blocks : ℕ) → none ≡ [] → IsReadOn a b none head 1024 → 1024 ≤ length head
    → blocks ≡ block_count edition head → IsReadOn b c head all (512 * blocks) → IsVolumeRead edition a c all
read_far edition a b c none head all blocks empty first enough count on =
    let front : head ≡ first.more = first.all ∙ ap (λ xs. xs ++ first.more) empty in
    let is : all ≡ first.more ++ on.more = on.all ∙ ap (λ xs. xs ++ on.more) front in
    let same : block_count edition all ≡ blocks = ap (block_count edition) on.all ∙ count_front edition head on.more enough ∙ sym count in
    let len : length all ≡ length head + length on.more = ap length on.all ∙ length-append head on.more in (
      all,
      record {
        front = subst (Consumes a c) (sym is) (Consumes-trans a b c first.more on.more first.front on.front);
        whole = elim (cases_lt (length all) (512 * blocks)) [
          | inl short ↦ inr (on.end short)
          | inr all ↦ inl (grind (arith, nat_tests))
        ];
        bound = omega (arith, first.bound, on.bound, ap length empty);
      },
      inl refl,
    )

-- if a source ends before the super-block does, the whole source was read
pub read_short : (edition : Edition) (a b : Option (List ℕ)) (none head : List ℕ) → none ≡ [] → IsReadOn a b none head 1024 → length head < 1024
    → IsVolumeRead edition a b head
read_short edition a b none head empty first short =
    let front : head ≡ first.more = first.all ∙ ap (λ xs. xs ++ first.more) empty in (
      head,
      record { front = subst (Consumes a b) (sym front) first.front; whole = inr (first.end short); bound = omega (arith, short) },
      inl refl,
    )

-- the largest volume of each edition has more than one block
pub more_than_one : (edition : Edition) → 1 < (constants edition).block_limit
more_than_one V6 = omega arith
more_than_one V7 = omega arith

-- if the super-block records more blocks than any volume has and the source ends before the largest volume does, the image is its first 1024 bytes
pub read_ended : (edition : Edition) (a b c : Option (List ℕ)) (none head : List ℕ) (blocks limit : ℕ) → none ≡ [] → IsReadOn a b none head 1024 → 1024 ≤ length head
    → blocks ≡ block_count edition head → limit ≡ (constants edition).block_limit → limit < blocks → 1 < limit → IsSkipped (512 * (limit - 1)) b c true
    → IsVolumeRead edition a c head
read_ended edition a b c none head blocks limit empty first enough count most over some (lost, front, end, on) =
    let is : head ≡ first.more = first.all ∙ ap (λ xs. xs ++ first.more) empty in
    let exact : length head ≡ 1024 = omega (arith, first.bound, ap length empty, enough) in
    let same : block_count edition (head ++ lost) ≡ blocks = count_front edition head lost enough ∙ sym count in
    let len : length (head ++ lost) ≡ length head + length lost = length-append head lost in
    let ended = end refl in (
      head ++ lost,
      record {
        front = subst (λ xs. Consumes a c (xs ++ lost)) (sym is) (Consumes-trans a b c first.more lost first.front front);
        whole = inr ended.0;
        bound = omega (arith, ended.1);
      },
      inr (
        sym (ap (λ n. take n (head ++ lost)) (sym exact) ∙ take-append-le (length head) head lost (omega arith) ∙ take-length head),
        omega (arith, same, most, over),
        grind (arith, nat_tests, ended.1),
        grind (arith, nat_tests),
      ),
    )

-- if the super-block records more blocks than any volume has and the source continues past the largest volume, it isn't an image
pub read_endless : (edition : Edition) (a b c : Option (List ℕ)) (none head : List ℕ) (blocks : ℕ) → none ≡ [] → IsReadOn a b none head 1024 → 1024 ≤ length head
    → blocks ≡ block_count edition head → (constants edition).block_limit < blocks → IsSkipped (512 * ((constants edition).block_limit - 1)) b c false
    → IsEndless edition a c
read_endless edition a b c none head blocks empty first enough count over (lost, front, end, on) =
    let is : head ≡ first.more = first.all ∙ ap (λ xs. xs ++ first.more) empty in
    let same : block_count edition (head ++ lost) ≡ blocks = count_front edition head lost enough ∙ sym count in
    let some = more_than_one edition in (
      head ++ lost,
      subst (λ xs. Consumes a c (xs ++ lost)) (sym is) (Consumes-trans a b c first.more lost first.front front),
      omega arith,
      omega (arith, on refl, length-append head lost),
    )
