-- Sums of words, and entries whose words have the sum zero.
use Rattle.std.proofs.Common.{◌≡◌, ◌+◌, ◌*◌, ◌%◌, ◌&&◌, ℕ, List, suc, true, refl, ap, arith}
use Rattle.pdp_words.specs.Words.{word}
use Rattle.vol_identify.specs.Foreign.{are_entries, is_entry, words_sum}

-- the sum of no words
pub sum_none : (image : List ℕ) (at : ℕ) → words_sum image at 0 ≡ 0
unfolding words_sum
sum_none image at = refl

-- the sum of one word more
pub sum_more : (image : List ℕ) (at k : ℕ) → words_sum image at (k + 1) ≡ (words_sum image at k + word image (at + 2 * k)) % 65536
unfolding words_sum
sum_more image at k = let next : k + 1 ≡ suc k = omega arith in ap (words_sum image at) next

-- no entries are all right
pub entries_none : (image : List ℕ) (at : ℕ) → are_entries image at 0 ≡ true
unfolding are_entries
entries_none image at = refl

-- one entry more
pub entries_more : (image : List ℕ) (at k : ℕ) → are_entries image at (k + 1) ≡ (are_entries image at k && is_entry image (at + 64 * k))
unfolding are_entries
entries_more image at k = let next : k + 1 ≡ suc k = omega arith in ap (are_entries image at) next
