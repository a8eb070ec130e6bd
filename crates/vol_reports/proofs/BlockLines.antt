-- If the words count an image's blocks, they give the lines of its block report.
use Rattle.std.proofs.Common.{◌≡◌, ℕ, ◌+◌, ◌<◌, ◌≤◌, true, not, eqb, leb, ltb, List, [], ◌++◌, Option, length, get_or, ap, ◌∙◌, arith, append_assoc}
use Rattle.std.proofs.lemmas.Bool.{and_from, le-leb, lt-ltb}
use Rattle.vol_layout.specs.Geometry.{in_zone}
use Rattle.vol_layout.specs.declared.geometry.Geometry.{Geometry}
use Rattle.vol_reports.specs.Words.{zone_len, least_word}
use Rattle.vol_free.specs.FreeWalk.{free_walk}
use Rattle.vol_reports.specs.Icheck.{use_count, bad_numbers, is_used, is_met, is_lost, is_lost_of, bad_line, dup_line, lost_line, bad_line_of, dup_line_of, lost_line_of, bad_lines, dup_lines, lost_lines, total_lines, block_lines, free_list_line, zone_count}
use Rattle.vol_reports.specs.Counted.{CountsBlocks}
use Rattle.vol_reports.specs.FromWords.{is_used_in, is_met_in, is_lost_in, bad_line_in, dup_line_in, lost_line_in, inode_lines, zone_lines, total_lines_in, Appended}
use Rattle.vol_reports.specs.declared.line.Line.{Line}
use Rattle.vol_free.specs.declared.free_walk.FreeFault.{FreeFault}
use Rattle.vol_reports.proofs.Ranges.{flat_same, count_same}

-- a number between the first and the last data block is in the data zone
pub in_zone_from : (g : Geometry) (b : ℕ) → g.zone_start ≤ b → b < g.zone_start + zone_len g → in_zone g b ≡ true
in_zone_from g b low high =
    let end : b < g.zone_end = omega arith in and_from (leb g.zone_start b) (ltb b g.zone_end) (le-leb g.zone_start b low) (lt-ltb b g.zone_end end)

-- the words and the image agree on which blocks are used
used_same : {g : Geometry} {image words : List ℕ} {fault : Option (FreeFault × ℕ)} → CountsBlocks g image words fault → (b : ℕ) → in_zone g b ≡ true
    → is_used_in g words b ≡ is_used g image b
used_same counts b inside = ap (λ n. not (eqb n 0)) (counts.places b inside)

-- the words and the image agree on which blocks are in the free list
met_same : {g : Geometry} {image words : List ℕ} {fault : Option (FreeFault × ℕ)} → CountsBlocks g image words fault → (b : ℕ) → in_zone g b ≡ true
    → is_met_in g words b ≡ is_met g image b
met_same counts b inside = ap (λ n. not (eqb n 0)) (counts.frees b inside)

-- the words and the image agree on which blocks are lost
lost_same : {g : Geometry} {image words : List ℕ} {fault : Option (FreeFault × ℕ)} → CountsBlocks g image words fault → (b : ℕ) → in_zone g b ≡ true
    → is_lost_in g words b ≡ is_lost g image b
lost_same {g} {image} {words} counts b inside =
    ap (λ n. is_lost_of n (is_met_in g words b)) (counts.places b inside) ∙ ap (λ m. is_lost_of (use_count g image b) m) (met_same counts b inside)

-- the lines of bad block addresses, computed from the words, are those of the report
bad_same : {g : Geometry} {image words : List ℕ} {fault : Option (FreeFault × ℕ)} → CountsBlocks g image words fault
    → inode_lines g (bad_line_in g words) ≡ bad_lines g image
unfolding bad_lines
bad_same {g} {image} {words} counts =
    flat_same (bad_line_in g words) (bad_line g image) 1 g.last_inode (λ i low high.
    ap (λ n. bad_line_of i n (get_or words (least_word g i) 0)) (counts.bads i low (omega arith))
    ∙ ap (λ n. bad_line_of i (length (bad_numbers g image i)) n) (counts.leasts i low (omega arith)))

-- the lines of blocks claimed more than once, computed from the words, are those of the report
dup_same : {g : Geometry} {image words : List ℕ} {fault : Option (FreeFault × ℕ)} → CountsBlocks g image words fault
    → zone_lines g (dup_line_in g words) ≡ dup_lines g image
unfolding dup_lines
dup_same {g} {image} {words} counts =
    flat_same (dup_line_in g words) (dup_line g image) g.zone_start (zone_len g) (λ b low high.
    let inside = in_zone_from g b low high in
    ap (λ n. dup_line_of b n (is_met_in g words b)) (counts.places b inside) ∙ ap (λ m. dup_line_of b (use_count g image b) m) (met_same counts b inside))

-- the lines of lost blocks, computed from the words, are those of the report
lost_lines_same : {g : Geometry} {image words : List ℕ} {fault : Option (FreeFault × ℕ)} → CountsBlocks g image words fault
    → zone_lines g (lost_line_in g words) ≡ lost_lines g image
unfolding lost_lines
lost_lines_same {g} {image} {words} counts =
    flat_same (lost_line_in g words) (lost_line g image) g.zone_start (zone_len g) (λ b low high.
    ap (lost_line_of b) (lost_same counts b (in_zone_from g b low high)))

-- the totals, computed from the words, are those of the report
total_same : {g : Geometry} {image words : List ℕ} {fault : Option (FreeFault × ℕ)} → CountsBlocks g image words fault
    → total_lines_in g words ≡ total_lines g image
unfolding total_lines
total_same {g} {image} {words} counts =
    let used : zone_count g (is_used_in g words) ≡ zone_count g (is_used g image) =
    count_same (is_used_in g words) (is_used g image) g.zone_start (zone_len g) (λ b low high. used_same counts b (in_zone_from g b low high)) in
    let met : zone_count g (is_met_in g words) ≡ zone_count g (is_met g image) =
    count_same (is_met_in g words) (is_met g image) g.zone_start (zone_len g) (λ b low high. met_same counts b (in_zone_from g b low high)) in
    let lost : zone_count g (is_lost_in g words) ≡ zone_count g (is_lost g image) =
    count_same (is_lost_in g words) (is_lost g image) g.zone_start (zone_len g) (λ b low high. lost_same counts b (in_zone_from g b low high)) in
    let files = counts.files in let directories = counts.directories in let specials = counts.specials in let odds = counts.odds in cc

-- five lists appended one after another are their concatenation
joined : {A : Type 0} (n v w x y z a b c d e : List A) → n ≡ [] → v ≡ n ++ a → w ≡ v ++ b → x ≡ w ++ c → y ≡ x ++ d → z ≡ y ++ e
    → z ≡ a ++ (b ++ (c ++ (d ++ e)))
joined n v w x y z a b c d e first p q r s t =
    let all : z ≡ ((((([] ++ a) ++ b) ++ c) ++ d) ++ e) =
    t ∙ ap (λ l. l ++ e) (s ∙ ap (λ l. l ++ d) (r ∙ ap (λ l. l ++ c) (q ∙ ap (λ l. l ++ b) (p ∙ ap (λ l. l ++ a) first)))) in
    all ∙ simp append_assoc

-- the five groups of lines, appended one after another, are the report
pub blocks_from : {g : Geometry} {image words : List ℕ} {fault : Option (FreeFault × ℕ)} (n v w x y z : List Line) → n ≡ []
    → Appended n v (inode_lines g (bad_line_in g words)) → Appended v w (zone_lines g (dup_line_in g words))
    → Appended w x (zone_lines g (lost_line_in g words)) → Appended x y (free_list_line fault) → Appended y z (total_lines_in g words)
    → CountsBlocks g image words fault → z ≡ block_lines g image
blocks_from {g} {image} {words} {fault} n v w x y z first p q r s t counts =
    joined n v w x y z (bad_lines g image) (dup_lines g image) (lost_lines g image) (free_list_line (free_walk g image).fault) (total_lines g image) first
    (p ∙ ap (λ xs. n ++ xs) (bad_same counts)) (q ∙ ap (λ xs. v ++ xs) (dup_same counts)) (r ∙ ap (λ xs. w ++ xs) (lost_lines_same counts))
    (s ∙ ap (λ o. x ++ free_list_line o) counts.ended) (t ∙ ap (λ xs. y ++ xs) (total_same counts))
