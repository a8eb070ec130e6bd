-- Lemmas on the bytes in which two files differ.
use Rattle.std.proofs.Common.{◌≡◌, ◌≢◌, ◌∙◌, sym, ap, refl, ℕ, zero, suc, ◌+◌, ◌-◌, ◌*◌, ◌/◌, ◌%◌, ◌<◌, ◌≤◌, ◌==◌, if◌then◌else◌, true, false, List, [], ◌∷◌, length, get_or, None, Some, inl, inr, subst, min, arith}
use Rattle.std.specs.Option.{option_map}
use Rattle.std.proofs.lemmas.Bool.{cases_eq, eq-eqb, ne_eqb}
use Rattle.std.specs.Prelude.{slice_range, slice_index}
use Rattle.std.proofs.lemmas.Bool.{cases_lt}
use Rattle.std.proofs.lemmas.Grind.{same_number_lists}
use Rattle.std.proofs.lemmas.Option.{none-some}
use Rattle.vol_layout.specs.Geometry.{Fits, in_zone}
use Rattle.vol_layout.specs.BlockPointers.{block_named, form_at, stored}
use Rattle.vol_layout.specs.Body.{zone_byte}
use Rattle.vol_layout.proofs.BodyLaws.{body_byte_at, body_byte_is, get_or-body, length-body, get_or-slice_range, zone_byte_in, zone_byte_out}
use Rattle.vol_layout.proofs.NameLaws.{zero_out}
use Rattle.vol_compare.specs.Bodies.{AgreeUpTo, body_in, IsFirstUnequal, IsHoleIn, byte_in, first_difference}
use Rattle.vol_compare.specs.declared.bodies.StoredFile.{StoredFile}

-- each byte of a block that isn't stored is zero
pub hole_byte : (file : StoredFile) (from end n : ℕ) → Fits file.geometry.now file.image.now → IsHoleIn file from end → 512 * from ≤ n → n < 512 * end
    → byte_in file n ≡ 0
hole_byte file from end n fits hole low high =
    let g = file.geometry.now in
    let image = file.image.now in
    let none : stored g image file.inode (form_at g image file.inode) (n / 512) ≡ 0 = hole (n / 512) (omega arith) (omega arith) in
    body_byte_is g image file.inode n
    ∙ (ap (λ k. zone_byte g image k (n % 512)) none ∙ zone_byte_out g image 0 (n % 512) (zero_out g image fits))

-- lists are equal if they have no first difference
pub none_same : (xs : List ℕ) → first_difference xs xs ≡ None
unfolding first_difference
none_same [] = refl
none_same (x ∷ xs) =
    ap (λ t. if t then option_map suc (first_difference xs xs) else Some 0) (eq-eqb x x refl) ∙ ap (option_map suc) (none_same xs)

-- the first place at which two lists differ, or at which one of them ends, is their first difference
pub some_first : (xs ys : List ℕ) (n : ℕ) → n ≤ length xs → n ≤ length ys → AgreeUpTo (λ k. get_or xs k 0) (λ k. get_or ys k 0) n
    → ((n < length xs → n < length ys → get_or xs n 0 ≢ get_or ys n 0)) → (length xs ≡ length ys → n < length xs)
    → first_difference xs ys ≡ Some n
unfolding first_difference
some_first [] [] n low high agree differs ends = absurd (omega (arith, ends refl))
some_first [] (y ∷ ys) n low high agree differs ends = let none : 0 ≡ n = omega (arith, low) in ap Some none
some_first (x ∷ xs) [] n low high agree differs ends = let none : 0 ≡ n = omega (arith, high) in ap Some none
some_first (x ∷ xs) (y ∷ ys) zero low high agree differs ends =
    elim (cases_eq x y) [
      | inl same ↦ absurd (differs (omega arith) (omega arith) same)
      | inr other ↦ ap (λ t. if t then option_map suc (first_difference xs ys) else Some 0) (ne_eqb x y other)
    ]
some_first (x ∷ xs) (y ∷ ys) (suc n) low high agree differs ends =
    let same : x ≡ y = agree 0 (omega arith) in
    let more : first_difference xs ys ≡ Some n =
    some_first xs ys n (omega arith) (omega arith) (λ k h. agree (suc k) (omega arith)) (λ a b. differs (omega arith) (omega arith))
    (λ e. let wider : length (x ∷ xs) ≡ length (y ∷ ys) = ap suc e in omega (arith, ends wider)) in
    ap (λ t. if t then option_map suc (first_difference xs ys) else Some 0) (eq-eqb x y same) ∙ ap (option_map suc) more

-- the number of a block that is stored is the one found
stored_some : (s k : ℕ) → (if s == 0 then None else Some s) ≡ Some k → s ≡ k
stored_some s k = elim (s == 0) as (λ t. (if t then None else Some s) ≡ Some k → s ≡ k) [ true ↦ λ e. absurd (none-some k e) | false ↦ λ e. cc ]

-- a block of which none is found has the number 0
stored_none : (s : ℕ) → (if s == 0 then None else Some s) ≡ None → s ≡ 0
stored_none s = elim (cases_eq s 0) [
  | inl is ↦ λ e. is
  | inr some ↦ λ e. absurd (none-some s (sym e ∙ ap (λ t. if t then None else Some s) (ne_eqb s 0 some)))
]

-- bytes of a data block that is found are those of the file
pub found_byte : (file : StoredFile) (b k r : ℕ) (bytes : List ℕ) → block_named file.geometry.now file.image.now file.inode b ≡ Some k
    → in_zone file.geometry.now k ≡ true → bytes ≡ slice_range file.image.now (512 * k) (512 * k + 512) → r < 512 → slice_index bytes r ≡ byte_in file (512 * b + r)
found_byte file b k r bytes found zone is low =
    let g = file.geometry.now in
    let image = file.image.now in
    ap (λ xs. slice_index xs r) is
    ∙ (get_or-slice_range image (512 * k) 512 r low
    ∙ (sym (zone_byte_in g image k r zone)
    ∙ (ap (λ m. zone_byte g image m r) (sym (stored_some _ k found)) ∙ sym (body_byte_at g image file.inode b r low))))

-- a block outside the data zone has zeros
pub outside_byte : (file : StoredFile) (b k r : ℕ) → block_named file.geometry.now file.image.now file.inode b ≡ Some k
    → in_zone file.geometry.now k ≡ false → r < 512 → 0 ≡ byte_in file (512 * b + r)
outside_byte file b k r found zone low =
    let g = file.geometry.now in
    let image = file.image.now in
    sym (body_byte_at g image file.inode b r low ∙ (ap (λ m. zone_byte g image m r) (stored_some _ k found) ∙ zone_byte_out g image k r zone))

-- a block that isn't found has zeros
pub unfound_byte : (file : StoredFile) (b r : ℕ) → Fits file.geometry.now file.image.now → block_named file.geometry.now file.image.now file.inode b ≡ None → r < 512
    → 0 ≡ byte_in file (512 * b + r)
unfound_byte file b r fits found low =
    let g = file.geometry.now in
    let image = file.image.now in
    sym (body_byte_at g image file.inode b r low
    ∙ (ap (λ m. zone_byte g image m r) (stored_none _ found) ∙ zone_byte_out g image 0 r (zero_out g image fits)))

-- files agree before block `next` if they agree before block `b` and all blocks between are holes in both
pub agree_on : (old new : StoredFile) (b p q next common n : ℕ) → Fits old.geometry.now old.image.now → Fits new.geometry.now new.image.now
    → ((m : ℕ) → m < common → m < 512 * b → byte_in old m ≡ byte_in new m) → IsHoleIn old b p → IsHoleIn new b q → next ≤ p → next ≤ q
    → n < common → n < 512 * next → byte_in old n ≡ byte_in new n
agree_on old new b p q next common n old_fits new_fits agree old_hole new_hole old_next new_next low high =
    elim (cases_lt n (512 * b)) [
      | inl before ↦ agree n low before
      | inr after ↦ hole_byte old b p n old_fits old_hole (omega (arith, after)) (omega (arith, high, old_next))
          ∙ sym (hole_byte new b q n new_fits new_hole (omega (arith, after)) (omega (arith, high, new_next)))
    ]

-- files agree in a block too if no byte of it differs
pub agree_in : (old new : StoredFile) (next count common n : ℕ) → ((m : ℕ) → m < common → m < 512 * next → byte_in old m ≡ byte_in new m)
    → AgreeUpTo (λ r. byte_in old (512 * next + r)) (λ r. byte_in new (512 * next + r)) count → n < common → n < 512 * next + count
    → byte_in old n ≡ byte_in new n
agree_in old new next count common n agree block low high =
    elim (cases_lt n (512 * next)) [
      | inl before ↦ agree n low before
      | inr after ↦
          let place : 512 * next + (n - 512 * next) ≡ n = omega (arith, after) in
          subst (λ m. byte_in old m ≡ byte_in new m) place (block (n - 512 * next) (omega (arith, after, high)))
    ]

-- the first byte that differs in a block is the first of the files if they agree before the block
pub unequal_at : (old new : StoredFile) (next count common r : ℕ) → ((m : ℕ) → m < common → m < 512 * next → byte_in old m ≡ byte_in new m)
    → count ≤ common - 512 * next → IsFirstUnequal (λ r. byte_in old (512 * next + r)) (λ r. byte_in new (512 * next + r)) count (Some r)
    → IsFirstUnequal (byte_in old) (byte_in new) common (Some (512 * next + r))
unequal_at old new next count common r agree few block =
    let low : r < count = block.0 in (
      omega (arith, low, few),
      λ n h. agree_in old new next r common n agree block.1 (omega (arith, h, low, few)) h,
      block.2,
    )

-- byte n of a body
byte_of : (file : StoredFile) (n : ℕ) → n < length (body_in file) → get_or (body_in file) n 0 ≡ byte_in file n
byte_of file n low =
    let len = length-body file.geometry.now file.image.now file.inode in
    get_or-body file.geometry.now file.image.now file.inode n (omega (arith, low, len))

-- bodies that differ at a place that both have
pub first_some : (old new : StoredFile) (common at : ℕ) → common ≤ length (body_in old) → common ≤ length (body_in new)
    → IsFirstUnequal (byte_in old) (byte_in new) common (Some at) → Some at ≡ first_difference (body_in old) (body_in new)
first_some old new common at old_room new_room is =
    let low : at < common = is.0 in
    sym (some_first (body_in old) (body_in new) at (omega (arith, low, old_room)) (omega (arith, low, new_room))
    (λ k h. byte_of old k (omega (arith, h, low, old_room)) ∙ (is.1 k h ∙ sym (byte_of new k (omega (arith, h, low, new_room)))))
    (λ a b e. is.2 (sym (byte_of old at a) ∙ (e ∙ byte_of new at b)))
    (λ e. omega (arith, low, old_room)))

-- bodies of one length that differ at no place
pub first_none : (old new : StoredFile) (common : ℕ) → length (body_in old) ≡ common → length (body_in new) ≡ common
    → AgreeUpTo (byte_in old) (byte_in new) common → None ≡ first_difference (body_in old) (body_in new)
first_none old new common old_len new_len agree =
    let same : body_in old ≡ body_in new =
    same_number_lists (body_in old) (body_in new) (old_len ∙ sym new_len)
    (λ k h. byte_of old k h ∙ (agree k (omega (arith, h, old_len)) ∙ sym (byte_of new k (omega (arith, h, old_len, new_len))))) in
    sym (ap (λ xs. first_difference xs (body_in new)) same ∙ none_same (body_in new))

-- bodies one of which ends where they don't differ yet
pub first_end : (old new : StoredFile) (common : ℕ) → common ≡ min (length (body_in old)) (length (body_in new)) → length (body_in old) ≢ length (body_in new)
    → AgreeUpTo (byte_in old) (byte_in new) common → Some common ≡ first_difference (body_in old) (body_in new)
first_end old new common is other agree =
    sym (some_first (body_in old) (body_in new) common (omega (arith, is)) (omega (arith, is))
    (λ k h. byte_of old k (omega (arith, h, is)) ∙ (agree k h ∙ sym (byte_of new k (omega (arith, h, is)))))
    (λ a b. absurd (omega (arith, a, b, is)))
    (λ e. absurd (other e)))
