-- Laws of the body of a file: its length, its bytes, and its parts within one block.
use Rattle.std.specs.Prelude.{slice_range, replicate}
use Rattle.std.proofs.Common.{◌≡◌, ℕ, ◌+◌, ◌-◌, ◌*◌, ◌/◌, ◌%◌, ◌<◌, ◌≤◌, ◌∙◌, sym, ap, List, length, get_or, take, drop, true, false, if◌then◌else◌, leb, ltb, refl, arith}
use Rattle.std.proofs.lemmas.Bool.{and_parts, leb-true, ltb-true}
use Rattle.std.proofs.lemmas.List.{length-take-le, length-drop, get_or-take, get_or-drop, get_or-replicate, length-replicate}
use Rattle.std.proofs.lemmas.List.FromFn.{length-map-range_with_len, get_or-map-range_with_len}
use Rattle.std.proofs.lemmas.Grind.{same_number_lists}
use Rattle.vol_layout.specs.Geometry.{in_zone, Fits}
use Rattle.vol_layout.specs.BlockPointers.{form_at, stored}
use Rattle.vol_layout.specs.Body.{zone_byte, body_byte, body_size, body}
use Rattle.vol_layout.specs.declared.geometry.Geometry.{Geometry}

-- the length of the list `body` is `body_size`
pub length-body : (geometry : Geometry) (image : List ℕ) (i : ℕ) → length (body geometry image i) ≡ body_size geometry image i
unfolding body
length-body geometry image i = length-map-range_with_len (body_byte geometry image i) 0 (body_size geometry image i)

-- item `n` of the list `body` is `body_byte` at `n`
pub get_or-body : (geometry : Geometry) (image : List ℕ) (i n : ℕ) → n < body_size geometry image i
    → get_or (body geometry image i) n 0 ≡ body_byte geometry image i n
unfolding body
get_or-body geometry image i n h =
    get_or-map-range_with_len (body_byte geometry image i) 0 (body_size geometry image i) n n 0 h (omega arith)

-- two bodies with the same size and the same bytes are equal
pub same_body : (geometry : Geometry) (old new : List ℕ) (i : ℕ) → body_size geometry new i ≡ body_size geometry old i
    → ((n : ℕ) → n < body_size geometry old i → body_byte geometry new i n ≡ body_byte geometry old i n)
    → body geometry new i ≡ body geometry old i
same_body geometry old new i size bytes =
    let len_new : length (body geometry new i) ≡ body_size geometry new i = length-body geometry new i in
    let len_old : length (body geometry old i) ≡ body_size geometry old i = length-body geometry old i in
    same_number_lists (body geometry new i) (body geometry old i) (len_new ∙ (size ∙ sym len_old))
    (λ n h. let low : n < body_size geometry old i = omega arith in let low_new : n < body_size geometry new i = omega arith in
    get_or-body geometry new i n low_new ∙ (bytes n low ∙ sym (get_or-body geometry old i n low)))

-- the length of a slice within a list is the distance between its bounds
pub length-slice_range : (xs : List ℕ) (from n : ℕ) → from + n ≤ length xs → length (slice_range xs from (from + n)) ≡ n
length-slice_range xs from n h =
    let room : from + n - from ≤ length (drop from xs) = omega (arith, length-drop from xs) in
    let len : length (take (from + n - from) (drop from xs)) ≡ from + n - from = length-take-le (from + n - from) (drop from xs) room in
    omega arith

-- item `r` of a slice is item `from + r` of the list
pub get_or-slice_range : (xs : List ℕ) (from n r : ℕ) → r < n → get_or (slice_range xs from (from + n)) r 0 ≡ get_or xs (from + r) 0
get_or-slice_range xs from n r h =
    let low : r < from + n - from = omega arith in
    get_or-take (from + n - from) (drop from xs) r 0 low ∙ get_or-drop from xs r 0

-- byte `r` of logical block `b` is byte `r` of the block whose number is stored for `b`
pub body_byte_at : (geometry : Geometry) (image : List ℕ) (i b r : ℕ) → r < 512
    → body_byte geometry image i (512 * b + r) ≡ zone_byte geometry image (stored geometry image i (form_at geometry image i) b) r
unfolding body_byte
body_byte_at geometry image i b r h =
    let quotient : (512 * b + r) / 512 ≡ b = omega arith in
    let remainder : (512 * b + r) % 512 ≡ r = omega arith in
    ap (λ c. zone_byte geometry image (stored geometry image i (form_at geometry image i) c) ((512 * b + r) % 512)) quotient
    ∙ ap (zone_byte geometry image (stored geometry image i (form_at geometry image i) b)) remainder

-- byte `j` of `n` bytes of block `k` starting at byte `r`, which are zeros if `k` isn't a data block
zone_bytes : (geometry : Geometry) (image : List ℕ) (k at r n j : ℕ) → 512 * k + r ≡ at → j < n
    → get_or (if in_zone geometry k then slice_range image at (at + n) else replicate n 0) j 0 ≡ zone_byte geometry image k (r + j)
unfolding zone_byte
zone_bytes geometry image k at r n j e h =
    let place : at + j ≡ 512 * k + (r + j) = omega arith in
    elim (in_zone geometry k) as (λ z. get_or (if z then slice_range image at (at + n) else replicate n 0) j 0
    ≡ (if z then get_or image (512 * k + (r + j)) 0 else 0))
    [ true ↦ get_or-slice_range image at n j h ∙ ap (λ x. get_or image x 0) place | false ↦ get_or-replicate n j 0 0 h ]

-- a block number is in the data zone if it is between the zone's bounds
pub zone_bounds : (geometry : Geometry) (k : ℕ) → in_zone geometry k ≡ true → (geometry.zone_start ≤ k) × (k < geometry.zone_end)
zone_bounds geometry k z =
    let parts : (leb geometry.zone_start k ≡ true) × (ltb k geometry.zone_end ≡ true) = and_parts (leb geometry.zone_start k) (ltb k geometry.zone_end) z in
    (leb-true geometry.zone_start k parts.0, ltb-true k geometry.zone_end parts.1)

-- a block of the data zone is within the image
pub zone_room : (geometry : Geometry) (image : List ℕ) (k : ℕ) → Fits geometry image → in_zone geometry k ≡ true → 512 * k + 512 ≤ length image
zone_room geometry image k fits z =
    let bounds : (geometry.zone_start ≤ k) × (k < geometry.zone_end) = zone_bounds geometry k z in omega arith

-- a slice of `n` bytes of a data block, or `n` zeros, has length `n`
length-zone_bytes : (geometry : Geometry) (image : List ℕ) (k at r n : ℕ) → Fits geometry image → 512 * k + r ≡ at → r + n ≤ 512
    → length (if in_zone geometry k then slice_range image at (at + n) else replicate n 0) ≡ n
length-zone_bytes geometry image k at r n fits e h =
    elim (in_zone geometry k) as (λ z. in_zone geometry k ≡ z → length (if z then slice_range image at (at + n) else replicate n 0) ≡ n) [
      | true ↦ λ z. let room : 512 * k + 512 ≤ length image = zone_room geometry image k fits z in length-slice_range image at n (omega arith)
      | false ↦ λ z. length-replicate n 0
    ] refl

-- `n` bytes of the body, starting at byte `r` of logical block `b`, are the same bytes of block `k`, whose number is stored for `b`, or zeros if `k`
-- isn't a data block
pub body_part : (geometry : Geometry) (image : List ℕ) (i b r n k from at : ℕ) → Fits geometry image → r + n ≤ 512
    → 512 * b + r ≡ from → 512 * k + r ≡ at → from + n ≤ body_size geometry image i
    → stored geometry image i (form_at geometry image i) b ≡ k
    → slice_range (body geometry image i) from (from + n) ≡ (if in_zone geometry k then slice_range image at (at + n) else replicate n 0)
body_part geometry image i b r n k from at fits h e f room is_stored =
    let whole : length (body geometry image i) ≡ body_size geometry image i = length-body geometry image i in
    let left : length (slice_range (body geometry image i) from (from + n)) ≡ n = length-slice_range (body geometry image i) from n (omega arith) in
    let right : length (if in_zone geometry k then slice_range image at (at + n) else replicate n 0) ≡ n = length-zone_bytes geometry image k at r n fits f h in
    same_number_lists (slice_range (body geometry image i) from (from + n))
    (if in_zone geometry k then slice_range image at (at + n) else replicate n 0) (left ∙ sym right)
    (λ j low.
    let below : j < n = omega arith in let inside : from + j < body_size geometry image i = omega arith in
    let place : from + j ≡ 512 * b + (r + j) = omega arith in
    get_or-slice_range (body geometry image i) from n j below
    ∙ (get_or-body geometry image i (from + j) inside
    ∙ (ap (body_byte geometry image i) place
    ∙ (body_byte_at geometry image i b (r + j) (omega arith)
    ∙ (ap (λ m. zone_byte geometry image m (r + j)) is_stored ∙ sym (zone_bytes geometry image k at r n j f below))))))

-- the first `n` bytes of logical block `b` of the body are those of block `k`, whose number is stored for `b`, or zeros if `k` isn't a data block
pub body_piece : (geometry : Geometry) (image : List ℕ) (i b n k : ℕ) → Fits geometry image → n ≤ 512 → 512 * b + n ≤ body_size geometry image i
    → stored geometry image i (form_at geometry image i) b ≡ k
    → slice_range (body geometry image i) (512 * b) (512 * b + n)
    ≡ (if in_zone geometry k then slice_range image (512 * k) (512 * k + n) else replicate n 0)
body_piece geometry image i b n k fits h room is_stored =
    body_part geometry image i b 0 n k (512 * b) (512 * k) fits (omega arith) (omega arith) (omega arith) room is_stored

-- byte `r` of data block `m` is byte `512 * m + r` of the image
pub zone_byte_in : (geometry : Geometry) (image : List ℕ) (m r : ℕ) → in_zone geometry m ≡ true → zone_byte geometry image m r ≡ get_or image (512 * m + r) 0
unfolding zone_byte
zone_byte_in geometry image m r z = rw z

-- a block that isn't a data block reads as zeros
pub zone_byte_out : (geometry : Geometry) (image : List ℕ) (m r : ℕ) → in_zone geometry m ≡ false → zone_byte geometry image m r ≡ 0
unfolding zone_byte
zone_byte_out geometry image m r z = rw z

-- byte `n` of the body is read from the block whose number is stored for logical block `n / 512`
pub body_byte_is : (geometry : Geometry) (image : List ℕ) (i n : ℕ)
    → body_byte geometry image i n ≡ zone_byte geometry image (stored geometry image i (form_at geometry image i) (n / 512)) (n % 512)
unfolding body_byte
body_byte_is geometry image i n = refl
