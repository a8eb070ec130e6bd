-- The bytes of a new volume, block by block, are the bytes that `IsNewVolume` requires.
use Rattle.std.proofs.Common.{◌≡◌, ◌≢◌, ℕ, ◌+◌, ◌-◌, ◌*◌, ◌/◌, ◌%◌, ◌<◌, ◌≤◌, ◌==◌, ◌&&◌, List, length, refl, sym, ap, subst, ◌∙◌, arith, inl, inr, get_or, true, false, nat_lt}
use Rattle.std.proofs.lemmas.Bool.{cases_lt, cases_eq, le-ltb}
use Rattle.std.proofs.lemmas.Bool.Decides.{nat_tests}
use Rattle.std.proofs.lemmas.List.FromFn.{length-map-range_with_len, get_or-map-range_with_len}
use Rattle.vol_layout.specs.Edition.{constants}
use Rattle.vol_layout.specs.Geometry.{Fits}
use Rattle.vol_layout.specs.Inode.{inode_place}
use Rattle.vol_layout.specs.Super.{free_head, time_place}
use Rattle.vol_layout.specs.declared.edition.Edition.{Edition}
use Rattle.vol_layout.specs.declared.edition.Edition.TheVariants.{V6, V7}
use Rattle.vol_layout.specs.declared.geometry.Geometry.{Geometry}
use Rattle.vol_layout.proofs.CopyLaws.{IsCopy, word_copied}
use Rattle.vol_layout.proofs.InodeLaws.{place_from, place_room, place_apart, inode_copied}
use Rattle.vol_layout.proofs.SlotLaws.{slot_copied}
use Rattle.vol_free.proofs.Stacks.{head_end}
use Rattle.vol_file.proofs.StoredNames.{root_first}
use Rattle.vol_mkfs.proofs.BlankStacks.{blank_free}
use Rattle.vol_mkfs.proofs.NewRules.{new_sound}
use Rattle.vol_layout.proofs.EditionLaws.{super_order}
use Rattle.vol_mkfs.proofs.NewSizes.{fits_makeable, read_makeable, sizes_kept, time_kept}
use Rattle.vol_mkfs.specs.Blank.{blank_in, head_byte, HasHead, block_byte, volume_byte, volume_bytes, IsBlank, IsBlankFirst, IsMade}
use Rattle.vol_mkfs.specs.Mkfs.{is_chain, is_size, sizes_bytes, IsMakeable, IsNoneOf, IsUnused, IsNewVolume}

-- the root's i-node ends within the first block of the i-list
pub root_end : (edition : Edition) → inode_place edition (constants edition).root + (constants edition).inode_bytes ≤ 1536
root_end V6 = omega arith
root_end V7 = omega arith

-- a chain block is a data block after the root's
pub chain_zone : (geometry : Geometry) (b : ℕ) → is_chain geometry b ≡ true → (geometry.zone_start < b) × (b < geometry.zone_end)
unfolding is_chain
chain_zone geometry b chain = grind (arith, nat_tests)

-- the blocks before the root's aren't chain blocks
chain_none : (geometry : Geometry) (b : ℕ) → b < geometry.zone_start → is_chain geometry b ≡ false
unfolding is_chain
chain_none geometry b low = let before : nat_lt geometry.zone_start b ≡ false = grind (arith, nat_tests) in rw before

-- the bytes of blocks 0, 1 and 2 are the bytes of `first`
pub block_early : (geometry : Geometry) (first : List ℕ) (b r : ℕ) → b < 3 → block_byte geometry first b r ≡ get_or first (512 * b + r) 0
unfolding block_byte
block_early geometry first b r h = let low : nat_lt b 3 ≡ true = grind (arith, nat_tests) in rw low

-- the bytes of the root's block are the last 512 bytes of `first`
pub block_root : (geometry : Geometry) (first : List ℕ) (r : ℕ) → 3 ≤ geometry.zone_start
    → block_byte geometry first geometry.zone_start r ≡ get_or first (1536 + r) 0
unfolding block_byte
block_root geometry first r h =
    let high : nat_lt geometry.zone_start 3 ≡ false = grind (arith, nat_tests) in
    let same : (geometry.zone_start == geometry.zone_start) ≡ true = grind (arith, nat_tests) in
    rw (high, same)

-- the other blocks of the i-list are zero
block_list : (geometry : Geometry) (first : List ℕ) (b r : ℕ) → 3 ≤ b → b < geometry.zone_start → block_byte geometry first b r ≡ 0
unfolding block_byte
block_list geometry first b r h low =
    let high : nat_lt b 3 ≡ false = grind (arith, nat_tests) in
    let other : (b == geometry.zone_start) ≡ false = grind (arith, nat_tests) in
    let none : is_chain geometry b ≡ false = chain_none geometry b low in
    rw (high, other, none)

-- the first 202 bytes of a chain block are its head
pub block_chain : (geometry : Geometry) (first : List ℕ) (b r : ℕ) → 3 ≤ geometry.zone_start → is_chain geometry b ≡ true → r < 202
    → block_byte geometry first b r
    ≡ head_byte geometry (b + (constants geometry.edition).free_slots) (constants geometry.edition).free_slots r
unfolding block_byte
block_chain geometry first b r start chain h =
    let zone = chain_zone geometry b chain in
    let after : geometry.zone_start < b = zone.0 in
    let high : nat_lt b 3 ≡ false = grind (arith, nat_tests) in
    let other : (b == geometry.zone_start) ≡ false = grind (arith, nat_tests) in
    let within : nat_lt r 202 ≡ true = grind (arith, nat_tests) in
    rw (high, other, chain, within)

-- a byte of any other block, or past the head of a chain block, is zero
pub block_rest : (geometry : Geometry) (first : List ℕ) (b r : ℕ) → 3 ≤ b → b ≢ geometry.zone_start
    → (is_chain geometry b && nat_lt r 202) ≡ false → block_byte geometry first b r ≡ 0
unfolding block_byte
block_rest geometry first b r h differ none =
    let high : nat_lt b 3 ≡ false = grind (arith, nat_tests) in
    let other : (b == geometry.zone_start) ≡ false = grind (arith, nat_tests, differ) in
    rw (high, other, none)

-- the number of bytes of a volume is 512 times its number of blocks
pub volume_len : (geometry : Geometry) (first : List ℕ) → length (volume_bytes geometry first) ≡ 512 * geometry.zone_end
unfolding volume_bytes
volume_len geometry first = length-map-range_with_len (volume_byte geometry first) 0 (512 * geometry.zone_end)

-- byte 512 * b + r of a volume is byte r of block b
pub volume_at : (geometry : Geometry) (first : List ℕ) (k b r : ℕ) → b < geometry.zone_end → r < 512 → k ≡ 512 * b + r
    → get_or (volume_bytes geometry first) k 0 ≡ block_byte geometry first b r
unfolding volume_bytes volume_byte
volume_at geometry first k b r within small place =
    let block : k / 512 ≡ b = omega arith in
    let offset : k % 512 ≡ r = omega arith in
    let low : k < 512 * geometry.zone_end = omega arith in
    get_or-map-range_with_len (volume_byte geometry first) 0 (512 * geometry.zone_end) k k 0 low (omega arith) ∙ rw (block, offset)

-- the sizes, the free list's head and the time are within the super-block
order_end : (edition : Edition) → (512 + sizes_bytes edition ≤ 1024) × (free_head edition + 202 ≤ 1024) × (time_place edition + 4 ≤ 1024)
order_end V6 = (omega arith, omega arith, omega arith)
order_end V7 = (omega arith, omega arith, omega arith)

-- a byte of a chain block outside its head is byte 202 or later
outside_chain : (b r k : ℕ) → k ≡ 512 * b + r → IsNoneOf (512 * b) 202 k → 202 ≤ r
outside_chain b r k place apart = elim (cases_lt r 202) [ inl low ↦ absurd (apart (omega arith) (omega arith)) | inr high ↦ high ]

module _ (geometry : Geometry) (uid gid now : ℕ) (first : List ℕ) (makeable : IsMakeable geometry) (is : IsBlankFirst geometry uid gid now first)
    (some : geometry.zone_start < geometry.zone_end) where
  -- all bytes of the volume
  bytes : List ℕ
  bytes = volume_bytes geometry first

  -- blocks 0, 1 and 2 are copied
  early : (k : ℕ) → k < 1536 → get_or bytes k 0 ≡ get_or first k 0
  unfolding bytes
  early k h =
      let start = makeable.start in
      let place : k ≡ 512 * (k / 512) + k % 512 = omega arith in
      let low : k / 512 < 3 = omega arith in
      volume_at geometry first k (k / 512) (k % 512) (omega arith) (omega arith) place
      ∙ (block_early geometry first (k / 512) (k % 512) low ∙ ap (λ n. get_or first n 0) (sym place))

  -- the other blocks of the i-list are zero
  zeros : (k : ℕ) → 1536 ≤ k → k < 512 * geometry.zone_start → get_or bytes k 0 ≡ 0
  unfolding bytes
  zeros k from to =
      volume_at geometry first k (k / 512) (k % 512) (omega arith) (omega arith) (omega arith)
      ∙ block_list geometry first (k / 512) (k % 512) (omega arith) (omega arith)

  -- the root's block is copied
  rooted : (r : ℕ) → r < 512 → get_or bytes (512 * geometry.zone_start + r) 0 ≡ get_or first (1536 + r) 0
  unfolding bytes
  rooted r h =
      volume_at geometry first (512 * geometry.zone_start + r) geometry.zone_start r some h refl ∙ block_root geometry first r makeable.start

  -- the chain blocks have their heads
  chains : (c : ℕ) → is_chain geometry c ≡ true
      → HasHead geometry bytes (512 * c) (c + (constants geometry.edition).free_slots) (constants geometry.edition).free_slots
  unfolding bytes
  chains c chain =
      let zone = chain_zone geometry c chain in
      record {
        bytes = λ r h. volume_at geometry first (512 * c + r) c r zone.1 (omega arith) refl ∙ block_chain geometry first c r makeable.start chain h;
      }

  -- the i-nodes other than the root's are zero
  others : (i k : ℕ) → 1 ≤ i → i ≤ geometry.last_inode → i ≢ (constants geometry.edition).root
      → k < (constants geometry.edition).inode_bytes → get_or bytes (inode_place geometry.edition i + k) 0 ≡ 0
  unfolding bytes
  others i k low last other within =
      let at = inode_place geometry.edition i + k in
      let root = (constants geometry.edition).root in
      let fits : Fits geometry bytes = fits_makeable geometry bytes makeable (volume_len geometry first) in
      let from : 1024 ≤ inode_place geometry.edition i = place_from geometry.edition i in
      let room : inode_place geometry.edition i + (constants geometry.edition).inode_bytes ≤ 512 * geometry.zone_start =
      place_room geometry bytes i fits low last in
      let above : 1 ≤ root = root_first geometry.edition in
      elim (cases_lt at 1536) [
        | inr past ↦ zeros at past (omega arith)
        | inl near ↦
            early at near ∙ elim (cases_lt i root) [
              | inl less ↦
                  let apart : inode_place geometry.edition i + (constants geometry.edition).inode_bytes ≤ inode_place geometry.edition root =
                  place_apart geometry.edition i root low less in
                  is.before at (omega arith) (omega arith)
              | inr more ↦
                  let greater : root < i = omega (arith, other) in
                  let apart : inode_place geometry.edition root + (constants geometry.edition).inode_bytes ≤ inode_place geometry.edition i =
                  place_apart geometry.edition root i above greater in
                  is.behind at (omega arith) near
            ]
      ]

  -- a byte that isn't written is zero
  rest : (k : ℕ) → k < 512 * geometry.zone_end → IsUnused geometry.edition (512 * geometry.zone_start) k
      → ((b : ℕ) → is_chain geometry b ≡ true → IsNoneOf (512 * b) 202 k) → get_or bytes k 0 ≡ 0
  unfolding bytes
  rest k within blank apart =
      let edition = geometry.edition in
      let start = makeable.start in
      let b = k / 512 in
      let r = k % 512 in
      let place : k ≡ 512 * b + r = omega arith in
      let high = order_end edition in
      let end : inode_place edition (constants edition).root + (constants edition).inode_bytes ≤ 1536 = root_end edition in
      elim (cases_lt k 1536) [
        | inl near ↦
            early k near
            ∙ is.rest k (record { sizes = blank.sizes; free = blank.free; time = blank.time; root = blank.root; names = λ from to. absurd (omega (arith, from, near)) })
        | inr far ↦ elim (cases_eq b geometry.zone_start) [
          | inl same ↦
              let there : k ≡ 512 * geometry.zone_start + r = omega (arith, same, place) in
              ap (λ n. get_or bytes n 0) there
              ∙ (rooted r (omega arith)
              ∙ is.rest (1536 + r) (record {
                sizes = λ from to. absurd (omega (arith, to, high));
                free = λ from to. absurd (omega (arith, to, high));
                time = λ from to. absurd (omega (arith, to, high));
                root = λ from to. absurd (omega (arith, to, end));
                names = λ from to. blank.names (omega (arith, there)) (omega (arith, there, to));
              }))
          | inr other ↦
              volume_at geometry first k b r (omega arith) (omega arith) place
              ∙ block_rest geometry first b r (omega arith) other
              (elim (is_chain geometry b) as (λ t. is_chain geometry b ≡ t → (t && nat_lt r 202) ≡ false) [
                | true ↦ λ chain. le-ltb r 202 (outside_chain b r k place (apart b chain))
                | false ↦ λ chain. refl
              ] refl)
        ]
      ]

  -- the bytes are those of a new volume
  pub blank_new : IsNewVolume geometry uid gid now (volume_bytes geometry first)
  unfolding bytes
  blank_new =
      let edition = geometry.edition in
      let root = (constants edition).root in
      let start = makeable.start in
      let len : length bytes ≡ 512 * geometry.zone_end = volume_len geometry first in
      let head : free_head edition + 202 ≤ 720 = head_end edition in
      let within = super_order edition in
      let end : inode_place edition root + (constants edition).inode_bytes ≤ 1536 = root_end edition in
      let sizes = sizes_kept edition first bytes (λ k h. early k (omega arith)) in
      let time : IsCopy first bytes (time_place edition) (time_place edition) 4 = record { bytes = λ r h. early (time_place edition + r) (omega arith) } in
      let node : IsCopy first bytes (inode_place edition root) (inode_place edition root) (constants edition).inode_bytes =
      record { bytes = λ r h. early (inode_place edition root + r) (omega arith) } in
      let count : IsCopy first bytes (free_head edition) (free_head edition) 2 = record { bytes = λ r h. early (free_head edition + r) (omega arith) } in
      let slot : IsCopy first bytes 1536 (512 * geometry.zone_start) 16 = record { bytes = λ r h. rooted r (omega arith) } in
      let next : IsCopy first bytes 1552 (512 * geometry.zone_start + 16) 16 = record {
        bytes = λ r h.
            let place : 512 * geometry.zone_start + 16 + r ≡ 512 * geometry.zone_start + (16 + r) = omega arith in
            let there : 1536 + (16 + r) ≡ 1552 + r = omega arith in
            ap (λ n. get_or bytes n 0) place ∙ (rooted (16 + r) (omega arith) ∙ ap (λ n. get_or first n 0) there);
      } in
      let room : 1536 + 16 ≤ length first = omega (arith, is.len) in
      let room_next : 1552 + 16 ≤ length first = omega (arith, is.len) in
      record {
        len = len;
        sizes = read_makeable geometry bytes makeable len (sizes.0 ∙ is.start) (sizes.1 ∙ is.end);
        time = time_kept edition first bytes time ∙ is.time;
        root = inode_copied edition first bytes (inode_place edition root) (inode_place edition root) node ∙ is.root;
        dot = slot_copied first bytes 1536 (512 * geometry.zone_start) slot room (omega arith) ∙ is.dot;
        dot_dot = slot_copied first bytes 1552 (512 * geometry.zone_start + 16) next room_next (omega arith) ∙ is.dot_dot;
        others = others;
        free = blank_free geometry bytes chains some
            (λ one. word_copied first bytes (free_head edition) (free_head edition) 2 0 (free_head edition) (free_head edition) count (omega arith) (omega arith) (omega arith)
            ∙ is.none one)
            (λ more. let stands = is.head more in record { bytes = λ r h. early (free_head edition + r) (omega arith) ∙ stands.bytes r h });
        unused = λ seventh. early (inode_place V7 (constants V7).root + 51) (omega arith) ∙ is.unused seventh;
        rest = rest;
      }

  -- the bytes are those of a new volume, and keep all twelve rules
  pub blank_made : IsMade (record { geometry = geometry; uid = uid; gid = gid; now = now }) (volume_bytes geometry first)
  blank_made = record { new = blank_new; sound = new_sound geometry uid gid now (volume_bytes geometry first) makeable blank_new }

-- first blocks with the right sizes, owner and time satisfy the invariant of every new volume
pub blank_stands : (geometry : Geometry) (uid gid now : ℕ) (first : List ℕ) → IsMakeable geometry → IsBlankFirst geometry uid gid now first
    → IsBlank geometry first
blank_stands geometry uid gid now first makeable is =
    let blank = blank_in geometry first in
    let user : uid ≡ blank.uid = sym (ap (λ node. node.uid) is.root) in
    let group : gid ≡ blank.gid = sym (ap (λ node. node.gid) is.root) in
    let moment : now ≡ blank.now = sym is.time in
    record {
      makeable = makeable;
      stands = subst (λ n. IsBlankFirst geometry blank.uid blank.gid n first) moment
          (subst (λ n. IsBlankFirst geometry blank.uid n now first) group (subst (λ n. IsBlankFirst geometry n gid now first) user is));
    }

-- the data zone of a volume that can be created has at least one block
zone_by : (edition : Edition) (start end : ℕ) → is_size edition end (start - 2) ≡ true → 3 ≤ start → start < end
zone_by V6 start end size low = grind (arith, nat_tests)
zone_by V7 start end size low = grind (arith, nat_tests)

-- a new volume that satisfies the invariant has the bytes that `IsMade` requires
pub blank_is : (geometry : Geometry) (first : List ℕ) → IsBlank geometry first → IsMade (blank_in geometry first) (volume_bytes geometry first)
blank_is geometry first blank =
    let makeable = blank.makeable in
    let some : geometry.zone_start < geometry.zone_end = zone_by geometry.edition geometry.zone_start geometry.zone_end makeable.size makeable.start in
    blank_made geometry (blank_in geometry first).uid (blank_in geometry first).gid (blank_in geometry first).now first makeable blank.stands some
