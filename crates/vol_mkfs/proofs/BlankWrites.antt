-- Writing the blocks of a new volume, a buffer at a time.
use Rattle.std.specs.Prelude.{slice_range, Option, Result, Ok, Err, OnOk}
use Rattle.std.specs.Io.KnownBytes.{Appends}
use Rattle.std.proofs.Common.{◌≡◌, ℕ, ◌+◌, ◌-◌, ◌*◌, ◌<◌, ◌≤◌, List, length, take, sym, ap, subst, ◌∙◌, arith, get_or}
use Rattle.std.proofs.lemmas.Grind.{same_number_lists}
use Rattle.std.proofs.lemmas.List.{take-take, take_all, get_or-take, length-take-le}
use Rattle.std.proofs.lemmas.List.FromFn.{get_or-map-range_with_len}
use Rattle.pdp_words.specs.Devices.{AppendsFront}
use Rattle.vol_layout.specs.declared.geometry.Geometry.{Geometry}
use Rattle.vol_layout.proofs.BodyLaws.{length-slice_range, get_or-slice_range}
use Rattle.vol_mkfs.proofs.BlankVolumes.{volume_len, blank_is}
use Rattle.pdp_words.proofs.Outputs.{Appends-more}
use Rattle.vol_mkfs.specs.Blank.{blank_in, volume_byte, volume_bytes, IsBlank, WritesVolume, WritesFront}

-- byte k of `volume_bytes` is `volume_byte` of k
pub byte_at : (geometry : Geometry) (first : List ℕ) (k : ℕ) → k < 512 * geometry.zone_end
    → get_or (volume_bytes geometry first) k 0 ≡ volume_byte geometry first k
unfolding volume_bytes
byte_at geometry first k h = get_or-map-range_with_len (volume_byte geometry first) 0 (512 * geometry.zone_end) k k 0 h (omega arith)

module _ (geometry : Geometry) (first buffer : List ℕ) (next end : ℕ) (order : next ≤ end) (within : end ≤ geometry.zone_end)
    (room : (end - next) * 512 ≤ length buffer)
    (bytes : (k : ℕ) → k < 512 * (end - next) → get_or buffer k 0 ≡ volume_byte geometry first (512 * next + k)) where
  -- the buffer of gathered blocks is a slice of the volume
  gathered : take ((end - next) * 512) buffer ≡ slice_range (volume_bytes geometry first) (512 * next) (512 * next + (end - next) * 512)
  gathered =
      let count = (end - next) * 512 in
      let len : length (volume_bytes geometry first) ≡ 512 * geometry.zone_end = volume_len geometry first in
      let left : length (take count buffer) ≡ count = length-take-le count buffer room in
      let right : length (slice_range (volume_bytes geometry first) (512 * next) (512 * next + count)) ≡ count =
      length-slice_range (volume_bytes geometry first) (512 * next) count (omega arith) in
      same_number_lists (take count buffer) (slice_range (volume_bytes geometry first) (512 * next) (512 * next + count)) (left ∙ sym right)
      (λ k h.
      let low : k < count = omega arith in
      get_or-take count buffer k 0 low
      ∙ (bytes k (omega arith)
      ∙ sym (get_or-slice_range (volume_bytes geometry first) (512 * next) count k low ∙ byte_at geometry first (512 * next + k) (omega arith))))

  -- if a sink took the blocks before `next` and then m bytes of the buffer, it took the beginning of the volume up to these bytes
  pub written_more : (a b c : Option (List ℕ)) (m : ℕ) → m ≤ (end - next) * 512
      → Appends a b (take (512 * next) (volume_bytes geometry first)) → Appends b c (take m (take ((end - next) * 512) buffer))
      → Appends a c (take (512 * next + m) (volume_bytes geometry first))
  written_more a b c m few front more =
      Appends-more a b c (volume_bytes geometry first) (take ((end - next) * 512) buffer) (512 * next) ((end - next) * 512) m few gathered front more

  -- if a sink took the blocks before `next` and failed after m bytes of the buffer, it took the beginning of the volume up to these bytes
  pub written_part : (a b c : Option (List ℕ)) (m n : ℕ) → n ≡ next * 512 + m
      → Appends a b (take (512 * next) (volume_bytes geometry first)) → AppendsFront b c (take ((end - next) * 512) buffer) m
      → AppendsFront a c (volume_bytes geometry first) n
  written_part a b c m n is front (few, more) =
      let count = (end - next) * 512 in
      let len : length (volume_bytes geometry first) ≡ 512 * geometry.zone_end = volume_len geometry first in
      let left : length (take count buffer) ≡ count = length-take-le count buffer room in
      let place : 512 * next + m ≡ n = omega arith in (
        omega arith,
        subst (λ k. Appends a c (take k (volume_bytes geometry first))) place (written_more a b c m (omega arith) front more),
      )

  -- if a sink took the blocks before `next` and then the whole buffer, it took the blocks before `end`
  pub written_all : (a b c : Option (List ℕ)) → Appends a b (take (512 * next) (volume_bytes geometry first))
      → Appends b c (take ((end - next) * 512) buffer) → Appends a c (take (512 * end) (volume_bytes geometry first))
  written_all a b c front all =
      let count = (end - next) * 512 in
      let whole : take count (take count buffer) ≡ take count buffer = take-take count count buffer (omega arith) in
      let place : 512 * next + count ≡ 512 * end = omega arith in
      subst (λ k. Appends a c (take k (volume_bytes geometry first))) place
      (written_more a b c count (omega arith) front (subst (Appends b c) (sym whole) all))

-- if a sink took the blocks up to the last, it took all bytes of the volume
pub written_volume : (geometry : Geometry) (first : List ℕ) (a b : Option (List ℕ)) (next : ℕ) → geometry.zone_end ≤ next
    → Appends a b (take (512 * next) (volume_bytes geometry first)) → Appends a b (volume_bytes geometry first)
written_volume geometry first a b next h taken =
    let len : length (volume_bytes geometry first) ≡ 512 * geometry.zone_end = volume_len geometry first in
    subst (Appends a b) (take_all (512 * next) (volume_bytes geometry first) (omega arith)) taken

-- gathering all blocks at once gives the volume
pub gathered_volume : (geometry : Geometry) (first buffer : List ℕ) → length buffer ≡ 512 * geometry.zone_end
    → ((k : ℕ) → k < 512 * (geometry.zone_end - 0) → get_or buffer k 0 ≡ volume_byte geometry first (512 * 0 + k))
    → buffer ≡ volume_bytes geometry first
gathered_volume geometry first buffer len bytes =
    same_number_lists buffer (volume_bytes geometry first) (len ∙ sym (volume_len geometry first))
    (λ k h.
    let place : 512 * 0 + k ≡ k = omega arith in
    bytes k (omega arith) ∙ (ap (volume_byte geometry first) place ∙ sym (byte_at geometry first k (omega arith))))

module _ (geometry : Geometry) (first : List ℕ) (blank : IsBlank geometry first) (old new : Option (List ℕ)) where
  -- if the sink took all of `volume_bytes`, `WritesVolume` holds
  pub writes_volume : {T E : Type 0} → (result : Result T E) → OnOk result (Appends old new (volume_bytes geometry first))
      → OnOk result (WritesVolume (blank_in geometry first) old new)
  writes_volume (Ok done) out = record { bytes = volume_bytes geometry first; made = blank_is geometry first blank; written = out }
  writes_volume (Err fault) out = out

  -- if the sink took the first `count` bytes of `volume_bytes`, `WritesFront` holds
  pub writes_front : (count : ℕ) → AppendsFront old new (volume_bytes geometry first) count → WritesFront (blank_in geometry first) old new count
  writes_front count out = record { bytes = volume_bytes geometry first; made = blank_is geometry first blank; written = out }
