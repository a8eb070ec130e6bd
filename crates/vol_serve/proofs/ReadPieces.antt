-- The start of a buffer into which bytes were read.
use Rattle.std.proofs.Common.{◌≡◌, ℕ, ◌+◌, ◌-◌, ◌^◌, ◌<◌, ◌≤◌, zero, suc, min, List, [], ◌++◌, take, drop, length, Result, Ok, refl, ap, sym, ◌∙◌, arith}
use Rattle.std.specs.Prelude.{slice_range}
use Rattle.std.proofs.lemmas.List.{take-append-drop, take_min, drop_all, length-take, length-drop}
use Rattle.vol_layout.specs.Body.{body, body_size}
use Rattle.vol_layout.proofs.BodyLaws.{length-body}
use Rattle.vol_layout.specs.declared.geometry.Geometry.{Geometry}
use Rattle.vol_dir.specs.Tree.{tree}
use Rattle.vol_volume.specs.Answer.{read_bytes}
use Rattle.vol_volume.proofs.NeedReadings.{greatest_fits}
use Rattle.vol_serve.specs.Nodes.{after_ok, bytes_in, count_of, filled, read_in}
use Rattle.vol_serve.specs.declared.nodes.fault.NodeFault.{NodeFault}

-- the number of bytes to read is the length of the bytes read
count_read : (body : List ℕ) (offset len size count : ℕ) → length body ≡ size → count ≡ min len (size - offset)
    → count ≡ length (read_bytes body offset len)
count_read body offset len size count size_is count_is = omega (arith, length-take len (drop offset body), length-drop offset body)

-- the buffer starts with the bytes read, and the rest is unchanged
buffer_read : (body old new : List ℕ) (offset size count : ℕ) → length body ≡ size → count ≡ min (length old) (size - offset)
    → take count new ≡ slice_range body offset (offset + count) → drop count new ≡ drop count old
    → new ≡ read_bytes body offset (length old) ++ drop (length (read_bytes body offset (length old))) old
buffer_read body old new offset size count size_is count_is front rest =
    let all : offset + count - offset ≡ min (length old) (length (drop offset body)) = omega (arith, length-drop offset body) in
    let bytes : take count new ≡ read_bytes body offset (length old) = front ∙ (ap (λ n. take n (drop offset body)) all ∙ take_min (length old) (drop offset body)) in
    let same : count ≡ length (read_bytes body offset (length old)) = count_read body offset (length old) size count size_is count_is in
    sym (take-append-drop count new) ∙ (ap (λ xs. xs ++ drop count new) bytes
    ∙ (ap (λ xs. read_bytes body offset (length old) ++ xs) rest ∙ ap (λ n. read_bytes body offset (length old) ++ drop n old) same))

-- the first `n` elements of an empty list are none
take_nil : (n : ℕ) → take {A = ℕ} n [] ≡ []
take_nil zero = refl
take_nil (suc n) = refl

-- no bytes are read past the end of a file
none_past : (body : List ℕ) (offset len : ℕ) → length body ≤ offset → read_bytes body offset len ≡ []
none_past body offset len past = ap (take len) (drop_all offset body past) ∙ take_nil len

module _ (geometry : Geometry) (image : List ℕ) (i : ℕ) (is : bytes_in (tree geometry image) i ≡ Ok (body geometry image i)) where
  read_is : (offset len : ℕ) → read_in (tree geometry image) i offset len ≡ Ok (read_bytes (body geometry image i) offset len)
  read_is offset len = ap (λ (r : Result (List ℕ) NodeFault). after_ok r (λ bytes. Ok (read_bytes bytes offset len))) is

  -- the number of bytes read from a regular file is that of `read_in`
  pub read_count : (offset len at count : ℕ) → at ≡ offset → count ≡ min len (body_size geometry image i - at)
      → Ok count ≡ count_of (read_in (tree geometry image) i offset len)
  read_count offset len at count same count_is =
      ap (λ n. Ok n) (count_read (body geometry image i) offset len (body_size geometry image i) count (length-body geometry image i)
      (count_is ∙ ap (λ a. min len (body_size geometry image i - a)) same))
      ∙ sym (ap count_of (read_is offset len))

  -- the buffer after reading from a regular file is filled with the bytes of `read_in`
  pub read_buffer : (old new : List ℕ) (offset at count : ℕ) → at ≡ offset → count ≡ min (length old) (body_size geometry image i - at)
      → take count new ≡ slice_range (body geometry image i) at (at + count) → drop count new ≡ drop count old
      → new ≡ filled (read_in (tree geometry image) i offset (length old)) old
  read_buffer old new offset at count same count_is front rest =
      buffer_read (body geometry image i) old new offset (body_size geometry image i) count (length-body geometry image i)
      (count_is ∙ ap (λ a. min (length old) (body_size geometry image i - a)) same)
      (front ∙ ap (λ a. slice_range (body geometry image i) a (a + count)) same) rest
      ∙ sym (ap (λ r. filled r old) (read_is offset (length old)))

  nothing : (offset len : ℕ) → 2 ^ 32 ≤ offset → read_bytes (body geometry image i) offset len ≡ []
  nothing offset len past =
      let low : body_size geometry image i < 2 ^ 32 = omega (arith, greatest_fits geometry.edition) in
      none_past (body geometry image i) offset len (omega (arith, length-body geometry image i, low))

  -- no bytes are read from an offset of at least 2^32
  pub count_past : (offset len : ℕ) → 2 ^ 32 ≤ offset → Ok 0 ≡ count_of (read_in (tree geometry image) i offset len)
  count_past offset len past = sym (ap count_of (read_is offset len) ∙ ap (λ (bytes : List ℕ). Ok (length bytes)) (nothing offset len past))

  pub buffer_past : (old : List ℕ) (offset : ℕ) → 2 ^ 32 ≤ offset → old ≡ filled (read_in (tree geometry image) i offset (length old)) old
  buffer_past old offset past = sym (ap (λ r. filled r old) (read_is offset (length old)) ∙ ap (λ bytes. bytes ++ drop (length bytes) old) (nothing offset (length old) past))
