-- Requests with their fields in the order of fuse.h, when they are read.
use Rattle.std.proofs.Common.{◌≡◌, ◌∙◌, sym, ap, refl, eq-eqb, ℕ, ◌+◌, ◌-◌, ◌^◌, ◌<◌, ◌≤◌, ◌==◌, nat_lt, true, false, if◌then◌else◌, append_assoc, Option, List, [], ◌∷◌, ◌++◌, length, length-append, get_or, take, drop, Some, None, arith}
use Rattle.std.proofs.lemmas.Bool.{le-ltb, lt-ltb, ne_eqb}
use Rattle.std.proofs.lemmas.List.{take_rest, get_or_append_left}
use Rattle.std.proofs.lemmas.List.Elements.{All-get_or}
use Rattle.std.proofs.lemmas.List.Sums.{position_or_len_is}
use Rattle.std.proofs.Math.Seq.{take-append_seam, drop-append_seam, drop-append-add, get_or-append_seam}
use Rattle.std.specs.List.{position, position_or_len}
use Rattle.std.specs.Option.{option_map}
use Rattle.byteorder.specs.Endian.{little_bytes}
use Rattle.byteorder.specs.Numbers.{little_number-reads_back}
use Rattle.fuse_words.specs.Laws.{header_bytes, body_bytes, string, IsString, SetAttrIn, IsSetAttr, setattr_bytes, opcode_of, FitsBody, FitsHeader, request_bytes, RequestsAreReadBack}
use Rattle.fuse_words.specs.Requests.{number, header_of, struct_size, changes_of, is_named, named, is_rename, renamed, write_of, fields_of, operation_of, name_before, name_of, names_before, names_of}
use Rattle.fuse_words.specs.declared.attribute_changes.AttributeChanges.{AttributeChanges}
use Rattle.fuse_words.specs.declared.operation.Operation.{Operation}
use Rattle.fuse_words.specs.declared.operation.Operation.TheVariants.{Init, Destroy, Lookup, Forget, BatchForget, GetAttr, SetAttr, MkNod, MkDir, Unlink, RmDir, Rename, Rename2, Link, Open, Read, Write, Release, StatFs, OpenDir, ReadDir, ReleaseDir, Fsync, FsyncDir, Flush, Interrupt, Other}
use Rattle.fuse_words.specs.declared.request.Header.{Header}
use Rattle.fuse_words.proofs.ReadRequests.{read_by}

-- if the numbers in some bytes are a header's, the bytes are read as this header
header_as : (bytes : List ℕ) (header : Header) → nat_lt (length bytes) 40 ≡ false → number 4 0 bytes ≡ header.length → number 4 4 bytes ≡ header.opcode
    → number 8 8 bytes ≡ header.unique → number 8 16 bytes ≡ header.node → number 4 24 bytes ≡ header.uid → number 4 28 bytes ≡ header.gid
    → number 4 32 bytes ≡ header.pid → header_of bytes ≡ Some header
unfolding header_of
header_as bytes header room l o u n i g p = simp (room, l, o, u, n, i, g, p)

-- the bytes of a header are read as this header
header_back : (header : Header) (body : List ℕ) → FitsHeader header → header_of (header_bytes header ++ body) ≡ Some header
unfolding header_bytes
header_back header body h =
    let all : List ℕ = header_bytes header ++ body in
    header_as (header_bytes header ++ body) header (le-ltb (length (header_bytes header ++ body)) 40 (omega (arith, length-append (header_bytes header) body)))
    (little_number-reads_back 4 header.length (drop 4 all) h.length)
    (little_number-reads_back 4 header.opcode (drop 8 all) h.opcode)
    (little_number-reads_back 8 header.unique (drop 16 all) h.unique)
    (little_number-reads_back 8 header.node (drop 24 all) h.node)
    (little_number-reads_back 4 header.uid (drop 28 all) h.uid)
    (little_number-reads_back 4 header.gid (drop 32 all) h.gid)
    (little_number-reads_back 4 header.pid (drop 36 all) h.pid)

-- the operation in a body, if it doesn't have one name
abbrev operation_without : ℕ → List ℕ → Option Operation
operation_without opcode body =
    if is_rename opcode then option_map (renamed opcode body) (names_of (drop (struct_size opcode) body))
    else if opcode == 16 then write_of body
    else Some (fields_of opcode body)

-- the operation in a body that has the whole struct
abbrev operation_with : ℕ → List ℕ → Option Operation
operation_with opcode body = if is_named opcode then option_map (named opcode body) (name_of (drop (struct_size opcode) body)) else operation_without opcode body

-- if a body has the whole struct of an operation without a name, the operation is read from its fields
sized : (opcode : ℕ) (body : List ℕ) (operation : Operation) → struct_size opcode ≤ length body → is_named opcode ≡ false → is_rename opcode ≡ false → (opcode == 16) ≡ false
    → fields_of opcode body ≡ operation → operation_of opcode body ≡ Some operation
unfolding operation_of
sized opcode body operation room one two write fields =
    ap (λ b. if b then None else operation_with opcode body) (le-ltb (length body) (struct_size opcode) room)
    ∙ (ap (λ b. if b then option_map (named opcode body) (name_of (drop (struct_size opcode) body)) else operation_without opcode body) one
    ∙ (ap (λ b. if b then option_map (renamed opcode body) (names_of (drop (struct_size opcode) body)) else (if opcode == 16 then write_of body else Some (fields_of opcode body))) two
    ∙ (ap (λ b. if b then write_of body else Some (fields_of opcode body)) write ∙ ap Some fields)))

-- the fields of READ and READDIR are read as this handle, offset and size
read_fields : (handle offset size : ℕ) (rest : List ℕ) → handle < 2 ^ 64 → offset < 2 ^ 64 → size < 2 ^ 32
    → (number 8 0 (little_bytes 8 handle ++ little_bytes 8 offset ++ little_bytes 4 size ++ rest) ≡ handle)
    × (number 8 8 (little_bytes 8 handle ++ little_bytes 8 offset ++ little_bytes 4 size ++ rest) ≡ offset)
    × (number 4 16 (little_bytes 8 handle ++ little_bytes 8 offset ++ little_bytes 4 size ++ rest) ≡ size)
read_fields handle offset size rest h o s = (
  little_number-reads_back 8 handle (little_bytes 8 offset ++ little_bytes 4 size ++ rest) h,
  little_number-reads_back 8 offset (little_bytes 4 size ++ rest) o,
  little_number-reads_back 4 size rest s,
)

-- the first NUL in a name's string is after the name's last byte
nul_at : (name more : List ℕ) → IsString name → position (λ b. b == 0) (name ++ 0 ∷ more) ≡ Some (length name)
nul_at name more h =
    let first : position_or_len (λ b. b == 0) (name ++ 0 ∷ more) ≡ length name =
    position_or_len_is (λ b. b == 0) (name ++ 0 ∷ more) (length name) 0 (omega (arith, length-append name (0 ∷ more)))
    (λ k low. ne_eqb (get_or (name ++ 0 ∷ more) k 0) 0
    (λ e. omega (arith, e, get_or_append_left name (0 ∷ more) 0 k low, All-get_or (λ b. 0 < b) name k 0 low h)))
    (λ h. ap (λ b. b == 0) (get_or-append_seam name 0 more 0)) in
    let len : length (name ++ 0 ∷ more) ≡ length name + length (0 ∷ more) = length-append name (0 ∷ more) in
    simp (first, len, lt-ltb (length name) (length name + length (0 ∷ more)) (omega arith))

-- the string of a name is read as this name
name_back : (name : List ℕ) → IsString name → name_of (string name) ≡ Some name
name_back name h =
    let whole : length (string name) ≡ length name + 1 = length-append name (0 ∷ []) in
    ap (name_before (string name)) (nul_at name [] h)
    ∙ simp (whole, eq-eqb (length name + 1) (length name + 1) refl, take-append_seam)

-- the bytes after a name's NUL are `more`
behind_nul : (name more : List ℕ) → drop (length name + 1) (name ++ 0 ∷ more) ≡ more
behind_nul name more = drop-append-add name (0 ∷ more) 1

-- the strings of two names are read as these names
names_back : (name new_name : List ℕ) → IsString name → IsString new_name → names_of (string name ++ string new_name) ≡ Some (name, new_name)
names_back name new_name h h' =
    let more : List ℕ = string new_name in
    ap names_of (append_assoc name (0 ∷ []) more)
    ∙ (ap (names_before (name ++ 0 ∷ more)) (nul_at name more h)
    ∙ (ap (λ xs. option_map (λ second. (take (length name) (name ++ 0 ∷ more), second)) (name_of xs)) (behind_nul name more)
    ∙ (ap (option_map (λ second. (take (length name) (name ++ 0 ∷ more), second))) (name_back new_name h')
    ∙ ap (λ first. Some (first, new_name)) (take-append_seam name (0 ∷ more)))))

-- a struct followed by one name is read as the operation with this name
one_back : (opcode : ℕ) (front name : List ℕ) (operation : Operation) → length front ≡ struct_size opcode → is_named opcode ≡ true → IsString name
    → named opcode (front ++ string name) name ≡ operation → operation_of opcode (front ++ string name) ≡ Some operation
unfolding operation_of
one_back opcode front name operation size one h is =
    let body : List ℕ = front ++ string name in
    let rest : drop (struct_size opcode) body ≡ string name = ap (λ n. drop n body) (sym size) ∙ drop-append_seam front (string name) in
    ap (λ b. if b then None else operation_with opcode body) (le-ltb (length body) (struct_size opcode) (omega (arith, size, length-append front (string name))))
    ∙ (ap (λ b. if b then option_map (named opcode body) (name_of (drop (struct_size opcode) body)) else operation_without opcode body) one
    ∙ (ap (λ xs. option_map (named opcode body) (name_of xs)) rest
    ∙ (ap (option_map (named opcode body)) (name_back name h) ∙ ap Some is)))

-- a struct followed by two names is read as the operation with these names
two_back : (opcode : ℕ) (front name new_name : List ℕ) (operation : Operation) → length front ≡ struct_size opcode → is_named opcode ≡ false → is_rename opcode ≡ true
    → IsString name → IsString new_name → renamed opcode (front ++ (string name ++ string new_name)) (name, new_name) ≡ operation
    → operation_of opcode (front ++ (string name ++ string new_name)) ≡ Some operation
unfolding operation_of
two_back opcode front name new_name operation size one two h h' is =
    let names : List ℕ = string name ++ string new_name in
    let body : List ℕ = front ++ names in
    let rest : drop (struct_size opcode) body ≡ names = ap (λ n. drop n body) (sym size) ∙ drop-append_seam front names in
    ap (λ b. if b then None else operation_with opcode body) (le-ltb (length body) (struct_size opcode) (omega (arith, size, length-append front names)))
    ∙ (ap (λ b. if b then option_map (named opcode body) (name_of (drop (struct_size opcode) body)) else operation_without opcode body) one
    ∙ (ap (λ b. if b then option_map (renamed opcode body) (names_of (drop (struct_size opcode) body)) else (if opcode == 16 then write_of body else Some (fields_of opcode body))) two
    ∙ (ap (λ xs. option_map (renamed opcode body) (names_of xs)) rest
    ∙ (ap (option_map (renamed opcode body)) (names_back name new_name h h') ∙ ap Some is))))

-- A body with the numbers and the bytes of WRITE is read as this WRITE.
write_by : (body content : List ℕ) (handle offset : ℕ) → 40 ≤ length body → number 4 16 body ≡ length content → number 8 0 body ≡ handle → number 8 8 body ≡ offset
    → drop 40 body ≡ content → operation_of 16 body ≡ Some (Write handle offset content)
unfolding operation_of
write_by body content handle offset room size h o rest =
    let some : write_of body ≡ Some (Write handle offset content) = simp (size, h, o, rest, eq-eqb (length content) (length content) refl) in
    ap (λ b. if b then None else write_of body) (le-ltb (length body) 40 room) ∙ some

-- the body of SETATTR has 88 bytes
setattr_length : (fields : SetAttrIn) → length (setattr_bytes fields) ≡ 88
unfolding setattr_bytes
setattr_length fields = refl

-- The body of SETATTR with these fields is read as these changes.
changes_back : (changes : AttributeChanges) (body : List ℕ) (fields : SetAttrIn) → IsSetAttr changes body fields → changes_of (setattr_bytes fields) ≡ changes
unfolding setattr_bytes changes_of
changes_back changes body fields h =
    let all : List ℕ = setattr_bytes fields in
    simp (
      little_number-reads_back 4 fields.valid (drop 4 all) h.valid,
      little_number-reads_back 8 fields.size (drop 24 all) h.size,
      little_number-reads_back 8 fields.atime (drop 40 all) h.atime,
      little_number-reads_back 8 fields.mtime (drop 48 all) h.mtime,
      little_number-reads_back 4 fields.mode (drop 72 all) h.mode,
      little_number-reads_back 4 fields.uid (drop 80 all) h.uid,
      little_number-reads_back 4 fields.gid (drop 84 all) h.gid,
      h.asked,
    )

-- the body of an operation is read as this operation
body_back : (operation : Operation) (rest : List ℕ) → FitsBody operation rest → operation_of (opcode_of operation) (body_bytes operation rest) ≡ Some operation
unfolding body_bytes fields_of named renamed
body_back (Lookup name) rest h = one_back 1 rest name (Lookup name) (ap length h.1) refl h.0 refl
body_back (SetAttr changes) rest h =
    sized 4 rest (SetAttr changes) (omega (arith, ap length h.1.laid_out, setattr_length h.0)) refl refl refl
    (ap (λ xs. SetAttr (changes_of xs)) h.1.laid_out ∙ ap SetAttr (changes_back changes rest h.0 h.1))
body_back (MkNod mode device name) rest h =
    one_back 8 (little_bytes 4 mode ++ little_bytes 4 device ++ rest) name (MkNod mode device name) (omega (arith, h.3)) refl h.2
    (simp (little_number-reads_back 4 mode (little_bytes 4 device ++ rest ++ string name) h.0, little_number-reads_back 4 device (rest ++ string name) h.1))
body_back (MkDir mode name) rest h =
    one_back 9 (little_bytes 4 mode ++ rest) name (MkDir mode name) (omega (arith, h.2)) refl h.1
    (simp (little_number-reads_back 4 mode (rest ++ string name) h.0))
body_back (Unlink name) rest h = one_back 10 rest name (Unlink name) (ap length h.1) refl h.0 refl
body_back (RmDir name) rest h = one_back 11 rest name (RmDir name) (ap length h.1) refl h.0 refl
body_back (Rename directory name new_name) rest h =
    two_back 12 (little_bytes 8 directory ++ rest) name new_name (Rename directory name new_name) (ap (λ xs. length (little_bytes 8 directory ++ xs)) h.3) refl refl h.1 h.2
    (simp (little_number-reads_back 8 directory (rest ++ (string name ++ string new_name)) h.0))
body_back (Rename2 directory flags name new_name) rest h =
    two_back 45 (little_bytes 8 directory ++ little_bytes 4 flags ++ rest) name new_name (Rename2 directory flags name new_name) (omega (arith, h.4)) refl refl h.2 h.3
    (simp (little_number-reads_back 8 directory (little_bytes 4 flags ++ rest ++ (string name ++ string new_name)) h.0, little_number-reads_back 4 flags (rest ++ (string name ++ string new_name)) h.1))
body_back (Link node name) rest h =
    one_back 13 (little_bytes 8 node ++ rest) name (Link node name) (ap (λ xs. length (little_bytes 8 node ++ xs)) h.2) refl h.1
    (simp (little_number-reads_back 8 node (rest ++ string name) h.0))
body_back (Init major minor max_readahead flags) rest h =
    let body = little_bytes 4 major ++ little_bytes 4 minor ++ little_bytes 4 max_readahead ++ little_bytes 4 flags ++ rest in
    sized 26 body (Init major minor max_readahead flags) (omega arith) refl refl refl
    (simp (little_number-reads_back 4 major (drop 4 body) h.0, little_number-reads_back 4 minor (drop 8 body) h.1, little_number-reads_back 4 max_readahead (drop 12 body) h.2, little_number-reads_back 4 flags rest h.3))
body_back Destroy rest h = sized 38 rest Destroy (omega arith) refl refl refl refl
body_back Forget rest h = sized 2 rest Forget (omega arith) refl refl refl refl
body_back BatchForget rest h = sized 42 rest BatchForget (omega arith) refl refl refl refl
body_back GetAttr rest h = sized 3 rest GetAttr h refl refl refl refl
body_back (Open flags) rest h = sized 14 (little_bytes 4 flags ++ rest) (Open flags) (omega arith) refl refl refl (ap Open (little_number-reads_back 4 flags rest h.0))
body_back (Read handle offset size) rest h =
    let fields = read_fields handle offset size rest h.0 h.1 h.2 in
    sized 15 (little_bytes 8 handle ++ little_bytes 8 offset ++ little_bytes 4 size ++ rest) (Read handle offset size) (omega arith) refl refl refl
    (simp (fields.0, fields.1, fields.2))
body_back (Write handle offset content) rest h =
    let fields = read_fields handle offset (length content) (rest ++ content) h.0 h.1 h.2 in
    write_by (little_bytes 8 handle ++ little_bytes 8 offset ++ little_bytes 4 (length content) ++ rest ++ content) content handle offset
    (omega (arith, h.3, length-append rest content)) fields.2 fields.0 fields.1
    (ap (λ n. drop n (rest ++ content)) (sym h.3) ∙ drop-append_seam rest content)
body_back (Release handle) rest h = sized 18 (little_bytes 8 handle ++ rest) (Release handle) (omega arith) refl refl refl (ap Release (little_number-reads_back 8 handle rest h.0))
body_back (Fsync handle) rest h = sized 20 (little_bytes 8 handle ++ rest) (Fsync handle) (omega arith) refl refl refl (ap Fsync (little_number-reads_back 8 handle rest h.0))
body_back StatFs rest h = sized 17 rest StatFs (omega arith) refl refl refl refl
body_back OpenDir rest h = sized 27 rest OpenDir h refl refl refl refl
body_back (ReadDir handle offset size) rest h =
    let fields = read_fields handle offset size rest h.0 h.1 h.2 in
    sized 28 (little_bytes 8 handle ++ little_bytes 8 offset ++ little_bytes 4 size ++ rest) (ReadDir handle offset size) (omega arith) refl refl refl
    (simp (fields.0, fields.1, fields.2))
body_back (ReleaseDir handle) rest h = sized 29 (little_bytes 8 handle ++ rest) (ReleaseDir handle) (omega arith) refl refl refl (ap ReleaseDir (little_number-reads_back 8 handle rest h.0))
body_back (FsyncDir handle) rest h = sized 30 (little_bytes 8 handle ++ rest) (FsyncDir handle) (omega arith) refl refl refl (ap FsyncDir (little_number-reads_back 8 handle rest h.0))
body_back Flush rest h = sized 25 rest Flush h refl refl refl refl
body_back Interrupt rest h = sized 36 rest Interrupt (omega arith) refl refl refl refl
body_back (Other opcode) rest h = absurd h

-- the bytes of a request are read as this request
pub requests_back : RequestsAreReadBack
unfolding header_bytes
requests_back header operation rest fits fits_body opcode len =
    let all = request_bytes header operation rest in
    let asked : operation_of header.opcode (take (length all - 40) (drop 40 all)) ≡ Some operation =
    ap (operation_of header.opcode) (take_rest all 40)
    ∙ (ap (λ n. operation_of n (body_bytes operation rest)) opcode ∙ body_back operation rest fits_body) in
    sym (read_by all header (Some operation) (header_back header (body_bytes operation rest) fits) len (sym asked))
