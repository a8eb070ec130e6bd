-- The lines of `identify`, and the end of its run.
use Rattle.std.proofs.Common.{◌≡◌, ◌≤◌, ◌<◌, ◌∙◌, ◌∷◌, ◌++◌, ◌+◌, max, true, ℕ, List, [], Option, inl, inr, length, map, take, drop, get_or, length-append, refl, sym, ap, subst, arith}
use Rattle.std.proofs.lemmas.List.{append_assoc, append-nil, drop_at, get_or-map, length-map, take_all, take_at, take_more}
use Rattle.std.proofs.KnownBytes.{Appends-trans}
use Rattle.std.proofs.Math.Seq.{take-add}
use Rattle.std.specs.Io.KnownBytes.{Appends}
use Rattle.pdp_words.specs.Devices.{AppendsFront}
use Rattle.std.specs.Borrow.{Bor}
use Rattle.command_faults.specs.Faults.{fault_line}
use Rattle.command_faults.specs.Streams.{Streams}
use Rattle.command_faults.specs.declared.fault.Fault.TheVariants.{Output}
use Rattle.command_words.specs.declared.invocation.GuessForm.{GuessForm}
use Rattle.host_files.specs.declared.image_file.Stamp.{Stamp}
use Rattle.unixvol.specs.Identify.{AreIdentified, IsLine, RunsIdentify, front_of}
use Rattle.unixvol.specs.Runs.{IsEnd}

-- after the lines of some files, the line of one more
pub one_more : {F : Type 0} (remaining : F → Option (List ℕ)) (stamped : F → Stamp → Type 0) (stood : Stamp → Type 0) (form : GuessForm) (paths : List (List ℕ)) (path lines line : List ℕ) (read one : ℕ)
    → AreIdentified remaining stamped stood form paths lines read → IsLine remaining stamped stood form path line one
    → AreIdentified remaining stamped stood form (paths ++ path ∷ []) (lines ++ line) (max read one)
one_more remaining stamped stood form [] path lines line read one are is =
    (line, one, [], 0, is, (refl, refl), ap (λ xs. xs ++ line) are.0 ∙ sym (append-nil line), omega (arith, are.1))
one_more remaining stamped stood form (first ∷ more) path lines line read one (had, status, rest, others, was, are, whole, greatest) is = (
  had,
  status,
  rest ++ line,
  max others one,
  was,
  one_more remaining stamped stood form more path rest line others one are is,
  ap (λ xs. xs ++ line) whole ∙ append_assoc had rest line,
  omega (arith, greatest),
)

-- the path of a file
abbrev pub path_of : Bor (List ℕ) → List ℕ
path_of path = path.now

-- the paths of the first `k + 1` files are those of the first `k` and one more
pub paths_more : (images : List (Bor (List ℕ))) (k : ℕ) (d : Bor (List ℕ)) → k < length images
    → take (k + 1) (map path_of images) ≡ take k (map path_of images) ++ (get_or images k d).now ∷ []
paths_more images k d within =
    take_more (map path_of images) k d.now (omega (arith, within, length-map images path_of))
    ∙ ap (λ path. take k (map path_of images) ++ path ∷ []) (get_or-map path_of images k d d.now within)

-- the lines of the first `k` files are printed after the front, with the greatest of their statuses
pub record ArePrinted {F : Type 0} (remaining : F → Option (List ℕ)) (stamped : F → Stamp → Type 0) (stood : Stamp → Type 0) (form : GuessForm) (images : List (Bor (List ℕ))) (k : ℕ) (old new : Option (List ℕ)) (status : ℕ) : Type 0 where
  pub lines : List ℕ
  pub are : AreIdentified remaining stamped stood form (take k (map path_of images)) lines status
  pub whole : Appends old new (front_of form ++ lines)

-- if the front is printed, those of no file are
pub printed_none : {F : Type 0} (remaining : F → Option (List ℕ)) (stamped : F → Stamp → Type 0) (stood : Stamp → Type 0) (form : GuessForm) (images : List (Bor (List ℕ))) (a b : Option (List ℕ))
    → Appends a b (front_of form) → ArePrinted remaining stamped stood form images 0 a b 0
printed_none remaining stamped stood form images a b out =
    record { lines = []; are = (refl, refl); whole = subst (Appends a b) (sym (append-nil (front_of form))) out }

-- after one more file, those of `k + 1` files are
pub printed_more : {F : Type 0} (remaining : F → Option (List ℕ)) (stamped : F → Stamp → Type 0) (stood : Stamp → Type 0) (form : GuessForm) (images : List (Bor (List ℕ))) (k : ℕ) (d : Bor (List ℕ)) (a b c : Option (List ℕ)) (status one : ℕ)
    → k < length images → ArePrinted remaining stamped stood form images k a b status
    → (line : List ℕ) × IsLine remaining stamped stood form (get_or images k d).now line one × Appends b c line
    → ArePrinted remaining stamped stood form images (k + 1) a c (max status one)
printed_more remaining stamped stood form images k d a b c status one within had (line, is, out) = record {
  lines = had.lines ++ line;
  are = subst (λ paths. AreIdentified remaining stamped stood form paths (had.lines ++ line) (max status one)) (sym (paths_more images k d within))
      (one_more remaining stamped stood form (take k (map path_of images)) (get_or images k d).now had.lines line status one had.are is);
  whole = subst (Appends a c) (append_assoc (front_of form) had.lines line) (Appends-trans a b c (front_of form ++ had.lines) line had.whole out);
}

-- the first bytes of two lists, behind the first one
take_past : (xs ys : List ℕ) (n : ℕ) → take (length xs + n) (xs ++ ys) ≡ xs ++ take n ys
take_past xs ys n =
    take-add (length xs) n (xs ++ ys)
    ∙ (ap (λ t. t ++ take n (drop (length xs) (xs ++ ys))) (take_at xs ys (length xs) refl)
    ∙ ap (λ t. xs ++ take n t) (drop_at xs ys (length xs) refl))

-- if a part of some bytes follows others, so much of both is a part of them
pub cut_behind : (a b c : Option (List ℕ)) (xs ys : List ℕ) (count : ℕ) → Appends a b xs → AppendsFront b c ys count → AppendsFront a c (xs ++ ys) (length xs + count)
cut_behind a b c xs ys count had cut =
    (omega (arith, length-append xs ys, cut.0), subst (Appends a c) (sym (take_past xs ys count)) (Appends-trans a b c xs (take count ys) had cut.1))

-- if standard output fails at the line of one more file, the run breaks off
pub breaks_off : {F : Type 0} (remaining : F → Option (List ℕ)) (stamped : F → Stamp → Type 0) (stood : Stamp → Type 0) (form : GuessForm) (images : List (Bor (List ℕ))) (k : ℕ) (d : Bor (List ℕ)) (streams : Streams) (b : Option (List ℕ))
    (status : ℕ) (line : List ℕ) (count one : ℕ) → k < length images → ArePrinted remaining stamped stood form images k streams.old b status
    → IsLine remaining stamped stood form (get_or images k d).now line one → AppendsFront b streams.new line count → streams.failed ≡ true
    → streams.lines ≡ fault_line Output → RunsIdentify remaining stamped stood streams form (map path_of images) 3
breaks_off remaining stamped stood form images k d streams b status line count one within had is cut broken said =
    inr (
      k + 1,
      had.lines ++ line,
      max status one,
      subst (λ paths. AreIdentified remaining stamped stood form paths (had.lines ++ line) (max status one)) (sym (paths_more images k d within))
          (one_more remaining stamped stood form (take k (map path_of images)) (get_or images k d).now had.lines line status one had.are is),
      record {
        status = refl;
        front = (
          length (front_of form ++ had.lines) + count,
          subst (λ text. AppendsFront streams.old streams.new text (length (front_of form ++ had.lines) + count)) (append_assoc (front_of form) had.lines line)
              (cut_behind streams.old b streams.new (front_of form ++ had.lines) line count had.whole cut),
        );
        broken = broken;
        said = said;
      },
    )

-- if standard output fails before the first line, the run breaks off
pub breaks_first : {F : Type 0} (remaining : F → Option (List ℕ)) (stamped : F → Stamp → Type 0) (stood : Stamp → Type 0) (form : GuessForm) (paths : List (List ℕ)) (streams : Streams) (count : ℕ)
    → AppendsFront streams.old streams.new (front_of form) count → streams.failed ≡ true → streams.lines ≡ fault_line Output
    → RunsIdentify remaining stamped stood streams form paths 3
breaks_first remaining stamped stood form paths streams count cut broken said =
    inr (
      0,
      [],
      0,
      (refl, refl),
      record {
        status = refl;
        front = (count, subst (λ text. AppendsFront streams.old streams.new text count) (sym (append-nil (front_of form))) cut);
        broken = broken;
        said = said;
      },
    )

-- if the lines of all files are printed, the run is over
pub printed_all : {F : Type 0} (remaining : F → Option (List ℕ)) (stamped : F → Stamp → Type 0) (stood : Stamp → Type 0) (form : GuessForm) (images : List (Bor (List ℕ))) (k : ℕ) (streams : Streams) (status : ℕ) → length images ≤ k
    → ArePrinted remaining stamped stood form images k streams.old streams.new status → streams.failed ≡ streams.had_failed → streams.lines ≡ []
    → RunsIdentify remaining stamped stood streams form (map path_of images) status
printed_all remaining stamped stood form images k streams status all had working said =
    let whole : take k (map path_of images) ≡ map path_of images = take_all k (map path_of images) (omega (arith, all, length-map images path_of)) in
    inl (
      had.lines,
      status,
      subst (λ paths. AreIdentified remaining stamped stood form paths had.lines status) whole had.are,
      record { status = refl; whole = had.whole; working = working; said = said },
    )

-- the status of a line is at most 4
pub line_few : {F : Type 0} (remaining : F → Option (List ℕ)) (stamped : F → Stamp → Type 0) (stood : Stamp → Type 0) (form : GuessForm) (path line : List ℕ) (one : ℕ) → IsLine remaining stamped stood form path line one → one ≤ 4
line_few remaining stamped stood form path line one (inl told) = omega (arith, told.0)
line_few remaining stamped stood form path line one (inr (inl three, none)) = omega (arith, three)
line_few remaining stamped stood form path line one (inr (inr four, none)) = omega (arith, four)

-- so is the greatest of them
lines_few : {F : Type 0} (remaining : F → Option (List ℕ)) (stamped : F → Stamp → Type 0) (stood : Stamp → Type 0) (form : GuessForm) (paths : List (List ℕ)) (lines : List ℕ) (read : ℕ) → AreIdentified remaining stamped stood form paths lines read → read ≤ 4
lines_few remaining stamped stood form [] lines read are = omega (arith, are.1)
lines_few remaining stamped stood form (path ∷ more) lines read (line, one, rest, others, is, are, whole, greatest) =
    let few = line_few remaining stamped stood form path line one is in
    let rest_few = lines_few remaining stamped stood form more rest others are in
    omega (arith, greatest, few, rest_few)

-- a run of `identify` ends as that of a command that shows part of an image
pub ends_identified : {F : Type 0} (remaining : F → Option (List ℕ)) (stamped : F → Stamp → Type 0) (stood : Stamp → Type 0) (form : GuessForm) (streams : Streams) (paths : List (List ℕ)) (status : ℕ)
    → RunsIdentify remaining stamped stood streams form paths status → IsEnd streams status
ends_identified remaining stamped stood form streams paths status (inl (lines, read, are, printed)) =
    let few = lines_few remaining stamped stood form paths lines read are in
    record { within = omega (arith, few, printed.status); whole = λ e. (printed.working, printed.said) }
ends_identified remaining stamped stood form streams paths status (inr (count, lines, read, are, broken)) =
    record { within = omega (arith, broken.status); whole = λ e. absurd (omega (arith, broken.status, e)) }
