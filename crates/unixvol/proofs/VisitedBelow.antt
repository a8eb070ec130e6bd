-- The files and folders that `identify -r` visits, and the end of its run.
use Rattle.std.proofs.Common.{◌≡◌, ◌≤◌, ◌<◌, ◌∷◌, ◌++◌, ◌+◌, max, true, ℕ, zero, suc, List, [], Option, None, Some, inl, inr, length, map, take, get_or, refl, sym, ap, subst, arith}
use Rattle.std.specs.Prelude.{string_bytes}
use Rattle.std.specs.declared.io.Error.{Error}
use Rattle.std.proofs.lemmas.List.{append_assoc, append-nil}
use Rattle.std.proofs.KnownBytes.{Appends-trans}
use Rattle.std.specs.Borrow.{Bor}
use Rattle.std.specs.Io.KnownBytes.{Appends}
use Rattle.pdp_words.specs.Devices.{AppendsFront}
use Rattle.command_faults.specs.Faults.{fault_line}
use Rattle.command_faults.specs.Streams.{Streams}
use Rattle.command_faults.specs.declared.fault.Fault.TheVariants.{Output}
use Rattle.command_words.specs.declared.invocation.GuessForm.{GuessForm}
use Rattle.host_files.specs.declared.folders.FolderListing.{FolderListing}
use Rattle.host_files.specs.declared.folders.Found.{Found}
use Rattle.host_files.specs.declared.folders.FoundKind.{FoundKind}
use Rattle.host_files.specs.declared.folders.FoundKind.TheVariants as found_kinds
use Rattle.host_files.specs.declared.image_file.Stamp.{Stamp}
use Rattle.unixvol.specs.Below.{AreStarted, AreVisited, IsOpened, IsStarted, IsVisit, IsVisitOf, RunsBelow, VisitsAll, listing_status}
use Rattle.unixvol.specs.Identify.{front_of}
use Rattle.unixvol.specs.Runs.{IsEnd}
use Rattle.unixvol.proofs.Identified.{cut_behind, line_few, path_of, paths_more}

-- after what some words name, what one more names
started_more : (stood : Stamp → Type 0) (paths : List (List ℕ)) (path : List ℕ) (all : List Found) (one : Found)
    → AreStarted stood paths all → IsStarted stood path one → AreStarted stood (paths ++ path ∷ []) (all ++ one ∷ [])
started_more stood [] path all one are is = (one, [], is, refl, ap (λ xs. xs ++ one ∷ []) are)
started_more stood (first ∷ more) path all one (had, others, was, are, whole) is =
    (had, others ++ one ∷ [], was, started_more stood more path others one are is, ap (λ xs. xs ++ one ∷ []) whole)

-- the same of the first `k + 1` words
pub started_next : (stood : Stamp → Type 0) (images : List (Bor (List ℕ))) (k : ℕ) (d : Bor (List ℕ)) (all more : List Found) (one : Found)
    → k < length images → AreStarted stood (take k (map path_of images)) all → IsStarted stood (get_or images k d).now one → more ≡ all ++ one ∷ []
    → AreStarted stood (take (k + 1) (map path_of images)) more
started_next stood images k d all more one within are is whole =
    subst (AreStarted stood (take (k + 1) (map path_of images))) (sym whole)
    (subst (λ (paths : List (List ℕ)). AreStarted stood paths (all ++ one ∷ [])) (sym (paths_more images k d within))
    (started_more stood (take k (map path_of images)) (get_or images k d).now all one are is))

-- after so many visits, this stack is left, and the lines so far are printed after the front, with the greatest of their statuses
pub record ArePrintedBelow {F : Type 0} (remaining : F → Option (List ℕ)) (stamped : F → Stamp → Type 0) (stood : Stamp → Type 0) (listed : List ℕ → FolderListing → Type 0) (form : GuessForm) (start : List Found) (count : ℕ) (left : List Found) (old new : Option (List ℕ)) (status : ℕ) : Type 0 where
  pub lines : List ℕ
  pub are : AreVisited remaining stamped stood listed form count start left lines status
  pub whole : Appends old new (front_of form ++ lines)

-- if the front is printed, nothing is visited
pub visited_none : {F : Type 0} (remaining : F → Option (List ℕ)) (stamped : F → Stamp → Type 0) (stood : Stamp → Type 0) (listed : List ℕ → FolderListing → Type 0) (form : GuessForm) (start : List Found) (a b : Option (List ℕ))
    → Appends a b (front_of form) → ArePrintedBelow remaining stamped stood listed form start 0 start a b 0
visited_none remaining stamped stood listed form start a b out =
    record { lines = []; are = (refl, refl, refl); whole = subst (Appends a b) (sym (append-nil (front_of form))) out }

-- one more visit
one_more : {F : Type 0} (remaining : F → Option (List ℕ)) (stamped : F → Stamp → Type 0) (stood : Stamp → Type 0) (listed : List ℕ → FolderListing → Type 0) (form : GuessForm) (start left left' under : List Found) (found : Found) (more : List Found) (count status one : ℕ) (lines line : List ℕ)
    → AreVisited remaining stamped stood listed form count start left lines status → left ≡ under ++ found ∷ []
    → IsVisit remaining stamped stood listed form found line more one → left' ≡ under ++ more
    → AreVisited remaining stamped stood listed form (count + 1) start left' (lines ++ line) (max status one)
one_more remaining stamped stood listed form start left left' under found more count status one lines line are top is after =
    let next : suc count ≡ count + 1 = omega arith in
    let grown : AreVisited remaining stamped stood listed form (suc count) start left' (lines ++ line) (max status one) =
    (under, found, lines, status, line, more, one, subst (λ (stack : List Found). AreVisited remaining stamped stood listed form count start stack lines status) top are, is, after, refl, refl)
    in
    subst (λ (n : ℕ). AreVisited remaining stamped stood listed form n start left' (lines ++ line) (max status one)) next grown

-- after one more visit, whose line is printed
pub visited_more : {F : Type 0} (remaining : F → Option (List ℕ)) (stamped : F → Stamp → Type 0) (stood : Stamp → Type 0) (listed : List ℕ → FolderListing → Type 0) (form : GuessForm) (start left left' under : List Found) (found : Found) (count status one : ℕ) (a b c : Option (List ℕ))
    → ArePrintedBelow remaining stamped stood listed form start count left a b status → left ≡ under ++ found ∷ []
    → (line : List ℕ) × (more : List Found) × IsVisit remaining stamped stood listed form found line more one × (left' ≡ under ++ more) × Appends b c line
    → ArePrintedBelow remaining stamped stood listed form start (count + 1) left' a c (max status one)
visited_more remaining stamped stood listed form start left left' under found count status one a b c had top (line, more, is, after, out) = record {
  lines = had.lines ++ line;
  are = one_more remaining stamped stood listed form start left left' under found more count status one had.lines line had.are top is after;
  whole = subst (Appends a c) (append_assoc (front_of form) had.lines line) (Appends-trans a b c (front_of form ++ had.lines) line had.whole out);
}

-- if standard output fails at the line of one more, nothing further is visited
pub breaks_off : {F : Type 0} (remaining : F → Option (List ℕ)) (stamped : F → Stamp → Type 0) (stood : Stamp → Type 0) (listed : List ℕ → FolderListing → Type 0) (form : GuessForm) (start left under : List Found) (found : Found) (count status one cut : ℕ) (streams : Streams) (b : Option (List ℕ)) (line : List ℕ)
    → ArePrintedBelow remaining stamped stood listed form start count left streams.old b status → left ≡ under ++ found ∷ []
    → IsVisit remaining stamped stood listed form found line [] one → AppendsFront b streams.new line cut → streams.failed ≡ true
    → streams.lines ≡ fault_line Output → VisitsAll remaining stamped stood listed streams form start 3
breaks_off remaining stamped stood listed form start left under found count status one cut streams b line had top is front broken said = (
  count + 1,
  under ++ [],
  had.lines ++ line,
  max status one,
  one_more remaining stamped stood listed form start left (under ++ []) under found [] count status one had.lines line had.are top is refl,
  inr (inl (record {
    status = refl;
    front = (
      length (front_of form ++ had.lines) + cut,
      subst (λ text. AppendsFront streams.old streams.new text (length (front_of form ++ had.lines) + cut)) (append_assoc (front_of form) had.lines line)
          (cut_behind streams.old b streams.new (front_of form ++ had.lines) line cut had.whole front),
    );
    broken = broken;
    said = said;
  })),
)

-- if standard output fails before the first line, nothing is visited
pub breaks_first : {F : Type 0} (remaining : F → Option (List ℕ)) (stamped : F → Stamp → Type 0) (stood : Stamp → Type 0) (listed : List ℕ → FolderListing → Type 0) (form : GuessForm) (start : List Found) (streams : Streams) (cut : ℕ)
    → AppendsFront streams.old streams.new (front_of form) cut → streams.failed ≡ true → streams.lines ≡ fault_line Output
    → VisitsAll remaining stamped stood listed streams form start 3
breaks_first remaining stamped stood listed form start streams cut front broken said = (
  0,
  start,
  [],
  0,
  (refl, refl, refl),
  inr (inl (record {
    status = refl;
    front = (cut, subst (λ text. AppendsFront streams.old streams.new text cut) (sym (append-nil (front_of form))) front);
    broken = broken;
    said = said;
  })),
)

-- if nothing is left, all is visited
pub visited_all : {F : Type 0} (remaining : F → Option (List ℕ)) (stamped : F → Stamp → Type 0) (stood : Stamp → Type 0) (listed : List ℕ → FolderListing → Type 0) (form : GuessForm) (start left : List Found) (count status : ℕ) (streams : Streams)
    → ArePrintedBelow remaining stamped stood listed form start count left streams.old streams.new status → left ≡ []
    → streams.failed ≡ streams.had_failed → streams.lines ≡ [] → VisitsAll remaining stamped stood listed streams form start status
visited_all remaining stamped stood listed form start left count status streams had none working said =
    (count, left, had.lines, status, had.are, inl (none, record { status = refl; whole = had.whole; working = working; said = said }))

-- if as many were visited as may be, the rest isn't
pub gives_up : {F : Type 0} (remaining : F → Option (List ℕ)) (stamped : F → Stamp → Type 0) (stood : Stamp → Type 0) (listed : List ℕ → FolderListing → Type 0) (form : GuessForm) (start left : List Found) (count status end : ℕ) (streams : Streams)
    → ArePrintedBelow remaining stamped stood listed form start count left streams.old streams.new status → count ≡ 4294967295 → end ≡ max status 3
    → streams.failed ≡ streams.had_failed → streams.lines ≡ [] → VisitsAll remaining stamped stood listed streams form start end
gives_up remaining stamped stood listed form start left count status end streams had many is working said =
    (count, left, had.lines, status, had.are, inr (inr (many, record { status = is; whole = had.whole; working = working; said = said })))

-- the status of a folder that was read is at most 4
listing_few : (fault : Option Error) → listing_status fault ≤ 4
listing_few None = omega arith
listing_few (Some why) = omega arith

-- so is that of one that was opened
opened_few : (listed : List ℕ → FolderListing → Type 0) (path : List ℕ) (more : List Found) (status : ℕ) → IsOpened listed path more status → status ≤ 4
opened_few listed path more status (inl (listing, held, stacked, is)) = let few = listing_few listing.fault in omega (arith, is, few)
opened_few listed path more status (inr (inl three, none)) = omega (arith, three)
opened_few listed path more status (inr (inr four, none)) = omega (arith, four)

-- so is that of a visit
visit_few : {F : Type 0} (remaining : F → Option (List ℕ)) (stamped : F → Stamp → Type 0) (stood : Stamp → Type 0) (listed : List ℕ → FolderListing → Type 0) (form : GuessForm) (kind : FoundKind) (path line : List ℕ) (more : List Found) (one : ℕ)
    → IsVisitOf remaining stamped stood listed form kind path line more one → one ≤ 4
visit_few remaining stamped stood listed form found_kinds.File path line more one is = line_few remaining stamped stood form path line one is.0
visit_few remaining stamped stood listed form found_kinds.Folder path line more one is = opened_few listed path more one is.0
visit_few remaining stamped stood listed form found_kinds.Other path line more one is = omega (arith, is.2)

-- so is the greatest of them
visits_few : {F : Type 0} (remaining : F → Option (List ℕ)) (stamped : F → Stamp → Type 0) (stood : Stamp → Type 0) (listed : List ℕ → FolderListing → Type 0) (form : GuessForm) (count : ℕ) (start left : List Found) (lines : List ℕ) (status : ℕ)
    → AreVisited remaining stamped stood listed form count start left lines status → status ≤ 4
visits_few remaining stamped stood listed form zero start left lines status are = omega (arith, are.2)
visits_few remaining stamped stood listed form (suc count) start left lines status (under, found, before, read, line, more, one, are, is, after, whole, greatest) =
    let few = visits_few remaining stamped stood listed form count start (under ++ found ∷ []) before read are in
    let one_few = visit_few remaining stamped stood listed form found.kind (string_bytes found.path) line more one is in
    omega (arith, greatest, few, one_few)

-- a run of `identify -r` ends as that of `identify` does
pub ends_below : {F : Type 0} (remaining : F → Option (List ℕ)) (stamped : F → Stamp → Type 0) (stood : Stamp → Type 0) (listed : List ℕ → FolderListing → Type 0) (form : GuessForm) (streams : Streams) (paths : List (List ℕ)) (status : ℕ)
    → RunsBelow remaining stamped stood listed streams form paths status → IsEnd streams status
ends_below remaining stamped stood listed form streams paths status (inl (start, is, (count, left, lines, read, are, inl (none, printed)))) =
    let few = visits_few remaining stamped stood listed form count start left lines read are in
    record { within = omega (arith, few, printed.status); whole = λ e. (printed.working, printed.said) }
ends_below remaining stamped stood listed form streams paths status (inl (start, is, (count, left, lines, read, are, inr (inl broken)))) =
    record { within = omega (arith, broken.status); whole = λ e. absurd (omega (arith, broken.status, e)) }
ends_below remaining stamped stood listed form streams paths status (inl (start, is, (count, left, lines, read, are, inr (inr (many, printed))))) =
    let few = visits_few remaining stamped stood listed form count start left lines read are in
    record { within = omega (arith, few, printed.status); whole = λ e. (printed.working, printed.said) }
ends_below remaining stamped stood listed form streams paths status (inr printed) =
    record { within = omega (arith, printed.status); whole = λ e. (printed.working, printed.said) }
