-- A list in progress: the lines that were read so far.
use Rattle.std.specs.Prelude.{ℕ, ◌+◌, ◌&&◌, ◌++◌, not, Bool, if◌then◌else◌, List, [], ◌∷◌, take, Option, Some, None, is_some, Result, Ok, Err, codes}
use Rattle.std.specs.Str.{bytes_eq}
use Rattle.pdp_words.specs.Steps.{and_then}
use Rattle.pack_lists.specs.Faults.{told}
use Rattle.pack_lists.specs.MemberLines.{boot_in, kind_named, member_in, root_in, sizes_in, time_in}
use Rattle.pack_lists.specs.Words.{words_in}
use Rattle.pack_lists.specs.declared.draft.Draft.{Draft}
use Rattle.pack_lists.specs.declared.draft.Stage.{Stage}
use Rattle.pack_lists.specs.declared.draft.Stage.TheVariants as stages
use Rattle.pack_lists.specs.declared.faults.LineFault.{LineFault}
use Rattle.pack_lists.specs.declared.faults.LineFault.TheVariants as faults
use Rattle.pack_lists.specs.declared.faults.ListFault.{ListFault}
use Rattle.pack_lists.specs.declared.faults.ListFlaw.TheVariants as flaws
use Rattle.pack_lists.specs.declared.faults.ListWord.{ListWord}
use Rattle.pack_lists.specs.declared.faults.ListWord.TheVariants as forms
use Rattle.pack_lists.specs.declared.member_lines.MemberKind.{MemberKind}
use Rattle.pack_lists.specs.declared.members.ListedMember.{ListedMember}
use Rattle.pack_lists.specs.declared.members.ListedVolume.{ListedVolume}
use Rattle.pack_lists.specs.declared.members.RootMarks.{RootMarks}
use Rattle.pack_lists.specs.declared.members.VolumeSizes.{VolumeSizes}

-- a list in progress, as contracts see it: what its first two lines say, the file of the boot block, the marks of the root, and the members (this project)
abbrev pub Drafted : Type 0
Drafted = Stage × Option (List ℕ) × Option RootMarks × List ListedMember

-- a list in progress as contracts see it (this project)
abbrev pub drafted : Draft → Drafted
drafted draft = (draft.stage, draft.boot, draft.root, draft.members.items)

-- the list of which nothing was read yet (this project)
abbrev pub blank : Drafted
blank = (stages.Unsized, None, None, [])

-- true if a word begins a comment (this project)
abbrev pub is_comment : List ℕ → Bool
is_comment word = bytes_eq (take 1 word) (codes "#")

-- a word doesn't have this form (this project)
abbrev pub bad_word : {T : Type 0} → List ℕ → ListWord → Result T LineFault
bad_word word form = Err (faults.Flaw (flaws.Word word form))

-- a list in progress with the sizes of its volume (this project)
abbrev pub with_sizes : Drafted → List ℕ → List (List ℕ) → Result Drafted LineFault
with_sizes draft name words =
    if bytes_eq name (codes "volume") then and_then (sizes_in words) (λ sizes. Ok (stages.Untimed sizes, draft.1, draft.2, draft.3))
    else bad_word name forms.Volume

-- the volume with these sizes and this time (this project)
abbrev pub volume_of : VolumeSizes → ℕ → ListedVolume
volume_of sizes time = record { sizes = sizes; time = time }

-- a list in progress with the time of its volume (this project)
abbrev pub with_time : VolumeSizes → Drafted → List ℕ → List (List ℕ) → Result Drafted LineFault
with_time sizes draft name words =
    if bytes_eq name (codes "time") then and_then (time_in words) (λ time. Ok (stages.Begun (volume_of sizes time), draft.1, draft.2, draft.3))
    else bad_word name forms.Time

-- the form of the word that begins a line after the first two: `boot` and `root` come only once (this project)
abbrev pub wanted_of : Drafted → ListWord
wanted_of draft = forms.Line (not (is_some draft.1)) (not (is_some draft.2))

-- a list in progress with a member of this kind, if the first word of its line names one (this project)
abbrev pub with_member : ListedVolume → Drafted → List ℕ → List (List ℕ) → Option MemberKind → Result Drafted LineFault
with_member volume draft name words None = bad_word name (wanted_of draft)
with_member volume draft name words (Some kind) =
    and_then (member_in kind volume.time words) (λ member. Ok (draft.0, draft.1, draft.2, draft.3 ++ member ∷ []))

-- a list in progress with the file of its boot block, with the marks of its root, or with a member (this project)
abbrev pub with_more : ListedVolume → Drafted → List ℕ → List (List ℕ) → Result Drafted LineFault
with_more volume draft name words =
    if bytes_eq name (codes "boot") && not (is_some draft.1) then and_then (boot_in words) (λ boot. Ok (draft.0, Some boot, draft.2, draft.3))
    else if bytes_eq name (codes "root") && not (is_some draft.2) then and_then (root_in words) (λ root. Ok (draft.0, draft.1, Some root, draft.3))
    else with_member volume draft name words (kind_named name)

-- a list in progress with a line that begins with this word (this project)
abbrev pub with_named : Stage → Drafted → List ℕ → List (List ℕ) → Result Drafted LineFault
with_named stages.Unsized draft name words = with_sizes draft name words
with_named (stages.Untimed sizes) draft name words = with_time sizes draft name words
with_named (stages.Begun volume) draft name words = with_more volume draft name words

-- a list in progress with the line that has these words; a line without words, or whose first word begins with `#`, says nothing (this project)
abbrev pub with_words : Drafted → List (List ℕ) → Result Drafted LineFault
with_words draft [] = Ok draft
with_words draft (name ∷ words) = if is_comment name then Ok draft else with_named draft.0 draft name words

-- a list in progress with one more line (this project)
unfoldable pub with_line : Drafted → List ℕ → Result Drafted LineFault
with_line draft line = with_words draft (words_in line)

-- what was read of a line, or the fault of the list whose line with this number has this fault (this project)
abbrev pub in_line : {T : Type 0} → ℕ → Result T LineFault → Result T ListFault
in_line number (Ok read) = Ok read
in_line number (Err fault) = Err (told number fault)

-- a list in progress with more lines, the first of which has this number; or the first line that can't be read (this project)
unfoldable pub with_lines : ℕ → Drafted → List (List ℕ) → Result Drafted ListFault
with_lines number draft [] = Ok draft
with_lines number draft (line ∷ lines) = and_then (in_line number (with_line draft line)) (λ next. with_lines (number + 1) next lines)
