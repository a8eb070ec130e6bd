-- Scripts that were read, and reasons to play no script.
use Rattle.std.proofs.Common.{◌≡◌, ℕ, ◌+◌, ◌≤◌, Bool, List, [], ◌∷◌, length, Some, Result, Ok, Err, false, true, refl, sym, ap, arith}
use Rattle.std.proofs.lemmas.Bool.{leb-false}
use Rattle.std.specs.Prelude.{Vec, cond, count_by, drop, nat_le, ◌&&◌, if◌then◌else◌}
use Rattle.std.specs.Result.{result_map_both}
use Rattle.std.specs.Global.{Global}
use Rattle.vol_scripts.specs.Grammar.{query_in, step_in}
use Rattle.command_faults.specs.declared.line_flaw.LineFlaw.TheVariants as flaws
use Rattle.command_faults.specs.declared.line_flaw.WordForm.TheVariants as forms
use Rattle.vol_scripts.specs.Scripts.{BadLine, asked_in, before_scripts, is_for_view, script_after, scripts_from, views_after}
use Rattle.vol_scripts.specs.declared.steps.Script.{Script}
use Rattle.vol_scripts.specs.declared.steps.Script.TheVariants as kinds
use Rattle.vol_scripts.specs.declared.steps.ScriptStep.{ScriptStep}
use Rattle.vol_volume.specs.declared.queries.Query.{Query}
use Rattle.vol_play.specs.Players.{is_view}
use Rattle.vol_play.proofs.ListLaws.{counted_first}

-- if all scripts were read, the first was read, and so were those after it
before_read : (first : Result Script BadLine) (number : ℕ) (others : Result (List Script) (ℕ × BadLine)) (read : List Script) → before_scripts first number others ≡ Ok read
    → (head : Script) × (tail : List Script) × (first ≡ Ok head) × (others ≡ Ok tail) × (read ≡ head ∷ tail)
before_read (Err line) number others read is = absurd (let e = is in cc)
before_read (Ok script) number (Ok tail) read is = let e = is in (script, tail, refl, refl, cc)
before_read (Ok script) number (Err later) read is = absurd (let e = is in cc)

-- the number of scripts that were read is the number of scripts
pub read_many : (number views : ℕ) (scripts : List (Vec ℕ Global)) (read : List Script) → scripts_from number views scripts ≡ Ok read → length read ≡ length scripts
read_many number views [] read is = let e = is in let none : read ≡ [] = cc in ap length none
read_many number views (script ∷ scripts) read is =
    let parts = before_read (script_after views script.items) number (scripts_from (number + 1) (views_after views script.items) scripts) read is in
    let others = read_many (number + 1) (views_after views script.items) scripts parts.1 parts.3 in
    let all = ap length parts.4 in
    omega arith

-- if the lines of a session's script were read, the script is for a session
made_session : (asked : Result (List ScriptStep) BadLine) (script : Script) → result_map_both kinds.Session (λ line. line) asked ≡ Ok script → is_view script ≡ false
made_session (Ok steps) script is = let e = is in let same : script ≡ kinds.Session steps = cc in ap is_view same
made_session (Err line) script is = absurd (let e = is in cc)

made_view : (asked : Result (List Query) BadLine) (script : Script) → result_map_both kinds.View (λ line. line) asked ≡ Ok script → is_view script ≡ true
made_view (Ok queries) script is = let e = is in let same : script ≡ kinds.View queries = cc in ap is_view same
made_view (Err line) script is = absurd (let e = is in cc)

read_by : (views : ℕ) (says over : Bool) (viewed asked : Result Script BadLine) (script : Script) → over ≡ nat_le 16 views
    → (viewed ≡ Ok script → is_view script ≡ true) → (asked ≡ Ok script → is_view script ≡ false) → views ≤ 16
    → (if says && over then Err (1, Some flaws.TooManyViews) else (if says then viewed else asked)) ≡ Ok script
    → ((if says then views + 1 else views) ≡ cond (is_view script) 1 0 + views) × ((if says then views + 1 else views) ≤ 16)
read_by views true true viewed asked script over_is as_view as_session few is = absurd (let e = is in cc)
read_by views true false viewed asked script over_is as_view as_session few is =
    let yes = as_view is in let below = leb-false 16 views (sym over_is) in (rw yes (omega arith), omega arith)
read_by views false over viewed asked script over_is as_view as_session few is = let no = as_session is in (rw no (omega arith), few)

-- if a script is read after `views` scripts for views, their number with this script is greater by 1 if it is for a view, and is at most 16
read_one : (views : ℕ) (bytes : List ℕ) (script : Script) → views ≤ 16 → script_after views bytes ≡ Ok script
    → (views_after views bytes ≡ cond (is_view script) 1 0 + views) × (views_after views bytes ≤ 16)
read_one views bytes script few is =
    read_by views (is_for_view bytes) (nat_le 16 views) _ _ script refl (made_view (asked_in query_in forms.Query 2 (drop 5 bytes)) script)
    (made_session (asked_in step_in forms.Command 1 bytes) script) few is

-- at most 16 scripts that were read are for views
pub read_views : (number views : ℕ) (scripts : List (Vec ℕ Global)) (read : List Script) → views ≤ 16 → scripts_from number views scripts ≡ Ok read
    → views + count_by is_view read ≤ 16
read_views number views [] read few is = let e = is in let none : read ≡ [] = cc in let count = ap (count_by is_view) none in omega arith
read_views number views (script ∷ scripts) read few is =
    let parts = before_read (script_after views script.items) number (scripts_from (number + 1) (views_after views script.items) scripts) read is in
    let one = read_one views script.items parts.0 few parts.2 in
    let others = read_views (number + 1) (views_after views script.items) scripts parts.1 one.1 parts.3 in
    let count = ap (count_by is_view) parts.4 in
    omega (arith, one.0, counted_first is_view parts.0 parts.1)
