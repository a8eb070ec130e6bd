use Rattle.std.proofs.Common.{◌∙◌, ℕ, ap, inl, inr}
use Rattle.std.specs.Global.{Vec}
use Rattle.command_faults.specs.Faults.{line_after}
use Rattle.vol_scripts.proofs.unread_scripts.refuse.Goals as goal

pub returns-in-Ok : goal.returns-in-Ok
returns-in-Ok c =
    let told = c.report.ensures in
    let line = ap line_after told.fault.1 ∙ ap (λ (text : Vec ℕ). text.items) c.into_bytes.ensures.value ∙ c.in-Ok.ensures in
    rw c.in-Line.is (inl (record { unsaved = told.unsaved; ends = told.fault.0; told = line }, (c.into_bytes.result, told.fault.1)))

pub returns-in-Err : goal.returns-in-Err
returns-in-Err c =
    let told = c.report-in-Err.ensures in
    rw c.in-Line.is (inr (record { unsaved = told.unsaved; ends = told.fault.0; told = ap line_after told.fault.1 }))

pub returns-in-NoMemory : goal.returns-in-NoMemory
returns-in-NoMemory c =
    let told = c.report-in-NoMemory.ensures in
    rw c.in-NoMemory.is (record { unsaved = told.unsaved; ends = told.fault.0; told = ap line_after told.fault.1 })
