use Rattle.std.proofs.Common.{ap, ◌∷◌, [], ◌++◌, ◌+◌, ◌%◌, ◌∙◌, arith}
use Rattle.vol_reports.proofs.Digits.{digit_more, digit_alone}
use Rattle.vol_reports.proofs.texts.+push_number.Goals as goal
use Rattle.vol_reports.proofs.texts.+push_number.Goals.{then-number-ge10+in_ok-push_number, else-number-ge10}

pub returns : goal.returns
returns t c =
    let n = c.args.number in
    let old = c.args.text.now.items in
    let pushed = c.in_ok-push.ensures.items in
    elim c.if-number-ge10.branch [
      | then-number-ge10+in_ok-push_number w ↦
          digit_more old w.push_number.new.text.items c.push.new.self.items n (omega arith) w.if-number-ge10.true w.in_ok-push_number.ensures
          (pushed ∙ ap (λ v. v.items ++ (48 + n % 10) ∷ []) w.text-is)
      | else-number-ge10 w ↦
          digit_alone old c.push.new.self.items n w.if-number-ge10.false (pushed ∙ ap (λ v. v.items ++ (48 + n % 10) ∷ []) w.text-is)
    ]
