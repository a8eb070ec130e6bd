use Rattle.std.proofs.Common.{arith}
use Rattle.vol_views.proofs.Views.{number_on}
use Rattle.vol_play.proofs.QueryLaws.{question_next, question_place}
use Rattle.vol_play.proofs.queries.ask.Goals as goal

pub returns-in-Ok : goal.returns-in-Ok
returns-in-Ok c =
    let on = number_on c.args.view.now.log c.ask.new.self.log c.ask.ensures.goes_on in
    let sees = c.in-Ok.ensures.sees in
    let none = question_place c.ask.new.self.log c.in-Ok.receipt c.args.query c.in-Ok.ensures.asked sees.agrees in
    record {
      came = (c.in-Ok.ensures.asked, omega (arith, on, sees.at), none);
      next = let same = question_next c.in-Ok.receipt.at c.in-Ok.receipt.outcome none in omega (arith, same, sees.at);
      book = c.ask.ensures.book;
      receipts = sees.receipts;
    }
