use Rattle.std.proofs.Common.{◌++◌, ◌∙◌, ap, codes, append_assoc}
use Rattle.std.specs.Fmt.{decimal}
use Rattle.std.specs.String.{string_bytes}
use Rattle.vol_inspect.specs.declared.svg_picture.TheConstants.{STYLE}
use Rattle.vol_inspect.proofs.svg_picture.push_head.Goals as goal

pub returns : goal.returns
returns c =
    let front =
    codes "<svg xmlns='http://www.w3.org/2000/svg' viewBox='0 0 " ++ (decimal c.args.across ++ (codes " " ++ (decimal c.args.down
    ++ (codes "' role='img'>\n<title>" ++ (decimal c.args.count ++ (codes " blocks, " ++ (decimal c.args.each ++ codes " in each square</title>\n"))))))) in
    c.in_ok-push_str.ensures.bytes
    ∙ (ap (λ xs. xs ++ STYLE.now) c.in_ok-write.ensures.bytes ∙ append_assoc (string_bytes c.args.text.now) front STYLE.now)
