use Rattle.std.proofs.Common.{refl}
use Rattle.command_reads.specs.Inode.{IsInodeText, IsInodeFault}
use Rattle.command_terms.specs.declared.looks.OutputForm.TheVariants as forms
use Rattle.command_reads.proofs.Printed.{showing, string_sight}
use Rattle.command_reads.proofs.inode.show_number.Goals as goal

pub returns-in-Text : goal.returns-in-Text
returns-in-Text g c =
    let edition = c.args.edition in
    let image = c.args.image.now in
    let number = c.args.number in
    let text = c.inode_text-text in
    rw c.in-Text.is (showing _ _ _ _ _ refl
    (string_sight (IsInodeText edition image number forms.Text) (IsInodeFault edition image number) text.result c.plain_string.result text.ensures.text text.ensures.fault
    c.plain_string.ensures) c.print.ensures.printed c.print.ensures.told)

pub returns-in-Json : goal.returns-in-Json
returns-in-Json g c = rw c.in-Json.is c.print_json.ensures
