use Rattle.std.proofs.Common.{◌++◌, ◌∙◌, ap}
use Rattle.std.specs.Prelude.{codes}
use Rattle.vol_dir.specs.Tree.{tree}
use Rattle.vol_listing.specs.Lines.{shown, names_text, section_text}
use Rattle.vol_listing.proofs.Columns.{appended}
use Rattle.vol_listing.proofs.lines.push_section.Goals as goal

pub returns : goal.returns
unfolding section_text
returns c =
    appended c.args.text.now.items c.push_shown.new.text.items _ (shown c.args.style.screen c.args.place.now.path) _
    (c.in_ok-push_shown.ensures ∙ ap (λ path. c.args.text.now.items ++ shown c.args.style.screen path) c.as_slice-path.ensures)
    (appended c.push_shown.new.text.items c.extend_from_slice.new.self.items c.push_names.new.text.items (codes ":\n")
    (names_text c.args.style (tree c.args.geometry.now c.args.image.now) c.args.place.now.path) c.in_ok-extend_from_slice.ensures.items (c.in_ok-push_names.ensures ∙ ap (λ path. c.extend_from_slice.new.self.items ++ names_text c.args.style (tree c.args.geometry.now c.args.image.now) path) c.as_slice-path.ensures))
