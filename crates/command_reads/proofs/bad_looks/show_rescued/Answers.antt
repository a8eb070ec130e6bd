use Rattle.std.proofs.Common.{List, Bool, subst, refl}
use Rattle.std.specs.Prelude.{option_map}
use Rattle.command_reads.specs.BadLists.{list_sights}
use Rattle.command_reads.specs.BadUses.{map_sights}
use Rattle.command_reads.specs.Find.{found_sights}
use Rattle.command_reads.specs.Print.{IsSight}
use Rattle.command_reads.specs.Sums.{sums_sights}
use Rattle.command_reads.proofs.Printed.{showing}
use Rattle.command_reads.proofs.bad_looks.show_rescued.Goals as goal

pub returns-in-Export : goal.returns-in-Export
returns-in-Export g c = rw c.in-Export.is c.export_read.ensures

pub returns-in-Find : goal.returns-in-Find
returns-in-Find g c =
    rw c.in-Find.is (showing _ _ _ _ _ refl
    (subst (λ (marks : List Bool). IsSight (found_sights c.args.edition c.args.read.now.image marks c.in-Find.path.now (option_map (λ word. word.now) c.in-Find.name) c.in-Find.lost c.in-Find.form c.args.screen) c.find_in-shown.result) c.deref.ensures.value
    c.find_in-shown.ensures) c.print.ensures.printed c.print.ensures.told)

pub returns-in-Sums : goal.returns-in-Sums
returns-in-Sums g c =
    rw c.in-Sums.is (showing _ _ _ _ _ refl
    (subst (λ (marks : List Bool). IsSight (sums_sights c.args.edition c.args.read.now.image marks c.in-Sums.path.now c.in-Sums.form c.in-Sums.lost) c.sums_of-shown.result) c.deref-in-Sums.ensures.value
    c.sums_of-shown.ensures) c.print-in-Sums.ensures.printed c.print-in-Sums.ensures.told)

pub returns-in-Map : goal.returns-in-Map
returns-in-Map g c =
    rw c.in-Map.is (showing _ _ _ _ _ refl
    (subst (λ (marks : List Bool). IsSight (map_sights c.args.edition c.args.read.now.image marks c.args.screen c.in-Map.picture) c.map_in-shown.result)
    c.deref-in-Map.ensures.value c.map_in-shown.ensures) c.print-in-Map.ensures.printed c.print-in-Map.ensures.told)

pub returns-in-List : goal.returns-in-List
returns-in-List g c =
    rw c.in-List.is (showing _ _ _ _ _ refl
    (subst (λ (marks : List Bool). IsSight (list_sights c.args.edition c.args.read.now.image marks c.in-List.path.now c.in-List.listing c.args.screen) c.list_in-shown.result)
    c.deref-in-List.ensures.value c.list_in-shown.ensures) c.print-in-List.ensures.printed c.print-in-List.ensures.told)
