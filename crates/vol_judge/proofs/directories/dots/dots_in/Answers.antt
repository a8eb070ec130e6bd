use Rattle.std.proofs.Common.{◌+◌, sym}
use Rattle.vol_dir.specs.Names.{dot, dot_dot}
use Rattle.vol_judge.specs.InodeMarks.{IsNamedUpTo}
use Rattle.vol_judge.proofs.DotEntries.{named_noted, named_found, named_all}
use Rattle.vol_judge.proofs.Parents.{some_number}
use Rattle.vol_judge.proofs.directories.dots.dots_in.Goals as goal

pub returns-then-is_some-2-clause-own : goal.returns-then-is_some-2-clause-own
returns-then-is_some-2-clause-own c =
    let noted : IsNamedUpTo c.args.geometry.now c.args.image.now c.args.d (c.in-Some.s + 1) dot c.noted-own.result =
    rw (c.noted-own.ensures, c.as_slice.ensures) (named_noted c.requires.entries c.requires.directory c.loop-s.invariant.own c.in-Some.ensures.next) in
    let some = some_number c.noted-own.result (sym c.if-is_some.ensures) in
    named_found some.0 c.requires.entries noted some.1

pub returns-then-is_some-2-clause-up : goal.returns-then-is_some-2-clause-up
returns-then-is_some-2-clause-up c =
    let noted : IsNamedUpTo c.args.geometry.now c.args.image.now c.args.d (c.in-Some.s + 1) dot_dot c.noted-up.result =
    rw (c.noted-up.ensures, c.as_slice-in-Some.ensures) (named_noted c.requires.entries c.requires.directory c.loop-s.invariant.up c.in-Some.ensures.next) in
    let some = some_number c.noted-up.result (sym c.if-is_some-2.ensures) in
    named_found some.0 c.requires.entries noted some.1

pub loop-s-preserved : goal.loop-s-preserved
loop-s-preserved c = record {
  own = rw (c.noted-own.ensures, c.as_slice.ensures) (named_noted c.requires.entries c.requires.directory c.loop-s.invariant.own c.in-Some.ensures.next);
  up = rw (c.noted-up.ensures, c.as_slice-in-Some.ensures) (named_noted c.requires.entries c.requires.directory c.loop-s.invariant.up c.in-Some.ensures.next);
  marks = c.in-Some.ensures.marks;
}

pub returns-clause-own : goal.returns-clause-own
returns-clause-own c = named_all c.loop-s.invariant.own c.in_default.ensures.next

pub returns-clause-up : goal.returns-clause-up
returns-clause-up c = named_all c.loop-s.invariant.up c.in_default.ensures.next
