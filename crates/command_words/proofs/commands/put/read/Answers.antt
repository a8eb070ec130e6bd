use Rattle.std.proofs.Common.{drop, inl, inr, sym}
use Rattle.command_words.proofs.Copies.{deep_put, empty_target, no_file, no_files, no_moment, no_path, too_many_put}
use Rattle.command_words.proofs.Faults.{hands_on}
use Rattle.command_words.proofs.Values.{no_value, volume_wrong}
use Rattle.command_words.specs.Verbs.{arguments_of}
use Rattle.command_words.specs.declared.verbs.Verb.TheVariants as verbs
use Rattle.command_words.proofs.commands.put.read.Goals as goal

pub returns-in_err-volume-clause-refused : goal.returns-in_err-volume-clause-refused
returns-in_err-volume-clause-refused g c =
    hands_on _ _ _ _ c.from_residual.ensures.1 c.in_err-volume.ensures.refused
    (λ wrong. no_value c.args.clock verbs.Put (g.G.Given.words c.args.given.now) (volume_wrong c.args.clock (g.G.Given.words c.args.given.now) (drop 3 (arguments_of verbs.Put)) wrong))

pub returns-in_err-files-in-Some-clause-refused : goal.returns-in_err-files-in-Some-clause-refused
returns-in_err-files-in-Some-clause-refused g c =
    hands_on _ _ _ _ c.from_residual-in_err-files-in-Some.ensures.1 c.in_err-files-in-Some.ensures.refused
    (no_files c.args.clock (g.G.Given.words c.args.given.now) c.in-Some.directory.now (sym c.in-Some.ensures))

pub returns-in_err-file-in-None-clause-refused : goal.returns-in_err-file-in-None-clause-refused
returns-in_err-file-in-None-clause-refused g c =
    hands_on _ _ _ _ c.from_residual-in_err-file-in-None.ensures.1 c.in_err-file-in-None.ensures.refused
    (no_file c.args.clock (g.G.Given.words c.args.given.now) (sym c.in-None.ensures))

pub returns-in_err-no_more-in-None-clause-refused : goal.returns-in_err-no_more-in-None-clause-refused
returns-in_err-no_more-in-None-clause-refused g c =
    hands_on _ _ _ _ c.from_residual-in_err-no_more-in-None.ensures.1 c.in_err-no_more-in-None.ensures.refused
    (too_many_put c.args.clock (g.G.Given.words c.args.given.now) (sym c.in-None.ensures))

pub returns-in_err-now-in-None-clause-refused : goal.returns-in_err-now-in-None-clause-refused
returns-in_err-now-in-None-clause-refused g c =
    hands_on _ _ _ _ c.from_residual-in_err-now-in-None.ensures.1 c.in_err-now-in-None.ensures.refused
    (no_moment c.args.clock (g.G.Given.words c.args.given.now) (sym c.in-None.ensures))

pub returns-in_err-not_empty-in-Some-clause-refused : goal.returns-in_err-not_empty-in-Some-clause-refused
returns-in_err-not_empty-in-Some-clause-refused g c =
    hands_on _ _ _ _ c.from_residual-in_err-not_empty-in-Some.ensures.1 c.in_err-not_empty-in-Some.ensures.refused
    (empty_target c.args.clock (g.G.Given.words c.args.given.now) c.in-Some.directory.now (sym c.in-Some.ensures))

pub returns-in_err-owner-clause-refused : goal.returns-in_err-owner-clause-refused
returns-in_err-owner-clause-refused g c =
    hands_on _ _ _ _ c.from_residual-in_err-owner.ensures.1 c.in_err-owner.ensures.refused
    (λ wrong. no_value c.args.clock verbs.Put (g.G.Given.words c.args.given.now) (inr (inr (inr (inr (inr (inr (inr (inr (inr (inr (inr (inl wrong)))))))))))))

pub returns-in_err-no_folders-in-None-clause-refused : goal.returns-in_err-no_folders-in-None-clause-refused
returns-in_err-no_folders-in-None-clause-refused g c =
    hands_on _ _ _ _ c.from_residual-in_err-no_folders-in-None.ensures.1 c.in_err-no_folders-in-None.ensures.refused
    (deep_put c.args.clock (g.G.Given.words c.args.given.now) (sym c.in-None.ensures))

pub returns-in_err-path-in-None-clause-refused : goal.returns-in_err-path-in-None-clause-refused
returns-in_err-path-in-None-clause-refused g c =
    hands_on _ _ _ _ c.from_residual-in_err-path-in-None.ensures.1 c.in_err-path-in-None.ensures.refused
    (no_path c.args.clock (g.G.Given.words c.args.given.now) (sym c.in-None.ensures))
