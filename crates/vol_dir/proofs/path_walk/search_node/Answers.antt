use Rattle.std.proofs.Common.{sym, ◌∙◌, true, false}
use Rattle.vol_dir.specs.Entries.{IsDirectory}
use Rattle.vol_dir.proofs.WalkLaws.{search-directory, search-other}
use Rattle.vol_dir.proofs.path_walk.search_node.Goals as goal

pub returns-in-Directory-clause-exact : goal.returns-in-Directory-clause-exact
returns-in-Directory-clause-exact c =
    let directory : IsDirectory c.args.geometry.now c.args.image.now c.args.i =
    record { first = c.requires.first; last = c.requires.last; kind = sym c.in-Directory.ensures } in
    search-directory c.args.geometry.now c.args.image.now c.args.cred c.args.i true directory (sym c.grants.ensures.stored ∙ c.if-grants.true)

pub returns-in-Directory-2-clause-exact : goal.returns-in-Directory-2-clause-exact
returns-in-Directory-2-clause-exact c =
    let directory : IsDirectory c.args.geometry.now c.args.image.now c.args.i =
    record { first = c.requires.first; last = c.requires.last; kind = sym c.in-Directory.ensures } in
    search-directory c.args.geometry.now c.args.image.now c.args.cred c.args.i false directory (sym c.grants.ensures.stored ∙ c.if-grants.false)

pub returns-in_default-clause-exact : goal.returns-in_default-clause-exact
returns-in_default-clause-exact c =
    search-other c.args.geometry.now c.args.image.now c.args.cred c.args.i c.requires.first c.requires.last
    (λ e. c.in_default.not-Directory (c.kind.ensures ∙ e))
