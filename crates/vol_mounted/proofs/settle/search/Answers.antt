use Rattle.std.proofs.Common.{◌≡◌, ◌∙◌, ap, ℕ, ◌+◌, ◌-◌, arith, Option, List}
use Rattle.std.specs.Option.{option_map, option_or}
use Rattle.vol_mounted.specs.Records.{first_value, name_in}
use Rattle.vol_mounted.proofs.FirstValues.{value_step, value_none}
use Rattle.vol_mounted.proofs.settle.search.Goals as goal

pub returns-in-Some : goal.returns-in-Some
returns-in-Some c =
    let dir : ℕ = c.directories.dir in
    let left : ℕ = c.args.geometry.now.last_inode + 1 - dir in
    let value : ℕ → Option (ℕ × List ℕ) = λ d. option_map (λ (name : List ℕ). (d, name)) (name_in c.args.geometry.now c.args.image.now c.args.i d) in
    c.directories.invariant
    ∙ (value_step value dir left (omega arith)
    ∙ ap (λ first. option_or first (first_value value (dir + 1) (left - 1))) (ap (option_map (λ (name : List ℕ). (dir, name))) c.in-Some.ensures))

pub directories-preserved : goal.directories-preserved
directories-preserved c =
    let dir : ℕ = c.directories.dir in
    let left : ℕ = c.args.geometry.now.last_inode + 1 - dir in
    let value : ℕ → Option (ℕ × List ℕ) = λ d. option_map (λ (name : List ℕ). (d, name)) (name_in c.args.geometry.now c.args.image.now c.args.i d) in
    let less : left - 1 ≡ c.args.geometry.now.last_inode + 1 - (dir + 1) = omega arith in
    c.directories.invariant
    ∙ (value_step value dir left (omega arith)
    ∙ (ap (λ first. option_or first (first_value value (dir + 1) (left - 1))) (ap (option_map (λ (name : List ℕ). (dir, name))) c.in_default.ensures)
    ∙ ap (λ k. first_value value (dir + 1) k) less))

pub returns-in_default : goal.returns-in_default
returns-in_default c =
    let dir : ℕ = c.directories.dir in
    let left : ℕ = c.args.geometry.now.last_inode + 1 - dir in
    let value : ℕ → Option (ℕ × List ℕ) = λ d. option_map (λ (name : List ℕ). (d, name)) (name_in c.args.geometry.now c.args.image.now c.args.i d) in
    c.directories.invariant
    ∙ (value_step value dir left (omega arith)
    ∙ (ap (λ first. option_or first (first_value value (dir + 1) (left - 1))) (ap (option_map (λ (name : List ℕ). (dir, name))) c.in_default.ensures)
    ∙ value_none value (dir + 1) (left - 1) (omega arith)))
