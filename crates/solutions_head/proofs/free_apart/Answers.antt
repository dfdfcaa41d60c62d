use Rattle.std.proofs.Common.{◌≡◌, rules, get_or, arith}
use mathlib.Core.Path.{◌∙◌}
use Rattle.words.specs.Word.{width}
use Rattle.solutions.specs.Choices.{side_apart, free_apart}
use Rattle.solutions.proofs.Choices.{side-pairs}
use Rattle.solutions_head.proofs.free_apart.Goals as goal

pub returns : goal.returns
unfolding free_apart
returns c =
    c.every.ensures _ (λ i r l m.
    let s : r ≡ side_apart width (get_or c.args.leaders.now i 0) (get_or c.args.stated.now i 0) c.free_variables-free.result = search rules in
    s ∙ side-pairs width _ _ (omega arith) c.free_variables-free.ensures _)
