-- The closure of the edges: `paths-are`.
use borrow.Author.Rules.{rules}
use Rattle.head.specs.Held.{held}
use Rattle.head.proofs.Held.{HeadShaped, shape, held-sound, held-n}
use Rattle.order_paths.proofs.Reached.{paths-are}
use Rattle.order_paths.proofs.reach.paths.Statement.{statement}
use Rattle.order_paths.proofs.reach.paths.Tie as tie

closure-requires : tie.Need-closure-requires
closure-requires c κs = held-n _ _ c.requires

returns : tie.Need-returns
unfolding held
returns c =
    let s = c in
    let h : HeadShaped s.args.head = search shape in
    paths-are _ (held-sound _ _ h s.requires) (held-n _ _ s.requires) c.edges.ensures c.closure.ensures

pub paths_spec : {M : Type 1} → statement M
paths_spec = tie.close (tie.spec (λ c κs. search rules) closure-requires returns)
