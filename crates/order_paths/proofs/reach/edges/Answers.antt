use Rattle.std.proofs.Common.{rules}
use Rattle.head.proofs.Held.{HeadShaped, shape}
use Rattle.order_paths.proofs.Reached.{stated-others, edges_are}
use Rattle.order_paths.proofs.reach.edges.Goals as goal

pub table-requires : goal.table-requires
table-requires c = let h : HeadShaped c.args.head = search shape in let o = stated-others c.args.rows.now h c.requires in search rules

pub returns : goal.returns
returns c =
    let h : HeadShaped c.args.head = search shape in
    edges_are _ h c.requires (c.table.ensures _ (λ i x l m. search rules))
