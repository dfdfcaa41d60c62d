use Rattle.head.proofs.Held.{HeadShaped, shape, held-n}
use Rattle.survey.proofs.Settling.{settle-ready, settled-in}
use Rattle.survey.proofs.settle.settle_singles.Goals as goal

pub free_variables-free-requires : goal.free_variables-free-requires
free_variables-free-requires c = held-n _ _ c.requires

pub tied_variables-tied-requires : goal.tied_variables-tied-requires
tied_variables-tied-requires c = held-n _ _ c.requires

pub single_variables-singles-requires : goal.single_variables-singles-requires
single_variables-singles-requires c = held-n _ _ c.requires

pub narrow_lists-requires : goal.narrow_lists-requires
narrow_lists-requires c =
    let h : HeadShaped c.args.head = search shape in
    (settle-ready _ h c.requires c.free_variables-free.ensures c.tied_variables-tied.ensures c.single_variables-singles.ensures, h.domains_array.array_length)

pub tied_variables-left-requires : goal.tied_variables-left-requires
tied_variables-left-requires c = held-n _ _ c.requires

pub returns : goal.returns
returns c =
    let h : HeadShaped c.args.head = search shape in
    settled-in _ h c.requires c.free_variables-free.ensures c.tied_variables-tied.ensures c.single_variables-singles.ensures
    c.narrow_lists.ensures c.unstated-stated.ensures c.tied_variables-left.ensures
