use Rattle.std.proofs.Common.{rules}
use Rattle.head.proofs.Held.{HeadShaped, shape, held-n}
use Rattle.survey.proofs.Surveying.{left_in, leaders-in, survey-nothing, survey-some}
use Rattle.survey.proofs.survey_sound.Goals as goal

pub tally-tallied-requires : goal.tally-tallied-requires
tally-tallied-requires c = (left_in _ _ c.requires.0 c.settle_singles-free.ensures, search rules, search rules)

pub multiplied-counted-requires : goal.multiplied-counted-requires
multiplied-counted-requires c = held-n _ _ c.requires.0

pub returns-then-counted-eq0 : goal.returns-then-counted-eq0
returns-then-counted-eq0 c =
    let h : HeadShaped c.args.head = search shape in
    survey-nothing _ h c.requires.0 c.requires.1 c.requires.2 c.settle_singles-free.ensures c.tally-tallied.ensures c.without-others.ensures
    c.multiplied-counted.ensures c.if-counted-eq0.true

pub all_words-words-requires : goal.all_words-words-requires
all_words-words-requires c = let h : HeadShaped c.args.head = search shape in leaders-in _ h c.requires.0

pub returns : goal.returns
returns c =
    let h : HeadShaped c.args.head = search shape in
    survey-some _ h c.requires.0 c.requires.1 c.requires.2 c.settle_singles-free.ensures c.tally-tallied.ensures c.without-others.ensures
    c.multiplied-counted.ensures c.if-counted-eq0.false c.all_words-words.result c.all_words-words.ensures.1 c.all_words-words.ensures.0
