-- The tests that were passed and the one that was not are those of `parts_fit`, in its order, and that is the soundness of the network: `parts-sound`.
use mathlib.Core.Path.{sym, ◌∙◌}
use borrow.Author.Rules.{rules}
use Rattle.head.proofs.Held.{HeadShaped, shape}
use Rattle.soundness.proofs.Parts.{head-fit, parts-sound}
use Rattle.soundness.proofs.Tests.{parts-head, parts-rows, parts-followers}
use Rattle.soundness.proofs.sound_parts.Statement.{statement}
use Rattle.soundness.proofs.sound_parts.Tie as tie

returns : tie.Need-returns-then-not-head_sound
returns c =
    let A : HeadShaped c.args.head = search shape in
    parts-head _ _ (sym c.head_sound.ensures ∙ c.if-not-head_sound.true) ∙ parts-sound _ A _

rows-sound-requires : tie.Need-rows_sound-requires
rows-sound-requires c κs =
    let passed = c in
    let A : HeadShaped passed.args.head = search shape in
    let f = head-fit _ A (sym passed.head_sound.ensures ∙ passed.if-not-head_sound.false) in
    (f.some_variable, f.most_variables, f.most_values)

returns-2 : tie.Need-returns-then-not-rows_sound
returns-2 c =
    let passed = c in
    let A : HeadShaped passed.args.head = search shape in
    parts-rows _ _ (sym passed.head_sound.ensures ∙ passed.if-not-head_sound.false)
    (sym c.rows_sound.ensures ∙ c.if-not-rows_sound.true)
    ∙ parts-sound _ A _

followers-sound-requires : tie.Need-followers_sound-requires
followers-sound-requires c κs =
    let passed = c in
    let A : HeadShaped passed.args.head = search shape in
    let f = head-fit _ A (sym passed.head_sound.ensures ∙ passed.if-not-head_sound.false) in
    (f.most_variables, f.no_self)

returns-3 : tie.Need-returns
returns-3 c =
    let passed = c in
    let A : HeadShaped passed.args.head = search shape in
    c.followers_sound.ensures
    ∙ parts-followers _ _ (sym passed.head_sound.ensures ∙ passed.if-not-head_sound.false)
    (sym c.rows_sound.ensures ∙ c.if-not-rows_sound.false)
    ∙ parts-sound _ A _

pub sound_parts_spec : {M : Type 1} → statement M
sound_parts_spec =
    tie.close
    (tie.spec
    (λ c κs. search rules)
    returns
    rows-sound-requires
    returns-2
    followers-sound-requires
    returns-3)
