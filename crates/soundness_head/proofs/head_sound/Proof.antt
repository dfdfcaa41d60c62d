-- The tests that were passed and the one that was not are those of `head_fits`, in its order.
use mathlib.Core.Path.{sym, ◌∙◌}
use native.Mathlib.Omega.{arith}
use borrow.Author.Rules.{rules}
use Rattle.head.proofs.Held.{HeadShaped, shape}
use Rattle.soundness_head.proofs.Tests.{size-le}
use Rattle.soundness_head.proofs.Tests.{head-none, head-many, head-sizes, head-domains, head-pairs}
use Rattle.soundness_head.proofs.head_sound.Statement.{statement}
use Rattle.soundness_head.proofs.head_sound.Tie as tie

returns : tie.Need-returns-then-n-lt1
returns c = head-none _ c.if-n-lt1.true

returns-3 : tie.Need-returns-then-not-sizes_sound
returns-3 c =
    let n = c in
    head-sizes _ n.if-n-lt1.false (omega arith) (sym c.sizes_sound.ensures ∙ c.if-not-sizes_sound.true)

domains-sound-requires : tie.Need-domains_sound-requires
domains-sound-requires c κs =
    let sized = c in
    let n = sized in
    let A : HeadShaped n.args.head = search shape in
    size-le _ A (omega arith) (sym sized.sizes_sound.ensures ∙ sized.if-not-sizes_sound.false)

returns-4 : tie.Need-returns-then-not-domains_sound
returns-4 c =
    let sized = c in
    let n = sized in
    head-domains _ n.if-n-lt1.false (omega arith) (sym sized.sizes_sound.ensures ∙ sized.if-not-sizes_sound.false)
    (sym c.domains_sound.ensures ∙ c.if-not-domains_sound.true)

returns-5 : tie.Need-returns
returns-5 c =
    let inside = c in
    let sized = inside in
    let n = sized in
    c.pairs_sound.ensures
    ∙ head-pairs _ n.if-n-lt1.false (omega arith) (sym sized.sizes_sound.ensures ∙ sized.if-not-sizes_sound.false)
    (sym inside.domains_sound.ensures ∙ inside.if-not-domains_sound.false)

pub head_sound_spec : {M : Type 1} → statement M
head_sound_spec =
    tie.close
    (tie.spec
    returns
    (λ c. head-many _ (omega arith) (omega arith))
    (λ c κs. search rules)
    returns-3
    domains-sound-requires
    returns-4
    (λ c κs. search rules)
    returns-5)
