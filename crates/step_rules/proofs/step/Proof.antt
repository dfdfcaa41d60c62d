-- The two variables are apart, neither is a third one, and the three rules and the trimming make the head and rows of the network after the step.
use mathlib.Core.Bool.{false}
use mathlib.Core.Path.{◌≡◌}
use Prim.Native.Nat.{◌^◌, ◌<◌}
use borrow.Author.Rules.{rules}
use Rattle.words.specs.Word.{has}
use Rattle.head.proofs.Held.{HeadShaped, shape}
use Rattle.step_rules.proofs.Stepped.{step-asks, thirds-apart, led-before, led-after, stepped}
use Rattle.step_rules.proofs.step.Statement.{statement}
use Rattle.step_rules.proofs.step.Tie as tie

shaped : (c : tie.Start) → HeadShaped c.args.head
shaped c = search shape

-- The two variables.
asks : (c : tie.Start) → (c.args.i < 16) × (c.args.j < 16) × (c.args.i ≡ c.args.j → ⊥)
asks c = step-asks _ (shaped c) c.requires.0 _ _ c.requires.2

supported-requires : tie.Need-supported-ti-requires
supported-requires c κs = asks c.before.before.before.before

-- The third ones are others.
apart : (c : tie.After-thirds_of-thirds) →
    let a = c.args in
    (has c.thirds_of-thirds.result a.i ≡ false) × (has c.thirds_of-thirds.result a.j ≡ false) × (c.thirds_of-thirds.result < 2 ^ 16)
apart c =
    let s = c in
    thirds-apart _ (shaped c.before.before.before.before.before.before) s.requires.0 _ _ s.requires.2 c.thirds_of-thirds.ensures

move-thirds-requires : tie.Need-move_thirds-requires
move-thirds-requires c κs =
    let t = c in
    let s = t in
    let (li, lj, d) = asks c.before.before.before.before.before.before.before in
    let (ni, nj, b) = apart c.before in
    (li, lj, d, ni, nj, b, s.requires.1.array_length)

stated-after-requires : tie.Need-stated_after-linked-requires
stated-after-requires c κs =
    let t = c in
    let (li, lj, d) = asks c.before.before.before.before.before.before.before.before.before in
    let (ni, nj, b) = apart c.before.before.before in
    (li, lj, d, ni, nj, b)

trim-followers-requires : tie.Need-trim_followers-short-requires
trim-followers-requires c κs =
    let p = c in
    let s = p in
    let before = led-before _ (shaped c.before.before.before.before.before.before.before.before.before.before) s.requires.0 _ _ s.requires.2 in
    let after = led-after _ (shaped c.before.before.before.before.before.before.before.before.before.before) s.requires.0 _ _ s.requires.2 p.leaders_after-led.ensures in
    search rules

returns : tie.Need-returns
returns c =
    let p = c in
    let m = p in
    let t = m in
    let s = t in
    stepped _ (shaped c.before.before.before.before.before.before.before.before.before.before.before) s.requires.0 _ _ s.requires.2 t.thirds_of-thirds.ensures t.supported-ti.ensures s.requires.1
    m.move_thirds.ensures p.leaders_after-led.ensures p.stated_after-linked.ensures c.trim_followers-short.ensures

pub step_spec : {M : Type 1} → statement M
step_spec =
    tie.close
    (tie.spec
    (λ c. let a = asks c.before.before.before.before in search rules)
    (λ c. let a = asks c.before.before.before.before in search rules)
    (λ c. let a = asks c.before.before.before.before in search rules)
    (λ c. let a = asks c.before.before.before.before in search rules)
    supported-requires
    (λ c. let a = asks c.before.before.before.before.before in search rules)
    (λ c. let a = asks c.before.before.before.before.before in search rules)
    (λ c κs. let a = asks c.before.before.before.before.before in search rules)
    (λ c. let a = asks c.before.before.before.before.before.before.before in search rules)
    (λ c. let a = asks c.before.before.before.before.before.before.before in search rules)
    move-thirds-requires
    (λ c κs. let a = asks c.before.before.before.before.before.before.before.before in search rules)
    stated-after-requires
    (λ c. let a = asks c.before.before.before.before.before.before.before.before.before.before in search rules)
    (λ c. let a = asks c.before.before.before.before.before.before.before.before.before.before in search rules)
    trim-followers-requires
    returns)
