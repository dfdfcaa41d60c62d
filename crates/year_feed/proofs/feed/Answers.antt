use Rattle.std.proofs.Common.{refl, ◌∙◌, rules, arith, ◌+◌, ◌≤◌, ◌<◌, length}
use Rattle.state.specs.View.{state_of}
use Rattle.stream.specs.Bytes.{after, texts, between}
use Rattle.stream.proofs.Parts.{between_none, after_more, texts-more}
use Rattle.text_put.proofs.Laws.{put-none, put_then}
use Rattle.year_feed.specs.Feed.{year_program}
use Rattle.year_feed.proofs.feed.Goals as goal

pub loop-next-init : goal.loop-next-init
unfolding after texts
loop-next-init c =
    let a = c.args in
    (search rules, (λ h. h), (λ e. refl), c.requires.1, (λ z H. (rw (between_none a.from a.bytes.now) H, rw (between_none a.from a.bytes.now) (put-none _ _))), refl)

pub loop-next-preserved : goal.loop-next-preserved
loop-next-preserved c =
    let a = c.args in
    let at = c.loop-next.next in
    let i = c.loop-next.invariant in
    let P = year_program (state_of a.head a.rows.now) a.quiet in
    let g = c.take_byte-took.ensures in
    let h : a.from ≤ at = i.0 in
    let k : at < length a.bytes.now = search rules in (
      (let e : a.from ≤ at + 1 = omega (arith, h) in e),
      (λ x. omega (arith, k)),
      (λ e. absurd (let no : ⊥ = omega (arith, h, e) in no)),
      g.whole,
      (λ z H. let I = i.4 z H in (
        rw (after_more P z a.from at a.bytes.now h k) (g.year_is (after P z (between a.from at a.bytes.now)) I.0),
        rw (texts-more P z a.from at a.bytes.now h k) (put_then I.1 (g.text_is (after P z (between a.from at a.bytes.now)) I.0)),
      )),
      c.take_byte-took.auto.text ∙ i.5,
    )
