-- Each test that comes first decides its number.
use mathlib.Core.Bool.{true}
use mathlib.Core.Path.{◌≡◌, sym, ◌∙◌}
use borrow.Author.Rules.{rules}
use borrow.Author.Tests.{eq-eqb, ne_eqb}
use Rattle.words.specs.Word.{has}
use Rattle.answers.specs.Answers.{outcome_number}
use Rattle.step_judge.proofs.Judging.{leader_led, follower-led, not-stated, not-functional, step_legal}
use Rattle.step_judge.proofs.judge_pair.Statement.{statement}
use Rattle.step_judge.proofs.judge_pair.Tie as tie

-- Past the third test the pair is stated, so that its variables differ.
pub judge_pair_spec : {M : Type 1} → statement M
unfolding outcome_number
judge_pair_spec =
    tie.close
    (tie.spec
    (λ c. sym (leader_led _ _ _ (ne_eqb c.args.leader 0 (search rules))))
    (λ c. sym (follower-led _ _ _ (ne_eqb c.args.other 0 (search rules))))
    (λ c κs. search rules)
    (λ c. sym (not-stated (eq-eqb c.args.leader 0 (search rules)) (eq-eqb c.args.other 0 (search rules)) _ (sym c.member.ensures ∙ search rules)))
    (λ c κs.
    let p = c.requires in
    let s : has c.args.stated c.args.j ≡ true = sym c.member.ensures ∙ c.if-not-member.false in
    (p.0, p.1, p.2 s))
    (λ c.
    let s : has c.args.stated c.args.j ≡ true = sym c.member.ensures ∙ c.if-not-member.false in
    sym (not-functional (eq-eqb c.args.leader 0 (search rules)) (eq-eqb c.args.other 0 (search rules)) s
    (sym c.partners_within.ensures ∙ c.if-not-partners_within.true)))
    (λ c.
    let s : has c.args.stated c.args.j ≡ true = sym c.member.ensures ∙ c.if-not-member.false in
    sym (step_legal (eq-eqb c.args.leader 0 (search rules)) (eq-eqb c.args.other 0 (search rules)) s
    (sym c.partners_within.ensures ∙ c.if-not-partners_within.false))))
