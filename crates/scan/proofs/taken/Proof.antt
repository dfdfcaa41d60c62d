-- Its six cases.
use mathlib.Core.Path.{sym, ◌∙◌}
use borrow.Author.Tests.{eq-eqb, ne_eqb}
use borrow.Author.Rules.{rules}
use Rattle.bounded.proofs.Bool.{if-true, if-false}
use Rattle.scan.specs.Bytes.{is_digit, is_separator, is_blank}
use Rattle.scan.specs.Scan.{taken}
use Rattle.scan.proofs.Laws.{digit_low}
use Rattle.scan.proofs.taken.Statement.{statement}
use Rattle.scan.proofs.taken.Tie as tie

sub-digit : tie.Need-overflow_sub-byte
sub-digit c = digit_low _ (sym c.within.ensures ∙ c.if-within.true)

returns : tie.Need-returns-then-within
unfolding taken is_digit
returns c = let t = c in c.digit.ensures ∙ sym (if-true _ _ _ (sym t.within.ensures ∙ t.if-within.true))

returns-2 : tie.Need-returns-then-one_of
unfolding taken is_digit is_separator
returns-2 c = let t = c in let o = t in let e = o in c.separator.ensures ∙ sym (if-false _ _ _ (sym e.within.ensures ∙ e.if-within.false) ∙ if-true _ _ _ (sym o.one_of.ensures ∙ t.if-one_of.true))

returns-3 : tie.Need-returns-then-one_of-2
unfolding taken is_digit is_separator is_blank
returns-3 c = let t = c in let b = t in let f = b in let o = f in let e = o in c.close.ensures ∙ sym (if-false _ _ _ (sym e.within.ensures ∙ e.if-within.false) ∙ if-false _ _ _ (sym o.one_of.ensures ∙ f.if-one_of.false) ∙ if-true _ _ _ (sym b.one_of-2.ensures ∙ t.if-one_of-2.true))

returns-4 : tie.Need-returns-then-is_letter
unfolding taken is_digit is_separator is_blank
returns-4 c = let t = c in let l = t in let g = l in let b = g in let f = b in let o = f in let e = o in c.letter.ensures ∙ sym (if-false _ _ _ (sym e.within.ensures ∙ e.if-within.false) ∙ if-false _ _ _ (sym o.one_of.ensures ∙ f.if-one_of.false) ∙ if-false _ _ _ (sym b.one_of-2.ensures ∙ g.if-one_of-2.false) ∙ if-true _ _ _ (sym l.is_letter.ensures ∙ t.if-is_letter.true))

returns-5 : tie.Need-returns-then-byte-eq35
unfolding taken is_digit is_separator is_blank
returns-5 c = let t = c in let h = t in let l = h in let g = l in let b = g in let f = b in let o = f in let e = o in c.phased.ensures ∙ rw c.ended.ensures (sym (if-false _ _ _ (sym e.within.ensures ∙ e.if-within.false) ∙ if-false _ _ _ (sym o.one_of.ensures ∙ f.if-one_of.false) ∙ if-false _ _ _ (sym b.one_of-2.ensures ∙ g.if-one_of-2.false) ∙ if-false _ _ _ (sym l.is_letter.ensures ∙ h.if-is_letter.false) ∙ if-true _ _ _ (eq-eqb _ _ t.if-byte-eq35.true)))

returns-6 : tie.Need-returns
unfolding taken is_digit is_separator is_blank
returns-6 c = let t = c.before in let h = t in let l = h in let g = l in let b = g in let f = b in let o = f in let e = o.before in c.faulted.ensures ∙ sym (if-false _ _ _ (sym e.within.ensures ∙ e.if-within.false) ∙ if-false _ _ _ (sym o.one_of.ensures ∙ f.if-one_of.false) ∙ if-false _ _ _ (sym b.one_of-2.ensures ∙ g.if-one_of-2.false) ∙ if-false _ _ _ (sym l.is_letter.ensures ∙ h.if-is_letter.false) ∙ if-false _ _ _ (ne_eqb _ _ t.if-byte-eq35.false))

pub taken_spec : {M : Type 1} → statement M
taken_spec = tie.close (tie.spec (λ c κs. search rules) sub-digit (λ c κs. search rules) returns (λ c κs. search rules) (λ c κs. search rules) returns-2 (λ c κs. search rules) (λ c κs. search rules) returns-3 (λ c κs. search rules) (λ c κs. search rules) returns-4 (λ c κs. search rules) (λ c κs. search rules) returns-5 (λ c κs. search rules) returns-6)
