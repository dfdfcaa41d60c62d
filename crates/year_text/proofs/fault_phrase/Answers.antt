use Rattle.std.proofs.Common.{refl}
use borrow.Author.Tests.{ne_eqb}
use Rattle.bounded.specs.Bool.{if}
use Rattle.text_lines.specs.Text.{ascii}
use Rattle.year_text.specs.Lines.{text_phrase}
use Rattle.year_text.proofs.fault_phrase.Goals as goal

pub returns-in-101 : goal.returns-in-101
unfolding text_phrase ascii if
returns-in-101 c = rw c.in-101.is refl

pub returns-in-102 : goal.returns-in-102
unfolding text_phrase ascii if
returns-in-102 c = rw c.in-102.is refl

pub returns-in-103 : goal.returns-in-103
unfolding text_phrase ascii if
returns-in-103 c = rw c.in-103.is refl

pub returns-in-104 : goal.returns-in-104
unfolding text_phrase ascii if
returns-in-104 c = rw c.in-104.is refl

pub returns-in-105 : goal.returns-in-105
unfolding text_phrase ascii if
returns-in-105 c = rw c.in-105.is refl

pub returns-in-106 : goal.returns-in-106
unfolding text_phrase ascii if
returns-in-106 c = rw c.in-106.is refl

pub returns-in_default : goal.returns-in_default
unfolding text_phrase ascii if
returns-in_default c =
    let r = c.in_default.in_default-own.rest in
    simp (ne_eqb _ _ r.0.0.0.0.0.1, ne_eqb _ _ r.0.0.0.0.1, ne_eqb _ _ r.0.0.0.1, ne_eqb _ _ r.0.0.1, ne_eqb _ _ r.0.1, ne_eqb _ _ r.1) refl
