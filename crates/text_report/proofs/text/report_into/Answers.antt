-- What `cut_parts` gives is narrow, whatever the bytes are.
use Rattle.std.proofs.Common.{rules}
use mathlib.Core.Path.{refl, sym}
use Rattle.text_report.specs.Text.{text_of}
use Rattle.text_report.proofs.Answer.{narrow-answer}
use Rattle.text_report.proofs.text.report_into.Goals as goal

pub written-requires : goal.written-requires
written-requires c = (refl, narrow-answer _ (search rules) _ _ c.cut_parts.ensures)

pub returns : goal.returns
unfolding text_of
returns c = rw (sym c.cut_parts.ensures) (c.written.ensures _)
