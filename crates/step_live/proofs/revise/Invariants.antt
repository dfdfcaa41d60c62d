-- All but those to come are held against `j`. A turn does the lowest of these: `revising-more`.
use Rattle.words.specs.Word.{width}
use Rattle.step_live.proofs.Revising.{Revising}
use Rattle.step_live.proofs.revise.Given as goal

abbrev pub invariant-loop-x : goal.invariant-loop-x
invariant-loop-x l = Revising width l.rows l.initial.lists l.others l.j l.lists l.changed l.x-iterator.left
