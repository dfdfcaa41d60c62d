-- Each way out is a way that a line goes: blank, after a 108, or an entry.
use Rattle.std.proofs.Common.{◌≡◌, ◌∙◌, ap, sym, true, false}
use mathlib.Core.List.{List}
use mathlib.Core.Path.{subst}
use Prim.Native.Nat.{ℕ}
use Rattle.head.proofs.Held.{HeadShaped, shape}
use Rattle.state.specs.declared.state.State.{State}
use Rattle.state.specs.View.{state_of}
use Rattle.stock.proofs.Sizes.{sound-sized}
use Rattle.text_put.proofs.Laws.{put-text, put-none}
use Rattle.year_entries.specs.Year.{Year, is_entry, act}
use Rattle.year_act.specs.declared.Entries.{Entries}
use Rattle.year_act.specs.Kept.{Kept, noted_of}
use Rattle.year_act.proofs.Low.{short-inside, short-summed}
use Rattle.year_act.proofs.Keeps.{kept-blank, text-blank, kept-ended, text-ended, kept_entry, text-entry}
use Rattle.year_act.proofs.act.Goals as goal

kept-as : (s : State) (y : Year) (counts ins outs shorts : List ℕ) (e e' : Entries) → e ≡ e' → Kept s y counts ins outs shorts e' → Kept s y counts ins outs shorts e
kept-as s y counts ins outs shorts e e' q = subst (Kept s y counts ins outs shorts) (sym q)

pub returns-then-not-is_entry : goal.returns-then-not-is_entry
returns-then-not-is_entry c =
    let a = c.args in
    let s = state_of a.head a.rows.now in
    let blank : is_entry a.l ≡ false = sym c.is_entry.ensures ∙ c.if-not-is_entry.true in
    record {
      whole = c.requires.1;
      year_is = λ y K. kept-as s (act s y a.l) a.counts.now a.ins.now a.outs.now a.shorts.now _ _ c.passed.ensures
          (kept-blank s y a.counts.now a.ins.now a.outs.now a.shorts.now a.e K a.l blank);
      text_is = λ y K. put-text (text-blank s y a.counts.now a.ins.now a.outs.now a.shorts.now a.e K a.l a.quiet blank) (put-none a.text.now a.at);
    }

pub returns-then-line-gt4294967296 : goal.returns-then-line-gt4294967296
returns-then-line-gt4294967296 c =
    let a = c.args in
    let s = state_of a.head a.rows.now in
    let entry : is_entry a.l ≡ true = sym c.is_entry.ensures ∙ c.if-not-is_entry.false in
    record {
      whole = c.requires.1;
      year_is = λ y K. kept-ended s y a.counts.now a.ins.now a.outs.now a.shorts.now a.e K a.l entry c.if-line-gt4294967296.true;
      text_is = λ y K. put-text (text-ended s y a.counts.now a.ins.now a.outs.now a.shorts.now a.e K a.l a.quiet entry c.if-line-gt4294967296.true) (put-none a.text.now a.at);
    }

pub note_short-requires : goal.note_short-requires
note_short-requires c =
    let a = c.args in
    let H : HeadShaped a.head = search shape in
    short-inside (state_of a.head a.rows.now) c.requires.0 a.counts.now a.e.line a.l c.enter-a.result c.enter-a.ensures.told_is (sound-sized a.head a.rows.now H c.requires.0)

pub returns : goal.returns
returns c =
    let a = c.args in
    let s = state_of a.head a.rows.now in
    let entry : is_entry a.l ≡ true = sym c.is_entry.ensures ∙ c.if-not-is_entry.false in
    let H : HeadShaped a.head = search shape in
    let L = c.enter-a.ensures in
    let inside = short-inside s c.requires.0 a.counts.now a.e.line a.l c.enter-a.result L.told_is (sound-sized a.head a.rows.now H c.requires.0) in
    let S = short-summed s c.requires.0 a.counts.now a.e.line a.l c.enter-a.result L.told_is a.shorts.now _ c.requires.1.shorts_length inside c.note_short.ensures in
    record {
      whole = record {
        counts_length = L.same_length ∙ c.requires.1.counts_length;
        ins_length = L.ins_are.same_length ∙ c.requires.1.ins_length;
        outs_length = L.outs_are.same_length ∙ c.requires.1.outs_length;
        shorts_length = S.same_length ∙ c.requires.1.shorts_length;
      };
      year_is = λ y K. kept-as s (act s y a.l) _ _ _ _ _ _ (c.noted.ensures ∙ ap (noted_of a.e c.enter-a.result) c.amount.ensures)
          (kept_entry s y a.counts.now a.ins.now a.outs.now a.shorts.now a.e K a.l _ _ _ _ c.enter-a.result L c.if-line-gt4294967296.false c.requires.0 entry S);
      text_is = λ y K. put-text
          (text-entry s y a.counts.now a.ins.now a.outs.now a.shorts.now a.e K a.l _ _ _ a.shorts.now c.enter-a.result L c.if-line-gt4294967296.false c.requires.0 a.quiet entry)
          c.put_answer-next.ensures;
    }
