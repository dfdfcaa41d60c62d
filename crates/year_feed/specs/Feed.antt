-- The program of a year, for the theorem `line-by-line` of the crate stream, and what its calls say that are handed some bytes of the list.
use Rattle.std.specs.Prelude.{Bool, false, List, ◌≡◌, ℕ, ◌≤◌, ◌<◌, length}
use Rattle.state.specs.declared.state.State.{State}
use Rattle.scan.specs.declared.Scan.{Scan}
use Rattle.scan.specs.Scan.{opening, step}
use Rattle.scan.specs.Line.{finish}
use Rattle.stream.specs.Program.{Program}
use Rattle.stream.specs.Bytes.{At, next, text, after, texts, last_text, last_state, between}
use Rattle.text_put.specs.Put.{Put}
use Rattle.year_entries.specs.Year.{Year, act}
use Rattle.year_act.specs.Answers.{answer}
use Rattle.year_act.specs.Kept.{Whole, Kept}
use Rattle.year_act.specs.declared.Acted.{Acted}
use Rattle.year_feed.specs.declared.Run.{Run}
use Rattle.year_feed.specs.declared.Took.{Took}
use Rattle.year_feed.specs.declared.Fed.{Fed}

-- What a line does is `act` of year_entries, and what is printed for it `answer` of year_act.
unfoldable pub year_program : State → (quiet : Bool) → Program Scan Year
year_program s quiet =
    record {
      opening = opening false;
      step = step;
      act = λ (y : Year) (c : Scan). act s y (finish c);
      answer = λ (y : Year) (c : Scan). answer quiet s y (finish c);
    }

-- The arrays and the run are those of a year and of the line that goes on.
pub record HeldAt (s : State) (z : At Scan Year) (run : Run) (counts ins outs shorts : List ℕ) : Type 0 where
  pub seen_is : run.scan ≡ z.seen
  pub begun_is : run.begun ≡ z.begun
  pub kept : Kept s z.state counts ins outs shorts run.entries

-- A byte was taken.
pub record TookByte (s : State) (quiet : Bool) (run : Run) (byte : ℕ) (counts counts' ins ins' outs outs' shorts shorts' before after : List ℕ) (at : ℕ) (r : Took) : Type 0 where
  pub whole : Whole counts' ins' outs' shorts'
  pub year_is : (z : At Scan Year) → HeldAt s z run counts ins outs shorts → HeldAt s (next (year_program s quiet) z byte) r.run counts' ins' outs' shorts'
  pub text_is : (z : At Scan Year) → HeldAt s z run counts ins outs shorts → Put before after (text (year_program s quiet) z byte) at r.at

-- The bytes up to `next` were taken; some byte, where one is left.
pub record FedAs (s : State) (quiet : Bool) (run : Run) (bytes : List ℕ) (from : ℕ) (counts counts' ins ins' outs outs' shorts shorts' before end : List ℕ) (r : Fed) : Type 0 where
  pub whole : Whole counts' ins' outs' shorts'
  pub goes : from ≤ r.next
  pub ends : from ≤ length bytes → r.next ≤ length bytes
  pub moves : from < length bytes → from < r.next
  pub year_is : (z : At Scan Year) → HeldAt s z run counts ins outs shorts
      → HeldAt s (after (year_program s quiet) z (between from r.next bytes)) r.run counts' ins' outs' shorts'
  pub text_is : (z : At Scan Year) → HeldAt s z run counts ins outs shorts
      → Put before end (texts (year_program s quiet) z (between from r.next bytes)) 0 r.length

-- The list ended.
pub record LastAs (s : State) (quiet : Bool) (run : Run) (counts counts' ins ins' outs outs' shorts shorts' before end : List ℕ) (r : Acted) : Type 0 where
  pub whole : Whole counts' ins' outs' shorts'
  pub year_is : (z : At Scan Year) → HeldAt s z run counts ins outs shorts → Kept s (last_state (year_program s quiet) z) counts' ins' outs' shorts' r.entries
  pub text_is : (z : At Scan Year) → HeldAt s z run counts ins outs shorts → Put before end (last_text (year_program s quiet) z) 0 r.at
