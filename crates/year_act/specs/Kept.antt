-- How a program keeps a year: counts, sums and shortages in arrays, and the rest in a record.
use Rattle.std.specs.Prelude.{Bool, true, List, ◌≡◌, ℕ, suc, ◌+◌, ◌-◌, ◌*◌, ◌<◌, ◌≤◌, ◌^◌, eqb, leb, length, get_or}
use Rattle.bounded.specs.Bool.{and, not, if}
use Rattle.bins.specs.Bins.{Place, no_bin}
use Rattle.bins_counts.specs.Counts.{spot, plus, changed_at}
use Rattle.state.specs.declared.state.State.{State}
use Rattle.state_bins.specs.Year.{delivered_to, called_off_from, accepted_sum}
use Rattle.stock.specs.Stock.{bins_of}
use Rattle.scan.specs.declared.Line.{Line}
use Rattle.text_put.specs.Put.{Put}
use Rattle.year_entries.specs.declared.Answer.{Answer}
use Rattle.year_entries.specs.Year.{Year, act, most_lines, answered, faulty, short_of, tally, recorded_of, first_short}
use Rattle.year_act.specs.declared.Entries.{Entries}
use Rattle.year_act.specs.declared.Acted.{Acted}
use Rattle.year_act.specs.Answers.{answer}

-- What an array of sums has at each bin's index.
abbrev pub AtEach : State → List ℕ → (Place → ℕ) → Type 0
AtEach s xs f = (o v : ℕ) → o < s.n → v < get_or s.sizes o 0 → get_or xs (spot s.sizes o v) 0 ≡ f (suc o, v)

-- The four arrays are whole.
pub record Whole (counts ins outs shorts : List ℕ) : Type 0 where
  pub counts_length : length counts ≡ 512
  pub ins_length : length ins ≡ 512
  pub outs_length : length outs ≡ 512
  pub shorts_length : length shorts ≡ 512

-- Each sum is over so many entries, each of less than 2 to the 32.
abbrev pub Within : (entries sum : ℕ) → Type 0
Within entries sum = sum + entries ≤ entries * 2 ^ 32

pub record Kept (s : State) (y : Year) (counts ins outs shorts : List ℕ) (e : Entries) : Type 0 where
  pub bins_are : bins_of s counts ≡ y.bins
  pub line_is : e.line ≡ y.line
  pub line_most : y.line ≤ most_lines + 2
  pub told_most : length y.told < y.line
  pub ins_are : AtEach s ins (λ (p : Place). accepted_sum (delivered_to p) (recorded_of y.told))
  pub ins_most : (p : Place) → Within (length y.told) (accepted_sum (delivered_to p) (recorded_of y.told))
  pub outs_are : AtEach s outs (λ (p : Place). accepted_sum (called_off_from p) (recorded_of y.told))
  pub outs_most : (p : Place) → Within (length y.told) (accepted_sum (called_off_from p) (recorded_of y.told))
  pub shorts_are : AtEach s shorts (λ (p : Place). tally (short_of p) y.told)
  pub ok_is : e.ok ≡ tally (answered 0) y.told
  pub r28_is : e.r28 ≡ tally (answered 28) y.told
  pub r29_is : e.r29 ≡ tally (answered 29) y.told
  pub text_is : e.text ≡ tally faulty y.told
  pub all_is : tally (answered 0) y.told + tally (answered 28) y.told + tally (answered 29) y.told + tally faulty y.told ≡ length y.told
  pub first_is : e.first ≡ first_short y.told

-- Before the first line.
unfoldable pub new_entries : Entries
new_entries = record { line = 1; ok = 0; r28 = 0; r29 = 0; text = 0; first = record { line = 0; low = no_bin; asked = 0 } }

-- One answer more.
unfoldable pub answered_by : ℕ → Answer → Bool
answered_by number a = and (eqb a.fault 0) (eqb a.number number)

unfoldable pub counted_if : Bool → ℕ → ℕ
counted_if b x = if b (plus 1 x) x

unfoldable pub noted_of : Entries → Answer → (asked : ℕ) → Entries
noted_of e a asked =
    record {
      line = e.line + 1;
      ok = counted_if (answered_by 0 a) e.ok;
      r28 = counted_if (answered_by 28 a) e.r28;
      r29 = counted_if (answered_by 29 a) e.r29;
      text = counted_if (not (eqb a.fault 0)) e.text;
      first = if (and (answered_by 29 a) (eqb e.r29 0)) (record { line = e.line; low = a.low; asked = asked }) e.first;
    }

-- A blank line.
unfoldable pub passed_of : Entries → Entries
passed_of e =
    record { line = if (leb e.line most_lines) (e.line + 1) e.line; ok = e.ok; r28 = e.r28; r29 = e.r29; text = e.text; first = e.first }

-- The bin that a 29 names has an index, and is counted there.
pub record ShortInside (sizes : List ℕ) (a : Answer) : Type 0 where
  pub from_1 : answered_by 29 a ≡ true → 1 ≤ a.low.variable
  pub to_16 : answered_by 29 a ≡ true → a.low.variable ≤ 16
  pub inside : answered_by 29 a ≡ true → spot sizes (a.low.variable - 1) a.low.value < 512

abbrev pub ShortNoted : (sizes : List ℕ) → Answer → (shorts shorts' : List ℕ) → Type 0
ShortNoted sizes a shorts shorts' =
    shorts' ≡ if (answered_by 29 a) (changed_at (plus 1) shorts (spot sizes (a.low.variable - 1) a.low.value)) shorts

-- What a line does to what is kept, and what is printed for it, whatever year is kept.
pub record ActedAs (s : State) (quiet : Bool) (l : Line) (counts counts' ins ins' outs outs' shorts shorts' : List ℕ) (e : Entries) (text text' : List ℕ) (at : ℕ) (r : Acted) : Type 0 where
  pub whole : Whole counts' ins' outs' shorts'
  pub year_is : (y : Year) → Kept s y counts ins outs shorts e → Kept s (act s y l) counts' ins' outs' shorts' r.entries
  pub text_is : (y : Year) → Kept s y counts ins outs shorts e → Put text text' (answer quiet s y l) at r.at
