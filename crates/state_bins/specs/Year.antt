-- Document 02, L11: "the recorded list of deliveries and call-offs .. run over the bins".
use Rattle.std.specs.Prelude.{List, [], ◌∷◌, map, ◌++◌, ◌≡◌, ℕ, ◌+◌, ◌-◌, ◌<◌, eqb, ltb, length, get_or}
use Rattle.bounded.specs.Bool.{and, if}
use Rattle.bins.specs.declared.Bin.{Bin}
use Rattle.bins.specs.Bins.{Place, place, no_bin}
use Rattle.state.specs.declared.state.State.{State}
use Rattle.state_bins.specs.Bins.{delivery_number, delivered_bins, call_off_number, called_off_bins}

-- An entry of the list: any numbers and any bytes.
pub data Entry : Type 0 where
  delivery : (variable value amount : ℕ) → Entry
  call_off : (solution : List ℕ) → (amount : ℕ) → Entry

-- "Each entry is one call with its own answer":
unfoldable pub number_of : State → List Bin → Entry → ℕ
number_of s bins (delivery variable value amount) = delivery_number s bins variable value amount
number_of s bins (call_off solution amount) = call_off_number s bins solution amount

unfoldable pub bins_after : State → List Bin → Entry → List Bin
bins_after s bins (delivery variable value amount) = delivered_bins s bins variable value amount
bins_after s bins (call_off solution amount) = called_off_bins s bins solution amount

-- An entry with the state that it is called with: a table may have been added since the entry before.
pub record Called : Type 0 where
  pub state : State
  pub entry : Entry

-- "and the next entry meets the bins as that call left them. Entries run in their order, and the run goes on after a refused one."
abbrev pub last_bins : List Bin → List Called → List Bin
last_bins bins [] = bins
last_bins bins (c ∷ cs) = last_bins (bins_after c.state bins c.entry) cs

-- The list as recorded: each entry with its own answer.
pub record Recorded : Type 0 where
  pub entry : Entry
  pub number : ℕ

abbrev pub recorded : List Bin → List Called → List Recorded
recorded bins [] = []
recorded bins (c ∷ cs) =
    record { entry = c.entry; number = number_of c.state bins c.entry } ∷ recorded (bins_after c.state bins c.entry) cs

-- What an entry would deliver to the bin of a value, and call off from it.
unfoldable pub delivered_to : Place → Entry → ℕ
delivered_to p (delivery variable value amount) = if (and (eqb p.0 variable) (eqb p.1 value)) amount 0
delivered_to p (call_off solution amount) = 0

unfoldable pub called_off_from : Place → Entry → ℕ
called_off_from p (delivery variable value amount) = 0
called_off_from p (call_off solution amount) = if (and (ltb 0 p.0) (eqb (get_or solution (p.0 - 1) 0) p.1)) amount 0

-- The sum over the accepted entries, "taken from the recorded list", without bound.
abbrev pub accepted_sum : (Entry → ℕ) → List Recorded → ℕ
accepted_sum f [] = 0
accepted_sum f (r ∷ rs) = if (eqb r.number 0) (f r.entry) 0 + accepted_sum f rs

-- Whatever the bins are, and the entries and their states:
pub record YearLaw (bins : List Bin) (cs : List Called) : Type 0 where
  -- the bins stay those of the same values, in the same order;
  pub same_places : map place (last_bins bins cs) ≡ map place bins
  -- "For each bin, opening count plus accepted deliveries equals count on hand plus accepted call-offs, taken from the recorded list";
  pub balance : (i : ℕ) → i < length bins
      → (get_or bins i no_bin).count + accepted_sum (delivered_to (place (get_or bins i no_bin))) (recorded bins cs)
      ≡ (get_or (last_bins bins cs) i no_bin).count + accepted_sum (called_off_from (place (get_or bins i no_bin))) (recorded bins cs)
  -- "A refusal changes no bin": one more entry that is refused leaves them all,
  pub refused_none : (c : Called) → (number_of c.state (last_bins bins cs) c.entry ≡ 0 → ⊥)
      → bins_after c.state (last_bins bins cs) c.entry ≡ last_bins bins cs
  -- and "the run goes on": what follows meets the bins as these entries left them.
  pub goes_on : (more : List Called) → last_bins bins (cs ++ more) ≡ last_bins (last_bins bins cs) more

-- A list on one state.
abbrev pub called_with : State → List Entry → List Called
called_with s es = map (λ (e : Entry). record { state = s; entry = e }) es
