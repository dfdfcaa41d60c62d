-- Laws of the numbers of causes.
use mathlib.Core.List.{[], ◌∷◌}
use mathlib.Core.Path.{◌≡◌, refl, sym, ◌∙◌, ap}
use Prim.Native.Nat.{ℕ, ◌-◌, ◌≤◌}
use native.Mathlib.Omega.{arith}
use lib.ListN.{get_or}
use Rattle.cause.specs.declared.Cause.{Cause}
use Rattle.cause.specs.declared.Cause.TheVariants.{Length, Version, VariableCount, Size, ConstraintCount, Extent, PairRange, PairOrder, PairRepeated, RowRange, Unsound, VariableNumber, NotTwoFree, NotStated, NotFunctional, SolutionLength, ValueRange, ValuesForbidden, BufferLength, NotFresh, SameVariables, TableRows, TooManyChoices, NotInVersion, NotFlatMeter, BlankRow, BinRecords, NotInStock, BinTooLow, OrderNumbers, NotPaired}
use Rattle.cause.specs.Number.{number_of, greatest}

-- The cause of a number, from the causes in the order of their numbers.
abbrev cause_of : ℕ → Cause
cause_of k =
    get_or
    (Length ∷ Version ∷ VariableCount ∷ Size ∷ ConstraintCount ∷ Extent ∷ PairRange ∷ RowRange ∷ Unsound ∷ VariableNumber
    ∷ NotTwoFree ∷ NotStated ∷ NotFunctional ∷ SolutionLength ∷ ValueRange ∷ ValuesForbidden ∷ BufferLength ∷ NotFresh
    ∷ PairOrder ∷ PairRepeated ∷ SameVariables ∷ TableRows ∷ TooManyChoices ∷ NotInVersion ∷ NotFlatMeter ∷ BlankRow
    ∷ BinRecords ∷ NotInStock ∷ BinTooLow ∷ OrderNumbers ∷ NotPaired ∷ [])
    (k - 1) Length

-- Each cause: its number is one of the table's, and gives the cause back.
numbered : (c : Cause) → ((1 ≤ number_of c) × (number_of c ≤ greatest)) × (c ≡ cause_of (number_of c))
numbered Length = (omega arith, refl)
numbered Version = (omega arith, refl)
numbered VariableCount = (omega arith, refl)
numbered Size = (omega arith, refl)
numbered ConstraintCount = (omega arith, refl)
numbered Extent = (omega arith, refl)
numbered PairRange = (omega arith, refl)
numbered PairOrder = (omega arith, refl)
numbered PairRepeated = (omega arith, refl)
numbered RowRange = (omega arith, refl)
numbered Unsound = (omega arith, refl)
numbered VariableNumber = (omega arith, refl)
numbered NotTwoFree = (omega arith, refl)
numbered NotStated = (omega arith, refl)
numbered NotFunctional = (omega arith, refl)
numbered SolutionLength = (omega arith, refl)
numbered ValueRange = (omega arith, refl)
numbered ValuesForbidden = (omega arith, refl)
numbered BufferLength = (omega arith, refl)
numbered NotFresh = (omega arith, refl)
numbered SameVariables = (omega arith, refl)
numbered TableRows = (omega arith, refl)
numbered TooManyChoices = (omega arith, refl)
numbered NotInVersion = (omega arith, refl)
numbered NotFlatMeter = (omega arith, refl)
numbered BlankRow = (omega arith, refl)
numbered BinRecords = (omega arith, refl)
numbered NotInStock = (omega arith, refl)
numbered BinTooLow = (omega arith, refl)
numbered OrderNumbers = (omega arith, refl)
numbered NotPaired = (omega arith, refl)

-- "Causes and their numbers": from 1 on. No cause has number 0, which stands for "not refused".
pub number-range : (c : Cause) → (1 ≤ number_of c) × (number_of c ≤ greatest)
number-range c = (numbered c).0

pub number-positive : (c : Cause) → 1 ≤ number_of c
number-positive c = (number-range c).0

-- A number has one cause, so a contract that fixes the number fixes the cause.
pub number-one : (c d : Cause) → number_of c ≡ number_of d → c ≡ d
number-one c d e = (numbered c).1 ∙ ap cause_of e ∙ sym (numbered d).1
