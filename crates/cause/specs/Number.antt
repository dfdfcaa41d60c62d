-- Document 01, "Causes and their numbers"; 7, 19 and 20 are those of document 02, L1, 21 and 22 those of L3, 23 is that of L4, 24 that of L6, 25 that of L7, 26 that of L10, 27 to 29 those of L11, 30 that of L13, and 31 that of L14.
use Rattle.std.specs.Prelude.{ℕ}
use Rattle.cause.specs.declared.Cause.{Cause}
use Rattle.cause.specs.declared.Cause.TheVariants.{Length, Version, VariableCount, Size, ConstraintCount, Extent, PairRange, PairOrder, PairRepeated, RowRange, Unsound, VariableNumber, NotTwoFree, NotStated, NotFunctional, SolutionLength, ValueRange, ValuesForbidden, BufferLength, NotFresh, SameVariables, TableRows, TooManyChoices, NotInVersion, NotFlatMeter, BlankRow, BinRecords, NotInStock, BinTooLow, OrderNumbers, NotPaired}

abbrev pub number_of : Cause → ℕ
number_of Length = 1  -- under 3 bytes, over 15,621, or not 3 plus the count
number_of Version = 2  -- none of 1, 2 and 3
number_of VariableCount = 3  -- n is 0 or above 16
number_of Size = 4  -- a size is 0 or above the version's limit
number_of ConstraintCount = 5  -- p above n(n-1)/2
number_of Extent = 6  -- a field is cut off, or bytes are left over
number_of PairRange = 7  -- option numbers out of range, that is a of 0, b of 0, or either above n
number_of PairOrder = 19  -- a is not below b
number_of PairRepeated = 20  -- the pair is not after the one before
number_of RowRange = 8  -- row has a bit at or above the size of b
number_of Unsound = 9  -- state not sound
number_of VariableNumber = 10  -- option number 0 or above n
number_of NotTwoFree = 11  -- the two options equal, or one not live
number_of NotStated = 12  -- pair not stated
number_of NotFunctional = 13  -- not functional from leader to follower
number_of SolutionLength = 14  -- build buffer not n bytes
number_of ValueRange = 15  -- completer: a live value not in its list; tester: a value at or above its size
number_of ValuesForbidden = 16  -- completer: two live values that their stated pair does not allow
number_of BufferLength = 17  -- written sheet longer than the buffer
number_of NotFresh = 18  -- writer: a follower exists or a list is not full
number_of SameVariables = 21  -- two equal options
number_of TableRows = 22  -- a wrong count of rows or a bit at or above the size
number_of TooManyChoices = 23  -- the product of the live list sizes exceeds 1,000,000
number_of NotInVersion = 24  -- writer: an unknown version or a size above 16 in version 1
number_of NotFlatMeter = 25  -- fewer than two options, or option 1 or 2 not of size four
number_of BlankRow = 26  -- version 3: an all-zero row; writer: a stated table has one for its lower-numbered option
number_of BinRecords = 27  -- the records aren't exactly those options and values in that order
number_of NotInStock = 28  -- a non-build, an option number 0 or above n, a value at or above the size, or a count that would exceed 32 bits
number_of BinTooLow = 29  -- a bin too low
number_of OrderNumbers = 30  -- the order does not hold each option exactly once and nothing else
number_of NotPaired = 31  -- a table that is not functional both ways on the full lists

-- The greatest of these numbers.
abbrev pub greatest : ℕ
greatest = 31
