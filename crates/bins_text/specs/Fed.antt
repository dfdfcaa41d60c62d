-- The machine as a program that takes lines, and what a call says that is handed some bytes of the text.
use Rattle.std.specs.Prelude.{List, [], ℕ, true}
use Rattle.scan.specs.declared.Scan.{Scan}
use Rattle.scan.specs.Scan.{opening, step}
use Rattle.scan.specs.Line.{finish}
use Rattle.stream.specs.Program.{Program}
use Rattle.stream.specs.Bytes.{At}
use Rattle.bins_text.specs.declared.Reading.{Reading}
use Rattle.bins_text.specs.declared.BinsRun.{BinsRun}
use Rattle.bins_text.specs.Machine.{Reads, read_case}

abbrev pub read : Reading → List ℕ → Reads
read reading counts = record { reading = reading; counts = counts }

-- Lines of numbers alone; nothing is printed for them.
unfoldable pub program : (n : ℕ) → (sizes : List ℕ) → Program Scan Reads
program n sizes =
    record { opening = opening true; step = step; act = λ (q : Reads) (s : Scan). read_case n sizes q (finish s); answer = λ (q : Reads) (s : Scan). [] }

abbrev pub at : BinsRun → List ℕ → At Scan Reads
at run counts = record { seen = run.scan; begun = run.begun; state = read run.reading counts }
