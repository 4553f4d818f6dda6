-- For contracts. What the printer of a variable's values has done, in words for its callers.
use Rattle.std.specs.Prelude.{ℕ, ◌≡◌, ◌+◌, ℤ, Bool, true, false, List, ◌++◌, length, Result, Ok, Err}
use Rattle.nc_base.specs.ValueText.{Look}
use Rattle.nc_base.specs.code.LaterPieces.{later_pieces}
use Rattle.devices.specs.Failures.{HasFailed}
use Rattle.devices.specs.Sinks.{SinkView, Appended, FailedPartway}
use Rattle.devices.specs.code.SinkWrites.{Wrote}
use Rattle.cdl_print.specs.code.Leads.{look_at, values, AreWhole}
use Rattle.cdl_print.specs.code.Printing.{next, AreLeft, IsAfter}
use Rattle.cdl_print.specs.declared.printer.ValuePrinter.{ValuePrinter}

-- the look of the printer's variable
abbrev pub look_in : ValuePrinter → Look
look_in printer = look_at printer.layout

-- how many values it has printed
abbrev pub position_of : ValuePrinter → ℕ
position_of printer = printer.progress.position

-- a write of it has failed
abbrev pub has_failed : ValuePrinter → Bool
has_failed printer = printer.has_failed

-- if no write of the printer had failed: this part of its variable's text is written, or the sink has failed
abbrev pub WrotePart : {S X E : Type 0} → ValuePrinter → (S → SinkView) → S → S → (Look → List ℕ) → Result X E → Type 0
WrotePart printer view old new part result = has_failed printer ≡ false → Wrote view old new (part (look_in printer)) result

-- the bytes are whole values, and no more than the variable has beside those printed
pub record Takes (printer : ValuePrinter) (bytes : List ℕ) : Type 0 where
  pub whole : AreWhole printer.layout bytes
  pub within : AreLeft (next printer.layout printer.progress bytes)

-- the printer of a variable of this look has printed the values xs, and no write of it has failed
pub record HasPrinted (look : Look) (xs : List ℤ) (printer : ValuePrinter) : Type 0 where
  pub same_look : look_in printer ≡ look
  pub following : IsAfter look xs printer.progress
  pub unfailed : has_failed printer ≡ false

-- it has printed the values ys more, whichever stand before them
pub record Printed (ys : List ℤ) (p q : ValuePrinter) (old new : SinkView) : Type 0 where
  pub same_look : look_in q ≡ look_in p
  pub position : position_of q ≡ position_of p + length ys
  pub unfailed : has_failed q ≡ false
  pub failures : new.failures ≡ old.failures
  pub has_printed : (look : Look) (xs : List ℤ) → HasPrinted look xs p → HasPrinted look (xs ++ ys) q
  pub appended : (look : Look) (xs : List ℤ) → HasPrinted look xs p → Appended old new (later_pieces look xs ys)

-- a write has failed inside the text of the values ys, or one had failed before
pub record Stopped (ys : List ℤ) (p q : ValuePrinter) (old new : SinkView) : Type 0 where
  pub failed : has_failed q ≡ true
  pub failures : has_failed p ≡ false → HasFailed old.failures new.failures
  pub partway : (look : Look) (xs : List ℤ) → HasPrinted look xs p → FailedPartway old new (later_pieces look xs ys)

-- what a call that prints the values read from these bytes has done
abbrev pub Prints : {X E : Type 0} → List ℕ → ValuePrinter → ValuePrinter → SinkView → SinkView → Result X E → Type 0
Prints bytes p q old new (Ok done) = Printed (values p.layout bytes) p q old new
Prints bytes p q old new (Err failure) = Stopped (values p.layout bytes) p q old new
