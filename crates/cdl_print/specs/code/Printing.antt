-- For contracts. What a call that prints values has done.
use Rattle.std.specs.Prelude.{ℕ, ◌≡◌, ◌+◌, ◌-◌, ◌%◌, ◌<◌, ◌≤◌, ◌==◌, ℤ, true, false, if◌then◌else◌, List, [], ◌∷◌, ◌++◌, length, take, replicate, Some, Result, Ok, Err}
use Rattle.nc_types.specs.Escapes.{escaped_text}
use Rattle.nc_base.specs.HeadText.{without_trailing_nuls}
use Rattle.nc_base.specs.Numbers.{number_of}
use Rattle.nc_base.specs.ValueText.{Look, is_char, column, number_text, variable_prefix}
use Rattle.nc_base.specs.code.LaterPieces.{held, later_pieces}
use Rattle.devices.specs.Failures.{HasFailed}
use Rattle.devices.specs.Sinks.{SinkView, Appended, FailedPartway}
use Rattle.cdl_print.specs.code.Leads.{look_at, values, lead_bytes, lead_in_row, next_number_lead, next_char_lead, columns_left_after}
use Rattle.cdl_print.specs.declared.{lead.Lead.Lead, layout.TextLayout.TextLayout, number_line.LastLine.LastLine, progress.Progress.Progress}

-- ---- texts that are gathered

-- a text that is gathered, seen as a sink
abbrev pub gathered : List ℕ → SinkView
gathered text = record { taken = Some text; failures = 0 }

-- the new text up to `end` is the old one up to `at` with these bytes after it
abbrev pub PutAt : ℕ → List ℕ → ℕ → List ℕ → List ℕ → Type 0
PutAt at old end new bytes = take end new ≡ take at old ++ bytes

-- ---- one number

-- the next number with what stands before it
abbrev pub number_bytes : Look → Progress → ℤ → List ℕ
number_bytes look p value = lead_bytes (next_number_lead look p (length (number_text look value))) ++ number_text look value

-- the next number by a layout, read from these bytes, with what stands before it
abbrev pub next_number : TextLayout → Progress → List ℕ → List ℕ
next_number layout p bytes = number_bytes (look_at layout) p (number_of layout.ty bytes)

-- after the next number
pub record IsAfterNumber (look : Look) (p : Progress) (value : ℤ) (q : Progress) : Type 0 where
  pub position : q.position ≡ p.position + 1
  pub row_index : q.row_index ≡ (if p.row_index + 1 == look.row then 0 else p.row_index + 1)
  pub columns_left : q.columns_left ≡ columns_left_after (next_number_lead look p (length (number_text look value))) p.columns_left look.width - length (number_text look value)

-- after the next number by a layout, read from these bytes
abbrev pub IsAfterNextNumber : TextLayout → Progress → List ℕ → Progress → Type 0
IsAfterNextNumber layout p bytes q = IsAfterNumber (look_at layout) p (number_of layout.ty bytes) q

-- ---- numbers that aren't their row's first

-- a number's text with what stands before it, if the line has these columns left
abbrev pub text_in_row : ℕ → List ℕ → List ℕ
text_in_row columns_left text = lead_bytes (lead_in_row columns_left (length text)) ++ text

-- the columns left after it, in lines of this width
abbrev pub columns_left_after_text : ℕ → ℕ → List ℕ → ℕ
columns_left_after_text width columns_left text = columns_left_after (lead_in_row columns_left (length text)) columns_left width - length text

-- a number with what stands before it, if the line has these columns left
abbrev pub bytes_in_row : Look → ℕ → ℤ → List ℕ
bytes_in_row look columns_left value = text_in_row columns_left (number_text look value)

-- the columns left after it
abbrev pub columns_left_in_row : Look → ℕ → ℤ → ℕ
columns_left_in_row look columns_left value = columns_left_after_text look.width columns_left (number_text look value)

-- what stands before a text of this length at the end of the line
abbrev pub gap_at_end : LastLine → ℕ → Lead
gap_at_end line len = lead_in_row line.columns_left len

-- the columns left after a text of this length at the end of the line, in lines of this width
abbrev pub columns_left_at_end : ℕ → LastLine → ℕ → ℕ
columns_left_at_end width line len = columns_left_after (gap_at_end line len) line.columns_left width - len

-- these bytes are put at the end of the line with what stands before them, in lines of this width
pub record PutInRow (width : ℕ) (bytes : List ℕ) (before : LastLine) (old : List ℕ) (after : LastLine) (new : List ℕ) : Type 0 where
  pub text : PutAt before.end old after.end new (text_in_row before.columns_left bytes)
  pub columns_left : after.columns_left ≡ columns_left_after_text width before.columns_left bytes

-- the text of a number is put at the end of the line with what stands before it
abbrev pub PutNumber : TextLayout → ℤ → LastLine → List ℕ → LastLine → List ℕ → Type 0
PutNumber layout number before old after new = PutInRow layout.width (number_text (look_at layout) number) before old after new

-- ---- characters of one row

-- those that are printed unless others follow: in a trimmed variable all but the NULs at their end
abbrev pub shown : Look → List ℕ → List ℕ
shown look part = if look.trimmed then without_trailing_nuls part else part

-- these after n NULs that aren't printed yet, or nothing if there are none
unfoldable pub part_text : ℕ → List ℕ → List ℕ
part_text nuls [] = []
part_text nuls (b ∷ bytes) = escaped_text (replicate nuls 0) ++ escaped_text (b ∷ bytes)

-- the next characters with what stands before them
abbrev pub part_bytes : Look → Progress → List ℕ → List ℕ
part_bytes look p part = next_char_lead look p ++ part_text p.held_nuls (shown look part)

-- the next characters by a layout, with what stands before them
abbrev pub next_part : TextLayout → Progress → List ℕ → List ℕ
next_part layout p part = part_bytes (look_at layout) p part

-- the index in the row after the next characters
abbrev pub row_index_after_part : Look → Progress → List ℕ → ℕ
row_index_after_part look p part = if p.row_index + length part == look.row then 0 else p.row_index + length part

-- how many NULs are held back after `part`, characters of a row of which `shown` are shown, if `nuls` were held back before
abbrev pub held_after : ℕ → List ℕ → List ℕ → ℕ
held_after nuls part shown = (if length shown == 0 then nuls else 0) + (length part - length shown)

-- after the next characters
pub record IsAfterPart (look : Look) (p : Progress) (part : List ℕ) (q : Progress) : Type 0 where
  pub position : q.position ≡ p.position + length part
  pub row_index : q.row_index ≡ row_index_after_part look p part
  pub held : q.held_nuls ≡ (if row_index_after_part look p part == 0 then 0 else held_after p.held_nuls part (shown look part))

-- ---- values

-- the values xs are printed
pub record IsAfter (look : Look) (xs : List ℤ) (p : Progress) : Type 0 where
  pub position : p.position ≡ length xs
  pub row_index : p.row_index ≡ length xs % look.row
  pub columns_left : is_char look.ty ≡ false → p.columns_left ≡ look.width - column (variable_prefix look xs)
  pub held : is_char look.ty ≡ true → p.held_nuls ≡ held look xs

-- the next values of a variable, and how far those before them are printed
pub record NextValues : Type 0 where
  pub look : Look
  pub progress : Progress
  pub values : List ℤ

-- the values ys, which come after this progress
abbrev pub values_after : Look → Progress → List ℤ → NextValues
values_after look p ys = record { look = look; progress = p; values = ys }

-- the next values by a layout, read from these bytes
abbrev pub next : TextLayout → Progress → List ℕ → NextValues
next layout p bytes = values_after (look_at layout) p (values layout bytes)

-- the variable has the next values beside those printed
abbrev pub AreLeft : NextValues → Type 0
AreLeft n = n.progress.position + length n.values ≤ n.look.total

-- the next values stand in the row that has begun, or there are none
abbrev pub AreInRow : NextValues → Type 0
AreInRow n = 0 < length n.values → (0 < n.progress.row_index) × (n.progress.row_index + length n.values ≤ n.look.row)

-- the next values are printed, whichever stand before them (of a progress that no values lead to it says nothing: `HasPrinted`, which holds
-- of a new printer and after each of its calls, names values that do)
pub record IsAfterNext (n : NextValues) (q : Progress) : Type 0 where
  pub position : q.position ≡ n.progress.position + length n.values
  pub following : (xs : List ℤ) → IsAfter n.look xs n.progress → IsAfter n.look (xs ++ n.values) q

-- the text of the next values is written, whichever stand before them
pub record AppendedNext (n : NextValues) (old new : SinkView) : Type 0 where
  pub failures : new.failures ≡ old.failures
  pub appended : (xs : List ℤ) → IsAfter n.look xs n.progress → Appended old new (later_pieces n.look xs n.values)

-- the sink failed inside the text of the next values
pub record FailedInNext (n : NextValues) (old new : SinkView) : Type 0 where
  pub failures : HasFailed old.failures new.failures
  pub partway : (xs : List ℤ) → IsAfter n.look xs n.progress → FailedPartway old new (later_pieces n.look xs n.values)

-- what has been done between two views: the text of the next values is written, or the sink has failed
abbrev pub WrittenNext : {X E : Type 0} → SinkView → SinkView → NextValues → Result X E → Type 0
WrittenNext old new n (Ok done) = AppendedNext n old new
WrittenNext old new n (Err failure) = FailedInNext n old new

-- what a call that writes the next values to a sink has done
abbrev pub WroteNext : {S X E : Type 0} → (S → SinkView) → S → S → NextValues → Result X E → Type 0
WroteNext view old new n result = WrittenNext (view old) (view new) n result

-- the next values are put at the end of a text that is gathered, whichever stand before them
abbrev pub PutNext : ℕ → List ℕ → ℕ → List ℕ → NextValues → Type 0
PutNext at old end new n = AppendedNext n (gathered (take at old)) (gathered (take end new))

-- the values ys are printed in a row that has begun, which takes the columns left from one number to the other
abbrev pub PrintedInRow : Look → List ℤ → ℕ → ℕ → List ℕ → List ℕ → Type 0
PrintedInRow look ys columns_before columns_after old new =
    (p : Progress) → is_char look.ty ≡ false → p.columns_left ≡ columns_before → 0 < p.row_index → p.row_index < look.row → p.row_index + length ys ≤ look.row
    → AppendedNext (values_after look p ys) (gathered old) (gathered new) × ((q : Progress) → q.columns_left ≡ columns_after
    → q.position ≡ p.position + length ys → q.row_index ≡ (if p.row_index + length ys == look.row then 0 else p.row_index + length ys) → IsAfterNext (values_after look p ys) q)

-- the values ys are put at the end of the line, and none is its row's first
abbrev pub PutLine : TextLayout → List ℤ → LastLine → List ℕ → LastLine → List ℕ → Type 0
PutLine layout ys before old after new = PrintedInRow (look_at layout) ys before.columns_left after.columns_left (take before.end old) (take after.end new)
