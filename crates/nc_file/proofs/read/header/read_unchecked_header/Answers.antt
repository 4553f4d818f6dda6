use Rattle.nc_file.proofs.Prelude.{◌≡◌, ℕ, ◌+◌, ◌-◌, ◌≤◌, Bool, true, List, length, drop, Result, Ok, Err, IfOk, sym, ap, ◌∙◌, subst, arith, length-drop, refl, OnTrue, OnTrue_from, Header, HeadFault, Format, Window, Ghosts, Reads, header_spelling, Kept, Read, left, source_of, header_part, Outcome, run, left_after, print-len, header-read, header-stopped, rest-within, end-within, stops-at, rules}
use Rattle.nc_base.proofs.SoundSpelling.{spelled-sound}
use Rattle.nc_file.specs.code.Answers.{EndsAt, header_end, fault_end, ReadAtLeast, IsInterrupted, Answers, HasAnswered}
use Rattle.nc_window.specs.code.Window.{ReadUpTo}
use Rattle.nc_window.proofs.PartRuns.{shorter}
use Rattle.nc_file.proofs.read.header.read_unchecked_header.Goals as goal

-- What a reader of the code answers is what the grammar says.

-- where the header ends, or its first wrong field, from how much is left after it
ends-of : (bytes : List ℕ) (o : Outcome Header) → run header_part bytes ≡ o → EndsAt bytes (length bytes - left_after o)
unfolding left_after
ends-of bytes (Ok x) e = let s = header-read bytes x.0 x.1 e in header_end x.0 x.1 s (omega (arith, rest-within bytes x.0 x.1 s))
ends-of bytes (Err x) e =
    let s = header-stopped bytes x.0 x.1 e in fault_end x.0 (stops-at bytes x.0 x.1 (length bytes - length x.1) s (omega (arith, end-within bytes x.0 x.1 s)))

module _ {S : Type 0} {g : Ghosts S} (start now : Window S g) (base : start.base ≡ 0) (filled : start.filled ≡ 0) (pos : start.pos ≡ 0)
    (kept : Kept start now) where
  abbrev bytes : List ℕ
  bytes = (source_of start).bytes

  len : length (left now) ≡ length bytes - (now.base + now.pos)
  len = ap (λ (bs : List ℕ). length (drop (now.base + now.pos) bs)) kept.bytes ∙ length-drop (now.base + now.pos) bytes

  at_start : left start ≡ bytes
  at_start = let none : start.base + start.pos ≡ 0 = omega (arith, base, pos) in ap (λ (n : ℕ). drop n bytes) none

  -- what is left begins where reading has ended
  ends-at : (length bytes - length (left now)) + length (left now) ≡ length bytes
  ends-at = omega (arith, len)

  handed-up-to : (end : ℕ) → length bytes ≤ end + length (left now) → ReadUpTo (source_of start).handed (source_of now).handed end (length start.buf.now)
  handed-up-to end le =
      let within : now.base + now.filled ≤ length bytes = omega (arith, now.within, ap (λ (bs : List ℕ). length bs) kept.bytes) in
      omega (arith, len, le, within, kept.handed, now.used, now.fits, kept.same_buffer_len, base, filled)

  read-from-start : (o : Outcome Header) → run header_part (left start) ≡ o → run header_part bytes ≡ o
  read-from-start o e = sym (ap (run header_part) at_start) ∙ e

  broken-off : left_after (run header_part (left start)) ≤ length (left now) → IsInterrupted bytes (source_of start).handed (source_of now).handed (length start.buf.now)
  broken-off reads =
      let few : left_after (run header_part bytes) ≤ length (left now) = subst (λ (bs : List ℕ). left_after (run header_part bs) ≤ length (left now)) at_start reads in
      record {
        end = length bytes - left_after (run header_part bytes);
        ends = ends-of bytes (run header_part bytes) refl;
        handed = handed-up-to (length bytes - left_after (run header_part bytes)) (omega (arith, few, shorter header_part bytes));
      }

  answer : (result : Result Header HeadFault) → Reads true (left start) (left now) header_part result
      → Answers bytes (source_of start).handed (source_of now).handed (length start.buf.now) result
  answer (Ok h) reads =
      let found = header-read bytes h (left now) (read-from-start (Ok (h, left now)) reads) in
      record {
        rest = left now;
        end = length bytes - length (left now);
        spelled = found;
        ends = ends-at;
        handed = handed-up-to (length bytes - length (left now)) (omega (arith, ends-at));
        sound = (spelled-sound bytes h (left now) found).sound;
        names = (spelled-sound bytes h (left now) found).names;
      }
  answer (Err (Format fault)) reads = record {
    end = length bytes - length (left now);
    stops = stops-at bytes fault (left now) _ (header-stopped bytes fault (left now) (read-from-start (Err (fault, left now)) reads)) ends-at;
    handed = handed-up-to (length bytes - length (left now)) (omega (arith, ends-at));
  }
  answer (Err _) reads = broken-off reads

answered : {S : Type 0} {g : Ghosts S} (old new : Window S g) (result : Result Header HeadFault) → old.base ≡ 0 → old.filled ≡ 0 → old.pos ≡ 0
    → Read old new header_part result
    → OnTrue g.is_transparent (HasAnswered (source_of old).bytes (source_of old).handed (source_of new).handed (length old.buf.now) result)
answered {g = g} old new result base filled pos d =
    let right : g.is_transparent ≡ true → HasAnswered (source_of old).bytes (source_of old).handed (source_of new).handed (length old.buf.now) result = λ known.
    let reads : Reads true (left old) (left new) header_part result = subst (λ (t : Bool). Reads t (left old) (left new) header_part result) known d.reads in
    record { answer = answer old new base filled pos d.kept result reads } in
    OnTrue_from _ _ right

-- A header that was read is spelled in no more bytes than the source has handed over, whatever the source.
spelled_handed : {S : Type 0} {g : Ghosts S} (old new : Window S g) (result : Result Header HeadFault) → old.base ≡ 0 → old.filled ≡ 0 → old.pos ≡ 0
    → Read old new header_part result
    → IfOk result (λ h. ReadAtLeast (source_of old) (source_of new) (length (header_spelling h)))
spelled_handed old new (Ok h) base filled pos d = omega (arith, print-len header_part h, d.kept.handed, d.used, new.used, base, filled, pos)
spelled_handed old new (Err e) base filled pos d = tt

pub returns-clause-answer : goal.returns-clause-answer
returns-clause-answer g c = let s = c.new.ensures.starts in let h = answered _ _ _ s.base s.filled s.pos c.read_whole_header.ensures in search rules

pub returns-clause-spelled : goal.returns-clause-spelled
returns-clause-spelled g c = let s = c.new.ensures.starts in let h = spelled_handed _ _ _ s.base s.filled s.pos c.read_whole_header.ensures in search rules
