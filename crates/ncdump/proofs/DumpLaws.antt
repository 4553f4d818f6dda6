-- A dump from reading the header, selecting variables and showing them.
use Rattle.ncdump.proofs.Prelude.{◌≡◌, ℕ, ◌+◌, inl, inr, Bool, true, List, [], ◌++◌, length, Result, Ok, Err, refl, sym, ap, subst, ◌∙◌, append_assoc, ◌&&◌, arith, None, OnTrue, appended_none, Header, SpellsHeader, record_count, Options, DataText, closing_word, first_unknown, selection_of, dump_text, has_values, IsDump, stopped, unknown, shown, SourceView, SinkView, transparent_map, transparent_both, DumpFault, OutOfMemory, ReadFailed, WriteFailed, Format, NoSuchVariable, Dumped, dumped, prefix_text, selected_values, values_from, unless_head_only, text_before, KeepsUpIn, Shows, Dumps, ReadsForward, IsAfterHeader, in_header, between}
use Rattle.nc_file.specs.code.Answers.{IsRead, Answers, HasAnswered, header_end, fault_end}
use Rattle.nc_window.specs.declared.head_fault.HeadFault.{HeadFault}
use Rattle.nc_window.specs.declared.head_fault.HeadFault.TheVariants as head
use Rattle.ncdump.specs.code.HeadFaults.{fault_of_head}
use Rattle.ncdump.specs.code.Selections.{Selects}
use Rattle.ncdump.proofs.Calls.{call}
use Rattle.ncdump.proofs.Prefixes.{prefix-in-text}
use Rattle.ncdump.proofs.Selected.{values-at, more-and}
use Rattle.ncdump.proofs.WholeText.{parts}

-- ---- a header that isn't read

refused : (o : Options) (a b : SourceView) (buffer_len : ℕ) (sink : SinkView) (e : HeadFault) → Answers a.bytes a.handed b.handed buffer_len (Err e)
    → Dumps {A = Unit {0}} a.bytes o sink sink (Err (fault_of_head e)) × ReadsForward {A = Unit {0}} o (call buffer_len a b sink sink) (Err (fault_of_head e))
refused o a b buffer_len sink head.OutOfMemory answer = (refl, record { end = answer.end; ends = answer.ends; handed = answer.handed })
refused o a b buffer_len sink head.ReadFailed answer = (inl refl, in_header (record { end = answer.end; ends = answer.ends; handed = answer.handed }) refl)
refused o a b buffer_len sink (head.Format fault) answer =
    (record { text = []; is_dump = stopped fault answer.end answer.stops; appended = appended_none sink }, record { end = answer.end; ends = fault_end fault answer.stops; handed = answer.handed })

pub transparent-refused : (is_transparent : Bool) (o : Options) (a b : SourceView) (buffer_len : ℕ) (sink : SinkView) (e : HeadFault) → OnTrue is_transparent (HasAnswered a.bytes a.handed b.handed buffer_len (Err e))
    → OnTrue is_transparent (Dumps {A = Unit {0}} a.bytes o sink sink (Err (fault_of_head e)) × ReadsForward {A = Unit {0}} o (call buffer_len a b sink sink) (Err (fault_of_head e)))
transparent-refused is_transparent o a b buffer_len sink e answered = transparent_map is_transparent (λ x. refused o a b buffer_len sink e x.answer) answered

-- ---- names that aren't known

unselected : (o : Options) (a b : SourceView) (buffer_len : ℕ) (sink : SinkView) (h : Header) (fault : DumpFault) → IsRead a.bytes a.handed b.handed buffer_len h → Selects h o (Err fault)
    → Dumps {A = Unit {0}} a.bytes o sink sink (Err fault) × ReadsForward {A = Unit {0}} o (call buffer_len a b sink sink) (Err fault)
unselected o a b buffer_len sink h OutOfMemory read selects = (refl, record { end = read.end; ends = header_end h read.rest read.spelled read.ends; handed = read.handed })
unselected o a b buffer_len sink h (NoSuchVariable index) read selects =
    (record { text = []; is_dump = unknown h read.rest index read.spelled selects; appended = appended_none sink }, record { end = read.end; ends = header_end h read.rest read.spelled read.ends; handed = read.handed })
unselected o a b buffer_len sink h _ read selects = absurd selects

pub transparent-unselected : (is_transparent : Bool) (o : Options) (a b : SourceView) (buffer_len : ℕ) (sink : SinkView) (h : Header) (fault : DumpFault)
    → OnTrue is_transparent (HasAnswered a.bytes a.handed b.handed buffer_len (Ok h)) → Selects h o (Err fault)
    → OnTrue is_transparent (Dumps {A = Unit {0}} a.bytes o sink sink (Err fault) × ReadsForward {A = Unit {0}} o (call buffer_len a b sink sink) (Err fault))
transparent-unselected is_transparent o a b buffer_len sink h fault answered selects = transparent_map is_transparent (λ x. unselected o a b buffer_len sink h fault x.answer selects) answered

-- ---- variables that are shown

-- what stands up to and with a variable's first values is a prefix of the text of all
prefix-of-all : (d : Dumped) (selection : List Bool) (buffer_len : ℕ) (a b : SourceView) (Taken : List ℕ → Type 0) (k : KeepsUpIn d selection buffer_len (between a b) Taken)
    → (rest : List ℕ) × ((selected_values d selection).text ≡ (k.prefix ++ prefix_text d k.var k.keeps_up.k) ++ rest)
prefix-of-all d selection buffer_len a b Taken k =
    let yes : true ≡ (true && has_values d.header.dims d.records k.var) = sym k.some in
    let here = values-at d selection k.v k.var true true k.at k.selected yes in
    let more = more-and _ _ _ k.v (values_from d selection (k.v + 1)) in
    let prefix = prefix-in-text d k.v k.var k.keeps_up.k k.keeps_up.few in (
      prefix.0 ++ more.0,
      k.is_before.text_is ∙ ap (λ (s : DataText). k.prefix ++ s.text) here ∙ ap (λ (t : List ℕ). k.prefix ++ t) more.1 ∙ rw prefix.1 (simp append_assoc),
    )

module _ (o : Options) (bytes : List ℕ) (h : Header) (rest : List ℕ) (buffer_len : ℕ) (b c : SourceView) (old new : SinkView)
    (spelled : SpellsHeader bytes h rest) (knows : first_unknown h.vars o.chosen ≡ None) (same : b.bytes ≡ bytes) where
  abbrev pub section : DataText
  section = selected_values (dumped h b (record_count h (length bytes)) o.width) (unless_head_only o (selection_of h o))

  is-dump : IsDump bytes o (dump_text h o (record_count h (length bytes)) section) section.ending
  is-dump = shown h rest (record_count h (length bytes)) section spelled knows refl
      (ap (λ (bs : List ℕ). selected_values (record { header = h; bytes = bs; records = record_count h (length bytes); width = o.width }) (unless_head_only o (selection_of h o))) same)

  written : {A : Type 0} (result : Result A DumpFault) → Shows o h (record_count h (length bytes)) (selection_of h o) (call buffer_len b c old new) result → Dumps bytes o old new result
  written (Err WriteFailed) s = record {
    text = dump_text h o (record_count h (length bytes)) section;
    ending = section.ending;
    is_dump = is-dump;
    partway = s.partway;
  }
  written (Err ReadFailed) s =
      let prefix = prefix-of-all _ _ _ _ _ _ s.keeps_up in
      let before = text_before o h (record_count h (length bytes)) in
      let values = s.keeps_up.prefix ++ prefix_text _ s.keeps_up.var s.keeps_up.keeps_up.k in
      let text : dump_text h o (record_count h (length bytes)) section ≡ (before ++ values) ++ (prefix.0 ++ closing_word section.ending) =
      parts h o (record_count h (length bytes)) section ∙ rw prefix.1 (simp append_assoc) in
      inr (record {
        prefix = before ++ values;
        rest = prefix.0 ++ closing_word section.ending;
        ending = section.ending;
        is_dump = subst (λ (t : List ℕ). IsDump bytes o t section.ending) text is-dump;
        appended = s.keeps_up.keeps_up.taken;
      })
  written (Err OutOfMemory) s = absurd s
  written (Err (Format fault)) s = absurd s
  written (Err (NoSuchVariable i)) s = absurd s
  written _ s = record {
    text = dump_text h o (record_count h (length bytes)) section;
    is_dump = subst (IsDump bytes o (dump_text h o (record_count h (length bytes)) section)) s.ends is-dump;
    appended = s.taken;
  }

forward : (o : Options) (buffer_len : ℕ) (a c : SourceView) (old new : SinkView) (result : Result (Unit {0}) DumpFault)
    → IsAfterHeader o (call buffer_len a c old new) result → ReadsForward o (call buffer_len a c old new) result
forward o buffer_len a c old new result h = grind arith

pub transparent-shown : (is_transparent : Bool) (o : Options) (a b c : SourceView) (buffer_len buf : ℕ) (old new : SinkView) (h : Header) (selection : List Bool) (result : Result (Unit {0}) DumpFault)
    → OnTrue is_transparent (HasAnswered a.bytes a.handed b.handed buffer_len (Ok h)) → first_unknown h.vars o.chosen ≡ None → selection ≡ selection_of h o → b.bytes ≡ a.bytes → buf ≡ buffer_len
    → OnTrue is_transparent (Shows o h (record_count h (length b.bytes)) selection (call buf b c old new) result)
    → OnTrue is_transparent (Dumps a.bytes o old new result × ReadsForward o (call buffer_len a c old new) result)
transparent-shown is_transparent o a b c buffer_len buf old new h selection result answered knows is same wide shows = transparent_both is_transparent (λ x s0.
    let read = x.answer in
    let s = subst (λ (bs : List ℕ). Shows o h (record_count h (length bs)) (selection_of h o) (call buffer_len b c old new) result) same (rw (is, wide) at s0) in (
      written o a.bytes h read.rest buffer_len b c old new read.spelled knows same result s,
      forward o buffer_len a c old new result (record {
        h = h;
        rest = read.rest;
        end = read.end;
        here = b;
        spelled = read.spelled;
        ends = read.ends;
        knows = knows;
        bytes = same;
        handed = read.handed;
        shows = s;
      }),
    )) answered shows
