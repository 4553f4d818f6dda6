-- The text of a dump from its parts.
use Rattle.ncdump.proofs.Prelude.{◌≡◌, ℕ, inl, inr, Bool, List, [], ◌++◌, refl, sym, ap, ◌∙◌, append_assoc, codes, subst, Ok, Err, rules, append-nil, Header, head_text, Options, DataText, Ending, whole, data_truncated, data_word, closing_word, dump_text, SourceView, SinkView, Appended, FailedPartway, appended_then, appended_partway, DumpFault, ReadFailed, WriteFailed, DataTruncated, Dumped, dumped, selected_values, text_before, unless_head_only, KeepsUpIn, IsUpToDate, Holds, ShowsSelected, Shows, between}
use Rattle.nc_types.specs.Bytes.{concat_parts}
use Rattle.ncdump.proofs.Calls.{call}
use Rattle.ncdump.proofs.Held.{holds-after, holds-partway, partway-longer}

-- the parts of a dump's text
pub parts : (h : Header) (o : Options) (n : ℕ) (section : DataText) → dump_text h o n section ≡ text_before o h n ++ (section.text ++ closing_word section.ending)
unfolding concat_parts
parts h o n section = search (rules, append-nil, append_assoc)

keeps-map : (d : Dumped) (selection : List Bool) (buffer_len : ℕ) (a b : SourceView) (T U : List ℕ → Type 0) → ((t : List ℕ) → T t → U t) → KeepsUpIn d selection buffer_len (between a b) T → KeepsUpIn d selection buffer_len (between a b) U
keeps-map d selection buffer_len a b T U f k = search rules

date-map : (d : Dumped) (selection : List Bool) (buffer_len : ℕ) (a b : SourceView) (T U : List ℕ → Type 0) → ((t : List ℕ) → T t → U t) → IsUpToDate d selection buffer_len (between a b) T → IsUpToDate d selection buffer_len (between a b) U
date-map d selection buffer_len a b T U f up = elim up [ inl same ↦ inl same | inr k ↦ inr (keeps-map d selection buffer_len a b T U f k) ]

module _ (o : Options) (h : Header) (n : ℕ) (shown : List Bool) (buffer_len : ℕ) (a : SourceView) (old : SinkView) where
  abbrev pub d : Dumped
  d = dumped h a n o.width

  abbrev pub selection : List Bool
  selection = unless_head_only o shown

  abbrev pub section : DataText
  section = selected_values d selection

  -- the head isn't written
  pub no-head : (new : SinkView) → FailedPartway old new (head_text o.name h n) → Shows {A = Unit {0}} o h n shown (call buffer_len a a old new) (Err WriteFailed)
  no-head new partway = search (rules, parts, section, append_assoc, partway-longer)

  -- the word after it isn't
  pub no-word : (mid new : SinkView) → Appended old mid (head_text o.name h n) → FailedPartway mid new (data_word h o) → Shows {A = Unit {0}} o h n shown (call buffer_len a a old new) (Err WriteFailed)
  no-word mid new head partway = search (rules, parts, section, append_assoc, appended_partway)

  module _ (mid : SinkView) (before : Appended old mid (text_before o h n)) where
    cut-text : (v k : ℕ) → section.ending ≡ data_truncated v k → text_before o h n ++ section.text ≡ dump_text h o n section
    unfolding closing_word
    cut-text v k ends =
        ap (λ (t : List ℕ). text_before o h n ++ t) (sym (append-nil section.text) ∙ ap (λ (e : Ending). section.text ++ closing_word e) (sym ends)) ∙ sym (parts h o n section)

    -- the values aren't all shown
    pub no-values : (c : SourceView) (new : SinkView) (fault : DumpFault) → ShowsSelected {A = Unit {0}} d selection (call buffer_len a c mid new) (Err fault) → Shows {A = Unit {0}} o h n shown (call buffer_len a c old new) (Err fault)
    no-values c new (DataTruncated v k) s = search (rules, cut-text, appended_then)
    no-values c new ReadFailed s = search (rules, keeps-map, appended_then)
    no-values c new WriteFailed s = search (rules, parts, section, appended_partway, date-map, holds-after)
    no-values c new _ s = absurd s

    module _ (c : SourceView) (last : SinkView) (s : ShowsSelected {A = Unit {0}} d selection (call buffer_len a c mid last) (Ok tt)) where
      -- the closing brace isn't written
      pub no-brace : (new : SinkView) → FailedPartway last new (closing_word whole) → Shows {A = Unit {0}} o h n shown (call buffer_len a c old new) (Err WriteFailed)
      no-brace new partway = record {
        bytes = s.0.bytes;
        most = s.0.most;
        partway = subst (FailedPartway old new) (ap (λ (t : List ℕ). (text_before o h n ++ section.text) ++ t) (append-nil (closing_word whole)) ∙ whole-text)
            (appended_partway old last new (text_before o h n ++ section.text) (closing_word whole) [] (appended_then old mid last (text_before o h n) section.text before s.0.taken) partway);
        keeps_up = date-map d selection buffer_len a c (Holds mid last) (λ (t : List ℕ). Holds old new (text_before o h n ++ t))
            (λ t g. holds-partway old last new (text_before o h n ++ t) (closing_word whole) (holds-after old mid last (text_before o h n) t before g) partway) s.1;
      }
        where
          whole-text : (text_before o h n ++ section.text) ++ closing_word whole ≡ dump_text h o n section
          whole-text = append_assoc (text_before o h n) section.text (closing_word whole) ∙ ap (λ (e : Ending). text_before o h n ++ (section.text ++ closing_word e)) (sym s.0.ends) ∙ sym (parts h o n section)

      -- all is written
      pub all-written : (new : SinkView) → Appended last new (closing_word whole) → Shows {A = Unit {0}} o h n shown (call buffer_len a c old new) (Ok tt)
      all-written new appended = search (rules, parts, section, append_assoc, appended_then)

pub brace : codes "}\n" ≡ closing_word whole
unfolding closing_word
brace = refl
