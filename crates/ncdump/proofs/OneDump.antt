-- There is one dump of a file.
use Rattle.ncdump.proofs.Prelude.{◌≡◌, ℕ, List, [], length, refl, ap, arith, rules, inl, inr, Option, Some, None, Result, Ok, Err, ◌⊎◌, Header, record_count, SpellsHeader, Options, Ending, whole, wrong_field, no_such_variable, data_truncated, first_unknown, values_in_file, shown_data_text, selection_of, dump_text, IsDump, stopped, unknown, shown, SinkView, Appended, DumpFault, Format, NoSuchVariable, DataTruncated}
use Rattle.nc_file.specs.OneOutcome.{BeginsWithHeader, HasFirstFault, HasOneOutcome}
use Rattle.nc_file.proofs.Outcomes.{one-outcome}
use Rattle.ncdump.specs.OneDump.{HasDumped, BytesHaveOneDump, DumpsAgree}

-- ---- there is a dump

-- a text and its ending
abbrev Some-dump : List ℕ → Options → Type 0
Some-dump bytes o = (text : List ℕ) × (ending : Ending) × IsDump bytes o text ending

after-header : (bytes : List ℕ) (o : Options) (h : Header) (rest : List ℕ) → SpellsHeader bytes h rest
    → (found : Option ℕ) → first_unknown h.vars o.chosen ≡ found → Some-dump bytes o
after-header bytes o h rest spelled None knows =
    let n = record_count h (length bytes) in
    let section = shown_data_text h o (values_in_file h bytes n) n (selection_of h o) in
    (dump_text h o n section, section.ending, shown h rest n section spelled knows refl refl)
after-header bytes o h rest spelled (Some index) u = ([], no_such_variable index, unknown h rest index spelled u)

some-dump : (bytes : List ℕ) (o : Options) → BeginsWithHeader bytes ⊎ HasFirstFault bytes → Some-dump bytes o
some-dump bytes o (inl (h, rest, spelled)) = after-header bytes o h rest spelled (first_unknown h.vars o.chosen) refl
some-dump bytes o (inr (fault, end, stops)) = ([], wrong_field fault, stopped fault end stops)

-- ---- and no other

same-index : (i j : ℕ) → Some i ≡ Some j → i ≡ j
same-index i j e = cc

some-none : (i : ℕ) → ¬ (Some i ≡ None)
some-none i e = cc

same-dump : (bytes : List ℕ) (o : Options) (t u : List ℕ) (e f : Ending) → HasOneOutcome bytes → IsDump bytes o t e → IsDump bytes o u f → (t ≡ u) × (e ≡ f)
same-dump bytes o t u e f one (stopped fault end s) (stopped other last r) = (refl, ap wrong_field (one.one_fault fault other end last s r).0)
same-dump bytes o t u e f one (stopped fault end s) (unknown h rest index r w) = absurd (one.not_both (h, rest, r) (fault, end, s))
same-dump bytes o t u e f one (stopped fault end s) (shown h rest n section r knows counted is) = absurd (one.not_both (h, rest, r) (fault, end, s))
same-dump bytes o t u e f one (unknown h rest index s w) (stopped fault end r) = absurd (one.not_both (h, rest, s) (fault, end, r))
same-dump bytes o t u e f one (unknown h rest i s w) (unknown k more j r x) = search (rules, same-index)
same-dump bytes o t u e f one (unknown h rest i s w) (shown k more n section r knows counted is) = search (rules, some-none)
same-dump bytes o t u e f one (shown h rest n section s knows counted is) (stopped fault end r) = absurd (one.not_both (h, rest, s) (fault, end, r))
same-dump bytes o t u e f one (shown h rest n section s knows counted is) (unknown k more j r x) = search (rules, some-none)
same-dump bytes o t u e f one (shown h rest n section s knows counted is) (shown k more m other r knew number are) = search rules

pub one_dump : BytesHaveOneDump
one_dump bytes o = grind (arith, one-outcome bytes, some-dump bytes o, same-dump bytes o)

-- ---- calls that meet no failure

-- how a call answers a dump with this ending
abbrev answer_of : Ending → Result (Unit {0}) DumpFault
answer_of whole = Ok tt
answer_of (wrong_field fault) = Err (Format fault)
answer_of (no_such_variable index) = Err (NoSuchVariable index)
answer_of (data_truncated v k) = Err (DataTruncated v k)

-- a call has written a dump, and answers its ending
record Ends (bytes : List ℕ) (o : Options) (old new : SinkView) (answer : Result (Unit {0}) DumpFault) : Type 0 where
  text : List ℕ
  ending : Ending
  is_dump : IsDump bytes o text ending
  appended : Appended old new text
  answers : answer ≡ answer_of ending

ended : (bytes : List ℕ) (o : Options) (old new : SinkView) (answer : Result (Unit {0}) DumpFault) → HasDumped bytes o old new answer → Ends bytes o old new answer
ended bytes o old new answer h = grind (arith, whole)

pub dumps_agree : DumpsAgree
dumps_agree bytes o a b c d answer other first second =
    grind (arith, ended bytes o a b answer first, ended bytes o c d other second, same-dump bytes o, one-outcome bytes)
