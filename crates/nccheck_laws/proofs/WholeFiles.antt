-- No finding has a kind that stops a dump exactly if the file holds a dataset, and exactly if the dump of all values is whole.
use Rattle.nccheck_laws.proofs.Prelude.{Var, Bytes, SpellsHeader, strict, spelled-layout, Header, Fact, Finding, Report, IsReport, HasNoFault, is_fault, is_missing, list_any_none, IsSoundSlot, file_of, first_missing, concat, Dataset, HoldsDataset, bare, stored_bytes, file-holds, FindsWholeFile, ShowsAllValues, WholeFilesHoldDatasets, WholeReportsAreDumped, GeneratedFilesAreFoundWhole, ◌≡◌, Bool, true, false, not, length, map, None, refl, sym, ap, arith, subst, ◌∙◌, All, if◌then◌else◌}
use Rattle.std.proofs.Common.{get_or, ◌||◌}
use Rattle.std.proofs.lemmas.List.Folds.{list_any_at}
use Rattle.nc_base.specs.Dump.{Options, Ending, whole, IsDump, stopped, unknown, shown}
use Rattle.nc_base.specs.Sizes.{record_count}
use Rattle.nc_findings.specs.Kinds.{kind_of}
use Rattle.nccheck_laws.specs.FaultLaws.{finds_missing}
use Rattle.nccheck_laws.specs.ReportLaws.{MissingValuesStopDumps, is_truncated, stops_dump}
use Rattle.nccheck_laws.proofs.FirstFaults.{faultless}
use Rattle.nccheck_laws.proofs.LayoutFacts.{is_cut, missing-told, never-cut, read-header}
use Rattle.nccheck_laws.proofs.MissingValues.{none-lack, all-have, unmapped}
use Rattle.nccheck_laws.proofs.TruncatedDumps.{TellsEndings, dump-ends, is_whole}

-- ---- what stops a dump: a fault, missing values, and an HDF5 file that is too short

stops-is : (x : Fact) → stops_dump (kind_of x) ≡ (is_fault x || is_missing x || is_cut x)
stops-is x = grind arith

none-fault : (r : Report) → FindsWholeFile r → HasNoFault r
none-fault r found = λ k d lt. grind (arith, stops-is (get_or r.findings k d).fact, found k d lt)

none-missing : (r : Report) → FindsWholeFile r → finds_missing r ≡ false
none-missing r found =
    list_any_none (λ (f : Finding). is_missing f.fact) r.findings (λ k d lt. grind (arith, stops-is (get_or r.findings k d).fact, found k d lt))

-- where the header can be read
read-whole : (bytes : Bytes) (r : Report) (h : Header) (rest : Bytes) → IsReport bytes r → SpellsHeader bytes h rest → finds_missing r ≡ false
    → FindsWholeFile r
read-whole bytes r h rest report spelled none = λ k d lt.
    let sound = (faultless bytes r report).1 (h, rest, spelled) k d lt in
    let uncut = never-cut bytes r h rest report spelled in
    grind (arith, stops-is (get_or r.findings k d).fact, list_any_at (λ (f : Finding). is_missing f.fact) r.findings k d lt, list_any_at (λ (f : Finding). is_cut f.fact) r.findings k d lt)

-- ---- datasets

held-whole : (bytes : Bytes) (r : Report) (d : Dataset) → IsReport bytes r → HoldsDataset bytes d → FindsWholeFile r
held-whole bytes r d report holds =
    let h = holds.header in
    let present = subst (λ n. All (λ (var : Var). first_missing h bytes var n ≡ None) h.vars) holds.counted holds.whole in
    read-whole bytes r h holds.rest report holds.spelled
    (missing-told bytes r h holds.rest report holds.spelled ∙ all-have h bytes h.vars present)

-- the dataset of the values that are stored
found-held : (bytes : Bytes) (r : Report) → IsReport bytes r → FindsWholeFile r → (d : Dataset) × HoldsDataset bytes d
found-held bytes r report found =
    let s = (faultless bytes r report).0 (none-fault r found) in
    let h = s.0 in
    let n = record_count h (length bytes) in
    let present = none-lack h bytes h.vars (sym (missing-told bytes r h s.1 report s.2) ∙ none-missing r found) in (
      record { header = bare h n; arrays = map (λ (var : Var). concat (stored_bytes h bytes var n)) h.vars },
      record { header = h; rest = s.1; records = n; spelled = s.2; counted = refl; is_bare = refl; whole = present; arrays = refl },
    )

pub whole-hold : WholeFilesHoldDatasets
whole-hold bytes r report = (λ found. found-held bytes r report found, λ held. held-whole bytes r held.0 report held.1)

pub generated-whole : GeneratedFilesAreFoundWhole
generated-whole d r good fits report = held-whole (file_of d) r d report (file-holds d good fits)

-- ---- dumps

-- a dump that is whole is that of a header
dump-header : (bytes : Bytes) (o : Options) (text : Bytes) (ending : Ending) → IsDump bytes o text ending → ending ≡ whole
    → (h : Header) × (rest : Bytes) × SpellsHeader bytes h rest
dump-header bytes o text ending (stopped fault end stops) is = absurd cc
dump-header bytes o text ending (unknown h rest index spelled u) is = absurd cc
dump-header bytes o text ending (shown h rest n section spelled knows count same) is = (h, rest, spelled)

-- it is whole if no values are found to be missing, and otherwise ends at one
ends-told : (says : Ending → Bool) → TellsEndings says → (bytes : Bytes) (r : Report) (h : Header) (rest : Bytes) (o : Options) (text : Bytes) (ending : Ending)
    → IsReport bytes r → SpellsHeader bytes h rest → ShowsAllValues o → IsDump bytes o text ending
    → says ending ≡ (if finds_missing r then not (says whole) else says whole)
ends-told says tells bytes r h rest o text ending report spelled all is =
    let ends = (read-header bytes r h rest report spelled).1 in
    let sound = spelled-layout strict bytes h rest r.listing.end spelled ends in
    let slabs = unmapped IsSoundSlot h.dims h.vars sound.sound_slots in
    dump-ends says tells h bytes rest o text ending spelled (λ k d lt. (slabs k d lt).some_bytes) all is
    ∙ ap (λ any. if any then not (says whole) else says whole) (sym (missing-told bytes r h rest report spelled))

pub missing-stops : MissingValuesStopDumps
missing-stops bytes r h rest o text ending report spelled all is =
    sym (ends-told is_truncated (λ v k. refl) bytes r h rest o text ending report spelled all is ∙ is-test (finds_missing r))
  where
    is-test : (b : Bool) → (if b then true else false) ≡ b
    is-test b = grind arith

dump-tells : (bytes : Bytes) (r : Report) (h : Header) (rest : Bytes) (o : Options) (text : Bytes) (ending : Ending) → IsReport bytes r
    → SpellsHeader bytes h rest → ShowsAllValues o → IsDump bytes o text ending → is_whole ending ≡ not (finds_missing r)
dump-tells bytes r h rest o text ending report spelled all is =
    ends-told is_whole (λ v k. refl) bytes r h rest o text ending report spelled all is ∙ is-not (finds_missing r)
  where
    is-not : (b : Bool) → (if b then false else true) ≡ not b
    is-not b = grind arith

pub whole-dumped : WholeReportsAreDumped
whole-dumped bytes r o text ending report all is = (
  λ found.
      let s = (faultless bytes r report).0 (none-fault r found) in
      grind (arith, dump-tells bytes r s.0 s.1 o text ending report s.2 all is, none-missing r found),
  λ same.
      let s = dump-header bytes o text ending is same in
      read-whole bytes r s.0 s.1 report s.2 (grind (arith, dump-tells bytes r s.0 s.1 o text ending report s.2 all is)),
)
