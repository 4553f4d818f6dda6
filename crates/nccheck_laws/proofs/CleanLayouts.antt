-- A report finds nothing at begins and at the end of a generated file.
use Rattle.nccheck_laws.proofs.Prelude.{common_steps, All-nil, All-cons, Att, Header, Var, Bytes, SpellsHeader, strict, spelled-layout, LayoutFact, All-head, All-tail, Dataset, Known, Fits, begin_after, data_of, vars_with_begins, file_of, with_begins, header_spelling, IsName, AreArrays, IsGood, HasValidNames, bare, bare-after, sound-after, printed, header-printable, is_of_begin, is_of_end, is_of_layout, GeneratedFilesHaveQuietLayouts, arith, ◌≡◌, ℕ, ◌+◌, Bool, List, [], ◌∷◌, ◌++◌, length, sym, ap, ◌∙◌, All}
use Rattle.nccheck_laws.proofs.CanonicalLayouts.{generated-quiet as layouts-quiet}
use Rattle.nccheck_laws.proofs.LayoutFacts.{of-layout, read-tells}

-- ---- generated files

arrays-begin : (h : Header) (n : ℕ) (before vars : List Var) (arrays : List Bytes) → AreArrays h.dims n vars arrays
    → AreArrays h.dims n (vars_with_begins h before vars) arrays
arrays-begin h n before [] arrays are = are
arrays-begin h n before (var ∷ vars) [] are = are
arrays-begin h n before (var ∷ vars) (array ∷ arrays) are = grind (arith, arrays-begin h n (before ++ var ∷ []) vars arrays are.1)

-- the variable and its attributes have valid names
abbrev HasNames : Var → Type 0
HasNames var = IsName var.name × All (λ (att : Att). IsName att.name) var.atts

names-begin : (h : Header) (before vars : List Var) → All HasNames vars → All HasNames (vars_with_begins h before vars)
names-begin h before [] names = All-nil HasNames
names-begin h before (var ∷ vars) names =
    All-cons HasNames (record var { begin_at = begin_after h before var }) (vars_with_begins h (before ++ var ∷ []) vars)
    (All-head HasNames var vars names) (names-begin h (before ++ var ∷ []) vars (All-tail HasNames var vars names))

-- what is read of a generated file, and how it is written
pub record IsReadAs (d : Dataset) (n : ℕ) : Type 0 where
  pub spelled : SpellsHeader (file_of d) (with_begins d.header) (data_of d.header d.arrays)
  pub written : file_of d ≡ header_spelling (with_begins d.header) ++ data_of d.header d.arrays
  pub known : (with_begins d.header).numrecs ≡ Known n
  pub is_bare : d.header ≡ bare (with_begins d.header) n
  pub arrays : AreArrays (with_begins d.header).dims n (with_begins d.header).vars d.arrays
  pub ends : length (header_spelling (with_begins d.header)) + length (data_of d.header d.arrays) ≡ length (file_of d)

pub read-as : (d : Dataset) (good : IsGood d) → Fits d.header → IsReadAs d good.records
unfolding file_of with_begins
read-as d good fits =
    let h = d.header in
    let names : HasValidNames (with_begins h) = record {
      dims = good.names.dims;
      gatts = good.names.gatts;
      vars = names-begin h [] h.vars good.names.vars;
    } in
    grind (arith, common_steps, printed, header-printable, sound-after, bare-after, arrays-begin)

pub generated-quiet : GeneratedFilesHaveQuietLayouts
generated-quiet d r good fits report =
    let n = good.records in
    let s = read-as d good fits in
    let h = with_begins d.header in
    let rest = data_of d.header d.arrays in
    let header_end = length (header_spelling h) in
    let quiet = layouts-quiet h d.arrays n (length (file_of d)) s.known s.arrays
    (spelled-layout strict (file_of d) h rest header_end s.spelled s.ends) (ap with_begins (sym s.is_bare))
    (ap (λ (x : Header). length (file_of (record { header = x; arrays = d.arrays }))) s.is_bare) in
    let told = λ (kind : LayoutFact → Bool).
    read-tells (is_of_layout kind) kind (of-layout kind) (file_of d) r h rest header_end report s.spelled s.ends in
    record { begins = told is_of_begin ∙ quiet.0; end = told is_of_end ∙ quiet.1 }
