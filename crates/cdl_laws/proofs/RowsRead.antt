-- The values that the text of a variable lists give its array.
use Rattle.cdl_laws.proofs.Prelude.{nothing, ◌≡◌, ℕ, suc, List, [], ◌∷◌, sym, ◌∙◌, ap, arith, All, Some, slice_get, slice_index_or, rules, Dataset, Att, Dim, Header, Known, Var, fill_value, IsArray, AreArrays, value_count, IsName, IsSayable, IsSayableVar, trimmed_var, filled, all-at, takes_of}
use Rattle.cdl_laws.specs.RowLaws.{RowsReadBack, EmptyRowsReadBack}
use Rattle.cdl_laws.proofs.Given.{row_back, same_fill, array_gives}

-- ---- the parts of a dataset

array_in_place : (dims : List Dim) (n : ℕ) (vars : List Var) (arrays : List (List ℕ)) (k : ℕ) (var : Var) → AreArrays dims n vars arrays → slice_get vars k ≡ Some var → IsArray dims n var (slice_index_or arrays k [])
array_in_place dims n (w ∷ vars) (a ∷ arrays) (suc k) var are at = array_in_place dims n vars arrays k var are.1 at
array_in_place dims n _ _ _ var are at = grind arith

-- a dataset has one number of records, and an array of them for each variable
is_array : (d : Dataset) (records place : ℕ) (var : Var) → IsSayable d → d.header.numrecs ≡ Known records →
    slice_get d.header.vars place ≡ Some var → IsArray d.header.dims records var (slice_index_or d.arrays place [])
is_array d records place var s known at =
    let e : Known s.good.records ≡ Known records = sym (ap (λ (h : Header). h.numrecs) s.good.is_bare) ∙ known in
    grind (arith, array_in_place d.header.dims records d.header.vars d.arrays place var, e, s.good.arrays)

-- ---- rows

pub rows_read_back : RowsReadBack
unfolding takes_of
rows_read_back d records width place var s known at some =
    let h = d.header in
    let array = slice_index_or d.arrays place [] in
    let is = is_array d records place var s known at in
    let name = (all-at (λ (w : Var). IsName w.name × All (λ (att : Att). IsName att.name) w.atts) h.vars place var s.good.names.vars at).0 in
    let keeps = (all-at IsSayableVar h.vars place var s.vars at).fill in
    let same : fill_value (trimmed_var var) ≡ fill_value var = grind (arith, same_fill var, keeps) in
    search (rules, row_back h.version h records width var array is, same, filled, (array_gives h.dims records var array is).2)

pub empty_rows_read_back : EmptyRowsReadBack
empty_rows_read_back d records place var s known at none =
    let is = is_array d records place var s known at in
    nothing (slice_index_or d.arrays place []) (value_count d.header.dims var records) _ is.whole (grind (arith, none))
