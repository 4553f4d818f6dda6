-- What is listed keeps its limits where its slabs, its records and the header do.
use Rattle.cdl_parse.proofs.Prelude.{◌≡◌, ℕ, suc, ◌*◌, ◌/◌, ◌<◌, ◌≤◌, Bool, true, false, List, [], ◌∷◌, length, map, refl, sym, ap, ◌∙◌, arith, All, ◌&&◌, if◌then◌else◌, max, nat_le, Option, None, Some, rules, flat_map, list_all, All-cons, All-head, All-nil, All-tail, Dim, Var, AreDimids, bytes_of_number, is_record_var, slab_count, slab_size, slab_limit, array_limit, is_within_limits, records_in, listed_values, Draft, AllList, AreShaped, records_for, records_kept, records_within, with_all, RecordNeeds, le-leb, some_count, some_product, length-numbers, some_size}
use Rattle.std.proofs.Math.Nat.{mul-div_cancel, mul-le-mul_left, mul_comm, mul_right_comm}
use Rattle.nc_types.specs.Types.{size_of}

-- ---- what is listed, as bytes

abbrev pub var_of : Draft → Var
var_of d = d.var

abbrev pub listed_of : Draft → List ℕ
listed_of d = flat_map (bytes_of_number d.var.ty) (listed_values d)

pub all_are : (vars : List Var) (arrays : List (List ℕ)) (drafts : List Draft) → AllList vars arrays drafts → (vars ≡ map var_of drafts) × (arrays ≡ map listed_of drafts)
all_are [] [] [] h = (refl, refl)
all_are (var ∷ vars) (array ∷ arrays) (d ∷ drafts) h = search (rules, all_are vars arrays drafts h.1)
all_are _ _ _ h = absurd h

pub one-each : (vars : List Var) (arrays : List (List ℕ)) (drafts : List Draft) → AllList vars arrays drafts → length arrays ≡ length vars
one-each [] [] [] h = refl
one-each (var ∷ vars) (array ∷ arrays) (d ∷ drafts) h = ap suc (one-each vars arrays drafts h.1)
one-each _ _ _ h = absurd h

pub listed_count : (d : Draft) → length (listed_of d) / size_of d.var.ty ≡ length (listed_values d)
listed_count d = ap (λ n. n / size_of d.var.ty) (length-numbers d.var.ty (listed_values d)) ∙ mul-div_cancel (length (listed_values d)) (some_size d.var.ty)

-- ---- over all variables

abbrev pub has_small : List Dim → Draft → Bool
has_small dims d = nat_le (slab_size dims d.var) slab_limit

abbrev wide : List Dim → Draft → ℕ
wide dims d = if is_record_var dims d.var then slab_size dims d.var else 0

-- the greatest slab of a record variable
abbrev pub widest_in : List Dim → List Draft → ℕ
widest_in dims [] = 0
widest_in dims (d ∷ ds) = max (wide dims d) (widest_in dims ds)

abbrev reached : Bool → ℕ → ℕ → Option RecordNeeds
reached small records widest = if small then Some (record { records = records; widest = widest }) else None

max_assoc : (a b c : ℕ) → max (max a b) c ≡ max a (max b c)
max_assoc a b c = omega arith

max_zero : (a b : ℕ) → max a b ≡ max a (max 0 b)
max_zero a b = omega arith

pub with_all_is : (dims : List Dim) (drafts : List Draft) (e : RecordNeeds) →
    with_all dims (Some e) (map var_of drafts) (map listed_of drafts) ≡ reached (list_all (has_small dims) drafts) (max e.records (records_in dims drafts)) (max e.widest (widest_in dims drafts))
with_all_is dims [] e = search rules
with_all_is dims (d ∷ drafts) e =
    ap (λ n. with_all dims (if has_small dims d then Some (if is_record_var dims d.var then record {
      records = max e.records (records_for (slab_count dims d.var) n);
      widest = max e.widest (slab_size dims d.var);
    } else e) else None) (map var_of drafts) (map listed_of drafts)) (listed_count d) ∙
    by (has_small dims d) (is_record_var dims d.var) (with_all_is dims drafts)
  where
    n : ℕ
    n = records_for (slab_count dims d.var) (length (listed_values d))

    w : ℕ
    w = slab_size dims d.var

    rest : RecordNeeds → Option RecordNeeds
    rest f = reached (list_all (has_small dims) drafts) (max f.records (records_in dims drafts)) (max f.widest (widest_in dims drafts))

    by : (small growing : Bool) → ((f : RecordNeeds) → with_all dims (Some f) (map var_of drafts) (map listed_of drafts) ≡ rest f) →
        with_all dims (if small then Some (if growing then record { records = max e.records n; widest = max e.widest w } else e) else None) (map var_of drafts) (map listed_of drafts) ≡
        reached (small && list_all (has_small dims) drafts) (max e.records (max (if growing then n else 0) (records_in dims drafts))) (max e.widest (max (if growing then w else 0) (widest_in dims drafts)))
    by false growing more = refl
    by true true more = grind (arith, max_assoc, more (record { records = max e.records n; widest = max e.widest w }))
    by true false more = grind (arith, max_zero, more e)

-- ---- the arrays over n records

none_wide : (n : ℕ) → nat_le (n * 0) array_limit ≡ true
none_wide n = le-leb (n * 0) array_limit (omega arith)

le_max : (n a b m : ℕ) → nat_le (n * max a b) m ≡ (nat_le (n * a) m && nat_le (n * b) m)
le_max n a b m = search (rules, mul-le-mul_left)

one_small : (dims : List Dim) (n : ℕ) (d : Draft) → is_within_limits dims n d ≡ (has_small dims d && nat_le (n * wide dims d) array_limit)
one_small dims n d = search (rules, mul_right_comm, mul_comm)

pub all_small : (dims : List Dim) (n : ℕ) (drafts : List Draft) → list_all (is_within_limits dims n) drafts ≡ (list_all (has_small dims) drafts && nat_le (n * widest_in dims drafts) array_limit)
all_small dims n [] = sym (none_wide n)
all_small dims n (d ∷ drafts) = search (rules, one_small, wide, le_max, all_small dims n drafts)

-- ---- the number of records

some_wide : (dims : List Dim) (drafts : List Draft) → AreShaped dims drafts → 0 < records_in dims drafts → 0 < widest_in dims drafts
some_wide dims [] shaped some = absurd (omega (arith, some))
some_wide dims (d ∷ drafts) shaped some =
    search (rules, All-tail, some_product, some_count, All-head, some_size, some_wide dims drafts (All-tail (λ (e : Draft). AreDimids dims [] e.var.dimids) d drafts shaped))

within_wide : (n w : ℕ) → (0 < n → 0 < w) → n ≤ n * w
within_wide n w h = grind arith

-- how far all values reach
abbrev pub reach : List Dim → List Draft → RecordNeeds
reach dims drafts = record { records = records_in dims drafts; widest = widest_in dims drafts }

pub records_are : (dims : List Dim) (drafts : List Draft) → AreShaped dims drafts →
    records_within (reach dims drafts) ≡ (if nat_le (records_in dims drafts * widest_in dims drafts) array_limit then Some (records_in dims drafts) else None)
records_are dims drafts shaped = search (rules, within_wide, some_wide)

-- ---- what the code finds

abbrev pub nothing : RecordNeeds
nothing = record { records = 0; widest = 0 }

from_nothing : (dims : List Dim) (vars : List Var) (arrays : List (List ℕ)) (drafts : List Draft) → AllList vars arrays drafts →
    with_all dims (Some nothing) vars arrays ≡ (if list_all (has_small dims) drafts then Some (reach dims drafts) else None)
from_nothing dims vars arrays drafts lists = search (rules, all_are, with_all_is, reached)

kept_is : (dims : List Dim) (drafts : List Draft) →
    records_kept dims drafts ≡ (if list_all (has_small dims) drafts then (if nat_le (records_in dims drafts * widest_in dims drafts) array_limit then Some (records_in dims drafts) else None) else None)
kept_is dims drafts = grind (arith, all_small dims (records_in dims drafts) drafts)

-- a slab passes the limit
pub none_kept : (dims : List Dim) (vars : List Var) (arrays : List (List ℕ)) (drafts : List Draft) → AllList vars arrays drafts → with_all dims (Some nothing) vars arrays ≡ None → records_kept dims drafts ≡ None
none_kept dims vars arrays drafts lists none = search (rules, all_small, all_are, with_all_is, reached)

pub some_kept : (dims : List Dim) (vars : List Var) (arrays : List (List ℕ)) (drafts : List Draft) (e : RecordNeeds) → AllList vars arrays drafts → AreShaped dims drafts → with_all dims (Some nothing) vars arrays ≡ Some e →
    records_within e ≡ records_kept dims drafts
some_kept dims vars arrays drafts e lists shaped is =
    by (list_all (has_small dims) drafts) (sym (from_nothing dims vars arrays drafts lists) ∙ is) ∙ sym (kept_is dims drafts)
  where
    by : (a : Bool) → (if a then Some (reach dims drafts) else None) ≡ Some e →
        records_within e ≡ (if a then (if nat_le (records_in dims drafts * widest_in dims drafts) array_limit then Some (records_in dims drafts) else None) else None)
    by true h = let same : reach dims drafts ≡ e = cc in ap records_within (sym same) ∙ records_are dims drafts shaped
    by false h = cc

-- each slab has a value
pub each_some : (dims : List Dim) (vars : List Var) (arrays : List (List ℕ)) (drafts : List Draft) → AllList vars arrays drafts → AreShaped dims drafts → All (λ (var : Var). 0 < slab_count dims var) vars
each_some dims [] [] [] lists shaped = All-nil (λ (var : Var). 0 < slab_count dims var)
each_some dims (var ∷ vars) (array ∷ arrays) (d ∷ drafts) lists shaped =
    search (rules, All-cons, some_count, All-head, All-tail, each_some dims vars arrays drafts lists.1 (All-tail (λ (e : Draft). AreDimids dims [] e.var.dimids) d drafts shaped))
each_some dims _ _ _ lists shaped = absurd lists
