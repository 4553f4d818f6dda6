-- Fronts of a variable's text.
use Rattle.ncdump.proofs.Prelude.{◌≡◌, ℕ, ◌+◌, ◌-◌, ◌≤◌, ◌<◌, min, List, [], ◌++◌, length, take, drop, sym, ap, ◌∙◌, append_assoc, arith, Option, Some, None, ℤ, unwrap_or, rules, wide_look, length-take, take-add, take_all, length-map, Var, value_count, stored_values, first_missing, Look, look_of, variable_prefix, variable_text, later_pieces, variable_closing, no_data_text, with_variable, prefix-append, Dumped, prefix_text, values_alone, whole_values}
use Rattle.nc_walk.proofs.Orders.{count_of_offsets}

-- as many values are stored as the variable has
pub count-stored : (d : Dumped) (var : Var) → length (stored_values d.header d.bytes var d.records) ≡ value_count d.header.dims var d.records
count-stored d var = search (rules, length-map, count_of_offsets)

-- a prefix of the first values is a prefix of more of them
prefix-more : (look : Look) (xs : List ℤ) (k i : ℕ) → (0 < length xs → 0 < look.row) → (rest : List ℕ) × (variable_prefix look (take (k + i) xs) ≡ variable_prefix look (take k xs) ++ rest)
prefix-more look xs k i wide =
    let same = take-add k i xs in
    let few = length-take (k + i) xs in
    let count : length (take k xs ++ take i (drop k xs)) ≡ min (k + i) (length xs) = ap (λ (ys : List ℤ). length ys) (sym same) ∙ few in
    (later_pieces look (take k xs) (take i (drop k xs)), ap (variable_prefix look) same ∙ prefix-append look (take k xs) (take i (drop k xs)) (λ is some. wide (omega (arith, count, some))))

-- the prefix of a variable's first values is a prefix of its text
prefix-of-section : (look : Look) (xs : List ℤ) (missing : Option ℕ) (v k total : ℕ) → (0 < length xs → 0 < look.row) → length xs ≡ total → k ≤ unwrap_or missing total
    → (rest : List ℕ) × ((with_variable look xs missing v no_data_text).text ≡ variable_prefix look (take k xs) ++ rest)
unfolding variable_text
prefix-of-section look xs None v k total wide all few =
    let more = prefix-more look xs k (total - k) wide in
    let whole : take (k + (total - k)) xs ≡ xs = take_all (k + (total - k)) xs (omega (arith, few, all)) in
    let prefix : variable_prefix look xs ≡ variable_prefix look (take k xs) ++ more.0 = ap (variable_prefix look) (sym whole) ∙ more.1 in (
      more.0 ++ (variable_closing look ++ []),
      ap (λ (t : List ℕ). (t ++ variable_closing look) ++ []) prefix
          ∙ append_assoc (variable_prefix look (take k xs) ++ more.0) (variable_closing look) []
          ∙ append_assoc (variable_prefix look (take k xs)) more.0 (variable_closing look ++ []),
    )
prefix-of-section look xs (Some m) v k total wide all few =
    let more = prefix-more look xs k (m - k) wide in
    let e : k + (m - k) ≡ m = omega (arith, few) in
    (more.0, ap (λ (i : ℕ). variable_prefix look (take i xs)) (sym e) ∙ more.1)

pub prefix-in-text : (d : Dumped) (v : ℕ) (var : Var) (k : ℕ) → k ≤ whole_values d var → (rest : List ℕ) × ((values_alone d v var).text ≡ prefix_text d var k ++ rest)
prefix-in-text d v var k few =
    prefix-of-section (look_of d.header var d.records d.width) (stored_values d.header d.bytes var d.records) (first_missing d.header d.bytes var d.records)
    v k (value_count d.header.dims var d.records) (λ some. wide_look d.header var d.records d.width (omega (arith, some, count-stored d var))) (count-stored d var) few
