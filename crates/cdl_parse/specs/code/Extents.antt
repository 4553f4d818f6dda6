-- For contracts. How far what is listed reaches.
use Rattle.std.specs.Prelude.{ℕ, ◌≡◌, ◌<◌, ◌+◌, ◌-◌, ◌*◌, ◌/◌, ◌&&◌, All, Bool, nat_le, max, if◌then◌else◌, List, ◌∷◌, length, Option, None, Some}
use Rattle.std.specs.List.{list_all}
use Rattle.nc_base.specs.declared.{header.Dim.Dim, header.Var.Var}
use Rattle.nc_base.specs.Sizes.{is_record_var, slab_count, slab_size, slab_limit, array_limit}
use Rattle.nc_types.specs.Types.{size_of}
use Rattle.cdl_statements.specs.Meaning.{has_small_array, records_in}
use Rattle.cdl_statements.specs.State.{Draft}
use Rattle.cdl_values.specs.code.Listed.{AllList, AreShaped}
use Rattle.cdl_parse.specs.declared.records.RecordNeeds.{RecordNeeds}

-- how many records of `count` values hold n of them
abbrev pub records_for : ℕ → ℕ → ℕ
records_for count n = (n + count - 1) / count

-- the needs with this variable counted in, of which these bytes are listed; None if its slab is above the limit
abbrev pub with_listed : List Dim → RecordNeeds → Var → List ℕ → Option RecordNeeds
with_listed dims e var listed =
    if nat_le (slab_size dims var) slab_limit then Some (if is_record_var dims var then record {
      records = max e.records (records_for (slab_count dims var) (length listed / size_of var.ty));
      widest = max e.widest (slab_size dims var);
    } else e) else None

-- the needs with all these variables counted in
abbrev pub with_all : List Dim → Option RecordNeeds → List Var → List (List ℕ) → Option RecordNeeds
with_all dims None vars arrays = None
with_all dims (Some e) (var ∷ vars) (listed ∷ arrays) = with_all dims (with_listed dims e var listed) vars arrays
with_all dims (Some e) _ _ = Some e

-- the number of records; None where the array of the widest variable over them passes the limit
abbrev pub records_within : RecordNeeds → Option ℕ
records_within e = if nat_le e.records array_limit && nat_le (e.records * e.widest) array_limit then Some e.records else None

-- the variable's slab keeps its limit, and over n records its array does
abbrev pub is_within_limits : List Dim → ℕ → Draft → Bool
is_within_limits dims n d = nat_le (slab_size dims d.var) slab_limit && has_small_array dims n d

-- the number of records; None where over that many records a slab or an array passes its limit
abbrev pub records_kept : List Dim → List Draft → Option ℕ
records_kept dims drafts = if list_all (is_within_limits dims (records_in dims drafts)) drafts then Some (records_in dims drafts) else None

-- each variable has a value in a slab
abbrev pub HaveValues : List Dim → List Var → Type 0
HaveValues dims vars = All (λ (var : Var). 0 < slab_count dims var) vars

-- what all these variables need together
abbrev pub needs_of : List Dim → List Var → List (List ℕ) → Option RecordNeeds
needs_of dims vars listed = with_all dims (Some (record { records = 0; widest = 0 })) vars listed

-- the result is the number of records that are kept, if this is what is listed of the variables
abbrev pub CountsRecords : List Dim → List Var → List (List ℕ) → Option ℕ → Type 0
CountsRecords dims vars listed result = (drafts : List Draft) → AllList vars listed drafts → AreShaped dims drafts → result ≡ records_kept dims drafts
