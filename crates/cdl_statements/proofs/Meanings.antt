-- What a text means has a sound header, and arrays that are whole.
use Rattle.cdl_statements.proofs.Prelude.{◌≡◌, ℕ, ◌*◌, ◌≤◌, ◌<◌, true, false, List, [], ◌∷◌, length, map, refl, subst, arith, suc, Bool, ℤ, Result, Ok, rules, if◌then◌else◌, Draft, State, filled, array_limit, is_record_var, slab_count, value_count, AreArrays, IsArray, IsSound, statements, some_count, and_left, and_right, size_of, lt-div-mul-add, mul-le-mul_left, mul_comm, leb-true, flat_map, list_all}
use Rattle.nc_types.specs.Bytes.{AreBytes}
use Rattle.nc_base.specs.declared.{dataset.Dataset.Dataset, header.Dim.Dim}
use Rattle.nc_types.specs.declared.{nc_type.NcType.NcType, version.Version.Version}
use Rattle.nc_base.specs.GeneratedFile.{known_records}
use Rattle.nc_base.specs.Numbers.{bytes_of_number}
use Rattle.nc_base.proofs.FilePlaces.{length-numbers}
use Rattle.cdl_statements.specs.Meaning.{are_within_limits, array_of, closing_line, dataset_of, empty, finished, has_small_array, header_of, listed_values, meaning, records_in, records_of, run}
use Rattle.cdl_statements.specs.SoundHeaders.{is_sound}
use Rattle.cdl_statements.specs.declared.fault.CdlFault.{CdlFault}
use Rattle.cdl_statements.proofs.Each.{Each, each_more}
use Rattle.cdl_statements.proofs.ListedValues.{AreFit, IsFit, filled_len, run_fit}
use Rattle.cdl_statements.proofs.Results.{OkIs}
use Rattle.cdl_statements.proofs.SoundTests.{sound_is_tested}

-- ---- bytes

abbrev pub IsByte : ℕ → Type 0
IsByte b = b < 256

pub number_bytes : (ty : NcType) (x : ℤ) → Each IsByte (bytes_of_number ty x)
number_bytes ty x = grind arith

numbers_bytes : (ty : NcType) (xs : List ℤ) → Each IsByte (flat_map (bytes_of_number ty) xs)
numbers_bytes ty [] = tt
numbers_bytes ty (x ∷ xs) = each_more IsByte (bytes_of_number ty x) (flat_map (bytes_of_number ty) xs) (number_bytes ty x) (numbers_bytes ty xs)

pub are_bytes : (bs : List ℕ) → Each IsByte bs → AreBytes bs
are_bytes (b ∷ bs) h (suc i) = are_bytes bs h.1 i
are_bytes _ h _ = grind arith

-- ---- arrays

-- what is listed has room over the records
listed_fits : (dims : List Dim) (r : ℕ) (d : Draft) → IsFit dims d → records_of dims d ≤ r → length (listed_values d) ≤ value_count dims d.var r
listed_fits dims r d fit h = by (is_record_var dims d.var) refl
  where
    by : (growing : Bool) → is_record_var dims d.var ≡ growing → length (listed_values d) ≤ slab_count dims d.var * (if growing then r else 1)
    by true is = grind (arith, some_count dims d.var.dimids fit.shape, lt-div-mul-add, mul-le-mul_left, mul_comm)
    by false is = let few = fit.within is in omega (arith, few)

array_is : (dims : List Dim) (r : ℕ) (d : Draft) → IsFit dims d → value_count dims d.var r * size_of d.var.ty ≤ array_limit → records_of dims d ≤ r → IsArray dims r d.var (array_of dims r d)
array_is dims r d fit small h = search (rules, filled, length-numbers, filled_len, listed_fits, are_bytes, numbers_bytes)

arrays_are : (dims : List Dim) (r : ℕ) (ds : List Draft) → Each (IsFit dims) ds → list_all (has_small_array dims r) ds ≡ true → records_in dims ds ≤ r →
    AreArrays dims r (map (λ (d : Draft). d.var) ds) (map (array_of dims r) ds)
arrays_are dims r [] fit small h = tt
arrays_are dims r (d ∷ ds) fit small h = (
  array_is dims r d fit.0 (leb-true _ _ (and_left (has_small_array dims r d) (list_all (has_small_array dims r) ds) small)) (omega (arith, h)),
  arrays_are dims r ds fit.1 (and_right (has_small_array dims r d) (list_all (has_small_array dims r) ds) small) (omega (arith, h)),
)

-- ---- the dataset

pub record IsWhole (v : Version) (d : Dataset) : Type 0 where
  pub version : d.header.version ≡ v
  pub sound : IsSound d.header
  pub arrays : AreArrays d.header.dims (known_records d.header.numrecs) d.header.vars d.arrays

dataset_whole : (v : Version) (s : State) → AreFit s → are_within_limits v s ≡ true → IsWhole v (dataset_of v s)
unfolding are_within_limits
dataset_whole v s fit within =
    let r = records_in s.dims s.drafts in
    let sound = (sound_is_tested (header_of v s)).0 (and_left (is_sound (header_of v s)) (list_all (has_small_array s.dims r) s.drafts) within) in
    record {
      version = refl;
      sound = sound;
      arrays = arrays_are s.dims r s.drafts fit (and_right (is_sound (header_of v s)) (list_all (has_small_array s.dims r) s.drafts) within) (omega arith);
    }

finished_whole : (v : Version) (line : ℕ) (r : Result State CdlFault) → OkIs AreFit r → OkIs (IsWhole v) (finished v line r)
unfolding finished
finished_whole v line r fit = grind (arith, dataset_whole v)

pub meanings_are_whole : (text : List ℕ) (v : Version) (d : Dataset) → meaning text v ≡ Ok d → IsWhole v d
meanings_are_whole text v d is =
    subst (OkIs (IsWhole v)) is (finished_whole v (closing_line (statements text)) (run text v empty (statements text)) (run_fit text v empty (statements text) tt))
