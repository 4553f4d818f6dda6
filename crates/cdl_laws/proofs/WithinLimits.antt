-- Where no statement has a fault, what a text declares is sound if it keeps the limits, and then it is what the text means.
use Rattle.cdl_laws.proofs.Prelude.{◌≡◌, ◌*◌, ◌/◌, ◌<◌, ◌≤◌, ℕ, true, List, [], ◌∷◌, length, map, refl, subst, All, le-leb, list_all, Att, Dim, Var, Version, count_limit, are_within_limits, finished, empty, statements, has_small_array, header_of, records_in, value_count, size_of, IsSoundAtt, IsSoundDim, IsSoundVar, Draft, State, Each, all_of, each_of, OkIs, and_both, sound_is_tested}
use Rattle.nc_base.proofs.SoundLaws.{whole_part}
use Rattle.nc_base.specs.Headers.{IsSound}
use Rattle.nc_base.specs.Sizes.{array_limit, slab_limit, slab_size}
use Rattle.cdl_statements.proofs.ListedValues.{AreFit, IsFit, run_fit}
use Rattle.cdl_laws.specs.Limits.{CanCountAll, CanCountAtt, CanCountAtts, CanCountVar, HasSmallSlabs, LimitsMakeMeant, LimitsMakeSound}
use Rattle.cdl_laws.proofs.Fine.{AreFine, IsFineAtt, IsFineDim, IsFineDraft}
use Rattle.cdl_laws.proofs.MeaningsAreGood.{IsFineState, text_keeps}
use Rattle.cdl_laws.proofs.Sayables.{att_name}

both_each : {X : Type 0} (P Q R : X → Type 0) (xs : List X) → ((x : X) → P x → Q x → R x) → Each P xs → Each Q xs → Each R xs
both_each P Q R [] f p q = tt
both_each P Q R (x ∷ xs) f p q = (f x p.0 q.0, both_each P Q R xs f p.1 q.1)

all_both : {X : Type 0} (P Q R : X → Type 0) (xs : List X) → ((x : X) → P x → Q x → R x) → Each P xs → All Q xs → All R xs
all_both P Q R xs f p q = all_of R xs (both_each P Q R xs f p (each_of Q xs q))

-- ---- the parts of a header

att_sound : (v : Version) (att : Att) → IsFineAtt v att → CanCountAtt v att → IsSoundAtt v att
att_sound v att f few = record {
  name_len = few.name;
  ty = f.ty;
  values = record { count = length att.vals / size_of att.ty; counted = few.values; whole = whole_part (length att.vals) (size_of att.ty) f.whole };
}

atts_sound : (v : Version) (atts : List Att) → AreFine (IsFineAtt v) att_name atts → CanCountAtts v atts → All (IsSoundAtt v) atts
atts_sound v atts f few = all_both (IsFineAtt v) (CanCountAtt v) (IsSoundAtt v) atts (att_sound v) f.fine few.each

abbrev HasSmallSlab : List Dim → Var → Type 0
HasSmallSlab dims var = slab_size dims var ≤ slab_limit

vars_sound : (v : Version) (dims : List Dim) (ds : List Draft) → Each (IsFineDraft v) ds → Each (IsFit dims) ds → Each (CanCountVar v) (map (λ (d : Draft). d.var) ds) → Each (HasSmallSlab dims) (map (λ (d : Draft). d.var) ds) →
    Each (IsSoundVar v dims) (map (λ (d : Draft). d.var) ds)
vars_sound v dims [] f fit few small = tt
vars_sound v dims (d ∷ ds) f fit few small = (
  record {
    name_len = few.0.name;
    rank = few.0.dimids;
    shape = fit.0.shape;
    att_count = few.0.atts.list;
    atts = atts_sound v d.var.atts f.0.atts few.0.atts;
    ty = f.0.ty;
    slab = small.0;
  },
  vars_sound v dims ds f.1 fit.1 few.1 small.1,
)

-- ---- the header

header_sound : (v : Version) (s : State) → IsFineState v s → AreFit s → CanCountAll (header_of v s) → HasSmallSlabs (header_of v s) → IsSound (header_of v s)
header_sound v s f fit few small =
    let vars = map (λ (d : Draft). d.var) s.drafts in
    record {
      numrecs = few.records;
      dim_count = few.dims;
      dims = all_both (IsFineDim v) (λ (d : Dim). length d.name < count_limit v) (IsSoundDim v) s.dims (λ d g short. record { name_len = short; len = g.len }) f.dims.each.fine few.dim_names;
      one_record_dim = f.dims.one_record;
      gatt_count = few.gatts.list;
      gatts = atts_sound v s.gatts f.gatts few.gatts;
      var_count = few.vars;
      vars = all_of (IsSoundVar v s.dims) vars (vars_sound v s.dims s.drafts f.drafts.fine fit (each_of (CanCountVar v) vars few.each_var) (each_of (HasSmallSlab s.dims) vars small.slabs));
      small_records = small.one_record;
    }

-- ---- the laws

pub limits_make_sound : LimitsMakeSound
limits_make_sound text v s bytes e few small =
    let fine : IsFineState v s = subst (OkIs (IsFineState v)) e (text_keeps text v bytes) in
    let fit : AreFit s = subst (OkIs AreFit) e (run_fit text v empty (statements text) tt) in
    (sound_is_tested (header_of v s)).1 (header_sound v s fine fit few small)

arrays_pass : (dims : List Dim) (n : ℕ) (ds : List Draft) → Each (λ (var : Var). value_count dims var n * size_of var.ty ≤ array_limit) (map (λ (d : Draft). d.var) ds) → list_all (has_small_array dims n) ds ≡ true
arrays_pass dims n [] small = refl
arrays_pass dims n (d ∷ ds) small = and_both (has_small_array dims n d) (list_all (has_small_array dims n) ds) (le-leb _ _ small.0) (arrays_pass dims n ds small.1)

pub limits_make_meant : LimitsMakeMeant
unfolding finished are_within_limits
limits_make_meant text v s bytes e few small arrays =
    let n = records_in s.dims s.drafts in
    let sound = limits_make_sound text v s bytes e few small in
    let pass = arrays_pass s.dims n s.drafts (each_of (λ (var : Var). value_count s.dims var n * size_of var.ty ≤ array_limit) (map (λ (d : Draft). d.var) s.drafts) arrays) in
    rw (e, sound, pass) refl
