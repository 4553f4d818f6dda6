-- The header of the file keeps the format's limits, and three values are listed of its variable.
use Rattle.std.proofs.Common.{◌≡◌, ◌∙◌, ℕ, ◌<◌, [], ◌∷◌, List, length, refl, sym, ap, subst, arith, Ok, Err, All, if◌then◌else◌}
use Rattle.std.proofs.lemmas.List.Elements.{All-cons, All-nil}
use Rattle.nc_base.specs.GeneratedFile.{fits, with_begins}
use Rattle.nc_base.specs.Headers.{IsSound, IsSoundAtt, IsSoundDim, IsSoundVar}
use Rattle.nc_types.specs.Versions.{offset_limit}
use Rattle.nc_base.specs.declared.{header.Header.Header, header.Var.Var}
use Rattle.nc_types.specs.declared.{version.Version.TheVariants.Cdf1}
use Rattle.nc_base.proofs.Fitting.{has-begins}
use Rattle.nc_walk.specs.code.DataPart.{AreListedOf}
use Rattle.example.specs.Headers.{int_header, v_var, x_dim}

sound-dim : IsSoundDim Cdf1 x_dim
sound-dim = record { name_len = omega arith; len = omega arith }

sound-var : IsSoundVar Cdf1 (x_dim ∷ []) v_var
sound-var = record {
  name_len = omega arith;
  rank = omega arith;
  shape = (record { known = omega arith; record_first = λ _. refl }, tt);
  att_count = omega arith;
  atts = All-nil (IsSoundAtt Cdf1);
  ty = refl;
  slab = omega arith;
}

pub sound : IsSound int_header
sound = record {
  numrecs = omega arith;
  dim_count = omega arith;
  dims = All-cons (IsSoundDim Cdf1) x_dim [] sound-dim (All-nil (IsSoundDim Cdf1));
  one_record_dim = omega arith;
  gatt_count = omega arith;
  gatts = All-nil (IsSoundAtt Cdf1);
  var_count = omega arith;
  vars = All-cons (IsSoundVar Cdf1 (x_dim ∷ [])) v_var [] sound-var (All-nil (IsSoundVar Cdf1 (x_dim ∷ [])));
  small_records = omega arith;
}

-- three values are listed, also once the begin is known
all-listed : (bytes : List ℕ) → length bytes ≡ 12 → AreListedOf (with_begins int_header) (bytes ∷ [])
unfolding with_begins
all-listed bytes twelve = (record { count = 3; within = omega arith; whole = twelve }, tt)

-- the header with its begin can be written, and so can its values
pub record IsPlaced (h : Header) : Type 0 where
  pub sound : IsSound h
  pub begins : All (λ (var : Var). var.begin_at < offset_limit h.version) h.vars
  pub listed : (bytes : List ℕ) → length bytes ≡ 12 → AreListedOf h (bytes ∷ [])

pub placed : {E : Type 0} (h k : Header) (error : E) → h ≡ int_header → Ok k ≡ (if fits h then Ok (with_begins h) else Err error) → IsPlaced k
placed h k error is answer =
    let p = has-begins h k error (subst IsSound (sym is) sound) answer in
    record {
      sound = p.sound;
      begins = p.begins;
      listed = λ bytes twelve. subst (λ (x : Header). AreListedOf x (bytes ∷ [])) (sym (p.is ∙ ap with_begins is)) (all-listed bytes twelve);
    }
