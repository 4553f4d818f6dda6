-- The fields that are bytes.
use Rattle.nc_fields.proofs.Prelude.{Ghosts, Window, HeadFault, Read, Outcome, left_after, OnTrue_at, OnTrue_from, IsHeld, Bytes, bytes, HeaderTruncated, Place, Number, IsFilling, ignored, Reader, Step, Checked, ends_with_nul, Owner, in_place, ℕ, List, Result, Ok, Err, subst, sym, ap, arith, refl, slice_index}
use Rattle.nc_findings.specs.declared.entry.Content.TheVariants as content
use Rattle.nc_findings.specs.declared.place.Owner.TheVariants as owner
use Rattle.nc_findings.specs.declared.place.FieldKind.TheVariants as field
use Rattle.nc_fields.proofs.Checks.{IsFieldOf, Matters, bytes-listed, part_lists}

-- bytes that were read are held, unless memory runs out
pub held-read : {S : Type 0} {g : Ghosts S} {old new : Window S g} {n : ℕ} {bs : Bytes} {result : Result Bytes HeadFault} → Read old new (bytes n HeaderTruncated) (Ok bs) → IsHeld bs result
    → Read old new (bytes n HeaderTruncated) result
unfolding left_after
held-read {old = old} {new = new} {n = n} {result = Ok held} r is = subst (λ (xs : Bytes). Read old new (bytes n HeaderTruncated) (Ok xs)) (sym is) r
held-read {g = g} {result = Err e} r is =
    rw is
    (record {
      kept = r.kept;
      cause = r.cause;
      reads = OnTrue_from g.is_transparent _ (λ known. omega (arith, ap (λ (o : Outcome Bytes). left_after o) (OnTrue_at known r.reads)));
      used = tt;
    })

filling-matters : {place : Place} (n : ℕ) → IsFilling place → Matters place n content.Bytes
filling-matters n filling = record { whole = λ bs. (filling n bs).0; cut = λ bs. (filling 0 bs).1 }

pub filling-listed : {place : Place} (n : ℕ) → IsFilling place → IsFieldOf place n (bytes n HeaderTruncated) content.Bytes
filling-listed n filling = bytes-listed HeaderTruncated (filling-matters n filling)

pub values-listed : {o : Owner} {n : ℕ} → let place : Place = record { owner = o; field = field.Values } in IsFieldOf place n (bytes n HeaderTruncated) (λ bs. content.Values (ends_with_nul bs))
values-listed = bytes-listed HeaderTruncated (record { whole = λ start. refl; cut = λ start. refl })

pub version-listed : let place : Place = record { owner = owner.Header; field = field.Version } in IsFieldOf place 1 (bytes 1 HeaderTruncated) (λ bs. Number (slice_index bs 0))
version-listed = bytes-listed HeaderTruncated (record { whole = λ start. refl; cut = λ start. refl })

-- bytes that are read and not returned
pub ignored-checked : {S : Type 0} {g : Ghosts S} {old new : Reader S g} {steps : List Step} {n : ℕ} (bs : Bytes) (result : Result (Unit {0}) HeadFault)
    → Checked old new steps (bytes n HeaderTruncated) (in_place bs result) → Checked old new steps (ignored n) result
unfolding ignored
ignored-checked bs result c = grind (arith, part_lists)
