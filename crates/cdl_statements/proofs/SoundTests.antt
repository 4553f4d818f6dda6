-- The test of a sound header tells whether it is sound.
use Rattle.cdl_statements.proofs.Prelude.{◌≡◌, ℕ, ◌/◌, ◌%◌, ◌<◌, ◌≤◌, Bool, false, ◌==◌, nat_le, List, [], ◌∷◌, length, filter, refl, arith, All, IsTrue, slab_size, record_size, slab_limit, record_limit, AreDimids, HasWholeValues, IsSound, IsSoundAtt, IsSoundDim, IsSoundNumRecs, IsSoundVar, some_size, sound_shape, whole_part, size_of, mod-eq-sub-div-mul, mul-div_cancel, le-leb, leb-true, list_all}
use Rattle.std.specs.Bool.{Decides}
use Rattle.std.proofs.lemmas.Bool.Decides.{Decides-and, Decides-by_and, Decides-like, Decides-ltb, nat_tests}
use Rattle.nc_base.specs.declared.{header.Att.Att, header.Dim.Dim, header.Header.Header, header.NumRecs.NumRecs, header.Var.Var}
use Rattle.nc_types.specs.declared.{version.Version.Version}
use Rattle.nc_types.specs.Versions.{count_limit, has_type}
use Rattle.nc_base.specs.Grammar.{is_dimid}
use Rattle.nc_base.specs.code.SizeParts.{is_fixed_dim}
use Rattle.nc_base.specs.code.SoundParts.{AreSoundAtts}
use Rattle.cdl_statements.specs.SoundHeaders.{are_dimids, are_sound_atts, has_whole_values, is_sound, is_sound_att, is_sound_dim, is_sound_numrecs, is_sound_var}

tells_le : (a b : ℕ) → Decides (nat_le a b) (a ≤ b)
tells_le a b = (leb-true a b, le-leb a b)

tells_true : (b : Bool) → Decides b (IsTrue b)
tells_true b = (λ h. h, λ h. h)

tells_all : {X : Type 0} (p : X → Bool) (P : X → Type 0) → ((x : X) → Decides (p x) (P x)) → (xs : List X) → Decides (list_all p xs) (All P xs)
tells_all p P each xs = Decides-by_and p P (list_all p) each refl (λ _ _. refl) xs

tells_numrecs : (v : Version) (n : NumRecs) → Decides (is_sound_numrecs v n) (IsSoundNumRecs v n)
tells_numrecs v n = grind (arith, nat_tests)

tells_dim : (v : Version) (d : Dim) → Decides (is_sound_dim v d) (IsSoundDim v d)
tells_dim v d = grind (arith, nat_tests)

-- whole values, and how many
values_counted : (v : Version) (att : Att) → HasWholeValues v att → (length att.vals % size_of att.ty ≡ 0) × (length att.vals / size_of att.ty < count_limit v)
values_counted v att w =
    let count : length att.vals / size_of att.ty ≡ w.count = rw (w.whole) (mul-div_cancel w.count (some_size att.ty)) in
    (grind (arith, mod-eq-sub-div-mul, count, w.whole), rw (count) w.counted)

tells_values : (v : Version) (att : Att) → Decides (has_whole_values v att) (HasWholeValues v att)
tells_values v att = grind (arith, nat_tests, values_counted v att, whole_part)

tells_att : (v : Version) (att : Att) → Decides (is_sound_att v att) (IsSoundAtt v att)
tells_att v att = grind (arith, nat_tests, tells_values v att)

tells_atts : (v : Version) (atts : List Att) → Decides (are_sound_atts v atts) (AreSoundAtts v atts)
tells_atts v atts = Decides-and _ _ (Decides-ltb (length atts) (count_limit v)) (tells_all (is_sound_att v) (IsSoundAtt v) (tells_att v) atts)

tells_shape : (dims : List Dim) (ids : List ℕ) → Decides (are_dimids dims ids) (AreDimids dims [] ids)
tells_shape dims [] = (λ h. tt, λ h. refl)
tells_shape dims (id ∷ ids) =
    let same : list_all (is_dimid dims false) ids ≡ list_all (is_fixed_dim dims) ids = refl in
    grind (arith, nat_tests, sound_shape dims (id ∷ ids), same)

tells_var : (v : Version) (dims : List Dim) (var : Var) → Decides (is_sound_var v dims var) (IsSoundVar v dims var)
tells_var v dims var =
    Decides-like _ (λ p. record { name_len = p.0.0.0.0.0; rank = p.0.0.0.0.1; shape = p.0.0.0.1; ty = p.0.0.1; att_count = p.0.1.0; atts = p.0.1.1; slab = p.1 })
    (λ s. (((((s.name_len, s.rank), s.shape), s.ty), (s.att_count, s.atts)), s.slab))
    (Decides-and _ _ (Decides-and _ _ (Decides-and _ _ (Decides-and _ _ (Decides-and _ _
    (Decides-ltb (length var.name) (count_limit v)) (Decides-ltb (length var.dimids) (count_limit v))) (tells_shape dims var.dimids)) (tells_true (has_type v var.ty)))
    (tells_atts v var.atts)) (tells_le (slab_size dims var) slab_limit))

pub sound_is_tested : (h : Header) → Decides (is_sound h) (IsSound h)
unfolding is_sound
sound_is_tested h =
    let v = h.version in
    Decides-like _ (λ p. record { numrecs = p.0.0.0.0.0.0.0; dim_count = p.0.0.0.0.0.0.1; dims = p.0.0.0.0.0.1; one_record_dim = p.0.0.0.0.1; gatt_count = p.0.0.0.1.0; gatts = p.0.0.0.1.1; var_count = p.0.0.1; vars = p.0.1; small_records = p.1 })
    (λ s. (((((((s.numrecs, s.dim_count), s.dims), s.one_record_dim), (s.gatt_count, s.gatts)), s.var_count), s.vars), s.small_records))
    (Decides-and _ _ (Decides-and _ _ (Decides-and _ _ (Decides-and _ _ (Decides-and _ _ (Decides-and _ _ (Decides-and _ _
    (tells_numrecs v h.numrecs) (Decides-ltb (length h.dims) (count_limit v))) (tells_all (is_sound_dim v) (IsSoundDim v) (tells_dim v) h.dims))
    (tells_le (length (filter (λ (dim : Dim). dim.len == 0) h.dims)) 1)) (tells_atts v h.gatts)) (Decides-ltb (length h.vars) (count_limit v)))
    (tells_all (is_sound_var v h.dims) (IsSoundVar v h.dims) (tells_var v h.dims) h.vars)) (tells_le (record_size h) record_limit))
