-- A header that bytes spell, by whatever rules, has a sound layout.
use Rattle.nc_layout.proofs.Prelude.{All-map, Dim, Var, Header, Version, record_limit, slab_size, IsSoundSlot, IsSoundLayout, slot_of, layout_of, ◌≡◌, ℕ, ◌+◌, ◌^◌, ◌<◌, ◌≤◌, List, [], length, sym, subst, arith}
use Rattle.nc_types.specs.Bytes.{Bytes}
use Rattle.nc_types.specs.Versions.{offset_limit}
use Rattle.nc_base.specs.Parts.{Spells}
use Rattle.nc_base.specs.Grammar.{Rules, variable_tag, var_after, var_list, header_by}
use Rattle.nc_base.proofs.SoundLaws.{some_product, some_count, some_size}
use Rattle.nc_base.proofs.SoundSpelling.{IsWithinLimits, all-each, list-elements, var-within, vars-small}
use Rattle.nc_layout.proofs.HeaderSlots.{record_slots-total}

-- the slot of this variable is sound
abbrev HasSoundSlot : List Dim → Var → Type 0
HasSoundSlot dims var = IsSoundSlot (slot_of dims var)

limit-le : (v : Version) → offset_limit v ≤ 2 ^ 63
limit-le v = grind arith

slot-sound : (v : Version) (dims : List Dim) (before : List Var) (x : Var) → IsWithinLimits v dims before x → HasSoundSlot dims x
slot-sound v dims before x within =
    let some : 0 < slab_size dims x = some_product _ _ (some_count dims x.dimids within.shape.known) (some_size x.ty) in
    record { some_bytes = omega arith; small_slab = within.slab; small_begin = omega (arith, within.begin, limit-le v) }

pub spelled-layout : (r : Rules) (bytes : Bytes) (h : Header) (rest : Bytes) (header_end : ℕ)
    → Spells (header_by r) bytes h rest → header_end + length rest ≡ length bytes → IsSoundLayout (layout_of h header_end (length bytes))
unfolding Spells header_by var_list
spelled-layout r bytes h rest header_end (v, m, s, (numrecs, m2, ns, (dims, m3, d, (gatts, m4, g, (vars, m5, vs, (whole, end)))))) ends =
    let xs = list-elements v variable_tag (var_after r v dims) m4 vars m5 vs in
    let slots = all-each (var_after r v dims) (HasSoundSlot dims)
    (λ before from x rest s. slot-sound v dims before x (var-within r v dims before from x rest s)) vars [] xs.start m5 xs.each in
    subst (λ h. IsSoundLayout (layout_of h header_end (length bytes))) (sym whole)
    (record {
      sound_slots = All-map IsSoundSlot (slot_of dims) vars slots;
      small_record = subst (λ n. n ≤ record_limit) (sym (record_slots-total dims vars)) (vars-small r v dims vars [] xs.start m5 xs.each (omega arith));
      header_inside = omega (arith, ends);
    })
