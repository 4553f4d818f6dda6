-- Definition. The test whether a header is sound: what `Headers.IsSound` of nc_base says, as a test.
use Rattle.std.specs.Prelude.{ℕ, ◌/◌, ◌%◌, Bool, true, false, ◌&&◌, ◌==◌, nat_lt, nat_le, List, [], ◌∷◌, length, filter}
use Rattle.std.specs.List.{list_all}
use Rattle.nc_base.specs.declared.{header.Att.Att, header.Dim.Dim, header.Header.Header, header.NumRecs.NumRecs, header.Var.Var}
use Rattle.nc_types.specs.declared.{version.Version.Version}
use Rattle.nc_base.specs.declared.header.NumRecs.TheVariants.{Known, Streaming}
use Rattle.nc_base.specs.Grammar.{is_dimid}
use Rattle.nc_base.specs.Sizes.{slab_size, record_size, slab_limit, record_limit}
use Rattle.nc_types.specs.Types.{size_of}
use Rattle.nc_types.specs.Versions.{count_limit, has_type}

-- the version can count this number of elements
abbrev pub is_countable : Version → ℕ → Bool
is_countable v n = nat_lt n (count_limit v)

abbrev pub is_sound_numrecs : Version → NumRecs → Bool
is_sound_numrecs v (Known n) = is_countable v n
is_sound_numrecs v Streaming = true

abbrev pub is_sound_dim : Version → Dim → Bool
is_sound_dim v dim = is_countable v (length dim.name) && is_countable v dim.len

abbrev pub has_whole_values : Version → Att → Bool
has_whole_values v att = (length att.vals % size_of att.ty == 0) && is_countable v (length att.vals / size_of att.ty)

abbrev pub is_sound_att : Version → Att → Bool
is_sound_att v att = is_countable v (length att.name) && has_type v att.ty && has_whole_values v att

abbrev pub are_sound_atts : Version → List Att → Bool
are_sound_atts v atts = is_countable v (length atts) && list_all (is_sound_att v) atts

abbrev pub are_dimids : List Dim → List ℕ → Bool
are_dimids dims [] = true
are_dimids dims (id ∷ ids) = is_dimid dims true id && list_all (is_dimid dims false) ids

abbrev pub is_sound_var : Version → List Dim → Var → Bool
is_sound_var v dims var =
    is_countable v (length var.name) && is_countable v (length var.dimids) && are_dimids dims var.dimids && has_type v var.ty && are_sound_atts v var.atts
    && nat_le (slab_size dims var) slab_limit

unfoldable pub is_sound : Header → Bool
is_sound h =
    is_sound_numrecs h.version h.numrecs
    && is_countable h.version (length h.dims) && list_all (is_sound_dim h.version) h.dims && nat_le (length (filter (λ (dim : Dim). dim.len == 0) h.dims)) 1
    && are_sound_atts h.version h.gatts
    && is_countable h.version (length h.vars) && list_all (is_sound_var h.version h.dims) h.vars
    && nat_le (record_size h) record_limit
