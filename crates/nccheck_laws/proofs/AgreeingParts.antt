-- The parts of a header agree by the strict and the lenient rules, up to the first field that the strict rules refuse.
use Rattle.nccheck_laws.proofs.Prelude.{common_steps, nat_tests, Dim, Var, Version, is_name, padded_total, record_vars, Step, Part, bytes, Dims, Gatts, Vars, Tag, Count, Item, Name, Padding, Shape, Atts, Vsize, strict, checked, dimension_tag, variable_tag, dim_after, dimid_after, var_after, number, limited_part, offset_part, ignored, name_part, type_part, counted, list_head, list_part, dim_part, dim_list, att_part, att_list, dimid_part, shape_part, var_part, var_list, version_part, magic_part, numrecs_part, header_by, lenient, without_values, NcType, HeaderTruncated, TooLarge, count_limit, Magic, Length, TypeCode, is_within_limits, attribute_tag, att_after, may_be_name, BadName, TwoRecordDims, has_record_dim, VersionByte, Records, Text, Values, Begin, any_length_limit, att_without_values, var_without_values, total-append, one-total, ◌≡◌, ℕ, ◌==◌, ◌&&◌, not, Bool, List, [], ◌∷◌, map, take, refl, sym, arith}
use Rattle.nccheck_laws.proofs.OddNames.{name-may-be}
use Rattle.nccheck_laws.proofs.Agreement.{Agree, Extends, agree-leaf, agree-plain, agree-done, agree-under, agree-chain, agree-each, extends-same, extends-map}

-- ---- single fields

agree-numrecs : (v : Version) (steps : List Step) → Agree (λ n. n) (Records ∷ steps) (numrecs_part strict v) (numrecs_part lenient v)
unfolding numrecs_part number
agree-numrecs v steps = agree-leaf refl refl refl refl (λ from. grind (arith, nat_tests))

abbrev length_part : ℕ → Version → Bool → Part ℕ
length_part limit v has_record = checked (λ len. not (has_record && (len == 0))) TwoRecordDims (limited_part limit v)

agree-length : (v : Version) (has_record : Bool) (k : ℕ) (steps : List Step)
    → Agree (λ n. n) (Length ∷ Item k ∷ steps) (length_part (count_limit v) v has_record) (length_part (any_length_limit v) v has_record)
unfolding limited_part number
agree-length v has_record k steps = agree-leaf refl refl refl refl (λ from. grind (arith, nat_tests))

agree-text : (n : ℕ) (steps : List Step)
    → Agree (λ text. text) (Text ∷ steps) (checked is_name BadName (bytes n HeaderTruncated))
    (checked may_be_name BadName (bytes n HeaderTruncated))
agree-text n steps = agree-leaf refl refl refl refl (λ from. grind (arith, name-may-be (take n from)))

agree-name : (v : Version) (steps : List Step) → Agree (λ text. text) (Name ∷ steps) (name_part strict v) (name_part lenient v)
unfolding name_part limited_part number ignored
agree-name v steps =
    agree-chain (agree-under Length (agree-plain refl (λ n bs fault. refl)))
    (λ n. agree-chain (agree-under Text (agree-text n _))
    (λ text. agree-chain (agree-under Padding (agree-plain refl (λ n bs fault. refl))) (λ padding. agree-done refl)))

agree-type : (v : Version) (steps : List Step) → Agree (λ ty. ty) (TypeCode ∷ steps) (type_part strict v) (type_part lenient v)
unfolding type_part number
agree-type v steps = agree-leaf refl refl refl refl (λ from. grind arith)

agree-tested_type : (v : Version) (test : NcType → Bool) (steps : List Step)
    → Agree (λ ty. ty) (TypeCode ∷ steps) (checked test TooLarge (type_part strict v)) (checked test TooLarge (type_part lenient v))
unfolding type_part number
agree-tested_type v test steps = agree-leaf refl refl refl refl (λ from. grind arith)

-- ---- lists

agree-list : {A B : Type 0} {f : A → B} {g : List A → List B} (v : Version) (tag : ℕ) (steps : List Step) (element : List A → Part A)
    (other : List B → Part B) → Extends f g
    → ((before : List A) (k : ℕ) → Agree f (Item k ∷ steps) (element before) (other (g before)))
    → Agree g steps (list_part v tag element) (list_part v tag other)
unfolding list_part list_head limited_part number
agree-list v tag steps element other extends go =
    agree-chain
    (agree-chain (agree-under Tag (agree-plain refl (λ n bs fault. refl)))
    (λ found. agree-under Count (agree-plain refl (λ n bs fault. refl))))
    (λ n. agree-each element other extends go n [] [] (sym extends.none))

agree-dims : (v : Version) (steps : List Step) → Agree (λ dims. dims) steps (dim_list strict v) (dim_list lenient v)
unfolding dim_list dim_part
agree-dims v steps =
    agree-list v dimension_tag steps (dim_after strict v) (dim_after lenient v) extends-same
    (λ before k. agree-chain (agree-under Name (agree-name v _))
    (λ name. agree-chain (agree-under Length (agree-length v (has_record_dim before) k steps)) (λ len. agree-done refl)))

agree-atts : (v : Version) (steps : List Step) → Agree (map att_without_values) steps (att_list strict v) (att_list lenient v)
unfolding att_list att_part limited_part number ignored
agree-atts v steps =
    agree-list v attribute_tag steps (att_after strict v) (att_after lenient v) (extends-map att_without_values)
    (λ before k. agree-chain (agree-under Name (agree-name v _))
    (λ name. agree-chain (agree-under TypeCode (agree-type v _))
    (λ ty. agree-chain (agree-under Count (agree-plain refl (λ n bs fault. refl)))
    (λ n. agree-chain (agree-under Values (agree-plain refl (λ n bs fault. refl)))
    (λ vals. agree-chain (agree-under Padding (agree-plain refl (λ n bs fault. refl))) (λ padding. agree-done refl))))))

-- ---- variables

agree-shape : (v : Version) (dims : List Dim) (steps : List Step) → Agree (λ ids. ids) steps (shape_part v dims) (shape_part v dims)
unfolding shape_part counted dimid_part limited_part number
agree-shape v dims steps =
    agree-chain (agree-under Count (agree-plain refl (λ n bs fault. refl)))
    (λ n. agree-each (dimid_after v dims) (dimid_after v dims) extends-same (λ before k. agree-plain refl (λ n bs fault. refl))
    n [] [] refl)

agree-var : (v : Version) (dims : List Dim) (total : ℕ) (steps : List Step)
    → Agree var_without_values steps (var_part strict v dims total) (var_part lenient v dims total)
unfolding var_part offset_part number
agree-var v dims total steps =
    agree-chain (agree-under Name (agree-name v _))
    (λ name. agree-chain (agree-under Shape (agree-shape v dims _))
    (λ dimids. agree-chain (agree-under Atts (agree-atts v _))
    (λ atts. agree-chain (agree-under TypeCode (agree-tested_type v (is_within_limits dims total dimids) _))
    (λ ty. agree-chain (agree-under Vsize (agree-plain refl (λ n bs fault. refl)))
    (λ vsize. agree-chain (agree-under Begin (agree-plain refl (λ n bs fault. refl))) (λ begin. agree-done refl))))))

-- the bytes of a record don't depend on values of attributes
same-total : (dims : List Dim) (vars : List Var)
    → padded_total dims (record_vars dims (map var_without_values vars)) ≡ padded_total dims (record_vars dims vars)
same-total dims [] = refl
same-total dims (var ∷ vars) = grind (arith, common_steps, same-total dims vars, total-append, one-total)

agree-vars : (v : Version) (dims : List Dim) (steps : List Step)
    → Agree (map var_without_values) steps (var_list strict v dims) (var_list lenient v dims)
unfolding var_list
agree-vars v dims steps =
    agree-list v variable_tag steps (var_after strict v dims) (var_after lenient v dims) (extends-map var_without_values)
    (λ before k. rw (same-total dims before) (agree-var v dims (padded_total dims (record_vars dims before)) _))

-- ---- the whole

pub agree-header : Agree without_values [] (header_by strict) (header_by lenient)
unfolding header_by magic_part version_part
agree-header =
    agree-chain
    (agree-chain (agree-under Magic (agree-plain refl (λ n bs fault. refl)))
    (λ letters. agree-under VersionByte (agree-plain refl (λ n bs fault. refl))))
    (λ v. agree-chain (agree-under Records (agree-numrecs v _))
    (λ numrecs. agree-chain (agree-under Dims (agree-dims v _))
    (λ dims. agree-chain (agree-under Gatts (agree-atts v _))
    (λ gatts. agree-chain (agree-under Vars (agree-vars v dims _)) (λ vars. agree-done refl)))))
