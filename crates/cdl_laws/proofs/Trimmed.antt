-- A dataset without the NULs at the end of its attributes, and the fill values of its characters.
use Rattle.cdl_laws.proofs.Prelude.{◌≡◌, ℕ, ◌+◌, ◌-◌, ◌≤◌, ◌<◌, Bool, true, false, List, [], ◌∷◌, length, map, sym, ◌∙◌, ap, refl, subst, arith, zero, suc, take, get_or, if◌then◌else◌, ◌==◌, All, rules, ℤ, pos, ◌&&◌, nat_lt, None, Some, take-length, length-take, length-map, suffix_len-take_yes, suffix_len-take_no, suffix_len, AreBytes, Dataset, Att, Dim, Known, Var, NcType, Version, fill_value, IsGood, IsSoundAtt, IsSoundVar, AreArrays, bare_var, without_trailing_nuls, IsName, record_vars, size_of, is_char, TrimsOnce, TrimmedIsSayable, AreDistinct, AreSayableAtts, IsSayableVar, HasSomeNumber, trimmed, trimmed_att, trimmed_var, trimmed_header, each_map, each_of, all_of, default_fill_of, false≢true, eqb-true, Char, number_of, code_of, FillValueSurvivesTrim, and_left, and_right, map-map, unwrap_or, map_none}
use Rattle.cdl_laws.proofs.Attributes.{take_bytes}
use Rattle.cdl_laws.proofs.Datasets.{same_record, record_trimmed}
use Rattle.cdl_laws.proofs.MeaningsAreGood.{each_of_map}
use Rattle.cdl_laws.proofs.Given.{found_trimmed}

-- ---- once

abbrev nul : ℕ → Bool
nul b = b == 0

one_more : (f : ℕ → ℕ) (is_nul : Bool) (m : ℕ) → (is_nul ≡ true → f (suc m) ≡ 1 + f (suc m - 1)) → (is_nul ≡ false → f (suc m) ≡ 0) →
    f (m - f m) ≡ 0 → f (suc m - f (suc m)) ≡ 0
one_more f is_nul m more none before = grind arith

stripped : (xs : List ℕ) (n : ℕ) → n ≤ length xs → suffix_len nul (take (n - suffix_len nul (take n xs)) xs) ≡ 0
stripped xs zero h = refl
stripped xs (suc m) h =
    one_more (λ n. suffix_len nul (take n xs)) (nul (get_or xs (suc m - 1) 0)) m
    (suffix_len-take_yes nul xs (suc m) 0 (omega arith) h) (suffix_len-take_no nul xs (suc m) 0 (omega arith) h)
    (stripped xs m (omega (arith, h)))

pub none_left : (xs : List ℕ) → suffix_len nul (without_trailing_nuls xs) ≡ 0
none_left xs = grind (arith, take-length xs, stripped xs)

bytes_once : (xs : List ℕ) → without_trailing_nuls (without_trailing_nuls xs) ≡ without_trailing_nuls xs
bytes_once xs = search (rules, none_left, take-length)

pub att_once : (att : Att) → trimmed_att (trimmed_att att) ≡ trimmed_att att
att_once att = grind (arith, bytes_once att.vals)

pub map_once : {X : Type 0} (f : X → X) → ((x : X) → f (f x) ≡ f x) → (xs : List X) → map f (map f xs) ≡ map f xs
map_once f e [] = refl
map_once f e (x ∷ xs) = ap (λ y. y ∷ map f (map f xs)) (e x) ∙ ap (λ ys. f x ∷ ys) (map_once f e xs)

pub trims_once : TrimsOnce
trims_once d = search (rules, bytes_once, map_once, att_once)

-- ---- still sayable

-- as many values as before, or fewer
att_sound : (v : Version) (att : Att) → IsSoundAtt v att → IsSoundAtt v (trimmed_att att)
att_sound v att s =
    elim (is_char att.ty) as (λ b. is_char att.ty ≡ b → IsSoundAtt v (record att { vals = if b then without_trailing_nuls att.vals else att.vals })) [
      | true ↦ (λ char.
          let fewer = length-take (length att.vals - suffix_len nul att.vals) att.vals in
          let single : size_of att.ty ≡ 1 = grind (arith, char) in
          record { name_len = s.name_len; ty = s.ty; values = record { count = length (without_trailing_nuls att.vals); counted = grind (arith, fewer, single, s.values.counted, s.values.whole); whole = grind (arith, single) } })
      | false ↦ (λ other. s)
    ] refl

over_map : {X : Type 0} (P : X → Type 0) (f : X → X) (xs : List X) → ((x : X) → P x → P (f x)) → All P xs → All P (map f xs)
over_map P f xs g all = all_of P (map f xs) (each_of_map P f xs (each_map P (λ x. P (f x)) xs g (each_of P xs all)))

att_bytes : (att : Att) → AreBytes att.vals → AreBytes (trimmed_att att).vals
att_bytes att h = grind (arith, take_bytes (length att.vals - suffix_len nul att.vals) att.vals h)

var_sound : (v : Version) (dims : List Dim) (var : Var) → IsSoundVar v dims var → IsSoundVar v dims (trimmed_var var)
var_sound v dims var s = search (rules, length-map, over_map, att_sound)

arrays_still : (dims : List Dim) (n : ℕ) (vars : List Var) (arrays : List (List ℕ)) → AreArrays dims n vars arrays → AreArrays dims n (map trimmed_var vars) arrays
arrays_still dims n (var ∷ vars) (x ∷ arrays) a = (record { bytes = a.0.bytes; whole = a.0.whole; small = a.0.small }, arrays_still dims n vars arrays a.1)
arrays_still dims n _ _ a = grind arith

pub good_still : (d : Dataset) → IsGood d → IsGood (trimmed d)
good_still d g = record {
  records = g.records;
  is_bare = ap trimmed_header g.is_bare ∙
      ap (λ (vs : List Var). record d.header { numrecs = Known g.records; gatts = map trimmed_att d.header.gatts; vars = vs })
      (map-map trimmed_var bare_var d.header.vars ∙ sym (map-map bare_var trimmed_var d.header.vars));
  is_sound = search (rules, length-map, over_map, att_sound, var_sound, same_record, g.is_sound);
  names = record {
    dims = g.names.dims;
    gatts = over_map (λ (a : Att). IsName a.name) trimmed_att d.header.gatts (λ a n. n) g.names.gatts;
    vars = over_map (λ (var : Var). IsName var.name × All (λ (a : Att). IsName a.name) var.atts) trimmed_var d.header.vars (λ var n. (n.0, over_map (λ (a : Att). IsName a.name) trimmed_att var.atts (λ a m. m) n.1)) g.names.vars;
  };
  values = record {
    gatts = over_map (λ (a : Att). AreBytes a.vals) trimmed_att d.header.gatts att_bytes g.values.gatts;
    vars = over_map (λ (var : Var). All (λ (a : Att). AreBytes a.vals) var.atts) trimmed_var d.header.vars (λ var n. over_map (λ (a : Att). AreBytes a.vals) trimmed_att var.atts att_bytes n) g.values.vars;
  };
  arrays = arrays_still d.header.dims g.records d.header.vars d.arrays g.arrays;
}

atts_still : (atts : List Att) → AreSayableAtts atts → AreSayableAtts (map trimmed_att atts)
atts_still atts s =
    let some = over_map HasSomeNumber trimmed_att atts (λ a h e. subst (λ b. 0 < length (if b then without_trailing_nuls a.vals else a.vals)) (sym e) (h e)) s.some in
    grind (arith, map-map (λ (a : Att). a.name) trimmed_att atts, some)

pub trimmed_is_sayable : TrimmedIsSayable
trimmed_is_sayable d s = record {
  good = good_still d s.good;
  dims = s.dims;
  gatts = atts_still d.header.gatts s.gatts;
  names = subst AreDistinct (sym (map-map (λ (var : Var). var.name) trimmed_var d.header.vars)) s.names;
  vars = over_map IsSayableVar trimmed_var d.header.vars (λ var is. record { atts = atts_still var.atts is.atts; fill = λ e. ap (λ (atts : List Att). fill_value (record var { atts = atts })) (map_once trimmed_att att_once var.atts) }) s.vars;
  records = λ e. s.records (map_none trimmed_var (record_vars d.header.dims d.header.vars) (sym (record_trimmed d.header.dims d.header.vars) ∙ e));
}

-- ---- fill values of characters

-- what an attribute of this type and these values makes the fill value of characters
abbrev fill_by : NcType → List ℕ → ℤ
fill_by ty vals = unwrap_or (if (code_of ty == code_of Char) && (length vals == size_of Char) then Some (number_of Char vals) else None) (default_fill_of Char)

abbrev cut_by : List ℕ → Bool
cut_by vals = (length (without_trailing_nuls vals) == 1) && nat_lt 1 (length vals)

chars_kept : (vals : List ℕ) → cut_by vals ≡ false → fill_by Char (without_trailing_nuls vals) ≡ fill_by Char vals
chars_kept [] h = refl
chars_kept (b ∷ []) h = grind (arith, eqb-true b 0, pos)
chars_kept (b ∷ c ∷ vals) h = search (rules, false≢true)

-- a character alone is no NUL
lone : (ys : List ℕ) → suffix_len (λ b. b == 0) ys ≡ 0 → (length ys == 1) ≡ true → fill_by Char ys ≡ pos 0 → ⊥
lone (b ∷ []) s l e = grind arith
lone _ s l e = grind (arith, false≢true)

cut_changes : (vals : List ℕ) → cut_by vals ≡ true → fill_by Char (without_trailing_nuls vals) ≡ fill_by Char vals → ⊥
cut_changes vals h e = grind (arith, and_left, and_right, lone (without_trailing_nuls vals) (none_left vals))

pub fill_value_survives_trim : FillValueSurvivesTrim
unfolding fill_value
fill_value_survives_trim var char = grind (arith, found_trimmed var.atts, chars_kept, cut_changes)
