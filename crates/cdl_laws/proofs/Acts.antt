-- What the statements of a dump make of a state.
use Rattle.cdl_laws.proofs.Prelude.{dim_name, escaped_name, refl, ◌≡◌, ℕ, zero, suc, ◌<◌, ◌≤◌, true, false, List, [], ◌∷◌, ◌++◌, length, map, sym, ap, arith, append_assoc, append-nil, ℤ, pos, ◌==◌, nat_le, None, Result, Ok, rules, flat_map, list_any, position_or_len, int_eq, bytes_eq, false≢true, eqb-true, bytes_eq-Decides, Att, Dim, NcType, Char, Version, has_name, has_record_dim, IsDimid, AreDimids, IsName, count_limit, CdlKind, Value, Characters, Draft, add_dim, add_dimid, add_var, add_att, add_constant, first_type, change_named, change_variable, in_turn, ok_or, int_within, has_number, said_dim, AreDistinct, bytes_of_number, and_both, Each, or_right}
use Rattle.cdl_laws.proofs.ValueTexts.{turn}
use Rattle.cdl_laws.proofs.Declarations.{numbers_said}

-- ---- dimensions

abbrev pub dim_names : List Dim → List (List ℕ)
dim_names dims = map (λ (d : Dim). d.name) dims

abbrev pub record_once : List Dim → ℕ → Type 0
record_once dims len = len ≡ 0 → has_record_dim dims ≡ false

between_is : (m n : ℕ) → 0 < n → n ≤ m → int_within (pos 1) (pos m) (pos n) ≡ true
between_is m n some small = and_both (nat_le 1 n) (nat_le n m) (grind (arith, some)) (grind (arith, small))

not_zero : (n : ℕ) → (n == 0) ≡ false → int_eq (pos n) (pos 0) ≡ false
not_zero n h = grind (arith, pos, false≢true)

pub dim_added : (v : Version) (dims : List Dim) (dim : Dim) → IsName dim.name → list_any (λ (e : Dim). bytes_eq e.name dim.name) dims ≡ false → dim.len < count_limit v → record_once dims dim.len →
    add_dim v dims (said_dim dim) ≡ Ok (dims ++ dim ∷ [])
unfolding add_dim
dim_added v dims dim name new small once = grind (arith, eqb-true, not_zero, between_is)

-- ---- attributes

abbrev pub is_new_att : List Att → Att → Type 0
is_new_att atts att = list_any (λ (a : Att). bytes_eq a.name att.name) atts ≡ false

pub numbers_added : (ty : NcType) (before : List ℕ) (xs : List ℤ) → Each (λ x. has_number ty x ≡ true) xs → in_turn (add_constant ty) before (numbers_said ty xs) ≡ Ok (before ++ flat_map (bytes_of_number ty) xs)
numbers_added ty before [] fit = ap (λ bs. Ok bs) (sym (append-nil before))
numbers_added ty before (x ∷ xs) fit =
    grind (arith, turn, append_assoc, numbers_added ty (before ++ bytes_of_number ty x) xs fit.1)

pub chars_added : (before : List ℕ) (all : List (List ℕ)) → in_turn (add_constant Char) before (map Characters all) ≡ Ok (before ++ flat_map (λ (b : List ℕ). b) all)
chars_added before [] = ap (λ bs. Ok bs) (sym (append-nil before))
chars_added before (b ∷ all) = grind (arith, turn, append_assoc, chars_added (before ++ b) all)

-- an attribute that its constants give
pub att_added : (atts : List Att) (att : Att) (said : List Value) → IsName att.name → is_new_att atts att → first_type said ≡ att.ty → in_turn (add_constant att.ty) [] said ≡ Ok att.vals →
    add_att att.name said atts ≡ Ok (atts ++ att ∷ [])
unfolding add_att
att_added atts att said name new ty vals = grind arith

-- ---- the variable of a name

-- no variable before has the name
abbrev pub no_draft : List ℕ → List Draft → Type 0
no_draft name ds = list_any (λ (d : Draft). bytes_eq d.var.name name) ds ≡ false

named_past : (name : List ℕ) (f : Draft → Result Draft CdlKind) (before ds es : List Draft) → no_draft name before → change_named name f ds ≡ Ok es → change_named name f (before ++ ds) ≡ Ok (before ++ es)
named_past name f [] ds es new h = h
named_past name f (b ∷ before) ds es new h = grind (arith, named_past name f before ds es)

-- what becomes of the variable after others
pub variable_is : (f : Draft → Result Draft CdlKind) (before : List Draft) (d e : Draft) (after : List Draft) → IsName d.var.name → no_draft d.var.name before → f d ≡ Ok e →
    change_variable d.var.name f (before ++ d ∷ after) ≡ Ok (before ++ e ∷ after)
unfolding change_variable
variable_is f before d e after name new h = search (rules, named_past)

-- ---- declarations

-- the name of a dimension
abbrev pub name_at : List Dim → ℕ → List ℕ
name_at [] k = []
name_at (d ∷ dims) zero = d.name
name_at (d ∷ dims) (suc k) = name_at dims k

abbrev pub AreDistinctDims : List Dim → Type 0
AreDistinctDims dims = AreDistinct (dim_names dims)

other_name : (d : Dim) (dims : List Dim) (k : ℕ) → has_name (dim_names dims) d.name ≡ false → k < length dims → bytes_eq d.name (name_at dims k) ≡ false
other_name d (e ∷ dims) (suc k) new h = other_name d dims k (or_right (bytes_eq e.name d.name) (has_name (dim_names dims) d.name) new) (omega (arith, h))
other_name d _ _ new h = grind (arith, bytes_eq-Decides)

place_is : (dims : List Dim) (k : ℕ) → AreDistinctDims dims → k < length dims → position_or_len (λ (d : Dim). bytes_eq d.name (name_at dims k)) dims ≡ k
place_is (d ∷ dims) (suc k) distinct h = search (rules, other_name, place_is dims k distinct.1)
place_is _ _ distinct h = grind (arith, bytes_eq-Decides)

-- the names of the dimensions are valid
abbrev pub HaveNames : List Dim → Type 0
HaveNames dims = Each (λ (d : Dim). IsName d.name) dims

pub name_is : (dims : List Dim) (k : ℕ) → HaveNames dims → k < length dims → (dim_name dims k ≡ escaped_name (name_at dims k)) × IsName (name_at dims k)
name_is (d ∷ dims) (suc k) names h = name_is dims k names.1 (omega (arith, h))
name_is _ _ names h = grind arith

id_added : (dims : List Dim) (before : List ℕ) (k : ℕ) → AreDistinctDims dims → HaveNames dims → IsDimid dims before k → add_dimid dims before (name_at dims k) ≡ Ok (before ++ k ∷ [])
unfolding add_dimid
id_added dims before k distinct names is =
    grind (arith, name_at dims k, (name_is dims k names is.known).1, place_is dims k distinct is.known, is.known, ok_or)

-- the ids of a shape are those of its names, which are valid
pub ids_named : (dims : List Dim) (before ids : List ℕ) → AreDistinctDims dims → HaveNames dims → AreDimids dims before ids →
    (in_turn (add_dimid dims) before (map (name_at dims) ids) ≡ Ok (before ++ ids)) × (map (dim_name dims) ids ≡ map escaped_name (map (name_at dims) ids)) × Each IsName (map (name_at dims) ids)
ids_named dims before [] distinct names are = (ap (λ bs. Ok bs) (sym (append-nil before)), refl, tt)
ids_named dims before (k ∷ ids) distinct names are =
    let more = ids_named dims (before ++ k ∷ []) ids distinct names are.1 in
    let name = name_is dims k names are.0.known in
    (grind (arith, turn, name_at, id_added, append_assoc, more.0), cc (name.0, more.1), (name.1, more.2))

abbrev pub bare_draft : List ℕ → List ℕ → List Att → NcType → Draft
bare_draft name ids atts ty = record { var = record { name = name; dimids = ids; atts = atts; ty = ty; begin_at = 0 }; listed = None }

pub var_added : (dims : List Dim) (ty : NcType) (drafts : List Draft) (name : List ℕ) (names : List (List ℕ)) (ids : List ℕ) → IsName name → no_draft name drafts → in_turn (add_dimid dims) [] names ≡ Ok ids →
    add_var dims ty drafts (record { name = name; dimensions = names }) ≡ Ok (drafts ++ bare_draft name ids [] ty ∷ [])
unfolding add_var
var_added dims ty drafts name names ids valid new are = grind arith
