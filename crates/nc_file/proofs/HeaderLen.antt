-- How many bytes the parts of a written header have.
use Rattle.nc_file.proofs.Prelude.{◌≡◌, ℕ, ◌+◌, ◌*◌, ◌≤◌, min, take, Bool, false, List, [], ◌∷◌, ◌++◌, length, refl, sym, ap, ◌∙◌, arith, rules, take_all, Att, Dim, Header, NumRecs, Var, Version, NcType, byte_len, count_width, offset_width, padding_len, sum_by, sum_by-cons, header_spelling, name_part, type_part, list_head, list_part, dim_part, dim_after, dim_list, att_part, att_after, att_list, dimid_part, dimid_after, counted, shape_part, var_part, var_after, var_list, version_part, magic_part, numrecs_part, header_part, strict, header_by, Part, printed_len, each_len, each-len, count-len, field_lens, print-len}

-- a count, as wide as the version's
abbrev pub count_bytes : Version → ℕ
count_bytes v = byte_len (count_width v)

pub name-len : (v : Version) (name : List ℕ) → printed_len (name_part strict v) name ≡ count_bytes v + (length name + padding_len (length name))
unfolding printed_len name_part
name-len v name = search (rules, field_lens)

pub type-len : (v : Version) (ty : NcType) → printed_len (type_part strict v) ty ≡ 4
unfolding printed_len type_part
type-len v ty = search (rules, field_lens)

pub dim-len : (v : Version) (b : Bool) (dim : Dim) → printed_len (dim_part strict v b) dim ≡ printed_len (name_part strict v) dim.name + count_bytes v
unfolding printed_len dim_part
dim-len v b dim = search (rules, field_lens)

pub att-len : (v : Version) (att : Att)
    → printed_len (att_part strict v) att ≡ printed_len (name_part strict v) att.name + (4 + (count_bytes v + (length att.vals + padding_len (length att.vals))))
unfolding printed_len att_part
att-len v att = search (rules, field_lens, type-len)

-- ---- lists

-- an element has as many bytes, whatever stands before it
each-sum : {A : Type 0} (element : List A → Part A) (size : A → ℕ) → ((before : List A) (x : A) → printed_len (element before) x ≡ size x) → (before xs : List A) → each_len element before xs ≡ sum_by size xs
unfolding each_len
each-sum element size one before [] = refl
each-sum element size one before (x ∷ xs) = omega (arith, sum_by-cons size x xs, one before x, each-sum element size one (before ++ x ∷ []) xs)

head-len : (v : Version) (tag n : ℕ) → printed_len (list_head v tag) n ≡ 4 + count_bytes v
unfolding printed_len list_head
head-len v tag n = search (rules, field_lens)

list-len : {A : Type 0} (v : Version) (tag : ℕ) (element : List A → Part A) (size : A → ℕ) (xs : List A) → ((before : List A) (x : A) → printed_len (element before) x ≡ size x)
    → printed_len (list_part v tag element) xs ≡ (4 + count_bytes v) + sum_by size xs
unfolding printed_len list_part
list-len v tag element size xs one = omega (arith, head-len v tag (length xs), each-len element (length xs) xs refl, each-sum element size one [] xs)

pub dims-len : (v : Version) (dims : List Dim) → printed_len (dim_list strict v) dims ≡ (4 + count_bytes v) + sum_by (printed_len (dim_part strict v false)) dims
unfolding dim_list
dims-len v dims = list-len v _ (dim_after strict v) (printed_len (dim_part strict v false)) dims (λ before dim. dim-len v _ dim ∙ sym (dim-len v false dim))

pub atts-len : (v : Version) (atts : List Att) → printed_len (att_list strict v) atts ≡ (4 + count_bytes v) + sum_by (printed_len (att_part strict v)) atts
unfolding att_list
atts-len v atts = list-len v _ (att_after strict v) (printed_len (att_part strict v)) atts (λ before att. refl)

-- ---- variables

ids-sum : (v : Version) (ids : List ℕ) → sum_by (λ (id : ℕ). count_bytes v) ids ≡ length ids * count_bytes v
ids-sum v [] = omega arith
ids-sum v (id ∷ ids) = sum_by-cons (λ (id : ℕ). count_bytes v) id ids ∙ ap (λ (n : ℕ). count_bytes v + n) (ids-sum v ids) ∙ grind arith

dimid-len : (v : Version) (dims : List Dim) (before : List ℕ) (id : ℕ) → printed_len (dimid_after v dims before) id ≡ count_bytes v
unfolding printed_len dimid_part
dimid-len v dims before id = search (rules, field_lens)

pub shape-len : (v : Version) (dims : List Dim) (ids : List ℕ) → printed_len (shape_part v dims) ids ≡ count_bytes v + length ids * count_bytes v
unfolding printed_len shape_part counted
shape-len v dims ids =
    omega (arith, count-len v (length ids), each-len (dimid_after v dims) (length ids) ids refl, each-sum (dimid_after v dims) (λ (id : ℕ). count_bytes v) (dimid-len v dims) [] ids, ids-sum v ids)

pub var-len : (v : Version) (dims : List Dim) (total : ℕ) (var : Var)
    → printed_len (var_part strict v dims total) var ≡ printed_len (name_part strict v) var.name + ((count_bytes v + length var.dimids * count_bytes v) + (printed_len (att_list strict v) var.atts + (4 + (count_bytes v + byte_len (offset_width v)))))
unfolding printed_len var_part
var-len v dims total var = search (rules, field_lens, type-len, shape-len)

pub vars-len : (v : Version) (dims : List Dim) (vars : List Var) → printed_len (var_list strict v dims) vars ≡ (4 + count_bytes v) + sum_by (printed_len (var_part strict v [] 0)) vars
unfolding var_list
vars-len v dims vars = list-len v _ (var_after strict v dims) (printed_len (var_part strict v [] 0)) vars (λ before var. var-len v dims _ var ∙ sym (var-len v [] 0 var))

-- ---- the whole

magic-len : (v : Version) → printed_len magic_part v ≡ 4
unfolding printed_len magic_part version_part
magic-len v = refl

numrecs-len : (v : Version) (numrecs : NumRecs) → printed_len (numrecs_part strict v) numrecs ≡ count_bytes v
unfolding printed_len numrecs_part
numrecs-len v numrecs = search (rules, field_lens)

parts-len : (h : Header) → printed_len header_part h ≡ (4 + count_bytes h.version) + (printed_len (dim_list strict h.version) h.dims + (printed_len (att_list strict h.version) h.gatts + printed_len (var_list strict h.version h.dims) h.vars))
unfolding printed_len header_by
parts-len h = omega (arith, magic-len h.version, numrecs-len h.version h.numrecs)

pub header-len : (h : Header) → length (header_spelling h) ≡ (4 + count_bytes h.version) + (printed_len (dim_list strict h.version) h.dims + (printed_len (att_list strict h.version) h.gatts + printed_len (var_list strict h.version []) h.vars))
header-len h = omega (arith, print-len header_part h, parts-len h, vars-len h.version h.dims h.vars, vars-len h.version [] h.vars)

-- ---- sums that stop at a limit

-- all elements were added
pub all-added : {A : Type 0} (size : A → ℕ) (xs : List A) (i total head whole limit : ℕ) → length xs ≤ i → total ≡ min (head + sum_by size (take i xs)) limit → whole ≡ head + sum_by size xs → total ≡ min whole limit
all-added size xs i total head whole limit le so_far is =
    so_far ∙ ap (λ ys. min (head + sum_by size ys) limit) (take_all i xs le) ∙ ap (λ n. min n limit) (sym is)

pub ruleset fields_len = (name-len, dim-len, att-len, var-len)

pub ruleset header_len = (header-len)
