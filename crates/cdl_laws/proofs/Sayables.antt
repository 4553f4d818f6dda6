-- What a dataset that a text can declare gives for each of its parts.
use Rattle.cdl_laws.proofs.Prelude.{filter-append, length-append, ◌≡◌, ℕ, ◌^◌, ◌<◌, ◌≤◌, Bool, true, false, List, [], ◌∷◌, ◌++◌, length, map, ap, refl, arith, append_assoc, ◌||◌, ◌==◌, All, filter, rules, list_any, bytes_eq, false≢true, list_any-append, bytes_eq-Decides, AreBytes, Att, Dim, Var, Version, has_name, has_record_dim, IsSoundAtt, IsSoundDim, IsName, count_limit, AreDistinct, HasSomeNumber, trimmed_att, Draft, Each, each_of, EachAfter, or_left, or_right}
use Rattle.cdl_laws.proofs.Readings.{record_once, is_new_att, Speaks, IsNewDim, AreNewAtts}
use Rattle.cdl_laws.proofs.Attributes.{speaks}

-- ---- names

-- none of the names is that of a thing before
abbrev pub AreFresh : {Y : Type 0} → (Y → List ℕ) → List Y → List (List ℕ) → Type 0
AreFresh made done names = Each (λ name. list_any (λ y. bytes_eq (made y) name) done ≡ false) names

pub fresh_more : {Y : Type 0} (made : Y → List ℕ) (done : List Y) (y : Y) (names : List (List ℕ)) → AreFresh made done names → has_name names (made y) ≡ false → AreFresh made (done ++ y ∷ []) names
fresh_more made done y [] fresh new = tt
fresh_more made done y (m ∷ names) fresh new = grind (arith, list_any-append, or_left, or_right, fresh_more made done y names fresh.1, false≢true, bytes_eq-Decides)

pub any_map : {X : Type 0} (name : X → List ℕ) (n : List ℕ) (xs : List X) → list_any (λ x. bytes_eq (name x) n) xs ≡ has_name (map name xs) n
any_map name n [] = refl
any_map name n (x ∷ xs) = ap (λ b. bytes_eq (name x) n || b) (any_map name n xs)

pub none_before : {Y : Type 0} (made : Y → List ℕ) (names : List (List ℕ)) → AreFresh made [] names
none_before made names = each_of _ names (λ k d h. refl)

-- what is good, and has no name of another, is new after what is made of the others
pub new_after : {X Y : Type 0} (name : X → List ℕ) (made : Y → List ℕ) (f : X → Y) (P : List Y → X → Type 0) (Q : X → Type 0) →
    ((x : X) → made (f x) ≡ name x) →
    ((done : List Y) (x : X) → Q x → list_any (λ y. bytes_eq (made y) (name x)) done ≡ false → P done x) →
    (done : List Y) (xs : List X) → AreFresh made done (map name xs) → AreDistinct (map name xs) → Each Q xs → EachAfter f P done xs
new_after name made f P Q same step done [] fresh distinct all = tt
new_after name made f P Q same step done (x ∷ xs) fresh distinct all =
    (step done x all.0 fresh.0, new_after name made f P Q same step (done ++ f x ∷ []) xs (fresh_more made done (f x) (map name xs) fresh.1 (rw (same x) distinct.0)) distinct.1 all.1)

-- ---- attributes

abbrev pub att_name : Att → List ℕ
att_name a = a.name

pub atts_new : (v : Version) (atts : List Att) → AreDistinct (map att_name atts) → Each (Speaks v) atts → AreNewAtts v atts
atts_new v atts distinct speak =
    new_after att_name att_name trimmed_att (λ done a. Speaks v a × is_new_att done (trimmed_att a)) (Speaks v) (λ a. refl)
    (λ done a s new. (s, new)) [] atts (none_before att_name (map att_name atts)) distinct speak

pub atts_speak : (v : Version) (atts : List Att) → All (IsSoundAtt v) atts → All (λ (a : Att). AreBytes a.vals) atts → All HasSomeNumber atts → All (λ (a : Att). IsName a.name) atts → Each (Speaks v) atts
atts_speak v atts sound small some names = search (rules, each_of, speaks)

-- ---- dimensions

abbrev pub is_record : Dim → Bool
is_record d = d.len == 0

some_record : (dims : List Dim) → has_record_dim dims ≡ true → 0 < length (filter is_record dims)
some_record [] h = absurd (false≢true h)
some_record (d ∷ dims) h = grind (arith, some_record dims)

once : (done : List Dim) (d : Dim) (ds : List Dim) → length (filter is_record (done ++ d ∷ ds)) ≤ 1 → record_once done d.len
once done d ds h zero_len = (let e = filter-append is_record done (d ∷ ds) in grind (arith, some_record, length-append, e))

abbrev pub dim_name : Dim → List ℕ
dim_name d = d.name

pub new_dims : (v : Version) (done ds : List Dim) → AreFresh dim_name done (map dim_name ds) → AreDistinct (map dim_name ds) → Each (IsSoundDim v) ds → Each (λ (d : Dim). IsName d.name) ds → length (filter is_record (done ++ ds)) ≤ 1 → EachAfter (λ d. d) (IsNewDim v) done ds
new_dims v done [] fresh distinct sound names few = tt
new_dims v done (d ∷ ds) fresh distinct sound names few =
    let a : count_limit v < 2 ^ 64 = grind arith in
    let short : d.len < 2 ^ 64 = (let b = sound.0.len in omega (arith, a, b)) in
    let more : length (filter is_record ((done ++ d ∷ []) ++ ds)) ≤ 1 = rw (append_assoc done (d ∷ []) ds) few in
    ((names.0, fresh.0, sound.0.len, short, once done d ds few), new_dims v (done ++ d ∷ []) ds (fresh_more dim_name done d (map dim_name ds) fresh.1 distinct.0) distinct.1 sound.1 names.1 more)

-- ---- variables

abbrev pub draft_name : Draft → List ℕ
draft_name d = d.var.name

abbrev pub var_name : Var → List ℕ
var_name var = var.name
