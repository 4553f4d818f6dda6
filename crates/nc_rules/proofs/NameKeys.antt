-- Names of lists in a map, and the first fields that are they.
use Rattle.nc_rules.proofs.Prelude.{slice_cmp, bytes_decides, option_or, Ordering, is_eq, nat_cmp, ordering_then, NameScope, Indexed, NameKey, is_same_key, is_same_list, is_first, key_of, has_key, first_index, FirstNames, HasFirst, hash, index_if, is_first_of, is_key_of, ◌≡◌, ℕ, Bool, true, false, if◌then◌else◌, ◌&&◌, ◌==◌, List, [], ◌∷◌, ◌++◌, refl, arith, Option, Some, None, Bor}
use Rattle.std.specs.BTreeMap.{BTreeMap, Updates, is_at}
use Rattle.std.specs.Map.{lookup}
use Rattle.std.proofs.lemmas.Grind.{common_steps}
use Rattle.std.proofs.lemmas.List.Folds.{find-append}
use Rattle.std.proofs.lemmas.Map.Text.{is_eq-slice_cmp}
use Rattle.nc_rules.specs.contracts.names.NameScopeOrd.TheImpl as lists

-- ---- keys of the map

-- the list that a name is in, and its lent bytes
abbrev pub LentName : Type 0
LentName = NameScope × Bor (List ℕ)

abbrev pub lent : LentName → NameKey
lent name = (name.0, name.1.now)

-- the hash of a name, and the name
abbrev pub LentKey : Type 0
LentKey = ℕ × LentName

abbrev pub plain : LentKey → NameKey
plain k = lent k.1

-- the hash is that of the name
abbrev pub IsHashed : LentKey → Type 0
IsHashed k = k.0 ≡ hash (plain k)

-- the order of the keys
abbrev pub key_cmp : LentKey → LentKey → Ordering
key_cmp a b = ordering_then (nat_cmp a.0 b.0) (ordering_then (lists.ghosts.cmp a.1.0 b.1.0) (slice_cmp nat_cmp a.1.1.now b.1.1.now))

same_number : (i k : ℕ) → is_eq (nat_cmp i k) ≡ (i == k)
same_number i k = grind (arith, common_steps)

same_list : (a b : NameScope) → is_eq (lists.ghosts.cmp a b) ≡ is_same_list a b
same_list v0 v1 = grind (arith, same_number)

both : (a b : Ordering) → is_eq (ordering_then a b) ≡ (is_eq a && is_eq b)
both v0 b = grind arith

same_key : (a b : LentKey) → is_at (key_cmp a) b ≡ ((a.0 == b.0) && is_same_key (plain a) (plain b))
same_key a b = grind (arith, both, same_number, same_list, is_eq-slice_cmp)

-- a search for a name finds the keys that are that of it
searched : (a b : LentKey) → IsHashed a → is_at (key_cmp a) b ≡ is_key_of (plain a) b
searched a b is = grind (arith, same_key)

-- two tests that say the same find the same
lookup-same : {K X : Type 0} (p q : K → Bool) → ((k : K) → p k ≡ q k) → (es : List (K × X)) → lookup p es ≡ lookup q es
lookup-same p q same [] = refl
lookup-same p q same (e ∷ es) = grind (arith, same e.0, lookup-same p q same es)

-- ---- equal keys

same_lists : (a b : NameScope) → is_same_list a b ≡ true → a ≡ b
same_lists v0 v1 h = grind (arith, common_steps)

same_keys : (a b : NameKey) → is_same_key a b ≡ true → a ≡ b
same_keys a b h =
    let list = same_lists a.0 b.0 in
    let bytes = (bytes_decides a.1 b.1).0 in grind (arith, common_steps)

-- names of one key have one hash
same_hash : (k other : NameKey) → ((hash k == hash other) && is_same_key k other) ≡ is_same_key k other
same_hash k other = grind (arith, common_steps, same_keys k other)

-- ---- names that are added

-- the index of this name in the map
abbrev pub index_in : BTreeMap LentKey ℕ → NameKey → Option ℕ
index_in names key = lookup (is_key_of key) names.entries

-- it is what a search of the map finds
pub index-found : (names : BTreeMap LentKey ℕ) (key : LentKey) → IsHashed key
    → lookup (is_at (key_cmp key)) names.entries ≡ index_in names (plain key)
index-found names key is =
    lookup-same (is_at (key_cmp key)) (is_key_of (plain key)) (λ k. searched key k is) names.entries

-- one name more
added : (old new : BTreeMap LentKey ℕ) (key : LentKey) (i : ℕ) → IsHashed key → Updates key_cmp old new key (Some i) → (other : NameKey)
    → index_in new other ≡ (if is_same_key (plain key) other then Some i else index_in old other)
added old new key i is updates other =
    let q : LentKey = (hash other, (other.0, record { ref_ptr = (0, 0); now = other.1 })) in
    grind (arith, searched key q is, same_hash (plain key) other, index-found new q refl, index-found old q refl, updates.0 q)

or-none : (o : Option ℕ) → option_or o None ≡ o
or-none o = grind arith

-- a new name
pub added-new : (old new : BTreeMap LentKey ℕ) (key : LentKey) (i : ℕ) → IsHashed key → index_in old (plain key) ≡ None
    → Updates key_cmp old new key (Some i) → (other : NameKey)
    → index_in new other ≡ option_or (index_in old other) (index_if (is_same_key (plain key) other) i)
added-new old new key i is none updates other =
    grind (arith, or-none, added old new key i is updates other, same_keys (plain key) other)

-- a name that was there, and has got its first index back
pub added-again : (old mid new : BTreeMap LentKey ℕ) (key : LentKey) (i first : ℕ) → IsHashed key → index_in old (plain key) ≡ Some first
    → Updates key_cmp old mid key (Some i) → Updates key_cmp mid new key (Some first) → (other : NameKey)
    → index_in new other ≡ option_or (index_in old other) (index_if (is_same_key (plain key) other) i)
added-again old mid new key i first is there updates back other =
    grind (arith, or-none, added mid new key first is back other, added old mid key i is updates other, same_keys (plain key) other)

-- ---- the first field that is a name

first_index-push : (key : NameKey) (earlier : List Indexed) (f : Indexed)
    → first_index key (earlier ++ f ∷ []) ≡ option_or (first_index key earlier) (if has_key key f then Some f.index else None)
first_index-push key earlier f = grind (arith, find-append)

-- a field that is no name
pub first_index-other : (key : NameKey) (earlier : List Indexed) (f : Indexed) → key_of f.entry ≡ None
    → first_index key (earlier ++ f ∷ []) ≡ first_index key earlier
first_index-other key earlier f none = grind (arith, first_index-push, or-none)

-- a name
pub first_index-name : (key k : NameKey) (earlier : List Indexed) (f : Indexed) → key_of f.entry ≡ Some k
    → option_or (first_index key earlier) (index_if (is_same_key k key) f.index) ≡ first_index key (earlier ++ f ∷ [])
first_index-name key k earlier f is = grind (arith, first_index-push)

-- ---- the first of a name

pub first-of : (names : FirstNames) (fields : List Indexed) (f : Indexed) → HasFirst names fields → is_first_of names f ≡ is_first fields f
first-of names fields f has = grind (arith, has)
