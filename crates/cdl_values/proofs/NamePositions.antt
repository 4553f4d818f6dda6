-- What an index of names finds, and an index of one name more.
use Rattle.cdl_values.proofs.Prelude.{list_any, position_from, BTreeMap, bytes_eq, cases_Bool, cond-true, cond-false, false≢true, get_or-map, length-map, IsIndex, NameIndex, first_with_hash, hash_of, is_new, later_position, position_of, ◌≡◌, ◌<◌, ℕ, zero, suc, ◌+◌, Bool, true, false, cond, List, [], ◌∷◌, ◌++◌, length, get_or, refl, sym, ap, ◌∙◌, subst, ⊎_elim, arith, Vec, Global, Option, None, Some, ◌==◌, is_some, map, not, rules}
use Rattle.std.specs.BTreeMap as tree
use Rattle.std.specs.Map.{lookup, IsKeyTest, AreApart, KeepsOthers}
use Rattle.std.specs.Cmp.{eq_by_cmp_equiv, unsigned_ties}
use Rattle.std.specs.Cmp.Lexicographic.{slice_cmp, bytes_decides, nat_list_cmp_total, nat_list_eq_equiv}
use Rattle.std.specs.Ordering.{is_eq, nat_cmp}
use Rattle.std.proofs.lemmas.Map.Text.{is_eq-slice_cmp}

-- ---- the first item that passes a test, after one item more

some_not_none : {X : Type 0} (x : X) → Some x ≡ None → ⊥
some_not_none x h = cc

module _ {X : Type 0} (test : X → Bool) (x : X) where
  kept_from : (i : ℕ) (xs : List X) (p : ℕ) → position_from test i xs ≡ Some p → position_from test i (xs ++ x ∷ []) ≡ Some p
  kept_from i [] p is = cc
  kept_from i (y ∷ xs) p is = search (rules, kept_from (i + 1) xs p)

  added_from : (i : ℕ) (xs : List X) → position_from test i xs ≡ None → position_from test i (xs ++ x ∷ []) ≡ cond (test x) (Some (i + length xs)) None
  added_from i [] is = ap (λ n. cond (test x) (Some n) None) (let e : i ≡ i + 0 = omega arith in e)
  added_from i (y ∷ xs) is = search (rules, added_from (i + 1) xs)

  pub added : (xs : List X) → position_from test 0 xs ≡ None → position_from test 0 (xs ++ x ∷ []) ≡ cond (test x) (Some (length xs)) None
  added xs is = added_from 0 xs is ∙ ap (λ n. cond (test x) (Some n) None) (let e : 0 + length xs ≡ length xs = omega arith in e)

-- ---- a name is among those of the items where it has a position

module _ {X : Type 0} (name_of : X → List ℕ) (name : List ℕ) where
  any_from : (i : ℕ) (xs : List X) → list_any (λ x. bytes_eq (name_of x) name) xs ≡ is_some (position_from (λ other. bytes_eq other name) i (map name_of xs))
  any_from i [] = refl
  any_from i (x ∷ xs) = search (rules, any_from (i + 1) xs)

  pub any_is : (xs : List X) → list_any (λ x. bytes_eq (name_of x) name) xs ≡ is_some (position_of (map name_of xs) name)
  any_is xs = any_from 0 xs

  -- and new if no item has it
  pub new_is : (xs : List X) → is_new (map name_of xs) name ≡ not (list_any (λ x. bytes_eq (name_of x) name) xs)
  new_is xs = ap not (sym (any_is xs))

-- ---- the first name with a hash

module _ (name : List ℕ) where
  abbrev has_hash : List ℕ → Bool
  has_hash other = hash_of other == hash_of name

  abbrev is_same : List ℕ → Bool
  is_same other = bytes_eq other name

  same_hash : (other : List ℕ) → is_same other ≡ true → has_hash other ≡ true
  same_hash other e = subst (λ (n : List ℕ). (hash_of other == hash_of n) ≡ true) ((bytes_decides other name).0 e) (let n = hash_of other in grind arith)

  other_hash : (other : List ℕ) → has_hash other ≡ false → is_same other ≡ false
  other_hash other e = ⊎_elim (λ y. absurd (false≢true (sym e ∙ same_hash other y))) (λ n. n) (cases_Bool (is_same other))

  later_than : (i : ℕ) (names : List (List ℕ)) (q : ℕ) → position_from is_same i names ≡ Some q → i < suc q
  later_than i [] q is = cc
  later_than i (x ∷ names) q is = search (rules, later_than (i + 1) names q)

  no_hash : (i : ℕ) (names : List (List ℕ)) → position_from has_hash i names ≡ None → position_from is_same i names ≡ None
  no_hash i [] is = refl
  no_hash i (x ∷ names) is = search (rules, false≢true, no_hash (i + 1) names)

  -- the first name with its hash is one of the names
  within_from : (i j : ℕ) (names : List (List ℕ)) → position_from has_hash i names ≡ Some (i + j) → j < length names
  within_from i j [] is = cc
  within_from i zero (x ∷ names) is = omega arith
  within_from i (suc j) (x ∷ names) is = grind (arith, within_from (i + 1) j names)

  -- the name stands where the first name with its hash stands, or elsewhere
  here_from : (i j : ℕ) (names : List (List ℕ)) (d : List ℕ) → position_from has_hash i names ≡ Some (i + j) → is_same (get_or names j d) ≡ true → position_from is_same i names ≡ Some (i + j)
  here_from i j [] d is same = cc
  here_from i zero (x ∷ names) d is same = grind (arith, later_than)
  here_from i (suc j) (x ∷ names) d is same = grind (arith, other_hash, here_from (i + 1) j names d)

  elsewhere_from : (i j : ℕ) (names : List (List ℕ)) (d : List ℕ) → position_from has_hash i names ≡ Some (i + j) → is_same (get_or names j d) ≡ false → position_from is_same i names ≡ Some (i + j) → ⊥
  elsewhere_from i j [] d is other at = cc
  elsewhere_from i zero (x ∷ names) d is other at = grind (arith, later_than)
  elsewhere_from i (suc j) (x ∷ names) d is other at = grind (arith, other_hash, elsewhere_from (i + 1) j names d)

  -- without a name of its hash the name isn't there
  pub absent : (names : List (List ℕ)) → first_with_hash (hash_of name) names ≡ None → position_of names name ≡ None
  absent names is = no_hash 0 names is

  pub hit_within : (names : List (List ℕ)) (q : ℕ) → first_with_hash (hash_of name) names ≡ Some q → q < length names
  hit_within names q is = grind (arith, within_from 0 q names)

  pub hit_here : (names : List (List ℕ)) (q : ℕ) (d : List ℕ) → first_with_hash (hash_of name) names ≡ Some q → is_same (get_or names q d) ≡ true → position_of names name ≡ Some q
  hit_here names q d is same = grind (arith, here_from 0 q names d)

  pub hit_elsewhere : (names : List (List ℕ)) (q : ℕ) (d : List ℕ) → first_with_hash (hash_of name) names ≡ Some q → is_same (get_or names q d) ≡ false → later_position names name ≡ position_of names name
  hit_elsewhere names q d is other = grind (arith, cases_Bool, elsewhere_from 0 q names d)

-- ---- names that items of a list lend

module _ {X : Type 0} (name_of : X → List ℕ) (xs : List X) (name : List ℕ) (q : ℕ) (found : first_with_hash (hash_of name) (map name_of xs) ≡ Some q) where
  pub item_within : q < length xs
  item_within = let within = hit_within name (map name_of xs) q found in let count : length (map name_of xs) ≡ length xs = length-map xs name_of in omega (arith, within, count)

  name_at : (x : X) → x ≡ get_or xs q x → get_or (map name_of xs) q [] ≡ name_of x
  name_at x is = get_or-map name_of xs q x [] item_within ∙ ap name_of (sym is)

  pub item_here : (x : X) → x ≡ get_or xs q x → bytes_eq (name_of x) name ≡ true → Some q ≡ position_of (map name_of xs) name
  item_here x is same = sym (hit_here name (map name_of xs) q [] found (ap (λ n. bytes_eq n name) (name_at x is) ∙ same))

  pub item_elsewhere : (x : X) → x ≡ get_or xs q x → bytes_eq (name_of x) name ≡ false → later_position (map name_of xs) name ≡ position_of (map name_of xs) name
  item_elsewhere x is other = hit_elsewhere name (map name_of xs) q [] found (ap (λ n. bytes_eq n name) (name_at x is) ∙ other)

-- ---- one name more

module _ (names : List (List ℕ)) (name : List ℕ) (new : position_of names name ≡ None) where
  abbrev more : List (List ℕ)
  more = names ++ name ∷ []

  firsts_more : (hash : ℕ) → first_with_hash hash names ≡ None → first_with_hash hash more ≡ cond (hash_of name == hash) (Some (length names)) None
  firsts_more hash is = added (λ (n : List ℕ). hash_of n == hash) name names is

  firsts_kept : (hash q : ℕ) → first_with_hash hash names ≡ Some q → first_with_hash hash more ≡ Some q
  firsts_kept hash q is = kept_from (λ (n : List ℕ). hash_of n == hash) name 0 names q is

  -- another name stands where it stood, and so does the first with its hash
  later_kept : (other : List ℕ) → bytes_eq name other ≡ false → later_position more other ≡ later_position names other
  later_kept other apart = search (rules, more, absent, firsts_kept, added, cond-false, kept_from)

  -- the name itself stands at the end, and is the first with its hash only if no other has it
  later_first : first_with_hash (hash_of name) names ≡ None → later_position more name ≡ None
  later_first is = search (rules, more, added, cond-true)

  later_other : (q : ℕ) → first_with_hash (hash_of name) names ≡ Some q → later_position more name ≡ Some (length names)
  later_other q is = search (rules, hit_within, more, added, cond-true, firsts_kept, cond-false)

-- ---- the maps of an index, as they change

abbrev others_at : BTreeMap (Vec ℕ Global) ℕ → List ℕ → Option ℕ
others_at m cs = tree.get_by (λ k. slice_cmp nat_cmp cs k.items) m

apart : (bs cs ks : List ℕ) → bytes_eq bs cs ≡ false → bytes_eq bs ks ≡ true → bytes_eq cs ks ≡ false
apart bs cs ks n y = nat_list_eq_equiv.symm cs ks ∙ sym (nat_list_eq_equiv.congr bs ks cs y) ∙ n

apart_in_order : (bs cs ks : List ℕ) → bytes_eq bs cs ≡ false → is_eq (slice_cmp nat_cmp bs ks) ≡ true → is_eq (slice_cmp nat_cmp cs ks) ≡ false
apart_in_order bs cs ks n y = is_eq-slice_cmp cs ks ∙ apart bs cs ks n (sym (is_eq-slice_cmp bs ks) ∙ y)

module _ {K : Type 0} (eq : K → K → Bool) (test : K → Bool) where
  other_entries : {X : Type 0} (old new : List (K × X)) → KeepsOthers eq test old new → (other : K → Bool) → IsKeyTest eq other → AreApart test other → lookup other new ≡ lookup other old
  unfolding KeepsOthers
  other_entries old new h = h

other_same : (m n : BTreeMap (Vec ℕ Global) ℕ) (k : Vec ℕ Global) (w : Option ℕ) → tree.Updates (λ x y. slice_cmp nat_cmp x.items y.items) m n k w → (cs : List ℕ) → bytes_eq k.items cs ≡ false → others_at n cs ≡ others_at m cs
other_same m n k w h cs e = other_entries _ _ _ _ h.3 _ (λ x y. (eq_by_cmp_equiv nat_list_cmp_total).congr cs x.items y.items) (λ q. apart_in_order k.items cs q.items e)

-- the value of a number's key after it is given to another
number_test : (a b : ℕ) → is_eq (nat_cmp a b) ≡ (a == b)
number_test a b = sym (unsigned_ties a b)

-- a name whose hash is new
pub first_added : (m n : NameIndex) (names : List (List ℕ)) (name : List ℕ) → IsIndex m names → position_of names name ≡ None → first_with_hash (hash_of name) names ≡ None → n.others ≡ m.others →
    tree.Updates nat_cmp m.first_of_hash n.first_of_hash (hash_of name) (Some (length names)) → IsIndex n (names ++ name ∷ [])
first_added m n names name index new none same h = search (rules, cases_Bool, cond-false, firsts_more, firsts_kept, later_kept, later_first, apart, number_test)

-- a name with the hash of an earlier one
other_added_after : (m n : NameIndex) (names : List (List ℕ)) (key : Vec ℕ Global) (q : ℕ) → IsIndex m names → position_of names key.items ≡ None → first_with_hash (hash_of key.items) names ≡ Some q → n.first_of_hash ≡ m.first_of_hash →
    tree.Updates (λ x y. slice_cmp nat_cmp x.items y.items) m.others n.others key (Some (length names)) → IsIndex n (names ++ key.items ∷ [])
other_added_after m n names key q index new some same h = record {
  firsts = λ hash. ap (λ (f : BTreeMap ℕ ℕ). tree.get nat_cmp f hash) same ∙ index.firsts hash ∙ at hash (first_with_hash hash names) refl;
  others = λ other. ⊎_elim (here other) (λ apart. other_same m.others n.others key (Some (length names)) h other apart ∙ index.others other ∙ sym (later_kept names key.items new other apart)) (cases_Bool (bytes_eq key.items other));
}
  where
    at : (hash : ℕ) (found : Option ℕ) → first_with_hash hash names ≡ found → first_with_hash hash names ≡ first_with_hash hash (names ++ key.items ∷ [])
    at hash None is = is ∙ sym (firsts_more names key.items new hash is ∙ cond-false (hash_of key.items == hash) (Some (length names)) None (⊎_elim (λ y. absurd (some_not_none q (sym some ∙ ap (λ h. first_with_hash h names) (let e : hash_of key.items ≡ hash = grind (arith, y) in e) ∙ is))) (λ n. n) (cases_Bool (hash_of key.items == hash))))
    at hash (Some p) is = is ∙ sym (firsts_kept names key.items new hash p is)

    here : (other : List ℕ) → bytes_eq key.items other ≡ true → others_at n.others other ≡ later_position (names ++ key.items ∷ []) other
    here other y = subst (λ (n' : List ℕ). others_at n.others n' ≡ later_position (names ++ key.items ∷ []) n') ((bytes_decides key.items other).0 y) (h.1 ∙ sym (later_other names key.items new q some))

pub other_added : (m n : NameIndex) (names : List (List ℕ)) (key : Vec ℕ Global) → IsIndex m names → position_of names key.items ≡ None → is_some (first_with_hash (hash_of key.items) names) ≡ true → n.first_of_hash ≡ m.first_of_hash →
    tree.Updates (λ x y. slice_cmp nat_cmp x.items y.items) m.others n.others key (Some (length names)) → IsIndex n (names ++ key.items ∷ [])
other_added m n names key index new some same h = search (rules, false≢true, other_added_after)
