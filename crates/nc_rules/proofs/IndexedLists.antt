-- Lists of fields with their indices, one field on.
use Rattle.nc_rules.proofs.Prelude.{at_drop_more, take_more, length-take-le, IsPermutation-refl, IsPermutation-trans, IsPermutation-append_left, IsPermutation-append_comm, IsPermutation, option_to_list, Entry, Finding, Indexed, field_at, indexed, indexed_from, each_before, ahead_of, ahead_with, each_backward, ◌≡◌, ℕ, ◌+◌, ◌-◌, ◌<◌, ◌≤◌, List, [], ◌∷◌, ◌++◌, length, get_or, drop, take, ap, sym, ◌∙◌, arith, Option}

-- the fields from index i on are the one there, and those after it
pub rest : {A : Type 0} (f : List Indexed → A) (es : List Entry) (i : ℕ) (d : Entry) → i < length es
    → f (indexed_from i (drop i es)) ≡ f (field_at i (get_or es i d) ∷ indexed_from (i + 1) (drop (i + 1) es))
rest f es i d lt = at_drop_more (λ xs. f (indexed_from i xs)) es i d lt

-- the same, in a pass from the last field to the first
pub rest-before : (es : List Entry) (n : ℕ) (e : Entry) → 0 < n → n ≤ length es → e ≡ get_or es (n - 1) e
    → indexed_from (n - 1) (drop (n - 1) es) ≡ field_at (n - 1) e ∷ indexed_from n (drop n es)
rest-before es n e some le is =
    let next : n - 1 + 1 ≡ n = omega arith in
    rest (λ fs. fs) es (n - 1) e (omega arith)
    ∙ ap (λ (x : Entry). field_at (n - 1) x ∷ indexed_from (n - 1 + 1) (drop (n - 1 + 1) es)) (sym is)
    ∙ ap (λ m. field_at (n - 1) e ∷ indexed_from m (drop m es)) next

-- ---- what lies ahead

pub ahead_with-is : (f : Indexed) (after : List Indexed) → ahead_with f (ahead_of after) ≡ ahead_of (f ∷ after)
ahead_with-is f after = grind arith

-- ---- from the last field to the first

pub each_backward-permutation : (rule : Indexed → List Indexed → Option Finding) (fs : List Indexed)
    → IsPermutation (each_before rule fs) (each_backward rule fs)
each_backward-permutation rule [] = IsPermutation-refl []
each_backward-permutation rule (f ∷ after) =
    let here : List Finding = option_to_list (rule f after) in
    IsPermutation-trans (here ++ each_before rule after) (each_before rule after ++ here) (each_backward rule after ++ here)
    (IsPermutation-append_comm here (each_before rule after))
    (IsPermutation-append_left here (each_before rule after) (each_backward rule after) (each_backward-permutation rule after))

-- ---- the fields before an index

pub indexed_from-append : (k : ℕ) (es : List Entry) (e : Entry)
    → indexed_from k (es ++ e ∷ []) ≡ indexed_from k es ++ field_at (k + length es) e ∷ []
indexed_from-append k [] e = let same : k ≡ k + 0 = omega arith in ap (λ n. field_at n e ∷ []) same
indexed_from-append k (x ∷ es) e =
    let same : k + 1 + length es ≡ k + length (x ∷ es) = omega arith in
    ap (λ xs. field_at k x ∷ xs) (indexed_from-append (k + 1) es e ∙ ap (λ n. indexed_from (k + 1) es ++ field_at n e ∷ []) same)

pub indexed-take : (es : List Entry) (i : ℕ) (d : Entry) → i < length es
    → indexed (take (i + 1) es) ≡ indexed (take i es) ++ field_at i (get_or es i d) ∷ []
indexed-take es i d lt =
    let e = get_or es i d in
    let len : 0 + length (take i es) ≡ i = omega (arith, length-take-le i es (omega arith)) in
    ap indexed (take_more es i d lt) ∙ indexed_from-append 0 (take i es) e ∙ ap (λ n. indexed (take i es) ++ field_at n e ∷ []) len
