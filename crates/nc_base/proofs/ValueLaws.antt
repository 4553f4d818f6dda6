-- The text of a variable's values, cut in pieces.
use Rattle.nc_base.proofs.Prelude.{◌≡◌, ℕ, zero, suc, ℤ, ◌+◌, ◌*◌, ◌/◌, ◌%◌, ◌<◌, ◌≤◌, Bool, true, false, cond, eqb, List, [], ◌∷◌, ◌++◌, length, drop, sym, ◌∙◌, ap, refl, arith, append_assoc, length-append, append-nil, ⊎_elim, ◌==◌, decimal, digit_glyph, digits_onto, digits, mod-add-mod, mod_self, mod-lt, mod-zero, cases_lt, eq-eqb, eqb-true, eqb-false, cond-true, cond-false, reverse-append, length-reverse, drop-append-le, drop_all, prefix_len-append, mod-mul-add, Look, column, number_text, is_nul, held, piece, pieces, variable_opening, variable_prefix, later_pieces, look_of, NcType, Header, Var, numbers_from, size_of}
use Rattle.nc_base.proofs.CharacterRows.{IsWide, pieces_are, prefix_is}

-- ---- cutting the values

pub pieces-append : (look : Look) (before : List ℕ) (values xs ys : List ℤ)
    → pieces look before values (xs ++ ys) ≡ pieces look before values xs ++ pieces look (before ++ pieces look before values xs) (values ++ xs) ys
unfolding pieces
pieces-append look before values [] ys = simp append-nil
pieces-append look before values (x ∷ xs) ys =
    grind (arith, append_assoc, pieces-append look (before ++ (piece look before values x)) (values ++ x ∷ []) xs ys)

pub prefix-append : (look : Look) (xs ys : List ℤ) → IsWide look (length (xs ++ ys)) → variable_prefix look (xs ++ ys) ≡ variable_prefix look xs ++ later_pieces look xs ys
prefix-append look xs ys wide = grind (arith, prefix_is, length-append, pieces-append, append_assoc)

-- the pieces of characters don't depend on the text before them
pub later-append : (look : Look) (xs ys zs : List ℤ) → later_pieces look xs (ys ++ zs) ≡ later_pieces look xs ys ++ later_pieces look (xs ++ ys) zs
later-append look xs ys zs = grind (arith, pieces-append, pieces_are, prefix-append)

-- one value alone
pub later_one : (look : Look) (xs : List ℤ) (x : ℤ) → later_pieces look xs (x ∷ []) ≡ piece look (variable_prefix look xs) xs x
unfolding pieces
later_one look xs x = append-nil (piece look (variable_prefix look xs) xs x)

-- no value
pub later_none : (look : Look) (xs : List ℤ) → later_pieces look xs [] ≡ []
unfolding pieces
later_none look xs = refl

pub prefix_nil : (look : Look) → variable_prefix look [] ≡ variable_opening look
unfolding pieces
prefix_nil look = prefix_is look [] (λ e some. absurd (omega (arith, some))) ∙ append-nil (variable_opening look)

-- ---- columns

-- the column after one more text
pub column-append : (s t : List ℕ) → column (s ++ t) ≡ cond (eqb (column t) (length t)) (length t + column s) (column t)
column-append s t = grind (arith, reverse-append, prefix_len-append, length-reverse)

-- after a text without line feeds
pub column-flat : (s t : List ℕ) → column t ≡ length t → column (s ++ t) ≡ column s + length t
column-flat s t flat = column-append s t ∙ cond-true _ _ _ (eq-eqb _ _ flat) ∙ omega arith

-- after a text with a line feed
pub column-broken : (s t : List ℕ) → column t < length t → column (s ++ t) ≡ column t
column-broken s t broken = grind (arith, column-append, cond-false, column)

-- ---- numbers have no line feeds

flat_cons : (b : ℕ) (t : List ℕ) → (b == 10) ≡ false → column t ≡ length t → column (b ∷ t) ≡ length (b ∷ t)
flat_cons b t other flat = grind (arith, column-flat (b ∷ []) t flat, column)

onto_flat : (k n : ℕ) (acc : List ℕ) → column acc ≡ length acc → column (digits_onto k 10 false n acc) ≡ length (digits_onto k 10 false n acc)
onto_flat zero n acc flat = flat
onto_flat (suc k) n acc flat = grind (arith, flat_cons, onto_flat k (n / 10) (digit_glyph false (n % 10) ∷ acc))

decimal_flat : (n : ℕ) → column (decimal n) ≡ length (decimal n)
unfolding digits
decimal_flat n = onto_flat 64 n [] refl

pub number_flat : (look : Look) (value : ℤ) → column (number_text look value) ≡ length (number_text look value)
number_flat look value = grind (arith, decimal_flat, flat_cons)

-- ---- rows

-- the place in a row, some values on
pub place-add : (n k r : ℕ) → 0 < k → (1 < k → n % r + k ≤ r) → (n + k) % r ≡ cond (n % r + k == r) 0 (n % r + k)
place-add n k zero some in_row = let e : (n + k == 0) ≡ false = grind arith in rw (mod-zero n, mod-zero (n + k)) (sym (cond-false (n + k == 0) 0 (n + k) e))
place-add n k (suc r) some in_row =
    let less : n % suc r < suc r = mod-lt n (omega arith) in
    let le : n % suc r + k ≤ suc r = ⊎_elim (λ (p : 1 < k). in_row p) (λ (p : k ≤ 1). omega arith) (cases_lt 1 k) in
    sym (mod-add-mod n (suc r) k) ∙ at (n % suc r + k) (suc r) le (omega arith) (n % suc r + k == suc r) refl
  where
    at : (m q : ℕ) → m ≤ q → 0 < q → (b : Bool) → (m == q) ≡ b → m % q ≡ cond b 0 m
    at m q le h true e = ap (λ x. x % q) (eqb-true m q e) ∙ mod_self q
    at m q le h false e =
        let ne = eqb-false m q e in
        let lt : m < q = ⊎_elim (λ (p : m < q). p) (λ (p : q ≤ m). absurd (ne (omega arith))) (cases_lt m q) in
        ap (λ x. x % q) (let f : m ≡ 0 * q + m = omega arith in f) ∙ mod-mul-add 0 q m lt

-- ---- NULs that aren't printed yet

-- after a value that is no NUL none is held
pub held_other : (look : Look) (xs : List ℤ) (x : ℤ) → is_nul x ≡ false → held look (xs ++ x ∷ []) ≡ 0
held_other look xs x other = grind (arith, drop_all, length-append, drop-append-le, reverse-append)

-- after one more NUL in the row one more is held
pub held_nul : (look : Look) (xs : List ℤ) (x : ℤ) → look.trimmed ≡ true → is_nul x ≡ true → (length xs + 1) % look.row ≡ length xs % look.row + 1
    → held look (xs ++ x ∷ []) ≡ held look xs + 1
held_nul look xs x trimmed nul place = grind (arith, length-append, drop-append-le, reverse-append)

-- at a row's beginning none is held
pub held_first : (look : Look) (xs : List ℤ) → length xs % look.row ≡ 0 → held look xs ≡ 0
held_first look xs first = grind (arith, drop_all)

-- in a variable that isn't trimmed none is held
pub held_untrimmed : (look : Look) (xs : List ℤ) → look.trimmed ≡ false → held look xs ≡ 0
held_untrimmed look xs untrimmed = cond-false look.trimmed _ 0 untrimmed

pub look-type : (h : Header) (var : Var) (n width : ℕ) → (look_of h var n width).ty ≡ var.ty
unfolding look_of
look-type h var n width = refl

pub length-numbers_from : (ty : NcType) (n : ℕ) (bytes : List ℕ) → length (numbers_from ty n bytes) ≡ n
length-numbers_from ty zero bytes = refl
length-numbers_from ty (suc n) bytes = ap suc (length-numbers_from ty n (drop (size_of ty) bytes))
