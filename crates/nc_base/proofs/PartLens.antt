-- How many bytes a written value has.
use Rattle.nc_base.proofs.Prelude.{◌≡◌, ℕ, ◌+◌, List, [], ◌∷◌, ◌++◌, length, drop, Option, Some, None, refl, sym, ap, ap₂, ◌∙◌, arith, append_assoc, append-nil, length-append, length-replicate, Width, w32, w64, byte_len, Version, count_width, offset_width, Step, Part, done, bytes, decoded, under, chain, print, number, count_part, limited_part, offset_part, ignored, first, each, Bytes, printed_len, drop-append_seam}
use Rattle.nc_base.proofs.Printable.{IsWide, wide-32, wide-64, count-wide, offset-wide}

chain-len : {A B : Type 0} (p : Part A) (next : A → Part B) (y : B) → ((x : A) → printed_len p x ≡ length (print p x)) → ((x : A) → printed_len (next x) y ≡ length (print (next x) y))
    → (o : Option A) → elim o as (λ o. ℕ) [ Some x ↦ printed_len p x + printed_len (next x) y | None ↦ 0 ] ≡ length (elim o as (λ o. Bytes) [ Some x ↦ print p x ++ print (next x) y | None ↦ [] ])
chain-len p next y one others (Some x) = ap (λ n. n + printed_len (next x) y) (one x) ∙ ap (λ n. length (print p x) + n) (others x) ∙ sym (length-append (print p x) (print (next x) y))
chain-len p next y one others None = refl

pub print-len : {A : Type 0} (p : Part A) (x : A) → printed_len p x ≡ length (print p x)
unfolding printed_len print
print-len (done x) y = refl
print-len (bytes n cut) content = refl
print-len (decoded decode encode p) y = print-len p (encode y)
print-len (under step p) x = print-len p x
print-len (chain get p next) y = chain-len p next y (λ x. print-len p x) (λ x. print-len (next x) y) (get y)

-- ---- numbers and bytes

number-len : (w : Width) (n : ℕ) → IsWide w → printed_len (number w) n ≡ byte_len w
unfolding printed_len number
number-len w n wide = wide.len n

pub word-len : (n : ℕ) → printed_len (number w32) n ≡ 4
word-len n = number-len w32 n wide-32

pub long-len : (n : ℕ) → printed_len (number w64) n ≡ 8
long-len n = number-len w64 n wide-64

pub count_field-len : (v : Version) (n : ℕ) → printed_len (number (count_width v)) n ≡ byte_len (count_width v)
count_field-len v n = number-len (count_width v) n (count-wide v)

pub offset_field-len : (v : Version) (n : ℕ) → printed_len (number (offset_width v)) n ≡ byte_len (offset_width v)
offset_field-len v n = number-len (offset_width v) n (offset-wide v)

pub count-len : (v : Version) (n : ℕ) → printed_len (count_part v) n ≡ byte_len (count_width v)
unfolding printed_len limited_part
count-len v n = count_field-len v n

pub offset-len : (v : Version) (n : ℕ) → printed_len (offset_part v) n ≡ byte_len (offset_width v)
unfolding printed_len offset_part
offset-len v n = offset_field-len v n

pub ignored-len : (n : ℕ) → printed_len (ignored n) tt ≡ n
unfolding printed_len ignored
ignored-len n = length-replicate n 0

pub ruleset field_lens = (word-len, long-len, count_field-len, offset_field-len, count-len, offset-len, ignored-len)

-- ---- lists

-- these elements, each written after those before it
unfoldable pub each_len : {A : Type 0} → (List A → Part A) → List A → List A → ℕ
each_len element before [] = 0
each_len element before (x ∷ xs) = printed_len (element before) x + each_len element (before ++ x ∷ []) xs

pub each_len-none : {A : Type 0} (element : List A → Part A) (before : List A) → each_len element before [] ≡ 0
unfolding each_len
each_len-none element before = refl

pub each_len-push : {A : Type 0} (element : List A → Part A) (before xs : List A) (x : A) → each_len element before (xs ++ x ∷ []) ≡ each_len element before xs + printed_len (element (before ++ xs)) x
unfolding each_len
each_len-push element before [] x =
    let same : printed_len (element before) x ≡ printed_len (element (before ++ [])) x = ap (λ ys. printed_len (element ys) x) (sym (append-nil before)) in omega (arith, same)
each_len-push element before (y ∷ xs) x =
    grind (arith, append_assoc, each_len-push element (before ++ y ∷ []) xs x)

chain_len-some : {A B : Type 0} (get : B → Option A) (p : Part A) (next : A → Part B) (x : A) (y : B) → get y ≡ Some x → printed_len (chain get p next) y ≡ printed_len p x + printed_len (next x) y
unfolding printed_len
chain_len-some get p next x y e = rw e refl

under_len : {A : Type 0} (step : Step) (p : Part A) (x : A) → printed_len (under step p) x ≡ printed_len p x
unfolding printed_len
under_len step p x = refl

done_len : {A : Type 0} (x y : A) → printed_len (done x) y ≡ 0
unfolding printed_len
done_len x y = refl

each-from-len : {A : Type 0} (element : List A → Part A) (all before xs : List A) → all ≡ before ++ xs → printed_len (each element (length xs) before) all ≡ each_len element before xs
unfolding each each_len
each-from-len element all before [] e = done_len before all
each-from-len element all before (x ∷ xs) e =
    chain_len-some _ _ _ x all (ap (λ ys. first (drop (length before) ys)) e ∙ ap first (drop-append_seam before (x ∷ xs)))
    ∙ ap₂ (λ a b. a + b) (under_len _ _ x) (each-from-len element all (before ++ x ∷ []) xs (e ∙ sym (append_assoc before (x ∷ []) xs)))

pub each-len : {A : Type 0} (element : List A → Part A) (n : ℕ) (xs : List A) → length xs ≡ n → printed_len (each element n []) xs ≡ each_len element [] xs
each-len element n xs e = ap (λ k. printed_len (each element k []) xs) (sym e) ∙ each-from-len element xs [] xs refl
