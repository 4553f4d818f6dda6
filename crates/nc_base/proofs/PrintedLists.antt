-- How the elements of a list are written: one after the other.
use Rattle.nc_base.proofs.Prelude.{◌≡◌, ℕ, List, [], ◌∷◌, ◌++◌, length, drop, Option, Some, refl, sym, ap, ap₂, ◌∙◌, append_assoc, flat_map, Step, Part, done, under, chain, print, first, each, list_head, list_part, Bytes, drop-append_seam, Version}

done-printed : {A : Type 0} (x y : A) → print (done x) y ≡ []
unfolding print
done-printed x y = refl

under-printed : {A : Type 0} (step : Step) (p : Part A) (x : A) → print (under step p) x ≡ print p x
unfolding print
under-printed step p x = refl

chain-printed : {A B : Type 0} (get : B → Option A) (p : Part A) (next : A → Part B) (x : A) (y : B) → get y ≡ Some x → print (chain get p next) y ≡ print p x ++ print (next x) y
unfolding print
chain-printed get p next x y e = rw e refl

-- an element is written so, whatever stands before it
abbrev pub IsPrintedAs : {A : Type 0} → (List A → Part A) → (A → Bytes) → Type 0
IsPrintedAs {A = A} element spelling = (before : List A) (x : A) → print (element before) x ≡ spelling x

each-from : {A : Type 0} (element : List A → Part A) (spelling : A → Bytes) (all before xs : List A) → IsPrintedAs element spelling → all ≡ before ++ xs → print (each element (length xs) before) all ≡ flat_map spelling xs
unfolding each
each-from element spelling all before [] same e = done-printed before all
each-from element spelling all before (x ∷ xs) same e =
    chain-printed _ _ _ x all (ap (λ ys. first (drop (length before) ys)) e ∙ ap first (drop-append_seam before (x ∷ xs)))
    ∙ ap₂ (λ a b. a ++ b) (under-printed _ _ x ∙ same before x) (each-from element spelling all (before ++ x ∷ []) xs same (e ∙ sym (append_assoc before (x ∷ []) xs)))

pub each-printed : {A : Type 0} (element : List A → Part A) (spelling : A → Bytes) (xs : List A) → IsPrintedAs element spelling → print (each element (length xs) []) xs ≡ flat_map spelling xs
each-printed element spelling xs same = each-from element spelling xs [] xs same refl

pub list-printed : {A : Type 0} (v : Version) (tag : ℕ) (element : List A → Part A) (spelling : A → Bytes) (xs : List A) → IsPrintedAs element spelling
    → print (list_part v tag element) xs ≡ print (list_head v tag) (length xs) ++ flat_map spelling xs
unfolding print list_part
list-printed v tag element spelling xs same = ap (λ b. print (list_head v tag) (length xs) ++ b) (each-printed element spelling xs same)
