-- A string, one character on.
use Rattle.cdl_tokens.proofs.Prelude.{list_all, prefix_len, prefix_len-le-length, append-nil, at_drop_all, length-take-le, take-append-drop, take-take, take_all, unescape, unescape_at, character, string_value, is_unescaped, ◌≡◌, ℕ, zero, suc, ◌+◌, ◌-◌, ◌<◌, ◌≤◌, true, false, List, [], ◌∷◌, ◌++◌, length, take, drop, sym, ◌∙◌, ap, refl, arith, ◌==◌, map, Option, Some, is_some, unwrap_or, min, set, append_assoc}
use Rattle.std.proofs.Math.Seq.{take-append-add}
use Rattle.std.proofs.lemmas.List.{drop_min, length-take, take_more_set}
use Rattle.std.proofs.lemmas.List.Folds.{prefix_len-append}
use Rattle.cdl_tokens.specs.code.Unescaping.{then_rest}
use Rattle.cdl_tokens.specs.declared.scan.Character.{Character}
use Rattle.cdl_tokens.proofs.Steps.{drop_some}

abbrev pub or_zero : Option ℕ → ℕ
or_zero b = unwrap_or b 0

-- bytes that characters stand for
abbrev pub bytes : List ℕ → List (Option ℕ)
bytes bs = map Some bs

unescape_skip : (more : ℕ) (bs : List ℕ) → unescape_at more bs ≡ unescape_at 0 (drop more bs)
unfolding unescape_at
unescape_skip (suc more) (b ∷ bs) = unescape_skip more bs
unescape_skip _ _ = refl

pub unescape_at_start : (b : ℕ) (bs : List ℕ) (c : Character) → c ≡ character (b ∷ bs) → 0 < c.len → unescape (b ∷ bs) ≡ c.value ∷ unescape (drop c.len (b ∷ bs))
unfolding unescape_at
unescape_at_start b bs c is some = rw (← is) (rw (drop_some c.len b bs some) (ap (λ xs. c.value ∷ xs) (unescape_skip (c.len - 1) bs)))

pub unescape_first : (bs : List ℕ) (c : Character) → 0 < length bs → c ≡ character bs → 0 < c.len → unescape bs ≡ c.value ∷ unescape (drop c.len bs)
unescape_first [] c h is some = absurd (let e : 0 < 0 = h in omega (arith, e))
unescape_first (b ∷ bs) c h is some = unescape_at_start b bs c is some

pub unescape_past : (text : List ℕ) (at : ℕ) → length text ≤ at → unescape (drop at text) ≡ []
unfolding unescape_at
unescape_past text at h = at_drop_all unescape text at h

-- ---- up to the first backslash

character_unescaped : (b : ℕ) (bs : List ℕ) → (b == 0x5c) ≡ false → character (b ∷ bs) ≡ record { value = Some b; len = 1 }
unfolding character
character_unescaped b bs off = rw (off) refl

pub unescape_unescaped : (b : ℕ) (bs : List ℕ) → (b == 0x5c) ≡ false → unescape (b ∷ bs) ≡ Some b ∷ unescape bs
unescape_unescaped b bs off = unescape_at_start b bs (record { value = Some b; len = 1 }) (sym (character_unescaped b bs off)) (omega arith)

unescape_run : (bs : List ℕ) (n : ℕ) → n ≤ prefix_len is_unescaped bs → unescape bs ≡ bytes (take n bs) ++ unescape (drop n bs)
unescape_run bs zero within = refl
unescape_run [] (suc n) within = absurd (let e : suc n ≤ 0 = within in omega (arith, e))
unescape_run (b ∷ bs) (suc n) within = grind (arith, unescape_unescaped b bs, unescape_run bs n)

-- bytes without a backslash stand for themselves
pub plain_unescaped : (bs : List ℕ) → prefix_len is_unescaped bs ≡ length bs → unescape bs ≡ bytes bs
plain_unescaped bs all =
    grind (arith, unescape_run bs (length bs) (omega (arith, all)), bytes (take (length bs) bs), unescape_past bs (length bs), append-nil (bytes (take (length bs) bs)), take_all (length bs) bs)

-- ---- whether it is a string

string_of : (bs : List ℕ) (os : List (Option ℕ)) → list_all is_some (bytes bs ++ os) ≡ list_all is_some os
string_of [] os = refl
string_of (b ∷ bs) os = string_of bs os

pub plain_string : (bs : List ℕ) → prefix_len is_unescaped bs ≡ length bs → list_all is_some (unescape bs) ≡ true
plain_string bs all = ap (list_all is_some) (plain_unescaped bs all ∙ sym (append-nil (bytes bs))) ∙ string_of bs []

-- ---- the bytes that it stands for

stands_of : (bs : List ℕ) (os : List (Option ℕ)) → map or_zero (bytes bs ++ os) ≡ bs ++ map or_zero os
stands_of [] os = refl
stands_of (b ∷ bs) os = ap (λ xs. b ∷ xs) (stands_of bs os)

pub stands_for : (raw bs : List ℕ) → unescape raw ≡ bytes bs → string_value raw ≡ bs
stands_for raw bs is = ap (map or_zero) (is ∙ sym (append-nil (bytes bs))) ∙ stands_of bs [] ∙ append-nil bs

pub stands_run : (bs : List ℕ) (n : ℕ) → n ≤ prefix_len is_unescaped bs → string_value bs ≡ take n bs ++ string_value (drop n bs)
stands_run bs n within = ap (map or_zero) (unescape_run bs n within) ∙ stands_of (take n bs) (unescape (drop n bs))

-- ---- put into a buffer

-- the first of these bytes, as far as they were copied
copied_part : (old new bs : List ℕ) (at n run : ℕ) → take (at + n) new ≡ take at old ++ take n bs → at ≤ length old → run ≤ n → take (at + run) new ≡ take at old ++ take run bs
copied_part old new bs at n run copied room few = grind (arith, length-take-le at old room, take-take (at + run) (at + n) new, take-append-add (take at old) (take n bs) run, take-take run n bs)

pub run_put : (old new bs : List ℕ) (at n run : ℕ) → take (at + n) new ≡ take at old ++ take n bs → at ≤ length old → run ≡ prefix_len is_unescaped (take n bs) →
    then_rest new (at + run) (drop run bs) ≡ then_rest old at bs
run_put old new bs at n run copied room is =
    let few : run ≤ n = omega (arith, prefix_len-le-length is_unescaped (take n bs), length-take n bs) in
    let within : run ≤ prefix_len is_unescaped bs = grind (arith, prefix_len-append is_unescaped (take n bs) (drop n bs), take-append-drop n bs) in
    ap (λ xs. xs ++ string_value (drop run bs)) (copied_part old new bs at n run copied room few) ∙ append_assoc (take at old) (take run bs) (string_value (drop run bs))
    ∙ ap (λ xs. take at old ++ xs) (sym (stands_run bs run within))

pub character_put : (old bs : List ℕ) (at : ℕ) (c : Character) → at < length old → 0 < length bs → c ≡ character bs → 0 < c.len →
    then_rest (set old at (or_zero c.value)) (at + 1) (drop (min c.len (length bs)) bs) ≡ then_rest old at bs
character_put old bs at c room first is some =
    rw (take_more_set old at (or_zero c.value) room, drop_min c.len bs, unescape_first bs c first is some) (append_assoc (take at old) (or_zero c.value ∷ []) (string_value (drop c.len bs)))
