-- Bytes that are read ahead.
use Rattle.std.proofs.Common.{◌≡◌, ℕ, ◌+◌, ◌-◌, ◌≤◌, List, ◌++◌, length, take, drop, sym, ◌∙◌, ap, arith}
use Rattle.std.proofs.lemmas.List.{drop-take, drop-drop, take-take, take-append-le, take_all}

-- n bytes of a stretch that stands at one offset of a file stand at another
pub stretch_part : (file stretch : List ℕ) (start len k n : ℕ) → take len stretch ≡ take len (drop start file) → k + n ≤ len
    → take n (drop k stretch) ≡ take n (drop (start + k) file)
stretch_part file stretch start len k n same within =
    let m = len - k in
    let e : len ≡ k + m = omega arith in
    let part : (xs : List ℕ) → take n (drop k xs) ≡ take n (drop k (take len xs)) = λ xs.
    sym (take-take n m (drop k xs) (omega arith)) ∙ ap (take n) (sym (drop-take k m xs)) ∙ ap (λ (j : ℕ). take n (drop k (take j xs))) (sym e) in
    part stretch ∙ ap (λ (xs : List ℕ). take n (drop k xs)) same ∙ sym (part (drop start file)) ∙ ap (take n) (drop-drop k start file)

-- so n bytes of it that are copied are bytes of the file
pub copied : (file stretch xs rest : List ℕ) (start len at k n : ℕ) → take len stretch ≡ take len (drop start file) → start + k ≡ at → k + n ≤ len
    → length xs ≡ n → xs ≡ take n (drop k stretch) → take n (xs ++ rest) ≡ take n (drop at file)
copied file stretch xs rest start len at k n same place within long is =
    take-append-le n xs rest (omega arith)
    ∙ take_all n xs (omega arith)
    ∙ is
    ∙ stretch_part file stretch start len k n same within
    ∙ ap (λ (j : ℕ). take n (drop j file)) place
