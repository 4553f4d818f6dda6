-- Begins that are summed up as they go are those of the padded slabs before.
use Rattle.nc_file.proofs.Prelude.{◌≡◌, ℕ, ◌+◌, ◌-◌, ◌^◌, ◌≤◌, min, Ok, Err, Bool, true, false, ◌&&◌, List, [], ◌∷◌, ◌++◌, length, refl, sym, ◌∙◌, ap, arith, if◌then◌else◌, rules, list_all, le-ltb, Dim, Var, Header, Version, padded_total, record_vars, offset_limit, header_spelling, fixed_vars, begin_after, is_record_var, vars_with_begins, with_begins, fits, after, is_below, offset_of, placed}
use Rattle.nc_base.proofs.FilePlaces.{fixed_total, fixed-push, padded_total-append}
use Rattle.nc_window.proofs.Totals.{total_of-append}
use Rattle.nc_file.specs.declared.write.begins.NextBegins.{NextBegins}

-- ---- the offsets after these variables, where the header has this number of bytes

abbrev pub offsets_after : Header → ℕ → List Var → NextBegins
offsets_after h head before = record {
  fixed_begin = head + fixed_total h.dims before;
  record_begin = head + (fixed_total h.dims h.vars + padded_total h.dims (record_vars h.dims before));
}

same-offsets : (a b c d : ℕ) → a ≡ c → b ≡ d → let left : NextBegins = record { fixed_begin = a; record_begin = b } in let right : NextBegins = record { fixed_begin = c; record_begin = d } in left ≡ right
same-offsets a b c d e f =
    ap (λ (n : ℕ). let next : NextBegins = record { fixed_begin = n; record_begin = b } in next) e ∙ ap (λ (n : ℕ). let next : NextBegins = record { fixed_begin = c; record_begin = n } in next) f

-- one variable more
after-push : (h : Header) (head : ℕ) (before : List Var) (var : Var) → after h.dims (offsets_after h head before) var ≡ offsets_after h head (before ++ var ∷ [])
after-push h head before var = search (rules, fixed-push, total_of-append, same-offsets)

offset-begin : (h : Header) (before : List Var) (var : Var) → offset_of h.dims (offsets_after h (length (header_spelling h)) before) var ≡ begin_after h before var
offset-begin h before var = by (is_record_var h.dims var)
  where
    by : (b : Bool) → (if b then length (header_spelling h) + (fixed_total h.dims h.vars + padded_total h.dims (record_vars h.dims before)) else length (header_spelling h) + fixed_total h.dims before)
        ≡ length (header_spelling h) + padded_total h.dims (if b then fixed_vars h.dims h.vars ++ record_vars h.dims before else fixed_vars h.dims before)
    by true = ap (λ (n : ℕ). length (header_spelling h) + n) (sym (padded_total-append h.dims (fixed_vars h.dims h.vars) (record_vars h.dims before)))
    by false = refl

placed-after : (h : Header) (before vars : List Var) → placed h.dims (offsets_after h (length (header_spelling h)) before) vars ≡ vars_with_begins h before vars
placed-after h before [] = refl
placed-after h before (var ∷ vars) =
    let head : ℕ = length (header_spelling h) in
    ap (λ (n : ℕ). record var { begin_at = n } ∷ placed h.dims (after h.dims (offsets_after h head before) var) vars) (offset-begin h before var)
    ∙ ap (λ (next : NextBegins). record var { begin_at = begin_after h before var } ∷ placed h.dims next vars) (after-push h head before var)
    ∙ ap (λ (vs : List Var). record var { begin_at = begin_after h before var } ∷ vs) (placed-after h (before ++ var ∷ []) vars)

-- ---- from the first variable on

-- the first offsets, where the header has this number of bytes
abbrev pub first_offsets : Header → ℕ → NextBegins
first_offsets h head = record { fixed_begin = head; record_begin = head + fixed_total h.dims h.vars }

first-after : (h : Header) (head : ℕ) → first_offsets h head ≡ offsets_after h head []
first-after h head = same-offsets _ _ _ _ (omega arith) (omega arith)

placed-whole : (h : Header) → placed h.dims (first_offsets h (length (header_spelling h))) h.vars ≡ (with_begins h).vars
unfolding with_begins
placed-whole h = ap (λ (next : NextBegins). placed h.dims next h.vars) (first-after h (length (header_spelling h))) ∙ placed-after h [] h.vars

-- ---- headers longer than the greatest u64

limit-le : (v : Version) → offset_limit v ≤ 2 ^ 63
limit-le v = grind arith

not-first : (a b : Bool) → a ≡ false → (a && b) ≡ false
not-first a b h = grind arith

picked-le : (b : Bool) (m n k : ℕ) → k ≤ m → k ≤ n → k ≤ (if b then m else n)
picked-le b m n k h h2 = grind arith

not-both : true ≡ false → ⊥
not-both e = cc

-- the first begin doesn't fit then, wherever the sum starts
late-placed : (h : Header) (start : ℕ) (var : Var) (vars : List Var) → 2 ^ 63 ≤ start
    → list_all (is_below (offset_limit h.version)) (placed h.dims (first_offsets h start) (var ∷ vars)) ≡ false
late-placed h start var vars late = search (rules, picked-le, not-first, le-ltb, limit-le)

late-after : (h : Header) (var : Var) (vars : List Var) → 2 ^ 63 ≤ length (header_spelling h)
    → list_all (is_below (offset_limit h.version)) (vars_with_begins h [] (var ∷ vars)) ≡ false
late-after h var vars late = search (rules, not-first, le-ltb, limit-le)

late-answer : (h : Header) (start : ℕ) (vars : List Var) → 2 ^ 63 ≤ start → 2 ^ 63 ≤ length (header_spelling h)
    → list_all (is_below (offset_limit h.version)) (placed h.dims (first_offsets h start) vars) ≡ list_all (is_below (offset_limit h.version)) (vars_with_begins h [] vars)
late-answer h start [] late long = refl
late-answer h start (var ∷ vars) late long = late-placed h start var vars late ∙ sym (late-after h var vars long)

late-begins : (h : Header) (start : ℕ) (vars : List Var) → 2 ^ 63 ≤ length (header_spelling h)
    → list_all (is_below (offset_limit h.version)) (vars_with_begins h [] vars) ≡ true → placed h.dims (first_offsets h start) vars ≡ vars_with_begins h [] vars
late-begins h start [] long e = refl
late-begins h start (var ∷ vars) long e = absurd (not-both (sym e ∙ late-after h var vars long))

-- ---- variables that are placed tell whether the begins of a header fit, and what they are
pub record ArePlaced (h : Header) (vars : List Var) : Type 0 where
  pub answer : list_all (is_below (offset_limit h.version)) vars ≡ fits h
  pub begins : fits h ≡ true → vars ≡ (with_begins h).vars

placed-late : (h : Header) (start : ℕ) → 2 ^ 63 ≤ start → 2 ^ 63 ≤ length (header_spelling h) → ArePlaced h (placed h.dims (first_offsets h start) h.vars)
unfolding with_begins
placed-late h start late long = record { answer = late-answer h start h.vars late long; begins = late-begins h start h.vars long }

placed-exact : (h : Header) → ArePlaced h (placed h.dims (first_offsets h (length (header_spelling h))) h.vars)
placed-exact h = record { answer = ap (list_all (is_below (offset_limit h.version))) (placed-whole h); begins = λ e. placed-whole h }

pub placed-capped : (h : Header) (start : ℕ) → start ≡ min (length (header_spelling h)) (2 ^ 64 - 1) → ArePlaced h (placed h.dims (first_offsets h start) h.vars)
placed-capped h start e = grind (arith, placed h.dims, placed-exact h, placed-late h start)

-- the same of what the function sees: copies of the header's parts
pub placed-as-seen : (h : Header) (dims dims' : List Dim) (vars vars' : List Var) (start total limit : ℕ)
    → dims ≡ h.dims → dims' ≡ h.dims → vars ≡ h.vars → vars' ≡ h.vars
    → start ≡ min (length (header_spelling h)) (2 ^ 64 - 1) → total ≡ padded_total dims (fixed_vars dims vars) → limit ≡ offset_limit h.version
    → (let first : NextBegins = record { fixed_begin = start; record_begin = start + total } in
    (list_all (is_below limit) (placed dims' first vars') ≡ fits h) × (fits h ≡ true → placed dims' first vars' ≡ (with_begins h).vars))
placed-as-seen h dims dims' vars vars' start total limit d d' v v' head size bound =
    let total_is : total ≡ fixed_total h.dims h.vars =
    size ∙ ap (λ (ds : List Dim). padded_total ds (fixed_vars ds vars)) d ∙ ap (λ (vs : List Var). padded_total h.dims (fixed_vars h.dims vs)) v in
    let first : NextBegins = record { fixed_begin = start; record_begin = start + total } in
    let first_is : first ≡ first_offsets h start = same-offsets _ _ _ _ refl (ap (λ (n : ℕ). start + n) total_is) in
    let same : placed dims' first vars' ≡ placed h.dims (first_offsets h start) h.vars =
    ap (λ (ds : List Dim). placed ds first vars') d' ∙ ap (placed h.dims first) v' ∙ ap (λ (next : NextBegins). placed h.dims next h.vars) first_is in
    let are = placed-capped h start head in (
      ap (list_all (is_below limit)) same ∙ ap (λ (n : ℕ). list_all (is_below n) (placed h.dims (first_offsets h start) h.vars)) bound ∙ are.answer,
      λ e. same ∙ are.begins e,
    )

pub header-placed : (h : Header) (vars : List Var) → vars ≡ (with_begins h).vars
    → let k : Header = record { version = h.version; numrecs = h.numrecs; dims = h.dims; gatts = h.gatts; vars = vars } in k ≡ with_begins h
unfolding with_begins
header-placed h vars e = ap (λ (vs : List Var). let k : Header = record h { vars = vs } in k) e

-- ---- the answer

pub is_ok : {E : Type 0} (b : Bool) (h k : Header) (error : E) → b ≡ true → h ≡ k → Ok h ≡ (if b then Ok k else Err error)
is_ok true h k error e same = ap Ok same
is_ok false h k error e same = absurd (not-both (sym e))

pub is_err : {E : Type 0} (b : Bool) (k : Header) (error : E) → b ≡ false → Err error ≡ (if b then Ok k else Err error)
is_err b k error h = grind (arith, not-both)
