-- What a statement of the data section means is what its state lists.
use Rattle.cdl_values.proofs.Prelude.{flat_map, position_from, bytes_eq, length-drop, bytes_of_number, Dim, Version, values, completes, next, word_value, Lexeme, is_mark, Listed, first_bad, shape, CdlKind, Syntax, UnknownVariable, fine_on, State, Value, Draft, ValueForm, Fills, Suits, packed, takes_of, taken_type, values_listed, change_named, change_variable, with_values, act, data_read, bytes_assigned, target_of, target_at, unless_given, packed_for, unless_bad, AllSuit, names_of, HasListed, Means, begins_brace, ReadsStatement, result_array, GivesRead, ReadError, as_bytes, most, Target, ◌≡◌, ℕ, ℤ, suc, ◌≤◌, arith, Bool, true, false, List, [], ◌∷◌, ◌++◌, length, refl, ap, ◌∙◌, length-append, append_assoc, Option, None, Some, Result, Ok, Err, if◌then◌else◌, slice_get, drop, rules}
use Rattle.cdl_statements.specs.declared.due.Due.TheVariants as dues
use Rattle.cdl_statements.specs.declared.section.Section.TheVariants.{Values}
use Rattle.cdl_statements.proofs.Sections.{data_is}
use Rattle.cdl_statements.proofs.Readings.{checked, shaped}
use Rattle.nc_base.specs.declared.header.Var.{Var}
use Rattle.cdl_statements.specs.Meaning.{piece_read}
use Rattle.cdl_statements.specs.State.{◌>>=◌}
use Rattle.cdl_values.proofs.Counts.{all_taken, values_len}

-- the target of the first of these names that is this one
named : List (List ℕ) → List Target → List ℕ → Result Target CdlKind
named (n ∷ ns) (t ∷ ts) name = if bytes_eq n name then unless_given (Some t) else named ns ts name
named _ _ name = Err UnknownVariable

get_seam : (pre ts : List Target) (t : Target) → slice_get (pre ++ t ∷ ts) (length pre) ≡ Some t
get_seam [] ts t = refl
get_seam (p ∷ pre) ts t = get_seam pre ts t

found_from : (dims : List Dim) (pre ts : List Target) (ds : List Draft) (name : List ℕ) → AllSuit dims ts ds →
    target_at (pre ++ ts) (position_from (λ other. bytes_eq other name) (length pre) (names_of ds)) ≡ named (names_of ds) ts name
unfolding named
found_from dims pre [] [] name h = refl
found_from dims pre (t ∷ ts) (d ∷ ds) name h =
    grind (arith, get_seam pre ts t, append_assoc pre (t ∷ []) ts, length-append pre (t ∷ []), named, found_from dims (pre ++ t ∷ []) ts ds name h.1)
found_from dims pre _ _ name h = absurd h

-- one draft
listed_ty : (dims : List Dim) (var : Var) (f : ValueForm) → Fills f (takes_of dims var) → taken_type f ≡ var.ty
unfolding takes_of
listed_ty dims var f h = grind (arith, h)

one_listed : (d : Draft) (l : Result (List ℤ) CdlKind) (p : Result (List ℕ) CdlKind) → as_bytes d.var.ty l ≡ p →
    (name : List ℕ) (ds : List Draft) → bytes_eq d.var.name name ≡ true →
    HasListed name (d ∷ ds) p (l >>= (λ xs. Ok (record d { listed = Some xs })) >>= (λ e. Ok (e ∷ ds)))
one_listed d (Ok xs) (Ok bs) is name ds same = (xs, rw (same) (let e : flat_map (bytes_of_number d.var.ty) xs ≡ bs = cc in e), rw (same) refl)
one_listed d (Err e) (Err g) is name ds same = let f : e ≡ g = cc in ap Err f
one_listed d _ _ is name ds same = cc

-- the values of one draft
draft_taken : (dims : List Dim) (t : Target) (d : Draft) (xs : List Value) → Suits dims t d → length xs ≤ most → as_bytes d.var.ty (values_listed dims d.var xs) ≡ packed t.form t.capacity xs
draft_taken dims t d xs suits few = search (rules, all_taken, listed_ty)

at_target : (v : Version) (dims : List Dim) (ts : List Target) (ds : List Draft) (name : List ℕ) (ws : List Lexeme) → AllSuit dims ts ds → length (values v ws) ≤ most →
    HasListed name ds (packed_for v ws (named (names_of ds) ts name)) (change_named name (with_values dims (values v ws)) ds)
unfolding named
at_target v dims [] [] name ws h few = refl
at_target v dims (t ∷ ts) (d ∷ ds) name ws h few =
    search (rules, values, one_listed, draft_taken, named, at_target v dims ts ds name ws h.1 few)
at_target v dims _ _ name ws h few = absurd h

-- by its name
at_name : (v : Version) (dims : List Dim) (ts : List Target) (ds : List Draft) (name : List ℕ) (ws : List Lexeme) → AllSuit dims ts ds → length (values v ws) ≤ most →
    HasListed name ds (packed_for v ws (target_of (names_of ds) ts name)) (change_variable name (with_values dims (values v ws)) ds)
unfolding change_variable
at_name v dims ts ds name ws h few = grind (arith, values v ws, found_from dims [] ts ds name h, at_target v dims ts ds name ws h few)

acted : (s : State) (name : List ℕ) (p : Result (List ℕ) CdlKind) (after : Result (List Draft) CdlKind) → HasListed name s.drafts p after → (v : Version) (l : Lexeme) (ls : List Lexeme) → word_value l.bytes ≡ name →
    piece_read v s (l ∷ ls) ≡ (after >>= (λ ds. Ok (record s { drafts = ds }))) → Means v s (l ∷ ls) p
acted s name p after h v l ls h2 h3 = grind arith

completes_first : (l : Lexeme) (ls : List Lexeme) → is_mark 0x7d l ≡ false → completes (dues.First Values) (l ∷ ls) ≡ completes dues.DataName (l ∷ ls)
unfolding completes next
completes_first l ls off = rw (off) refl

said_is : (v : Version) (l : Lexeme) (ls : List Lexeme) → first_bad v ls ≡ None → is_mark 0x7d l ≡ false →
    shape v Values (l ∷ ls) ≡ (if completes dues.DataName (l ∷ ls) then Some (Listed (word_value l.bytes) (values v (drop 1 ls))) else None)
said_is v l ls good off = grind (arith, data_is v l ls good, values v (drop 1 ls), completes_first l ls off)

pub data_means : (v : Version) (s : State) (ts : List Target) (ws : List Lexeme) → s.section ≡ Values → AllSuit s.dims ts s.drafts → begins_brace ws ≡ false → length ws ≤ most → Means v s ws (data_read v (names_of s.drafts) ts ws)
unfolding piece_read data_read completes shape act
data_means v s ts [] section suit off few = refl
data_means v s ts (l ∷ ls) section suit off few = by (first_bad v (l ∷ ls)) refl
  where
    ws : List Lexeme
    ws = l ∷ ls

    name : List ℕ
    name = word_value l.bytes

    fewer : length (values v (drop 1 ls)) ≤ most
    fewer =
        let a = values_len v (drop 1 ls) in
        let b = length-drop 1 ls in
        let c : suc (length ls) ≤ most = few in
        omega (arith, a, b, c)

    all : Result (List Draft) CdlKind
    all = change_variable name (with_values s.dims (values v (drop 1 ls))) s.drafts

    read : first_bad v ws ≡ None → piece_read v s ws ≡ shaped v s (shape v Values ws)
    read good = ap (λ b. checked v s b ws) good ∙ ap (λ section. shaped v s (shape v section ws)) section

    by_shape : first_bad v ws ≡ None → (b : Bool) → completes dues.DataName ws ≡ b → Means v s ws (if b then bytes_assigned v (names_of s.drafts) ts ws else Err Syntax)
    by_shape good true on = acted s name (packed_for v (drop 1 ls) (target_of (names_of s.drafts) ts name)) all (at_name v s.dims ts s.drafts name (drop 1 ls) suit fewer) v l ls refl
        (read good ∙ ap (shaped v s) (said_is v l ls (fine_on v l ls good) off ∙ ap (λ b. if b then Some (Listed name (values v (drop 1 ls))) else None) on))
    by_shape good false not_so = read good ∙ ap (shaped v s) (said_is v l ls (fine_on v l ls good) off ∙ ap (λ b. if b then Some (Listed name (values v (drop 1 ls))) else None) not_so)

    by : (bad : Option CdlKind) → first_bad v ws ≡ bad → Means v s ws (unless_bad bad (if completes dues.DataName ws then bytes_assigned v (names_of s.drafts) ts ws else Err Syntax))
    by (Some k) is = ap (λ b. checked v s b ws) is
    by None is = by_shape is (completes dues.DataName ws) refl

-- what a call answers
pub reads_statement : {G : Type 0} (view : G → List ℕ) (result : Result G (ReadError)) (v : Version) (s : State) (ts : List Target) (ws : List Lexeme) → s.section ≡ Values → AllSuit s.dims ts s.drafts → begins_brace ws ≡ false → length ws ≤ most →
    GivesRead view result (data_read v (names_of s.drafts) ts ws) → ReadsStatement v s ws (result_array view result)
reads_statement {G} view result v s ts ws section suit off few = search (rules, data_read, data_means)
