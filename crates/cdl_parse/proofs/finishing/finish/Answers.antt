use Rattle.cdl_parse.proofs.Prelude.{◌≡◌, ℕ, All, Bool, SomeIff, true, false, List, [], ◌∷◌, map, refl, sym, ap, ◌∙◌, ◌&&◌, if◌then◌else◌, Option, None, Some, Ok, arith, rules, list_all, All-head, All-tail, Att, Dim, Header, Known, Var, Version, array_of, dataset_of, finished, has_small_array, header_of, is_within_limits, are_within_limits, records_in, AllList, AreShaped, records_kept, whole_array, whole_arrays, Draft, State, dataset_of_declared, if_sound, le-leb, or_too_large, Declared, IsSound, IsSoundVar}
use Rattle.std.proofs.lemmas.Grind.{flat_map-append}
use Rattle.cdl_statements.specs.SoundHeaders.{is_sound}
use Rattle.cdl_statements.proofs.SoundTests.{sound_is_tested}
use Rattle.cdl_tokens.proofs.Words.{and_false}
use Rattle.cdl_parse.proofs.SizeLimits.{all_are, listed_count, listed_of, var_of}
use Rattle.cdl_parse.proofs.finishing.finish.Goals as goal

-- What a text declares is the dataset that it means.

-- ---- sound headers

-- what the code gives for a sound header alone
given_if_sound : (given : Option Declared) (h : Header) (listed : List (List ℕ)) → SomeIff given (IsSound h) (record { header = h; listed = listed }) → given ≡ if_sound h listed
given_if_sound given h listed is = grind (arith, sound_is_tested h)

-- where the header is sound, each slab keeps its limit, and the arrays decide
slabs_small : (v : Version) (dims : List Dim) (n : ℕ) (drafts : List Draft) → All (IsSoundVar v dims) (map var_of drafts) → list_all (is_within_limits dims n) drafts ≡ list_all (has_small_array dims n) drafts
slabs_small v dims n [] sound = refl
slabs_small v dims n (d ∷ drafts) sound =
    let slab = le-leb _ _ (All-head (IsSoundVar v dims) d.var (map var_of drafts) sound).slab in
    rw (slab) (ap (λ b. has_small_array dims n d && b) (slabs_small v dims n drafts (All-tail (IsSoundVar v dims) d.var (map var_of drafts) sound)))

-- ---- the arrays

whole_is : (dims : List Dim) (n : ℕ) (d : Draft) → array_of dims n d ≡ whole_array dims n d.var (listed_of d)
whole_is dims n d = grind (arith, listed_count d, flat_map-append)

all_whole : (dims : List Dim) (n : ℕ) (drafts : List Draft) → map (array_of dims n) drafts ≡ whole_arrays dims n (map var_of drafts) (map listed_of drafts)
all_whole dims n [] = refl
all_whole dims n (d ∷ drafts) = ap (λ a. a ∷ map (array_of dims n) drafts) (whole_is dims n d) ∙ ap (λ rest. whole_array dims n d.var (listed_of d) ∷ rest) (all_whole dims n drafts)

abbrev declared : Version → State → Declared
declared v s = record { header = header_of v s; listed = map listed_of s.drafts }

dataset_is : (v : Version) (s : State) → dataset_of v s ≡ dataset_of_declared (declared v s)
dataset_is v s = ap (λ arrays. record { header = header_of v s; arrays = arrays }) (all_whole s.dims (records_in s.dims s.drafts) s.drafts)

-- ---- the answers

answer : (v : Version) (s : State) (line : ℕ) (enough : Bool) → are_within_limits v s ≡ enough → finished v line (Ok s) ≡ or_too_large line (if enough then Some (declared v s) else None)
unfolding finished
answer v s line true is = rw (is) (ap Ok (dataset_is v s))
answer v s line false is = rw (is) refl

enough_is : (v : Version) (s : State) (small : Bool) → list_all (is_within_limits s.dims (records_in s.dims s.drafts)) s.drafts ≡ small → are_within_limits v s ≡ (small && is_sound (header_of v s))
unfolding are_within_limits
enough_is v s small is = by (is_sound (header_of v s)) refl
  where
    by : (sound : Bool) → is_sound (header_of v s) ≡ sound → are_within_limits v s ≡ (small && sound)
    by true a = rw (a) (sym (slabs_small v s.dims (records_in s.dims s.drafts) s.drafts ((sound_is_tested (header_of v s)).0 a).vars) ∙ is ∙ grind arith)
    by false a = rw (a) (sym (and_false small))

some_of : {A : Type 0} (b : Bool) (n m : A) → (if b then Some n else None) ≡ Some m → (b ≡ true) × (n ≡ m)
some_of b n m h = grind arith

none_of : {A : Type 0} (b : Bool) (n : A) → (if b then Some n else None) ≡ None → b ≡ false
none_of b n h = grind arith

-- no number of records is kept
array_too_large : (v : Version) (s : State) (line : ℕ) → records_kept s.dims s.drafts ≡ None → finished v line (Ok s) ≡ or_too_large line None
array_too_large v s line none =
    answer v s line false (enough_is v s false (none_of (list_all (is_within_limits s.dims (records_in s.dims s.drafts)) s.drafts) (records_in s.dims s.drafts) none))

-- the header that these make
abbrev header_with : Version → ℕ → State → Header
header_with v n s = record { version = v; numrecs = Known n; dims = s.dims; gatts = s.gatts; vars = map var_of s.drafts }

-- ---- by what the code has

kept_at : (ds dims : List Dim) (vs vars : List Var) (ls listed : List (List ℕ)) (s : State) (r : Option ℕ) → ds ≡ dims → vs ≡ vars → ls ≡ listed → s.dims ≡ dims → AllList vars listed s.drafts → AreShaped dims s.drafts →
    ((drafts : List Draft) → AllList vs ls drafts → AreShaped ds drafts → r ≡ records_kept ds drafts) → records_kept s.dims s.drafts ≡ r
kept_at ds dims vs vars ls listed s r a b c is lists shaped h = search rules

header_at : (v : Version) (n : ℕ) (s : State) (dims : List Dim) (gatts : List Att) (vars : List Var) (listed : List (List ℕ)) → s.dims ≡ dims → s.gatts ≡ gatts → AllList vars listed s.drafts →
    header_with v n s ≡ record { version = v; numrecs = Known n; dims = dims; gatts = gatts; vars = vars }
header_at v n s dims gatts vars listed is att-is lists = search (rules, all_are)

finished_as : (v : Version) (s : State) (line n : ℕ) → records_kept s.dims s.drafts ≡ Some n → finished v line (Ok s) ≡ or_too_large line (if_sound (header_with v n s) (map listed_of s.drafts))
finished_as v s line n kept =
    let some = some_of (list_all (is_within_limits s.dims (records_in s.dims s.drafts)) s.drafts) (records_in s.dims s.drafts) n kept in
    answer v s line (is_sound (header_of v s)) (enough_is v s true some.0) ∙ ap (λ m. or_too_large line (if_sound (header_with v m s) (map listed_of s.drafts))) some.1

-- ---- the goals

pub returns-in_err-records-clause-declares : goal.returns-in_err-records-clause-declares
returns-in_err-records-clause-declares c = λ s is att-is lists shaped line.
    let a = c.args in
    let none : c.records_within_limits.result ≡ None = search rules in
    let gives : c.from_residual.result ≡ None = search rules in
    array_too_large a.version s line
    (kept_at c.as_slice.result.now a.dims c.as_slice-2.result.now a.vars c.as_slice-3.result.now a.listed.items s c.records_within_limits.result c.as_slice.ensures c.as_slice-2.ensures c.as_slice-3.ensures.value is lists shaped c.records_within_limits.ensures ∙ none) ∙
    ap (or_too_large line) (sym gives)

pub returns-clause-declares : goal.returns-clause-declares
returns-clause-declares c = λ s is att-is lists shaped line.
    let a = c.args in
    let n = c.in_ok-records.records in
    let kept : c.records_within_limits.result ≡ Some n = search rules in
    let same = header_at a.version n s a.dims a.gatts a.vars a.listed.items is att-is lists in
    finished_as a.version s line n
    (kept_at c.as_slice.result.now a.dims c.as_slice-2.result.now a.vars c.as_slice-3.result.now a.listed.items s c.records_within_limits.result c.as_slice.ensures c.as_slice-2.ensures c.as_slice-3.ensures.value is lists shaped c.records_within_limits.ensures ∙ kept) ∙
    ap (λ (h : Header). or_too_large line (if_sound h (map listed_of s.drafts))) same ∙
    ap (λ (ls : List (List ℕ)). or_too_large line (if_sound (record { version = a.version; numrecs = Known n; dims = a.dims; gatts = a.gatts; vars = a.vars }) ls))
    (sym (all_are a.vars a.listed.items s.drafts lists).1) ∙
    ap (or_too_large line) (sym (given_if_sound c.declared_if_sound.result _ a.listed.items c.declared_if_sound.ensures))
