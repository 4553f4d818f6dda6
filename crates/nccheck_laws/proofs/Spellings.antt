-- What is found about the spelling at whole fields: that of what fills one up a byte isn't 0, and that a list has its own tag and no elements.
use Rattle.nccheck_laws.proofs.Prelude.{list_any-append, nat_tests, ltb-false, Header, FormatFault, Bytes, Step, Padding, Tag, Vsize, Item, Content, Entry, FieldKind, Owner, Field, seen_by, steps_of, field_steps, owner_steps, whole_content, seen, bytes_of, number_of, IsWritten, IsWrittenVsize, AreWritten, Fact, Finding, Indexed, field_at, indexed_from, indexed, finding, each_before, ahead_of, finding_by_kind, attribute_finding, is_first, facts_with, field_findings, attribute_findings, floating_findings, name_findings, header_findings, is_of_spelling, has_any, is_field, next_number, number_at, empty_list, has_nonzero, then_some, IsWrittenTag, ◌≡◌, ℕ, ◌+◌, ◌==◌, ◌&&◌, ◌||◌, not, Bool, false, List, [], ◌∷◌, ◌++◌, length, map, replicate, Option, None, refl, ap, ◌∙◌, arith, length-take-le, if◌then◌else◌, option_to_list, common_steps}
use Rattle.nc_findings.specs.declared.entry.Content.TheVariants as content
use Rattle.nccheck_laws.proofs.QuietRules.{names-fail}
use Rattle.nccheck_laws.proofs.Vsizes.{IsWhole, AreWhole}

-- one of these findings is about the spelling
abbrev pub any_spelling : List Finding → Bool
any_spelling findings = has_any is_of_spelling findings

-- ---- entries of whole fields

-- an entry that shows this field
pub record IsOf (e : Entry) (f : Field) : Type 0 where
  pub steps : steps_of e.place ≡ f.steps
  pub content : e.content ≡ whole_content (steps_of e.place) f.size f.start
  pub sound : e.fault ≡ None

pub data AreOf : List Entry → List Field → Type 0 where
  none : AreOf [] []
  more : {e : Entry} {f : Field} {es : List Entry} {fs : List Field} → IsOf e f → AreOf es fs → AreOf (e ∷ es) (f ∷ fs)

pub are-of : (len : ℕ) (es : List Entry) (fs : List Field) → map seen_by es ≡ map (seen len) fs → AreWhole fs → AreOf es fs
unfolding seen
are-of len [] [] same whole = none
are-of len [] (f ∷ fs) same whole = absurd cc
are-of len (e ∷ es) [] same whole = absurd cc
are-of len (e ∷ es) (f ∷ fs) same whole = more (grind arith) (are-of len es fs (cc) whole.1)

-- ---- what is odd

-- a byte of what fills a field up isn't 0
abbrev pub odd_padding : List Step → Field → Bool
odd_padding (Padding ∷ steps) f = has_nonzero (bytes_of f)
odd_padding steps f = false

-- before the number of a list's elements: they are none, and the list's tag isn't 0
abbrev pub odd_count : ℕ → Content → Bool
odd_count tag (content.Number n) = not (tag == 0) && (n == 0)
odd_count tag c = false

abbrev pub odd_tag : ℕ → List Field → Bool
odd_tag tag [] = false
odd_tag tag (f ∷ after) = odd_count tag (whole_content f.steps f.size f.start)

abbrev pub odd_list : List Step → Field → List Field → Bool
odd_list (Tag ∷ steps) f after = odd_tag (number_of f) after
odd_list steps f after = false

abbrev pub any_odd : List Field → Bool
any_odd [] = false
any_odd (f ∷ after) = odd_padding f.steps f || odd_list f.steps f after || any_odd after

-- ---- what is found at a field

fact-none : (g : Indexed) (b : Bool) (x : Fact) (others : List Fact) → is_of_spelling x ≡ false
    → any_spelling (map (finding g) (option_to_list (then_some b x) ++ others)) ≡ any_spelling (map (finding g) others)
fact-none g v1 x others is = grind arith

found-odd : (start : Bytes) (place : FieldKind) (o : Owner) (size : ℕ) (g : Indexed) (f : Field) (fault : Option FormatFault) (c : Content) → fault ≡ None
    → c ≡ whole_content (field_steps place ++ owner_steps o) f.size f.start
    → any_spelling (map (finding g) (facts_with start fault place size c)) ≡ odd_padding (field_steps place ++ owner_steps o) f
found-odd start place o size g f fault c sound is = rw (sound, is) (grind (arith, fact-none))

choice-none : (b : Bool) (o : Option Finding) → any_spelling (option_to_list o) ≡ false
    → any_spelling (option_to_list (if b then o else None)) ≡ false
choice-none v0 o is = grind arith

count-odd : (tag : ℕ) (g : Indexed) (i : ℕ) (e : Entry)
    → any_spelling (option_to_list (empty_list g (content.Number tag) (number_at (field_at i e)))) ≡ odd_count tag e.content
count-odd tag g i e = grind arith

tag-odd : (tag : ℕ) (g : Indexed) (k : ℕ) {es : List Entry} {fs : List Field} → AreOf es fs
    → any_spelling (option_to_list (empty_list g (content.Number tag) (next_number is_field (indexed_from k es)))) ≡ odd_tag tag fs
tag-odd tag g k none = refl
tag-odd tag g k (more {e = e} {f = f} is rest) = grind (arith, common_steps, count-odd)

list-odd : (first : Bool) (place : FieldKind) (o : Owner) (g : Indexed) (k : ℕ) (es : List Entry) (f : Field) (fs : List Field)
    → AreOf es fs → g.entry.content ≡ whole_content (field_steps place ++ owner_steps o) f.size f.start
    → any_spelling (option_to_list (finding_by_kind first place g (ahead_of (indexed_from k es))))
    ≡ odd_list (field_steps place ++ owner_steps o) f fs
list-odd first place o g k es f fs are is = grind (arith, tag-odd, choice-none)

-- ---- what is found at all of them

fields-odd : (start : Bytes) (all : List Indexed) (k : ℕ) {es : List Entry} {fs : List Field} → AreOf es fs
    → (any_spelling (field_findings start (indexed_from k es)) || any_spelling (each_before (attribute_finding all) (indexed_from k es)))
    ≡ any_odd fs
unfolding field_findings
fields-odd start all k none = refl
fields-odd start all k (more {e = e} {f = f} {es = es} {fs = fs} is rest) =
    let g = field_at k e in
    let alone = found-odd start e.place.field e.place.owner e.size g f e.fault e.content is.sound is.content
    ∙ ap (λ steps. odd_padding steps f) is.steps in
    let lists = list-odd (is_first all g) e.place.field e.place.owner g (k + 1) es f fs rest is.content
    ∙ ap (λ steps. odd_list steps f fs) is.steps in
    grind (arith, list_any-append, fields-odd start all (k + 1) rest)

pub header-odd : (start : Bytes) (es : List Entry) (fs : List Field) → AreOf es fs → any_spelling (header_findings start es) ≡ any_odd fs
unfolding header_findings floating_findings name_findings attribute_findings
header-odd start es fs are = grind (arith, list_any-append, fields-odd start (indexed es) 0 are, names-fail is_of_spelling (λ n. refl) [] (indexed es))

-- ---- fields that are as they are written

abbrev pub IsSized : Header → List Step → Field → Type 0
IsSized h (Vsize ∷ Item i ∷ steps) f = IsWrittenVsize h i (number_of f)
IsSized h steps f = Unit {0}

-- each size of a variable among these fields is the one that is written for it
abbrev pub AreSized : Header → List Field → Type 0
AreSized h [] = Unit {0}
AreSized h (f ∷ fs) = IsSized h f.steps f × AreSized h fs

all-zeros : (bs : Bytes) → has_nonzero bs ≡ false → bs ≡ replicate (length bs) 0
all-zeros [] e = refl
all-zeros (b ∷ bs) e = grind (arith, common_steps, nat_tests, all-zeros bs (grind arith))

tag-written : (tag : ℕ) (fs : List Field) → odd_tag tag fs ≡ false → IsWrittenTag tag fs
tag-written tag v1 e = grind arith

is-written : (h : Header) (steps : List Step) (f : Field) (fs : List Field) → IsWhole f → odd_padding steps f ≡ false
    → odd_list steps f fs ≡ false → IsSized h steps f → IsWritten h steps f fs
is-written h (Padding ∷ steps) f fs w zeros list sized =
    all-zeros (bytes_of f) zeros ∙ ap (λ n. replicate n 0) (length-take-le f.size f.start (ltb-false _ _ w.whole))
is-written h (Tag ∷ steps) f fs w zeros list sized = tag-written (number_of f) fs list
is-written h (Vsize ∷ Item i ∷ steps) f fs w zeros list sized = sized
is-written h steps f fs w zeros list sized = tt

neither : (a b c : Bool) → (a || b || c) ≡ false → (a ≡ false) × (b ≡ false) × (c ≡ false)
neither v0 v1 v2 e = (grind arith, grind arith, grind arith)

pub are-written : (h : Header) (fs : List Field) → AreWhole fs → any_odd fs ≡ false → AreSized h fs → AreWritten h fs
are-written h [] whole even sized = tt
are-written h (f ∷ fs) whole even sized =
    let parts = neither (odd_padding f.steps f) (odd_list f.steps f fs) (any_odd fs) even in
    (is-written h f.steps f fs whole.0 parts.0 parts.1 sized.0, are-written h fs whole.1 parts.2 sized.1)
