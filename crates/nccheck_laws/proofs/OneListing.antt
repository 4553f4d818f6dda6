-- Each list of bytes has one listing.
use Rattle.nccheck_laws.proofs.Prelude.{Header, FormatFault, Bytes, Step, header_by, Outcome, run, reads, start_of, stops, Entry, Listing, Field, fields, seen_by, seen, lenient, IsOutcome, with_rest, left_after, Tells, tells, shorter, IsListing, ◌≡◌, ℕ, ◌-◌, List, [], ◌∷◌, length, map, Result, Ok, Err, refl, sym, ap, ap₂, ◌∙◌, arith}
use Rattle.nccheck_laws.proofs.FieldPlaces.{ArePlaced, placed-header}

-- ---- entries

-- the steps to a field tell its place, so what the rules look at in a field tells its entry
seen-told : (d e : Entry) → seen_by d ≡ seen_by e → d ≡ e
seen-told d e is = grind arith

-- entries in which the same is seen are the same
entries-told : (ds es : List Entry) → map seen_by ds ≡ map seen_by es → ds ≡ es
entries-told [] [] is = refl
entries-told [] (e ∷ es) is = absurd cc
entries-told (d ∷ ds) [] is = absurd cc
entries-told (d ∷ ds) (e ∷ es) is =
    let first : seen_by d ≡ seen_by e = cc in
    let others : map seen_by ds ≡ map seen_by es = cc in
    ap₂ (λ x xs. x ∷ xs) (seen-told d e first) (entries-told ds es others)

-- what is seen in fields that have places
entries-of : (file_len : ℕ) (fs : List Field) → ArePlaced fs → (es : List Entry) × (map seen_by es ≡ map (seen file_len) fs)
unfolding seen
entries-of file_len [] p = ([], refl)
entries-of file_len (f ∷ fs) p =
    let s = seen file_len f in
    let e : Entry = record { place = p.0.0; offset = s.offset; size = s.size; content = s.content; fault = s.fault } in
    let first : seen_by e ≡ s =
    ap (λ (x : List Step). record { steps = x; offset = s.offset; size = s.size; content = s.content; fault = s.fault }) p.0.1 in
    let others = entries-of file_len fs p.1 in
    (e ∷ others.0, ap₂ (λ x xs. x ∷ xs) first others.1)

-- ---- outcomes

abbrev result_of : Outcome Header → Result Header FormatFault
result_of (Ok x) = Ok (x.0)
result_of (Err e) = Err (e.0)

abbrev rest_of : Outcome Header → Bytes
rest_of (Ok x) = x.1
rest_of (Err e) = e.1

is-outcome : (bytes : Bytes) (o : Outcome Header) → Tells (header_by lenient) bytes o → IsOutcome bytes (rest_of o) (result_of o)
is-outcome bytes v1 t = grind arith

rest-left : (o : Outcome Header) → left_after o ≡ length (rest_of o)
unfolding left_after
rest-left v0 = grind arith

outcome-told : (bytes rest : Bytes) (r : Result Header FormatFault) → IsOutcome bytes rest r
    → run (header_by lenient) bytes ≡ with_rest r rest
outcome-told bytes rest v2 is = grind (arith, reads, stops)

same-outcome : (r s : Result Header FormatFault) (rest more : Bytes) → with_rest r rest ≡ with_rest s more → (r ≡ s) × (rest ≡ more)
same-outcome v0 v1 rest more same = grind arith

-- ---- listings

pub listing_of : (bytes : Bytes) → (l : Listing) × IsListing bytes l
listing_of bytes =
    let o = run (header_by lenient) bytes in
    let e = entries-of (length bytes) (fields [] (header_by lenient) bytes) (placed-header bytes) in (
      record { entries = e.0; header = result_of o; start = start_of bytes; end = length bytes - length (rest_of o); file_len = length bytes },
      record {
        entries = e.1;
        rest = rest_of o;
        header = is-outcome bytes o (tells (header_by lenient) bytes);
        start = refl;
        end = omega (arith, shorter (header_by lenient) bytes, rest-left o);
        file_len = refl;
      },
    )

same-listing : (es ds : List Entry) (h g : Result Header FormatFault) (start begin : Bytes) (end other file_len more : ℕ) → es ≡ ds → h ≡ g → start ≡ begin → end ≡ other
    → file_len ≡ more
    → (let one : Listing = record { entries = es; header = h; start = start; end = end; file_len = file_len } in
    let two : Listing = record { entries = ds; header = g; start = begin; end = other; file_len = more } in
    one ≡ two)
same-listing es ds h g start begin end other file_len more entries headers starts ends lens = cc

-- two listings of the same bytes are the same
pub one-listing : (bytes : Bytes) (k l : Listing) → IsListing bytes k → IsListing bytes l → k ≡ l
one-listing bytes k l one two =
    let told = sym (outcome-told bytes one.rest k.header one.header) ∙ outcome-told bytes two.rest l.header two.header in
    let same = same-outcome k.header l.header one.rest two.rest told in
    same-listing k.entries l.entries k.header l.header k.start l.start k.end l.end k.file_len l.file_len
    (entries-told k.entries l.entries (one.entries ∙ sym two.entries)) same.0 (one.start ∙ sym two.start)
    (omega (arith, one.end, two.end, ap length same.1)) (one.file_len ∙ sym two.file_len)
