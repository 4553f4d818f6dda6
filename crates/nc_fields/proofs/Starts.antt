-- The start of a file that isn't netCDF: the letters that are listed, and the bytes that follow them.
use Rattle.nc_fields.proofs.Prelude.{Bytes, Entry, Field, FormatFault, Header, Listing, Magic, NotNetcdf, Option, Part, Seen, Some, Step, bytes_eq, chain, fields, first, header_by, length-drop, length-take, lenient, magic_part, run, run-chain, run-under, seen, seen_by, under, ◌≡◌, ℕ, ◌+◌, ◌==◌, Bool, true, false, if◌then◌else◌, List, [], ◌∷◌, ◌++◌, length, map, take, drop, nat_lt, Result, Err, refl, sym, ap, ◌∙◌, arith, codes}
use Rattle.std.proofs.Common.{◌&&◌, not}
use Rattle.std.proofs.Math.Seq.{take-add}
use Rattle.std.proofs.lemmas.Bool.Decides.{nat_tests}
use Rattle.nc_base.proofs.PartOutcomes.{reads, stops}
use Rattle.nc_fields.specs.Listings.{IsOutcome, start_of}
use Rattle.nc_fields.specs.code.Starts.{bytes_of, letters_of, start_after}
use Rattle.nc_fields.proofs.Checks.{fault_in}
use Rattle.nc_fields.proofs.Letters.{letters_part, letters-content, letters-field, letters-run}

-- ---- the letters are listed first

first-append : (fs more : List Field) (f : Field) → first fs ≡ Some f → first (fs ++ more) ≡ Some f
first-append v0 more f is = grind arith

chain-first : {A B : Type 0} (get : B → Option A) (p : Part A) (next : A → Part B) (steps : List Step) (from : Bytes) (f : Field)
    → first (fields steps p from) ≡ Some f → first (fields steps (chain get p next) from) ≡ Some f
unfolding fields
chain-first get p next steps from f is = grind (arith, first-append)

abbrev letters_field : Bytes → Field
letters_field bytes = record { steps = Magic ∷ []; start = bytes; size = 3; fault = fault_in (run letters_part bytes) }

letters-first : (bytes : Bytes) → first (fields [] (under Magic letters_part) bytes) ≡ Some (letters_field bytes)
unfolding fields
letters-first bytes = ap first (letters-field (Magic ∷ []) bytes)

header-first : (bytes : Bytes) → first (fields [] (header_by lenient) bytes) ≡ Some (letters_field bytes)
unfolding header_by magic_part
header-first bytes = chain-first _ _ _ [] bytes (letters_field bytes) (chain-first _ _ _ [] bytes (letters_field bytes) (letters-first bytes))

letters-kept : (len : ℕ) (bytes : Bytes) (es : List Entry) (fs : List Field) → map seen_by es ≡ map (seen len) fs → first fs ≡ Some (letters_field bytes) → letters_of es ≡ take 3 bytes
unfolding seen
letters-kept len bytes es [] same is = absurd cc
letters-kept len bytes [] (f ∷ fs) same is = absurd cc
letters-kept len bytes (e ∷ es) (f ∷ fs) same is =
    let entry : seen_by e ≡ seen len f = cc in
    let field : f ≡ letters_field bytes = cc in
    ap (λ (s : Seen). bytes_of s.content) (entry ∙ ap (seen len) field) ∙ sym (ap bytes_of (letters-content bytes (nat_lt (length bytes) 3) refl))

-- ---- reading stops after letters that aren't `CDF`

header-stop : (bytes : Bytes) → bytes_eq (take 3 bytes) (codes "CDF") ≡ false → run (header_by lenient) bytes ≡ Err (NotNetcdf, drop 3 bytes)
unfolding header_by magic_part
header-stop bytes other = grind (arith, run-chain, run-under, letters-run bytes)

rest-after : (bytes rest : Bytes) (r : Result Header FormatFault) → IsOutcome bytes rest r → bytes_eq (take 3 bytes) (codes "CDF") ≡ false → rest ≡ drop 3 bytes
rest-after bytes rest v2 is other = grind (arith, reads, stops, header-stop bytes other)

-- ---- the start

-- the letters that are listed and what is read on are the start of the file
pub start-read : (bytes rest : Bytes) (l : Listing) → map seen_by l.entries ≡ map (seen (length bytes)) (fields [] (header_by lenient) bytes) → IsOutcome bytes rest l.header
    → l.end + length rest ≡ length bytes → start_after (letters_of l.entries) l.end rest ≡ start_of bytes
start-read bytes rest l same outcome ends =
    ap (λ (letters : Bytes). start_after letters l.end rest) (letters-kept (length bytes) bytes l.entries _ same (header-first bytes)) ∙ by-test (bytes_eq (take 3 bytes) (codes "CDF")) refl
  where
    by-test : (b : Bool) → bytes_eq (take 3 bytes) (codes "CDF") ≡ b
        → (if not b && (length (take 3 bytes) == l.end) then take 3 bytes ++ take 49 rest else []) ≡ (if b then [] else take 52 bytes)
    by-test true is = refl
    by-test false is =
        let after = rest-after bytes rest l.header outcome is in
        let end : length (take 3 bytes) ≡ l.end = omega (arith, length-take 3 bytes, length-drop 3 bytes, ends, ap length after) in
        let test : (length (take 3 bytes) == l.end) ≡ true = grind (arith, nat_tests) in
        ap (λ (b : Bool). if b then take 3 bytes ++ take 49 rest else []) test ∙ ap (λ (xs : Bytes). take 3 bytes ++ take 49 xs) after ∙ sym (take-add 3 49 bytes)
