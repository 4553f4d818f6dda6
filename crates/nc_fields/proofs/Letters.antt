-- The letters at the start of a file, of which fewer than three may be there.
use Rattle.nc_fields.proofs.Prelude.{take_min, drop_min, bytes_eq, Magic, Ghosts, Bytes, Part, bytes, checked, Outcome, with_rest, run, left_after, FormatFault, HeaderTruncated, NotNetcdf, Read, left, HeadFault, Window, Format, OutOfMemory, ReadFailed, Entry, Content, Place, Reader, PendingField, entry_of, Checked, IsStart, ListsCut, with_fault, OnTrue_at, OnTrue_from, leb-true, leb-false, listed, source_of, seen_by, left_after-ok, ◌≡◌, ℕ, ◌<◌, ◌≤◌, min, Bool, true, cond, nat_lt, if◌then◌else◌, List, [], ◌∷◌, None, ◌-◌, length, take, drop, map, ◌++◌, Result, Ok, Err, subst, refl, sym, ap, ◌∙◌, arith, take_all, codes}
use Rattle.std.proofs.lemmas.Bool.Decides.{nat_tests}
use Rattle.std.proofs.lemmas.Grind.{common_steps}
use Rattle.std.specs.Cmp.Lexicographic.{bytes_decides}
use Rattle.nc_findings.specs.declared.entry.Content.TheVariants as content
use Rattle.nc_findings.specs.declared.place.Owner.TheVariants as owner
use Rattle.nc_findings.specs.declared.place.FieldKind.TheVariants as field
use Rattle.nc_fields.proofs.Checks.{IsField, bytes-field, decoded-field, fault_in, seen_at, one-more, listed-one, listed-memory, with_fault-last, Stopped, stopped}

-- what the letters are judged by
abbrev pub letters_in : Bytes → Result Bytes FormatFault
letters_in letters = if bytes_eq letters (codes "CDF") then Ok letters else Err NotNetcdf

abbrev pub letters_part : Part Bytes
letters_part = checked (λ letters. bytes_eq letters (codes "CDF")) NotNetcdf (bytes 3 NotNetcdf)

abbrev pub letters_place : Place
letters_place = record { owner = owner.Header; field = field.Magic }

pub letters-field : IsField 3 letters_part
letters-field = decoded-field letters_in (λ letters. letters) (bytes 3 NotNetcdf) 3 (bytes-field 3 NotNetcdf)

-- what is answered
abbrev pub answered : Result Bytes FormatFault → Result Bytes HeadFault
answered (Ok letters) = Ok letters
answered (Err fault) = Err (Format fault)

pub letters-answer : (letters : Bytes) → (if bytes_eq letters (codes "CDF") then Ok letters else Err (Format NotNetcdf)) ≡ answered (letters_in letters)
letters-answer letters = grind arith

-- fewer than three bytes aren't `CDF`
few-letters : (letters : Bytes) → length letters < 3 → letters_in letters ≡ Err NotNetcdf
few-letters letters few = let same = (bytes_decides letters (codes "CDF")).0 in grind arith

-- what is left after a value that is judged
judged-left : {A : Type 0} (y : Result A FormatFault) (rest : Bytes) → left_after (with_rest y rest) ≡ length rest
unfolding left_after
judged-left y rest = grind arith

-- reading goes on after the letters, or ends where there are fewer
pub letters-run : (from : Bytes) → run letters_part from ≡ with_rest (letters_in (take 3 from)) (drop 3 from)
unfolding run
letters-run from =
    let few = few-letters from in let all = take_all 3 from in grind (arith, common_steps, leb-true, leb-false)

-- what is listed of them, whether all three are there or not
pub letters-content : (from : Bytes) (b : Bool) → nat_lt (length from) 3 ≡ b → ◌≡◌ {A = Content} (content.Bytes (take 3 from)) (cond b (content.Bytes from) (content.Bytes (take 3 from)))
letters-content from b is = grind (arith, take_all 3 from, nat_tests)

-- as many of them as there are are read
letters-there : (from : Bytes) → run (bytes (min 3 (length from)) HeaderTruncated) from ≡ Ok (take 3 from, drop 3 from)
unfolding run
letters-there from = grind (arith, take_min 3 from, drop_min 3 from, leb-false)

same-parts : (xs ys rest more : Bytes) → ◌≡◌ {A = Outcome Bytes} (Ok (xs, rest)) (Ok (ys, more)) → (ys ≡ xs) × (more ≡ rest)
same-parts xs ys rest more e = let first : ys ≡ xs = grind arith in let second : more ≡ rest = grind arith in (first, second)

letters-left : (from : Bytes) → left_after (run letters_part from) ≤ left_after (run (bytes (min 3 (length from)) HeaderTruncated) from)
letters-left from = grind (arith, letters-run from, letters-there from, judged-left, left_after-ok)

along : {x n : ℕ} (from : Bytes) → n ≡ min 3 (length from) → left_after (run (bytes n HeaderTruncated) from) ≤ x → left_after (run letters_part from) ≤ x
along from same le = omega (arith, le, letters-left from, ap (λ k. left_after (run (bytes k HeaderTruncated) from)) same)

module _ {S : Type 0} {g : Ghosts S} where
  -- the letters that are there were read, and listed with what they are judged to be
  pub listed-letters : {old : Reader S g} {window : Window S g} {cut entries : List Entry} {start : PendingField} {n : ℕ} {bs : Bytes} {read : Result Bytes HeadFault}
      → IsStart old.window letters_place 3 start → n ≡ min 3 (length (left old.window)) → Read old.window window (bytes n HeaderTruncated) read
      → (read ≡ Ok bs) × (cut ≡ old.entries) → entries ≡ cut ++ entry_of start (content.Bytes bs) ∷ []
      → Checked old (record { window = window; entries = entries }) (Magic ∷ []) letters_part (answered (letters_in bs))
  listed-letters {old = old} {window = window} {cut = cut} {entries = entries} {start = start} {n = n} {bs = bs} {read = read} s same r of_cut more = by-answer (letters_in bs) refl
    where
      from : Bytes
      from = left old.window

      b : Read old.window window (bytes n HeaderTruncated) (Ok bs)
      b = subst (λ a. Read old.window window (bytes n HeaderTruncated) a) of_cut.0 r

      got : g.is_transparent ≡ true → (bs ≡ take 3 from) × (left window ≡ drop 3 from)
      got known = same-parts _ _ _ _ (sym (letters-there from) ∙ ap (λ k. run (bytes k HeaderTruncated) from) (sym same) ∙ OnTrue_at known b.reads)

      found : Content
      found = content.Bytes bs

      reads : (y : Result Bytes FormatFault) → letters_in bs ≡ y → g.is_transparent ≡ true → run letters_part from ≡ with_rest y (left window)
      reads y e known = letters-run from ∙ sym (ap (λ rest. with_rest y rest) (got known).1 ∙ ap (λ y. with_rest y (drop 3 from)) (sym e ∙ ap letters_in (got known).0))

      one : map seen_by entries ≡ map seen_by old.entries ++ seen_at letters_place (length (source_of old.window).bytes - length from) 3 found None ∷ []
      one = one-more old found s refl (more ∙ ap (λ es. es ++ entry_of start found ∷ []) of_cut.1)

      lists : (y : Result Bytes FormatFault) → letters_in bs ≡ y → g.is_transparent ≡ true
          → listed (length (source_of old.window).bytes) (map seen_by old.entries) (Magic ∷ []) letters_part from
          ≡ map seen_by old.entries ++ seen_at letters_place (length (source_of old.window).bytes - length from) 3 found (fault_in (with_rest y (left window))) ∷ []
      lists y e known =
          listed-one _ _ letters_place letters_part from letters-field
          (sym (ap content.Bytes (got known).0 ∙ letters-content from (nat_lt (length from) 3) refl)) (reads y e known)

      by-answer : (y : Result Bytes FormatFault) → letters_in bs ≡ y → Checked old (record { window = window; entries = entries }) (Magic ∷ []) letters_part (answered y)
      by-answer (Ok x) e = record {
        kept = b.kept;
        cause = b.cause;
        reads = OnTrue_from g.is_transparent _ (reads (Ok x) e);
        lists = OnTrue_from g.is_transparent _ (λ known. one ∙ sym (lists (Ok x) e known));
      }
      by-answer (Err f) e = record {
        kept = b.kept;
        cause = b.cause;
        reads = OnTrue_from g.is_transparent _ (reads (Err f) e);
        lists = OnTrue_from g.is_transparent _ (λ known. ap (with_fault f) one ∙ with_fault-last f _ _ ∙ sym (lists (Err f) e known));
      }

  -- no fewer were there; or the device or memory has failed
  pub cut-letters : {old : Reader S g} {window : Window S g} {cut : List Entry} {n : ℕ} (start : PendingField) {read : Result Bytes HeadFault} {e : HeadFault}
      → n ≡ min 3 (length (left old.window)) → Read old.window window (bytes n HeaderTruncated) read → ListsCut {A = Bytes} old.entries cut start read (Err e)
      → Checked {A = Bytes} old (record { window = window; entries = cut }) (Magic ∷ []) letters_part (Err e)
  cut-letters {old = old} {window = window} {cut = cut} {n = n} start {read = read} {e = e} same r of_cut = by-fault e (stopped old.window window old.entries cut start (bytes n HeaderTruncated) read e r of_cut)
    where
      from : Bytes
      from = left old.window

      by-fault : (e : HeadFault) → Stopped old.window window (bytes n HeaderTruncated) e → Checked {A = Bytes} old (record { window = window; entries = cut }) (Magic ∷ []) letters_part (Err e)
      by-fault (Format f) b =
          let never : g.is_transparent ≡ true → ⊥ =
          λ known.
          let there : ◌≡◌ {A = Outcome Bytes} (Ok (take 3 from, drop 3 from)) (Err (f, left window)) =
          sym (letters-there from) ∙ ap (λ k. run (bytes k HeaderTruncated) from) (sym same) ∙ OnTrue_at known b.reads in cc in
          record {
            kept = b.kept;
            cause = b.cause;
            reads = OnTrue_from g.is_transparent _ (λ known. absurd (never known));
            lists = OnTrue_from g.is_transparent _ (λ known. absurd (never known));
          }
      by-fault OutOfMemory b = record { kept = b.kept; cause = b.cause; reads = OnTrue_from g.is_transparent _ (λ known. along from same (OnTrue_at known b.reads)); lists = tt }
      by-fault ReadFailed b = record { kept = b.kept; cause = b.cause; reads = OnTrue_from g.is_transparent _ (λ known. along from same (OnTrue_at known b.reads)); lists = tt }

  -- memory ran out before they were listed
  pub letters-memory : {old : Reader S g} {window : Window S g} {entries : List Entry} {n : ℕ} {read : Result Bytes HeadFault} {bs : Bytes} → n ≡ min 3 (length (left old.window))
      → Read old.window window (bytes n HeaderTruncated) read → read ≡ Ok bs → Checked {A = Bytes} old (record { window = window; entries = entries }) (Magic ∷ []) letters_part (Err OutOfMemory)
  letters-memory {old = old} {entries = entries} same r is =
      let c = listed-memory {old = old} {entries = entries} {steps = []} r is in
      record { kept = c.kept; cause = c.cause; reads = OnTrue_from g.is_transparent _ (λ known. along (left old.window) same (OnTrue_at known c.reads)); lists = tt }
