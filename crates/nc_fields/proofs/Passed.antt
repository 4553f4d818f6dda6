-- Values that are passed over, piece by piece.
use Rattle.nc_fields.proofs.Prelude.{Ghosts, Window, HeadFault, Format, OutOfMemory, ReadFailed, Bytes, left, next_of, OnTrue, OnTrue_at, OnTrue_from, drop-drop, source_of, ends_with_nul, Entry, PendingField, ListsCut, get_or-append_right, Progress, IsAdvanced, Stopped, on-by, chunk-next, read-content, stop-bytes, Ready, in_place, PassesValues, ◌≡◌, ℕ, ◌+◌, ◌≤◌, ◌<◌, Bool, List, [], ◌++◌, length, take, drop, Result, Ok, Err, IfOk, sym, ap, subst, ◌∙◌, arith, rules, inl, inr, length-append}

-- ---- pieces

-- the last byte of some, and of more after others
last-of-append : (xs ys : Bytes) → 0 < length ys → ends_with_nul (xs ++ ys) ≡ ends_with_nul ys
last-of-append xs ys some = grind (arith, length-append, get_or-append_right)

module _ {S : Type 0} {g : Ghosts S} where
  left-on : (start now : Window S g) (n : ℕ) → Progress start now n → left now ≡ drop n (left start)
  left-on start now n so_far =
      ap (λ (all : Bytes). drop (next_of now) all) so_far.kept.bytes ∙ ap (λ k. drop k (source_of start).bytes) (sym so_far.used) ∙ sym (drop-drop n (next_of start) (source_of start).bytes)

  -- these bytes were passed over, and so many are missing
  pub record PassedSome (start now : Window S g) (n missing : ℕ) (last : Bool) : Type 0 where
    pub vals : Bytes
    pub so_far : Progress start now (length vals)
    pub same : OnTrue g.is_transparent (vals ≡ take (length vals) (left start))
    pub whole : length vals + missing ≡ n
    pub is_last : last ≡ ends_with_nul vals

  -- a piece that the window held after the first bytes
  pub passed-more : (start mid held now : Window S g) (n missing left_over : ℕ) (before last : Bool) (piece : Bytes) → PassedSome start mid n missing before → Progress mid held 0
      → Ready held missing piece → IsAdvanced held now (length piece) → last ≡ ends_with_nul piece → left_over + length piece ≡ missing → PassedSome start now n left_over last
  passed-more start mid held now n missing left_over before last piece p here ready on is over =
      let further : Progress held now (length piece) = search rules in
      let so_far = on-by start mid held (length p.vals) 0 p.so_far here.kept here.failures (omega (arith, here.used)) in
      record {
        vals = p.vals ++ piece;
        so_far = subst (Progress start now) (omega (arith, length-append p.vals piece)) (on-by start held now (length p.vals + 0) (length piece) so_far further.kept further.failures (sym further.used));
        same = chunk-next start mid (length piece) p.vals (p.vals ++ piece) p.so_far (length-append p.vals piece) p.same
            (OnTrue_from g.is_transparent _ (λ known. ap (λ ys. p.vals ++ ys) (OnTrue_at known ready.same ∙ ap (take (length piece)) (left-on mid held 0 here))));
        whole = omega (arith, p.whole, length-append p.vals piece, over);
        is_last = is ∙ sym (last-of-append p.vals piece ready.some);
      }

  pub passed-all : (start now : Window S g) (n missing : ℕ) (last : Bool) → PassedSome start now n missing last → missing ≤ 0 → PassesValues start now n (Ok last)
  passed-all start now n missing last p none = record {
    vals = p.vals;
    whole = omega (arith, p.whole, none);
    reads = read-content start now n p.vals (omega (arith, p.whole, none)) p.so_far p.same;
    last = p.is_last;
  }

  pub passed-err : (start mid now : Window S g) (n missing : ℕ) (last : Bool) (e : HeadFault) → PassedSome start mid n missing last → 0 < missing
      → Stopped (Unit {0}) mid now e → PassesValues start now n (Err e)
  passed-err start mid now n missing last e p some stop = record {
    vals = [];
    whole = tt;
    reads = stop-bytes (Unit {0}) start mid now n (length p.vals) e p.so_far (omega (arith, p.whole, some)) stop;
    last = tt;
  }

-- ---- values in the listing

-- bytes in place of what was answered
pub cut-in-place : {A : Type 0} (vals : Bytes) (old new : List Entry) (start : PendingField) (answer : Result A HeadFault) (e : HeadFault) → ListsCut {A = A} old new start answer (Err e)
    → ListsCut {A = Bytes} old new start (in_place vals answer) (Err e)
cut-in-place vals old new start answer (Format f) (is, lists) = (ap (in_place vals) is, lists)
cut-in-place vals old new start answer OutOfMemory (inl is) = inl (ap (in_place vals) is)
cut-in-place vals old new start answer OutOfMemory (inr (f, is)) = inr (f, ap (in_place vals) is)
cut-in-place vals old new start answer ReadFailed is = ap (in_place vals) is

-- what was answered of the last byte
pub last-of : (vals : Bytes) (answer : Result Bool HeadFault) (is_nul : Bool) → answer ≡ Ok is_nul → IfOk answer (λ b. b ≡ ends_with_nul vals) → is_nul ≡ ends_with_nul vals
last-of vals answer is_nul is last = subst (λ r. IfOk r (λ b. b ≡ ends_with_nul vals)) is last
