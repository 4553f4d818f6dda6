-- What a listing says of the bytes of a source.
use Rattle.nc_fields.proofs.Prelude.{Bytes, Entry, Ghosts, Window, Reader, Header, HeadFault, Format, OutOfMemory, ReadFailed, Checked, source_of, left, OnTrue, OnTrue_at, OnTrue_from, lenient, Seen, seen, seen_by, listed, fields, Outcome, run, Kept, next_of, length-drop, header_by, Listing, ListFault, ◌≡◌, ℕ, ◌+◌, ◌≤◌, List, [], drop, length, map, Result, Ok, Err, IfOk, sym, ap, subst, arith, ◌∙◌}
use Rattle.std.proofs.Common.{max}
use Rattle.nc_base.proofs.PartOutcomes.{Tells, tells}
use Rattle.nc_window.specs.code.Window.{IsNew, ReadUpTo}
use Rattle.nc_fields.specs.Listings.{Blames, IsListing, IsOutcome}
use Rattle.nc_fields.specs.code.Answers.{Answers}
use Rattle.nc_fields.specs.code.Starts.{letters_of, start_after}
use Rattle.nc_fields.proofs.Starts.{start-read}

-- where a listing ends
pub ends-of : (entries : List Entry) (end file_len : ℕ) (answer : Result Header HeadFault) (l : Listing) → Answers entries end file_len answer (Ok l) → l.end ≡ end
ends-of entries end file_len (Ok h) l a = grind arith
ends-of entries end file_len (Err (Format f)) l a = a.end_is
ends-of entries end file_len (Err OutOfMemory) l a = absurd cc
ends-of entries end file_len (Err ReadFailed) l a = absurd cc

module _ {S : Type 0} {g : Ghosts S} where
  -- the source was blamed where it has failed
  blamed : (old new : Reader S g) (end file_len : ℕ) (answer : Result Header HeadFault) (result : Result Listing ListFault) → Checked old new [] (header_by lenient) answer
      → Answers new.entries end file_len answer result → Blames (source_of old.window).failures (source_of new.window) result
  blamed old new end file_len (Ok h) result c a = rw a c.cause
  blamed old new end file_len (Err (Format f)) (Ok l) c a = c.cause
  blamed old new end file_len (Err (Format f)) (Err e) c a = rw a c.cause
  blamed old new end file_len (Err OutOfMemory) result c a = rw a c.cause
  blamed old new end file_len (Err ReadFailed) result c a = rw a c.cause

  -- the same, said of the source that a new window was made of
  pub blamed-of : {source : S} {buffer_len : ℕ} (old new : Reader S g) (end file_len : ℕ) (answer : Result Header HeadFault) (result : Result Listing ListFault) → IsNew source buffer_len old.window
      → Checked old new [] (header_by lenient) answer → Answers new.entries end file_len answer result → Blames (g.view source).failures (source_of new.window) result
  blamed-of old new end file_len answer result s c a =
      subst (λ (source : S). Blames (g.view source).failures (source_of new.window) result) s.source_is (blamed old new end file_len answer result c a)

  ends-at : (old new : Reader S g) → Kept old.window new.window → next_of new.window + length (left new.window) ≡ length (source_of old.window).bytes
  ends-at old new kept = omega (arith, length-drop (next_of new.window) (source_of new.window).bytes, ap length kept.bytes, new.window.within, new.window.used)

  -- what was read from the start of the source
  all-fields : (old : Reader S g) (all : List Seen) → old.entries ≡ [] → left old.window ≡ (source_of old.window).bytes
      → all ≡ listed (length (source_of old.window).bytes) (map seen_by old.entries) [] (header_by lenient) (left old.window)
      → all ≡ map (seen (length (source_of old.window).bytes)) (fields [] (header_by lenient) (source_of old.window).bytes)
  unfolding listed
  all-fields old all none whole lists = rw (none, whole) at lists

  outcome : (old new : Reader S g) (o : Outcome Header) → left old.window ≡ (source_of old.window).bytes → run (header_by lenient) (left old.window) ≡ o → Tells (header_by lenient) (source_of old.window).bytes o
  outcome old new o whole is = subst (Tells (header_by lenient) (source_of old.window).bytes) (sym (ap (run (header_by lenient)) whole) ∙ is) (tells (header_by lenient) (source_of old.window).bytes)

  -- what is listed when reading has come this far: all but the start of the file
  pub record IsListed (w : Window S g) (bytes : Bytes) (l : Listing) : Type 0 where
    pub entries : map seen_by l.entries ≡ map (seen (length bytes)) (fields [] (header_by lenient) bytes)
    pub header : IsOutcome bytes (left w) l.header
    pub end : l.end + length (left w) ≡ length bytes
    pub file_len : l.file_len ≡ length bytes

  is-listed : (old new : Reader S g) (end file_len : ℕ) (answer : Result Header HeadFault) (result : Result Listing ListFault) → old.entries ≡ []
      → left old.window ≡ (source_of old.window).bytes → end ≡ next_of new.window → file_len ≡ length (source_of old.window).bytes
      → Checked old new [] (header_by lenient) answer → Answers new.entries end file_len answer result
      → OnTrue g.is_transparent (IfOk result (IsListed new.window (source_of old.window).bytes))
  is-listed old new end file_len (Ok h) result none whole at len c a =
      rw a
      (OnTrue_from g.is_transparent _
      (λ known. record {
        entries = all-fields old _ none whole (OnTrue_at known c.lists);
        header = outcome old new _ whole (OnTrue_at known c.reads);
        end = rw at (ends-at old new c.kept);
        file_len = len;
      }))
  is-listed old new end file_len (Err (Format f)) (Ok l) none whole at len c a =
      OnTrue_from g.is_transparent _
      (λ known. record {
        entries = a.entries_are ∙ all-fields old _ none whole (OnTrue_at known c.lists);
        header = rw a.header (outcome old new _ whole (OnTrue_at known c.reads));
        end = rw (a.end_is, at) (ends-at old new c.kept);
        file_len = a.file_len_is ∙ len;
      })
  is-listed old new end file_len (Err (Format f)) (Err e) none whole at len c a = OnTrue_from g.is_transparent _ (λ known. tt)
  is-listed old new end file_len (Err OutOfMemory) result none whole at len c a = rw a (OnTrue_from g.is_transparent _ (λ known. tt))
  is-listed old new end file_len (Err ReadFailed) result none whole at len c a = rw a (OnTrue_from g.is_transparent _ (λ known. tt))

  left-whole : (w : Window S g) → w.base ≡ 0 → w.pos ≡ 0 → left w ≡ (source_of w).bytes
  left-whole w base pos = let none : next_of w ≡ 0 = omega (arith, base, pos) in ap (λ k. drop k (source_of w).bytes) none

  -- the same, said of the source that a new window was made of
  pub is-listed-of : {source : S} {buffer_len : ℕ} (old new : Reader S g) (end file_len : ℕ) (answer : Result Header HeadFault) (result : Result Listing ListFault) → IsNew source buffer_len old.window → old.entries ≡ []
      → end ≡ next_of new.window → file_len ≡ length (g.view source).bytes → Checked old new [] (header_by lenient) answer → Answers new.entries end file_len answer result
      → OnTrue g.is_transparent (IfOk result (IsListed new.window (g.view source).bytes))
  is-listed-of old new end file_len answer result s none at len c a =
      subst (λ (source : S). OnTrue g.is_transparent (IfOk result (IsListed new.window (g.view source).bytes))) s.source_is
      (is-listed old new end file_len answer result none (left-whole old.window s.base s.pos) at (len ∙ ap (λ (source : S). length (g.view source).bytes) (sym s.source_is)) c a)

  -- with the start that was read on for, it is the listing of the source's bytes
  pub with-start : (w : Window S g) (bytes start : Bytes) (l : Listing) → OnTrue g.is_transparent (IsListed w bytes l) → l.end ≡ next_of w
      → OnTrue g.is_transparent (start ≡ start_after (letters_of l.entries) (next_of w) (left w)) → OnTrue g.is_transparent (IsListing bytes (record l { start = start }))
  with-start w bytes start l so_far at kept =
      OnTrue_from g.is_transparent _
      (λ known.
      let is = OnTrue_at known so_far in
      record {
        entries = is.entries;
        rest = left w;
        header = is.header;
        start = OnTrue_at known kept ∙ ap (λ (end : ℕ). start_after (letters_of l.entries) end (left w)) (sym at) ∙ start-read bytes (left w) l is.entries is.header is.end;
        end = is.end;
        file_len = is.file_len;
      })

  -- how far was read
  pub reads-forward : {source : S} {buffer_len : ℕ} {old mid new : Window S g} {end : ℕ} (len : ℕ) → IsNew source buffer_len old → Kept old mid → Kept mid new → end ≡ next_of mid
      → next_of new ≤ max (next_of mid) len → ReadUpTo (g.view source).handed (source_of new).handed (max end len) buffer_len
  reads-forward {new = new} len s kept on at up_to =
      omega (arith, kept.handed, on.handed, s.base, s.filled, at, up_to, new.fits, kept.same_buffer_len, on.same_buffer_len, s.buffer, ap (λ (source : S). (g.view source).handed) s.source_is)
