use Rattle.nccheck.proofs.Prelude.{fun_ext, map-append, take_more, texts_of, Bytes, Item, Path, Asked, Openings, State, no_files, Counts, Tally, ℕ, ◌≡◌, ◌∙◌, ◌+◌, ◌<◌, List, [], ◌∷◌, ◌++◌, length, map, Some, None, Option, ap, sym, get_or, take, drop, take-append-drop, arith}
use Rattle.std.specs.Borrow.{Bor}
use Rattle.nccheck.proofs.InTurn.{counts_stop, counts_then}
use Rattle.nccheck.proofs.counting.check_each.Goals as goal

abbrev items : List (Bor Bytes) → List Item
items xs = map Path (texts_of xs)

items-append : (xs ys : List (Bor Bytes)) → items (xs ++ ys) ≡ items xs ++ items ys
items-append xs ys = ap (map Path) (map-append (λ (w : Bor Bytes). w.now) xs ys) ∙ map-append Path (texts_of xs) (texts_of ys)

module _ {P : Type 0} {o : Openings P} {a : Asked} (xs : List (Bor Bytes)) (i : ℕ) (d : Bor Bytes)
    {path : Bytes} {old now new : State P} {tally : Tally} where
  -- one more file
  next : {after : Option Tally} → i < length xs → path ≡ (get_or xs i d).now → Counts o a (items (take i xs)) old now no_files (Some tally)
      → Counts o a (Path path ∷ []) now new tally after → Counts o a (items (take (i + 1) xs)) old new no_files after
  next lt is one two = rw (take_more xs i d lt, items-append (take i xs) (get_or xs i d ∷ []), ← is) (counts_then one two)

  -- the others don't matter
  stop : {files : List (Bor Bytes)} → xs ≡ files → i < length xs → path ≡ (get_or xs i d).now
      → Counts o a (items (take i xs)) old now no_files (Some tally) → Counts o a (Path path ∷ []) now new tally None
      → Counts o a (items files) old new no_files None
  stop same lt is one two =
      rw (← same, ap items (sym (take-append-drop (i + 1) xs)) ∙ items-append (take (i + 1) xs) (drop (i + 1) xs))
      (counts_stop (items (drop (i + 1) xs)) (next lt is one two))

pub returns-in_err-tally-clause-counts : goal.returns-in_err-tally-clause-counts
returns-in_err-tally-clause-counts g c =
    let step = rw (fun_ext c.loop-file.invariant.names) at c.in_err-tally.ensures.counts in
    rw c.from_residual.ensures
    (stop c.as_slice-files.result.now c.loop-file.file-index _ c.as_slice-files.ensures c.loop-file-test.true
    c.as_bytes.ensures.value c.loop-file.invariant.counts step)

pub loop-file-preserved : goal.loop-file-preserved
loop-file-preserved g c =
    let step = rw (fun_ext c.loop-file.invariant.names) at c.in_ok-tally.ensures.counts in
    record {
      names = λ p. c.check_and_count.ensures.names p ∙ c.loop-file.invariant.names p;
      counts = next c.as_slice-files.result.now c.loop-file.file-index _ c.loop-file-test.true
          c.as_bytes.ensures.value c.loop-file.invariant.counts step;
      few = omega (arith, c.in_ok-tally.ensures.few, c.loop-file.invariant.few);
    }
