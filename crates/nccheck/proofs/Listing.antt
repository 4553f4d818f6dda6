-- A run over a list whose bytes come part by part.
use Rattle.nccheck.proofs.Prelude.{length-append, length-take-le, Bytes, HasFailed, ReaderView, Asked, Broken, Item, items_after, items_in, last_items, ListEnd, Path, Unread, Whole, MatchBool, Fails, Ending, Openings, ReadsList, RunsFiles, State, Writes, counted, no_files, status_of, summary, Counts, CountsAll, CountsList, Gives, Takes, TakesItems, Tally, ◌≡◌, ℕ, ◌+◌, ◌<◌, ◌≤◌, ◌^◌, List, [], ◌∷◌, ◌++◌, ◌⊎◌, codes, inl, inr, refl, sym, ap, ◌∙◌, append_assoc, append-nil, length, take, map, Bool, true, false, Option, Some, None, IfSome, Err, arith, unwrap_or}
use Rattle.std.specs.Io.KnownBytes.{Consumes}
use Rattle.std.proofs.KnownBytes.{Consumes-all, Consumes-kept, Consumes-nil, Consumes-trans}
use Rattle.devices.specs.Uses.{Use}
use Rattle.devices.specs.code.ReaderReads.{HandedOver, NoneHandedOver}
use Rattle.nccheck.specs.declared.fault.FileFault.TheVariants.{ReadFailed}
use Rattle.nccheck.proofs.InTurn.{counts_none, counts_one, counts_stop, counts_then}

-- ---- the bytes of a list

-- those that were read, and those that are left, are all, if they are known
with_rest : (a b : Option Bytes) (bytes : Bytes) → Consumes a b bytes → IfSome a (λ all. bytes ++ unwrap_or b [] ≡ all)
with_rest None b bytes read = tt
with_rest (Some xs) None bytes read = absurd read
with_rest (Some xs) (Some ys) bytes read = sym read

given_then : (bytes others begun mid : Bytes) (items more : List Item) (rest : ListEnd → Bytes → List Item) → Gives bytes begun mid items
    → ((end : ListEnd) (left : Bytes) → items_after end mid (others ++ left) ≡ more ++ rest end left)
    → (end : ListEnd) (left : Bytes) → items_after end begun ((bytes ++ others) ++ left) ≡ (items ++ more) ++ rest end left
given_then bytes others begun mid items more rest one two end left =
    ap (items_after end begun) (append_assoc bytes others left) ∙ one.is end (others ++ left)
    ∙ ap (λ (x : List Item). items ++ x) (two end left) ∙ sym (append_assoc items more (rest end left))

items_then : (bytes others begun mid now : Bytes) (items more : List Item) (after : Option Tally) → Gives bytes begun mid items
    → TakesItems others mid now more after → TakesItems (bytes ++ others) begun now (items ++ more) after
items_then bytes others begun mid now items more (Some after) one two =
    record { is = given_then bytes others begun mid items more _ one two.is }
items_then bytes others begun mid now items more None one two =
    record { others = two.others; is = given_then bytes others begun mid items more _ one two.is }

-- the NUL after a path
gives_path : (begun : Bytes) (after : Option Tally) → TakesItems (0 ∷ []) begun [] (Path begun ∷ []) after
gives_path begun (Some after) = record { is = λ end more. refl }
gives_path begun None = record { others = λ end more. items_after end [] more; is = λ end more. refl }

-- a list of which nothing was read
untouched : (reads_paths_from_input : Bool) (input : ReaderView)
    → (items : List Item) × MatchBool reads_paths_from_input (ReadsList input input items) ((input ≡ input) × (items ≡ []))
untouched true input =
    let all = unwrap_or input.remaining [] in
    let read = with_rest input.remaining input.remaining [] (Consumes-nil input.remaining) in
    (items_in Whole all, record { bytes = all; end = Whole; has = (read, refl); is = refl })
untouched false input = ([], (refl, refl))

module _ {P : Type 0} (o : Openings P) (a : Asked) where
  -- what was read so far
  pub record ReadUpTo (start here : ReaderView) (begun : Bytes) (old now : State P) (first tally : Tally) (n : ℕ) : Type 0 where
    pub bytes : Bytes
    pub part : Consumes start.remaining here.remaining bytes
    pub failures : here.failures ≡ start.failures
    pub takes : Takes o a bytes [] begun old now first (Some tally)
    pub enough : n ≤ length bytes

module _ {P : Type 0} {o : Openings P} {a : Asked} where
  -- bytes of which all items were checked, and then bytes after them
  pub takes_then : {bytes others begun mid now : Bytes} {old cur new : State P} {first between : Tally} {after : Option Tally}
      → Takes o a bytes begun mid old cur first (Some between) → Takes o a others mid now cur new between after
      → Takes o a (bytes ++ others) begun now old new first after
  takes_then {bytes} {others} {begun} {mid} {now} {after = after} one two = record {
    items = one.items ++ two.items;
    counts = counts_then one.counts two.counts;
    takes = items_then bytes others begun mid now one.items two.items after one.takes two.takes;
  }

  -- bytes after those of which one has ended the run don't matter
  pub takes_stop : {bytes begun now : Bytes} (rest last : Bytes) {old new : State P} {tally : Tally}
      → Takes o a bytes begun now old new tally None → Takes o a (bytes ++ rest) begun last old new tally None
  takes_stop {bytes} {begun} rest last t = record {
    items = t.items;
    counts = t.counts;
    takes = record {
      others = λ end more. t.takes.others end (rest ++ more);
      is = λ end more. ap (items_after end begun) (append_assoc bytes rest more) ∙ t.takes.is end (rest ++ more);
    };
  }

  -- the NUL after a path
  pub takes_path : {begun : Bytes} {old new : State P} {tally : Tally} {after : Option Tally}
      → Counts o a (Path begun ∷ []) old new tally after → Takes o a (0 ∷ []) begun [] old new tally after
  takes_path {begun} {after = after} counts = record { items = Path begun ∷ []; counts = counts; takes = gives_path begun after }

  -- ---- a list that is read to its end

  pub read_none : (start : ReaderView) (old : State P) (tally : Tally) → ReadUpTo o a start start [] old old tally tally 0
  read_none start old tally = record {
    bytes = [];
    part = Consumes-nil start.remaining;
    failures = refl;
    takes = record { items = []; counts = counts_none old tally; takes = record { is = λ end more. refl } };
    enough = omega arith;
  }

  -- one more part was read, and its items were checked
  pub read_more : {start here next : ReaderView} {begun last before following : Bytes} {old now new : State P}
      {first tally more : Tally} {n k : ℕ}
      → ReadUpTo o a start here begun old now first tally n → HandedOver here next before following k → 0 < k
      → length following ≡ length before
      → Takes o a (take k following) begun last now new tally (Some more) → ReadUpTo o a start next last old new first more (n + 1)
  read_more {start} {here} {next} {following = following} {k = k} up handed some same takes = record {
    bytes = up.bytes ++ take k following;
    part = Consumes-trans start.remaining here.remaining next.remaining up.bytes (take k following) up.part handed.bytes;
    failures = handed.failures ∙ up.failures;
    takes = takes_then up.takes takes;
    enough = let within : k ≤ length following = omega (arith, handed.within, same) in
        omega (arith, length-append up.bytes (take k following), length-take-le k following within, up.enough);
  }

  -- a fault has ended the run at an item of this part
  pub read_stop : {start here next : ReaderView} {begun last before following : Bytes} {old now new : State P} {first tally : Tally}
      {n k : ℕ}
      → ReadUpTo o a start here begun old now first tally n → HandedOver here next before following k
      → Takes o a (take k following) begun last now new tally None → CountsList o a start next old new first None
  read_stop {start} {here} {next} {following = following} {k = k} up handed takes =
      let bytes = up.bytes ++ take k following in
      let all = takes_then up.takes takes in
      let rest = unwrap_or next.remaining [] in
      let part = Consumes-trans start.remaining here.remaining next.remaining up.bytes (take k following) up.part handed.bytes in
      record {
        items = all.items ++ all.takes.others Whole rest;
        reads = record {
          bytes = bytes ++ rest;
          end = Whole;
          has = (with_rest start.remaining next.remaining bytes part, handed.failures ∙ up.failures);
          is = sym (all.takes.is Whole rest);
        };
        counts = counts_stop (all.takes.others Whole rest) all.counts;
      }

  -- the list has ended
  pub read_whole : {start here next : ReaderView} {begun before following : Bytes} {old now new : State P} {first tally : Tally}
      {after : Option Tally} {n k : ℕ}
      → ReadUpTo o a start here begun old now first tally n → HandedOver here next before following k → k ≡ 0 → 0 < length before
      → Counts o a (last_items Whole begun) now new tally after → CountsList o a start next old new first after
  read_whole {start} {here} {next} {begun} {following = following} {k = k} up handed none some counts =
      let bytes = up.bytes ++ take k following in
      let part = Consumes-trans start.remaining here.remaining next.remaining up.bytes (take k following) up.part handed.bytes in
      record {
        items = up.takes.items ++ last_items Whole begun;
        reads = record {
          bytes = bytes;
          end = Whole;
          has = (
            Consumes-all start.remaining next.remaining bytes [] bytes part (handed.some none some) refl,
            handed.failures ∙ up.failures,
          );
          is = rw none (sym (up.takes.takes.is Whole []));
        };
        counts = counts_then up.takes.counts counts;
      }

  -- ---- a list that can't be read on

  broken : {start here next : ReaderView} {begun : Bytes} {old now new : State P} {first tally : Tally} {n : ℕ}
      → (up : ReadUpTo o a start here begun old now first tally n) → Consumes start.remaining next.remaining up.bytes
      → HasFailed start.failures next.failures ⊎ (2 ^ 64 ≤ length up.bytes + 1) → Fails (codes "-") ReadFailed now new (Err ReadFailed)
      → CountsList o a start next old new first (Some (counted tally (Err ReadFailed)))
  broken up part why fails = record {
    items = up.takes.items ++ Unread ∷ [];
    reads = record {
      bytes = up.bytes;
      end = Broken;
      has = (part, why);
      is = sym (ap (items_in Broken) (sym (append-nil up.bytes)) ∙ up.takes.takes.is Broken []);
    };
    counts = counts_then up.takes.counts (counts_one (Err ReadFailed) fails (refl, refl));
  }

  -- since a read has failed
  pub read_failed : {start here next : ReaderView} {begun : Bytes} {old now new : State P} {first tally : Tally} {n : ℕ}
      → ReadUpTo o a start here begun old now first tally n → NoneHandedOver here next
      → Fails (codes "-") ReadFailed now new (Err ReadFailed)
      → CountsList o a start next old new first (Some (counted tally (Err ReadFailed)))
  read_failed {start} {here} {next} up none fails =
      broken up (Consumes-kept start.remaining here.remaining next.remaining up.bytes up.part none.bytes)
      (inl (rw up.failures at none.failures)) fails

  -- since it is too long
  pub read_too_much : {start here : ReaderView} {begun : Bytes} {old now new : State P} {first tally : Tally} {n : ℕ}
      → ReadUpTo o a start here begun old now first tally n → 2 ^ 64 ≤ n + 1 → Fails (codes "-") ReadFailed now new (Err ReadFailed)
      → CountsList o a start here old new first (Some (counted tally (Err ReadFailed)))
  read_too_much up most fails = broken up up.part (inr (omega (arith, up.enough, most))) fails

  -- ---- the words, and then the list

  -- a file of the words has ended the run, so nothing of the list was read
  pub all_stop : {input : ReaderView} {old new : State P} → Counts o a (map Path a.files) old new no_files None
      → CountsAll o a input input old new None
  all_stop {input} c =
      let l = untouched a.reads_paths_from_input input in
      record { items = l.0; reads = l.1; counts = counts_stop l.0 c }

  -- there is no list
  pub all_words : {input : ReaderView} {old new : State P} {after : Option Tally} → a.reads_paths_from_input ≡ false
      → Counts o a (map Path a.files) old new no_files after → CountsAll o a input input old new after
  all_words none c = record {
    items = [];
    reads = rw none (refl, refl);
    counts = rw (append-nil (map Path a.files)) c;
  }

  -- and then the list
  pub all_then : {start end : ReaderView} {old mid new : State P} {tally : Tally} {after : Option Tally} → a.reads_paths_from_input ≡ true
      → Counts o a (map Path a.files) old mid no_files (Some tally) → CountsList o a start end mid new tally after
      → CountsAll o a start end old new after
  all_then some words list = record { items = list.items; reads = rw some list.reads; counts = counts_then words list.counts }

  -- ---- the last line

  -- none, where a fault has ended the run
  pub runs_stopped : {input : Use ReaderView} {old new : State P} → CountsAll o a input.before input.after old new None
      → RunsFiles o a input old new None
  runs_stopped {new = new} c = record {
    listed = c.items;
    reads = c.reads;
    answers = c.counts.answers;
    mid = new;
    runs = c.counts.runs;
    opener = refl;
    ends = rw c.counts.counts (refl, refl);
  }

  -- none, where it isn't asked for
  pub runs_silent : {input : Use ReaderView} {old new : State P} {tally : Tally}
      → CountsAll o a input.before input.after old new (Some tally)
      → a.has_summary ≡ false → RunsFiles o a input old new (Some (status_of tally))
  runs_silent {new = new} c none = record {
    listed = c.items;
    reads = c.reads;
    answers = c.counts.answers;
    mid = new;
    runs = c.counts.runs;
    opener = refl;
    ends = rw (none, c.counts.counts.1) (refl, ap (λ (tally : Tally). Some (status_of tally)) c.counts.counts.0);
  }

  pub runs_counted : {input : Use ReaderView} {old mid new : State P} {tally : Tally} {ending : Ending}
      → CountsAll o a input.before input.after old mid (Some tally)
      → a.has_summary ≡ true → new.opener ≡ mid.opener → Writes (summary a.form tally) mid new (status_of tally) ending
      → RunsFiles o a input old new ending
  runs_counted {mid = mid} c some same writes = record {
    listed = c.items;
    reads = c.reads;
    answers = c.counts.answers;
    mid = mid;
    runs = c.counts.runs;
    opener = same;
    ends = rw (some, c.counts.counts.1, ← c.counts.counts.0) writes;
  }
