-- A run over one item after another.
use Rattle.nccheck.proofs.Prelude.{Bytes, Asked, Item, ChecksItem, MatchBool, ends_run, has_ended, IsTold, Openings, RunsOver, State, Answer, Counts, IsCount, Tally, ◌≡◌, inl, inr, true, false, Bool, List, [], ◌∷◌, ◌++◌, refl, ap, Option, Some, None, Result, Ok, Err, arith}
use Rattle.std.proofs.lemmas.List.Folds.{list_any-append}
use Rattle.std.proofs.lemmas.List.Sums.{fold-append}
use Rattle.devices.specs.Sinks.{SinkView}
use Rattle.devices.specs.code.SinkWrites.{Written}

-- the line of a fault was written, whatever the call answered
pub is_told : {X E : Type 0} (old new : SinkView) (text : Bytes) (result : Result X E) → Written old new text result → IsTold old new text
is_told old new text (Ok done) written = inl written
is_told old new text (Err failure) written = inr written

-- ---- either of two

pub either : {First Second : Type 0} (b : Bool) → (b ≡ true → First) → (b ≡ false → Second) → MatchBool b First Second
either true first second = first refl
either false first second = second refl

either_map : {First Second First' Second' : Type 0} (b : Bool) → (b ≡ true → First → First') → (b ≡ false → Second → Second')
    → MatchBool b First Second → MatchBool b First' Second'
either_map true f g x = f refl x
either_map false f g x = g refl x

-- ---- one run after another

module _ {P : Type 0} (o : Openings P) (a : Asked) where
  runs_then : (items others : List Item) (old mid new : State P) (done more : List Answer) → RunsOver o a items old mid done
      → has_ended done ≡ false → RunsOver o a others mid new more → RunsOver o a (items ++ others) old new (done ++ more)
  runs_then [] others old mid new done more r none next = rw (r.1, ← r.0) next
  runs_then (item ∷ items) others old mid new done more r none next = record {
    mid = r.mid;
    answer = r.answer;
    others = r.others ++ more;
    first = r.first;
    goes_on = either_map (ends_run r.answer) (λ ends x. absurd (grind (arith, r.all, none, ends)))
        (λ on x. runs_then items others r.mid mid new r.others more x (grind (arith, r.all, none, on)) next) r.goes_on;
    all = ap (λ (answers : List Answer). answers ++ more) r.all;
  }

  -- after a fault nothing else is checked
  runs_stop : (items others : List Item) (old new : State P) (done : List Answer) → RunsOver o a items old new done
      → has_ended done ≡ true → RunsOver o a (items ++ others) old new done
  runs_stop [] others old new done r ended = absurd (grind (arith, r.1, ended))
  runs_stop (item ∷ items) others old new done r ended = record {
    mid = r.mid;
    answer = r.answer;
    others = r.others;
    first = r.first;
    goes_on = either_map (ends_run r.answer) (λ ends x. x)
        (λ on x. runs_stop items others r.mid new r.others x (grind (arith, r.all, ended, on))) r.goes_on;
    all = r.all;
  }

-- ---- counted

count_then : (first mid : Tally) (done more : List Answer) (after : Option Tally) → IsCount first done (Some mid) → IsCount mid more after
    → IsCount first (done ++ more) after
count_then first mid done more (Some after) one two = grind (arith, one.0, one.1, two.0, two.1, fold-append, list_any-append)
count_then first mid done more None one two = grind (arith, one.1, two, list_any-append)

-- after an answer that ends the run, a path was not checked
pub ended_at : (t : Tally) (answer : Answer) → ends_run answer ≡ true → IsCount t (answer ∷ []) None
ended_at t (Ok reported) ends = absurd cc
ended_at t (Err fault) ends = rw ends refl

module _ {P : Type 0} {o : Openings P} {a : Asked} where
  pub counts_none : (now : State P) (tally : Tally) → Counts o a [] now now tally (Some tally)
  counts_none now tally = record { answers = []; runs = (refl, refl); counts = (refl, refl) }

  pub counts_one : {item : Item} {old new : State P} {tally : Tally} {after : Option Tally} (answer : Answer)
      → ChecksItem o a item old new answer
      → IsCount tally (answer ∷ []) after → Counts o a (item ∷ []) old new tally after
  counts_one {new = new} answer checks counts = record {
    answers = answer ∷ [];
    runs = record {
      mid = new;
      answer = answer;
      others = [];
      first = checks;
      goes_on = either (ends_run answer) (λ ends. (refl, refl)) (λ on. (refl, refl));
      all = refl;
    };
    counts = counts;
  }

  -- items, and then others
  pub counts_then : {items others : List Item} {old mid new : State P} {first between : Tally} {after : Option Tally}
      → Counts o a items old mid first (Some between) → Counts o a others mid new between after
      → Counts o a (items ++ others) old new first after
  counts_then {items} {others} {old} {mid} {new} {first} {between} {after} one two = record {
    answers = one.answers ++ two.answers;
    runs = runs_then o a items others old mid new one.answers two.answers one.runs one.counts.1 two.runs;
    counts = count_then first between one.answers two.answers after one.counts two.counts;
  }

  -- items of which one has ended the run, so that others don't matter
  pub counts_stop : {items : List Item} (others : List Item) {old new : State P} {tally : Tally} → Counts o a items old new tally None
      → Counts o a (items ++ others) old new tally None
  counts_stop {items} others {old} {new} c = record {
    answers = c.answers;
    runs = runs_stop o a items others old new c.answers c.runs c.counts;
    counts = c.counts;
  }
