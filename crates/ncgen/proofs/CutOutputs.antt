-- What an output holds that could not be written.
use Rattle.ncgen.proofs.Prelude.{HasFailed, SinkView, FailedPartway, IsCut, IsPrefix, IsPrefixIf, StoppedShort, append, is_transparent, ℕ, ◌≡◌, Bool, true, List, [], ◌++◌, Option, Some, None, Result, Ok, Err, inl, inr, refl, ap, subst, ◌∙◌, ◌+◌, ◌-◌, ◌^◌, min, is_some, option_map}
use Rattle.std.proofs.lemmas.Bool.{OnTrue_at, OnTrue_from}
use Rattle.devices.specs.Creators.{CreatorView, give}
use Rattle.devices.specs.code.Creations.{Closed, CreatedAt}
use Rattle.ncgen.specs.Outputs.{IsCutShortAt, created_at}

-- the sink's one failure is the creator's
one_failure : (before : CreatorView) (new : CreatorView) (sink : SinkView) → HasFailed 0 sink.failures → new.failures ≡ min (before.failures + sink.failures) (2 ^ 128 - 1) → HasFailed before.failures new.failures
unfolding HasFailed
one_failure before new sink one added = added ∙ ap (λ (n : ℕ). min (before.failures + n) (2 ^ 128 - 1)) one

-- it was empty before, and has taken a prefix of the text
prefix_taken : (start sink : SinkView) (file : List ℕ) → start.taken ≡ Some [] → FailedPartway start sink file
    → (prefix : List ℕ) × (sink.taken ≡ Some prefix) × IsPrefix prefix file
unfolding append IsCut is_transparent
prefix_taken start sink file empty partway =
    let known : is_transparent start ≡ true = ap (λ (t : Option (List ℕ)). is_some t) empty in
    let short = OnTrue_at {P = StoppedShort start sink (append start file)} known partway.taken in
    let cut : IsPrefixIf sink.taken (Some file) = subst (IsPrefixIf sink.taken) (ap (λ (t : Option (List ℕ)). option_map (λ prefix. prefix ++ file) t) empty) short.cut in
    of_prefix sink.taken file cut
  where
    of_prefix : (taken : Option (List ℕ)) (file : List ℕ) → IsPrefixIf taken (Some file) → (prefix : List ℕ) × (taken ≡ Some prefix) × IsPrefix prefix file
    of_prefix None file cut = absurd cut
    of_prefix (Some prefix) file cut = (prefix, refl, cut)

-- so does the path, unless the output could not be closed
pub cut_short : {A E : Type 0} (known : Bool) (old between new : CreatorView) (path file : List ℕ) (start sink : SinkView) (closed : Result A E)
    → CreatedAt known old between path start → FailedPartway start sink file → Closed known between new path sink closed
    → IsCutShortAt (record { is_transparent = known; before = old; after = new }) path file
cut_short known old between new path file start sink (Ok done) created partway closed = record {
  creations = closed.creations ∙ created.creations;
  failures = subst (λ n. HasFailed n new.failures) created.failures (one_failure between new sink (subst (λ n. HasFailed n sink.failures) created.sink_failures partway.failures) closed.failed);
  given = OnTrue_from _ _ (λ is.
      let taken = prefix_taken start sink file (OnTrue_at {P = start.taken ≡ Some []} is created.sink_taken) partway in
      let before = OnTrue_at {P = between.given ≡ created_at old path} is created.given in
      let after = OnTrue_at {P = new.given ≡ give between.given path sink.taken} is closed.given in
      inr (record {
        prefix = taken.0;
        is_prefix = taken.2;
        given = after ∙ ap (λ given. give given path sink.taken) before ∙ ap (give (created_at old path) path) taken.1;
      }));
}
cut_short known old between new path file start sink (Err failure) created partway closed = record {
  creations = closed.creations ∙ created.creations;
  failures = subst (λ n. HasFailed n new.failures) created.failures closed.failures;
  given = OnTrue_from _ _ (λ is. inl (closed.given ∙ OnTrue_at {P = between.given ≡ created_at old path} is created.given));
}
