use Rattle.cdl_values.proofs.Prelude.{word_value, BadName, UnknownVariable, Fault, Target, target_at, target_of, unless_given, position_of, option_map, slice_get, rules, refl, if◌then◌else◌, Err, None, Some, Option, List, ℕ, true, false, nat_lt, length, get_or, is_some, arith, ◌≡◌, ◌∙◌, ap, sym}
use Rattle.std.proofs.Common.{Bor}
use Rattle.std.proofs.lemmas.Option.{slice_get_past, slice_get_read}
use Rattle.std.specs.Option.{IfSome}
use Rattle.std.specs.Result.{result_ok}
use Rattle.nc_types.specs.Names.{is_name}
use Rattle.cdl_values.specs.declared.data.FoundTarget.{FoundTarget}
use Rattle.cdl_values.proofs.AllowedNames.{not_allowed, refused}
use Rattle.cdl_values.proofs.data.target_of.Goals as goal

said_at : (names : List (List ℕ)) (targets : List Target) (name read : List ℕ) (found : Option ℕ) → is_name name ≡ true → read ≡ name → found ≡ position_of names read → target_of names targets name ≡ target_at targets found
said_at names targets name read found allowed is at = rw (allowed) (ap (target_at targets) (sym (at ∙ ap (position_of names) is)))

got_at : (targets : List Target) (k : ℕ) (r : Option (Bor Target)) → is_some r ≡ nat_lt k (length targets) → IfSome r (λ x. x.now ≡ get_or targets k x.now) → option_map (λ (t : Bor Target). t.now) r ≡ slice_get targets k
got_at targets k None past is = sym (slice_get_past targets k (let e : false ≡ nat_lt k (length targets) = past in grind (arith, e)))
got_at targets k (Some x) within is = sym (slice_get_read targets (length targets) k x.now refl (let e : true ≡ nat_lt k (length targets) = within in grind (arith, e)) is)

taken_at : (names : List (List ℕ)) (targets : List Target) (name read : List ℕ) (found : Option ℕ) (k : ℕ) (r : Option (Bor Target)) → is_name name ≡ true → read ≡ name → found ≡ position_of names read → found ≡ Some k →
    is_some r ≡ nat_lt k (length targets) → IfSome r (λ x. x.now ≡ get_or targets k x.now) → target_of names targets name ≡ unless_given (option_map (λ (t : Bor Target). t.now) r)
taken_at names targets name read found k r allowed is at some within item = said_at names targets name read found allowed is at ∙ ap (target_at targets) some ∙ ap unless_given (sym (got_at targets k r within item))

pub returns-in_err-name-clause-target : goal.returns-in_err-name-clause-target
returns-in_err-name-clause-target c =
    let names = c.args.names.now in let name = word_value c.args.word.now in let e = c.in_err-name.field-0.0 in
    refused (λ (place : FoundTarget). place.target) c.from_residual.result e (target_of names c.args.targets.now name) (search rules)
    (not_allowed e name (λ named. if named then target_at c.args.targets.now (position_of names name) else Err BadName) refl c.in_err-name.ensures.fault)

pub returns-in_err-position-clause-target : goal.returns-in_err-position-clause-target
returns-in_err-position-clause-target c =
    let read = said_at c.args.names.now c.args.targets.now (word_value c.args.word.now) c.as_slice.result.now c.find.result c.in_ok-name.ensures.allowed (c.as_slice.ensures.value ∙ c.in_ok-name.ensures.name) c.find.ensures in
    let none : c.find.result ≡ None = search rules in refused (λ (place : FoundTarget). place.target) c.from_residual-in_err-position.result (Fault UnknownVariable) _ (search rules) (read ∙ ap (target_at c.args.targets.now) none)

pub returns-in_err-target-clause-target : goal.returns-in_err-target-clause-target
returns-in_err-target-clause-target c =
    let read = taken_at c.args.names.now c.args.targets.now (word_value c.args.word.now) c.as_slice.result.now c.find.result c.in_ok-position.position c.get.result c.in_ok-name.ensures.allowed (c.as_slice.ensures.value ∙ c.in_ok-name.ensures.name) c.find.ensures
    (c.ok_or.ensures.ok_part ∙ ap result_ok c.in_ok-position.was) c.get.ensures.lookup.0 c.get.ensures.lookup.1 in
    refused (λ (place : FoundTarget). place.target) c.from_residual-in_err-target.result (Fault c.in_err-target.field-0.0) _ (search rules) (read ∙ sym c.unless_given.ensures ∙ c.in_err-target.was)

pub returns-clause-target : goal.returns-clause-target
returns-clause-target c =
    taken_at c.args.names.now c.args.targets.now (word_value c.args.word.now) c.as_slice.result.now c.find.result c.in_ok-position.position c.get.result c.in_ok-name.ensures.allowed (c.as_slice.ensures.value ∙ c.in_ok-name.ensures.name) c.find.ensures
    (c.ok_or.ensures.ok_part ∙ ap result_ok c.in_ok-position.was) c.get.ensures.lookup.0 c.get.ensures.lookup.1 ∙ sym c.unless_given.ensures ∙ c.in_ok-target.was
