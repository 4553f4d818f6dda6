use Rattle.nc_base.proofs.Prelude.{◌≡◌, ◌-◌, ◌∙◌, sym, ap, take, lit<, Some, None, arith, rfind_char}
use Rattle.nc_base.proofs.PathLemmas.{without_extension-IsLastPlace, without_extension-same}
use Rattle.nc_base.proofs.path.without_extension.Goals as goal

pub returns-in-Some : goal.returns-in-Some
returns-in-Some c =
    let last = rfind_char 46 c.args.name.now (Some c.in-Some.dot) c.in-Some.ensures.cases (lit< tt) in
    let from_start : c.in-Some.dot - 0 ≡ c.in-Some.dot = omega arith in
    c.range.ensures.value
    ∙ ap (λ n. take n c.args.name.now) from_start
    ∙ sym (without_extension-IsLastPlace c.args.name.now c.in-Some.dot (record { within = last.0; at = last.1; following = last.2 }) (omega arith))

pub returns-in_default : goal.returns-in_default
returns-in_default c =
    let last = rfind_char 46 c.args.name.now (Some c.in-Some.dot) c.in-Some.ensures.cases (lit< tt) in
    sym (without_extension-same c.args.name.now (λ i first below. last.2 i (omega (arith, first)) below))

pub returns-in_default-2 : goal.returns-in_default-2
returns-in_default-2 c =
    let none = rfind_char 46 c.args.name.now None c.in_default.ensures.cases (lit< tt) in
    sym (without_extension-same c.args.name.now (λ i first below. none i below))
