use Rattle.cdl_print.proofs.Prelude.{arith, refl, ap, sym, ◌∙◌, ◌++◌, List, ℕ, take, append_assoc, some_size, numbers_text}
use Rattle.cdl_print.proofs.Joined.{number_values-parts}
use Rattle.cdl_print.proofs.number.gather_numbers.Goals as goal

pub loop-rest-init : goal.loop-rest-init
loop-rest-init c =
    let ty = c.args.ty in
    let cut = c.split_at in
    let parts = number_values-parts ty c.size-size.result c.args.vals.now cut.result.0.now cut.result.1.now _ c.size-size.ensures (omega (arith, c.size-size.ensures, c.requires.some)) cut.ensures.front cut.ensures.back refl in
    record {
      text = parts ∙ ap (λ (t : List ℕ). t ++ numbers_text ty cut.result.1.now) (sym c.put_suffixed_number-end.ensures.text);
      inside = omega (arith, c.put_suffixed_number-end.ensures.short, c.requires.fits);
      fewer = omega (arith, cut.ensures.back_len, some_size ty, c.size-size.ensures);
    }

pub loop-rest-preserved : goal.loop-rest-preserved
loop-rest-preserved c =
    let ty = c.args.ty in
    let l = c.loop-rest in
    let cut = c.split_at-in-loop-rest in
    let put = c.put_suffixed_number-end-in-loop-rest.ensures in
    let parts = number_values-parts ty c.size-size.result l.rest.now cut.result.0.now cut.result.1.now _ c.size-size.ensures c.loop-rest-test.true cut.ensures.front cut.ensures.back refl in
    record {
      text = l.invariant.text ∙ ap (λ (t : List ℕ). take l.end l.text ++ t) parts ∙ sym (append_assoc (take l.end l.text) _ _) ∙ ap (λ (t : List ℕ). t ++ numbers_text ty cut.result.1.now) (sym put.text);
      inside = omega (arith, put.short, c.if-text-end-ge-MOST.true);
      fewer = omega (arith, cut.ensures.back_len, l.invariant.fewer);
    }
