use Rattle.std.proofs.Common.{ℕ, ◌≡◌, ◌∙◌, Bool, true, List, [], ◌∷◌, refl, sym, subst, arith}
use Rattle.std.specs.List.{list_all}
use Rattle.nc_types.specs.Bytes.{concat_parts}
use Rattle.devices.specs.code.SinkWrites.{Wrote}
use Rattle.check_lines.specs.Shown.{each_of, shown_byte, stays}
use Rattle.check_lines.specs.code.Styles.{in_style}
use Rattle.check_lines.specs.declared.shown.Form.{Form}
use Rattle.check_lines.proofs.Styled.{in_style-each}
use Rattle.check_lines.proofs.shown.put_bytes.Goals as goal

-- bytes that each stand for themselves
all_stay : (form : Form) (in_octal : Bool) (bytes : List ℕ) → list_all (stays form in_octal) bytes ≡ true
    → bytes ≡ each_of (shown_byte form in_octal) bytes
unfolding concat_parts
all_stay form in_octal [] all = refl
all_stay form in_octal (b ∷ bs) all = grind (arith, all_stay form in_octal bs)

pub returns-then-all_stay : goal.returns-then-all_stay
returns-then-all_stay g c =
    subst (λ (text : List ℕ). Wrote g.W.Sink.view c.args.sink.now c.put_text.new.sink (in_style c.args.style text) c.put_text.result)
    (all_stay c.args.form c.args.in_octal c.args.bytes.now (sym c.all_stay.ensures ∙ c.if-all_stay.true)) c.put_text.ensures

pub returns-else-all_stay : goal.returns-else-all_stay
returns-else-all_stay g c =
    subst (λ (text : List ℕ). Wrote g.W.Sink.view c.args.sink.now c.put_each.new.sink text c.put_each.result)
    (sym (in_style-each c.args.style (shown_byte c.args.form c.args.in_octal) c.args.bytes.now)) c.put_each.ensures
