use Rattle.nc_rules.proofs.Prelude.{one_answer, chars, IsUtf8, is_utf8, false_from_ne_true, is_not_nfc, ◌≡◌, Bool, true, false, List, ℕ, not, ◌&&◌, IsTrue, ◌↔◌, ap, sym, ◌∙◌}
use Rattle.std.proofs.lemmas.Str.{IsUtf8-from_is_utf8, is_utf8-from_IsUtf8}
use Rattle.unicode_normalization.specs.Forms.{Nfc, IsInForm, is_nfc}
use Rattle.unicode_normalization.proofs.FormsLemmas.{is_in_form-true, is_in_form_from}
use Rattle.nc_rules.proofs.field_rules.is_not_nfc.Goals as goal

tested : (b : Bool) (text bytes : List ℕ) → text ≡ bytes → IsUtf8 bytes → (IsTrue b ↔ IsInForm Nfc (chars text)) → not b ≡ is_not_nfc bytes
tested b text bytes same utf8 is =
    let decided : b ≡ is_nfc (chars text) = one_answer b (is_nfc (chars text)) (is.0, is.1)
    (is_in_form-true Nfc (chars text), is_in_form_from Nfc (chars text)) in
    ap not (decided ∙ ap (λ bs. is_nfc (chars bs)) same) ∙ ap (λ t. t && not (is_nfc (chars bytes))) (sym (is_utf8-from_IsUtf8 bytes utf8))

pub returns-in_ok-is_nfc-in-Ok : goal.returns-in_ok-is_nfc-in-Ok
returns-in_ok-is_nfc-in-Ok c =
    tested c.in_ok-is_nfc-in-Ok.field-0 c.in-Ok.text.now c.args.bytes.now c.in-Ok.ensures.cases.0 c.in-Ok.ensures.cases.1
    c.in_ok-is_nfc-in-Ok.ensures.answer

pub returns-in-Err : goal.returns-in-Err
returns-in-Err c =
    let none = λ (h : is_utf8 c.args.bytes.now ≡ true). c.in-Err.ensures.cases.0 (IsUtf8-from_is_utf8 c.args.bytes.now h) in
    let no : is_utf8 c.args.bytes.now ≡ false = false_from_ne_true _ none in
    ap (λ t. t && not (is_nfc (chars c.args.bytes.now))) (sym no)
