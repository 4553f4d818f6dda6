-- Texts in a style, one after the other.
use Rattle.std.proofs.Common.{◌≡◌, ◌∙◌, ℕ, ◌/◌, zero, suc, false, true, List, [], ◌∷◌, ◌++◌, decimal, None, refl, sym, ap, append_assoc, arith}
use Rattle.std.specs.Fmt.{digits, digits_onto}
use Rattle.std.specs.List.{list_all}
use Rattle.nc_types.specs.Bytes.{concat_parts}
use Rattle.devices.specs.Sinks.{SinkView, append}
use Rattle.devices.proofs.Writes.{append-++, append-none, writes}
use Rattle.check_lines.specs.Json.{is_plain, json_byte, json_text}
use Rattle.check_lines.specs.Shown.{each_of}
use Rattle.check_lines.specs.code.Styles.{byte_in, each_in, in_style, said_in}
use Rattle.check_lines.specs.declared.style.Style.{Style}
use Rattle.check_lines.specs.declared.style.Style.TheVariants.{Line, Json}

-- ---- what needs no escape

-- bytes that each stand for themselves
pub plain_json : (text : List ℕ) → list_all is_plain text ≡ true → json_text text ≡ text
unfolding json_text concat_parts
plain_json [] all = refl
plain_json (b ∷ bs) all = grind (arith, plain_json bs)

plain_digits : (k n : ℕ) (after : List ℕ) → list_all is_plain after ≡ true → list_all is_plain (digits_onto k 10 false n after) ≡ true
plain_digits zero n after all = all
plain_digits (suc k) n after all = grind (arith, plain_digits k (n / 10))

plain_decimal : (n : ℕ) → list_all is_plain (decimal n) ≡ true
unfolding digits
plain_decimal n = plain_digits 64 n [] refl

pub in_style-decimal : (style : Style) (n : ℕ) → in_style style (decimal n) ≡ decimal n
unfolding in_style
in_style-decimal Line n = refl
in_style-decimal Json n = plain_json (decimal n) (plain_decimal n)

-- ---- one text after the other

pub said_in-none : (style : Style) (word name : List ℕ) → said_in style word name None ≡ []
unfolding said_in
said_in-none Line word name = refl
said_in-none Json word name = refl

pub in_style-none : (style : Style) → in_style style [] ≡ []
unfolding in_style json_text concat_parts
in_style-none Line = refl
in_style-none Json = refl

json_append : (a b : List ℕ) → json_text (a ++ b) ≡ json_text a ++ json_text b
unfolding json_text concat_parts
json_append [] b = refl
json_append (x ∷ a) b =
    ap (λ (text : List ℕ). json_byte x ++ text) (json_append a b) ∙ sym (append_assoc (json_byte x) (json_text a) (json_text b))

in_style-append : (style : Style) (a b : List ℕ) → in_style style (a ++ b) ≡ in_style style a ++ in_style style b
unfolding in_style
in_style-append Line a b = refl
in_style-append Json a b = json_append a b

pub in_style-parts : (s : SinkView) (style : Style) (part : List ℕ) (parts : List (List ℕ))
    → append s (in_style style (concat_parts (part ∷ parts)))
    ≡ append (append s (in_style style part)) (in_style style (concat_parts parts))
unfolding concat_parts
in_style-parts s style part parts =
    ap (append s) (in_style-append style part (concat_parts parts))
    ∙ append-++ s (in_style style part) (in_style style (concat_parts parts))

pub in_style-no_parts : (s : SinkView) (style : Style) → append s (in_style style (concat_parts [])) ≡ s
unfolding concat_parts
in_style-no_parts s style = ap (append s) (in_style-none style) ∙ append-none s

-- the texts of bytes
pub in_style-each : (style : Style) (f : ℕ → List ℕ) (xs : List ℕ) → in_style style (each_of f xs) ≡ each_in style f xs
unfolding concat_parts byte_in
in_style-each style f [] = in_style-none style
in_style-each style f (x ∷ xs) =
    in_style-append style (f x) (each_of f xs) ∙ ap (λ (text : List ℕ). in_style style (f x) ++ text) (in_style-each style f xs)

pub ruleset styled = (writes, in_style-decimal, in_style-none, in_style-parts, in_style-no_parts, in_style-each, said_in-none)
