-- Names, strings and numbers are read back, each as one token.
use Rattle.cdl_laws.proofs.Prelude.{◌≡◌, ℕ, ◌+◌, true, false, List, [], ◌∷◌, ◌++◌, length, get_or, sym, ◌∙◌, ap, refl, subst, arith, ◌||◌, ◌==◌, codes, ◌≤◌, false≢true, eqb-true, take-append-drop, get_or-drop, take-append_seam, is_reserved, is_blank, word_len, begins_opening, and_right, word_at_start, or_second, prefix_len, escaped_name, escaped_text, goes_on_number, scan, stands_for, NamesReadBack, StopsNumber, and_left, number_suffix}
use Rattle.cdl_laws.proofs.Readings.{is_stop, stop_word, name_word, some_name, free_word, begins, name_len, name_value, numeral_again, value_again, number_is, value_is, on_suffix, unescape_all, between_quotes, string_token}
use Rattle.cdl_laws.proofs.Attributes.{small_is}
use Rattle.cdl_laws.proofs.laws.token_reads_back.Goals as goal

-- what stands after the word of an opening
opens_stop : (b : ℕ) → (is_blank b || b == 0x7b) ≡ true → is_stop b ≡ true
opens_stop b h = elim (is_blank b) as (λ w. is_blank b ≡ w → is_stop b ≡ true) [
  | true ↦ (λ e. let low : b ≤ 0x20 = grind (arith, e) in grind (arith, low))
  | false ↦ (λ e. subst (λ n. is_stop n ≡ true) (sym (eqb-true b 0x7b (or_second (is_blank b) (b == 0x7b) h e))) refl)
] refl

ends_word : (bs : List ℕ) → (is_blank (get_or bs 0 0) || get_or bs 0 0 == 0x7b) ≡ true → word_len bs ≡ 0
unfolding word_len
ends_word [] h = refl
ends_word (b ∷ bs) h = stop_word (b ∷ bs) (opens_stop b h)

six_letters : (bs : List ℕ) → word_len (codes "netcdf" ++ bs) ≡ 6 + word_len bs
unfolding word_len
six_letters bs = ap (λ n. 1 + (1 + (1 + (1 + (1 + n))))) (word_at_start 102 bs) ∙ omega arith

-- a word that is not reserved begins no opening, whose word is `netcdf`
pub free_begins : (w rest : List ℕ) → is_reserved w ≡ false → word_len (w ++ rest) ≡ length w → begins_opening (w ++ rest) ≡ false
unfolding is_reserved
free_begins w rest free len =
    grind (arith, take-append_seam w rest, codes, false≢true, get_or-drop, ends_word, and_right, take-append-drop, six_letters)

names_read_back : NamesReadBack
unfolding scan word_len
names_read_back [] h = absurd (false≢true (some_name [] h))
names_read_back (b ∷ bs) h =
    let word = name_word (b ∷ bs) h in
    record {
      token = λ rest stops. grind (arith, and_left, begins, name_len, free_begins);
      free = word.free;
      no_section = (free_word (escaped_name (b ∷ bs)) word.free).1;
      value = grind (arith, and_left, some_name, and_right, begins, name_value);
      says = word.stands;
    }

pub returns-clause-names : goal.returns-clause-names
returns-clause-names c = names_read_back

pub returns-clause-strings : goal.returns-clause-strings
unfolding escaped_text
returns-clause-strings c = λ bytes. grind (arith, string_token, unescape_all, stands_for, between_quotes)

stop_number : (rest : List ℕ) → StopsNumber rest → prefix_len goes_on_number rest ≡ 0
stop_number [] h = refl
stop_number (b ∷ rest) h = rw (h) refl

pub returns-clause-constants : goal.returns-clause-constants
returns-clause-constants c = λ v ty n other known range. record {
  token = λ rest stop fresh. (number_is n (number_suffix ty) (small_is ty n range) (on_suffix ty) rest (stop_number rest stop)).0 fresh;
  value = numeral_again v ty n (small_is ty n range) known other;
}

pub returns-clause-values : goal.returns-clause-values
returns-clause-values c = λ v ty n other known range. record {
  token = λ rest stop fresh. (value_is n (small_is ty n range) rest (stop_number rest stop)).0 fresh;
  value = value_again v n (small_is ty n range);
}
