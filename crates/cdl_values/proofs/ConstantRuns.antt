-- A run of constants, one constant on.
use Rattle.cdl_values.proofs.Prelude.{NcType, Version, Cutter, Lexeme, IsAtComma, Passes, PassesNumber, parts_or_zero, held, Parts, value_of, values, words, version_of, add_constant, in_turn, ContinuesRead, ReadError, past_mark, same_words, FailsRead, ◌≡◌, ℕ, List, ◌∷◌, sym, ap, rules, arith, Option, None, Some, Err, Result, option_map, subst, ⊤}
use Rattle.cdl_values.specs.code.TokenValues.{AddsNumber, MovesOn, TakesConstants, constants_on}
use Rattle.cdl_tokens.specs.declared.numeral.Numeral.{Numeral}
use Rattle.cdl_statements.proofs.Dues.{kind_of_mark}
use Rattle.cdl_statements.specs.code.ValueLists as lists
use Rattle.cdl_values.proofs.ConstantBytes.{turn_on}

-- ---- where the cutter is

pub unmoved : (start : Cutter) → IsAtComma start → MovesOn start start
unmoved start at = search rules

pub moved : (start between rest : Cutter) → MovesOn start between → MovesOn between rest → MovesOn start rest
moved start between rest so next = search rules

pub moved_past : (start rest : Cutter) (l : Lexeme) → Passes start rest l → MovesOn start rest
moved_past start rest l passes = search rules

-- ---- what is left

-- past a comma and a token
pub words_past : (v : Version) (start rest : Cutter) (l : Lexeme) → IsAtComma start → Passes start rest l → values v (words start) ≡ values v (l ∷ words rest)
words_past v start rest l at passes = search (rules, past_mark, kind_of_mark)

-- one token more
pub token_turn : (ty : NcType) (v w : Version) (start rest : Cutter) (l : Lexeme) (before between : List ℕ) → w ≡ v → IsAtComma start → Passes start rest l →
    in_turn (add_constant ty) before (values w (l ∷ words rest)) ≡ constants_on ty w between rest → constants_on ty v before start ≡ constants_on ty v between rest
token_turn ty v w start rest l before between same at passes h = search (rules, words_past)

held_parts : (n : Numeral) (r : Option Parts) → Some n ≡ option_map held r → n ≡ held (parts_or_zero r)
held_parts n None h = cc
held_parts n (Some p) h = grind (arith, h)

-- a number more
pub number_turn : (ty : NcType) (v : Version) (start rest : Cutter) (n : Numeral) (before after : List ℕ) (r : Result ⊤ ReadError) → IsAtComma start → PassesNumber start rest n → AddsNumber ty n before after r →
    ContinuesRead (λ (u : ⊤). constants_on ty v after rest) r (constants_on ty v before start)
unfolding values value_of
number_turn ty v start rest n before after r at p adds = search (rules, turn_on, words_past, held_parts)

-- ---- at the same place

pub moved_to : (start there : Cutter) → lists.SamePlace there start → IsAtComma start → MovesOn start there
moved_to start there same at = search rules

pub left_at : (ty : NcType) (v : Version) (bytes : List ℕ) (c d : Cutter) → lists.SamePlace c d → constants_on ty v bytes c ≡ constants_on ty v bytes d
left_at ty v bytes c d same = ap (λ (ls : List Lexeme). in_turn (add_constant ty) bytes (values v ls)) (same_words c d same)

-- ---- one run after the other

pub then_takes : (ty : NcType) (start middle : Cutter) (before between after : List ℕ) (r : Result Cutter ReadError) → version_of middle ≡ version_of start →
    constants_on ty (version_of start) before start ≡ constants_on ty (version_of start) between middle → TakesConstants ty middle between after r → TakesConstants ty start before after r
then_takes ty start middle before between after r version so h = search rules

-- a fault among the constants that are left is that of all
pub is_wrong : (ty : NcType) (start : Cutter) (before after : List ℕ) (r : Result Cutter ReadError) (e : ReadError) → r ≡ Err e → FailsRead e (constants_on ty (version_of start) before start) → TakesConstants ty start before after r
is_wrong ty start before after r e is h = subst (λ (r : Result Cutter ReadError). TakesConstants ty start before after r) (sym is) h
