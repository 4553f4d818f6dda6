-- A list of dimensions, one dimension on.
use Rattle.cdl_statements.proofs.Prelude.{◌≡◌, Bool, true, false, List, [], ◌∷◌, refl, ◌∙◌, if◌then◌else◌, arith, rules, false≢true, Version, dimensions_said, dimension_said, completes, next, Lexeme, and_right, DimensionName}
use Rattle.cdl_statements.proofs.Dimensions.{completes_one, completes_two, completes_three, four, separator_more}

-- no dimension ends after its first, second or third token
pub first_goes : (n : Lexeme) (ws rest : List Lexeme) (b : Bool) → completes DimensionName ws ≡ true → ws ≡ n ∷ (if b then [] else rest) → b ≡ false
first_goes n ws rest b h h2 = grind (arith, false≢true, completes_one)

pub second_goes : (n e : Lexeme) (ws more rest : List Lexeme) (b : Bool) → completes DimensionName ws ≡ true → ws ≡ n ∷ more → more ≡ e ∷ (if b then [] else rest) → b ≡ false
second_goes n e ws more rest b h h2 h3 = grind (arith, false≢true, completes_two)

pub third_goes : (n e l : Lexeme) (ws more rest : List Lexeme) (b : Bool) → completes DimensionName ws ≡ true → ws ≡ n ∷ e ∷ more → more ≡ l ∷ (if b then [] else rest) → b ≡ false
third_goes n e l ws more rest b h h2 h3 = grind (arith, false≢true, completes_three)

-- a token that isn't its list's last
pub on : (n : Lexeme) (ws rest : List Lexeme) (b : Bool) → ws ≡ n ∷ (if b then [] else rest) → b ≡ false → ws ≡ n ∷ rest
on n ws rest b is off = is ∙ rw (off) refl

pub said_on : (v : Version) (n e l c : Lexeme) (ws rest : List Lexeme) (b : Bool) → ws ≡ n ∷ e ∷ l ∷ c ∷ (if b then [] else rest) →
    dimensions_said v ws ≡ dimension_said v n l ∷ (if b then [] else dimensions_said v rest)
unfolding dimensions_said
said_on v n e l c ws rest b h = grind arith

pub shaped_on : (n e l c r : Lexeme) (ws rest rs : List Lexeme) (b : Bool) → completes DimensionName ws ≡ true → ws ≡ n ∷ e ∷ l ∷ c ∷ (if b then [] else rest) → b ≡ false → rest ≡ r ∷ rs → completes DimensionName rest ≡ true
shaped_on n e l c r ws rest rs b h is off more = search (rules, next, four, separator_more, and_right)
