-- What the tokens of a statement of dimensions make of the dimensions.
use Rattle.cdl_parse.proofs.Prelude.{◌≡◌, ℕ, Bool, true, false, List, [], ◌∷◌, ◌++◌, refl, sym, ap, ◌∙◌, subst, Result, Ok, if◌then◌else◌, Dim, Version, completes, Lexeme, Dimension, DimensionName, CdlKind, BadName, DuplicateName, first_goes, second_goes, third_goes, on, add_dim, dim_len_of, unless, when, Leaves, ReadError, is_dimension_name, ◌>>=◌, ⊤, is_name as is_format_name}
pub use Rattle.cdl_parse.proofs.AttributeReads.{fails_then, refused}
pub use Rattle.cdl_parse.proofs.TakenNames.{fails_after, named}

-- ---- a dimension

-- the dimensions with one more, whose length this is, if it has no fault
abbrev pub with_len : List Dim → List ℕ → Result ℕ CdlKind → Result (List Dim) CdlKind
with_len dims name read = read >>= (λ len. Ok (dims ++ record { name = name; len = len } ∷ []))

pub name_first : (v : Version) (dims : List Dim) (d : Dimension) → add_dim v dims d ≡ (unless (is_format_name d.name) BadName >>= (λ u. when (is_dimension_name d.name dims) DuplicateName >>= (λ w. with_len dims d.name (dim_len_of v dims d.len))))
unfolding add_dim
name_first v dims d = refl

pub leaves_as : {A : Type 0} (after : A) (r : Result ⊤ ReadError) (read other : Result A CdlKind) → read ≡ other → Leaves after r other → Leaves after r read
leaves_as after r read other is h = subst (λ x. Leaves after r x) (sym is) h

-- ---- its tokens

-- no dimension ends after its second or third token
pub equals_goes : (n e : Lexeme) (ws es ls : List Lexeme) (a b : Bool) → completes DimensionName ws ≡ true → ws ≡ n ∷ (if a then [] else es) → es ≡ e ∷ (if b then [] else ls) → b ≡ false
equals_goes n e ws es ls a b shaped first second = second_goes n e ws es ls b shaped (on n ws es a first (first_goes n ws es a shaped first)) second

two_on : (n e : Lexeme) (ws es ls : List Lexeme) (a b : Bool) → completes DimensionName ws ≡ true → ws ≡ n ∷ (if a then [] else es) → es ≡ e ∷ (if b then [] else ls) → ws ≡ n ∷ e ∷ ls
two_on n e ws es ls a b shaped first second =
    on n ws es a first (first_goes n ws es a shaped first) ∙ ap (λ xs. n ∷ xs) (on e es ls b second (equals_goes n e ws es ls a b shaped first second))

pub length_goes : (n e l : Lexeme) (ws es ls ss : List Lexeme) (a b c : Bool) → completes DimensionName ws ≡ true → ws ≡ n ∷ (if a then [] else es) → es ≡ e ∷ (if b then [] else ls) → ls ≡ l ∷ (if c then [] else ss) → c ≡ false
length_goes n e l ws es ls ss a b c shaped first second third = third_goes n e l ws ls ss c shaped (two_on n e ws es ls a b shaped first second) third

-- all four
pub four_on : (n e l s : Lexeme) (ws es ls ss rest : List Lexeme) (a b c d : Bool) → completes DimensionName ws ≡ true → ws ≡ n ∷ (if a then [] else es) → es ≡ e ∷ (if b then [] else ls) → ls ≡ l ∷ (if c then [] else ss) → ss ≡ s ∷ (if d then [] else rest) →
    ws ≡ n ∷ e ∷ l ∷ s ∷ (if d then [] else rest)
four_on n e l s ws es ls ss rest a b c d shaped first second third fourth =
    two_on n e ws es ls a b shaped first second ∙ ap (λ xs. n ∷ e ∷ xs) (on l ls ss c third (length_goes n e l ws es ls ss a b c shaped first second third) ∙ ap (λ xs. l ∷ xs) fourth)

pub ruleset dimension_reads = (fails_then, refused, name_first, with_len, leaves_as, named, fails_after)
