-- The values of a statement one by one: their bytes are the bytes of what the state lists.
use Rattle.cdl_values.proofs.Prelude.{flat_map, flat_map-append, Char, bytes_of_number, Value, Number, Characters, Underscore, CdlKind, Capacity, AtMost, Unlimited, add_value, in_turn, has_room, filled, Fills, taken_type, as_bytes, packed, followed_by, joined, bytes_of, capacity_after, is_full, is_exceeded_by, capacity_minus, char_bytes, Fill, ValueForm, length-map, ◌≡◌, ◌<◌, ◌≤◌, ℕ, zero, suc, ◌+◌, ◌-◌, ◌*◌, ℤ, false, List, [], ◌∷◌, ◌++◌, length, map, refl, sym, ap, ◌∙◌, arith, append-nil, rules, pos, Option, None, Some, Result, Ok, Err, not, replicate, common_steps}
use Rattle.cdl_statements.specs.State.{Takes}
use Rattle.cdl_statements.specs.State as states
use Rattle.cdl_values.specs.declared.form.ValueForm.TheVariants as fillings
use Rattle.cdl_statements.proofs.ListedValues.{filled_len}
use Rattle.cdl_values.proofs.Places.{values_at}
use Rattle.cdl_values.proofs.PackedTokens.{joined_assoc, joined_none, chars_len, one_byte}

abbrev bytes : ValueForm → List ℤ → List ℕ
bytes f values = flat_map (bytes_of_number (taken_type f)) values

-- of this room this capacity is left after n values
abbrev Left : ValueForm → Capacity → Option ℕ → ℕ → Type 0
Left f Unlimited room n = room ≡ None
Left f (AtMost left) room n = room ≡ Some (n + left * values_at f)

-- a value has the same fault, or lists the same bytes
abbrev Agree : ValueForm → Capacity → Option ℕ → List ℤ → Result (List ℤ) CdlKind → Result (List ℕ) CdlKind → Type 0
Agree f capacity room before (Ok after) (Ok bs) = (bytes f after ≡ bytes f before ++ bs) × Left f (capacity_after f bs capacity) room (length after)
Agree f capacity room before (Err e) (Err g) = e ≡ g
Agree f capacity room before _ _ = ⊥

room_is : (f : ValueForm) (capacity : Capacity) (room : Option ℕ) (before : List ℤ) → 0 < values_at f → Left f capacity room (length before) → has_room room before (values_at f) ≡ not (is_full capacity)
room_is f Unlimited room before some left = rw (left) refl
room_is f (AtMost zero) room before some left = rw (left) (grind (arith, some))
room_is f (AtMost (suc k)) room before some left = rw (left) (grind arith)

-- one position less
one_less : (f : ValueForm) (capacity : Capacity) (room : Option ℕ) (n m : ℕ) → is_full capacity ≡ false → Left f capacity room n → m ≡ n + values_at f → Left f (capacity_minus 1 capacity) room m
one_less f Unlimited room n m off left is = left
one_less f (AtMost zero) room n m off left is = cc
one_less f (AtMost (suc k)) room n m off left is = left ∙ ap Some (grind (arith, is))

past_is : (n : ℕ) (capacity : Capacity) (room : Option ℕ) (before : List ℤ) → Left fillings.Joined capacity room (length before) → has_room room before n ≡ not (is_exceeded_by n capacity)
past_is n capacity room before left = grind arith

chars_less : (n : ℕ) (capacity : Capacity) (room : Option ℕ) (m : ℕ) → is_exceeded_by n capacity ≡ false → Left fillings.Joined capacity room m → Left fillings.Joined (capacity_minus n capacity) room (m + n)
chars_less n capacity room m off left = grind arith

padding : (n b : ℕ) → b < 256 → flat_map (bytes_of_number Char) (replicate n (pos b)) ≡ replicate n b
padding zero b h = refl
padding (suc n) b h = ap (λ bs. bs ++ flat_map (bytes_of_number Char) (replicate n (pos b))) (one_byte b h) ∙ ap (λ bs. b ∷ bs) (padding n b h)

row_bytes_are : (len b : ℕ) (bs : List ℕ) → b < 256 → flat_map (bytes_of_number Char) (filled len (pos b) (map pos bs)) ≡ char_bytes bs ++ replicate (len - length bs) b
row_bytes_are len b bs h = search (rules, padding, length-map, pos, flat_map-append)

number_put : (fill : Fill) (capacity : Capacity) (room : Option ℕ) (before : List ℤ) (n : ℤ) → Left (fillings.Numbers fill) capacity room (length before) → is_full capacity ≡ false →
    Agree (fillings.Numbers fill) capacity room before (Ok (before ++ n ∷ [])) (Ok (bytes_of_number fill.ty n))
number_put fill capacity room before n left off = grind (arith, common_steps, flat_map-append, one_less)

number_agrees : (fill : Fill) (capacity : Capacity) (room : Option ℕ) (before : List ℤ) (x : Value) → Left (fillings.Numbers fill) capacity room (length before) → has_room room before 1 ≡ not (is_full capacity) →
    Agree (fillings.Numbers fill) capacity room before (add_value (states.Numbers fill.ty fill.value) room before x) (bytes_of (fillings.Numbers fill) capacity x)
number_agrees fill capacity room before (Characters bs) left free = refl
number_agrees fill capacity room before Underscore left free = grind (arith, number_put fill capacity room before fill.value left, free)
number_agrees fill capacity room before (Number n) left free = grind (arith, number_put fill capacity room before n.value left, free)

row_put : (len b : ℕ) (capacity : Capacity) (room : Option ℕ) (before : List ℤ) (bs : List ℕ) → b < 256 → Left (fillings.Rows len b) capacity room (length before) → is_full capacity ≡ false → length bs ≤ len →
    Agree (fillings.Rows len b) capacity room before (Ok (before ++ filled len (pos b) (map pos bs))) (Ok (char_bytes bs ++ replicate (len - length bs) b))
row_put len b capacity room before bs small left off short = grind (arith, common_steps, flat_map-append, length-map, filled_len, one_less, row_bytes_are)

row_agrees : (len b : ℕ) (capacity : Capacity) (room : Option ℕ) (before : List ℤ) (x : Value) → b < 256 → Left (fillings.Rows len b) capacity room (length before) → has_room room before len ≡ not (is_full capacity) →
    Agree (fillings.Rows len b) capacity room before (add_value (states.Rows len (pos b)) room before x) (bytes_of (fillings.Rows len b) capacity x)
row_agrees len b capacity room before (Characters bs) small left free = grind (arith, row_put len b capacity room before bs small left, free)
row_agrees len b capacity room before _ small left free = refl

agrees : (f : ValueForm) (takes : Takes) → Fills f takes → (capacity : Capacity) (room : Option ℕ) (before : List ℤ) (x : Value) → Left f capacity room (length before) →
    Agree f capacity room before (add_value takes room before x) (bytes_of f capacity x)
agrees (fillings.Numbers fill) takes h capacity room before x left = search (rules, room_is, number_agrees)
agrees fillings.Joined takes h capacity room before x left = grind (arith, common_steps, flat_map-append, length-map, chars_len, past_is, chars_less)
agrees (fillings.Rows len fill) takes h capacity room before x left = search (rules, room_is, row_agrees)

-- the bytes of the values one by one are the values packed
turns : (f : ValueForm) (takes : Takes) → Fills f takes → (capacity : Capacity) (room : Option ℕ) (before : List ℤ) (xs : List Value) → Left f capacity room (length before) →
    as_bytes (taken_type f) (in_turn (add_value takes room) before xs) ≡ joined (Ok (bytes f before)) (packed f capacity xs)
unfolding packed
turns f takes h capacity room before [] left = ap Ok (sym (append-nil (bytes f before)))
turns f takes h capacity room before (x ∷ xs) left =
    by (add_value takes room before x) (bytes_of f capacity x) (agrees f takes h capacity room before x left) (λ rest after on. turns f takes h rest room after xs on)
  where
    by : (r : Result (List ℤ) CdlKind) (p : Result (List ℕ) CdlKind) → Agree f capacity room before r p →
        ((rest : Capacity) (after : List ℤ) → Left f rest room (length after) → as_bytes (taken_type f) (in_turn (add_value takes room) after xs) ≡ joined (Ok (bytes f after)) (packed f rest xs)) →
        as_bytes (taken_type f) (elim r [ Ok t ↦ in_turn (add_value takes room) t xs | Err e ↦ Err e ]) ≡ joined (Ok (bytes f before)) (followed_by p (λ bs. packed f (capacity_after f bs capacity) xs))
    by (Ok after) (Ok bs) is more =
        more (capacity_after f bs capacity) after is.1 ∙ ap (λ b. joined (Ok b) (packed f (capacity_after f bs capacity) xs)) is.0 ∙ sym (joined_assoc (bytes f before) bs (packed f (capacity_after f bs capacity) xs))
    by (Err e) (Err g) is more = ap Err is
    by _ _ is more = absurd is

-- all values of a variable
pub all_turns : (f : ValueForm) (takes : Takes) → Fills f takes → (capacity : Capacity) (room : Option ℕ) (xs : List Value) → Left f capacity room 0 →
    as_bytes (taken_type f) (in_turn (add_value takes room) [] xs) ≡ packed f capacity xs
all_turns f takes h capacity room xs left = turns f takes h capacity room [] xs left ∙ joined_none (packed f capacity xs)
