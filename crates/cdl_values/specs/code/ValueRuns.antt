-- For contracts. What goes past several values of a statement at once.
use Rattle.std.specs.Prelude.{ℕ, List, Bool, ◌≡◌, ◌<◌, false, true, Result, Ok, IfOk}
use Rattle.cdl_statements.specs.code.Contents.{values}
use Rattle.cdl_statements.specs.code.Cutters.{version_of, words}
use Rattle.cdl_statements.specs.code.ListedTokens.{IsAtComma}
use Rattle.cdl_statements.specs.code.ValueLists.{reached}
use Rattle.cdl_statements.specs.code.PassedValues.{PassesGood}
use Rattle.cdl_statements.specs.declared.{cutter.Cutter.Cutter, value_list.ValueList.ValueList, due.Due.Due, due.Due.TheVariants.Separator}
use Rattle.cdl_values.specs.code.PackedValues.{capacity_minus, is_full, joined, packed}
use Rattle.cdl_values.specs.declared.{capacity.Capacity.Capacity, fill.Fill.Fill, form.ValueForm.ValueForm, form.ValueForm.TheVariants.Numbers, read_error.ReadError.ReadError, value.QuickPassFault.QuickPassFault, value_run.UnreadValues.UnreadValues}

-- A place among the values of a statement: the bytes of those before it, and what capacity is left.
pub record Place : Type 0 where
  pub cutter : Cutter
  pub bytes : List ℕ
  pub left : Capacity

abbrev pub place : UnreadValues → List ℕ → Place
place unread bytes = record { cutter = unread.cutter; bytes = bytes; left = unread.capacity }

-- The tokens between two places are good ones, after which the same token is due. Their values are what the bytes before have become, and what the capacity has lost.
pub record GoesOn (due : Due) (form : ValueForm) (start rest : Place) : Type 0 where
  pub passes : PassesGood due start.cutter rest.cutter
  pub packs : joined (Ok rest.bytes) (packed form rest.left (values (version_of start.cutter) (words rest.cutter))) ≡ joined (Ok start.bytes) (packed form start.left (values (version_of start.cutter) (words start.cutter)))

-- From comma to comma of a list of values, where a `_` may stand.
pub record TakesValues (form : ValueForm) (start rest : Place) : Type 0 where
  pub at : IsAtComma rest.cutter
  pub on : GoesOn (Separator true) form start rest

-- with an Ok the bytes have become these, and the values that are left are unread
abbrev pub GoesTo : Due → ValueForm → Place → List ℕ → Result UnreadValues QuickPassFault → Type 0
GoesTo due form start bytes result = IfOk result (λ rest. GoesOn due form start (place rest bytes))

-- the same from comma to comma
abbrev pub TakesTo : ValueForm → Place → List ℕ → Result UnreadValues QuickPassFault → Type 0
TakesTo form start bytes result = IfOk result (λ rest. TakesValues form start (place rest bytes))

-- the place where a list stands
abbrev pub list_place : ValueList → List ℕ → Capacity → Place
list_place list bytes left = record { cutter = reached list; bytes = bytes; left = left }

-- one value more of a list, with the bytes before it and after it; a variable of numbers takes it if it takes any
abbrev pub TakesOne : Fill → ValueList → ValueList → List ℕ → List ℕ → Type 0
TakesOne fill start rest before after =
    (left : Capacity) → is_full left ≡ false → TakesValues (Numbers fill) (list_place start before left) (list_place rest after (capacity_minus 1 left))

-- from one place to another, `count` rows more of a list; a variable takes them if it takes `room` rows
abbrev pub TakesRows : ℕ → ValueForm → (Capacity → Place) → (Capacity → Place) → ℕ → Type 0
TakesRows room form start rest count =
    (left : Capacity) → ((k : ℕ) → k < room → is_full (capacity_minus k left) ≡ false) → TakesValues form (start left) (rest (capacity_minus count left))

-- if the answer is that there is one
abbrev pub IfTaken : Type 0 → Result Bool ReadError → Type 0
IfTaken taken result = IfOk result (λ is_taken. is_taken ≡ true → taken)
