-- What the variables take of the data section.
use Rattle.cdl_values.proofs.Prelude.{get_or-map, length-map, take-suc, map-append, IsInRange, is_char, dim_len, is_record_var, room_of, takes_of, ValueForm, Fills, Numbers, Joined, Rows, positions_in, Dim, Draft, AreShaped, unlisted_drafts, unlisted_draft, AllSuit, Suits, Target, NcType, Char, ◌≡◌, ℕ, ◌+◌, ◌*◌, ◌-◌, ◌<◌, false, nat_lt, slice_index, pos, List, [], ◌∷◌, ◌++◌, length, Some, take, get_or, sym, ap, ◌∙◌, subst, arith, ℤ, unsigned_abs}
use Rattle.cdl_statements.specs.State as states
use Rattle.cdl_statements.proofs.Rows.{slab_rows}
use Rattle.nc_base.proofs.SoundLaws.{some_count}
use Rattle.nc_base.specs.Fill.{fill_value}
use Rattle.std.proofs.lemmas.List.Elements.{All-get_or}
use Rattle.nc_base.specs.Headers.{AreDimids}
use Rattle.nc_base.specs.declared.header.Var.{Var}

-- how many values a position has
abbrev pub values_at : ValueForm → ℕ
values_at (Rows len fill) = len
values_at form = 1

pub no_char : (ty : NcType) → (ty ≡ Char → ⊥) → is_char ty ≡ false
no_char ty h = grind arith

-- a character is its byte
pub char_byte : (n : ℤ) → IsInRange Char n → (n ≡ pos (unsigned_abs n)) × (unsigned_abs n < 256)
char_byte n h = (grind arith, grind arith)

-- a row has a byte at least
pub some_row : (dims : List Dim) (ids : List ℕ) → AreDimids dims [] ids → nat_lt (length ids) 2 ≡ false → 0 < dim_len dims (slice_index ids (length ids - 1))
some_row dims ids shape many =
    let rows = slab_rows dims ids many in
    let some = some_count dims ids shape in
    grind (arith, rows.whole, some, many)

-- ---- what a variable takes

pub takes_numbers : (dims : List Dim) (var : Var) (ty : NcType) (x : ℤ) → is_char var.ty ≡ false → ty ≡ var.ty → x ≡ fill_value var → takes_of dims var ≡ states.Numbers ty x
unfolding takes_of
takes_numbers dims var ty x other is fill = grind arith

pub takes_rows : (dims : List Dim) (var : Var) (len : ℕ) (x : ℤ) → var.ty ≡ Char → nat_lt (length var.dimids) 2 ≡ false → len ≡ dim_len dims (slice_index var.dimids (length var.dimids - 1)) → x ≡ fill_value var → takes_of dims var ≡ states.Rows len x
unfolding takes_of
takes_rows dims var len x char many is fill = grind arith

-- the room of its positions, where it isn't a record variable
pub positions_room : (f : ValueForm) (dims : List Dim) (var : Var) → Fills f (takes_of dims var) → is_record_var dims var ≡ false → room_of dims var ≡ Some (0 + positions_in f dims var * values_at f)
unfolding takes_of
positions_room (Numbers fill) dims var h closed = grind arith
positions_room Joined dims var h closed = grind arith
positions_room (Rows len fill) dims var h closed = grind (arith, slab_rows dims var.dimids, h.0)

-- ---- a target more

pub suit_more : (dims : List Dim) (ts : List Target) (ds : List Draft) (t : Target) (d : Draft) → AllSuit dims ts ds → Suits dims t d → AllSuit dims (ts ++ t ∷ []) (ds ++ d ∷ [])
suit_more dims [] [] t d h more = (more, tt)
suit_more dims (s ∷ ts) (e ∷ ds) t d h more = (h.0, suit_more dims ts ds t d h.1 more)
suit_more dims _ _ t d h more = absurd h

pub fresh_more : (vars : List Var) (i : ℕ) (x : Var) → i < length vars → x ≡ get_or vars i x → unlisted_drafts (take (i + 1) vars) ≡ unlisted_drafts (take i vars) ++ unlisted_draft x ∷ []
fresh_more vars i x within is = grind (arith, take-suc vars i x within, map-append unlisted_draft (take i vars) (get_or vars i x ∷ []))

pub shape_at : (dims : List Dim) (vars : List Var) (i : ℕ) (x : Var) → i < length vars → x ≡ get_or vars i x → AreShaped dims (unlisted_drafts vars) → AreDimids dims [] x.dimids
shape_at dims vars i x within is all =
    let len = length-map vars unlisted_draft in
    let here = All-get_or (λ (d : Draft). AreDimids dims [] d.var.dimids) (unlisted_drafts vars) i (unlisted_draft x) (omega (arith, len, within)) all in
    subst (λ (d : Draft). AreDimids dims [] d.var.dimids) (get_or-map unlisted_draft vars i x (unlisted_draft x) within ∙ ap unlisted_draft (sym is)) here
