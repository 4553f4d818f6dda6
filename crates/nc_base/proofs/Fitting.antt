-- Headers whose begins fit their fields.
use Rattle.nc_base.proofs.Prelude.{◌≡◌, ℕ, ◌<◌, Bool, true, List, [], ◌∷◌, refl, sym, subst, Ok, Err, All, nat_lt, if◌then◌else◌, arith, list_all, ltb-true, All-nil, All-cons, Var, Header, offset_limit, IsSound, with_begins, Fits, fits, and_left, and_right}
use Rattle.nc_base.proofs.FileHolds.{sound-after}

-- the begin is below the limit
abbrev pub is_below : ℕ → Var → Bool
is_below limit var = nat_lt var.begin_at limit

abbrev pub IsBelow : ℕ → Var → Type 0
IsBelow limit var = var.begin_at < limit

pub All-from_list_all : (limit : ℕ) (vars : List Var) → list_all (is_below limit) vars ≡ true → All (IsBelow limit) vars
All-from_list_all limit [] below = All-nil (IsBelow limit)
All-from_list_all limit (var ∷ vars) below =
    grind (arith, All-cons, ltb-true, and_left, and_right, All-from_list_all limit vars (and_right (is_below limit var) (list_all (is_below limit) vars) below))

-- the test and the property are the same
pub Fits-from_fits : (h : Header) → fits h ≡ true → Fits h
Fits-from_fits h test = All-from_list_all (offset_limit h.version) (with_begins h).vars test

-- begins change neither the version nor soundness
pub version-with_begins : (h : Header) → (with_begins h).version ≡ h.version
unfolding with_begins
version-with_begins h = refl

pub IsSound-with_begins : (h : Header) → IsSound h → IsSound (with_begins h)
unfolding with_begins
IsSound-with_begins h sound = sound-after h sound

-- where they fit, each begin is below the limit of the header that has it
pub begins-below : (h : Header) → fits h ≡ true → All (λ (var : Var). var.begin_at < offset_limit (with_begins h).version) (with_begins h).vars
begins-below h test = subst (λ v. All (IsBelow (offset_limit v)) (with_begins h).vars) (sym (version-with_begins h)) (Fits-from_fits h test)

-- ---- the answer of a function that gives a header its begins, or an error where they don't fit

pub record HasBegins (h k : Header) : Type 0 where
  pub fit : fits h ≡ true
  pub is : k ≡ with_begins h
  pub sound : IsSound k
  pub begins : All (λ (var : Var). var.begin_at < offset_limit k.version) k.vars

chosen : {E : Type 0} (b : Bool) (h k : Header) (error : E) → Ok k ≡ (if b then Ok h else Err error) → (b ≡ true) × (k ≡ h)
chosen b h k error e = grind arith

pub has-begins : {E : Type 0} (h k : Header) (error : E) → IsSound h → Ok k ≡ (if fits h then Ok (with_begins h) else Err error) → HasBegins h k
has-begins h k error sound answer = grind (arith, chosen, fits, IsSound-with_begins, begins-below)
