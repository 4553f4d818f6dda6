-- The rows of a slab.
use Rattle.cdl_statements.proofs.Prelude.{◌≡◌, ℕ, ◌-◌, ◌*◌, suc, Bool, true, false, List, [], ◌∷◌, length, take, map, nat_lt, slice_index, refl, sym, ◌∙◌, ap, arith, false≢true, dim_len, is_record_shape, product, slab_lens}
use Rattle.nc_base.specs.declared.header.Dim.{Dim}
use Rattle.nc_base.specs.ValueText.{row_len}

-- the last dimension divides
last_divides : (f : ℕ → ℕ) (x : ℕ) (xs : List ℕ) → product (map f (x ∷ xs)) ≡ product (map f (take (length xs) (x ∷ xs))) * f (slice_index (x ∷ xs) (length xs))
last_divides f x [] = let e : f x * 1 ≡ 1 * f x = omega arith in e
last_divides f x (y ∷ ys) = grind (arith, last_divides f y ys)

last_place : (n : ℕ) → suc (suc n) - 1 ≡ suc n
last_place n = omega arith

-- a slab is rows, which all dimensions but the last count where none of them is the record dimension
pub record HasRows (dims : List Dim) (ids : List ℕ) : Type 0 where
  pub rows : ℕ
  pub whole : product (slab_lens dims ids) ≡ rows * row_len dims ids 0
  pub all : is_record_shape dims ids ≡ false → rows ≡ product (map (dim_len dims) (take (length ids - 1) ids))

pub slab_rows : (dims : List Dim) (ids : List ℕ) → nat_lt (length ids) 2 ≡ false → HasRows dims ids
slab_rows dims (a ∷ b ∷ ids) h = by (is_record_shape dims (a ∷ b ∷ ids)) refl
  where
    f : ℕ → ℕ
    f = dim_len dims

    row : f (slice_index (b ∷ ids) (length ids)) ≡ row_len dims (a ∷ b ∷ ids) 0
    row = sym (rw (h) (ap (λ k. f (slice_index (a ∷ b ∷ ids) k)) (last_place (length ids))))

    by : (is : Bool) → is_record_shape dims (a ∷ b ∷ ids) ≡ is → HasRows dims (a ∷ b ∷ ids)
    by true is =
        let n = product (map f (take (length ids) (b ∷ ids))) in
        record { rows = n; whole = rw (is) (last_divides f b ids ∙ ap (λ m. n * m) row); all = λ no. absurd (false≢true (sym no ∙ is)) }
    by false is =
        let n = product (map f (take (suc (length ids)) (a ∷ b ∷ ids))) in
        record { rows = n; whole = rw (is) (last_divides f a (b ∷ ids) ∙ ap (λ m. n * m) row); all = λ no. ap (λ k. product (map f (take k (a ∷ b ∷ ids)))) (sym (last_place (length ids))) }
slab_rows dims _ h = cc
