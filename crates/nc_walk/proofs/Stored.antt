-- The bytes of whole values, and their numbers.
use Rattle.nc_walk.proofs.Prelude.{◌≡◌, ℕ, ◌+◌, List, ◌++◌, length, take, drop, map, sym, ◌∙◌, ap, All, arith, rules, concat, take-add, take-map, drop-map, concat-append, All-map, All-weaker, NcType, Header, Var, size_of, number_of, numbers, bytes_at, value_offsets, stored_bytes, stored_values, numbers-concat, length-whole, IsWhole, StoredNumbers}
use Rattle.nc_walk.proofs.Missing.{whole_before}

-- ---- whole values

whole_chunks : (size : ℕ) (b offsets : List ℕ) → All (IsWhole size b) offsets → All (λ xs. length xs ≡ size) (map (bytes_at size b) offsets)
whole_chunks size b offsets whole = search (rules, All-map, All-weaker, length-whole)

-- the numbers of whole values
pub numbers-whole : (ty : NcType) (b offsets : List ℕ) → All (IsWhole (size_of ty) b) offsets
    → numbers ty (concat (map (bytes_at (size_of ty) b) offsets)) ≡ map (number_of ty) (map (bytes_at (size_of ty) b) offsets)
numbers-whole ty b offsets whole = numbers-concat ty (map (bytes_at (size_of ty) b) offsets) (whole_chunks (size_of ty) b offsets whole)

pub stored_numbers : StoredNumbers
stored_numbers h b var n k le = grind (arith, take-map, numbers, numbers-whole, whole_before)

-- ---- a chunk of them

pub chunk_bytes : (h : Header) (b : List ℕ) (var : Var) (n k j : ℕ) → concat (map (bytes_at (size_of var.ty) b) (take j (drop k (value_offsets h var n)))) ≡ concat (take j (drop k (stored_bytes h b var n)))
chunk_bytes h b var n k j = grind (arith, take-map, drop-map)

pub chunk_values : (h : Header) (b : List ℕ) (var : Var) (n k j : ℕ) → map (number_of var.ty) (map (bytes_at (size_of var.ty) b) (take j (drop k (value_offsets h var n)))) ≡ take j (drop k (stored_values h b var n))
chunk_values h b var n k j = grind (arith, take-map, drop-map)

-- the first k and the j after them
pub joined_bytes : (xss : List (List ℕ)) (k j : ℕ) → concat (take k xss) ++ concat (take j (drop k xss)) ≡ concat (take (k + j) xss)
joined_bytes xss k j = sym (ap concat (take-add k j xss) ∙ concat-append (take k xss) (take j (drop k xss)))
