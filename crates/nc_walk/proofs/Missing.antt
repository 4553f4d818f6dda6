-- The first missing value, and the values before it.
use Rattle.nc_walk.proofs.Prelude.{◌≡◌, ℕ, ◌+◌, ◌<◌, ◌≤◌, true, false, List, length, get_or, take, subst, arith, None, Some, inl, inr, length-take, All, position_or_len, cases_lt, lt-ltb, le-ltb, ltb-false, get_or-take, All-from_get_or, Header, Var, size_of, value_count, ends_after, value_offsets, first_missing, IsWhole, whole_count, none-found}
use Rattle.std.proofs.lemmas.List.Sums.{position_or_len_is, prefix_len-le-length, fails_before_first, passes_at_first}
use Rattle.nc_walk.proofs.Orders.{count_of_offsets}

-- ---- a list of offsets

-- a value among the first k
whole_at : (size : ℕ) (b xs : List ℕ) (k j : ℕ) → k ≤ length xs → All (IsWhole size b) (take k xs) → j < k → ends_after size (length b) (get_or xs j 0) ≡ false
whole_at size b xs k j le whole lt = grind (arith, length-take, le-ltb, get_or-take)

-- the first k are whole, and the next one isn't, if there is one
position_at : (size : ℕ) (b xs : List ℕ) (k : ℕ) → k ≤ length xs → All (IsWhole size b) (take k xs) → (k < length xs → length b < get_or xs k 0 + size)
    → position_or_len (ends_after size (length b)) xs ≡ k
position_at size b xs k le whole short =
    position_or_len_is (ends_after size (length b)) xs k 0 le (λ j lt. whole_at size b xs k j le whole lt) (λ lt. lt-ltb (length b) (get_or xs k 0 + size) (short lt))

-- the first missing one stands after whole ones
position-ge : (size : ℕ) (b xs : List ℕ) (k : ℕ) → k ≤ length xs → All (IsWhole size b) (take k xs) → k ≤ position_or_len (ends_after size (length b)) xs
position-ge size b xs k le whole =
    let p = ends_after size (length b) in
    let i = position_or_len p xs in
    elim (cases_lt i k) [
      | inl below ↦ absurd (let a : p (get_or xs i 0) ≡ false = whole_at size b xs k i le whole below in let c : p (get_or xs i 0) ≡ true = passes_at_first p xs 0 (omega arith) in cc)
      | inr above ↦ above
    ]

-- the values before the first missing one are whole
before_first : (size : ℕ) (b xs : List ℕ) (k : ℕ) → k ≤ position_or_len (ends_after size (length b)) xs → All (IsWhole size b) (take k xs)
before_first size b xs k le =
    grind (arith, All-from_get_or (IsWhole size b) (take k xs) 0, length-take k xs, ltb-false (length b), fails_before_first (ends_after size (length b)) xs, get_or-take k xs)

-- ---- of a variable

pub missing_at : (h : Header) (var : Var) (n : ℕ) (b : List ℕ) (k : ℕ) → k < value_count h.dims var n → All (IsWhole (size_of var.ty) b) (take k (value_offsets h var n))
    → length b < get_or (value_offsets h var n) k 0 + size_of var.ty → first_missing h b var n ≡ Some k
missing_at h var n b k lt whole short = grind (arith, count_of_offsets, position_at)

pub none_missing : (h : Header) (var : Var) (n : ℕ) (b : List ℕ) (k : ℕ) → k ≡ value_count h.dims var n → All (IsWhole (size_of var.ty) b) (take k (value_offsets h var n))
    → first_missing h b var n ≡ None
none_missing h var n b k all whole = grind (arith, count_of_offsets, none-found, position_at)

whole_count-is : (h : Header) (var : Var) (n : ℕ) (b : List ℕ) → whole_count h b var n ≡ position_or_len (ends_after (size_of var.ty) (length b)) (value_offsets h var n)
whole_count-is h var n b = grind (arith, count_of_offsets, prefix_len-le-length)

pub whole_count-ge : (h : Header) (var : Var) (n : ℕ) (b : List ℕ) (k : ℕ) → k ≤ value_count h.dims var n → All (IsWhole (size_of var.ty) b) (take k (value_offsets h var n))
    → k ≤ whole_count h b var n
whole_count-ge h var n b k le whole = grind (arith, count_of_offsets, whole_count-is, position-ge)

pub whole_before : (h : Header) (var : Var) (n : ℕ) (b : List ℕ) (k : ℕ) → k ≤ whole_count h b var n → All (IsWhole (size_of var.ty) b) (take k (value_offsets h var n))
whole_before h var n b k le = before_first (size_of var.ty) b (value_offsets h var n) k (subst (λ m. k ≤ m) (whole_count-is h var n b) le)
