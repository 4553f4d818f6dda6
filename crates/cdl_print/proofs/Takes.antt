-- How many values n bytes are, and when a printer takes them.
use Rattle.cdl_print.proofs.Prelude.{◌≡◌, ℕ, ◌+◌, ◌/◌, ◌%◌, ◌≤◌, List, length, rules, numbers, size_of, NcType, look_in, position_of, Takes, ValuePrinter, length-numbers_from, whole_part}

pub length-numbers : (ty : NcType) (bytes : List ℕ) → length (numbers ty bytes) ≡ length bytes / size_of ty
unfolding numbers
length-numbers ty bytes = length-numbers_from ty (length bytes / size_of ty) bytes

-- whole values, which the variable still has
pub takes_iff : (printer : ValuePrinter) (bytes : List ℕ) (size : ℕ) (P : Type 0) → size ≡ size_of (look_in printer).ty → length bytes % size ≡ 0
    → (P → position_of printer + length bytes / size ≤ (look_in printer).total) × (position_of printer + length bytes / size ≤ (look_in printer).total → P)
    → (P → Takes printer bytes) × (Takes printer bytes → P)
takes_iff printer bytes size P is none within = search (rules, length-numbers, numbers, whole_part)
