use Rattle.cdl_values.proofs.Prelude.{hash_of, hash_on, ◌≡◌, drop}
use Rattle.cdl_values.proofs.name_index.hash_of.Given as goal

-- taken on over the bytes that are left, the hash is that of the name
abbrev pub invariant-loop-byte : goal.invariant-loop-byte
invariant-loop-byte l = hash_on l.hash (drop l.byte-index l.name) ≡ hash_of l.fn.name
