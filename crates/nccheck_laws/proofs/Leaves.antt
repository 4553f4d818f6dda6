-- Parts that are one field: a number of bytes, whose value is decoded.
use Rattle.nccheck_laws.proofs.Prelude.{FormatFault, Bytes, Step, Part, done, bytes, decoded, under, chain, Spells, Outcome, and_then, run, reads, fields, fault_in, HeaderTruncated, with_rest, IsField, bytes-field, decoded-field, ◌≡◌, ℕ, Bool, true, false, cond, leb, List, [], ◌∷◌, length, take, drop, None, Result, Ok, Err, refl, ap, ◌∙◌, arith, common_steps}

abbrev pub is_leaf : {A : Type 0} → Part A → Bool
is_leaf (bytes n cut) = true
is_leaf (decoded decode encode p) = is_leaf p
is_leaf p = false

-- how many bytes it has
abbrev pub leaf_size : {A : Type 0} → Part A → ℕ
leaf_size (bytes n cut) = n
leaf_size (decoded decode encode p) = leaf_size p
leaf_size p = 0

-- the fault if fewer are left
abbrev pub leaf_cut : {A : Type 0} → Part A → FormatFault
leaf_cut (bytes n cut) = cut
leaf_cut (decoded decode encode p) = leaf_cut p
leaf_cut p = HeaderTruncated

-- what is made of these bytes
abbrev pub judge : {A : Type 0} → Part A → Bytes → Result A FormatFault
judge (bytes n cut) bs = Ok bs
judge (decoded {A = A} {B = B} decode encode p) bs = elim (judge p bs) as (λ y. Result B FormatFault) [ Ok x ↦ decode x | Err e ↦ Err e ]
judge p bs = Err HeaderTruncated

-- these bytes are read, if there are as many
abbrev pub read_bytes : {A : Type 0} → Bool → Bytes → FormatFault → Result A FormatFault → Outcome A
read_bytes b rest cut y = cond b (with_rest y rest) (Err (cut, []))

pub leaf-run : {A : Type 0} (p : Part A) (from : Bytes) → is_leaf p ≡ true
    → run p from ≡ read_bytes (leb (leaf_size p) (length from)) (drop (leaf_size p) from) (leaf_cut p) (judge p (take (leaf_size p) from))
unfolding run
leaf-run (bytes n cut) from leaf = refl
leaf-run {A = B} (decoded {A = A} decode encode p) from leaf =
    ap (λ o. and_then o (λ x rest. with_rest (decode x) rest)) (leaf-run p from leaf)
    ∙ by-cases (leb (leaf_size p) (length from)) (judge p (take (leaf_size p) from))
  where
    by-cases : (b : Bool) (y : Result A FormatFault)
        → and_then (read_bytes b (drop (leaf_size p) from) (leaf_cut p) y) (λ x rest. with_rest (decode x) rest)
        ≡ read_bytes b (drop (leaf_size p) from) (leaf_cut p) (elim y as (λ y. Result B FormatFault) [ Ok x ↦ decode x | Err e ↦ Err e ])
    by-cases b y = grind arith
leaf-run (done x) from leaf = absurd cc
leaf-run (under step p) from leaf = absurd cc
leaf-run (chain get p next) from leaf = absurd cc

pub leaf-field : {A : Type 0} (p : Part A) → is_leaf p ≡ true → IsField (leaf_size p) p
leaf-field (bytes n cut) leaf = bytes-field n cut
leaf-field (decoded decode encode p) leaf = decoded-field decode encode p (leaf_size p) (leaf-field p leaf)
leaf-field p leaf = absurd cc

-- such a part that spells a value is one field without a fault, of whose bytes the value is made
pub record IsLeafOf {A : Type 0} (steps : List Step) (p : Part A) (from : Bytes) (y : A) : Type 0 where
  pub listed : fields steps p from ≡ record { steps = steps; start = from; size = leaf_size p; fault = None } ∷ []
  pub is : judge p (take (leaf_size p) from) ≡ Ok y

pub leaf-spelled : {A : Type 0} (steps : List Step) (p : Part A) (from : Bytes) (y : A) (rest : Bytes) → is_leaf p ≡ true
    → Spells p from y rest → IsLeafOf steps p from y
leaf-spelled {A = A} steps p from y rest leaf s = grind (arith, common_steps, reads, fault_in, leaf-run, leaf-field)
