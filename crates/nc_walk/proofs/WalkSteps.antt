-- A walk from call to call, as its caller sees it.
use Rattle.nc_walk.proofs.Prelude.{◌≡◌, ℕ, ◌+◌, ◌-◌, ◌*◌, ◌≤◌, Bool, List, length, take, drop, ◌∙◌, ap, subst, arith, length-drop, None, Some, Ok, Err, All, mul-le-mul_right, take-add, drop-drop, get_or-drop, All-nil, All-append, Header, Var, size_of, numbers, value_count, value_offsets, HasFailed, SourceView, having_read, WalkView, Answer, IsWhole, Starts, Exactly, ReturnsValues, Failing, Truncated, Steps, Advanced, count, Pass, offsets_in, total_in, whole_in, going_on, Walked, HasRead, IsChunk, GivesChunk, GivesEnd, GivesCut, GivesFailure, Gives, ReadFailed, DataTruncated}
use Rattle.nc_walk.proofs.FullReadSteps.{transparent_any, transparent_map, transparent_both, after_after}
use Rattle.nc_walk.proofs.Missing.{missing_at, none_missing, whole_count-ge}
use Rattle.nc_walk.proofs.Orders.{count_of_offsets}
use Rattle.nc_walk.proofs.Stored.{numbers-whole, chunk_bytes, chunk_values, joined_bytes}

after_none : (v : SourceView) (size : ℕ) → v ≡ having_read v (0 * size)
after_none v size = let e : v.handed ≡ v.handed + 0 * size = omega arith in ap (λ (k : ℕ). record v { handed = k }) e

-- a walk that starts has walked past no value
pub begun : (p : Pass) (v : ℕ) (w : WalkView) (s : Starts p.header v p.records p.buffer_len w) → s.var ≡ p.var → p.source.after ≡ p.source.before → Walked p w 0
begun p v w s var first = grind (arith, transparent_any, All-nil, after_none)

-- where the walk stands
abbrev there : Pass → WalkView → ℕ → WalkView
there p w k = record w { size = size_of p.var.ty; left = drop k (offsets_in p); done = k }

stands : (p : Pass) (w : WalkView) (k : ℕ) → Walked p w k → w ≡ there p w k
stands p w k s = grind arith

-- what is left after the first k
left_over : (h : Header) (var : Var) (n k : ℕ) → length (drop k (value_offsets h var n)) ≡ value_count h.dims var n - k
left_over h var n k = omega (arith, length-drop k (value_offsets h var n), count_of_offsets h var n)

module _ (p : Pass) (w : WalkView) (c : SourceView) (k : ℕ) (s : Walked p w k) where
  abbrev is_transparent : Bool
  is_transparent = p.is_transparent

  abbrev a : SourceView
  a = p.source.before

  abbrev b : SourceView
  b = p.source.after

  abbrev size : ℕ
  size = size_of p.var.ty

  abbrev xs : List ℕ
  xs = offsets_in p

  left_here : length (drop k xs) ≡ total_in p - k
  left_here = left_over p.header p.var p.records k

  -- the next m values are whole too
  whole_on : (m : ℕ) → HasRead p k → All (IsWhole size b.bytes) (take m (drop k xs)) → All (IsWhole size a.bytes) (take (k + m) xs)
  whole_on m r whole = rw take-add (All-append (IsWhole size a.bytes) (take k xs) (take m (drop k xs)) r.whole (subst (λ (v : SourceView). All (IsWhole size v.bytes) (take m (drop k xs))) r.handed whole))

  read_on : (chunk : List ℕ) (j : ℕ) → length chunk ≡ j * size → HasRead p k → Exactly (there p w k) b c chunk j → HasRead (going_on p c) (k + j)
  read_on chunk j long r e =
      let sum : k * size + length chunk ≡ (k + j) * size = omega (arith, long) in
      record {
        whole = whole_on j r e.whole;
        handed = e.handed ∙ ap (λ (v : SourceView). having_read v (length chunk)) r.handed ∙ after_after a (k * size) (length chunk) ∙ ap (having_read a) sum;
      }

  is_chunk : (chunk : List ℕ) (j : ℕ) → HasRead p k → Exactly (there p w k) b c chunk j → IsChunk (going_on p c) k chunk j
  is_chunk chunk j r e0 = grind (arith, there, chunk_bytes, joined_bytes, numbers, numbers-whole, chunk_values)

  gives_chunk : (chunk : List ℕ) (j : ℕ) → ReturnsValues is_transparent (there p w k) b c chunk j → GivesChunk (going_on p c) k chunk j
  gives_chunk chunk j x = grind (arith, left_here, transparent_both, is_chunk, read_on)

  gives_end : (length (drop k xs) ≡ 0) × (c ≡ b) → GivesEnd (going_on p c) k
  gives_end x = grind (arith, left_here, none_missing, transparent_map)

  gives_cut : (value : ℕ) → Truncated is_transparent (there p w k) b c value → GivesCut (going_on p c) k value
  gives_cut value x = grind (arith, left_here, transparent_both, get_or-drop, missing_at)

  gives_failure : (m : ℕ) → Failing (there p w k) b c m → GivesFailure (going_on p c) k
  gives_failure m x = record {
    within = omega (arith, x.some, left_here);
    failed = subst (λ (q : ℕ). HasFailed q c.failures) s.failures x.partway.failed.failures;
    bytes = transparent_map is_transparent (λ r. x.partway.failed.bytes ∙ ap (λ (v : SourceView). v.bytes) r.handed) s.read;
    whole = transparent_map is_transparent (λ r.
        let most : k + m ≤ whole_in p = whole_count-ge p.header p.var p.records a.bytes (k + m) (omega (arith, x.within, left_here, s.within)) (whole_on m r x.whole) in
        let up : (k + m) * size ≤ whole_in p * size = mul-le-mul_right size most in
        omega (arith, up, x.partway.failed.handed, x.partway.within, ap (λ (v : SourceView). v.handed) r.handed)) s.read;
    capacity = transparent_map is_transparent (λ r. omega (arith, x.partway.failed.handed, x.partway.within, x.capacity, s.buf, ap (λ (v : SourceView). v.handed) r.handed)) s.read;
  }

  -- what the next call gives
  pub gives : (answer : Answer) → Steps is_transparent w b c answer → Gives (going_on p c) k answer
  gives (Ok None) x = gives_end (subst (λ (q : WalkView). Steps is_transparent q b c (Ok None)) (stands p w k s) x)
  gives (Ok (Some chunk)) x = gives_chunk chunk (count size chunk) (subst (λ (q : WalkView). Steps is_transparent q b c (Ok (Some chunk))) (stands p w k s) x)
  gives (Err ReadFailed) x = let f = subst (λ (q : WalkView). Steps is_transparent q b c (Err ReadFailed)) (stands p w k s) x in gives_failure f.0 f.1
  gives (Err (DataTruncated value)) x = gives_cut value (subst (λ (q : WalkView). Steps is_transparent q b c (Err (DataTruncated value))) (stands p w k s) x)

  -- where the walk stands after a chunk
  pub walked_on : (u : WalkView) (chunk : List ℕ) → Steps is_transparent w b c (Ok (Some chunk)) → Advanced w u (Ok (Some chunk)) → Walked (going_on p c) u (k + count size chunk)
  walked_on u chunk x m0 =
      let g : GivesChunk (going_on p c) k chunk (count size chunk) = gives (Ok (Some chunk)) x in
      let m = subst (λ (q : WalkView). Advanced q u (Ok (Some chunk))) (stands p w k s) m0 in
      record {
        size = m.size;
        left = m.left ∙ drop-drop (count size chunk) k xs;
        done = m.done;
        within = g.within;
        fault = m.fault;
        buf = m.buf ∙ s.buf;
        failures = g.failures;
        read = g.read;
      }
