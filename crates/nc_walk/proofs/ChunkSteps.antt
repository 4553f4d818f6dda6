-- Values of one slab, and then more of the next ones.
use Rattle.nc_walk.proofs.Prelude.{◌≡◌, ℕ, ◌+◌, ◌-◌, ◌*◌, ◌^◌, ◌<◌, ◌≤◌, min, Bool, List, ◌++◌, length, take, sym, ◌∙◌, ap, subst, arith, length-append, length-take, All, map-append, All-append, concat-append, mod-mul-add, mul-le-mul_right, lt_of_mul-lt-mul_right, take-add, HasFailed, SourceView, having_read, Slabs, Cursor, total, number_at, offset, offsets_after, IsSized, IsOffset, Ready, Use, between, WalkView, IsWhole, Exactly, ReturnsValues, Failing, Truncated, ReadValues, Reading, reading, standing, put_mid}
use Rattle.nc_walk.specs.declared.chunk.Chunk.{Chunk}
use Rattle.nc_walk.specs.code.Chunks.{Collected}
use Rattle.nc_walk.proofs.FullReadSteps.{transparent_both, after_after, prefix_then, prefix_still}
use Rattle.nc_walk.proofs.Runs.{offset_at, length-offsets, drop-offsets}

-- the first n values from number i on have been read into the start of the buffer, and after them comes a part of it
module _ (is_transparent : Bool) (l : Slabs) (i n : ℕ) (had part : List ℕ) (before mid now : SourceView) (within : n ≤ length (offsets_after l i))
    (fits : n * l.size + length part ≤ length had) where
  abbrev w : WalkView
  w = standing l i had

  abbrev next : WalkView
  next = standing l (i + n) part

  capacity_for : (m : ℕ) → m * l.size ≤ length part → (n + m) * l.size ≤ length had
  capacity_for m le = omega (arith, le, fits)

  count_for : (m : ℕ) → m ≤ length (offsets_after l (i + n)) → n + m ≤ length (offsets_after l i)
  count_for m le = omega (arith, le, within, length-offsets l i (total l - i), length-offsets l (i + n) (total l - (i + n)))

  left_then : (m : ℕ) → take (n + m) (offsets_after l i) ≡ take n (offsets_after l i) ++ take m (offsets_after l (i + n))
  left_then m = grind (arith, take-add, drop-offsets, length-offsets)

  whole_then : (m : ℕ) → mid.bytes ≡ before.bytes → All (IsWhole l.size before.bytes) (take n (offsets_after l i))
      → All (IsWhole l.size mid.bytes) (take m (offsets_after l (i + n))) → All (IsWhole l.size before.bytes) (take (n + m) (offsets_after l i))
  whole_then m same first more =
      subst (All (IsWhole l.size before.bytes)) (sym (left_then m))
      (All-append (IsWhole l.size before.bytes) (take n (offsets_after l i)) (take m (offsets_after l (i + n))) first
      (subst (λ (bytes : List ℕ). All (IsWhole l.size bytes) (take m (offsets_after l (i + n)))) same more))

  handed_then : (a b : ℕ) → mid ≡ having_read before a → now ≡ having_read mid b → now ≡ having_read before (a + b)
  handed_then a b e f = f ∙ ap (λ (s : SourceView). having_read s b) e ∙ after_after before a b

  exactly_then : (xs ys : List ℕ) (m : ℕ) → Exactly w before mid xs n → Exactly next mid now ys m → Exactly w before now (xs ++ ys) (n + m)
  exactly_then xs ys m e f = grind (arith, whole_then, concat-append, map-append, left_then, handed_then, length-append)

  pub hands_then : (xs ys : List ℕ) (m : ℕ) → ReturnsValues is_transparent w before mid xs n → ReturnsValues is_transparent next mid now ys m → ReturnsValues is_transparent w before now (xs ++ ys) (n + m)
  hands_then xs ys m h k = record {
    some = omega (arith, h.some);
    len = omega (arith, length-append xs ys, h.len, k.len);
    within = count_for m k.within;
    capacity = capacity_for m k.capacity;
    failures = k.failures ∙ h.failures;
    handed = omega (arith, length-append xs ys, h.handed, k.handed);
    exactly = transparent_both is_transparent (exactly_then xs ys m) h.exactly k.exactly;
  }

  pub ran_then : (m : ℕ) → ReadValues l i before mid n → ReadValues l (i + n) mid now m → ReadValues l i before now (n + m)
  ran_then m r s = grind (arith, whole_then, handed_then)

  pub failing_then : (m : ℕ) → ReadValues l i before mid n → Failing next mid now m → Failing w before now (n + m)
  failing_then m r f =
      let same : mid.bytes ≡ before.bytes = ap (λ (s : SourceView). s.bytes) r.handed in
      let handed : mid.handed ≡ before.handed + n * l.size = ap (λ (s : SourceView). s.handed) r.handed in record {
        some = omega (arith, f.some, length-offsets l i (total l - i), length-offsets l (i + n) (total l - (i + n)));
        within = count_for m f.within;
        whole = whole_then m same r.whole f.whole;
        capacity = capacity_for m f.capacity;
        partway = record {
          n = n * l.size + f.partway.n;
          within = omega (arith, f.partway.within);
          failed = record {
            bytes = f.partway.failed.bytes ∙ same;
            handed = omega (arith, f.partway.failed.handed, handed);
            failures = subst (λ (k : ℕ). HasFailed k now.failures) (ap (λ (s : SourceView). s.failures) r.handed) f.partway.failed.failures;
          };
        };
      }

  pub hands_still : (xs : List ℕ) (k : ℕ) → ReturnsValues is_transparent w before mid xs n → Truncated is_transparent next mid now k → ReturnsValues is_transparent w before now xs n
  hands_still xs k h t = grind (arith, transparent_both)

-- ---- the cursor after the values

-- values that come to the first cursor of a slab end with their own slab
pub to_slab_end : (l : Slabs) (cursor next : Cursor) (n : ℕ) → 0 < n → cursor.within + n ≤ l.values_per_slab → number_at l next ≡ number_at l cursor + n
    → next.within ≡ 0 → cursor.within + n ≡ l.values_per_slab
to_slab_end l cursor next n some le number first = grind (arith, lt_of_mul-lt-mul_right, mul-le-mul_right)

-- ---- a whole slab after the values

-- from its start on, as many values are ready as it has
pub whole_ready : (l : Slabs) (cursor : Cursor) (capacity len at : ℕ) → IsSized l → cursor.within ≡ 0 → IsOffset l (number_at l cursor) at
    → at + l.values_per_slab * l.size ≤ len → len < 2 ^ 64 → l.values_per_slab * l.size ≤ capacity
    → (at ≡ offset l (number_at l cursor)) × Ready l (number_at l cursor) capacity len l.values_per_slab
whole_ready l cursor capacity len at sized first is fits small in_capacity = grind (arith, mul-le-mul_right, mod-mul-add)

-- the slab after it is a stride further on
pub next_offset : (l : Slabs) (cursor next : Cursor) (n at : ℕ) → IsSized l → cursor.within ≡ 0 → next.within ≡ 0 → 0 < n → cursor.within + n ≤ l.values_per_slab
    → number_at l next ≡ number_at l cursor + n → IsOffset l (number_at l cursor) at → IsOffset l (number_at l next) (min (at + l.stride) (2 ^ 64 - 1))
next_offset l cursor next n at sized first second some le number is =
    let all : cursor.within + n ≡ l.values_per_slab = to_slab_end l cursor next n some le number second in
    let e : number_at l next ≡ (cursor.slab + 1) * l.values_per_slab + 0 = omega (arith, number, all) in
    let here = offset_at l cursor.slab cursor.within (omega (arith, sized.values_per_slab)) in
    let there : offset l (number_at l next) ≡ l.begin + (cursor.slab + 1) * l.stride + 0 * l.size = ap (offset l) e ∙ offset_at l (cursor.slab + 1) 0 sized.values_per_slab in
    let none : cursor.within * l.size ≡ 0 * l.size = ap (λ (k : ℕ). k * l.size) first in
    let step : offset l (number_at l next) ≡ offset l (number_at l cursor) + l.stride = omega (arith, here, there, none) in
    omega (arith, step)

-- ---- a chunk, and a run after it

-- the chunk may go on
pub record Going (is_transparent : Bool) (r : Reading) (s : Use SourceView) (chunk : Chunk) : Type 0 where
  pub collected : Collected is_transparent r s chunk
  pub slab_read : chunk.next.within ≡ 0 → ReadValues r.slabs (number_at r.slabs r.cursor) s.before s.after chunk.values

-- it ends with its slab, and the part of the buffer after it is asked for
module _ (is_transparent : Bool) (l : Slabs) (cursor : Cursor) (had buf part following : List ℕ) (before mid now : SourceView) (chunk : Chunk) (k : ℕ)
    (going : Going is_transparent (reading l cursor had buf) (between before mid) chunk) (slab : chunk.next.within ≡ 0)
    (fits : chunk.values * l.size + length part ≤ length had) where
  abbrev first : Collected is_transparent (reading l cursor had buf) (between before mid) chunk
  first = going.collected

  abbrev buf_then : List ℕ
  buf_then = put_mid (chunk.values * l.size) k buf following

  abbrev then : Chunk → Chunk
  then run = record { values = chunk.values + run.values; next = run.next }

  collected_then : (run : Chunk) → Collected is_transparent (reading l chunk.next part following) (between mid now) run → Collected is_transparent (reading l cursor had buf_then) (between before now) (then run)
  collected_then run c =
      let n = chunk.values in
      let m = run.values in
      let e : n * l.size + m * l.size ≡ (n + m) * l.size = omega arith in
      let prefix = sym (prefix_then buf following (n * l.size) k (m * l.size) first.fits c.fits) ∙ ap (λ (b : ℕ). take b buf_then) e in
      let returns_values = hands_then is_transparent l (number_at l cursor) n had part before mid now first.returns_values.within fits (take (n * l.size) buf) (take (m * l.size) following) m first.returns_values
      (subst (λ (j : ℕ). ReturnsValues is_transparent (standing l j part) mid now (take (m * l.size) following) m) first.number c.returns_values) in record {
        fits = omega (arith, ap length prefix, returns_values.len, length-take ((n + m) * l.size) buf_then);
        returns_values = subst (λ (xs : List ℕ). ReturnsValues is_transparent (standing l (number_at l cursor) had) before now xs (n + m)) prefix returns_values;
        is_cursor = c.is_cursor;
        number = omega (arith, c.number, first.number);
      }

  pub goes_on : (run : Chunk) → Collected is_transparent (reading l chunk.next part following) (between mid now) run → (run.next.within ≡ 0 → ReadValues l (number_at l chunk.next) mid now run.values)
      → Going is_transparent (reading l cursor had buf_then) (between before now) (then run)
  goes_on run c values_read = record {
    collected = collected_then run c;
    slab_read = λ end. ran_then is_transparent l (number_at l cursor) chunk.values had part before mid now first.returns_values.within fits run.values (going.slab_read slab)
        (subst (λ (j : ℕ). ReadValues l j mid now run.values) first.number (values_read end));
  }

  pub fails : (m : ℕ) → Failing (standing l (number_at l chunk.next) part) mid now m → (n : ℕ) × Failing (standing l (number_at l cursor) had) before now n
  fails m f = (
    chunk.values + m,
    failing_then is_transparent l (number_at l cursor) chunk.values had part before mid now first.returns_values.within fits m (going.slab_read slab)
        (subst (λ (j : ℕ). Failing (standing l j part) mid now m) first.number f),
  )

  pub stays : (v : ℕ) → Truncated is_transparent (standing l (number_at l chunk.next) part) mid now v → Collected is_transparent (reading l cursor had buf_then) (between before now) chunk
  stays v t =
      let still = sym (prefix_still buf following (chunk.values * l.size) k first.fits) in
      let returns_values = hands_still is_transparent l (number_at l cursor) chunk.values had part before mid now first.returns_values.within fits (take (chunk.values * l.size) buf) v first.returns_values
      (subst (λ (j : ℕ). Truncated is_transparent (standing l j part) mid now v) first.number t) in record {
        fits = omega (arith, ap length still, first.returns_values.len, length-take (chunk.values * l.size) buf_then);
        returns_values = subst (λ (xs : List ℕ). ReturnsValues is_transparent (standing l (number_at l cursor) had) before now xs chunk.values) still returns_values;
        is_cursor = first.is_cursor;
        number = first.number;
      }
