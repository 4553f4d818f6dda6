-- One read of a walk, and what the walk is afterwards.
use Rattle.nc_walk.proofs.Prelude.{◌≡◌, ℕ, ◌+◌, ◌-◌, ◌*◌, ◌/◌, ◌<◌, ◌≤◌, Bool, List, ◌++◌, length, take, drop, map, sym, ◌∙◌, ap, subst, arith, length-append, length-take, Option, None, Some, Ok, Err, All, concat, take-append-le, div-add-mod', mod-mul-add, mul-div_cancel, mul-le-mul_right, le_of_mul-le-mul_right, div-mul-le_self, bytes_at, SourceView, having_read, Slabs, Cursor, ReadInFull, FailedReadInFull, total, number_at, offset, offsets_from, offsets_after, Ready, IsSized, IsCursor, IsWhole, Exactly, ReturnsValues, Failing, Truncated, ReadValues, Steps, Advanced, reading, between, standing, stopped, as_answer, count, DataTruncated, mod-lt}
use Rattle.nc_walk.specs.declared.fault.WalkFault.{WalkFault}
use Rattle.nc_walk.specs.code.Chunks.{Collects}
use Rattle.nc_walk.proofs.FullReadSteps.{transparent_any, transparent_map, transparent_both}
use Rattle.nc_walk.proofs.Runs.{length-offsets, take-offsets, drop-offsets, first_offset, run_bytes, run_within, ready_whole}

some_left : (l : Slabs) (done : ℕ) → done < total l → 0 < length (offsets_after l done)
some_left l done lt = omega (arith, length-offsets l done (total l - done))

pub none_left : (l : Slabs) (done : ℕ) → done ≡ total l → length (offsets_after l done) ≡ 0
none_left l done e = omega (arith, length-offsets l done (total l - done))

-- no value is ready
pub not_ready : (is_transparent : Bool) (l : Slabs) (done capacity : ℕ) (buf : List ℕ) (before : SourceView) (n : ℕ) → IsSized l → done < total l
    → Ready l done capacity (length before.bytes) n → n ≡ 0 → Truncated is_transparent (standing l done buf) before before done
not_ready is_transparent l done capacity buf before n sized more ready none = grind (arith, some_left, transparent_any, first_offset, total)

-- bytes of no whole value
below : (got size : ℕ) → 0 < size → got / size ≡ 0 → got < size
below got size some none = grind (arith, div-add-mod', mod-lt)

-- what one read handed over
grown : (before now : SourceView) (got : ℕ) → now ≡ having_read before got → now.handed ≡ before.handed + got
grown before now got same = ap (λ (v : SourceView). v.handed) same

-- n values were requested, and `got` bytes came
module _ (is_transparent : Bool) (l : Slabs) (done capacity : ℕ) (buf : List ℕ) (before now : SourceView) (ys rest : List ℕ) (n got : ℕ)
    (sized : IsSized l) (more : done < total l) (fits : capacity ≤ length buf) (ready : Ready l done capacity (length before.bytes) n) (some : 0 < n)
    (len : length ys ≡ n * l.size) where
  pub few : got ≤ length ys → got / l.size ≤ n
  few le = le_of_mul-le-mul_right {k = l.size} (let up : got / l.size * l.size ≤ n * l.size = omega (arith, div-mul-le_self got l.size) in up) sized.some

  end : done + n ≤ total l
  end = run_within l done n sized.values_per_slab more ready.in_slab

  next : take n (offsets_after l done) ≡ offsets_from l done n
  next = take-offsets l done (total l - done) n (omega (arith, end))

  whole : All (IsWhole l.size before.bytes) (take n (offsets_after l done))
  whole = subst (All (IsWhole l.size before.bytes)) (sym next) (ready_whole l before.bytes done capacity n ready)

  all_of : got ≡ length ys → take got ys ≡ take got (drop (offset l done) before.bytes) → now ≡ having_read before got
      → Exactly (standing l done buf) before now (take (got / l.size * l.size) (ys ++ rest)) (got / l.size)
  all_of full same left =
      let w = n * l.size in
      let e : got ≡ w = full ∙ len in
      let k : got / l.size ≡ n = ap (λ (m : ℕ). m / l.size) e ∙ mul-div_cancel n sized.some in
      let prefix : take w (ys ++ rest) ≡ take w ys = take-append-le w ys rest (omega arith) in
      let long : length (take w (ys ++ rest)) ≡ w = ap (λ (xs : List ℕ). length xs) prefix ∙ (let h : length (take w ys) ≡ w = omega (arith, length-take w ys) in h) in
      subst (λ (m : ℕ). Exactly (standing l done buf) before now (take (m * l.size) (ys ++ rest)) m) (sym k) (record {
        whole = whole;
        bytes = prefix ∙ subst (λ (m : ℕ). take m ys ≡ take m (drop (offset l done) before.bytes)) e same
            ∙ sym (run_bytes l before.bytes done n ready.in_slab)
            ∙ ap (λ (xs : List ℕ). concat (map (bytes_at l.size before.bytes) xs)) (sym next);
        handed = left ∙ ap (having_read before) (e ∙ sym long);
      })

  pub came : ReadInFull is_transparent before now (offset l done) ys got → 0 < got / l.size
      → (got / l.size * l.size ≤ length (ys ++ rest)) × ReturnsValues is_transparent (standing l done buf) before now (take (got / l.size * l.size) (ys ++ rest)) (got / l.size)
  came f some_came = grind (arith, div-mul-le_self, length-append, length-take, end, few, length-offsets, grown, transparent_both, all_of)

  -- where all came, these bytes alone were read
  ran_all : ReadInFull is_transparent before now (offset l done) ys got → got ≡ n * l.size → ReadValues l done before now n
  ran_all f all = record { whole = whole; handed = f.same ∙ ap (having_read before) all }

  pub values_read : ReadInFull is_transparent before now (offset l done) ys got → n ≤ got / l.size → ReadValues l done before now (got / l.size)
  values_read f all = grind (arith, few, mul-le-mul_right, ran_all, div-mul-le_self)

  pub came_none : ReadInFull is_transparent before now (offset l done) ys got → got / l.size ≡ 0 → Truncated is_transparent (standing l done buf) before now done
  came_none f none = grind (arith, some_left, grown, below, transparent_map, mul-div_cancel)

  pub partway : FailedReadInFull before now (length ys) → (k : ℕ) × Failing (standing l done buf) before now k
  partway b = (
    n,
    record {
      some = some_left l done more;
      within = omega (arith, end, length-offsets l done (total l - done));
      whole = whole;
      capacity = omega (arith, ready.in_capacity, fits);
      partway = subst (FailedReadInFull before now) len b;
    },
  )

-- ---- how many of them are whole

-- of n values that were requested from a cursor on, `got` bytes came, which have some whole values, or not one
module _ (is_transparent : Bool) (l : Slabs) (cursor : Cursor) (capacity : ℕ) (had : List ℕ) (before now : SourceView) (ys rest : List ℕ) (n got : ℕ)
    (sized : IsSized l) (is_cursor : IsCursor l cursor) (more : number_at l cursor < total l) (fits : capacity ≤ length had)
    (ready : Ready l (number_at l cursor) capacity (length before.bytes) n) (some : 0 < n) (len : length ys ≡ n * l.size)
    (f : ReadInFull is_transparent before now (offset l (number_at l cursor)) ys got) where
  abbrev i : ℕ
  i = number_at l cursor

  in_slab : cursor.within + n ≤ l.values_per_slab
  in_slab = omega (arith, mod-mul-add cursor.slab l.values_per_slab cursor.within is_cursor.within, ready.in_slab)

  most : got / l.size ≤ n
  most = few is_transparent l i capacity had before now ys rest n got sized more fits ready some len f.within

  -- m of them are whole, one at least
  pub came_whole : (m : ℕ) → m ≡ got / l.size → 0 < m
      → ((m * l.size ≤ length (ys ++ rest)) × ReturnsValues is_transparent (standing l i had) before now (take (m * l.size) (ys ++ rest)) m)
      × (cursor.within + m ≤ l.values_per_slab)
      × (cursor.within + m ≡ l.values_per_slab → ReadValues l i before now m)
  came_whole m whole some_came = (
    subst (λ (k : ℕ). (k * l.size ≤ length (ys ++ rest)) × ReturnsValues is_transparent (standing l i had) before now (take (k * l.size) (ys ++ rest)) k) (sym whole)
        (came is_transparent l i capacity had before now ys rest n got sized more fits ready some len f (subst (λ (k : ℕ). 0 < k) whole some_came)),
    omega (arith, in_slab, most),
    λ full. subst (ReadValues l i before now) (sym whole)
        (values_read is_transparent l i capacity had before now ys rest n got sized more fits ready some len f (omega (arith, in_slab, full, whole))),
  )

  -- none is whole
  pub came_partly : (fault : WalkFault) → fault ≡ DataTruncated i → got / l.size ≡ 0 → Collects is_transparent (reading l cursor had (ys ++ rest)) (between before now) (Err fault)
  came_partly fault is none = rw is (came_none is_transparent l i capacity had before now ys rest n got sized more fits ready some len f none)

-- ---- afterwards

prefix : (buf : List ℕ) (m : ℕ) → 0 < m → as_answer buf (Ok m) ≡ Ok (Some (take m buf))
prefix buf m h = grind arith

-- values at the start of the buffer are handed out
module _ (is_transparent : Bool) (l : Slabs) (done : ℕ) (had buf : List ℕ) (before now : SourceView) (n : ℕ) (sized : IsSized l) (within : done ≤ total l)
    (h : (n * l.size ≤ length buf) × ReturnsValues is_transparent (standing l done had) before now (take (n * l.size) buf) n) where
  number : count l.size (take (n * l.size) buf) ≡ n
  number = ap (λ (k : ℕ). k / l.size) h.1.len ∙ mul-div_cancel n sized.some

  answer : as_answer buf (Ok (n * l.size)) ≡ Ok (Some (take (n * l.size) buf))
  answer = prefix buf (n * l.size) (let up : 1 * l.size ≤ n * l.size = mul-le-mul_right l.size (let w : 1 ≤ n = omega (arith, h.1.some) in w) in omega (arith, up, sized.some))

  pub reached : done + n ≤ total l
  reached = omega (arith, h.1.within, length-offsets l done (total l - done))

  pub steps : (fault : Option WalkFault) → Steps is_transparent (stopped l done fault had) before now (as_answer buf (Ok (n * l.size)))
  steps fault = grind (arith, answer, number, transparent_map, whole)

  pub advanced : (old new : Option WalkFault) → new ≡ None → length buf ≡ length had → Advanced (stopped l done old had) (stopped l (done + n) new buf) (as_answer buf (Ok (n * l.size)))
  advanced old new none capacity = grind (arith, answer, drop-offsets, reached, number)
