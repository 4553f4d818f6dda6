use Rattle.nc_walk.proofs.Prelude.{rules, ◌≡◌, ℕ, ◌+◌, ◌-◌, ◌*◌, ◌^◌, ◌<◌, ◌≤◌, List, length, take, drop, arith, ap, sym, subst, ◌∙◌, length-drop, length-take, refl, mul-le-mul_left, mul-le-mul_right, Slabs, Cursor, number_at, offset, IsSized, IsOffset, Ready, SourceView, having_read}
use Rattle.nc_walk.proofs.ChunkSteps.{whole_ready, next_offset, goes_on, fails}
use Rattle.nc_walk.proofs.chunk.read_chunk.Goals as goal

-- the rest of a list, and its prefix, are as long as the list
rest : (n : ℕ) (xs : List ℕ) → n ≤ length xs → n + length (take (length xs - n) (drop n xs)) ≡ length xs
rest n xs le = omega (arith, length-take (length xs - n) (drop n xs), length-drop n xs)

room : (n : ℕ) (xs had : List ℕ) → n ≤ length xs → length xs ≡ length had → n + length (take (length xs - n) (drop n xs)) ≤ length had
room n xs had le same = omega (arith, rest n xs le, same)

capacity_left : (n capacity size : ℕ) (xs ys : List ℕ) → n ≤ capacity → n * size ≤ length xs → capacity * size ≤ length ys → length xs ≡ length ys
    → (capacity - n) * size ≤ length (take (length xs - n * size) (drop (n * size) xs))
capacity_left n capacity size xs ys below fits most same = grind (arith, rest)

both_fit : (n m size : ℕ) (xs : List ℕ) → 0 < size → n * size ≤ length xs → m * size ≤ length (take (length xs - n * size) (drop (n * size) xs)) → n + m ≤ length xs
both_fit n m size xs some fits more = grind (arith, mul-le-mul_left, rest)

-- the slab that follows is ready
follows : (l : Slabs) (cursor : Cursor) (values capacity len at : ℕ) (into had : List ℕ) (before now : SourceView) (n : ℕ) → IsSized l → cursor.within ≡ 0 → IsOffset l (number_at l cursor) at
    → (l.values_per_slab ≤ capacity - values) × (at + l.values_per_slab * l.size ≤ len) → len < 2 ^ 64 → len ≡ length before.bytes → now ≡ having_read before n
    → values < capacity → values * l.size ≤ length into → capacity * l.size ≤ length had → length into ≡ length had
    → (at ≡ offset l (number_at l cursor)) × Ready l (number_at l cursor) (length (take (length into - values * l.size) (drop (values * l.size) into))) (length now.bytes) l.values_per_slab
follows l cursor values capacity len at into had before now n sized first is fits small known handed below stands most same =
    let room = length (take (length into - values * l.size) (drop (values * l.size) into)) in
    let up : l.values_per_slab * l.size ≤ (capacity - values) * l.size = mul-le-mul_right l.size fits.0 in
    let left : (capacity - values) * l.size ≤ room = capacity_left values capacity l.size into had (omega arith) stands most same in
    subst (λ (k : ℕ). (at ≡ offset l (number_at l cursor)) × Ready l (number_at l cursor) room k l.values_per_slab) (known ∙ ap (λ (s : SourceView). length s.bytes) (sym handed))
    (whole_ready l cursor room len at sized first is fits.1 small (omega (arith, up, left)))

pub read_values-requires : goal.read_values-requires
read_values-requires g c =
    let test = c.loop-slabs-test.ensures.0 refl in
    let next = follows c.args.slabs.now c.loop-slabs.chunk.next c.loop-slabs.chunk.values c.args.capacity c.len-len.result c.loop-slabs.at c.loop-slabs.into c.args.into.now (g.S.Source.view c.args.source.now) (g.S.Source.view c.loop-slabs.source) _
    c.requires.sized test.slab (c.loop-slabs.invariant.at test.slab) (c.if-has_whole_slab.ensures.0 refl) c.len-len.type_inv
    c.len-len.ensures.length (c.loop-slabs.invariant.going.slab_read test.slab).handed
    test.fits c.loop-slabs.invariant.going.collected.fits c.requires.capacity (c.loop-slabs.auto.into ∙ c.read_from_slab.auto.into) in
    record { sized = search rules; is_cursor = search rules; more = test.more; at = next.0; some = c.requires.sized.values_per_slab; ready = next.1; len = search rules }

pub loop-slabs-preserved : goal.loop-slabs-preserved
loop-slabs-preserved g c =
    let test = c.loop-slabs-test.ensures.0 refl in
    record {
      going = goes_on g.S.Source.is_transparent _ _ _ _ _ _ _ _ _ _ _ c.loop-slabs.invariant.going test.slab
          (room (c.loop-slabs.chunk.values * c.args.slabs.now.size) c.loop-slabs.into c.args.into.now c.loop-slabs.invariant.going.collected.fits (c.loop-slabs.auto.into ∙ c.read_from_slab.auto.into))
          _ c.in-Ok.ensures.collects c.in-Ok.ensures.slab_read;
      at = λ first.
          c.saturating_add-at.ensures
          ∙ next_offset c.args.slabs.now c.loop-slabs.chunk.next c.in-Ok.slab.next c.in-Ok.slab.values c.loop-slabs.at c.requires.sized test.slab first
          c.in-Ok.ensures.collects.returns_values.some c.in-Ok.ensures.in_slab c.in-Ok.ensures.collects.number (c.loop-slabs.invariant.at test.slab);
    }

pub returns-in-Err-ReadFailed : goal.returns-in-Err-ReadFailed
returns-in-Err-ReadFailed g c =
    let test = c.loop-slabs-test.ensures.0 refl in
    fails g.S.Source.is_transparent _ _ _ _ _ c.read_values.new.into _ _ _ _ 0 c.loop-slabs.invariant.going test.slab
    (room (c.loop-slabs.chunk.values * c.args.slabs.now.size) c.loop-slabs.into c.args.into.now c.loop-slabs.invariant.going.collected.fits (c.loop-slabs.auto.into ∙ c.read_from_slab.auto.into))
    _ (rw c.in-Err-ReadFailed.field-0-is at c.in-Err-ReadFailed.ensures.collects).1

pub read_from_slab-requires-2 : goal.read_from_slab-requires-2
read_from_slab-requires-2 g c = grind (arith, capacity_left)

pub overflow_add-result : goal.overflow_add-result
overflow_add-result g c =
    let few : c.loop-slabs.chunk.values + c.in-Ok-read_from_slab.more.values ≤ length c.loop-slabs.into
    = both_fit c.loop-slabs.chunk.values c.in-Ok-read_from_slab.more.values c.args.slabs.now.size c.loop-slabs.into c.requires.sized.some c.loop-slabs.invariant.going.collected.fits c.in-Ok-read_from_slab.ensures.collects.returns_values.capacity in
    search rules

pub returns-in-Ok-read_from_slab : goal.returns-in-Ok-read_from_slab
returns-in-Ok-read_from_slab g c =
    (goes_on g.S.Source.is_transparent _ _ _ _ _ _ _ _ _ _ _ c.loop-slabs.invariant.going (c.if-not-continues_in_next_slab.ensures.0 refl).slab
    (room (c.loop-slabs.chunk.values * c.args.slabs.now.size) c.loop-slabs.into c.args.into.now c.loop-slabs.invariant.going.collected.fits (c.loop-slabs.auto.into ∙ c.read_from_slab.auto.into))
    _ c.in-Ok-read_from_slab.ensures.collects c.in-Ok-read_from_slab.ensures.slab_read).collected

pub returns-in-Err-ReadFailed-read_from_slab : goal.returns-in-Err-ReadFailed-read_from_slab
returns-in-Err-ReadFailed-read_from_slab g c =
    fails g.S.Source.is_transparent _ _ _ _ _ c.read_from_slab-2.new.into _ _ _ _ 0 c.loop-slabs.invariant.going (c.if-not-continues_in_next_slab.ensures.0 refl).slab
    (room (c.loop-slabs.chunk.values * c.args.slabs.now.size) c.loop-slabs.into c.args.into.now c.loop-slabs.invariant.going.collected.fits (c.loop-slabs.auto.into ∙ c.read_from_slab.auto.into))
    _ (rw c.in-Err-ReadFailed-read_from_slab.field-0-is at c.in-Err-ReadFailed-read_from_slab.ensures.collects).1
