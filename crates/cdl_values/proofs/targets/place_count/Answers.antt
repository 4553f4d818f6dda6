use Rattle.cdl_values.proofs.Prelude.{dim_len, product, most, ◌≡◌, ℕ, ◌+◌, ◌*◌, ◌<◌, ◌≤◌, List, [], ◌∷◌, length, min, get_or, drop, map, arith, ◌∙◌, ap, rules}
use Rattle.nc_base.proofs.SizeLaws.{capped_more, capped_all}
use borrow.Author.Count.{below_more}
use Rattle.cdl_values.proofs.targets.place_count.Goals as goal

-- no single length is too great
one_fits : (f : ℕ → ℕ) (ids : List ℕ) (i : ℕ) → length ids ≤ i → length ids < 2 → ((k : ℕ) → k < i → f (get_or ids k 0) ≤ most) → product (map f ids) ≤ most
one_fits f [] i done short fit = omega arith
one_fits f (id ∷ []) i done short fit = let h = fit 0 (omega (arith, done)) in omega (arith, h)
one_fits f (id ∷ other ∷ ids) i done short fit = absurd (omega (arith, short))

pub loop-id-preserved : goal.loop-id-preserved
loop-id-preserved c =
    let ids = c.args.dimids.now in
    let i = c.loop-id.id-index in
    let len = dim_len c.args.dims.now in
    let read : c.saturating_mul-count.result ≡ min (c.loop-id.count * len (get_or ids i 0)) most =
    c.saturating_mul-count.ensures ∙ ap (λ n. min (c.loop-id.count * n) most) c.dim_len.ensures in
    record {
      capped = ap (λ n. min (n * product (map len (drop (i + 1) ids))) most) read ∙ capped_more len ids c.loop-id.count i _ most c.loop-id-test.true c.loop-id.invariant.capped;
      fits = omega (arith, c.saturating_mul-count.ensures);
      each = below_more (λ k. len (get_or ids k 0) ≤ most) i c.loop-id.invariant.each (omega (arith, c.dim_len.ensures, c.dim_len.type_inv));
    }

pub returns-clause-capped : goal.returns-clause-capped
returns-clause-capped c = search (rules, capped_all)

pub returns-clause-short : goal.returns-clause-short
returns-clause-short c = λ short.
    let len = dim_len c.args.dims.now in
    let ids = c.args.dimids.now in
    let all : c.loop-id.count ≡ min (product (map len ids)) most = search (rules, capped_all) in
    omega (arith, all, one_fits len ids c.loop-id.id-index c.loop-id-test.false short c.loop-id.invariant.each)
