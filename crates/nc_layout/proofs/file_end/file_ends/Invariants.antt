use Rattle.nc_layout.proofs.Prelude.{Extent, has_values, ◌≡◌, map, fold, max, filter, drop}
use Rattle.nc_layout.proofs.file_end.file_ends.Given as goal

abbrev pub invariant-loop-block : goal.invariant-loop-block
invariant-loop-block l = record {
  values : fold max l.ends.values (map (λ (b : Extent). b.end) (filter has_values (drop l.block-index l.extents)))
      ≡ fold max l.layout.header_end (map (λ (b : Extent). b.end) (filter has_values l.extents));
  padding : fold max l.ends.padding (map (λ (b : Extent). b.padded_end) (filter has_values (drop l.block-index l.extents)))
      ≡ fold max l.layout.header_end (map (λ (b : Extent). b.padded_end) (filter has_values l.extents));
  used : fold max l.ends.used (map (λ (b : Extent). b.padded_end) (drop l.block-index l.extents))
      ≡ fold max l.layout.header_end (map (λ (b : Extent). b.padded_end) l.extents);
}
