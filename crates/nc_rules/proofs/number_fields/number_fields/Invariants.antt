use Rattle.nc_rules.proofs.Prelude.{indexed_from, is_numrecs, is_vsize, is_begin, named, number_field, ◌≡◌, ◌++◌, map, drop}
use Rattle.nc_rules.proofs.number_fields.number_fields.Given as goal

abbrev pub invariant-loop-index : goal.invariant-loop-index
invariant-loop-index l = record {
  numrecs : l.fields.numrecs ++ map number_field (named is_numrecs (indexed_from l.index (drop l.index l.entries))) ≡ map number_field (named is_numrecs (indexed_from 0 l.entries));
  vsizes : l.fields.vsizes ++ map number_field (named is_vsize (indexed_from l.index (drop l.index l.entries))) ≡ map number_field (named is_vsize (indexed_from 0 l.entries));
  begins : l.fields.begins ++ map number_field (named is_begin (indexed_from l.index (drop l.index l.entries))) ≡ map number_field (named is_begin (indexed_from 0 l.entries));
}
