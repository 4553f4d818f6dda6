use Rattle.cdl_values.proofs.Prelude.{length-map, rules}
use Rattle.cdl_values.proofs.NamePositions.{first_added, other_added}
use Rattle.cdl_values.proofs.name_index.NameIndex.add.Goals as goal

pub returns-in_ok-insert-clause-names : goal.returns-in_ok-insert-clause-names
returns-in_ok-insert-clause-names g c = search (rules, length-map, other_added)

pub returns-in_ok-insert-2-clause-names : goal.returns-in_ok-insert-2-clause-names
returns-in_ok-insert-2-clause-names g c = search (rules, length-map, first_added)
