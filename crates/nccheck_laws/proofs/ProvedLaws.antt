-- What proves those laws of this crate that need no answer.
use Rattle.nccheck_laws.proofs.CanonicalBegins.{quiet-begins}
use Rattle.nccheck_laws.proofs.CanonicalEnds.{quiet-length}
use Rattle.nccheck_laws.proofs.CanonicalLayouts.{begins-quiet, length-quiet}
use Rattle.nccheck_laws.proofs.LayoutFacts.{missing-told}
use Rattle.nccheck_laws.proofs.ListedValues.{missing-listed, values-had}
use Rattle.nccheck_laws.proofs.MissingValues.{missing-found, short-lacks}
use Rattle.nccheck_laws.proofs.SlabsApart.{quiet-apart}
use Rattle.nccheck_laws.proofs.WholeSlots.{missing-slab}
use Rattle.nccheck_laws.proofs.WrittenParts.{written-fields, canonical-fields}

pub ruleset laws = (quiet-begins, quiet-length, begins-quiet, length-quiet, missing-told, missing-listed, values-had, missing-found, short-lacks, quiet-apart, missing-slab, written-fields, canonical-fields)
