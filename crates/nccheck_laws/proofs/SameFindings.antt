-- The order of findings tells all of them apart.
use Rattle.nccheck_laws.proofs.Prelude.{FormatFault, Fact, Finding, Ordering, Equal, LayoutFact, finding_cmp, option_cmp, is_eq, nat_cmp, ordering_then, ranked, Block, Slab, ◌≡◌, ℕ, false, refl, sym, ap, Option, arith}
use Rattle.nc_findings.specs.declared.finding.Fact.TheVariants as fact
use Rattle.nc_base.specs.contracts.fault.FormatFaultOrd.TheImpl as faults
use Rattle.nc_findings.specs.contracts.layout_fact.BlockOrd.TheImpl as blocks
use Rattle.nc_findings.specs.contracts.layout_fact.SlabOrd.TheImpl as slabs
use Rattle.nc_findings.specs.contracts.layout_fact.LayoutFactOrd.TheImpl as layouts
use Rattle.nc_findings.specs.contracts.finding.FactOrd.TheImpl as facts

-- ---- parts

number : (i k : ℕ) → nat_cmp i k ≡ Equal → i ≡ k
number i k e = ranked i k Equal (sym e)

both : (r s : Ordering) → ordering_then r s ≡ Equal → (r ≡ Equal) × (s ≡ Equal)
both v0 s e = (grind arith, grind arith)

option : (o p : Option ℕ) → option_cmp nat_cmp o p ≡ Equal → o ≡ p
option v0 v1 e = grind (arith, number)

-- what is told apart by an order isn't the same
apart : {A : Type 0} (r : Ordering) → is_eq r ≡ false → r ≡ Equal → A
apart v0 told e = absurd (grind arith)

-- ---- facts

pub same-fault : (a b : FormatFault) → faults.ghosts.cmp a b ≡ Equal → a ≡ b
same-fault v0 v1 e = grind (arith, number)

same-block : (a b : Block) → blocks.ghosts.cmp a b ≡ Equal → a ≡ b
same-block v0 v1 e = grind (arith, number)

same-slab : (a b : Slab) → slabs.ghosts.cmp a b ≡ Equal → a ≡ b
same-slab v0 v1 e = grind (arith, both, number)

same-layout : (a b : LayoutFact) → layouts.ghosts.cmp a b ≡ Equal → a ≡ b
same-layout v0 v1 e = grind (arith, both, number, same-block, same-slab, option)

same-fact : (a b : Fact) → facts.ghosts.cmp a b ≡ Equal → a ≡ b
same-fact (fact.Fault a) (fact.Fault b) e = ap fact.Fault (same-fault a b e)
same-fact fact.Hdf5 fact.Hdf5 e = refl
same-fact (fact.Hdf5Truncated i m) (fact.Hdf5Truncated k n) e = grind (arith, both, number)
same-fact fact.Gzip fact.Gzip e = refl
same-fact fact.EmptyFile fact.EmptyFile e = refl
same-fact fact.NameCharacters fact.NameCharacters e = refl
same-fact fact.LargeCount fact.LargeCount e = refl
same-fact fact.EmptyList fact.EmptyList e = refl
same-fact fact.LongName fact.LongName e = refl
same-fact (fact.DuplicateName i) (fact.DuplicateName k) e = ap fact.DuplicateName (number i k e)
same-fact fact.NotNfc fact.NotNfc e = refl
same-fact fact.Padding fact.Padding e = refl
same-fact fact.EmptyAttribute fact.EmptyAttribute e = refl
same-fact fact.TrailingNul fact.TrailingNul e = refl
same-fact (fact.FillType i) (fact.FillType k) e = ap fact.FillType (number i k e)
same-fact fact.FillCount fact.FillCount e = refl
same-fact fact.HighRank fact.HighRank e = refl
same-fact (fact.Vsize i) (fact.Vsize k) e = ap fact.Vsize (number i k e)
same-fact (fact.OddVsize i) (fact.OddVsize k) e = ap fact.OddVsize (number i k e)
same-fact (fact.Layout a) (fact.Layout b) e = ap fact.Layout (same-layout a b e)
same-fact a b e = apart (facts.ghosts.cmp a b) refl e

same-record : (i k : ℕ) (a b : Fact) (o p : Option ℕ) → i ≡ k → a ≡ b → o ≡ p
    → (let one : Finding = record { offset = i; fact = a; field = o } in
    let other : Finding = record { offset = k; fact = b; field = p } in
    one ≡ other)
same-record i k a b o p offsets facts fields = cc

pub same-finding : (f g : Finding) → finding_cmp f g ≡ Equal → f ≡ g
same-finding f g e =
    let last = both _ (option_cmp nat_cmp f.field g.field) e in
    let third = both _ (facts.ghosts.cmp f.fact g.fact) last.0 in
    let first = both (nat_cmp f.offset g.offset) _ third.0 in
    same-record f.offset g.offset f.fact g.fact f.field g.field (number f.offset g.offset first.0) (same-fact f.fact g.fact third.1)
    (option f.field g.field last.1)
