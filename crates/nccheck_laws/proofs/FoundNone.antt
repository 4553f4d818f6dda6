-- What holds of each slot, of each block and at the end of the file if no finding is of a kind, and the converse.
use Rattle.nccheck_laws.proofs.Prelude.{list_any, Contains, list_any-append, Slot, FileLayout, LayoutFinding, each_slot, layout_findings, LayoutFact, FindsNone, Extent, blocks, slot_findings, block_findings, end_findings, contains-none, contains-here, contains-there, contains-cases, ◌≡◌, ℕ, suc, ◌+◌, Bool, false, List, [], ◌∷◌, ◌++◌, refl, subst, arith, inl, inr, flat_map, common_steps}
use Rattle.nc_findings.specs.declared.layout_fact.LayoutFact.TheVariants as facts
use Rattle.nc_layout.specs.NumRecsRules.{numrecs_findings}
use Rattle.nccheck_laws.proofs.IndexedSlots.{At}

-- none of these findings is of the kind
abbrev pub Quiet : (LayoutFact → Bool) → List LayoutFinding → Type 0
Quiet kind findings = list_any (λ (finding : LayoutFinding). kind finding.fact) findings ≡ false

parts : (kind : LayoutFact → Bool) (a b c d : List LayoutFinding) → Quiet kind (a ++ b ++ c ++ d) → Quiet kind b × Quiet kind c × Quiet kind d
parts kind a b c d h = (grind (arith, list_any-append), grind (arith, list_any-append), grind (arith, list_any-append))

pub quiet-from : {A : Type 0} (p : A → Bool) (f : ℕ → Slot → List A) (i : ℕ) (slots : List Slot) (k m : ℕ)
    → list_any p (each_slot f i slots) ≡ false → (x : Slot) → At slots k x → m ≡ i + k → list_any p (f m x) ≡ false
quiet-from p f i [] k m h x at is = cc
quiet-from p f i (y ∷ ys) v4 m h x at is = grind (arith, list_any-append, λ (k : ℕ). quiet-from p f (i + 1) ys k m)

pub quiet-slot : (kind : LayoutFact → Bool) (layout : FileLayout) (i : ℕ) (x : Slot) → FindsNone kind layout → At layout.slots i x
    → Quiet kind (slot_findings layout i x)
unfolding layout_findings
quiet-slot kind layout i x h at =
    quiet-from _ (slot_findings layout) 0 layout.slots i i (parts kind (numrecs_findings layout) _ _ _ h).0 x at (omega arith)

pub quiet-end : (kind : LayoutFact → Bool) (layout : FileLayout) → FindsNone kind layout → Quiet kind (end_findings layout)
unfolding layout_findings
quiet-end kind layout h = (parts kind (numrecs_findings layout) _ _ _ h).1

quiet-flat : (kind : LayoutFact → Bool) (f : Extent → List LayoutFinding) (bs : List Extent) (b : Extent) → Quiet kind (flat_map f bs)
    → Contains bs b → Quiet kind (f b)
quiet-flat kind f [] b h has = absurd (contains-none b has)
quiet-flat kind f (c ∷ bs) b h has =
    elim (contains-cases c b bs has) [
      | inl here ↦ subst (λ (x : Extent). Quiet kind (f x)) here (grind (arith, list_any-append))
      | inr later ↦ quiet-flat kind f bs b (grind (arith, list_any-append)) later
    ]

pub quiet-block : (kind : LayoutFact → Bool) (layout : FileLayout) (b : Extent) → FindsNone kind layout → Contains (blocks layout) b
    → Quiet kind (block_findings layout.header_end (blocks layout) b)
unfolding layout_findings
quiet-block kind layout b h has = grind (arith, quiet-flat, parts)

-- ---- the converse

pub each-quiet : {A : Type 0} (p : A → Bool) (f : ℕ → Slot → List A) (i : ℕ) (slots : List Slot)
    → ((k m : ℕ) (x : Slot) → At slots k x → m ≡ i + k → list_any p (f m x) ≡ false) → list_any p (each_slot f i slots) ≡ false
each-quiet p f i [] each = refl
each-quiet p f i (y ∷ ys) each =
    let first = each 0 i y refl (omega arith) in
    let others = each-quiet p f (i + 1) ys (λ k m x at is. each (suc k) m x at (omega arith)) in grind (arith, list_any-append)

flat-quiet : (kind : LayoutFact → Bool) (f : Extent → List LayoutFinding) (bs : List Extent)
    → ((b : Extent) → Contains bs b → Quiet kind (f b)) → Quiet kind (flat_map f bs)
flat-quiet kind f [] each = refl
flat-quiet kind f (b ∷ bs) each = grind (arith, flat-quiet kind f bs (λ c has. each c (contains-there b c bs has)), contains-here, contains-there, list_any-append)

-- no finding is of a kind that isn't one of findings at the number of records
pub all-quiet : (kind : LayoutFact → Bool) (layout : FileLayout) → ((n : ℕ) → kind (facts.Streaming n) ≡ false)
    → ((n : ℕ) → kind (facts.UnusedRecords n) ≡ false)
    → ((i : ℕ) (x : Slot) → At layout.slots i x → Quiet kind (slot_findings layout i x))
    → Quiet kind (end_findings layout)
    → ((b : Extent) → Contains (blocks layout) b → Quiet kind (block_findings layout.header_end (blocks layout) b)) → FindsNone kind layout
unfolding layout_findings numrecs_findings
all-quiet kind layout streamed unused slots end bs = grind (arith, common_steps, each-quiet, flat-quiet, list_any-append)
