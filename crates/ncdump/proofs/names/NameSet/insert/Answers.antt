use Rattle.ncdump.proofs.Prelude.{◌≡◌, ℕ, Bool, true, ◌||◌, List, Bor, ap, ◌∙◌, cond, arith, bytes_eq}
use Rattle.std.specs.BTreeSet.{BTreeSet, contains_by, Updates}
use Rattle.std.specs.Cmp.Lexicographic.{slice_cmp}
use Rattle.std.specs.Ordering.{nat_cmp}
use Rattle.std.proofs.lemmas.Map.Text.{is_eq-slice_cmp}
use Rattle.ncdump.proofs.names.NameSet.insert.Goals as goal

-- A name more in a set.
cond-or : (added had : Bool) → cond added true had ≡ (had || added)
cond-or added had = grind arith

inserted : (name : Bor (List ℕ)) (old new : BTreeSet (Bor (List ℕ))) → Updates (λ x y. slice_cmp nat_cmp x.now y.now) old new name true
    → (other : List ℕ) → contains_by (λ k. slice_cmp nat_cmp other k.now) new ≡ (contains_by (λ k. slice_cmp nat_cmp other k.now) old || bytes_eq name.now other)
inserted name old new updates other =
    let had = contains_by (λ (k : Bor (List ℕ)). slice_cmp nat_cmp other k.now) old in
    updates.0 (record { ref_ptr = (0, 0); now = other }) ∙ ap (λ (b : Bool). cond b true had) (is_eq-slice_cmp name.now other) ∙ cond-or (bytes_eq name.now other) had

pub returns : goal.returns
returns c = inserted c.args.name c.args.self.now.names c.insert.new.self c.in_ok-insert.ensures.updates
