use Rattle.cdl_print.proofs.Prelude.{◌≡◌, ◌-◌, false, [], subst, Option, IfSome, arith, zero-mod, Look, column, variable_opening, prefix_nil, held_first, opening_of, IsAfter, look_in, HasPrinted, Progress, ValuePrinter, refl, slice_get, look_of, look_at}
use Rattle.nc_base.specs.declared.header.Var.{Var}
use Rattle.cdl_print.proofs.printer.ValuePrinter.new.Goals as goal

-- What the printer of a variable's values has done, by how far they are printed.

-- before the first value
after_none : (look : Look) (p : Progress) → p.position ≡ 0 → p.row_index ≡ 0 → p.held_nuls ≡ 0 → p.columns_left ≡ look.width - column (variable_opening look) → IsAfter look [] p
after_none look p position row_index held columns_left = grind (arith, zero-mod look.row, prefix_nil look, held_first look [], column)

-- a new printer
stands_first : (look : Look) (printer : ValuePrinter) → printer.progress.position ≡ 0 → printer.progress.row_index ≡ 0 → printer.progress.held_nuls ≡ 0
    → printer.progress.columns_left ≡ printer.layout.width - column (opening_of printer.layout.name.now)
    → printer.has_failed ≡ false → look_in printer ≡ look → HasPrinted look [] printer
unfolding variable_opening
stands_first look printer position row_index held columns_left unfailed same = record {
  same_look = same;
  following = subst (λ (l : Look). IsAfter l [] printer.progress) same (after_none (look_in printer) printer.progress position row_index held columns_left);
  unfailed = unfailed;
}

if_some : {X : Type 0} (P Q : X → Type 0) (o : Option X) → ((x : X) → P x → Q x) → IfSome o P → IfSome o Q
if_some P Q o h h2 = grind arith

pub returns : goal.returns
returns c =
    let h = c.args.header.now in
    if_some (λ (var : Var). look_at c.layout_of-layout.result ≡ look_of h var c.args.records c.args.width) _ (slice_get h.vars c.args.v)
    (λ var same. stands_first (look_of h var c.args.records c.args.width) _ refl refl refl c.columns_left_after_opening-columns_left.ensures refl same) c.layout_of-layout.ensures
