use Rattle.cdl_parse.proofs.Prelude.{rules, ◌≡◌, ◌++◌, ◌∙◌, ap, replicate, List, ℕ, concat, fill_value, bytes_of_number}
use Rattle.cdl_parse.proofs.Copies.{copies_of}
use Rattle.cdl_parse.proofs.declared_values.filled_array.Goals as goal

pub returns : goal.returns
returns c =
    let a = c.args in
    let var = a.var.now in
    let n = a.owed in
    let bytes : c.add_copies.new.bytes.items ≡ c.in_ok-bytes.bytes.items ++ concat (replicate n c.as_slice.result.now) = search rules in
    let listed : c.in_ok-bytes.bytes.items ≡ a.listed = search rules in
    let fill : c.as_slice.result.now ≡ bytes_of_number var.ty (fill_value var) = search rules in
    c.from_vec.ensures ∙ bytes ∙ ap (λ (xs : List ℕ). xs ++ concat (replicate n c.as_slice.result.now)) listed ∙
    ap (λ (xs : List ℕ). a.listed ++ xs) (ap (λ (ys : List ℕ). concat (replicate n ys)) fill ∙ copies_of (bytes_of_number var.ty) (fill_value var) n)
