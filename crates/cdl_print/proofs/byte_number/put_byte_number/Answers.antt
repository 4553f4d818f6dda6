use Rattle.std.proofs.Common.{◌≡◌, ◌∙◌, ℕ, ◌+◌, ◌-◌, ◌*◌, ◌≤◌, List, ◌++◌, length, take, drop, ap, sym, subst, arith, length-append, append_assoc, ℤ, to_z-of_z}
use Rattle.std.specs.Fmt.{signed_decimal}
use Rattle.std.specs.Int.{w128}
use Rattle.std.proofs.lemmas.List.{length-take-le, take-take}
use Rattle.std.proofs.Math.Seq.{take-append_seam}
use Rattle.cdl_print.proofs.ByteNumbers.{text_is}
use Rattle.cdl_print.specs.declared.byte_number.TheConstants.{TEXTS}
use Rattle.cdl_print.proofs.byte_number.put_byte_number.Goals as goal

-- the first of the bytes that are put
first_put : (old new bytes first others : List ℕ) (at end : ℕ) → at ≤ length old → bytes ≡ first ++ others → end ≡ at + length bytes → take end new ≡ take at old ++ bytes
    → take (at + length first) new ≡ take at old ++ first
first_put old new bytes first others at end within parts at_end put =
    let whole = put ∙ ap (λ t. take at old ++ t) parts ∙ sym (append_assoc (take at old) first others) in
    let long : at + length first ≡ length (take at old ++ first) = omega (arith, length-append (take at old) first, length-take-le at old within) in
    sym (take-take (at + length first) end new (omega (arith, ap length parts, length-append first others, at_end)))
    ∙ ap (take (at + length first)) whole ∙ ap (λ k. take k ((take at old ++ first) ++ others)) long ∙ take-append_seam (take at old ++ first) others

pub returns : goal.returns
returns c =
    let i = c.index_of-from.result in
    let len : 4 * i + 4 - 4 * i ≡ 4 = omega arith in
    let parts = ap (λ k. take k (drop (4 * i) TEXTS)) len ∙ text_is i c.index_of-from.ensures.within in
    subst (λ (number : ℤ). take (c.args.at + length (signed_decimal number)) c.put_bytes.new.text ≡ take c.args.at c.args.text.now ++ signed_decimal number) (sym c.index_of-from.ensures.index ∙ to_z-of_z {w = w128} c.ranges.n)
    (first_put _ _ _ _ _ _ _ (omega (arith, c.requires.fits)) parts c.put_bytes.ensures.end c.put_bytes.ensures.written)
