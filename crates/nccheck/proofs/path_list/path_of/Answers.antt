use Rattle.nccheck.proofs.Prelude.{path_fault, ◌≡◌, ◌<◌, ◌≤◌, true, false, arith, List, ℕ, length, Some, None}
use Rattle.std.specs.Str.{is_utf8}
use Rattle.nccheck.specs.declared.fault.PathFault.TheVariants.{NotUtf8}
use Rattle.std.proofs.lemmas.Bool.{false_from_ne_true}
use Rattle.std.proofs.lemmas.Bool.Decides.{nat_tests}
use Rattle.std.proofs.lemmas.Str.{IsUtf8-from_is_utf8, is_utf8-from_IsUtf8}
use Rattle.nccheck.proofs.path_list.path_of.Goals as goal

-- a path of a length that can be opened
module _ (file : List ℕ) (some : 0 < length file) (le : length file ≤ 65535) where
  fine : is_utf8 file ≡ true → path_fault file ≡ None
  unfolding path_fault
  fine is = grind (arith, nat_tests, some, le, is)

  other : is_utf8 file ≡ false → path_fault file ≡ Some NotUtf8
  unfolding path_fault
  other is = grind (arith, nat_tests, some, le, is)

pub returns-in-Ok-clause-text : goal.returns-in-Ok-clause-text
returns-in-Ok-clause-text c =
    let file = c.args.file.now in
    let some : 0 < length file = grind (arith, nat_tests, c.is_empty.ensures, c.if-is_empty.false) in
    (c.in-Ok.ensures.cases.0, fine file some c.if-file-gt-LONGEST_PATH.false (is_utf8-from_IsUtf8 file c.in-Ok.ensures.cases.1))

pub returns-in-Err-clause-fault : goal.returns-in-Err-clause-fault
returns-in-Err-clause-fault c =
    let file = c.args.file.now in
    let some : 0 < length file = grind (arith, nat_tests, c.is_empty.ensures, c.if-is_empty.false) in
    let none = λ (h : is_utf8 file ≡ true). c.in-Err.ensures.cases.0 (IsUtf8-from_is_utf8 file h) in
    other file some c.if-file-gt-LONGEST_PATH.false (false_from_ne_true _ none)
