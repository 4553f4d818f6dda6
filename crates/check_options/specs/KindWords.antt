-- Definition. Which words name kinds.
use Rattle.std.specs.Prelude.{◌≡◌, Option, Some, find}
use Rattle.std.specs.Str.{bytes_eq}
use Rattle.nc_types.specs.Bytes.{Bytes}
use Rattle.nc_findings.specs.declared.kind.Kind.{Kind}
use Rattle.nc_findings.specs.Kinds.{kind_word}
use Rattle.check_options.specs.declared.kind_words.TheConstants.{KINDS}

-- the kind that a word names, of those that are listed
unfoldable pub kind_named : Bytes → Option Kind
kind_named word = find (λ (kind : Kind). bytes_eq word (kind_word kind)) KINDS.now

-- no kind is left out of the list, and no two have one word
abbrev pub EachWordNamesItsKind : Type 0
EachWordNamesItsKind = (kind : Kind) → kind_named (kind_word kind) ≡ Some kind
