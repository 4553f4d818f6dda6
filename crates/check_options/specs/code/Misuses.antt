-- For contracts. What the code says of words that are no command line.
use Rattle.std.specs.Prelude.{◌≡◌, ◌≢◌, Option, Some, None, Result, Ok, Err}
use Rattle.clap.specs.declared.error.kind.ErrorKind.{ErrorKind}
use Rattle.clap.specs.declared.error.kind.ErrorKind.TheVariants as kinds
use Rattle.check_options.specs.Misuse as misuse
use Rattle.check_options.specs.Misuse.{Misuse}
use Rattle.check_options.specs.declared.misuse.Misuse as code
use Rattle.check_options.specs.declared.misuse.Misuse.TheVariants as why
use Rattle.check_options.specs.declared.misuse.CommandFault.{CommandFault}
use Rattle.check_options.specs.declared.misuse.CommandFault.TheVariants.{Misused, OutOfMemory}

-- the same, with the bytes of its words
abbrev pub told : code.Misuse → Misuse
told (why.NoOption word) = misuse.NoOption word.now
told (why.GivenTwice letter) = misuse.GivenTwice letter
told why.NoValue = misuse.NoValue
told why.NotWithPaths = misuse.NotWithPaths
told why.NotWithFormats = misuse.NotWithFormats
told (why.NoLevel word) = misuse.NoLevel word.now
told (why.NoKind word) = misuse.NoKind word.now
told why.NoFile = misuse.NoFile

-- how the words are misused, unless memory ran out while they were read
abbrev pub misuse_in : CommandFault → Option Misuse
misuse_in OutOfMemory = None
misuse_in (Misused why) = Some (told why)

-- What was read of the words is what they ask for, or they are misused in this way. Out of memory says nothing of the words.
abbrev pub Says : {A X : Type 0} → (X → A) → Result A Misuse → Result X CommandFault → Type 0
Says read asked (Ok x) = asked ≡ Ok (read x)
Says read asked (Err OutOfMemory) = Unit {0}
Says read asked (Err (Misused why)) = asked ≡ Err (told why)

-- the fault of words that a parse refuses with an error of this kind
abbrev pub RefusesBy : ErrorKind → Misuse → CommandFault → Type 0
RefusesBy kind misuse OutOfMemory = kind ≡ kinds.OutOfMemory
RefusesBy kind misuse (Misused why) = (kind ≢ kinds.OutOfMemory) × (misuse ≡ told why)
