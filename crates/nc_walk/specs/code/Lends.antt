-- For contracts. What a walk is once the chunk that it has lent is given back.
use Rattle.std.specs.Prelude.{[]}
use Rattle.std.specs.Borrow.{MutBor, RattleType, Fml}
use mir.Syntax.{named}
use Rattle.nc_walk.specs.contracts.walk.Walk.{the_row}
use Rattle.nc_walk.specs.code.Walks.{WalkView, Answer, Advanced, Rests}

-- the type of walks
abbrev pub walk_type : RattleType
walk_type = the_row (record { mir = named 0; lft = [] })

-- once the chunk is given back, the walk has advanced as the answer says
abbrev pub AdvancesAfter : WalkView → MutBor walk_type.Denot → Answer → Fml
AdvancesAfter old self answer = Rests walk_type self (λ new. Advanced old new answer)
