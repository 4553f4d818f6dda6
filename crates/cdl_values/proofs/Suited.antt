-- Targets that suit a state's drafts: the premises of the data section's reader can be met.
use Rattle.cdl_values.proofs.Prelude.{Dim, Int, Char, Draft, takes_of, has_number, AllSuit, AtMost, Target, Fill, Numbers, Joined, Rows, List, [], ◌∷◌, false, rules, ◌^◌, ◌-◌, codes, None, pos, neg_ℤ}
use Rattle.nc_base.specs.Fill.{fill_value}

dims : List Dim
dims = record { name = codes "n"; len = 2 } ∷ record { name = codes "k"; len = 3 } ∷ record { name = codes "w"; len = 2 ^ 40 } ∷ []

drafts : List Draft
drafts =
    record { var = record { name = codes "a"; dimids = 0 ∷ []; atts = []; ty = Int; begin_at = 0 }; listed = None } ∷
    record { var = record { name = codes "r"; dimids = 0 ∷ 1 ∷ []; atts = []; ty = Char; begin_at = 0 }; listed = None } ∷
    record { var = record { name = codes "j"; dimids = 1 ∷ []; atts = []; ty = Char; begin_at = 0 }; listed = None } ∷
    record { var = record { name = codes "b"; dimids = 2 ∷ 2 ∷ []; atts = []; ty = Int; begin_at = 0 }; listed = None } ∷ []

-- the default fill value
int_fill : Fill
unfolding has_number
int_fill = record { ty = Int; value = neg_ℤ (pos 2147483647); in_range = search rules }

targets : List Target
targets =
    record { form = Numbers int_fill; capacity = AtMost 2; given = false } ∷
    record { form = Rows 3 0; capacity = AtMost 2; given = false } ∷ record { form = Joined; capacity = AtMost 3; given = false } ∷
    record { form = Numbers int_fill; capacity = AtMost (2 ^ 64 - 1); given = false } ∷ []

suited : AllSuit dims targets drafts
unfolding dims drafts int_fill targets takes_of fill_value
suited = search rules
