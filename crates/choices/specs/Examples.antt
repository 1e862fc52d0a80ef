-- All worked examples, as tests that compute over the rules: those of plans behind those of cells, sheets, count and criteria.
use Rattle.std.specs.Prelude.{Bool, List, [], ◌∷◌, ◌++◌, ◌==◌}
use Rattle.model.specs.Choices.{Choice}
use Rattle.model.specs.Examples.{R, plain}
use Rattle.model.specs.Log.{Log}
use Rattle.model.specs.Recording.{after_bar}
use Rattle.criteria.specs.Delivered.{ladder, ranked, single, tally}
use Rattle.criteria.specs.Examples as criteria
use Rattle.criteria.specs.Examples.{crossing}
use Rattle.choices.specs.Best.{Best}
use Rattle.choices.specs.Totals.{total}
use Rattle.choices.specs.Trying.{tried}

-- R with cell 9 barred
abbrev barred : Log
barred = record { roll = after_bar R.roll 9 9; recipe = R.recipe }

-- the plans of the worked examples are the best of all choices
pub record Plans : Type 0 where
  pub sample : Best R (single 1) (Choice R) (3 ∷ 9 ∷ [])
  pub barred : Best barred (single 1) (Choice barred) (3 ∷ 8 ∷ [])
  pub by_ladder : Best crossing ladder (Choice crossing) (3 ∷ [])
  pub by_tally : Best crossing tally (Choice crossing) (2 ∷ [])
  pub by_both : Best crossing (ranked tally ladder) (Choice crossing) (3 ∷ [])
  pub one_sheet : Best (plain 3) ladder (Choice (plain 3)) (3 ∷ [])
  pub no_sheet : Best (plain 2) ladder (Choice (plain 2)) []

abbrev pub examples : List Bool
examples =
    criteria.examples ++
    (
    -- single of 1 plans 3 and 9 with total 1; 3 and 10 cost the same
    tried R (single 1) (3 ∷ 9 ∷ [])
    ∷ (total R (single 1) (3 ∷ 9 ∷ []) == 1)
    ∷ (total R (single 1) (3 ∷ 10 ∷ []) == 1)
    -- with cell 9 barred 3 and 8
    ∷ tried barred (single 1) (3 ∷ 8 ∷ [])
    -- of the two sheets that cross, ladder plans the later, tally the earlier, tally then ladder the later
    ∷ tried crossing ladder (3 ∷ [])
    ∷ tried crossing tally (2 ∷ [])
    ∷ tried crossing (ranked tally ladder) (3 ∷ [])
    -- three cells without outliers are one sheet of three, and two are none
    ∷ tried (plain 3) ladder (3 ∷ [])
    ∷ tried (plain 2) ladder []
    ∷ []
    )
