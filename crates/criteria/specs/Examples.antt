-- The worked examples of the criteria, behind those of the rules before them.
use Rattle.std.specs.Prelude.{ℕ, Bool, List, [], ◌∷◌, ◌++◌}
use Rattle.std.specs.declared.cmp.Ordering.{Ordering}
use Rattle.std.specs.Ordering.{is_eq, is_gt, is_lt}
use Rattle.model.specs.Examples as rules
use Rattle.model.specs.Examples.{one, one_and_a_half, same, three, two}
use Rattle.model.specs.Log.{Log}
use Rattle.model.specs.Recipes.{after_limits, fresh}
use Rattle.model.specs.Recording.{after_new, after_reading, idle}
use Rattle.model.specs.Sheets.{counts}
use Rattle.criteria.specs.declared.tally.Class.{Class}
use Rattle.criteria.specs.declared.tally.Class.TheVariants.{A, B, C, D}
use Rattle.criteria.specs.Delivered.{class_of, ladder, ranked, single, tally}
use Rattle.criteria.specs.Law.{Rules}

-- three cells, sheets of two, share 500; parameter 1 is an outlier in cell 1 alone, parameter 2 in cell 3 alone
abbrev pub crossing : Log
crossing = record {
  roll =
      after_reading (after_reading (after_reading (after_reading (after_new (idle 4) 3 2 2) 1 0 three) 1 2 one_and_a_half) 2 1 one_and_a_half) 2 3 three;
  recipe = after_limits (after_limits fresh 1 one two 500) 2 one two 500;
}

-- the sheet that ends at 2 compared with the one that ends at 3
abbrev compared : {M T : Type 0} → Rules M T → Ordering
compared r = r.rank (r.add r.none (r.mark 2 (counts crossing 2))) (r.add r.none (r.mark 2 (counts crossing 3)))

abbrev number : Class → ℕ
number A = 1
number B = 2
number C = 3
number D = 4

abbrev pub examples : List Bool
examples =
    rules.examples ++
    (
    -- at length 1,000 the counts 0, 1, 20, 21, 50 and 51 are of the classes A, B, B, C, C and D
    same (number (class_of 0 1000) ∷ number (class_of 1 1000) ∷ number (class_of 20 1000) ∷ number (class_of 21 1000) ∷ number (class_of 50 1000) ∷ number (class_of 51 1000) ∷ []) (1 ∷ 2 ∷ 2 ∷ 3 ∷ 3 ∷ 4 ∷ [])
    -- of the two sheets ladder finds the later less, tally finds them equal, and tally then ladder the later less
    ∷ is_gt (compared ladder)
    ∷ is_eq (compared tally)
    ∷ is_gt (compared (ranked tally ladder))
    -- single of 1 finds the later less, single of 2 the earlier; any other number means 1
    ∷ is_gt (compared (single 1))
    ∷ is_lt (compared (single 2))
    ∷ is_gt (compared (single 0))
    ∷ is_gt (compared (single 9))
    ∷ []
    )
