-- The total of a choice under a criterion.
use Rattle.std.specs.Prelude.{ℕ, List, [], ◌∷◌}
use Rattle.model.specs.Log.{Log}
use Rattle.model.specs.Sheets.{counts}
use Rattle.criteria.specs.Law.{Rules}

-- the mark of the sheet that ends at p
abbrev pub mark_of : {M T : Type 0} → Log → Rules M T → ℕ → M
mark_of log r p = r.mark log.roll.sheet (counts log p)

-- a total with the marks of the sheets that end at ps, added in the order of the ends
abbrev pub added : {M T : Type 0} → Log → Rules M T → T → List ℕ → T
added log r t [] = t
added log r t (p ∷ ps) = added log r (r.add t (mark_of log r p)) ps

abbrev pub total : {M T : Type 0} → Log → Rules M T → List ℕ → T
total log r ps = added log r r.none ps
