-- What a verdict and a refusal are in print.
use Rattle.std.specs.Prelude.{ℕ, List, [], ◌++◌, codes}
use Rattle.std.specs.Fmt.{decimal}
use Rattle.model.specs.declared.refusal.Refusal.{Refusal}
use Rattle.model.specs.declared.refusal.Refusal.TheVariants.{WithoutLimits, EndsTooShort}
use Rattle.model.specs.declared.verdict.Verdict.{Verdict}
use Rattle.model.specs.declared.verdict.Verdict.TheVariants.{Within, Outlier}
use Rattle.model.specs.Refusals.{number}

abbrev pub verdict_text : Verdict → List ℕ
verdict_text Within = codes "within"
verdict_text Outlier = codes "outlier"

-- the value that a refusal tells, behind its word
abbrev pub told_text : Refusal → List ℕ
told_text (WithoutLimits i) = codes ", parameter " ++ decimal i
told_text (EndsTooShort n) = codes ", sheets " ++ decimal n
told_text other = []

-- the number of a refusal, and the value that it tells
abbrev pub refusal_text : Refusal → List ℕ
refusal_text r = decimal (number r) ++ told_text r
