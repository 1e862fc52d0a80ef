use Rattle.std.proofs.Common.{◌≡◌, ℕ, max, List, [], ◌∷◌, fold, arith, rules}
use Rattle.criteria.specs.Delivered.{greatest}
use Rattle.criteria.proofs.tally.greatest.Goals as goal

folded : (a : ℕ) (xs : List ℕ) → fold max a xs ≡ max a (greatest xs)
folded a [] = omega arith
folded a (x ∷ xs) = omega (arith, folded (max a x) xs)

pub returns : goal.returns
returns c =
    let e : c.fold.result ≡ fold max 0 c.args.counts.now = search rules in
    omega (arith, e, folded 0 c.args.counts.now)
