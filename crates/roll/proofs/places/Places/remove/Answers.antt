use Rattle.std.proofs.Common.{◌≡◌, ℕ, suc, ◌+◌, ◌-◌, ◌<◌, ◌≤◌, List, length, take, drop, ap, ◌∙◌, sym, arith, length-drop}
use Rattle.std.proofs.lemmas.List.{drop-take, take-take, length-take-le}
use Rattle.std.proofs.lemmas.List.Edits.{take-paste}
use Rattle.std.specs.List.{remove, copy_within}
use Rattle.roll.proofs.places.Places.remove.Goals as goal

-- of the first n elements those behind place k move one place forward
moved : {X : Type 0} (xs : List X) (k m j n : ℕ) → j ≡ suc k → n ≡ j + m → n ≤ length xs → take (k + m) (copy_within xs j n k) ≡ remove (take n xs) k
moved xs k m j n i e l =
    let z : n - j ≡ m = omega arith in
    let low : take k (take n xs) ≡ take k xs = take-take k n xs (omega arith) in
    let high : drop (suc k) (take n xs) ≡ take m (drop j xs) = ap (λ x. drop x (take n xs)) (sym i) ∙ ap (λ x. drop j (take x xs)) e ∙ drop-take j m xs in
    rw (low, high, z) (take-paste xs k (drop j xs) m (omega arith) (omega (arith, length-drop j xs)))

pub returns-clause-after : goal.returns-clause-after
returns-clause-after c =
    let s = c.args.self.now in
    let k = c.args.place in
    let w : k < s.used = omega (arith, c.requires, length-take-le s.used s.all.now s.room.0) in
    let n : k + (s.used - (k + 1)) ≡ s.used - 1 = omega arith in
    ap (take (s.used - 1)) c.copy_within.ensures.after ∙ ap (λ x. take x (copy_within s.all.now (k + 1) s.used k)) (sym n)
    ∙ moved s.all.now k (s.used - (k + 1)) (k + 1) s.used (omega arith) (omega arith) s.room.0
