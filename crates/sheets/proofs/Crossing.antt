-- Bars across a run of cells, by their ends and by each cell.
use Rattle.std.proofs.Common.{◌≡◌, ℕ, zero, suc, ◌+◌, ◌-◌, ◌<◌, ◌≤◌, Bool, true, false, not, ◌&&◌, ◌||◌, leb, List, [], ◌∷◌, sym, refl, ap, ◌∙◌, arith}
use Rattle.std.proofs.lemmas.Bool.Decides.{nat_tests}
use Rattle.model.specs.declared.bar.Bar.{Bar}
use Rattle.std.specs.List.{list_any}
use Rattle.model.specs.Recorded.{Barring}
use Rattle.model.specs.Sheets.{barred, clear}

regroup : (a b p q : Bool) → (not (a || b) && (p && q)) ≡ ((not (a || false) && p) && (not b && q))
regroup true b p q = refl
regroup false true true q = refl
regroup false true false q = refl
regroup false false p q = refl

-- the bar's ends do not lie both beyond the cells from m to p
abbrev pub meets : Bar → ℕ → ℕ → Bool
meets x m p = leb x.from p && leb m x.to

-- clear of two lots of bars: clear of each
pub clear_cons : (x : Bar) (xs : List Bar) (m k : ℕ) → clear (x ∷ xs) m k ≡ (clear (x ∷ []) m k && clear xs m k)
clear_cons x xs m zero = refl
clear_cons x xs m (suc k) =
    let a = leb x.from m && leb m x.to in
    ap (λ t. not (a || barred xs m) && t) (clear_cons x xs (m + 1) k)
    ∙ regroup a (barred xs m) (clear (x ∷ []) (m + 1) k) (clear xs (m + 1) k)

-- one bar, over the cells from m to m + k
clear_one : (x : Bar) (m k : ℕ) → x.from ≤ x.to → clear (x ∷ []) m (suc k) ≡ not (meets x m (m + k))
clear_one x m zero h =
    let z : m + 0 ≡ m = omega arith in
    rw z (grind (arith, nat_tests))
clear_one x m (suc k) h =
    let e : clear (x ∷ []) (m + 1) (suc k) ≡ not (meets x (m + 1) (m + 1 + k)) = clear_one x (m + 1) k h in
    let z : m + 1 + k ≡ m + suc k = omega arith in
    ap (λ t. not ((leb x.from m && leb m x.to) || false) && t) (e ∙ ap (λ p. not (meets x (m + 1) p)) z)
    ∙ either x m (m + suc k) (omega arith) h
  where
    either : (x : Bar) (m p : ℕ) → m < p → x.from ≤ x.to →
        (not ((leb x.from m && leb m x.to) || false) && not (leb x.from p && leb (m + 1) x.to)) ≡ not (leb x.from p && leb m x.to)
    either x m p l h = grind (arith, nat_tests)

pub twice : (t : Bool) → not (not t) ≡ t
twice true = refl
twice false = refl

-- over the cells from m to p
pub clear_met : (x : Bar) (m p : ℕ) → m ≤ p → x.from ≤ x.to → meets x m p ≡ not (clear (x ∷ []) m (p + 1 - m))
clear_met x m p l h =
    let many : p + 1 - m ≡ suc (p - m) = omega arith in
    let last : m + (p - m) ≡ p = omega arith in
    sym (ap (λ k. not (clear (x ∷ []) m k)) many ∙ ap not (clear_one x m (p - m) h) ∙ twice (meets x m (m + (p - m))) ∙ ap (meets x m) last)

clear_none : (m k : ℕ) → clear [] m k ≡ true
clear_none m zero = refl
clear_none m (suc k) = clear_none (m + 1) k

-- a bar meets the cells from m to p where they are not clear
pub crossed_is : (bs : List Bar) (cells m p : ℕ) → m ≤ p → Barring cells bs → list_any (λ x. meets x m p) bs ≡ not (clear bs m (p + 1 - m))
crossed_is [] cells m p l h = sym (ap not (clear_none m (p + 1 - m)))
crossed_is (x ∷ bs) cells m p l h =
    let e = clear_cons x bs m (p + 1 - m) in
    let first : meets x m p ≡ not (clear (x ∷ []) m (p + 1 - m)) = clear_met x m p l (h 0 (omega arith)).1 in
    let rest = crossed_is bs cells m p l (λ k w. h (suc k) (omega arith)) in
    ap (λ t. t || list_any (λ y. meets y m p) bs) first
    ∙ ap (λ t. not (clear (x ∷ []) m (p + 1 - m)) || t) rest
    ∙ either (clear (x ∷ []) m (p + 1 - m)) (clear bs m (p + 1 - m)) ∙ sym (ap not e)
  where
    either : (s t : Bool) → (not s || not t) ≡ not (s && t)
    either true t = refl
    either false t = refl
