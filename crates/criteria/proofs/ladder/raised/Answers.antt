use Rattle.std.proofs.Common.{◌≡◌, ℕ, zero, suc, ◌+◌, ◌-◌, ◌^◌, ◌<◌, ◌≤◌, min, List, get_or, sym, refl, ap, ◌∙◌, subst, arith, rules}
use Rattle.std.specs.Array.{IsFromFnResultFrom}
use Rattle.std.specs.Fn.{Called, Mut}
use Rattle.model.proofs.Listed.{listed_is}
use Rattle.criteria.specs.Delivered.{ladder}
use Rattle.criteria.specs.Law.{Marked}
use Rattle.criteria.proofs.ladder.raised.Goals as goal

-- what each call gives, where none changes the closure
each_from : {F B : Type 0} (g : Mut F (ℕ × Unit {0}) B) (P : ℕ → B → Type 0) (f : F) (ys : List B) (d : B) →
    ((j : ℕ) (y : B) (q : F) → Called g f (j, tt) y q → P j y × (q ≡ f)) →
    (i n : ℕ) (q : F) → q ≡ f → IsFromFnResultFrom g q ys i n → (j : ℕ) → i ≤ j → j < i + n → P j (get_or ys j d)
each_from g P f ys d step i zero q e h j l m = absurd (omega arith)
each_from {F} {B} g P f ys d step i (suc n) q e h j l m =
    let At : F → Type 0 = λ p. Called g p (i, tt) h.1 h.0 in
    let called = step i h.1 h.0 (subst At e h.3) in
    grind (arith, h.2.1 d, called.0, each_from g P f ys d step (i + 1) n h.0 called.1 h.4 j)

small : (m : List ℕ) → Marked ladder m → (i : ℕ) → get_or m i 0 ≤ 4096
small m h i =
    let e : get_or m i 0 ≡ get_or h.1 i 0 = ap (λ b. get_or b i 0) h.3 in
    omega (arith, h.2.few i, h.2.short)

pub returns : goal.returns
returns c =
    let total = c.args.total in
    let mark = c.args.mark in
    let f : ℕ → ℕ = λ i. get_or total i 0 + get_or mark i 0 in
    let P : ℕ → ℕ → Type 0 = λ j y. y ≡ min (f j) (2 ^ 32 - 1) in
    let made : (j : ℕ) → j < 8 → P j (get_or c.from_fn.result j 0) =
    λ j l. each_from _ P _ c.from_fn.result 0 (λ i y q k. search rules) 0 8 _ refl c.from_fn.ensures.items.each j (omega arith) l in
    record {
      value = λ n few h m. listed_is f 0 8 c.from_fn.result c.from_fn.ensures.items.long (λ j l.
          let d = made j l in
          let z : j + 0 ≡ j = omega arith in
          let e : get_or c.from_fn.result j 0 ≡ f j = omega (arith, h j l, small mark m j) in
          e ∙ ap f (sym z));
      held = λ n few h m j l.
          let d = made j l in
          omega (arith, h j l, small mark m j);
    }
