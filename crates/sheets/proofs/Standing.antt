-- The reading that serves the cell, by where its search stands.
use Rattle.std.proofs.Common.{◌≡◌, ℕ, ◌+◌, ◌-◌, ◌*◌, ◌<◌, ◌≤◌, List, length, slice_get, Some, None, sym, ap, ◌∙◌, inl, inr, arith}
use Rattle.std.proofs.lemmas.Bool.{cases_lt}
use Rattle.std.proofs.lemmas.Bool.Decides.{leb_tells}
use Rattle.std.proofs.lemmas.Option.{slice_get-get_or, slice_get_past}
use Rattle.model.specs.declared.reading.Reading.{Reading}
use Rattle.model.specs.Recorded.{Rising}
use Rattle.model.specs.Serving.{blank, serving, at}
use Rattle.model.proofs.Nearest.{not_past, serving_none, serving_some}
use Rattle.sheets.specs.declared.search.Search.{Search}
use Rattle.sheets.specs.Standing.{Stands, past}

-- a reading of i ahead of `after` is not past the last one short of the cell
behind_last : (rs : List Reading) (i : ℕ) (g : Search) (b j : ℕ) → Rising rs → Stands rs i g → g.before ≡ Some b → j < g.after → (at rs j).parameter ≡ i →
    (at rs j).position ≤ (at rs b).position
behind_last rs i g b j up s e l p =
    let own = s.last b e in
    let from : past g.before ≡ b + 1 = ap past e in
    elim (leb_tells (b + 1) j) [
      | inl m ↦ absurd (s.between j (omega (arith, m.1), l) p)
      | inr m ↦ not_past rs i j b up p own.1 (omega (arith, m.1)) (omega (arith, s.within))
    ]

beyond_next : (rs : List Reading) (i : ℕ) (g : Search) (j : ℕ) → Rising rs → Stands rs i g → g.after ≤ j → j < length rs → (at rs j).parameter ≡ i →
    (g.after < length rs) × ((at rs g.after).position ≤ (at rs j).position) × (g.cell ≤ (at rs g.after).position)
beyond_next rs i g j up s l m p =
    let w : g.after < length rs = omega arith in
    (w, not_past rs i g.after j up (s.next w).0 p l m, (s.next w).1)

pub by_next : (rs : List Reading) (i : ℕ) (g : Search) (b : ℕ) → Rising rs → Stands rs i g → g.before ≡ Some b → g.after < length rs →
    2 * (at rs g.after).position - (2 * g.cell - 1) < 2 * g.cell - 1 - 2 * (at rs b).position → serving rs i g.cell ≡ Some (at rs g.after)
by_next rs i g b up s e w far =
    serving_some rs i g.cell g.after record {
      within = w;
      own = (s.next w).0;
      before = λ j l p. omega (arith, behind_last rs i g b j up s e l p, (s.last b e).2, (s.next w).1);
      after = λ j l m p.
          let k = beyond_next rs i g j up s (omega arith) m p in
          omega (arith, k.1, k.2);
    }

pub by_last : (rs : List Reading) (i : ℕ) (g : Search) (b : ℕ) → Rising rs → Stands rs i g → g.before ≡ Some b →
    (g.after < length rs → 2 * g.cell - 1 - 2 * (at rs b).position ≤ 2 * (at rs g.after).position - (2 * g.cell - 1)) → serving rs i g.cell ≡ Some (at rs b)
by_last rs i g b up s e far =
    let own = s.last b e in
    let from : past g.before ≡ b + 1 = ap past e in
    serving_some rs i g.cell b record {
      within = omega (arith, s.within);
      own = own.1;
      before = λ j l p.
          let less : (at rs j).position < (at rs b).position = up j b (l, omega (arith, s.within), p ∙ sym own.1) in
          omega (arith, own.2);
      after = λ j l m p. elim (leb_tells g.after j) [
        | inl q ↦ (let k = beyond_next rs i g j up s q.1 m p in omega (arith, k.1, k.2, far k.0, own.2))
        | inr q ↦ absurd (s.between j (omega arith, q.1) p)
      ];
    }

-- with none short of the cell the next one serves
pub by_first : (rs : List Reading) (i : ℕ) (g : Search) → Rising rs → Stands rs i g → g.before ≡ None → serving rs i g.cell ≡ slice_get rs g.after
by_first rs i g up s e =
    let from : past g.before ≡ 0 = ap past e in
    elim (cases_lt g.after (length rs)) [
      | inl w ↦ (serving_some rs i g.cell g.after record {
        within = w;
        own = (s.next w).0;
        before = λ j l p. absurd (s.between j (omega arith, l) p);
        after = λ j l m p.
            let k = beyond_next rs i g j up s (omega arith) m p in
            omega (arith, k.1, k.2);
      }
          ∙ sym (slice_get-get_or rs g.after blank w))
      | inr w ↦ serving_none rs i g.cell (λ j l p. s.between j (omega arith, omega (arith, s.within)) p) ∙ sym (slice_get_past rs g.after w)
    ]

-- the same readings are nearest, where the next one does not fall short
pub stays : (rs : List Reading) (i : ℕ) (s : Search) → Stands rs i s → (s.after < length rs → s.cell + 1 ≤ (at rs s.after).position) →
    Stands rs i (record { cell = s.cell + 1; before = s.before; after = s.after })
stays rs i s h far = record {
  within = h.within;
  last = λ k e. let own = h.last k e in (own.0, own.1, omega (arith, own.2));
  between = h.between;
  next = λ w. ((h.next w).0, far w);
}
