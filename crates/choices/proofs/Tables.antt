-- The places of the work table, one after the other.
use Rattle.std.proofs.Common.{◌≡◌, ℕ, ◌+◌, ◌-◌, ◌<◌, ◌≤◌, true, ◌⊎◌, List, [], ◌∷◌, ◌++◌, reverse, length, Less, sym, refl, ap, ◌∙◌, subst, inl, inr, arith}
use mathlib.Core.List.{reverse-cons}
use Rattle.std.proofs.lemmas.List.{reverse-reverse, length-reverse, length_push, get_or_push}
use Rattle.model.specs.Log.{Log}
use Rattle.model.specs.Choices.{spacing}
use Rattle.model.specs.Sheets.{good}
use Rattle.criteria.specs.Law.{Rules}
use Rattle.choices.specs.declared.work.WorkPlace.{WorkPlace}
use Rattle.choices.specs.Best.{Best, ChoiceTo}
use Rattle.choices.specs.Table.{Beats, Tells, last_end}
use Rattle.choices.specs.Totals.{mark_of, total}
use Rattle.choices.proofs.Backwards.{Task, Sound, Lawful, sum}
use Rattle.choices.proofs.Bests.{choice_few}
use Rattle.choices.proofs.Forwards.{best_to, task, top_to, total_reverse}
use Rattle.choices.proofs.Growing.{Top, keeps, top_keep, top_none, top_skip, top_take}
use Rattle.choices.proofs.Leading.{Leads}

abbrev first : List ℕ → ℕ
first [] = 0
first (p ∷ ps) = p

last_reverse : (c : List ℕ) → last_end (reverse c) ≡ first c
last_reverse [] = refl
last_reverse (p ∷ ps) =
    let n : length (reverse ps ++ (p ∷ [])) - 1 ≡ length (reverse ps) = omega (arith, length_push (reverse ps) p) in
    ap last_end (reverse-cons p ps) ∙ get_or_push (reverse ps) p 0 (length (reverse ps ++ (p ∷ [])) - 1) (sym n)

module _ {M T : Type 0} (log : Log) (r : Rules M T) (s : Sound (task log r)) where
  -- the same, last end first
  record Known (j : ℕ) (w : WorkPlace T) : Type 0 where
    ends : List ℕ
    top : Top (task log r) j ends
    sheets : w.sheets ≡ length ends
    sum : w.total ≡ sum (task log r) ends
    last : w.last ≡ first ends

  tells : (j : ℕ) (w : WorkPlace T) → Known j w → Tells log r j w
  tells j w k = record {
    ends = reverse k.ends;
    best = best_to log r s j k.ends k.top;
    sheets = k.sheets ∙ sym (length-reverse k.ends);
    sum = k.sum ∙ sym (total_reverse log r s k.ends);
    last = k.last ∙ sym (last_reverse k.ends);
  }

  known : (j : ℕ) (w : WorkPlace T) → Tells log r j w → Known j w
  known j w t =
      let back : reverse (reverse t.ends) ≡ t.ends = reverse-reverse t.ends in
      let Of : List ℕ → Type 0 = Best log r (ChoiceTo log j) in
      record {
        ends = reverse t.ends;
        top = top_to log r s j (reverse t.ends) (subst Of (sym back) t.best);
        sheets = t.sheets ∙ sym (length-reverse t.ends);
        sum = t.sum ∙ ap (total log r) (sym back) ∙ total_reverse log r s (reverse t.ends);
        last = t.last ∙ ap last_end (sym back) ∙ last_reverse (reverse t.ends);
      }

  pub tells_few : (j : ℕ) (w : WorkPlace T) → Tells log r j w → w.sheets ≤ j
  tells_few j w t = omega (arith, t.sheets, choice_few log r s j t.ends t.best.one)

module _ {M T : Type 0} (log : Log) (r : Rules M T) (s : Sound (task log r)) (law : Lawful r) where
  pub tells_none : (w : WorkPlace T) → w.sheets ≡ 0 → w.total ≡ r.none → w.last ≡ 0 → Tells log r 0 w
  tells_none w n t l = tells log r s 0 w (record { ends = []; top = top_none (task log r) law s; sheets = n; sum = t; last = l })

  pub tells_skip : (j : ℕ) (w : WorkPlace T) → (good log j ≡ true → ⊥) → Tells log r (j - 1) w → Tells log r j w
  tells_skip j w never t =
      let k = known log r s (j - 1) w t in
      tells log r s j w (record {
        ends = k.ends;
        top = top_skip (task log r) law j k.ends k.top never;
        sheets = k.sheets;
        sum = k.sum;
        last = k.last;
      })

  -- of the place before and of the one that adds the sheet ending at j, the better tells
  pub tells_step : (j : ℕ) (v u x w : WorkPlace T) → 0 < j → good log j ≡ true → Tells log r (j - 1) v → Tells log r (j - spacing log) u →
      x.sheets ≡ u.sheets + 1 → x.total ≡ r.add u.total (mark_of log r j) → x.last ≡ j →
      ((w ≡ x) × Beats r.rank x v) ⊎ ((w ≡ v) × (Beats r.rank x v → ⊥)) → Tells log r j w
  tells_step j v u x w z g tv tu n t l which =
      let Here : WorkPlace T → Type 0 = Tells log r j in
      elim which [
        | inl y ↦ subst Here (sym y.0) (tells log r s j x (record {
          ends = j ∷ e;
          top = top_take k law j c e pv.top pu.top g (taken y.1);
          sheets = omega (arith, n, pu.sheets);
          sum = added;
          last = l;
        }))
        | inr y ↦ subst Here (sym y.0) (tells log r s j v (record {
          ends = c;
          top = top_keep k law j c e pv.top pu.top (keeps k law j c e z pv.top.choice (kept y.1));
          sheets = pv.sheets;
          sum = pv.sum;
          last = pv.last;
        }))
      ]
    where
      k : Task M T
      k = task log r

      pv : Known log r s (j - 1) v
      pv = known log r s (j - 1) v tv

      pu : Known log r s (j - spacing log) u
      pu = known log r s (j - spacing log) u tu

      c : List ℕ
      c = pv.ends

      e : List ℕ
      e = pu.ends

      more : x.sheets ≡ length (j ∷ e)
      more = omega (arith, n, pu.sheets)

      added : x.total ≡ sum k (j ∷ e)
      added = t ∙ ap (λ a. r.add a (mark_of log r j)) pu.sum

      ranks : r.rank x.total v.total ≡ r.rank (sum k (j ∷ e)) (sum k c)
      ranks = ap (λ a. r.rank a v.total) added ∙ ap (r.rank (sum k (j ∷ e))) pv.sum

      taken : Beats r.rank x v → Leads k (j ∷ e) c
      taken b = grind (arith, more, pv.sheets, ranks)

      kept : (Beats r.rank x v → ⊥) → (length (j ∷ e) < length c) ⊎ ((length (j ∷ e) ≡ length c) × (r.rank (sum k (j ∷ e)) (sum k c) ≡ Less → ⊥))
      kept never = grind (arith, more, pv.sheets, ranks, never)
