-- The ends of the best choice, as they are written from the last backwards.
use Rattle.std.proofs.Common.{◌≡◌, ℕ, ◌+◌, ◌-◌, ◌<◌, ◌≤◌, true, List, [], ◌∷◌, ◌++◌, length, get_or, take, drop, set, sym, ap, ◌∙◌, subst, arith, length-set}
use Rattle.std.proofs.lemmas.List.{take_all, take_at, take_more, length-take-le, drop_all, drop_more, drop-set, drop_at, get_or-take}
use Rattle.std.proofs.lemmas.Grind.{common_steps}
use Rattle.model.specs.Log.{Log}
use Rattle.model.specs.Choices.{spacing}
use Rattle.model.specs.Sheets.{good}
use Rattle.criteria.specs.Law.{Rules}
use Rattle.choices.specs.declared.work.WorkPlace.{WorkPlace}
use Rattle.choices.specs.Best.{Best, ChoiceTo}
use Rattle.choices.specs.Table.{Tells, last_end}
use Rattle.choices.specs.Totals.{total}
use Rattle.choices.proofs.Backwards.{Sound, Lawful}
use Rattle.choices.proofs.Bests.{best_init, best_once, last_fits}
use Rattle.choices.proofs.Forwards.{task}

-- of the chosen ends the first `left` are yet to be written, and they are the best choice up to j
pub record Traced {M T : Type 0} (log : Log) (r : Rules M T) (before after : List ℕ) (chosen : List ℕ) (j left : ℕ) : Type 0 where
  pub next : Best log r (ChoiceTo log j) (take left chosen)
  pub within : j ≤ log.roll.cells
  pub few : left ≤ length chosen
  pub room : length chosen ≤ length after
  pub written : drop left after ≡ drop left chosen ++ drop (length chosen) before

-- the choice that place w tells up to the last cell, while its ends are written
pub record Trace {M T : Type 0} (log : Log) (r : Rules M T) (before after : List ℕ) (w : WorkPlace T) (j left : ℕ) : Type 0 where
  pub chosen : List ℕ
  pub best : Best log r (ChoiceTo log log.roll.cells) chosen
  pub sheets : w.sheets ≡ length chosen
  pub sum : w.total ≡ total log r chosen
  pub traced : Traced log r before after chosen j left

module _ {M T : Type 0} (log : Log) (r : Rules M T) where
  pub traced_none : (before chosen : List ℕ) → Best log r (ChoiceTo log log.roll.cells) chosen → length chosen ≤ length before →
      Traced log r before before chosen log.roll.cells (length chosen)
  traced_none before chosen b h =
      let Of : List ℕ → Type 0 = Best log r (ChoiceTo log log.roll.cells) in
      record {
        next = subst Of (sym (take_all (length chosen) chosen (omega arith))) b;
        within = omega arith;
        few = omega arith;
        room = h;
        written = ap (λ xs. xs ++ drop (length chosen) before) (sym (drop_all (length chosen) chosen (omega arith)));
      }

  pub traced_all : (before after chosen : List ℕ) (j left : ℕ) → left ≤ 0 → Traced log r before after chosen j left → after ≡ chosen ++ drop (length chosen) before
  traced_all before after chosen j left h t =
      let z : left ≡ 0 = omega arith in
      let At : ℕ → Type 0 = λ n. drop n after ≡ drop n chosen ++ drop (length chosen) before in
      subst At z t.written

module _ {M T : Type 0} (log : Log) (r : Rules M T) (s : Sound (task log r)) (law : Lawful r) (before after chosen : List ℕ) (j left : ℕ) (t : Traced log r before after chosen j left) (some : 0 < left) (w : WorkPlace T) (told : Tells log r j w) where
  last : ℕ
  last = get_or chosen (left - 1) 0

  front : take left chosen ≡ take (left - 1) chosen ++ (last ∷ [])
  unfolding last
  front = ap (λ n. take n chosen) (let z : left ≡ left - 1 + 1 = omega arith in z) ∙ take_more chosen (left - 1) 0 (omega (arith, t.few))

  pub last_is : w.last ≡ get_or chosen (left - 1) 0
  last_is =
      let same : told.ends ≡ take left chosen = best_once log r s law j told.ends (take left chosen) told.best t.next in
      let n : length (take left chosen) - 1 ≡ left - 1 = ap (λ x. x - 1) (length-take-le left chosen t.few) in
      told.last ∙ ap last_end same ∙ ap (λ i. get_or (take left chosen) i 0) n ∙ get_or-take left chosen (left - 1) 0 (omega arith)

  ending : Best log r (ChoiceTo log j) (take (left - 1) chosen ++ (w.last ∷ []))
  unfolding last
  ending =
      let Of : List ℕ → Type 0 = Best log r (ChoiceTo log j) in
      subst Of (front ∙ ap (λ p. take (left - 1) chosen ++ (p ∷ [])) (sym last_is)) t.next

  pub traced_last : (good log w.last ≡ true) × (w.last ≤ j)
  traced_last = last_fits log r s law j w.last (take (left - 1) chosen) ending

  pub traced_more : Traced log r before (set after (left - 1) w.last) chosen (w.last - spacing log) (left - 1)
  traced_more =
      let low : left - 1 < length after = omega (arith, t.few, t.room) in
      let z : left - 1 + 1 ≡ left = omega arith in
      record {
        next = best_init log r s law j w.last (take (left - 1) chosen) ending;
        within = omega (arith, t.within, traced_last.1);
        few = omega (arith, t.few);
        room = simp length-set t.room;
        written = grind (arith, common_steps, t.written, last_is, drop-set after (left - 1) w.last low, drop_more chosen (left - 1) 0 (omega (arith, t.few)));
      }

module _ {M T : Type 0} (log : Log) (r : Rules M T) (before : List ℕ) (v : WorkPlace T) where
  pub trace_none : Tells log r log.roll.cells v → v.sheets ≤ length before → Trace log r before before v log.roll.cells v.sheets
  trace_none told h =
      let At : ℕ → Type 0 = Traced log r before before told.ends log.roll.cells in
      record {
        chosen = told.ends;
        best = told.best;
        sheets = told.sheets;
        sum = told.sum;
        traced = subst At (sym told.sheets) (traced_none log r before told.ends told.best (omega (arith, told.sheets)));
      }

  pub trace_more : (after : List ℕ) (j left : ℕ) (w : WorkPlace T) → Sound (task log r) → Lawful r → Trace log r before after v j left → 0 < left → Tells log r j w →
      Trace log r before (set after (left - 1) w.last) v (w.last - spacing log) (left - 1)
  trace_more after j left w s law t some told = record {
    chosen = t.chosen;
    best = t.best;
    sheets = t.sheets;
    sum = t.sum;
    traced = traced_more log r s law before after t.chosen j left t.traced some w told;
  }

  pub trace_all : (after : List ℕ) (j left : ℕ) → left ≤ 0 → Trace log r before after v j left →
      (Best log r (ChoiceTo log log.roll.cells) (take v.sheets after)) × (v.total ≡ total log r (take v.sheets after)) × (drop v.sheets after ≡ drop v.sheets before) × (v.sheets ≤ length after)
  trace_all after j left h t =
      let n = t.sheets in
      let all : after ≡ t.chosen ++ drop (length t.chosen) before = traced_all log r before after t.chosen j left h t.traced in
      let front : take v.sheets after ≡ t.chosen = ap (take v.sheets) all ∙ take_at t.chosen (drop (length t.chosen) before) v.sheets (sym n) in
      let rest : drop v.sheets after ≡ drop (length t.chosen) before = ap (drop v.sheets) all ∙ drop_at t.chosen (drop (length t.chosen) before) v.sheets (sym n) in
      let Of : List ℕ → Type 0 = Best log r (ChoiceTo log log.roll.cells) in
      (subst Of (sym front) t.best, t.sum ∙ ap (total log r) (sym front), rest ∙ ap (λ k. drop k before) (sym n), omega (arith, n, t.traced.room))
