-- The work table while it is filled.
use Rattle.std.proofs.Common.{◌≡◌, ℕ, ◌+◌, ◌-◌, ◌<◌, ◌≤◌, true, ◌⊎◌, List, length, get_or, drop, set, sym, refl, ◌∙◌, subst, inl, inr, arith, length-set}
use Rattle.std.proofs.lemmas.List.{get_or_read, drop-set-lt}
use Rattle.std.proofs.lemmas.Grind.{common_steps}
use Rattle.model.specs.Log.{Log}
use Rattle.model.specs.Choices.{spacing}
use Rattle.model.specs.Sheets.{good}
use Rattle.criteria.specs.Law.{Rules}
use Rattle.choices.specs.declared.work.WorkPlace.{WorkPlace}
use Rattle.choices.specs.Table.{Beats, Filled, Tells, blank, empty}
use Rattle.choices.specs.Totals.{mark_of}
use Rattle.choices.proofs.Backwards.{Lawful, Sound}
use Rattle.choices.proofs.Forwards.{task}
use Rattle.choices.proofs.Tables.{tells_none, tells_skip, tells_step}

-- the place tells the best choice up to j, and its total is one of so many marks, by H
pub record Held {M T : Type 0} (log : Log) (r : Rules M T) (H : ℕ → T → Type 0) (j : ℕ) (w : WorkPlace T) : Type 0 where
  pub tells : Tells log r j w
  pub held : H w.sheets w.total

-- the places below j are filled, and the others as before
pub record Below {M T : Type 0} (log : Log) (r : Rules M T) (H : ℕ → T → Type 0) (before after : List (WorkPlace T)) (j : ℕ) : Type 0 where
  pub many : length after ≡ length before
  pub places : (i : ℕ) → i < j → Held log r H i (get_or after i (blank r))
  pub beyond : drop j after ≡ drop j before

module _ {M T : Type 0} (log : Log) (r : Rules M T) (H : ℕ → T → Type 0) where
  -- what a read of the table gives
  pub read_held : (before after : List (WorkPlace T)) (j i : ℕ) (x : WorkPlace T) → Below log r H before after j → i < j → j ≤ length after → x ≡ get_or after i x → Held log r H i x
  read_held before after j i x b h room e =
      let At : WorkPlace T → Type 0 = Held log r H i in
      subst At (sym (get_or_read after i x (omega arith) e (blank r))) (b.places i h)

  pub below_one : (before : List (WorkPlace T)) (x : WorkPlace T) → 0 < length before → Held log r H 0 x → Below log r H (set before 0 x) (set before 0 x) 1
  below_one before x h held = record {
    many = refl;
    places = λ i l. grind (arith, common_steps, held);
    beyond = refl;
  }

  pub below_next : (before after : List (WorkPlace T)) (j : ℕ) (x : WorkPlace T) → Below log r H before after j → j < length after → Held log r H j x → Below log r H before (set after j x) (j + 1)
  below_next before after j x b h held = record {
    many = length-set after j x ∙ b.many;
    places = λ i l. grind (arith, common_steps, held, b.places i, b.many);
    beyond = grind (arith, common_steps, b.beyond);
  }

  pub filled : (before after : List (WorkPlace T)) (x : WorkPlace T) (j : ℕ) → log.roll.cells < length before → j ≡ log.roll.cells + 1 → Below log r H (set before 0 x) after j → Filled log r before after
  filled before after x j room e b =
      let Rest : ℕ → Type 0 = λ n. drop n after ≡ drop n (set before 0 x) in
      record {
        many = b.many ∙ length-set before 0 x;
        room = omega (arith, b.many, length-set before 0 x);
        places = λ i h. (b.places i (omega arith)).tells;
        beyond = subst Rest e b.beyond ∙ drop-set-lt (log.roll.cells + 1) before 0 x (omega arith);
      }

-- what a read of the last cell's place gives
pub read_last : {M T : Type 0} (log : Log) (r : Rules M T) (before after : List (WorkPlace T)) (i : ℕ) (x : WorkPlace T) → Filled log r before after → i ≡ log.roll.cells → x ≡ get_or after i x → Tells log r log.roll.cells x
read_last {M} {T} log r before after i x f h e =
    let Place : WorkPlace T → Type 0 = Tells log r i in
    let At : ℕ → Type 0 = λ n. Tells log r n x in
    subst At h (subst Place (sym (get_or_read after i x (omega (arith, f.room)) e (blank r))) (f.places i (omega arith)))

module _ {M T : Type 0} (log : Log) (r : Rules M T) (s : Sound (task log r)) (law : Lawful r) (H : ℕ → T → Type 0) where
  pub held_none : (none : T) (w : WorkPlace T) → w ≡ empty none → none ≡ r.none → H 0 none → Held log r H 0 w
  held_none none w e n h =
      let At : WorkPlace T → Type 0 = Held log r H 0 in
      subst At (sym e) (record { tells = tells_none log r s law _ refl n refl; held = h })

  pub held_skip : (j : ℕ) (w : WorkPlace T) → (good log j ≡ true → ⊥) → Held log r H (j - 1) w → Held log r H j w
  held_skip j w never h = record { tells = tells_skip log r s law j w never h.tells; held = h.held }

  pub held_step : (j : ℕ) (v u x w : WorkPlace T) → 0 < j → good log j ≡ true → Held log r H (j - 1) v → Held log r H (j - spacing log) u →
      x.sheets ≡ u.sheets + 1 → x.total ≡ r.add u.total (mark_of log r j) → x.last ≡ j → H x.sheets x.total →
      ((w ≡ x) × Beats r.rank x v) ⊎ ((w ≡ v) × (Beats r.rank x v → ⊥)) → Held log r H j w
  held_step j v u x w z g hv hu n t l h which =
      let Known : WorkPlace T → Type 0 = λ y. H y.sheets y.total in
      record {
        tells = tells_step log r s law j v u x w z g hv.tells hu.tells n t l which;
        held = elim which [ inl y ↦ subst Known (sym y.0) h | inr y ↦ subst Known (sym y.0) hv.held ];
      }
