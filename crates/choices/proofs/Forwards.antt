-- A choice in rising order, and the same last end first.
use Rattle.std.proofs.Common.{◌≡◌, ℕ, ◌+◌, ◌-◌, ◌<◌, ◌≤◌, true, ◌⊎◌, List, [], ◌∷◌, ◌++◌, reverse, length, get_or, drop, sym, refl, ap, ◌∙◌, subst, inl, inr, arith}
use mathlib.Core.List.{reverse-cons}
use Rattle.std.proofs.lemmas.List.{reverse-reverse, length-reverse, length_push, get_or_push, get_or_append_left, drop-append-le, same_from_push}
use Rattle.std.proofs.lemmas.Bool.{cases_lt}
use Rattle.std.proofs.lemmas.Grind.{common_steps}
use Rattle.model.specs.Log.{Log}
use Rattle.model.specs.Choices.{From, spacing}
use Rattle.model.specs.Sheets.{good}
use Rattle.criteria.specs.Law.{Rules}
use Rattle.choices.specs.Best.{Best, Before, ChoiceTo, Sooner, UpTo}
use Rattle.choices.specs.Totals.{added, mark_of, total}
use Rattle.choices.proofs.Backwards.{Task, Sound, Back, sum, Earlier}
use Rattle.choices.proofs.Leading.{Leads}
use Rattle.choices.proofs.Growing.{Top}

abbrev pub task : {M T : Type 0} → Log → Rules M T → Task M T
task log r = record { rules = r; good = good log; spacing = spacing log; mark = mark_of log r }

sooner_here : (xs ys : List ℕ) (p q : ℕ) → length xs ≡ length ys → p < q → Sooner (xs ++ (p ∷ [])) (ys ++ (q ∷ []))
sooner_here xs ys p q e h = record {
  at = length xs;
  within = grind (arith, common_steps);
  earlier = grind (arith, common_steps);
  behind = grind (arith, common_steps);
}

sooner_more : (xs ys : List ℕ) (p q : ℕ) → length xs ≡ length ys → p ≡ q → Sooner xs ys → Sooner (xs ++ (p ∷ [])) (ys ++ (q ∷ []))
sooner_more xs ys p q e h s = record {
  at = s.at;
  within = grind (arith, common_steps, s.within);
  earlier = grind (arith, common_steps, s.earlier, s.within);
  behind = grind (arith, common_steps, s.behind, s.within);
}

pub sooner : (c d : List ℕ) → length d ≡ length c → Earlier c d → Sooner (reverse c) (reverse d)
sooner [] d e h = absurd h
sooner (p ∷ ps) [] e h = absurd h
sooner (p ∷ ps) (q ∷ qs) e h =
    let same : length qs ≡ length ps = omega arith in
    let level : length (reverse ps) ≡ length (reverse qs) = length-reverse ps ∙ sym same ∙ sym (length-reverse qs) in
    rw (reverse-cons p ps, reverse-cons q qs) (elim h [
      | inl x ↦ sooner_here (reverse ps) (reverse qs) p q level x
      | inr x ↦ sooner_more (reverse ps) (reverse qs) p q level x.0 (sooner ps qs same x.1)
    ])

-- lists that end in p and q: these decide, or those before them
sooner_split : (xs ys : List ℕ) (p q : ℕ) → length ys ≡ length xs → Sooner (xs ++ (p ∷ [])) (ys ++ (q ∷ [])) → (p < q) ⊎ ((p ≡ q) × Sooner xs ys)
sooner_split xs ys p q e s =
    let w : s.at < length xs + 1 = omega (arith, s.within, length_push xs p) in
    elim (cases_lt s.at (length xs)) [
      | inl l ↦ (let l' : s.at < length ys = omega arith in
          let m : s.at + 1 ≤ length xs = omega arith in
          let m' : s.at + 1 ≤ length ys = omega arith in
          let both = same_from_push (drop (s.at + 1) xs) (drop (s.at + 1) ys) p q
          (sym (drop-append-le (s.at + 1) xs (p ∷ []) m) ∙ s.behind ∙ drop-append-le (s.at + 1) ys (q ∷ []) m') in
          inr (both.1, record { at = s.at; within = l; earlier = simp get_or_append_left at s.earlier; behind = both.0 }))
      | inr l ↦ (let u : get_or (xs ++ (p ∷ [])) s.at 0 ≡ p = get_or_push xs p 0 s.at (omega arith) in
          let v : get_or (ys ++ (q ∷ [])) s.at 0 ≡ q = get_or_push ys q 0 s.at (omega arith) in
          inl (omega (arith, s.earlier)))
    ]

pub earlier : (c d : List ℕ) → length d ≡ length c → Sooner (reverse c) (reverse d) → Earlier c d
earlier [] d e s = absurd (omega (arith, s.within))
earlier (p ∷ ps) [] e s = absurd (omega arith)
earlier (p ∷ ps) (q ∷ qs) e s =
    let same : length qs ≡ length ps = omega arith in
    let level : length (reverse qs) ≡ length (reverse ps) = length-reverse qs ∙ same ∙ sym (length-reverse ps) in
    elim (sooner_split (reverse ps) (reverse qs) p q level (rw (reverse-cons p ps, reverse-cons q qs) at s)) [
      | inl x ↦ inl x
      | inr x ↦ inr (x.0, earlier ps qs same x.1)
    ]

up_wider : (m n : ℕ) (xs : List ℕ) → m ≤ n → UpTo m xs → UpTo n xs
up_wider m n [] h u = tt
up_wider m n (x ∷ xs) h u = grind (arith, up_wider m n xs)

up_push : (j p : ℕ) (xs : List ℕ) → p ≤ j → UpTo p xs → UpTo j (xs ++ (p ∷ []))
up_push j p [] h u = (h, tt)
up_push j p (x ∷ xs) h u = grind (arith, up_push j p xs)

up_last : (j p : ℕ) (xs : List ℕ) → UpTo j (xs ++ (p ∷ [])) → p ≤ j
up_last j p [] u = u.0
up_last j p (x ∷ xs) u = up_last j p xs u.1

module _ {M T : Type 0} (log : Log) (r : Rules M T) (s : Sound (task log r)) where
  -- p behind ends that leave it the spacing
  from_push : (from p : ℕ) (xs : List ℕ) → from ≤ p → good log p ≡ true → From log from xs → UpTo (p - spacing log) xs → From log from (xs ++ (p ∷ []))
  from_push from p [] h g c u = (h, g, tt)
  from_push from p (x ∷ xs) h g c u = grind (arith, s.inside x, from_push (x + spacing log) p xs)

  -- the last of a choice, and the others, which leave it the spacing
  from_pop : (from p : ℕ) (xs : List ℕ) → From log from (xs ++ (p ∷ [])) → (from ≤ p) × (good log p ≡ true) × From log from xs × UpTo (p - spacing log) xs
  from_pop from p [] c = (c.0, c.1, tt, tt)
  from_pop from p (x ∷ xs) c = grind (arith, from_pop (x + spacing log) p xs)

  pub forwards : (j : ℕ) (c : List ℕ) → Back (task log r) j c → ChoiceTo log j (reverse c)
  forwards j [] h = (tt, tt)
  forwards j (p ∷ ps) h =
      let i = forwards (p - spacing log) ps h.2 in
      rw (reverse-cons p ps)
      (from_push 0 p (reverse ps) (omega arith) h.1 i.0 i.1, up_push j p (reverse ps) h.0 (up_wider (p - spacing log) p (reverse ps) (omega arith) i.1))

  pub backwards : (j : ℕ) (c : List ℕ) → ChoiceTo log j (reverse c) → Back (task log r) j c
  backwards j [] h = tt
  backwards j (p ∷ ps) h =
      let To : List ℕ → Type 0 = ChoiceTo log j in
      let g : ChoiceTo log j (reverse ps ++ (p ∷ [])) = subst To (reverse-cons p ps) h in
      let i = from_pop 0 p (reverse ps) g.0 in
      (up_last j p (reverse ps) g.1, i.1, backwards (p - spacing log) ps (i.2, i.3))

  added_push : (t : T) (xs : List ℕ) (p : ℕ) → added log r t (xs ++ (p ∷ [])) ≡ r.add (added log r t xs) (mark_of log r p)
  added_push t [] p = refl
  added_push t (x ∷ xs) p = added_push (r.add t (mark_of log r x)) xs p

  pub total_reverse : (c : List ℕ) → total log r (reverse c) ≡ sum (task log r) c
  total_reverse [] = refl
  total_reverse (p ∷ ps) =
      ap (total log r) (reverse-cons p ps) ∙ added_push r.none (reverse ps) p ∙ ap (λ t. r.add t (mark_of log r p)) (total_reverse ps)

  ranked : (c d : List ℕ) → r.rank (sum (task log r) c) (sum (task log r) d) ≡ r.rank (total log r (reverse c)) (total log r (reverse d))
  ranked c d = sym (ap (λ t. r.rank t (total log r (reverse d))) (total_reverse c) ∙ ap (r.rank (sum (task log r) c)) (total_reverse d))

  before : (c d : List ℕ) → length d ≡ length c → Leads (task log r) c d → Before log r (reverse c) (reverse d)
  before c d e h = grind (arith, ranked c d, sooner c d e)

  -- the leading choice up to j is the best of the choices up to j
  pub best_to : (j : ℕ) (c : List ℕ) → Top (task log r) j c → Best log r (ChoiceTo log j) (reverse c)
  best_to j c t = record { one = forwards j c t.choice; most = most; cheapest = cheapest }
    where
      leads : (ys : List ℕ) → ChoiceTo log j ys → (reverse ys ≡ c) ⊎ Leads (task log r) c (reverse ys)
      leads ys h = let To : List ℕ → Type 0 = ChoiceTo log j in t.leads (reverse ys) (backwards j (reverse ys) (subst To (sym (reverse-reverse ys)) h))

      most : (ys : List ℕ) → ChoiceTo log j ys → length ys ≤ length (reverse c)
      most ys h = grind (arith, leads ys h, length-reverse c, length-reverse ys)

      cheapest : (ys : List ℕ) → ChoiceTo log j ys → length ys ≡ length (reverse c) → (ys ≡ reverse c) ⊎ Before log r (reverse c) ys
      cheapest ys h e =
          let many : length (reverse ys) ≡ length c = length-reverse ys ∙ e ∙ length-reverse c in
          grind (arith, leads ys h, reverse-reverse ys, before c (reverse ys) many)

  leads : (c d : List ℕ) → length d ≡ length c → Before log r (reverse c) (reverse d) → Leads (task log r) c d
  leads c d e h = grind (arith, ranked c d, earlier c d e)

  -- and the other way round
  pub top_to : (j : ℕ) (c : List ℕ) → Best log r (ChoiceTo log j) (reverse c) → Top (task log r) j c
  top_to j c b = record { choice = backwards j c b.one; leads = all }
    where
      all : (d : List ℕ) → Back (task log r) j d → (d ≡ c) ⊎ Leads (task log r) c d
      all d h =
          let f = forwards j d h in
          grind (arith, length-reverse c, length-reverse d, reverse-reverse c, reverse-reverse d, b.most (reverse d) f, b.cheapest (reverse d) f, leads c d)
