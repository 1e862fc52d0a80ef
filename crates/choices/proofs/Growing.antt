-- The leading choice up to j, from the leading choices before it.
use Rattle.std.proofs.Common.{◌≡◌, ℕ, zero, suc, ◌-◌, ◌<◌, ◌≤◌, true, ◌⊎◌, List, [], ◌∷◌, length, Ordering, Less, Equal, Greater, refl, subst, inl, inr, arith}
use Rattle.std.proofs.lemmas.Bool.{cases_Bool, cases_lt, cases_order}
use Rattle.choices.proofs.Backwards.{Task, Sound, Lawful, Back, sum, Earlier, back_wider, back_split}
use Rattle.choices.proofs.Leading.{Leads, leads_trans, leads_never, leads_more, leads_fewer}

-- c leads all other choices of ends up to j
pub record Top {M T : Type 0} (k : Task M T) (j : ℕ) (c : List ℕ) : Type 0 where
  pub choice : Back k j c
  pub leads : (d : List ℕ) → Back k j d → (d ≡ c) ⊎ Leads k c d

module _ {M T : Type 0} (k : Task M T) (law : Lawful k.rules) where
  pub top_none : Sound k → Top k 0 []
  top_none s = record { choice = tt; leads = only }
    where
      only : (d : List ℕ) → Back k 0 d → (d ≡ []) ⊎ Leads k [] d
      only [] h = inl refl
      only (p ∷ ps) h = absurd (omega (arith, h.0, s.inside p h.1))

  -- no good sheet ends at j: as before
  pub top_skip : (j : ℕ) (c : List ℕ) → Top k (j - 1) c → (k.good j ≡ true → ⊥) → Top k j c
  top_skip j c t never = record {
    choice = back_wider k (j - 1) j c (omega arith) t.choice;
    leads = λ d h. elim (back_split k j d h) [ inl x ↦ t.leads d x | inr x ↦ absurd (never x.2) ];
  }

  -- j behind the leading choice far enough before it leads all others whose last end is j
  ends_here : (j : ℕ) (e d : List ℕ) → Top k (j - k.spacing) e → Back k (j - k.spacing) d → (j ∷ d ≡ j ∷ e) ⊎ Leads k (j ∷ e) (j ∷ d)
  ends_here j e d t h = grind (arith, t.leads d h, leads_more k law j e d)

  pub top_take : (j : ℕ) (c e : List ℕ) → Top k (j - 1) c → Top k (j - k.spacing) e → k.good j ≡ true → Leads k (j ∷ e) c → Top k j (j ∷ e)
  top_take j c e t u g a = record {
    choice = (omega arith, g, u.choice);
    leads = λ d h. elim (back_split k j d h) [
      | inl x ↦ grind (arith, t.leads d x, leads_trans k law (j ∷ e) c d)
      | inr x ↦ grind (arith, x.1, ends_here j e x.0 u x.3)
    ];
  }

  pub top_keep : (j : ℕ) (c e : List ℕ) → Top k (j - 1) c → Top k (j - k.spacing) e → Leads k c (j ∷ e) → Top k j c
  top_keep j c e t u a = record {
    choice = back_wider k (j - 1) j c (omega arith) t.choice;
    leads = λ d h. elim (back_split k j d h) [
      | inl x ↦ t.leads d x
      | inr x ↦ grind (arith, x.1, ends_here j e x.0 u x.3, leads_trans k law c (j ∷ e) (j ∷ x.0))
    ];
  }

  earlier_than : (j : ℕ) (c e : List ℕ) → 0 < j → Back k (j - 1) c → length (j ∷ e) ≡ length c → Earlier c (j ∷ e)
  earlier_than j [] e z h l = absurd (omega arith)
  earlier_than j (p ∷ ps) e z h l = grind arith

  -- a choice below j that is not beaten by one with the last end j leads it
  pub keeps : (j : ℕ) (c e : List ℕ) → 0 < j → Back k (j - 1) c →
      (length (j ∷ e) < length c) ⊎ ((length (j ∷ e) ≡ length c) × (k.rules.rank (sum k (j ∷ e)) (sum k c) ≡ Less → ⊥)) → Leads k c (j ∷ e)
  keeps j c e z h t = let swap = law.order.swap (sum k c) (sum k (j ∷ e)) in grind (arith, earlier_than j c e z h)

  pub top_once : (j : ℕ) (c d : List ℕ) → Top k j c → Top k j d → c ≡ d
  top_once j c d t u = grind (arith, t.leads d u.choice, u.leads c t.choice, leads_trans k law c d c, leads_never k law c)

  pub top_rest : (j p : ℕ) (c : List ℕ) → Top k j (p ∷ c) → Top k (p - k.spacing) c
  top_rest j p c t = record {
    choice = t.choice.2;
    leads = λ d h. grind (arith, t.leads (p ∷ d) (t.choice.0, t.choice.1, h), leads_fewer k law p c d);
  }

  by_rank : (j : ℕ) (c e : List ℕ) → 0 < j → Top k (j - 1) c → Top k (j - k.spacing) e → k.good j ≡ true → length c ≡ length (j ∷ e) →
      (o : Ordering) → k.rules.rank (sum k (j ∷ e)) (sum k c) ≡ o → (d : List ℕ) × Top k j d
  by_rank j c e z t u g n Less p = (j ∷ e, top_take j c e t u g (grind arith))
  by_rank j c e z t u g n Equal p = (c, top_keep j c e t u (keeps j c e z t.choice (grind arith)))
  by_rank j c e z t u g n Greater p = (c, top_keep j c e t u (keeps j c e z t.choice (grind arith)))

  top_next : (j : ℕ) (c e : List ℕ) → 0 < j → Top k (j - 1) c → Top k (j - k.spacing) e → (d : List ℕ) × Top k j d
  top_next j c e z t u = elim (cases_Bool (k.good j)) [
    | inl g ↦ elim (cases_order (length c) (length (j ∷ e))) [
      | inl n ↦ by_rank j c e z t u g n (k.rules.rank (sum k (j ∷ e)) (sum k c)) refl
      | inr n ↦ elim n [
        | inl x ↦ (j ∷ e, top_take j c e t u g (inl x))
        | inr x ↦ (c, top_keep j c e t u (keeps j c e z t.choice (inl x)))
      ]
    ]
    | inr g ↦ (c, top_skip j c t (λ q. grind arith))
  ]

  -- there is one up to every position
  pub top_some : Sound k → (j i : ℕ) → i ≤ j → (c : List ℕ) × Top k i c
  top_some s zero i h = let At : ℕ → Type 0 = λ n. Top k n [] in ([], subst At (let z : 0 ≡ i = omega arith in z) (top_none s))
  top_some s (suc j) i h = elim (cases_lt i (suc j)) [
    | inl l ↦ top_some s j i (omega arith)
    | inr l ↦ (let t = top_some s j (i - 1) (omega arith) in
        let u = top_some s j (i - k.spacing) (omega (arith, s.apart)) in
        top_next i t.0 u.0 (omega arith) t.1 u.1)
  ]
