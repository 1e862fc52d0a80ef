-- The latest reading of a parameter: where it stands, and what a reading more or less makes of it.
use Rattle.std.proofs.Common.{◌≡◌, ℕ, zero, suc, ◌+◌, ◌<◌, Bool, true, false, cond, eqb, List, [], ◌∷◌, ◌++◌, length, take, drop, Some, None, Option, sym, refl, ap, ◌∙◌, inl, inr, arith, length-drop, get_or-drop, drop-cons}
use Rattle.std.proofs.lemmas.List.{take-append-drop}
use Rattle.std.proofs.lemmas.Bool.Decides.{nat_tests, eqb_tells}
use Rattle.std.specs.List.{remove}
use Rattle.model.specs.declared.reading.Reading.{Reading}
use Rattle.model.specs.Serving.{at, blank}
use Rattle.model.specs.Recorded.{Bare, Last}
use Rattle.model.specs.Recording.{latest, withdrawn}

bare_tail : (r : Reading) (rs : List Reading) (i : ℕ) → Bare (r ∷ rs) i 1 (length (r ∷ rs)) → Bare rs i 0 (length rs)
bare_tail r rs i h = λ j l q. h (suc j) (omega (arith, l.0), omega (arith, l.1)) q

pub latest_none : (rs : List Reading) (i : ℕ) → Bare rs i 0 (length rs) → latest rs i ≡ None
latest_none [] i h = refl
latest_none (r ∷ rs) i h =
    let e : latest rs i ≡ None = latest_none rs i (bare_tail r rs i (λ j l q. h j (omega arith, l.1) q)) in
    let f : r.parameter ≡ i → ⊥ = h 0 (omega arith, omega arith) in
    let g : eqb r.parameter i ≡ false = grind (arith, nat_tests) in
    rw e (rw g refl)

last_tail : (r : Reading) (rs : List Reading) (i k : ℕ) → Last (r ∷ rs) i (suc k) → Last rs i k
last_tail r rs i k h = record {
  within = omega (arith, h.within);
  own = h.own;
  after = λ j l q. h.after (suc j) (omega (arith, l.0), omega (arith, l.1)) q;
}

pub latest_last : (rs : List Reading) (i k : ℕ) → Last rs i k → latest rs i ≡ Some (at rs k)
latest_last [] i k h = absurd (omega (arith, h.within))
latest_last (r ∷ rs) i zero h =
    let e : latest rs i ≡ None = latest_none rs i (bare_tail r rs i h.after) in
    let own : r.parameter ≡ i = h.own in
    let g : eqb r.parameter i ≡ true = grind (arith, nat_tests) in
    rw e (rw g refl)
latest_last (r ∷ rs) i (suc k) h = let e = latest_last rs i k (last_tail r rs i k h) in rw e refl

pub withdrawn_last : (rs : List Reading) (i k : ℕ) → Last rs i k → withdrawn rs i ≡ remove rs k
withdrawn_last [] i k h = absurd (omega (arith, h.within))
withdrawn_last (r ∷ rs) i zero h =
    let e : latest rs i ≡ None = latest_none rs i (bare_tail r rs i h.after) in
    let own : r.parameter ≡ i = h.own in
    let g : eqb r.parameter i ≡ true = grind (arith, nat_tests) in
    rw e (rw g refl)
withdrawn_last (r ∷ rs) i (suc k) h =
    let l = last_tail r rs i k h in
    let e = latest_last rs i k l in
    rw e (ap (λ xs. r ∷ xs) (withdrawn_last rs i k l))

-- the latest of two lists is that of the second, if it has one
abbrev pub or_else : Option Reading → Option Reading → Option Reading
or_else (Some r) o = Some r
or_else None o = o

or_else_more : (o p : Option Reading) (b : Bool) (r : Reading) →
    (elim (or_else o p) [ Some s ↦ Some s | None ↦ cond b (Some r) None ]) ≡ or_else o (elim p [ Some s ↦ Some s | None ↦ cond b (Some r) None ])
or_else_more (Some s) p b r = refl
or_else_more None p b r = refl

or_else_none : (o : Option Reading) → o ≡ or_else o None
or_else_none (Some s) = refl
or_else_none None = refl

pub latest_append : (xs ys : List Reading) (i : ℕ) → latest (xs ++ ys) i ≡ or_else (latest ys i) (latest xs i)
latest_append [] ys i = or_else_none (latest ys i)
latest_append (x ∷ xs) ys i = rw (latest_append xs ys i) (or_else_more (latest ys i) (latest xs i) (eqb x.parameter i) x)

-- one more of the parameter
pub latest_own : (rs : List Reading) (r : Reading) (i : ℕ) → r.parameter ≡ i → latest (rs ++ r ∷ []) i ≡ Some r
latest_own rs r i p =
    let g : eqb r.parameter i ≡ true = grind (arith, nat_tests) in
    rw (latest_append rs (r ∷ []) i) (rw g refl)

-- one more, or one less, of another parameter
pub latest_other : (xs : List Reading) (r : Reading) (ys : List Reading) (i : ℕ) → (r.parameter ≡ i → ⊥) → latest (xs ++ r ∷ ys) i ≡ latest (xs ++ ys) i
latest_other xs r ys i p =
    let g : eqb r.parameter i ≡ false = grind (arith, nat_tests) in
    let same : latest (r ∷ ys) i ≡ latest ys i = (elim (latest ys i) as (λ o. (elim o [ Some s ↦ Some s | None ↦ cond (eqb r.parameter i) (Some r) None ]) ≡ o) [ Some s ↦ refl | None ↦ rw g refl ]) in
    rw (latest_append xs (r ∷ ys) i) (rw (latest_append xs ys i) (rw same refl))

pub split_at : (rs : List Reading) (k : ℕ) → k < length rs → rs ≡ take k rs ++ at rs k ∷ drop (suc k) rs
split_at rs k h = sym (take-append-drop k rs) ∙ ap (λ xs. take k rs ++ xs) (drop-cons rs k blank h)

-- without a reading of another parameter
pub latest_kept : (rs : List Reading) (k i : ℕ) → k < length rs → ((at rs k).parameter ≡ i → ⊥) → latest (remove rs k) i ≡ latest rs i
latest_kept rs k i h p = sym (ap (λ xs. latest xs i) (split_at rs k h) ∙ latest_other (take k rs) (at rs k) (drop (suc k) rs) i p)

-- without the latest of the parameter
pub latest_before : (rs : List Reading) (i k : ℕ) → Last rs i k → latest (remove rs k) i ≡ latest (take k rs) i
latest_before rs i k h =
    let none : latest (drop (suc k) rs) i ≡ None =
    latest_none (drop (suc k) rs) i (λ j l q.
    h.after (suc k + j) (omega arith, omega (arith, l.1, length-drop (suc k) rs)) (ap (λ r. r.parameter) (sym (get_or-drop (suc k) rs j blank)) ∙ q)) in
    rw (latest_append (take k rs) (drop (suc k) rs) i) (rw none refl)

-- the latest stands somewhere
abbrev pub StandsIn : List Reading → ℕ → Reading → Type 0
StandsIn rs i s = (k : ℕ) × (k < length rs) × (at rs k ≡ s) × (s.parameter ≡ i)

pub latest_stands : (rs : List Reading) (i : ℕ) (s : Reading) → latest rs i ≡ Some s → StandsIn rs i s
latest_stands [] i s e = absurd (grind arith)
latest_stands (r ∷ rs) i s e = by (latest rs i) refl (latest_stands rs i s)
  where
    by : (o : Option Reading) → latest rs i ≡ o → (latest rs i ≡ Some s → StandsIn rs i s) → StandsIn (r ∷ rs) i s
    by (Some t) q f = let h = f (q ∙ (rw q at e)) in (suc h.0, omega (arith, h.1), h.2, h.3)
    by None q f = elim (eqb_tells r.parameter i) [
      | inl p ↦ (let is : r ≡ s = (let here = rw (q, p.0) at e in grind arith) in (0, omega arith, is, ap (λ x. x.parameter) (sym is) ∙ p.1))
      | inr p ↦ (let other = rw (q, p.0) at e in absurd (grind arith))
    ]
