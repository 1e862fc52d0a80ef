-- The walk that takes each good end as soon as it can stays ahead of every choice.
use Rattle.std.proofs.Common.{◌≡◌, ℕ, zero, suc, ◌+◌, ◌-◌, ◌<◌, ◌≤◌, max, true, false, cond, ◌&&◌, leb, List, [], ◌∷◌, length, sym, refl, ap, ◌∙◌, subst, inl, inr, arith}
use Rattle.std.proofs.lemmas.Bool.{cases_Bool, and_parts, leb-true}
use Rattle.std.proofs.lemmas.Bool.Decides.{leb_tells}
use Rattle.model.specs.Log.{Log}
use Rattle.model.specs.Choices.{From, Choice, Greatest, spacing}
use Rattle.model.specs.Counting.{excess, stride}
use Rattle.model.specs.Sheets.{bit, clear, within_shares, first_cell, fits, good}
use Rattle.model.proofs.Shares.{excess_few, skipped}

-- n ends are taken, and the walk stands at p
pub record Ahead (log : Log) (p n : ℕ) : Type 0 where
  pub upper : (ys : List ℕ) → Choice log ys → (zs : List ℕ) × From log p zs × (length ys ≤ n + length zs)
  pub lower : (zs : List ℕ) → From log p zs → (ys : List ℕ) × Choice log ys × (length ys ≡ n + length zs)

pub good_fits : (log : Log) (p : ℕ) → good log p ≡ true → (log.roll.sheet ≤ p) × (p ≤ log.roll.cells)
good_fits log p g =
    let h = (and_parts (fits log p) (clear log.roll.bars (first_cell log p) log.roll.sheet && within_shares log p log.roll.parameters) g).0 in
    let k = and_parts (leb log.roll.sheet p) (leb p log.roll.cells) h in
    (leb-true log.roll.sheet p k.0, leb-true p log.roll.cells k.1)

good_fair : (log : Log) (p : ℕ) → good log p ≡ true → within_shares log p log.roll.parameters ≡ true
good_fair log p g =
    let h = (and_parts (fits log p) (clear log.roll.bars (first_cell log p) log.roll.sheet && within_shares log p log.roll.parameters) g).1 in
    (and_parts (clear log.roll.bars (first_cell log p) log.roll.sheet) (within_shares log p log.roll.parameters) h).1

sooner : (log : Log) (p q : ℕ) (xs : List ℕ) → p ≤ q → From log q xs → From log p xs
sooner log p q [] h c = tt
sooner log p q (x ∷ xs) h c = (omega (arith, c.0), c.1, c.2)

-- no end from p on is good for e cells
Barren : Log → ℕ → ℕ → Type 0
Barren log p e = (k : ℕ) → k < e → good log (p + k) ≡ true → ⊥

passed : (log : Log) (p e : ℕ) (xs : List ℕ) → Barren log p e → From log p xs → From log (p + e) xs
unfolding Barren
passed log p e [] h c = tt
passed log p e (x ∷ xs) h c = elim (leb_tells (p + e) x) [
  | inl t ↦ (t.1, c.1, c.2)
  | inr t ↦ (let f : x < p + e = t.1 in
      let low : p ≤ x = c.0 in
      let s : x ≡ p + (x - p) = omega arith in
      let P : ℕ → Type 0 = λ y. good log y ≡ true in
      absurd (h (x - p) (omega arith) (subst P s c.1)))
]

ahead_skip : (log : Log) (p n e : ℕ) → Barren log p e → Ahead log p n → Ahead log (p + e) n
ahead_skip log p n e h a = record {
  upper = λ ys c. let z = a.upper ys c in (z.0, passed log p e z.0 h z.1, z.2);
  lower = λ zs c. a.lower zs (sooner log p (p + e) zs (omega arith) c);
}

-- the walk starts at the first sheet: none ends before it
pub ahead_start : (log : Log) → Ahead log log.roll.sheet 0
unfolding Barren
ahead_start log =
    let l = log.roll.sheet in
    let none : Ahead log 0 0 = record { upper = λ ys h. (ys, h, omega arith); lower = λ zs h. (zs, h, omega arith) } in
    let P : ℕ → Type 0 = λ p. Ahead log p 0 in
    subst P (let z : 0 + l ≡ l = omega arith in z) (ahead_skip log 0 0 l (λ k m g. omega (arith, (good_fits log (0 + k) g).0)) none)

behind : (log : Log) (p : ℕ) (zs : List ℕ) → From log p zs → (xs : List ℕ) × From log (p + spacing log) xs × (length zs ≤ 1 + length xs)
behind log p [] c = ([], tt, omega arith)
behind log p (z ∷ zs) c = (zs, sooner log (p + spacing log) (z + spacing log) zs (omega (arith, c.0)) c.2, omega arith)

ahead_take : (log : Log) (p n : ℕ) → good log p ≡ true → Ahead log p n → Ahead log (p + spacing log) (n + 1)
ahead_take log p n g a = record {
  upper = λ ys c.
      let z = a.upper ys c in
      let x = behind log p z.0 z.1 in
      (x.0, x.1, omega (arith, z.2, x.2));
  lower = λ zs c.
      let y = a.lower (p ∷ zs) (omega arith, g, c) in
      (y.0, y.1, omega (arith, y.2));
}

-- a sheet that is not good: as many ends as it is in excess are passed over, and one at least
barren : (log : Log) (p : ℕ) → log.roll.sheet ≤ p → good log p ≡ false → Barren log p (max 1 (excess log p log.roll.parameters))
unfolding Barren
barren log p l f zero m g =
    let same : good log (p + 0) ≡ good log p = ap (good log) (let z : p + 0 ≡ p = omega arith in z) in
    let bad : false ≡ true = sym f ∙ sym same ∙ g in
    grind arith
barren log p l f (suc k) m g =
    skipped log p (suc k) log.roll.parameters l (omega arith) (good_fair log (p + suc k) g)

-- one look further
pub ahead_look : (log : Log) (p n : ℕ) → log.roll.sheet ≤ p → Ahead log p n → Ahead log (p + stride log p) (n + bit (good log p))
ahead_look log p n l a = elim (cases_Bool (good log p)) [
  | inl g ↦ rw g (ahead_take log p n g a)
  | inr g ↦ (let z : n + 0 ≡ n = omega arith in
      let P : ℕ → Type 0 = Ahead log (p + max 1 (excess log p log.roll.parameters)) in
      rw g (subst P (sym z) (ahead_skip log p n _ (barren log p l g) a)))
]

empty : (log : Log) (p : ℕ) (zs : List ℕ) → log.roll.cells < p → From log p zs → length zs ≡ 0
empty log p [] h c = refl
empty log p (z ∷ zs) h c = absurd (omega (arith, c.0, (good_fits log z c.1).1))

pub ahead_all : (log : Log) (p n : ℕ) → log.roll.cells < p → Ahead log p n → Greatest log n
ahead_all log p n h a = record {
  some = (let y = a.lower [] tt in (y.0, y.1, omega (arith, y.2)));
  most = λ ys c. let z = a.upper ys c in omega (arith, z.2, empty log p z.0 h z.1);
}

pub stride_some : (log : Log) (p : ℕ) → 1 ≤ log.roll.sheet → 1 ≤ stride log p
stride_some log p h = elim (good log p) as (λ t. 1 ≤ cond t (spacing log) (max 1 (excess log p log.roll.parameters))) [ true ↦ h | false ↦ omega arith ]

pub stride_few : (log : Log) (p : ℕ) → 1 ≤ log.roll.sheet → stride log p ≤ log.roll.sheet
stride_few log p h =
    let few = excess_few log p log.roll.parameters in
    elim (good log p) as (λ t. cond t (spacing log) (max 1 (excess log p log.roll.parameters)) ≤ log.roll.sheet) [ true ↦ omega arith | false ↦ omega arith ]
