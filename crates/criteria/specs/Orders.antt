-- Lemmas for the laws of criteria, which name them; no other contract cites them, and nothing here needs to be believed.
-- Orders: by numbers, by one order and then another, by sums one after the other.
use Rattle.std.specs.Prelude.{◌≡◌, ℕ, zero, suc, ◌+◌, ◌-◌, ◌<◌, ◌≤◌, List, slice_index, refl}
use Rattle.std.specs.declared.cmp.Ordering.TheVariants.{Less, Equal, Greater}
use Rattle.std.specs.declared.cmp.Ordering.{Ordering}
use Rattle.std.proofs.Common.{ap, ◌∙◌, arith}
use Rattle.std.proofs.lemmas.Bool.Decides.{nat_tests}
use Rattle.std.specs.Ordering.{ordering_then}
use Rattle.criteria.specs.Law.{Ordered}
use Rattle.criteria.specs.Sums.{by_number, by_sums}

-- equal totals compare alike with every other
pub level : {T : Type 0} (rank : T → T → Ordering) → Ordered rank → (a b c : T) → rank a b ≡ Equal → rank a c ≡ rank b c
level rank o a b c e =
    let ab = o.swap a b in
    let ac = o.swap a c in
    let bc = o.swap b c in
    let e1 = o.equal b a c in
    let e2 = o.equal a b c in
    let l1 = o.less b c a in
    let l2 = o.less a c b in
    let l3 = o.less c b a in
    let l4 = o.less c a b in
    grind arith

-- an order of what is read off
pub ordered_by : {T U : Type 0} (rank : U → U → Ordering) (f : T → U) → Ordered rank → Ordered {T = T} (λ a b. rank (f a) (f b))
ordered_by rank f o = record {
  swap = λ a b. o.swap (f a) (f b);
  less = λ a b c h i. o.less (f a) (f b) (f c) h i;
  equal = λ a b c h i. o.equal (f a) (f b) (f c) h i;
}

ordered_number : Ordered by_number
ordered_number = record {
  swap = λ a b. grind (arith, nat_tests);
  less = λ a b c h i. grind (arith, nat_tests);
  equal = λ a b c h i. grind (arith, nat_tests);
}

ordered_none : {T : Type 0} → Ordered {T = T} (λ a b. Equal)
ordered_none = record { swap = λ a b. refl; less = λ a b c h i. h; equal = λ a b c h i. refl }

-- by one order, and by another where it finds equal
ordered_then : {T : Type 0} (r s : T → T → Ordering) → Ordered r → Ordered s → Ordered {T = T} (λ a b. ordering_then (r a b) (s a b))
ordered_then r s o p = record {
  swap = λ a b. let x = o.swap a b in let y = p.swap a b in grind arith;
  less = λ a b c h i.
      let x = o.less a b c in
      let y = p.less a b c in
      let u = level r o a b c in
      let v = level r o c b a in
      let ab = o.swap a b in
      let bc = o.swap b c in
      let ac = o.swap a c in
      grind arith;
  equal = λ a b c h i.
      let x = o.equal a b c in
      let y = p.equal a b c in
      grind arith;
}

-- the one lemma of all sums that are compared in order
pub ordered_sums : (i n : ℕ) → Ordered (by_sums i n)
ordered_sums i zero = ordered_none
ordered_sums i (suc n) =
    ordered_then (λ a b. by_number (slice_index a i) (slice_index b i)) (by_sums (i + 1) n)
    (ordered_by by_number (λ a. slice_index a i) ordered_number) (ordered_sums (i + 1) n)

-- one place on
pub sums_more : (a b : List ℕ) (i n : ℕ) (r : Ordering) → i < n → by_number (slice_index a i) (slice_index b i) ≡ r →
    by_sums i (n - i) a b ≡ ordering_then r (by_sums (i + 1) (n - (i + 1)) a b)
sums_more a b i n r h e =
    let more : n - i ≡ suc (n - (i + 1)) = omega arith in
    ap (λ k. by_sums i k a b) more ∙ ap (λ q. ordering_then q (by_sums (i + 1) (n - (i + 1)) a b)) e

pub number_less : (a b : ℕ) → a < b → by_number a b ≡ Less
number_less a b h = grind (arith, nat_tests)

pub number_greater : (a b : ℕ) → b < a → by_number a b ≡ Greater
number_greater a b h = grind (arith, nat_tests)

pub number_equal : (a b : ℕ) → b ≤ a → a ≤ b → by_number a b ≡ Equal
number_equal a b h i = grind (arith, nat_tests)
