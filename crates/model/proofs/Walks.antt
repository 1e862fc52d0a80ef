-- The walk of count, look by look.
use Rattle.std.proofs.Common.{◌≡◌, ℕ, suc, ◌+◌, ◌-◌, ◌<◌, ◌≤◌, true, leb, ap, ◌∙◌, subst, arith}
use Rattle.std.proofs.lemmas.Bool.{and_from, le-leb, lt-ltb}
use Rattle.model.specs.Log.{Log}
use Rattle.model.specs.Counting.{stride, takes_looks, taken, Counted}
use Rattle.model.specs.Sheets.{bit, good}
use Rattle.model.proofs.Outliers.{bit_small}
use Rattle.model.proofs.Greedy.{Ahead, ahead_start, ahead_look, ahead_all, stride_some}

-- so many sheets are taken in so many looks, and the walk stands at p
pub record Walked (log : Log) (p sheets n : ℕ) : Type 0 where
  pub ahead : Ahead log p sheets
  pub low : log.roll.sheet ≤ p
  pub looked : (m : ℕ) → takes_looks log p m ≡ true → takes_looks log log.roll.sheet (n + m) ≡ true
  pub counted : (m : ℕ) → taken log log.roll.sheet (n + m) ≡ sheets + taken log p m
  pub brief : n ≤ log.roll.cells + 1 - log.roll.sheet
  pub far : n + log.roll.sheet ≤ p
  pub few : sheets ≤ n

pub walked_start : (log : Log) → Walked log log.roll.sheet 0 0
walked_start log = record {
  ahead = ahead_start log;
  low = omega arith;
  looked = λ m h. rw (let z : 0 + m ≡ m = omega arith in z) h;
  counted = λ m. ap (taken log log.roll.sheet) (let z : 0 + m ≡ m = omega arith in z) ∙ (let z : taken log log.roll.sheet m ≡ 0 + taken log log.roll.sheet m = omega arith in z);
  brief = omega arith;
  far = omega arith;
  few = omega arith;
}

pub walked_look : (log : Log) (p sheets n : ℕ) → 1 ≤ log.roll.sheet → p ≤ log.roll.cells → Walked log p sheets n →
    Walked log (p + stride log p) (sheets + bit (good log p)) (n + 1)
walked_look log p sheets n some on w =
    let step : 1 ≤ stride log p = stride_some log p some in
    let l = log.roll.sheet in
    record {
      ahead = ahead_look log p sheets w.low w.ahead;
      low = omega (arith, w.low);
      looked = λ m h.
          let here : leb p log.roll.cells ≡ true = le-leb p log.roll.cells on in
          let more : takes_looks log p (suc m) ≡ true = and_from (leb p log.roll.cells) (takes_looks log (p + stride log p) m) here h in
          subst (λ x. takes_looks log l x ≡ true) (let z : n + suc m ≡ n + 1 + m = omega arith in z) (w.looked (suc m) more);
      counted = λ m.
          let e : taken log l (n + suc m) ≡ sheets + (bit (good log p) + taken log (p + stride log p) m) = w.counted (suc m) in
          let z : taken log l (n + suc m) ≡ taken log l (n + 1 + m) = ap (taken log l) (let y : n + suc m ≡ n + 1 + m = omega arith in y) in
          omega arith;
      brief = omega (arith, w.far);
      far = omega (arith, w.far);
      few = omega (arith, w.few, bit_small (good log p));
    }

pub walked_all : (log : Log) (p sheets n : ℕ) → log.roll.cells < p → Walked log p sheets n → Counted log sheets n
walked_all log p sheets n past w =
    let l = log.roll.sheet in
    let z : n + 0 ≡ n = omega arith in
    record {
      greatest = ahead_all log p sheets past w.ahead;
      walked = subst (λ x. takes_looks log l x ≡ true) z (w.looked 0 (lt-ltb log.roll.cells p past));
      counted = (let e : taken log l (n + 0) ≡ sheets + 0 = w.counted 0 in
          let f : taken log l (n + 0) ≡ taken log l n = ap (taken log l) z in
          omega arith);
      few = w.brief;
    }
