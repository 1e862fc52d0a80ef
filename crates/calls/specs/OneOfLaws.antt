-- The laws of one of two criteria, from theirs: lemmas that its laws name; nothing here needs to be believed.
use Rattle.std.specs.Prelude.{◌≡◌, refl}
use Rattle.std.specs.declared.cmp.Ordering.TheVariants.{Less, Equal}
use Rattle.std.specs.declared.cmp.Ordering.{Ordering}
use Rattle.std.proofs.Common.{arith}
use Rattle.std.specs.Ordering.{ordering_reverse}
use Rattle.criteria.specs.Law.{Adding, Ordered, Rules}
use Rattle.calls.specs.declared.one_of.OneOf.{OneOf}
use Rattle.calls.specs.declared.one_of.OneOf.TheVariants.{First, Second}
use Rattle.calls.specs.OneOf.{one_of, sorted}

level_order : {T : Type 0} → Ordered {T = T} (λ a b. Equal)
level_order = record { swap = λ a b. refl; less = λ a b c h i. h; equal = λ a b c h i. refl }

module _ {T U : Type 0} (r : T → T → Ordering) (s : U → U → Ordering) (o : Ordered r) (p : Ordered s) where
  swap : (a b : OneOf T U) → sorted r s b a ≡ ordering_reverse (sorted r s a b)
  swap (First a) (First b) = o.swap a b
  swap (Second a) (Second b) = p.swap a b
  swap a b = grind arith

  less : (a b c : OneOf T U) → sorted r s a b ≡ Less → sorted r s b c ≡ Less → sorted r s a c ≡ Less
  less (First a) (First b) (First c) h i = o.less a b c h i
  less (Second a) (Second b) (Second c) h i = p.less a b c h i
  less a b c h i = grind arith

  equal : (a b c : OneOf T U) → sorted r s a b ≡ Equal → sorted r s b c ≡ Equal → sorted r s a c ≡ Equal
  equal (First a) (First b) (First c) h i = o.equal a b c h i
  equal (Second a) (Second b) (Second c) h i = p.equal a b c h i
  equal a b c h i = grind arith

  ordered_sorted : Ordered (sorted r s)
  ordered_sorted = record { swap = swap; less = less; equal = equal }

module _ {A B M N T U : Type 0} (r : A → Rules M T) (s : B → Rules N U) where
  pub order_one : ((a : A) → Ordered (r a).rank) → ((b : B) → Ordered (s b).rank) → (x : OneOf A B) → Ordered (one_of r s x).rank
  order_one o p (First a) = ordered_sorted (r a).rank (λ t u. Equal) (o a) level_order
  order_one o p (Second b) = ordered_sorted (λ t u. Equal) (s b).rank level_order (p b)

  pub adding_one : ((a : A) → Adding (r a)) → ((b : B) → Adding (s b)) → (x : OneOf A B) → Adding (one_of r s x)
  adding_one o p (First a) (First t) (First u) (First m) = o a t u m
  adding_one o p (Second b) (Second t) (Second u) (Second m) = p b t u m
  adding_one o p x t u m = grind arith
