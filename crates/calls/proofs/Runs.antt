-- Runs of events, one behind the other.
use Rattle.std.proofs.Common.{◌≡◌, ℕ, zero, suc, ◌<◌, List, [], ◌∷◌, ◌++◌, length, get_or, take, Ok, sym, refl, ap, ◌∙◌, subst, arith}
use Rattle.std.proofs.lemmas.List.{append_assoc, append-nil}
use Rattle.criteria.specs.Law.{Rules}
use Rattle.calls.specs.declared.answer.Answer.TheVariants.{Accepted}
use Rattle.calls.specs.declared.call.Step.{Step}
use Rattle.calls.specs.Answers.{Reply}
use Rattle.calls.specs.Events.{Course, Event, after, begins, course, events, events_of}
use Rattle.calls.specs.Replay.{Ran, Replayed, Right}

module _ {C M T : Type 0} (rules : C → Rules M T) where
  -- the same, event by event
  abbrev All : Course → List (Event C) → List (Reply T) → Type 0
  All start [] [] = Unit {0}
  All start [] (x ∷ xs) = ⊥
  All start (e ∷ es) [] = ⊥
  All start (e ∷ es) (x ∷ xs) = Right rules start.log e x × All (after start e) es xs

  all_join : (start : Course) (es fs : List (Event C)) (xs ys : List (Reply T)) → All start es xs → All (course start es) fs ys → All start (es ++ fs) (xs ++ ys)
  all_join start [] fs [] ys a b = b
  all_join start [] fs (x ∷ xs) ys a b = absurd a
  all_join start (e ∷ es) fs [] ys a b = absurd a
  all_join start (e ∷ es) fs (x ∷ xs) ys a b = (a.0, all_join (after start e) es fs xs ys a.1 b)

  all_many : (start : Course) (es : List (Event C)) (xs : List (Reply T)) → All start es xs → length xs ≡ length es
  all_many start [] [] a = refl
  all_many start [] (x ∷ xs) a = absurd a
  all_many start (e ∷ es) [] a = absurd a
  all_many start (e ∷ es) (x ∷ xs) a = ap suc (all_many (after start e) es xs a.1)

  all_each : (start : Course) (es : List (Event C)) (xs : List (Reply T)) → All start es xs → (k : ℕ) → k < length es → Right rules (course start (take k es)).log (get_or es k begins) (get_or xs k (Ok Accepted))
  all_each start [] xs a k l = absurd (omega arith)
  all_each start (e ∷ es) [] a k l = absurd a
  all_each start (e ∷ es) (x ∷ xs) a zero l = a.0
  all_each start (e ∷ es) (x ∷ xs) a (suc k) l = all_each (after start e) es xs a.1 k (omega arith)

  replayed : (start : Course) (es : List (Event C)) (xs : List (Reply T)) → All start es xs → Replayed rules start es xs
  replayed start es xs a = record { many = all_many start es xs a; each = all_each start es xs a }

  all : (start : Course) (es : List (Event C)) (xs : List (Reply T)) → Replayed rules start es xs → All start es xs
  all start [] [] r = tt
  all start [] (x ∷ xs) r = absurd (omega (arith, r.many))
  all start (e ∷ es) [] r = absurd (omega (arith, r.many))
  all start (e ∷ es) (x ∷ xs) r =
      (r.each 0 (omega arith), all (after start e) es xs (record { many = omega (arith, r.many); each = λ k l. r.each (suc k) (omega arith) }))

  course_join : (start : Course) (es fs : List (Event C)) → course start (es ++ fs) ≡ course (course start es) fs
  course_join start [] fs = refl
  course_join start (e ∷ es) fs = course_join (after start e) es fs

  pub ran_one : (start to : Course) (e : Event C) (x : Reply T) (before after' : List (Reply T)) → Right rules start.log e x → after start e ≡ to → after' ≡ before ++ x ∷ [] →
      Ran rules start to (e ∷ []) before after'
  ran_one start to e x before after' r l b = record { answers = x ∷ []; behind = b; right = replayed start (e ∷ []) (x ∷ []) (r, tt); leads = l }

  pub ran_join : (from mid to : Course) (es fs : List (Event C)) (before between after' : List (Reply T)) → Ran rules from mid es before between → Ran rules mid to fs between after' →
      Ran rules from to (es ++ fs) before after'
  ran_join from mid to es fs before between after' a b =
      let At : Course → Type 0 = λ start. All start fs b.answers in
      record {
        answers = a.answers ++ b.answers;
        behind = b.behind ∙ ap (λ xs. xs ++ b.answers) a.behind ∙ append_assoc before a.answers b.answers;
        right = replayed from (es ++ fs) (a.answers ++ b.answers)
            (all_join from es fs a.answers b.answers (all from es a.answers a.right) (subst At (sym a.leads) (all mid fs b.answers b.right)));
        leads = course_join from es fs ∙ ap (λ start. course start fs) a.leads ∙ b.leads;
      }

  -- with one event more
  pub ran_next : (from mid to : Course) (es : List (Event C)) (e : Event C) (x : Reply T) (before between after' : List (Reply T)) → Ran rules from mid es before between →
      Right rules mid.log e x → after mid e ≡ to → after' ≡ between ++ x ∷ [] → Ran rules from to (es ++ e ∷ []) before after'
  ran_next from mid to es e x before between after' run r l b = ran_join from mid to es (e ∷ []) before between after' run (ran_one mid to e x between after' r l b)

pub events_more : {C : Type 0} (ss : List (Step C)) (s : Step C) → events (ss ++ s ∷ []) ≡ events ss ++ events_of s
events_more [] s = append-nil (events_of s)
events_more (x ∷ xs) s = ap (λ es. events_of x ++ es) (events_more xs s) ∙ sym (append_assoc (events_of x) (events xs) (events_of s))
