-- The first positions beyond the last ones, as the readings of one parameter change.
use Rattle.std.proofs.Common.{◌≡◌, ℕ, ◌+◌, ◌≤◌, List, [], ◌∷◌, ◌++◌, get_or, take, set, sym, refl, ap, ◌∙◌, inl, inr, arith, length-set}
use Rattle.std.proofs.lemmas.List.{append-nil, get_or-set_same, get_or-set_other}
use Rattle.std.proofs.lemmas.Bool.{cases_eq}
use Rattle.std.specs.List.{remove}
use Rattle.model.specs.declared.reading.Reading.{Reading}
use Rattle.model.specs.Recorded.{Last}
use Rattle.model.specs.Recording.{past, beyond}
use Rattle.model.proofs.Latest.{latest_own, latest_other, latest_kept, latest_before}
use Rattle.roll.specs.Lent.{Nexts}

nexts_set : (next : List ℕ) (rs ss : List Reading) (p k v : ℕ) → (k + 1 ≡ p) × (p ≤ 8) → Nexts next rs → v ≡ beyond ss p →
    ((i : ℕ) → (p ≡ i → ⊥) → beyond ss i ≡ beyond rs i) → Nexts (set next k v) ss
nexts_set next rs ss p k v b h own other = (
  length-set next k v ∙ h.0,
  λ i l. elim (cases_eq i k) [
    | inl e ↦ (let z : p ≡ i + 1 = omega (arith, b.0) in
        ap (λ x. get_or (set next k v) x 0) e ∙ get_or-set_same next k v 0 (omega (arith, h.0, b.0)) ∙ own ∙ ap (beyond ss) z)
    | inr e ↦ (let ne : i ≡ k → ⊥ = e in
        get_or-set_other next k i v 0 ne ∙ h.1 i l ∙ sym (other (i + 1) (λ q. ne (omega (arith, b.0)))))
  ],
)

pub nexts_push : (next : List ℕ) (rs : List Reading) (r : Reading) (k : ℕ) → (k + 1 ≡ r.parameter) × (r.parameter ≤ 8) → Nexts next rs →
    Nexts (set next k (r.position + 1)) (rs ++ r ∷ [])
nexts_push next rs r k b h =
    nexts_set next rs (rs ++ r ∷ []) r.parameter k (r.position + 1) b h
    (sym (ap past (latest_own rs r r.parameter refl)))
    (λ i ne. ap past (latest_other rs r [] i ne) ∙ ap (λ xs. beyond xs i) (append-nil rs))

pub nexts_removed : (next : List ℕ) (rs : List Reading) (p k l : ℕ) → (k + 1 ≡ p) × (p ≤ 8) → Nexts next rs → Last rs p l →
    Nexts (set next k (beyond (take l rs) p)) (remove rs l)
nexts_removed next rs p k l b h last =
    nexts_set next rs (remove rs l) p k (beyond (take l rs) p) b h
    (sym (ap past (latest_before rs p l last)))
    (λ i ne. ap past (latest_kept rs l i last.within (λ q. ne (sym last.own ∙ q))))
