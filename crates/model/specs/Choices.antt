-- Choices of ends.
use Rattle.std.specs.Prelude.{◌≡◌, ℕ, ◌+◌, ◌≤◌, true, List, [], ◌∷◌, length}
use Rattle.model.specs.Log.{Log}
use Rattle.model.specs.Sheets.{good}

-- how far apart neighbouring ends lie at least: two sheets may share a line
abbrev pub spacing : Log → ℕ
spacing log = log.roll.sheet

-- ends of good sheets, the first at `from` or later, each other at least the spacing past the one before
abbrev pub From : Log → ℕ → List ℕ → Type 0
From log from [] = Unit {0}
From log from (p ∷ ps) = (from ≤ p) × (good log p ≡ true) × From log (p + spacing log) ps

-- a rising list, perhaps empty, of ends of good sheets with neighbours at least the spacing apart
abbrev pub Choice : Log → List ℕ → Type 0
Choice log ps = From log 0 ps

-- some choice has n ends, and none has more
pub record Greatest (log : Log) (n : ℕ) : Type 0 where
  pub some : (ps : List ℕ) × Choice log ps × (length ps ≡ n)
  pub most : (ps : List ℕ) → Choice log ps → length ps ≤ n
