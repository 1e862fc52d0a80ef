-- What lent places hold, and which of them keep it.
use Rattle.std.specs.Prelude.{◌≡◌, ℕ, ◌+◌, ◌<◌, List, length, take, drop, Some, None, Option, slice_index}
use Rattle.model.specs.declared.reading.Reading.{Reading}
use Rattle.model.specs.Recording.{beyond}
use Rattle.model.specs.Recorded.{Bare, Last}
use Rattle.roll.specs.declared.places.Places.{Places}

-- the readings that stand
abbrev pub recorded : Places → List Reading
recorded p = take p.used p.all.now

-- the places that are unused afterwards keep what they held, and there are as many places as before
pub record Unused (before after : Places) : Type 0 where
  pub many : length after.all.now ≡ length before.all.now
  pub kept : drop after.used after.all.now ≡ drop after.used before.all.now

-- the same places stay lent, and those unused afterwards keep what they held
pub record Kept (before after : Places) : Type 0 where
  pub same : after.all.ghost_name ≡ before.all.ghost_name
  pub unused : Unused before after

-- the latest of the parameter stands at place k, or there is none
abbrev pub LatestAt : List Reading → ℕ → Option ℕ → Type 0
LatestAt rs i None = Bare rs i 0 (length rs)
LatestAt rs i (Some k) = Last rs i k

-- for each of the eight parameters the first position beyond its last one
abbrev pub Nexts : List ℕ → List Reading → Type 0
Nexts next rs = (length next ≡ 8) × ((i : ℕ) → i < 8 → slice_index next i ≡ beyond rs (i + 1))
