-- The latest reading, by its place.
use Rattle.std.proofs.Common.{◌≡◌, ℕ, List, Some, None, Option}
use Rattle.std.specs.Option.{option_map}
use Rattle.model.specs.declared.reading.Reading.{Reading}
use Rattle.model.specs.Recording.{latest}
use Rattle.model.specs.Serving.{at}
use Rattle.model.proofs.Latest.{latest_none, latest_last}
use Rattle.roll.specs.Lent.{LatestAt}

pub latest_at : (rs : List Reading) (i : ℕ) (o : Option ℕ) → LatestAt rs i o → latest rs i ≡ option_map (at rs) o
latest_at rs i None h = latest_none rs i h
latest_at rs i (Some k) h = latest_last rs i k h
