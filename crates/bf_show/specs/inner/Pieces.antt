-- Lines of JSON, as they are put together.
use Rattle.std.specs.Prelude.{ℕ, true, List, [], ◌∷◌, ◌++◌}
use Rattle.serde_json.specs.Data.{Members}
use Rattle.serde_json.specs.Written.{members_text}

-- further members, the bracket and the line feed
unfoldable pub line_end : Members → List ℕ
line_end members = members_text true members ++ 10 ∷ []
