-- Branches: which direct downstreams a branch's value follows.
use Rattle.std.specs.Prelude.{◌≡◌, ◌⊎◌, ℕ, zero, suc, ◌==◌, ◌&&◌, ◌||◌, Bool, true, false, List, [], ◌∷◌, length, Option, None, Some, position, slice_index_or}
use Rattle.std.specs.List.{list_any, list_all, filter_map}
use Rattle.std.specs.Str.{bytes_eq}
use Rattle.bf_value.specs.declared.xval.Xval.{Xval}
use Rattle.bf_value.specs.declared.xval.Xval.TheVariants.{Text, List as ListOf}
use Rattle.bf_value.specs.Views.{xvals_of}
use Rattle.bf_graph.specs.Shape.{Shape}
use Rattle.bf_graph.specs.Edges.{upstreams_of}
use Rattle.bf_graph.specs.Reach.{Reaches}

abbrev pub name_in : Xval → Option (List ℕ)
name_in (Text name) = Some name
name_in _ = None

-- the names that a branch's value gives: one text or a list of texts; any other value names nothing
abbrev pub names_in : Option Xval → List (List ℕ)
names_in (Some (Text name)) = name ∷ []
names_in (Some (ListOf values)) = filter_map name_in (xvals_of values)
names_in _ = []

abbrev pub id_of : Shape → ℕ → List ℕ
id_of shape task = slice_index_or shape.ids task []

abbrev pub is_direct_downstream_in : Shape → ℕ → ℕ → Bool
is_direct_downstream_in shape branch task =
    list_any (λ upstream. upstream == branch) (upstreams_of shape.upstreams task)

-- the task is a direct downstream of the branch, and its id is among the names
abbrev pub is_named : Shape → ℕ → Option Xval → ℕ → Bool
is_named shape branch value task =
    is_direct_downstream_in shape branch task
    && list_any (λ name. bytes_eq name (id_of shape task)) (names_in value)

-- the task is named, or one of its upstreams is followed; over paths of at most `depth` edges
abbrev pub followed_to : Shape → ℕ → Option Xval → ℕ → ℕ → Bool
followed_to shape branch value zero task = is_named shape branch value task
followed_to shape branch value (suc depth) task =
    is_named shape branch value task
    || list_any (followed_to shape branch value depth) (upstreams_of shape.upstreams task)

-- a direct downstream of a branch is followed: it is named, or is a descendant of one that is
unfoldable pub followed_at : Shape → ℕ → Option Xval → ℕ → Bool
followed_at shape branch value task = followed_to shape branch value (length shape.ids) task

-- the value names the task, or one that reaches it
abbrev pub IsNamedOrReached : Shape → ℕ → Option Xval → ℕ → Type 0
IsNamedOrReached shape branch value task =
    (named : ℕ) × (is_named shape branch value named ≡ true)
    × ((named ≡ task) ⊎ Reaches shape.upstreams named task)

-- ---- what a branch may push

abbrev pub is_downstream_number : Shape → ℕ → Option ℕ → Bool
is_downstream_number shape branch None = false
is_downstream_number shape branch (Some task) = is_direct_downstream_in shape branch task

-- the id of a direct downstream of the branch
abbrev pub is_downstream_name_in : Shape → ℕ → Option (List ℕ) → Bool
is_downstream_name_in shape branch None = false
is_downstream_name_in shape branch (Some name) =
    is_downstream_number shape branch (position (bytes_eq name) shape.ids)

-- a branch may push nothing, the id of a direct downstream, or a list of such ids
abbrev pub names_downstreams_in : Shape → ℕ → Option Xval → Bool
names_downstreams_in shape branch None = true
names_downstreams_in shape branch (Some (Text name)) =
    is_downstream_name_in shape branch (Some name)
names_downstreams_in shape branch (Some (ListOf values)) =
    list_all (λ value. is_downstream_name_in shape branch (name_in value)) (xvals_of values)
names_downstreams_in shape branch (Some _) = false
