-- Reasons without what the instances are given.
use Rattle.std.specs.Prelude.{ℕ, zero, suc, ◌==◌, ◌&&◌, not, Bool, true, false, if◌then◌else◌, length, map, Option, None, Some}
use Rattle.bf_core.specs.Terms.{Items, TaskValue}
use Rattle.bf_mapped.specs.declared.source.SourceValues.{SourceValues}
use Rattle.bf_xcom.specs.Pulls.{pushed_value_of, only_pushed_value_in}
use Rattle.bf_core.specs.Deciding.{lets_pass_in}
use Rattle.bf_reason.specs.declared.cause.StateCause.{StateCause}

-- how many items there are, unless they are missing
abbrev pub item_count : Items → Option ℕ
item_count Items.Missing = None
item_count (Items.List items) = Some (length items)

-- what a source that is expanded, or isn't, has by its value
abbrev pub values_given : Bool → TaskValue → SourceValues
values_given each (TaskValue.Ran results) =
    if each then SourceValues.Each (map pushed_value_of results)
    else SourceValues.Pushed (only_pushed_value_in results)
values_given each value = SourceValues.Absent

abbrev pub cause_by_count : Option ℕ → StateCause
cause_by_count None = StateCause.ItemsAreMissing
cause_by_count (Some zero) = StateCause.HasNoItems
cause_by_count (Some (suc count)) = StateCause.Runs (suc count)

-- the past, where it is asked, lets the task go on
abbrev pub passed : Option TaskValue → Bool
passed None = false
passed (Some value) = lets_pass_in value

abbrev pub past_lets_go_on_of : Bool → ℕ → Option TaskValue → Bool
past_lets_go_on_of depends run before = if depends && not (run == 0) then passed before else true

-- it runs as so many instances
abbrev pub runs_with_count_in : StateCause → ℕ → Bool
runs_with_count_in (StateCause.Runs instances) count = count == instances
runs_with_count_in cause count = false
