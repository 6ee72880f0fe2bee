use Rattle.std.proofs.Common.{◌≡◌, ◌++◌, drop, string_bytes, true}
use Rattle.serde_json.specs.Written.{members_text}
use Rattle.bf_show.specs.JsonLines.{pull_members}
use Rattle.bf_show.proofs.members.push_further.Given as goal

abbrev pub invariant-loop-pull : goal.invariant-loop-pull
invariant-loop-pull l = string_bytes l.text ++ members_text true (pull_members (drop l.pull-index l.pulls)) ≡ string_bytes l.fn.text ++ members_text true (pull_members l.pulls)
