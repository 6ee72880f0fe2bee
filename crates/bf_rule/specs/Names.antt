-- Trigger rules by their names.
use Rattle.std.specs.Prelude.{ℕ, List, codes, if◌then◌else◌, Option, None, Some}
use Rattle.std.specs.Str.{bytes_eq}
use Rattle.bf_rule.specs.declared.rule.Rule.{Rule}
use Rattle.bf_rule.specs.declared.rule.Rule.TheVariants.{AllSuccess, AllFailed, AllSkipped, AllDone, OneSuccess, OneFailed, OneDone, NoneFailed, NoneFailedMinOneSuccess, NoneSkipped, Always}

-- the rule of a name; Airflow has eleven
abbrev pub rule_named : List ℕ → Option Rule
rule_named name =
    if bytes_eq name (codes "all_success") then Some AllSuccess
    else (if bytes_eq name (codes "all_failed") then Some AllFailed
    else (if bytes_eq name (codes "all_skipped") then Some AllSkipped
    else (if bytes_eq name (codes "all_done") then Some AllDone
    else (if bytes_eq name (codes "one_success") then Some OneSuccess
    else (if bytes_eq name (codes "one_failed") then Some OneFailed
    else (if bytes_eq name (codes "one_done") then Some OneDone
    else (if bytes_eq name (codes "none_failed") then Some NoneFailed
    else (if bytes_eq name (codes "none_failed_min_one_success") then Some NoneFailedMinOneSuccess
    else (if bytes_eq name (codes "none_skipped") then Some NoneSkipped
    else (if bytes_eq name (codes "always") then Some Always else None))))))))))
