-- Lines of JSON, read back.
use Rattle.std.proofs.Common.{◌≡◌, ℕ, ◌<◌, ◌≤◌, ◌^◌, pos, negsuc, List, [], ◌∷◌, Option, Some, None, sym, ap, ◌∙◌, arith}
use Rattle.json.specs.Json.{document, max_depth}
use Rattle.json.specs.Tree.{depth, HasNumbers, ItemsHaveNumbers, MembersHaveNumbers}
use Rattle.json.proofs.Printed.Decimals.{IsNumber-decimal, IsNumber-signed_decimal}
use Rattle.json.proofs.Printed.Trees.{document-print}
use Rattle.serde_json.specs.Data.{Data, Members, object, unsigned}
use Rattle.serde_json.specs.Written.{compact_text, outline, items_outline, members_outline}
use Rattle.serde_json.proofs.Texts.{print-outline}
use Rattle.bf_value.specs.declared.xval.Xval.{Xval}
use Rattle.bf_value.specs.Plain.{Plain, flag, int, text, list, nil, Plains, none, more, IsSound, AreSound}
use Rattle.bf_value.specs.Json.{data_of, data_items}
use Rattle.bf_value.proofs.LineLemmas.{small, small_negative}
use Rattle.bf_xcom.specs.Pulls.{pushed_by}
use Rattle.bf_xcom.specs.declared.values.Outcome.{Outcome}
use Rattle.bf_xcom.specs.declared.values.Outcome.TheVariants.{Success, Failed, Skipped}
use Rattle.bf_report.specs.declared.report.Pull.{Pull}
use Rattle.bf_report.specs.declared.report.InstanceReport.{InstanceReport}
use Rattle.bf_report.specs.declared.report.RunReport.{RunReport}
use Rattle.bf_report.specs.Values.{IsSoundValue, IsSoundOutcome, AreSoundPulls, IsSoundInstance}
use Rattle.bf_show.specs.JsonLines.{value_members, pulled_data, pull_members, pulls_members, ended_members, instance_members, untried_members}

-- what is written without a float is read back
read_back : (d : Data) → HasNumbers (outline d) → depth (outline d) ≤ max_depth → document (compact_text d) ≡ Some (outline d)
read_back d numbers shallow = ap document (sym (print-outline d)) ∙ document-print (outline d) numbers shallow

mutual
  of_value : (p : Plain) → IsSound p → HasNumbers (outline (data_of p))
  of_value (flag b) s = tt
  of_value (int (pos k)) s = IsNumber-decimal k (omega (arith, small k s))
  of_value (int (negsuc k)) s = IsNumber-signed_decimal (negsuc k) (omega (arith, small_negative k s))
  of_value (text t) s = tt
  of_value (list ps) s = of_items ps s
  of_value nil s = tt

  of_items : (ps : Plains) → AreSound ps → ItemsHaveNumbers (items_outline (data_items ps))
  of_items none s = tt
  of_items (more p ps) s = (of_value p s.0, of_items ps s.1)

abbrev Numbers : Members → Type 0
Numbers ms = MembersHaveNumbers (members_outline ms)

of_given : (name : List ℕ) (value : Option Xval) (ms : Members) → IsSoundValue value → Numbers ms → Numbers (value_members name value ms)
of_given name None ms s h = h
of_given name (Some value) ms s h = (of_value _ s, h)

of_pulled : (value : Option Xval) → IsSoundValue value → HasNumbers (outline (pulled_data value))
of_pulled None s = tt
of_pulled (Some value) s = of_value _ s

of_pull_members : (pulls : List Pull) → AreSoundPulls pulls → Numbers (pull_members pulls)
of_pull_members [] s = tt
of_pull_members (pull ∷ pulls) s = (of_pulled pull.value s.0, of_pull_members pulls s.1)

of_pulls : (pulls : List Pull) → AreSoundPulls pulls → Numbers (pulls_members pulls)
of_pulls [] s = tt
of_pulls (pull ∷ pulls) s = (of_pull_members (pull ∷ pulls) s, tt)

of_pushed : (outcome : Outcome) → IsSoundOutcome outcome → IsSoundValue (pushed_by outcome)
of_pushed (Success value) s = s
of_pushed Failed s = tt
of_pushed Skipped s = tt

of_ended : (instance : InstanceReport) → instance.result.tries < 2 ^ 64 → IsSoundInstance instance → Numbers (ended_members instance)
of_ended instance few s =
    (tt, (IsNumber-decimal instance.result.tries few, of_given _ (pushed_by instance.result.outcome) _ (of_pushed instance.result.outcome s.outcome) (of_given _ instance.item _ s.item (of_pulls instance.pulls s.pulls))))

pub instance_read : (run : RunReport) (id : List ℕ) (index : ℕ) (instance : InstanceReport) → index < 2 ^ 64 → instance.result.tries < 2 ^ 64 → IsSoundInstance instance →
    depth (outline (object (instance_members run id (unsigned index) instance))) ≤ max_depth →
    document (compact_text (object (instance_members run id (unsigned index) instance))) ≡ Some (outline (object (instance_members run id (unsigned index) instance)))
instance_read run id index instance low few s shallow =
    read_back (object (instance_members run id (unsigned index) instance)) (tt, (tt, (tt, (tt, (IsNumber-decimal index low, of_ended instance few s))))) shallow

pub untried_read : (run : RunReport) (id state : List ℕ) → document (compact_text (object (untried_members run id state))) ≡ Some (outline (object (untried_members run id state)))
untried_read run id state =
    read_back (object (untried_members run id state))
    (tt, (tt, (tt, (tt, (IsNumber-signed_decimal (negsuc 0) (omega arith), (tt, (IsNumber-decimal 0 (omega arith), tt)))))))
    (omega arith)
