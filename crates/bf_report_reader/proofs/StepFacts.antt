-- What comes of a line.
use Rattle.std.proofs.Common.{◌≡◌, ℕ, List, [], ◌∷◌, ◌++◌, length, Option, Some, codes, sym, ap, ◌∙◌, append_assoc, append-nil, length-append, inl, inr}
use Rattle.std.specs.Io.KnownBytes.{Consumes}
use Rattle.bf_report.specs.declared.report.Version.{Version}
use Rattle.bf_report.specs.declared.report.RunReport.{RunReport}
use Rattle.bf_report.specs.Report.{run_line}
use Rattle.bf_report_reader.specs.declared.entry.Entry.{Entry}
use Rattle.bf_report_reader.specs.declared.part.GivenPart.{GivenPart}
use Rattle.bf_report_reader.specs.declared.beginning.ReportSoFar.{ReportSoFar}
use Rattle.bf_report_reader.specs.inner.Entries.{IsEntry, entry_text}
use Rattle.bf_report_reader.specs.inner.Parts.{IsPart, part_text}
use Rattle.bf_report_reader.specs.Runs.{IsRunInterval}
use Rattle.bf_report_reader.specs.inner.Runs.{run_words}
use Rattle.bf_report_reader.specs.inner.Rules.{KeepsRules}
use Rattle.bf_report_reader.specs.Beginning.{with_entry}
use Rattle.bf_report_reader.specs.inner.Beginning.{opening_text, runs_of, run_count_of, last_run, so_far, with_run, with_part}
use Rattle.bf_report_reader.specs.inner.Extensions.{head_words, start}
use Rattle.bf_report_reader.specs.inner.Steps.{Follows, IsNext, ReadsOn}
use Rattle.bf_report_reader.proofs.Growth.{entry_line, entry_grows, run_grows, part_line, part_grows}
use Rattle.bf_report_reader.proofs.Ruled.{entry_ruled, run_ruled, part_ruled}
use Rattle.bf_report_reader.proofs.Rooms.{entry_room, run_room, part_room}
use Rattle.bf_report_reader.proofs.HeldFacts.{consumes_more}

pub entry_next : (b c : ReportSoFar) (id line : List ℕ) (e : Entry) → KeepsRules b → IsEntry e → line ≡ id ++ 32 ∷ entry_text e → with_entry b id e ≡ Some c → IsNext b line c
entry_next b c id line e keeps good spelled added =
    let grows = entry_grows b c id e keeps.counted added in
    let (few, less) = entry_room b c id e keeps.counted keeps.small good added in
    let same : entry_line id e ≡ line ++ 10 ∷ [] = ap (λ l. l ++ 10 ∷ []) (sym spelled) in
    record {
      kept = record { counted = grows.counted; small = few; ruled = entry_ruled b c id e good keeps.ruled added };
      shrinks = less;
      follows = inl (record { id = id; entry = e; good = good; spelled = spelled; added = added });
      read = grows.read ∙ ap (λ l. opening_text (so_far b) ++ l) same;
    }

pub run_next : (b c : ReportSoFar) (line : List ℕ) (run : RunReport) → run.tasks ≡ [] → IsRunInterval run.interval → KeepsRules b → line ≡ codes "@run" ++ 32 ∷ run_words (run.interval, run.state)
    → with_run b run ≡ Some c → IsNext b line c
run_next b c line run bare good keeps spelled added =
    let grows = run_grows b c run bare keeps.counted added in
    let (few, less) = run_room b c run bare keeps.small added in
    let same : run_line run ≡ line ++ 10 ∷ [] = ap (λ l. l ++ 10 ∷ []) (sym spelled) in
    record {
      kept = record { counted = grows.counted; small = few; ruled = run_ruled b c run bare good keeps.counted keeps.ruled added };
      shrinks = less;
      follows = inr (inl (record { run = run; bare = bare; good = good; spelled = spelled; added = added }));
      read = grows.read ∙ ap (λ l. opening_text (so_far b) ++ l) same;
    }

pub part_next : (b c : ReportSoFar) (line : List ℕ) (part : GivenPart) → KeepsRules b → IsPart part → line ≡ part_text part → with_part b part ≡ Some c → IsNext b line c
part_next b c line part keeps good spelled added =
    let grows = part_grows b c part keeps.counted keeps.ruled added in
    let (few, less) = part_room b c part keeps.small added in
    let same : part_line part ≡ line ++ 10 ∷ [] = ap (λ l. l ++ 10 ∷ []) (sym spelled) in
    record {
      kept = record { counted = grows.counted; small = few; ruled = part_ruled b c part good keeps.ruled added };
      shrinks = less;
      follows = inr (inr (record { part = part; good = good; spelled = spelled; added = added }));
      read = grows.read ∙ ap (λ l. opening_text (so_far b) ++ l) same;
    }

pub follows_next : (b c : ReportSoFar) (line : List ℕ) → KeepsRules b → Follows b line c → IsNext b line c
follows_next b c line keeps (inl one) = entry_next b c one.id line one.entry keeps one.good one.spelled one.added
follows_next b c line keeps (inr (inl one)) = run_next b c line one.run one.bare one.good keeps one.spelled one.added
follows_next b c line keeps (inr (inr one)) = part_next b c line one.part keeps one.good one.spelled one.added

pub counted_runs : (b : ReportSoFar) → length (runs_of b) ≡ run_count_of b
counted_runs b = length-append b.runs (last_run b.run)

-- ---- bytes that come line by line

pub reads_more : (a b c : Option (List ℕ)) (before mid after line : List ℕ) → ReadsOn a b before mid → Consumes b c line → after ≡ mid ++ line → ReadsOn a c before after
reads_more a b c before mid after line (text, came, is) next e =
    (text ++ line, consumes_more a b c text line came next, e ∙ ap (λ t. t ++ line) is ∙ append_assoc before text line)

pub head_opens : (b : ReportSoFar) (head : Version × List ℕ) (text : List ℕ) → b ≡ start head → text ≡ head_words head → opening_text (so_far b) ≡ text ++ 10 ∷ []
head_opens b head text is said = ap (λ (x : ReportSoFar). opening_text (so_far x)) is ∙ append-nil (head_words head ++ 10 ∷ []) ∙ ap (λ l. l ++ 10 ∷ []) (sym said)
