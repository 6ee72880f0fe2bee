-- The page that shows a report.
use Rattle.std.specs.Prelude.{◌≡◌, ◌≤◌, ℕ, ◌%◌, ◌^◌, List, [], ◌∷◌, Option, length, map, take}
use Rattle.std.specs.List.{concat}
use Rattle.bf_device.specs.Device.{sent}
use Rattle.bf_texts.specs.declared.page.TheConstants as fixed
use Rattle.bf_texts.specs.declared.page.document.TheConstants as document
use Rattle.bf_page.specs.declared.page.PageTexts.{PageTexts}
use Rattle.bf_page.specs.Safe.{safe}

-- what follows the last text: the script and the end of the page, which are in parts
abbrev pub behind_times : List ℕ
behind_times = concat (map (λ text. text.now) fixed.BEHIND_TIMES)

-- eight fixed pieces, and between them seven texts
abbrev pub page_text : PageTexts → List ℕ
page_text texts = concat
    (document.TO_GRAPH_PATH.now ∷ safe texts.graph_path.now
    ∷ fixed.TO_REPORT_PATH.now ∷ safe texts.report_path.now
    ∷ fixed.TO_ZONE_PATH.now ∷ safe texts.zone_path.now
    ∷ fixed.TO_CELLS.now ∷ safe texts.cells.now
    ∷ fixed.TO_GRAPH.now ∷ safe texts.graph.now
    ∷ fixed.TO_REPORT.now ∷ safe texts.report.now
    ∷ fixed.TO_TIMES.now ∷ safe texts.times.now
    ∷ behind_times ∷ [])

-- the pieces that are fixed
abbrev pub fixed_text : List ℕ
fixed_text = concat
    (document.TO_GRAPH_PATH.now ∷ fixed.TO_REPORT_PATH.now ∷ fixed.TO_ZONE_PATH.now
    ∷ fixed.TO_CELLS.now
    ∷ fixed.TO_GRAPH.now ∷ fixed.TO_REPORT.now ∷ fixed.TO_TIMES.now ∷ behind_times ∷ [])

-- two pages tell the same
abbrev pub TellTheSame : PageTexts → PageTexts → Type 0
TellTheSame one two =
    (one.graph_path.now ≡ two.graph_path.now) × (one.report_path.now ≡ two.report_path.now)
    × (one.zone_path.now ≡ two.zone_path.now) × (one.cells.now ≡ two.cells.now)
    × (one.graph.now ≡ two.graph.now) × (one.report.now ≡ two.report.now)
    × (one.times.now ≡ two.times.now)

-- just the first n bytes of the text went out behind what had gone out before, and a counter of 64 bits says n
abbrev pub EndsAt : ℕ → List ℕ → Option (List ℕ) → Option (List ℕ) → Type 0
EndsAt counted text before after =
    (n : ℕ) × (n ≤ length text) × (counted ≡ n % 2 ^ 64) × (after ≡ sent before (take n text))
