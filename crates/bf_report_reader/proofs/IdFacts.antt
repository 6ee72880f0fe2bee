-- Ids in a set, and as texts.
use Rattle.std.proofs.Common.{◌≡◌, ℕ, List, [], ◌∷◌, ◌++◌, false, ◌||◌, cond, String, Global, string_bytes, refl, ap, ◌∙◌}
use Rattle.std.specs.List.{list_any}
use Rattle.std.specs.Str.{bytes_eq}
use Rattle.std.specs.String.{string_eq}
use Rattle.std.proofs.lemmas.List.{map-append}
use Rattle.indexmap.specs.IndexSet.{insert_key}
use Rattle.bf_graph.specs.Shape.{texts}
use Rattle.bf_read.proofs.DistinctLemmas.{bytes_eq_sym}

-- an id is among the texts where its bytes are those of one
pub any_text : (id : List ℕ) (ks : List (String Global)) → list_any (λ k. bytes_eq id (string_bytes k)) ks ≡ list_any (λ task. bytes_eq task id) (texts ks)
any_text id [] = refl
any_text id (k ∷ ks) =
    ap (λ b. b || list_any (λ k. bytes_eq id (string_bytes k)) ks) (bytes_eq_sym id (string_bytes k))
    ∙ ap (λ b. bytes_eq (string_bytes k) id || b) (any_text id ks)

-- an id that isn't among the texts goes behind them
pub one_more : (ks new : List (String Global)) (key : String Global) (id : List ℕ) → string_bytes key ≡ id → list_any (λ task. bytes_eq task id) (texts ks) ≡ false
    → new ≡ insert_key string_eq ks key → texts new ≡ texts ks ++ id ∷ []
one_more ks new key id same absent e =
    let none : list_any (string_eq key) ks ≡ false =
    any_text (string_bytes key) ks ∙ ap (λ text. list_any (λ task. bytes_eq task text) (texts ks)) same ∙ absent in
    ap texts e ∙ ap (λ b. texts (cond b ks (ks ++ key ∷ []))) none ∙ map-append string_bytes ks (key ∷ []) ∙ ap (λ text. texts ks ++ text ∷ []) same
