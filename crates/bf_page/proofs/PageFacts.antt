-- A page in its pieces.
use Rattle.std.proofs.Common.{◌≡◌, ℕ, List, [], ◌∷◌, ◌++◌, append_assoc}
use Rattle.std.specs.List.{concat, filter}
use Rattle.std.proofs.lemmas.List.{append-nil, append_cancel_left}
use Rattle.std.proofs.lemmas.List.Elements.{filter-append}
use Rattle.bf_page.specs.Safe.{safe, is_tag}
use Rattle.bf_page.proofs.SafeFacts.{no_tags, read_off}

in_a_row : (f0 t0 f1 t1 f2 t2 f3 t3 f4 t4 f5 t5 f6 t6 last : List ℕ) → ((f0 ++ safe t0) ++ ((f1 ++ safe t1) ++ ((f2 ++ safe t2) ++ ((f3 ++ safe t3) ++ ((f4 ++ safe t4) ++ ((f5 ++ safe t5) ++ ((f6 ++ safe t6) ++ []))))))) ++ last ≡ concat (f0 ∷ safe t0 ∷ f1 ∷ safe t1 ∷ f2 ∷ safe t2 ∷ f3 ∷ safe t3 ∷ f4 ∷ safe t4 ∷ f5 ∷ safe t5 ∷ f6 ∷ safe t6 ∷ last ∷ [])
in_a_row f0 t0 f1 t1 f2 t2 f3 t3 f4 t4 f5 t5 f6 t6 last = simp (append_assoc, append-nil)

-- seven pieces and the last texts, each told text the same as one of these
pub pieces_in_a_row : (f0 f1 f2 f3 f4 f5 f6 last t4 t5 : List ℕ) {t0 t1 t2 t3 t6 u0 u1 u2 u3 u6 : List ℕ} → u0 ≡ t0 → u1 ≡ t1 → u2 ≡ t2 → u3 ≡ t3 → u6 ≡ t6 →
    ((f0 ++ safe u0) ++ ((f1 ++ safe u1) ++ ((f2 ++ safe u2) ++ ((f3 ++ safe u3) ++ ((f4 ++ safe t4) ++ ((f5 ++ safe t5) ++ ((f6 ++ safe u6) ++ []))))))) ++ last ≡ concat (f0 ∷ safe t0 ∷ f1 ∷ safe t1 ∷ f2 ∷ safe t2 ∷ f3 ∷ safe t3 ∷ f4 ∷ safe t4 ∷ f5 ∷ safe t5 ∷ f6 ∷ safe t6 ∷ last ∷ [])
pieces_in_a_row f0 f1 f2 f3 f4 f5 f6 last t4 t5 {t0} {t1} {t2} {t3} {t6} e0 e1 e2 e3 e6 =
    rw (e0, e1, e2, e3, e6) (in_a_row f0 t0 f1 t1 f2 t2 f3 t3 f4 t4 f5 t5 f6 t6 last)

pub tags_in_a_row : (f0 t0 f1 t1 f2 t2 f3 t3 f4 t4 f5 t5 f6 t6 f7 : List ℕ) → filter is_tag (concat (f0 ∷ safe t0 ∷ f1 ∷ safe t1 ∷ f2 ∷ safe t2 ∷ f3 ∷ safe t3 ∷ f4 ∷ safe t4 ∷ f5 ∷ safe t5 ∷ f6 ∷ safe t6 ∷ f7 ∷ [])) ≡ filter is_tag (concat (f0 ∷ f1 ∷ f2 ∷ f3 ∷ f4 ∷ f5 ∷ f6 ∷ f7 ∷ []))
tags_in_a_row f0 t0 f1 t1 f2 t2 f3 t3 f4 t4 f5 t5 f6 t6 f7 = simp (filter-append is_tag, no_tags)

-- where each fixed piece but the first begins a tag, the texts are read off
pub texts_in_a_row : (f0 g1 g2 g3 g4 g5 g6 g7 t0 t1 t2 t3 t4 t5 t6 u0 u1 u2 u3 u4 u5 u6 : List ℕ) →
    concat (f0 ∷ safe t0 ∷ (60 ∷ g1) ∷ safe t1 ∷ (60 ∷ g2) ∷ safe t2 ∷ (60 ∷ g3) ∷ safe t3 ∷ (60 ∷ g4) ∷ safe t4 ∷ (60 ∷ g5) ∷ safe t5 ∷ (60 ∷ g6) ∷ safe t6 ∷ (60 ∷ g7) ∷ [])
    ≡ concat (f0 ∷ safe u0 ∷ (60 ∷ g1) ∷ safe u1 ∷ (60 ∷ g2) ∷ safe u2 ∷ (60 ∷ g3) ∷ safe u3 ∷ (60 ∷ g4) ∷ safe u4 ∷ (60 ∷ g5) ∷ safe u5 ∷ (60 ∷ g6) ∷ safe u6 ∷ (60 ∷ g7) ∷ []) →
    (t0 ≡ u0) × (t1 ≡ u1) × (t2 ≡ u2) × (t3 ≡ u3) × (t4 ≡ u4) × (t5 ≡ u5) × (t6 ≡ u6)
texts_in_a_row f0 g1 g2 g3 g4 g5 g6 g7 t0 t1 t2 t3 t4 t5 t6 u0 u1 u2 u3 u4 u5 u6 e =
    let (s0, e0) = read_off t0 u0 g1 _ _ (append_cancel_left f0 _ _ e) in
    let (s1, e1) = read_off t1 u1 g2 _ _ e0 in
    let (s2, e2) = read_off t2 u2 g3 _ _ e1 in
    let (s3, e3) = read_off t3 u3 g4 _ _ e2 in
    let (s4, e4) = read_off t4 u4 g5 _ _ e3 in
    let (s5, e5) = read_off t5 u5 g6 _ _ e4 in
    let (s6, _) = read_off t6 u6 g7 _ _ e5 in
    (s0, s1, s2, s3, s4, s5, s6)
