-- Digits and names, one more at a time.
use Rattle.std.proofs.Common.{◌≡◌, ℕ, ◌+◌, ◌-◌, ◌<◌, ◌%◌, ◌==◌, ◌&&◌, not, if◌then◌else◌, List, [], ◌∷◌, ◌++◌, codes, length, drop, get_or, sym, ap, ap₂, ◌∙◌, append-nil, arith}
use Rattle.std.proofs.lemmas.Bool.{ne_eqb}
use Rattle.std.proofs.Math.ListN.{length-drop}
use Rattle.std.proofs.lemmas.List.{drop_more}
use Rattle.bf_wording.specs.Lists.{behind_first}
use Rattle.bf_wording.specs.Numbers.{with_commas}

left_behind : {X : Type 0} (xs : List X) (i : ℕ) → i < length xs → length (drop (i + 1) xs) ≡ length xs - i - 1
left_behind xs i low = omega (arith, length-drop (i + 1) xs)

-- what a digit adds
pub digit_more : (digits : List ℕ) (index digit : ℕ) → index < length digits → digit ≡ get_or digits index digit →
    with_commas (drop index digits)
    ≡ (if (length digits - index - 1) % 3 == 0 && not (length digits - index - 1 == 0) then digit ∷ 44 ∷ with_commas (drop (index + 1) digits) else digit ∷ with_commas (drop (index + 1) digits))
digit_more digits index digit low is =
    let rest = drop (index + 1) digits in
    ap with_commas (drop_more digits index digit low)
    ∙ ap₂ (λ n x. if n % 3 == 0 && not (n == 0) then x ∷ 44 ∷ with_commas rest else x ∷ with_commas rest) (left_behind digits index low) (sym is)

name_first : (name : List ℕ) (rest : List (List ℕ)) → behind_first (name ∷ rest) ≡ (if length rest == 0 then codes " and " else codes ", ") ++ (name ++ behind_first rest)
name_first name [] = ap (λ n. codes " and " ++ n) (sym (append-nil name))
name_first name (next ∷ rest) =
    ap (λ b. (if b then codes " and " else codes ", ") ++ (name ++ behind_first (next ∷ rest))) (sym (ne_eqb (length (next ∷ rest)) 0 (omega arith)))

-- what a name adds
pub name_more : (names : List (List ℕ)) (place : ℕ) (name : List ℕ) → place < length names → name ≡ get_or names place name →
    behind_first (drop place names) ≡ (if length names - place - 1 == 0 then codes " and " else codes ", ") ++ (name ++ behind_first (drop (place + 1) names))
name_more names place name low is =
    let rest = drop (place + 1) names in
    ap behind_first (drop_more names place name low) ∙ name_first (get_or names place name) rest
    ∙ ap₂ (λ n x. (if n == 0 then codes " and " else codes ", ") ++ (x ++ behind_first rest)) (left_behind names place low) (sym is)
