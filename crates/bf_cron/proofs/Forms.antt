-- What is read as an item is written in the form.
use Rattle.std.proofs.Common.{◌≡◌, ℕ, ◌<◌, ◌≤◌, ◌==◌, nat_lt, nat_le, Bool, true, false, cond, List, [], ◌∷◌, ◌++◌, length, get_or, Option, Some, None, refl, ap, ◌∙◌, sym, subst, arith}
use Rattle.std.specs.Str.{bytes_eq}
use Rattle.std.specs.List.{position_or_len, before_first, after_first}
use Rattle.std.proofs.lemmas.Bool.Decides.{nat_tests}
use Rattle.std.proofs.lemmas.List.Sums.{split_at_first, passes_at_first}
use Rattle.std.proofs.lemmas.Slice.Eq.{bytes_eq-Decides}
use Rattle.std.proofs.lemmas.List.{take_all}
use Rattle.bf_cron.specs.declared.field.Field.{Field}
use Rattle.bf_cron.specs.declared.item.Item.{Item}
use Rattle.bf_cron.specs.Cron.{least_of, greatest_of, number_of, step_of, after, item_between, range_of, item_of}
use Rattle.bf_cron.proofs.Decimals.{number_written, step_written}
use Rattle.bf_cron.specs.Grammar.{IsItemText, every, every_nth, one, span, span_nth}

-- a text with no such byte, or cut at the first
abbrev IsCut : ℕ → List ℕ → List ℕ → Option (List ℕ) → Type 0
IsCut c text front None = text ≡ front
IsCut c text front (Some rest) = text ≡ front ++ c ∷ rest

cut_by : (b : Bool) (c : ℕ) (text front rest : List ℕ) → (b ≡ true → text ≡ front ++ c ∷ rest) → (b ≡ false → text ≡ front) → IsCut c text front (cond b (Some rest) None)
cut_by true c text front rest found none_found = found refl
cut_by false c text front rest found none_found = none_found refl

is_cut : (c : ℕ) (text : List ℕ) → IsCut c text (before_first (λ b. b == c) text) (after c text)
is_cut c text =
    let p : ℕ → Bool = λ b. b == c in
    cut_by (nat_lt (position_or_len p text) (length text)) c text (before_first p text) (after_first p text)
    (λ found.
    let small : position_or_len p text < length text = grind (arith, nat_tests) in
    let test = passes_at_first p text 0 small in
    let same : get_or text (position_or_len p text) 0 ≡ c = grind (arith, nat_tests) in
    split_at_first p text 0 small ∙ ap (λ x. before_first p text ++ x ∷ after_first p text) same)
    (λ none_found. let big : length text ≤ position_or_len p text = grind (arith, nat_tests) in sym (take_all (position_or_len p text) text big))

record Between (a b s : Option ℕ) (i : Item) : Type 0 where
  low : ℕ
  high : ℕ
  step : ℕ
  is_low : a ≡ Some low
  is_high : b ≡ Some high
  is_step : s ≡ Some step
  ordered : low ≤ high
  is : i ≡ record { low = low; high = high; step = step }

between_by : (b : Bool) (x y n : ℕ) (i : Item) → (b ≡ true → x ≤ y) → cond b (Some (record { low = x; high = y; step = n })) None ≡ Some i → Between (Some x) (Some y) (Some n) i
between_by true x y n i le e = record { low = x; high = y; step = n; is_low = refl; is_high = refl; is_step = refl; ordered = le refl; is = cc }
between_by false x y n i le e = absurd (cc)

between : (a b s : Option ℕ) (i : Item) → item_between a b s ≡ Some i → Between a b s i
between None b s i e = absurd (cc)
between (Some x) None s i e = absurd (cc)
between (Some x) (Some y) None i e = absurd (cc)
between (Some x) (Some y) (Some n) i e = between_by (nat_le x y) x y n i (λ t. grind (arith, nat_tests)) e

made : (f : Field) (text written : List ℕ) (i shown : Item) → text ≡ written → i ≡ shown → IsItemText f written shown → IsItemText f text i
made f text written i shown e h w =
    let P : List ℕ → Type 0 = λ t. IsItemText f t i in
    let Q : Item → Type 0 = λ j. IsItemText f written j in
    subst P (sym e) (subst Q (sym h) w)

abbrev item : ℕ → ℕ → ℕ → Item
item a b n = record { low = a; high = b; step = n }

some_same : (a b : ℕ) → Some a ≡ Some b → b ≡ a
some_same a b e = cc

-- the numbers that were read are those
known : (x y n : ℕ) (a b s : Option ℕ) (i : Item) → (w : Between a b s i) → a ≡ Some x → b ≡ Some y → s ≡ Some n → i ≡ item x y n
known x y n a b s i w e h k =
    let l = some_same w.low x (sym w.is_low ∙ e) in
    let m = some_same w.high y (sym w.is_high ∙ h) in
    let o = some_same w.step n (sym w.is_step ∙ k) in
    w.is ∙ (λ j. item (sym l j) (sym m j) (sym o j))

from_star : (f : Field) (text : List ℕ) (i : Item) (step : Option (List ℕ)) → IsCut 47 text (42 ∷ []) step → item_between (Some (least_of f)) (Some (greatest_of f)) (step_of step) ≡ Some i → IsItemText f text i
from_star f text i None cut e =
    let w = between (Some (least_of f)) (Some (greatest_of f)) (Some 1) i e in
    made f text _ i _ cut (known (least_of f) (greatest_of f) 1 _ _ _ i w refl refl refl) every
from_star f text i (Some t) cut e =
    let w = between (Some (least_of f)) (Some (greatest_of f)) (step_of (Some t)) i e in
    made f text _ i _ cut (known (least_of f) (greatest_of f) w.step _ _ _ i w refl refl w.is_step) (every_nth t w.step (step_written t w.step w.is_step))

from_range : (f : Field) (text base first : List ℕ) (last step : Option (List ℕ)) (i : Item) → IsCut 47 text base step → IsCut 45 base first last → range_of f first last step ≡ Some i → IsItemText f text i
from_range f text base first None None i cut part e =
    let w = between (number_of f first) (number_of f first) (Some 1) i e in
    made f text first i _ (cut ∙ part) (known w.low w.low 1 _ _ _ i w w.is_low w.is_low refl) (one first w.low (number_written f first w.low w.is_low))
from_range f text base first None (Some t) i cut part e = absurd (cc)
from_range f text base first (Some last) None i cut part e =
    let w = between (number_of f first) (number_of f last) (Some 1) i e in
    made f text _ i _ (cut ∙ part) (known w.low w.high 1 _ _ _ i w w.is_low w.is_high refl) (span first last w.low w.high (number_written f first w.low w.is_low) (number_written f last w.high w.is_high) w.ordered)
from_range f text base first (Some last) (Some t) i cut part e =
    let w = between (number_of f first) (number_of f last) (step_of (Some t)) i e in
    made f text _ i _ (cut ∙ ap (λ l. l ++ 47 ∷ t) part) (known w.low w.high w.step _ _ _ i w w.is_low w.is_high w.is_step)
    (span_nth first last t w.low w.high w.step (number_written f first w.low w.is_low) (number_written f last w.high w.is_high) w.ordered (step_written t w.step w.is_step))

from_stepped : (b : Bool) (f : Field) (text base : List ℕ) (step : Option (List ℕ)) (i : Item) → (b ≡ true → base ≡ 42 ∷ []) → IsCut 47 text base step
    → cond b (item_between (Some (least_of f)) (Some (greatest_of f)) (step_of step)) (range_of f (before_first (λ b. b == 45) base) (after 45 base) step) ≡ Some i → IsItemText f text i
from_stepped true f text base step i star cut e =
    let P : List ℕ → Type 0 = λ l. IsCut 47 text l step in from_star f text i step (subst P (star refl) cut) e
from_stepped false f text base step i star cut e = from_range f text base (before_first (λ b. b == 45) base) (after 45 base) step i cut (is_cut 45 base) e

-- what is read as an item is written so
pub read_is_written : (f : Field) (text : List ℕ) (i : Item) → item_of f text ≡ Some i → IsItemText f text i
read_is_written f text i e =
    let base = before_first (λ b. b == 47) text in
    from_stepped (bytes_eq base (42 ∷ [])) f text base (after 47 text) i ((bytes_eq-Decides base (42 ∷ [])).0) (is_cut 47 text) e
