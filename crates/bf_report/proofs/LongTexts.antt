-- Texts in which a long word that comes again is held once, with more behind them.
use Rattle.std.proofs.Common.{◌≡◌, ◌≤◌, ◌<◌, ◌+◌, ◌-◌, ◌^◌, ℕ, List, [], ◌∷◌, ◌++◌, length, take, drop, get_or, sym, ap, ◌∙◌, append_assoc, append-nil, arith, length-append, length-drop, length-take, take_all, length-set, get_or-set_same, slice_get, set, Some, All, OnOk, OnErr, Ok, Err, Result}
use Rattle.std.proofs.lemmas.List.{drop-append-le, take-append-le, drop_all, drop_more}
use Rattle.std.proofs.lemmas.List.Elements.{All-get_or}
use Rattle.std.proofs.lemmas.Option.{slice_get-get_or, slice_get_within, get_or_from_slice_get}
use Rattle.std.proofs.Math.Seq.{drop-append_seam}
use Rattle.bf_value.specs.Json.{json_of}
use Rattle.bf_report.specs.declared.long_text.Again.{Again}
use Rattle.bf_report.specs.declared.long_text.Shown.{Shown}
use Rattle.bf_report.specs.inner.LongTexts.{HasGrownBy}
use Rattle.bf_report.specs.LongTexts.{stretch, text_from, AreWithin, IsShownIn, IsLongText}

pub ends_within : (place bytes : ℕ) (again : List Again) → AreWithin place bytes again → place ≤ bytes
ends_within place bytes [] h = h
ends_within place bytes (next ∷ again) (begins, rises, inside, rest) = omega (arith, begins, ends_within next.at bytes again rest)

within_more : (place bytes more : ℕ) (again : List Again) → bytes ≤ more → AreWithin place bytes again → AreWithin place more again
within_more place bytes more [] le h = omega (arith, le, h)
within_more place bytes more (next ∷ again) le (begins, rises, inside, rest) = (begins, rises, omega (arith, le, inside), within_more next.at bytes more again le rest)

within_again : (place bytes : ℕ) (again : List Again) (next : Again) → next.from ≤ next.to → next.to ≤ bytes → next.at ≡ bytes → AreWithin place bytes again → AreWithin place bytes (again ++ next ∷ [])
within_again place bytes [] next rises inside here h = (omega (arith, here, h), rises, inside, omega (arith, here))
within_again place bytes (a ∷ again) next rises inside here (begins, risen, within, rest) = (begins, risen, within, within_again a.at bytes again next rises inside here rest)

pub stretch_length : (held : List ℕ) (from to : ℕ) → from ≤ to → to ≤ length held → length (stretch held from to) ≡ to - from
stretch_length held from to rises inside = omega (arith, length-take (to - from) (drop from held), length-drop from held)

stretch_more : (held more : List ℕ) (from to : ℕ) → from ≤ to → to ≤ length held → stretch (held ++ more) from to ≡ stretch held from to
stretch_more held more from to rises inside =
    ap (λ bytes. take (to - from) bytes) (drop-append-le from held more (omega (arith, rises, inside)))
    ∙ take-append-le (to - from) (drop from held) more (omega (arith, length-drop from held))

text_more : (held more : List ℕ) (place : ℕ) (again : List Again) → AreWithin place (length held) again → text_from (held ++ more) place again ≡ text_from held place again ++ more
text_more held more place [] h = drop-append-le place held more h
text_more held more place (next ∷ again) (begins, rises, inside, rest) =
    let first = stretch held place next.at in
    let word = stretch held next.from next.to in
    let last = text_from held next.at again in
    ap (λ bytes. bytes ++ (stretch (held ++ more) next.from next.to ++ text_from (held ++ more) next.at again)) (stretch_more held more place next.at begins (ends_within next.at (length held) again rest))
    ∙ ap (λ bytes. first ++ (bytes ++ text_from (held ++ more) next.at again)) (stretch_more held more next.from next.to rises inside)
    ∙ ap (λ bytes. first ++ (word ++ bytes)) (text_more held more next.at again rest)
    ∙ ap (λ bytes. first ++ bytes) (sym (append_assoc word last more))
    ∙ sym (append_assoc first (word ++ last) more)

text_again : (held : List ℕ) (place : ℕ) (again : List Again) (next : Again) → next.at ≡ length held → AreWithin place (length held) again → text_from held place (again ++ next ∷ []) ≡ text_from held place again ++ stretch held next.from next.to
text_again held place [] next here h =
    let word = stretch held next.from next.to in
    ap (λ bytes. bytes ++ (word ++ drop next.at held)) (take_all (next.at - place) (drop place held) (omega (arith, length-drop place held)))
    ∙ ap (λ bytes. drop place held ++ (word ++ bytes)) (drop_all next.at held (omega (arith, here)))
    ∙ ap (λ bytes. drop place held ++ bytes) (append-nil word)
text_again held place (a ∷ again) next here (begins, rises, inside, rest) =
    let first = stretch held place a.at in
    let word = stretch held a.from a.to in
    let last = text_from held a.at again in
    let more = stretch held next.from next.to in
    ap (λ bytes. first ++ (word ++ bytes)) (text_again held a.at again next here rest)
    ∙ ap (λ bytes. first ++ bytes) (sym (append_assoc word last more))
    ∙ sym (append_assoc first (word ++ last) more)

shown_more : (held more : List ℕ) (shown : Shown) → IsShownIn held shown → IsShownIn (held ++ more) shown
shown_more held more shown h = record {
  rises = h.rises;
  within = omega (arith, h.within, length-append held more);
  is_word = stretch_more held more shown.from shown.to h.rises h.within ∙ h.is_word;
}

pub all_shown_more : (held more : List ℕ) (shown : List Shown) → All (IsShownIn held) shown → All (IsShownIn (held ++ more)) shown
all_shown_more held more shown h k d inside = shown_more held more _ (h k d inside)

pub pushed : (held more : List ℕ) (again : List Again) (shown : List Shown) (bytes : ℕ) → bytes + length more < 2 ^ 64 → IsLongText held again shown bytes → IsLongText (held ++ more) again shown (bytes + length more)
pushed held more again shown bytes fits h = record {
  within = within_more 0 (length held) (length (held ++ more)) again (omega (arith, length-append held more)) h.within;
  are_shown = all_shown_more held more shown h.are_shown;
  counted = omega (arith, h.counted, length-append (text_from held 0 again) more, ap length (text_more held more 0 again h.within));
  fits = fits;
}

pub text_pushed : (held more : List ℕ) (again : List Again) (shown : List Shown) (bytes : ℕ) → IsLongText held again shown bytes → text_from (held ++ more) 0 again ≡ text_from held 0 again ++ more
text_pushed held more again shown bytes h = text_more held more 0 again h.within

pub repeated : (held : List ℕ) (again : List Again) (next : Again) (shown : List Shown) (bytes : ℕ) → next.at ≡ length held → next.from ≤ next.to → next.to ≤ length held → bytes + (next.to - next.from) < 2 ^ 64 → IsLongText held again shown bytes → IsLongText held (again ++ next ∷ []) shown (bytes + (next.to - next.from))
repeated held again next shown bytes here rises inside fits h = record {
  within = within_again 0 (length held) again next rises inside here h.within;
  are_shown = h.are_shown;
  counted = omega (arith, h.counted, stretch_length held next.from next.to rises inside, length-append (text_from held 0 again) (stretch held next.from next.to), ap length (text_again held 0 again next here h.within));
  fits = fits;
}

pub text_repeated : (held : List ℕ) (again : List Again) (next : Again) (shown : List Shown) (bytes : ℕ) → next.at ≡ length held → IsLongText held again shown bytes → text_from held 0 (again ++ next ∷ []) ≡ text_from held 0 again ++ stretch held next.from next.to
text_repeated held again next shown bytes here h = text_again held 0 again next here h.within

-- a word that was just added is held behind all others
pub held_last : (held word new : List ℕ) (shown : Shown) → new ≡ held ++ word → word ≡ json_of shown.value.now → shown.from ≡ length held → shown.to ≡ length new → IsShownIn new shown
held_last held word new shown is says begins ends =
    let more : length new ≡ length held + length word = ap length is ∙ length-append held word in record {
      rises = omega (arith, begins, ends, more);
      within = omega (arith, ends);
      is_word = ap (λ bytes. take (shown.to - shown.from) bytes) (ap (λ n. drop n new) begins ∙ ap (λ bytes. drop (length held) bytes) is ∙ drop-append_seam held word)
          ∙ take_all (shown.to - shown.from) word (omega (arith, begins, ends, more))
          ∙ says;
    }

pub held_with : (held new more : List ℕ) (again : List Again) (shown : List Shown) (bytes after : ℕ) → new ≡ held ++ more → HasGrownBy (length more) bytes after → IsLongText held again shown bytes → IsLongText new again shown after
held_with held new more again shown bytes after is counted h = rw is (rw counted.0 (pushed held more again shown bytes (omega (arith, counted.0, counted.1)) h))

pub text_with : (text held word says new : List ℕ) (again : List Again) (shown : List Shown) (bytes : ℕ) → text_from held 0 again ≡ text → new ≡ held ++ word → word ≡ says → IsLongText held again shown bytes → text_from new 0 again ≡ text ++ says
text_with text held word says new again shown bytes view is same h = rw is (rw (sym view) (rw (sym same) (text_pushed held word again shown bytes h)))

pub on_ok : {X Y P : Type 0} (result : Result X Y) → P → OnOk result P
on_ok (Ok done) h = h
on_ok (Err fault) h = tt

-- what the functions leave, whether they answer Ok or Err
pub grown : {X Y : Type 0} (result : Result X Y) (held new more : List ℕ) (again : List Again) (shown : List Shown) (bytes after : ℕ) → OnOk result (new ≡ held ++ more) → OnOk result (HasGrownBy (length more) bytes after) → OnErr result ((new ≡ held) × (after ≡ bytes)) → IsLongText held again shown bytes → IsLongText new again shown after
grown (Ok done) held new more again shown bytes after is counted same h = held_with held new more again shown bytes after is counted h
grown (Err fault) held new more again shown bytes after is counted same h = rw same.0 (rw same.1 h)

pub text_grown : {X Y : Type 0} (result : Result X Y) (text held new more : List ℕ) (again : List Again) (shown : List Shown) (bytes : ℕ) → text_from held 0 again ≡ text → OnOk result (new ≡ held ++ more) → IsLongText held again shown bytes → OnOk result (text_from new 0 again ≡ text ++ more)
text_grown (Ok done) text held new more again shown bytes view is h = rw is (rw (sym view) (text_pushed held more again shown bytes h))
text_grown (Err fault) text held new more again shown bytes view is h = tt

pub grown_again : {X Y : Type 0} (result : Result X Y) (held : List ℕ) (again new : List Again) (next : Again) (shown : List Shown) (bytes after : ℕ) → next.at ≡ length held → next.from ≤ next.to → next.to ≤ length held → OnOk result (new ≡ again ++ next ∷ []) → OnOk result (HasGrownBy (next.to - next.from) bytes after) → OnErr result ((new ≡ again) × (after ≡ bytes)) → IsLongText held again shown bytes → IsLongText held new shown after
grown_again (Ok done) held again new next shown bytes after here rises inside is counted same h = rw is (rw counted.0 (repeated held again next shown bytes here rises inside (omega (arith, counted.0, counted.1)) h))
grown_again (Err fault) held again new next shown bytes after here rises inside is counted same h = rw same.0 (rw same.1 h)

pub text_grown_again : {X Y : Type 0} (result : Result X Y) (text word held : List ℕ) (again new : List Again) (next : Again) (shown : List Shown) (bytes : ℕ) → text_from held 0 again ≡ text → stretch held next.from next.to ≡ word → next.at ≡ length held → OnOk result (new ≡ again ++ next ∷ []) → IsLongText held again shown bytes → OnOk result (text_from held 0 new ≡ text ++ word)
text_grown_again (Ok done) text word held again new next shown bytes view says here is h = rw is (rw (sym view) (rw (sym says) (text_repeated held again next shown bytes here h)))
text_grown_again (Err fault) text word held again new next shown bytes view says here is h = tt

-- what comes again first
pub first_within : (held : List ℕ) (items : List Again) (i place : ℕ) (d : Again) → i < length items → AreWithin place (length held) (drop i items) → AreWithin place (length held) (get_or items i d ∷ drop (i + 1) items)
first_within held items i place d inside h = rw (drop_more items i d inside) at h

-- the text, by what is read of it
pub read_as : (text held bytes : List ℕ) (again items : List Again) → text_from held 0 again ≡ text → bytes ≡ held → items ≡ again → text_from bytes 0 items ≡ text
read_as text held bytes again items view held_is again_is = rw held_is (rw again_is view)

-- what was noted under a number is held
pub is_held : (held : List ℕ) (shown : List Shown) (number : ℕ) (it : Shown) → slice_get shown number ≡ Some it → All (IsShownIn held) shown → IsShownIn held it
is_held held shown number it is all =
    rw (get_or_from_slice_get shown number it it is) at (All-get_or (IsShownIn held) shown number it (slice_get_within shown number it is) all)

pub set_there : {X : Type 0} (xs : List X) (i : ℕ) (x : X) → i < length xs → slice_get (set xs i x) i ≡ Some x
set_there xs i x inside =
    slice_get-get_or (set xs i x) i x (omega (arith, inside, length-set xs i x)) ∙ ap Some (get_or-set_same xs i x x inside)
