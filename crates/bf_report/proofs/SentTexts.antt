-- A text that goes out a stretch at a time.
use Rattle.std.proofs.Common.{◌≡◌, ◌≤◌, ◌<◌, ◌+◌, ◌-◌, ℕ, List, [], ◌∷◌, ◌++◌, length, take, drop, get_or, Option, Some, None, Result, Ok, Err, OnOk, IfErr, IsErrAnd, refl, sym, ap, ◌∙◌, append_assoc, append-nil, arith, length-append, inl, inr}
use Rattle.std.proofs.Math.Seq.{take-append-add}
use Rattle.std.proofs.lemmas.List.{take-append-le, drop_all, drop_more, take_rest}
use Rattle.bf_report.specs.declared.long_text.Again.{Again}
use Rattle.bf_device.specs.Device.{sent, HasCounted, HasGoneOn, HasHalted, HasHaltedBehind}
use Rattle.bf_report.specs.LongTexts.{text_from}
use Rattle.bf_report.specs.inner.LongTexts.{HasSentPart}

-- so much of a text went out, and the rest is to come
pub record IsSent (text rest : List ℕ) (count : ℕ) (told now : Option (List ℕ)) : Type 0 where
  pub done : List ℕ
  pub whole : text ≡ done ++ rest
  pub many : count ≡ length done
  pub out : now ≡ sent told done

sent_more : (told : Option (List ℕ)) (done more : List ℕ) → sent (sent told done) more ≡ sent told (done ++ more)
sent_more None done more = refl
sent_more (Some before) done more = ap Some (append_assoc before done more)

pub stretch_sent : (text bytes rest : List ℕ) (count after : ℕ) (told now new : Option (List ℕ)) → IsSent text (bytes ++ rest) count told now → after ≡ count + length bytes → new ≡ sent now bytes → IsSent text rest after told new
stretch_sent text bytes rest count after told now new h counted out = record {
  done = h.done ++ bytes;
  whole = h.whole ∙ sym (append_assoc h.done bytes rest);
  many = omega (arith, counted, h.many, length-append h.done bytes);
  out = out ∙ ap (λ o. sent o bytes) h.out ∙ sent_more told h.done bytes;
}

-- what is next to go out
pub sent_first : (text held : List ℕ) (items : List Again) (i place : ℕ) (d : Again) (count : ℕ) (told now : Option (List ℕ)) → i < length items → IsSent text (text_from held place (drop i items)) count told now → IsSent text (text_from held place (get_or items i d ∷ drop (i + 1) items)) count told now
sent_first text held items i place d count told now inside h = rw (drop_more items i d inside) at h

pub sent_last : (text held : List ℕ) (items : List Again) (i place count : ℕ) (told now : Option (List ℕ)) → length items ≤ i → IsSent text (text_from held place (drop i items)) count told now → IsSent text (take (length held - place) (drop place held) ++ []) count told now
sent_last text held items i place count told now ends h =
    let none : text_from held place (drop i items) ≡ drop place held = ap (λ rest. text_from held place rest) (drop_all i items ends) in
    let all : drop place held ≡ take (length held - place) (drop place held) ++ [] = sym (append-nil (take (length held - place) (drop place held)) ∙ take_rest held place) in
    rw (none ∙ all) at h

-- what went out where a device took no more
part_sent : (text bytes rest : List ℕ) (count after : ℕ) (told now new : Option (List ℕ)) → IsSent text (bytes ++ rest) count told now → HasSentPart count after bytes now new → (after ≤ length text) × (new ≡ sent told (take after text))
part_sent text bytes rest count after told now new h (begins, ends, out) =
    let k = after - count in
    let first : take after text ≡ h.done ++ take k bytes =
    ap (λ n. take n text) (omega (arith, begins, h.many)) ∙ ap (λ t. take (length h.done + k) t) h.whole
    ∙ take-append-add h.done (bytes ++ rest) k
    ∙ ap (λ t. h.done ++ t) (take-append-le k bytes rest (omega (arith, ends))) in (
      omega (arith, begins, ends, h.many, ap length h.whole, length-append h.done (bytes ++ rest), length-append bytes rest),
      out ∙ ap (λ o. sent o (take k bytes)) h.out ∙ sent_more told h.done (take k bytes) ∙ ap (λ t. sent told t) (sym first),
    )

pub part_of : (text whole bytes rest : List ℕ) (count after : ℕ) (told now new : Option (List ℕ)) → text ≡ whole → IsSent text (bytes ++ rest) count told now → HasSentPart count after bytes now new → (after ≤ length whole) × (new ≡ sent told (take after whole))
part_of text whole bytes rest count after told now new same h part = rw same at (part_sent text bytes rest count after told now new h part)

-- what a device counted so far, and over one stretch more
pub counted_more : (n m f0 f1 f2 i0 i1 i2 : ℕ) → HasCounted 0 n f0 f1 i0 i1 → HasCounted n m f1 f2 i1 i2 → HasCounted 0 m f0 f2 i0 i2
counted_more n m f0 f1 f2 i0 i1 i2 a b = record {
  rises = omega arith;
  few = b.few;
  unfailed = omega (arith, a.unfailed, b.unfailed);
  interrupted_so = omega (arith, a.interrupted_so, b.interrupted_so, b.rises);
}

pub gone_on : (n f0 f1 i0 i1 : ℕ) → HasCounted 0 n f0 f1 i0 i1 → HasGoneOn f0 f1 i0 i1
gone_on n f0 f1 i0 i1 h = (h.unfailed, (n, h.few, omega (arith, h.interrupted_so)))

pub halted : (n f0 f1 f2 i0 i1 i2 : ℕ) → HasCounted 0 n f0 f1 i0 i1 → HasHaltedBehind n f1 f2 i1 i2 → HasHalted f0 f2 i0 i2
halted n f0 f1 f2 i0 i1 i2 a (inl failed) = inl (omega (arith, a.unfailed, failed))
halted n f0 f1 f2 i0 i1 i2 a (inr interrupted) = inr (omega (arith, a.interrupted_so, a.few, interrupted))

-- what is known of an answer
pub handed_on : {X F : Type 0} (P : F → Type 0) (result : Result X F) (fault : F) → IsErrAnd result (λ f. f ≡ fault) → P fault → IfErr result P
handed_on P (Ok done) fault is h = tt
handed_on P (Err f) fault is h = rw is h

pub if_err : {X F : Type 0} (P Q : F → Type 0) (result : Result X F) → ((fault : F) → P fault → Q fault) → IfErr result P → IfErr result Q
if_err P Q (Ok done) f h = tt
if_err P Q (Err fault) f h = f fault h

pub if_ok : {X F P Q : Type 0} (result : Result X F) → (P → Q) → OnOk result P → OnOk result Q
if_ok (Ok done) f h = f h
if_ok (Err fault) f h = tt
